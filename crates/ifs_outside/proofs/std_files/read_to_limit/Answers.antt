use Rattle.ifs_outside.proofs.ToLimit.{within_limit}
use Rattle.ifs_outside.proofs.std_files.read_to_limit.Goals as goal

pub returns-in-Ok-2-clause-tells : goal.returns-in-Ok-2-clause-tells
returns-in-Ok-2-clause-tells g c =
    let read = rw (c.take.ensures.limit, c.take.ensures.inner) at c.in-Ok-2.ensures.bytes in
    within_limit (g.F.Read.remaining c.args.file) c.args.limit c.saturating_add.result c.args.bytes.items c.read_to_end.new.buf c.saturating_add.ensures c.requires read (rw (← c.len.ensures) c.if-len-limit.false)
