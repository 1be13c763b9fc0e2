use Rattle.std.proofs.Common.{◌%◌, ◌+◌, length, refl, arith}
use Rattle.std.specs.Prelude.{slice_index_or}
use Rattle.link_hash.proofs.Linked.{linked}
use Rattle.link_hash.proofs.chains.put_before.Goals as goal

pub returns : goal.returns
returns c =
    let names = c.args.names.now in
    let bucket = c.hash_of.result % (length names + 1) in
    linked names c.args.i c.hash_of.result bucket (slice_index_or c.args.heads.now bucket 0) _ c.args.heads.now c.args.nexts.now
    c.requires.within c.hash_of.ensures refl (omega arith) refl c.requires.linked
