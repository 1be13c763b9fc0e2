use Rattle.memchr.specs.Find.{is_byte}
use Rattle.ifs_bytes.proofs.FirstByte.{position_is_first}
use Rattle.ifs_bytes.proofs.name.nul_at.Goals as goal

pub returns : goal.returns
returns c = position_is_first (is_byte 0) c.args.bytes.now c.memchr.result c.memchr.ensures
