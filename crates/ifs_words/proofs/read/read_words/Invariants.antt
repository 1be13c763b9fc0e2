use Rattle.std.proofs.Common.{◌≡◌, length, map}
use Rattle.std.specs.Prelude.{string_bytes}
use Rattle.ifs_words.specs.Reading.{nothing, read_from}
use Rattle.ifs_words.proofs.read.read_words.Given as goal

-- what is left goes on from what was read
abbrev pub invariant-loop-rest : goal.invariant-loop-rest
invariant-loop-rest l = read_from l.table (map string_bytes l.rest) l.read ≡ read_from l.table (map string_bytes l.words) nothing

abbrev pub decreases-loop-rest : goal.decreases-loop-rest
decreases-loop-rest l = length l.rest
