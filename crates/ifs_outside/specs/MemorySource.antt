-- What a source in memory is seen as.
use Rattle.std.specs.Prelude.{ℕ, List}
use Rattle.ifs_outside.specs.Schedule.{Calls}

-- the bytes that are left, the calls, and the count of faults
pub record SourceState : Type 0 where
  pub left : List ℕ
  pub calls : Calls
  pub faults : ℕ
