-- What a sink in memory is seen as.
use Rattle.std.specs.Prelude.{ℕ, List}
use Rattle.ifs_outside.specs.Schedule.{Calls}

-- the bytes that were written, the calls, and the count of faults
pub record SinkState : Type 0 where
  pub written : List ℕ
  pub calls : Calls
  pub faults : ℕ
