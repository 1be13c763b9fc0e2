-- Calls that are to fail, by their numbers; the first call has the number 0.
use Rattle.std.specs.Prelude.{ℕ, List, Bool, ◌==◌}
use Rattle.std.specs.List.{list_any}
use Rattle.ifs_outside.specs.Count.{raised}

-- the number of the next call, and the numbers of the calls that are to fail
pub record Calls : Type 0 where
  pub next : ℕ
  pub failing : List ℕ

-- no call was made yet
abbrev pub no_calls : List ℕ → Calls
no_calls failing = record { next = 0; failing = failing }

-- the next call is to fail
abbrev pub is_to_fail : Calls → Bool
is_to_fail calls = list_any (λ number. number == calls.next) calls.failing

-- the next call was made
abbrev pub after_call : Calls → Calls
after_call calls = record calls { next = raised calls.next }
