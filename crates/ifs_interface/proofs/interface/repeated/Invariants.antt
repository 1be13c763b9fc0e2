use Rattle.std.proofs.Common.{◌≡◌, ◌-◌, drop}
use Rattle.ifs_interface.specs.Interface.{names_of, first_repeated}
use Rattle.ifs_interface.proofs.interface.repeated.Given as goal

-- what is left from the last symbol on has the same first repeat
abbrev pub invariant-loop-place : goal.invariant-loop-place
invariant-loop-place l = first_repeated (drop (l.place - 1) (names_of l.symbols)) ≡ first_repeated (names_of l.symbols)
