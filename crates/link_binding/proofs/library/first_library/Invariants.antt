use Rattle.std.proofs.Common.{◌≡◌, drop}
use Rattle.link_core.specs.Binding.{taken_from}
use Rattle.link_binding.specs.Libraries.{seen}
use Rattle.link_binding.proofs.Libraries.{first_from}
use Rattle.link_binding.proofs.library.first_library.Given as goal

abbrev pub invariant-loop-i : goal.invariant-loop-i
invariant-loop-i g l =
    first_from (seen g.S.SharedLib.facts) (taken_from l.name) l.i (drop l.i l.libs) ≡ first_from (seen g.S.SharedLib.facts) (taken_from l.name) 0 l.libs
