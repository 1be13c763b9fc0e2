use Rattle.std.proofs.Common.{◌≡◌, ◌++◌, drop, map}
use Rattle.ifs_interface.specs.Wanted.{seen}
use Rattle.link_binding.proofs.Wanting.{left_of}
use Rattle.link_binding.proofs.wanted.push_wanted.Given as goal

abbrev pub invariant-loop-i : goal.invariant-loop-i
invariant-loop-i g l =
    map seen l.wanted.items ++ left_of (drop l.i (g.S.SharedLib.wanted_list l.lib)) ≡ map seen l.initial.wanted.items ++ left_of (g.S.SharedLib.wanted_list l.lib)
