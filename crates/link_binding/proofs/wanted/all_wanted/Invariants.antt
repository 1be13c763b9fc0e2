use Rattle.std.proofs.Common.{◌≡◌, ℕ, List, ◌||◌, drop, map}
use Rattle.std.specs.List.{list_any}
use Rattle.link_binding.specs.Libraries.{seen}
use Rattle.link_binding.specs.WantedNames.{has_name, wants}
use Rattle.link_binding.proofs.wanted.all_wanted.Given as goal

abbrev pub invariant-loop-held : goal.invariant-loop-held
invariant-loop-held g l =
    (name : List ℕ) → (has_name name l.wanted.items || list_any (wants name) (map (seen g.S.SharedLib.facts) (drop l.held-index l.libs))) ≡ list_any (wants name) (map (seen g.S.SharedLib.facts) l.libs)
