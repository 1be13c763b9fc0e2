use Rattle.std.proofs.Common.{◌≡◌, drop, is_some}
use Rattle.std.specs.List.{list_any}
use Rattle.link_binding.proofs.library.is_defined_by_one.Given as goal

abbrev pub invariant-loop-held : goal.invariant-loop-held
invariant-loop-held g l =
    list_any (λ held. is_some ((g.S.SharedLib.facts held.lib.now).fact_of l.name)) (drop l.held-index l.libs)
    ≡ list_any (λ held. is_some ((g.S.SharedLib.facts held.lib.now).fact_of l.name)) l.libs
