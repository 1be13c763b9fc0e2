use Rattle.std.proofs.Common.{◌≡◌, false, drop}
use Rattle.std.specs.List.{list_any}
use Rattle.std.specs.Option.{option_map_or}
use Rattle.ifs_interface.specs.Triple.{same_name}
use Rattle.link_wants.proofs.wants.is_soname.Given as goal

abbrev pub invariant-loop-held : goal.invariant-loop-held
invariant-loop-held g l =
    list_any (λ held. option_map_or (same_name l.name) (g.S.SharedLib.facts held.lib.now).soname false) (drop l.held-index l.libs)
    ≡ list_any (λ held. option_map_or (same_name l.name) (g.S.SharedLib.facts held.lib.now).soname false) l.libs
