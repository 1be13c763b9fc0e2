-- Which output sections there are is told by those with what stands in them.
use Rattle.std.proofs.Common.{◌≡◌, ℕ, List, [], ◌∷◌, map, refl, ap, ◌||◌, Bool}
use Rattle.std.specs.List.{list_any}
use Rattle.ifs_interface.specs.Triple.{same_name}
use Rattle.link_core.specs.Commons.{outputs_by}
use Rattle.link_core.specs.Entries.{has_output}
use Rattle.link_core.specs.OutputNames.{Output}
use Rattle.link_core.specs.Planned.{Planned}
use Rattle.link_tables.specs.Filled.{filled, outputs_filled}

any_filled : (j : Planned) (name : List ℕ) (os : List Output) → list_any (λ o. same_name o.name name) (map (filled j) os) ≡ list_any (λ o. same_name o.name name) os
unfolding filled
any_filled j name [] = refl
any_filled j name (o ∷ os) = ap (λ (b : Bool). same_name o.name name || b) (any_filled j name os)

pub output_is_there : (j : Planned) (name : List ℕ) → list_any (λ o. same_name o.name name) (outputs_filled j) ≡ has_output j name
output_is_there j name = any_filled j name (outputs_by j)
