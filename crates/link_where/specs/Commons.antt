-- Where the common symbols of a layout stand, by its list of them.
use Rattle.std.specs.Option.{option_map_or}
use Rattle.std.specs.Prelude.{List, find, nat_eq, ℕ, ◌==◌, ◌≡◌}
use Rattle.indexmap.specs.IndexMap.{IndexMap, get}
use Rattle.link_core.specs.declared.layout.CommonAt.{CommonAt}

-- `address_in l.commons` is `common_address l` of the layout
abbrev pub address_in : List CommonAt → ℕ → ℕ
address_in commons n = option_map_or (λ c. c.address) (find (λ c. c.name == n) commons) 0

-- the map gives for each name the first common symbol of it
abbrev pub AreFound : {S : Type 0} → List CommonAt → IndexMap ℕ CommonAt S → Type 0
AreFound commons found = (n : ℕ) → get nat_eq found n ≡ find (λ c. c.name == n) commons
