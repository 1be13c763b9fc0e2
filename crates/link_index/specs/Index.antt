-- Where the things of a plan are found by their symbols.
use Rattle.std.specs.Prelude.{◌≡◌, ℕ, ◌+◌, Bool, ◌==◌, List, [], ◌∷◌, ◌++◌, position, take}
use Rattle.std.specs.List.{position_or_len}
use Rattle.indexmap.specs.IndexMap.{IndexMap, get}
use Rattle.link_core.specs.declared.plan.GotSlot.{GotSlot}
use Rattle.link_core.specs.declared.plan.Plan.{Plan}
use Rattle.link_core.specs.Plan.{same_slot}
use Rattle.link_tables.specs.Fills.{slot_words, words_in}

module _ {K S : Type 0} (same : K → K → Bool) where
  -- the map gives for each item its first place in the list, and for no other one
  abbrev pub ArePlaces : List K → IndexMap K ℕ S → Type 0
  ArePlaces items map = (k : K) → get same map k ≡ position (same k) items

-- how many words stand before each slot and at the end, where so many stand before the first
abbrev pub starts_from : ℕ → List GotSlot → List ℕ
starts_from at [] = at ∷ []
starts_from at (g ∷ gs) = at ∷ starts_from (at + slot_words g.slot) gs

-- the place of an item, or the number of items
unfoldable pub slot_place : Plan → GotSlot → ℕ
slot_place p slot = position_or_len (same_slot slot) p.got

-- how many words stand before a slot in .got
unfoldable pub word_place : Plan → GotSlot → ℕ
word_place p slot = words_in (take (slot_place p slot) p.got)

-- the entry of a name in .plt
unfoldable pub entry_place : Plan → ℕ → ℕ
entry_place p n = position_or_len (λ m. m == n) p.plt

-- the names of the rows of .dynsym after the first, by their positions
abbrev pub rows_of : Plan → List ℕ
rows_of p = p.imports ++ p.exports

-- what an index of a plan keeps
pub record IsIndexOf {S : Type 0} (p : Plan) (slots : IndexMap GotSlot ℕ S) (starts : List ℕ) (entries rows : IndexMap ℕ ℕ S) : Type 0 where
  pub slot_places : ArePlaces same_slot p.got slots
  pub starts_stand : starts ≡ starts_from 0 p.got
  pub entry_places : ArePlaces (λ n m. m == n) p.plt entries
  pub row_places : ArePlaces (λ n m. m == n) (rows_of p) rows
