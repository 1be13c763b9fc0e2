-- Where the pieces of a layout stand, by its list of pieces.
use Rattle.std.specs.Option.{option_map_or}
use Rattle.std.specs.Prelude.{Bool, List, find, ℕ, ◌&&◌, ◌==◌, ◌≡◌}
use Rattle.indexmap.specs.IndexMap.{IndexMap, get}
use Rattle.link_core.specs.declared.layout.PieceAt.{PieceAt}

abbrev pub is_of : ℕ → ℕ → PieceAt → Bool
is_of object section p = p.object == object && p.section == section

-- `address_in l.pieces` is `section_address l` of the layout, and `position_in l.pieces` is `section_position l`
abbrev pub address_in : List PieceAt → ℕ → ℕ → ℕ
address_in pieces object section = option_map_or (λ p. p.address) (find (is_of object section) pieces) 0

abbrev pub position_in : List PieceAt → ℕ → ℕ → ℕ
position_in pieces object section = option_map_or (λ p. p.out) (find (is_of object section) pieces) 0

abbrev pub same_pair : ℕ × ℕ → ℕ × ℕ → Bool
same_pair a b = a.0 == b.0 && a.1 == b.1

-- the map gives for each section its first piece
abbrev pub AreFound : {S : Type 0} → List PieceAt → IndexMap (ℕ × ℕ) PieceAt S → Type 0
AreFound pieces found =
    (object section : ℕ) → get same_pair found (object, section) ≡ find (is_of object section) pieces
