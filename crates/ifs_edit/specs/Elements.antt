-- A pattern as a list of its elements, or the offset of the first that is broken: the same as Pattern.antt, as
-- a reading for the code alone.
use Rattle.std.specs.Prelude.{ℕ, zero, suc, ◌+◌, not, ◌&&◌, ◌==◌, nat_le, List, [], ◌∷◌, Option, Some, None, option_map, Result, Ok, Err, if◌then◌else◌}
use Rattle.std.specs.Str.{byte}
use Rattle.ifs_edit.specs.Pattern.{closes, negates}
use Rattle.ifs_edit.specs.declared.element.Span.{Span}
use Rattle.ifs_edit.specs.declared.element.Element.{Element}
use Rattle.ifs_edit.specs.declared.element.Element.TheVariants.{Any, One, Byte, In, NotIn}

-- what is read, and how many bytes it has: a set all of them, an item and an element those behind its first
abbrev pub Set : Type 0
Set = List Span × ℕ

abbrev pub Item : Type 0
Item = Span × ℕ

abbrev pub Front : Type 0
Front = Element × ℕ

-- ---- a set, behind its `[` and the `!` or `^`

abbrev pub single : ℕ → Item
single b = (record { first = b; last = b }, 0)

-- a range has two bytes behind its first, and doesn't fall
abbrev pub range : ℕ → ℕ → Option Item
range first last = if nat_le first last then Some (record { first = first; last = last }, 2) else None

-- the item that begins with a byte, before others: with `-` and a byte other than `]` behind it it is a range
abbrev pub item_at : ℕ → List ℕ → Option Item
item_at b [] = Some (single b)
item_at b (d ∷ []) = Some (single b)
item_at b (d ∷ c ∷ rest) =
    if d == byte "-" && not (closes c) then range b c else Some (single b)

abbrev pub longer : Set → Set
longer set = (set.0, set.1 + 1)

abbrev pub with_span : Span → Set → Set
with_span span set = (span ∷ set.0, set.1 + 1)

-- an item, and what the items behind it make; its further bytes are passed
abbrev pub item_then : Option Item → (ℕ → Option Set) → Option Set
item_then None behind = None
item_then (Some item) behind = option_map (with_span item.0) (behind item.1)

-- the items up to `]`, with the number of bytes that they and it have; the first bytes, so many, are passed
abbrev pub items_from : ℕ → List ℕ → Option Set
items_from passed [] = None
items_from (suc passed) (b ∷ bs) = option_map longer (items_from passed bs)
items_from zero (b ∷ bs) =
    if closes b then Some ([], 1)
    else item_then (item_at b bs) (λ more. items_from more bs)

-- one item at least
abbrev pub set_of : List ℕ → Option Set
set_of [] = None
set_of (b ∷ bs) = if closes b then None else items_from 0 (b ∷ bs)

-- ---- an element

abbrev pub one_byte : Element → Option Front
one_byte element = Some (element, 0)

abbrev pub escaped : List ℕ → Option Front
escaped [] = None
escaped (c ∷ rest) = Some (Byte c, 1)

abbrev pub bracketed : List ℕ → Option Front
bracketed [] = None
bracketed (b ∷ bs) =
    if negates b then option_map (λ set. (NotIn set.0, set.1 + 1)) (set_of bs)
    else option_map (λ set. (In set.0, set.1)) (set_of (b ∷ bs))

-- the element that begins with a byte, before others, and how many of these it has; None where it is broken
abbrev pub element_at : ℕ → List ℕ → Option Front
element_at b bs =
    if b == byte "*" then one_byte Any
    else (if b == byte "?" then one_byte One
    else (if b == 92 then escaped bs
    else (if b == byte "[" then bracketed bs
    else one_byte (Byte b))))

-- ---- the pattern

abbrev pub before_all : Element → Result (List Element) ℕ → Result (List Element) ℕ
before_all e (Ok es) = Ok (e ∷ es)
before_all e (Err at) = Err at

abbrev pub element_then : ℕ → Option Front → (ℕ → Result (List Element) ℕ) → Result (List Element) ℕ
element_then at None behind = Err at
element_then at (Some front) behind = before_all front.0 (behind front.1)

-- the elements from an offset on; the first bytes, so many, are passed
abbrev pub elements_from : ℕ → ℕ → List ℕ → Result (List Element) ℕ
elements_from at passed [] = Ok []
elements_from at (suc passed) (b ∷ bs) = elements_from (at + 1) passed bs
elements_from at zero (b ∷ bs) = element_then at (element_at b bs) (λ more. elements_from (at + 1) more bs)

-- the elements of a pattern, or the offset of the first that is broken
abbrev pub elements_of : List ℕ → Result (List Element) ℕ
elements_of pattern = elements_from 0 0 pattern
