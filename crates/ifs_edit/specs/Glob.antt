-- Which names match a pattern, an element at a time.
use Rattle.std.specs.Prelude.{ℕ, Bool, true, false, not, ◌&&◌, ◌||◌, ◌==◌, nat_le, List, [], ◌∷◌, if◌then◌else◌}
use Rattle.std.specs.List.{list_any}
use Rattle.ifs_edit.specs.declared.element.Span.{Span}
use Rattle.ifs_edit.specs.declared.element.Element.{Element}
use Rattle.ifs_edit.specs.declared.element.Element.TheVariants.{Any, One, Byte, In, NotIn}

abbrev pub is_in : List Span → ℕ → Bool
is_in spans b = list_any (λ span. nat_le span.first b && nat_le b span.last) spans

abbrev pub is_any : Element → Bool
is_any Any = true
is_any One = false
is_any (Byte c) = false
is_any (In spans) = false
is_any (NotIn spans) = false

-- an element that stands for one byte stands for this one
abbrev pub stands_for : Element → ℕ → Bool
stands_for Any b = false
stands_for One b = true
stands_for (Byte c) b = c == b
stands_for (In spans) b = is_in spans b
stands_for (NotIn spans) b = not (is_in spans b)

-- what is left passes once some bytes at the front are taken, or none
abbrev pub some_rest : (List ℕ → Bool) → List ℕ → Bool
some_rest passes [] = passes []
some_rest passes (b ∷ bs) = passes (b ∷ bs) || some_rest passes bs

-- the element stands for the first byte, and what is behind it passes
abbrev pub one_then : Element → (List ℕ → Bool) → List ℕ → Bool
one_then e passes [] = false
one_then e passes (b ∷ bs) = stands_for e b && passes bs

-- `*` takes any bytes, each other element takes one
abbrev pub takes : Element → (List ℕ → Bool) → List ℕ → Bool
takes e passes name = if is_any e then some_rest passes name else one_then e passes name

abbrev pub is_end : List ℕ → Bool
is_end [] = true
is_end (b ∷ bs) = false

-- the elements take the name one by one, and nothing is left
abbrev pub matches : List Element → List ℕ → Bool
matches [] name = is_end name
matches (e ∷ es) name = takes e (matches es) name
