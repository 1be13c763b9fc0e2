-- The objects of two mentions.
use Rattle.std.specs.Prelude.{ℕ, List, [], ◌∷◌, Option, Some, None}
use Rattle.link_core.specs.Mentions.{Mention}

-- the objects of the first two, where there are two
abbrev pub objects_of_two : List Mention → Option (ℕ × ℕ)
objects_of_two [] = None
objects_of_two (one ∷ []) = None
objects_of_two (one ∷ other ∷ others) = Some (one.object, other.object)
