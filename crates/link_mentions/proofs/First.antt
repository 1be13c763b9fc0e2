-- A loop that looks for the first of a list that passes a test.
use Rattle.std.proofs.Common.{◌≡◌, ℕ, ◌+◌, ◌<◌, ◌≤◌, Bool, true, false, filter, option_map, cond, List, [], ◌∷◌, length, get_or, drop, Option, Some, None, refl, sym, ap, ◌∙◌}
use Rattle.std.specs.List.{find}
use Rattle.std.proofs.lemmas.List.{at_drop_more, drop_all}
use Rattle.link_core.specs.Mentions.{Mention}
use Rattle.link_mentions.specs.Twice.{objects_of_two}

pub find_more : {X : Type 0} (p : X → Bool) (xs : List X) (i : ℕ) (x : X) → i < length xs → x ≡ get_or xs i x → find p (drop i xs) ≡ cond (p x) (Some x) (find p (drop (i + 1) xs))
find_more p xs i x h e =
    at_drop_more (find p) xs i x h ∙ ap (λ y. cond (p y) (Some y) (find p (drop (i + 1) xs))) (sym e)

pub find_end : {X : Type 0} (p : X → Bool) (xs : List X) (i : ℕ) → length xs ≤ i → find p (drop i xs) ≡ None
find_end p xs i h = ap (find p) (drop_all i xs h)

-- the objects of a mention and of the first that passes a test
pub two_by_find : (p : Mention → Bool) (one : Mention) (others : List Mention) → objects_of_two (one ∷ filter p others) ≡ option_map (λ other. (one.object, other.object)) (find p others)
two_by_find p one [] = refl
two_by_find p one (m ∷ others) = by (p m) (two_by_find p one others)
  where
    by : (t : Bool) → objects_of_two (one ∷ filter p others) ≡ option_map (λ other. (one.object, other.object)) (find p others) → objects_of_two (one ∷ cond t (m ∷ filter p others) (filter p others)) ≡ option_map (λ other. (one.object, other.object)) (cond t (Some m) (find p others))
    by true rest = refl
    by false rest = rest
