-- Passes that look for the first name that is refused.
use Rattle.std.proofs.Common.{◌≡◌, ℕ, ◌+◌, ◌<◌, ◌≤◌, ◌==◌, Bool, true, false, not, ◌&&◌, cond, List, [], ◌∷◌, length, get_or, drop, Option, Some, None, is_some, option_map, refl, sym, ap, ◌∙◌}
use Rattle.std.specs.List.{find, filter_map, cons_option, slice_get}
use Rattle.std.specs.Option.{option_and_then}
use Rattle.std.proofs.lemmas.List.{at_drop_more, drop_all}
use Rattle.link_core.specs.declared.constants.TheConstants.{STV_DEFAULT}
use Rattle.link_core.specs.declared.refusal.LinkRefusal.TheVariants as refusals
use Rattle.link_core.specs.Lists.{first_some}
use Rattle.link_core.specs.Mentions.{Mention}
use Rattle.link_core.specs.Resolution.{defined_twice}
use Rattle.link_mentions.specs.Twice.{objects_of_two}
use Rattle.link_names.specs.declared.names.Name.{Name}
use Rattle.link_names.specs.Named.{twice_in, is_twice, hidden_by, is_hidden, undefined_by, is_undefined}

pub find_more : {X : Type 0} (p : X → Bool) (xs : List X) (i : ℕ) (x : X) → i < length xs → x ≡ get_or xs i x → find p (drop i xs) ≡ cond (p x) (Some x) (find p (drop (i + 1) xs))
find_more p xs i x h e =
    at_drop_more (find p) xs i x h ∙ ap (λ y. cond (p y) (Some y) (find p (drop (i + 1) xs))) (sym e)

pub find_end : {X : Type 0} (p : X → Bool) (xs : List X) (i : ℕ) → length xs ≤ i → find p (drop i xs) ≡ None
find_end p xs i h = ap (find p) (drop_all i xs h)

first_by : {Y : Type 0} (o : Option Y) (ys : List Y) (t : Bool) → t ≡ is_some o → slice_get (cons_option o ys) 0 ≡ cond t o (slice_get ys 0)
first_by None ys true e = cc
first_by None ys false e = refl
first_by (Some y) ys true e = refl
first_by (Some y) ys false e = cc

-- the first answer is that of the first that gives one
pub first_by_find : {X Y : Type 0} (f : X → Option Y) (p : X → Bool) → ((x : X) → p x ≡ is_some (f x)) → (xs : List X) → first_some f xs ≡ option_and_then f (find p xs)
first_by_find f p h [] = refl
first_by_find f p h (x ∷ xs) =
    let rest = first_by_find f p h xs in
    first_by (f x) (filter_map f xs) (p x) (h x)
    ∙ elim (p x) as (λ t. cond t (f x) (first_some f xs) ≡ option_and_then f (cond t (Some x) (find p xs))) [ true ↦ refl | false ↦ rest ]

pub twice_by_objects : (name : List ℕ) (mentions : List Mention) → defined_twice name mentions ≡ option_map (λ o. refusals.Duplicate name o.0 o.1) (objects_of_two mentions)
twice_by_objects name [] = refl
twice_by_objects name (one ∷ []) = refl
twice_by_objects name (one ∷ other ∷ others) = refl

pub first_is_twice : (runs : List (List Mention)) → first_some twice_in runs ≡ option_and_then twice_in (find is_twice runs)
first_is_twice runs = first_by_find twice_in is_twice (λ run. refl) runs

hidden_is : (name : Name) → is_hidden name ≡ is_some (hidden_by name)
hidden_is name = by (name.row.visibility == STV_DEFAULT) name.unmet
  where
    by : (default : Bool) (unmet : Option ℕ) → (is_some unmet && not default) ≡ is_some (cond default None (option_map (λ o. refusals.HiddenUndefined name.row.name) unmet))
    by true None = refl
    by true (Some o) = refl
    by false None = refl
    by false (Some o) = refl

pub first_is_hidden : (names : List Name) → first_some hidden_by names ≡ option_and_then hidden_by (find is_hidden names)
first_is_hidden names = first_by_find hidden_by is_hidden hidden_is names

undefined_is : (name : Name) → is_undefined name ≡ is_some (undefined_by name)
undefined_is name = by name.unmet
  where
    by : (unmet : Option ℕ) → is_some unmet ≡ is_some (option_map (refusals.Undefined name.row.name) unmet)
    by None = refl
    by (Some o) = refl

pub first_is_undefined : (names : List Name) → first_some undefined_by names ≡ option_and_then undefined_by (find is_undefined names)
first_is_undefined names = first_by_find undefined_by is_undefined undefined_is names
