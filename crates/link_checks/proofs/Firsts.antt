-- Passes that look for the first input that is refused.
use Rattle.std.proofs.Common.{◌≡◌, ℕ, ◌+◌, ◌<◌, ◌≤◌, List, [], ◌∷◌, length, get_or, drop, map, Option, Some, None, refl, sym, ap, ◌∙◌}
use Rattle.std.specs.List.{enumerate_from, filter_map, cons_option, slice_get}
use Rattle.std.specs.Option.{option_or}
use Rattle.std.proofs.lemmas.List.{at_drop_more, drop_all}
use Rattle.ifs_interface.specs.Facts.{Facts}
use Rattle.link_core.specs.declared.input.Lib.{Lib}
use Rattle.link_core.specs.declared.input.LibSource.{LibSource}
use Rattle.link_core.specs.declared.input.LibSource.TheVariants as sources
use Rattle.link_core.specs.Lists.{first_some}
use Rattle.link_core.specs.Resolution as resolution
use Rattle.link_binding.specs.Libraries.{side_of}
use Rattle.link_checks.specs.Inputs.{versioned_at}

first_by : {Y : Type 0} (o : Option Y) (ys : List Y) → slice_get (cons_option o ys) 0 ≡ option_or o (slice_get ys 0)
first_by None ys = refl
first_by (Some y) ys = refl

module _ {X Z : Type 0} (f : ℕ × X → Option Z) where
  -- the first answer, from a place on
  abbrev pub first_from : ℕ → List X → Option Z
  first_from i xs = first_some f (enumerate_from i xs)

  pub first_more : (xs : List X) (i : ℕ) (x : X) → i < length xs → x ≡ get_or xs i x → first_from i (drop i xs) ≡ option_or (f (i, x)) (first_from (i + 1) (drop (i + 1) xs))
  first_more xs i x h e =
      at_drop_more (first_from i) xs i x h ∙ ap (λ y. first_from i (y ∷ drop (i + 1) xs)) (sym e) ∙ first_by (f (i, x)) (filter_map f (enumerate_from (i + 1) (drop (i + 1) xs)))

  pub first_end : (xs : List X) (i : ℕ) → length xs ≤ i → first_from i (drop i xs) ≡ None
  first_end xs i h = ap (first_from i) (drop_all i xs h)

module _ {X Y Z : Type 0} (g : X → Y) (f : ℕ × Y → Option Z) where
  abbrev pub seen_from : ℕ → List X → Option Z
  seen_from i xs = first_some f (enumerate_from i (map g xs))

  pub seen_more : (xs : List X) (i : ℕ) (x : X) → i < length xs → x ≡ get_or xs i x → seen_from i (drop i xs) ≡ option_or (f (i, g x)) (seen_from (i + 1) (drop (i + 1) xs))
  seen_more xs i x h e =
      at_drop_more (seen_from i) xs i x h ∙ ap (λ y. seen_from i (y ∷ drop (i + 1) xs)) (sym e) ∙ first_by (f (i, g x)) (filter_map f (enumerate_from (i + 1) (map g (drop (i + 1) xs))))

  pub seen_end : (xs : List X) (i : ℕ) → length xs ≤ i → seen_from i (drop i xs) ≡ None
  seen_end xs i h = ap (seen_from i) (drop_all i xs h)

-- the versions of libraries are those of their sides
versioned_is : {S : Type 0} (facts : S → Facts) (i : ℕ) (lib : Lib S) → resolution.versioned_at (i, side_of facts lib) ≡ versioned_at (i, lib)
versioned_is facts i lib = by lib.source
  where
    by : (source : LibSource _) → resolution.versioned_at (i, side_of facts (record { file_name = lib.file_name; source = source })) ≡ versioned_at (i, record { file_name = lib.file_name; source = source })
    by (sources.Held s) = refl
    by sources.Versioned = refl
    by (sources.Refused cause) = refl

answers_are : {S : Type 0} (facts : S → Facts) (i : ℕ) (libs : List (Lib S)) → filter_map resolution.versioned_at (enumerate_from i (map (side_of facts) libs)) ≡ filter_map versioned_at (enumerate_from i libs)
answers_are facts i [] = refl
answers_are facts i (lib ∷ libs) =
    ap (λ o. cons_option o (filter_map resolution.versioned_at (enumerate_from (i + 1) (map (side_of facts) libs)))) (versioned_is facts i lib)
    ∙ ap (cons_option (versioned_at (i, lib))) (answers_are facts (i + 1) libs)

pub versions_are : {S : Type 0} (facts : S → Facts) (libs : List (Lib S)) → resolution.versioned_side (map (side_of facts) libs) ≡ first_some versioned_at (enumerate_from 0 libs)
unfolding resolution.versioned_side
versions_are facts libs = ap (λ rs. slice_get rs 0) (answers_are facts 0 libs)
