-- Sonames and needed libraries, one by one.
use Rattle.std.proofs.Common.{◌≡◌, ℕ, ◌+◌, ◌<◌, ◌≤◌, Bool, true, false, ◌&&◌, List, [], length, get_or, drop, Option, Some, sym, ap, ◌∙◌}
use Rattle.std.specs.List.{list_all, slice_get}
use Rattle.std.specs.Option.{option_map_or}
use Rattle.std.proofs.lemmas.List.{at_drop_more, drop_all}
use Rattle.std.proofs.lemmas.Option.{slice_get-get_or}

all_at : (p : List ℕ → Bool) (names : List (List ℕ)) (i : ℕ) (o : Option (List ℕ)) → i < length names → o ≡ slice_get names i → list_all p (drop i names) ≡ (option_map_or p o true && list_all p (drop (i + 1) names))
all_at p names i o h e =
    let at : o ≡ Some (get_or names i []) = e ∙ slice_get-get_or names i [] h in
    at_drop_more (list_all p) names i [] h ∙ ap (λ x. option_map_or p x true && list_all p (drop (i + 1) names)) (sym at)

pub all_fails : (p : List ℕ → Bool) (names : List (List ℕ)) (i : ℕ) (o : Option (List ℕ)) → i < length names → o ≡ slice_get names i → option_map_or p o true ≡ false → list_all p (drop i names) ≡ list_all p names → false ≡ list_all p names
all_fails p names i o h e fails so_far =
    sym (sym so_far ∙ all_at p names i o h e ∙ ap (λ t. t && list_all p (drop (i + 1) names)) fails)

pub all_passes : (p : List ℕ → Bool) (names : List (List ℕ)) (i : ℕ) (o : Option (List ℕ)) → i < length names → o ≡ slice_get names i → option_map_or p o true ≡ true → list_all p (drop i names) ≡ list_all p names → list_all p (drop (i + 1) names) ≡ list_all p names
all_passes p names i o h e passes so_far =
    sym (all_at p names i o h e ∙ ap (λ t. t && list_all p (drop (i + 1) names)) passes) ∙ so_far

pub all_end : (p : List ℕ → Bool) (names : List (List ℕ)) (i : ℕ) → length names ≤ i → list_all p (drop i names) ≡ list_all p names → true ≡ list_all p names
all_end p names i h so_far = sym (ap (list_all p) (drop_all i names h)) ∙ so_far
