-- Names of output sections, in byte order; what stands behind a prefix.
use Rattle.std.proofs.Common.{◌≡◌, ℕ, ◌<◌, Bool, true, false, cond, ◌||◌, ◌++◌, List, [], length, get_or, take, drop, Some, None, Err, refl, sym, ap, ◌∙◌, inl, inr, arith}
use Rattle.std.specs.declared.cmp.Ordering.{Ordering}
use Rattle.std.specs.declared.cmp.Ordering.TheVariants.{Less, Equal, Greater}
use Rattle.std.specs.Ordering.{nat_cmp, is_eq}
use Rattle.std.specs.Cmp.Lexicographic.{slice_cmp, nat_list_cmp_total, texts_ties}
use Rattle.std.specs.List.{All, list_any}
use Rattle.std.specs.List.Sorted.{IsBinarySearchResult}
use Rattle.std.proofs.lemmas.Bool.{cases_lt, false_from_ne_true}
use Rattle.std.proofs.lemmas.List.{length-take}
use Rattle.std.proofs.lemmas.List.Folds.{list_any_at, list_any_none, list_any-append}
use Rattle.std.proofs.lemmas.List.Sorted.{searchable_from_sorted}
use denote.Ref.{Bor}
use Rattle.ifs_interface.specs.Triple.{same_name}
use Rattle.ifs_interface.proofs.Names.{same_name-is}
use Rattle.link_core.specs.OutputNames.{behind}
use Rattle.link_core.specs.Provided.{always_provided}
use Rattle.link_names.specs.Bounds.{AreInOrder, arrays, ends, has_name, starts}

equal_same : (a b : List ℕ) → slice_cmp nat_cmp a b ≡ Equal → same_name a b ≡ true
equal_same a b e = texts_ties a b ∙ ap is_eq e

less_differs : (a b : List ℕ) → slice_cmp nat_cmp a b ≡ Less → same_name a b ≡ false
less_differs a b e = texts_ties a b ∙ ap is_eq e

greater_differs : (a b : List ℕ) → slice_cmp nat_cmp a b ≡ Greater → same_name a b ≡ false
greater_differs a b e = texts_ties a b ∙ ap is_eq e

abbrev against : List ℕ → Bor (List ℕ) → Ordering
against name n = slice_cmp nat_cmp n.now name

a_name : Bor (List ℕ)
a_name = record { ref_ptr = (0, 0); now = [] }

pub search_found : (name : List ℕ) (names : List (Bor (List ℕ))) (place : ℕ) → place < length names → ((d : Bor (List ℕ)) → against name (get_or names place d) ≡ Equal) → true ≡ has_name name names
search_found name names place lt equal =
    sym (list_any_at (λ n. same_name n.now name) names place a_name lt (equal_same (get_or names place a_name).now name (equal a_name)))

pub search_missed : (name : List ℕ) (names : List (Bor (List ℕ))) (place : ℕ) → AreInOrder names → IsBinarySearchResult (against name) names (Err place) → false ≡ has_name name names
search_missed name names place up missed =
    let split = missed (searchable_from_sorted nat_list_cmp_total (λ (n : Bor (List ℕ)). n.now) names name up) in
    let each : All (λ n. same_name n.now name ≡ false) names = λ k d lt. elim (cases_lt k place) as (λ _. same_name (get_or names k d).now name ≡ false) [
      | inl before ↦ less_differs (get_or names k d).now name (split.0 k d (omega arith) before)
      | inr past ↦ greater_differs (get_or names k d).now name (split.1 k d past lt)
    ] in
    sym (list_any_none (λ n. same_name n.now name) names each)

-- a name that is shorter than a prefix doesn't begin with it
pub none_behind : (prefix name : List ℕ) → length name < length prefix → None ≡ behind prefix name
none_behind prefix name h =
    let differs : same_name (take (length prefix) name) prefix ≡ false = false_from_ne_true _ (λ same. omega (arith, length-take (length prefix) name, ap length (same_name-is (take (length prefix) name) prefix same))) in
    sym (ap (λ t. cond t (Some (drop (length prefix) name)) None) differs)

or_assoc : (a b c : Bool) → (a || (b || c)) ≡ ((a || b) || c)
or_assoc true b c = refl
or_assoc false b c = refl

pub places_by_parts : (name : List ℕ) → list_any (same_name name) always_provided ≡ (list_any (same_name name) starts || list_any (same_name name) ends || list_any (same_name name) arrays)
unfolding always_provided starts ends arrays
places_by_parts name =
    list_any-append (same_name name) starts (ends ++ arrays)
    ∙ ap (λ t. list_any (same_name name) starts || t) (list_any-append (same_name name) ends arrays)
    ∙ or_assoc (list_any (same_name name) starts) (list_any (same_name name) ends) (list_any (same_name name) arrays)
