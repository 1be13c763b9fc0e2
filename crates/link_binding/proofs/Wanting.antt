-- Wanted names one by one, and all of them in order.
use Rattle.std.proofs.Common.{◌≡◌, ℕ, ◌+◌, ◌<◌, ◌≤◌, Bool, true, false, ◌||◌, cond, List, [], ◌∷◌, ◌++◌, length, get_or, drop, map, Option, Some, None, Err, is_some, refl, sym, ap, ◌∙◌, append_assoc, inl, inr, arith}
use Rattle.std.specs.declared.cmp.Ordering.{Ordering}
use Rattle.std.specs.declared.cmp.Ordering.TheVariants.{Less, Equal, Greater}
use Rattle.std.specs.Ordering.{nat_cmp, is_eq}
use Rattle.std.specs.Cmp.Lexicographic.{slice_cmp, nat_list_cmp_total, texts_ties}
use Rattle.std.specs.List.{All, filter_map, cons_option, list_any, slice_get}
use Rattle.std.specs.List.Sorted.{IsBinarySearchResult}
use Rattle.std.specs.Option.{option_to_list, option_flatten}
use Rattle.std.proofs.lemmas.Bool.{cases_lt}
use Rattle.std.proofs.lemmas.List.{at_drop_more, drop_all, append-nil}
use Rattle.std.proofs.lemmas.List.Folds.{list_any_at, list_any_none, list_any-append}
use Rattle.std.proofs.lemmas.List.Sorted.{searchable_from_sorted}
use Rattle.std.proofs.lemmas.Option.{slice_get-get_or}
use Rattle.ifs_interface.specs.declared.shared_lib.Wanted.{Wanted}
use Rattle.ifs_interface.specs.Facts.{Facts, AreWanted, strength_at, together, wanted_among, wanted_of}
use Rattle.ifs_interface.specs.Triple.{same_name}
use Rattle.ifs_interface.specs.Wanted.{seen}
use Rattle.ifs_interface.proofs.Lists.{any_map_of}
use Rattle.link_binding.specs.WantedNames.{AreInNameOrder, has_name}

abbrev pub Place : Type 0
Place = Option (List ℕ × Bool)

-- ---- a pass over places

-- what stands at places from i on
abbrev pub left_of : List Place → List (List ℕ × Bool)
left_of places = filter_map (λ place. place) places

front : (place : Place) (rest : List (List ℕ × Bool)) → cons_option place rest ≡ option_to_list place ++ rest
front None rest = refl
front (Some w) rest = refl

pub place_more : (places : List Place) (i : ℕ) (place : Place) (old new all : List (List ℕ × Bool)) → i < length places → place ≡ option_flatten (slice_get places i) → new ≡ old ++ option_to_list place → old ++ left_of (drop i places) ≡ all → new ++ left_of (drop (i + 1) places) ≡ all
place_more places i place old new all h gives pushed so_far =
    let at : place ≡ get_or places i None = gives ∙ ap option_flatten (slice_get-get_or places i None h) in
    let here : left_of (drop i places) ≡ option_to_list place ++ left_of (drop (i + 1) places) =
    at_drop_more left_of places i None h ∙ ap (λ o. cons_option o (left_of (drop (i + 1) places))) (sym at) ∙ front place (left_of (drop (i + 1) places)) in
    ap (λ ys. ys ++ left_of (drop (i + 1) places)) pushed ∙ append_assoc old (option_to_list place) (left_of (drop (i + 1) places)) ∙ ap (λ ys. old ++ ys) (sym here) ∙ so_far

pub place_end : (places : List Place) (i : ℕ) (old all : List (List ℕ × Bool)) → length places ≤ i → old ++ left_of (drop i places) ≡ all → old ≡ all
place_end places i old all h so_far = sym (append-nil old) ∙ sym (ap (λ ps. old ++ left_of ps) (drop_all i places h)) ∙ so_far

-- ---- whether a name is wanted

abbrev named : List ℕ → List ℕ × Bool → Bool
named name w = same_name w.0 name

some_together : (name : List ℕ) (places : List Place) → is_some (together (filter_map (strength_at name) places)) ≡ list_any (named name) (left_of places)
some_together name [] = refl
some_together name (None ∷ places) = some_together name places
some_together name (Some w ∷ places) =
    let rest = some_together name places in
    elim (same_name w.0 name) as (λ t. is_some (together (cons_option (cond t (Some w.1) None) (filter_map (strength_at name) places))) ≡ (t || list_any (named name) (left_of places)))
    [ true ↦ refl | false ↦ rest ]

is_wanted_by : (facts : Facts) (places : List Place) (name : List ℕ) → AreWanted facts places → is_some (wanted_of facts name) ≡ list_any (named name) (left_of places)
unfolding wanted_among
is_wanted_by facts places name are = ap is_some (sym (are name)) ∙ some_together name places

has_name_seen : (name : List ℕ) (wanted : List Wanted) → has_name name wanted ≡ list_any (named name) (map seen wanted)
has_name_seen name wanted = sym (any_map_of (named name) seen wanted)

-- the names of one more library
pub wanted_more : (facts : Facts) (places : List Place) (old new : List Wanted) (name : List ℕ) → AreWanted facts places → map seen new ≡ map seen old ++ left_of places → has_name name new ≡ (has_name name old || is_some (wanted_of facts name))
wanted_more facts places old new name are pushed =
    has_name_seen name new ∙ ap (list_any (named name)) pushed ∙ list_any-append (named name) (map seen old) (left_of places)
    ∙ ap (λ t. t || list_any (named name) (left_of places)) (sym (has_name_seen name old))
    ∙ ap (λ t. has_name name old || t) (sym (is_wanted_by facts places name are))

-- one more library, and the end of them
or_assoc : (a b c : Bool) → ((a || b) || c) ≡ (a || (b || c))
or_assoc true b c = refl
or_assoc false b c = refl

or_false : (a : Bool) → (a || false) ≡ a
or_false true = refl
or_false false = refl

pub any_turn : {X Y : Type 0} (p : Y → Bool) (g : X → Y) (xs : List X) (i : ℕ) (x : X) (old new all : Bool) → i < length xs → x ≡ get_or xs i x → new ≡ (old || p (g x)) → (old || list_any p (map g (drop i xs))) ≡ all → (new || list_any p (map g (drop (i + 1) xs))) ≡ all
any_turn {X = X} p g xs i x old new all h e more so_far =
    let F : List X → Bool = λ ys. list_any p (map g ys) in
    let here : F (drop i xs) ≡ (p (g x) || F (drop (i + 1) xs)) = at_drop_more F xs i x h ∙ ap (λ y. F (y ∷ drop (i + 1) xs)) (sym e) in
    ap (λ t. t || F (drop (i + 1) xs)) more ∙ or_assoc old (p (g x)) (F (drop (i + 1) xs)) ∙ ap (λ t. old || t) (sym here) ∙ so_far

pub any_done : {X Y : Type 0} (p : Y → Bool) (g : X → Y) (xs : List X) (i : ℕ) (old all : Bool) → length xs ≤ i → (old || list_any p (map g (drop i xs))) ≡ all → old ≡ all
any_done p g xs i old all h so_far = sym (or_false old) ∙ ap (λ ys. old || list_any p (map g ys)) (sym (drop_all i xs h)) ∙ so_far

-- ---- a search

equal_same : (a b : List ℕ) → slice_cmp nat_cmp a b ≡ Equal → same_name a b ≡ true
equal_same a b e = texts_ties a b ∙ ap is_eq e

less_differs : (a b : List ℕ) → slice_cmp nat_cmp a b ≡ Less → same_name a b ≡ false
less_differs a b e = texts_ties a b ∙ ap is_eq e

greater_differs : (a b : List ℕ) → slice_cmp nat_cmp a b ≡ Greater → same_name a b ≡ false
greater_differs a b e = texts_ties a b ∙ ap is_eq e

abbrev against : List ℕ → Wanted → Ordering
against name w = slice_cmp nat_cmp w.name.now name

a_name : Wanted
a_name = record { name = record { ref_ptr = (0, 0); now = [] }; strong = false }

pub search_found : (name : List ℕ) (wanted : List Wanted) (place : ℕ) → place < length wanted → ((d : Wanted) → against name (get_or wanted place d) ≡ Equal) → true ≡ has_name name wanted
search_found name wanted place lt equal =
    sym (list_any_at (λ w. same_name w.name.now name) wanted place a_name lt (equal_same (get_or wanted place a_name).name.now name (equal a_name)))

pub search_missed : (name : List ℕ) (wanted : List Wanted) (place : ℕ) → AreInNameOrder wanted → IsBinarySearchResult (against name) wanted (Err place) → false ≡ has_name name wanted
search_missed name wanted place up missed =
    let split = missed (searchable_from_sorted nat_list_cmp_total (λ (w : Wanted). w.name.now) wanted name up) in
    let each : All (λ w. same_name w.name.now name ≡ false) wanted = λ k d lt. elim (cases_lt k place) as (λ _. same_name (get_or wanted k d).name.now name ≡ false) [
      | inl before ↦ less_differs (get_or wanted k d).name.now name (split.0 k d (omega arith) before)
      | inr behind ↦ greater_differs (get_or wanted k d).name.now name (split.1 k d behind lt)
    ] in
    sym (list_any_none (λ w. same_name w.name.now name) wanted each)
