-- A stable sort of rows by their ranks, and by their names where the ranks are equal, is one by name; what
-- moved with the rows tells their places.
use Rattle.std.proofs.Common.{◌≡◌, ℕ, ◌+◌, ◌<◌, Bool, true, not, ◌&&◌, List, [], ◌∷◌, length, map, filter, cond, get_or, Some, refl, sym, ap, ◌∙◌, zero-add, arith}
use Rattle.std.specs.List.{All, list_all, cons_option, enumerate_from, slice_get}
use Rattle.std.specs.List.Sorted.{IsPermutation, IsSortedBy, IsStableBy, ties}
use Rattle.std.specs.declared.cmp.Ordering.{Ordering}
use Rattle.std.specs.declared.cmp.Ordering.TheVariants.{Less, Equal, Greater}
use Rattle.std.specs.Ordering.{nat_cmp, is_lt, is_eq, ordering_then}
use Rattle.std.specs.Cmp.{IsTotalOrder, IsStrictWeakOrder, nat_cmp_total, nat_cmp_is, on_total, then_total}
use Rattle.std.specs.Cmp.Lexicographic.{nat_list_cmp_total, texts_ties}
use Rattle.std.proofs.lemmas.List.{get_or-map, length-map}
use Rattle.std.proofs.lemmas.List.Sums.{AllPass-from_list_all}
use Rattle.std.proofs.lemmas.List.Elements.{All-tail}
use Rattle.std.proofs.lemmas.List.FromFn.{length-enumerate_from, get_or-enumerate_from}
use Rattle.std.proofs.lemmas.List.Sorted.{ranks_by, All-permutation}
use Rattle.std.proofs.lemmas.Bool.{and_from, lt-ltb}
use Rattle.std.proofs.lemmas.Option.{slice_get-get_or, slice_get_within}
use Rattle.ifs_interface.specs.declared.row.DynRow.{DynRow}
use Rattle.ifs_interface.specs.Triple.{same_name}
use Rattle.ifs_interface.specs.Interface.{comes_before}
use Rattle.ifs_interface.specs.Extracted.{rows_named}
use Rattle.elf_dyn.specs.declared.ranked.Ranked.{Ranked}
use Rattle.elf_dyn.specs.Rank.{are_bytes, rank}
use Rattle.elf_dyn.specs.Ranked.{placed}
use Rattle.elf_dyn.specs.ByName.{are_places, rows_at, AreInNameOrder, IsSortedByName}
use Rattle.ifs_interface.proofs.Names.{same_name-is}
use Rattle.ifs_interface.proofs.NameOrder.{compared, equal_ties}
use Rattle.ifs_interface.proofs.Lists.{filter_map_of, map_map}
use Rattle.elf_dyn.proofs.Ranking.{AreBytes, bytes_from, by_rank}

-- ---- the order of the sort

abbrev pub ordered : Ranked → Ranked → Ordering
ordered one other = ordering_then (nat_cmp one.rank other.rank) (compared one.row.now.name other.row.now.name)

abbrev pub before : Ranked → Ranked → Bool
before one other = is_lt (ordered one other)

total : IsTotalOrder ordered
total = then_total (on_total (λ r. r.rank) nat_cmp_total) (on_total (λ r. r.row.now.name) nat_list_cmp_total)

pub before_ranks : IsStrictWeakOrder before
before_ranks = ranks_by total (λ r. r)

-- ---- rows that have the ranks of their names

-- the row has the name
abbrev pub is_named : List ℕ → DynRow → Bool
is_named name row = same_name row.name name

abbrev pub row_of : Ranked → DynRow
row_of r = r.row.now

-- the rank is that of the name
abbrev pub IsRanked : List ℕ → Ranked → Type 0
IsRanked front r = (r.rank ≡ rank front r.row.now.name) × AreBytes r.row.now.name

before_is : (front : List ℕ) (x y : Ranked) → IsRanked front x → IsRanked front y → before x y ≡ comes_before x.row.now.name y.row.now.name
before_is front x y u v =
    let a = x.row.now.name in
    let b = y.row.now.name in
    (λ i. is_lt (ordering_then (nat_cmp (u.0 i) (v.0 i)) (compared a b))) ∙ ap is_lt (by_rank front a b u.1 v.1)

all_ranked : (front : List ℕ) (rows : List DynRow) (xs : List Ranked) → map row_of xs ≡ rows → map (λ r. r.rank) xs ≡ map (λ row. rank front row.name) rows → list_all (λ r. are_bytes r.row.now.name) xs ≡ true → All (IsRanked front) xs
all_ranked front rows xs same ranked bytes k d within =
    let of : Ranked → ℕ = λ r. rank front r.row.now.name in
    let each : map (λ r. r.rank) xs ≡ map of xs = ranked ∙ ap (map (λ row. rank front row.name)) (sym same) ∙ map_map (λ row. rank front row.name) row_of xs in
    (sym (get_or-map (λ r. r.rank) xs k d 0 within) ∙ ap (λ ns. get_or ns k 0) each ∙ get_or-map of xs k d 0 within, bytes_from (get_or xs k d).row.now.name (AllPass-from_list_all (λ r. are_bytes r.row.now.name) xs bytes k d within))

-- ---- they rise

rising : (front : List ℕ) (xs : List Ranked) → All (IsRanked front) xs → IsSortedBy before xs → AreInNameOrder (map row_of xs)
rising front xs all up k d low within =
    let e : Ranked = record { rank = 0; place = 0; row = record { ref_ptr = (0, 0); now = d } } in
    let long = length-map xs row_of in
    let later : k + 1 < length xs = omega arith in
    let earlier : k < length xs = omega arith in
    let second = get_or-map row_of xs (k + 1) e d later in
    let first = get_or-map row_of xs k e d earlier in
    (λ i. comes_before (second i).name (first i).name)
    ∙ sym (before_is front (get_or xs (k + 1) e) (get_or xs k e) (all (k + 1) e later) (all k e earlier))
    ∙ up k e low (omega arith)

-- ---- those of one name keep their order

a_ranked : List ℕ → List ℕ → Ranked
a_ranked front name = record { rank = rank front name; place = 0; row = record { ref_ptr = (0, 0); now = record { name = name; binding = 1; kind = 0; shndx = 0; value = 0; size = 0 } } }

equal_then : (o c : Ordering) → (is_eq c ≡ true → o ≡ Equal) → is_eq c ≡ is_eq (ordering_then o c)
equal_then o Equal h = ap (λ p. is_eq (ordering_then p Equal)) (sym (h refl))
equal_then Less Less h = refl
equal_then Equal Less h = refl
equal_then Greater Less h = refl
equal_then Less Greater h = refl
equal_then Equal Greater h = refl
equal_then Greater Greater h = refl

named_ties : (front name : List ℕ) (r : Ranked) → IsRanked front r → is_named name (row_of r) ≡ ties before (a_ranked front name) r
unfolding a_ranked
named_ties front name r is =
    let own = r.row.now.name in
    let other = a_ranked front name in
    let same_rank : is_eq (compared own name) ≡ true → nat_cmp r.rank (rank front name) ≡ Equal = λ h.
    sym (nat_cmp_is r.rank (rank front name) Equal (is.0 ∙ ap (rank front) (same_name-is own name (texts_ties own name ∙ h)))) in
    texts_ties own name
    ∙ equal_then (nat_cmp r.rank (rank front name)) (compared own name) same_rank
    ∙ equal_ties (ordered r other)
    ∙ ap (λ o. not (is_lt o) && not (is_lt (ordered r other))) (sym (total.antisymm other r))

filter_agree_where : {X : Type 0} (P : X → Type 0) (p q : X → Bool) → ((x : X) → P x → p x ≡ q x) → (xs : List X) → All P xs → filter p xs ≡ filter q xs
filter_agree_where P p q same [] all = refl
filter_agree_where P p q same (x ∷ xs) all =
    ap (λ t. cond t (x ∷ filter p xs) (filter p xs)) (same x (all 0 x (omega arith)))
    ∙ ap (λ ys. cond (q x) (x ∷ ys) ys) (filter_agree_where P p q same xs (All-tail P x xs all))

named_by_ties : (front name : List ℕ) (xs : List Ranked) → All (IsRanked front) xs → rows_named name (map row_of xs) ≡ map row_of (filter (ties before (a_ranked front name)) xs)
named_by_ties front name xs all =
    filter_map_of (is_named name) row_of xs
    ∙ ap (map row_of) (filter_agree_where (IsRanked front) (λ r. is_named name (row_of r)) (ties before (a_ranked front name)) (named_ties front name) xs all)

-- ---- what the sort leaves

pub sorted_by_rank : (front : List ℕ) (rows : List DynRow) (old new : List Ranked) → map row_of old ≡ rows → map (λ r. r.rank) old ≡ map (λ row. rank front row.name) rows → list_all (λ r. are_bytes r.row.now.name) old ≡ true → IsPermutation old new → IsSortedBy before new → IsStableBy before old new → IsSortedByName rows (map row_of new)
sorted_by_rank front rows old new same ranked bytes moved up stable =
    let all_old : All (IsRanked front) old = all_ranked front rows old same ranked bytes in
    let all_new : All (IsRanked front) new = All-permutation (IsRanked front) old new moved all_old in
    record {
      rising = rising front new all_new up;
      same_rows = λ name. named_by_ties front name new all_new ∙ ap (map row_of) (stable (a_ranked front name)) ∙ sym (named_by_ties front name old all_old) ∙ ap (rows_named name) same;
    }

-- ---- their places

-- the row stands at its place
abbrev IsPlaced : List DynRow → Ranked → Type 0
IsPlaced rows r = slice_get rows r.place ≡ Some r.row.now

all_placed : (rows : List DynRow) (xs : List Ranked) → map placed xs ≡ enumerate_from 0 rows → All (IsPlaced rows) xs
all_placed rows xs numbered k d within =
    let own = get_or xs k d in
    let e : ℕ × DynRow = (0, own.row.now) in
    let long : length rows ≡ length xs = sym (length-enumerate_from 0 rows) ∙ ap length (sym numbered) ∙ length-map xs placed in
    let there : k < length rows = omega arith in
    let is : placed own ≡ (0 + k, get_or rows k own.row.now) = sym (get_or-map placed xs k d e within) ∙ ap (λ ps. get_or ps k e) numbered ∙ get_or-enumerate_from 0 rows k e there in
    let place : own.place ≡ k = ap (λ p. p.0) is ∙ zero-add k in
    ap (slice_get rows) place ∙ slice_get-get_or rows k own.row.now there ∙ ap (λ p. Some p.1) (sym is)

rows_of_places : (rows : List DynRow) (xs : List Ranked) → All (IsPlaced rows) xs → rows_at rows (map (λ r. r.place) xs) ≡ map row_of xs
rows_of_places rows [] all = refl
rows_of_places rows (x ∷ xs) all =
    ap (λ o. cons_option o (rows_at rows (map (λ r. r.place) xs))) (all 0 x (omega arith))
    ∙ ap (λ ys. row_of x ∷ ys) (rows_of_places rows xs (All-tail (IsPlaced rows) x xs all))

inside : (rows : List DynRow) (xs : List Ranked) → All (IsPlaced rows) xs → are_places rows (map (λ r. r.place) xs) ≡ true
inside rows [] all = refl
inside rows (x ∷ xs) all =
    and_from _ _ (lt-ltb x.place (length rows) (slice_get_within rows x.place x.row.now (all 0 x (omega arith))))
    (inside rows xs (All-tail (IsPlaced rows) x xs all))

pub places_by_rank : (rows : List DynRow) (old new : List Ranked) → map placed old ≡ enumerate_from 0 rows → IsPermutation old new → are_places rows (map (λ r. r.place) new) ≡ true
places_by_rank rows old new numbered moved =
    inside rows new (All-permutation (IsPlaced rows) old new moved (all_placed rows old numbered))

pub placed_by_rank : (rows : List DynRow) (old new : List Ranked) → map placed old ≡ enumerate_from 0 rows → IsPermutation old new → rows_at rows (map (λ r. r.place) new) ≡ map row_of new
placed_by_rank rows old new numbered moved =
    rows_of_places rows new (All-permutation (IsPlaced rows) old new moved (all_placed rows old numbered))
