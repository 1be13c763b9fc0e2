-- Flags of sections, cleared one after the other.
use Rattle.std.proofs.Common.{◌≡◌, ℕ, zero, suc, ◌+◌, ◌<◌, ◌≤◌, ◌==◌, ◌≢◌, Bool, true, false, List, [], ◌∷◌, ◌++◌, length, take, map, get_or, set, refl, sym, ap, ◌∙◌, arith, inl, inr, subst, zero-add, ◌-◌}
use Rattle.std.proofs.Math.Nat.{sub-zero}
use Rattle.std.specs.Prelude.{not, ◌&&◌, ◌||◌, slice_get}
use Rattle.std.specs.List.{enumerate_from}
use Rattle.std.specs.Option.{option_map_or}
use Rattle.std.specs.declared.vec.Vec.{Vec}
use Rattle.std.proofs.lemmas.Bool.{cases_eq, cases_lt, eq-eqb, ne_eqb}
use Rattle.std.proofs.lemmas.Grind.{get_or-set_at}
use Rattle.std.proofs.lemmas.List.{length-set, get_or-set_other, get_or_past, set_past, get_or-map, ext_get_or, take_more, length-map, map-set, take_at}
use Rattle.std.proofs.lemmas.List.Folds.{list_any-append}
use Rattle.std.proofs.lemmas.List.FromFn.{length-enumerate_from, get_or-enumerate_from, length-map-range_with_len, get_or-map-range_with_len}
use Rattle.elf_object.specs.Record.{ObjectRecord}
use Rattle.elf_object.specs.Sections.{is_loadable}
use Rattle.link_core.specs.Kept.{is_kept, is_among}
use Rattle.link_core.specs.declared.resolution.Member.{Member}
use Rattle.link_pieces.specs.Flags.{flags_of, kept_flags, rows, loadable_of, flag_at, cleared, AreCleared}

and_false : (x : Bool) → (x && false) ≡ false
and_false true = refl
and_false false = refl

pub and_true : (x : Bool) → (x && true) ≡ x
and_true true = refl
and_true false = refl

pub or_false : (x : Bool) → (x || false) ≡ x
or_false true = refl
or_false false = refl

-- neither of two
neither : (x a b : Bool) → ((x && not a) && not b) ≡ (x && not (a || b))
neither true true b = refl
neither true false b = refl
neither false a b = refl

among_more : (ds : List Member) (d : Member) (i s : ℕ) → is_among (ds ++ d ∷ []) i s ≡ (is_among ds i s || (d.object == i && d.section == s))
among_more ds d i s =
    list_any-append (λ (m : Member). m.object == i && m.section == s) ds (d ∷ [])
    ∙ ap (λ b. is_among ds i s || b) (or_false (d.object == i && d.section == s))

-- a list is cleared in its vector
pub row_cleared : {Z : Type 0} (all : List (Vec Bool Z)) (object section : ℕ) (d new : Vec Bool Z) → object < length all → new.items ≡ set (get_or all object d).items section false
    → rows (set all object new) ≡ set (rows all) object (set (get_or (rows all) object []) section false)
row_cleared all object section d new lt e =
    map-set (λ v. v.items) all object new
    ∙ ap (λ (zs : List Bool). set (rows all) object zs) (e ∙ ap (λ (zs : List Bool). set zs section false) (sym (get_or-map (λ v. v.items) all object d [] lt)))

-- what stands where nothing else is put than what stands there past the end
set_there : {X : Type 0} (xs : List X) (k i : ℕ) (y d : X) → k ≡ i → (length xs ≤ k → y ≡ d) → get_or (set xs k y) i d ≡ y
set_there xs k i y d same past = elim (cases_lt k (length xs)) as (λ _. get_or (set xs k y) i d ≡ y) [
  | inl within ↦ get_or-set_at xs k i y d (sym same) within
  | inr beyond ↦ ap (λ zs. get_or zs i d) (set_past xs k y beyond) ∙ get_or_past xs i d (omega (arith, same, beyond)) ∙ sym (past beyond)
]

module _ (d : Member) (all : List (List Bool)) where
  abbrev own : List Bool
  own = get_or all d.object []

  -- the list of the member's object
  own_row : (i : ℕ) → d.object ≡ i → get_or (cleared d all) i [] ≡ set own d.section false
  own_row i same =
      set_there all d.object i (set own d.section false) [] same
      (λ beyond. ap (λ (zs : List Bool). set zs d.section false) (get_or_past all d.object [] beyond))

  other_row : (i : ℕ) → d.object ≢ i → get_or (cleared d all) i [] ≡ get_or all i []
  other_row i differ = get_or-set_other all d.object i (set own d.section false) [] (λ e. differ (sym e))

  row_count : (i : ℕ) → length (get_or (cleared d all) i []) ≡ length (get_or all i [])
  row_count i = elim (cases_eq d.object i) as (λ _. length (get_or (cleared d all) i []) ≡ length (get_or all i [])) [
    | inl same ↦ ap length (own_row i same) ∙ length-set own d.section false ∙ ap (λ k. length (get_or all k [])) same
    | inr differ ↦ ap length (other_row i differ)
  ]

  own_flag : (s : ℕ) → get_or (set own d.section false) s false ≡ (get_or own s false && not (d.section == s))
  own_flag s = elim (cases_eq d.section s) as (λ _. get_or (set own d.section false) s false ≡ (get_or own s false && not (d.section == s))) [
    | inl same ↦
        set_there own d.section s false false same (λ _. refl)
        ∙ sym (ap (λ b. get_or own s false && not b) (eq-eqb d.section s same) ∙ and_false (get_or own s false))
    | inr differ ↦
        get_or-set_other own d.section s false false (λ e. differ (sym e))
        ∙ sym (ap (λ b. get_or own s false && not b) (ne_eqb d.section s differ) ∙ and_true (get_or own s false))
  ]

  abbrev left : ℕ → ℕ → Bool
  left i s = flag_at all i s && not (d.object == i && d.section == s)

  flag_after : (i s : ℕ) → flag_at (cleared d all) i s ≡ left i s
  flag_after i s = elim (cases_eq d.object i) as (λ _. flag_at (cleared d all) i s ≡ left i s) [
    | inl same ↦
        ap (λ (zs : List Bool). get_or zs s false) (own_row i same) ∙ own_flag s
        ∙ ap (λ k. flag_at all k s && not (d.section == s)) same
        ∙ ap (λ b. flag_at all i s && not (b && d.section == s)) (sym (eq-eqb d.object i same))
    | inr differ ↦
        ap (λ (zs : List Bool). get_or zs s false) (other_row i differ)
        ∙ sym (ap (λ b. flag_at all i s && not (b && d.section == s)) (ne_eqb d.object i differ) ∙ and_true (flag_at all i s))
  ]

pub none_cleared : (all : List (List Bool)) → AreCleared [] all all
none_cleared all = record {
  count = refl;
  counts = λ i. refl;
  flags = λ i s. sym (and_true (flag_at all i s));
}

pub one_cleared : (ds : List Member) (d : Member) (from to : List (List Bool)) → AreCleared ds from to → AreCleared (ds ++ d ∷ []) from (cleared d to)
one_cleared ds d from to old = record {
  count = length-set to d.object (set (get_or to d.object []) d.section false) ∙ old.count;
  counts = λ i. row_count d to i ∙ old.counts i;
  flags = λ i s.
      flag_after d to i s
      ∙ ap (λ b. b && not (d.object == i && d.section == s)) (old.flags i s)
      ∙ neither (flag_at from i s) (is_among ds i s) (d.object == i && d.section == s)
      ∙ ap (λ b. flag_at from i s && not b) (sym (among_more ds d i s));
}

-- the next member of a list
pub next_cleared : (ds : List Member) (k : ℕ) (d : Member) (from to next : List (List Bool)) → k < length ds → d ≡ get_or ds k d → next ≡ cleared d to → AreCleared (take k ds) from to → AreCleared (take (k + 1) ds) from next
next_cleared ds k d from to next lt is e old =
    let more : take (k + 1) ds ≡ take k ds ++ d ∷ [] = take_more ds k d lt ∙ ap (λ x. take k ds ++ x ∷ []) (sym is) in
    subst (λ xs. AreCleared xs from next) (sym more)
    (subst (λ zs. AreCleared (take k ds ++ d ∷ []) from zs) (sym e) (one_cleared (take k ds) d from to old))

-- ---- the flags of loadable sections, with those of the dropped ones cleared

test_at : {X : Type 0} (f : X → Bool) (xs : List X) (s : ℕ) → get_or (map f xs) s false ≡ option_map_or f (slice_get xs s) false
test_at f [] zero = refl
test_at f [] (suc s) = refl
test_at f (x ∷ xs) zero = refl
test_at f (x ∷ xs) (suc s) = test_at f xs s

abbrev blank : ObjectRecord
blank = record { machine = 0; bytes = []; sections = []; symbols = []; references = []; groups = [] }

module _ (dropped : List Member) (objects : List ObjectRecord) (to : List (List Bool)) (are : AreCleared dropped (map loadable_of objects) to) where
  abbrev object_at : ℕ → ObjectRecord
  object_at i = get_or objects i blank

  loadable_row : (i : ℕ) → i < length objects → get_or (map loadable_of objects) i [] ≡ loadable_of (object_at i)
  loadable_row i lt = get_or-map loadable_of objects i blank [] lt

  row_flag : (i s : ℕ) → i < length objects → flag_at to i s ≡ is_kept dropped i (object_at i) s
  unfolding is_kept
  row_flag i s lt =
      are.flags i s
      ∙ ap (λ (zs : List Bool). get_or zs s false && not (is_among dropped i s)) (loadable_row i lt)
      ∙ ap (λ b. b && not (is_among dropped i s)) (test_at is_loadable (object_at i).sections s)

  row_length : (i : ℕ) → i < length objects → length (get_or to i []) ≡ length (object_at i).sections
  row_length i lt = are.counts i ∙ ap length (loadable_row i lt) ∙ length-map (object_at i).sections is_loadable

  row_is : (i : ℕ) → i < length objects → get_or to i [] ≡ flags_of dropped i (object_at i)
  row_is i lt =
      let n = length (object_at i).sections - 0 in
      let f = is_kept dropped i (object_at i) in
      let many : length (get_or to i []) ≡ n = row_length i lt ∙ sym (sub-zero (length (object_at i).sections)) in
      ext_get_or false (get_or to i []) (flags_of dropped i (object_at i)) (many ∙ sym (length-map-range_with_len f 0 n))
      (λ s h. row_flag i s lt ∙ sym (get_or-map-range_with_len f 0 n s s false (omega (arith, h, many)) (zero-add s)))

  all_kept : to ≡ kept_flags dropped objects
  all_kept =
      let f : ℕ × ObjectRecord → List Bool = λ o. flags_of dropped o.0 o.1 in
      let size : length to ≡ length objects = are.count ∙ length-map objects loadable_of in
      let count : length (map f (enumerate_from 0 objects)) ≡ length objects = length-map (enumerate_from 0 objects) f ∙ length-enumerate_from 0 objects in
      ext_get_or [] to (kept_flags dropped objects) (size ∙ sym count)
      (λ i h.
      let lt : i < length objects = omega (arith, h, size) in
      let along : i < length (enumerate_from 0 objects) = omega (arith, lt, length-enumerate_from 0 objects) in
      row_is i lt
      ∙ sym (get_or-map f (enumerate_from 0 objects) i (0, blank) [] along ∙ ap f (get_or-enumerate_from 0 objects i (0, blank) lt ∙ ap (λ k. (k, object_at i)) (zero-add i))))

-- all of a vector, cleared
pub all_cleared : {Z : Type 0} (dropped : List Member) (objects : List ObjectRecord) (n : ℕ) (old new behind : List (Vec Bool Z)) → length old ≡ n → rows old ≡ map loadable_of objects → AreCleared dropped (rows old) (rows new)
    → rows (take n (new ++ behind)) ≡ kept_flags dropped objects
all_cleared dropped objects n old new behind count loadable are =
    let same : length new ≡ n = sym (length-map new (λ v. v.items)) ∙ are.count ∙ length-map old (λ v. v.items) ∙ count in
    ap (λ zs. rows zs) (take_at new behind n same)
    ∙ all_kept dropped objects (rows new) (subst (λ from. AreCleared dropped from (rows new)) loadable are)
