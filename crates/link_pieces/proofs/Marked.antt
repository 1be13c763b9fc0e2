-- The sections whose flags are set are those of the groups that are dropped.
use Rattle.std.proofs.Common.{◌≡◌, ℕ, zero, suc, ◌+◌, ◌<◌, ◌≤◌, ◌==◌, ◌≢◌, Bool, true, false, List, [], ◌∷◌, ◌++◌, length, take, map, get_or, set, refl, sym, ap, ◌∙◌, arith, inl, inr, subst, append_assoc, zero-add, Some, None}
use Rattle.std.proofs.Math.Nat.{sub-zero}
use Rattle.std.specs.Prelude.{◌&&◌, ◌||◌, if◌then◌else◌, filter, flat_map, filter_map, fold, replicate}
use Rattle.std.specs.List.{enumerate_from, list_any, range_with_len, cons_option}
use Rattle.std.proofs.lemmas.Bool.{cases_eq, cases_Bool, eq-eqb, ne_eqb, or_right, or_from, and_left, false_from_ne_true, false≢true}
use Rattle.std.proofs.lemmas.Grind.{get_or-set_at}
use Rattle.std.proofs.lemmas.List.{length-set, get_or-set_other, length-replicate, get_or-replicate, append-nil, take_all}
use Rattle.std.proofs.lemmas.List.Folds.{list_any-append}
use Rattle.std.proofs.lemmas.List.FromFn.{length-enumerate_from, get_or-enumerate_from, fill_by_all}
use Rattle.std.proofs.lemmas.List.Sums.{fold_more}
use Rattle.ifs_bytes.specs.Places.{places}
use Rattle.elf_object.specs.declared.group.Group.{Group}
use Rattle.elf_object.specs.Record.{ObjectRecord}
use Rattle.ifs_interface.specs.Triple.{same_name}
use Rattle.ifs_interface.proofs.Names.{same_name-is, same_name-itself}
use Rattle.link_core.specs.declared.resolution.Member.{Member}
use Rattle.link_core.specs.Kept.{has_signature, repeated_after, has_member, is_dropped, section_of, dropped_sections}
use Rattle.link_pieces.specs.Marks.{Marks, is_seen, seen_with, marked, after_group, after_groups, member_for, members_by, Dropped, after_object}
use Rattle.link_pieces.proofs.Clearing.{or_false}

or_assoc : (a b c : Bool) → ((a || b) || c) ≡ (a || (b || c))
or_assoc true b c = refl
or_assoc false b c = refl

-- ---- signatures

same_sym : (a b : List ℕ) → same_name a b ≡ same_name b a
same_sym a b = elim (cases_Bool (same_name a b)) as (λ _. same_name a b ≡ same_name b a) [
  | inl same ↦ same ∙ sym (subst (λ n. same_name n a ≡ true) (same_name-is a b same) (same_name-itself a))
  | inr differ ↦
      differ
      ∙ sym (false_from_ne_true _ (λ t. false≢true (sym differ ∙ subst (λ n. same_name n b ≡ true) (same_name-is b a t) (same_name-itself b))))
]

-- a signature more
noted : (seen : List (List ℕ)) (x name : List ℕ) → is_seen (seen_with seen x) name ≡ (is_seen seen name || same_name x name)
noted seen x name = by (is_seen seen x) refl
  where
    by : (b : Bool) → is_seen seen x ≡ b → is_seen (if b then seen else seen ++ x ∷ []) name ≡ (is_seen seen name || same_name x name)
    by true there = elim (cases_Bool (same_name x name)) as (λ _. is_seen seen name ≡ (is_seen seen name || same_name x name)) [
      | inl same ↦
          let also : is_seen seen name ≡ true = subst (λ n. is_seen seen n ≡ true) (same_name-is x name same) there in
          also ∙ sym (ap (λ b. b || same_name x name) also)
      | inr differ ↦ sym (ap (λ b. is_seen seen name || b) differ ∙ or_false (is_seen seen name))
    ]
    by false there =
        list_any-append (same_name name) seen (x ∷ [])
        ∙ ap (λ b. is_seen seen name || b) (or_false (same_name name x) ∙ same_sym name x)

-- the signatures that are noted are those of these groups
abbrev pub Agree : List (ℕ × Group) → List (List ℕ) → Type 0
Agree before seen = (name : List ℕ) → has_signature name before ≡ is_seen seen name

seen_more : (before : List (ℕ × Group)) (seen : List (List ℕ)) (k : ℕ) (g : Group) → Agree before seen → Agree (before ++ (k, g) ∷ []) (seen_with seen g.signature)
seen_more before seen k g old = λ name.
    list_any-append (λ (h : ℕ × Group). same_name h.1.signature name) before ((k, g) ∷ [])
    ∙ ap (λ b. has_signature name before || b) (or_false (same_name g.signature name))
    ∙ ap (λ b. b || same_name g.signature name) (old name)
    ∙ sym (noted seen g.signature name)

-- ---- flags

set_at : (flags : List Bool) (m s : ℕ) → s < length flags → get_or (set flags m true) s false ≡ (get_or flags s false || m == s)
set_at flags m s lt = elim (cases_eq m s) as (λ _. get_or (set flags m true) s false ≡ (get_or flags s false || m == s)) [
  | inl same ↦ get_or-set_at flags m s true false (sym same) (omega (arith, same, lt)) ∙ sym (or_right (get_or flags s false) (m == s) (eq-eqb m s same))
  | inr differ ↦
      get_or-set_other flags m s true false (λ e. differ (sym e))
      ∙ sym (ap (λ b. get_or flags s false || b) (ne_eqb m s differ) ∙ or_false (get_or flags s false))
]

marked_length : (ms : List ℕ) (flags : List Bool) → length (marked flags ms) ≡ length flags
marked_length [] flags = refl
marked_length (m ∷ ms) flags = marked_length ms (set flags m true) ∙ length-set flags m true

marked_at : (ms : List ℕ) (flags : List Bool) (s : ℕ) → s < length flags → get_or (marked flags ms) s false ≡ (get_or flags s false || list_any (λ m. m == s) ms)
marked_at [] flags s lt = sym (or_false (get_or flags s false))
marked_at (m ∷ ms) flags s lt =
    marked_at ms (set flags m true) s (omega (arith, lt, length-set flags m true))
    ∙ ap (λ b. b || list_any (λ m. m == s) ms) (set_at flags m s lt)
    ∙ or_assoc (get_or flags s false) (m == s) (list_any (λ m. m == s) ms)

-- ---- one group

group_count : (marks : Marks) (g : Group) → length (after_group marks g).flags ≡ length marks.flags
group_count marks g = by (g.comdat && is_seen marks.seen g.signature)
  where
    by : (b : Bool) → length (if b then marked marks.flags g.members else marks.flags) ≡ length marks.flags
    by true = marked_length g.members marks.flags
    by false = refl

abbrev only_if : Bool → ℕ × Group → List (ℕ × Group)
only_if b g = if b then g ∷ [] else []

group_flag : (before : List (ℕ × Group)) (marks : Marks) (k s : ℕ) (g : Group) → Agree before marks.seen → s < length marks.flags
    → get_or (after_group marks g).flags s false
    ≡ (get_or marks.flags s false || list_any (has_member k s) (only_if (g.comdat && has_signature g.signature before) (k, g)))
group_flag before marks k s g agree lt =
    by (g.comdat && is_seen marks.seen g.signature)
    ∙ ap (λ b. get_or marks.flags s false || list_any (has_member k s) (only_if (g.comdat && b) (k, g))) (sym (agree g.signature))
  where
    by : (b : Bool) → get_or (if b then marked marks.flags g.members else marks.flags) s false ≡ (get_or marks.flags s false || list_any (has_member k s) (only_if b (k, g)))
    by true =
        marked_at g.members marks.flags s lt
        ∙ ap (λ b. get_or marks.flags s false || b)
        (sym (or_false (has_member k s (k, g)) ∙ ap (λ b. b && list_any (λ m. m == s) g.members) (eq-eqb k k refl)))
    by false = sym (or_false (get_or marks.flags s false))

-- ---- the groups of an object

abbrev own : ℕ → List Group → List (ℕ × Group)
own k gs = map (λ g. (k, g)) gs

groups_count : (gs : List Group) (marks : Marks) → length (fold after_group marks gs).flags ≡ length marks.flags
groups_count [] marks = refl
groups_count (g ∷ gs) marks = groups_count gs (after_group marks g) ∙ group_count marks g

groups_seen : (gs : List Group) (before : List (ℕ × Group)) (marks : Marks) (k : ℕ) → Agree before marks.seen → Agree (before ++ own k gs) (fold after_group marks gs).seen
groups_seen [] before marks k agree = subst (λ all. Agree all marks.seen) (sym (append-nil before)) agree
groups_seen (g ∷ gs) before marks k agree =
    subst (λ all. Agree all (fold after_group (after_group marks g) gs).seen) (append_assoc before ((k, g) ∷ []) (own k gs))
    (groups_seen gs (before ++ (k, g) ∷ []) (after_group marks g) k (seen_more before marks.seen k g agree))

groups_flag : (gs : List Group) (before : List (ℕ × Group)) (marks : Marks) (k s : ℕ) → Agree before marks.seen → s < length marks.flags
    → get_or (fold after_group marks gs).flags s false ≡ (get_or marks.flags s false || list_any (has_member k s) (repeated_after before (own k gs)))
groups_flag [] before marks k s agree lt = sym (or_false (get_or marks.flags s false))
groups_flag (g ∷ gs) before marks k s agree lt =
    let first = only_if (g.comdat && has_signature g.signature before) (k, g) in
    let rest = repeated_after (before ++ (k, g) ∷ []) (own k gs) in
    groups_flag gs (before ++ (k, g) ∷ []) (after_group marks g) k s (seen_more before marks.seen k g agree) (omega (arith, lt, group_count marks g))
    ∙ ap (λ b. b || list_any (has_member k s) rest) (group_flag before marks k s g agree lt)
    ∙ or_assoc (get_or marks.flags s false) (list_any (has_member k s) first) (list_any (has_member k s) rest)
    ∙ ap (λ b. get_or marks.flags s false || b) (sym (list_any-append (has_member k s) first rest))

-- ---- the groups of other objects

repeated-append : (xs ys before : List (ℕ × Group)) → repeated_after before (xs ++ ys) ≡ repeated_after before xs ++ repeated_after (before ++ xs) ys
repeated-append [] ys before = ap (λ b. repeated_after b ys) (sym (append-nil before))
repeated-append (x ∷ xs) ys before =
    let first = only_if (x.1.comdat && has_signature x.1.signature before) x in
    let after = before ++ x ∷ [] in
    ap (λ r. first ++ r) (repeated-append xs ys after ∙ ap (λ b. repeated_after after xs ++ repeated_after b ys) (append_assoc before (x ∷ []) xs))
    ∙ sym (append_assoc first (repeated_after after xs) (repeated_after (before ++ x ∷ xs) ys))

none_of_own : (gs : List Group) (before : List (ℕ × Group)) (k i s : ℕ) → k ≢ i → list_any (has_member i s) (repeated_after before (own k gs)) ≡ false
none_of_own [] before k i s differ = refl
none_of_own (g ∷ gs) before k i s differ =
    let first = only_if (g.comdat && has_signature g.signature before) (k, g) in
    let rest = repeated_after (before ++ (k, g) ∷ []) (own k gs) in
    list_any-append (has_member i s) first rest
    ∙ or_from (list_any (has_member i s) first) (list_any (has_member i s) rest) (by (g.comdat && has_signature g.signature before))
    (none_of_own gs (before ++ (k, g) ∷ []) k i s differ)
  where
    by : (b : Bool) → list_any (has_member i s) (only_if b (k, g)) ≡ false
    by true = or_false (has_member i s (k, g)) ∙ and_left (k == i) (list_any (λ m. m == s) g.members) (ne_eqb k i differ)
    by false = refl

abbrev groups_in : List (ℕ × ObjectRecord) → List (ℕ × Group)
groups_in os = flat_map (λ o. map (λ group. (o.0, group)) o.1.groups) os

-- what the groups of one object and of all later ones drop
parted : (o : ObjectRecord) (os : List ObjectRecord) (before : List (ℕ × Group)) (k i s : ℕ)
    → list_any (has_member i s) (repeated_after before (groups_in (enumerate_from k (o ∷ os))))
    ≡ (list_any (has_member i s) (repeated_after before (own k o.groups)) || list_any (has_member i s) (repeated_after (before ++ own k o.groups) (groups_in (enumerate_from (k + 1) os))))
parted o os before k i s =
    ap (list_any (has_member i s)) (repeated-append (own k o.groups) (groups_in (enumerate_from (k + 1) os)) before)
    ∙ list_any-append (has_member i s) (repeated_after before (own k o.groups)) (repeated_after (before ++ own k o.groups) (groups_in (enumerate_from (k + 1) os)))

none_of_later : (os : List ObjectRecord) (before : List (ℕ × Group)) (k i s : ℕ) → i < k → list_any (has_member i s) (repeated_after before (groups_in (enumerate_from k os))) ≡ false
none_of_later [] before k i s lt = refl
none_of_later (o ∷ os) before k i s lt =
    parted o os before k i s
    ∙ or_from (list_any (has_member i s) (repeated_after before (own k o.groups)))
    (list_any (has_member i s) (repeated_after (before ++ own k o.groups) (groups_in (enumerate_from (k + 1) os))))
    (none_of_own o.groups before k i s (λ e. absurd (omega (arith, lt, e))))
    (none_of_later os (before ++ own k o.groups) (k + 1) i s (omega (arith, lt)))

-- ---- what is listed

listed : (test : ℕ → Bool) (k a n : ℕ) → filter_map (member_for k) (enumerate_from a (map test (range_with_len a n))) ≡ map (section_of k) (filter test (range_with_len a n))
listed test k a zero = refl
listed test k a (suc n) = by (test a) (listed test k (a + 1) n)
  where
    by : (b : Bool)
        → filter_map (member_for k) (enumerate_from (a + 1) (map test (range_with_len (a + 1) n))) ≡ map (section_of k) (filter test (range_with_len (a + 1) n))
        → cons_option (if b then Some (section_of k a) else None) (filter_map (member_for k) (enumerate_from (a + 1) (map test (range_with_len (a + 1) n))))
        ≡ map (section_of k) (if b then a ∷ filter test (range_with_len (a + 1) n) else filter test (range_with_len (a + 1) n))
    by true later = ap (λ ms. section_of k a ∷ ms) later
    by false later = later

abbrev blank : List (List ℕ) → ObjectRecord → Marks
blank seen o = record { seen = seen; flags = replicate (length o.sections) false }

pub object_count : (seen : List (List ℕ)) (o : ObjectRecord) → length (after_groups seen o).flags ≡ length o.sections
object_count seen o = groups_count o.groups (blank seen o) ∙ length-replicate (length o.sections) false

object_listed : (o : ObjectRecord) (before : List (ℕ × Group)) (seen : List (List ℕ)) (k : ℕ) (test : ℕ → Bool) → Agree before seen
    → ((s : ℕ) → test s ≡ list_any (has_member k s) (repeated_after before (own k o.groups)))
    → members_by k (after_groups seen o).flags ≡ map (section_of k) (filter test (places 0 (length o.sections)))
object_listed o before seen k test agree tests =
    let n = length o.sections in
    let flags = (after_groups seen o).flags in
    let start = blank seen o in
    let same : flags ≡ map test (range_with_len 0 n) =
    fill_by_all test flags n false (object_count seen o)
    (λ s lt.
    groups_flag o.groups before start k s agree (omega (arith, lt, length-replicate n false))
    ∙ ap (λ b. b || list_any (has_member k s) (repeated_after before (own k o.groups))) (get_or-replicate n s false false lt)
    ∙ sym (tests s)) in
    ap (λ fs. members_by k fs) same ∙ listed test k 0 n ∙ ap (λ m. map (section_of k) (filter test (range_with_len 0 m))) (sym (sub-zero n))

abbrev sections_by : (ℕ → ℕ → Bool) → List (ℕ × ObjectRecord) → List Member
sections_by test os = flat_map (λ o. map (section_of o.0) (filter (test o.0) (places 0 (length o.1.sections)))) os

all_listed : (os : List ObjectRecord) (k : ℕ) (before : List (ℕ × Group)) (so_far : Dropped) (test : ℕ → ℕ → Bool) → Agree before so_far.seen
    → ((i s : ℕ) → k ≤ i → test i s ≡ list_any (has_member i s) (repeated_after before (groups_in (enumerate_from k os))))
    → (fold after_object so_far (enumerate_from k os)).members ≡ so_far.members ++ sections_by test (enumerate_from k os)
all_listed [] k before so_far test agree tests = sym (append-nil so_far.members)
all_listed (o ∷ os) k before so_far test agree tests =
    let mine = map (section_of k) (filter (test k) (places 0 (length o.sections))) in
    let rest = sections_by test (enumerate_from (k + 1) os) in
    let later = groups_in (enumerate_from (k + 1) os) in
    let after = before ++ own k o.groups in
    let here : (s : ℕ) → test k s ≡ list_any (has_member k s) (repeated_after before (own k o.groups)) = λ s.
    tests k s (omega arith) ∙ parted o os before k k s
    ∙ ap (λ b. list_any (has_member k s) (repeated_after before (own k o.groups)) || b) (none_of_later os after (k + 1) k s (omega arith))
    ∙ or_false (list_any (has_member k s) (repeated_after before (own k o.groups))) in
    let there : (i s : ℕ) → k + 1 ≤ i → test i s ≡ list_any (has_member i s) (repeated_after after later) = λ i s le.
    tests i s (omega (arith, le)) ∙ parted o os before k i s
    ∙ ap (λ b. b || list_any (has_member i s) (repeated_after after later)) (none_of_own o.groups before k i s (λ e. absurd (omega (arith, le, e)))) in
    all_listed os (k + 1) after (after_object so_far (k, o)) test (groups_seen o.groups before (blank so_far.seen o) k agree) there
    ∙ ap (λ ms. (so_far.members ++ ms) ++ rest) (object_listed o before so_far.seen k (test k) agree here)
    ∙ append_assoc so_far.members mine rest

abbrev pub nothing : Dropped
nothing = record { seen = []; members = [] }

dropped_all : (objects : List ObjectRecord) → (fold after_object nothing (enumerate_from 0 objects)).members ≡ dropped_sections objects
unfolding dropped_sections is_dropped
dropped_all objects = all_listed objects 0 [] nothing (is_dropped objects) (λ name. refl) (λ i s le. refl)

-- ---- a loop over objects

pub object_more : (objects : List ObjectRecord) (i : ℕ) (o : ObjectRecord) (old new : Dropped) → i < length objects → o ≡ get_or objects i o
    → old ≡ fold after_object nothing (take i (enumerate_from 0 objects)) → new ≡ after_object old (i, o) → new ≡ fold after_object nothing (take (i + 1) (enumerate_from 0 objects))
object_more objects i o old new lt is before after =
    let along : i < length (enumerate_from 0 objects) = omega (arith, lt, length-enumerate_from 0 objects) in
    let at : get_or (enumerate_from 0 objects) i (0, o) ≡ (i, o) = get_or-enumerate_from 0 objects i (0, o) lt ∙ ap (λ k. (k, get_or objects i o)) (zero-add i) ∙ ap (λ p. (i, p)) (sym is) in
    after ∙ ap (λ d. after_object d (i, o)) before
    ∙ ap (λ p. after_object (fold after_object nothing (take i (enumerate_from 0 objects))) p) (sym at)
    ∙ sym (fold_more after_object nothing (enumerate_from 0 objects) i (0, o) along)

pub objects_end : (objects : List ObjectRecord) (i : ℕ) (all : Dropped) → length objects ≤ i → all ≡ fold after_object nothing (take i (enumerate_from 0 objects)) → all.members ≡ dropped_sections objects
objects_end objects i all past is =
    ap (λ d. d.members) is
    ∙ ap (λ os. (fold after_object nothing os).members) (take_all i (enumerate_from 0 objects) (omega (arith, past, length-enumerate_from 0 objects)))
    ∙ dropped_all objects
