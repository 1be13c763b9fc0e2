-- Addresses and sizes in an image are small.
use Rattle.std.proofs.Common.{arith, ◌≡◌, ◌≤◌, ◌+◌, ◌*◌, ◌^◌, ℕ, zero, suc, Bool, true, false, List, [], ◌∷◌, ◌++◌, length, take, Option, Some, None, refl, sym, ap, ◌∙◌, subst}
use Rattle.std.specs.List.{AllByRecursion, position_or_len}
use Rattle.std.specs.Option.{option_map_or}
use Rattle.std.specs.Prelude.{codes, nat_lt, slice_get, sum_by}
use Rattle.std.proofs.lemmas.Bool.Decides.{nat_tests}
use Rattle.std.proofs.lemmas.List.Elements.{recursion_from_All}
use Rattle.std.proofs.lemmas.List.Sums.{sum_by-take-le}
use Rattle.link_core.specs.declared.layout.Layout.{Layout}
use Rattle.link_core.specs.declared.layout.OutSection.{OutSection}
use Rattle.link_core.specs.declared.options.OutKind.{OutKind}
use Rattle.link_core.specs.declared.options.OutKind.TheVariants as kinds
use Rattle.link_core.specs.declared.output.OutClass.TheVariants as classes
use Rattle.link_core.specs.declared.plan.GotSlot.{GotSlot}
use Rattle.link_core.specs.Contents.{Content, contents_of, dynamic_section, executed_contents, outputs_in, present, read_contents, slots_section, thread_contents, thread_zeros, written_contents}
use Rattle.link_core.specs.Entries.{dynamic_entries}
use Rattle.link_core.specs.Places.{table_address}
use Rattle.link_core.specs.Planned.{Planned}
use Rattle.link_core.specs.Plan.{same_slot}
use Rattle.link_core.specs.Slots.{word_count}
use Rattle.link_core.specs.Value.{slot_address}
use Rattle.link_tables.specs.Fills.{slot_words}
use Rattle.link_tables.proofs.SlotSizes.{words_counted, words_of as words_are}
use Rattle.link_index.specs.Index.{slot_place, word_place}
use Rattle.link_layout.specs.Laws.{IsInImage, IsLayoutOf, most_end}
use Rattle.link_layout.proofs.Within.{sections_the_contents, sections_within}

-- ---- sections

most_low : (kind : OutKind) → most_end kind ≤ 2 ^ 29
most_low kinds.Exec = omega arith
most_low kinds.Pie = omega arith
most_low kinds.Shared = omega arith

low_section : (kind : OutKind) (s : OutSection) → IsInImage kind s → (s.address ≤ 2 ^ 29) × (s.size ≤ 2 ^ 29)
low_section kind s within =
    let most = most_low kind in
    let end = within.1 in
    (omega (arith, most, end), omega (arith, most, end))

low_at : (kind : OutKind) (ss : List OutSection) (i : ℕ) (s : OutSection) → AllByRecursion (IsInImage kind) ss → slice_get ss i ≡ Some s → (s.address ≤ 2 ^ 29) × (s.size ≤ 2 ^ 29)
low_at kind [] i s all e = cc
low_at kind (x ∷ ss) zero s all e =
    let same : x ≡ s = cc in
    low_section kind s (subst (IsInImage kind) same all.0)
low_at kind (x ∷ ss) (suc i) s all e = low_at kind ss i s all.1 e

within : (j : Planned) (l : Layout) → IsLayoutOf j l → AllByRecursion (IsInImage j.options.kind) l.sections
within j l made = recursion_from_All (IsInImage j.options.kind) l.sections (sections_within j l made)

address_by : (kind : OutKind) (ss : List OutSection) (i : ℕ) (found : Option OutSection) → AllByRecursion (IsInImage kind) ss → slice_get ss i ≡ found → option_map_or (λ s. s.address) found 0 ≤ 2 ^ 29
address_by kind ss i (Some s) all e = (low_at kind ss i s all e).0
address_by kind ss i None all e = omega arith

size_by : (kind : OutKind) (ss : List OutSection) (i : ℕ) (found : Option OutSection) → AllByRecursion (IsInImage kind) ss → slice_get ss i ≡ found → option_map_or (λ s. s.size) found 0 ≤ 2 ^ 29
size_by kind ss i (Some s) all e = (low_at kind ss i s all e).1
size_by kind ss i None all e = omega arith

pub address_low : (j : Planned) (l : Layout) (at n : ℕ) → IsLayoutOf j l → n ≡ option_map_or (λ s. s.address) (slice_get l.sections at) 0 → n ≤ 2 ^ 29
address_low j l at n made is = let low = address_by j.options.kind l.sections at (slice_get l.sections at) (within j l made) refl in omega (arith, low, is)

pub size_low : (j : Planned) (l : Layout) (at n : ℕ) → IsLayoutOf j l → n ≡ option_map_or (λ s. s.size) (slice_get l.sections at) 0 → n ≤ 2 ^ 29
size_low j l at n made is = let low = size_by j.options.kind l.sections at (slice_get l.sections at) (within j l made) refl in omega (arith, low, is)

-- ---- contents

abbrev IsLow : Content → Type 0
IsLow c = c.size ≤ 2 ^ 29

all_each : (P : Content → Type 0) (cs : List Content) → ((i : ℕ) (c : Content) → slice_get cs i ≡ Some c → P c) → AllByRecursion P cs
all_each P [] each = tt
all_each P (c ∷ cs) each = (each 0 c refl, all_each P cs (λ i d e. each (suc i) d e))

all_left : (P : Content → Type 0) (xs ys : List Content) → AllByRecursion P (xs ++ ys) → AllByRecursion P xs
all_left P [] ys all = tt
all_left P (x ∷ xs) ys all = (all.0, all_left P xs ys all.1)

all_right : (P : Content → Type 0) (xs ys : List Content) → AllByRecursion P (xs ++ ys) → AllByRecursion P ys
all_right P [] ys all = all
all_right P (x ∷ xs) ys all = all_right P xs ys all.1

contents_low : (j : Planned) (l : Layout) → IsLayoutOf j l → AllByRecursion IsLow (contents_of j)
contents_low j l made = all_each IsLow (contents_of j) low
  where
    low : (i : ℕ) (c : Content) → slice_get (contents_of j) i ≡ Some c → c.size ≤ 2 ^ 29
    low i c there =
        (low_at j.options.kind l.sections i _ (within j l made) ((sections_the_contents j l made).each i c there)).1

written_low : (j : Planned) (l : Layout) → IsLayoutOf j l → AllByRecursion IsLow (written_contents j)
unfolding contents_of
written_low j l made =
    all_right IsLow (read_contents j ++ executed_contents j ++ thread_contents j ++ thread_zeros j) (written_contents j) (contents_low j l made)

module _ (a b c w z : List Content) (all : AllByRecursion IsLow (a ++ b ++ c ++ w ++ z)) where
  second : AllByRecursion IsLow b
  second = all_right IsLow a b (all_left IsLow (a ++ b) c (all_left IsLow (a ++ b ++ c) w (all_left IsLow (a ++ b ++ c ++ w) z all)))

  third : AllByRecursion IsLow c
  third = all_right IsLow (a ++ b) c (all_left IsLow (a ++ b ++ c) w (all_left IsLow (a ++ b ++ c ++ w) z all))

if_there : (b : Bool) (c : Content) → b ≡ true → AllByRecursion IsLow (present b c) → c.size ≤ 2 ^ 29
if_there true c there all = all.0
if_there false c there all = cc

words_by : (b : Bool) (n : ℕ) → nat_lt 0 n ≡ b → (b ≡ true → 8 * n ≤ 2 ^ 29) → 8 * n ≤ 2 ^ 29
words_by true n e next = next refl
words_by false n e next = grind (arith, nat_tests)

got_low : (j : Planned) (l : Layout) → IsLayoutOf j l → 8 * word_count j ≤ 2 ^ 29
unfolding written_contents
got_low j l made =
    words_by (nat_lt 0 (word_count j)) (word_count j) refl
    (λ there. if_there (nat_lt 0 (word_count j)) (slots_section (codes ".got") (word_count j)) there
    (second (present true (dynamic_section (length (dynamic_entries j)))) (present (nat_lt 0 (word_count j)) (slots_section (codes ".got") (word_count j)))
    (present true (slots_section (codes ".got.plt") (3 + length j.plan.plt))) (outputs_in classes.W j) (outputs_in classes.B j) (written_low j l made)))

slots_low : (j : Planned) (l : Layout) → IsLayoutOf j l → 8 * (3 + length j.plan.plt) ≤ 2 ^ 29
unfolding written_contents
slots_low j l made =
    if_there true (slots_section (codes ".got.plt") (3 + length j.plan.plt)) refl
    (third (present true (dynamic_section (length (dynamic_entries j)))) (present (nat_lt 0 (word_count j)) (slots_section (codes ".got") (word_count j)))
    (present true (slots_section (codes ".got.plt") (3 + length j.plan.plt))) (outputs_in classes.W j) (outputs_in classes.B j) (written_low j l made))

pub entries_few : (j : Planned) (l : Layout) → IsLayoutOf j l → 8 * (3 + length j.plan.plt) ≤ 2 ^ 29
entries_few j l made = slots_low j l made

-- ---- slots

pub words_fit : (j : Planned) (l : Layout) (slot : GotSlot) (n : ℕ) → IsLayoutOf j l → n ≡ word_place j.plan slot → 8 * n ≤ 2 ^ 29
unfolding word_place
words_fit j l slot n made is =
    let part = sum_by-take-le (λ g. slot_words g.slot) j.plan.got (slot_place j.plan slot) in
    let all = words_counted j in
    let low = got_low j l made in
    omega (arith, part, all, low, is)

pub slot_is :
    (j : Planned) (l : Layout) (slot : GotSlot) (at words : ℕ) → at ≡ table_address j l (codes ".got") → words ≡ word_place j.plan slot
    → at + 8 * words ≡ slot_address j l (position_or_len (same_slot slot) j.plan.got)
unfolding word_place slot_place slot_address
slot_is j l slot at words starts before =
    (λ i. starts i + 8 * before i)
    ∙ ap (λ n. table_address j l (codes ".got") + 8 * n)
    (λ i. sum_by (λ g. sym (words_are j g) i) (take (position_or_len (same_slot slot) j.plan.got) j.plan.got))
