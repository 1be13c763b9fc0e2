-- Numbers of sections: they are small, and that of .bss is counted from the last section.
use Rattle.std.proofs.Common.{◌≡◌, ◌<◌, ◌≤◌, ◌+◌, ℕ, zero, suc, cond, Bool, true, false, List, [], ◌∷◌, ◌++◌, length, map, take, Result, Ok, Some, refl, sym, ap, ◌∙◌, arith}
use Rattle.std.specs.List.{AllByRecursion, list_any, position_or_len}
use Rattle.std.specs.Option.{option_map_or}
use Rattle.std.specs.Prelude.{All, filter, find, nat_le, nat_lt, not, slice_get, ◌||◌}
use Rattle.std.proofs.lemmas.Bool.Decides.{nat_tests}
use Rattle.std.proofs.lemmas.List.{length-append, length-map, map-append}
use Rattle.std.proofs.lemmas.List.Elements.{recursion_from_All}
use Rattle.ifs_bytes.specs.Outcome.{check, ◌>>=◌}
use Rattle.link_core.specs.declared.layout.Layout.{Layout}
use Rattle.link_core.specs.declared.layout.OutSection.{OutSection}
use Rattle.link_core.specs.declared.layout.PieceAt.{PieceAt}
use Rattle.link_core.specs.declared.output.OutClass.{OutClass}
use Rattle.link_core.specs.declared.output.OutClass.TheVariants as classes
use Rattle.link_core.specs.declared.refusal.LinkRefusal.{LinkRefusal}
use Rattle.link_core.specs.declared.tables.TheConstants.{MOST_IMAGE_BYTES, MOST_OUTPUT_SECTIONS}
use Rattle.link_core.specs.Commons.{bss, outputs_by}
use Rattle.link_core.specs.Contents.{Content, contents_of, has_plt, outputs_in}
use Rattle.link_core.specs.Entries.{rela_dyn_count}
use Rattle.link_core.specs.Exports.{is_shared}
use Rattle.link_core.specs.Layout.{image_span, layout_by, layout_in, layout_of, names_size, output_position, too_large}
use Rattle.link_core.specs.OutputNames.{Output, same_class, same_output}
use Rattle.link_core.specs.Places.{section_position}
use Rattle.link_core.specs.Planned.{Planned}
use Rattle.link_core.specs.Slots.{word_count}
use Rattle.link_layout.proofs.Found.{all_parts, code_own, first_of, of_class, position_at, read_own, rt, written_own, wt, xt}
use Rattle.link_layout.proofs.Standing.{is_bss as bss_itself, pieces_within}
use Rattle.link_layout.proofs.Within.{sections_the_contents}
use Rattle.link_tables.specs.declared.output.FilledOutput.{FilledOutput}
use Rattle.link_tables.specs.Filled.{filled, outputs_filled}
use Rattle.link_layout.specs.Laws.{IsLayoutOf}
use Rattle.link_dynsym.specs.Rows.{before_bss, bss_number, is_bss, is_zeroed}

-- ---- how many sections there are

passed : (b : Bool) (e : LinkRefusal) (rest : Result Layout LinkRefusal) (l : Layout) → (check b e >>= (λ _. rest)) ≡ Ok l → (b ≡ true) × (rest ≡ Ok l)
passed true e rest l given = (refl, given)
passed false e rest l given = cc

few : (n : ℕ) → nat_le n MOST_OUTPUT_SECTIONS ≡ true → n ≤ 60000
few n e = grind (arith, nat_tests)

outputs_few : (j : Planned) (l : Layout) → IsLayoutOf j l → length (outputs_by j) ≤ 60000
unfolding layout_of layout_in
outputs_few j l given =
    let third = check (nat_le (names_size j) MOST_IMAGE_BYTES) (too_large (names_size j)) >>= (λ _. Ok (layout_by j)) in
    let second = check (nat_le (length (outputs_by j)) MOST_OUTPUT_SECTIONS) (too_large (length (outputs_by j))) >>= (λ _. third) in
    let one = passed (nat_le (image_span j) MOST_IMAGE_BYTES) (too_large (image_span j)) second l given in
    let two = passed (nat_le (length (outputs_by j)) MOST_OUTPUT_SECTIONS) (too_large (length (outputs_by j))) third l one.1 in
    few (length (outputs_by j)) two.0

-- each output section is of one class
class_step :
    (c : OutClass) (o : Output) (r x t z w b : List Output) (n : ℕ)
    → length r + length x + length t + length z + length w + length b ≡ n
    → length (cond (same_class c classes.R) (o ∷ r) r) + length (cond (same_class c classes.X) (o ∷ x) x)
    + length (cond (same_class c classes.T) (o ∷ t) t) + length (cond (same_class c classes.Z) (o ∷ z) z)
    + length (cond (same_class c classes.W) (o ∷ w) w) + length (cond (same_class c classes.B) (o ∷ b) b)
    ≡ suc n
class_step classes.R o r x t z w b n e = omega (arith, e)
class_step classes.X o r x t z w b n e = omega (arith, e)
class_step classes.W o r x t z w b n e = omega (arith, e)
class_step classes.T o r x t z w b n e = omega (arith, e)
class_step classes.Z o r x t z w b n e = omega (arith, e)
class_step classes.B o r x t z w b n e = omega (arith, e)

by_class :
    (os : List Output)
    → length (of_class classes.R os) + length (of_class classes.X os) + length (of_class classes.T os)
    + length (of_class classes.Z os) + length (of_class classes.W os) + length (of_class classes.B os)
    ≡ length os
by_class [] = refl
by_class (o ∷ os) =
    class_step o.class o (of_class classes.R os) (of_class classes.X os) (of_class classes.T os) (of_class classes.Z os) (of_class classes.W os) (of_class classes.B os)
    (length os) (by_class os)

in_class : (j : Planned) (class : OutClass) → length (outputs_in class j) ≡ length (of_class class (outputs_by j))
unfolding outputs_in
in_class j class = length-map (of_class class (outputs_by j)) _

read_few : (p m c : Bool) (j : Planned) → length (read_own p m c j) ≤ 6
read_few true true true j = omega arith
read_few true true false j = omega arith
read_few true false true j = omega arith
read_few true false false j = omega arith
read_few false true true j = omega arith
read_few false true false j = omega arith
read_few false false true j = omega arith
read_few false false false j = omega arith

code_few : (c : Bool) (j : Planned) → length (code_own c j) ≤ 1
code_few true j = omega arith
code_few false j = omega arith

written_few : (w : Bool) (j : Planned) → length (written_own w j) ≤ 3
written_few true j = omega arith
written_few false j = omega arith

module _ (a b c d e f g h i : List Content) where
  nine_last : length ((a ++ b) ++ (c ++ d) ++ e ++ f ++ (g ++ h ++ i)) ≡ length ((a ++ b) ++ (c ++ d) ++ e ++ f ++ (g ++ h)) + length i
  nine_last =
      let all = length-append ((a ++ b) ++ (c ++ d) ++ e ++ f) (g ++ h ++ i) in
      let last = length-append (g ++ h) i in
      let front = length-append ((a ++ b) ++ (c ++ d) ++ e ++ f) (g ++ h) in
      omega (arith, all, last, front)

  nine_all : length ((a ++ b) ++ (c ++ d) ++ e ++ f ++ (g ++ h ++ i)) ≡ (length a + length c + length g) + (length b + length d + length e + length f + length h + length i)
  nine_all =
      let all = length-append ((a ++ b) ++ (c ++ d) ++ e ++ f) (g ++ h ++ i) in
      let last = length-append (g ++ h) i in
      let gh = length-append g h in
      let f0 = length-append ((a ++ b) ++ (c ++ d) ++ e) f in
      let e0 = length-append ((a ++ b) ++ (c ++ d)) e in
      let cd = length-append c d in
      let ab = length-append a b in
      let abcd = length-append (a ++ b) (c ++ d) in
      omega (arith, all, last, gh, f0, e0, cd, ab, abcd)

few_in_all : (n r x t z w b o tr tx tw cr cx ct cz cw cb : ℕ) → n ≡ (tr + tx + tw) + (r + x + t + z + w + b) → tr ≤ 6 → tx ≤ 1 → tw ≤ 3
    → r ≡ cr → x ≡ cx → t ≡ ct → z ≡ cz → w ≡ cw → b ≡ cb → cr + cx + ct + cz + cw + cb ≡ o → o ≤ 60000 → n ≤ 60010
few_in_all n r x t z w b o tr tx tw cr cx ct cz cw cb e fr fx fw er ex et ez ew eb all low = omega (arith, e, fr, fx, fw, er, ex, et, ez, ew, eb, all, low)

-- those of the class of .bss are the last ones
last_ones : (j : Planned) → length (contents_of j) ≡ length (first_of classes.B j) + length (of_class classes.B (outputs_by j))
last_ones j =
    ap (λ (cs : List Content). length cs) (all_parts j)
    ∙ nine_last (rt j) (outputs_in classes.R j) (xt j) (outputs_in classes.X j) (outputs_in classes.T j) (outputs_in classes.Z j) (wt j) (outputs_in classes.W j) (outputs_in classes.B j)
    ∙ ap (λ (n : ℕ). length (first_of classes.B j) + n) (in_class j classes.B)

all_few : (j : Planned) → length (outputs_by j) ≤ 60000 → length (contents_of j) ≤ 60010
all_few j low =
    let os = outputs_by j in
    few_in_all (length (contents_of j)) (length (outputs_in classes.R j)) (length (outputs_in classes.X j)) (length (outputs_in classes.T j)) (length (outputs_in classes.Z j)) (length (outputs_in classes.W j)) (length (outputs_in classes.B j))
    (length os) (length (rt j)) (length (xt j)) (length (wt j))
    (length (of_class classes.R os)) (length (of_class classes.X os)) (length (of_class classes.T os)) (length (of_class classes.Z os)) (length (of_class classes.W os)) (length (of_class classes.B os))
    (ap (λ (cs : List Content). length cs) (all_parts j)
    ∙ nine_all (rt j) (outputs_in classes.R j) (xt j) (outputs_in classes.X j) (outputs_in classes.T j) (outputs_in classes.Z j) (wt j) (outputs_in classes.W j) (outputs_in classes.B j))
    (read_few (not (is_shared j.options.kind)) (nat_lt 0 (rela_dyn_count j)) (has_plt j) j) (code_few (has_plt j) j) (written_few (nat_lt 0 (word_count j)) j)
    (in_class j classes.R) (in_class j classes.X) (in_class j classes.T) (in_class j classes.Z) (in_class j classes.W) (in_class j classes.B)
    (by_class os) low

sections_few : (j : Planned) (l : Layout) → IsLayoutOf j l → length l.sections ≤ 60010
sections_few j l made =
    let contents = all_few j (outputs_few j l made) in
    let as_many = (sections_the_contents j l made).as_many in
    omega (arith, contents, as_many)

-- ---- the number of the section of a piece

get_below : (ss : List OutSection) (i : ℕ) (s : OutSection) → slice_get ss i ≡ Some s → i < length ss
get_below [] i s e = cc
get_below (x ∷ ss) zero s e = omega arith
get_below (x ∷ ss) (suc i) s e = omega (arith, get_below ss i s e)

low_found : (n : ℕ) (test : PieceAt → Bool) (ps : List PieceAt) → 0 < n → AllByRecursion (λ q. q.out < n) ps → option_map_or (λ q. q.out) (find test ps) 0 < n
low_found n test [] some all = some
low_found n test (q ∷ ps) some all = by (test q) (low_found n test ps some all.1)
  where
    by : (b : Bool) → option_map_or (λ q. q.out) (find test ps) 0 < n → option_map_or (λ q. q.out) (cond b (Some q) (find test ps)) 0 < n
    by true rest = all.0
    by false rest = rest

outs_low : (j : Planned) (l : Layout) → IsLayoutOf j l → AllByRecursion (λ q. q.out < 65535) l.pieces
outs_low j l made = recursion_from_All (λ q. q.out < 65535) l.pieces low_by
  where
    low_by : All (λ q. q.out < 65535) l.pieces
    low_by k d h =
        let stands = (pieces_within j l made k d h).stands in
        let low = get_below l.sections _ stands.section stands.there in
        let all = sections_few j l made in
        omega (arith, low, all)

pub number_fits : (j : Planned) (l : Layout) (object section : ℕ) → IsLayoutOf j l → section_position l object section < 65535
unfolding section_position
number_fits j l object section made = low_found 65535 _ l.pieces (omega arith) (outs_low j l made)

pub number_low : (j : Planned) (l : Layout) (object section n : ℕ) → IsLayoutOf j l → n ≡ section_position l object section → n + 1 < 65536
number_low j l object section n made is = omega (arith, is, number_fits j l object section made)

-- ---- the number of .bss

fewer_before : {X : Type 0} (test : X → Bool) (n : ℕ) (xs : List X) → length (filter test (take n xs)) ≤ length (filter test xs)
fewer_before test zero [] = omega arith
fewer_before test (suc n) [] = omega arith
fewer_before test zero (x ∷ xs) = omega arith
fewer_before test (suc n) (x ∷ xs) = by (test x) (fewer_before test n xs)
  where
    by : (b : Bool) → length (filter test (take n xs)) ≤ length (filter test xs)
        → length (cond b (x ∷ filter test (take n xs)) (filter test (take n xs))) ≤ length (cond b (x ∷ filter test xs) (filter test xs))
    by true e = omega (arith, e)
    by false e = e

pub bss_fits : (j : Planned) (l : Layout) → IsLayoutOf j l → bss_number (outputs_filled j) (length l.sections) < 65536
bss_fits j l made =
    let less = fewer_before is_zeroed (position_or_len is_bss (outputs_filled j)) (outputs_filled j) in
    let all = sections_few j l made in
    omega (arith, less, all)

record Split (j : Planned) (os : List Output) (n : ℕ) : Type 0 where
  before : List Output
  rest : List Output
  split : os ≡ before ++ bss ∷ rest
  place : length before ≡ n

split_step :
    (j : Planned) (b : Bool) (o : Output) (os : List Output) (n : ℕ) → same_output o bss ≡ b
    → (b ≡ false → Split j os n) → Split j (o ∷ os) (cond (not b) (1 + n) 0)
split_step j true o os n e next = record { before = []; rest = os; split = ap (λ (q : Output). q ∷ os) (bss_itself o e); place = refl }
split_step j false o os n e next =
    let at = next refl in
    let place = at.place in
    record { before = o ∷ at.before; rest = at.rest; split = ap (λ (qs : List Output). o ∷ qs) at.split; place = omega (arith, place) }

remains : (a b : Bool) → (a || b) ≡ true → a ≡ false → b ≡ true
remains true b e none = cc
remains false b e none = e

split_at : (j : Planned) (os : List Output) → list_any (λ o. same_output o bss) os ≡ true → Split j os (position_or_len is_bss (map (filled j) os))
unfolding filled
split_at j [] e = cc
split_at j (o ∷ os) e =
    split_step j (same_output o bss) o os (position_or_len is_bss (map (filled j) os)) refl
    (λ none. split_at j os (remains (same_output o bss) (list_any (λ q. same_output q bss) os) e none))

take_before : {X : Type 0} (before rest : List X) → take (length before) (before ++ rest) ≡ before
take_before [] rest = refl
take_before (b ∷ before) rest = ap (λ xs. b ∷ xs) (take_before before rest)

counted_step : (b : Bool) (f : FilledOutput) (o : Output) (fs : List FilledOutput) (os : List Output) → length fs ≡ length os → length (cond b (f ∷ fs) fs) ≡ length (cond b (o ∷ os) os)
counted_step true f o fs os e = ap suc e
counted_step false f o fs os e = e

counted : (j : Planned) (os : List Output) → length (filter is_zeroed (map (filled j) os)) ≡ length (of_class classes.B os)
unfolding filled
counted j [] = refl
counted j (o ∷ os) = counted_step (same_class o.class classes.B) (filled j o) o (filter is_zeroed (map (filled j) os)) (of_class classes.B os) (counted j os)

pub bss_is : (j : Planned) (l : Layout) → IsLayoutOf j l → list_any (λ o. same_output o bss) (outputs_by j) ≡ true → bss_number (outputs_filled j) (length l.sections) ≡ output_position j bss + 1
bss_is j l made there =
    let at = split_at j (outputs_by j) there in
    let split = at.split in
    let fs = map (filled j) at.before in
    let place : position_or_len is_bss (outputs_filled j) ≡ length fs = sym at.place ∙ sym (length-map at.before (filled j)) in
    let all : outputs_filled j ≡ fs ++ filled j bss ∷ map (filled j) at.rest = ap (map (filled j)) split ∙ map-append (filled j) at.before (bss ∷ at.rest) in
    let ahead : before_bss (outputs_filled j) ≡ fs = (λ i. take (place i) (all i)) ∙ take_before fs (filled j bss ∷ map (filled j) at.rest) in
    let few_ahead = ap (λ (xs : List FilledOutput). length (filter is_zeroed xs)) ahead ∙ counted j at.before in
    let every = counted j (outputs_by j) in
    let here = position_at j at.before at.rest bss split in
    let whole = last_ones j in
    let as_many = (sections_the_contents j l made).as_many in
    omega (arith, few_ahead, every, here, whole, as_many)
