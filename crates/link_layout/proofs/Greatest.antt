-- The alignment of the thread-local segment is that of a section of an object, or 1.
use Rattle.std.proofs.Common.{◌≡◌, ℕ, ◌≤◌, max, List, [], ◌∷◌, ◌++◌, map, refl, ap, sym, ◌∙◌, arith, subst, suc, zero, cond, Option, Some, None, Bool, true, false}
use Rattle.std.specs.List.{AllByRecursion}
use Rattle.std.specs.Prelude.{All, filter, fold, if◌then◌else◌, option_and_then, option_map, slice_get}
use Rattle.std.proofs.lemmas.List.Elements.{All-weaker, recursion_from_All}
use Rattle.elf_object.specs.declared.section.ObjSection.{ObjSection}
use Rattle.elf_object.specs.Record.{ObjectRecord}
use Rattle.link_core.specs.declared.layout.Layout.{Layout}
use Rattle.link_core.specs.declared.output.OutClass.{OutClass}
use Rattle.link_core.specs.declared.output.OutClass.TheVariants as classes
use Rattle.link_core.specs.declared.resolution.Member.{Member}
use Rattle.link_core.specs.Commons.{CommonItem, Item as Standing, PieceItem, bss, item_align, items_of, outputs_by}
use Rattle.link_core.specs.Contents.{Content, output_section, outputs_in, thread_contents, thread_zeros}
use Rattle.link_core.specs.Kept.{section_of}
use Rattle.link_core.specs.Layout.{has_threads, layout_by, tls_align}
use Rattle.link_core.specs.OutputNames.{Output, Piece, same_class, same_output}
use Rattle.link_core.specs.Planned.{Planned}
use Rattle.link_layout.specs.Laws.{AlignAtMost, ThreadsAlignAsSections}
use Rattle.link_layout.proofs.Laid.{laid}
use Rattle.link_layout.proofs.Standing.{IsGiven, IsGivenItem, is_bss, items_given, piece_by}
use Rattle.link_layout.proofs.Within.{all_both}

fold_within : {X : Type 0} (f : X → ℕ) (m a : ℕ) (xs : List X) → a ≤ m → AllByRecursion (λ x. f x ≤ m) xs → fold (λ a x. max a (f x)) a xs ≤ m
fold_within f m a [] less all = less
fold_within f m a (x ∷ xs) less all =
    let here : f x ≤ m = all.0 in
    fold_within f m (max a (f x)) xs (omega (arith, less, here)) all.1

get_in : {X : Type 0} (P : X → Type 0) (xs : List X) (i : ℕ) (x : X) → AllByRecursion P xs → slice_get xs i ≡ Some x → P x
get_in P [] i x all there = cc
get_in P (y ∷ xs) zero x all there = let same : y ≡ x = cc in subst P same all.0
get_in P (y ∷ xs) (suc i) x all there = get_in P xs i x all.1 there

-- ---- alignments of sections

abbrev Small : ℕ → ObjSection → Type 0
Small m s = s.align ≤ m

abbrev Smalls : ℕ → ObjectRecord → Type 0
Smalls m o = AllByRecursion (Small m) o.sections

smalls : (m : ℕ) (objects : List ObjectRecord) → AlignAtMost m objects → AllByRecursion (Smalls m) objects
smalls m objects all =
    recursion_from_All (Smalls m) objects
    (All-weaker (λ o. All (Small m) o.sections) (Smalls m) (λ o each. recursion_from_All (Small m) o.sections each) objects all)

by_section : (m : ℕ) (at : Member) (o : ObjectRecord) (p : Piece) (s : Option ObjSection) → Smalls m o → slice_get o.sections at.section ≡ s → option_map (piece_by at) s ≡ Some p → p.input.align ≤ m
by_section m at o p None all there given = cc
by_section m at o p (Some s) all there given =
    let same : piece_by at s ≡ p = cc in
    let P : Piece → Type 0 = λ q. q.input.align ≤ m in
    subst P same (get_in (Small m) o.sections at.section s all there)

by_object :
    (m : ℕ) (objects : List ObjectRecord) (at : Member) (p : Piece) (o : Option ObjectRecord) → AllByRecursion (Smalls m) objects
    → slice_get objects at.object ≡ o → option_map (piece_by at) (option_and_then (λ o. slice_get o.sections at.section) o) ≡ Some p
    → p.input.align ≤ m
by_object m objects at p None all there given = cc
by_object m objects at p (Some o) all there given =
    by_section m at o p (slice_get o.sections at.section) (get_in (Smalls m) objects at.object o all there) refl given

given_small : (m : ℕ) (j : Planned) (p : Piece) → AllByRecursion (Smalls m) j.objects → IsGiven j p → p.input.align ≤ m
given_small m j p all given = by_object m j.objects (section_of p.object p.section) p (slice_get j.objects p.object) all refl given

-- ---- alignments of output sections

not_bss : (o : Output) (class : OutClass) → same_class classes.B class ≡ false → same_class o.class class ≡ true → same_output o bss ≡ true → true ≡ false
not_bss o class other own same = sym own ∙ ap (λ (q : Output). same_class q.class class) (is_bss o same) ∙ other

items_small :
    (m : ℕ) (j : Planned) (o : Output) (class : OutClass) (items : List Standing) → AllByRecursion (Smalls m) j.objects
    → same_class classes.B class ≡ false → same_class o.class class ≡ true → AllByRecursion (IsGivenItem j o) items
    → AllByRecursion (λ x. item_align j x ≤ m) items
items_small m j o class [] all other own given = tt
items_small m j o class (PieceItem piece ∷ items) all other own given = (given_small m j piece all given.0, items_small m j o class items all other own given.1)
items_small m j o class (CommonItem n ∷ items) all other own given = let no = not_bss o class other own given.0 in cc

abbrev IsLow : ℕ → Content → Type 0
IsLow m c = c.align ≤ m

output_small :
    (m : ℕ) (j : Planned) (o : Output) (class : OutClass) → 1 ≤ m → AllByRecursion (Smalls m) j.objects
    → same_class classes.B class ≡ false → same_class o.class class ≡ true → IsLow m (output_section j o)
unfolding output_section
output_small m j o class some all other own = fold_within (item_align j) m 1 (items_of j o) some (items_small m j o class (items_of j o) all other own (items_given j o))

group_step : (m : ℕ) (j : Planned) (o : Output) (os : List Output) (b : Bool) → (b ≡ true → IsLow m (output_section j o)) → AllByRecursion (IsLow m) (map (output_section j) os) → AllByRecursion (IsLow m) (map (output_section j) (cond b (o ∷ os) os))
group_step m j o os true here rest = (here refl, rest)
group_step m j o os false here rest = rest

group_small :
    (m : ℕ) (j : Planned) (class : OutClass) (os : List Output) → 1 ≤ m → AllByRecursion (Smalls m) j.objects → same_class classes.B class ≡ false
    → AllByRecursion (IsLow m) (map (output_section j) (filter (λ o. same_class o.class class) os))
group_small m j class [] some all other = tt
group_small m j class (o ∷ os) some all other =
    group_step m j o (filter (λ o. same_class o.class class) os) (same_class o.class class) (output_small m j o class some all other) (group_small m j class os some all other)

class_small : (m : ℕ) (j : Planned) (class : OutClass) → 1 ≤ m → AllByRecursion (Smalls m) j.objects → same_class classes.B class ≡ false → AllByRecursion (IsLow m) (outputs_in class j)
unfolding outputs_in
class_small m j class some all other = group_small m j class (outputs_by j) some all other

tls_align_small : (m : ℕ) (j : Planned) → 1 ≤ m → AllByRecursion (Smalls m) j.objects → tls_align j ≤ m
unfolding tls_align
tls_align_small m j some all =
    fold_within (λ c. c.align) m 1 (thread_contents j ++ thread_zeros j) some
    (all_both (IsLow m) (thread_contents j) (thread_zeros j) (class_small m j classes.T some all refl) (class_small m j classes.Z some all refl))

or_0 : (b : Bool) (n m : ℕ) → n ≤ m → (if b then n else 0) ≤ m
or_0 true n m less = less
or_0 false n m less = omega arith

by_layout : (j : Planned) (m : ℕ) → tls_align j ≤ m → (layout_by j).tls_align ≤ m
unfolding layout_by
by_layout j m less = or_0 (has_threads j) (tls_align j) m less

pub threads_align : ThreadsAlignAsSections
threads_align j l most given some all =
    let P : Layout → Type 0 = λ k. k.tls_align ≤ most in
    subst P (sym (laid j l given).is) (by_layout j most (tls_align_small most j some (smalls most j.objects all)))
