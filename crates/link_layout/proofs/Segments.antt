-- The segments hold the contents of the image, with sizes in 128 bits.
use Rattle.std.proofs.Common.{◌≡◌, ℕ, ◌+◌, max, List, [], ◌∷◌, ◌++◌, map, refl, ap, sym, ◌∙◌, Bool, true, false}
use Rattle.std.specs.Prelude.{filter, fold, if◌then◌else◌}
use Rattle.elf_object.specs.declared.constants.TheConstants.{SHT_NOBITS}
use Rattle.link_core.specs.declared.output.OutClass.{OutClass}
use Rattle.link_core.specs.declared.output.OutClass.TheVariants as classes
use Rattle.link_core.specs.Aligned.{aligned, end_from}
use Rattle.link_core.specs.Commons.{Item as Standing, item_align, item_size, items_of, outputs_by}
use Rattle.link_core.specs.Contents.{executed_contents, first_kind, is_zeros, output_flags, output_section, outputs_in, read_contents, thread_contents, thread_zeros, written_contents}
use Rattle.link_core.specs.OutputNames.{Output, is_executable, pieces_of, same_class}
use Rattle.link_core.specs.Planned.{Planned, pieces_in}
use Rattle.std.specs.List.{list_any}
use Rattle.link_tables.specs.declared.output.FilledOutput.{FilledOutput}
use Rattle.link_tables.specs.declared.section.Section.{Section}
use Rattle.link_tables.specs.Capped.{capped}
use Rattle.link_tables.specs.Counts.{counts_of}
use Rattle.link_tables.specs.Filled.{filled, item_of, outputs_filled}
use Rattle.link_tables.specs.Sections.{code_tables, read_tables, shown, written_tables}
use Rattle.link_tables.proofs.Shown.{code_shown, read_shown, written_shown}
use Rattle.link_places.specs.declared.segments.Segments.{Segments}
use Rattle.link_places.specs.Segments.{section_of, sections_in, segments_of}

greatest_filled : (j : Planned) (a : ℕ) (items : List Standing) → fold (λ a x. max a x.align) a (map (item_of j) items) ≡ fold (λ a x. max a (item_align j x)) a items
greatest_filled j a [] = refl
greatest_filled j a (x ∷ xs) = greatest_filled j (max a (item_align j x)) xs

pub end_filled :
    (j : Planned) (at : ℕ) (items : List Standing)
    → end_from (λ i. i.align) (λ i. i.size) at (map (item_of j) items) ≡ end_from (item_align j) (item_size j) at items
unfolding end_from
end_filled j at [] = refl
end_filled j at (x ∷ xs) = end_filled j (aligned (item_align j x) at + item_size j x) xs

section_shown : (j : Planned) (o : Output) → section_of (filled j o) ≡ shown (output_section j o)
unfolding section_of filled output_section
section_shown j o =
    let align = greatest_filled j 1 (items_of j o) in
    let size = end_filled j 0 (items_of j o) in
    let pieces = pieces_of (pieces_in j) o in
    λ i. record {
      name = o.name;
      kind = if is_zeros o.class then SHT_NOBITS else first_kind pieces;
      flags = output_flags o.class (list_any (λ p. is_executable p.input) pieces);
      align = align i;
      size = capped (size i);
    }

section_step :
    (j : Planned) (there : Bool) (o : Output) (fs : List FilledOutput) (os : List Output)
    → map section_of fs ≡ map shown (map (output_section j) os)
    → map section_of (if there then filled j o ∷ fs else fs) ≡ map shown (map (output_section j) (if there then o ∷ os else os))
section_step j true o fs os rest = λ i. section_shown j o i ∷ rest i
section_step j false o fs os rest = rest

sections_shown :
    (j : Planned) (class : OutClass) (outputs : List Output)
    → sections_in class (map (filled j) outputs)
    ≡ map shown (map (output_section j) (filter (λ o. same_class o.class class) outputs))
unfolding filled
sections_shown j class [] = refl
sections_shown j class (o ∷ outputs) =
    section_step j (same_class o.class class) o (filter (λ p. same_class p.class class) (map (filled j) outputs))
    (filter (λ p. same_class p.class class) outputs) (sections_shown j class outputs)

pub outputs_shown : (j : Planned) (class : OutClass) → sections_in class (outputs_filled j) ≡ map shown (outputs_in class j)
unfolding outputs_in
outputs_shown j class = sections_shown j class (outputs_by j)

-- ---- segment by segment

abbrev pub segments_by : Planned → Segments
segments_by j = segments_of (counts_of j) (outputs_filled j)

pub read_is : (j : Planned) → (segments_by j).read ≡ map shown (read_contents j)
unfolding segments_of
read_is j = ap (λ (xs : List Section). read_tables (counts_of j) ++ xs) (outputs_shown j classes.R) ∙ sym (read_shown j)

pub code_is : (j : Planned) → (segments_by j).code ≡ map shown (executed_contents j)
unfolding segments_of
code_is j = ap (λ (xs : List Section). code_tables (counts_of j) ++ xs) (outputs_shown j classes.X) ∙ sym (code_shown j)

pub thread_is : (j : Planned) → (segments_by j).thread ≡ map shown (thread_contents j)
unfolding segments_of
thread_is j = outputs_shown j classes.T

pub zeros_is : (j : Planned) → (segments_by j).zeros ≡ map shown (thread_zeros j)
unfolding segments_of
zeros_is j = outputs_shown j classes.Z

pub written_is : (j : Planned) → (segments_by j).written ≡ map shown (written_contents j)
unfolding segments_of
written_is j =
    let w = outputs_shown j classes.W in
    let b = outputs_shown j classes.B in
    (λ i. written_tables (counts_of j) ++ w i ++ b i) ∙ sym (written_shown j)
