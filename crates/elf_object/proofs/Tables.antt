-- The first table for each section, put down from the last section header to the first.
use Rattle.std.proofs.Common.{◌≡◌, ℕ, ◌+◌, ◌<◌, Bool, true, false, List, Option, Some, None, inl, inr, refl, sym, ap, ◌∙◌, arith}
use Rattle.std.specs.Prelude.{◌&&◌, ◌==◌, nat_lt, slice_set, slice_index_or}
use Rattle.std.proofs.lemmas.Bool.{cases_eq, eq-eqb, ne_eqb, ltb-false, ltb-true, and_parts}
use Rattle.std.proofs.lemmas.List.{length-set, get_or-set_other}
use Rattle.std.proofs.lemmas.Grind.{get_or-set_at}
use Rattle.std.specs.List.{find}
use Rattle.ifs_bytes.specs.Places.{places}
use Rattle.ifs_bytes.proofs.Range.{find_here, find_later}
use Rattle.elf_file.specs.Header.{section_in}
use Rattle.elf_file.specs.declared.header.Header.{Header}
use Rattle.elf_file.specs.declared.section.SectionHeader.{SectionHeader}
use Rattle.elf_object.specs.References.{is_table, is_table_for, names_section, AreFirstFrom}

-- section i is a table for the section that it names
pub noted : (file : List ℕ) (h : Header) (i : ℕ) (tables : List (Option ℕ)) → i < h.shnum → names_section h.shnum (section_in file h i) ≡ true
    → AreFirstFrom file h (i + 1) tables → AreFirstFrom file h i (slice_set tables (section_in file h i).info (Some i))
noted file h i tables lt names old =
    let table = section_in file h i in
    let both = and_parts (is_table table) (nat_lt table.info h.shnum) names in
    let inside = ltb-true table.info h.shnum both.1 in
    record {
      count = length-set tables table.info (Some i) ∙ old.count;
      first = λ s below.
          elim (cases_eq table.info s) as (λ _. slice_index_or (slice_set tables table.info (Some i)) s None ≡ find (λ j. is_table_for s (section_in file h j)) (places i h.shnum)) [
            | inl same ↦
                (let passes : is_table_for s table ≡ true = ap (λ b. b && (table.info == s)) both.0 ∙ eq-eqb table.info s same in
                get_or-set_at tables table.info s (Some i) None (sym same) (omega (arith, inside, old.count))
                ∙ sym (find_here (λ j. is_table_for s (section_in file h j)) i h.shnum lt passes))
            | inr differ ↦
                (let fails : is_table_for s table ≡ false = ap (λ b. b && (table.info == s)) both.0 ∙ ne_eqb table.info s differ in
                get_or-set_other tables table.info s (Some i) None (λ e. differ (sym e)) ∙ old.first s below
                ∙ sym (find_later (λ j. is_table_for s (section_in file h j)) i h.shnum lt fails))
          ];
    }

fails_for : (table : SectionHeader) (count s : ℕ) → s < count → names_section count table ≡ false → is_table_for s table ≡ false
fails_for table count s below none = by (is_table table) refl
  where
    by : (b : Bool) → is_table table ≡ b → is_table_for s table ≡ false
    by false e = ap (λ b. b && (table.info == s)) e
    by true e =
        let far : nat_lt table.info count ≡ false = sym (ap (λ b. b && nat_lt table.info count) e) ∙ none in
        let le = ltb-false table.info count far in
        ap (λ b. b && (table.info == s)) e ∙ ne_eqb table.info s (λ same. omega (arith, same, le, below))

-- section i is none
pub passed_over : (file : List ℕ) (h : Header) (i : ℕ) (tables : List (Option ℕ)) → i < h.shnum → names_section h.shnum (section_in file h i) ≡ false
    → AreFirstFrom file h (i + 1) tables → AreFirstFrom file h i tables
passed_over file h i tables lt none old = record {
  count = old.count;
  first = λ s below.
      old.first s below
      ∙ sym (find_later (λ j. is_table_for s (section_in file h j)) i h.shnum lt (fails_for (section_in file h i) h.shnum s below none));
}
