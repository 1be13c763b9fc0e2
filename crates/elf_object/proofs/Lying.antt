-- The bytes of sections that a search refused lie in the file.
use Rattle.std.proofs.Common.{◌≡◌, ℕ, ◌+◌, ◌<◌, ◌≤◌, Bool, true, false, not, List, length, Some, None, refl, sym, ap, ◌∙◌}
use Rattle.std.specs.Prelude.{◌&&◌, ◌||◌, ◌==◌, nat_lt}
use Rattle.std.proofs.lemmas.Bool.{not-false, leb-true, eqb-true, ltb-false, and_parts, or_parts}
use Rattle.ifs_bytes.specs.Field.{lies}
use Rattle.elf_file.specs.Header.{section_in}
use Rattle.elf_file.specs.declared.header.Header.{Header}
use Rattle.elf_file.specs.declared.section.SectionHeader.{SectionHeader}
use Rattle.elf_object.specs.declared.constants.TheConstants.{SHT_REL, SHT_RELA, MOST_ENTRIES}
use Rattle.elf_object.specs.declared.parts.Parts.{Parts}
use Rattle.elf_object.specs.Parts.{SpanLies, SectionsLie, span_of, has_bytes, is_outside, outside}
use Rattle.elf_object.specs.Groups.{is_bad_group, bad_group}
use Rattle.elf_object.specs.References.{is_table, is_table_for, first_table, entry_count, is_bad_as_table, is_bad_table, bad_table}
use Rattle.elf_object.specs.Sections.{is_loadable_at}
use Rattle.elf_object.proofs.Search.{found, none_found}

pub all_lie : (file : List ℕ) (h : Header) → outside file h ≡ None → SectionsLie file h
unfolding outside
all_lie file h none i lt has =
    let s = section_in file h i in
    let within : (has_bytes s && not (lies file s.offset s.size)) ≡ false = none_found (λ j. is_outside file (section_in file h j)) h.shnum i none lt in
    leb-true (s.offset + s.size) (length file) (not-false (lies file s.offset s.size) (sym (ap (λ b. b && not (lies file s.offset s.size)) has) ∙ within))

pub no_bad_group : (file : List ℕ) (h : Header) (p : Parts) (i : ℕ) → bad_group file h p ≡ None → i < h.shnum → is_bad_group file h p (section_in file h i) ≡ false
unfolding bad_group
no_bad_group file h p i none lt = none_found (λ j. is_bad_group file h p (section_in file h j)) h.shnum i none lt

pub table_has_bytes : (s : SectionHeader) → is_table s ≡ true → has_bytes s ≡ true
table_has_bytes s h = by (s.kind == SHT_REL) refl
  where
    of_kind : (kind : ℕ) → s.kind ≡ kind → (not (kind == 0 || kind == 8)) ≡ true → has_bytes s ≡ true
    of_kind kind same e = ap (λ k. not (k == 0 || k == 8)) same ∙ e

    by : (b : Bool) → (s.kind == SHT_REL) ≡ b → has_bytes s ≡ true
    by true e = of_kind 9 (eqb-true s.kind 9 e) refl
    by false e = of_kind 4 (eqb-true s.kind 4 (sym (ap (λ b. b || (s.kind == SHT_RELA)) e) ∙ h)) refl

pub record GoodTable (file : List ℕ) (h : Header) (i : ℕ) : Type 0 where
  pub there : i < h.shnum
  pub lie : SpanLies file (span_of (section_in file h i))
  pub few : entry_count (section_in file h i) ≤ MOST_ENTRIES

pub good_table : (file : List ℕ) (h : Header) (p : Parts) (s i : ℕ) → SectionsLie file h → bad_table file h p ≡ None → is_loadable_at file h p s ≡ true → first_table file h s ≡ Some i → GoodTable file h i
unfolding bad_table first_table is_bad_as_table
good_table file h p s i all none loaded first =
    let table = section_in file h i in
    let f = found (λ j. is_table_for s (section_in file h j)) h.shnum i first in
    let both = and_parts (is_table table) (table.info == s) f.passes in
    let loads : is_loadable_at file h p table.info ≡ true = ap (is_loadable_at file h p) (eqb-true table.info s both.1) ∙ loaded in
    let good : is_bad_table file h p i ≡ false = none_found (is_bad_table file h p) h.shnum i none f.below in
    let fine : is_bad_as_table file h p i ≡ false = sym (ap (λ b. b && is_bad_as_table file h p i) loads) ∙ (sym (ap (λ b. b && is_loadable_at file h p table.info && is_bad_as_table file h p i) both.0) ∙ good) in
    let few : nat_lt MOST_ENTRIES (entry_count table) ≡ false = (or_parts _ _ (or_parts _ _ (or_parts _ _ fine).0).0).1 in
    record { there = f.below; lie = all i f.below (table_has_bytes table both.0); few = ltb-false MOST_ENTRIES (entry_count table) few }
