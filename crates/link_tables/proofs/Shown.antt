-- The contents of the segments begin with the tables, which follow from the counts.
use Rattle.std.proofs.Common.{◌≡◌, ℕ, ◌+◌, ◌*◌, List, [], ◌∷◌, ◌++◌, map, length, refl, ap, sym, ◌∙◌, arith, Bool, true, false}
use Rattle.std.specs.Prelude.{codes, if◌then◌else◌, nat_lt, not}
use Rattle.std.proofs.lemmas.List.{map-append}
use Rattle.elf_object.specs.declared.constants.TheConstants.{SHT_PROGBITS, SHT_RELA, SHT_STRTAB}
use Rattle.link_core.specs.declared.output.OutClass.TheVariants as classes
use Rattle.link_core.specs.declared.tables.TheConstants.{SHT_DYNAMIC, SHT_DYNSYM, SHT_HASH}
use Rattle.link_core.specs.Contents.{Content, code_flags, data_flags, dynamic_section, executed_contents, interpreter_of, outputs_in, read_contents, read_flags, row_count, slots_section, written_contents}
use Rattle.link_core.specs.Entries.{dynamic_entries, rela_dyn_count}
use Rattle.link_core.specs.Exports.{is_shared}
use Rattle.link_core.specs.Planned.{Planned}
use Rattle.link_core.specs.Slots.{word_count}
use Rattle.link_core.specs.Strings.{dynamic_strings, string_table_size}
use Rattle.link_tables.specs.declared.section.Section.{Section}
use Rattle.link_tables.specs.Capped.{capped}
use Rattle.link_tables.specs.Counts.{counts_of}
use Rattle.link_tables.specs.Sections.{code_tables, read_tables, room, section_if, shown, table, written_tables}
use Rattle.link_tables.proofs.Counted.{some_capped}

shown_if : (there : Bool) (c : Content) → map shown (if there then c ∷ [] else []) ≡ section_if there (shown c)
shown_if true c = refl
shown_if false c = refl

of_24 : (n : ℕ) → capped (24 * n) ≡ room n 24 0
of_24 n = omega arith

of_capped_24 : (n : ℕ) → capped (24 * n) ≡ room (capped n) 24 0
of_capped_24 n = omega arith

of_interp : (n : ℕ) → capped n ≡ room n 1 0
of_interp n = omega arith

of_hash : (n : ℕ) → capped (4 * (2 + 2 * n)) ≡ room n 8 8
of_hash n = omega arith

of_plt : (header n : ℕ) → capped (header + 16 * n) ≡ room n 16 header
of_plt header n = omega arith

of_16 : (n : ℕ) → capped (16 * n) ≡ room n 16 0
of_16 n = omega arith

of_capped_8 : (n : ℕ) → capped (8 * n) ≡ room (capped n) 8 0
of_capped_8 n = omega arith

of_slots : (n : ℕ) → capped (8 * (3 + n)) ≡ room n 8 24
of_slots n = omega arith

four : (a b c d : List Content) → map shown (a ++ b ++ c ++ d) ≡ map shown a ++ map shown b ++ map shown c ++ map shown d
four a b c d = simp map-append

pub read_shown : (j : Planned) → map shown (read_contents j) ≡ read_tables (counts_of j) ++ map shown (outputs_in classes.R j)
unfolding read_contents read_tables counts_of
read_shown j =
    let interpreter = of_interp (length (interpreter_of j) + 1) in
    let rows = of_24 (row_count j.plan) in
    let hash = of_hash (row_count j.plan) in
    let some = sym (some_capped (rela_dyn_count j)) in
    let moves = of_capped_24 (rela_dyn_count j) in
    let calls = of_24 (length j.plan.plt) in
    simp (map-append, shown_if)
    (λ i.
    section_if (not (is_shared j.options.kind)) (table (codes ".interp") SHT_PROGBITS read_flags 1 (interpreter i))
    ++ section_if true (table (codes ".dynsym") SHT_DYNSYM read_flags 8 (rows i))
    ++ section_if true (table (codes ".dynstr") SHT_STRTAB read_flags 1 (capped (string_table_size (dynamic_strings j))))
    ++ section_if true (table (codes ".hash") SHT_HASH read_flags 8 (hash i))
    ++ section_if (some i) (table (codes ".rela.dyn") SHT_RELA read_flags 8 (moves i))
    ++ section_if (nat_lt 0 (length j.plan.plt)) (table (codes ".rela.plt") SHT_RELA read_flags 8 (calls i))
    ++ map shown (outputs_in classes.R j))

pub code_shown : (j : Planned) → map shown (executed_contents j) ≡ code_tables (counts_of j) ++ map shown (outputs_in classes.X j)
unfolding executed_contents code_tables counts_of
code_shown j =
    let size = of_plt j.rules.header_len (length j.plan.plt) in
    simp (map-append, shown_if)
    (λ i.
    section_if (nat_lt 0 (length j.plan.plt)) (table (codes ".plt") SHT_PROGBITS code_flags 16 (size i))
    ++ map shown (outputs_in classes.X j))

pub written_shown :
    (j : Planned) → map shown (written_contents j)
    ≡ written_tables (counts_of j) ++ map shown (outputs_in classes.W j) ++ map shown (outputs_in classes.B j)
unfolding written_contents written_tables counts_of
written_shown j =
    let entries = of_16 (length (dynamic_entries j)) in
    let some = sym (some_capped (word_count j)) in
    let words = of_capped_8 (word_count j) in
    let slots = of_slots (length j.plan.plt) in
    let there = nat_lt 0 (word_count j) in
    let got = slots_section (codes ".got") (word_count j) in
    let calls = slots_section (codes ".got.plt") (3 + length j.plan.plt) in
    let got_shown = shown_if there got in
    ap (λ (xs : List Section). shown (dynamic_section (length (dynamic_entries j))) ∷ xs)
    (four (if there then got ∷ [] else []) (calls ∷ []) (outputs_in classes.W j) (outputs_in classes.B j))
    ∙ (λ i.
    section_if true (table (codes ".dynamic") SHT_DYNAMIC data_flags 8 (entries i))
    ++ got_shown i
    ++ section_if true (table (codes ".got.plt") SHT_PROGBITS data_flags 8 (slots i))
    ++ map shown (outputs_in classes.W j) ++ map shown (outputs_in classes.B j))
    ∙ (λ i.
    section_if true (table (codes ".dynamic") SHT_DYNAMIC data_flags 8 (room (length (dynamic_entries j)) 16 0))
    ++ section_if (some i) (table (codes ".got") SHT_PROGBITS data_flags 8 (words i))
    ++ section_if true (table (codes ".got.plt") SHT_PROGBITS data_flags 8 (room (length j.plan.plt) 8 24))
    ++ map shown (outputs_in classes.W j) ++ map shown (outputs_in classes.B j))
