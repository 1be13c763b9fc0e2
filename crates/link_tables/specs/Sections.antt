-- The sections of the image that are tables, by their counts.
use Rattle.std.specs.Prelude.{Bool, List, [], codes, if◌then◌else◌, nat_lt, true, ℕ, ◌*◌, ◌++◌, ◌+◌, ◌∷◌}
use Rattle.elf_object.specs.declared.constants.TheConstants.{SHT_PROGBITS, SHT_RELA, SHT_STRTAB}
use Rattle.link_core.specs.declared.tables.TheConstants.{SHT_DYNAMIC, SHT_DYNSYM, SHT_HASH}
use Rattle.link_core.specs.Contents.{Content, code_flags, data_flags, read_flags}
use Rattle.link_tables.specs.declared.counts.Counts.{Counts}
use Rattle.link_tables.specs.declared.section.Section.{Section}
use Rattle.link_tables.specs.Capped.{capped}

-- what of a section a layout says beside its address
abbrev pub shown : Content → Section
shown c = record { name = c.name; kind = c.kind; flags = c.flags; align = c.align; size = capped c.size }

abbrev pub section_if : Bool → Section → List Section
section_if there section = if there then section ∷ [] else []

abbrev pub table : List ℕ → ℕ → ℕ → ℕ → ℕ → Section
table name kind flags align size =
    record { name = name; kind = kind; flags = flags; align = align; size = size }

-- so many items of one size, and more bytes
abbrev pub room : ℕ → ℕ → ℕ → ℕ
room count each more = capped (count * each + more)

unfoldable pub read_tables : Counts → List Section
read_tables n =
    section_if n.program (table (codes ".interp") SHT_PROGBITS read_flags 1 (room n.interpreter 1 0))
    ++ section_if true (table (codes ".dynsym") SHT_DYNSYM read_flags 8 (room n.rows 24 0))
    ++ section_if true (table (codes ".dynstr") SHT_STRTAB read_flags 1 n.strings)
    ++ section_if true (table (codes ".hash") SHT_HASH read_flags 8 (room n.rows 8 8))
    ++ section_if (nat_lt 0 n.moves) (table (codes ".rela.dyn") SHT_RELA read_flags 8 (room n.moves 24 0))
    ++ section_if (nat_lt 0 n.calls) (table (codes ".rela.plt") SHT_RELA read_flags 8 (room n.calls 24 0))

unfoldable pub code_tables : Counts → List Section
code_tables n =
    section_if (nat_lt 0 n.calls)
    (table (codes ".plt") SHT_PROGBITS code_flags 16 (room n.calls 16 n.header))

unfoldable pub written_tables : Counts → List Section
written_tables n =
    section_if true (table (codes ".dynamic") SHT_DYNAMIC data_flags 8 (room n.entries 16 0))
    ++ section_if (nat_lt 0 n.words) (table (codes ".got") SHT_PROGBITS data_flags 8 (room n.words 8 0))
    ++ section_if true (table (codes ".got.plt") SHT_PROGBITS data_flags 8 (room n.calls 8 24))
