-- The parts of the image: the file header, the program headers, each table, each piece that has bytes in the
-- file, .shstrtab and the section headers, in the order of their offsets.
use Rattle.std.specs.Option.{option_map_or}
use Rattle.std.specs.Prelude.{List, [], codes, filter, find, flat_map, if◌then◌else◌, map, ℕ, ◌++◌, ◌==◌, ◌∷◌}
use Rattle.elf_file.specs.Written.{header_bytes}
use Rattle.ifs_interface.specs.Triple.{same_name}
use Rattle.link_core.specs.declared.layout.Layout.{Layout}
use Rattle.link_core.specs.declared.layout.OutSection.{OutSection}
use Rattle.link_core.specs.declared.layout.PieceAt.{PieceAt}
use Rattle.link_core.specs.Contents.{Content, contents_of, interpreter_of}
use Rattle.link_core.specs.Dynamic.{dynamic_part}
use Rattle.link_core.specs.Got.{got_bytes}
use Rattle.link_core.specs.HashTable.{hash_bytes}
use Rattle.link_core.specs.Headers.{file_header, headers_offset, names_bytes, names_offset, offset_of, program_header_bytes, section_header_bytes}
use Rattle.link_core.specs.Patch.{piece_bytes}
use Rattle.link_core.specs.Places.{has_bytes, numbered}
use Rattle.link_core.specs.Planned.{Planned}
use Rattle.link_core.specs.Plt.{got_plt_bytes, plt_bytes}
use Rattle.link_core.specs.Relocations.{rela_dyn_bytes, rela_plt_bytes}
use Rattle.link_core.specs.Strings.{dynamic_strings, string_table, terminated}
use Rattle.link_core.specs.Symbols.{dynsym_bytes}

pub record Part : Type 0 where
  pub offset : ℕ
  pub bytes : List ℕ

-- the bytes of each table, by its name
unfoldable pub tables_of : Planned → Layout → List (List ℕ × List ℕ)
tables_of j l =
    (codes ".interp", terminated (interpreter_of j))
    ∷ (codes ".dynsym", dynsym_bytes j l)
    ∷ (codes ".dynstr", string_table (dynamic_strings j))
    ∷ (codes ".hash", hash_bytes j)
    ∷ (codes ".rela.dyn", rela_dyn_bytes j l)
    ∷ (codes ".rela.plt", rela_plt_bytes j l)
    ∷ (codes ".plt", plt_bytes j l)
    ∷ (codes ".dynamic", dynamic_part j l)
    ∷ (codes ".got", got_bytes j l)
    ∷ (codes ".got.plt", got_plt_bytes j l)
    ∷ []

unfoldable pub table_bytes : Planned → Layout → List ℕ → List ℕ
table_bytes j l name = option_map_or (λ t. t.1) (find (λ t. same_name t.0 name) (tables_of j l)) []

abbrev pub piece_part : Planned → Layout → PieceAt → Part
piece_part j l piece =
    record { offset = offset_of j piece.address; bytes = piece_bytes j l piece.object piece.section }

-- the parts of section i: the table, or the pieces of the output section, where they have bytes
unfoldable pub section_parts : Planned → Layout → ℕ × Content × OutSection → List Part
section_parts j l placed =
    if placed.1.table
    then record { offset = offset_of j placed.2.address; bytes = table_bytes j l placed.1.name } ∷ []
    else (if has_bytes placed.2 then map (piece_part j l) (filter (λ p. p.out == placed.0) l.pieces) else [])

unfoldable pub parts_of : Planned → Layout → List Part
parts_of j l =
    record { offset = 0; bytes = header_bytes (file_header j l) }
    ∷ record { offset = 64; bytes = program_header_bytes j l }
    ∷ flat_map (section_parts j l) (numbered (contents_of j) l.sections)
    ++ record { offset = names_offset j l; bytes = names_bytes j }
    ∷ record { offset = headers_offset j l; bytes = section_header_bytes j l }
    ∷ []
