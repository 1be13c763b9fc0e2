-- The sections of an object (gABI, "Sections"), and which of them are loaded.
use Rattle.std.specs.Prelude.{ℕ, ◌/◌, ◌%◌, Bool, not, ◌==◌, ◌&&◌, ◌||◌, nat_eq, nat_lt, List, [], codes, Option, is_none, unwrap_or}
use Rattle.std.specs.Cmp.Lexicographic.{pointwise}
use Rattle.std.specs.List.{find}
use Rattle.ifs_bytes.specs.Name.{name_in}
use Rattle.ifs_bytes.specs.Places.{places}
use Rattle.elf_file.specs.Header.{section_in}
use Rattle.elf_file.specs.declared.header.Header.{Header}
use Rattle.elf_object.specs.declared.constants.TheConstants.{SHT_PROGBITS, SHT_NOTE, SHT_NOBITS, SHT_INIT_ARRAY, SHT_FINI_ARRAY, SHT_PREINIT_ARRAY, SHT_X86_64_UNWIND, SHF_ALLOC, SHF_COMPRESSED}
use Rattle.elf_object.specs.declared.parts.Parts.{Parts}
use Rattle.elf_object.specs.declared.section.ObjSection.{ObjSection}
use Rattle.elf_object.specs.Parts.{bytes_in}

-- the name of section i, which starts and ends within the names of sections
unfoldable pub section_name : List ℕ → Header → Parts → ℕ → Option (List ℕ)
section_name file h p i = name_in (bytes_in file p.names) (section_in file h i).name

-- the first section without a name
unfoldable pub unnamed_section : List ℕ → Header → Parts → Option ℕ
unnamed_section file h p = find (λ i. is_none (section_name file h p i)) (places 0 h.shnum)

-- section i, whose name is there
unfoldable pub section_at : List ℕ → Header → Parts → ℕ → ObjSection
section_at file h p i =
    let s = section_in file h i in
    record {
      name = unwrap_or (section_name file h p i) [];
      kind = s.kind;
      flags = s.flags;
      offset = s.offset;
      size = s.size;
      align = s.align;
    }

-- the flags have a bit
abbrev pub is_alloc : ℕ → Bool
is_alloc flags = flags / SHF_ALLOC % 2 == 1

abbrev pub is_compressed : ℕ → Bool
is_compressed flags = flags / SHF_COMPRESSED % 2 == 1

-- the types of sections that a link takes into its image
abbrev pub is_image_kind : ℕ → Bool
is_image_kind kind =
    kind == SHT_PROGBITS || kind == SHT_NOTE || kind == SHT_NOBITS || kind == SHT_INIT_ARRAY
    || kind == SHT_FINI_ARRAY || kind == SHT_PREINIT_ARRAY || kind == SHT_X86_64_UNWIND

-- the note that a linker makes of those of all objects
abbrev pub is_property_note : List ℕ → Bool
is_property_note name = pointwise nat_eq name (codes ".note.gnu.property")

-- a link takes the section into its image, if it keeps it
unfoldable pub is_loadable : ObjSection → Bool
is_loadable s = is_alloc s.flags && is_image_kind s.kind && not (is_property_note s.name)

-- section i is there, and loadable
unfoldable pub is_loadable_at : List ℕ → Header → Parts → ℕ → Bool
is_loadable_at file h p i = nat_lt i h.shnum && is_loadable (section_at file h p i)

-- the first section that is loaded and compressed
unfoldable pub compressed_section : List ℕ → Header → Option ℕ
compressed_section file h =
    find (λ i. is_alloc (section_in file h i).flags && is_compressed (section_in file h i).flags)
    (places 0 h.shnum)
