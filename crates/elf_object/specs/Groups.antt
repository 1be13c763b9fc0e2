-- The groups of an object (gABI, "Section Groups"): words of 32 bits, of which the first is flags and the
-- others are the numbers of the group's sections.
use Rattle.std.specs.Prelude.{ℕ, ◌%◌, Bool, not, ◌==◌, ◌&&◌, ◌||◌, nat_le, if◌then◌else◌, List, [], ◌∷◌, true, false, map, Option, Some, None, is_some}
use Rattle.std.specs.List.{find, filter_map}
use Rattle.ifs_bytes.specs.Places.{places}
use Rattle.elf_file.specs.Header.{section_in}
use Rattle.elf_file.specs.declared.header.Header.{Header}
use Rattle.elf_file.specs.declared.section.SectionHeader.{SectionHeader}
use Rattle.elf_object.specs.declared.constants.TheConstants.{SHT_GROUP, STT_SECTION, GRP_COMDAT}
use Rattle.elf_object.specs.declared.group.Group.{Group}
use Rattle.elf_object.specs.declared.parts.Parts.{Parts}
use Rattle.elf_object.specs.declared.parts.Span.{Span}
use Rattle.elf_object.specs.declared.symbol.ObjPlace.{ObjPlace}
use Rattle.elf_object.specs.declared.symbol.ObjPlace.TheVariants.{Undefined, Absolute, Common, In}
use Rattle.elf_object.specs.declared.symbol.ObjSymbol.{ObjSymbol}
use Rattle.elf_object.specs.Parts.{span_of, word_count, word_in}
use Rattle.elf_object.specs.Sections.{section_at}
use Rattle.elf_object.specs.Symbols.{row_count, symbol_of}

abbrev pub is_group : SectionHeader → Bool
is_group s = s.kind == SHT_GROUP

-- the first member that is the number of no section
unfoldable pub stray_member : List ℕ → Header → Span → Option ℕ
stray_member file h span = find (λ k. nat_le h.shnum (word_in file span k)) (places 1 (word_count span))

-- the section is a group of no words, of part of a word, whose symbol is no row, or with a member that is no
-- section
unfoldable pub is_bad_group : List ℕ → Header → Parts → SectionHeader → Bool
is_bad_group file h p s =
    is_group s
    && (s.size == 0 || not (s.size % 4 == 0) || nat_le (row_count p) s.info || is_some (stray_member file h (span_of s)))

-- the first bad group
unfoldable pub bad_group : List ℕ → Header → Parts → Option ℕ
bad_group file h p = find (λ i. is_bad_group file h p (section_in file h i)) (places 0 h.shnum)

abbrev pub is_empty : List ℕ → Bool
is_empty [] = true
is_empty (b ∷ bs) = false

-- the name of a group whose symbol is this: that of the symbol's section, where the symbol is a section's own
-- and has no name
abbrev pub signature_at : List ℕ → Header → Parts → ObjSymbol → ObjPlace → List ℕ
signature_at file h p symbol Undefined = symbol.name
signature_at file h p symbol Absolute = symbol.name
signature_at file h p symbol Common = symbol.name
signature_at file h p symbol (In number) =
    if symbol.kind == STT_SECTION && is_empty symbol.name then (section_at file h p number).name else symbol.name

unfoldable pub signature_of : List ℕ → Header → Parts → ℕ → List ℕ
signature_of file h p i = signature_at file h p (symbol_of file h p i) (symbol_of file h p i).place

-- the numbers of the group's sections
abbrev pub members_of : List ℕ → Span → List ℕ
members_of file span = map (word_in file span) (places 1 (word_count span))

-- the group of a section
abbrev pub group_of : List ℕ → Header → Parts → SectionHeader → Group
group_of file h p s = record {
  signature = signature_of file h p s.info;
  comdat = word_in file (span_of s) 0 == GRP_COMDAT;
  members = members_of file (span_of s);
}

-- section i, where it is a group
unfoldable pub group_at : List ℕ → Header → Parts → ℕ → Option Group
group_at file h p i =
    if is_group (section_in file h i) then Some (group_of file h p (section_in file h i)) else None

-- the groups, in order
unfoldable pub groups_of : List ℕ → Header → Parts → List Group
groups_of file h p = filter_map (group_at file h p) (places 0 h.shnum)
