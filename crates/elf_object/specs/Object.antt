-- An object by the bytes of its file, or the first cause why it can't be read. The causes come in the order
-- of these conditions, each of which is a fact on places of the whole file; no sum wraps.
use Rattle.std.specs.Prelude.{◌≡◌, ℕ, ◌*◌, ◌≤◌, Bool, true, false, ◌==◌, ◌&&◌, List, length, map, is_none, Result, Ok, Err}
use Rattle.ifs_bytes.specs.Outcome.{◌>>=◌, check}
use Rattle.ifs_bytes.specs.Places.{places}
use Rattle.ifs_bytes.specs.declared.form.Order.{Order}
use Rattle.ifs_bytes.specs.declared.form.Order.TheVariants.{Little, Big}
use Rattle.ifs_bytes.specs.declared.form.Width.{Width}
use Rattle.ifs_bytes.specs.declared.form.Width.TheVariants.{W32, W64}
use Rattle.elf_file.specs.Header.{header_of, section_in}
use Rattle.elf_file.specs.declared.cause.ElfCause.{ElfCause}
use Rattle.elf_file.specs.declared.cause.ElfCause.TheVariants.{WrongKind, BadHeader, Truncated, BadName}
use Rattle.elf_file.specs.declared.cause.NamePlace.TheVariants.{Symbol, Section}
use Rattle.elf_file.specs.declared.header.Header.{Header}
use Rattle.elf_file.specs.ElfFile.{ElfFile}
use Rattle.elf_object.specs.declared.object.Contents.{Contents}
use Rattle.elf_object.specs.declared.cause.ObjectCause.{ObjectCause}
use Rattle.elf_object.specs.declared.cause.ObjectCause.TheVariants.{Elf, BadRelocationTable, CompressedSection, IfuncDefinition}
use Rattle.elf_object.specs.declared.constants.TheConstants.{ET_REL}
use Rattle.elf_object.specs.declared.parts.Parts.{Parts}
use Rattle.elf_object.specs.Record.{ObjectRecord}
use Rattle.elf_object.specs.Parts.{outside, parts_of, unless_some}
use Rattle.elf_object.specs.Sections.{unnamed_section, section_at, compressed_section}
use Rattle.elf_object.specs.Symbols.{all_rows, unnamed_row, unplaced_row, symbol_of, ifunc_row}
use Rattle.elf_object.specs.Groups.{bad_group, groups_of}
use Rattle.elf_object.specs.References.{bad_table, references_of}

-- a cause of any ELF file
abbrev pub of_elf : {T : Type 0} → Result T ElfCause → Result T ObjectCause
of_elf (Ok x) = Ok x
of_elf (Err cause) = Err (Elf cause)

abbrev pub is_little : Order → Bool
is_little Little = true
is_little Big = false

abbrev pub is_wide : Width → Bool
is_wide W32 = false
is_wide W64 = true

-- a relocatable object of 64 bits, with the lowest byte first
abbrev pub is_relocatable : Header → Bool
is_relocatable h = h.kind == ET_REL && is_little h.order && is_wide h.width

-- the header of such an object, whose sections lie in the file
unfoldable pub object_header : List ℕ → Result Header ObjectCause
object_header file = do
  h ← of_elf (header_of file)
  _ ← check (is_relocatable h) (Elf WrongKind)
  _ ← unless_some (outside file h) (λ i. Elf (Truncated (section_in file h i).offset))
  Ok h

-- what can be wrong with names, section numbers and groups
unfoldable pub checked_names : List ℕ → Header → Parts → Result (Unit {0}) ObjectCause
checked_names file h p = do
  _ ← unless_some (unnamed_section file h p) (λ i. Elf (BadName (Section i)))
  _ ← unless_some (unnamed_row file p) (λ i. Elf (BadName (Symbol i)))
  _ ← check (is_none (unplaced_row file h p)) (Elf BadHeader)
  check (is_none (bad_group file h p)) (Elf BadHeader)

-- what can be wrong with relocation tables, and what a link can't take
unfoldable pub checked_tables : List ℕ → Header → Parts → Result (Unit {0}) ObjectCause
checked_tables file h p = do
  _ ← unless_some (bad_table file h p) BadRelocationTable
  _ ← unless_some (compressed_section file h) CompressedSection
  unless_some (ifunc_row file h p) IfuncDefinition

-- the object whose parts stand at these places
unfoldable pub object_at : List ℕ → Header → Parts → ObjectRecord
object_at file h p = record {
  machine = h.machine;
  bytes = file;
  sections = map (section_at file h p) (places 0 h.shnum);
  symbols = map (symbol_of file h p) (all_rows p);
  references = references_of file h p;
  groups = groups_of file h p;
}

-- the object of the file, or the first cause
unfoldable pub object_of : List ℕ → Result ObjectRecord ObjectCause
object_of file = do
  h ← object_header file
  p ← parts_of file h
  _ ← checked_names file h p
  _ ← checked_tables file h p
  Ok (object_at file h p)

-- the bytes have room for the section headers, of 64 bytes, and for the rows, of 24
pub record HasRoom (o : ObjectRecord) : Type 0 where
  pub sections : length o.sections * 64 ≤ length o.bytes
  pub symbols : length o.symbols * 24 ≤ length o.bytes

-- the object is the one of its own bytes
pub record IsRead (o : ObjectRecord) : Type 0 where
  pub by_bytes : object_of o.bytes ≡ Ok o
  pub room : HasRoom o

-- what was read, with the bytes of the file
abbrev pub with_bytes : List ℕ → Contents → ObjectRecord
with_bytes file read = record {
  machine = read.machine;
  bytes = file;
  sections = read.sections.items;
  symbols = read.symbols.items;
  references = read.references.items;
  groups = read.groups.items;
}

abbrev pub read_with : List ℕ → Result Contents ObjectCause → Result ObjectRecord ObjectCause
read_with file (Ok read) = Ok (with_bytes file read)
read_with file (Err cause) = Err cause

abbrev pub header_of_elf : Result ElfFile ObjectCause → Result Header ObjectCause
header_of_elf (Ok elf) = Ok elf.header
header_of_elf (Err cause) = Err cause
