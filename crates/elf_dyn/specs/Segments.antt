-- A library's parts by its program headers (gABI, "Program Header", "Dynamic Section"), where its sections
-- don't give them: by PT_DYNAMIC, whose entries give addresses, which PT_LOAD maps to the file.
use Rattle.std.specs.Prelude.{ℕ, ◌+◌, ◌-◌, ◌*◌, ◌/◌, Bool, ◌==◌, ◌&&◌, nat_lt, nat_le, List, Option, Some, None, option_map, Result, Ok}
use Rattle.std.specs.List.{find}
use Rattle.std.specs.Option.{ok_or}
use Rattle.ifs_bytes.specs.Field.{lies}
use Rattle.ifs_bytes.specs.Outcome.{◌>>=◌, check}
use Rattle.ifs_bytes.specs.Places.{places}
use Rattle.elf_file.specs.Header.{segment_in}
use Rattle.elf_file.specs.Tables.{symbol_size, dynamic_size}
use Rattle.elf_file.specs.declared.cause.ElfCause.{ElfCause}
use Rattle.elf_file.specs.declared.cause.ElfCause.TheVariants.{NoDynamic, Truncated}
use Rattle.elf_file.specs.declared.header.Header.{Header}
use Rattle.elf_file.specs.declared.segment.Segment.{Segment}
use Rattle.elf_dyn.specs.declared.places.Entries.{Entries}
use Rattle.elf_dyn.specs.declared.places.Rows.{Rows}
use Rattle.elf_dyn.specs.declared.places.Strings.{Strings}
use Rattle.elf_dyn.specs.declared.addresses.Addresses.{Addresses}
use Rattle.elf_dyn.specs.declared.addresses.HashTable.{HashTable}
use Rattle.elf_dyn.specs.declared.addresses.HashTable.TheVariants.{SysV, Gnu}
use Rattle.elf_dyn.specs.declared.places.Places.{Places}
use Rattle.elf_dyn.specs.declared.constants.TheConstants.{PT_LOAD, PT_DYNAMIC, DT_HASH, DT_STRTAB, DT_SYMTAB, DT_STRSZ, DT_GNU_HASH}
use Rattle.elf_dyn.specs.Entries.{entry_count, value_with}
use Rattle.ifs_bytes.specs.Carried.{carried}
use Rattle.elf_dyn.specs.Hash.{rows_by_hash, rows_by_gnu_hash}

-- the first segment that passes
abbrev pub first_segment : List ℕ → Header → (Segment → Bool) → Option Segment
first_segment file h test = option_map (segment_in file h) (find (λ i. test (segment_in file h i)) (places 0 h.phnum))

-- PT_DYNAMIC has the dynamic entries
abbrev pub is_dynamic : Segment → Bool
is_dynamic segment = segment.kind == PT_DYNAMIC

-- PT_LOAD gives an address bytes of the file
abbrev pub holds : ℕ → Segment → Bool
holds address segment =
    segment.kind == PT_LOAD && nat_le segment.vaddr address && nat_lt address (segment.vaddr + segment.filesz)

-- where an address stands in the file, by the first segment that holds it
unfoldable pub mapped : List ℕ → Header → ℕ → Result ℕ ElfCause
mapped file h address =
    ok_or (option_map (λ segment. carried (segment.offset + (address - segment.vaddr))) (first_segment file h (holds address))) (Truncated address)

-- the hash table by which the rows are counted: the SysV one, where it is there
abbrev pub hash_table : Option ℕ → Option ℕ → Option HashTable
hash_table (Some address) gnu = Some (SysV address)
hash_table None gnu = option_map Gnu gnu

-- what the n entries that count say: each address and the size of the strings have to be there
unfoldable pub addresses_of : List ℕ → Entries → ℕ → Result Addresses ElfCause
addresses_of file e n = do
  strings ← ok_or (value_with file e n DT_STRTAB) NoDynamic
  size ← ok_or (value_with file e n DT_STRSZ) NoDynamic
  symbols ← ok_or (value_with file e n DT_SYMTAB) NoDynamic
  hash ← ok_or (hash_table (value_with file e n DT_HASH) (value_with file e n DT_GNU_HASH)) NoDynamic
  Ok (record { strings = strings; strings_size = size; symbols = symbols; hash = hash })

-- the string table: where its address stands in the file, and its size
unfoldable pub strings_by_address : List ℕ → Header → Addresses → Result Strings ElfCause
strings_by_address file h a = do
  from ← mapped file h a.strings
  _ ← check (lies file from a.strings_size) (Truncated from)
  Ok (record { from = from; size = a.strings_size })

-- the number of rows by the hash table
unfoldable pub row_count : List ℕ → Header → HashTable → Result ℕ ElfCause
row_count file h (SysV address) = do
  at ← mapped file h address
  rows_by_hash file h.order at
row_count file h (Gnu address) = do
  at ← mapped file h address
  rows_by_gnu_hash file h.order h.width at

-- the rows, where their address stands in the file
unfoldable pub rows_by_address : List ℕ → Header → Addresses → ℕ → Result Rows ElfCause
rows_by_address file h a count = do
  from ← mapped file h a.symbols
  _ ← check (lies file from (count * symbol_size h.width)) (Truncated from)
  Ok (record { order = h.order; width = h.width; from = from; count = count })

-- the dynamic entries: the first PT_DYNAMIC, which lies in the file
unfoldable pub entries_by_segment : List ℕ → Header → Result Entries ElfCause
entries_by_segment file h = do
  segment ← ok_or (first_segment file h is_dynamic) NoDynamic
  _ ← check (lies file segment.offset segment.filesz) (Truncated segment.offset)
  Ok (record { order = h.order; width = h.width; from = segment.offset; room = segment.filesz / dynamic_size h.width })

-- the places by segments: the strings, the hash words and the rows are each looked at before the next
unfoldable pub places_by_segments : List ℕ → Header → Result Places ElfCause
places_by_segments file h = do
  entries ← entries_by_segment file h
  addresses ← addresses_of file entries (entry_count file entries)
  strings ← strings_by_address file h addresses
  count ← row_count file h addresses.hash
  rows ← rows_by_address file h addresses count
  Ok (record { entries = entries; entry_strings = strings; rows = rows; row_strings = strings })
