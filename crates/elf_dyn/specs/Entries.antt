-- The dynamic entries (gABI, "Dynamic Section"). They count up to the first DT_NULL, or to the end of their
-- table. Of DT_SONAME and of each address the first entry counts; every DT_NEEDED counts.
use Rattle.std.specs.Prelude.{ℕ, ◌+◌, ◌*◌, ◌≤◌, Bool, false, ◌==◌, ◌&&◌, ◌||◌, if◌then◌else◌, List, length, Option, Some, None, is_none, is_some, option_map, option_and_then, unwrap_or, Result, Ok, Err, count_by, sum_by}
use Rattle.std.specs.List.{find, filter_map}
use Rattle.ifs_bytes.specs.Places.{places}
use Rattle.elf_file.specs.Tables.{dynamic_size, dynamic_at}
use Rattle.elf_file.specs.declared.cause.ElfCause.{ElfCause}
use Rattle.elf_file.specs.declared.cause.ElfCause.TheVariants.{BadName}
use Rattle.elf_file.specs.declared.cause.NamePlace.TheVariants.{Dynamic}
use Rattle.elf_file.specs.declared.dynamic.Dyn.{Dyn}
use Rattle.elf_dyn.specs.declared.places.Entries.{Entries}
use Rattle.elf_dyn.specs.declared.places.Strings.{Strings}
use Rattle.elf_dyn.specs.declared.constants.TheConstants.{DT_NULL, DT_NEEDED, DT_SONAME, DT_VERDEF}
use Rattle.elf_dyn.specs.Strings.{name_of, unless_empty, bytes_of}

-- all entries for which there is room lie in the file
abbrev pub EntriesLie : List ℕ → Entries → Type 0
EntriesLie file e = e.from + e.room * dynamic_size e.width ≤ length file

-- entry i
abbrev pub entry : List ℕ → Entries → ℕ → Dyn
entry file e i = dynamic_at file (e.from + i * dynamic_size e.width) e.order e.width

-- how many entries count
unfoldable pub entry_count : List ℕ → Entries → ℕ
entry_count file e = unwrap_or (find (λ i. (entry file e i).tag == DT_NULL) (places 0 e.room)) e.room

-- the first with a tag of the n entries that count
unfoldable pub first_with : List ℕ → Entries → ℕ → ℕ → Option ℕ
first_with file e n tag = find (λ i. (entry file e i).tag == tag) (places 0 n)

-- the value of the first with a tag
abbrev pub value_with : List ℕ → Entries → ℕ → ℕ → Option ℕ
value_with file e n tag = option_map (λ i. (entry file e i).value) (first_with file e n tag)

-- the name whose place entry i gives
abbrev pub entry_name : List ℕ → Entries → Strings → ℕ → Option (List ℕ)
entry_name file e strings i = name_of file strings (entry file e i).value

abbrev pub is_place : Option ℕ → ℕ → Bool
is_place None i = false
is_place (Some place) i = i == place

-- entry i is DT_NEEDED, or it is the first DT_SONAME, whose place is soname
abbrev pub is_named : List ℕ → Entries → Option ℕ → ℕ → Bool
is_named file e soname i = (entry file e i).tag == DT_NEEDED || is_place soname i

-- the first of the named entries whose name is bad
unfoldable pub bad_entry : List ℕ → Entries → Strings → ℕ → Option ℕ
bad_entry file e strings n =
    find (λ i. is_named file e (first_with file e n DT_SONAME) i && is_none (entry_name file e strings i)) (places 0 n)

abbrev pub unless_bad : Option ℕ → Result (Unit {0}) ElfCause
unless_bad None = Ok tt
unless_bad (Some i) = Err (BadName (Dynamic i))

-- the soname: the name of the first DT_SONAME, unless it's empty
unfoldable pub soname_of : List ℕ → Entries → Strings → ℕ → Option (List ℕ)
soname_of file e strings n = unless_empty (option_and_then (entry_name file e strings) (first_with file e n DT_SONAME))

-- the name of entry i, where that is DT_NEEDED and its name isn't empty
abbrev pub needed_at : List ℕ → Entries → Strings → ℕ → Option (List ℕ)
needed_at file e strings i = if (entry file e i).tag == DT_NEEDED then unless_empty (entry_name file e strings i) else None

-- the needed libraries, in order
unfoldable pub needed_of : List ℕ → Entries → Strings → ℕ → List (List ℕ)
needed_of file e strings n = filter_map (needed_at file e strings) (places 0 n)

-- how many bytes their names have together
unfoldable pub needed_bytes : List ℕ → Entries → Strings → ℕ → ℕ
needed_bytes file e strings n = sum_by (λ i. bytes_of (needed_at file e strings i)) (places 0 n)

-- how many entries are DT_NEEDED
unfoldable pub needed_count : List ℕ → Entries → ℕ → ℕ
needed_count file e n = count_by (λ i. (entry file e i).tag == DT_NEEDED) (places 0 n)

-- an entry defines symbol versions
abbrev pub defines_versions : List ℕ → Entries → ℕ → Bool
defines_versions file e n = is_some (first_with file e n DT_VERDEF)
