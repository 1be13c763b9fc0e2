-- Names in a string table of the file (gABI, "String Table").
use Rattle.std.specs.Prelude.{ℕ, ◌+◌, ◌≤◌, List, [], ◌∷◌, length, slice_range, Option, Some, None}
use Rattle.ifs_bytes.specs.Name.{name_in}
use Rattle.elf_dyn.specs.declared.places.Strings.{Strings}

-- the bytes of a string table
abbrev pub string_table : List ℕ → Strings → List ℕ
string_table file strings = slice_range file strings.from (strings.from + strings.size)

-- the name at a place of a string table: it starts within the table and ends before a NUL in it
unfoldable pub name_of : List ℕ → Strings → ℕ → Option (List ℕ)
name_of file strings at = name_in (string_table file strings) at

-- a name that isn't empty
abbrev pub unless_empty : Option (List ℕ) → Option (List ℕ)
unless_empty None = None
unless_empty (Some []) = None
unless_empty (Some (b ∷ bs)) = Some (b ∷ bs)

-- how many bytes a name has
abbrev pub bytes_of : Option (List ℕ) → ℕ
bytes_of None = 0
bytes_of (Some name) = length name

-- the table lies in the file
abbrev pub StringsLie : List ℕ → Strings → Type 0
StringsLie file strings = strings.from + strings.size ≤ length file
