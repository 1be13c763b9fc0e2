-- String tables (gABI, "String Table"): .dynstr and .shstrtab.
use Rattle.std.specs.Prelude.{List, None, Option, [], flat_map, if◌then◌else◌, length, map, option_to_list, sum_by, take, ℕ, ◌++◌, ◌+◌, ◌∷◌}
use Rattle.link_core.specs.declared.options.LinkOptions.{LinkOptions}
use Rattle.link_core.specs.declared.plan.Plan.{Plan}
use Rattle.link_core.specs.Exports.{is_shared}
use Rattle.link_core.specs.Planned.{Planned, name_at}

-- a NUL, and then each name with a NUL; no two share their bytes
abbrev pub terminated : List ℕ → List ℕ
terminated name = name ++ 0 ∷ []

unfoldable pub string_table : List (List ℕ) → List ℕ
string_table names = 0 ∷ flat_map terminated names

-- how many bytes that has
unfoldable pub string_table_size : List (List ℕ) → ℕ
string_table_size names = 1 + sum_by (λ name. length name + 1) names

-- the place of name i in it
unfoldable pub string_place : List (List ℕ) → ℕ → ℕ
string_place names i = string_table_size (take i names)

-- ---- .dynstr

-- the names of rows of .dynsym, in order: the imports, then the exports
abbrev pub dynamic_rows : Plan → List ℕ
dynamic_rows p = p.imports ++ p.exports

abbrev pub symbol_names : Planned → List (List ℕ)
symbol_names j = map (name_at j) (dynamic_rows j.plan)

-- a shared library has the soname that it was given
unfoldable pub soname_of : LinkOptions → Option (List ℕ)
soname_of options = if is_shared options.kind then options.soname else None

-- the names of the rows, the needed libraries, the soname and the runpath
unfoldable pub dynamic_strings : Planned → List (List ℕ)
dynamic_strings j =
    symbol_names j
    ++ j.names.needed
    ++ option_to_list (soname_of j.options)
    ++ option_to_list j.options.runpath

-- the positions of these names among them
abbrev pub needed_string : Planned → ℕ → ℕ
needed_string j i = length (dynamic_rows j.plan) + i

abbrev pub soname_string : Planned → ℕ
soname_string j = needed_string j (length j.names.needed)

abbrev pub runpath_string : Planned → ℕ
runpath_string j = soname_string j + length (option_to_list (soname_of j.options))
