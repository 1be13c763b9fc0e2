-- How many bytes .dynstr has, and which names are bound to objects.
use Rattle.std.specs.List.{list_any}
use Rattle.std.specs.Option.{option_map_or}
use Rattle.std.specs.Prelude.{Bool, List, None, Option, Some, false, length, slice_get, sum_by, true, ℕ, ◌&&◌, ◌+◌}
use Rattle.ifs_interface.specs.Triple.{same_name}
use Rattle.link_core.specs.declared.options.LinkOptions.{LinkOptions}
use Rattle.link_core.specs.declared.plan.Plan.{Plan}
use Rattle.link_core.specs.declared.resolution.Bound.{Bound}
use Rattle.link_core.specs.declared.resolution.Bound.TheVariants as bounds
use Rattle.link_core.specs.declared.resolution.NameRow.{NameRow}
use Rattle.link_core.specs.declared.resolution.Resolution.{Resolution}
use Rattle.link_core.specs.Strings.{soname_of}

-- the name at a position, with its NUL
abbrev pub name_room : List NameRow → ℕ → ℕ
name_room names n = option_map_or (λ row. length row.name) (slice_get names n) 0 + 1

abbrev pub rows_room : List NameRow → List ℕ → ℕ
rows_room names rows = sum_by (name_room names) rows

abbrev pub texts_room : List (List ℕ) → ℕ
texts_room texts = sum_by (λ text. length text + 1) texts

abbrev pub option_room : Option (List ℕ) → ℕ
option_room None = 0
option_room (Some text) = length text + 1

-- a NUL, the names of the rows, the needed libraries, the soname and the runpath
unfoldable pub strings_room : LinkOptions → Resolution → Plan → ℕ
strings_room options r p =
    1 + rows_room r.names p.imports + rows_room r.names p.exports + texts_room r.needed
    + option_room (soname_of options) + option_room options.runpath

abbrev pub is_of_object : Bound → Bool
is_of_object (bounds.Object object row) = true
is_of_object bounds.Common = false
is_of_object bounds.Provided = false
is_of_object (bounds.Library library) = false
is_of_object bounds.Import = false
is_of_object bounds.Zero = false

-- the row has the name, which is bound to an object
abbrev pub is_definition : List ℕ → NameRow → Bool
is_definition name row = same_name row.name name && is_of_object row.bound

abbrev pub is_defined : List NameRow → List ℕ → Bool
is_defined names name = list_any (is_definition name) names
