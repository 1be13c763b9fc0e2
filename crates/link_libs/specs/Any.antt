-- What a link sees of a library, whichever form it was read from.
use Rattle.std.specs.Prelude.{ℕ, Bool, List, map, Option}
use Rattle.ifs_interface.specs.Facts.{Facts, facts_of_interface, facts_of_library, wanted_place, wanted_row}
use Rattle.link_libs.specs.declared.any.AnyLib.{AnyLib}
use Rattle.link_libs.specs.declared.any.AnyLib.TheVariants.{File, Text}

-- the facts of the library that it holds
abbrev pub facts_of : AnyLib → Facts
facts_of (File library) = facts_of_library library
facts_of (Text interface) = facts_of_interface interface

-- the places of the names that it wants: a row, or a symbol, each
abbrev pub places_of : AnyLib → List (Option (List ℕ × Bool))
places_of (File library) = map (wanted_row library.rows) library.rows
places_of (Text interface) = map wanted_place interface.symbols
