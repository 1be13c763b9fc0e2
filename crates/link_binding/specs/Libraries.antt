-- Libraries as they are handed in, and what a link sees of them.
use Rattle.std.specs.Prelude.{ℕ, List, map}
use Rattle.ifs_interface.specs.Facts.{Facts}
use Rattle.link_core.specs.declared.input.Lib.{Lib}
use Rattle.link_core.specs.declared.input.LibSource.{LibSource}
use Rattle.link_core.specs.declared.input.LibSource.TheVariants as sources
use Rattle.link_core.specs.Side.{Held, Library, Refused, Side, Versioned, library_named}
use Rattle.link_binding.specs.declared.library.HeldLib.{HeldLib}

-- a library as a link sees it: its side
abbrev pub side_by : {S : Type 0} → (S → Facts) → List ℕ → LibSource S → Side
side_by facts file_name (sources.Held lib) = Held (library_named file_name (facts lib))
side_by facts file_name sources.Versioned = Versioned
side_by facts file_name (sources.Refused cause) = Refused cause

abbrev pub side_of : {S : Type 0} → (S → Facts) → Lib S → Side
side_of facts lib = side_by facts lib.file_name lib.source

-- a library that is held
abbrev pub seen : {S : Type 0} → (S → Facts) → HeldLib S → Library
seen facts held = record { name = held.name.now; facts = facts held.lib.now }

abbrev pub libraries_seen : {S : Type 0} → (S → Facts) → List (HeldLib S) → List Library
libraries_seen facts libs = map (seen facts) libs
