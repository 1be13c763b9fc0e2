-- What a link sees of a library: its facts, or that it can't be linked against.
use Rattle.std.specs.Prelude.{ℕ, List, Option, unwrap_or, filter_map, Some, None}
use Rattle.ifs_interface.specs.Facts.{Facts}
use Rattle.link_core.specs.declared.input.LibCause.{LibCause}

-- A library that can be linked against. Its name is the one by which the made file asks for it, in DT_NEEDED.
pub record Library : Type 0 where
  pub name : List ℕ
  pub facts : Facts

-- the facts of a library, that it defines symbol versions, or why it can't be read
pub data Side : Type 0 where
  Held : Library → Side
  Versioned : Side
  Refused : LibCause → Side

-- a library is asked for by its soname, and by the name of its file where it has none
abbrev pub library_named : List ℕ → Facts → Library
library_named file_name facts = record { name = unwrap_or facts.soname file_name; facts = facts }

abbrev pub held_by : Side → Option Library
held_by (Held library) = Some library
held_by Versioned = None
held_by (Refused cause) = None

-- the libraries of a link; positions are those of the sides where all of these are held
abbrev pub libraries_of : List Side → List Library
libraries_of sides = filter_map held_by sides
