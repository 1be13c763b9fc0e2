-- What files in memory are seen as.
use Rattle.std.specs.Prelude.{List, [], ◌∷◌, None, if◌then◌else◌}
use Rattle.std.specs.Str.{bytes_eq}
use Rattle.ifs_outside.specs.declared.counts.FileCounts.{FileCounts}
use Rattle.ifs_outside.specs.declared.entries.Entry.{Entry}
use Rattle.ifs_outside.specs.Files.{FileMap}
use Rattle.ifs_outside.specs.Schedule.{Calls}

-- a path holds what the first entry with that path has
abbrev pub held_in : List Entry → FileMap
held_in [] path = None
held_in (entry ∷ entries) path = if bytes_eq entry.path path then entry.bytes else held_in entries path

-- the entries, the calls, and the counts
pub record FilesState : Type 0 where
  pub entries : List Entry
  pub calls : Calls
  pub counts : FileCounts
