-- The words of the command line: a command with its values, or the first cause why they aren't understood.
use Rattle.std.specs.Prelude.{ℕ, List, [], ◌∷◌, codes, Result, Ok, Err, if◌then◌else◌}
use Rattle.std.specs.Str.{bytes_eq}
use Rattle.ifs_words.specs.declared.cause.WordCause.{WordCause}
use Rattle.ifs_words.specs.declared.cause.WordCause.TheVariants.{NoCommand, UnknownCommand}
use Rattle.ifs_words.specs.declared.command.Command.{Command}
use Rattle.ifs_words.specs.declared.command.Command.TheVariants.{Stub}
use Rattle.ifs_words.specs.declared.command.StubWords.{StubWords}
use Rattle.ifs_words.specs.Stub.{stub_of}

abbrev pub as_stub : Result StubWords WordCause → Result Command WordCause
as_stub (Ok words) = Ok (Stub words)
as_stub (Err cause) = Err cause

abbrev pub words_of : List (List ℕ) → Result Command WordCause
words_of [] = Err NoCommand
words_of (command ∷ words) =
    if bytes_eq command (codes "stub") then as_stub (stub_of words) else Err (UnknownCommand command)
