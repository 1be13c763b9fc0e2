-- Libraries that weren't read, and what a call answers that refuses one.
use Rattle.std.specs.Prelude.{ℕ, Option, Some, None, Result, Ok, Err}
use Rattle.link_core.specs.declared.input.LibSource.{LibSource}
use Rattle.link_core.specs.declared.input.LibSource.TheVariants as sources
use Rattle.link_core.specs.declared.refusal.LinkRefusal.{LinkRefusal}
use Rattle.link_core.specs.declared.refusal.LinkRefusal.TheVariants.{BadLibrary}
use Rattle.link_core.specs.declared.refusal.LinkStop.{LinkStop}
use Rattle.link_core.specs.declared.refusal.LinkStop.TheVariants as stops

-- what a call answers that is refused
abbrev pub stopped : {T : Type 0} → Result T LinkRefusal → Result T LinkStop
stopped (Ok x) = Ok x
stopped (Err refusal) = Err (stops.Refused refusal)

-- why the library at a position is refused, by what was read of it
abbrev pub unread_at : {S : Type 0} → ℕ × LibSource S → Option LinkRefusal
unread_at (i, sources.Held lib) = None
unread_at (i, sources.Versioned) = None
unread_at (i, sources.Refused cause) = Some (BadLibrary i cause)
