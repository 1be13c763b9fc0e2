-- What a cause is by its key, for the code alone.
use Rattle.std.specs.Prelude.{ℕ, List}
use Rattle.ifs_text.specs.declared.cause.TextCause.{TextCause}
use Rattle.ifs_text.specs.declared.cause.TextCause.TheVariants as causes
use Rattle.ifs_text.specs.declared.fault.Wrong.{Wrong}
use Rattle.ifs_text.specs.declared.fault.Wrong.TheVariants as wrong

abbrev pub cause_by : Wrong → List ℕ → TextCause
cause_by wrong.UnknownKey key = causes.UnknownKey key
cause_by wrong.RepeatedKey key = causes.RepeatedKey key
cause_by wrong.MissingKey key = causes.MissingKey key
cause_by wrong.BadValue key = causes.BadValue key
cause_by wrong.BadVersion key = causes.BadVersion
