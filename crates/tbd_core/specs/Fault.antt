-- What a cause is by its text.
use Rattle.std.specs.Prelude.{ℕ, Bool, List, Option, Some, None, if◌then◌else◌}
use Rattle.tbd_core.specs.declared.cause.TbdCause.{TbdCause}
use Rattle.tbd_core.specs.declared.cause.TbdCause.TheVariants as causes
use Rattle.tbd_core.specs.declared.fault.Wrong.{Wrong}
use Rattle.tbd_core.specs.declared.fault.Wrong.TheVariants as wrong

abbrev pub cause_by : Wrong → List ℕ → TbdCause
cause_by wrong.UnknownKey text = causes.UnknownKey text
cause_by wrong.RepeatedKey text = causes.RepeatedKey text
cause_by wrong.MissingKey text = causes.MissingKey text
cause_by wrong.BadValue text = causes.BadValue text
cause_by wrong.UnknownTarget text = causes.UnknownTarget text
cause_by wrong.BadVersion text = causes.BadVersion

-- the value of a key, where it hasn't its form
abbrev pub bad_unless : Bool → List ℕ → Option TbdCause
bad_unless holds key = if holds then None else Some (causes.BadValue key)
