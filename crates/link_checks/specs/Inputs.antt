-- Inputs that can't be linked.
use Rattle.std.specs.Prelude.{ℕ, Bool, true, false, ◌&&◌, ◌==◌, if◌then◌else◌, Option, Some, None}
use Rattle.link_core.specs.declared.input.Lib.{Lib}
use Rattle.link_core.specs.declared.input.LibSource.{LibSource}
use Rattle.link_core.specs.declared.input.LibSource.TheVariants as sources
use Rattle.link_core.specs.declared.refusal.LinkRefusal.{LinkRefusal}
use Rattle.link_core.specs.declared.refusal.LinkRefusal.TheVariants as refusals
use Rattle.link_core.specs.Resolution.{is_linked_for}

-- a library defines symbol versions
abbrev pub is_versioned : {S : Type 0} → LibSource S → Bool
is_versioned (sources.Held lib) = false
is_versioned sources.Versioned = true
is_versioned (sources.Refused cause) = false

abbrev pub versioned_at : {S : Type 0} → ℕ × Lib S → Option LinkRefusal
versioned_at lib = if is_versioned lib.1.source then Some (refusals.Versioned lib.0) else None

-- an object of its own machine is linked for a machine
abbrev pub is_linked : ℕ → ℕ → Bool
is_linked own machine = is_linked_for own && own == machine
