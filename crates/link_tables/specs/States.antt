-- The state of a symbol, by objects and names alone.
use Rattle.std.specs.Option.{option_map_or}
use Rattle.std.specs.Prelude.{List, if◌then◌else◌, slice_get, ℕ, ◌==◌}
use Rattle.elf_object.specs.Record.{ObjectRecord}
use Rattle.link_core.specs.declared.need.RefState.{RefState}
use Rattle.link_core.specs.declared.need.RefState.TheVariants as states
use Rattle.link_core.specs.declared.plan.SymbolId.{SymbolId}
use Rattle.link_core.specs.declared.plan.SymbolId.TheVariants as ids
use Rattle.link_core.specs.declared.resolution.NameRow.{NameRow}
use Rattle.link_core.specs.References.{place_of, state_at, state_of_name}

-- row 0 of an object is no symbol
abbrev pub local_state : List ObjectRecord → ℕ → ℕ → RefState
local_state objects object row = if row == 0 then states.Abs else state_at (place_of objects object row)

abbrev pub name_state : List ObjectRecord → List NameRow → ℕ → RefState
name_state objects names n = option_map_or (state_of_name objects) (slice_get names n) states.Zero

unfoldable pub state_of : List ObjectRecord → List NameRow → SymbolId → RefState
state_of objects names (ids.Name n) = name_state objects names n
state_of objects names (ids.Local object row) = local_state objects object row
state_of objects names ids.Module = states.Own
