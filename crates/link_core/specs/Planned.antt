-- What is known of a link once the needs of its references are.
use Rattle.std.specs.Option.{option_map_or}
use Rattle.std.specs.Prelude.{Bool, Err, List, Ok, Option, Result, [], false, if◌then◌else◌, position, slice_get, true, ℕ, ◌&&◌, ◌==◌}
use Rattle.ifs_interface.specs.Triple.{same_name}
use Rattle.elf_object.specs.Record.{ObjectRecord}
use Rattle.link_machine.specs.Rules.{MachineRules}
use Rattle.link_core.specs.declared.need.Need.TheVariants as needs
use Rattle.link_core.specs.declared.need.RefState.{RefState}
use Rattle.link_core.specs.declared.need.RefState.TheVariants as states
use Rattle.link_core.specs.declared.options.LinkOptions.{LinkOptions}
use Rattle.link_core.specs.declared.plan.Plan.{Plan}
use Rattle.link_core.specs.declared.plan.SymbolId.{SymbolId}
use Rattle.link_core.specs.declared.plan.SymbolId.TheVariants as ids
use Rattle.link_core.specs.declared.refusal.LinkRefusal.{LinkRefusal}
use Rattle.link_core.specs.declared.resolution.Bound.{Bound}
use Rattle.link_core.specs.declared.resolution.Bound.TheVariants as bounds
use Rattle.link_core.specs.declared.resolution.NameRow.{NameRow}
use Rattle.link_core.specs.declared.resolution.Resolution.{Resolution}
use Rattle.link_core.specs.OutputNames.{Piece, kept_pieces}
use Rattle.link_core.specs.Plan.{Needed, needed, needed_by}
use Rattle.link_core.specs.References.{Use, place_of, state_at, state_of_name, uses_of}

pub record Planned : Type 0 where
  pub rules : MachineRules
  pub options : LinkOptions
  pub objects : List ObjectRecord
  pub names : Resolution
  pub plan : Plan

-- the kept sections of the objects, and the references of these
abbrev pub pieces_in : Planned → List Piece
pieces_in j = kept_pieces j.names.dropped j.objects

abbrev pub uses_by : Planned → List Use
uses_by j = uses_of j.names.dropped j.objects

-- ---- names

abbrev pub row_at : Planned → ℕ → Option NameRow
row_at j n = slice_get j.names.names n

-- the name at a position
unfoldable pub name_at : Planned → ℕ → List ℕ
name_at j n = option_map_or (λ row. row.name) (row_at j n) []

abbrev pub is_of_object : Bound → Bool
is_of_object (bounds.Object object row) = true
is_of_object bounds.Common = false
is_of_object bounds.Provided = false
is_of_object (bounds.Library library) = false
is_of_object bounds.Import = false
is_of_object bounds.Zero = false

-- the position of a name that is bound to an object
unfoldable pub object_name : Planned → List ℕ → Option ℕ
object_name j name = position (λ row. same_name row.name name && is_of_object row.bound) j.names.names

-- ---- the state of a symbol

-- row 0 of an object is no symbol
abbrev pub local_state : Planned → ℕ → ℕ → RefState
local_state j object row = if row == 0 then states.Abs else state_at (place_of j.objects object row)

unfoldable pub symbol_state : Planned → SymbolId → RefState
symbol_state j (ids.Name n) = option_map_or (state_of_name j.objects) (row_at j n) states.Zero
symbol_state j (ids.Local object row) = local_state j object row
symbol_state j ids.Module = states.Own

-- ---- what a reference needs, where the plan was made

-- a reference whose need is refused has no plan
abbrev pub need_or_none : Use → Result Needed LinkRefusal → Needed
need_or_none u (Ok n) = n
need_or_none u (Err refusal) = needed u (ids.Local u.object 0) needs.Clear

unfoldable pub need_in : Planned → Use → Needed
need_in j u = need_or_none u (needed_by j.rules j.options j.objects j.names u)
