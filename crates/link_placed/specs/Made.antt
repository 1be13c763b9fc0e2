-- A link that has its layout.
use Rattle.std.specs.Prelude.{Bool, List, nat_lt, ◌≡◌}
use Rattle.elf_object.specs.Record.{ObjectRecord}
use Rattle.link_machine.specs.Rules.{MachineRules}
use Rattle.link_core.specs.declared.layout.CommonAt.{CommonAt}
use Rattle.link_core.specs.declared.layout.Layout.{Layout}
use Rattle.link_core.specs.declared.layout.PieceAt.{PieceAt}
use Rattle.link_core.specs.declared.options.LinkOptions.{LinkOptions}
use Rattle.link_core.specs.declared.plan.Plan.{Plan}
use Rattle.link_core.specs.declared.resolution.Resolution.{Resolution}
use Rattle.link_core.specs.Entries.{rela_dyn_count}
use Rattle.link_core.specs.Places.{code_segment_end, file_end, read_segment_end, zeros_start}
use Rattle.link_core.specs.Planned.{Planned}
use Rattle.link_core.specs.Slots.{word_count}
use Rattle.link_layout.specs.Laws.{IsLayoutOf}
use Rattle.link_tables.specs.declared.output.FilledOutput.{FilledOutput}
use Rattle.link_tables.specs.Filled.{outputs_filled}
use Rattle.link_where.specs.declared.ends.Ends.{Ends}
use Rattle.link_where.specs.declared.tables.TablePositions.{TablePositions}
use Rattle.link_where.specs.Tables.{positions as table_positions}

-- a link without the rules of its machine, and its layout
pub record Laid : Type 0 where
  pub options : LinkOptions
  pub objects : List ObjectRecord
  pub names : Resolution
  pub plan : Plan
  pub layout : Layout

abbrev pub laid : LinkOptions → List ObjectRecord → Resolution → Plan → Layout → Laid
laid options objects names plan layout =
    record { options = options; objects = objects; names = names; plan = plan; layout = layout }

abbrev pub link_of : MachineRules → Laid → Planned
link_of rules m =
    record { rules = rules; options = m.options; objects = m.objects; names = m.names; plan = m.plan }

abbrev pub IsMade : MachineRules → Laid → Type 0
IsMade rules m = IsLayoutOf (link_of rules m) m.layout

-- where the parts of a layout end
abbrev pub ends_of : Layout → Ends
ends_of l = record {
  read = read_segment_end l;
  code = code_segment_end l;
  file = file_end l;
  zeros = zeros_start l;
}

-- what is kept beside it, to find things by
pub record Keeps (rules : MachineRules) (m : Laid) (outputs : List FilledOutput) (pieces : List PieceAt) (commons : List CommonAt) (index : Plan) (positions : TablePositions) (ends : Ends) (moves words : Bool) : Type 0 where
  pub made : IsMade rules m
  pub outputs_are : outputs ≡ outputs_filled (link_of rules m)
  pub pieces_are : pieces ≡ m.layout.pieces
  pub commons_are : commons ≡ m.layout.commons
  pub index_is : index ≡ m.plan
  pub positions_are : positions ≡ table_positions (link_of rules m)
  pub ends_are : ends ≡ ends_of m.layout
  pub moves_are : nat_lt 0 (rela_dyn_count (link_of rules m)) ≡ moves
  pub words_are : nat_lt 0 (word_count (link_of rules m)) ≡ words
