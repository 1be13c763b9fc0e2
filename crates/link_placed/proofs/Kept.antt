-- What is kept beside a link says which tables are there.
use Rattle.std.proofs.Common.{Bool, List, refl}
use Rattle.link_machine.specs.Rules.{MachineRules}
use Rattle.link_core.specs.declared.layout.CommonAt.{CommonAt}
use Rattle.link_core.specs.declared.layout.PieceAt.{PieceAt}
use Rattle.link_core.specs.declared.plan.Plan.{Plan}
use Rattle.link_core.specs.Layout.{layout_of}
use Rattle.link_tables.specs.declared.output.FilledOutput.{FilledOutput}
use Rattle.link_where.specs.declared.ends.Ends.{Ends}
use Rattle.link_where.specs.declared.tables.TablePositions.{TablePositions}
use Rattle.link_where.specs.Tables.{IsOf}
use Rattle.link_placed.specs.Made.{Keeps, Laid, link_of}

pub kept_is_of :
    (rules : MachineRules) (m : Laid) (outputs : List FilledOutput) (pieces : List PieceAt) (commons : List CommonAt) (index : Plan)
    (positions : TablePositions) (ends : Ends) (moves words : Bool) → Keeps rules m outputs pieces commons index positions ends moves words
    → IsOf (link_of rules m) m.options.kind m.plan moves words m.layout
unfolding layout_of
kept_is_of rules m outputs pieces commons index positions ends moves words kept = record {
  kind_is = refl;
  plan_is = refl;
  moves_are = kept.moves_are;
  words_are = kept.words_are;
  layout_is = kept.made;
}
