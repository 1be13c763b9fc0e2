-- The lists of a plan, for the code alone.
use Rattle.std.specs.Prelude.{ℕ, Bool, List, map, filter}
use Rattle.std.specs.List.{enumerate_from}
use Rattle.link_core.specs.declared.plan.Plan.{Plan}
use Rattle.link_core.specs.declared.resolution.NameRow.{NameRow}
use Rattle.link_core.specs.declared.resolution.Resolution.{Resolution}
use Rattle.link_core.specs.Plan.{Needed, slots_of, entries_of, moves_of, is_import, positions}
use Rattle.link_needs.specs.Needs.{Lists}
use Rattle.link_uses.specs.Uses.{Taken}

-- what references need
abbrev pub needs_of : List Taken → List Needed
needs_of taken = map (λ t. t.needed) taken

-- the lists of what references need
abbrev pub lists_of : List Needed → Lists
lists_of all = record { got = slots_of all; plt = entries_of all; moves = moves_of all }

-- the plan of these lists
abbrev pub plan_with : Resolution → Lists → Plan
plan_with r s = record {
  got = s.got;
  plt = s.plt;
  moves = s.moves;
  imports = positions (λ row. is_import row.bound) r.names;
  exports = positions (λ row. row.exported) r.names;
}

-- the positions of names from one on
abbrev pub positions_from : (NameRow → Bool) → ℕ → List NameRow → List ℕ
positions_from test i rows = map (λ n. n.0) (filter (λ n. test n.1) (enumerate_from i rows))
