use Rattle.std.proofs.Common.{◌≡◌, ◌-◌, ◌≤◌, length}
use Rattle.ifs_edit.specs.Elements.{elements_from, elements_of}
use Rattle.ifs_edit.proofs.Reading.{behind_done}
use Rattle.ifs_edit.proofs.glob.Glob.from_elements.Given as goal

-- what was read, before what is left
abbrev pub invariant-loop-rest : goal.invariant-loop-rest
invariant-loop-rest l = record {
  value : elements_of l.pattern ≡ behind_done l.elements.items (elements_from (length l.pattern - length l.rest) 0 l.rest);
  within : length l.rest ≤ length l.pattern;
}

abbrev pub decreases-loop-rest : goal.decreases-loop-rest
decreases-loop-rest l = length l.rest
