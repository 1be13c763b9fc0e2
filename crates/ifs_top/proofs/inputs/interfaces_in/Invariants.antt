use Rattle.std.proofs.Common.{◌≡◌, ◌+◌, length}
use Rattle.ifs_top.specs.Inputs.{interface_in}
use Rattle.ifs_top.specs.Refused.{behind, each}
use Rattle.ifs_top.proofs.inputs.interfaces_in.Given as goal

-- what is left gives the rest
abbrev pub invariant-loop-input : goal.invariant-loop-input
invariant-loop-input l =
    (behind l.interfaces.items (each (interface_in l.format) l.input-iterator.rest.items) ≡ each (interface_in l.format) l.fn.inputs)
    × (length l.interfaces.items + length l.input-iterator.rest.items ≡ length l.fn.inputs)
