use Rattle.std.proofs.Common.{◌≡◌, drop}
use Rattle.link_uses.specs.Passes.{goes, reference_turn}
use Rattle.link_uses.proofs.pass.pass_references.Given as goal

abbrev pub invariant-loop-reference : goal.invariant-loop-reference
invariant-loop-reference g l =
    goes (reference_turn g.M.Machine.rules l.given l.position l.own) l.list.items
    (drop l.reference-index l.own.references)
    ≡ goes (reference_turn g.M.Machine.rules l.given l.position l.own) l.fn.list.items l.own.references
