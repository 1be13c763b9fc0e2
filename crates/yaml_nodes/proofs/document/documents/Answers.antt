use Rattle.std.proofs.Common.{ap, length, arith}
use Rattle.std.proofs.lemmas.Result.{err_from_is_err_and}
use Rattle.yaml_nodes.proofs.DocumentTurns.{documents_turn, documents_stop}
use Rattle.yaml_nodes.proofs.document.documents.Goals as goal

pub loop-first-preserved : goal.loop-first-preserved
loop-first-preserved c =
    documents_turn c.loop-first.found.items c.add.new.found.items c.in-Some.first c.loop-first.rest c.in-Some.after _ c.in-Some.ensures c.in_ok-add.ensures c.loop-first.invariant

pub loop-first-smaller : goal.loop-first-smaller
loop-first-smaller c = omega (arith, ap length c.in-Some.ensures)

pub returns-in_err-add : goal.returns-in_err-add
returns-in_err-add c =
    let p = err_from_is_err_and c.from_residual-in_err-add.result c.from_residual-in_err-add.ensures.1 in
    rw (p.1, p.2) (documents_stop c.loop-first.found.items c.in_err-add.field-0.0 c.in-Some.first c.loop-first.rest c.in-Some.after _ c.in-Some.ensures c.in_err-add.ensures c.loop-first.invariant)
