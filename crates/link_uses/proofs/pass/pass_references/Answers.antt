use Rattle.std.proofs.lemmas.Result.{err_from_is_err_and}
use Rattle.link_uses.proofs.Passes.{handed_on, reference_on, reference_ends, references_done}
use Rattle.link_uses.proofs.pass.pass_references.Goals as goal

pub returns-in_err-pass_reference : goal.returns-in_err-pass_reference
returns-in_err-pass_reference g c =
    handed_on c.pass_reference.new.list.items c.from_residual.result c.in_err-pass_reference.field-0.0 _
    (err_from_is_err_and c.from_residual.result c.from_residual.ensures.1)
    (reference_ends g.M.Machine.rules c.args.given.now c.args.object.0 c.args.object.1.now c.args.kept.now
    c.args.table.now c.loop-reference.list.items
    c.references-reference-items.result.now c.loop-reference.reference-index c.in_err-pass_reference.field-0.0
    c.args.list.now.items c.requires.kept c.requires.targets c.references-reference-items.ensures
    c.loop-reference-test.true
    c.in_err-pass_reference.ensures c.loop-reference.invariant)

pub loop-reference-preserved : goal.loop-reference-preserved
loop-reference-preserved g c =
    reference_on g.M.Machine.rules c.args.given.now c.args.object.0 c.args.object.1.now c.args.kept.now
    c.args.table.now c.loop-reference.list.items c.pass_reference.new.list.items
    c.references-reference-items.result.now c.loop-reference.reference-index _ c.requires.kept
    c.requires.targets c.references-reference-items.ensures c.loop-reference-test.true
    c.in_ok-pass_reference.ensures c.loop-reference.invariant

pub returns : goal.returns
returns g c =
    references_done g.M.Machine.rules c.args.given.now c.args.object.0 c.args.object.1.now c.args.kept.now
    c.args.table.now c.loop-reference.list.items c.args.list.now.items
    c.references-reference-items.result.now c.loop-reference.reference-index
    c.references-reference-items.ensures c.loop-reference-test.false c.loop-reference.invariant
