use Rattle.std.proofs.Common.{rules}
use Rattle.ifs_stub.specs.Rows.{pointed}
use Rattle.ifs_stub.proofs.Pointed.{rows_more, rows_end}
use Rattle.ifs_stub.proofs.collapse.rows_at.Goals as goal

pub loop-place-preserved : goal.loop-place-preserved
loop-place-preserved c =
    rows_more c.args.rows.now c.args.places.now c.loop-place.place-index _ (pointed c.loop-place.sorted.items) _ _ c.loop-place-test.true (search rules) c.in_ok-push_row_at.ensures c.loop-place.invariant

pub returns : goal.returns
returns c =
    rows_end c.args.rows.now c.args.places.now c.loop-place.place-index (pointed c.loop-place.sorted.items) _ c.loop-place-test.false c.loop-place.invariant
