use Rattle.link_pieces.specs.Marks.{done}
use Rattle.link_pieces.proofs.Marked.{object_more}
use Rattle.link_pieces.proofs.dropped.dropped_sections.Goals as goal

pub loop-i-preserved : goal.loop-i-preserved
loop-i-preserved c =
    object_more c.args.objects.now c.loop-i.i c.index-objects-i.result (done c.loop-i.marks.seen c.loop-i.all.items)
    (done c.push_dropped.new.marks.seen c.push_dropped.new.all.items) c.loop-i-test.true c.index-objects-i.is c.loop-i.invariant
    c.in_ok-push_dropped.ensures
