use Rattle.std.proofs.Common.{sym}
use Rattle.std.proofs.lemmas.Result.{err_from_is_err_and}
use Rattle.elf_dyn.specs.Hash.{buckets_in}
use Rattle.elf_dyn.proofs.Buckets.{turn, fault}
use Rattle.elf_dyn.proofs.hash.buckets.Goals as goal

pub loop-turn-preserved : goal.loop-turn-preserved
loop-turn-preserved c =
    let all = buckets_in c.args.bytes.now c.args.order c.args.at c.args.count c.args.first in
    rw (c.max-greatest.ensures, c.still_below-all_below.ensures) (turn c.args.bytes.now c.args.order c.args.first c.args.count c.loop-turn._turn c.loop-turn.place c.loop-turn.greatest c.in_ok-bucket.bucket c.loop-turn.all_below all c.loop-turn-test.true (sym c.in_ok-bucket.ensures.exact) c.loop-turn.invariant)

pub returns-in_err-bucket : goal.returns-in_err-bucket
returns-in_err-bucket c =
    let all = buckets_in c.args.bytes.now c.args.order c.args.at c.args.count c.args.first in
    let p = err_from_is_err_and c.from_residual.result c.from_residual.ensures.1 in
    rw (p.1, p.2) (fault c.args.bytes.now c.args.order c.args.first c.args.count c.loop-turn._turn c.loop-turn.place c.loop-turn.greatest c.loop-turn.all_below c.in_err-bucket.field-0.0 all c.loop-turn-test.true (sym c.in_err-bucket.ensures.exact) c.loop-turn.invariant)
