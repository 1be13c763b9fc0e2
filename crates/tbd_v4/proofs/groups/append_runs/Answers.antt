use Rattle.std.proofs.Common.{◌≡◌, length, sym, arith}
use Rattle.tbd_core.proofs.Runs.{run_within}
use Rattle.tbd_v4.specs.Listed.{targets_of}
use Rattle.tbd_v4.proofs.Printing.{more_text, none_text}
use Rattle.tbd_v4.proofs.groups.append_runs.Goals as goal

pub split_at-requires-in-loop-start : goal.split_at-requires-in-loop-start
split_at-requires-in-loop-start c =
    let within = run_within targets_of c.split_at.result.1.now (omega arith) in
    omega (arith, c.run_length.ensures)

pub loop-start-smaller : goal.loop-start-smaller
loop-start-smaller c =
    let within = run_within targets_of c.split_at.result.1.now (omega arith) in
    omega (arith, c.run_length.ensures)

pub loop-start-preserved : goal.loop-start-preserved
loop-start-preserved c =
    let rest = c.split_at.result.1.now in
    let run = c.split_at-in-loop-start.result.0.now in
    let long : length run ≡ c.run_length.result = c.split_at-in-loop-start.ensures.front_len in
    let within = run_within targets_of rest (omega arith) in
    let more = more_text c.args.alone c.args.targets.now c.args.sorted.now c.loop-start.start rest run c.run_length.result c.loop-start.out _ c.requires c.loop-start-test.true c.split_at.ensures.back c.run_length.ensures c.split_at-in-loop-start.ensures.front c.loop-start.invariant.text in
    record {
      within = omega (arith, c.run_length.ensures);
      text = rw (c.in_ok-append_group.ensures, long) more;
    }

pub returns : goal.returns
returns c = sym (none_text c.args.alone c.args.targets.now c.args.sorted.now c.loop-start.start c.loop-start.out _ c.loop-start-test.false c.loop-start.invariant.text)
