use Rattle.std.proofs.Common.{◌≡◌, length, arith}
use Rattle.link_mentions.proofs.Runs.{run_length_within, runs_more, runs_end}
use Rattle.link_mentions.proofs.by_name.runs_of.Goals as goal

pub split_at-requires-in-loop-start : goal.split_at-requires-in-loop-start
split_at-requires-in-loop-start c =
    let within = run_length_within c.split_at.result.1.now (omega arith) in
    omega (arith, c.run_length.ensures)

pub loop-start-smaller : goal.loop-start-smaller
loop-start-smaller c =
    let within = run_length_within c.split_at.result.1.now (omega arith) in
    omega (arith, c.run_length.ensures)

pub loop-start-preserved : goal.loop-start-preserved
loop-start-preserved c =
    let rest = c.split_at.result.1.now in
    let run = c.split_at-in-loop-start.result.0.now in
    let long : length run ≡ c.run_length.result = c.split_at-in-loop-start.ensures.front_len in
    let within = run_length_within rest (omega arith) in
    let more = runs_more c.args.sorted.now c.loop-start.start rest run c.run_length.result c.loop-start.runs.items c.requires c.loop-start-test.true c.split_at.ensures.back c.run_length.ensures c.split_at-in-loop-start.ensures.front c.loop-start.invariant.value in
    record {
      within = omega (arith, c.run_length.ensures);
      value = rw (c.in_ok-push_run.ensures, long) more;
    }

pub returns : goal.returns
returns c = runs_end c.args.sorted.now c.loop-start.start c.loop-start.runs.items c.loop-start-test.false c.loop-start.invariant.value
