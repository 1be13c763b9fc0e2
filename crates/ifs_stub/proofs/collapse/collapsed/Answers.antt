use Rattle.std.proofs.Common.{◌≡◌, length, arith}
use Rattle.ifs_stub.proofs.Sorting.{run_length_within, symbols_more, symbols_end}
use Rattle.ifs_stub.proofs.collapse.collapsed.Goals as goal

pub split_at-requires-in-loop-start : goal.split_at-requires-in-loop-start
split_at-requires-in-loop-start c =
    let within = run_length_within c.split_at.result.1.now (omega arith) in
    omega (arith, c.run_length.ensures)

pub described-requires : goal.described-requires
described-requires c =
    let within = run_length_within c.split_at.result.1.now (omega arith) in
    omega (arith, c.run_length.ensures)

pub loop-start-smaller : goal.loop-start-smaller
loop-start-smaller c =
    let within = run_length_within c.split_at.result.1.now (omega arith) in
    omega (arith, c.run_length.ensures)

pub loop-start-preserved : goal.loop-start-preserved
loop-start-preserved c =
    let rows = c.args.rows.now in
    let start = c.loop-start.start in
    let rest = c.split_at.result.1.now in
    let run = c.split_at-in-loop-start.result.0.now in
    let k = c.run_length.result in
    let long : length run ≡ k = c.split_at-in-loop-start.ensures.front_len in
    let within = run_length_within rest (omega arith) in
    let more = symbols_more rows start rest run k c.loop-start.symbols.items c.in_ok-described.field-0 c.requires c.loop-start-test.true c.split_at.ensures.back c.run_length.ensures c.split_at-in-loop-start.ensures.front c.in_ok-described.ensures c.loop-start.invariant.1 in
    let items = c.in_ok-push.ensures.items in
    (omega (arith, c.run_length.ensures), rw (items, long) more)

pub returns : goal.returns
returns c = symbols_end c.args.rows.now c.loop-start.start c.loop-start.symbols.items c.loop-start-test.false c.loop-start.invariant.1
