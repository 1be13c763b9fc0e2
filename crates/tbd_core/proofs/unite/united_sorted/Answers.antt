use Rattle.std.proofs.Common.{◌≡◌, length, sym, arith}
use Rattle.tbd_core.specs.Keys.{key_of}
use Rattle.tbd_core.specs.Union.{united_symbol}
use Rattle.tbd_core.proofs.Runs.{run_within, one_more, none_more}
use Rattle.tbd_core.proofs.unite.united_sorted.Goals as goal

pub split_at-requires-in-loop-start : goal.split_at-requires-in-loop-start
split_at-requires-in-loop-start c =
    let within = run_within key_of c.split_at.result.1.now (omega arith) in
    omega (arith, c.run_length.ensures)

pub united_symbol-requires : goal.united_symbol-requires
united_symbol-requires c =
    let within = run_within key_of c.split_at.result.1.now (omega arith) in
    omega (arith, c.run_length.ensures)

pub loop-start-smaller : goal.loop-start-smaller
loop-start-smaller c =
    let within = run_within key_of c.split_at.result.1.now (omega arith) in
    omega (arith, c.run_length.ensures)

pub loop-start-preserved : goal.loop-start-preserved
loop-start-preserved c =
    let rest = c.split_at.result.1.now in
    let run = c.split_at-in-loop-start.result.0.now in
    let long : length run ≡ c.run_length.result = c.split_at-in-loop-start.ensures.front_len in
    let within = run_within key_of rest (omega arith) in
    let more = one_more key_of united_symbol c.args.sorted.now c.loop-start.start rest run c.run_length.result c.loop-start.symbols.items _ c.requires c.loop-start-test.true c.split_at.ensures.back c.run_length.ensures c.split_at-in-loop-start.ensures.front c.loop-start.invariant.value in
    record {
      within = omega (arith, c.run_length.ensures);
      value = rw (c.in_ok-push_symbol.ensures, long, c.in_ok-united_symbol.ensures) more;
    }

pub returns : goal.returns
returns c = sym (none_more key_of united_symbol c.args.sorted.now c.loop-start.start c.loop-start.symbols.items _ c.loop-start-test.false c.loop-start.invariant.value)
