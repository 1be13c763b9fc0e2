use Rattle.std.proofs.Common.{◌≡◌, length, sym, inr, arith}
use Rattle.std.proofs.lemmas.Result.{err_from_is_err_and}
use Rattle.ifs_edit.proofs.Binding.{meant_ok, meant_err}
use Rattle.ifs_edit.proofs.Uniting.{run_length_within, united_more, united_stops, united_end}
use Rattle.ifs_edit.proofs.sorted.united_each.Goals as goal

pub split_at-requires-in-loop-start : goal.split_at-requires-in-loop-start
split_at-requires-in-loop-start c =
    let within = run_length_within c.split_at.result.1.now (omega arith) in
    omega (arith, c.run_length.ensures)

pub united-requires : goal.united-requires
united-requires c =
    let within = run_length_within c.split_at.result.1.now (omega arith) in
    omega (arith, c.run_length.ensures)

pub loop-start-smaller : goal.loop-start-smaller
loop-start-smaller c =
    let within = run_length_within c.split_at.result.1.now (omega arith) in
    omega (arith, c.run_length.ensures)

pub returns-in_err-united : goal.returns-in_err-united
returns-in_err-united c =
    let p = err_from_is_err_and c.from_residual.result c.from_residual.ensures.1 in
    let cause = c.in_err-united.field-0.0 in
    rw (p.1, p.2) (meant_err _ cause _ _ c.in_err-united.ensures (λ stopped. united_stops c.args.sorted.now c.loop-start.start c.split_at.result.1.now c.split_at-in-loop-start.result.0.now c.run_length.result c.loop-start.symbols.items cause _ c.requires c.loop-start-test.true c.split_at.ensures.back c.run_length.ensures c.split_at-in-loop-start.ensures.front stopped c.loop-start.invariant.value))

pub loop-start-preserved : goal.loop-start-preserved
loop-start-preserved c =
    let rest = c.split_at.result.1.now in
    let run = c.split_at-in-loop-start.result.0.now in
    let long : length run ≡ c.run_length.result = c.split_at-in-loop-start.ensures.front_len in
    let within = run_length_within rest (omega arith) in
    let symbol = meant_ok _ c.in_ok-united.field-0 _ c.in_ok-united.ensures in
    let more = united_more c.args.sorted.now c.loop-start.start rest run c.run_length.result c.loop-start.symbols.items c.in_ok-united.field-0 _ c.requires c.loop-start-test.true c.split_at.ensures.back c.run_length.ensures c.split_at-in-loop-start.ensures.front symbol c.loop-start.invariant.value in
    record {
      within = omega (arith, c.run_length.ensures);
      value = rw (c.in_ok-push_symbol.ensures, long) more;
    }

pub returns : goal.returns
returns c = inr (sym (united_end c.args.sorted.now c.loop-start.start c.loop-start.symbols.items _ c.loop-start-test.false c.loop-start.invariant.value))
