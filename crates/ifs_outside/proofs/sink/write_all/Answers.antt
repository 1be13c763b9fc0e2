use Rattle.std.proofs.Common.{arith, ◌∙◌, length-drop}
use Rattle.std.proofs.lemmas.Result.{err_from_is_err_and}
use Rattle.ifs_outside.proofs.Prefix.{more_written, stopped}
use Rattle.ifs_outside.proofs.sink.write_all.Goals as goal

pub returns-in_err-done-clause-puts : goal.returns-in_err-done-clause-puts
returns-in_err-done-clause-puts g c =
    let p = err_from_is_err_and c.from_residual.result c.from_residual.ensures.1 in
    rw p.1 (stopped _ _ _ _ _ _ c.loop-done.invariant.within c.loop-done.invariant.written (rw c.split_at.ensures.back at c.in_err-done.ensures.puts))

pub loop-done-preserved : goal.loop-done-preserved
loop-done-preserved g c =
    let puts = rw c.split_at.ensures.back at c.in_ok-done.ensures.puts in
    record {
      within = omega (arith, puts.0, length-drop c.loop-done.done c.args.bytes.now);
      written = rw (puts.2, c.loop-done.invariant.written) (more_written _ _ _ _);
      counted = c.in_ok-done.ensures.counted ∙ c.loop-done.invariant.counted;
    }
