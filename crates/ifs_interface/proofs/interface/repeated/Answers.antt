use Rattle.std.proofs.Common.{◌≡◌, ◌+◌, ◌-◌, [], cond, Some, get_or, drop, sym, ap, ◌∙◌, arith}
use Rattle.ifs_interface.specs.Interface.{names_of, first_repeated}
use Rattle.ifs_interface.proofs.Repeats.{step_at, end_at}
use Rattle.ifs_interface.proofs.interface.repeated.Goals as goal

pub returns-then-eq-clause-name : goal.returns-then-eq-clause-name
returns-then-eq-clause-name c =
    let xs = c.args.symbols.now in
    let place = c.loop-place.place in
    let step = step_at xs (place - 1) place c.index-symbols-place.result c.index-symbols-place-in-loop-place.result c.eq.result (omega arith) (omega arith) c.eq.ensures in
    let found = ap (λ b. cond b (Some (get_or (names_of xs) place [])) (first_repeated (drop place (names_of xs)))) c.if-eq.true in
    sym (step ∙ found) ∙ c.loop-place.invariant

pub loop-place-preserved : goal.loop-place-preserved
loop-place-preserved c =
    let xs = c.args.symbols.now in
    let place = c.loop-place.place in
    let step = step_at xs (place - 1) place c.index-symbols-place.result c.index-symbols-place-in-loop-place.result c.eq.result (omega arith) (omega arith) c.eq.ensures in
    let passed = ap (λ b. cond b (Some (get_or (names_of xs) place [])) (first_repeated (drop place (names_of xs)))) c.if-eq.false in
    let next : place + 1 - 1 ≡ place = omega arith in
    rw next (sym (step ∙ passed) ∙ c.loop-place.invariant)

pub returns-clause-name : goal.returns-clause-name
returns-clause-name c =
    sym (end_at c.args.symbols.now (c.loop-place.place - 1) (omega arith)) ∙ c.loop-place.invariant
