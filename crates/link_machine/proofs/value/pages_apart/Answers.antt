-- The difference of two pages fits.
use Rattle.std.proofs.Common.{rules, ◌-ℤ◌, arith}
use Rattle.std.specs.Int.{w128}
use Rattle.std.specs.Prelude.{FitsSigned}
use Rattle.std.proofs.lemmas.Int.{ints}
use Rattle.link_machine.specs.Values.{page_of}
use Rattle.link_machine.proofs.Signed.{difference}
use Rattle.link_machine.proofs.value.pages_apart.Goals as goal

pub returns : goal.returns
returns c =
    let x = c.page_start.result in
    let y = c.page_start-2.result in
    let fx : FitsSigned w128 x = search rules in
    let fy : FitsSigned w128 y = search rules in
    let fxy : FitsSigned w128 (x -ℤ y) = omega (arith, ints) in
    difference page_of c.args.to c.args.from x y c.ranges.to c.ranges.from c.page_start.ensures.value c.page_start-2.ensures.value fx fy fxy
