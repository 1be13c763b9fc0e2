use Rattle.std.proofs.Common.{◌+◌, ap, ◌∙◌, arith}
use Rattle.elf_dyn.specs.NameEnds.{distance}
use Rattle.elf_dyn.proofs.Distances.{nul, distance_within}
use Rattle.elf_dyn.proofs.names.next_nul.Goals as goal

pub returns-then-from-found-clause-within : goal.returns-then-from-found-clause-within
returns-then-from-found-clause-within c =
    let within = distance_within c.args.table.now c.args.from c.requires.within in
    let found = c.requires.found c.if-from-found.true in
    omega (arith, within, found)

pub returns-clause-place : goal.returns-clause-place
unfolding distance
returns-clause-place c =
    ap (λ n. c.args.from + n) (c.nul_or_end.ensures.place ∙ ap nul c.split_at.ensures.back)
