use Rattle.std.proofs.Common.{sym, ◌∙◌, rules}
use Rattle.elf_dyn.proofs.Ranking.{rank_before, rank_behind, less_is, are_bytes_of}
use Rattle.elf_dyn.proofs.ranked.rank.Goals as goal

pub returns-in-None-clause-rank : goal.returns-in-None-clause-rank
returns-in-None-clause-rank c = sym (rank_before c.args.front.now c.args.name.now c.in-None.ensures.cases (sym (less_is c.args.name.now c.args.front.now) ∙ sym c.lt.ensures ∙ c.if-lt.true))

pub returns-in-None-2-clause-rank : goal.returns-in-None-2-clause-rank
returns-in-None-2-clause-rank c = sym (rank_behind c.args.front.now c.args.name.now c.in-None-2.ensures.cases (sym (less_is c.args.name.now c.args.front.now) ∙ sym c.lt.ensures ∙ c.if-lt.false))

pub returns-in-Some-clause-bytes : goal.returns-in-Some-clause-bytes
returns-in-Some-clause-bytes c = are_bytes_of c.args.name.now (λ i. search rules)

pub returns-in-None-clause-bytes : goal.returns-in-None-clause-bytes
returns-in-None-clause-bytes c = are_bytes_of c.args.name.now (λ i. search rules)

pub returns-in-None-2-clause-bytes : goal.returns-in-None-2-clause-bytes
returns-in-None-2-clause-bytes c = are_bytes_of c.args.name.now (λ i. search rules)
