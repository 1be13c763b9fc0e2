use Rattle.std.proofs.Common.{rules}
use Rattle.elf_dyn.proofs.Index.{fact_is}
use Rattle.elf_dyn.proofs.facts.fact_in.Goals as goal

pub first_named-requires : goal.first_named-requires
first_named-requires c = record { order = c.requires.sorted.rising; places = c.requires.are_places }

pub returns-in-Some : goal.returns-in-Some
returns-in-Some c =
    let fact = fact_is c.args.rows.now c.args.defined.now c.args.name.now c.requires in
    search (rules, fact)

pub returns-in-None : goal.returns-in-None
returns-in-None c =
    let fact = fact_is c.args.rows.now c.args.defined.now c.args.name.now c.requires in
    search (rules, fact)
