use Rattle.std.proofs.Common.{sym, rules}
use Rattle.elf_object.proofs.Lying.{good_table}
use Rattle.elf_object.proofs.reference.push_references.Goals as goal

pub section-requires : goal.section-requires
section-requires c =
    let a = c.args in
    let lie = c.requires.lie.sections_lie in
    (good_table a.elf.now.bytes a.elf.now.header a.parts.now a.s c.in-Some.i lie c.requires.good (search rules) (sym c.in-Some.ensures)).there

pub push_entries-requires-clause-lie : goal.push_entries-requires-clause-lie
push_entries-requires-clause-lie c =
    let a = c.args in
    let lie = c.requires.lie.sections_lie in
    let good = good_table a.elf.now.bytes a.elf.now.header a.parts.now a.s c.in-Some.i lie c.requires.good (search rules) (sym c.in-Some.ensures) in
    rw (c.bytes.ensures, c.section.ensures) good.lie

pub push_entries-requires-clause-few : goal.push_entries-requires-clause-few
push_entries-requires-clause-few c =
    let a = c.args in
    let lie = c.requires.lie.sections_lie in
    let good = good_table a.elf.now.bytes a.elf.now.header a.parts.now a.s c.in-Some.i lie c.requires.good (search rules) (sym c.in-Some.ensures) in
    rw (c.section.ensures) good.few
