use Rattle.std.proofs.Common.{sym, ap, ◌∙◌}
use Rattle.elf_dyn.specs.Strings.{string_table, name_of}
use Rattle.elf_dyn.specs.NameEnds.{distance}
use Rattle.elf_dyn.proofs.Distances.{length_at}
use Rattle.elf_dyn.proofs.names.Lengths.at.Goals as goal

pub returns : goal.returns
unfolding name_of
returns c =
    let table = string_table c.args.self.now.names.bytes.now c.args.self.now.names.strings in
    c.distance_at.ensures
    ∙ ap (λ xs. distance xs c.args.at) c.table_of-table.ensures
    ∙ sym (length_at table c.args.at (sym c.none_at.ensures ∙ c.if-none_at.false))
