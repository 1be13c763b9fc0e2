use Rattle.std.proofs.Common.{◌∙◌, rules}
use Rattle.std.proofs.lemmas.Fn.{always_returns_same}
use Rattle.elf_dyn.specs.Found.{comes_before_at}
use Rattle.elf_dyn.proofs.Found.{partitioned, looked_up}
use Rattle.elf_dyn.proofs.by_name.first_named.Goals as goal

pub returns : goal.returns
returns c =
    let rows = c.args.rows.now in
    let places = c.args.places.now in
    let name = c.args.name.now in
    let split = c.partition_point-at.ensures.partitioned (comes_before_at rows name) (always_returns_same _ _ _ (λ a r f h. search rules)) (partitioned rows places name c.requires.order c.requires.places) in
    c.row_if_named.ensures
    ∙ looked_up rows places name c.partition_point-at.result c.requires.order c.requires.places c.partition_point-at.ensures.bound split
