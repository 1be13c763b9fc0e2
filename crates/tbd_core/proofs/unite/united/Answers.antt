use Rattle.std.proofs.Common.{map, ap, ◌∙◌}
use Rattle.tbd_core.specs.Keys.{key_of}
use Rattle.tbd_core.specs.Union.{united, united_symbol}
use Rattle.tbd_core.proofs.Runs.{same_groups}
use Rattle.tbd_core.proofs.unite.united.Goals as goal

pub returns : goal.returns
returns c =
    c.from_vec.ensures ∙ c.in_ok-united_sorted.ensures ∙ ap united c.as_slice.ensures.value
    ∙ ap (map united_symbol) (same_groups key_of c.sort_symbols.new.symbols.items c.args.symbols.items c.in_ok-sort_symbols.ensures.same_symbols)
