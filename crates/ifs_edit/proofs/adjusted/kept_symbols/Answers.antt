use Rattle.std.proofs.Common.{ap, ◌∙◌, arith}
use Rattle.std.specs.List.{flat_map}
use Rattle.std.proofs.lemmas.List.{take_all}
use Rattle.ifs_edit.specs.Adjusted.{is_kept, kept_symbols, sized}
use Rattle.ifs_edit.proofs.Kept.{kept_is_flat_map}
use Rattle.ifs_edit.proofs.adjusted.kept_symbols.Goals as goal

pub returns : goal.returns
unfolding kept_symbols
returns c =
    let options = c.args.options.now in
    let all = take_all c.loop-symbol.symbol-index c.args.symbols.now (omega arith) in
    c.loop-symbol.invariant ∙ ap (flat_map _) all ∙ kept_is_flat_map (sized options.strip_size) (is_kept options) c.args.symbols.now
