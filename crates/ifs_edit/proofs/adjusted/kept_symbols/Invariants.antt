use Rattle.std.proofs.Common.{◌≡◌, ◌∷◌, [], cond, take}
use Rattle.std.specs.List.{flat_map}
use Rattle.ifs_edit.specs.Adjusted.{is_kept, sized}
use Rattle.ifs_edit.proofs.adjusted.kept_symbols.Given as goal

abbrev pub invariant-loop-symbol : goal.invariant-loop-symbol
invariant-loop-symbol l = l.kept.items ≡ flat_map (λ s. cond (is_kept l.options s) (sized l.options.strip_size s ∷ []) []) (take l.symbol-index l.symbols)
