use Rattle.std.proofs.Common.{◌≡◌, ◌++◌, ◌∷◌, take}
use Rattle.std.specs.List.{flat_map}
use Rattle.link_core.specs.Strings.{terminated}
use Rattle.link_strings.proofs.table.put_strings.Given as goal

abbrev pub invariant-loop-name : goal.invariant-loop-name
invariant-loop-name l =
    l.out.items ≡ l.fn.out.items ++ 0 ∷ flat_map (λ name. terminated name.now) (take l.name-index l.names)
