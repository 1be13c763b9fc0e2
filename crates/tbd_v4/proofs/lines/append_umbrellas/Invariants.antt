use Rattle.std.proofs.Common.{◌≡◌, ◌++◌, take}
use Rattle.std.specs.List.{flat_map}
use Rattle.tbd_v4.specs.Lines.{umbrella_lines}
use Rattle.tbd_v4.proofs.lines.append_umbrellas.Given as goal

abbrev pub invariant-loop-umbrella : goal.invariant-loop-umbrella
invariant-loop-umbrella l = l.out ≡ l.fn.out ++ flat_map (umbrella_lines l.targets) (take l.umbrella-index l.umbrellas)
