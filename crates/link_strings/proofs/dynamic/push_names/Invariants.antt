use Rattle.std.proofs.Common.{◌≡◌, ◌++◌, map, take}
use Rattle.link_strings.specs.Named.{name_in, strings_of}
use Rattle.link_strings.proofs.dynamic.push_names.Given as goal

abbrev pub invariant-loop-n : goal.invariant-loop-n
invariant-loop-n l =
    strings_of l.all.items ≡ strings_of l.fn.all.items ++ map (name_in l.r) (take l.n-index l.rows)
