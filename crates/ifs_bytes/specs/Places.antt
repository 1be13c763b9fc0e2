-- Places of a table or a list, as a loop over them goes.
use Rattle.std.specs.Prelude.{ℕ, ◌-◌, List}
use Rattle.std.specs.List.{range_with_len}

-- the places from i to before n
abbrev pub places : ℕ → ℕ → List ℕ
places i n = range_with_len i (n - i)
