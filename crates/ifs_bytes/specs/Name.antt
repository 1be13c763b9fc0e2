-- Names in a string table: each ends before a NUL (gABI, "String Table").
use Rattle.std.specs.Prelude.{ℕ, List, ◌==◌, take, drop, position, Option, option_map}

-- the bytes from at to before the next NUL
abbrev pub name_in : List ℕ → ℕ → Option (List ℕ)
name_in table at = option_map (λ n. take n (drop at table)) (position (λ b. b == 0) (drop at table))
