-- Numbers that are kept in 128 bits.
use Rattle.std.specs.Prelude.{min, ℕ, ◌-◌, ◌^◌}

-- 2^128 - 1 stands for any number above it
abbrev pub capped : ℕ → ℕ
capped n = min n (2 ^ 128 - 1)
