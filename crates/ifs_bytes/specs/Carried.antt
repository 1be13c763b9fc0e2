-- Numbers that a cause carries in 64 bits.
use Rattle.std.specs.Prelude.{ℕ, ◌-◌, ◌^◌, min}

-- 2^64 - 1 stands for any number above it
abbrev pub carried : ℕ → ℕ
carried n = min n (2 ^ 64 - 1)
