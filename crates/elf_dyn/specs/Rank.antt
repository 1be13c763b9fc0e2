-- Numbers that the first bytes of names give. They put names in order, but for those that share one.
use Rattle.std.specs.Prelude.{ℕ, zero, suc, ◌+◌, ◌*◌, ◌^◌, Bool, List, [], ◌∷◌, length, take, drop, nat_lt, if◌then◌else◌}
use Rattle.std.specs.List.{list_all}
use Rattle.ifs_interface.specs.Triple.{same_name}
use Rattle.ifs_interface.specs.Interface.{comes_before}

-- the number in the first n bytes, the highest first, with zeros behind the last where there are fewer
abbrev pub leading : ℕ → List ℕ → ℕ
leading zero bytes = 0
leading (suc n) [] = 0
leading (suc n) (byte ∷ bytes) = byte * 256 ^ n + leading n bytes

-- a name that begins with front goes by the eight bytes behind it; others are lowest before front, and
-- highest behind it
abbrev pub rank : List ℕ → List ℕ → ℕ
rank front name =
    if same_name (take (length front) name) front then leading 8 (drop (length front) name)
    else if comes_before name front then 0
    else 0xffffffffffffffff

-- none is above 255
abbrev pub are_bytes : List ℕ → Bool
are_bytes numbers = list_all (λ number. nat_lt number 256) numbers
