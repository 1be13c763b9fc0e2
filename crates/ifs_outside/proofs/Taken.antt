-- A read that takes the next bytes.
use Rattle.std.proofs.Common.{◌≡◌, ℕ, ◌+◌, ◌<◌, min, List, [], ◌++◌, length, take, drop, sym, arith, length-drop}
use Rattle.std.proofs.lemmas.List.{take-append-drop, drop-drop, drop_all}

-- what was left is what was taken and what is left behind it
pub taken : (bytes : List ℕ) (at n : ℕ) → drop at bytes ≡ take n (drop at bytes) ++ drop (at + n) bytes
taken bytes at n = rw (← drop-drop n at bytes) (sym (take-append-drop n (drop at bytes)))

-- where there was room and nothing was taken, nothing is left
pub none_left : (bytes : List ℕ) (at n room : ℕ) → n ≡ min room (length (drop at bytes)) → n ≡ 0 → 0 < room → drop (at + n) bytes ≡ []
none_left bytes at n room most none some = drop_all (at + n) bytes (omega (arith, length-drop at bytes))
