-- Instructions, which are words of 32 bits.
use Rattle.std.proofs.Common.{◌^◌, ◌<◌, ℤ, true, ◌≡◌, ℕ, List, [], ◌∷◌, ◌++◌, slice_index_or}
use Rattle.std.specs.Int.{w32, to_le_bytes}
use Rattle.link_machine.specs.A64.{word}
use Rattle.link_machine.specs.Patch.{patched, is_sound}
use Rattle.link_machine.specs.declared.rule.Field.{Field}
use Rattle.link_machine.proofs.Fits.{patched_fits}

-- an instruction with a value in its field is one
pub patched_word : (f : Field) (z : ℤ) (old : ℕ) → is_sound 4 f ≡ true → old < 2 ^ 32 → patched f z old < 2 ^ 32
patched_word f z old s h = patched_fits f z old 4 s h

-- the bytes of three numbers one by one, and those of br x17
pub three_and_jump : (p q r : List ℕ) (x y z a b c : ℕ) → p ≡ to_le_bytes w32 x → q ≡ to_le_bytes w32 y → r ≡ to_le_bytes w32 z
    → x ≡ a → y ≡ b → z ≡ c
    → (slice_index_or p 0 0 ∷ slice_index_or p 1 0 ∷ slice_index_or p 2 0 ∷ slice_index_or p 3 0
    ∷ slice_index_or q 0 0 ∷ slice_index_or q 1 0 ∷ slice_index_or q 2 0 ∷ slice_index_or q 3 0
    ∷ slice_index_or r 0 0 ∷ slice_index_or r 1 0 ∷ slice_index_or r 2 0 ∷ slice_index_or r 3 0
    ∷ 0x20 ∷ 0x02 ∷ 0x1f ∷ 0xd6 ∷ [])
    ≡ word a ++ word b ++ word c ++ word 0xd61f0220
three_and_jump p q r x y z a b c hp hq hr hx hy hz = rw (hp, hq, hr, hx, hy, hz)
