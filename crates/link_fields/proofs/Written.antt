-- The bytes of a number that are written in place.
use borrow.Rule.Slice.PartMut.{put_mid}
use Rattle.std.proofs.Common.{◌≡◌, ℕ, zero, suc, ◌+◌, ◌-◌, ◌≤◌, List, ◌∷◌, ◌++◌, take, drop, refl, ap, ◌∙◌, sym, append_assoc, arith}
use Rattle.std.proofs.lemmas.List.{drop-drop}
use Rattle.std.specs.Int.{byte_at, bytes_low_first, to_le_bytes, w64}
use Rattle.link_core.specs.Patch.{with_field}

-- of bytes with the lowest first, the first are those of the lowest part
pub lowest_bytes : (i k n x : ℕ) → n ≤ k → take n (bytes_low_first i k x) ≡ bytes_low_first i n x
lowest_bytes i k zero x h = refl
lowest_bytes i zero (suc n) x h = absurd (omega arith)
lowest_bytes i (suc k) (suc n) x h =
    ap (λ (r : List ℕ). byte_at i x ∷ r) (lowest_bytes (suc i) k n x (omega arith))

-- bytes of which a part was written are those with the field in its place
pub field_written : (at size value : ℕ) (bytes written : List ℕ) → written ≡ bytes_low_first 0 size value
    → put_mid at (at + size - at) bytes written ≡ with_field bytes at size value
field_written at size value bytes written same =
    let long : at + size - at ≡ size = omega arith in
    let behind : drop (at + size - at) (drop at bytes) ≡ drop (at + size) bytes =
    ap (λ n. drop n (drop at bytes)) long ∙ drop-drop size at bytes in
    ap (λ (field : List ℕ). take at bytes ++ (field ++ drop (at + size - at) (drop at bytes))) same
    ∙ (ap (λ (rest : List ℕ). take at bytes ++ (bytes_low_first 0 size value ++ rest)) behind
    ∙ sym (append_assoc (take at bytes) (bytes_low_first 0 size value) (drop (at + size) bytes)))

-- the same, from the eight bytes of the value
pub field_put : (at size value : ℕ) (bytes raw written : List ℕ) → size ≤ 8 → raw ≡ to_le_bytes w64 value
    → written ≡ take size raw → put_mid at (at + size - at) bytes written ≡ with_field bytes at size value
field_put at size value bytes raw written small is_raw same =
    field_written at size value bytes written
    (same ∙ (ap (λ (xs : List ℕ). take size xs) is_raw ∙ lowest_bytes 0 8 size value small))
