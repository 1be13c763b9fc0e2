-- The positions of all targets, as a loop counts up.
use Rattle.std.proofs.Common.{◌≡◌, ℕ, zero, suc, ◌+◌, ◌-◌, List, [], ◌∷◌, ◌++◌, sym, ap, ◌∙◌, arith}
use Rattle.std.specs.List.{range_with_len}
use Rattle.ifs_bytes.specs.Places.{places}

range_more : (i n : ℕ) → range_with_len i (suc n) ≡ range_with_len i n ++ (i + n) ∷ []
range_more i zero = let e : i + 0 ≡ i = omega arith in ap (λ k. k ∷ []) (sym e)
range_more i (suc n) =
    let e : i + 1 + n ≡ i + suc n = omega arith in
    ap (λ xs. i ∷ xs) (range_more (i + 1) n ∙ ap (λ k. range_with_len (i + 1) n ++ k ∷ []) e)

pub one_more : (i : ℕ) (all new : List ℕ) → all ≡ places 0 i → new ≡ all ++ i ∷ [] → new ≡ places 0 (i + 1)
one_more i all new so_far pushed =
    let e : (i + 1) - 0 ≡ suc i = omega arith in
    let f : i - 0 ≡ i = omega arith in
    let g : 0 + i ≡ i = omega arith in
    pushed ∙ ap (λ xs. xs ++ i ∷ []) (so_far ∙ ap (range_with_len 0) f)
    ∙ ap (λ k. range_with_len 0 i ++ k ∷ []) (sym g) ∙ sym (range_more 0 i) ∙ sym (ap (range_with_len 0) e)
