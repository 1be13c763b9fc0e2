-- Steps of the loops that go over the bytes of a scalar.
use Rattle.std.proofs.Common.{◌≡◌, ℕ, zero, suc, ◌+◌, ◌≤◌, Bool, true, false, cond, ◌&&◌, ◌==◌, List, [], ◌∷◌, ◌-◌, length, take, drop, Option, Some, None, refl, ap, sym, ◌∙◌, arith, get_or, ◌++◌, append_assoc, length-drop}
use Rattle.std.proofs.Math.Seq.{take-length}
use Rattle.std.specs.Prelude.{option_map, is_none}
use Rattle.std.specs.Str.{byte}
use Rattle.yaml_tokens.specs.Escapes.{escape, coded, two, four, eight, joined, is_character, short}
use Rattle.yaml_tokens.specs.Scalars.{unescaped, bad_escape, next_text, next_size, is_bad_escape, escape_size}
use Rattle.yaml_tokens.specs.declared.escape.Escape.{Escape}

-- a count on top of a count of one more
pub shifted : (seen : ℕ) (o : Option ℕ) → option_map (λ n. seen + n) (option_map (λ n. 1 + n) o) ≡ option_map (λ n. seen + 1 + n) o
shifted seen None = refl
shifted seen (Some n) = let e : seen + (1 + n) ≡ seen + 1 + n = omega arith in ap Some e

-- the size of a plain scalar so far, where n bytes of it follow
pub plain_turn : (blank : Bool) (size seen n : ℕ)
    → cond (cond (blank && n == 0) 0 (1 + n) == 0) size (seen + cond (blank && n == 0) 0 (1 + n)) ≡ cond (n == 0) (cond blank size (seen + 1)) (seen + 1 + n)
plain_turn true size seen zero = refl
plain_turn false size seen zero = grind arith
plain_turn true size seen (suc n) = grind arith
plain_turn false size seen (suc n) = grind arith

-- what follows the first byte, as a pattern of a slice gives it
pub tail_is : (b : ℕ) (z : List ℕ) → take (length (b ∷ z) - 1) z ≡ z
tail_is b z = let e : suc (length z) - 1 ≡ length z = omega arith in ap (λ n. take n z) e ∙ take-length z

-- the text behind the bytes of an escape
pub unescaped_behind : (k : ℕ) (z : List ℕ) → unescaped k z ≡ unescaped zero (drop k z)
unescaped_behind zero [] = refl
unescaped_behind zero (b ∷ rest) = refl
unescaped_behind (suc k) [] = refl
unescaped_behind (suc k) (b ∷ rest) = unescaped_behind k rest

-- one turn of the loop over them
pub unescaped_turn : (out new rest after all z : List ℕ) (n : ℕ) → 1 ≤ length z → after ≡ take (length z - 1) (drop 1 z) → new ≡ out ++ next_text (get_or z 0 0) after
    → n ≡ next_size (get_or z 0 0) after → rest ≡ drop n after → out ++ unescaped zero z ≡ all → new ++ unescaped zero rest ≡ all
unescaped_turn out new rest after all [] n some tail pushed size left so_far = absurd (omega arith)
unescaped_turn out new rest after all (b ∷ z) n some tail pushed size left so_far =
    let is : after ≡ z = tail ∙ tail_is b z in
    let step : unescaped zero rest ≡ unescaped (next_size b after) after =
    ap (unescaped zero) left ∙ sym (unescaped_behind n after) ∙ ap (λ k. unescaped k after) size in
    ap (λ w. w ++ unescaped zero rest) pushed ∙ append_assoc out (next_text b after) (unescaped zero rest)
    ∙ (ap (λ w. out ++ (next_text b after ++ w)) step ∙ (ap (λ w. out ++ (next_text b w ++ unescaped (next_size b w) w)) is ∙ so_far))

pub bad_escape_behind : (k at : ℕ) (z : List ℕ) → bad_escape k at z ≡ bad_escape zero (at + k) (drop k z)
bad_escape_behind zero at [] = refl
bad_escape_behind zero at (b ∷ rest) = let e : at ≡ at + 0 = omega arith in ap (λ n. bad_escape zero n (b ∷ rest)) e
bad_escape_behind (suc k) at [] = refl
bad_escape_behind (suc k) at (b ∷ rest) =
    let e : at + 1 + k ≡ at + suc k = omega arith in
    bad_escape_behind k (at + 1) rest ∙ ap (λ n. bad_escape zero n (drop k rest)) e

-- digits stand in the bytes that they are read from
two_fits : (z : List ℕ) (v : ℕ) → two z ≡ Some v → 2 ≤ length z
unfolding two
two_fits [] v h = cc
two_fits (a ∷ []) v h = cc
two_fits (a ∷ b ∷ rest) v h = omega arith

joined_low : (base : ℕ) (a b : Option ℕ) (v : ℕ) → joined base a b ≡ Some v → (w : ℕ) × (b ≡ Some w)
joined_low base None b v h = absurd (cc)
joined_low base (Some x) None v h = absurd (cc)
joined_low base (Some x) (Some w) v h = (w, refl)

four_fits : (z : List ℕ) (v : ℕ) → four z ≡ Some v → 4 ≤ length z
unfolding four
four_fits z v h =
    let low = joined_low 256 (two z) (two (drop 2 z)) v h in
    let e : 2 ≤ length (drop 2 z) = two_fits (drop 2 z) low.0 low.1 in
    omega (arith, length-drop 2 z)

eight_fits : (z : List ℕ) (v : ℕ) → eight z ≡ Some v → 8 ≤ length z
unfolding eight
eight_fits z v h =
    let low = joined_low 65536 (four z) (four (drop 4 z)) v h in
    let e : 4 ≤ length (drop 4 z) = four_fits (drop 4 z) low.0 low.1 in
    omega (arith, length-drop 4 z)

-- the bytes of an escape are as many as it says
coded_fits : (size : ℕ) (code : Option ℕ) (n : ℕ) → ((v : ℕ) → code ≡ Some v → size ≤ n) → is_none (coded size code) ≡ false → escape_size (coded size code) ≤ n
unfolding coded
coded_fits size None n fits h = let q : true ≡ false = h in cc
coded_fits size (Some v) n fits h =
    elim (is_character v) as (λ t. is_none {T = Escape} (cond t (Some (record { size = size; character = v })) None) ≡ false → escape_size (cond t (Some (record { size = size; character = v })) None) ≤ n)
    [ true ↦ λ _. fits v refl | false ↦ λ q. let r : true ≡ false = q in cc ] h

escape_fits : (z : List ℕ) → is_none (escape z) ≡ false → escape_size (escape z) ≤ length z
unfolding escape
escape_fits [] h = let q : true ≡ false = h in cc
escape_fits (b ∷ rest) h =
    let P : Option Escape → Type 0 = λ e. is_none e ≡ false → escape_size e ≤ length (b ∷ rest) in
    let x : P (coded 3 (two rest)) = coded_fits 3 (two rest) (length (b ∷ rest)) (λ v e. omega (arith, two_fits rest v e)) in
    let u : P (coded 5 (four rest)) = coded_fits 5 (four rest) (length (b ∷ rest)) (λ v e. omega (arith, four_fits rest v e)) in
    let w : P (coded 9 (eight rest)) = coded_fits 9 (eight rest) (length (b ∷ rest)) (λ v e. omega (arith, eight_fits rest v e)) in
    let s : P (coded 1 (short b)) = coded_fits 1 (short b) (length (b ∷ rest)) (λ v e. omega arith) in
    elim (b == byte "x") as (λ t. P (cond t (coded 3 (two rest)) (cond (b == byte "u") (coded 5 (four rest)) (cond (b == byte "U") (coded 9 (eight rest)) (coded 1 (short b)))))) [
      | true ↦ x
      | false ↦ elim (b == byte "u") as (λ t. P (cond t (coded 5 (four rest)) (cond (b == byte "U") (coded 9 (eight rest)) (coded 1 (short b))))) [
        | true ↦ u
        | false ↦ elim (b == byte "U") as (λ t. P (cond t (coded 9 (eight rest)) (coded 1 (short b)))) [ true ↦ w | false ↦ s ]
      ]
    ] h

pub next_fits : (b : ℕ) (z : List ℕ) → is_bad_escape b z ≡ false → next_size b z ≤ length z
unfolding is_bad_escape next_size
next_fits b z h =
    elim (b == byte "\\") as (λ t. (t && is_none (escape z)) ≡ false → cond t (escape_size (escape z)) 0 ≤ length z)
    [ true ↦ λ q. escape_fits z q | false ↦ λ q. omega arith ] h

-- one turn of the loop that looks for a bad escape
pub bad_escape_turn : (at n : ℕ) (rest after z : List ℕ) (all : Option ℕ) → 1 ≤ length z → after ≡ take (length z - 1) (drop 1 z) → is_bad_escape (get_or z 0 0) after ≡ false
    → n ≡ next_size (get_or z 0 0) after → rest ≡ drop n after → all ≡ bad_escape zero at z → all ≡ bad_escape zero (at + (1 + n)) rest
bad_escape_turn at n rest after [] all some tail good size left so_far = absurd (omega arith)
bad_escape_turn at n rest after (b ∷ z) all some tail good size left so_far =
    let is : after ≡ z = tail ∙ tail_is b z in
    let good' : is_bad_escape b z ≡ false = ap (is_bad_escape b) (sym is) ∙ good in
    let e : at + 1 + n ≡ at + (1 + n) = omega arith in
    so_far ∙ ap (λ t. cond t (Some at) (bad_escape (next_size b z) (at + 1) z)) good'
    ∙ ap (λ w. bad_escape (next_size b w) (at + 1) w) (sym is)
    ∙ ap (λ k. bad_escape k (at + 1) after) (sym size)
    ∙ bad_escape_behind n (at + 1) after
    ∙ ap (λ k. bad_escape zero k (drop n after)) e
    ∙ ap (bad_escape zero (at + (1 + n))) (sym left)

-- and what it leaves
pub bad_escape_seen : (at n : ℕ) (rest after z all : List ℕ) → 1 ≤ length z → after ≡ take (length z - 1) (drop 1 z) → is_bad_escape (get_or z 0 0) after ≡ false
    → n ≡ next_size (get_or z 0 0) after → rest ≡ drop n after → at + length z ≡ length all → at + (1 + n) + length rest ≡ length all
bad_escape_seen at n rest after [] all some tail good size left so_far = absurd (omega arith)
bad_escape_seen at n rest after (b ∷ z) all some tail good size left so_far =
    let is : length after ≡ length z = ap length (tail ∙ tail_is b z) in
    let fits : next_size b after ≤ length after = next_fits b after good in
    let rests : length rest ≡ length (drop n after) = ap length left in
    omega (arith, length-drop n after)
