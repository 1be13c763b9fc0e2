-- A scalar that was printed in single quotes is read back.
use Rattle.std.proofs.Common.{◌≡◌, ℕ, suc, ◌+◌, Bool, true, false, cond, not, ◌&&◌, ◌==◌, List, [], ◌∷◌, ◌++◌, length, Option, Some, refl, ap, sym, ◌∙◌, arith, append_assoc, eqb-true}
use Rattle.std.specs.Prelude.{option_map}
use Rattle.std.specs.List.{flat_map}
use Rattle.yaml_tokens.specs.Bytes.{begins}
use Rattle.yaml_tokens.specs.Scalars.{single_size, undoubled}
use Rattle.yaml_profile.specs.Printed.{doubled}

-- so many bytes more
abbrev pub grown : List ℕ → Option ℕ → Option ℕ
grown [] o = o
grown (b ∷ bs) o = option_map (λ n. 1 + n) (grown bs o)

pub grown_some : (bs : List ℕ) (n : ℕ) → grown bs (Some n) ≡ Some (length bs + n)
grown_some [] n = let e : n ≡ 0 + n = omega arith in ap Some e
grown_some (b ∷ bs) n = ap (option_map (λ n. 1 + n)) (grown_some bs n) ∙ (let e : 1 + (length bs + n) ≡ suc (length bs) + n = omega arith in ap Some e)

pub grown_both : (front bs : List ℕ) (o : Option ℕ) → grown front (grown bs o) ≡ grown (front ++ bs) o
grown_both [] bs o = refl
grown_both (a ∷ front) bs o = ap (option_map (λ n. 1 + n)) (grown_both front bs o)

-- a byte between single quotes
doubled_size : (b : ℕ) (z : List ℕ) → single_size false (doubled b ++ z) ≡ grown (doubled b) (single_size false z)
unfolding doubled
doubled_size b z = by (b == 39) refl
  where
    by : (t : Bool) → (b == 39) ≡ t → single_size false (cond t (39 ∷ 39 ∷ []) (b ∷ []) ++ z) ≡ grown (cond t (39 ∷ 39 ∷ []) (b ∷ [])) (single_size false z)
    by true e = refl
    by false e = ap (λ t. cond (t && true && not (begins (λ c. c == 39) z)) (Some 1) (option_map (λ n. 1 + n) (single_size (t && true) z))) e

doubled_text : (b : ℕ) (z : List ℕ) → undoubled false (doubled b ++ z) ≡ b ∷ undoubled false z
unfolding doubled
doubled_text b z = by (b == 39) refl
  where
    by : (t : Bool) → (b == 39) ≡ t → undoubled false (cond t (39 ∷ 39 ∷ []) (b ∷ []) ++ z) ≡ b ∷ undoubled false z
    by true e = ap (λ w. w ∷ undoubled false z) (sym (eqb-true b 39 e))
    by false e = ap (λ t. cond (t && false) [] (b ∷ []) ++ undoubled (t && true) z) e

texts_size : (text z : List ℕ) → single_size false (flat_map doubled text ++ z) ≡ grown (flat_map doubled text) (single_size false z)
texts_size [] z = refl
texts_size (b ∷ text) z =
    let more = flat_map doubled text in
    ap (single_size false) (append_assoc (doubled b) more z)
    ∙ doubled_size b (more ++ z)
    ∙ ap (grown (doubled b)) (texts_size text z)
    ∙ grown_both (doubled b) more (single_size false z)

-- the closing quote ends it
pub single_reads : (text rest : List ℕ) → begins (λ c. c == 39) rest ≡ false → single_size false (flat_map doubled text ++ 39 ∷ rest) ≡ Some (length (flat_map doubled text) + 1)
single_reads text rest h =
    texts_size text (39 ∷ rest)
    ∙ ap (λ t. grown (flat_map doubled text) (cond (not t) (Some 1) (option_map (λ n. 1 + n) (single_size true rest)))) h
    ∙ grown_some (flat_map doubled text) 1

pub single_text : (text : List ℕ) → undoubled false (flat_map doubled text) ≡ text
single_text [] = refl
single_text (b ∷ text) = doubled_text b (flat_map doubled text) ∙ ap (λ w. b ∷ w) (single_text text)
