-- A scalar that was printed in double quotes is read back.
use Rattle.std.proofs.Common.{◌≡◌, ℕ, zero, ◌+◌, ◌*◌, ◌/◌, ◌%◌, ◌<◌, Bool, true, false, cond, ◌&&◌, ◌==◌, List, [], ◌∷◌, ◌++◌, length, Some, None, refl, ap, sym, subst, ◌∙◌, arith, append_assoc, eqb-true}
use Rattle.std.proofs.lemmas.Bool.Decides.{nat_tests}
use Rattle.std.proofs.lemmas.Str.{encode_ascii}
use Rattle.std.specs.Prelude.{option_map, is_none}
use Rattle.std.specs.Char.{is_ascii_control}
use Rattle.std.specs.List.{flat_map}
use Rattle.yaml_tokens.specs.Escapes.{digit, joined, two, stands_for_itself, is_character, coded, escape}
use Rattle.yaml_tokens.specs.Scalars.{double_size, unescaped, next_text, next_size, escape_text, escape_size, is_bad_escape, bad_escape}
use Rattle.yaml_profile.specs.Printed.{hex_digit, escaped}
use Rattle.yaml_profile.proofs.PrintedBytes.{hex_is_no_mark, hex_is_digit, control_is_low}
use Rattle.yaml_profile.proofs.SingleBack.{grown, grown_some, grown_both}

-- what stands for a byte between double quotes
record StandsFor (b : ℕ) (unit : List ℕ) : Type 0 where
  size : (z : List ℕ) → double_size false (unit ++ z) ≡ grown unit (double_size false z)
  text : (z : List ℕ) → unescaped zero (unit ++ z) ≡ b ∷ unescaped zero z
  good : (at : ℕ) (z : List ℕ) → bad_escape zero at (unit ++ z) ≡ bad_escape zero (at + length unit) z

-- a byte before which no backslash has to stand
plain : (b : ℕ) → (b == 34) ≡ false → (b == 92) ≡ false → StandsFor b (b ∷ [])
unfolding next_text next_size is_bad_escape
plain b quote slash = record {
  size = λ z. ap (λ t. cond (t && true) (Some 1) (option_map (λ n. 1 + n) (double_size ((b == 92) && true) z))) quote ∙ ap (λ t. option_map (λ n. 1 + n) (double_size (t && true) z)) slash;
  text = λ z. ap (λ t. cond t (escape_text (escape z)) (b ∷ []) ++ unescaped (cond t (escape_size (escape z)) 0) z) slash;
  good = λ at z. ap (λ t. cond (t && is_none (escape z)) (Some at) (bad_escape (cond t (escape_size (escape z)) 0) (at + 1) z)) slash;
}

-- a backslash and a mark
slash_is : (z : List ℕ) → escape (92 ∷ z) ≡ Some (record { size = 1; character = 92 })
unfolding escape coded stands_for_itself
slash_is z = refl

quote_is : (z : List ℕ) → escape (34 ∷ z) ≡ Some (record { size = 1; character = 34 })
unfolding escape coded stands_for_itself
quote_is z = refl

-- an escape, by the bytes behind its backslash, none of which is a backslash or a quote but the first
text_by : (b : ℕ) (bytes z : List ℕ) → b < 128 → escape (bytes ++ z) ≡ Some (record { size = length bytes; character = b }) → unescaped (length bytes) (bytes ++ z) ≡ unescaped zero z
    → unescaped zero (92 ∷ (bytes ++ z)) ≡ b ∷ unescaped zero z
unfolding next_text next_size
text_by b bytes z low e skips =
    ap (λ o. escape_text o ++ unescaped (escape_size o) (bytes ++ z)) e
    ∙ ap (λ w. w ++ unescaped (length bytes) (bytes ++ z)) (encode_ascii b low)
    ∙ ap (λ w. b ∷ w) skips

good_by : (b at : ℕ) (bytes z : List ℕ) → escape (bytes ++ z) ≡ Some (record { size = length bytes; character = b })
    → bad_escape zero at (92 ∷ (bytes ++ z)) ≡ bad_escape (length bytes) (at + 1) (bytes ++ z)
unfolding next_size is_bad_escape
good_by b at bytes z e = ap (λ o. cond (is_none o) (Some at) (bad_escape (escape_size o) (at + 1) (bytes ++ z))) e

mark_size : (z : List ℕ) → double_size false (92 ∷ 92 ∷ z) ≡ grown (92 ∷ 92 ∷ []) (double_size false z)
mark_size z = refl

same_good : (at n m : ℕ) (z : List ℕ) → n ≡ m → bad_escape zero n z ≡ bad_escape zero m z
same_good at n m z e = ap (λ k. bad_escape zero k z) e

slash : StandsFor 92 (92 ∷ 92 ∷ [])
slash = record {
  size = λ z. refl;
  text = λ z. text_by 92 (92 ∷ []) z (omega arith) (slash_is z) refl;
  good = λ at z. good_by 92 at (92 ∷ []) z (slash_is z) ∙ same_good at (at + 1 + 1) (at + 2) z (omega arith);
}

quote : StandsFor 34 (92 ∷ 34 ∷ [])
quote = record {
  size = λ z. refl;
  text = λ z. text_by 34 (34 ∷ []) z (omega arith) (quote_is z) refl;
  good = λ at z. good_by 34 at (34 ∷ []) z (quote_is z) ∙ same_good at (at + 1 + 1) (at + 2) z (omega arith);
}

-- a control
low_is_character : (b : ℕ) → b < 128 → is_character b ≡ true
low_is_character b h = grind (arith, nat_tests)

parts : (b : ℕ) → b < 128 → (b / 16 < 16) × (b % 16 < 16) × (b / 16 * 16 + b % 16 ≡ b)
parts b h = (grind arith, grind arith, grind arith)

hex_is : (b : ℕ) (z : List ℕ) → b < 128 → escape (120 ∷ hex_digit (b / 16) ∷ hex_digit (b % 16) ∷ z) ≡ Some (record { size = 3; character = b })
unfolding escape two coded
hex_is b z h =
    let p = parts b h in
    ap (λ o. coded 3 (joined 16 o (digit (hex_digit (b % 16))))) (hex_is_digit (b / 16) p.0)
    ∙ ap (λ o. coded 3 (joined 16 (Some (b / 16)) o)) (hex_is_digit (b % 16) p.1)
    ∙ ap (λ n. coded 3 (Some n)) p.2
    ∙ ap (λ t. cond t (Some (record { size = 3; character = b })) None) (low_is_character b h)

-- two bytes of which none is a backslash or a quote
two_more : (a b : ℕ) (z : List ℕ) → (a == 34) ≡ false → (a == 92) ≡ false → (b == 34) ≡ false → (b == 92) ≡ false
    → double_size false (a ∷ b ∷ z) ≡ option_map (λ n. 1 + n) (option_map (λ n. 1 + n) (double_size false z))
two_more a b z aq asl bq bsl =
    (plain a aq asl).size (b ∷ z) ∙ ap (option_map (λ n. 1 + n)) ((plain b bq bsl).size z)

control : (b : ℕ) → b < 128 → StandsFor b (92 ∷ 120 ∷ hex_digit (b / 16) ∷ hex_digit (b % 16) ∷ [])
control b h =
    let p = parts b h in
    let high = hex_is_no_mark (b / 16) p.0 in
    let low = hex_is_no_mark (b % 16) p.1 in
    let bytes : List ℕ = 120 ∷ hex_digit (b / 16) ∷ hex_digit (b % 16) ∷ [] in
    record {
      size = λ z. ap (λ o. option_map (λ n. 1 + n) (option_map (λ n. 1 + n) o)) (two_more (hex_digit (b / 16)) (hex_digit (b % 16)) z high.0 high.1 low.0 low.1);
      text = λ z. text_by b bytes z h (hex_is b z h) refl;
      good = λ at z. good_by b at bytes z (hex_is b z h) ∙ same_good at (at + 1 + 1 + 1 + 1) (at + 4) z (omega arith);
    }

stands_for : (b : ℕ) → StandsFor b (escaped b)
unfolding escaped
stands_for b = by_slash (b == 92) refl
  where
    of_quote : Bool → Bool → List ℕ
    of_quote t u = cond t (92 ∷ 34 ∷ []) (cond u (92 ∷ 120 ∷ hex_digit (b / 16) ∷ hex_digit (b % 16) ∷ []) (b ∷ []))

    by_control : (u : Bool) → is_ascii_control b ≡ u → (b == 92) ≡ false → (b == 34) ≡ false → StandsFor b (of_quote false u)
    by_control true e s q = control b (control_is_low b e)
    by_control false e s q = plain b q s

    by_quote : (t : Bool) → (b == 34) ≡ t → (b == 92) ≡ false → StandsFor b (of_quote t (is_ascii_control b))
    by_quote true e s = subst (λ n. StandsFor n (92 ∷ 34 ∷ [])) (sym (eqb-true b 34 e)) quote
    by_quote false e s = by_control (is_ascii_control b) refl s e

    by_slash : (t : Bool) → (b == 92) ≡ t → StandsFor b (cond t (92 ∷ 92 ∷ []) (of_quote (b == 34) (is_ascii_control b)))
    by_slash true e = subst (λ n. StandsFor n (92 ∷ 92 ∷ [])) (sym (eqb-true b 92 e)) slash
    by_slash false e = by_quote (b == 34) refl e

texts_size : (text z : List ℕ) → double_size false (flat_map escaped text ++ z) ≡ grown (flat_map escaped text) (double_size false z)
texts_size [] z = refl
texts_size (b ∷ text) z =
    let more = flat_map escaped text in
    ap (double_size false) (append_assoc (escaped b) more z)
    ∙ (stands_for b).size (more ++ z)
    ∙ ap (grown (escaped b)) (texts_size text z)
    ∙ grown_both (escaped b) more (double_size false z)

pub double_reads : (text rest : List ℕ) → double_size false (flat_map escaped text ++ 34 ∷ rest) ≡ Some (length (flat_map escaped text) + 1)
double_reads text rest = texts_size text (34 ∷ rest) ∙ grown_some (flat_map escaped text) 1

pub double_text : (text : List ℕ) → unescaped zero (flat_map escaped text) ≡ text
double_text [] = refl
double_text (b ∷ text) = (stands_for b).text (flat_map escaped text) ∙ ap (λ w. b ∷ w) (double_text text)

pub double_is_good : (at : ℕ) (text : List ℕ) → bad_escape zero at (flat_map escaped text) ≡ None
double_is_good at [] = refl
double_is_good at (b ∷ text) = (stands_for b).good at (flat_map escaped text) ∙ double_is_good (at + length (escaped b)) text
