-- A scalar that was printed plain is read back.
use Rattle.std.proofs.Common.{◌≡◌, ℕ, suc, ◌+◌, Bool, true, false, cond, not, ◌&&◌, ◌||◌, ◌==◌, List, [], ◌∷◌, ◌++◌, length, refl, ap, ◌∙◌, arith}
use Rattle.std.specs.List.{list_all}
use Rattle.yaml_tokens.specs.Bytes.{is_blank, begins, is_open, is_close, is_flow}
use Rattle.yaml_tokens.specs.Scalars.{gap, is_indicator, begins_plain, ends_plain, plain_size}
use Rattle.yaml_tokens.specs.Pieces.{in_flow, quoted_front, parts_quoted, single_front, bare_front, front}
use Rattle.yaml_tokens.specs.declared.piece.Before.{Before}
use Rattle.yaml_tokens.specs.declared.piece.Kind.TheVariants.{Open, Close, Colon, Plain}
use Rattle.yaml_tokens.specs.declared.front.Front.{Front}
use Rattle.yaml_profile.specs.Printed.{begins_plain as begins_printed, is_plain_byte}
use Rattle.yaml_profile.proofs.PrintedBytes.{both, neither, word_is_no_blank, word_is_no_colon, word_is_no_flow, first_is_word, first_is_no_quote, first_is_not_dubious, first_is_no_indicator}

off : (a c e p q r : Bool) → a ≡ false → c ≡ false → e ≡ false → (a && p || (c && q || r && e)) ≡ false
off true c e p q r h g k = absurd (cc)
off false true e p q r h g k = absurd (cc)
off false false e p q true h g k = k
off false false e p q false h g k = refl

word_goes_on : (flow : Bool) (b : ℕ) (rest : List ℕ) → is_plain_byte b ≡ true → ends_plain flow b rest ≡ false
unfolding ends_plain
word_goes_on flow b rest h =
    off (b == 58) (is_blank b) (is_flow b) (gap flow rest) (begins (λ c. c == 35) rest) flow (word_is_no_colon b h) (word_is_no_blank b h) (word_is_no_flow b h)

pub words_size : (flow : Bool) (text rest : List ℕ) → list_all is_plain_byte text ≡ true → plain_size flow rest ≡ 0 → plain_size flow (text ++ rest) ≡ length text
words_size flow [] rest h e = e
words_size flow (b ∷ text) rest h e =
    let p = both (is_plain_byte b) (list_all is_plain_byte text) h in
    let n = plain_size flow (text ++ rest) in
    let more : n ≡ length text = words_size flow text rest p.1 e in
    ap (λ t. cond t 0 (cond (is_blank b && n == 0) 0 (1 + n))) (word_goes_on flow b (text ++ rest) p.0)
    ∙ ap (λ t. cond (t && n == 0) 0 (1 + n)) (word_is_no_blank b p.0)
    ∙ (let s : 1 + n ≡ suc (length text) = omega arith in s)

open_close : (b : ℕ) → is_flow b ≡ false → (is_open b ≡ false) × (is_close b ≡ false)
unfolding is_flow
open_close b h =
    neither (is_open b) (is_close b) (neither (is_open b || is_close b) (b == 44) h).0

begins_word : (flow : Bool) (b : ℕ) (rest : List ℕ) → begins_printed b ≡ true → begins_plain flow b rest ≡ true
unfolding begins_plain
begins_word flow b rest h =
    ap (λ t. cond t (not (gap flow rest)) (not (is_indicator b))) (first_is_not_dubious b h) ∙ ap not (first_is_no_indicator b h)

abbrev plain_front : ℕ → Front
plain_front size = record { kind = Plain; size = size }

bare : (before : Before) (b : ℕ) (rest : List ℕ) → begins_printed b ≡ true → bare_front before b rest ≡ plain_front (plain_size (in_flow before) rest)
unfolding bare_front parts_quoted
bare before b rest h =
    ap (λ t. cond (t && in_flow before && before.quoted) (record { kind = Colon; size = 0 }) (cond (begins_plain (in_flow before) b rest) (plain_front (plain_size (in_flow before) rest)) (single_front before b rest)))
    (word_is_no_colon b (first_is_word b h))
    ∙ ap (λ t. cond t (plain_front (plain_size (in_flow before) rest)) (single_front before b rest)) (begins_word (in_flow before) b rest h)

pub plain_stands : (before : Before) (b : ℕ) (text rest : List ℕ) → begins_printed b ≡ true → list_all is_plain_byte text ≡ true → plain_size (in_flow before) rest ≡ 0
    → front before b (text ++ rest) ≡ plain_front (length text)
unfolding front
plain_stands before b text rest h g e =
    let z = text ++ rest in
    let p = open_close b (word_is_no_flow b (first_is_word b h)) in
    ap (λ t. cond t (quoted_front b z) (cond (is_open b) (record { kind = Open; size = 0 }) (cond (is_close b) (record { kind = Close; size = 0 }) (bare_front before b z)))) (first_is_no_quote b h)
    ∙ ap (λ t. cond t (record { kind = Open; size = 0 }) (cond (is_close b) (record { kind = Close; size = 0 }) (bare_front before b z))) p.0
    ∙ ap (λ t. cond t (record { kind = Close; size = 0 }) (bare_front before b z)) p.1
    ∙ bare before b z h
    ∙ ap plain_front (words_size (in_flow before) text rest g e)
