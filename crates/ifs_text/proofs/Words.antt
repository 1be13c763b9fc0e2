-- A word is one plain scalar: a letter, `_` or a digit, and bytes that stand in plain scalars.
use Rattle.std.proofs.Common.{◌≡◌, ℕ, zero, suc, ◌+◌, ◌-◌, ◌/◌, ◌%◌, ◌<◌, Bool, true, false, cond, ◌&&◌, ◌||◌, ◌==◌, nat_lt, nat_le, List, [], ◌∷◌, ◌++◌, length, refl, ap, subst, ◌∙◌, arith, decimal}
use Rattle.std.proofs.lemmas.Bool.Decides.{nat_tests}
use Rattle.std.specs.List.{list_all}
use Rattle.std.specs.Fmt.{digits, digits_onto, digit_glyph}
use Rattle.yaml_tokens.specs.Bytes.{is_quote, is_open, is_close, is_flow, is_left_out}
use Rattle.yaml_tokens.specs.Scalars.{is_dubious, is_indicator, begins_plain, plain_size}
use Rattle.yaml_tokens.specs.Pieces.{in_flow, parts_quoted, bare_front, front}
use Rattle.yaml_tokens.specs.declared.front.Front.{Front}
use Rattle.yaml_tokens.specs.declared.piece.Before.{Before}
use Rattle.yaml_tokens.specs.declared.piece.Kind.TheVariants.{Plain}
use Rattle.yaml_profile.specs.Printed.{begins_plain as begins_printed, is_plain_byte}
use Rattle.yaml_profile.proofs.PrintedBytes.{both, word_is_no_control, first_is_word}
use Rattle.yaml_profile.proofs.PlainBack.{words_size, plain_stands}
use Rattle.yaml_profile.proofs.OneToken.{loud}

abbrev pub is_figure : ℕ → Bool
is_figure b = nat_le 48 b && nat_le b 57

abbrev pub begins_word : ℕ → Bool
begins_word b = begins_printed b || is_figure b

abbrev pub is_word : List ℕ → Bool
is_word [] = false
is_word (b ∷ rest) = begins_word b && list_all is_plain_byte rest

abbrev plain_front : ℕ → Front
plain_front size = record { kind = Plain; size = size }

-- a figure begins a plain scalar
nth_figure : (n : ℕ) → n < 10 → (before : Before) (rest : List ℕ) → front before (48 + n) rest ≡ plain_front (plain_size (in_flow before) rest)
unfolding front is_quote is_open is_close bare_front parts_quoted begins_plain is_dubious is_indicator is_flow is_left_out
nth_figure zero h before rest = refl
nth_figure (suc zero) h before rest = refl
nth_figure (suc (suc zero)) h before rest = refl
nth_figure (suc (suc (suc zero))) h before rest = refl
nth_figure (suc (suc (suc (suc zero)))) h before rest = refl
nth_figure (suc (suc (suc (suc (suc zero))))) h before rest = refl
nth_figure (suc (suc (suc (suc (suc (suc zero)))))) h before rest = refl
nth_figure (suc (suc (suc (suc (suc (suc (suc zero))))))) h before rest = refl
nth_figure (suc (suc (suc (suc (suc (suc (suc (suc zero)))))))) h before rest = refl
nth_figure (suc (suc (suc (suc (suc (suc (suc (suc (suc zero))))))))) h before rest = refl
nth_figure (suc (suc (suc (suc (suc (suc (suc (suc (suc (suc n)))))))))) h before rest = absurd (omega arith)

in_figures : (b : ℕ) → is_figure b ≡ true → (b - 48 < 10) × (48 + (b - 48) ≡ b)
in_figures b h = (grind (arith, nat_tests), grind (arith, nat_tests))

figure_front : (before : Before) (b : ℕ) (rest : List ℕ) → is_figure b ≡ true → front before b rest ≡ plain_front (plain_size (in_flow before) rest)
figure_front before b rest h =
    let p = in_figures b h in
    subst (λ n. front before n rest ≡ plain_front (plain_size (in_flow before) rest)) p.1 (nth_figure (b - 48) p.0 before rest)

pub figure_is_word : (b : ℕ) → is_figure b ≡ true → is_plain_byte b ≡ true
unfolding is_plain_byte
figure_is_word b h = grind (arith, nat_tests)

pub word_is_no_hash : (b : ℕ) → is_plain_byte b ≡ true → (b == 35) ≡ false
unfolding is_plain_byte
word_is_no_hash b h = grind (arith, nat_tests)

pub begins_is_word : (b : ℕ) → begins_word b ≡ true → is_plain_byte b ≡ true
begins_is_word b h = by (begins_printed b) refl h
  where
    by : (t : Bool) → begins_printed b ≡ t → t || is_figure b ≡ true → is_plain_byte b ≡ true
    by true e g = first_is_word b e
    by false e g = figure_is_word b g

pub word_front : (before : Before) (b : ℕ) (text rest : List ℕ) → begins_word b ≡ true → list_all is_plain_byte text ≡ true → plain_size (in_flow before) rest ≡ 0
    → front before b (text ++ rest) ≡ plain_front (length text)
word_front before b text rest h g e = by (begins_printed b) refl h
  where
    by : (t : Bool) → begins_printed b ≡ t → t || is_figure b ≡ true → front before b (text ++ rest) ≡ plain_front (length text)
    by true p q = plain_stands before b text rest p g e
    by false p q = figure_front before b (text ++ rest) q ∙ ap plain_front (words_size (in_flow before) text rest g e)

-- and has no control characters
calm_byte : (b : ℕ) (z : List ℕ) → nat_lt b 32 ≡ false → loud z ≡ false → loud (b ∷ z) ≡ false
calm_byte b z h g = ap (λ t. t || loud z) h ∙ g

bytes_calm : (text : List ℕ) → list_all is_plain_byte text ≡ true → loud text ≡ false
bytes_calm [] h = refl
bytes_calm (b ∷ text) h =
    let p = both (is_plain_byte b) (list_all is_plain_byte text) h in
    calm_byte b text (word_is_no_control b p.0) (bytes_calm text p.1)

pub word_calm : (text : List ℕ) → is_word text ≡ true → loud text ≡ false
word_calm [] h = refl
word_calm (b ∷ text) h =
    let p = both (begins_word b) (list_all is_plain_byte text) h in
    calm_byte b text (word_is_no_control b (begins_is_word b p.0)) (bytes_calm text p.1)

-- a printed number is a word
low_figure : (n : ℕ) → n < 10 → is_figure (48 + n) ≡ true
low_figure n h = grind (arith, nat_tests)

last_is_low : (n : ℕ) → n % 10 < 10
last_is_low n = omega arith

glyph_is : (n : ℕ) → n < 10 → digit_glyph false n ≡ 48 + n
glyph_is n h = grind (arith, nat_tests)

glyph_is_figure : (n : ℕ) → is_figure (digit_glyph false (n % 10)) ≡ true
glyph_is_figure n = ap is_figure (glyph_is (n % 10) (last_is_low n)) ∙ low_figure (n % 10) (last_is_low n)

figures_more : (b : ℕ) (z : List ℕ) → is_figure b ≡ true → list_all is_figure z ≡ true → list_all is_figure (b ∷ z) ≡ true
figures_more b z h g = ap (λ t. t && list_all is_figure z) h ∙ g

more_figures : (n : ℕ) (z : List ℕ) → list_all is_figure z ≡ true → list_all is_figure (digit_glyph false (n % 10) ∷ z) ≡ true
more_figures n z h = figures_more (digit_glyph false (n % 10)) z (glyph_is_figure n) h

either_figures : (t : Bool) (a b : List ℕ) → list_all is_figure a ≡ true → list_all is_figure b ≡ true → list_all is_figure (cond t a b) ≡ true
either_figures true a b h g = h
either_figures false a b h g = g

onto_figures : (k n : ℕ) (z : List ℕ) → list_all is_figure z ≡ true → list_all is_figure (digits_onto k 10 false n z) ≡ true
onto_figures zero n z h = h
onto_figures (suc k) n z h =
    let next = digit_glyph false (n % 10) ∷ z in
    either_figures (n / 10 == 0) next (digits_onto k 10 false (n / 10) next) (more_figures n z h) (onto_figures k (n / 10) next (more_figures n z h))

abbrev some : List ℕ → Bool
some [] = false
some (b ∷ z) = true

either_some : (t : Bool) (a b : List ℕ) → some a ≡ true → some b ≡ true → some (cond t a b) ≡ true
either_some true a b h g = h
either_some false a b h g = g

onto_some : (k n : ℕ) (z : List ℕ) → some z ≡ true → some (digits_onto k 10 false n z) ≡ true
onto_some zero n z h = h
onto_some (suc k) n z h =
    let next = digit_glyph false (n % 10) ∷ z in
    either_some (n / 10 == 0) next (digits_onto k 10 false (n / 10) next) refl (onto_some k (n / 10) next refl)

first_some : (k n : ℕ) (z : List ℕ) → some (digits_onto (suc k) 10 false n z) ≡ true
first_some k n z =
    let next = digit_glyph false (n % 10) ∷ z in
    either_some (n / 10 == 0) next (digits_onto k 10 false (n / 10) next) refl (onto_some k (n / 10) next refl)

figures_are_bytes : (z : List ℕ) → list_all is_figure z ≡ true → list_all is_plain_byte z ≡ true
figures_are_bytes [] h = refl
figures_are_bytes (b ∷ z) h =
    let p = both (is_figure b) (list_all is_figure z) h in
    ap (λ t. t && list_all is_plain_byte z) (figure_is_word b p.0) ∙ figures_are_bytes z p.1

figure_begins : (b : ℕ) → is_figure b ≡ true → begins_word b ≡ true
figure_begins b h = by (begins_printed b)
  where
    by : (t : Bool) → t || is_figure b ≡ true
    by true = refl
    by false = h

figures_are_word : (z : List ℕ) → some z ≡ true → list_all is_figure z ≡ true → is_word z ≡ true
figures_are_word [] e h = e
figures_are_word (b ∷ z) e h =
    let p = both (is_figure b) (list_all is_figure z) h in
    ap (λ t. t && list_all is_plain_byte z) (figure_begins b p.0) ∙ figures_are_bytes z p.1

pub decimal_is_word : (n : ℕ) → is_word (decimal n) ≡ true
unfolding digits
decimal_is_word n = figures_are_word (decimal n) (first_some 63 n []) (onto_figures 64 n [] refl)

pub decimal_is_bytes : (n : ℕ) → list_all is_plain_byte (decimal n) ≡ true
unfolding digits
decimal_is_bytes n = figures_are_bytes (decimal n) (onto_figures 64 n [] refl)
