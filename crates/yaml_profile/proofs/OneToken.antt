-- A printed scalar is one token again.
use Rattle.std.proofs.Common.{◌≡◌, ℕ, zero, suc, ◌+◌, ◌-◌, ◌/◌, ◌%◌, Bool, true, false, cond, not, ◌&&◌, ◌||◌, ◌==◌, nat_lt, List, [], ◌∷◌, ◌++◌, length, take, drop, Some, None, refl, ap, sym, ◌∙◌, arith, append_assoc, length-append, eqb-true}
use Rattle.std.proofs.Math.Seq.{take-append_seam, drop-append_seam}
use Rattle.std.specs.Prelude.{option_map}
use Rattle.std.specs.Char.{is_ascii_control}
use Rattle.std.specs.List.{list_any, list_all, flat_map}
use Rattle.yaml_tokens.specs.Bytes.{is_blank, begins, is_quote, is_open, is_close, is_flow}
use Rattle.yaml_tokens.specs.Scalars.{ends_plain, plain_size, single_size, double_size, within, undoubled, unescaped, bad_escape}
use Rattle.yaml_tokens.specs.Pieces.{PieceRecord, in_flow, closed_by, quoted_front, front, front_piece, is_dash, is_dash_kind, cut, after}
use Rattle.yaml_tokens.specs.Places.{begins_piece}
use Rattle.yaml_tokens.specs.Faults.{step_of, own_fault, fault_at}
use Rattle.yaml_tokens.specs.Tokens.{token_of}
use Rattle.yaml_tokens.specs.declared.piece.Before.{Before}
use Rattle.yaml_tokens.specs.declared.piece.Kind.{Kind}
use Rattle.yaml_tokens.specs.declared.piece.Kind.TheVariants.{Plain, Single, Double}
use Rattle.yaml_tokens.specs.declared.front.Front.{Front}
use Rattle.yaml_tokens.specs.declared.kind.YamlKind.TheVariants.{BadEscape}
use Rattle.yaml_tokens.specs.declared.token.Token.TheVariants as token
use Rattle.yaml_tokens.proofs.Steps.{cut_piece}
use Rattle.yaml_profile.specs.Printed.{begins_plain as begins_printed, is_plain_byte, is_reserved, is_plain, doubled, single_quoted, hex_digit, escaped, double_quoted, printed_scalar}
use Rattle.yaml_profile.specs.ReadBack.{PrintedIsOneToken, PrintedIsOnOneLine}
use Rattle.yaml_profile.proofs.PrintedBytes.{both, neither, word_is_no_blank, word_is_no_control, first_is_word, first_is_no_hash, hex_is_no_control, no_control_is_high}
use Rattle.yaml_profile.proofs.PlainBack.{plain_stands}
use Rattle.yaml_profile.proofs.SingleBack.{single_reads, single_text}
use Rattle.yaml_profile.proofs.DoubleBack.{double_reads, double_text, double_is_good}

abbrev pub piece_at : ℕ → ℕ → Kind → List ℕ → PieceRecord
piece_at at column kind bytes = record { line = at; column = column; kind = kind; bytes = bytes }

-- a piece whose size is known is cut
pub cut_sized : (fresh : Bool) (before : Before) (at column b : ℕ) (text rest : List ℕ) (kind : Kind) → begins_piece fresh (b ∷ (text ++ rest)) ≡ true
    → front before b (text ++ rest) ≡ record { kind = kind; size = length text } → is_dash_kind kind ≡ false
    → cut zero fresh before at column (b ∷ (text ++ rest)) ≡ piece_at at column kind (b ∷ text) ∷ cut zero false (after before kind) at (column + length (b ∷ text)) rest
cut_sized fresh before at column b text rest kind here is dash =
    let z = text ++ rest in
    let n : column + (1 + length text) ≡ column + suc (length text) = omega arith in
    let cuts : Front → List PieceRecord = λ f. front_piece f at column b z ∷ cut zero (is_dash f) (after before f.kind) at (column + (1 + f.size)) (drop f.size z) in
    cut_piece fresh before at column b z here
    ∙ ap cuts is
    ∙ ap (λ w. piece_at at column kind (b ∷ w) ∷ cut zero (is_dash_kind kind && nat_lt 0 (length text)) (after before kind) at (column + (1 + length text)) (drop (length text) z)) (take-append_seam text rest)
    ∙ ap (λ w. piece_at at column kind (b ∷ text) ∷ cut zero (is_dash_kind kind && nat_lt 0 (length text)) (after before kind) at (column + (1 + length text)) w) (drop-append_seam text rest)
    ∙ ap (λ t. piece_at at column kind (b ∷ text) ∷ cut zero (t && nat_lt 0 (length text)) (after before kind) at (column + (1 + length text)) rest) dash
    ∙ ap (λ k. piece_at at column kind (b ∷ text) ∷ cut zero false (after before kind) at k rest) n

pub begins_at : (fresh : Bool) (b : ℕ) (rest : List ℕ) → is_blank b ≡ false → (b == 35) ≡ false → begins_piece fresh (b ∷ rest) ≡ true
begins_at fresh b rest blank hash = ap (λ t. not t && not ((b == 35) && fresh)) blank ∙ ap (λ t. not (t && fresh)) hash

-- what follows is no quote
no_quote : (flow : Bool) (rest : List ℕ) → plain_size flow rest ≡ 0 → begins (λ c. c == 39) rest ≡ false
unfolding ends_plain is_blank is_flow is_open is_close
no_quote flow [] h = refl
no_quote true (c ∷ z) h = by (c == 39) refl
  where
    by : (t : Bool) → (c == 39) ≡ t → t ≡ false
    by false e = refl
    by true e =
        let q : 1 + plain_size true z ≡ 0 = sym (ap (λ k. plain_size true (k ∷ z)) (eqb-true c 39 e)) ∙ h in
        absurd (omega arith)
no_quote false (c ∷ z) h = by (c == 39) refl
  where
    by : (t : Bool) → (c == 39) ≡ t → t ≡ false
    by false e = refl
    by true e =
        let q : 1 + plain_size false z ≡ 0 = sym (ap (λ k. plain_size false (k ∷ z)) (eqb-true c 39 e)) ∙ h in
        absurd (omega arith)

-- between the quotes
length_one : (z : List ℕ) (q : ℕ) → length (z ++ q ∷ []) ≡ length z + 1
length_one z q = length-append z (q ∷ [])

within_quotes : (q : ℕ) (z : List ℕ) → within (q ∷ (z ++ q ∷ [])) ≡ z
within_quotes q z =
    let n : suc (length (z ++ q ∷ [])) - 2 ≡ length z = omega (arith, length_one z q) in
    ap (λ k. take k (z ++ q ∷ [])) n ∙ take-append_seam z (q ∷ [])

-- in single quotes
single_front : (before : Before) (z rest : List ℕ) → single_size false (z ++ 39 ∷ rest) ≡ Some (length z + 1) → front before 39 ((z ++ 39 ∷ []) ++ rest) ≡ record { kind = Single; size = length (z ++ 39 ∷ []) }
unfolding front is_quote quoted_front
single_front before z rest h =
    ap (λ w. closed_by Single (single_size false w) w) (append_assoc z (39 ∷ []) rest)
    ∙ ap (λ o. closed_by Single o (z ++ 39 ∷ rest)) h
    ∙ ap (λ k. record { kind = Single; size = k }) (sym (length_one z 39))

single_token : (text : List ℕ) (at column : ℕ) → token_of (piece_at at column Single (single_quoted text)) ≡ Some (token.Scalar text)
unfolding token_of
single_token text at column =
    ap (λ w. Some (token.Scalar (undoubled false w))) (within_quotes 39 (flat_map doubled text)) ∙ ap (λ w. Some (token.Scalar w)) (single_text text)

single_good : (text : List ℕ) (at column : ℕ) → own_fault (piece_at at column Single (single_quoted text)) ≡ None
unfolding own_fault
single_good text at column = refl

-- in double quotes
double_front : (before : Before) (z rest : List ℕ) → double_size false (z ++ 34 ∷ rest) ≡ Some (length z + 1) → front before 34 ((z ++ 34 ∷ []) ++ rest) ≡ record { kind = Double; size = length (z ++ 34 ∷ []) }
unfolding front is_quote quoted_front
double_front before z rest h =
    ap (λ w. closed_by Double (double_size false w) w) (append_assoc z (34 ∷ []) rest)
    ∙ ap (λ o. closed_by Double o (z ++ 34 ∷ rest)) h
    ∙ ap (λ k. record { kind = Double; size = k }) (sym (length_one z 34))

double_token : (text : List ℕ) (at column : ℕ) → token_of (piece_at at column Double (double_quoted text)) ≡ Some (token.Scalar text)
unfolding token_of
double_token text at column =
    ap (λ w. Some (token.Scalar (unescaped zero w))) (within_quotes 34 (flat_map escaped text)) ∙ ap (λ w. Some (token.Scalar w)) (double_text text)

double_good : (text : List ℕ) (at column : ℕ) → own_fault (piece_at at column Double (double_quoted text)) ≡ None
unfolding own_fault
double_good text at column =
    ap (λ w. option_map (λ i. fault_at (at + column + (1 + i)) BadEscape) (bad_escape zero 0 w)) (within_quotes 34 (flat_map escaped text))
    ∙ ap (option_map (λ i. fault_at (at + column + (1 + i)) BadEscape)) (double_is_good 0 text)

-- plain
plain_token : (text : List ℕ) (at column : ℕ) → token_of (piece_at at column Plain text) ≡ Some (token.Scalar text)
unfolding token_of
plain_token text at column = refl

plain_good : (text : List ℕ) (at column : ℕ) → own_fault (piece_at at column Plain text) ≡ None
unfolding own_fault
plain_good text at column = refl

-- the three together, for the bytes that are printed
record Back (text bytes rest : List ℕ) (fresh : Bool) (before : Before) (at column : ℕ) (kind : Kind) : Type 0 where
  pieces : cut zero fresh before at column (bytes ++ rest) ≡ piece_at at column kind bytes ∷ cut zero false (after before kind) at (column + length bytes) rest
  token : token_of (piece_at at column kind bytes) ≡ Some (token.Scalar text)
  good : own_fault (piece_at at column kind bytes) ≡ None
  level : step_of kind ≡ step_of Plain

abbrev Backs : List ℕ → List ℕ → Type 0
Backs text bytes = (rest : List ℕ) (fresh : Bool) (before : Before) (at column : ℕ) → plain_size (in_flow before) rest ≡ 0 → (kind : Kind) × Back text bytes rest fresh before at column kind

plain_back : (b : ℕ) (text : List ℕ) → begins_printed b ≡ true → list_all is_plain_byte text ≡ true → Backs (b ∷ text) (b ∷ text)
plain_back b text first more rest fresh before at column e = (
  Plain,
  record {
    pieces = cut_sized fresh before at column b text rest Plain (begins_at fresh b (text ++ rest) (word_is_no_blank b (first_is_word b first)) (first_is_no_hash b first)) (plain_stands before b text rest first more e) refl;
    token = plain_token (b ∷ text) at column;
    good = plain_good (b ∷ text) at column;
    level = refl;
  },
)

quote_begins : (fresh : Bool) (rest : List ℕ) → (begins_piece fresh (39 ∷ rest) ≡ true) × (begins_piece fresh (34 ∷ rest) ≡ true)
unfolding is_blank
quote_begins fresh rest = (refl, refl)

single_back : (text : List ℕ) → Backs text (single_quoted text)
single_back text rest fresh before at column e =
    let z = flat_map doubled text in (
      Single,
      record {
        pieces = cut_sized fresh before at column 39 (z ++ 39 ∷ []) rest Single (quote_begins fresh ((z ++ 39 ∷ []) ++ rest)).0
            (single_front before z rest (single_reads text rest (no_quote (in_flow before) rest e))) refl;
        token = single_token text at column;
        good = single_good text at column;
        level = refl;
      },
    )

double_back : (text : List ℕ) → Backs text (double_quoted text)
double_back text rest fresh before at column e =
    let z = flat_map escaped text in (
      Double,
      record {
        pieces = cut_sized fresh before at column 34 (z ++ 34 ∷ []) rest Double (quote_begins fresh ((z ++ 34 ∷ []) ++ rest)).1 (double_front before z rest (double_reads text rest)) refl;
        token = double_token text at column;
        good = double_good text at column;
        level = refl;
      },
    )

plain_is : (text : List ℕ) → is_plain text ≡ true → Backs text text
unfolding is_plain
plain_is [] h = absurd (cc)
plain_is (b ∷ text) h =
    let p = both (begins_printed b && list_all is_plain_byte text) (not (is_reserved (b ∷ text))) h in
    let q = both (begins_printed b) (list_all is_plain_byte text) p.0 in
    plain_back b text q.0 q.1

printed_back : (text : List ℕ) → Backs text (printed_scalar text)
printed_back text = by_plain (is_plain text) refl
  where
    by_control : (u : Bool) → Backs text (cond u (double_quoted text) (single_quoted text))
    by_control true = double_back text
    by_control false = single_back text

    by_plain : (t : Bool) → is_plain text ≡ t → Backs text (cond t text (cond (list_any is_ascii_control text) (double_quoted text) (single_quoted text)))
    by_plain true e = plain_is text e
    by_plain false e = by_control (list_any is_ascii_control text)

pub printed_is_one_token : PrintedIsOneToken
printed_is_one_token text rest fresh before at column e =
    let p = printed_back text rest fresh before at column e in
    (p.0, record { pieces = p.1.pieces; token = p.1.token; good = p.1.good; level = p.1.level })

-- no control characters
abbrev pub loud : List ℕ → Bool
loud z = list_any (λ b. nat_lt b 32) z

either : (a b : Bool) → a ≡ false → b ≡ false → a || b ≡ false
either true b h g = h
either false b h g = g

pub loud_both : (y z : List ℕ) → loud y ≡ false → loud z ≡ false → loud (y ++ z) ≡ false
loud_both [] z h g = g
loud_both (b ∷ y) z h g = let p = neither (nat_lt b 32) (loud y) h in either (nat_lt b 32) (loud (y ++ z)) p.0 (loud_both y z p.1 g)

words_calm : (text : List ℕ) → list_all is_plain_byte text ≡ true → loud text ≡ false
words_calm [] h = refl
words_calm (b ∷ text) h =
    let p = both (is_plain_byte b) (list_all is_plain_byte text) h in
    either (nat_lt b 32) (loud text) (word_is_no_control b p.0) (words_calm text p.1)

one_calm : (b : ℕ) → nat_lt b 32 ≡ false → loud (b ∷ []) ≡ false
one_calm b h = either (nat_lt b 32) false h refl

doubled_calm : (b : ℕ) → is_ascii_control b ≡ false → loud (doubled b) ≡ false
unfolding doubled
doubled_calm b h = by (b == 39)
  where
    by : (t : Bool) → loud (cond t (39 ∷ 39 ∷ []) (b ∷ [])) ≡ false
    by true = refl
    by false = one_calm b (no_control_is_high b h)

hex_calm : (m n : ℕ) → loud (92 ∷ 120 ∷ hex_digit m ∷ hex_digit n ∷ []) ≡ false
hex_calm m n = either (nat_lt (hex_digit m) 32) (loud (hex_digit n ∷ [])) (hex_is_no_control m) (one_calm (hex_digit n) (hex_is_no_control n))

escaped_calm : (b : ℕ) → loud (escaped b) ≡ false
unfolding escaped
escaped_calm b = by_slash (b == 92)
  where
    by_control : (u : Bool) → is_ascii_control b ≡ u → loud (cond u (92 ∷ 120 ∷ hex_digit (b / 16) ∷ hex_digit (b % 16) ∷ []) (b ∷ [])) ≡ false
    by_control true e = hex_calm (b / 16) (b % 16)
    by_control false e = one_calm b (no_control_is_high b e)

    by_quote : (t : Bool) → loud (cond t (92 ∷ 34 ∷ []) (cond (is_ascii_control b) (92 ∷ 120 ∷ hex_digit (b / 16) ∷ hex_digit (b % 16) ∷ []) (b ∷ []))) ≡ false
    by_quote true = refl
    by_quote false = by_control (is_ascii_control b) refl

    by_slash : (t : Bool) → loud (cond t (92 ∷ 92 ∷ []) (cond (b == 34) (92 ∷ 34 ∷ []) (cond (is_ascii_control b) (92 ∷ 120 ∷ hex_digit (b / 16) ∷ hex_digit (b % 16) ∷ []) (b ∷ [])))) ≡ false
    by_slash true = refl
    by_slash false = by_quote (b == 34)

all_doubled : (text : List ℕ) → list_any is_ascii_control text ≡ false → loud (flat_map doubled text) ≡ false
all_doubled [] h = refl
all_doubled (b ∷ text) h =
    let p = neither (is_ascii_control b) (list_any is_ascii_control text) h in
    loud_both (doubled b) (flat_map doubled text) (doubled_calm b p.0) (all_doubled text p.1)

all_escaped : (text : List ℕ) → loud (flat_map escaped text) ≡ false
all_escaped [] = refl
all_escaped (b ∷ text) = loud_both (escaped b) (flat_map escaped text) (escaped_calm b) (all_escaped text)

plain_calm : (text : List ℕ) → is_plain text ≡ true → loud text ≡ false
unfolding is_plain
plain_calm [] h = refl
plain_calm (b ∷ text) h =
    let p = both (begins_printed b && list_all is_plain_byte text) (not (is_reserved (b ∷ text))) h in
    let q = both (begins_printed b) (list_all is_plain_byte text) p.0 in
    either (nat_lt b 32) (loud text) (word_is_no_control b (first_is_word b q.0)) (words_calm text q.1)

pub printed_is_on_one_line : PrintedIsOnOneLine
printed_is_on_one_line text = by_plain (is_plain text) refl
  where
    by_control : (u : Bool) → list_any is_ascii_control text ≡ u → loud (cond u (double_quoted text) (single_quoted text)) ≡ false
    by_control true e = loud_both (flat_map escaped text) (34 ∷ []) (all_escaped text) refl
    by_control false e = loud_both (flat_map doubled text) (39 ∷ []) (all_doubled text e) refl

    by_plain : (t : Bool) → is_plain text ≡ t → loud (cond t text (cond (list_any is_ascii_control text) (double_quoted text) (single_quoted text))) ≡ false
    by_plain true e = plain_calm text e
    by_plain false e = by_control (list_any is_ascii_control text) refl
