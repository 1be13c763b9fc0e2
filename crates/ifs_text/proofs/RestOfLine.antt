-- The tokens of the rest of a line, wherever it stands.
use Rattle.std.proofs.Common.{◌≡◌, ℕ, zero, suc, ◌+◌, Bool, true, false, cond, not, ◌&&◌, List, [], ◌∷◌, ◌++◌, length, Some, None, refl, ap, sym, subst, ◌∙◌, append-nil}
use Rattle.std.specs.List.{list_all}
use Rattle.yaml_tokens.specs.Bytes.{is_blank, begins, blanks, is_quote, is_open, is_close, is_flow, is_left_out}
use Rattle.yaml_tokens.specs.Scalars.{gap, is_dubious, is_indicator, begins_plain, ends_plain, plain_size}
use Rattle.yaml_tokens.specs.Pieces.{in_flow, parts, parts_quoted, begins_item, leaves_out, single_front, bare_front, front, cut, after}
use Rattle.yaml_tokens.specs.Places.{begins_piece}
use Rattle.yaml_tokens.specs.Faults.{own_fault}
use Rattle.yaml_tokens.specs.Tokens.{token_of}
use Rattle.yaml_tokens.specs.declared.front.Front.{Front}
use Rattle.yaml_tokens.specs.declared.piece.Before.{Before}
use Rattle.yaml_tokens.specs.declared.piece.Kind.{Kind}
use Rattle.yaml_tokens.specs.declared.piece.Kind.TheVariants as kind
use Rattle.yaml_tokens.specs.declared.token.Token.{Token}
use Rattle.yaml_tokens.specs.declared.token.Token.TheVariants as token
use Rattle.yaml_tokens.specs.Parts.{begins_part}
use Rattle.yaml_profile.specs.Printed.{is_plain_byte, printed_scalar}
use Rattle.yaml_profile.specs.ReadBack.{printed_piece}
use Rattle.yaml_profile.proofs.PrintedBytes.{both, word_is_no_blank}
use Rattle.yaml_profile.proofs.OneToken.{piece_at, cut_sized, begins_at, printed_is_one_token}
use Rattle.ifs_text.proofs.Places.{Stands, Fine, stands_flow, stands_opened, stands_closed, stands_behind, fine_none, fine_piece, fine_open, fine_close}
use Rattle.ifs_text.proofs.Words.{is_word, begins_word, word_is_no_hash, begins_is_word, word_front}

-- wherever it stands in flow, or outside it, it's cut into pieces with these tokens
pub record Reads (flow : Bool) (z : List ℕ) (ts : List Token) : Type 0 where
  pub reads : (fresh : Bool) (before : Before) (at column : ℕ) → Stands flow before → Fine flow before (cut zero fresh before at column z) ts

pub reads_end : Reads false [] []
reads_end = record { reads = λ fresh before at column s. fine_none before s }

pub reads_blank : (flow : Bool) (z : List ℕ) (ts : List Token) → Reads flow z ts → Reads flow (32 ∷ z) ts
unfolding is_blank
reads_blank flow z ts r = record { reads = λ fresh before at column s. r.reads true before at (column + 1) s }

abbrev pub spaces : ℕ → List ℕ → List ℕ
spaces zero z = z
spaces (suc n) z = 32 ∷ spaces n z

pub reads_spaces : (flow : Bool) (n : ℕ) (z : List ℕ) (ts : List Token) → Reads flow z ts → Reads flow (spaces n z) ts
reads_spaces flow zero z ts r = r
reads_spaces flow (suc n) z ts r = reads_blank flow (spaces n z) ts (reads_spaces flow n z ts r)

-- a printed scalar
pub reads_scalar : (flow : Bool) (s z : List ℕ) (ts : List Token) → plain_size flow z ≡ 0 → Reads flow z ts → Reads flow (printed_scalar s ++ z) (token.Scalar s ∷ ts)
reads_scalar flow s z ts e r = record {
  reads = λ fresh before at column stands.
      let p = printed_is_one_token s z fresh before at column (ap (λ f. plain_size f z) (stands_flow flow before stands) ∙ e) in
      let q = printed_piece s p.0 at column in
      let ps = cut zero false (after before p.0) at (column + length (printed_scalar s)) z in
      subst (λ w. Fine flow before w (token.Scalar s ∷ ts)) (sym p.1.pieces)
      (fine_piece flow before q (token.Scalar s) ps ts p.1.token refl p.1.good p.1.level
      (r.reads false (after before p.0) at (column + length (printed_scalar s)) (stands_behind flow before q (token.Scalar s) stands p.1.token p.1.level)));
}

pub reads_last_scalar : (s : List ℕ) → Reads false (printed_scalar s) (token.Scalar s ∷ [])
reads_last_scalar s = subst (λ w. Reads false w (token.Scalar s ∷ [])) (append-nil (printed_scalar s)) (reads_scalar false s [] [] refl reads_end)

-- a word
plain_token : (text : List ℕ) (at column : ℕ) → (token_of (piece_at at column kind.Plain text) ≡ Some (token.Scalar text)) × (own_fault (piece_at at column kind.Plain text) ≡ None)
unfolding token_of own_fault
plain_token text at column = (refl, refl)

pub reads_word : (flow : Bool) (s z : List ℕ) (ts : List Token) → is_word s ≡ true → plain_size flow z ≡ 0 → Reads flow z ts → Reads flow (s ++ z) (token.Scalar s ∷ ts)
reads_word flow [] z ts h e r = absurd (cc)
reads_word flow (b ∷ text) z ts h e r = record {
  reads = λ fresh before at column stands.
      let p = both (begins_word b) (list_all is_plain_byte text) h in
      let word = begins_is_word b p.0 in
      let begins_here = begins_at fresh b (text ++ z) (word_is_no_blank b word) (word_is_no_hash b word) in
      let ends_here : plain_size (in_flow before) z ≡ 0 = ap (λ f. plain_size f z) (stands_flow flow before stands) ∙ e in
      let q = piece_at at column kind.Plain (b ∷ text) in
      let ps = cut zero false (after before kind.Plain) at (column + length (b ∷ text)) z in
      let t = plain_token (b ∷ text) at column in
      subst (λ w. Fine flow before w (token.Scalar (b ∷ text) ∷ ts)) (sym (cut_sized fresh before at column b text z kind.Plain begins_here (word_front before b text z p.0 p.1 ends_here) refl))
      (fine_piece flow before q (token.Scalar (b ∷ text)) ps ts t.0 refl t.1 refl
      (r.reads false (after before kind.Plain) at (column + length (b ∷ text)) (stands_behind flow before q (token.Scalar (b ∷ text)) stands t.0 refl)));
}

-- a colon
abbrev single : Kind → Front
single k = record { kind = k; size = 0 }

marks_begin : (fresh : Bool) (z : List ℕ) → (begins_piece fresh (58 ∷ z) ≡ true) × (begins_piece fresh (44 ∷ z) ≡ true)
unfolding is_blank
marks_begin fresh z = (refl, refl)

brackets_begin : (fresh : Bool) (z : List ℕ) → (begins_piece fresh (123 ∷ z) ≡ true) × (begins_piece fresh (125 ∷ z) ≡ true) × (begins_piece fresh (91 ∷ z) ≡ true) × (begins_piece fresh (93 ∷ z) ≡ true)
unfolding is_blank
brackets_begin fresh z = (refl, refl, refl, refl)

parted : (flow quoted none opens : Bool) (f g h : Front) → none ≡ true → opens ≡ false → cond (flow && quoted) f (cond (not none) g (cond (not (flow && opens)) f h)) ≡ f
parted true true none opens f g h e i = refl
parted true false true true f g h e i = absurd (cc)
parted true false true false f g h e i = refl
parted true false false opens f g h e i = absurd (cc)
parted false quoted true opens f g h e i = refl
parted false quoted false opens f g h e i = absurd (cc)

colon_front : (before : Before) (z : List ℕ) → gap (in_flow before) z ≡ true → begins is_open z ≡ false → front before 58 z ≡ single kind.Colon
unfolding front is_quote is_open is_close bare_front parts_quoted begins_plain is_dubious single_front parts
colon_front before z e h =
    parted (in_flow before) before.quoted (gap (in_flow before) z) (begins is_open z) (single kind.Colon) (record { kind = kind.Plain; size = plain_size (in_flow before) z })
    (cond (begins_item before 58) (record { kind = kind.Dash; size = blanks z }) (cond (leaves_out 58 z) (single kind.LeftOut) (single kind.Other))) e h

mark_token : (at column : ℕ) → (token_of (piece_at at column kind.Colon (58 ∷ [])) ≡ Some token.Colon) × (own_fault (piece_at at column kind.Colon (58 ∷ [])) ≡ None)
    × (token_of (piece_at at column kind.Other (44 ∷ [])) ≡ Some token.Comma) × (own_fault (piece_at at column kind.Other (44 ∷ [])) ≡ None)
unfolding token_of own_fault
mark_token at column = (refl, refl, refl, refl)

pub reads_colon : (flow : Bool) (z : List ℕ) (ts : List Token) → ((f : Bool) → gap f z ≡ true) → begins is_open z ≡ false → Reads flow z ts → Reads flow (58 ∷ z) (token.Colon ∷ ts)
reads_colon flow z ts e h r = record {
  reads = λ fresh before at column stands.
      let q = piece_at at column kind.Colon (58 ∷ []) in
      let ps = cut zero false (after before kind.Colon) at (column + 1) z in
      let t = mark_token at column in
      subst (λ w. Fine flow before w (token.Colon ∷ ts)) (sym (cut_sized fresh before at column 58 [] z kind.Colon (marks_begin fresh z).0 (colon_front before z (e (in_flow before)) h) refl))
      (fine_piece flow before q token.Colon ps ts t.0 refl t.1 refl (r.reads false (after before kind.Colon) at (column + 1) (stands_behind flow before q token.Colon stands t.0 refl)));
}

blank_gap : (z : List ℕ) (f : Bool) → gap f (32 ∷ z) ≡ true
unfolding gap is_blank
blank_gap z f = refl

end_gap : (f : Bool) → gap f [] ≡ true
unfolding gap
end_gap f = refl

blank_opens_nothing : (z : List ℕ) → begins is_open (32 ∷ z) ≡ false
unfolding is_open
blank_opens_nothing z = refl

colon_ends : (flow : Bool) (z : List ℕ) → (plain_size flow (58 ∷ 32 ∷ z) ≡ 0) × (plain_size flow (58 ∷ []) ≡ 0)
unfolding ends_plain gap is_blank
colon_ends flow z = (refl, refl)

-- a key, a colon and blanks
pub reads_key : (flow : Bool) (key : List ℕ) (n : ℕ) (z : List ℕ) (ts : List Token) → is_word key ≡ true → Reads flow z ts → Reads flow (key ++ 58 ∷ 32 ∷ spaces n z) (token.Scalar key ∷ token.Colon ∷ ts)
reads_key flow key n z ts h r =
    let rest = 32 ∷ spaces n z in
    reads_word flow key (58 ∷ rest) (token.Colon ∷ ts) h (colon_ends flow (spaces n z)).0
    (reads_colon flow rest ts (blank_gap (spaces n z)) (blank_opens_nothing (spaces n z)) (reads_blank flow (spaces n z) ts (reads_spaces flow n z ts r)))

pub reads_last_key : (key : List ℕ) → is_word key ≡ true → Reads false (key ++ 58 ∷ []) (token.Scalar key ∷ token.Colon ∷ [])
reads_last_key key h = reads_word false key (58 ∷ []) (token.Colon ∷ []) h (colon_ends false []).1 (reads_colon false [] [] end_gap refl reads_end)

-- a comma
comma_front : (before : Before) (z : List ℕ) → front before 44 z ≡ single kind.Other
unfolding front is_quote is_open is_close bare_front parts_quoted begins_plain is_dubious is_indicator is_flow single_front parts leaves_out is_left_out
comma_front before z = refl

pub reads_comma : (z : List ℕ) (ts : List Token) → Reads true z ts → Reads true (44 ∷ z) (token.Comma ∷ ts)
reads_comma z ts r = record {
  reads = λ fresh before at column stands.
      let q = piece_at at column kind.Other (44 ∷ []) in
      let ps = cut zero false (after before kind.Other) at (column + 1) z in
      let t = mark_token at column in
      subst (λ w. Fine true before w (token.Comma ∷ ts)) (sym (cut_sized fresh before at column 44 [] z kind.Other (marks_begin fresh z).1 (comma_front before z) refl))
      (fine_piece true before q token.Comma ps ts t.2 refl t.3 refl (r.reads false (after before kind.Other) at (column + 1) (stands_behind true before q token.Comma stands t.2 refl)));
}

pub comma_stops : (z : List ℕ) → plain_size true (44 ∷ z) ≡ 0
unfolding ends_plain is_blank is_flow is_open is_close gap
comma_stops z = refl

-- brackets
bracket_fronts : (before : Before) (z : List ℕ) → (front before 123 z ≡ single kind.Open) × (front before 125 z ≡ single kind.Close) × (front before 91 z ≡ single kind.Open) × (front before 93 z ≡ single kind.Close)
unfolding front is_quote is_open is_close
bracket_fronts before z = (refl, refl, refl, refl)

bracket_tokens : (at column : ℕ) → (token_of (piece_at at column kind.Open (123 ∷ [])) ≡ Some token.OpenMap) × (token_of (piece_at at column kind.Close (125 ∷ [])) ≡ Some token.CloseMap)
    × (token_of (piece_at at column kind.Open (91 ∷ [])) ≡ Some token.OpenSeq) × (token_of (piece_at at column kind.Close (93 ∷ [])) ≡ Some token.CloseSeq)
unfolding token_of
bracket_tokens at column = (refl, refl, refl, refl)

opens : (b : ℕ) (z : List ℕ) (t : Token) (ts : List Token) → ((fresh : Bool) → begins_piece fresh (b ∷ z) ≡ true) → ((before : Before) → front before b z ≡ single kind.Open)
    → ((at column : ℕ) → token_of (piece_at at column kind.Open (b ∷ [])) ≡ Some t) → begins_part t ≡ false → Reads true z ts → Reads false (b ∷ z) (t ∷ ts)
opens b z t ts here is e inner r = record {
  reads = λ fresh before at column stands.
      subst (λ w. Fine false before w (t ∷ ts)) (sym (cut_sized fresh before at column b [] z kind.Open (here fresh) (is before) refl))
      (fine_open before at column (b ∷ []) t (cut zero false (after before kind.Open) at (column + 1) z) ts (e at column) inner
      (r.reads false (after before kind.Open) at (column + 1) (stands_opened before stands)));
}

closes : (b : ℕ) (z : List ℕ) (t : Token) (ts : List Token) → ((fresh : Bool) → begins_piece fresh (b ∷ z) ≡ true) → ((before : Before) → front before b z ≡ single kind.Close)
    → ((at column : ℕ) → token_of (piece_at at column kind.Close (b ∷ [])) ≡ Some t) → begins_part t ≡ false → Reads false z ts → Reads true (b ∷ z) (t ∷ ts)
closes b z t ts here is e inner r = record {
  reads = λ fresh before at column stands.
      subst (λ w. Fine true before w (t ∷ ts)) (sym (cut_sized fresh before at column b [] z kind.Close (here fresh) (is before) refl))
      (fine_close before at column (b ∷ []) t (cut zero false (after before kind.Close) at (column + 1) z) ts (e at column) inner
      (r.reads false (after before kind.Close) at (column + 1) (stands_closed before stands)));
}

pub reads_open : (z : List ℕ) (ts : List Token) → Reads true z ts → Reads false (123 ∷ z) (token.OpenMap ∷ ts)
reads_open z ts r = opens 123 z token.OpenMap ts (λ fresh. (brackets_begin fresh z).0) (λ before. (bracket_fronts before z).0) (λ at column. (bracket_tokens at column).0) refl r

pub reads_close : (z : List ℕ) (ts : List Token) → Reads false z ts → Reads true (125 ∷ z) (token.CloseMap ∷ ts)
reads_close z ts r = closes 125 z token.CloseMap ts (λ fresh. (brackets_begin fresh z).1) (λ before. (bracket_fronts before z).1) (λ at column. (bracket_tokens at column).1) refl r

pub reads_open_square : (z : List ℕ) (ts : List Token) → Reads true z ts → Reads false (91 ∷ z) (token.OpenSeq ∷ ts)
reads_open_square z ts r = opens 91 z token.OpenSeq ts (λ fresh. (brackets_begin fresh z).2) (λ before. (bracket_fronts before z).2) (λ at column. (bracket_tokens at column).2) refl r

pub reads_close_square : (z : List ℕ) (ts : List Token) → Reads false z ts → Reads true (93 ∷ z) (token.CloseSeq ∷ ts)
reads_close_square z ts r = closes 93 z token.CloseSeq ts (λ fresh. (brackets_begin fresh z).3) (λ before. (bracket_fronts before z).3) (λ at column. (bracket_tokens at column).3) refl r

-- a map ends at its line's end
pub reads_last_close : Reads true (32 ∷ 125 ∷ []) (token.CloseMap ∷ [])
reads_last_close = reads_blank true (125 ∷ []) (token.CloseMap ∷ []) (reads_close [] [] reads_end)

pub close_stops : plain_size true (32 ∷ 125 ∷ []) ≡ 0
unfolding ends_plain is_blank is_flow is_open is_close gap
close_stops = refl
