-- Lines of the root and lines of an item.
use Rattle.std.proofs.Common.{◌≡◌, ℕ, zero, ◌+◌, true, false, cond, not, ◌||◌, nat_lt, List, [], ◌∷◌, take, Some, None, refl, ap, sym, subst, ◌∙◌}
use Rattle.yaml_tokens.specs.Bytes.{is_blank, blanks}
use Rattle.yaml_tokens.specs.Lines.{begins_document, ends_document}
use Rattle.yaml_tokens.specs.Scalars.{gap, is_dubious, begins_plain}
use Rattle.yaml_tokens.specs.Bytes.{is_quote, is_open, is_close}
use Rattle.yaml_tokens.specs.Pieces.{PieceRecord, in_flow, parts, parts_quoted, leaves_out, single_front, bare_front, front, front_piece, is_dash, cut, after}
use Rattle.yaml_tokens.specs.Faults.{own_fault}
use Rattle.yaml_tokens.specs.Tokens.{token_of}
use Rattle.yaml_tokens.specs.declared.front.Front.{Front}
use Rattle.yaml_tokens.specs.declared.piece.Before.{Before}
use Rattle.yaml_tokens.specs.declared.piece.Kind.TheVariants as kind
use Rattle.yaml_tokens.specs.declared.token.Token.{Token}
use Rattle.yaml_tokens.specs.declared.token.Token.TheVariants as token
use Rattle.yaml_profile.proofs.OneToken.{loud, piece_at}
use Rattle.ifs_text.proofs.Places.{Fine, stands_flow, stands_behind, fine_piece}
use Rattle.ifs_text.proofs.RestOfLine.{Reads}
use Rattle.ifs_text.proofs.LinesOfText.{IsBody, LineReads, body_line, indents_two, level_line}

pub record BeginsLine (b : ℕ) : Type 0 where
  pub body : (z : List ℕ) → IsBody (b ∷ z)
  pub level : (z : List ℕ) → blanks (b ∷ z) ≡ 0
  pub calm : nat_lt b 32 ≡ false

pub begins_i : BeginsLine 73
unfolding begins_document ends_document is_blank
begins_i = record { body = λ z. record { begins = refl; skips = refl; ends = refl }; level = λ z. refl; calm = refl }

pub begins_s : BeginsLine 83
unfolding begins_document ends_document is_blank
begins_s = record { body = λ z. record { begins = refl; skips = refl; ends = refl }; level = λ z. refl; calm = refl }

pub begins_t : BeginsLine 84
unfolding begins_document ends_document is_blank
begins_t = record { body = λ z. record { begins = refl; skips = refl; ends = refl }; level = λ z. refl; calm = refl }

pub begins_n : BeginsLine 78
unfolding begins_document ends_document is_blank
begins_n = record { body = λ z. record { begins = refl; skips = refl; ends = refl }; level = λ z. refl; calm = refl }

pub top_line : (b : ℕ) (z : List ℕ) (ts : List Token) → BeginsLine b → loud z ≡ false → Reads false (b ∷ z) ts → LineReads (b ∷ z) (token.Line 0 ∷ ts)
top_line b z ts l calm r = level_line (b ∷ z) ts (l.body z) (ap (λ t. t || loud z) l.calm ∙ calm) (l.level z) r

-- an item at column 2
item_front : (before : Before) (z : List ℕ) → in_flow before ≡ false → blanks z ≡ 0 → front before 45 (32 ∷ z) ≡ record { kind = kind.Dash; size = 1 }
unfolding is_blank front is_quote is_open is_close bare_front parts_quoted begins_plain is_dubious gap single_front parts
item_front before z e h =
    ap (λ t. cond (not t) (record { kind = kind.Dash; size = 1 + blanks z }) (cond (leaves_out 45 (32 ∷ z)) (record { kind = kind.LeftOut; size = 0 }) (record { kind = kind.Other; size = 0 }))) e
    ∙ ap (λ n. record { kind = kind.Dash; size = 1 + n }) h

abbrev dash : ℕ → PieceRecord
dash at = piece_at at 2 kind.Dash (45 ∷ 32 ∷ [])

item_cut : (before : Before) (at : ℕ) (z : List ℕ) → in_flow before ≡ false → blanks z ≡ 0 → cut zero true before at 0 (32 ∷ 32 ∷ 45 ∷ 32 ∷ z) ≡ dash at ∷ cut zero true (after before kind.Dash) at 4 z
unfolding is_blank
item_cut before at z e h =
    let cuts : Front → List PieceRecord = λ f. front_piece f at 2 45 (32 ∷ z) ∷ cut f.size (is_dash f) (after before f.kind) at 3 (32 ∷ z) in
    ap cuts (item_front before z e h)

dash_token : (at : ℕ) → (token_of (dash at) ≡ Some (token.Dash 4)) × (own_fault (dash at) ≡ None)
unfolding token_of own_fault
dash_token at = (refl, refl)

item_body : (z : List ℕ) → IsBody (32 ∷ 32 ∷ 45 ∷ 32 ∷ z)
unfolding begins_document ends_document is_blank
item_body z = record { begins = refl; skips = refl; ends = refl }

item_indent : (z : List ℕ) → take (blanks (32 ∷ 32 ∷ 45 ∷ 32 ∷ z)) (32 ∷ 32 ∷ 45 ∷ 32 ∷ z) ≡ 32 ∷ 32 ∷ []
unfolding is_blank
item_indent z = refl

pub item_line : (z : List ℕ) (ts : List Token) → blanks z ≡ 0 → loud z ≡ false → Reads false z ts → LineReads (32 ∷ 32 ∷ 45 ∷ 32 ∷ z) (token.Line 2 ∷ token.Dash 4 ∷ ts)
item_line z ts e calm r =
    body_line (32 ∷ 32 ∷ 45 ∷ 32 ∷ z) (32 ∷ 32 ∷ []) 2 (token.Dash 4 ∷ ts) (item_body z) calm (item_indent z) indents_two
    (λ before at s.
    subst (λ w. Fine false before w (token.Dash 4 ∷ ts)) (sym (item_cut before at z (stands_flow false before s) e))
    (fine_piece false before (dash at) (token.Dash 4) (cut zero true (after before kind.Dash) at 4 z) ts (dash_token at).0 refl (dash_token at).1 refl
    (r.reads true (after before kind.Dash) at 4 (stands_behind false before (dash at) (token.Dash 4) s (dash_token at).0 refl))))
