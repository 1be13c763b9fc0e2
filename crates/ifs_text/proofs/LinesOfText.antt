-- Texts of several lines of a document, and the tokens of each.
use Rattle.std.proofs.Common.{◌≡◌, ℕ, zero, true, false, cond, not, List, [], ◌∷◌, ◌++◌, take, Some, None, refl, ap, sym, subst, ◌∙◌, append_assoc, append-nil}
use Rattle.std.specs.List.{flat_map}
use Rattle.std.specs.Option.{option_to_list}
use Rattle.yaml_tokens.specs.Bytes.{blanks}
use Rattle.yaml_tokens.specs.Lines.{Line, skipped, begins_document, ends_document}
use Rattle.yaml_tokens.specs.Pieces.{PieceRecord, cut, class_of, opening, content, line_pieces}
use Rattle.yaml_tokens.specs.Faults.{own_fault}
use Rattle.yaml_tokens.specs.Tokens.{token_of}
use Rattle.yaml_tokens.specs.declared.piece.Before.{Before}
use Rattle.yaml_tokens.specs.declared.piece.Kind.TheVariants as kind
use Rattle.yaml_tokens.specs.declared.piece.Class.{Class}
use Rattle.yaml_tokens.specs.declared.piece.Class.TheVariants.{Begins, Skipped, Stray as OutsideLine, Ends, Body}
use Rattle.yaml_tokens.specs.declared.token.Token.{Token}
use Rattle.yaml_tokens.specs.declared.token.Token.TheVariants as token
use Rattle.yaml_profile.proofs.OneToken.{loud, piece_at}
use Rattle.ifs_text.proofs.Places.{Stands, Fine, stands_flow, fine_piece}
use Rattle.ifs_text.proofs.RestOfLine.{Reads}

-- a line of a document, which begins and ends none and has more than blanks and a comment
pub record IsBody (z : List ℕ) : Type 0 where
  pub begins : begins_document z ≡ false
  pub skips : skipped z ≡ false
  pub ends : ends_document z ≡ false

body_class : (before : Before) (z : List ℕ) → IsBody z → before.inside ≡ true → class_of before z ≡ Body
unfolding class_of
body_class before z b h =
    ap (λ t. cond t Begins (cond (skipped z) Skipped (cond (not before.inside) OutsideLine (cond (ends_document z) Ends Body)))) b.begins
    ∙ ap (λ t. cond t Skipped (cond (not before.inside) OutsideLine (cond (ends_document z) Ends Body))) b.skips
    ∙ ap (λ t. cond (not t) OutsideLine (cond (ends_document z) Ends Body)) h
    ∙ ap (λ t. cond t Ends Body) b.ends

-- a line with these tokens, which ends as it began outside flow
pub record LineReads (z : List ℕ) (ts : List Token) : Type 0 where
  pub calm : loud z ≡ false
  pub reads : (before : Before) (at : ℕ) → Stands false before → Fine false before (line_pieces before (record { at = at; bytes = z })) ts

-- an indentation at column n
pub record Indents (bytes : List ℕ) (n : ℕ) : Type 0 where
  pub token : (at : ℕ) → token_of (piece_at at 0 kind.Line bytes) ≡ Some (token.Line n)
  pub good : (at : ℕ) → own_fault (piece_at at 0 kind.Line bytes) ≡ None

abbrev pub pieces_by : Before → Line → Class → List PieceRecord
pieces_by before l k = option_to_list (opening k before l) ++ cut zero true before l.at 0 (content k l.bytes)

body_pieces : (before : Before) (at : ℕ) (z indent : List ℕ) → IsBody z → Stands false before → take (blanks z) z ≡ indent
    → line_pieces before (record { at = at; bytes = z }) ≡ piece_at at 0 kind.Line indent ∷ cut zero true before at 0 z
body_pieces before at z indent b s e =
    ap (pieces_by before (record { at = at; bytes = z })) (body_class before z b s.inside)
    ∙ ap (λ t. option_to_list (cond t None (Some (piece_at at 0 kind.Line (take (blanks z) z)))) ++ cut zero true before at 0 z) (stands_flow false before s)
    ∙ ap (λ w. piece_at at 0 kind.Line w ∷ cut zero true before at 0 z) e

pub body_line : (z indent : List ℕ) (n : ℕ) (ts : List Token) → IsBody z → loud z ≡ false → take (blanks z) z ≡ indent → Indents indent n
    → ((before : Before) (at : ℕ) → Stands false before → Fine false before (cut zero true before at 0 z) ts) → LineReads z (token.Line n ∷ ts)
body_line z indent n ts b calm e i r = record {
  calm = calm;
  reads = λ before at s.
      subst (λ w. Fine false before w (token.Line n ∷ ts)) (sym (body_pieces before at z indent b s e))
      (fine_piece false before (piece_at at 0 kind.Line indent) (token.Line n) (cut zero true before at 0 z) ts (i.token at) refl (i.good at) refl (r before at s));
}

pub indents_none : Indents [] 0
unfolding token_of own_fault
indents_none = record { token = λ at. refl; good = λ at. refl }

pub indents_two : Indents (32 ∷ 32 ∷ []) 2
unfolding token_of own_fault
indents_two = record { token = λ at. refl; good = λ at. refl }

-- a line that begins with no blank
pub level_line : (z : List ℕ) (ts : List Token) → IsBody z → loud z ≡ false → blanks z ≡ 0 → Reads false z ts → LineReads z (token.Line 0 ∷ ts)
level_line z ts b calm e r = body_line z [] 0 ts b calm (ap (λ n. take n z) e) indents_none (λ before at s. r.reads true before at 0 s)

-- ---- lines

-- lines with these tokens
pub data AllRead : List (List ℕ) → List Token → Type 0 where
  none : AllRead [] []
  more : {z : List ℕ} {zs : List (List ℕ)} {ts us : List Token} → LineReads z ts → AllRead zs us → AllRead (z ∷ zs) (ts ++ us)

pub all_both : (zs ys : List (List ℕ)) (ts us : List Token) → AllRead zs ts → AllRead ys us → AllRead (zs ++ ys) (ts ++ us)
all_both zs ys ts us none b = b
all_both zs ys ts us (more {z = z} {zs = ws} {ts = vs} {us = xs} l a) b = subst (AllRead (z ∷ (ws ++ ys))) (sym (append_assoc vs xs us)) (more l (all_both ws ys xs us a b))

-- each of them ends with a line feed
abbrev pub texts : List (List ℕ) → List ℕ
texts [] = []
texts (z ∷ zs) = z ++ 10 ∷ texts zs

pub texts_both : (zs ys : List (List ℕ)) → texts zs ++ texts ys ≡ texts (zs ++ ys)
texts_both [] ys = refl
texts_both (z ∷ zs) ys = append_assoc z (10 ∷ texts zs) (texts ys) ∙ ap (λ w. z ++ 10 ∷ w) (texts_both zs ys)

-- a text of such lines
pub record Section (text : List ℕ) (ts : List Token) : Type 0 where
  pub zs : List (List ℕ)
  pub is : text ≡ texts zs
  pub read : AllRead zs ts

pub section_none : Section [] []
section_none = record { zs = []; is = refl; read = none }

pub section_line : (z : List ℕ) (ts : List Token) → LineReads z ts → Section (z ++ 10 ∷ []) ts
section_line z ts l = record { zs = z ∷ []; is = refl; read = subst (AllRead (z ∷ [])) (append-nil ts) (more l none) }

pub section_both : (a b : List ℕ) (ts us : List Token) → Section a ts → Section b us → Section (a ++ b) (ts ++ us)
section_both a b ts us s t = record {
  zs = s.zs ++ t.zs;
  is = ap (λ w. w ++ b) s.is ∙ ap (λ w. texts s.zs ++ w) t.is ∙ texts_both s.zs t.zs;
  read = all_both s.zs t.zs ts us s.read t.read;
}

pub section_each : {X : Type 0} (text : X → List ℕ) (tokens : X → List Token) → ((x : X) → Section (text x) (tokens x)) → (xs : List X) → Section (flat_map text xs) (flat_map tokens xs)
section_each text tokens each [] = section_none
section_each text tokens each (x ∷ xs) = section_both (text x) (flat_map text xs) (tokens x) (flat_map tokens xs) (each x) (section_each text tokens each xs)
