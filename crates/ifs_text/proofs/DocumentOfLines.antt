-- A document that has nothing but such lines between the one that begins it and the one that ends it: nothing is wrong with
-- its text, and its tokens are those of the lines.
use Rattle.std.proofs.Common.{◌≡◌, ℕ, ◌+◌, true, false, cond, not, ◌==◌, nat_lt, List, [], ◌∷◌, ◌++◌, Some, None, refl, ap, sym, subst, ◌∙◌}
use Rattle.std.specs.List.{list_any, filter_map, cons_option}
use Rattle.yaml_tokens.specs.Bytes.{is_blank}
use Rattle.yaml_tokens.specs.Lines.{Line, lines, begins_document, ends_document, tag_behind, tag_of}
use Rattle.yaml_tokens.specs.Pieces.{PieceRecord, class_of, line_pieces, after_all, pieces, pieces_of, nothing}
use Rattle.yaml_tokens.specs.Least.{first_of}
use Rattle.yaml_tokens.specs.Faults.{own_fault, least, unclosed, bad_byte, piece_fault, fault_of}
use Rattle.yaml_tokens.specs.Tokens.{token_of, tokens_of}
use Rattle.yaml_tokens.specs.declared.piece.Before.{Before}
use Rattle.yaml_tokens.specs.declared.piece.Kind.TheVariants as kind
use Rattle.yaml_tokens.specs.declared.piece.Class.TheVariants.{Begins, Stray as OutsideLine, Ends}
use Rattle.yaml_tokens.specs.declared.token.Token.{Token}
use Rattle.yaml_tokens.specs.declared.token.Token.TheVariants as token
use Rattle.yaml_tokens.proofs.Turns.{none_first_of}
use Rattle.yaml_tokens.specs.Parts.{begins_part}
use Rattle.yaml_profile.proofs.PrintedBytes.{neither, or_false}
use Rattle.yaml_profile.proofs.OneToken.{loud, piece_at}
use Rattle.yaml_profile.proofs.InTexts.{no_lf, calm_line, calm_byte, lf_is_good, good_step, least_none, level_passes, first_of_none}
use Rattle.ifs_text.proofs.Places.{Stands}
use Rattle.ifs_text.proofs.LinesOfText.{pieces_by, AllRead, texts, texts_both, Section, none, more}

-- the offset behind a line and its line feed
abbrev pub behind : ℕ → List ℕ → ℕ
behind at [] = at + 1
behind at (b ∷ z) = behind (at + 1) z

abbrev placed : ℕ → List (List ℕ) → List Line
placed at [] = []
placed at (z ∷ zs) = record { at = at; bytes = z } ∷ placed (behind at z) zs

calm_middle : (at : ℕ) (z rest : List ℕ) → loud z ≡ false → lines false at (z ++ 10 ∷ rest) ≡ lines true (behind at z) rest
calm_middle at [] rest h = refl
calm_middle at (b ∷ z) rest h =
    let p = neither (nat_lt b 32) (loud z) h in
    ap (λ t. lines t (at + 1) (z ++ 10 ∷ rest)) (no_lf b p.0) ∙ calm_middle (at + 1) z rest p.1

line_placed : (at : ℕ) (z rest : List ℕ) → loud z ≡ false → lines true at (z ++ 10 ∷ rest) ≡ record { at = at; bytes = z } ∷ lines true (behind at z) rest
line_placed at [] rest h = ap (λ w. record { at = at; bytes = w } ∷ lines true (at + 1) rest) (calm_line [] rest refl)
line_placed at (b ∷ z) rest h =
    let p = neither (nat_lt b 32) (loud z) h in
    ap (λ w. record { at = at; bytes = w } ∷ lines (b == 10) (at + 1) (z ++ 10 ∷ rest)) (calm_line (b ∷ z) rest h)
    ∙ ap (λ t. record { at = at; bytes = b ∷ z } ∷ lines t (at + 1) (z ++ 10 ∷ rest)) (no_lf b p.0)
    ∙ ap (λ w. record { at = at; bytes = b ∷ z } ∷ w) (calm_middle (at + 1) z rest p.1)

all_placed : (at : ℕ) (zs : List (List ℕ)) → list_any loud zs ≡ false → lines true at (texts zs) ≡ placed at zs
all_placed at [] h = refl
all_placed at (z ∷ zs) h =
    let p = neither (loud z) (list_any loud zs) h in
    line_placed at z (texts zs) p.0 ∙ ap (λ w. record { at = at; bytes = z } ∷ w) (all_placed (behind at z) zs p.1)

line_good : (at : ℕ) (z rest : List ℕ) → loud z ≡ false → bad_byte at (z ++ 10 ∷ rest) ≡ bad_byte (behind at z) rest
line_good at [] rest h = good_step at 10 rest (lf_is_good rest)
line_good at (b ∷ z) rest h =
    let p = neither (nat_lt b 32) (loud z) h in
    good_step at b (z ++ 10 ∷ rest) (calm_byte b (z ++ 10 ∷ rest) p.0) ∙ line_good (at + 1) z rest p.1

all_good : (at : ℕ) (zs : List (List ℕ)) → list_any loud zs ≡ false → bad_byte at (texts zs) ≡ None
all_good at [] h = refl
all_good at (z ∷ zs) h =
    let p = neither (loud z) (list_any loud zs) h in
    line_good at z (texts zs) p.0 ∙ all_good (behind at z) zs p.1

-- ---- a document of such lines

abbrev pub dots : List ℕ
dots = 46 ∷ 46 ∷ 46 ∷ []

dots_end : (before : Before) → before.inside ≡ true → class_of before dots ≡ Ends
unfolding class_of begins_document ends_document is_blank
dots_end before h = ap (λ t. cond (not t) OutsideLine Ends) h

-- the pieces up to the end
record Rest (ps : List PieceRecord) (ts : List Token) : Type 0 where
  tokens : filter_map token_of ps ≡ ts
  inner : list_any begins_part ts ≡ false
  good : least ps ≡ None
  level : unclosed ps ≡ None

dots_token : (at : ℕ) → (filter_map token_of (piece_at at 0 kind.End dots ∷ []) ≡ []) × (own_fault (piece_at at 0 kind.End dots) ≡ None)
unfolding token_of own_fault
dots_token at = (refl, refl)

end_rest : (at : ℕ) → Rest (piece_at at 0 kind.End dots ∷ []) []
end_rest at =
    let p = piece_at at 0 kind.End dots in
    record {
      tokens = (dots_token at).0;
      inner = refl;
      good = least_none p [] (dots_token at).1 refl;
      level = level_passes p [] refl;
    }

last_pieces : (before : Before) (at : ℕ) → Stands false before → pieces before (placed at (dots ∷ [])) ≡ piece_at at 0 kind.End dots ∷ []
last_pieces before at s = ap (λ k. (pieces_by before (record { at = at; bytes = dots }) k) ++ []) (dots_end before s.inside)

inner_both : (ts us : List Token) → list_any begins_part ts ≡ false → list_any begins_part us ≡ false → list_any begins_part (ts ++ us) ≡ false
inner_both [] us h g = g
inner_both (t ∷ ts) us h g =
    let p = neither (begins_part t) (list_any begins_part ts) h in
    or_false (begins_part t) (list_any begins_part (ts ++ us)) p.0 (inner_both ts us p.1 g)

all_rest : (before : Before) (at : ℕ) (zs : List (List ℕ)) (ts : List Token) → AllRead zs ts → Stands false before → Rest (pieces before (placed at (zs ++ dots ∷ []))) ts
all_rest before at zs ts none s = subst (λ w. Rest w []) (sym (last_pieces before at s)) (end_rest at)
all_rest before at zs ts (more {z = z} {zs = ws} {ts = vs} {us = us} l a) s =
    let here = line_pieces before (record { at = at; bytes = z }) in
    let f = l.reads before at s in
    let there = pieces (after_all before here) (placed (behind at z) (ws ++ dots ∷ [])) in
    let r = all_rest (after_all before here) (behind at z) ws us a f.ends in
    record {
      tokens = f.tokens there ∙ ap (λ w. vs ++ w) r.tokens;
      inner = inner_both vs us f.inner r.inner;
      good = f.good there r.good;
      level = f.level there ∙ r.level;
    }

abbrev pub first : List ℕ
first = 45 ∷ 45 ∷ 45 ∷ 32 ∷ 33 ∷ 105 ∷ 102 ∷ 115 ∷ 45 ∷ 118 ∷ 49 ∷ []

abbrev pub tag : List ℕ
tag = 33 ∷ 105 ∷ 102 ∷ 115 ∷ 45 ∷ 118 ∷ 49 ∷ []

abbrev pub document_text : List ℕ → List ℕ
document_text body = first ++ 10 ∷ (body ++ texts (dots ∷ []))

first_begins : class_of nothing first ≡ Begins
unfolding class_of begins_document tag_behind is_blank
first_begins = refl

first_token : (token_of (piece_at 0 0 kind.Begin first) ≡ Some (token.Begin 0 (Some tag))) × (own_fault (piece_at 0 0 kind.Begin first) ≡ None)
unfolding token_of own_fault tag_of tag_behind is_blank
first_token = (refl, refl)

abbrev inside : Before
inside = record { inside = true; opened = 0; closed = 0; quoted = false }

inside_stands : Stands false inside
inside_stands = record { inside = refl; counts = refl }

abbrev from_pieces : List Line → List PieceRecord → List PieceRecord
from_pieces ls here = here ++ pieces (after_all nothing here) ls

document_pieces : (ls : List Line) → pieces nothing (record { at = 0; bytes = first } ∷ ls) ≡ piece_at 0 0 kind.Begin first ∷ pieces inside ls
document_pieces ls = ap (λ k. from_pieces ls (pieces_by nothing (record { at = 0; bytes = first }) k)) first_begins

all_calm : (zs : List (List ℕ)) (ts : List Token) → AllRead zs ts → list_any loud (zs ++ dots ∷ []) ≡ false
all_calm zs ts none = refl
all_calm zs ts (more {z = z} {zs = ws} {us = us} l a) = or_false (loud z) (list_any loud (ws ++ dots ∷ [])) l.calm (all_calm ws us a)

-- nothing is wrong with the text, and its tokens are those of the lines
pub record IsDocument (text : List ℕ) (ts : List Token) : Type 0 where
  pub fault : fault_of text ≡ None
  pub tokens : tokens_of text ≡ token.Begin 0 (Some tag) ∷ ts
  pub inner : list_any begins_part ts ≡ false

document_is : (body : List ℕ) (zs : List (List ℕ)) → body ≡ texts zs → document_text body ≡ texts (first ∷ (zs ++ dots ∷ []))
document_is body zs e = ap (λ w. first ++ 10 ∷ (w ++ texts (dots ∷ []))) e ∙ ap (λ w. first ++ 10 ∷ w) (texts_both zs (dots ∷ []))

rest_is_document : (text : List ℕ) (ps : List PieceRecord) (ts : List Token) → bad_byte 0 text ≡ None → pieces_of text ≡ piece_at 0 0 kind.Begin first ∷ ps → Rest ps ts → IsDocument text ts
unfolding piece_fault
rest_is_document text ps ts good is r =
    let p = piece_at 0 0 kind.Begin first in
    let fine : piece_fault (p ∷ ps) ≡ None = ap (λ o. first_of o (unclosed ps)) (least_none p ps first_token.1 r.good) ∙ ap (first_of None) r.level ∙ first_of_none in
    record {
      fault = ap (λ o. first_of o (piece_fault (pieces_of text))) good ∙ none_first_of (piece_fault (pieces_of text)) ∙ ap piece_fault is ∙ fine;
      tokens = ap (filter_map token_of) is ∙ ap (λ o. cons_option o (filter_map token_of ps)) first_token.0 ∙ ap (λ w. token.Begin 0 (Some tag) ∷ w) r.tokens;
      inner = r.inner;
    }

pub section_document : (body : List ℕ) (ts : List Token) → Section body ts → IsDocument (document_text body) ts
section_document body ts s =
    let zs : List (List ℕ) = s.zs ++ dots ∷ [] in
    let calm : list_any loud (first ∷ zs) ≡ false = all_calm s.zs ts s.read in
    let is : document_text body ≡ texts (first ∷ zs) = document_is body s.zs s.is in
    let ls = placed (behind 0 first) zs in
    rest_is_document (document_text body) (pieces inside ls) ts (ap (bad_byte 0) is ∙ all_good 0 (first ∷ zs) calm)
    (ap pieces_of is ∙ ap (pieces nothing) (all_placed 0 (first ∷ zs) calm) ∙ document_pieces ls)
    (all_rest inside (behind 0 first) s.zs ts s.read inside_stands)
