-- The parts of a text stand in it in their order, so the first that is no document has the least offset of these.
use Rattle.std.proofs.Common.{◌≡◌, ℕ, zero, suc, ◌+◌, ◌≤◌, Bool, true, false, cond, ◌&&◌, ◌==◌, List, [], ◌∷◌, ◌++◌, Option, Some, None, refl, ap, sym, subst, ◌∙◌, arith}
use Rattle.std.specs.List.{filter_map, cons_option}
use Rattle.std.specs.Option.{option_to_list}
use Rattle.yaml_tokens.specs.Bytes.{is_blank, blanks, is_quote, is_open, is_close}
use Rattle.yaml_tokens.specs.Lines.{Line, lines}
use Rattle.yaml_tokens.specs.Scalars.{single_size, double_size, begins_plain, plain_size}
use Rattle.yaml_tokens.specs.Pieces.{PieceRecord, in_flow, closed_by, quoted_front, parts_quoted, parts as parts_entry, begins_item, leaves_out, single_front, bare_front, front, front_piece, is_dash, cut, after, after_all, class_of, opening, content, line_pieces, pieces, nothing}
use Rattle.yaml_tokens.specs.Tokens.{token_by, token_of, first_byte, tokens_of}
use Rattle.yaml_tokens.specs.declared.piece.Before.{Before}
use Rattle.yaml_tokens.specs.declared.piece.Kind.{Kind}
use Rattle.yaml_tokens.specs.declared.piece.Kind.TheVariants as kind
use Rattle.yaml_tokens.specs.declared.piece.Class.{Class}
use Rattle.yaml_tokens.specs.declared.piece.Class.TheVariants.{Begins, Skipped, Stray as OutsideLine, Ends, Body}
use Rattle.yaml_tokens.specs.declared.front.Front.{Front}
use Rattle.yaml_tokens.specs.declared.token.Token.{Token}
use Rattle.yaml_tokens.specs.declared.token.Token.TheVariants as token
use Rattle.yaml_nodes.specs.Documents.{Part, Whole, parts, ShapeAt, stray, unread, later}
use Rattle.yaml_profile.specs.Laws.{start, IsNoDocument, ShapeIsLeast}

-- pieces within a line begin no part
abbrev is_inner : Kind → Bool
is_inner kind.Begin = false
is_inner kind.End = false
is_inner kind.Stray = false
is_inner _ = true

skips_by : (k : Kind) (p : PieceRecord) (ts : List Token) → is_inner k ≡ true → parts (cons_option (token_by k p) ts) ≡ parts ts
skips_by kind.Begin p ts h = absurd (cc)
skips_by kind.End p ts h = absurd (cc)
skips_by kind.Stray p ts h = absurd (cc)
skips_by kind.Open p ts h = elim (first_byte p.bytes == 123) as (λ t. parts (cond t token.OpenMap token.OpenSeq ∷ ts) ≡ parts ts) [ true ↦ refl | false ↦ refl ]
skips_by kind.Close p ts h = elim (first_byte p.bytes == 125) as (λ t. parts (cond t token.CloseMap token.CloseSeq ∷ ts) ≡ parts ts) [ true ↦ refl | false ↦ refl ]
skips_by kind.Other p ts h = elim (first_byte p.bytes == 44) as (λ t. parts (cond t token.Comma (token.Other (first_byte p.bytes)) ∷ ts) ≡ parts ts) [ true ↦ refl | false ↦ refl ]
skips_by k p ts h = refl

skips : (p : PieceRecord) (ts : List Token) → is_inner p.kind ≡ true → parts (cons_option (token_of p) ts) ≡ parts ts
unfolding token_of
skips p ts h = skips_by p.kind p ts h

abbrev IsInner : Front → Type 0
IsInner f = is_inner f.kind ≡ true

pick : (t : Bool) (f g : Front) → IsInner f → IsInner g → IsInner (cond t f g)
pick true f g h k = h
pick false f g h k = k

closed_inner : (k : Kind) (o : Option ℕ) (rest : List ℕ) → is_inner k ≡ true → IsInner (closed_by k o rest)
closed_inner k None rest h = refl
closed_inner k (Some size) rest h = h

quoted_inner : (b : ℕ) (rest : List ℕ) → IsInner (quoted_front b rest)
unfolding quoted_front
quoted_inner b rest =
    pick (b == 39) (closed_by kind.Single (single_size false rest) rest) (closed_by kind.Double (double_size false rest) rest)
    (closed_inner kind.Single (single_size false rest) rest refl) (closed_inner kind.Double (double_size false rest) rest refl)

abbrev one : Kind → ℕ → Front
one k size = record { kind = k; size = size }

single_inner : (before : Before) (b : ℕ) (rest : List ℕ) → IsInner (single_front before b rest)
unfolding single_front
single_inner before b rest =
    pick (parts_entry before b rest) (one kind.Colon 0) (cond (begins_item before b) (one kind.Dash (blanks rest)) (cond (leaves_out b rest) (one kind.LeftOut 0) (one kind.Other 0))) refl
    (pick (begins_item before b) (one kind.Dash (blanks rest)) (cond (leaves_out b rest) (one kind.LeftOut 0) (one kind.Other 0)) refl (pick (leaves_out b rest) (one kind.LeftOut 0) (one kind.Other 0) refl refl))

bare_inner : (before : Before) (b : ℕ) (rest : List ℕ) → IsInner (bare_front before b rest)
unfolding bare_front
bare_inner before b rest =
    pick (parts_quoted before b) (one kind.Colon 0) (cond (begins_plain (in_flow before) b rest) (one kind.Plain (plain_size (in_flow before) rest)) (single_front before b rest)) refl
    (pick (begins_plain (in_flow before) b rest) (one kind.Plain (plain_size (in_flow before) rest)) (single_front before b rest) refl (single_inner before b rest))

front_inner : (before : Before) (b : ℕ) (rest : List ℕ) → IsInner (front before b rest)
unfolding front
front_inner before b rest =
    pick (is_quote b) (quoted_front b rest) (cond (is_open b) (one kind.Open 0) (cond (is_close b) (one kind.Close 0) (bare_front before b rest))) (quoted_inner b rest)
    (pick (is_open b) (one kind.Open 0) (cond (is_close b) (one kind.Close 0) (bare_front before b rest)) refl (pick (is_close b) (one kind.Close 0) (bare_front before b rest) refl (bare_inner before b rest)))

abbrev parts_in : List PieceRecord → List Part
parts_in ps = parts (filter_map token_of ps)

cut_skips : (within : ℕ) (fresh : Bool) (before : Before) (at column : ℕ) (z : List ℕ) (ps : List PieceRecord) → parts_in (cut within fresh before at column z ++ ps) ≡ parts_in ps
cut_skips within fresh before at column [] ps = refl
cut_skips (suc within) fresh before at column (b ∷ rest) ps = cut_skips within fresh before at (column + 1) rest ps
cut_skips zero fresh before at column (b ∷ rest) ps =
    let f = front before b rest in
    let more = cut f.size (is_dash f) (after before f.kind) at (column + 1) rest in
    let blank = cut zero true before at (column + 1) rest in
    let piece = front_piece f at column b rest in
    let here : parts_in ((piece ∷ more) ++ ps) ≡ parts_in ps =
    skips piece (filter_map token_of (more ++ ps)) (front_inner before b rest) ∙ cut_skips f.size (is_dash f) (after before f.kind) at (column + 1) rest ps in
    let passed : parts_in (blank ++ ps) ≡ parts_in ps = cut_skips zero true before at (column + 1) rest ps in
    elim (is_blank b) as (λ t. parts_in (cond t blank (cond ((b == 35) && fresh) [] (piece ∷ more)) ++ ps) ≡ parts_in ps) [
      | true ↦ passed
      | false ↦ elim ((b == 35) && fresh) as (λ t. parts_in (cond t [] (piece ∷ more) ++ ps) ≡ parts_in ps) [ true ↦ refl | false ↦ here ]
    ]

-- offsets rise
abbrev RiseLines : ℕ → List Line → Type 0
RiseLines n [] = Unit {0}
RiseLines n (l ∷ ls) = (n ≤ l.at) × RiseLines l.at ls

abbrev Rise : ℕ → List Part → Type 0
Rise n [] = Unit {0}
Rise n (p ∷ ps) = (n ≤ start p) × Rise (start p) ps

lines_rise : (fresh : Bool) (n at : ℕ) (z : List ℕ) → n ≤ at → RiseLines n (lines fresh at z)
lines_rise fresh n at [] h = tt
lines_rise true n at (b ∷ rest) h = (h, lines_rise (b == 10) at (at + 1) rest (omega arith))
lines_rise false n at (b ∷ rest) h = lines_rise (b == 10) n (at + 1) rest (omega arith)

rise_less : (n m : ℕ) (ps : List Part) → n ≤ m → Rise m ps → Rise n ps
rise_less n m [] h r = tt
rise_less n m (p ∷ ps) h r = let k : n ≤ start p = omega (arith, r.0) in (k, r.1)

-- the parts of a line, and those behind it
line_rises : (k : Class) (before : Before) (l : Line) (n : ℕ) (ps : List PieceRecord) → n ≤ l.at → Rise l.at (parts_in ps)
    → Rise n (parts_in ((option_to_list (opening k before l) ++ cut zero true before l.at 0 (content k l.bytes)) ++ ps))
unfolding token_of
line_rises Begins before l n ps h r = (h, r)
line_rises Skipped before l n ps h r = rise_less n l.at (parts_in ps) h r
line_rises OutsideLine before l n ps h r = (h, r)
line_rises Ends before l n ps h r = rise_less n l.at (parts_in ps) h r
line_rises Body before l n ps h r =
    let here : Rise n (parts_in (cut zero true before l.at 0 l.bytes ++ ps)) = subst (Rise n) (sym (cut_skips zero true before l.at 0 l.bytes ps)) (rise_less n l.at (parts_in ps) h r) in
    elim (in_flow before) as (λ t. Rise n (parts_in ((option_to_list (cond t None (opening Body nothing l)) ++ cut zero true before l.at 0 l.bytes) ++ ps))) [ true ↦ here | false ↦ here ]

pieces_rise : (before : Before) (n : ℕ) (ls : List Line) → RiseLines n ls → Rise n (parts_in (pieces before ls))
pieces_rise before n [] h = tt
pieces_rise before n (l ∷ ls) h = line_rises (class_of before l.bytes) before l n (pieces (after_all before (line_pieces before l)) ls) h.0 (pieces_rise (after_all before (line_pieces before l)) l.at ls h.1)

parts_rise : (text : List ℕ) → Rise 0 (parts (tokens_of text))
parts_rise text = pieces_rise nothing 0 (lines true 0 text) (lines_rise true 0 0 text (omega arith))

-- of parts that rise
abbrev first_or : Part → List Part → Part
first_or p [] = p
first_or p (q ∷ qs) = q

abbrev behind_first : List Part → List Part
behind_first [] = []
behind_first (q ∷ qs) = qs

among_rise : (n : ℕ) (ps before behind : List Part) (p : Part) → Rise n ps → ps ≡ before ++ p ∷ behind → n ≤ start p
among_rise n [] [] behind p r e = absurd (cc)
among_rise n [] (b ∷ before) behind p r e = absurd (cc)
among_rise n (q ∷ ps) [] behind p r e = subst (λ w. n ≤ start w) (ap (first_or p) e) r.0
among_rise n (q ∷ ps) (b ∷ before) behind p r e =
    let more : start q ≤ start p = among_rise (start q) ps before behind p r.1 (ap behind_first e) in
    omega (arith, r.0)

shape_least : (n : ℕ) (ps : List Part) (at : ℕ) → Rise n ps → ShapeAt ps at → (before behind : List Part) (p : Part) → ps ≡ before ++ p ∷ behind → IsNoDocument p → at ≤ start p
shape_least n ps at r (stray {ps = qs}) [] behind p e h = subst (λ w. at ≤ start w) (ap (first_or p) e) (omega arith)
shape_least n ps at r (stray {ps = qs}) (b ∷ before) behind p e h = among_rise at qs before behind p r.1 (ap behind_first e)
shape_least n ps at r (unread {ps = qs} never) [] behind p e h = subst (λ w. at ≤ start w) (ap (first_or p) e) (omega arith)
shape_least n ps at r (unread {ps = qs} never) (b ∷ before) behind p e h = among_rise at qs before behind p r.1 (ap behind_first e)
shape_least n ps at r (later {start = s} {tag = tag} {ts = ts} {root = root} {ps = qs} reads g) [] behind p e h =
    let none : IsNoDocument (Whole s tag ts) = subst IsNoDocument (sym (ap (first_or p) e)) h in absurd (none root reads)
shape_least n ps at r (later {start = s} {ps = qs} reads g) (b ∷ before) behind p e h = shape_least s qs at r.1 g before behind p (ap behind_first e) h

pub shape_is_least : ShapeIsLeast
shape_is_least text at g before behind p e h = shape_least 0 (parts (tokens_of text)) at (parts_rise text) g before behind p e h
