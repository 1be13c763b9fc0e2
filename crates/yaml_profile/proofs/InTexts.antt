-- Texts that have a printed scalar where printers put it are read back.
use Rattle.std.proofs.Common.{◌≡◌, ℕ, zero, suc, ◌+◌, Bool, true, false, cond, not, ◌&&◌, ◌||◌, ◌==◌, nat_lt, List, [], ◌∷◌, ◌++◌, length, take, Some, None, refl, ap, sym, ◌∙◌, arith, append-nil}
use Rattle.std.proofs.lemmas.Bool.Decides.{nat_tests}
use Rattle.std.proofs.Math.Seq.{take-append_seam}
use Rattle.std.specs.Char.{is_ascii_control}
use Rattle.std.specs.List.{list_any, list_all, flat_map, filter_map, cons_option}
use Rattle.std.specs.Option.{option_to_list}
use Rattle.yaml_tokens.specs.Bytes.{is_blank, begins, blanks, is_quote, is_open, is_close, is_flow, is_left_out, is_bad}
use Rattle.yaml_tokens.specs.Lines.{Line, line, lines, line_size, line_ends, begins_document, ends_document, tag_behind, tag_of}
use Rattle.yaml_tokens.specs.Scalars.{gap, is_dubious, is_indicator, begins_plain, ends_plain, plain_size}
use Rattle.yaml_tokens.specs.Pieces.{PieceRecord, parts as parts_entry, parts_quoted, single_front, bare_front, front, is_dash, cut, after, class_of, opening, content, line_pieces, after_all, pieces, pieces_of, nothing}
use Rattle.yaml_tokens.specs.Least.{first_of}
use Rattle.yaml_tokens.specs.Faults.{Up, Down, Fresh, Level as Same, step_of, offset, fault_at, fault_by, own_fault, least, stays_open, unclosed, bad_byte, piece_fault, fault_of}
use Rattle.yaml_tokens.specs.Tokens.{token_of, tokens_of}
use Rattle.yaml_tokens.specs.declared.piece.Before.{Before}
use Rattle.yaml_tokens.specs.declared.piece.Kind.{Kind}
use Rattle.yaml_tokens.specs.declared.piece.Kind.TheVariants as kind
use Rattle.yaml_tokens.specs.declared.kind.YamlKind.TheVariants.{BadByte, Unclosed as NotClosed}
use Rattle.yaml_tokens.specs.declared.piece.Class.{Class}
use Rattle.yaml_tokens.specs.declared.piece.Class.TheVariants.{Begins, Body}
use Rattle.yaml_tokens.proofs.Turns.{none_first_of}
use Rattle.yaml_tokens.specs.declared.token.Token.{Token}
use Rattle.yaml_tokens.specs.declared.token.Token.TheVariants as token
use Rattle.yaml_nodes.specs.declared.node.Node.TheVariants as node
use Rattle.yaml_nodes.specs.Nodes.{entry}
use Rattle.yaml_nodes.specs.Documents.{parts, documents_of}
use Rattle.yaml_profile.specs.Printed.{begins_plain as begins_printed, is_plain_byte, is_reserved, is_plain, doubled, escaped, single_quoted, double_quoted, printed_scalar}
use Rattle.yaml_profile.specs.Yaml.{read_by, read_of}
use Rattle.yaml_profile.specs.ReadBack.{printed_piece, in_document, one_root, PrintedStandsInTexts}
use Rattle.yaml_profile.proofs.PrintedBytes.{both, neither, word_is_no_blank, first_is_word}
use Rattle.yaml_profile.proofs.OneToken.{loud, loud_both, printed_is_one_token, printed_is_on_one_line}

-- lines without control characters
no_break : (b : ℕ) (rest : List ℕ) → nat_lt b 32 ≡ false → line_ends b rest ≡ false
unfolding line_ends
no_break b rest h =
    let ten : (b == 10) ≡ false = grind (arith, nat_tests) in
    let thirteen : (b == 13) ≡ false = grind (arith, nat_tests) in
    ap (λ t. t || ((b == 13) && begins (λ c. c == 10) rest)) ten ∙ ap (λ t. t && begins (λ c. c == 10) rest) thirteen

pub no_lf : (b : ℕ) → nat_lt b 32 ≡ false → (b == 10) ≡ false
no_lf b h = grind (arith, nat_tests)

ends_there : (rest : List ℕ) → line_ends 10 rest ≡ true
unfolding line_ends
ends_there rest = refl

calm_size : (z rest : List ℕ) → loud z ≡ false → line_size (z ++ 10 ∷ rest) ≡ length z
calm_size [] rest h = ap (λ t. cond t 0 (1 + line_size rest)) (ends_there rest)
calm_size (b ∷ z) rest h =
    let p = neither (nat_lt b 32) (loud z) h in
    let more : line_size (z ++ 10 ∷ rest) ≡ length z = calm_size z rest p.1 in
    ap (λ t. cond t 0 (1 + line_size (z ++ 10 ∷ rest))) (no_break b (z ++ 10 ∷ rest) p.0) ∙ (let s : 1 + line_size (z ++ 10 ∷ rest) ≡ suc (length z) = omega arith in s)

pub calm_line : (z rest : List ℕ) → loud z ≡ false → line (z ++ 10 ∷ rest) ≡ z
calm_line z rest h = ap (λ n. take n (z ++ 10 ∷ rest)) (calm_size z rest h) ∙ take-append_seam z (10 ∷ rest)

calm_tail : (at : ℕ) (z : List ℕ) → loud z ≡ false → lines false at (z ++ 10 ∷ []) ≡ []
calm_tail at [] h = refl
calm_tail at (b ∷ z) h =
    let p = neither (nat_lt b 32) (loud z) h in
    ap (λ t. lines t (at + 1) (z ++ 10 ∷ [])) (no_lf b p.0) ∙ calm_tail (at + 1) z p.1

calm_lines : (at b : ℕ) (z : List ℕ) → loud (b ∷ z) ≡ false → lines true at ((b ∷ z) ++ 10 ∷ []) ≡ record { at = at; bytes = b ∷ z } ∷ []
calm_lines at b z h =
    let p = neither (nat_lt b 32) (loud z) h in
    ap (λ w. record { at = at; bytes = w } ∷ lines (b == 10) (at + 1) (z ++ 10 ∷ [])) (calm_line (b ∷ z) [] h)
    ∙ ap (λ w. record { at = at; bytes = b ∷ z } ∷ w) (ap (λ t. lines t (at + 1) (z ++ 10 ∷ [])) (no_lf b p.0) ∙ calm_tail (at + 1) z p.1)

pub calm_byte : (b : ℕ) (rest : List ℕ) → nat_lt b 32 ≡ false → is_bad b rest ≡ false
unfolding is_bad
calm_byte b rest h =
    let thirteen : (b == 13) ≡ false = grind (arith, nat_tests) in
    ap (λ t. cond t (not (begins (λ c. c == 10) rest)) (nat_lt b 32 && not ((b == 9) || (b == 10)))) thirteen ∙ ap (λ t. t && not ((b == 9) || (b == 10))) h

pub lf_is_good : (rest : List ℕ) → is_bad 10 rest ≡ false
unfolding is_bad
lf_is_good rest = refl

calm_good : (at : ℕ) (z : List ℕ) → loud z ≡ false → bad_byte at (z ++ 10 ∷ []) ≡ None
calm_good at [] h = ap (λ t. cond t (Some (fault_at at BadByte)) None) (lf_is_good [])
calm_good at (b ∷ z) h =
    let p = neither (nat_lt b 32) (loud z) h in
    ap (λ t. cond t (Some (fault_at at BadByte)) (bad_byte (at + 1) (z ++ 10 ∷ []))) (calm_byte b (z ++ 10 ∷ []) p.0) ∙ calm_good (at + 1) z p.1

-- a document of one line
abbrev dashes : List ℕ
dashes = 45 ∷ 45 ∷ 45 ∷ []

abbrev inside : Before
inside = record { inside = true; opened = 0; closed = 0; quoted = false }

abbrev piece : ℕ → ℕ → Kind → List ℕ → PieceRecord
piece at column k bytes = record { line = at; column = column; kind = k; bytes = bytes }

text_lines : (b : ℕ) (z : List ℕ) → loud (b ∷ z) ≡ false → lines true 0 (in_document (b ∷ z)) ≡ record { at = 0; bytes = dashes } ∷ record { at = 4; bytes = b ∷ z } ∷ []
text_lines b z h =
    let rest = (b ∷ z) ++ 10 ∷ [] in
    ap (λ w. record { at = 0; bytes = w } ∷ lines true 4 rest) (calm_line dashes rest refl) ∙ ap (λ w. record { at = 0; bytes = dashes } ∷ w) (calm_lines 4 b z h)

pub good_step : (at b : ℕ) (rest : List ℕ) → is_bad b rest ≡ false → bad_byte at (b ∷ rest) ≡ bad_byte (at + 1) rest
good_step at b rest h = ap (λ t. cond t (Some (fault_at at BadByte)) (bad_byte (at + 1) rest)) h

text_good : (z : List ℕ) → loud z ≡ false → bad_byte 0 (in_document z) ≡ None
text_good z h =
    let rest = z ++ 10 ∷ [] in
    good_step 0 45 (45 ∷ 45 ∷ 10 ∷ rest) (calm_byte 45 (45 ∷ 45 ∷ 10 ∷ rest) refl)
    ∙ good_step 1 45 (45 ∷ 10 ∷ rest) (calm_byte 45 (45 ∷ 10 ∷ rest) refl)
    ∙ good_step 2 45 (10 ∷ rest) (calm_byte 45 (10 ∷ rest) refl)
    ∙ good_step 3 10 rest (lf_is_good rest)
    ∙ calm_good 4 z h

first_is : class_of nothing dashes ≡ Begins
unfolding class_of begins_document tag_behind
first_is = refl

abbrev pieces_by : Before → Line → Class → List PieceRecord
pieces_by before l k = option_to_list (opening k before l) ++ cut zero true before l.at 0 (content k l.bytes)

first_line : line_pieces nothing (record { at = 0; bytes = dashes }) ≡ piece 0 0 kind.Begin dashes ∷ []
first_line = ap (pieces_by nothing (record { at = 0; bytes = dashes })) first_is

second_line : (z : List ℕ) → class_of inside z ≡ Body → blanks z ≡ 0 → line_pieces inside (record { at = 4; bytes = z }) ≡ piece 4 0 kind.Line [] ∷ cut zero true inside 4 0 z
second_line z k e =
    ap (pieces_by inside (record { at = 4; bytes = z })) k
    ∙ ap (λ n. piece 4 0 kind.Line (take n z) ∷ cut zero true inside 4 0 z) e

text_pieces : (b : ℕ) (z : List ℕ) → loud (b ∷ z) ≡ false → class_of inside (b ∷ z) ≡ Body → blanks (b ∷ z) ≡ 0
    → pieces_of (in_document (b ∷ z)) ≡ piece 0 0 kind.Begin dashes ∷ piece 4 0 kind.Line [] ∷ cut zero true inside 4 0 (b ∷ z)
text_pieces b z h k e =
    let second : Line = record { at = 4; bytes = b ∷ z } in
    ap (pieces nothing) (text_lines b z h)
    ∙ ap (λ w. w ++ pieces (after_all nothing w) (second ∷ [])) first_line
    ∙ ap (λ w. piece 0 0 kind.Begin dashes ∷ w) (append-nil (line_pieces inside second) ∙ second_line (b ∷ z) k e)

abbrev all_pieces : List PieceRecord → List PieceRecord
all_pieces ps = piece 0 0 kind.Begin dashes ∷ piece 4 0 kind.Line [] ∷ ps

read_text : (b : ℕ) (z : List ℕ) (ps : List PieceRecord) (ts : List Token) → loud (b ∷ z) ≡ false → class_of inside (b ∷ z) ≡ Body → blanks (b ∷ z) ≡ 0 → cut zero true inside 4 0 (b ∷ z) ≡ ps
    → piece_fault (all_pieces ps) ≡ None → filter_map token_of (all_pieces ps) ≡ ts → read_of (in_document (b ∷ z)) ≡ documents_of (parts ts)
read_text b z ps ts h k e cuts good tokens =
    let text = in_document (b ∷ z) in
    let is : pieces_of text ≡ all_pieces ps = text_pieces b z h k e ∙ ap all_pieces cuts in
    let fine : fault_of text ≡ None = ap (λ o. first_of o (piece_fault (pieces_of text))) (text_good (b ∷ z) h) ∙ none_first_of (piece_fault (pieces_of text)) ∙ ap piece_fault is ∙ good in
    ap (λ o. read_by o (documents_of (parts (tokens_of text)))) fine
    ∙ ap (λ w. documents_of (parts (filter_map token_of w))) is
    ∙ ap (λ w. documents_of (parts w)) tokens

-- nothing is wrong with its pieces
pub first_of_none : first_of None None ≡ None
unfolding first_of
first_of_none = refl

pub least_none : (p : PieceRecord) (ps : List PieceRecord) → own_fault p ≡ None → least ps ≡ None → least (p ∷ ps) ≡ None
least_none p ps h g = ap (λ o. first_of o (least ps)) h ∙ ap (first_of None) g ∙ first_of_none

abbrev calm_kind : Kind → Bool
calm_kind kind.Begin = true
calm_kind kind.Open = true
calm_kind kind.Close = true
calm_kind kind.Colon = true
calm_kind kind.Dash = true
calm_kind kind.Plain = true
calm_kind _ = false

own_by : (k : Kind) (p : PieceRecord) → calm_kind k ≡ true → fault_by k p ≡ None
own_by kind.Begin p h = refl
own_by kind.Open p h = refl
own_by kind.Close p h = refl
own_by kind.Colon p h = refl
own_by kind.Dash p h = refl
own_by kind.Plain p h = refl
own_by k p h = absurd (cc)

own_calm : (p : PieceRecord) → calm_kind p.kind ≡ true → own_fault p ≡ None
unfolding own_fault
own_calm p h = own_by p.kind p h

own_line : own_fault (piece 4 0 kind.Line []) ≡ None
unfolding own_fault
own_line = refl

fault_none : (ps : List PieceRecord) → least ps ≡ None → unclosed (all_pieces ps) ≡ None → piece_fault (all_pieces ps) ≡ None
unfolding piece_fault
fault_none ps h g =
    let l : least (all_pieces ps) ≡ None = least_none (piece 0 0 kind.Begin dashes) (piece 4 0 kind.Line [] ∷ ps) (own_calm (piece 0 0 kind.Begin dashes) refl) (least_none (piece 4 0 kind.Line []) ps own_line h) in
    ap (λ o. first_of o (unclosed (all_pieces ps))) l ∙ ap (first_of None) g ∙ first_of_none

pub level_passes : (p : PieceRecord) (ps : List PieceRecord) → step_of p.kind ≡ Same → unclosed (p ∷ ps) ≡ unclosed ps
level_passes p ps h =
    ap (λ s. elim s [ Up ↦ cond (stays_open 1 ps) (Some (fault_at (offset p) NotClosed)) (unclosed ps) | Down ↦ unclosed ps | Same ↦ unclosed ps | Fresh ↦ unclosed ps ]) h

level_stays : (p : PieceRecord) (ps : List PieceRecord) → step_of p.kind ≡ Same → stays_open 1 (p ∷ ps) ≡ stays_open 1 ps
level_stays p ps h = ap (λ s. elim s [ Up ↦ stays_open 2 ps | Down ↦ stays_open 0 ps | Same ↦ stays_open 1 ps | Fresh ↦ true ]) h

-- what a printed scalar begins with
unblank_quotes : (z : List ℕ) → (blanks (39 ∷ z) ≡ 0) × (blanks (34 ∷ z) ≡ 0)
unfolding is_blank
unblank_quotes z = (refl, refl)

unblank_plain : (s : List ℕ) → is_plain s ≡ true → blanks s ≡ 0
unfolding is_plain
unblank_plain [] h = refl
unblank_plain (b ∷ text) h =
    let p = both (begins_printed b && list_all is_plain_byte text) (not (is_reserved (b ∷ text))) h in
    let q = both (begins_printed b) (list_all is_plain_byte text) p.0 in
    ap (λ t. cond t (1 + blanks text) 0) (word_is_no_blank b (first_is_word b q.0))

pub printed_starts : (s : List ℕ) → blanks (printed_scalar s) ≡ 0
printed_starts s = by_plain (is_plain s) refl
  where
    by_control : (u : Bool) → blanks (cond u (double_quoted s) (single_quoted s)) ≡ 0
    by_control true = (unblank_quotes (flat_map escaped s ++ 34 ∷ [])).1
    by_control false = (unblank_quotes (flat_map doubled s ++ 39 ∷ [])).0

    by_plain : (t : Bool) → is_plain s ≡ t → blanks (cond t s (cond (list_any is_ascii_control s) (double_quoted s) (single_quoted s))) ≡ 0
    by_plain true e = unblank_plain s e
    by_plain false e = by_control (list_any is_ascii_control s)

-- as a value
value_cut : (z : List ℕ) → cut zero true inside 4 0 (107 ∷ 58 ∷ 32 ∷ z) ≡ piece 4 0 kind.Plain (107 ∷ []) ∷ piece 4 1 kind.Colon (58 ∷ []) ∷ cut zero true inside 4 3 z
unfolding is_blank front is_quote is_open is_close bare_front parts_quoted begins_plain is_dubious is_indicator is_flow is_left_out gap single_front parts_entry ends_plain
value_cut z = refl

value_class : (z : List ℕ) → class_of inside (107 ∷ z) ≡ Body
unfolding class_of begins_document ends_document is_blank
value_class z = refl

value_tokens : (s : List ℕ) (q : PieceRecord) → token_of q ≡ Some (token.Scalar s) → filter_map token_of (all_pieces (piece 4 0 kind.Plain (107 ∷ []) ∷ piece 4 1 kind.Colon (58 ∷ []) ∷ q ∷ []))
    ≡ token.Begin 0 None ∷ token.Line 0 ∷ token.Scalar (107 ∷ []) ∷ token.Colon ∷ token.Scalar s ∷ []
unfolding token_of tag_of tag_behind
value_tokens s q h = ap (λ o. token.Begin 0 None ∷ token.Line 0 ∷ token.Scalar (107 ∷ []) ∷ token.Colon ∷ cons_option o []) h

unblank_letter : (z : List ℕ) → blanks (107 ∷ z) ≡ 0
unfolding is_blank
unblank_letter z = refl

value_fault : (q : PieceRecord) → own_fault q ≡ None → step_of q.kind ≡ Same → piece_fault (all_pieces (piece 4 0 kind.Plain (107 ∷ []) ∷ piece 4 1 kind.Colon (58 ∷ []) ∷ q ∷ [])) ≡ None
value_fault q h level =
    fault_none (piece 4 0 kind.Plain (107 ∷ []) ∷ piece 4 1 kind.Colon (58 ∷ []) ∷ q ∷ [])
    (least_none (piece 4 0 kind.Plain (107 ∷ [])) (piece 4 1 kind.Colon (58 ∷ []) ∷ q ∷ []) (own_calm (piece 4 0 kind.Plain (107 ∷ [])) refl)
    (least_none (piece 4 1 kind.Colon (58 ∷ [])) (q ∷ []) (own_calm (piece 4 1 kind.Colon (58 ∷ [])) refl) (least_none q [] h refl)))
    (level_passes q [] level)

value_reads : (s : List ℕ) → read_of (in_document (107 ∷ 58 ∷ 32 ∷ printed_scalar s)) ≡ one_root (node.Map (entry (107 ∷ []) (node.Scalar s) ∷ []))
value_reads s =
    let z = printed_scalar s in
    let r = printed_is_one_token s [] true inside 4 3 refl in
    let q = printed_piece s r.0 4 3 in
    read_text 107 (58 ∷ 32 ∷ z) (piece 4 0 kind.Plain (107 ∷ []) ∷ piece 4 1 kind.Colon (58 ∷ []) ∷ q ∷ []) (token.Begin 0 None ∷ token.Line 0 ∷ token.Scalar (107 ∷ []) ∷ token.Colon ∷ token.Scalar s ∷ [])
    (printed_is_on_one_line s) (value_class (58 ∷ 32 ∷ z)) (unblank_letter (58 ∷ 32 ∷ z))
    (value_cut z ∙ ap (λ w. piece 4 0 kind.Plain (107 ∷ []) ∷ piece 4 1 kind.Colon (58 ∷ []) ∷ w) (ap (cut zero true inside 4 3) (sym (append-nil z)) ∙ r.1.pieces))
    (value_fault q r.1.good r.1.level) (value_tokens s q r.1.token)

-- in flow
abbrev opened_one : Before
opened_one = record { inside = true; opened = 1; closed = 0; quoted = false }

flow_cut : (z : List ℕ) → cut zero true inside 4 0 (123 ∷ 32 ∷ 107 ∷ 58 ∷ 32 ∷ z)
    ≡ piece 4 0 kind.Open (123 ∷ []) ∷ piece 4 2 kind.Plain (107 ∷ []) ∷ piece 4 3 kind.Colon (58 ∷ []) ∷ cut zero true opened_one 4 5 z
unfolding is_blank front is_quote is_open is_close bare_front parts_quoted begins_plain is_dubious is_indicator is_flow is_left_out gap single_front parts_entry ends_plain
flow_cut z = refl

close_cut : (before : Before) (column : ℕ) → cut zero false before 4 column (32 ∷ 125 ∷ []) ≡ piece 4 (column + 1) kind.Close (125 ∷ []) ∷ []
unfolding is_blank front is_quote is_open is_close
close_cut before column = refl

flow_class : (z : List ℕ) → class_of inside (123 ∷ z) ≡ Body
unfolding class_of begins_document ends_document is_blank
flow_class z = refl

unblank_brace : (z : List ℕ) → blanks (123 ∷ z) ≡ 0
unfolding is_blank
unblank_brace z = refl

flow_ends : plain_size true (32 ∷ 125 ∷ []) ≡ 0
unfolding ends_plain is_blank is_flow is_open is_close gap
flow_ends = refl

abbrev flow_pieces : PieceRecord → ℕ → List PieceRecord
flow_pieces q column = piece 4 0 kind.Open (123 ∷ []) ∷ piece 4 2 kind.Plain (107 ∷ []) ∷ piece 4 3 kind.Colon (58 ∷ []) ∷ q ∷ piece 4 column kind.Close (125 ∷ []) ∷ []

flow_fault : (q : PieceRecord) (column : ℕ) → own_fault q ≡ None → step_of q.kind ≡ Same → piece_fault (all_pieces (flow_pieces q column)) ≡ None
flow_fault q column h level =
    let close = piece 4 column kind.Close (125 ∷ []) in
    let colon = piece 4 3 kind.Colon (58 ∷ []) in
    let k = piece 4 2 kind.Plain (107 ∷ []) in
    let open_ = piece 4 0 kind.Open (123 ∷ []) in
    fault_none (flow_pieces q column)
    (least_none open_ (k ∷ colon ∷ q ∷ close ∷ []) (own_calm open_ refl)
    (least_none k (colon ∷ q ∷ close ∷ []) (own_calm k refl)
    (least_none colon (q ∷ close ∷ []) (own_calm colon refl) (least_none q (close ∷ []) h (least_none close [] (own_calm close refl) refl)))))
    (ap (λ t. cond t (Some (fault_at (offset open_) NotClosed)) (unclosed (q ∷ close ∷ []))) (level_stays q (close ∷ []) level) ∙ level_passes q (close ∷ []) level)

flow_tokens : (s : List ℕ) (q : PieceRecord) (column : ℕ) → token_of q ≡ Some (token.Scalar s) → filter_map token_of (all_pieces (flow_pieces q column))
    ≡ token.Begin 0 None ∷ token.Line 0 ∷ token.OpenMap ∷ token.Scalar (107 ∷ []) ∷ token.Colon ∷ token.Scalar s ∷ token.CloseMap ∷ []
unfolding token_of tag_of tag_behind
flow_tokens s q column h = ap (λ o. token.Begin 0 None ∷ token.Line 0 ∷ token.OpenMap ∷ token.Scalar (107 ∷ []) ∷ token.Colon ∷ cons_option o (token.CloseMap ∷ [])) h

flow_reads : (s : List ℕ) → read_of (in_document (123 ∷ 32 ∷ 107 ∷ 58 ∷ 32 ∷ (printed_scalar s ++ 32 ∷ 125 ∷ []))) ≡ one_root (node.Map (entry (107 ∷ []) (node.Scalar s) ∷ []))
flow_reads s =
    let z = printed_scalar s in
    let end = 32 ∷ 125 ∷ [] in
    let r = printed_is_one_token s end true opened_one 4 5 flow_ends in
    let q = printed_piece s r.0 4 5 in
    let column = 5 + length z + 1 in
    read_text 123 (32 ∷ 107 ∷ 58 ∷ 32 ∷ (z ++ end)) (flow_pieces q column)
    (token.Begin 0 None ∷ token.Line 0 ∷ token.OpenMap ∷ token.Scalar (107 ∷ []) ∷ token.Colon ∷ token.Scalar s ∷ token.CloseMap ∷ [])
    (loud_both z end (printed_is_on_one_line s) refl) (flow_class (32 ∷ 107 ∷ 58 ∷ 32 ∷ (z ++ end))) (unblank_brace (32 ∷ 107 ∷ 58 ∷ 32 ∷ (z ++ end)))
    (flow_cut (z ++ end) ∙ ap (λ w. piece 4 0 kind.Open (123 ∷ []) ∷ piece 4 2 kind.Plain (107 ∷ []) ∷ piece 4 3 kind.Colon (58 ∷ []) ∷ w)
    (r.1.pieces ∙ ap (λ w. q ∷ w) (close_cut (after opened_one r.0) (5 + length z))))
    (flow_fault q column r.1.good r.1.level) (flow_tokens s q column r.1.token)

-- as an item
item_cut : (z : List ℕ) → blanks z ≡ 0 → cut zero true inside 4 0 (45 ∷ 32 ∷ z) ≡ piece 4 0 kind.Dash (45 ∷ 32 ∷ []) ∷ cut zero true inside 4 2 z
unfolding is_blank front is_quote is_open is_close bare_front parts_quoted begins_plain is_dubious is_indicator is_flow is_left_out gap single_front parts_entry ends_plain
item_cut z h =
    ap (λ n. piece 4 0 kind.Dash (45 ∷ take (1 + n) (32 ∷ z)) ∷ cut (1 + n) (is_dash (record { kind = kind.Dash; size = 1 + n })) inside 4 1 (32 ∷ z)) h

item_class : (z : List ℕ) → class_of inside (45 ∷ 32 ∷ z) ≡ Body
unfolding class_of begins_document ends_document is_blank
item_class z = refl

unblank_dash : (z : List ℕ) → blanks (45 ∷ z) ≡ 0
unfolding is_blank
unblank_dash z = refl

item_tokens : (s : List ℕ) (q : PieceRecord) → token_of q ≡ Some (token.Scalar s) → filter_map token_of (all_pieces (piece 4 0 kind.Dash (45 ∷ 32 ∷ []) ∷ q ∷ []))
    ≡ token.Begin 0 None ∷ token.Line 0 ∷ token.Dash 2 ∷ token.Scalar s ∷ []
unfolding token_of tag_of tag_behind
item_tokens s q h = ap (λ o. token.Begin 0 None ∷ token.Line 0 ∷ token.Dash 2 ∷ cons_option o []) h

item_fault : (q : PieceRecord) → own_fault q ≡ None → step_of q.kind ≡ Same → piece_fault (all_pieces (piece 4 0 kind.Dash (45 ∷ 32 ∷ []) ∷ q ∷ [])) ≡ None
item_fault q h level =
    let dash = piece 4 0 kind.Dash (45 ∷ 32 ∷ []) in
    fault_none (dash ∷ q ∷ []) (least_none dash (q ∷ []) (own_calm dash refl) (least_none q [] h refl)) (level_passes q [] level)

item_reads : (s : List ℕ) → read_of (in_document (45 ∷ 32 ∷ printed_scalar s)) ≡ one_root (node.Seq (node.Scalar s ∷ []))
item_reads s =
    let z = printed_scalar s in
    let r = printed_is_one_token s [] true inside 4 2 refl in
    let q = printed_piece s r.0 4 2 in
    read_text 45 (32 ∷ z) (piece 4 0 kind.Dash (45 ∷ 32 ∷ []) ∷ q ∷ []) (token.Begin 0 None ∷ token.Line 0 ∷ token.Dash 2 ∷ token.Scalar s ∷ [])
    (printed_is_on_one_line s) (item_class z) (unblank_dash (32 ∷ z))
    (item_cut z (printed_starts s) ∙ ap (λ w. piece 4 0 kind.Dash (45 ∷ 32 ∷ []) ∷ w) (ap (cut zero true inside 4 2) (sym (append-nil z)) ∙ r.1.pieces))
    (item_fault q r.1.good r.1.level) (item_tokens s q r.1.token)

pub printed_stands_in_texts : PrintedStandsInTexts
printed_stands_in_texts s = record { value = value_reads s; in_flow = flow_reads s; item = item_reads s }
