-- Steps of the cutter, as laws on places.
use Rattle.std.proofs.Common.{◌≡◌, ℕ, zero, suc, ◌+◌, ◌-◌, ◌<◌, ◌≤◌, Bool, true, false, cond, ◌&&◌, ◌||◌, not, ◌==◌, ◌⊎◌, List, [], ◌∷◌, ◌++◌, length, take, drop, Option, Some, None, refl, ap, sym, subst, ◌∙◌, inl, inr, arith, length-drop}
use Rattle.std.proofs.lemmas.Bool.Decides.{nat_tests}
use Rattle.std.specs.Str.{byte}
use Rattle.std.specs.Option.{option_to_list}
use Rattle.yaml_tokens.specs.Bytes.{is_blank, begins}
use Rattle.yaml_tokens.specs.Lines.{Line, line, lines, line_size, line_ends, behind_line}
use Rattle.yaml_tokens.specs.Pieces.{PieceRecord, cut, front, front_piece, is_dash, after, after_all, pieces, in_flow, class_of, opening, content, indentation}
use Rattle.yaml_tokens.specs.Places.{Place, left, continued, passed, begins_piece, opened, work, OpensLine, Cuts, Skips}
use Rattle.yaml_tokens.specs.declared.piece.Before.{Before}
use Rattle.yaml_tokens.specs.declared.front.Front.{Front}
use Rattle.yaml_tokens.specs.declared.piece.Class.{Class}
use Rattle.yaml_tokens.specs.declared.piece.Class.TheVariants.{Begins, Skipped, Stray as OutsideLine, Ends, Body}
use Rattle.yaml_tokens.specs.declared.piece.Kind.TheVariants.{Line as Indent}

abbrev place : List ℕ → ℕ → ℕ → Bool → List ℕ → ℕ → Before → Place
place z line_at column fresh rest after_at before = record {
  line = z;
  line_at = line_at;
  column = column;
  fresh = fresh;
  after = rest;
  after_at = after_at;
  before = before;
}

-- behind the bytes of a piece
cut_behind : (k : ℕ) (fresh : Bool) (before : Before) (at column : ℕ) (z : List ℕ) → cut k fresh before at column z ≡ cut zero fresh before at (column + k) (drop k z)
cut_behind zero fresh before at column [] = refl
cut_behind zero fresh before at column (b ∷ rest) = let e : column ≡ column + 0 = omega arith in ap (λ n. cut zero fresh before at n (b ∷ rest)) e
cut_behind (suc k) fresh before at column [] = refl
cut_behind (suc k) fresh before at column (b ∷ rest) =
    let e : column + 1 + k ≡ column + suc k = omega arith in
    cut_behind k fresh before at (column + 1) rest ∙ ap (λ n. cut zero fresh before at n (drop k rest)) e

-- neither a blank nor a comment
choice : {X : Type 0} (blank comment : Bool) (x y : List X) → (not blank && not comment) ≡ true → cond blank x (cond comment [] y) ≡ y
choice true comment x y h = let e : false ≡ true = h in cc
choice false true x y h = let e : false ≡ true = h in cc
choice false false x y h = refl

pub cut_piece : (fresh : Bool) (before : Before) (at column b : ℕ) (rest : List ℕ) → begins_piece fresh (b ∷ rest) ≡ true
    → cut zero fresh before at column (b ∷ rest)
    ≡ front_piece (front before b rest) at column b rest
    ∷ cut zero (is_dash (front before b rest)) (after before (front before b rest).kind) at (column + (1 + (front before b rest).size)) (drop (front before b rest).size rest)
cut_piece fresh before at column b rest h =
    let f = front before b rest in
    let e : column + 1 + f.size ≡ column + (1 + f.size) = omega arith in
    choice (is_blank b) (b == byte "#" && fresh) _ _ h
    ∙ ap (λ w. front_piece f at column b rest ∷ w)
    (cut_behind f.size (is_dash f) (after before f.kind) at (column + 1) rest
    ∙ ap (λ n. cut zero (is_dash f) (after before f.kind) at n (drop f.size rest)) e)

left_cons : (line_at column after_at b : ℕ) (fresh : Bool) (before : Before) (rest text : List ℕ) → begins_piece fresh (b ∷ rest) ≡ true
    → left (place (b ∷ rest) line_at column fresh text after_at before)
    ≡ front_piece (front before b rest) line_at column b rest
    ∷ left (place (drop (front before b rest).size rest) line_at (column + (1 + (front before b rest).size)) (is_dash (front before b rest)) text after_at (after before (front before b rest).kind))
unfolding left
left_cons line_at column after_at b fresh before rest text h =
    ap (λ here. continued before here (lines true after_at text)) (cut_piece fresh before line_at column b rest h)

take_more : (n b : ℕ) (rest : List ℕ) → take (n + 1) (b ∷ rest) ≡ b ∷ take n rest
take_more n b rest = let e : n + 1 ≡ suc n = omega arith in ap (λ k. take k (b ∷ rest)) e

-- a piece is cut
pub left_take : (line_at column after_at b : ℕ) (fresh dash : Bool) (before next : Before) (z bytes line rest text : List ℕ) (f : Front)
    → z ≡ b ∷ rest → begins_piece fresh z ≡ true → f ≡ front before b rest → bytes ≡ take (f.size + 1) z → line ≡ drop f.size rest → dash ≡ is_dash f → next ≡ after before f.kind
    → left (place z line_at column fresh text after_at before)
    ≡ (record { line = line_at; column = column; kind = f.kind; bytes = bytes } ∷ left (place line line_at (column + (1 + f.size)) dash text after_at next))
left_take line_at column after_at b fresh dash before next z bytes line rest text f ez begins ef eb el ed en =
    let P : List ℕ → Type 0 = λ w. begins_piece fresh w ≡ true in
    let h : begins_piece fresh (b ∷ rest) ≡ true = subst P ez begins in
    let eb' : bytes ≡ b ∷ take f.size rest = eb ∙ (ap (take (f.size + 1)) ez ∙ take_more f.size b rest) in
    let Q : Front → Type 0 = λ g. left (place (b ∷ rest) line_at column fresh text after_at before) ≡ front_piece g line_at column b rest ∷ left (place (drop g.size rest) line_at (column + (1 + g.size)) (is_dash g) text after_at (after before g.kind)) in
    let step : Q f = subst Q (sym ef) (left_cons line_at column after_at b fresh before rest text h) in
    ap (λ w. left (place w line_at column fresh text after_at before)) ez ∙ step
    ∙ ap (λ w. record { line = line_at; column = column; kind = f.kind; bytes = w } ∷ left (place (drop f.size rest) line_at (column + (1 + f.size)) (is_dash f) text after_at (after before f.kind))) (sym eb')
    ∙ ap (λ w. record { line = line_at; column = column; kind = f.kind; bytes = bytes } ∷ left (place w line_at (column + (1 + f.size)) (is_dash f) text after_at (after before f.kind))) (sym el)
    ∙ ap (λ w. record { line = line_at; column = column; kind = f.kind; bytes = bytes } ∷ left (place line line_at (column + (1 + f.size)) w text after_at (after before f.kind))) (sym ed)
    ∙ ap (λ w. record { line = line_at; column = column; kind = f.kind; bytes = bytes } ∷ left (place line line_at (column + (1 + f.size)) dash text after_at w)) (sym en)

-- blanks and a comment are passed
pub passed_less : (fresh : Bool) (z : List ℕ) → length (passed fresh z) ≤ length z
passed_less fresh [] = omega arith
passed_less fresh (b ∷ rest) =
    let P : List ℕ → Type 0 = λ w. length w ≤ length (b ∷ rest) in
    let blank : P (passed true rest) = omega (arith, passed_less true rest) in
    elim (is_blank b) as (λ t. P (cond t (passed true rest) (cond (b == byte "#" && fresh) [] (b ∷ rest)))) [
      | true ↦ blank
      | false ↦ elim (b == byte "#" && fresh) as (λ t. P (cond t [] (b ∷ rest))) [ true ↦ omega arith | false ↦ omega arith ]
    ]

or_true : (b : Bool) → (b || true) ≡ true
or_true true = refl
or_true false = refl

or_false : (b : Bool) → (b || false) ≡ b
or_false true = refl
or_false false = refl

cut_passed_by : (fresh : Bool) (before : Before) (at column b : ℕ) (rest : List ℕ) (t u : Bool) → is_blank b ≡ t → (b == byte "#" && fresh) ≡ u
    → ((n : ℕ) → cut zero true before at n rest ≡ cut zero true before at (n + (length rest - length (passed true rest))) (passed true rest))
    → cut zero fresh before at column (b ∷ rest)
    ≡ cut zero (fresh || is_blank b) before at (column + (suc (length rest) - length (passed fresh (b ∷ rest)))) (passed fresh (b ∷ rest))
cut_passed_by fresh before at column b rest true u et eu ih =
    let less : length (passed true rest) ≤ length rest = passed_less true rest in
    let e : column + 1 + (length rest - length (passed true rest)) ≡ column + (suc (length rest) - length (passed true rest)) = omega arith in
    let f : fresh || is_blank b ≡ true = ap (λ t. fresh || t) et ∙ or_true fresh in
    let rests : passed fresh (b ∷ rest) ≡ passed true rest = ap (λ t. cond t (passed true rest) (cond (b == byte "#" && fresh) [] (b ∷ rest))) et in
    let here : cut zero fresh before at column (b ∷ rest) ≡ cut zero true before at (column + 1) rest =
    ap (λ t. cond t (cut zero true before at (column + 1) rest) (cond (b == byte "#" && fresh) [] (front_piece (front before b rest) at column b rest ∷ cut (front before b rest).size (is_dash (front before b rest)) (after before (front before b rest).kind) at (column + 1) rest))) et in
    here ∙ ih (column + 1) ∙ ap (λ n. cut zero true before at n (passed true rest)) e
    ∙ ap (λ w. cut zero true before at (column + (suc (length rest) - length w)) w) (sym rests)
    ∙ ap (λ t. cut zero t before at (column + (suc (length rest) - length (passed fresh (b ∷ rest)))) (passed fresh (b ∷ rest))) (sym f)
cut_passed_by fresh before at column b rest false true et eu ih =
    let rests : passed fresh (b ∷ rest) ≡ [] = ap (λ t. cond t (passed true rest) (cond (b == byte "#" && fresh) [] (b ∷ rest))) et ∙ ap (λ u. cond u [] (b ∷ rest)) eu in
    let here : cut zero fresh before at column (b ∷ rest) ≡ [] =
    ap (λ t. cond t (cut zero true before at (column + 1) rest) (cond (b == byte "#" && fresh) [] (front_piece (front before b rest) at column b rest ∷ cut (front before b rest).size (is_dash (front before b rest)) (after before (front before b rest).kind) at (column + 1) rest))) et
    ∙ ap (λ u. cond u [] (front_piece (front before b rest) at column b rest ∷ cut (front before b rest).size (is_dash (front before b rest)) (after before (front before b rest).kind) at (column + 1) rest)) eu in
    here ∙ ap (λ w. cut zero (fresh || is_blank b) before at (column + (suc (length rest) - length w)) w) (sym rests)
cut_passed_by fresh before at column b rest false false et eu ih =
    let f : fresh || is_blank b ≡ fresh = ap (λ t. fresh || t) et ∙ or_false fresh in
    let rests : passed fresh (b ∷ rest) ≡ b ∷ rest = ap (λ t. cond t (passed true rest) (cond (b == byte "#" && fresh) [] (b ∷ rest))) et ∙ ap (λ u. cond u [] (b ∷ rest)) eu in
    let e : column ≡ column + (suc (length rest) - length (b ∷ rest)) = omega arith in
    ap (λ n. cut zero fresh before at n (b ∷ rest)) e
    ∙ ap (λ w. cut zero fresh before at (column + (suc (length rest) - length w)) w) (sym rests)
    ∙ ap (λ t. cut zero t before at (column + (suc (length rest) - length (passed fresh (b ∷ rest)))) (passed fresh (b ∷ rest))) (sym f)

cut_passed : (fresh : Bool) (before : Before) (at column : ℕ) (z : List ℕ)
    → cut zero fresh before at column z ≡ cut zero (fresh || begins is_blank z) before at (column + (length z - length (passed fresh z))) (passed fresh z)
cut_passed fresh before at column [] = refl
cut_passed fresh before at column (b ∷ rest) =
    cut_passed_by fresh before at column b rest (is_blank b) (b == byte "#" && fresh) refl refl (λ n. cut_passed true before at n rest)

pub left_passed : (line_at column after_at : ℕ) (fresh fresh' : Bool) (before : Before) (z rest text : List ℕ) → rest ≡ passed fresh z → fresh' ≡ (fresh || begins is_blank z)
    → left (place z line_at column fresh text after_at before) ≡ left (place rest line_at (column + (length z - length rest)) fresh' text after_at before)
unfolding left
left_passed line_at column after_at fresh fresh' before z rest text er ef =
    ap (λ here. continued before here (lines true after_at text))
    (cut_passed fresh before line_at column z
    ∙ ap (λ w. cut zero (fresh || begins is_blank z) before line_at (column + (length z - length w)) w) (sym er)
    ∙ ap (λ t. cut zero t before line_at (column + (length z - length rest)) rest) (sym ef))

-- and then a piece begins, or the line ends
abbrev ready : List ℕ → Bool → Type 0
ready w t = (w ≡ []) ⊎ (begins_piece t w ≡ true)

ready_by : (fresh : Bool) (b : ℕ) (rest : List ℕ) (t u : Bool) → is_blank b ≡ t → (b == byte "#" && fresh) ≡ u → ready (passed true rest) true
    → ready (passed fresh (b ∷ rest)) (fresh || is_blank b)
ready_by fresh b rest true u et eu ih =
    let f : fresh || is_blank b ≡ true = ap (λ t. fresh || t) et ∙ or_true fresh in
    let rests : passed fresh (b ∷ rest) ≡ passed true rest = ap (λ t. cond t (passed true rest) (cond (b == byte "#" && fresh) [] (b ∷ rest))) et in
    let P : List ℕ → Type 0 = λ w. ready w true in
    let Q : Bool → Type 0 = λ t. ready (passed fresh (b ∷ rest)) t in
    let h : P (passed fresh (b ∷ rest)) = subst P (sym rests) ih in
    subst Q (sym f) h
ready_by fresh b rest false true et eu ih =
    inl (ap (λ t. cond t (passed true rest) (cond (b == byte "#" && fresh) [] (b ∷ rest))) et ∙ ap (λ u. cond u [] (b ∷ rest)) eu)
ready_by fresh b rest false false et eu ih =
    let f : fresh || is_blank b ≡ fresh = ap (λ t. fresh || t) et ∙ or_false fresh in
    let rests : passed fresh (b ∷ rest) ≡ b ∷ rest = ap (λ t. cond t (passed true rest) (cond (b == byte "#" && fresh) [] (b ∷ rest))) et ∙ ap (λ u. cond u [] (b ∷ rest)) eu in
    let here : begins_piece fresh (b ∷ rest) ≡ true = ap (λ t. not t && not (b == byte "#" && fresh)) et ∙ ap not eu in
    let P : List ℕ → Type 0 = λ w. ready w fresh in
    let Q : Bool → Type 0 = λ t. ready (passed fresh (b ∷ rest)) t in
    let one : ready (b ∷ rest) fresh = inr here in
    let h : P (passed fresh (b ∷ rest)) = subst P (sym rests) one in
    subst Q (sym f) h

passed_ready : (fresh : Bool) (z : List ℕ) → ready (passed fresh z) (fresh || begins is_blank z)
passed_ready fresh [] = inl refl
passed_ready fresh (b ∷ rest) = ready_by fresh b rest (is_blank b) (b == byte "#" && fresh) refl refl (passed_ready true rest)

pub passed_begins : (fresh fresh' : Bool) (z rest : List ℕ) → rest ≡ passed fresh z → fresh' ≡ (fresh || begins is_blank z) → (rest ≡ []) ⊎ (begins_piece fresh' rest ≡ true)
passed_begins fresh fresh' z rest er ef =
    let P : List ℕ → Type 0 = λ w. ready w (fresh || begins is_blank z) in
    let Q : Bool → Type 0 = λ t. ready rest t in
    let h : P rest = subst P (sym er) (passed_ready fresh z) in
    subst Q (sym ef) h

-- lines
behind_less : (z : List ℕ) → length (behind_line z) ≤ length z
behind_less [] = omega arith
behind_less (b ∷ rest) =
    elim (b == 10) as (λ t. length (cond t rest (behind_line rest)) ≤ suc (length rest)) [ true ↦ omega arith | false ↦ omega (arith, behind_less rest) ]

line_ends_false : (b : ℕ) (rest : List ℕ) → line_ends b rest ≡ false → (b == 10) ≡ false
unfolding line_ends
line_ends_false b rest h =
    elim (b == 10) as (λ t. (t || (b == 13 && begins (λ c. c == 10) rest)) ≡ false → t ≡ false) [ true ↦ λ q. q | false ↦ λ q. refl ] h

line_fits_by : (b : ℕ) (rest : List ℕ) (t : Bool) → line_ends b rest ≡ t → line_size rest + length (behind_line rest) ≤ length rest → line_size (b ∷ rest) + length (behind_line (b ∷ rest)) ≤ suc (length rest)
line_fits_by b rest true et ih =
    let e : line_size (b ∷ rest) ≡ 0 = ap (λ t. cond t 0 (1 + line_size rest)) et in
    let h : length (behind_line (b ∷ rest)) ≤ suc (length rest) = behind_less (b ∷ rest) in
    omega arith
line_fits_by b rest false et ih =
    let e : line_size (b ∷ rest) ≡ 1 + line_size rest = ap (λ t. cond t 0 (1 + line_size rest)) et in
    let h : length (behind_line (b ∷ rest)) ≡ length (behind_line rest) = ap (λ t. length (cond t rest (behind_line rest))) (line_ends_false b rest et) in
    omega arith

line_fits : (z : List ℕ) → line_size z + length (behind_line z) ≤ length z
line_fits [] = omega arith
line_fits (b ∷ rest) = line_fits_by b rest (line_ends b rest) refl (line_fits rest)

pub line_behind : (z rest : List ℕ) (n : ℕ) → rest ≡ behind_line z → n ≡ line_size z → n + length rest ≤ length z
line_behind z rest n er en =
    let h : line_size z + length (behind_line z) ≤ length z = line_fits z in
    let e : length rest ≡ length (behind_line z) = ap length er in
    omega arith

lines_false : (at : ℕ) (z : List ℕ) → lines false at z ≡ lines true (at + (length z - length (behind_line z))) (behind_line z)
lines_false at [] = refl
lines_false at (b ∷ rest) =
    let less : length (behind_line rest) ≤ length rest = behind_less rest in
    let one : at + 1 ≡ at + (suc (length rest) - length rest) = omega arith in
    let more : at + 1 + (length rest - length (behind_line rest)) ≡ at + (suc (length rest) - length (behind_line rest)) = omega arith in
    let skip : lines false (at + 1) rest ≡ lines true (at + (suc (length rest) - length (behind_line rest))) (behind_line rest) =
    lines_false (at + 1) rest ∙ ap (λ n. lines true n (behind_line rest)) more in
    elim (b == 10) as (λ t. lines t (at + 1) rest ≡ lines true (at + (suc (length rest) - length (cond t rest (behind_line rest)))) (cond t rest (behind_line rest)))
    [ true ↦ ap (λ n. lines true n rest) one | false ↦ skip ]

lines_true : (at : ℕ) (z : List ℕ) → 0 < length z → lines true at z ≡ record { at = at; bytes = line z } ∷ lines true (at + (length z - length (behind_line z))) (behind_line z)
lines_true at [] h = absurd (omega arith)
lines_true at (b ∷ rest) h = ap (λ w. record { at = at; bytes = line (b ∷ rest) } ∷ w) (lines_false at (b ∷ rest))

-- a line is opened
opens : (k : Class) (before : Before) (l : Line) (ls : List Line)
    → (option_to_list (opening k before l) ++ cut zero true before l.at 0 (content k l.bytes)) ++ pieces (after_all before (option_to_list (opening k before l) ++ cut zero true before l.at 0 (content k l.bytes))) ls
    ≡ option_to_list (opening k before l) ++ continued (opened k before) (cut zero true (opened k before) l.at 0 (content k l.bytes)) ls
opens Begins before l ls = refl
opens Skipped before l ls = refl
opens OutsideLine before l ls = refl
opens Ends before l ls = refl
opens Body before l ls =
    elim (in_flow before) as (λ t. (option_to_list (cond t None (Some (indentation Indent l))) ++ cut zero true before l.at 0 l.bytes) ++ pieces (after_all before (option_to_list (cond t None (Some (indentation Indent l))) ++ cut zero true before l.at 0 l.bytes)) ls
    ≡ option_to_list (cond t None (Some (indentation Indent l))) ++ continued before (cut zero true before l.at 0 l.bytes) ls) [ true ↦ refl | false ↦ refl ]

pub left_open : (line_at column after_at : ℕ) (fresh : Bool) (before next : Before) (z line' cut' text rest : List ℕ) (k : Class) (o : Option PieceRecord)
    → z ≡ [] → 0 < length text → line' ≡ line text → rest ≡ behind_line text → k ≡ class_of before line' → o ≡ opening k before (record { at = after_at; bytes = line' })
    → cut' ≡ content k line' → next ≡ opened k before
    → left (place z line_at column fresh text after_at before)
    ≡ option_to_list o ++ left (place cut' after_at 0 true rest (after_at + (length text - length rest)) next)
unfolding left
left_open line_at column after_at fresh before next z line' cut' text rest k o ez some el er ek eo ec en =
    let l : Line = record { at = after_at; bytes = line' } in
    let ls = lines true (after_at + (length text - length rest)) rest in
    let texts : lines true after_at text ≡ l ∷ ls =
    lines_true after_at text some ∙ ap (λ w. record { at = after_at; bytes = w } ∷ lines true (after_at + (length text - length (behind_line text))) (behind_line text)) (sym el)
    ∙ ap (λ w. l ∷ lines true (after_at + (length text - length w)) w) (sym er) in
    ap (λ w. continued before (cut zero fresh before line_at column w) (lines true after_at text)) ez
    ∙ ap (λ w. pieces before w) texts
    ∙ ap (λ k. (option_to_list (opening k before l) ++ cut zero true before after_at 0 (content k line')) ++ pieces (after_all before (option_to_list (opening k before l) ++ cut zero true before after_at 0 (content k line'))) ls) (sym ek)
    ∙ opens k before l ls
    ∙ ap (λ w. option_to_list w ++ continued (opened k before) (cut zero true (opened k before) after_at 0 (content k line')) ls) (sym eo)
    ∙ ap (λ w. option_to_list o ++ continued (opened k before) (cut zero true (opened k before) after_at 0 w) ls) (sym ec)
    ∙ ap (λ w. option_to_list o ++ continued w (cut zero true w after_at 0 cut') ls) (sym en)

pub opens_by : (o : Option PieceRecord) (old new : Place) → left old ≡ option_to_list o ++ left new → length new.after < length old.after
    → length new.line + length new.after ≤ length old.after → OpensLine o old new
opens_by None old new e less fits = (e, omega arith)
opens_by (Some p) old new e less fits = (e, omega arith)

-- what the cutter's methods leave, seen from the place before
pub skips : (line_at column after_at : ℕ) (fresh fresh' : Bool) (before : Before) (z rest text : List ℕ) (old : Place) → place z line_at column fresh text after_at before ≡ old
    → rest ≡ passed fresh z → fresh' ≡ (fresh || begins is_blank z) → Skips old (place rest line_at (column + (length z - length rest)) fresh' text after_at before)
skips line_at column after_at fresh fresh' before z rest text old view er ef =
    let new = place rest line_at (column + (length z - length rest)) fresh' text after_at before in
    let P : Place → Type 0 = λ o. Skips o new in
    let less : length rest ≤ length z = omega (arith, ap length er, passed_less fresh z) in
    let here : P (place z line_at column fresh text after_at before) = record {
      same = left_passed line_at column after_at fresh fresh' before z rest text er ef;
      work_left = omega arith;
      begins = passed_begins fresh fresh' z rest er ef;
    } in
    subst P view here

pub takes : (line_at column after_at b : ℕ) (fresh dash : Bool) (before next : Before) (z bytes line rest text : List ℕ) (f : Front) (piece : PieceRecord) (old : Place)
    → place z line_at column fresh text after_at before ≡ old → old.line ≡ b ∷ rest → begins_piece old.fresh old.line ≡ true
    → f ≡ front before b rest → bytes ≡ take (f.size + 1) z → line ≡ drop f.size rest → dash ≡ is_dash f → next ≡ after before f.kind
    → piece ≡ record { line = line_at; column = column; kind = f.kind; bytes = bytes }
    → Cuts (Some piece) old (place line line_at (column + (1 + f.size)) dash text after_at next)
takes line_at column after_at b fresh dash before next z bytes line rest text f piece old view ez begins ef eb el ed en ep =
    let new = place line line_at (column + (1 + f.size)) dash text after_at next in
    let P : Place → Type 0 = λ o. o.line ≡ b ∷ rest → begins_piece o.fresh o.line ≡ true → (left o ≡ piece ∷ left new) × (work new < work o) in
    let here : P (place z line_at column fresh text after_at before) = λ e h.
    let long : length z ≡ suc (length rest) = ap length e in
    let short : length line ≤ length rest = omega (arith, ap length el, length-drop f.size rest) in
    (left_take line_at column after_at b fresh dash before next z bytes line rest text f e h ef eb el ed en ∙ ap (λ p. p ∷ left new) (sym ep), omega arith) in
    subst P view here ez begins

pub line_opened : (line_at column after_at n : ℕ) (fresh : Bool) (before next : Before) (z line' cut' text rest : List ℕ) (k : Class) (o : Option PieceRecord) (old : Place)
    → place z line_at column fresh text after_at before ≡ old → old.line ≡ [] → 0 < length old.after
    → n ≡ line_size text → line' ≡ take n text → length line' ≡ n → rest ≡ behind_line text → (0 < length text → length rest < length text)
    → k ≡ class_of before line' → o ≡ opening k before (record { at = after_at; bytes = line' }) → cut' ≡ content k line' → length cut' ≤ length line' → next ≡ opened k before
    → OpensLine o old (place cut' after_at 0 true rest (after_at + (length text - length rest)) next)
line_opened line_at column after_at n fresh before next z line' cut' text rest k o old view ez some esize el elen er less ek eo ec within en =
    let new = place cut' after_at 0 true rest (after_at + (length text - length rest)) next in
    let P : Place → Type 0 = λ p. p.line ≡ [] → 0 < length p.after → OpensLine o p new in
    let fits : n + length rest ≤ length text = line_behind text rest n er esize in
    let whole : line' ≡ line text = el ∙ ap (λ m. take m text) esize in
    let here : P (place z line_at column fresh text after_at before) = λ e h.
    opens_by o (place z line_at column fresh text after_at before) new
    (left_open line_at column after_at fresh before next z line' cut' text rest k o e h whole er ek eo ec en) (less h) (omega arith) in
    subst P view here ez some

-- nothing is left at the text's end
pub left_end : (p : Place) → p.line ≡ [] → p.after ≡ [] → left p ≡ []
unfolding left
left_end p line rest =
    ap (λ z. continued p.before (cut zero p.fresh p.before p.line_at p.column z) (lines true p.after_at p.after)) line
    ∙ ap (λ z. pieces p.before (lines true p.after_at z)) rest

nil_of_length : (z : List ℕ) → (length z == 0) ≡ true → z ≡ []
nil_of_length [] h = refl
nil_of_length (b ∷ rest) h =
    let e : (suc (length rest) == 0) ≡ false = grind (arith, nat_tests) in
    let q : false ≡ true = sym e ∙ h in cc

pub left_none : (first here new view : Place) (empty : Bool) → left first ≡ left here → left here ≡ left new → new.line ≡ [] → view ≡ new
    → empty ≡ (length view.after == 0) → empty ≡ true → left first ≡ []
left_none first here new view empty same cuts line is test holds =
    let none : view.after ≡ [] = nil_of_length view.after (sym test ∙ holds) in
    same ∙ cuts ∙ left_end new line (ap (λ p. p.after) (sym is) ∙ none)
