-- A piece that is written and executed stands in an output section that is.
use Rattle.std.proofs.Common.{◌≡◌, Bool, true, false, cond, ◌&&◌, ◌||◌, List, [], ◌∷◌, ◌++◌, map, refl, sym, ap, ◌∙◌}
use Rattle.std.specs.List.{AllByRecursion, list_any}
use Rattle.std.specs.Prelude.{filter}
use Rattle.std.proofs.lemmas.List.Folds.{list_any-append}
use Rattle.link_core.specs.Commons.{bss, commons_of, outputs_by}
use Rattle.link_core.specs.Headers.{is_written_class}
use Rattle.link_core.specs.OutputNames.{Output, Piece, by_priority, goes_before, is_executable, output_of, outputs_of, pieces_of, priority, put_by_priority, same_output}
use Rattle.link_core.specs.Planned.{Planned, pieces_in}
use Rattle.link_outputs.proofs.Once.{any_once}
use Rattle.link_outputs.proofs.Outputs.{same_output_is, same_output_itself}
use Rattle.link_tables.specs.Filled.{filled, outputs_filled}
use Rattle.link_segments.specs.Written.{is_executed_write}

abbrev executes : Piece → Bool
executes p = is_executable p.input

-- ---- tests

either : (t : Bool) → (t || true) ≡ true
either true = refl
either false = refl

swap : (a b c : Bool) → (a || (b || c)) ≡ (b || (a || c))
swap true true c = refl
swap true false c = refl
swap false b c = refl

-- ---- the order of pieces

module _ (q : Piece → Bool) where
  any_put : (p : Piece) (ps : List Piece) → list_any q (put_by_priority p ps) ≡ (q p || list_any q ps)
  any_put p [] = refl
  any_put p (o ∷ ps) = by (goes_before (priority o.input.name) (priority p.input.name)) (any_put p ps)
    where
      by : (t : Bool) → list_any q (put_by_priority p ps) ≡ (q p || list_any q ps)
          → list_any q (cond t (o ∷ put_by_priority p ps) (p ∷ o ∷ ps)) ≡ (q p || (q o || list_any q ps))
      by true rest = ap (λ b. q o || b) rest ∙ swap (q o) (q p) (list_any q ps)
      by false rest = refl

  any_ordered : (ps : List Piece) → list_any q (by_priority ps) ≡ list_any q ps
  any_ordered [] = refl
  any_ordered (p ∷ ps) = any_put p (by_priority ps) ∙ ap (λ b. q p || b) (any_ordered ps)

-- ---- pieces of an output section

module _ (o : Output) where
  -- a piece of it is executed
  abbrev is_of : Piece → Bool
  is_of p = same_output (output_of p) o && executes p

  any_of : (ps : List Piece) → list_any executes (filter (λ p. same_output (output_of p) o) ps) ≡ list_any is_of ps
  any_of [] = refl
  any_of (p ∷ ps) = by (same_output (output_of p) o) ∙ ap (λ b. (same_output (output_of p) o && executes p) || b) (any_of ps)
    where
      by : (t : Bool) → list_any executes (cond t (p ∷ filter (λ r. same_output (output_of r) o) ps) (filter (λ r. same_output (output_of r) o) ps))
          ≡ ((t && executes p) || list_any executes (filter (λ r. same_output (output_of r) o) ps))
      by true = refl
      by false = refl

  any_piece : (ps : List Piece) → list_any executes (pieces_of ps o) ≡ list_any is_of ps
  unfolding pieces_of
  any_piece ps = any_ordered executes (filter (λ p. same_output (output_of p) o) ps) ∙ any_of ps

-- ---- all output sections

-- a written piece that is executed
abbrev writes : Piece → Bool
writes p = is_executable p.input && is_written_class (output_of p).class

-- an output section that is written has one that is executed
abbrev has_executed : List Piece → Output → Bool
has_executed ps o = list_any (is_of o) ps && is_written_class o.class

none_has : (os : List Output) → list_any (has_executed []) os ≡ false
none_has [] = refl
none_has (o ∷ os) = none_has os

both_or : (a b w : Bool) → ((a || b) && w) ≡ ((a && w) || (b && w))
both_or true b true = refl
both_or true true false = refl
both_or true false false = refl
both_or false b w = refl

four : (a b c d : Bool) → ((a || b) || (c || d)) ≡ ((a || c) || (b || d))
four true b c d = refl
four false true true d = refl
four false true false d = refl
four false false true d = refl
four false false false d = refl

-- one piece more
one_has : (p : Piece) (ps : List Piece) (os : List Output) → list_any (has_executed (p ∷ ps)) os
    ≡ (list_any (λ o. is_of o p && is_written_class o.class) os || list_any (has_executed ps) os)
one_has p ps [] = refl
one_has p ps (o ∷ os) =
    ap (λ b. b || list_any (has_executed (p ∷ ps)) os) (both_or (is_of o p) (list_any (is_of o) ps) (is_written_class o.class))
    ∙ ap (λ b. ((is_of o p && is_written_class o.class) || has_executed ps o) || b) (one_has p ps os)
    ∙ four (is_of o p && is_written_class o.class) (has_executed ps o) (list_any (λ r. is_of r p && is_written_class r.class) os) (list_any (has_executed ps) os)

same_writes : (p : Piece) (o : Output) (t : Bool) → same_output (output_of p) o ≡ t → (is_of o p && is_written_class o.class) ≡ (same_output (output_of p) o && writes p)
same_writes p o true same =
    let is : output_of p ≡ o = same_output_is (output_of p) o same in
    ap (λ b. (b && executes p) && is_written_class o.class) same
    ∙ ap (λ (r : Output). executes p && is_written_class r.class) (sym is)
    ∙ sym (ap (λ b. b && writes p) same)
same_writes p o false same =
    ap (λ b. (b && executes p) && is_written_class o.class) same
    ∙ sym (ap (λ b. b && writes p) same)

or_and : (s r w : Bool) → ((s && w) || (r && w)) ≡ ((s || r) && w)
or_and s r w = sym (both_or s r w)

-- the piece is written and executed where its own output section is among them
own_writes : (p : Piece) (os : List Output) → list_any (λ o. is_of o p && is_written_class o.class) os ≡ (list_any (same_output (output_of p)) os && writes p)
own_writes p [] = refl
own_writes p (o ∷ os) =
    ap (λ b. b || list_any (λ (r : Output). is_of r p && is_written_class r.class) os) (same_writes p o (same_output (output_of p) o) refl)
    ∙ ap (λ b. (same_output (output_of p) o && writes p) || b) (own_writes p os)
    ∙ or_and (same_output (output_of p) o) (list_any (same_output (output_of p)) os) (writes p)

-- where the output section of each is among them
abbrev IsAmong : List Output → Piece → Type 0
IsAmong os p = list_any (same_output (output_of p)) os ≡ true

any_has : (os : List Output) (ps : List Piece) → AllByRecursion (IsAmong os) ps → list_any (has_executed ps) os ≡ list_any writes ps
any_has os [] all = none_has os
any_has os (p ∷ ps) all =
    one_has p ps os
    ∙ ap (λ b. b || list_any (has_executed ps) os) (own_writes p os ∙ ap (λ b. b && writes p) all.0)
    ∙ ap (λ b. writes p || b) (any_has os ps all.1)

-- ---- the output sections of a link have all pieces

more_among : (os : List Output) (o : Output) (ps : List Piece) → AllByRecursion (IsAmong os) ps → AllByRecursion (IsAmong (o ∷ os)) ps
more_among os o [] all = tt
more_among os o (p ∷ ps) all = (ap (λ b. same_output (output_of p) o || b) all.0 ∙ either (same_output (output_of p) o), more_among os o ps all.1)

all_among : (ps : List Piece) → AllByRecursion (IsAmong (map output_of ps)) ps
all_among [] = tt
all_among (p ∷ ps) = (
  ap (λ b. b || list_any (same_output (output_of p)) (map output_of ps)) (same_output_itself (output_of p)),
  more_among (map output_of ps) (output_of p) ps (all_among ps),
)

in_outputs : (j : Planned) (o : Output) (ps : List Piece) → list_any (same_output o) (map output_of (pieces_in j)) ≡ true → list_any (same_output o) (outputs_by j) ≡ true
unfolding outputs_by outputs_of
in_outputs j o ps there =
    any_once same_output same_output_is same_output_itself o (outputs_of (pieces_in j) ++ map (λ n. bss) (commons_of j))
    ∙ list_any-append (same_output o) (outputs_of (pieces_in j)) (map (λ n. bss) (commons_of j))
    ∙ ap (λ b. b || list_any (same_output o) (map (λ n. bss) (commons_of j)))
    (any_once same_output same_output_is same_output_itself o (map output_of (pieces_in j)) ∙ there)

outputs_have : (j : Planned) (ps : List Piece) → AllByRecursion (IsAmong (map output_of (pieces_in j))) ps → AllByRecursion (IsAmong (outputs_by j)) ps
outputs_have j [] all = tt
outputs_have j (p ∷ ps) all = (in_outputs j (output_of p) ps all.0, outputs_have j ps all.1)

-- ---- by what stands in them

by_filled : (j : Planned) (os : List Output) → list_any is_executed_write (map (filled j) os) ≡ list_any (has_executed (pieces_in j)) os
unfolding filled
by_filled j [] = refl
by_filled j (o ∷ os) =
    ap (λ b. (b && is_written_class o.class) || list_any is_executed_write (map (filled j) os)) (any_piece o (pieces_in j))
    ∙ ap (λ b. has_executed (pieces_in j) o || b) (by_filled j os)

pub writes_are :
    (j : Planned) → list_any is_executed_write (outputs_filled j)
    ≡ list_any (λ p. is_executable p.input && is_written_class (output_of p).class) (pieces_in j)
writes_are j =
    by_filled j (outputs_by j)
    ∙ any_has (outputs_by j) (pieces_in j) (outputs_have j (pieces_in j) (all_among (pieces_in j)))
