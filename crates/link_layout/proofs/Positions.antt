-- The positions that are counted are those of the output sections.
use Rattle.std.proofs.Common.{◌≡◌, ℕ, ◌+◌, List, [], ◌∷◌, ◌++◌, length, refl, ap, sym, ◌∙◌, arith, Bool, true, false}
use Rattle.std.specs.Prelude.{if◌then◌else◌}
use Rattle.std.proofs.lemmas.List.{length-append, length-map}
use Rattle.link_core.specs.declared.output.OutClass.{OutClass}
use Rattle.link_core.specs.declared.output.OutClass.TheVariants as classes
use Rattle.link_core.specs.Contents.{executed_contents, outputs_in, read_contents, written_contents}
use Rattle.link_core.specs.OutputNames.{Output, same_class}
use Rattle.link_core.specs.Planned.{Planned}
use Rattle.link_tables.specs.declared.section.Section.{Section}
use Rattle.link_tables.specs.Counts.{counts_of}
use Rattle.link_tables.specs.Filled.{outputs_filled}
use Rattle.link_tables.specs.Sections.{code_tables, read_tables, shown, written_tables}
use Rattle.link_places.specs.Segments.{sections_in, segments_of}
use Rattle.link_positions.specs.declared.next.Next.{Next}
use Rattle.link_positions.specs.Next as positions
use Rattle.link_positions.specs.Next.{at, behind, position}
use Rattle.link_layout.proofs.Found.{first_of, of_class, rt, wt, xt}
use Rattle.link_layout.proofs.Segments.{code_is, outputs_shown, read_is, segments_by, thread_is, written_is, zeros_is}

abbrev pub one_if : Bool → ℕ
one_if there = if there then 1 else 0

stepped : (n k : ℕ) → n ≡ position k → position (n + 1) ≡ position (k + 1)
stepped n k e = omega (arith, e)

kept : (n k : ℕ) → n ≡ position k → n ≡ position (k + 0)
kept n k e = omega (arith, e)

pub behind_at : (next : Next) (d c : OutClass) (k : ℕ) → at next c ≡ position k → at (behind next d) c ≡ position (k + one_if (same_class d c))
behind_at next classes.R classes.R k e = stepped next.read k e
behind_at next classes.R classes.X k e = kept next.code k e
behind_at next classes.R classes.W k e = kept next.written k e
behind_at next classes.R classes.T k e = kept next.thread k e
behind_at next classes.R classes.Z k e = kept next.zeros k e
behind_at next classes.R classes.B k e = kept next.blank k e
behind_at next classes.X classes.R k e = kept next.read k e
behind_at next classes.X classes.X k e = stepped next.code k e
behind_at next classes.X classes.W k e = kept next.written k e
behind_at next classes.X classes.T k e = kept next.thread k e
behind_at next classes.X classes.Z k e = kept next.zeros k e
behind_at next classes.X classes.B k e = kept next.blank k e
behind_at next classes.W classes.R k e = kept next.read k e
behind_at next classes.W classes.X k e = kept next.code k e
behind_at next classes.W classes.W k e = stepped next.written k e
behind_at next classes.W classes.T k e = kept next.thread k e
behind_at next classes.W classes.Z k e = kept next.zeros k e
behind_at next classes.W classes.B k e = kept next.blank k e
behind_at next classes.T classes.R k e = kept next.read k e
behind_at next classes.T classes.X k e = kept next.code k e
behind_at next classes.T classes.W k e = kept next.written k e
behind_at next classes.T classes.T k e = stepped next.thread k e
behind_at next classes.T classes.Z k e = kept next.zeros k e
behind_at next classes.T classes.B k e = kept next.blank k e
behind_at next classes.Z classes.R k e = kept next.read k e
behind_at next classes.Z classes.X k e = kept next.code k e
behind_at next classes.Z classes.W k e = kept next.written k e
behind_at next classes.Z classes.T k e = kept next.thread k e
behind_at next classes.Z classes.Z k e = stepped next.zeros k e
behind_at next classes.Z classes.B k e = kept next.blank k e
behind_at next classes.B classes.R k e = kept next.read k e
behind_at next classes.B classes.X k e = kept next.code k e
behind_at next classes.B classes.W k e = kept next.written k e
behind_at next classes.B classes.T k e = kept next.thread k e
behind_at next classes.B classes.Z k e = kept next.zeros k e
behind_at next classes.B classes.B k e = stepped next.blank k e

counted : (b : Bool) (o : Output) → length (if b then o ∷ [] else []) ≡ one_if b
counted true o = refl
counted false o = refl

pub count_behind : (class : OutClass) (before : List Output) (o : Output) → length (of_class class (before ++ o ∷ [])) ≡ length (of_class class before) + one_if (same_class o.class class)
count_behind class [] o = counted (same_class o.class class) o ∙ zero_first (one_if (same_class o.class class))
  where
    zero_first : (n : ℕ) → n ≡ 0 + n
    zero_first n = omega arith
count_behind class (q ∷ before) o = by_front (same_class q.class class) (count_behind class before o)
  where
    by_front :
        (b : Bool) → length (of_class class (before ++ o ∷ [])) ≡ length (of_class class before) + one_if (same_class o.class class)
        → length (if b then q ∷ of_class class (before ++ o ∷ []) else of_class class (before ++ o ∷ []))
        ≡ length (if b then q ∷ of_class class before else of_class class before) + one_if (same_class o.class class)
    by_front true e = omega (arith, e)
    by_front false e = e

-- ---- how long the parts are

length_shown : (j : Planned) (class : OutClass) → length (sections_in class (outputs_filled j)) ≡ length (outputs_in class j)
length_shown j class = ap (λ (xs : List Section). length xs) (outputs_shown j class) ∙ length-map (outputs_in class j) shown

length_read : (j : Planned) → length (segments_by j).read ≡ length (rt j) + length (outputs_in classes.R j)
unfolding read_contents
length_read j =
    ap (λ (xs : List Section). length xs) (read_is j) ∙ length-map (rt j ++ outputs_in classes.R j) shown ∙ length-append (rt j) (outputs_in classes.R j)

length_code : (j : Planned) → length (segments_by j).code ≡ length (xt j) + length (outputs_in classes.X j)
unfolding executed_contents
length_code j =
    ap (λ (xs : List Section). length xs) (code_is j) ∙ length-map (xt j ++ outputs_in classes.X j) shown ∙ length-append (xt j) (outputs_in classes.X j)

length_thread : (j : Planned) → length (segments_by j).thread ≡ length (outputs_in classes.T j)
length_thread j = ap (λ (xs : List Section). length xs) (thread_is j) ∙ length-map (outputs_in classes.T j) shown

length_zeros : (j : Planned) → length (segments_by j).zeros ≡ length (outputs_in classes.Z j)
length_zeros j = ap (λ (xs : List Section). length xs) (zeros_is j) ∙ length-map (outputs_in classes.Z j) shown

length_written : (j : Planned) → length (segments_by j).written ≡ length (wt j) + length (outputs_in classes.W j) + length (outputs_in classes.B j)
unfolding written_contents
length_written j =
    let all = length-append (wt j ++ outputs_in classes.W j) (outputs_in classes.B j) in
    let front = length-append (wt j) (outputs_in classes.W j) in
    let shown_all = ap (λ (xs : List Section). length xs) (written_is j) ∙ length-map (wt j ++ outputs_in classes.W j ++ outputs_in classes.B j) shown in
    shown_all ∙ all ∙ ap (λ (n : ℕ). n + length (outputs_in classes.B j)) front

-- the tables are as many as are counted
read_own : (j : Planned) → (segments_by j).read_tables ≡ length (rt j)
unfolding segments_of
read_own j =
    let all : length (read_tables (counts_of j) ++ sections_in classes.R (outputs_filled j)) ≡ length (rt j) + length (outputs_in classes.R j) = length_read j in
    omega (arith, all, length-append (read_tables (counts_of j)) (sections_in classes.R (outputs_filled j)), length_shown j classes.R)

code_own : (j : Planned) → (segments_by j).code_tables ≡ length (xt j)
unfolding segments_of
code_own j =
    let all : length (code_tables (counts_of j) ++ sections_in classes.X (outputs_filled j)) ≡ length (xt j) + length (outputs_in classes.X j) = length_code j in
    omega (arith, all, length-append (code_tables (counts_of j)) (sections_in classes.X (outputs_filled j)), length_shown j classes.X)

written_own : (j : Planned) → (segments_by j).written_tables ≡ length (wt j)
unfolding segments_of
written_own j =
    let w = sections_in classes.W (outputs_filled j) in
    let b = sections_in classes.B (outputs_filled j) in
    let own = written_tables (counts_of j) in
    let all : length (own ++ w ++ b) ≡ length (wt j) + length (outputs_in classes.W j) + length (outputs_in classes.B j) = length_written j in
    omega (arith, all, length-append (own ++ w) b, length-append own w, length_shown j classes.W, length_shown j classes.B)

zeros_own : (j : Planned) → (segments_by j).first_zeros ≡ length (wt j) + length (outputs_in classes.W j)
unfolding segments_of
zeros_own j =
    let own : length (written_tables (counts_of j)) ≡ length (wt j) = written_own j in
    omega (arith, own, length-append (written_tables (counts_of j)) (sections_in classes.W (outputs_filled j)), length_shown j classes.W)

-- ---- the first positions

front_length : (j : Planned) → length ((rt j ++ outputs_in classes.R j) ++ (xt j ++ outputs_in classes.X j)) ≡ length (segments_by j).read + length (segments_by j).code
front_length j =
    omega (
      arith,
      length-append (rt j ++ outputs_in classes.R j) (xt j ++ outputs_in classes.X j),
      length-append (rt j) (outputs_in classes.R j),
      length-append (xt j) (outputs_in classes.X j),
      length_read j,
      length_code j,
    )

zeros_length : (j : Planned) → length ((rt j ++ outputs_in classes.R j) ++ (xt j ++ outputs_in classes.X j) ++ outputs_in classes.T j ++ outputs_in classes.Z j) ≡ length (segments_by j).read + length (segments_by j).code + length (segments_by j).thread + length (segments_by j).zeros
zeros_length j =
    let f = (rt j ++ outputs_in classes.R j) ++ (xt j ++ outputs_in classes.X j) in
    omega (arith, length-append (f ++ outputs_in classes.T j) (outputs_in classes.Z j), length-append f (outputs_in classes.T j), front_length j, length_thread j, length_zeros j)

pub first_at : (j : Planned) (class : OutClass) → at (positions.first_of (segments_by j)) class ≡ position (length (first_of class j))
unfolding positions.first_of
first_at j classes.R = ap position (read_own j)
first_at j classes.X =
    let n : length (segments_by j).read + (segments_by j).code_tables ≡ length ((rt j ++ outputs_in classes.R j) ++ xt j) =
    omega (arith, length_read j, code_own j, length-append (rt j ++ outputs_in classes.R j) (xt j), length-append (rt j) (outputs_in classes.R j))
    in
    ap position n
first_at j classes.T = ap position (sym (front_length j))
first_at j classes.Z =
    let f = (rt j ++ outputs_in classes.R j) ++ (xt j ++ outputs_in classes.X j) in
    let n : length (segments_by j).read + length (segments_by j).code + length (segments_by j).thread ≡ length (f ++ outputs_in classes.T j) =
    omega (arith, front_length j, length-append f (outputs_in classes.T j), length_thread j)
    in
    ap position n
first_at j classes.W =
    let f = (rt j ++ outputs_in classes.R j) ++ (xt j ++ outputs_in classes.X j) ++ outputs_in classes.T j ++ outputs_in classes.Z j in
    let s = segments_by j in
    let n : length s.read + length s.code + length s.thread + length s.zeros + s.written_tables ≡ length (f ++ wt j) =
    omega (arith, zeros_length j, length-append f (wt j), written_own j)
    in
    ap position n
first_at j classes.B =
    let f = (rt j ++ outputs_in classes.R j) ++ (xt j ++ outputs_in classes.X j) ++ outputs_in classes.T j ++ outputs_in classes.Z j in
    let s = segments_by j in
    let n : length s.read + length s.code + length s.thread + length s.zeros + s.first_zeros ≡ length (f ++ (wt j ++ outputs_in classes.W j)) =
    omega (arith, zeros_length j, length-append f (wt j ++ outputs_in classes.W j), length-append (wt j) (outputs_in classes.W j), zeros_own j)
    in
    ap position n
