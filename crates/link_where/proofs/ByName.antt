-- The section of the first output section of a name.
use Rattle.std.proofs.lemmas.Bool.{true≢false}
use Rattle.std.proofs.Common.{◌≡◌, ℕ, ◌+◌, ◌<◌, Bool, true, false, cond, List, [], ◌∷◌, ◌++◌, length, map, suc, refl, sym, ap, ◌∙◌, arith, slice_get, take, Option, Some, None}
use Rattle.std.specs.List.{position_or_len}
use Rattle.std.specs.Prelude.{filter, find, nat_lt, not, option_and_then}
use Rattle.std.proofs.lemmas.List.{length-append, length-map, map-append}
use Rattle.ifs_interface.specs.Triple.{same_name}
use Rattle.link_core.specs.declared.layout.Layout.{Layout}
use Rattle.link_core.specs.declared.layout.OutSection.{OutSection}
use Rattle.link_core.specs.declared.options.OutKind.{OutKind}
use Rattle.link_core.specs.declared.output.OutClass.{OutClass}
use Rattle.link_core.specs.declared.output.OutClass.TheVariants as classes
use Rattle.link_core.specs.declared.plan.Plan.{Plan}
use Rattle.link_core.specs.Commons.{outputs_by}
use Rattle.link_core.specs.Contents.{has_plt, outputs_in}
use Rattle.link_core.specs.Entries.{rela_dyn_count}
use Rattle.link_core.specs.Layout.{output_position}
use Rattle.link_core.specs.OutputNames.{Output, same_class}
use Rattle.link_core.specs.Places.{named_section}
use Rattle.link_core.specs.Planned.{Planned}
use Rattle.link_core.specs.Slots.{word_count}
use Rattle.link_tables.specs.declared.output.FilledOutput.{FilledOutput}
use Rattle.link_tables.specs.Filled.{filled, outputs_filled}
use Rattle.link_layout.proofs.Found.{code_own, first_of, of_class, position_at, read_own, rt, written_own, wt, xt}
use Rattle.link_where.specs.declared.tables.There.{There}
use Rattle.link_where.specs.Named.{code_tables, count_of, outputs_ahead, place_of, read_tables, section_by, tables_ahead}
use Rattle.link_where.specs.Tables.{IsOf, count_if, is_program}

-- ---- the first that passes a test, by its place

record At {X : Type 0} (first : Option X) (xs : List X) (n : ℕ) : Type 0 where
  before : List X
  it : X
  rest : List X
  found : first ≡ Some it
  split : xs ≡ before ++ it ∷ rest
  place : length before ≡ n

first_step :
    {X : Type 0} (b : Bool) (x : X) (xs : List X) (first : Option X) (n len : ℕ)
    → cond (not b) (1 + n) 0 < suc len → (n < len → At first xs n) → At (cond b (Some x) first) (x ∷ xs) (cond (not b) (1 + n) 0)
first_step true x xs first n len within next = record { before = []; it = x; rest = xs; found = refl; split = refl; place = refl }
first_step false x xs first n len within next =
    let at = next (omega (arith, within)) in
    let place = at.place in
    record { before = x ∷ at.before; it = at.it; rest = at.rest; found = at.found; split = ap (λ ys. x ∷ ys) at.split; place = omega (arith, place) }

some_less : (len : ℕ) → nat_lt 0 (suc len) ≡ true
some_less len = grind (arith)

one_down : (n len : ℕ) → nat_lt (1 + n) (suc len) ≡ false → nat_lt n len ≡ false
one_down n len e = grind (arith, e)

none_step : {X : Type 0} (b : Bool) (x : X) (first : Option X) (n len : ℕ) → nat_lt (cond (not b) (1 + n) 0) (suc len) ≡ false → (nat_lt n len ≡ false → first ≡ None) → cond b (Some x) first ≡ None
none_step true x first n len past next = absurd (true≢false (sym (some_less len) ∙ past))
none_step false x first n len past next = next (one_down n len past)

module _ {X Y : Type 0} (f : X → Y) (q : Y → Bool) where
  first_at : (xs : List X) → position_or_len q (map f xs) < length (map f xs) → At (find (λ x. q (f x)) xs) xs (position_or_len q (map f xs))
  first_at [] within = absurd (omega (arith, within))
  first_at (x ∷ xs) within =
      first_step (q (f x)) x xs (find (λ y. q (f y)) xs) (position_or_len q (map f xs)) (length (map f xs)) within (first_at xs)

  no_first : (xs : List X) → nat_lt (position_or_len q (map f xs)) (length (map f xs)) ≡ false → find (λ x. q (f x)) xs ≡ None
  no_first [] past = refl
  no_first (x ∷ xs) past =
      none_step (q (f x)) x (find (λ y. q (f y)) xs) (position_or_len q (map f xs)) (length (map f xs)) past (no_first xs)

get_behind : {X : Type 0} (before : List X) (x : X) (rest : List X) → slice_get (before ++ x ∷ rest) (length before) ≡ Some x
get_behind [] x rest = refl
get_behind (b ∷ before) x rest = get_behind before x rest

take_before : {X : Type 0} (before rest : List X) → take (length before) (before ++ rest) ≡ before
take_before [] rest = refl
take_before (b ∷ before) rest = ap (λ xs. b ∷ xs) (take_before before rest)

-- ---- how many stand ahead

count_step : {X Y : Type 0} (b : Bool) (x : X) (y : Y) (xs : List X) (ys : List Y) → length xs ≡ length ys → length (cond b (x ∷ xs) xs) ≡ length (cond b (y ∷ ys) ys)
count_step true x y xs ys e = ap suc e
count_step false x y xs ys e = e

counted : (j : Planned) (class : OutClass) (os : List Output) → count_of class (map (filled j) os) ≡ length (of_class class os)
unfolding filled
counted j class [] = refl
counted j class (o ∷ os) =
    count_step (same_class o.class class) (filled j o) o (filter (λ q. same_class q.class class) (map (filled j) os)) (of_class class os) (counted j class os)

all_counted : (j : Planned) (class : OutClass) → length (outputs_in class j) ≡ count_of class (outputs_filled j)
unfolding outputs_in
all_counted j class = length-map (of_class class (outputs_by j)) _ ∙ sym (counted j class (outputs_by j))

abbrev there_of : Planned → There
there_of j = record { program = is_program j.options.kind; moves = nat_lt 0 (rela_dyn_count j); calls = has_plt j; words = nat_lt 0 (word_count j) }

read_count : (j : Planned) (p m c w : Bool) → length (read_own p m c j) ≡ read_tables (record { program = p; moves = m; calls = c; words = w })
read_count j true true true w = refl
read_count j true true false w = refl
read_count j true false true w = refl
read_count j true false false w = refl
read_count j false true true w = refl
read_count j false true false w = refl
read_count j false false true w = refl
read_count j false false false w = refl

code_count : (j : Planned) (c : Bool) → length (code_own c j) ≡ count_if c
code_count j true = refl
code_count j false = refl

written_count : (j : Planned) (w : Bool) → length (written_own w j) ≡ 2 + count_if w
written_count j true = refl
written_count j false = refl

module _ (j : Planned) where
  abbrev r : ℕ
  r = read_tables (there_of j)

  abbrev n : OutClass → ℕ
  n class = count_of class (outputs_filled j)

  in_read : length (rt j) ≡ read_tables (there_of j)
  in_read = read_count j (is_program j.options.kind) (nat_lt 0 (rela_dyn_count j)) (has_plt j) (nat_lt 0 (word_count j))

  in_code : length (xt j) ≡ count_if (has_plt j)
  in_code = code_count j (has_plt j)

  in_written : length (wt j) ≡ 2 + count_if (nat_lt 0 (word_count j))
  in_written = written_count j (nat_lt 0 (word_count j))

  read_all : length (rt j ++ outputs_in classes.R j) ≡ read_tables (there_of j) + n classes.R
  read_all = let e = length-append (rt j) (outputs_in classes.R j) in let a = in_read in let b = all_counted j classes.R in omega (arith, e, a, b)

  front_all : length ((rt j ++ outputs_in classes.R j) ++ (xt j ++ outputs_in classes.X j)) ≡ code_tables (there_of j) + (n classes.R + n classes.X)
  front_all =
      let e = length-append (rt j ++ outputs_in classes.R j) (xt j ++ outputs_in classes.X j) in
      let x = length-append (xt j) (outputs_in classes.X j) in
      let a = read_all in
      let b = in_code in
      let c = all_counted j classes.X in
      omega (arith, e, x, a, b, c)

  thread_all : length ((rt j ++ outputs_in classes.R j) ++ (xt j ++ outputs_in classes.X j) ++ outputs_in classes.T j) ≡ code_tables (there_of j) + (n classes.R + n classes.X + n classes.T)
  thread_all =
      let e = length-append ((rt j ++ outputs_in classes.R j) ++ (xt j ++ outputs_in classes.X j)) (outputs_in classes.T j) in
      let a = front_all in
      let c = all_counted j classes.T in
      omega (arith, e, a, c)

  zeros_all : length ((rt j ++ outputs_in classes.R j) ++ (xt j ++ outputs_in classes.X j) ++ outputs_in classes.T j ++ outputs_in classes.Z j) ≡ code_tables (there_of j) + (n classes.R + n classes.X + n classes.T + n classes.Z)
  zeros_all =
      let e = length-append ((rt j ++ outputs_in classes.R j) ++ (xt j ++ outputs_in classes.X j) ++ outputs_in classes.T j) (outputs_in classes.Z j) in
      let a = thread_all in
      let c = all_counted j classes.Z in
      omega (arith, e, a, c)

  ahead : (class : OutClass) → tables_ahead class (there_of j) + outputs_ahead class (outputs_filled j) ≡ length (first_of class j)
  ahead classes.R = let a = in_read in omega (arith, a)
  ahead classes.X =
      let e = length-append (rt j ++ outputs_in classes.R j) (xt j) in
      let a = read_all in
      let b = in_code in
      omega (arith, e, a, b)
  ahead classes.T = sym front_all
  ahead classes.Z = sym thread_all
  ahead classes.W =
      let e = length-append ((rt j ++ outputs_in classes.R j) ++ (xt j ++ outputs_in classes.X j) ++ outputs_in classes.T j ++ outputs_in classes.Z j) (wt j) in
      let a = zeros_all in
      let b = in_written in
      omega (arith, e, a, b)
  ahead classes.B =
      let e = length-append ((rt j ++ outputs_in classes.R j) ++ (xt j ++ outputs_in classes.X j) ++ outputs_in classes.T j ++ outputs_in classes.Z j) (wt j ++ outputs_in classes.W j) in
      let w = length-append (wt j) (outputs_in classes.W j) in
      let a = zeros_all in
      let b = in_written in
      let c = all_counted j classes.W in
      omega (arith, e, w, a, b, c)

  placed : (before rest : List Output) (o : Output) → outputs_by j ≡ before ++ o ∷ rest
      → place_of (there_of j) o.class (outputs_filled j) (map (filled j) before) ≡ output_position j o
  unfolding place_of
  placed before rest o split =
      let here : output_position j o ≡ length (first_of o.class j) + length (of_class o.class before) = position_at j before rest o split in
      let a = ahead o.class in
      let b = counted j o.class before in
      omega (arith, here, a, b)

  -- ---- the section

  abbrev chosen : List OutSection → Option FilledOutput → List FilledOutput → Option OutSection
  chosen sections output before = option_and_then (λ o. slice_get sections (place_of (there_of j) o.class (outputs_filled j) before)) output

  class_kept : (o : Output) (fs : List FilledOutput) → place_of (there_of j) (filled j o).class (outputs_filled j) fs ≡ place_of (there_of j) o.class (outputs_filled j) fs
  unfolding filled
  class_kept o fs = refl

  there_found : (sections : List OutSection) (k : ℕ) (first : Option Output) → At first (outputs_by j) k
      → chosen sections (slice_get (outputs_filled j) k) (take k (outputs_filled j)) ≡ option_and_then (λ o. slice_get sections (output_position j o)) first
  there_found sections k first at =
      let fs = map (filled j) at.before in
      let all : outputs_filled j ≡ fs ++ filled j at.it ∷ map (filled j) at.rest = ap (map (filled j)) at.split ∙ map-append (filled j) at.before (at.it ∷ at.rest) in
      let long : k ≡ length fs = sym at.place ∙ sym (length-map at.before (filled j)) in
      let get : slice_get (outputs_filled j) k ≡ Some (filled j at.it) =
      (λ i. slice_get (all i) (long i)) ∙ get_behind fs (filled j at.it) (map (filled j) at.rest) in
      let front : take k (outputs_filled j) ≡ fs = (λ i. take (long i) (all i)) ∙ take_before fs (filled j at.it ∷ map (filled j) at.rest) in
      (λ i. chosen sections (get i) (front i))
      ∙ ap (λ p. slice_get sections p) (class_kept at.it fs ∙ placed at.before at.rest at.it at.split)
      ∙ ap (λ o. option_and_then (λ o. slice_get sections (output_position j o)) o) (sym at.found)

  abbrev named : List ℕ → FilledOutput → Bool
  named name o = same_name o.name name

  abbrev k_of : List ℕ → ℕ
  k_of name = position_or_len (named name) (outputs_filled j)

  is_below : (a b : ℕ) → nat_lt a b ≡ true → a < b
  is_below a b e = grind (arith, e)

  by_place : (name : List ℕ) (sections : List OutSection) (within : Bool) → nat_lt (k_of name) (length (outputs_filled j)) ≡ within
      → option_and_then (λ at. chosen sections (slice_get (outputs_filled j) at) (take at (outputs_filled j))) (cond within (Some (k_of name)) None)
      ≡ option_and_then (λ o. slice_get sections (output_position j o)) (find (λ o. same_name (filled j o).name name) (outputs_by j))
  by_place name sections true e =
      there_found sections (k_of name) (find (λ o. same_name (filled j o).name name) (outputs_by j))
      (first_at (filled j) (named name) (outputs_by j) (is_below (k_of name) (length (outputs_filled j)) e))
  by_place name sections false e =
      ap (λ o. option_and_then (λ o. slice_get sections (output_position j o)) o) (sym (no_first (filled j) (named name) (outputs_by j) e))

  pub found : (l : Layout) (name : List ℕ) → section_by (there_of j) (outputs_filled j) l.sections name ≡ named_section j l name
  unfolding section_by named_section filled
  found l name = by_place name l.sections (nat_lt (k_of name) (length (outputs_filled j))) refl

-- with what calls gave
pub given : (kind : OutKind) (p : Plan) (moves words program : Bool) (l : Layout) (outputs : List FilledOutput) (sections : List OutSection) (plt : List ℕ) (name : List ℕ) (result : Option OutSection)
    → sections ≡ l.sections → plt ≡ p.plt → program ≡ is_program kind
    → result ≡ section_by (record { program = program; moves = moves; calls = nat_lt 0 (length plt); words = words }) outputs sections name
    → (j : Planned) → IsOf j kind p moves words l → outputs ≡ outputs_filled j → result ≡ named_section j l name
given kind p moves words program l outputs sections plt name result sections_is plt_is program_is result_is j is outputs_is =
    result_is
    ∙ (λ i. section_by (record { program = program_is i; moves = moves; calls = nat_lt 0 (length (plt_is i)); words = words }) (outputs_is i) (sections_is i) name)
    ∙ (λ i. section_by (record { program = is_program (sym is.kind_is i); moves = sym is.moves_are i; calls = nat_lt 0 (length (sym is.plan_is i).plt); words = sym is.words_are i }) (outputs_filled j) l.sections name)
    ∙ found j l name
