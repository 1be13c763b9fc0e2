-- The tables among the sections of a layout.
use Rattle.std.proofs.Common.{◌≡◌, ℕ, ◌+◌, Bool, true, false, cond, List, [], ◌∷◌, ◌++◌, length, map, zip, suc, refl, sym, ap, ◌∙◌, arith, append_assoc, Ok, ◌≤◌, position, unwrap_or, Some, None}
use Rattle.std.specs.List.{list_any, position_or_len}
use Rattle.std.specs.Prelude.{codes, filter, if◌then◌else◌, nat_le, nat_lt, not, ◌||◌}
use Rattle.std.proofs.lemmas.List.Sums.{prefix_len-le-length}
use Rattle.ifs_bytes.specs.Outcome.{check, ◌>>=◌}
use Rattle.link_core.specs.declared.layout.Layout.{Layout}
use Rattle.link_core.specs.declared.layout.OutSection.{OutSection}
use Rattle.link_core.specs.declared.output.OutClass.{OutClass}
use Rattle.link_core.specs.declared.output.OutClass.TheVariants as classes
use Rattle.link_core.specs.declared.options.OutKind.{OutKind}
use Rattle.link_core.specs.declared.plan.Plan.{Plan}
use Rattle.link_core.specs.declared.refusal.LinkRefusal.{LinkRefusal}
use Rattle.link_core.specs.declared.tables.TheConstants.{MOST_IMAGE_BYTES, MOST_OUTPUT_SECTIONS}
use Rattle.link_core.specs.Commons.{outputs_by}
use Rattle.link_core.specs.Contents.{Content, contents_of, output_flags, output_section, outputs_in, has_plt}
use Rattle.link_core.specs.Entries.{rela_dyn_count}
use Rattle.link_core.specs.Layout.{addresses_of, image_span, layout_by, layout_in, names_size, too_large}
use Rattle.link_core.specs.OutputNames.{Output, same_class}
use Rattle.link_core.specs.Places.{is_table, table_position}
use Rattle.link_core.specs.Planned.{Planned}
use Rattle.link_core.specs.Slots.{word_count}
use Rattle.link_layout.proofs.Found.{all_parts, code_own, read_own, written_own}
use Rattle.link_layout.proofs.Pieces.{lengths}
use Rattle.link_where.specs.declared.tables.TablePositions.{TablePositions}
use Rattle.link_where.specs.declared.tables.There.{There}
use Rattle.link_where.specs.Tables.{IsOf, at_if, count_if, is_code, is_data, is_program, positions, positions_by}

-- ---- lists that have none of some kind

abbrev IsFree : (Content → Bool) → List Content → Type 0
IsFree q cs = list_any q cs ≡ false

either : (a b : Bool) → a ≡ false → b ≡ false → (a || b) ≡ false
either a b none no_more = ap (λ (c : Bool). c || b) none ∙ no_more

parted : (a b : Bool) → (a || b) ≡ false → (a ≡ false) × (b ≡ false)
parted true b none = cc
parted false b none = (refl, none)

both : (q : Content → Bool) (xs ys : List Content) → IsFree q xs → IsFree q ys → IsFree q (xs ++ ys)
both q [] ys one other = other
both q (x ∷ xs) ys one other =
    let parts = parted (q x) (list_any q xs) one in
    either (q x) (list_any q (xs ++ ys)) parts.0 (both q xs ys parts.1 other)

skip_step : (b rest : Bool) (k len tail : ℕ) → (b || rest) ≡ false → (rest ≡ false → k ≡ len + tail) → cond (not b) (1 + k) 0 ≡ suc len + tail
skip_step true rest k len tail none next = cc
skip_step false rest k len tail none next = let e = next none in omega (arith, e)

skipped : (q : Content → Bool) (xs ys : List Content) → IsFree q xs → position_or_len q (xs ++ ys) ≡ length xs + position_or_len q ys
skipped q [] ys none = omega arith
skipped q (x ∷ xs) ys none = skip_step (q x) (list_any q xs) (position_or_len q (xs ++ ys)) (length xs) (position_or_len q ys) none (skipped q xs ys)

nowhere : (q : Content → Bool) (xs : List Content) → IsFree q xs → position_or_len q xs ≡ length xs
nowhere q [] none = refl
nowhere q (x ∷ xs) none = one (q x) (list_any q xs) (position_or_len q xs) (length xs) none (nowhere q xs)
  where
    one : (b rest : Bool) (k len : ℕ) → (b || rest) ≡ false → (rest ≡ false → k ≡ len) → cond (not b) (1 + k) 0 ≡ suc len
    one true rest k len free next = cc
    one false rest k len free next = let e = next free in omega (arith, e)

skip_front : (q : Content → Bool) (f x t z l : List Content) → IsFree q f → position_or_len q (f ++ x ++ t ++ z ++ l) ≡ length f + position_or_len q (x ++ t ++ z ++ l)
skip_front q f x t z l free =
    let e : f ++ x ++ t ++ z ++ l ≡ f ++ (x ++ t ++ z ++ l) = simp append_assoc in
    ap (position_or_len q) e ∙ skipped q f (x ++ t ++ z ++ l) free

-- ---- output sections are no tables, and their classes have flags of their own

outputs_plain : (j : Planned) (name : List ℕ) (os : List Output) → IsFree (is_table name) (map (output_section j) os)
unfolding output_section
outputs_plain j name [] = refl
outputs_plain j name (o ∷ os) = outputs_plain j name os

plain : (j : Planned) (name : List ℕ) (class : OutClass) → IsFree (is_table name) (outputs_in class j)
unfolding outputs_in
plain j name class = outputs_plain j name (filter (λ o. same_class o.class class) (outputs_by j))

module _ (j : Planned) (q : ℕ → Bool) (class : OutClass) (own : (c : OutClass) (executed : Bool) → same_class c class ≡ true → q (output_flags c executed) ≡ false) where
  flag_step : (o : Output) (os : List Output) (t : Bool) → same_class o.class class ≡ t → IsFree (λ c. q c.flags) (map (output_section j) os)
      → IsFree (λ c. q c.flags) (map (output_section j) (if t then o ∷ os else os))
  unfolding output_section
  flag_step o os true same rest = either _ (list_any (λ c. q c.flags) (map (output_section j) os)) (own o.class _ same) rest
  flag_step o os false same rest = rest

  outputs_apart : (os : List Output) → IsFree (λ c. q c.flags) (map (output_section j) (filter (λ o. same_class o.class class) os))
  outputs_apart [] = refl
  outputs_apart (o ∷ os) = flag_step o (filter (λ o. same_class o.class class) os) (same_class o.class class) refl (outputs_apart os)

  apart : IsFree (λ c. q c.flags) (outputs_in class j)
  unfolding outputs_in
  apart = outputs_apart (outputs_by j)

no_code : (c : OutClass) (executed : Bool) → same_class c classes.R ≡ true → is_code (output_flags c executed) ≡ false
no_code classes.R executed same = refl
no_code classes.X executed same = cc
no_code classes.W executed same = cc
no_code classes.T executed same = cc
no_code classes.Z executed same = cc
no_code classes.B executed same = cc

no_data_r : (c : OutClass) (executed : Bool) → same_class c classes.R ≡ true → is_data (output_flags c executed) ≡ false
no_data_r classes.R executed same = refl
no_data_r classes.X executed same = cc
no_data_r classes.W executed same = cc
no_data_r classes.T executed same = cc
no_data_r classes.Z executed same = cc
no_data_r classes.B executed same = cc

no_data_x : (c : OutClass) (executed : Bool) → same_class c classes.X ≡ true → is_data (output_flags c executed) ≡ false
no_data_x classes.R executed same = cc
no_data_x classes.X executed same = refl
no_data_x classes.W executed same = cc
no_data_x classes.T executed same = cc
no_data_x classes.Z executed same = cc
no_data_x classes.B executed same = cc

no_data_t : (c : OutClass) (executed : Bool) → same_class c classes.T ≡ true → is_data (output_flags c executed) ≡ false
no_data_t classes.R executed same = cc
no_data_t classes.X executed same = cc
no_data_t classes.W executed same = cc
no_data_t classes.T executed same = refl
no_data_t classes.Z executed same = cc
no_data_t classes.B executed same = cc

no_data_z : (c : OutClass) (executed : Bool) → same_class c classes.Z ≡ true → is_data (output_flags c executed) ≡ false
no_data_z classes.R executed same = cc
no_data_z classes.X executed same = cc
no_data_z classes.W executed same = cc
no_data_z classes.T executed same = cc
no_data_z classes.Z executed same = refl
no_data_z classes.B executed same = cc

-- ---- the parts of all sections

abbrev whole : Planned → Bool → Bool → Bool → Bool → List Content
whole j p m c w =
    (read_own p m c j ++ outputs_in classes.R j)
    ++ (code_own c j ++ outputs_in classes.X j) ++ outputs_in classes.T j ++ outputs_in classes.Z j
    ++ (written_own w j ++ outputs_in classes.W j ++ outputs_in classes.B j)

module _ (j : Planned) (p m c w : Bool) where
  abbrev front : List Content
  front = read_own p m c j ++ outputs_in classes.R j

  abbrev middle : List Content
  middle = code_own c j ++ outputs_in classes.X j

  abbrev last : List Content
  last = written_own w j ++ outputs_in classes.W j ++ outputs_in classes.B j

  abbrev before : List Content
  before = front ++ middle ++ outputs_in classes.T j ++ outputs_in classes.Z j

  -- where what is written starts
  abbrev start : ℕ → ℕ
  start k = length before + k

  free_before : (q : Content → Bool) → IsFree q front → IsFree q middle → IsFree q (outputs_in classes.T j) → IsFree q (outputs_in classes.Z j) → IsFree q before
  free_before q f x t z =
      both q (front ++ middle ++ outputs_in classes.T j) (outputs_in classes.Z j)
      (both q (front ++ middle) (outputs_in classes.T j) (both q front middle f x) t) z

  in_last : (q : Content → Bool) (k : ℕ) → IsFree q front → IsFree q middle → IsFree q (outputs_in classes.T j) → IsFree q (outputs_in classes.Z j)
      → position_or_len q last ≡ k → position_or_len q (whole j p m c w) ≡ start k
  in_last q k f x t z e = skipped q before last (free_before q f x t z) ∙ ap (λ n. length before + n) e

  gone : (name : List ℕ) → IsFree (is_table name) (read_own p m c j) → IsFree (is_table name) (code_own c j) → IsFree (is_table name) (written_own w j)
      → position_or_len (is_table name) (whole j p m c w) ≡ length (whole j p m c w)
  gone name r x t =
      let q = is_table name in
      let f = both q (read_own p m c j) (outputs_in classes.R j) r (plain j name classes.R) in
      let g = both q (code_own c j) (outputs_in classes.X j) x (plain j name classes.X) in
      let h = both q (written_own w j ++ outputs_in classes.W j) (outputs_in classes.B j) (both q (written_own w j) (outputs_in classes.W j) t (plain j name classes.W)) (plain j name classes.B) in
      nowhere q (whole j p m c w) (both q before last (free_before q f g (plain j name classes.T) (plain j name classes.Z)) h)

  at_last : (name : List ℕ) (k : ℕ) → IsFree (is_table name) (read_own p m c j) → IsFree (is_table name) (code_own c j) → position_or_len (is_table name) last ≡ k
      → position_or_len (is_table name) (whole j p m c w) ≡ start k
  at_last name k r x e =
      let q = is_table name in
      in_last q k (both q (read_own p m c j) (outputs_in classes.R j) r (plain j name classes.R))
      (both q (code_own c j) (outputs_in classes.X j) x (plain j name classes.X)) (plain j name classes.T) (plain j name classes.Z) e

-- ---- the tables of each part

interp_r : (m c : Bool) (j : Planned) → IsFree (is_table (codes ".interp")) (read_own false m c j)
interp_r true true j = refl
interp_r true false j = refl
interp_r false true j = refl
interp_r false false j = refl

interp_x : (c : Bool) (j : Planned) → IsFree (is_table (codes ".interp")) (code_own c j)
interp_x true j = refl
interp_x false j = refl

interp_w : (w : Bool) (j : Planned) → IsFree (is_table (codes ".interp")) (written_own w j)
interp_w true j = refl
interp_w false j = refl

moves_r : (p c : Bool) (j : Planned) → IsFree (is_table (codes ".rela.dyn")) (read_own p false c j)
moves_r true true j = refl
moves_r true false j = refl
moves_r false true j = refl
moves_r false false j = refl

moves_x : (c : Bool) (j : Planned) → IsFree (is_table (codes ".rela.dyn")) (code_own c j)
moves_x true j = refl
moves_x false j = refl

moves_w : (w : Bool) (j : Planned) → IsFree (is_table (codes ".rela.dyn")) (written_own w j)
moves_w true j = refl
moves_w false j = refl

calls_r : (p m : Bool) (j : Planned) → IsFree (is_table (codes ".rela.plt")) (read_own p m false j)
calls_r true true j = refl
calls_r true false j = refl
calls_r false true j = refl
calls_r false false j = refl

calls_w : (w : Bool) (j : Planned) → IsFree (is_table (codes ".rela.plt")) (written_own w j)
calls_w true j = refl
calls_w false j = refl

plt_r : (p m c : Bool) (j : Planned) → IsFree (is_table (codes ".plt")) (read_own p m c j)
plt_r true true true j = refl
plt_r true true false j = refl
plt_r true false true j = refl
plt_r true false false j = refl
plt_r false true true j = refl
plt_r false true false j = refl
plt_r false false true j = refl
plt_r false false false j = refl

plt_w : (w : Bool) (j : Planned) → IsFree (is_table (codes ".plt")) (written_own w j)
plt_w true j = refl
plt_w false j = refl

dynamic_r : (p m c : Bool) (j : Planned) → IsFree (is_table (codes ".dynamic")) (read_own p m c j)
dynamic_r true true true j = refl
dynamic_r true true false j = refl
dynamic_r true false true j = refl
dynamic_r true false false j = refl
dynamic_r false true true j = refl
dynamic_r false true false j = refl
dynamic_r false false true j = refl
dynamic_r false false false j = refl

dynamic_x : (c : Bool) (j : Planned) → IsFree (is_table (codes ".dynamic")) (code_own c j)
dynamic_x true j = refl
dynamic_x false j = refl

got_r : (p m c : Bool) (j : Planned) → IsFree (is_table (codes ".got")) (read_own p m c j)
got_r true true true j = refl
got_r true true false j = refl
got_r true false true j = refl
got_r true false false j = refl
got_r false true true j = refl
got_r false true false j = refl
got_r false false true j = refl
got_r false false false j = refl

got_x : (c : Bool) (j : Planned) → IsFree (is_table (codes ".got")) (code_own c j)
got_x true j = refl
got_x false j = refl

slots_r : (p m c : Bool) (j : Planned) → IsFree (is_table (codes ".got.plt")) (read_own p m c j)
slots_r true true true j = refl
slots_r true true false j = refl
slots_r true false true j = refl
slots_r true false false j = refl
slots_r false true true j = refl
slots_r false true false j = refl
slots_r false false true j = refl
slots_r false false false j = refl

slots_x : (c : Bool) (j : Planned) → IsFree (is_table (codes ".got.plt")) (code_own c j)
slots_x true j = refl
slots_x false j = refl

-- ---- each table

module _ (j : Planned) where
  abbrev at : List ℕ → Bool → Bool → Bool → Bool → ℕ
  at name p m c w = position_or_len (is_table name) (whole j p m c w)

  interp_at : (p m c w : Bool) → at_if p 0 (length (whole j p m c w)) ≡ at (codes ".interp") p m c w
  interp_at true m c w = refl
  interp_at false m c w = sym (gone j false m c w (codes ".interp") (interp_r m c j) (interp_x c j) (interp_w w j))

  dynsym_at : (p m c w : Bool) → count_if p ≡ at (codes ".dynsym") p m c w
  dynsym_at true m c w = refl
  dynsym_at false m c w = refl

  dynstr_at : (p m c w : Bool) → count_if p + 1 ≡ at (codes ".dynstr") p m c w
  dynstr_at true m c w = refl
  dynstr_at false m c w = refl

  hash_at : (p m c w : Bool) → count_if p + 2 ≡ at (codes ".hash") p m c w
  hash_at true m c w = refl
  hash_at false m c w = refl

  moves_at : (p m c w : Bool) → at_if m (count_if p + 3) (length (whole j p m c w)) ≡ at (codes ".rela.dyn") p m c w
  moves_at true true c w = refl
  moves_at false true c w = refl
  moves_at p false c w = sym (gone j p false c w (codes ".rela.dyn") (moves_r p c j) (moves_x c j) (moves_w w j))

  calls_at : (p m c w : Bool) → at_if c (count_if p + 3 + count_if m) (length (whole j p m c w)) ≡ at (codes ".rela.plt") p m c w
  calls_at true true true w = refl
  calls_at true false true w = refl
  calls_at false true true w = refl
  calls_at false false true w = refl
  calls_at p m false w = sym (gone j p m false w (codes ".rela.plt") (calls_r p m j) refl (calls_w w j))

  -- the first section of code is .plt
  front_code : (p m c : Bool) → IsFree (λ s. is_code s.flags) (read_own p m c j ++ outputs_in classes.R j)
  front_code p m c = both (λ s. is_code s.flags) (read_own p m c j) (outputs_in classes.R j) (tables_code p m c) (apart j is_code classes.R no_code)
    where
      tables_code : (p m c : Bool) → IsFree (λ s. is_code s.flags) (read_own p m c j)
      tables_code true true true = refl
      tables_code true true false = refl
      tables_code true false true = refl
      tables_code true false false = refl
      tables_code false true true = refl
      tables_code false true false = refl
      tables_code false false true = refl
      tables_code false false false = refl

  front_plt : (p m c : Bool) → IsFree (is_table (codes ".plt")) (read_own p m c j ++ outputs_in classes.R j)
  front_plt p m c = both (is_table (codes ".plt")) (read_own p m c j) (outputs_in classes.R j) (plt_r p m c j) (plain j (codes ".plt") classes.R)

  plt_at : (p m c w : Bool) → at_if c (position_or_len (λ s. is_code s.flags) (whole j p m c w)) (length (whole j p m c w)) ≡ at (codes ".plt") p m c w
  plt_at p m true w =
      let ahead = front j p m true w in
      let mid = middle j p m true w in
      let end = last j p m true w in
      skip_front (λ s. is_code s.flags) ahead mid (outputs_in classes.T j) (outputs_in classes.Z j) end (front_code p m true)
      ∙ sym (skip_front (is_table (codes ".plt")) ahead mid (outputs_in classes.T j) (outputs_in classes.Z j) end (front_plt p m true))
  plt_at p m false w = sym (gone j p m false w (codes ".plt") (plt_r p m false j) refl (plt_w w j))

  -- the first section of data is .dynamic
  abbrev written : Bool → Bool → Bool → Bool → ℕ
  written p m c w = position_or_len (λ s. is_data s.flags) (whole j p m c w)

  read_data : (p m c : Bool) → IsFree (λ s. is_data s.flags) (read_own p m c j)
  read_data true true true = refl
  read_data true true false = refl
  read_data true false true = refl
  read_data true false false = refl
  read_data false true true = refl
  read_data false true false = refl
  read_data false false true = refl
  read_data false false false = refl

  code_data : (c : Bool) → IsFree (λ s. is_data s.flags) (code_own c j)
  code_data true = refl
  code_data false = refl

  written_is : (p m c w : Bool) → written p m c w ≡ start j p m c w 0
  written_is p m c w =
      let q : Content → Bool = λ s. is_data s.flags in
      in_last j p m c w q 0 (both q (read_own p m c j) (outputs_in classes.R j) (read_data p m c) (apart j is_data classes.R no_data_r))
      (both q (code_own c j) (outputs_in classes.X j) (code_data c) (apart j is_data classes.X no_data_x))
      (apart j is_data classes.T no_data_t) (apart j is_data classes.Z no_data_z) refl

  dynamic_at : (p m c w : Bool) → written p m c w ≡ at (codes ".dynamic") p m c w
  dynamic_at p m c w = written_is p m c w ∙ sym (at_last j p m c w (codes ".dynamic") 0 (dynamic_r p m c j) (dynamic_x c j) refl)

  start_and : (p m c w : Bool) (k : ℕ) → written p m c w + k ≡ start j p m c w k
  start_and p m c w k = let e = written_is p m c w in omega (arith, e)

  got_at : (p m c w : Bool) → at_if w (written p m c w + 1) (length (whole j p m c w)) ≡ at (codes ".got") p m c w
  got_at p m c true = start_and p m c true 1 ∙ sym (at_last j p m c true (codes ".got") 1 (got_r p m c j) (got_x c j) refl)
  got_at p m c false = sym (gone j p m c false (codes ".got") (got_r p m c j) (got_x c j) refl)

  one_and : (n : ℕ) → n + 1 + 1 ≡ n + 2
  one_and n = omega arith

  and_none : (n : ℕ) → n + 1 + 0 ≡ n + 1
  and_none n = omega arith

  slots_at : (p m c w : Bool) → written p m c w + 1 + count_if w ≡ at (codes ".got.plt") p m c w
  slots_at p m c true =
      one_and (written p m c true) ∙ start_and p m c true 2 ∙ sym (at_last j p m c true (codes ".got.plt") 2 (slots_r p m c j) (slots_x c j) refl)
  slots_at p m c false =
      and_none (written p m c false) ∙ start_and p m c false 1 ∙ sym (at_last j p m c false (codes ".got.plt") 1 (slots_r p m c j) (slots_x c j) refl)

  by_all : (p m c w : Bool) → positions_by (record { program = p; moves = m; calls = c; words = w }) (length (whole j p m c w)) (position_or_len (λ s. is_code s.flags) (whole j p m c w)) (written p m c w)
      ≡ record {
        interp = at (codes ".interp") p m c w;
        dynsym = at (codes ".dynsym") p m c w;
        dynstr = at (codes ".dynstr") p m c w;
        hash = at (codes ".hash") p m c w;
        rela_dyn = at (codes ".rela.dyn") p m c w;
        rela_plt = at (codes ".rela.plt") p m c w;
        plt = at (codes ".plt") p m c w;
        dynamic = at (codes ".dynamic") p m c w;
        got = at (codes ".got") p m c w;
        got_plt = at (codes ".got.plt") p m c w;
      }
  unfolding positions_by
  by_all p m c w = λ i. record {
    interp = interp_at p m c w i;
    dynsym = dynsym_at p m c w i;
    dynstr = dynstr_at p m c w i;
    hash = hash_at p m c w i;
    rela_dyn = moves_at p m c w i;
    rela_plt = calls_at p m c w i;
    plt = plt_at p m c w i;
    dynamic = dynamic_at p m c w i;
    got = got_at p m c w i;
    got_plt = slots_at p m c w i;
  }

  -- by the contents of the link
  abbrev there : There
  there = record { program = is_program j.options.kind; moves = nat_lt 0 (rela_dyn_count j); calls = has_plt j; words = nat_lt 0 (word_count j) }

  by_contents : (cs : List Content) → contents_of j ≡ cs
      → cs ≡ whole j (is_program j.options.kind) (nat_lt 0 (rela_dyn_count j)) (has_plt j) (nat_lt 0 (word_count j))
      → positions_by there (length cs) (position_or_len (λ s. is_code s.flags) cs) (position_or_len (λ s. is_data s.flags) cs) ≡ positions j
  unfolding positions table_position
  by_contents cs is e =
      let P : List Content → TablePositions = λ xs. record {
        interp = position_or_len (is_table (codes ".interp")) xs;
        dynsym = position_or_len (is_table (codes ".dynsym")) xs;
        dynstr = position_or_len (is_table (codes ".dynstr")) xs;
        hash = position_or_len (is_table (codes ".hash")) xs;
        rela_dyn = position_or_len (is_table (codes ".rela.dyn")) xs;
        rela_plt = position_or_len (is_table (codes ".rela.plt")) xs;
        plt = position_or_len (is_table (codes ".plt")) xs;
        dynamic = position_or_len (is_table (codes ".dynamic")) xs;
        got = position_or_len (is_table (codes ".got")) xs;
        got_plt = position_or_len (is_table (codes ".got.plt")) xs;
      } in
      ap (λ xs. positions_by there (length xs) (position_or_len (λ s. is_code s.flags) xs) (position_or_len (λ s. is_data s.flags) xs)) e
      ∙ by_all (is_program j.options.kind) (nat_lt 0 (rela_dyn_count j)) (has_plt j) (nat_lt 0 (word_count j))
      ∙ ap P (sym e ∙ sym is)

-- ---- by the sections of a layout

pub place_within : {X : Type 0} (q : X → Bool) (xs : List X) → position_or_len q xs ≤ length xs
place_within q xs = prefix_len-le-length (λ x. not (q x)) xs

pub place_or_len : {X : Type 0} (q : X → Bool) (xs : List X) → unwrap_or (position q xs) (length xs) ≡ position_or_len q xs
place_or_len q xs = among (position_or_len q xs) (length xs) (place_within q xs)
  where
    among : (n l : ℕ) → n ≤ l → unwrap_or (cond (nat_lt n l) (Some n) None) l ≡ n
    among n l e = grind (arith)

abbrev section_of : Content × ℕ → OutSection
section_of placed = record { name = placed.0.name; kind = placed.0.kind; flags = placed.0.flags; address = placed.1; size = placed.0.size; align = placed.0.align }

abbrev sections_of : List Content → List ℕ → List OutSection
sections_of cs addresses = map section_of (zip cs addresses)

one_less : (m n : ℕ) → suc m ≡ suc n → m ≡ n
one_less m n e = omega (arith, e)

count_same : (cs : List Content) (ats : List ℕ) → length ats ≡ length cs → length (sections_of cs ats) ≡ length cs
count_same [] [] e = refl
count_same [] (a ∷ ats) e = refl
count_same (c ∷ cs) [] e = cc
count_same (c ∷ cs) (a ∷ ats) e = ap suc (count_same cs ats (one_less (length ats) (length cs) e))

place_same : (q : ℕ → Bool) (cs : List Content) (ats : List ℕ) → length ats ≡ length cs → position_or_len (λ s. q s.flags) (sections_of cs ats) ≡ position_or_len (λ c. q c.flags) cs
place_same q [] [] e = refl
place_same q [] (a ∷ ats) e = refl
place_same q (c ∷ cs) [] e = cc
place_same q (c ∷ cs) (a ∷ ats) e = ap (λ n. cond (not (q c.flags)) (1 + n) 0) (place_same q cs ats (one_less (length ats) (length cs) e))

checked : (a b c : Bool) (x y z : LinkRefusal) (k l : Layout) → (check a x >>= (λ _. check b y >>= (λ _. check c z >>= (λ _. Ok k)))) ≡ Ok l → k ≡ l
checked true true true x y z k l e = cc
checked false b c x y z k l e = cc
checked true false c x y z k l e = cc
checked true true false x y z k l e = cc

laid : (j : Planned) (l : Layout) → layout_in j ≡ Ok l → layout_by j ≡ l
unfolding layout_in
laid j l e =
    checked (nat_le (image_span j) MOST_IMAGE_BYTES) (nat_le (length (outputs_by j)) MOST_OUTPUT_SECTIONS) (nat_le (names_size j) MOST_IMAGE_BYTES)
    (too_large (image_span j)) (too_large (length (outputs_by j))) (too_large (names_size j)) (layout_by j) l e

sections_are : (j : Planned) (l : Layout) → layout_in j ≡ Ok l → l.sections ≡ sections_of (contents_of j) (addresses_of j)
unfolding layout_by
sections_are j l e = ap (λ (k : Layout). k.sections) (sym (laid j l e))

pub positions_are : (j : Planned) (kind : OutKind) (p : Plan) (moves words : Bool) (l : Layout) → IsOf j kind p moves words l
    → positions_by (record { program = is_program kind; moves = moves; calls = nat_lt 0 (length p.plt); words = words }) (length l.sections)
    (position_or_len (λ s. is_code s.flags) l.sections) (position_or_len (λ s. is_data s.flags) l.sections) ≡ positions j
positions_are j kind p moves words l is =
    let there_is : record { program = is_program kind; moves = moves; calls = nat_lt 0 (length p.plt); words = words } ≡ there j =
    λ i. record { program = is_program (sym is.kind_is i); moves = sym is.moves_are i; calls = nat_lt 0 (length (sym is.plan_is i).plt); words = sym is.words_are i } in
    let cs = contents_of j in
    let ats = addresses_of j in
    let e = sections_are j l is.layout_is in
    let long = lengths j in
    ap (λ t. positions_by t (length l.sections) (position_or_len (λ s. is_code s.flags) l.sections) (position_or_len (λ s. is_data s.flags) l.sections)) there_is
    ∙ ap (λ n. positions_by (there j) n (position_or_len (λ s. is_code s.flags) l.sections) (position_or_len (λ s. is_data s.flags) l.sections)) (ap length e ∙ count_same cs ats long)
    ∙ ap (λ n. positions_by (there j) (length cs) n (position_or_len (λ s. is_data s.flags) l.sections)) (ap (position_or_len (λ s. is_code s.flags)) e ∙ place_same is_code cs ats long)
    ∙ ap (λ n. positions_by (there j) (length cs) (position_or_len (λ c. is_code c.flags) cs) n) (ap (position_or_len (λ s. is_data s.flags)) e ∙ place_same is_data cs ats long)
    ∙ by_contents j cs refl (all_parts j)

-- with what calls gave
pub given : (kind : OutKind) (p : Plan) (moves words program : Bool) (l : Layout) (sections : List OutSection) (plt : List ℕ) (code written : ℕ) (t : TablePositions)
    → sections ≡ l.sections → plt ≡ p.plt → program ≡ is_program kind → code ≡ position_or_len (λ s. is_code s.flags) sections → written ≡ position_or_len (λ s. is_data s.flags) sections
    → t ≡ positions_by (record { program = program; moves = moves; calls = nat_lt 0 (length plt); words = words }) (length sections) code written
    → (j : Planned) → IsOf j kind p moves words l → t ≡ positions j
given kind p moves words program l sections plt code written t sections_is plt_is program_is code_is written_is t_is j is =
    t_is
    ∙ (λ i. positions_by (record { program = program_is i; moves = moves; calls = nat_lt 0 (length (plt_is i)); words = words }) (length (sections_is i)) (code_is i) (written_is i))
    ∙ (λ i. positions_by (record { program = is_program kind; moves = moves; calls = nat_lt 0 (length p.plt); words = words }) (length l.sections)
    (position_or_len (λ s. is_code s.flags) (sections_is i)) (position_or_len (λ s. is_data s.flags) (sections_is i)))
    ∙ positions_are j kind p moves words l is
