-- A table stands at one position alone, so its position tells which one it is.
use Rattle.std.proofs.Common.{◌≡◌, ◌≤◌, ◌+◌, ℕ, zero, suc, cond, Bool, true, false, not, List, [], ◌∷◌, ◌++◌, length, map, Option, Some, refl, sym, ap, ◌∙◌, subst, arith, eqb-true, eq-eqb}
use Rattle.std.specs.List.{AllByRecursion, position_or_len}
use Rattle.std.specs.Prelude.{codes, filter, nat_lt, slice_get, ◌==◌}
use Rattle.std.proofs.lemmas.Bool.{false≢true, false_from_ne_true}
use Rattle.std.proofs.lemmas.List.{length-append}
use Rattle.std.proofs.lemmas.List.Elements.{filter-append}
use Rattle.link_core.specs.declared.output.OutClass.{OutClass}
use Rattle.link_core.specs.declared.output.OutClass.TheVariants as classes
use Rattle.link_core.specs.Commons.{outputs_by}
use Rattle.link_core.specs.Contents.{Content, contents_of, dynamic_section, dynstr_section, dynsym_section, executed_contents, has_plt, hash_section, interp_section, output_section, outputs_in, plt_section, present, read_contents, rela_section, slots_section, written_contents}
use Rattle.link_core.specs.Entries.{dynamic_entries, rela_dyn_count}
use Rattle.link_core.specs.Exports.{is_shared}
use Rattle.link_core.specs.Headers.{linked}
use Rattle.link_core.specs.Layout.{count_if}
use Rattle.link_core.specs.OutputNames.{Output, same_class}
use Rattle.link_core.specs.Places.{is_table, table_position}
use Rattle.link_core.specs.Planned.{Planned}
use Rattle.link_core.specs.Slots.{word_count}
use Rattle.link_placed.specs.declared.table.Table.{Table}
use Rattle.link_where.specs.Tables.{positions}
use Rattle.link_sections.specs.Rows.{entry_size, info_of, linked_to, number_of, table_at, table_by}

-- ---- the position of what there is one of at most

module _ (q : Content → Bool) where
  here : (b : Bool) (x : Content) (rest : List Content) → b ≡ true → 1 ≤ length (cond b (x ∷ rest) rest)
  here true x rest e = omega arith
  here false x rest e = cc

  more : (b : Bool) (x : Content) (rest : List Content) → 1 ≤ length rest → 1 ≤ length (cond b (x ∷ rest) rest)
  more true x rest some = omega arith
  more false x rest some = some

  some_in : (cs : List Content) (i : ℕ) (c : Content) → slice_get cs i ≡ Some c → q c ≡ true → 1 ≤ length (filter q cs)
  some_in [] i c e t = cc
  some_in (x ∷ cs) zero c e t =
      let same : x ≡ c = cc in
      here (q x) x (filter q cs) (ap q same ∙ t)
  some_in (x ∷ cs) (suc i) c e t = more (q x) x (filter q cs) (some_in cs i c e t)

  at_front : (b : Bool) (k : ℕ) → b ≡ true → cond (not b) (1 + k) 0 ≡ 0
  at_front true k e = refl
  at_front false k e = cc

  behind : (b : Bool) (x : Content) (rest : List Content) (k i : ℕ) → length (cond b (x ∷ rest) rest) ≤ 1 → 1 ≤ length rest
      → (length rest ≤ 1 → k ≡ i) → cond (not b) (1 + k) 0 ≡ suc i
  behind true x rest k i few some next = absurd (omega (arith, few, some))
  behind false x rest k i few some next = let e = next few in omega (arith, e)

  unique : (cs : List Content) (i : ℕ) (c : Content) → length (filter q cs) ≤ 1 → slice_get cs i ≡ Some c → q c ≡ true
      → position_or_len q cs ≡ i
  unique [] i c few e t = cc
  unique (x ∷ cs) zero c few e t =
      let same : x ≡ c = cc in
      at_front (q x) (position_or_len q cs) (ap q same ∙ t)
  unique (x ∷ cs) (suc i) c few e t =
      behind (q x) x (filter q cs) (position_or_len q cs) i few (some_in cs i c e t)
      (λ rest_few. unique cs i c rest_few e t)

  first : (b : Bool) (k : ℕ) → 0 ≡ cond (not b) (1 + k) 0 → b ≡ true
  first true k at = refl
  first false k at = absurd (omega (arith, at))

  later : (b : Bool) (i k : ℕ) → suc i ≡ cond (not b) (1 + k) 0 → i ≡ k
  later true i k at = absurd (omega (arith, at))
  later false i k at = omega (arith, at)

  found : (cs : List Content) (i : ℕ) (c : Content) → slice_get cs i ≡ Some c → i ≡ position_or_len q cs → q c ≡ true
  found [] i c e at = cc
  found (x ∷ cs) zero c e at =
      let same : x ≡ c = cc in
      ap q (sym same) ∙ first (q x) (position_or_len q cs) at
  found (x ∷ cs) (suc i) c e at = found cs i c e (later (q x) i (position_or_len q cs) at)

  is_here : (cs : List Content) (i : ℕ) (c : Content) → length (filter q cs) ≤ 1 → slice_get cs i ≡ Some c
      → (i == position_or_len q cs) ≡ q c
  is_here cs i c few e = by (q c) refl
    where
      by : (t : Bool) → q c ≡ t → (i == position_or_len q cs) ≡ t
      by true t = eq-eqb i (position_or_len q cs) (sym (unique cs i c few e t))
      by false t =
          false_from_ne_true (i == position_or_len q cs)
          (λ h. false≢true (sym t ∙ found cs i c e (eqb-true i (position_or_len q cs) h)))

-- ---- there is one of each table at most

record AtMost (q : Content → Bool) (cs : List Content) (n : ℕ) : Type 0 where
  at_most : length (filter q cs) ≤ n

two : {q : Content → Bool} {xs ys : List Content} {m n : ℕ} → AtMost q xs m → AtMost q ys n → AtMost q (xs ++ ys) (m + n)
two {q} {xs} {ys} {m} {n} a b =
    let e = ap length (filter-append q xs ys) ∙ length-append (filter q xs) (filter q ys) in
    let one = a.at_most in
    let other = b.at_most in
    record { at_most = omega (arith, e, one, other) }

single : (b : Bool) (c : Content) → length (cond b (c ∷ []) []) ≤ count_if b
single true c = omega arith
single false c = omega arith

one : (q : Content → Bool) (b : Bool) (c : Content) → AtMost q (present b c) (count_if (q c))
one q true c = record { at_most = single (q c) c }
one q false c = record { at_most = omega arith }

no_outputs : (j : Planned) (name : List ℕ) (os : List Output) → length (filter (is_table name) (map (output_section j) os)) ≤ 0
unfolding output_section
no_outputs j name [] = omega arith
no_outputs j name (o ∷ os) = no_outputs j name os

none : (j : Planned) (name : List ℕ) (class : OutClass) → AtMost (is_table name) (outputs_in class j) 0
unfolding outputs_in
none j name class = record { at_most = no_outputs j name (filter (λ o. same_class o.class class) (outputs_by j)) }

module _ (j : Planned) (name : List ℕ) where
  abbrev counts : Content → ℕ
  counts c = count_if (is_table name c)

  abbrev read_counts : ℕ
  read_counts =
      counts (interp_section j) + counts (dynsym_section j.plan) + counts (dynstr_section j) + counts (hash_section j.plan)
      + counts (rela_section (codes ".rela.dyn") (rela_dyn_count j))
      + counts (rela_section (codes ".rela.plt") (length j.plan.plt))
      + 0

  abbrev code_counts : ℕ
  code_counts = counts (plt_section j.rules j.plan) + 0

  abbrev written_counts : ℕ
  written_counts =
      counts (dynamic_section (length (dynamic_entries j)))
      + counts (slots_section (codes ".got") (word_count j))
      + counts (slots_section (codes ".got.plt") (3 + length j.plan.plt))
      + 0
      + 0

  in_read : AtMost (is_table name) (read_contents j) read_counts
  unfolding read_contents
  in_read =
      let a = two (one (is_table name) (not (is_shared j.options.kind)) (interp_section j)) (one (is_table name) true (dynsym_section j.plan)) in
      let b = two a (one (is_table name) true (dynstr_section j)) in
      let c = two b (one (is_table name) true (hash_section j.plan)) in
      let d = two c (one (is_table name) (nat_lt 0 (rela_dyn_count j)) (rela_section (codes ".rela.dyn") (rela_dyn_count j))) in
      let e = two d (one (is_table name) (has_plt j) (rela_section (codes ".rela.plt") (length j.plan.plt))) in
      two e (none j name classes.R)

  in_code : AtMost (is_table name) (executed_contents j) code_counts
  unfolding executed_contents
  in_code = two (one (is_table name) (has_plt j) (plt_section j.rules j.plan)) (none j name classes.X)

  in_written : AtMost (is_table name) (written_contents j) written_counts
  unfolding written_contents
  in_written =
      let a = two (one (is_table name) true (dynamic_section (length (dynamic_entries j)))) (one (is_table name) (nat_lt 0 (word_count j)) (slots_section (codes ".got") (word_count j))) in
      let b = two a (one (is_table name) true (slots_section (codes ".got.plt") (3 + length j.plan.plt))) in
      let c = two b (none j name classes.W) in
      two c (none j name classes.B)

  counted : AtMost (is_table name) (contents_of j) (read_counts + code_counts + 0 + 0 + written_counts)
  unfolding contents_of
  counted =
      let a = two in_read in_code in
      let b = two a (none j name classes.T) in
      let c = two b (none j name classes.Z) in
      two c in_written

-- ---- the table that a content is

abbrev pub table_of : Content → Option Table
table_of c =
    table_by (is_table (codes ".interp") c) (is_table (codes ".dynsym") c) (is_table (codes ".dynstr") c)
    (is_table (codes ".hash") c) (is_table (codes ".rela.dyn") c) (is_table (codes ".rela.plt") c)
    (is_table (codes ".plt") c) (is_table (codes ".dynamic") c) (is_table (codes ".got") c)
    (is_table (codes ".got.plt") c)

pub table_is : (j : Planned) (i : ℕ) (c : Content) → slice_get (contents_of j) i ≡ Some c → table_at (positions j) i ≡ table_of c
unfolding positions table_position
table_is j i c e =
    let cs = contents_of j in
    let interp = is_here (is_table (codes ".interp")) cs i c (counted j (codes ".interp")).at_most e in
    let dynsym = is_here (is_table (codes ".dynsym")) cs i c (counted j (codes ".dynsym")).at_most e in
    let dynstr = is_here (is_table (codes ".dynstr")) cs i c (counted j (codes ".dynstr")).at_most e in
    let hash = is_here (is_table (codes ".hash")) cs i c (counted j (codes ".hash")).at_most e in
    let moves = is_here (is_table (codes ".rela.dyn")) cs i c (counted j (codes ".rela.dyn")).at_most e in
    let calls = is_here (is_table (codes ".rela.plt")) cs i c (counted j (codes ".rela.plt")).at_most e in
    let plt = is_here (is_table (codes ".plt")) cs i c (counted j (codes ".plt")).at_most e in
    let dynamic = is_here (is_table (codes ".dynamic")) cs i c (counted j (codes ".dynamic")).at_most e in
    let got = is_here (is_table (codes ".got")) cs i c (counted j (codes ".got")).at_most e in
    let slots = is_here (is_table (codes ".got.plt")) cs i c (counted j (codes ".got.plt")).at_most e in
    λ k. table_by (interp k) (dynsym k) (dynstr k) (hash k) (moves k) (calls k) (plt k) (dynamic k) (got k) (slots k)

-- ---- what its header says

pub record Says (j : Planned) (c : Content) : Type 0 where
  pub entsize : entry_size (table_of c) ≡ c.entsize
  pub info : info_of (table_of c) ≡ c.info
  pub link : number_of j (linked_to (table_of c)) ≡ linked j c.link

record Each (j : Planned) (cs : List Content) : Type 0 where
  all : AllByRecursion (Says j) cs

both : {j : Planned} {xs ys : List Content} → Each j xs → Each j ys → Each j (xs ++ ys)
both {j} {xs} {ys} a b = record { all = append xs a.all }
  where
    append : (zs : List Content) → AllByRecursion (Says j) zs → AllByRecursion (Says j) (zs ++ ys)
    append [] all = b.all
    append (z ∷ zs) all = (all.0, append zs all.1)

there : (j : Planned) (b : Bool) (c : Content) → Says j c → Each j (present b c)
there j true c says = record { all = (says, tt) }
there j false c says = record { all = tt }

output_says : (j : Planned) (o : Output) → Says j (output_section j o)
unfolding output_section
output_says j o = record { entsize = refl; info = refl; link = refl }

outputs_say : (j : Planned) (os : List Output) → AllByRecursion (Says j) (map (output_section j) os)
outputs_say j [] = tt
outputs_say j (o ∷ os) = (output_says j o, outputs_say j os)

class_says : (j : Planned) (class : OutClass) → Each j (outputs_in class j)
unfolding outputs_in
class_says j class = record { all = outputs_say j (filter (λ o. same_class o.class class) (outputs_by j)) }

read_says : (j : Planned) → Each j (read_contents j)
unfolding read_contents
read_says j =
    let says : (c : Content) → entry_size (table_of c) ≡ c.entsize → info_of (table_of c) ≡ c.info → number_of j (linked_to (table_of c)) ≡ linked j c.link → Says j c =
    λ c e i l. record { entsize = e; info = i; link = l } in
    let a = both (there j (not (is_shared j.options.kind)) (interp_section j) (says (interp_section j) refl refl refl)) (there j true (dynsym_section j.plan) (says (dynsym_section j.plan) refl refl refl)) in
    let b = both a (there j true (dynstr_section j) (says (dynstr_section j) refl refl refl)) in
    let c = both b (there j true (hash_section j.plan) (says (hash_section j.plan) refl refl refl)) in
    let moves = rela_section (codes ".rela.dyn") (rela_dyn_count j) in
    let calls = rela_section (codes ".rela.plt") (length j.plan.plt) in
    let d = both c (there j (nat_lt 0 (rela_dyn_count j)) moves (says moves refl refl refl)) in
    let e = both d (there j (has_plt j) calls (says calls refl refl refl)) in
    both e (class_says j classes.R)

code_says : (j : Planned) → Each j (executed_contents j)
unfolding executed_contents
code_says j =
    let plt = plt_section j.rules j.plan in
    both (there j (has_plt j) plt (record { entsize = refl; info = refl; link = refl })) (class_says j classes.X)

written_says : (j : Planned) → Each j (written_contents j)
unfolding written_contents
written_says j =
    let dynamic = dynamic_section (length (dynamic_entries j)) in
    let got = slots_section (codes ".got") (word_count j) in
    let slots = slots_section (codes ".got.plt") (3 + length j.plan.plt) in
    let a = both (there j true dynamic (record { entsize = refl; info = refl; link = refl })) (there j (nat_lt 0 (word_count j)) got (record { entsize = refl; info = refl; link = refl })) in
    let b = both a (there j true slots (record { entsize = refl; info = refl; link = refl })) in
    let c = both b (class_says j classes.W) in
    both c (class_says j classes.B)

all_say : (j : Planned) → Each j (contents_of j)
unfolding contents_of
all_say j =
    let a = both (read_says j) (code_says j) in
    let b = both a (class_says j classes.T) in
    let c = both b (class_says j classes.Z) in
    both c (written_says j)

of_each : (j : Planned) (cs : List Content) (i : ℕ) (c : Content) → AllByRecursion (Says j) cs → slice_get cs i ≡ Some c → Says j c
of_each j [] i c all e = cc
of_each j (x ∷ cs) zero c all e =
    let same : x ≡ c = cc in
    subst (Says j) same all.0
of_each j (x ∷ cs) (suc i) c all e = of_each j cs i c all.1 e

pub content_says : (j : Planned) (i : ℕ) (c : Content) → slice_get (contents_of j) i ≡ Some c → Says j c
content_says j i c e = of_each j (contents_of j) i c (all_say j).all e
