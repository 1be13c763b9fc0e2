-- Where an output section is found among all sections.
use Rattle.std.proofs.Common.{◌≡◌, ℕ, ◌+◌, List, [], ◌∷◌, ◌++◌, map, length, refl, ap, sym, ◌∙◌, arith, subst, append_assoc, suc, cond, eq-eqb, Bool, true, false}
use Rattle.std.specs.List.{AllByRecursion, IsDistinct, list_any, position_or_len}
use Rattle.std.specs.Prelude.{codes, filter, if◌then◌else◌, nat_lt, not, ◌&&◌, ◌||◌}
use Rattle.std.proofs.lemmas.List.{append-nil, length-append, length-map, map-append}
use Rattle.ifs_interface.specs.Triple.{same_name}
use Rattle.link_core.specs.declared.output.OutClass.{OutClass}
use Rattle.link_core.specs.declared.output.OutClass.TheVariants as classes
use Rattle.link_core.specs.Commons.{outputs_by}
use Rattle.link_core.specs.Contents.{Content, contents_of, dynamic_section, dynstr_section, dynsym_section, executed_contents, has_plt, hash_section, interp_section, output_section, outputs_in, plt_section, read_contents, rela_section, slots_section, written_contents}
use Rattle.link_core.specs.Entries.{dynamic_entries, rela_dyn_count}
use Rattle.link_core.specs.Exports.{is_shared}
use Rattle.link_core.specs.Layout.{is_output, output_position}
use Rattle.link_core.specs.OutputNames.{Output, same_class, same_output}
use Rattle.link_core.specs.Planned.{Planned}
use Rattle.link_core.specs.Slots.{word_count}
use Rattle.link_core.proofs.Once.{once_distinct}

-- ---- what has none of a name

abbrev pub IsFree : Output → List Content → Type 0
IsFree o cs = list_any (is_output o) cs ≡ false

free_by : (a b : Bool) → a ≡ false → b ≡ false → (a || b) ≡ false
free_by a b none no_more = ap (λ (c : Bool). c || b) none ∙ no_more

parted : (a b : Bool) → (a || b) ≡ false → (a ≡ false) × (b ≡ false)
parted true b none = cc
parted false b none = (refl, none)

pub free_both : (o : Output) (xs ys : List Content) → IsFree o xs → IsFree o ys → IsFree o (xs ++ ys)
free_both o [] ys one other = other
free_both o (x ∷ xs) ys one other =
    let parts = parted (is_output o x) (list_any (is_output o) xs) one in
    free_by (is_output o x) (list_any (is_output o) (xs ++ ys)) parts.0 (free_both o xs ys parts.1 other)

skip_step : (b rest : Bool) (k len tail : ℕ) → (b || rest) ≡ false → (rest ≡ false → k ≡ len + tail) → cond (not b) (1 + k) 0 ≡ suc len + tail
skip_step true rest k len tail none next = cc
skip_step false rest k len tail none next = let e = next none in omega (arith, e)

skipped : (p : Content → Bool) (xs ys : List Content) → list_any p xs ≡ false → position_or_len p (xs ++ ys) ≡ length xs + position_or_len p ys
skipped p [] ys none = omega arith
skipped p (x ∷ xs) ys none = skip_step (p x) (list_any p xs) (position_or_len p (xs ++ ys)) (length xs) (position_or_len p ys) none (skipped p xs ys)

at_once : (b : Bool) (k : ℕ) → b ≡ true → cond (not b) (1 + k) 0 ≡ 0
at_once true k there = refl
at_once false k there = cc

-- ---- output sections of a class

pub class_is : (a b : OutClass) → same_class a b ≡ true → a ≡ b
class_is classes.R classes.R same = refl
class_is classes.R classes.X same = cc
class_is classes.R classes.W same = cc
class_is classes.R classes.T same = cc
class_is classes.R classes.Z same = cc
class_is classes.R classes.B same = cc
class_is classes.X classes.R same = cc
class_is classes.X classes.X same = refl
class_is classes.X classes.W same = cc
class_is classes.X classes.T same = cc
class_is classes.X classes.Z same = cc
class_is classes.X classes.B same = cc
class_is classes.W classes.R same = cc
class_is classes.W classes.X same = cc
class_is classes.W classes.W same = refl
class_is classes.W classes.T same = cc
class_is classes.W classes.Z same = cc
class_is classes.W classes.B same = cc
class_is classes.T classes.R same = cc
class_is classes.T classes.X same = cc
class_is classes.T classes.W same = cc
class_is classes.T classes.T same = refl
class_is classes.T classes.Z same = cc
class_is classes.T classes.B same = cc
class_is classes.Z classes.R same = cc
class_is classes.Z classes.X same = cc
class_is classes.Z classes.W same = cc
class_is classes.Z classes.T same = cc
class_is classes.Z classes.Z same = refl
class_is classes.Z classes.B same = cc
class_is classes.B classes.R same = cc
class_is classes.B classes.X same = cc
class_is classes.B classes.W same = cc
class_is classes.B classes.T same = cc
class_is classes.B classes.Z same = cc
class_is classes.B classes.B same = refl

and_false : (a : Bool) → (a && false) ≡ false
and_false true = refl
and_false false = refl

abbrev pub of_class : OutClass → List Output → List Output
of_class class outputs = filter (λ o. same_class o.class class) outputs

group_step :
    (j : Planned) (o q : Output) (there : Bool) (qs : List Output)
    → (there ≡ true → is_output o (output_section j q) ≡ false) → IsFree o (map (output_section j) qs)
    → IsFree o (map (output_section j) (if there then q ∷ qs else qs))
group_step j o q true qs here rest = free_by (is_output o (output_section j q)) (list_any (is_output o) (map (output_section j) qs)) (here refl) rest
group_step j o q false qs here rest = rest

-- those before it of its own class
own_free :
    (j : Planned) (o : Output) (class : OutClass) (qs : List Output)
    → AllByRecursion (λ q. same_output q o ≡ false) qs → IsFree o (map (output_section j) (of_class class qs))
unfolding output_section
own_free j o class [] fresh = refl
own_free j o class (q ∷ qs) fresh =
    group_step j o q (same_class q.class class) (of_class class qs) (λ there. fresh.0) (own_free j o class qs fresh.1)

-- those of another class
class_apart : (o q : Output) (class : OutClass) → same_class class o.class ≡ false → same_class q.class class ≡ true → (same_name q.name o.name && same_class q.class o.class) ≡ false
class_apart o q class apart same =
    let e : same_class q.class o.class ≡ false = ap (λ (c : OutClass). same_class c o.class) (class_is q.class class same) ∙ apart in
    ap (λ (b : Bool). same_name q.name o.name && b) e ∙ and_false (same_name q.name o.name)

other_free :
    (j : Planned) (o : Output) (class : OutClass) (qs : List Output)
    → same_class class o.class ≡ false → IsFree o (map (output_section j) (of_class class qs))
unfolding output_section
other_free j o class [] apart = refl
other_free j o class (q ∷ qs) apart =
    group_step j o q (same_class q.class class) (of_class class qs) (λ there. class_apart o q class apart there) (other_free j o class qs apart)

pub outputs_free : (j : Planned) (o : Output) (class : OutClass) → same_class class o.class ≡ false → IsFree o (outputs_in class j)
unfolding outputs_in
outputs_free j o class apart = other_free j o class (outputs_by j) apart

-- ---- an output section among those of its class

filter_both : (p : Output → Bool) (xs ys : List Output) → filter p (xs ++ ys) ≡ filter p xs ++ filter p ys
filter_both p [] ys = refl
filter_both p (x ∷ xs) ys = front (p x) (filter_both p xs ys)
  where
    front : (b : Bool) → filter p (xs ++ ys) ≡ filter p xs ++ filter p ys → cond b (x ∷ filter p (xs ++ ys)) (filter p (xs ++ ys)) ≡ cond b (x ∷ filter p xs) (filter p xs) ++ filter p ys
    front true e = ap (λ (os : List Output). x ∷ os) e
    front false e = e

chosen : (b : Bool) (o : Output) (os : List Output) → b ≡ true → cond b (o ∷ os) os ≡ o ∷ os
chosen true o os there = refl
chosen false o os there = cc

abbrev pub sections_before : Planned → OutClass → List Output → List Content
sections_before j class outputs = map (output_section j) (of_class class outputs)

own_group :
    (j : Planned) (class : OutClass) (before rest : List Output) (o : Output)
    → outputs_by j ≡ before ++ o ∷ rest → same_class o.class class ≡ true
    → outputs_in class j ≡ sections_before j class before ++ output_section j o ∷ sections_before j class rest
unfolding outputs_in
own_group j class before rest o all same =
    ap (sections_before j class) all
    ∙ ap (map (output_section j))
    (filter_both (λ q. same_class q.class class) before (o ∷ rest)
    ∙ ap (λ (os : List Output). of_class class before ++ os) (chosen (same_class o.class class) o (of_class class rest) same))
    ∙ map-append (output_section j) (of_class class before) (o ∷ of_class class rest)

-- ---- tables

abbrev pub read_own : Bool → Bool → Bool → Planned → List Content
read_own program moves calls j =
    (if program then interp_section j ∷ [] else [])
    ++ (if true then dynsym_section j.plan ∷ [] else [])
    ++ (if true then dynstr_section j ∷ [] else [])
    ++ (if true then hash_section j.plan ∷ [] else [])
    ++ (if moves then rela_section (codes ".rela.dyn") (rela_dyn_count j) ∷ [] else [])
    ++ (if calls then rela_section (codes ".rela.plt") (length j.plan.plt) ∷ [] else [])

abbrev pub code_own : Bool → Planned → List Content
code_own calls j = if calls then plt_section j.rules j.plan ∷ [] else []

abbrev pub written_own : Bool → Planned → List Content
written_own words j =
    (if true then dynamic_section (length (dynamic_entries j)) ∷ [] else [])
    ++ (if words then slots_section (codes ".got") (word_count j) ∷ [] else [])
    ++ (if true then slots_section (codes ".got.plt") (3 + length j.plan.plt) ∷ [] else [])

read_free : (o : Output) (p m c : Bool) (j : Planned) → IsFree o (read_own p m c j)
read_free o true true true j = refl
read_free o true true false j = refl
read_free o true false true j = refl
read_free o true false false j = refl
read_free o false true true j = refl
read_free o false true false j = refl
read_free o false false true j = refl
read_free o false false false j = refl

code_free : (o : Output) (c : Bool) (j : Planned) → IsFree o (code_own c j)
code_free o true j = refl
code_free o false j = refl

written_free : (o : Output) (w : Bool) (j : Planned) → IsFree o (written_own w j)
written_free o true j = refl
written_free o false j = refl

abbrev pub rt : Planned → List Content
rt j = read_own (not (is_shared j.options.kind)) (nat_lt 0 (rela_dyn_count j)) (has_plt j) j

abbrev pub xt : Planned → List Content
xt j = code_own (has_plt j) j

abbrev pub wt : Planned → List Content
wt j = written_own (nat_lt 0 (word_count j)) j

-- the sections of each class, and the tables before them
pub all_parts :
    (j : Planned) → contents_of j
    ≡ (rt j ++ outputs_in classes.R j) ++ (xt j ++ outputs_in classes.X j) ++ outputs_in classes.T j ++ outputs_in classes.Z j
    ++ (wt j ++ outputs_in classes.W j ++ outputs_in classes.B j)
unfolding contents_of read_contents executed_contents written_contents
all_parts j = refl

-- ---- found

pub record Found (j : Planned) (o : Output) (at : ℕ) : Type 0 where
  pub before : List Content
  pub after : List Content
  pub split : contents_of j ≡ before ++ output_section j o ∷ after
  pub free : IsFree o before
  pub place : length before ≡ at

itself : (j : Planned) (o : Output) → same_name o.name o.name ≡ true → same_class o.class o.class ≡ true → is_output o (output_section j o) ≡ true
unfolding output_section
itself j o name class = λ i. name i && class i

pub position_found :
    (j : Planned) (o : Output) (at : ℕ) → Found j o at → same_name o.name o.name ≡ true → same_class o.class o.class ≡ true
    → output_position j o ≡ at
unfolding output_position
position_found j o at found name class =
    let here = at_once (is_output o (output_section j o)) (position_or_len (is_output o) found.after) (itself j o name class) in
    let all = skipped (is_output o) found.before (output_section j o ∷ found.after) found.free in
    ap (position_or_len (is_output o)) found.split ∙ all ∙ omega (arith, here, found.place)

-- ---- by its class

by_group :
    (j : Planned) (o : Output) (class : OutClass) (first last : List Content) (before rest : List Output)
    → contents_of j ≡ first ++ (outputs_in class j ++ last) → IsFree o first
    → outputs_by j ≡ before ++ o ∷ rest → same_class o.class class ≡ true
    → AllByRecursion (λ q. same_output q o ≡ false) before
    → Found j o (length first + length (of_class class before))
by_group j o class first last before rest all none outputs same fresh =
    let group = own_group j class before rest o outputs same in
    record {
      before = first ++ sections_before j class before;
      after = sections_before j class rest ++ last;
      split =
          all ∙ ap (λ (cs : List Content). first ++ (cs ++ last)) group
          ∙ ap (λ (cs : List Content). first ++ cs) (append_assoc (sections_before j class before) (output_section j o ∷ sections_before j class rest) last)
          ∙ sym (append_assoc first (sections_before j class before) (output_section j o ∷ (sections_before j class rest ++ last)));
      free = free_both o first (sections_before j class before) none (own_free j o class before fresh);
      place = length-append first (sections_before j class before) ∙ ap (λ (n : ℕ). length first + n) (length-map (of_class class before) (output_section j));
    }

abbrev pub first_of : OutClass → Planned → List Content
first_of classes.R j = rt j
first_of classes.X j = (rt j ++ outputs_in classes.R j) ++ xt j
first_of classes.T j = (rt j ++ outputs_in classes.R j) ++ (xt j ++ outputs_in classes.X j)
first_of classes.Z j = (rt j ++ outputs_in classes.R j) ++ (xt j ++ outputs_in classes.X j) ++ outputs_in classes.T j
first_of classes.W j = (rt j ++ outputs_in classes.R j) ++ (xt j ++ outputs_in classes.X j) ++ outputs_in classes.T j ++ outputs_in classes.Z j ++ wt j
first_of classes.B j = (rt j ++ outputs_in classes.R j) ++ (xt j ++ outputs_in classes.X j) ++ outputs_in classes.T j ++ outputs_in classes.Z j ++ (wt j ++ outputs_in classes.W j)

module _ (a b c d e f g h i : List Content) where
  nine_r : (a ++ b) ++ (c ++ d) ++ e ++ f ++ (g ++ h ++ i) ≡ a ++ (b ++ (c ++ d ++ e ++ f ++ (g ++ h ++ i)))
  nine_r = simp append_assoc

  nine_x : (a ++ b) ++ (c ++ d) ++ e ++ f ++ (g ++ h ++ i) ≡ ((a ++ b) ++ c) ++ (d ++ (e ++ f ++ (g ++ h ++ i)))
  nine_x = simp append_assoc

  nine_t : (a ++ b) ++ (c ++ d) ++ e ++ f ++ (g ++ h ++ i) ≡ ((a ++ b) ++ (c ++ d)) ++ (e ++ (f ++ (g ++ h ++ i)))
  nine_t = simp append_assoc

  nine_z : (a ++ b) ++ (c ++ d) ++ e ++ f ++ (g ++ h ++ i) ≡ ((a ++ b) ++ (c ++ d) ++ e) ++ (f ++ (g ++ h ++ i))
  nine_z = simp append_assoc

  nine_w : (a ++ b) ++ (c ++ d) ++ e ++ f ++ (g ++ h ++ i) ≡ ((a ++ b) ++ (c ++ d) ++ e ++ f ++ g) ++ (h ++ i)
  nine_w = simp append_assoc

  nine_b : (a ++ b) ++ (c ++ d) ++ e ++ f ++ (g ++ h ++ i) ≡ ((a ++ b) ++ (c ++ d) ++ e ++ f ++ (g ++ h)) ++ (i ++ [])
  nine_b = simp (append_assoc, append-nil)

apart_by : (o : Output) (class d : OutClass) → o.class ≡ class → same_class d class ≡ false → same_class d o.class ≡ false
apart_by o class d e apart = ap (λ (c : OutClass). same_class d c) e ∙ apart

group_free : (j : Planned) (o : Output) (class d : OutClass) → o.class ≡ class → same_class d class ≡ false → IsFree o (outputs_in d j)
group_free j o class d e apart = outputs_free j o d (apart_by o class d e apart)

read_part : (j : Planned) (o : Output) (class : OutClass) → o.class ≡ class → same_class classes.R class ≡ false → IsFree o (rt j ++ outputs_in classes.R j)
read_part j o class e apart =
    free_both o (rt j) (outputs_in classes.R j)
    (read_free o (not (is_shared j.options.kind)) (nat_lt 0 (rela_dyn_count j)) (has_plt j) j) (group_free j o class classes.R e apart)

code_part : (j : Planned) (o : Output) (class : OutClass) → o.class ≡ class → same_class classes.X class ≡ false → IsFree o (xt j ++ outputs_in classes.X j)
code_part j o class e apart = free_both o (xt j) (outputs_in classes.X j) (code_free o (has_plt j) j) (group_free j o class classes.X e apart)

front_part : (j : Planned) (o : Output) (class : OutClass) → o.class ≡ class → same_class classes.R class ≡ false → same_class classes.X class ≡ false → IsFree o ((rt j ++ outputs_in classes.R j) ++ (xt j ++ outputs_in classes.X j))
front_part j o class e r x = free_both o (rt j ++ outputs_in classes.R j) (xt j ++ outputs_in classes.X j) (read_part j o class e r) (code_part j o class e x)

thread_part : (j : Planned) (o : Output) (class : OutClass) → o.class ≡ class → same_class classes.R class ≡ false → same_class classes.X class ≡ false → same_class classes.T class ≡ false → IsFree o ((rt j ++ outputs_in classes.R j) ++ (xt j ++ outputs_in classes.X j) ++ outputs_in classes.T j)
thread_part j o class e r x t =
    free_both o ((rt j ++ outputs_in classes.R j) ++ (xt j ++ outputs_in classes.X j)) (outputs_in classes.T j)
    (front_part j o class e r x) (group_free j o class classes.T e t)

zeros_part : (j : Planned) (o : Output) (class : OutClass) → o.class ≡ class → same_class classes.R class ≡ false → same_class classes.X class ≡ false → same_class classes.T class ≡ false → same_class classes.Z class ≡ false → IsFree o ((rt j ++ outputs_in classes.R j) ++ (xt j ++ outputs_in classes.X j) ++ outputs_in classes.T j ++ outputs_in classes.Z j)
zeros_part j o class e r x t z =
    free_both o ((rt j ++ outputs_in classes.R j) ++ (xt j ++ outputs_in classes.X j) ++ outputs_in classes.T j) (outputs_in classes.Z j)
    (thread_part j o class e r x t) (group_free j o class classes.Z e z)

written_part : (j : Planned) (o : Output) → IsFree o (wt j)
written_part j o = written_free o (nat_lt 0 (word_count j)) j

first_free : (j : Planned) (o : Output) (class : OutClass) → o.class ≡ class → IsFree o (first_of class j)
first_free j o classes.R e = read_free o (not (is_shared j.options.kind)) (nat_lt 0 (rela_dyn_count j)) (has_plt j) j
first_free j o classes.X e = free_both o (rt j ++ outputs_in classes.R j) (xt j) (read_part j o classes.X e refl) (code_free o (has_plt j) j)
first_free j o classes.T e = front_part j o classes.T e refl refl
first_free j o classes.Z e = thread_part j o classes.Z e refl refl refl
first_free j o classes.W e =
    free_both o ((rt j ++ outputs_in classes.R j) ++ (xt j ++ outputs_in classes.X j) ++ outputs_in classes.T j ++ outputs_in classes.Z j) (wt j)
    (zeros_part j o classes.W e refl refl refl refl) (written_part j o)
first_free j o classes.B e =
    free_both o ((rt j ++ outputs_in classes.R j) ++ (xt j ++ outputs_in classes.X j) ++ outputs_in classes.T j ++ outputs_in classes.Z j) (wt j ++ outputs_in classes.W j)
    (zeros_part j o classes.B e refl refl refl refl)
    (free_both o (wt j) (outputs_in classes.W j) (written_part j o) (group_free j o classes.B classes.W e refl))

abbrev last_of : OutClass → Planned → List Content
last_of classes.R j = xt j ++ outputs_in classes.X j ++ outputs_in classes.T j ++ outputs_in classes.Z j ++ (wt j ++ outputs_in classes.W j ++ outputs_in classes.B j)
last_of classes.X j = outputs_in classes.T j ++ outputs_in classes.Z j ++ (wt j ++ outputs_in classes.W j ++ outputs_in classes.B j)
last_of classes.T j = outputs_in classes.Z j ++ (wt j ++ outputs_in classes.W j ++ outputs_in classes.B j)
last_of classes.Z j = wt j ++ outputs_in classes.W j ++ outputs_in classes.B j
last_of classes.W j = outputs_in classes.B j
last_of classes.B j = []

split_at : (j : Planned) (class : OutClass) → contents_of j ≡ first_of class j ++ (outputs_in class j ++ last_of class j)
split_at j classes.R = all_parts j ∙ nine_r (rt j) (outputs_in classes.R j) (xt j) (outputs_in classes.X j) (outputs_in classes.T j) (outputs_in classes.Z j) (wt j) (outputs_in classes.W j) (outputs_in classes.B j)
split_at j classes.X = all_parts j ∙ nine_x (rt j) (outputs_in classes.R j) (xt j) (outputs_in classes.X j) (outputs_in classes.T j) (outputs_in classes.Z j) (wt j) (outputs_in classes.W j) (outputs_in classes.B j)
split_at j classes.T = all_parts j ∙ nine_t (rt j) (outputs_in classes.R j) (xt j) (outputs_in classes.X j) (outputs_in classes.T j) (outputs_in classes.Z j) (wt j) (outputs_in classes.W j) (outputs_in classes.B j)
split_at j classes.Z = all_parts j ∙ nine_z (rt j) (outputs_in classes.R j) (xt j) (outputs_in classes.X j) (outputs_in classes.T j) (outputs_in classes.Z j) (wt j) (outputs_in classes.W j) (outputs_in classes.B j)
split_at j classes.W = all_parts j ∙ nine_w (rt j) (outputs_in classes.R j) (xt j) (outputs_in classes.X j) (outputs_in classes.T j) (outputs_in classes.Z j) (wt j) (outputs_in classes.W j) (outputs_in classes.B j)
split_at j classes.B = all_parts j ∙ nine_b (rt j) (outputs_in classes.R j) (xt j) (outputs_in classes.X j) (outputs_in classes.T j) (outputs_in classes.Z j) (wt j) (outputs_in classes.W j) (outputs_in classes.B j)

same_itself : (class : OutClass) → same_class class class ≡ true
same_itself classes.R = refl
same_itself classes.X = refl
same_itself classes.W = refl
same_itself classes.T = refl
same_itself classes.Z = refl
same_itself classes.B = refl

pub found_at :
    (j : Planned) (before rest : List Output) (o : Output) → outputs_by j ≡ before ++ o ∷ rest
    → AllByRecursion (λ q. same_output q o ≡ false) before
    → Found j o (length (first_of o.class j) + length (of_class o.class before))
found_at j before rest o outputs fresh =
    by_group j o o.class (first_of o.class j) (last_of o.class j) before rest (split_at j o.class) (first_free j o o.class refl) outputs
    (same_itself o.class) fresh

-- ---- each output section is there once

all_at : (P : Output → Type 0) (xs : List Output) (y : Output) (ys : List Output) → AllByRecursion P (xs ++ y ∷ ys) → P y
all_at P [] y ys all = all.0
all_at P (x ∷ xs) y ys all = all_at P xs y ys all.1

fresh_by : (before rest : List Output) (o : Output) → IsDistinct same_output (before ++ o ∷ rest) → AllByRecursion (λ q. same_output q o ≡ false) before
unfolding IsDistinct
fresh_by [] rest o once = tt
fresh_by (q ∷ before) rest o once = (all_at (λ y. same_output q y ≡ false) before o rest once.0, fresh_by before rest o once.1)

outputs_once : (j : Planned) → IsDistinct same_output (outputs_by j)
unfolding outputs_by
outputs_once j = once_distinct same_output _

pub fresh_in : (j : Planned) (before rest : List Output) (o : Output) → outputs_by j ≡ before ++ o ∷ rest → AllByRecursion (λ q. same_output q o ≡ false) before
fresh_in j before rest o outputs =
    let P : List Output → Type 0 = λ os. IsDistinct same_output os in
    fresh_by before rest o (subst P outputs (outputs_once j))

name_itself : (xs : List ℕ) → same_name xs xs ≡ true
name_itself [] = refl
name_itself (x ∷ xs) = let here = eq-eqb x x refl in λ i. here i && name_itself xs i

pub position_at :
    (j : Planned) (before rest : List Output) (o : Output) → outputs_by j ≡ before ++ o ∷ rest
    → output_position j o ≡ length (first_of o.class j) + length (of_class o.class before)
position_at j before rest o outputs =
    position_found j o (length (first_of o.class j) + length (of_class o.class before))
    (found_at j before rest o outputs (fresh_in j before rest o outputs)) (name_itself o.name) (same_itself o.class)
