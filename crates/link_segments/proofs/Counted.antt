-- Flags of sections tell which segments there are.
use Rattle.std.proofs.Common.{◌≡◌, ◌+◌, ℕ, suc, cond, Bool, true, false, not, ◌||◌, List, [], ◌∷◌, ◌++◌, length, map, zip, append_assoc, refl, sym, ap, ◌∙◌, subst, arith}
use Rattle.std.specs.List.{AllByRecursion, list_any}
use Rattle.std.specs.Prelude.{codes, filter, nat_lt, ◌==◌}
use Rattle.std.proofs.lemmas.Bool.Decides.{nat_tests}
use Rattle.std.proofs.lemmas.List.Folds.{list_any-append}
use Rattle.link_core.specs.declared.layout.Layout.{Layout}
use Rattle.link_core.specs.declared.layout.OutSection.{OutSection}
use Rattle.link_core.specs.declared.output.OutClass.{OutClass}
use Rattle.link_core.specs.declared.output.OutClass.TheVariants as classes
use Rattle.link_core.specs.Commons.{outputs_by}
use Rattle.link_core.specs.Contents.{Content, code_flags, contents_of, dynamic_section, dynstr_section, dynsym_section, executed_contents, has_plt, hash_section, interp_section, output_flags, output_section, outputs_in, plt_section, present, read_contents, read_flags, rela_section, slots_section, thread_contents, thread_flags, thread_zeros, written_contents, written_flags}
use Rattle.link_core.specs.Entries.{dynamic_entries, rela_dyn_count}
use Rattle.link_core.specs.Exports.{is_shared}
use Rattle.link_core.specs.Layout.{addresses_of, count_if, has_code, has_threads, section_from, segment_count}
use Rattle.link_core.specs.OutputNames.{Output, same_class}
use Rattle.link_core.specs.Places.{is_code, is_thread}
use Rattle.link_core.specs.Planned.{Planned}
use Rattle.link_core.specs.Slots.{word_count}
use Rattle.link_layout.specs.Laws.{IsLayoutOf}
use Rattle.link_layout.proofs.Found.{class_is}
use Rattle.link_layout.proofs.Pieces.{lengths}
use Rattle.link_layout.proofs.Within.{all_both, sections_are}

-- ---- sections have the flags of the contents

one_less : (m n : ℕ) → suc m ≡ suc n → m ≡ n
one_less m n e = omega (arith, e)

any_placed : (q : ℕ → Bool) (cs : List Content) (ats : List ℕ) → length ats ≡ length cs → list_any (λ s. q s.flags) (map section_from (zip cs ats)) ≡ list_any (λ c. q c.flags) cs
any_placed q [] [] e = refl
any_placed q [] (at ∷ ats) e = refl
any_placed q (c ∷ cs) [] e = cc
any_placed q (c ∷ cs) (at ∷ ats) e = ap (λ b. q c.flags || b) (any_placed q cs ats (one_less (length ats) (length cs) e))

any_section : (q : ℕ → Bool) (j : Planned) (l : Layout) → IsLayoutOf j l → list_any (λ s. q s.flags) l.sections ≡ list_any (λ c. q c.flags) (contents_of j)
any_section q j l made =
    sym (ap (list_any (λ (s : OutSection). q s.flags)) (sections_are j l made))
    ∙ any_placed q (contents_of j) (addresses_of j) (lengths j)

-- ---- all or none of a part

module _ (q : ℕ → Bool) (v : Bool) where
  abbrev Answers : Content → Type 0
  Answers c = q c.flags ≡ v

  all_present : (b : Bool) (c : Content) → Answers c → AllByRecursion Answers (present b c)
  all_present true c here = (here, tt)
  all_present false c here = tt

  module _ (j : Planned) (class : OutClass) (own : (executed : Bool) → q (output_flags class executed) ≡ v) where
    own_as : (c : OutClass) → class ≡ c → (executed : Bool) → q (output_flags c executed) ≡ v
    own_as c e = subst (λ d. (executed : Bool) → q (output_flags d executed) ≡ v) e own

    all_step : (o : Output) (os : List Output) (t : Bool) → same_class o.class class ≡ t → AllByRecursion Answers (map (output_section j) os)
        → AllByRecursion Answers (map (output_section j) (cond t (o ∷ os) os))
    unfolding output_section
    all_step o os true same rest = (own_as o.class (sym (class_is o.class class same)) _, rest)
    all_step o os false same rest = rest

    all_outputs : (os : List Output) → AllByRecursion Answers (map (output_section j) (filter (λ o. same_class o.class class) os))
    all_outputs [] = tt
    all_outputs (o ∷ os) = all_step o (filter (λ o. same_class o.class class) os) (same_class o.class class) refl (all_outputs os)

    all_in : AllByRecursion Answers (outputs_in class j)
    unfolding outputs_in
    all_in = all_outputs (outputs_by j)

  -- what is only read
  all_read : (j : Planned) → q read_flags ≡ v → AllByRecursion Answers (read_contents j)
  unfolding read_contents
  all_read j here =
      let a = present (not (is_shared j.options.kind)) (interp_section j) in
      let b = present true (dynsym_section j.plan) in
      let c = present true (dynstr_section j) in
      let d = present true (hash_section j.plan) in
      let e = present (nat_lt 0 (rela_dyn_count j)) (rela_section (codes ".rela.dyn") (rela_dyn_count j)) in
      let f = present (has_plt j) (rela_section (codes ".rela.plt") (length j.plan.plt)) in
      all_both Answers (a ++ b ++ c ++ d ++ e ++ f) (outputs_in classes.R j)
      (all_both Answers (a ++ b ++ c ++ d ++ e) f
      (all_both Answers (a ++ b ++ c ++ d) e
      (all_both Answers (a ++ b ++ c) d
      (all_both Answers (a ++ b) c
      (all_both Answers a b (all_present (not (is_shared j.options.kind)) (interp_section j) here) (all_present true (dynsym_section j.plan) here))
      (all_present true (dynstr_section j) here))
      (all_present true (hash_section j.plan) here))
      (all_present (nat_lt 0 (rela_dyn_count j)) (rela_section (codes ".rela.dyn") (rela_dyn_count j)) here))
      (all_present (has_plt j) (rela_section (codes ".rela.plt") (length j.plan.plt)) here))
      (all_in j classes.R (λ executed. here))

  -- code
  all_code : (j : Planned) → q code_flags ≡ v → AllByRecursion Answers (executed_contents j)
  unfolding executed_contents
  all_code j here =
      all_both Answers (present (has_plt j) (plt_section j.rules j.plan)) (outputs_in classes.X j)
      (all_present (has_plt j) (plt_section j.rules j.plan) here)
      (all_in j classes.X (λ executed. here))

  -- thread-local data
  all_threads : (j : Planned) → q thread_flags ≡ v → AllByRecursion Answers (thread_contents j ++ thread_zeros j)
  all_threads j here =
      all_both Answers (thread_contents j) (thread_zeros j) (all_in j classes.T (λ executed. here)) (all_in j classes.Z (λ executed. here))

  -- what else is written
  all_written : (j : Planned) → ((executed : Bool) → q (written_flags executed) ≡ v) → AllByRecursion Answers (written_contents j)
  unfolding written_contents
  all_written j own =
      let a = present true (dynamic_section (length (dynamic_entries j))) in
      let b = present (nat_lt 0 (word_count j)) (slots_section (codes ".got") (word_count j)) in
      let c = present true (slots_section (codes ".got.plt") (3 + length j.plan.plt)) in
      let here = own false in
      all_both Answers (a ++ b ++ c ++ outputs_in classes.W j) (outputs_in classes.B j)
      (all_both Answers (a ++ b ++ c) (outputs_in classes.W j)
      (all_both Answers (a ++ b) c
      (all_both Answers a b (all_present true (dynamic_section (length (dynamic_entries j))) here)
      (all_present (nat_lt 0 (word_count j)) (slots_section (codes ".got") (word_count j)) here))
      (all_present true (slots_section (codes ".got.plt") (3 + length j.plan.plt)) here))
      (all_in j classes.W own))
      (all_in j classes.B own)

none_of : (q : ℕ → Bool) (cs : List Content) → AllByRecursion (λ c. q c.flags ≡ false) cs → list_any (λ c. q c.flags) cs ≡ false
none_of q [] all = refl
none_of q (c ∷ cs) all = ap (λ b. b || list_any (λ (d : Content). q d.flags) cs) all.0 ∙ none_of q cs all.1

some_more : (n : ℕ) → nat_lt 0 (suc n) ≡ true
some_more n = grind (arith, nat_tests)

some_of : (q : ℕ → Bool) (cs : List Content) → AllByRecursion (λ c. q c.flags ≡ true) cs → list_any (λ c. q c.flags) cs ≡ nat_lt 0 (length cs)
some_of q [] all = refl
some_of q (c ∷ cs) all = ap (λ b. b || list_any (λ (d : Content). q d.flags) cs) all.0 ∙ sym (some_more (length cs))

-- ---- all parts

-- of three parts one alone
middle : (p : Content → Bool) (a b c : List Content) (v : Bool) → list_any p a ≡ false → list_any p b ≡ v → list_any p c ≡ false → list_any p (a ++ b ++ c) ≡ v
middle p a b c v first here last =
    list_any-append p (a ++ b) c
    ∙ ap (λ t. t || list_any p c) (list_any-append p a b)
    ∙ ap (λ t. (t || list_any p b) || list_any p c) first
    ∙ ap (λ t. t || list_any p c) here
    ∙ ap (λ t. v || t) last
    ∙ or_none v
  where
    or_none : (b : Bool) → (b || false) ≡ b
    or_none true = refl
    or_none false = refl

code_in : (j : Planned) → list_any (λ c. c.flags == code_flags) (contents_of j) ≡ has_code j
unfolding contents_of
code_in j =
    let q : ℕ → Bool = λ flags. flags == code_flags in
    let p : Content → Bool = λ c. q c.flags in
    let behind = all_both (λ c. q c.flags ≡ false) (thread_contents j ++ thread_zeros j) (written_contents j) (all_threads q false j refl) (all_written q false j not_code) in
    let parts : contents_of j ≡ read_contents j ++ executed_contents j ++ (thread_contents j ++ thread_zeros j ++ written_contents j) = simp append_assoc in
    ap (list_any p) parts
    ∙ middle p (read_contents j) (executed_contents j) (thread_contents j ++ thread_zeros j ++ written_contents j) (has_code j)
    (none_of q (read_contents j) (all_read q false j refl))
    (some_of q (executed_contents j) (all_code q true j refl))
    (none_of q (thread_contents j ++ thread_zeros j ++ written_contents j) behind)
  where
    not_code : (executed : Bool) → (written_flags executed == code_flags) ≡ false
    not_code true = refl
    not_code false = refl

threads_in : (j : Planned) → list_any (λ c. c.flags == thread_flags) (contents_of j) ≡ has_threads j
unfolding contents_of
threads_in j =
    let q : ℕ → Bool = λ flags. flags == thread_flags in
    let p : Content → Bool = λ c. q c.flags in
    let ahead = all_both (λ c. q c.flags ≡ false) (read_contents j) (executed_contents j) (all_read q false j refl) (all_code q false j refl) in
    let parts : contents_of j ≡ (read_contents j ++ executed_contents j) ++ (thread_contents j ++ thread_zeros j) ++ written_contents j = simp append_assoc in
    ap (list_any p) parts
    ∙ middle p (read_contents j ++ executed_contents j) (thread_contents j ++ thread_zeros j) (written_contents j) (has_threads j)
    (none_of q (read_contents j ++ executed_contents j) ahead)
    (some_of q (thread_contents j ++ thread_zeros j) (all_threads q true j refl))
    (none_of q (written_contents j) (all_written q false j not_thread))
  where
    not_thread : (executed : Bool) → (written_flags executed == thread_flags) ≡ false
    not_thread true = refl
    not_thread false = refl

pub has_code_is : (j : Planned) (l : Layout) → IsLayoutOf j l → list_any is_code l.sections ≡ has_code j
has_code_is j l made = any_section (λ flags. flags == code_flags) j l made ∙ code_in j

pub has_threads_is : (j : Planned) (l : Layout) → IsLayoutOf j l → list_any is_thread l.sections ≡ has_threads j
has_threads_is j l made = any_section (λ flags. flags == thread_flags) j l made ∙ threads_in j

-- ---- how many there are

pub counted_by :
    (j : Planned) (l : Layout) (program code threads : ℕ) → IsLayoutOf j l
    → program ≡ count_if (not (is_shared j.options.kind)) → code ≡ count_if (list_any is_code l.sections)
    → threads ≡ count_if (list_any is_thread l.sections)
    → program + program + code + threads + 4 ≡ segment_count j
unfolding segment_count
counted_by j l program code threads made program_is code_is threads_is =
    let all_code = code_is ∙ ap count_if (has_code_is j l made) in
    let all_threads = threads_is ∙ ap count_if (has_threads_is j l made) in
    omega (arith, program_is, all_code, all_threads)
