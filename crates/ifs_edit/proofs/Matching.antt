-- A pattern by its runs: what stands before the first `*`, and what may follow some bytes.
use Rattle.std.proofs.Common.{◌≡◌, ℕ, zero, suc, ◌+◌, ◌-◌, ◌<◌, ◌≤◌, Bool, true, false, cond, ◌&&◌, ◌||◌, List, [], ◌∷◌, take, drop, length, Option, Some, None, inl, inr, refl, sym, ap, ◌∙◌, arith}
use Rattle.std.specs.Prelude.{nat_le}
use Rattle.std.proofs.Math.Bool.{and_assoc}
use Rattle.std.proofs.lemmas.Bool.{and_parts, or_right, or_cases, cases_order, cases_Bool, le-leb, lt-leb}
use Rattle.std.proofs.lemmas.List.{drop_all, length-take-le, take_all}
use Rattle.ifs_edit.specs.declared.element.Element.{Element}
use Rattle.ifs_edit.specs.Glob.{is_any, is_end, matches, one_then, some_rest, stands_for}
use Rattle.ifs_edit.specs.Runs.{run_len, fits, fits_end, behind_run, left_passes}

-- ---- the run before the first `*`

abbrev by_run : List Element → ℕ → List ℕ → Bool
by_run es k name = fits (take k es) name && left_passes (drop k es) (drop k name)

star_first : (e : Element) (es : List Element) (name : List ℕ) → is_any e ≡ true → matches (e ∷ es) name ≡ by_run (e ∷ es) (run_len (e ∷ es)) name
star_first e es name h =
    let none : run_len (e ∷ es) ≡ 0 = ap (λ t. cond t 0 (1 + run_len es)) h in
    ap (λ t. cond t (some_rest (matches es) name) (one_then e (matches es) name)) h ∙ sym (ap (λ k. by_run (e ∷ es) k name) none)

one_first : (e : Element) (es : List Element) (name : List ℕ) → is_any e ≡ false → one_then e (matches es) name ≡ by_run (e ∷ es) (suc (run_len es)) name → matches (e ∷ es) name ≡ by_run (e ∷ es) (run_len (e ∷ es)) name
one_first e es name h g =
    let more : run_len (e ∷ es) ≡ suc (run_len es) = ap (λ t. cond t 0 (1 + run_len es)) h ∙ omega arith in
    ap (λ t. cond t (some_rest (matches es) name) (one_then e (matches es) name)) h ∙ g ∙ sym (ap (λ k. by_run (e ∷ es) k name) more)

-- a name matches where the run fits its front and the rest matches what is left
pub matches_by_run : (es : List Element) (name : List ℕ) → matches es name ≡ by_run es (run_len es) name
matches_by_run [] name = refl
matches_by_run (e ∷ es) [] =
    elim (cases_Bool (is_any e)) as (λ _. matches (e ∷ es) [] ≡ by_run (e ∷ es) (run_len (e ∷ es)) []) [
      | inl h ↦ star_first e es [] h
      | inr h ↦ one_first e es [] h refl
    ]
matches_by_run (e ∷ es) (b ∷ bs) =
    elim (cases_Bool (is_any e)) as (λ _. matches (e ∷ es) (b ∷ bs) ≡ by_run (e ∷ es) (run_len (e ∷ es)) (b ∷ bs)) [
      | inl h ↦ star_first e es (b ∷ bs) h
      | inr h ↦ one_first e es (b ∷ bs) h (ap (λ t. stands_for e b && t) (matches_by_run es bs) ∙ sym (and_assoc (stands_for e b) (fits (take (run_len es) es) bs) (left_passes (drop (run_len es) es) (drop (run_len es) bs))))
    ]

-- ---- the first place that fits is as good as any

pub some_agree : (p q : List ℕ → Bool) → ((name : List ℕ) → p name ≡ q name) → (name : List ℕ) → some_rest p name ≡ some_rest q name
some_agree p q h [] = h []
some_agree p q h (b ∷ bs) = ap (λ t. t || some_rest p bs) (h (b ∷ bs)) ∙ ap (λ t. q (b ∷ bs) || t) (some_agree p q h bs)

-- where an end of what is left passes, an end of what is left one byte earlier passes
earlier : (p : List ℕ → Bool) (n b : ℕ) (bs : List ℕ) → some_rest p (drop n bs) ≡ true → some_rest p (drop n (b ∷ bs)) ≡ true
earlier p zero b bs h = or_right (p (b ∷ bs)) (some_rest p bs) h
earlier p (suc zero) b [] h = h
earlier p (suc (suc n)) b [] h = h
earlier p (suc n) b (c ∷ cs) h = earlier p n c cs h

abbrev fits_then : List Element → ℕ → (List ℕ → Bool) → List ℕ → Bool
fits_then run n p name = fits run name && some_rest p (drop n name)

later_place : (run : List Element) (n : ℕ) (p : List ℕ → Bool) (name : List ℕ) → some_rest (fits_then run n p) name ≡ true → some_rest p (drop n name) ≡ true
later_place run n p [] h = (and_parts (fits run []) (some_rest p (drop n [])) h).1
later_place run n p (b ∷ bs) h =
    elim (or_cases (fits_then run n p (b ∷ bs)) (some_rest (fits_then run n p) bs) h) as (λ _. some_rest p (drop n (b ∷ bs)) ≡ true) [
      | inl here ↦ (and_parts (fits run (b ∷ bs)) (some_rest p (drop n (b ∷ bs))) here).1
      | inr behind ↦ earlier p n b bs (later_place run n p bs behind)
    ]

absorbed : (x y : Bool) → (y ≡ true → x ≡ true) → (x || y) ≡ x
absorbed true y h = refl
absorbed false true h = sym (h refl)
absorbed false false h = refl

abbrev pub passes_behind : (List ℕ → Bool) → Option (List ℕ) → Bool
passes_behind p None = false
passes_behind p (Some left) = p left

pub first_place : (run : List Element) (p : List ℕ → Bool) (name : List ℕ) → some_rest (fits_then run (length run) p) name ≡ passes_behind (some_rest p) (behind_run run name)
first_place run p [] =
    let left = drop (length run) [] in
    elim (fits run []) as (λ t. (t && some_rest p left) ≡ passes_behind (some_rest p) (cond t (Some left) None)) [ true ↦ refl | false ↦ refl ]
first_place run p (b ∷ bs) =
    let left = drop (length run) (b ∷ bs) in
    let later = λ (h : some_rest (fits_then run (length run) p) bs ≡ true). earlier p (length run) b bs (later_place run (length run) p bs h) in
    elim (fits run (b ∷ bs)) as (λ t. ((t && some_rest p left) || some_rest (fits_then run (length run) p) bs) ≡ passes_behind (some_rest p) (cond t (Some left) (behind_run run bs))) [
      | true ↦ absorbed (some_rest p left) (some_rest (fits_then run (length run) p) bs) later
      | false ↦ first_place run p bs
    ]

-- ---- the last run

too_short : (run : List Element) (name : List ℕ) → length name < length run → fits run name ≡ false
too_short [] name h = absurd (omega arith)
too_short (e ∷ es) [] h = refl
too_short (e ∷ es) (b ∷ bs) h = ap (λ t. stands_for e b && t) (too_short es bs (omega arith)) ∙ elim (stands_for e b) as (λ t. (t && false) ≡ false) [ true ↦ refl | false ↦ refl ]

abbrev fits_whole : List Element → List ℕ → Bool
fits_whole run name = fits run name && is_end (drop (length run) name)

-- more bytes than elements: the run doesn't reach the end from here
last_behind : (run : List Element) (b : ℕ) (bs : List ℕ) → length run ≤ length bs → fits_whole run (b ∷ bs) ≡ false
last_behind [] b bs h = refl
last_behind (e ∷ es) b [] h = absurd (omega arith)
last_behind (e ∷ es) b (c ∷ cs) h =
    ap (λ t. stands_for e b && t && is_end (drop (length es) (c ∷ cs))) refl
    ∙ and_assoc (stands_for e b) (fits es (c ∷ cs)) (is_end (drop (length es) (c ∷ cs)))
    ∙ ap (λ t. stands_for e b && t) (last_behind es c cs (omega arith))
    ∙ elim (stands_for e b) as (λ t. (t && false) ≡ false) [ true ↦ refl | false ↦ refl ]

end_further : (run : List Element) (b : ℕ) (bs : List ℕ) → length run ≤ length bs → fits_end run (b ∷ bs) ≡ fits_end run bs
end_further run b bs h =
    let size : length (b ∷ bs) - length run ≡ suc (length bs - length run) = omega arith in
    let one : nat_le (length run) (length (b ∷ bs)) ≡ true = le-leb (length run) (length (b ∷ bs)) (omega arith) in
    let two : nat_le (length run) (length bs) ≡ true = le-leb (length run) (length bs) h in
    ap (λ k. nat_le (length run) (length (b ∷ bs)) && fits run (drop k (b ∷ bs))) size
    ∙ ap (λ t. t && fits run (drop (length bs - length run) bs)) (one ∙ sym two)

end_short : (run : List Element) (name : List ℕ) → length name < length run → fits_end run name ≡ false
end_short run name h = ap (λ t. t && fits run (drop (length name - length run) name)) (lt-leb (length run) (length name) h)

end_all : (run : List Element) (name : List ℕ) → length run ≡ length name → fits_whole run name ≡ fits_end run name
end_all run name h =
    let none : length name - length run ≡ 0 = omega arith in
    let within : nat_le (length run) (length name) ≡ true = le-leb (length run) (length name) (omega arith) in
    ap (λ left. fits run name && is_end left) (drop_all (length run) name (omega arith))
    ∙ elim (fits run name) as (λ t. (t && true) ≡ (true && t)) [ true ↦ refl | false ↦ refl ]
    ∙ sym (ap (λ k. nat_le (length run) (length name) && fits run (drop k name)) none ∙ ap (λ t. t && fits run name) within)

whole_short : (run : List Element) (name : List ℕ) → length name < length run → fits_whole run name ≡ false
whole_short run name h = ap (λ t. t && is_end (drop (length run) name)) (too_short run name h)

-- some end of the name is the run exactly where its last bytes are
pub last_run : (run : List Element) (name : List ℕ) → some_rest (fits_whole run) name ≡ fits_end run name
last_run [] [] = refl
last_run (e ∷ es) [] = sym (end_short (e ∷ es) [] (omega arith))
last_run run (b ∷ bs) =
    let more = ap (λ t. fits_whole run (b ∷ bs) || t) (last_run run bs) in
    elim (cases_order (length run) (length (b ∷ bs))) as (λ _. some_rest (fits_whole run) (b ∷ bs) ≡ fits_end run (b ∷ bs)) [
      | inl same ↦ more ∙ ap (λ t. fits_whole run (b ∷ bs) || t) (end_short run bs (omega arith)) ∙ elim (fits_whole run (b ∷ bs)) as (λ t. (t || false) ≡ t) [ true ↦ refl | false ↦ refl ] ∙ end_all run (b ∷ bs) same
      | inr (inl less) ↦ more ∙ ap (λ t. t || fits_end run bs) (last_behind run b bs (omega arith)) ∙ sym (end_further run b bs (omega arith))
      | inr (inr above) ↦ more ∙ ap (λ t. t || fits_end run bs) (whole_short run (b ∷ bs) above) ∙ end_short run bs (omega arith) ∙ sym (end_short run (b ∷ bs) above)
    ]

-- ---- the steps of the pass over the runs

run_len_in : (es : List Element) → run_len es ≤ length es
run_len_in [] = omega arith
run_len_in (e ∷ es) =
    let rest = run_len_in es in
    elim (is_any e) as (λ t. cond t 0 (1 + run_len es) ≤ length (e ∷ es)) [ true ↦ omega arith | false ↦ omega arith ]

length_of_run : (es : List Element) → length (take (run_len es) es) ≡ run_len es
length_of_run es = length-take-le (run_len es) es (run_len_in es)

-- the whole pattern
pub whole_by_run : (es run rest : List Element) (name left : List ℕ) (k : ℕ) → k ≡ run_len es → run ≡ take k es → rest ≡ drop k es → left ≡ drop k name → (fits run name && left_passes rest left) ≡ matches es name
whole_by_run es run rest name left k k_is run_is rest_is left_is =
    let fronts : run ≡ take (run_len es) es = run_is ∙ ap (λ j. take j es) k_is in
    let backs : rest ≡ drop (run_len es) es = rest_is ∙ ap (λ j. drop j es) k_is in
    let lefts : left ≡ drop (run_len es) name = left_is ∙ ap (λ j. drop j name) k_is in
    (λ i. fits (fronts i) name && left_passes (backs i) (lefts i)) ∙ sym (matches_by_run es name)

-- the last run
pub ends_last : (es run rest : List Element) (name : List ℕ) (k : ℕ) → k ≡ run_len es → run ≡ take k es → rest ≡ drop k es → length rest < 1 → some_rest (matches es) name ≡ fits_end run name
ends_last es run (r ∷ rest) name k k_is run_is rest_is none = absurd (omega arith)
ends_last es run [] name k k_is run_is rest_is none =
    let fronts : run ≡ take (run_len es) es = run_is ∙ ap (λ j. take j es) k_is in
    let backs : [] ≡ drop (run_len es) es = rest_is ∙ ap (λ j. drop j es) k_is in
    let size : length run ≡ run_len es = ap length fronts ∙ length_of_run es in
    some_agree (matches es) (fits_whole run) (λ m. matches_by_run es m ∙ sym (λ i. fits (fronts i) m && left_passes (backs i) (drop (size i) m))) name
    ∙ last_run run name

-- a run before a `*`
pub ends_more : (es run rest more : List Element) (name : List ℕ) (k : ℕ) → k ≡ run_len es → run ≡ take k es → rest ≡ drop k es → 1 ≤ length rest → more ≡ take (length rest - 1) (drop 1 rest) → some_rest (matches es) name ≡ passes_behind (some_rest (matches more)) (behind_run run name)
ends_more es run [] more name k k_is run_is rest_is some more_is = absurd (omega arith)
ends_more es run (star ∷ rest) more name k k_is run_is rest_is some more_is =
    let fronts : run ≡ take (run_len es) es = run_is ∙ ap (λ j. take j es) k_is in
    let backs : (star ∷ rest) ≡ drop (run_len es) es = rest_is ∙ ap (λ j. drop j es) k_is in
    let size : length run ≡ run_len es = ap length fronts ∙ length_of_run es in
    let behind : more ≡ rest = more_is ∙ take_all (length (star ∷ rest) - 1) rest (omega arith) in
    some_agree (matches es) (fits_then run (length run) (matches rest)) (λ m. matches_by_run es m ∙ sym (λ i. fits (fronts i) m && left_passes (backs i) (drop (size i) m))) name
    ∙ first_place run (matches rest) name
    ∙ ap (λ es. passes_behind (some_rest (matches es)) (behind_run run name)) (sym behind)

-- a run that fits the front
pub behind_here : (run : List Element) (name : List ℕ) → fits run name ≡ true → Some (drop (length run) name) ≡ behind_run run name
behind_here run [] h = sym (ap (λ t. cond t (Some (drop (length run) [])) None) h)
behind_here run (b ∷ bs) h = sym (ap (λ t. cond t (Some (drop (length run) (b ∷ bs))) (behind_run run bs)) h)
