-- The reading of a pattern gives elements that stand for it, or its first broken element.
use Rattle.std.proofs.Common.{◌≡◌, ℕ, zero, suc, ◌+◌, ◌-◌, ◌≤◌, inl, inr, Bool, true, false, cond, ◌||◌, List, [], ◌∷◌, ◌++◌, drop, length, length-drop, Option, Some, None, refl, ap, sym, subst, ◌∙◌, arith}
use Rattle.std.specs.Prelude.{Result, Ok, Err}
use Rattle.std.specs.Str.{byte}
use Rattle.std.proofs.lemmas.Bool.{and_parts, and_from, or_cases, or_right}
use Rattle.ifs_edit.specs.declared.element.Element.{Element}
use Rattle.ifs_edit.specs.declared.element.Element.TheVariants.{Any}
use Rattle.ifs_edit.specs.declared.cause.GlobCause.{GlobCause}
use Rattle.ifs_edit.specs.declared.cause.GlobCause.TheVariants.{BadGlob, Memory}
use Rattle.ifs_bytes.specs.Outcome.{UnlessMemory}
use Rattle.ifs_edit.specs.Glob.{is_any, is_end, matches, one_then, some_rest, stands_for, takes}
use Rattle.ifs_edit.specs.Elements.{Front, before_all, element_at, element_then, elements_from}
use Rattle.ifs_edit.specs.Parsed.{caused, glob_of}
use Rattle.ifs_edit.specs.Pattern.{Matches, end, star, one, IsElement, any_bytes, one_byte, AreElements, none, more, IsBroken, BrokenAt}
use Rattle.ifs_edit.specs.Read.{IsRead}
use Rattle.ifs_edit.proofs.Reading.{elements_passed}
use Rattle.ifs_edit.proofs.SetsAgree.{Stands, front_sound, front_of, behind_first, one_complete}

-- ---- what is read, taken apart

abbrev ok_or : {X E : Type 0} → X → Result X E → X
ok_or x (Ok y) = y
ok_or x (Err e) = x

abbrev err_or : {X E : Type 0} → E → Result X E → E
err_or e (Ok y) = e
err_or e (Err f) = f

same_ok : {X E : Type 0} (x y : X) → (e : Result X E) → e ≡ Ok y → Ok x ≡ e → x ≡ y
same_ok x y e is h = ap (ok_or x) (h ∙ is)

before_from : (e : Element) (r : Result (List Element) ℕ) (es : List Element) → before_all e r ≡ Ok es → (left : List Element) × (r ≡ Ok left) × (e ∷ left ≡ es)
before_from e (Ok left) es h = (left, refl, ap (ok_or []) h)
before_from e (Err at) es h = absurd (cc)

before_err : (e : Element) (r : Result (List Element) ℕ) (at : ℕ) → before_all e r ≡ Err at → r ≡ Err at
before_err e (Ok left) at h = absurd (cc)
before_err e (Err here) at h = ap (λ n. Err n) (ap (err_or 0) h)

-- ---- names that the elements match

end_of : (name : List ℕ) → is_end name ≡ true → Matches [] name
end_of [] h = end
end_of (b ∷ bs) h = absurd (cc)

abbrev Taken : (List ℕ → Bool) → List ℕ → Type 0
Taken passes name = (taken : List ℕ) × (left : List ℕ) × (taken ++ left ≡ name) × (passes left ≡ true)

some_from : (passes : List ℕ → Bool) (name : List ℕ) → some_rest passes name ≡ true → Taken passes name
some_from passes [] h = ([], [], refl, h)
some_from passes (b ∷ bs) h = elim (or_cases (passes (b ∷ bs)) (some_rest passes bs) h) as (λ _. Taken passes (b ∷ bs)) [
  | inl here ↦ ([], b ∷ bs, refl, here)
  | inr later ↦ let r = some_from passes bs later in (b ∷ r.0, r.1, ap (λ w. b ∷ w) r.2, r.3)
]

or_left : (x y : Bool) → x ≡ true → (x || y) ≡ true
or_left true y h = refl
or_left false y h = absurd (cc)

some_here : (passes : List ℕ → Bool) (name : List ℕ) → passes name ≡ true → some_rest passes name ≡ true
some_here passes [] h = h
some_here passes (b ∷ bs) h = or_left (passes (b ∷ bs)) (some_rest passes bs) h

some_to : (passes : List ℕ → Bool) (taken name : List ℕ) → passes name ≡ true → some_rest passes (taken ++ name) ≡ true
some_to passes [] name h = some_here passes name h
some_to passes (b ∷ bs) name h = or_right (passes (b ∷ bs ++ name)) (some_rest passes (bs ++ name)) (some_to passes bs name h)

front_takes : (ts rest : List ℕ) (e : Element) (passes : List ℕ → Bool) → ((n : List ℕ) → passes n ≡ true → Matches rest n) → Stands ts e rest
    → (name : List ℕ) → takes e passes name ≡ true → Matches ts name
front_takes ts rest e passes below (inl (is, whole)) name h =
    let some : some_rest passes name ≡ true = ap (λ e. takes e passes name) (sym is) ∙ h in
    let r = some_from passes name some in
    let P : List ℕ → Type 0 = λ w. Matches w name in
    let Q : List ℕ → Type 0 = λ w. Matches (byte "*" ∷ rest) w in
    subst P (sym whole) (subst Q r.2 (star r.0 (below r.1 r.3)))
front_takes ts rest e passes below (inr (is, stands)) [] h = absurd (cc (ap (λ t. cond t (some_rest passes []) (one_then e passes [])) (sym is) ∙ h))
front_takes ts rest e passes below (inr (is, stands)) (b ∷ bs) h =
    let first : one_then e passes (b ∷ bs) ≡ true = ap (λ t. cond t (some_rest passes (b ∷ bs)) (one_then e passes (b ∷ bs))) (sym is) ∙ h in
    let parts = and_parts (stands_for e b) (passes bs) first in
    one stands parts.0 (below bs parts.1)

nothing_left : (k : ℕ) → drop {A = ℕ} k [] ≡ []
nothing_left zero = refl
nothing_left (suc k) = refl

matches_sound : (bytes : List ℕ) (k at : ℕ) (es : List Element) → elements_from at k bytes ≡ Ok es → (name : List ℕ) → matches es name ≡ true
    → Matches (drop k bytes) name
matches_sound [] k at es h name g =
    let P : List ℕ → Type 0 = λ w. Matches w name in
    let same : [] ≡ es = ap (ok_or []) h in
    subst P (sym (nothing_left k)) (end_of name (ap (λ es. matches es name) same ∙ g))
matches_sound (b ∷ bs) (suc k) at es h name g = matches_sound bs k (at + 1) es h name g
matches_sound (b ∷ bs) zero at es h name g = by_front (matches_sound bs) (element_at b bs) refl h
  where
    by_front : ((k at : ℕ) (es : List Element) → elements_from at k bs ≡ Ok es → (name : List ℕ) → matches es name ≡ true → Matches (drop k bs) name)
        → (o : Option Front) → element_at b bs ≡ o → element_then at o (λ k. elements_from (at + 1) k bs) ≡ Ok es → Matches (b ∷ bs) name
    by_front below None e h = absurd (cc)
    by_front below (Some front) e h =
        let r = before_from front.0 (elements_from (at + 1) front.1 bs) es h in
        let taken : takes front.0 (matches r.0) name ≡ true = ap (λ es. matches es name) r.2 ∙ g in
        front_takes (b ∷ bs) (drop front.1 bs) front.0 (matches r.0) (below front.1 (at + 1) r.0 r.1) (front_sound b bs front e) name taken

-- ---- names that the pattern matches

-- an element, and what is behind it
elements_step : (at : ℕ) (ts rest : List ℕ) (front : Front) → front_of ts ≡ Some front → drop front.1 (behind_first ts) ≡ rest
    → (elements_from at 0 ts ≡ before_all front.0 (elements_from (at + length ts - length rest) 0 rest)) × (length rest ≤ length ts)
elements_step at [] rest front h left = absurd (cc)
elements_step at (b ∷ bs) rest front h left =
    let k = front.1 in
    let size : length rest ≡ length bs - k = ap length (sym left) ∙ length-drop k bs in
    let place : at + 1 + length bs - length (drop k bs) ≡ at + length (b ∷ bs) - length (drop k bs) = omega arith in
    let F : List ℕ → ℕ → Result (List Element) ℕ = λ w n. before_all front.0 (elements_from n 0 w) in (
      ap (λ o. element_then at o (λ k. elements_from (at + 1) k bs)) h
          ∙ ap (before_all front.0) (elements_passed (at + 1) k bs)
          ∙ ap (F (drop k bs)) place
          ∙ ap (λ w. F w (at + length (b ∷ bs) - length w)) left,
      omega (arith, size),
    )

abbrev Reads : List ℕ → List ℕ → ℕ → Type 0
Reads pattern name at = (es : List Element) × (elements_from at 0 pattern ≡ Ok es) × (matches es name ≡ true)

takes_one : (e : Element) (b : ℕ) (name : List ℕ) (es : List Element) → is_any e ≡ false → stands_for e b ≡ true → matches es name ≡ true
    → matches (e ∷ es) (b ∷ name) ≡ true
takes_one e b name es is here behind =
    ap (λ t. cond t (some_rest (matches es) (b ∷ name)) (one_then e (matches es) (b ∷ name))) is
    ∙ and_from (stands_for e b) (matches es name) here behind

matches_complete : (pattern name : List ℕ) → Matches pattern name → (at : ℕ) → Reads pattern name at
matches_complete pattern name end at = ([], refl, refl)
matches_complete pattern name (star {pattern = rest} {name = left} taken h) at =
    let r = matches_complete rest left h (at + 1) in
    (Any ∷ r.0, ap (before_all Any) r.1, some_to (matches r.0) taken left r.2)
matches_complete pattern name (one {rest = rest} {name = left} {has = has} {b = b} stands holds h) at =
    let f = one_complete pattern rest has stands in
    let r = matches_complete rest left h (at + length pattern - length rest) in
    let step = elements_step at pattern rest f.front f.is f.left in
    (f.front.0 ∷ r.0, step.0 ∙ ap (before_all f.front.0) r.1, takes_one f.front.0 b left r.0 f.one (f.same b ∙ holds) r.2)

-- ---- the first broken element

abbrev ElementRead : List ℕ → List ℕ → Type 0
ElementRead ts rest = (front : Front) × (front_of ts ≡ Some front) × (drop front.1 (behind_first ts) ≡ rest)

element_complete : (ts rest : List ℕ) → IsElement ts rest → ElementRead ts rest
element_complete ts rest any_bytes = ((Any, 0), refl, refl)
element_complete ts rest (one_byte {has = has} h) = let f = one_complete ts rest has h in (f.front, f.is, f.left)

element_of : (ts rest : List ℕ) (e : Element) → Stands ts e rest → IsElement ts rest
element_of ts rest e (inl (is, whole)) = let P : List ℕ → Type 0 = λ w. IsElement w rest in subst P (sym whole) any_bytes
element_of ts rest e (inr (is, stands)) = one_byte stands

none_stands : (ts : List ℕ) → front_of ts ≡ None → (rest : List ℕ) → IsElement ts rest → ⊥
none_stands ts h rest e = let r = element_complete ts rest e in absurd (cc (h, r.1))

abbrev BrokenBehind : List ℕ → ℕ → ℕ → Type 0
BrokenBehind ts at size = (rest : List ℕ) × AreElements ts rest × IsBroken rest × (at + length rest ≡ size)

broken_sound : (bytes : List ℕ) (k at n : ℕ) → elements_from at k bytes ≡ Err n → BrokenBehind (drop k bytes) n (at + length bytes)
broken_sound [] k at n h = absurd (cc)
broken_sound (b ∷ bs) (suc k) at n h =
    let r = broken_sound bs k (at + 1) n h in
    (r.0, r.1, r.2, omega (arith, r.3))
broken_sound (b ∷ bs) zero at n h = by_front (broken_sound bs) (element_at b bs) refl h
  where
    by_front : ((k at n : ℕ) → elements_from at k bs ≡ Err n → BrokenBehind (drop k bs) n (at + length bs))
        → (o : Option Front) → element_at b bs ≡ o → element_then at o (λ k. elements_from (at + 1) k bs) ≡ Err n
        → BrokenBehind (b ∷ bs) n (at + length (b ∷ bs))
    by_front below None e h =
        let same : at ≡ n = ap (err_or 0) h in
        (b ∷ bs, none, (omega arith, none_stands (b ∷ bs) e), ap (λ w. w + length (b ∷ bs)) (sym same))
    by_front below (Some front) e h =
        let r = below front.1 (at + 1) n (before_err front.0 (elements_from (at + 1) front.1 bs) n h) in
        (r.0, more (element_of (b ∷ bs) (drop front.1 bs) front.0 (front_sound b bs front e)) r.1, r.2, omega (arith, r.3))

broken_here : (ts : List ℕ) → IsBroken ts → (at : ℕ) → elements_from at 0 ts ≡ Err at
broken_here [] h at = absurd (omega (arith, h.0))
broken_here (b ∷ bs) h at = by_front (element_at b bs) refl
  where
    by_front : (o : Option Front) → element_at b bs ≡ o → elements_from at 0 (b ∷ bs) ≡ Err at
    by_front None e = ap (λ o. element_then at o (λ k. elements_from (at + 1) k bs)) e
    by_front (Some front) e = absurd (h.1 (drop front.1 bs) (element_of (b ∷ bs) (drop front.1 bs) front.0 (front_sound b bs front e)))

broken_complete : (ts rest : List ℕ) → AreElements ts rest → IsBroken rest → (at : ℕ) → elements_from at 0 ts ≡ Err (at + length ts - length rest)
broken_complete ts rest none broken at = let same : at ≡ at + length ts - length ts = omega arith in broken_here ts broken at ∙ ap (λ n. Err n) same
broken_complete ts rest (more {after = after} e es) broken at =
    let f = element_complete ts after e in
    let step = elements_step at ts after f.0 f.1 f.2 in
    let below = broken_complete after rest es broken (at + length ts - length after) in
    let within = step.1 in
    let place : at + length ts - length after + length after - length rest ≡ at + length ts - length rest = omega (arith, within) in
    step.0 ∙ ap (before_all f.0.0) below ∙ ap (λ n. Err n) place

-- ---- the laws

pub broken_is_refused : (pattern : List ℕ) (at : ℕ) → BrokenAt pattern at → glob_of pattern ≡ Err (BadGlob at)
broken_is_refused pattern at h =
    let size = h.3 in
    let place : 0 + length pattern - length h.0 ≡ at = omega (arith, size) in
    ap caused (broken_complete pattern h.0 h.1 h.2 0) ∙ ap (λ n. Err (BadGlob n)) place

matched : (pattern name : List ℕ) (es : List Element) → elements_from 0 0 pattern ≡ Ok es → Reads pattern name 0 → matches es name ≡ true
matched pattern name es e r = let same : r.0 ≡ es = ap (ok_or []) (sym r.1 ∙ e) in ap (λ es. matches es name) (sym same) ∙ r.2

none_broken : (pattern : List ℕ) (es : List Element) → elements_from 0 0 pattern ≡ Ok es → (at : ℕ) → BrokenAt pattern at → ⊥
none_broken pattern es e at h = let refused = broken_is_refused pattern at h in absurd (cc (ap caused e, refused))

pub patterns_read : (pattern : List ℕ) → IsRead pattern (glob_of pattern)
patterns_read pattern = by_reading (elements_from 0 0 pattern) refl
  where
    by_reading : (r : Result (List Element) ℕ) → elements_from 0 0 pattern ≡ r → IsRead pattern (caused r)
    by_reading (Err at) e = let r = broken_sound pattern 0 0 at e in let size = r.3 in (r.0, r.1, r.2, omega (arith, size))
    by_reading (Ok es) e = (
      none_broken pattern es e,
      λ name. (matches_sound pattern 0 0 es e name, λ h. matched pattern name es e (matches_complete pattern name h 0)),
    )

pub read_unless_memory : (pattern : List ℕ) (r : Result (List Element) GlobCause) → UnlessMemory Memory r (glob_of pattern) → IsRead pattern r
read_unless_memory pattern r (inl memory) = let P : Result (List Element) GlobCause → Type 0 = IsRead pattern in subst P (sym memory) tt
read_unless_memory pattern r (inr is) = let P : Result (List Element) GlobCause → Type 0 = IsRead pattern in subst P (sym is) (patterns_read pattern)

pub read_broken : (pattern : List ℕ) (at : ℕ) → glob_of pattern ≡ Err (BadGlob at) → BrokenAt pattern at
read_broken pattern at h = let P : Result (List Element) GlobCause → Type 0 = IsRead pattern in subst P h (patterns_read pattern)
