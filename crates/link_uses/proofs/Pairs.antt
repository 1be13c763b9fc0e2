-- The set of dropped sections.
use Rattle.std.proofs.Common.{◌≡◌, ℕ, ◌+◌, ◌<◌, ◌==◌, Bool, true, false, ◌&&◌, ◌||◌, if◌then◌else◌, List, [], ◌∷◌, ◌++◌, length, drop, get_or, refl, sym, ap, ◌∙◌, subst, inl, inr, arith, not, Option, None}
use Rattle.std.specs.List.{list_any}
use Rattle.std.specs.Prelude.{slice_get, unwrap_or}
use Rattle.std.specs.Option.{option_map_or}
use Rattle.std.specs.Cmp.{nat_eq_equiv, unsigned_Decides}
use Rattle.std.proofs.lemmas.Bool.{and_parts, cases_lt}
use Rattle.std.proofs.lemmas.Option.{slice_get_past}
use Rattle.std.proofs.lemmas.List.{at_drop_more}
use Rattle.std.proofs.lemmas.List.Folds.{list_any-append}
use Rattle.elf_object.specs.declared.section.ObjSection.{ObjSection}
use Rattle.elf_object.specs.Record.{ObjectRecord}
use Rattle.elf_object.specs.Sections.{is_loadable}
use Rattle.link_core.specs.declared.resolution.Member.{Member}
use Rattle.link_core.specs.Kept.{is_among, is_kept}
use Rattle.link_uses.specs.Passes.{is_pair, has_flag, AreKept}

-- the pairs, and the dropped sections that are still to be put there
abbrev pub AreDroppedFrom : List Member → List (ℕ × ℕ) → ℕ → Type 0
AreDroppedFrom dropped pairs i =
    (object section : ℕ)
    → (list_any (is_pair object section) pairs || is_among (drop i dropped) object section)
    ≡ is_among dropped object section

abbrev pub put_pair : List (ℕ × ℕ) → ℕ × ℕ → List (ℕ × ℕ)
put_pair pairs x = if list_any (is_pair x.0 x.1) pairs then pairs else pairs ++ x ∷ []

either : (a b c : Bool) → ((a || b) || c) ≡ (a || (b || c))
either true b c = refl
either false b c = refl

or_none : (b : Bool) → (b || false) ≡ b
or_none true = refl
or_none false = refl

any_last : {A : Type 0} (p : A → Bool) (xs : List A) (x : A)
    → list_any p (xs ++ x ∷ []) ≡ (list_any p xs || p x)
any_last p xs x = list_any-append p xs (x ∷ []) ∙ ap (λ b. list_any p xs || b) (or_none (p x))

same_number : (a b : ℕ) → (a == b) ≡ true → a ≡ b
same_number a b h = (unsigned_Decides a b).0 h

turned : (a b : ℕ) → (a == b) ≡ (b == a)
turned a b = nat_eq_equiv.symm a b

module _ (object section : ℕ) where
  abbrev p : ℕ × ℕ → Bool
  p = is_pair object section

  there : (pairs : List (ℕ × ℕ)) (x : ℕ × ℕ) → list_any (is_pair x.0 x.1) pairs ≡ true → p x ≡ true
      → list_any p pairs ≡ true
  there pairs x h here =
      let parts = and_parts (object == x.0) (section == x.1) here in
      let P : ℕ → ℕ → Type 0 = λ o s. list_any (is_pair o s) pairs ≡ true in
      subst (λ o. P o section) (sym (same_number object x.0 parts.0))
      (subst (λ s. P x.0 s) (sym (same_number section x.1 parts.1)) h)

  among_put : (pairs : List (ℕ × ℕ)) (x : ℕ × ℕ) (t u : Bool) → list_any (is_pair x.0 x.1) pairs ≡ t → p x ≡ u
      → list_any p (if t then pairs else pairs ++ x ∷ []) ≡ (list_any p pairs || u)
  among_put pairs x true true e f = let h = there pairs x e f in h ∙ sym (ap (λ b. b || true) h)
  among_put pairs x true false e f = sym (or_none (list_any p pairs))
  among_put pairs x false u e f = any_last p pairs x ∙ ap (λ b. list_any p pairs || b) f

  any_put : (pairs : List (ℕ × ℕ)) (x : ℕ × ℕ) → list_any p (put_pair pairs x) ≡ (list_any p pairs || p x)
  any_put pairs x = among_put pairs x (list_any (is_pair x.0 x.1) pairs) (p x) refl refl

  met : (m : Member) → p (m.object, m.section) ≡ (m.object == object && m.section == section)
  met m =
      ap (λ a. a && section == m.section) (turned object m.object)
      ∙ ap (λ b. m.object == object && b) (turned section m.section)

  one_more : (dropped : List Member) (pairs new : List (ℕ × ℕ)) (i : ℕ) (d : Member) → i < length dropped
      → new ≡ put_pair pairs ((get_or dropped i d).object, (get_or dropped i d).section)
      → (list_any p pairs || is_among (drop i dropped) object section) ≡ is_among dropped object section
      → (list_any p new || is_among (drop (i + 1) dropped) object section) ≡ is_among dropped object section
  one_more dropped pairs new i d h e so_far =
      let m = get_or dropped i d in
      let x : ℕ × ℕ = (m.object, m.section) in
      let rest = is_among (drop (i + 1) dropped) object section in
      ap (λ ks. list_any p ks || rest) e ∙ ap (λ b. b || rest) (any_put pairs x)
      ∙ either (list_any p pairs) (p x) rest
      ∙ ap (λ b. list_any p pairs || (b || rest)) (met m)
      ∙ ap (λ b. list_any p pairs || b) (sym (at_drop_more (λ ms. is_among ms object section) dropped i d h))
      ∙ so_far

pub dropped_more : (dropped : List Member) (pairs new : List (ℕ × ℕ)) (i : ℕ) (d : Member)
    → i < length dropped → new ≡ put_pair pairs ((get_or dropped i d).object, (get_or dropped i d).section)
    → AreDroppedFrom dropped pairs i → AreDroppedFrom dropped new (i + 1)
dropped_more dropped pairs new i d h e so_far object section =
    one_more object section dropped pairs new i d h e (so_far object section)

-- ---- flags

no_section : (dropped : List Member) (object : ℕ) (o : ObjectRecord) (section : ℕ)
    → slice_get o.sections section ≡ None → is_kept dropped object o section ≡ false
unfolding is_kept
no_section dropped object o section e =
    ap (λ (s : Option ObjSection). option_map_or is_loadable s false && not (is_among dropped object section))
    e

pub whole_flags : (dropped : List Member) (object : ℕ) (o : ObjectRecord) (flags : List Bool) (count : ℕ)
    → length flags ≡ count → count ≡ length o.sections
    → ((k : ℕ) → k < count → has_flag flags k ≡ is_kept dropped object o k) → AreKept dropped object o flags
whole_flags dropped object o flags count many all each section =
    elim (cases_lt section count) as (λ _. has_flag flags section ≡ is_kept dropped object o section) [
      | inl within ↦ each section within
      | inr past ↦ ap (λ (f : Option Bool). unwrap_or f false)
          (slice_get_past flags section (omega (arith, many)))
          ∙ sym (no_section dropped object o section (slice_get_past o.sections section (omega (arith, all))))
    ]
