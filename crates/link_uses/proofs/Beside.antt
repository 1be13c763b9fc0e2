-- Laws on references that are each taken with what it needs.
use Rattle.std.proofs.Common.{◌≡◌, List, [], ◌∷◌, map, Result, Ok, Err, refl, sym, ap, ◌∙◌, subst}
use Rattle.ifs_bytes.specs.Outcome.{◌>>=◌}
use Rattle.link_core.specs.declared.refusal.LinkRefusal.{LinkRefusal}
use Rattle.link_core.specs.Lists.{each_ok}
use Rattle.link_core.specs.Plan.{Needed, needed_by, plan_of, planned}
use Rattle.link_core.specs.Planned.{need_or_none, need_in}
use Rattle.link_core.specs.References.{Use, uses_of}
use Rattle.link_uses.specs.Uses.{Taken, taken_of}
use Rattle.link_uses.specs.Laws.{UsesAreTaken, NeedsAreTaken, PlanIsOfTaken}
use Rattle.link_uses.proofs.Whole.{then_then}

abbrev list_in : Result (List Taken) LinkRefusal → List Taken
list_in (Ok xs) = xs
list_in (Err e) = []

abbrev with : Use → Needed → Taken
with u n = record { used = u; needed = n }

abbrev more : Use → Result Needed LinkRefusal → Result (List Taken) LinkRefusal
    → Result (List Taken) LinkRefusal
more u n m = (n >>= (λ k. Ok (with u k))) >>= (λ y. m >>= (λ ys. Ok (y ∷ ys)))

module _ (f : Use → Result Needed LinkRefusal) where
  abbrev takes : Use → Result Taken LinkRefusal
  takes u = f u >>= (λ n. Ok (with u n))

  one_used : (u : Use) (us : List Use) (n : Result Needed LinkRefusal) (m : Result (List Taken) LinkRefusal)
      (ts : List Taken) → ((xs : List Taken) → m ≡ Ok xs → map (λ t. t.used) xs ≡ us) → more u n m ≡ Ok ts
      → map (λ t. t.used) ts ≡ u ∷ us
  one_used u us (Err c) m ts h e = absurd (cc)
  one_used u us (Ok k) (Err c) ts h e = absurd (cc)
  one_used u us (Ok k) (Ok xs) ts h e =
      sym (ap (λ (q : Result (List Taken) LinkRefusal). map (λ t. t.used) (list_in q)) e)
      ∙ ap (λ zs. u ∷ zs) (h xs refl)

  used_are : (us : List Use) (ts : List Taken) → each_ok takes us ≡ Ok ts → map (λ t. t.used) ts ≡ us
  used_are [] ts e = sym (ap (λ (q : Result (List Taken) LinkRefusal). map (λ t. t.used) (list_in q)) e)
  used_are (u ∷ us) ts e = one_used u us (f u) (each_ok takes us) ts (λ xs h. used_are us xs h) e

  abbrev Right : List Taken → Type 0
  Right ts = map (λ t. t.needed) ts ≡ map (λ t. need_or_none t.used (f t.used)) ts

  one_needed : (u : Use) (n : Result Needed LinkRefusal) (m : Result (List Taken) LinkRefusal)
      (ts : List Taken) → f u ≡ n → ((xs : List Taken) → m ≡ Ok xs → Right xs) → more u n m ≡ Ok ts → Right ts
  one_needed u (Err c) m ts is h e = absurd (cc)
  one_needed u (Ok k) (Err c) ts is h e = absurd (cc)
  one_needed u (Ok k) (Ok xs) ts is h e =
      let here : Right (with u k ∷ xs) =
      ap (λ zs. k ∷ zs) (h xs refl)
      ∙ sym (ap
      (λ (q : Result Needed LinkRefusal). need_or_none u q ∷ map (λ t. need_or_none t.used (f t.used)) xs)
      is) in
      subst (λ (q : Result (List Taken) LinkRefusal). Right (list_in q)) e here

  needed_are : (us : List Use) (ts : List Taken) → each_ok takes us ≡ Ok ts → Right ts
  needed_are [] ts e = subst (λ (q : Result (List Taken) LinkRefusal). Right (list_in q)) e refl
  needed_are (u ∷ us) ts e = one_needed u (f u) (each_ok takes us) ts refl (λ xs h. needed_are us xs h) e

  one_plan : (u : Use) (n : Result Needed LinkRefusal) (a : Result (List Needed) LinkRefusal)
      (m : Result (List Taken) LinkRefusal) → a ≡ m >>= (λ ts. Ok (map (λ t. t.needed) ts))
      → n >>= (λ y. a >>= (λ ys. Ok (y ∷ ys))) ≡ more u n m >>= (λ ts. Ok (map (λ t. t.needed) ts))
  one_plan u (Err c) a m h = refl
  one_plan u (Ok k) a (Ok xs) h = ap (λ (q : Result (List Needed) LinkRefusal). q >>= (λ ys. Ok (k ∷ ys))) h
  one_plan u (Ok k) a (Err c) h = ap (λ (q : Result (List Needed) LinkRefusal). q >>= (λ ys. Ok (k ∷ ys))) h

  all_needed : (us : List Use) → each_ok f us ≡ each_ok takes us >>= (λ ts. Ok (map (λ t. t.needed) ts))
  all_needed [] = refl
  all_needed (u ∷ us) = one_plan u (f u) (each_ok f us) (each_ok takes us) (all_needed us)

pub uses_are_taken : UsesAreTaken
unfolding taken_of
uses_are_taken j ts e =
    used_are (needed_by j.rules j.options j.objects j.names) (uses_of j.names.dropped j.objects) ts e

pub needs_are_taken : NeedsAreTaken
unfolding taken_of need_in
needs_are_taken j ts e =
    needed_are (needed_by j.rules j.options j.objects j.names) (uses_of j.names.dropped j.objects) ts e

pub plan_is_of_taken : PlanIsOfTaken
unfolding taken_of plan_of
plan_is_of_taken rules options objects r =
    let f = needed_by rules options objects r in
    let us = uses_of r.dropped objects in
    ap (λ (q : Result (List Needed) LinkRefusal). q >>= (λ all. Ok (planned r all))) (all_needed f us)
    ∙ then_then (each_ok (takes f) us) (λ ts. Ok (map (λ t. t.needed) ts)) (λ all. Ok (planned r all))
