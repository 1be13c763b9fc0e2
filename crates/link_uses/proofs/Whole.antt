-- The pass over all objects gives the references of a link, each with what it needs.
use Rattle.std.proofs.Common.{◌≡◌, ℕ, Bool, true, false, if◌then◌else◌, cond, List, [], ◌∷◌, ◌++◌, map, filter, Result, Ok, Err, refl, sym, ap, ◌∙◌, append_assoc}
use Rattle.std.specs.List.{enumerate_from, flat_map}
use Rattle.std.proofs.lemmas.List.{append-nil}
use Rattle.ifs_bytes.specs.Outcome.{◌>>=◌}
use Rattle.elf_object.specs.declared.reference.Reference.{Reference}
use Rattle.elf_object.specs.Record.{ObjectRecord}
use Rattle.link_machine.specs.Rules.{MachineRules}
use Rattle.link_core.specs.declared.refusal.LinkRefusal.{LinkRefusal}
use Rattle.link_core.specs.Kept.{is_kept}
use Rattle.link_core.specs.Lists.{each_ok}
use Rattle.link_core.specs.Plan.{Needed, needed_by}
use Rattle.link_core.specs.References.{Use, uses_in, uses_of}
use Rattle.link_uses.specs.Uses.{Taken, taken_by, taken_of}
use Rattle.link_uses.specs.Passes.{Given, after, goes, use_of, reference_turn, object_turn, goes_from}

pub then_same : {A B E : Type 0} (m : Result A E) (f g : A → Result B E) → ((x : A) → f x ≡ g x)
    → m >>= f ≡ m >>= g
then_same (Ok x) f g h = h x
then_same (Err e) f g h = refl

pub then_then : {A B C E : Type 0} (m : Result A E) (f : A → Result B E) (k : B → Result C E)
    → (m >>= f) >>= k ≡ m >>= (λ x. f x >>= k)
then_then (Ok x) f k = refl
then_then (Err e) f k = refl

then_ok : {A E : Type 0} (m : Result A E) → m >>= (λ x. Ok x) ≡ m
then_ok (Ok x) = refl
then_ok (Err e) = refl

-- ---- a pass over a list and then over another

goes_append : {S X : Type 0} (turn : S → X → Result S LinkRefusal) (xs ys : List X) (s : S)
    → goes turn s (xs ++ ys) ≡ goes turn s xs >>= (λ n. goes turn n ys)
goes_append turn [] ys s = refl
goes_append turn (x ∷ xs) ys s =
    then_same (turn s x) (λ n. goes turn n (xs ++ ys)) (λ n. goes turn n xs >>= (λ m. goes turn m ys))
    (λ n. goes_append turn xs ys n)
    ∙ sym (then_then (turn s x) (λ n. goes turn n xs) (λ m. goes turn m ys))

module _ (rules : MachineRules) (g : Given) where
  abbrev need : Use → Result Needed LinkRefusal
  need = needed_by rules g.options g.objects g.names

  abbrev take : Use → Result Taken LinkRefusal
  take = taken_by rules g.options g.objects g.names

  abbrev use_turn : List Taken → Use → Result (List Taken) LinkRefusal
  use_turn s u = need u >>= (λ n. Ok (after s u n))

  -- ---- the references of an object, and those of all

  references_are : (object : ℕ) (o : ObjectRecord) (refs : List Reference) (s : List Taken)
      → goes (reference_turn rules g object o) s refs
      ≡ goes use_turn s (map (use_of object o)
      (filter (λ r. is_kept g.names.dropped object o r.section) refs))
  unfolding reference_turn
  references_are object o [] s = refl
  references_are object o (r ∷ rs) s =
      by (is_kept g.names.dropped object o r.section) (λ n. references_are object o rs n)
    where
      by : (t : Bool)
          → ((n : List Taken) → goes (reference_turn rules g object o) n rs ≡ goes use_turn n (map
          (use_of object o) (filter (λ q. is_kept g.names.dropped object o q.section) rs)))
          → (if t then use_turn s (use_of object o r) else Ok s)
          >>= (λ n. goes (reference_turn rules g object o) n rs)
          ≡ goes use_turn s (map (use_of object o)
          (cond t (r ∷ filter (λ q. is_kept g.names.dropped object o q.section) rs)
          (filter (λ q. is_kept g.names.dropped object o q.section) rs)))
      by true rest = then_same (use_turn s (use_of object o r)) _ _ rest
      by false rest = rest s

  objects_are : (os : List (ℕ × ObjectRecord)) (s : List Taken)
      → goes (object_turn rules g) s os ≡ goes use_turn s (flat_map (uses_in g.names.dropped) os)
  unfolding object_turn
  objects_are [] s = refl
  objects_are (o ∷ os) s =
      ap (λ (r : Result (List Taken) LinkRefusal). r >>= (λ n. goes (object_turn rules g) n os))
      (references_are o.0 o.1 o.1.references s)
      ∙ then_same (goes use_turn s (uses_in g.names.dropped o)) (λ n. goes (object_turn rules g) n os)
      (λ n. goes use_turn n (flat_map (uses_in g.names.dropped) os)) (λ n. objects_are os n)
      ∙ sym (goes_append use_turn (uses_in g.names.dropped o) (flat_map (uses_in g.names.dropped) os) s)

  -- ---- what all references need

  one_use : (u : Use) (n : Result Needed LinkRefusal) (rest : Result (List Taken) LinkRefusal)
      (next : List Taken → Result (List Taken) LinkRefusal) (s : List Taken)
      → ((t : List Taken) → next t ≡ rest >>= (λ ts. Ok (t ++ ts)))
      → (n >>= (λ m. Ok (after s u m))) >>= next
      ≡ ((n >>= (λ m. Ok (record { used = u; needed = m }))) >>= (λ y. rest >>= (λ ys. Ok (y ∷ ys))))
      >>= (λ ts. Ok (s ++ ts))
  one_use u (Err e) rest next s h = refl
  one_use u (Ok m) rest next s h =
      let y : Taken = record { used = u; needed = m } in
      h (after s u m)
      ∙ then_same rest (λ ts. Ok ((s ++ y ∷ []) ++ ts)) (λ ts. Ok (s ++ y ∷ ts))
      (λ ts. ap (λ (zs : List Taken). Ok zs) (append_assoc s (y ∷ []) ts))
      ∙ sym (then_then rest (λ ys. Ok (y ∷ ys)) (λ ts. Ok (s ++ ts)))

  uses_are : (us : List Use) (s : List Taken) → goes use_turn s us ≡ each_ok take us >>= (λ ts. Ok (s ++ ts))
  uses_are [] s = ap (λ (zs : List Taken). Ok zs) (sym (append-nil s))
  uses_are (u ∷ us) s = one_use u (need u) (each_ok take us) (λ t. goes use_turn t us) s (λ t. uses_are us t)

  pub taken_is : goes_from rules g [] 0 ≡ taken_of rules g.options g.objects g.names
  unfolding taken_of uses_of
  taken_is =
      let us = flat_map (uses_in g.names.dropped) (enumerate_from 0 g.objects) in
      objects_are (enumerate_from 0 g.objects) [] ∙ uses_are us [] ∙ then_ok (each_ok take us)
