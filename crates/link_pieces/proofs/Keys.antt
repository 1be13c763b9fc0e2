-- Signatures as the keys of a set: references to their bytes.
use Rattle.std.proofs.Common.{◌≡◌, ℕ, Bool, true, false, List, [], ◌∷◌, ◌++◌, refl, ap, ◌∙◌}
use Rattle.std.proofs.lemmas.List.{map-append}
use Rattle.std.specs.Prelude.{not, ◌||◌, if◌then◌else◌, nat_eq}
use Rattle.std.specs.Cmp.Lexicographic.{pointwise}
use Rattle.std.specs.List.{list_any}
use Rattle.indexmap.specs.IndexSet.{insert_key}
use Rattle.link_pieces.specs.Marks.{names, is_seen, seen_with}
use denote.Ref.{Bor}

pub key_seen : (keys : List (Bor (List ℕ))) (x : List ℕ) → list_any (λ y. pointwise nat_eq x y.now) keys ≡ is_seen (names keys) x
key_seen [] x = refl
key_seen (k ∷ keys) x = ap (λ b. pointwise nat_eq x k.now || b) (key_seen keys x)

pub key_put : (keys : List (Bor (List ℕ))) (x : Bor (List ℕ)) → names (insert_key (λ y z. pointwise nat_eq y.now z.now) keys x) ≡ seen_with (names keys) x.now
key_put keys x =
    by (list_any (λ y. pointwise nat_eq x.now y.now) keys)
    ∙ ap (λ b. if b then names keys else names keys ++ x.now ∷ []) (key_seen keys x.now)
  where
    by : (b : Bool) → names (if b then keys else keys ++ x ∷ []) ≡ (if b then names keys else names keys ++ x.now ∷ [])
    by true = refl
    by false = map-append (λ k. k.now) keys (x ∷ [])

pub not_not : (b : Bool) → not (not b) ≡ b
not_not true = refl
not_not false = refl
