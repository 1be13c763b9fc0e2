-- Ascending positions, by the first of them.
use Rattle.std.proofs.Common.{◌≡◌, ℕ, ◌+◌, ◌<◌, ◌≤◌, Bool, true, false, ◌&&◌, List, ◌∷◌, nat_lt, refl, ap, ◌∙◌, arith}
use Rattle.std.specs.Prelude.{nat_le}
use Rattle.std.proofs.lemmas.Bool.Decides.{nat_tests}
use Rattle.tbd_core.specs.Normal.{ascend_from}

pub below_least : (least n p : ℕ) (ps : List ℕ) → p < least → ascend_from least n (p ∷ ps) ≡ false
below_least least n p ps h =
    let test : nat_le least p ≡ false = grind (arith, nat_tests) in
    ap (λ t. (t && nat_lt p n) && ascend_from (p + 1) n ps) test

none_behind : (a b : Bool) → ((a && false) && b) ≡ false
none_behind true b = refl
none_behind false b = refl

pub past_count : (least n p : ℕ) (ps : List ℕ) → n ≤ p → ascend_from least n (p ∷ ps) ≡ false
past_count least n p ps h =
    let test : nat_lt p n ≡ false = grind (arith, nat_tests) in
    ap (λ t. (nat_le least p && t) && ascend_from (p + 1) n ps) test ∙ none_behind (nat_le least p) (ascend_from (p + 1) n ps)

pub goes_on : (least n p : ℕ) (ps : List ℕ) → least ≤ p → p < n → ascend_from least n (p ∷ ps) ≡ ascend_from (p + 1) n ps
goes_on least n p ps h g =
    let above : nat_le least p ≡ true = grind (arith, nat_tests) in
    let below : nat_lt p n ≡ true = grind (arith, nat_tests) in
    λ i. (above i && below i) && ascend_from (p + 1) n ps
