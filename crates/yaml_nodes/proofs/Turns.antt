-- Turns of the loops over lists.
use Rattle.std.proofs.Common.{◌≡◌, ℕ, zero, suc, ◌+◌, ◌-◌, ◌<◌, Bool, true, false, cond, List, [], ◌∷◌, ◌++◌, Option, Some, None, refl, ap, sym, ◌∙◌, arith, append_assoc}
use Rattle.yaml_tokens.specs.declared.token.Token.{Token}
use Rattle.yaml_nodes.specs.Front.{Front, front, Reading, behind}
use Rattle.yaml_nodes.specs.Flow.{flow, flow_with}
use Rattle.yaml_nodes.specs.Block.{block, block_with}
use Rattle.yaml_nodes.specs.Lists.{begins_with, tail, next_item, go_on, listed_behind, listed, lined_behind, lined}

behind_both : {X : Type 0} (xs : List X) (x : X) (r : Option (Front (List X))) → behind xs (behind (x ∷ []) r) ≡ behind (xs ++ x ∷ []) r
behind_both xs x None = refl
behind_both xs x (Some f) = ap (λ w. Some (front w f.rest)) (sym (append_assoc xs (x ∷ []) f.value))

left : (n i : ℕ) → i < n → n - i ≡ suc (n - (i + 1))
left n i h = omega arith

-- the list goes on behind an item
pub listed_turn : {X : Type 0} (read : Reading X) (closes : Token → Bool) (n i : ℕ) (xs xs' : List X) (x : X) (item : Front X) (ts after more : List Token) (all : Option (Front (List X)))
    → i < n → begins_with closes ts ≡ false → Some item ≡ read ts → x ≡ item.value → after ≡ item.rest → Some more ≡ next_item closes after → xs' ≡ xs ++ x ∷ []
    → all ≡ behind xs (listed read closes (n - i) ts) → all ≡ behind xs' (listed read closes (n - (i + 1)) more)
listed_turn read closes n i xs xs' x item ts after more all within isnt here value rest next pushed so_far =
    let k = n - (i + 1) in
    so_far
    ∙ ap (λ m. behind xs (listed read closes m ts)) (left n i within)
    ∙ ap (λ t. behind xs (cond t (Some (front [] (tail ts))) (listed_behind closes (listed read closes k) (read ts)))) isnt
    ∙ ap (λ r. behind xs (listed_behind closes (listed read closes k) r)) (sym here)
    ∙ ap (λ r. behind xs (go_on (listed read closes k) item.value (next_item closes r))) (sym rest)
    ∙ ap (λ r. behind xs (go_on (listed read closes k) item.value r)) (sym next)
    ∙ behind_both xs item.value (listed read closes k more)
    ∙ ap (λ w. behind (xs ++ w ∷ []) (listed read closes k more)) (sym value)
    ∙ ap (λ w. behind w (listed read closes k more)) (sym pushed)

-- one level deeper
pub deeper : (depth : ℕ) (ts : List Token) → 0 < depth → flow depth ts ≡ flow_with (flow (depth - 1)) ts
deeper zero ts h = absurd (omega arith)
deeper (suc d) ts h = let e : d ≡ suc d - 1 = omega arith in ap (λ k. flow_with (flow k) ts) e

-- no node stands where no token is
pub flow_empty : (depth : ℕ) → flow depth [] ≡ None
flow_empty zero = refl
flow_empty (suc d) = refl

pub block_deeper : (depth n : ℕ) (ts : List Token) → 0 < depth → block depth n ts ≡ block_with (flow (depth - 1)) (block (depth - 1)) n ts
block_deeper zero n ts h = absurd (omega arith)
block_deeper (suc d) n ts h = let e : d ≡ suc d - 1 = omega arith in ap (λ k. block_with (flow k) (block k) n ts) e

-- the lines go on behind an item
pub lined_turn : {X : Type 0} (read : Reading X) (goes_on : List Token → Bool) (n i : ℕ) (xs xs' : List X) (x : X) (item : Front X) (ts after more : List Token) (all : Option (Front (List X)))
    → i < n → Some item ≡ read ts → x ≡ item.value → after ≡ item.rest → goes_on after ≡ true → xs' ≡ xs ++ x ∷ [] → more ≡ tail after
    → all ≡ behind xs (lined read goes_on (n - i) ts) → all ≡ behind xs' (lined read goes_on (n - (i + 1)) more)
lined_turn read goes_on n i xs xs' x item ts after more all within here value rest test pushed left_is so_far =
    let k = n - (i + 1) in
    so_far
    ∙ ap (λ m. behind xs (lined read goes_on m ts)) (left n i within)
    ∙ ap (λ r. behind xs (lined_behind goes_on (lined read goes_on k) r)) (sym here)
    ∙ ap (λ r. behind xs (cond (goes_on r) (behind (item.value ∷ []) (lined read goes_on k (tail r))) (Some (front (item.value ∷ []) r)))) (sym rest)
    ∙ ap (λ t. behind xs (cond t (behind (item.value ∷ []) (lined read goes_on k (tail after))) (Some (front (item.value ∷ []) after)))) test
    ∙ behind_both xs item.value (lined read goes_on k (tail after))
    ∙ ap (λ w. behind (xs ++ w ∷ []) (lined read goes_on k (tail after))) (sym value)
    ∙ ap (λ w. behind w (lined read goes_on k (tail after))) (sym pushed)
    ∙ ap (λ w. behind xs' (lined read goes_on k w)) (sym left_is)
