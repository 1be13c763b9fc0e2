-- What is read at the front, taken apart.
use Rattle.std.proofs.Common.{◌≡◌, Bool, true, false, cond, List, ◌++◌, Option, Some, None, refl, ap}
use Rattle.yaml_nodes.specs.Front.{Front, front, made, behind}

abbrev some_or : {X : Type 0} → X → Option X → X
some_or x None = x
some_or x (Some y) = y

pub same_some : {X : Type 0} (x y : X) → Some x ≡ Some y → x ≡ y
same_some x y e = ap (some_or x) e

abbrev pub Read : {X : Type 0} → Option (Front X) → (Front X → Type 0) → Type 0
Read o P = (r : _) × (o ≡ Some r) × P r

pub made_from : {X Y : Type 0} (f : X → Y) (o : Option (Front X)) (r : Front Y) → made f o ≡ Some r → (s : Front X) × (o ≡ Some s) × (front (f s.value) s.rest ≡ r)
made_from f None r h = absurd (cc)
made_from f (Some s) r h = (s, refl, same_some (front (f s.value) s.rest) r h)

pub behind_from : {X : Type 0} (xs : List X) (o : Option (Front (List X))) (r : Front (List X)) → behind xs o ≡ Some r
    → (s : Front (List X)) × (o ≡ Some s) × (front (xs ++ s.value) s.rest ≡ r)
behind_from xs None r h = absurd (cc)
behind_from xs (Some s) r h = (s, refl, same_some (front (xs ++ s.value) s.rest) r h)

-- of a choice between something and nothing
pub chosen : {X : Type 0} (b : Bool) (x y : X) → cond b (Some x) None ≡ Some y → (x ≡ y) × (b ≡ true)
chosen true x y h = (same_some x y h, refl)
chosen false x y h = absurd (cc)
