-- What stands at the front of tokens.
use Rattle.std.specs.Prelude.{◌≡◌, ◌<◌, List, ◌++◌, length, Option, Some, None}
use Rattle.yaml_tokens.specs.declared.token.Token.{Token}

-- what is read at the front, and the tokens that follow it
pub record Front (X : Type 0) : Type 0 where
  pub value : X
  pub rest : List Token

abbrev pub front : {X : Type 0} → X → List Token → Front X
front x rest = record { value = x; rest = rest }

-- a grammar says which values stand at the front of tokens, and what follows; a reading gives the one that does
abbrev pub Grammar : Type 0 → Type 1
Grammar X = List Token → X → List Token → Type 0

abbrev pub Reading : Type 0 → Type 0
Reading X = List Token → Option (Front X)

-- what is made of the value
abbrev pub made : {X Y : Type 0} → (X → Y) → Option (Front X) → Option (Front Y)
made f None = None
made f (Some r) = Some (front (f r.value) r.rest)

-- with these before them
abbrev pub behind : {X : Type 0} → List X → Option (Front (List X)) → Option (Front (List X))
behind xs None = None
behind xs (Some r) = Some (front (xs ++ r.value) r.rest)

-- a reading gives just what the grammar says, and takes at least one token
pub record Agrees {X : Type 0} (Says : Grammar X) (read : Reading X) : Type 0 where
  pub sound : (ts : List Token) (r : Front X) → read ts ≡ Some r → Says ts r.value r.rest
  pub complete : (ts rest : List Token) (x : X) → Says ts x rest → read ts ≡ Some (front x rest)
  pub shorter : (ts rest : List Token) (x : X) → Says ts x rest → length rest < length ts
