-- Lists of items in brackets and on lines.
use Rattle.std.specs.Prelude.{◌≡◌, ℕ, zero, suc, Bool, true, false, List, [], ◌∷◌, Option, Some, None, if◌then◌else◌}
use Rattle.yaml_tokens.specs.declared.token.Token.{Token}
use Rattle.yaml_tokens.specs.declared.token.Token.TheVariants as token
use Rattle.yaml_nodes.specs.Front.{Front, front, Grammar, Reading, behind}

-- items up to the token that closes them, a comma behind each but the last, which may have one
pub data Listed {X : Type 0} (Item : Grammar X) (close : Token) : List Token → List X → List Token → Type 0 where
  end : {rest : List Token} → Listed Item close (close ∷ rest) [] rest
  last : {ts rest : List Token} {x : X} → Item ts x (close ∷ rest) → Listed Item close ts (x ∷ []) rest
  more : {ts more rest : List Token} {x : X} {xs : List X} → Item ts x (token.Comma ∷ more) → Listed Item close more xs rest → Listed Item close ts (x ∷ xs) rest

-- items of which each but the first stands on a line of its own; they go on with each such line
pub data Lined {X : Type 0} (Item : Grammar X) (goes_on : List Token → Bool) : List Token → List X → List Token → Type 0 where
  final : {ts rest : List Token} {x : X} → Item ts x rest → goes_on rest ≡ false → Lined Item goes_on ts (x ∷ []) rest
  next : {ts more rest : List Token} {x : X} {xs : List X} {column : ℕ} → Item ts x (token.Line column ∷ more) → goes_on (token.Line column ∷ more) ≡ true
      → Lined Item goes_on more xs rest → Lined Item goes_on ts (x ∷ xs) rest

-- the same as readings, in so many turns
abbrev pub begins_with : (Token → Bool) → List Token → Bool
begins_with test [] = false
begins_with test (t ∷ rest) = test t

abbrev pub tail : List Token → List Token
tail [] = []
tail (t ∷ rest) = rest

-- what follows the comma behind an item, or the token that closes the list
abbrev pub next_item : (Token → Bool) → List Token → Option (List Token)
next_item closes (token.Comma ∷ rest) = Some rest
next_item closes ts = if begins_with closes ts then Some ts else None

abbrev pub go_on : {X : Type 0} → Reading (List X) → X → Option (List Token) → Option (Front (List X))
go_on rest x None = None
go_on rest x (Some ts) = behind (x ∷ []) (rest ts)

abbrev pub listed_behind : {X : Type 0} → (Token → Bool) → Reading (List X) → Option (Front X) → Option (Front (List X))
listed_behind closes rest None = None
listed_behind closes rest (Some item) = go_on rest item.value (next_item closes item.rest)

abbrev pub listed : {X : Type 0} → Reading X → (Token → Bool) → ℕ → Reading (List X)
listed read closes zero ts = None
listed read closes (suc n) ts = if begins_with closes ts then Some (front [] (tail ts)) else listed_behind closes (listed read closes n) (read ts)

abbrev pub lined_behind : {X : Type 0} → (List Token → Bool) → Reading (List X) → Option (Front X) → Option (Front (List X))
lined_behind goes_on rest None = None
lined_behind goes_on rest (Some item) = if goes_on item.rest then behind (item.value ∷ []) (rest (tail item.rest)) else Some (front (item.value ∷ []) item.rest)

abbrev pub lined : {X : Type 0} → Reading X → (List Token → Bool) → ℕ → Reading (List X)
lined read goes_on zero ts = None
lined read goes_on (suc n) ts = lined_behind goes_on (lined read goes_on n) (read ts)
