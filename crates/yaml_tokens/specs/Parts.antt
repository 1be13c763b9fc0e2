-- The tokens that are left at a place of a text, and those of a document.
use Rattle.std.specs.Prelude.{◌≡◌, ℕ, ◌+◌, take, Bool, true, false, List, [], ◌∷◌, Option, Some, None, if◌then◌else◌}
use Rattle.std.specs.List.{filter_map}
use Rattle.yaml_tokens.specs.Places.{Place, left}
use Rattle.yaml_tokens.specs.Tokens.{token_of}
use Rattle.yaml_tokens.specs.declared.token.Token.{Token}
use Rattle.yaml_tokens.specs.declared.token.Token.TheVariants as token

-- the tokens up to the next document, or to a line outside documents
abbrev pub begins_part : Token → Bool
begins_part (token.Begin at tag) = true
begins_part (token.Stray at) = true
begins_part _ = false

abbrev pub body_size : List Token → ℕ
body_size [] = 0
body_size (t ∷ ts) = if begins_part t then 0 else 1 + body_size ts

abbrev pub body : List Token → List Token
body ts = take (body_size ts) ts

-- those alone, where bounded
abbrev pub up_to : Bool → List Token → List Token
up_to true ts = body ts
up_to false ts = ts

-- the first token and those behind it, as one list
abbrev pub parted : Option (Token × List Token) → List Token
parted None = []
parted (Some p) = p.0 ∷ p.1

-- the tokens that are left at a place
abbrev pub tokens_at : Place → List Token
tokens_at p = filter_map token_of (left p)

-- the next of them, or None where there is no more
abbrev pub NextToken : Option Token → Place → Place → Type 0
NextToken None old new = tokens_at old ≡ []
NextToken (Some t) old new = tokens_at old ≡ t ∷ tokens_at new
