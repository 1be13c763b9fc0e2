-- Nodes in flow (YAML 1.2, chapter 7). Between their tokens any blanks, line ends and comments may stand.
use Rattle.std.specs.Prelude.{◌≡◌, ℕ, zero, suc, Bool, true, false, List, ◌∷◌, length, Some, None, ◌⊎◌, if◌then◌else◌}
use Rattle.yaml_tokens.specs.declared.token.Token.{Token}
use Rattle.yaml_tokens.specs.declared.token.Token.TheVariants as token
use Rattle.yaml_nodes.specs.declared.node.Node.{Node}
use Rattle.yaml_nodes.specs.declared.node.Node.TheVariants as node
use Rattle.yaml_nodes.specs.declared.node.Entry.{Entry}
use Rattle.yaml_nodes.specs.declared.flow.Brackets.{Brackets}
use Rattle.yaml_nodes.specs.declared.flow.Brackets.TheVariants.{Curly, Square}
use Rattle.yaml_nodes.specs.Nodes.{entry, blank}
use Rattle.yaml_nodes.specs.Front.{front, Grammar, Reading, made}
use Rattle.yaml_nodes.specs.Lists.{Listed, listed}

pub data IsScalar : List Token → Node → List Token → Type 0 where
  scalar : {text : List ℕ} {rest : List Token} → IsScalar (token.Scalar text ∷ rest) (node.Scalar text) rest

-- a comma or the end of its map ends an entry
abbrev pub ends_entry : List Token → Bool
ends_entry (token.Comma ∷ rest) = true
ends_entry (token.CloseMap ∷ rest) = true
ends_entry _ = false

-- a key, a colon and a value; the value may be missing, and the colon with it
pub data FlowEntry (Value : Grammar Node) : List Token → Entry → List Token → Type 0 where
  whole : {key : List ℕ} {ts rest : List Token} {value : Node} → Value ts value rest → FlowEntry Value (token.Scalar key ∷ token.Colon ∷ ts) (entry key value) rest
  valueless : {key : List ℕ} {rest : List Token} → ends_entry rest ≡ true → FlowEntry Value (token.Scalar key ∷ token.Colon ∷ rest) (entry key blank) rest
  alone : {key : List ℕ} {rest : List Token} → ends_entry rest ≡ true → FlowEntry Value (token.Scalar key ∷ rest) (entry key blank) rest

-- a map or a sequence of such values
pub data InBrackets (Value : Grammar Node) : List Token → Node → List Token → Type 0 where
  map : {ts rest : List Token} {entries : List Entry} → Listed (FlowEntry Value) token.CloseMap ts entries rest → InBrackets Value (token.OpenMap ∷ ts) (node.Map entries) rest
  seq : {ts rest : List Token} {items : List Node} → Listed Value token.CloseSeq ts items rest → InBrackets Value (token.OpenSeq ∷ ts) (node.Seq items) rest

-- a node in flow with at most so many maps and sequences in one another
abbrev pub Flow : ℕ → Grammar Node
Flow zero ts value rest = IsScalar ts value rest
Flow (suc depth) ts value rest = IsScalar ts value rest ⊎ InBrackets (Flow depth) ts value rest

-- the same as readings
abbrev pub closes : Brackets → Token → Bool
closes Curly token.CloseMap = true
closes Square token.CloseSeq = true
closes _ _ = false

abbrev pub flow_value : Reading Node → Reading Node
flow_value read ts = if ends_entry ts then Some (front blank ts) else read ts

abbrev pub behind_key : Reading Node → Reading Node
behind_key read (token.Colon ∷ ts) = flow_value read ts
behind_key read ts = if ends_entry ts then Some (front blank ts) else None

abbrev pub flow_entry : Reading Node → Reading Entry
flow_entry read (token.Scalar key ∷ ts) = made (entry key) (behind_key read ts)
flow_entry read _ = None

abbrev pub scalar_front : Reading Node
scalar_front (token.Scalar text ∷ rest) = Some (front (node.Scalar text) rest)
scalar_front _ = None

abbrev pub flow_with : Reading Node → Reading Node
flow_with read (token.OpenMap ∷ ts) = made node.Map (listed (flow_entry read) (closes Curly) (length ts) ts)
flow_with read (token.OpenSeq ∷ ts) = made node.Seq (listed read (closes Square) (length ts) ts)
flow_with read ts = scalar_front ts

abbrev pub flow : ℕ → Reading Node
flow zero ts = scalar_front ts
flow (suc depth) ts = flow_with (flow depth) ts
