-- Nodes on lines of their own (YAML 1.2, chapter 8). A line token says at which column a line begins.
use Rattle.std.specs.Prelude.{◌≡◌, ℕ, zero, suc, Bool, true, false, not, ◌&&◌, ◌||◌, ◌==◌, nat_lt, List, [], ◌∷◌, length, Some, None, if◌then◌else◌}
use Rattle.yaml_tokens.specs.declared.token.Token.{Token}
use Rattle.yaml_tokens.specs.declared.token.Token.TheVariants as token
use Rattle.yaml_nodes.specs.declared.node.Node.{Node}
use Rattle.yaml_nodes.specs.declared.node.Node.TheVariants as node
use Rattle.yaml_nodes.specs.declared.node.Entry.{Entry}
use Rattle.yaml_nodes.specs.Nodes.{entry, blank}
use Rattle.yaml_nodes.specs.Front.{front, Grammar, Reading, made}
use Rattle.yaml_nodes.specs.Lists.{Lined, lined}
use Rattle.yaml_nodes.specs.Flow.{Flow, flow}

-- an entry of a map, or an item of a sequence, begins there
abbrev pub begins_entry : List Token → Bool
begins_entry (token.Scalar key ∷ token.Colon ∷ rest) = true
begins_entry _ = false

abbrev pub begins_item : List Token → Bool
begins_item (token.Dash column ∷ rest) = true
begins_item _ = false

-- a map at a column goes on with each line there, a sequence with each that an item begins
abbrev pub map_goes_on : ℕ → List Token → Bool
map_goes_on n (token.Line column ∷ rest) = column == n
map_goes_on n _ = false

abbrev pub seq_goes_on : ℕ → List Token → Bool
seq_goes_on n (token.Line column ∷ rest) = column == n && begins_item rest
seq_goes_on n _ = false

-- a line below what stands at column n holds its value: it begins further right, or where level at column n with an item
abbrev pub stands_below : Bool → ℕ → ℕ → List Token → Bool
stands_below level n column rest = nat_lt n column || level && column == n && begins_item rest

-- nothing stands there
abbrev pub is_missing : Bool → ℕ → List Token → Bool
is_missing level n [] = true
is_missing level n (token.Line column ∷ rest) = not (stands_below level n column rest)
is_missing level n _ = false

-- the value of an entry or an item at column n: in flow, on the lines below, or missing
pub data Value (Flow : Grammar Node) (Block : ℕ → Grammar Node) (level : Bool) (n : ℕ) : List Token → Node → List Token → Type 0 where
  inline : {ts rest : List Token} {value : Node} → Flow ts value rest → Value Flow Block level n ts value rest
  below : {ts rest : List Token} {value : Node} {column : ℕ} → stands_below level n column ts ≡ true → Block column ts value rest → Value Flow Block level n (token.Line column ∷ ts) value rest
  missing : {rest : List Token} → is_missing level n rest ≡ true → Value Flow Block level n rest blank rest

pub data BlockEntry (Value : Grammar Node) : List Token → Entry → List Token → Type 0 where
  pair : {key : List ℕ} {ts rest : List Token} {value : Node} → Value ts value rest → BlockEntry Value (token.Scalar key ∷ token.Colon ∷ ts) (entry key value) rest

-- an item may be a map whose first key stands on its line, and is then at the column of that key
pub data BlockItem (Block : ℕ → Grammar Node) (Value : Grammar Node) : List Token → Node → List Token → Type 0 where
  compact : {ts rest : List Token} {value : Node} {column : ℕ} → begins_entry ts ≡ true → Block column ts value rest → BlockItem Block Value (token.Dash column ∷ ts) value rest
  other : {ts rest : List Token} {value : Node} {column : ℕ} → begins_entry ts ≡ false → Value ts value rest → BlockItem Block Value (token.Dash column ∷ ts) value rest

-- a map or a sequence at column n
pub data BlockNode (Flow : Grammar Node) (Block : ℕ → Grammar Node) (n : ℕ) : List Token → Node → List Token → Type 0 where
  entries : {ts rest : List Token} {found : List Entry} → Lined (BlockEntry (Value Flow Block true n)) (map_goes_on n) ts found rest → BlockNode Flow Block n ts (node.Map found) rest
  items : {ts rest : List Token} {found : List Node} → Lined (BlockItem Block (Value Flow Block false n)) (seq_goes_on n) ts found rest → BlockNode Flow Block n ts (node.Seq found) rest

-- one with at most so many maps and sequences in one another
abbrev pub Block : ℕ → ℕ → Grammar Node
Block zero n ts value rest = ⊥
Block (suc depth) n ts value rest = BlockNode (Flow depth) (Block depth) n ts value rest

-- the same as readings
abbrev pub block_value : Reading Node → (ℕ → Reading Node) → Bool → ℕ → Reading Node
block_value flow block level n [] = Some (front blank [])
block_value flow block level n (token.Line column ∷ rest) = if stands_below level n column rest then block column rest else Some (front blank (token.Line column ∷ rest))
block_value flow block level n ts = flow ts

abbrev pub block_entry : Reading Node → Reading Entry
block_entry value (token.Scalar key ∷ token.Colon ∷ ts) = made (entry key) (value ts)
block_entry value _ = None

abbrev pub block_item : (ℕ → Reading Node) → Reading Node → Reading Node
block_item block value (token.Dash column ∷ ts) = if begins_entry ts then block column ts else value ts
block_item block value _ = None

abbrev pub block_map : Reading Node → (ℕ → Reading Node) → ℕ → Reading Node
block_map flow block n ts = made node.Map (lined (block_entry (block_value flow block true n)) (map_goes_on n) (length ts) ts)

abbrev pub block_seq : Reading Node → (ℕ → Reading Node) → ℕ → Reading Node
block_seq flow block n ts = made node.Seq (lined (block_item block (block_value flow block false n)) (seq_goes_on n) (length ts) ts)

abbrev pub block_with : Reading Node → (ℕ → Reading Node) → ℕ → Reading Node
block_with flow block n ts = if begins_item ts then block_seq flow block n ts else block_map flow block n ts

abbrev pub block : ℕ → ℕ → Reading Node
block zero n ts = None
block (suc depth) n ts = block_with (flow depth) (block depth) n ts
