-- The parts of a node.
use Rattle.std.specs.Prelude.{ℕ, List, [], Option, Some, None}
use Rattle.yaml_nodes.specs.declared.node.Node.{Node, out-Node}
use Rattle.yaml_nodes.specs.declared.node.Node.TheVariants as node
use Rattle.yaml_nodes.specs.declared.node.Node.TheOpen.{Node-F}
use Rattle.yaml_nodes.specs.declared.node.Entry.{Entry, roll-Entry, out-Entry}

-- one level of a node
abbrev pub Layer : Type 0
Layer = Node-F Node Entry

abbrev pub text_in : Layer → Option (List ℕ)
text_in (Node-F.Scalar text) = Some text
text_in _ = None

abbrev pub items_in : Layer → Option (List Node)
items_in (Node-F.Seq items) = Some items
items_in _ = None

abbrev pub entries_in : Layer → Option (List Entry)
entries_in (Node-F.Map entries) = Some entries
entries_in _ = None

-- the text of a scalar, the items of a sequence, the entries of a map
abbrev pub text_of : Node → Option (List ℕ)
text_of n = text_in (out-Node n)

abbrev pub items_of : Node → Option (List Node)
items_of n = items_in (out-Node n)

abbrev pub entries_of : Node → Option (List Entry)
entries_of n = entries_in (out-Node n)

-- the key and the value of an entry
abbrev pub key_of : Entry → List ℕ
key_of e = (out-Entry e).key

abbrev pub value_of : Entry → Node
value_of e = (out-Entry e).value

abbrev pub entry : List ℕ → Node → Entry
entry key value = roll-Entry (record { key = key; value = value })

-- what stands where nothing is written
abbrev pub blank : Node
blank = node.Scalar []
