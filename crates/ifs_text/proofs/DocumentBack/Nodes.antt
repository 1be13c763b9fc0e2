-- The parts of nodes that are made.
use Rattle.std.proofs.Common.{◌≡◌, ℕ, List, Option, Some, None, ap}
use Rattle.std.specs.Prelude.{option_and_then}
use Rattle.yaml_nodes.specs.declared.node.Node.{Node}
use Rattle.yaml_nodes.specs.declared.node.Node.TheVariants as node
use Rattle.yaml_nodes.specs.declared.node.Node.TheVariants.{outs-Scalar, outs-Seq, outs-Map}
use Rattle.yaml_nodes.specs.declared.node.Entry.{Entry}
use Rattle.yaml_nodes.specs.Nodes.{text_in, items_in, entries_in, text_of, items_of, entries_of}

pub text_of_scalar : (text : List ℕ) → text_of (node.Scalar text) ≡ Some text
text_of_scalar text = ap text_in (outs-Scalar text)

-- what a scalar stands for is what its text stands for
pub scalar_means : {X : Type 0} (meaning : List ℕ → Option X) (text : List ℕ) → option_and_then meaning (text_of (node.Scalar text)) ≡ meaning text
scalar_means meaning text = ap (option_and_then meaning) (text_of_scalar text)

pub items_of_seq : (items : List Node) → items_of (node.Seq items) ≡ Some items
items_of_seq items = ap items_in (outs-Seq items)

pub entries_of_map : (es : List Entry) → entries_of (node.Map es) ≡ Some es
entries_of_map es = ap entries_in (outs-Map es)

pub text_of_map : (es : List Entry) → text_of (node.Map es) ≡ None
text_of_map es = ap text_in (outs-Map es)
