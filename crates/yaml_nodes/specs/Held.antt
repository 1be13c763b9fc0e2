-- The text that a scalar holds.
use Rattle.std.specs.Prelude.{ℕ, List}
use Rattle.yaml_nodes.specs.declared.node.Held.{Held}
use Rattle.yaml_nodes.specs.declared.node.Held.TheVariants.{Lent, Own}

-- bytes of another text, or bytes of its own
abbrev pub held_text : Held → List ℕ
held_text (Lent bytes) = bytes.now
held_text (Own text) = text
