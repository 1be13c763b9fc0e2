-- Causes as text: the name of the cause, and its field in parentheses, a text as its bytes.
use Rattle.std.specs.Prelude.{ℕ, List, ◌++◌, codes}
use Rattle.yaml_nodes.specs.Printed.{printed_yaml_cause}
use Rattle.ifs_text.specs.declared.cause.TextCause.{TextCause}
use Rattle.ifs_text.specs.declared.cause.TextCause.TheVariants as causes

-- a name and a field
unfoldable pub with_field : List ℕ → List ℕ → List ℕ
with_field name field = name ++ codes "(" ++ field ++ codes ")"

abbrev pub printed_text_cause : TextCause → List ℕ
printed_text_cause (causes.Yaml cause) = with_field (codes "Yaml") (printed_yaml_cause cause)
printed_text_cause causes.NotIfs = codes "NotIfs"
printed_text_cause (causes.UnknownKey key) = with_field (codes "UnknownKey") key
printed_text_cause (causes.RepeatedKey key) = with_field (codes "RepeatedKey") key
printed_text_cause (causes.MissingKey key) = with_field (codes "MissingKey") key
printed_text_cause (causes.BadValue key) = with_field (codes "BadValue") key
printed_text_cause (causes.RepeatedSymbol name) = with_field (codes "RepeatedSymbol") name
printed_text_cause causes.BadVersion = codes "BadVersion"
printed_text_cause causes.Memory = codes "Memory"
