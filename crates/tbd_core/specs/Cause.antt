-- Causes as text: the name of the cause, and its field in parentheses, a text as its bytes.
use Rattle.std.specs.Prelude.{ℕ, List, ◌++◌, codes}
use Rattle.yaml_nodes.specs.Printed.{printed_yaml_cause}
use Rattle.yaml_nodes.specs.declared.cause.YamlCause.{YamlCause}
use Rattle.yaml_nodes.specs.declared.cause.YamlCause.TheVariants as yaml
use Rattle.tbd_core.specs.declared.cause.TbdCause.{TbdCause}
use Rattle.tbd_core.specs.declared.cause.TbdCause.TheVariants as causes
use Rattle.tbd_core.specs.declared.cause.PrintCause.{PrintCause}
use Rattle.tbd_core.specs.declared.cause.PrintCause.TheVariants as refusals

-- a fault of the YAML is a cause; want of memory is the reader's own
abbrev pub yaml_cause : YamlCause → TbdCause
yaml_cause (yaml.At at kind) = causes.Yaml (yaml.At at kind)
yaml_cause yaml.Memory = causes.Memory

-- a name and a field
unfoldable pub with_field : List ℕ → List ℕ → List ℕ
with_field name field = name ++ codes "(" ++ field ++ codes ")"

abbrev pub printed_tbd_cause : TbdCause → List ℕ
printed_tbd_cause (causes.Yaml cause) = with_field (codes "Yaml") (printed_yaml_cause cause)
printed_tbd_cause causes.NotTbd = codes "NotTbd"
printed_tbd_cause (causes.UnknownKey key) = with_field (codes "UnknownKey") key
printed_tbd_cause (causes.RepeatedKey key) = with_field (codes "RepeatedKey") key
printed_tbd_cause (causes.MissingKey key) = with_field (codes "MissingKey") key
printed_tbd_cause (causes.BadValue key) = with_field (codes "BadValue") key
printed_tbd_cause (causes.UnknownTarget name) = with_field (codes "UnknownTarget") name
printed_tbd_cause causes.BadVersion = codes "BadVersion"
printed_tbd_cause causes.Memory = codes "Memory"

abbrev pub printed_print_cause : PrintCause → List ℕ
printed_print_cause (refusals.NoPlace field) = with_field (codes "NoPlace") field
printed_print_cause refusals.Memory = codes "Memory"
