-- Causes as text: `Memory`, or `At` with an offset in decimal and the name of a kind.
use Rattle.std.specs.Prelude.{List, ℕ, ◌++◌, codes, decimal}
use Rattle.yaml_tokens.specs.declared.kind.YamlKind.{YamlKind}
use Rattle.yaml_tokens.specs.declared.kind.YamlKind.TheVariants.{Tab, BadByte, Unclosed, BadEscape, Unsupported, Shape}
use Rattle.yaml_nodes.specs.declared.cause.YamlCause.{YamlCause}
use Rattle.yaml_nodes.specs.declared.cause.YamlCause.TheVariants as causes

abbrev pub kind_name : YamlKind → List ℕ
kind_name Tab = codes "Tab"
kind_name BadByte = codes "BadByte"
kind_name Unclosed = codes "Unclosed"
kind_name BadEscape = codes "BadEscape"
kind_name Unsupported = codes "Unsupported"
kind_name Shape = codes "Shape"

abbrev pub printed_yaml_cause : YamlCause → List ℕ
printed_yaml_cause (causes.At at kind) = codes "At(" ++ decimal at ++ codes ", " ++ kind_name kind ++ codes ")"
printed_yaml_cause causes.Memory = codes "Memory"
