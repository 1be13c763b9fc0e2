-- Of several faults the one with the least offset stands, at one offset the one whose kind goes first.
use Rattle.std.specs.Prelude.{ℕ, Bool, ◌==◌, ◌&&◌, ◌||◌, nat_lt, nat_le, Option, Some, None, if◌then◌else◌}
use Rattle.yaml_tokens.specs.declared.kind.YamlKind.{YamlKind}
use Rattle.yaml_tokens.specs.declared.kind.YamlKind.TheVariants.{Tab, BadByte, Unclosed, BadEscape, Unsupported, Shape}
use Rattle.yaml_tokens.specs.declared.kind.Fault.{Fault}

abbrev pub rank : YamlKind → ℕ
rank Tab = 0
rank BadByte = 1
rank Unclosed = 2
rank BadEscape = 3
rank Unsupported = 4
rank Shape = 5

abbrev pub goes_before : Fault → Fault → Bool
goes_before f g = nat_lt f.at g.at || (f.at == g.at && nat_le (rank f.kind) (rank g.kind))

unfoldable pub first_of : Option Fault → Option Fault → Option Fault
first_of None g = g
first_of (Some f) None = Some f
first_of (Some f) (Some g) = Some (if goes_before f g then f else g)
