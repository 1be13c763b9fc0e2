-- How a pass over the pieces finds the first bracket that stays open.
use Rattle.std.specs.Prelude.{ℕ, ◌+◌, ◌-◌, ◌==◌, Option, Some, None, if◌then◌else◌}
use Rattle.yaml_tokens.specs.Pieces.{PieceRecord}
use Rattle.yaml_tokens.specs.Faults.{Step, Up, Down, Fresh, Level as Same, step_of, offset, fault_at}
use Rattle.yaml_tokens.specs.declared.kind.YamlKind.TheVariants.{Unclosed as NotClosed}
use Rattle.yaml_tokens.specs.declared.kind.Fault.{Fault}
use Rattle.yaml_tokens.specs.declared.fault.Brackets.{Brackets}
use Rattle.yaml_tokens.specs.declared.fault.Brackets.TheVariants.{Level, Open, Unclosed}

abbrev pub turned_by : Step → Brackets → ℕ → Brackets
turned_by Up Level at = Open at 0
turned_by Up (Open first count) at = Open first (count + 1)
turned_by Down (Open first count) at = if count == 0 then Level else Open first (count - 1)
turned_by Fresh (Open first count) at = Unclosed first
turned_by Same brackets at = brackets
turned_by _ brackets at = brackets

abbrev pub turned : Brackets → PieceRecord → Brackets
turned brackets p = turned_by (step_of p.kind) brackets (offset p)

abbrev pub found_in : Brackets → Option Fault
found_in Level = None
found_in (Open first count) = Some (fault_at first NotClosed)
found_in (Unclosed first) = Some (fault_at first NotClosed)

abbrev pub open_count : Brackets → ℕ
open_count Level = 0
open_count (Open first count) = count
open_count (Unclosed first) = 0
