-- The machines of a link, by e_machine.
use Rattle.std.specs.Prelude.{ℕ, ◌==◌, Option, Some, None, if◌then◌else◌}
use Rattle.link_machine.specs.Rules.{MachineRules}
use Rattle.link_machine.specs.A64.{a64_rules}
use Rattle.link_machine.specs.X86.{x86_rules}

abbrev pub rules_of : ℕ → Option MachineRules
rules_of number =
    if number == x86_rules.number then Some x86_rules
    else (if number == a64_rules.number then Some a64_rules else None)
