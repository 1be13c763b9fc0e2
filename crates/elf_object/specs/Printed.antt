-- Causes as text: the name of the cause, and its field in parentheses, a number in decimal.
use Rattle.std.specs.Prelude.{ℕ, List, ◌++◌, codes, decimal}
use Rattle.elf_file.specs.Printed.{printed_elf_cause}
use Rattle.elf_object.specs.declared.cause.ObjectCause.{ObjectCause}
use Rattle.elf_object.specs.declared.cause.ObjectCause.TheVariants as causes

abbrev pub printed_object_cause : ObjectCause → List ℕ
printed_object_cause (causes.Elf cause) = codes "Elf(" ++ printed_elf_cause cause ++ codes ")"
printed_object_cause (causes.BadRelocationTable index) = codes "BadRelocationTable(" ++ decimal index ++ codes ")"
printed_object_cause (causes.CompressedSection index) = codes "CompressedSection(" ++ decimal index ++ codes ")"
printed_object_cause (causes.IfuncDefinition row) = codes "IfuncDefinition(" ++ decimal row ++ codes ")"
printed_object_cause causes.Memory = codes "Memory"
