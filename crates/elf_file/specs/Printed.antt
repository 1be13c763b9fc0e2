-- Causes as text: the name of the cause, and its field in parentheses, a number in decimal.
use Rattle.std.specs.Prelude.{ℕ, List, ◌++◌, codes, decimal}
use Rattle.elf_file.specs.declared.cause.ElfCause.{ElfCause}
use Rattle.elf_file.specs.declared.cause.ElfCause.TheVariants as causes
use Rattle.elf_file.specs.declared.cause.NamePlace.{NamePlace}
use Rattle.elf_file.specs.declared.cause.NamePlace.TheVariants.{Symbol, Dynamic, Section}

abbrev pub printed_name_place : NamePlace → List ℕ
printed_name_place (Symbol index) = codes "Symbol(" ++ decimal index ++ codes ")"
printed_name_place (Dynamic index) = codes "Dynamic(" ++ decimal index ++ codes ")"
printed_name_place (Section index) = codes "Section(" ++ decimal index ++ codes ")"

abbrev pub printed_elf_cause : ElfCause → List ℕ
printed_elf_cause causes.NotElf = codes "NotElf"
printed_elf_cause causes.BadHeader = codes "BadHeader"
printed_elf_cause causes.WrongKind = codes "WrongKind"
printed_elf_cause causes.NoDynamic = codes "NoDynamic"
printed_elf_cause (causes.Truncated at) = codes "Truncated(" ++ decimal at ++ codes ")"
printed_elf_cause (causes.BadName place) = codes "BadName(" ++ printed_name_place place ++ codes ")"
printed_elf_cause (causes.TooMany count) = codes "TooMany(" ++ decimal count ++ codes ")"
printed_elf_cause (causes.NamesTooLarge size) = codes "NamesTooLarge(" ++ decimal size ++ codes ")"
printed_elf_cause causes.Archive = codes "Archive"
printed_elf_cause causes.Memory = codes "Memory"
