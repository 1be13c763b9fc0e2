-- Fields of records.
use Rattle.std.specs.Prelude.{ℕ}
use Rattle.elf_file.specs.declared.put.Field.{Field}
use Rattle.elf_file.specs.declared.put.Field.TheVariants.{One, Two, Four, Eight}

-- the size of a field and its value
abbrev pub sized : Field → ℕ × ℕ
sized (One value) = (1, value)
sized (Two value) = (2, value)
sized (Four value) = (4, value)
sized (Eight value) = (8, value)
