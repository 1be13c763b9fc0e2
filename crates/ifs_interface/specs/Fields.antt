-- The names of the fields of a target.
use Rattle.std.specs.Prelude.{ℕ, List, codes}
use Rattle.ifs_interface.specs.declared.target.TargetField.{TargetField}
use Rattle.ifs_interface.specs.declared.target.TargetField.TheVariants.{Arch, BitWidth, Endianness, Triple}

abbrev pub field_name : TargetField → List ℕ
field_name Arch = codes "Arch"
field_name BitWidth = codes "BitWidth"
field_name Endianness = codes "Endianness"
field_name Triple = codes "Triple"
