-- The sizes of records by the size of a word.
use Rattle.std.proofs.Common.{◌≡◌, ◌+◌, ◌*◌, refl}
use Rattle.ifs_bytes.specs.Field.{word_size}
use Rattle.ifs_bytes.specs.declared.form.Width.{Width}
use Rattle.ifs_bytes.specs.declared.form.Width.TheVariants.{W32, W64}
use Rattle.elf_file.specs.Tables.{header_size, section_size, segment_size, symbol_size, dynamic_size}

pub header_size_is : (width : Width) → header_size width ≡ 40 + 3 * word_size width
header_size_is W32 = refl
header_size_is W64 = refl

pub section_size_is : (width : Width) → section_size width ≡ 16 + 6 * word_size width
section_size_is W32 = refl
section_size_is W64 = refl

pub segment_size_is : (width : Width) → segment_size width ≡ 8 + 6 * word_size width
segment_size_is W32 = refl
segment_size_is W64 = refl

pub symbol_size_is : (width : Width) → symbol_size width ≡ 8 + 2 * word_size width
symbol_size_is W32 = refl
symbol_size_is W64 = refl

pub dynamic_size_is : (width : Width) → dynamic_size width ≡ 2 * word_size width
dynamic_size_is W32 = refl
dynamic_size_is W64 = refl
