-- Fields: numbers that stand at an offset of a file (gABI, "Data Representation"). Offsets and sizes are
-- counted in bytes, and no sum of them wraps.
use Rattle.std.specs.Prelude.{ℕ, ◌+◌, Bool, List, length, drop, Option, Some, None, nat_le, if◌then◌else◌}
use Rattle.byteorder.specs.Endian.{big_number, little_number, big_bytes, little_bytes}
use Rattle.ifs_bytes.specs.declared.form.Order.{Order}
use Rattle.ifs_bytes.specs.declared.form.Order.TheVariants.{Little, Big}
use Rattle.ifs_bytes.specs.declared.form.Width.{Width}
use Rattle.ifs_bytes.specs.declared.form.Width.TheVariants.{W32, W64}

-- how many bytes an address, an offset or a size has
abbrev pub word_size : Width → ℕ
word_size W32 = 4
word_size W64 = 8

-- the number in the first size bytes
abbrev pub first_number : ℕ → Order → List ℕ → ℕ
first_number size Little bytes = little_number size bytes
first_number size Big bytes = big_number size bytes

-- the number in the size bytes from at
unfoldable pub number_at : List ℕ → ℕ → ℕ → Order → ℕ
number_at bytes at size order = first_number size order (drop at bytes)

-- the size bytes of a number
abbrev pub number_bytes : ℕ → ℕ → Order → List ℕ
number_bytes size value Little = little_bytes size value
number_bytes size value Big = big_bytes size value

-- size bytes stand from at
abbrev pub lies : List ℕ → ℕ → ℕ → Bool
lies bytes at size = nat_le (at + size) (length bytes)

-- the number in the size bytes from at, where they lie in the file
abbrev pub field : List ℕ → ℕ → ℕ → Order → Option ℕ
field bytes at size order = if lies bytes at size then Some (number_at bytes at size order) else None
