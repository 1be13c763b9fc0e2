-- What has a place in 32 bits fits a word of either width.
use Rattle.std.proofs.Common.{ℕ, ◌<◌, ◌^◌, arith}
use Rattle.ifs_bytes.specs.Field.{word_size}
use Rattle.ifs_bytes.specs.declared.form.Width.{Width}
use Rattle.ifs_bytes.specs.declared.form.Width.TheVariants.{W32, W64}

pub fits : (value : ℕ) (width : Width) → value < 2 ^ 32 → value < 256 ^ word_size width
fits value W32 small = omega (arith, small)
fits value W64 small = omega (arith, small)
