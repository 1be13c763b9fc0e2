use Rattle.std.proofs.Common.{◌≡◌, ◌<◌, ◌^◌, drop}
use Rattle.ifs_bytes.specs.Numeral.{numeral_from, in_64_bits}
use Rattle.ifs_bytes.proofs.numeral.number_of.Given as goal

abbrev pub invariant-loop-byte : goal.invariant-loop-byte
invariant-loop-byte l = record {
  left : in_64_bits (numeral_from l.radix l.value (drop l.byte-index l.digits)) ≡ in_64_bits (numeral_from l.radix 0 l.digits);
  bounded : l.value < 2 ^ 64;
}
