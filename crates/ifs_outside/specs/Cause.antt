-- The printed causes: the name of each.
use Rattle.std.specs.Prelude.{ℕ, List, codes}
use Rattle.ifs_outside.specs.declared.cause.ReadCause.{ReadCause}
use Rattle.ifs_outside.specs.declared.cause.ReadCause.TheVariants.{Missing, TooLarge, Failed, Memory}
use Rattle.ifs_outside.specs.declared.cause.WriteCause.{WriteCause}
use Rattle.ifs_outside.specs.declared.cause.WriteCause.TheVariants.{Failed as WriteFailed, Memory as WriteMemory}

abbrev pub printed_read_cause : ReadCause → List ℕ
printed_read_cause Missing = codes "Missing"
printed_read_cause TooLarge = codes "TooLarge"
printed_read_cause Failed = codes "Failed"
printed_read_cause Memory = codes "Memory"

abbrev pub printed_write_cause : WriteCause → List ℕ
printed_write_cause WriteFailed = codes "Failed"
printed_write_cause WriteMemory = codes "Memory"
