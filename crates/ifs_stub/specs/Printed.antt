-- Causes as text: the name of the cause, and its field in parentheses, a number in decimal.
use Rattle.std.specs.Prelude.{ℕ, List, ◌++◌, codes, decimal}
use Rattle.ifs_stub.specs.declared.cause.StubCause.{StubCause}
use Rattle.ifs_stub.specs.declared.cause.StubCause.TheVariants as causes
use Rattle.ifs_interface.specs.Fields.{field_name}

abbrev pub printed_stub_cause : StubCause → List ℕ
printed_stub_cause (causes.TargetIncomplete field) = codes "TargetIncomplete(" ++ field_name field ++ codes ")"
printed_stub_cause (causes.SizeTooWide name) = codes "SizeTooWide(" ++ name ++ codes ")"
printed_stub_cause (causes.TooManySymbols count) = codes "TooManySymbols(" ++ decimal count ++ codes ")"
printed_stub_cause (causes.NamesTooLarge size) = codes "NamesTooLarge(" ++ decimal size ++ codes ")"
printed_stub_cause causes.Memory = codes "Memory"
