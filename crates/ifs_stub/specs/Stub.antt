-- The stub of an interface, or the first cause why there is none.
use Rattle.std.specs.Prelude.{◌≡◌, ℕ, ◌+◌, ◌≤◌, ◌^◌, Bool, false, nat_le, List, length, Option, Some, None, unwrap_or, Result, Ok, Err, Vec}
use Rattle.std.specs.List.{find, list_any}
use Rattle.std.specs.Option.{ok_or}
use Rattle.std.specs.Result.{result_map_both}
use Rattle.ifs_bytes.specs.Outcome.{◌>>=◌, check}
use Rattle.ifs_bytes.specs.declared.form.Width.{Width}
use Rattle.ifs_bytes.specs.declared.form.Width.TheVariants.{W32, W64}
use Rattle.ifs_interface.specs.Interface.{InterfaceRecord}
use Rattle.ifs_interface.specs.Parts.{parts_of}
use Rattle.ifs_interface.specs.declared.symbol.Symbol.{Symbol}
use Rattle.ifs_interface.specs.declared.target.MachineFact.{MachineFact}
use Rattle.ifs_bytes.specs.Carried.{carried}
use Rattle.elf_dyn.specs.declared.constants.TheConstants.{MOST_ROWS, MOST_NAME_BYTES}
use Rattle.ifs_stub.specs.declared.cause.StubCause.{StubCause}
use Rattle.ifs_stub.specs.declared.cause.StubCause.TheVariants.{TargetIncomplete, SizeTooWide, TooManySymbols, NamesTooLarge}
use Rattle.ifs_interface.specs.declared.target.TargetField.TheVariants.{Arch, BitWidth, Endianness}
use Rattle.ifs_stub.specs.declared.layout.Form.{Form}
use Rattle.ifs_stub.specs.StubFile.{stub_file, symbol_name_bytes, needed_name_bytes, soname_bytes}

-- the machine, order and width, all of them known
unfoldable pub form_of : MachineFact → Result Form StubCause
form_of fact = do
  machine ← ok_or fact.machine (TargetIncomplete Arch)
  width ← ok_or fact.width (TargetIncomplete BitWidth)
  order ← ok_or fact.order (TargetIncomplete Endianness)
  Ok (record { machine = machine; order = order; width = width })

-- the size has no place in a row
abbrev pub is_too_wide : Width → Symbol → Bool
is_too_wide W32 symbol = nat_le (2 ^ 32) (unwrap_or symbol.size 0)
is_too_wide W64 symbol = false

abbrev pub unless_too_wide : Option Symbol → Result (Unit {0}) StubCause
unless_too_wide None = Ok tt
unless_too_wide (Some symbol) = Err (SizeTooWide symbol.name)

unfoldable pub sizes_checked : Width → List Symbol → Result (Unit {0}) StubCause
sizes_checked width symbols = unless_too_wide (find (is_too_wide width) symbols)

-- how many symbols and needed libraries there are, and how many bytes all names have; 2^64 - 1 stands for more
unfoldable pub name_count : InterfaceRecord → ℕ
name_count i = length i.symbols + length i.needed

unfoldable pub name_bytes : InterfaceRecord → ℕ
name_bytes i = carried (symbol_name_bytes i.symbols + (needed_name_bytes i.needed + soname_bytes i.soname))

unfoldable pub limits_checked : InterfaceRecord → Result (Unit {0}) StubCause
limits_checked i = do
  _ ← check (nat_le (name_count i) MOST_ROWS) (TooManySymbols (name_count i))
  check (nat_le (name_bytes i) MOST_NAME_BYTES) (NamesTooLarge (name_bytes i))

-- no size is too wide for its row
abbrev pub HasNoWideSize : Width → List Symbol → Type 0
HasNoWideSize width symbols = list_any (is_too_wide width) symbols ≡ false

-- there aren't too many names, and they haven't too many bytes
pub record IsWithin (i : InterfaceRecord) : Type 0 where
  pub names : length i.symbols + length i.needed ≤ 1000000
  pub bytes : symbol_name_bytes i.symbols + (needed_name_bytes i.needed + soname_bytes i.soname) ≤ 33554432

-- the bytes of the stub, or the first cause
unfoldable pub stub_of : InterfaceRecord → Result (List ℕ) StubCause
stub_of i = do
  form ← form_of (parts_of i.target)
  _ ← sizes_checked form.width i.symbols
  _ ← limits_checked i
  Ok (stub_file form.order form.width form.machine i)

-- the bytes of a vector, where there is one
abbrev pub bytes_of : {A E : Type 0} → Result (Vec ℕ A) E → Result (List ℕ) E
bytes_of result = result_map_both (λ out. out.items) (λ cause. cause) result
