-- What holds of each stub file.
use Rattle.std.specs.Prelude.{◌≡◌, ℕ, ◌+◌, ◌-◌, ◌*◌, ◌<◌, ◌^◌, Bool, true, false, List, length, nat_lt, replicate, unwrap_or, Result, Ok}
use Rattle.std.specs.List.{list_all, slice_range}
use Rattle.ifs_bytes.specs.Field.{word_size}
use Rattle.ifs_bytes.specs.Outcome.{◌>>=◌}
use Rattle.ifs_bytes.specs.declared.form.Width.{Width}
use Rattle.elf_file.specs.Tables.{section_size}
use Rattle.elf_file.specs.declared.cause.ElfCause.{ElfCause}
use Rattle.elf_dyn.specs.Library.{library_of}
use Rattle.elf_dyn.specs.Rank.{are_bytes}
use Rattle.ifs_interface.specs.Interface.{InterfaceRecord, IsInterface}
use Rattle.ifs_interface.specs.Extracted.{interface_of}
use Rattle.ifs_interface.specs.Facts.{Facts, facts_of_library, facts_of_interface}
use Rattle.ifs_interface.specs.Library.{LibraryRecord}
use Rattle.ifs_interface.specs.Parts.{parts_of}
use Rattle.ifs_interface.specs.declared.symbol.Symbol.{Symbol}
use Rattle.ifs_stub.specs.declared.layout.Form.{Form}
use Rattle.ifs_stub.specs.declared.layout.Plan.{Plan}
use Rattle.ifs_stub.specs.StubFile.{header_part, symbol_part, string_part, hash_part, dynamic_part, section_names, section_part, file_by, plan_of, stub_file}
use Rattle.ifs_stub.specs.Stub.{IsWithin, form_of, stub_of}
use Rattle.ifs_stub.specs.StubLibrary.{stub_library}
use Rattle.ifs_stub.specs.Forget.{is_known, forget}

-- these bytes stand in the file from a place on
abbrev pub StandAt : List ℕ → ℕ → List ℕ → Type 0
StandAt file at bytes = slice_range file at (at + length bytes) ≡ bytes

-- each part stands at its place, and zeros between .dynstr and .hash, .hash and .dynamic, .shstrtab and the section headers
pub record HasParts (file : List ℕ) (i : InterfaceRecord) (plan : Plan) : Type 0 where
  pub headers : StandAt file 0 (header_part plan)
  pub symbols : StandAt file plan.layout.symbols (symbol_part i.symbols plan.form)
  pub strings : StandAt file plan.layout.strings (string_part i)
  pub before_hash : StandAt file plan.layout.strings_end (replicate (plan.layout.hash - plan.layout.strings_end) 0)
  pub hash : StandAt file plan.layout.hash (hash_part plan.sizes.rows plan.form.order)
  pub before_dynamic : StandAt file plan.layout.hash_end (replicate (plan.layout.dynamic - plan.layout.hash_end) 0)
  pub dynamic : StandAt file plan.layout.dynamic (dynamic_part i plan)
  pub names : StandAt file plan.layout.names section_names
  pub before_sections : StandAt file plan.layout.names_end (replicate (plan.layout.sections - plan.layout.names_end) 0)
  pub sections : StandAt file plan.layout.sections (section_part plan)

abbrev pub StubsHaveTheirParts : Type 0
StubsHaveTheirParts = (i : InterfaceRecord) (form : Form) → HasParts (file_by i (plan_of i form)) i (plan_of i form)

-- the file ends behind its six section headers
abbrev pub StubsEndAtTheirPlace : Type 0
StubsEndAtTheirPlace =
    (i : InterfaceRecord) (form : Form) → length (file_by i (plan_of i form)) ≡ (plan_of i form).layout.sections + 6 * section_size form.width

-- within the limits the file has less than 72 MiB
abbrev pub StubsAreSmall : Type 0
StubsAreSmall = (i : InterfaceRecord) (form : Form) → IsWithin i → length (file_by i (plan_of i form)) < 75497472

-- ---- a stub that is read back

-- the size of the symbol has a place in a row
abbrev pub size_fits : Width → Symbol → Bool
size_fits width symbol = nat_lt (unwrap_or symbol.size 0) (256 ^ word_size width)

-- an interface that has a stub of the form: it is within the limits, and its numbers have their places
pub record HasStub (i : InterfaceRecord) (form : Form) : Type 0 where
  pub interface : IsInterface i
  pub machine_fits : form.machine < 2 ^ 16
  pub sizes_fit : list_all (size_fits form.width) i.symbols ≡ true
  pub within : IsWithin i

-- the stub is read as the library that it stands for
abbrev pub StubsAreRead : Type 0
StubsAreRead =
    (i : InterfaceRecord) (form : Form) → HasStub i form → library_of (stub_file form.order form.width form.machine i) ≡ Ok (stub_library i form)

-- the file is read as the library that the stub of the interface stands for, which has no versions
pub record IsStubOf (i : InterfaceRecord) (file : List ℕ) : Type 0 where
  pub form : Form
  pub formed : form_of (parts_of i.target) ≡ Ok form
  pub read : library_of file ≡ Ok (stub_library i form)
  pub unversioned : (stub_library i form).versioned ≡ false

-- the interface of that library is the one that the stub was made from, but for what a stub has no place for
abbrev pub StubsKeepInterfaces : Type 0
StubsKeepInterfaces =
    (i : InterfaceRecord) (form : Form) → IsInterface i → form_of (parts_of i.target) ≡ Ok form → interface_of (stub_library i form) ≡ forget i

-- and its facts are those of the interface
abbrev pub StubsKeepFacts : Type 0
StubsKeepFacts =
    (i : InterfaceRecord) (form : Form) → IsInterface i → form_of (parts_of i.target) ≡ Ok form → facts_of_library (stub_library i form) ≡ facts_of_interface i

-- the machine is a number of 16 bits, and each size one of 64
pub record HasNumbers (i : InterfaceRecord) : Type 0 where
  pub machine : unwrap_or (parts_of i.target).machine 0 < 2 ^ 16
  pub sizes : list_all (λ symbol. nat_lt (unwrap_or symbol.size 0) (2 ^ 64)) i.symbols ≡ true

-- the interface of a file, or why it can't be read
abbrev pub interface_in : List ℕ → Result InterfaceRecord ElfCause
interface_in file = library_of file >>= λ library. Ok (interface_of library)

-- the facts of a file, or why it can't be read
abbrev pub facts_in : List ℕ → Result Facts ElfCause
facts_in file = library_of file >>= λ library. Ok (facts_of_library library)

-- so the stub of an interface, where there is one, has that interface
abbrev pub StubsAreReadBack : Type 0
StubsAreReadBack =
    (i : InterfaceRecord) (stub : List ℕ) → IsInterface i → HasNumbers i → stub_of i ≡ Ok stub → interface_in stub ≡ Ok (forget i)

-- and its facts
abbrev pub StubsHaveTheFacts : Type 0
StubsHaveTheFacts =
    (i : InterfaceRecord) (stub : List ℕ) → IsInterface i → HasNumbers i → stub_of i ≡ Ok stub → facts_in stub ≡ Ok (facts_of_interface i)

-- ---- the stub of a library's interface

abbrev pub form_of_library : LibraryRecord → Form
form_of_library library = record { machine = library.machine; order = library.order; width = library.width }

-- an interface that has a stub isn't refused
abbrev pub StubsAreMade : Type 0
StubsAreMade =
    (i : InterfaceRecord) (form : Form) → HasStub i form → form_of (parts_of i.target) ≡ Ok form → stub_of i ≡ Ok (stub_file form.order form.width form.machine i)

-- the interface of a library that was read has a stub of the library's form
abbrev pub ExtractedHaveStubs : Type 0
ExtractedHaveStubs =
    (file : List ℕ) (library : LibraryRecord) → are_bytes file ≡ true → library_of file ≡ Ok library → HasStub (interface_of library) (form_of_library library)

-- so it isn't refused
abbrev pub ExtractedAreMade : Type 0
ExtractedAreMade =
    (file : List ℕ) (library : LibraryRecord) → are_bytes file ≡ true → library_of file ≡ Ok library → stub_of (interface_of library) ≡ Ok (stub_file library.order library.width library.machine (interface_of library))

-- a type that a stub has a place for
abbrev pub has_known_kind : Symbol → Bool
has_known_kind symbol = is_known symbol.kind

-- that stub has all of the interface, where each type is known
abbrev pub ExtractedAreKept : Type 0
ExtractedAreKept =
    (library : LibraryRecord) → list_all has_known_kind (interface_of library).symbols ≡ true → forget (interface_of library) ≡ interface_of library

-- the interface of a library has the facts of the library
abbrev pub ExtractedKeepFacts : Type 0
ExtractedKeepFacts = (library : LibraryRecord) → facts_of_interface (interface_of library) ≡ facts_of_library library

-- so the stub of a library has the facts of the library
abbrev pub StubsOfLibrariesHaveTheirFacts : Type 0
StubsOfLibrariesHaveTheirFacts =
    (file stub : List ℕ) (library : LibraryRecord) → are_bytes file ≡ true → library_of file ≡ Ok library → stub_of (interface_of library) ≡ Ok stub → facts_in stub ≡ Ok (facts_of_library library)
