-- The inputs of a command: what their paths hold, and which interfaces they are.
use Rattle.std.specs.Prelude.{◌≡◌, ℕ, Bool, true, false, not, List, codes, Option, Some, None, Result, Ok, Err, if◌then◌else◌}
use Rattle.std.specs.List.{list_any}
use Rattle.std.specs.Str.{bytes_eq}
use Rattle.ifs_bytes.specs.Outcome.{◌>>=◌}
use Rattle.ifs_outside.specs.Files.{FileMap, reading}
use Rattle.ifs_outside.specs.declared.cause.ReadCause.{ReadCause}
use Rattle.ifs_outside.specs.declared.cause.ReadCause.TheVariants.{Missing, TooLarge, Failed, Memory}
use Rattle.elf_file.specs.ElfFile.{ElfFile, elf_of}
use Rattle.elf_file.specs.Printed.{printed_elf_cause}
use Rattle.elf_file.specs.declared.cause.ElfCause.{ElfCause}
use Rattle.elf_file.specs.declared.cause.ElfCause.TheVariants.{NotElf}
use Rattle.elf_dyn.specs.Library.{library_of}
use Rattle.ifs_interface.specs.Extracted.{interface_of}
use Rattle.ifs_interface.specs.Interface.{InterfaceRecord}
use Rattle.ifs_text.specs.Cause.{printed_text_cause}
use Rattle.ifs_text.specs.Text.{interface_of_text}
use Rattle.ifs_words.specs.declared.command.Command.{Command}
use Rattle.ifs_words.specs.declared.command.Command.TheVariants.{Stub}
use Rattle.ifs_words.specs.declared.command.InputFormat.{InputFormat}
use Rattle.ifs_words.specs.declared.command.InputFormat.TheVariants.{Ifs, Elf}
use Rattle.ifs_top.specs.declared.inputs.Input.{Input}
use Rattle.ifs_top.specs.declared.limits.TheConstants.{MOST_FILE_BYTES}
use Rattle.ifs_top.specs.declared.refusal.Refusal.{Refusal}
use Rattle.ifs_top.specs.Refused.{each, or_refused, refused}

-- ---- reading

-- why a path wasn't read
abbrev pub unread : ReadCause → List ℕ
unread Missing = codes "missing"
unread TooLarge = codes "too large"
unread Failed = codes "read failed"
unread Memory = codes "read failed"

abbrev pub or_unread : List ℕ → Result (List ℕ) ReadCause → Result Input Refusal
or_unread path (Ok bytes) = Ok (record { path = path; bytes = bytes })
or_unread path (Err cause) = refused path (unread cause) 3

-- the input at a path, where the files hold this
abbrev pub input_at : FileMap → List ℕ → Result Input Refusal
input_at files path = or_unread path (reading MOST_FILE_BYTES (files path))

-- the inputs in order, or the first that isn't read
abbrev pub read_inputs : FileMap → List (List ℕ) → Result (List Input) Refusal
read_inputs files paths = each (input_at files) paths

-- ---- the interface of an input

-- a file begins as an ELF file or an archive
abbrev pub is_not_elf : Result ElfFile ElfCause → Bool
is_not_elf (Err NotElf) = true
is_not_elf _ = false

abbrev pub begins_library : List ℕ → Bool
begins_library bytes = not (is_not_elf (elf_of bytes))

-- an input is a library or a text: as the words say, else by how it begins
abbrev pub is_library : Option InputFormat → List ℕ → Bool
is_library (Some Elf) bytes = true
is_library (Some Ifs) bytes = false
is_library None bytes = begins_library bytes

abbrev pub library_in : Input → Result InterfaceRecord Refusal
library_in input = or_refused input.path printed_elf_cause (library_of input.bytes) >>= (λ library. Ok (interface_of library))

abbrev pub text_in : Input → Result InterfaceRecord Refusal
text_in input = or_refused input.path printed_text_cause (interface_of_text input.bytes)

unfoldable pub interface_in : Option InputFormat → Input → Result InterfaceRecord Refusal
interface_in format input = if is_library format input.bytes then library_in input else text_in input

-- ---- the inputs that words name

abbrev pub inputs_of : Command → List (List ℕ)
inputs_of (Stub words) = words.inputs

abbrev pub AreNamed : List (List ℕ) → List ℕ → Type 0
AreNamed paths path = list_any (λ p. bytes_eq p path) paths ≡ true
