-- What bytes are as a library of a link.
use Rattle.std.specs.Prelude.{ℕ, Bool, ◌||◌, List, Result, Ok, Err, if◌then◌else◌}
use Rattle.elf_dyn.specs.Library.{library_of}
use Rattle.elf_file.specs.Header.{has_magic, is_archive}
use Rattle.elf_file.specs.declared.cause.ElfCause.{ElfCause}
use Rattle.ifs_interface.specs.Interface.{InterfaceRecord}
use Rattle.ifs_interface.specs.Library.{LibraryRecord}
use Rattle.ifs_text.specs.Text.{interface_of_text}
use Rattle.ifs_text.specs.declared.cause.TextCause.{TextCause}
use Rattle.link_core.specs.declared.input.LibCause.TheVariants as causes
use Rattle.link_core.specs.declared.input.LibSource.{LibSource}
use Rattle.link_core.specs.declared.input.LibSource.TheVariants as sources
use Rattle.link_libs.specs.declared.any.AnyLib.{AnyLib}
use Rattle.link_libs.specs.declared.any.AnyLib.TheVariants.{File, Text}

-- bytes begin as an ELF file or an archive
abbrev pub begins_library : List ℕ → Bool
begins_library bytes = has_magic bytes || is_archive bytes

-- a library that defines symbol versions can't be linked against
abbrev pub held : LibraryRecord → LibSource AnyLib
held library = if library.versioned then sources.Versioned else sources.Held (File library)

abbrev pub or_elf : Result LibraryRecord ElfCause → LibSource AnyLib
or_elf (Ok library) = held library
or_elf (Err cause) = sources.Refused (causes.Elf cause)

abbrev pub or_text : Result InterfaceRecord TextCause → LibSource AnyLib
or_text (Ok interface) = sources.Held (Text interface)
or_text (Err cause) = sources.Refused (causes.Text cause)

-- a shared library
abbrev pub file_source : List ℕ → LibSource AnyLib
file_source bytes = or_elf (library_of bytes)

-- an interface as a text
abbrev pub text_source : List ℕ → LibSource AnyLib
text_source text = or_text (interface_of_text text)

-- a library where bytes begin as one, else a text
unfoldable pub source_of : List ℕ → LibSource AnyLib
source_of bytes = if begins_library bytes then file_source bytes else text_source bytes
