-- An ELF file: its bytes, and what its file header says of them.
use Rattle.std.specs.Prelude.{ℕ, ◌+◌, ◌*◌, ◌≤◌, List, length, Result, Ok}
use Rattle.ifs_bytes.specs.Outcome.{◌>>=◌}
use Rattle.elf_file.specs.Header.{header_of}
use Rattle.elf_file.specs.Tables.{section_size, segment_size}
use Rattle.elf_file.specs.declared.cause.ElfCause.{ElfCause}
use Rattle.elf_file.specs.declared.header.Header.{Header}

pub record ElfFile : Type 0 where
  pub bytes : List ℕ
  pub header : Header

-- both tables lie in the file
pub record HeaderFits (file : List ℕ) (h : Header) : Type 0 where
  pub segments : h.phoff + h.phnum * segment_size h.width ≤ length file
  pub sections : h.shoff + h.shnum * section_size h.width ≤ length file

-- the file with its header, or the first cause
abbrev pub elf_of : List ℕ → Result ElfFile ElfCause
elf_of file = header_of file >>= λ h. Ok (record { bytes = file; header = h })
