use Rattle.elf_file.proofs.HeaderLaws.{header_stands, header_of-header_bytes}
use Rattle.elf_file.proofs.laws.headers_are_read_back.Goals as goal

pub returns-clause-places : goal.returns-clause-places
returns-clause-places c = header_stands

pub returns-clause-read : goal.returns-clause-read
returns-clause-read c = header_of-header_bytes
