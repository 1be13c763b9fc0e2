use Rattle.elf_file.proofs.ReadBack.{section_header_at-section_bytes, segment_at-segment_bytes, symbol_at-symbol_bytes, dynamic_at-dynamic_bytes}
use Rattle.elf_file.proofs.laws.records_are_read_back.Goals as goal

pub returns-clause-sections : goal.returns-clause-sections
returns-clause-sections c = section_header_at-section_bytes

pub returns-clause-segments : goal.returns-clause-segments
returns-clause-segments c = segment_at-segment_bytes

pub returns-clause-rows : goal.returns-clause-rows
returns-clause-rows c = symbol_at-symbol_bytes

pub returns-clause-entries : goal.returns-clause-entries
returns-clause-entries c = dynamic_at-dynamic_bytes
