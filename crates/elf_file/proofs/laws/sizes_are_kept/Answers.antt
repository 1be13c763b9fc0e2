use Rattle.elf_file.proofs.HeaderLaws.{length-header_bytes}
use Rattle.elf_file.proofs.ReadBack.{length-section_bytes, length-segment_bytes, length-symbol_bytes, length-dynamic_bytes}
use Rattle.elf_file.proofs.laws.sizes_are_kept.Goals as goal

pub returns : goal.returns
returns c = record {
  headers = length-header_bytes;
  sections = length-section_bytes;
  segments = length-segment_bytes;
  rows = length-symbol_bytes;
  entries = length-dynamic_bytes;
}
