-- The sections of the image, segment by segment, by the counts of the tables and by the output sections.
use Rattle.std.specs.Prelude.{List, filter, length, map, ◌++◌}
use Rattle.link_core.specs.declared.output.OutClass.{OutClass}
use Rattle.link_core.specs.declared.output.OutClass.TheVariants as classes
use Rattle.link_core.specs.Aligned.{end_from, greatest_align}
use Rattle.link_core.specs.Contents.{output_flags}
use Rattle.link_core.specs.OutputNames.{same_class}
use Rattle.link_tables.specs.declared.counts.Counts.{Counts}
use Rattle.link_tables.specs.declared.output.FilledOutput.{FilledOutput}
use Rattle.link_tables.specs.declared.section.Section.{Section}
use Rattle.link_tables.specs.Capped.{capped}
use Rattle.link_tables.specs.Sections.{code_tables, read_tables, written_tables}
use Rattle.link_places.specs.declared.segments.Segments.{Segments}

-- the section of an output section: as great as what stands in it, and aligned as it
unfoldable pub section_of : FilledOutput → Section
section_of output = record {
  name = output.name;
  kind = output.kind;
  flags = output_flags output.class output.executable;
  align = greatest_align (λ item. item.align) output.items;
  size = capped (end_from (λ item. item.align) (λ item. item.size) 0 output.items);
}

-- those of a class, in order
abbrev pub sections_in : OutClass → List FilledOutput → List Section
sections_in class outputs = map section_of (filter (λ output. same_class output.class class) outputs)

unfoldable pub segments_of : Counts → List FilledOutput → Segments
segments_of n outputs = record {
  read = read_tables n ++ sections_in classes.R outputs;
  code = code_tables n ++ sections_in classes.X outputs;
  thread = sections_in classes.T outputs;
  zeros = sections_in classes.Z outputs;
  written = written_tables n ++ sections_in classes.W outputs ++ sections_in classes.B outputs;
  read_tables = length (read_tables n);
  code_tables = length (code_tables n);
  written_tables = length (written_tables n);
  first_zeros = length (written_tables n ++ sections_in classes.W outputs);
}
