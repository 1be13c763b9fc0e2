-- Where output sections stand: by what is there of tables, and by the output sections in order of first
-- appearance.
use Rattle.std.specs.Prelude.{List, Option, filter, length, option_and_then, position, slice_get, take, ℕ, ◌+◌}
use Rattle.ifs_interface.specs.Triple.{same_name}
use Rattle.link_core.specs.declared.layout.OutSection.{OutSection}
use Rattle.link_core.specs.declared.output.OutClass.{OutClass}
use Rattle.link_core.specs.declared.output.OutClass.TheVariants as classes
use Rattle.link_core.specs.OutputNames.{same_class}
use Rattle.link_tables.specs.declared.output.FilledOutput.{FilledOutput}
use Rattle.link_where.specs.declared.tables.There.{There}
use Rattle.link_where.specs.Tables.{count_if}

abbrev pub count_of : OutClass → List FilledOutput → ℕ
count_of class outputs = length (filter (λ o. same_class o.class class) outputs)

-- how many tables stand before the output sections of a class
abbrev pub read_tables : There → ℕ
read_tables there = count_if there.program + 3 + count_if there.moves + count_if there.calls

abbrev pub code_tables : There → ℕ
code_tables there = read_tables there + count_if there.calls

abbrev pub all_tables : There → ℕ
all_tables there = code_tables there + 2 + count_if there.words

abbrev pub tables_ahead : OutClass → There → ℕ
tables_ahead classes.R there = read_tables there
tables_ahead classes.X there = code_tables there
tables_ahead classes.T there = code_tables there
tables_ahead classes.Z there = code_tables there
tables_ahead classes.W there = all_tables there
tables_ahead classes.B there = all_tables there

-- how many output sections of other classes do
abbrev ahead_of_threads : List FilledOutput → ℕ
ahead_of_threads outputs = count_of classes.R outputs + count_of classes.X outputs

abbrev ahead_of_zeros : List FilledOutput → ℕ
ahead_of_zeros outputs = ahead_of_threads outputs + count_of classes.T outputs

abbrev ahead_of_written : List FilledOutput → ℕ
ahead_of_written outputs = ahead_of_zeros outputs + count_of classes.Z outputs

abbrev pub outputs_ahead : OutClass → List FilledOutput → ℕ
outputs_ahead classes.R outputs = 0
outputs_ahead classes.X outputs = count_of classes.R outputs
outputs_ahead classes.T outputs = ahead_of_threads outputs
outputs_ahead classes.Z outputs = ahead_of_zeros outputs
outputs_ahead classes.W outputs = ahead_of_written outputs
outputs_ahead classes.B outputs = ahead_of_written outputs + count_of classes.W outputs

-- the position of an output section with some before it
unfoldable pub place_of : There → OutClass → List FilledOutput → List FilledOutput → ℕ
place_of there class outputs before =
    tables_ahead class there + outputs_ahead class outputs + count_of class before

-- the section of the first output section of a name
unfoldable pub section_by : There → List FilledOutput → List OutSection → List ℕ → Option OutSection
section_by there outputs sections name =
    option_and_then (λ at.
    option_and_then (λ o. slice_get sections (place_of there o.class outputs (take at outputs))) (slice_get outputs at))
    (position (λ o. same_name o.name name) outputs)
