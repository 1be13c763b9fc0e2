-- Output sections that are written and executed.
use Rattle.std.specs.Prelude.{Bool, ◌&&◌}
use Rattle.link_core.specs.Headers.{is_written_class}
use Rattle.link_tables.specs.declared.output.FilledOutput.{FilledOutput}

abbrev pub is_executed_write : FilledOutput → Bool
is_executed_write o = o.executable && is_written_class o.class
