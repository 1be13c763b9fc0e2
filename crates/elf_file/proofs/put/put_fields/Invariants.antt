use Rattle.std.proofs.Common.{◌≡◌, ◌++◌, take, map}
use Rattle.elf_file.specs.Field.{sized}
use Rattle.elf_file.specs.Written.{fields_bytes}
use Rattle.elf_file.proofs.put.put_fields.Given as goal

abbrev pub invariant-loop-field : goal.invariant-loop-field
invariant-loop-field l = l.out.items ≡ l.initial.out.items ++ fields_bytes (map sized (take l.field-index l.fields)) l.order
