-- The bytes of .dynamic, once places are known (gABI, "Dynamic Section").
use Rattle.std.specs.Option.{option_map_or}
use Rattle.std.specs.Prelude.{List, flat_map, ℕ}
use Rattle.ifs_bytes.specs.declared.form.Order.TheVariants.{Little}
use Rattle.ifs_bytes.specs.declared.form.Width.TheVariants.{W64}
use Rattle.elf_file.specs.Written.{dynamic_bytes}
use Rattle.elf_file.specs.declared.dynamic.Dyn.{Dyn}
use Rattle.link_core.specs.declared.layout.Layout.{Layout}
use Rattle.link_core.specs.Entries.{Entry, FirstSize, FirstStart, Meaning, NameAt, Number, SizeOf, StartOf, SymbolAt, dynamic_entries}
use Rattle.link_core.specs.Places.{named_section, table_address, table_size}
use Rattle.link_core.specs.Planned.{Planned}
use Rattle.link_core.specs.Strings.{dynamic_strings, string_place}
use Rattle.link_core.specs.Value.{name_value}

abbrev pub meant : Planned → Layout → Meaning → ℕ
meant j l (Number n) = n
meant j l (NameAt i) = string_place (dynamic_strings j) i
meant j l (StartOf table) = table_address j l table
meant j l (SizeOf table) = table_size j l table
meant j l (FirstStart name) = option_map_or (λ s. s.address) (named_section j l name) 0
meant j l (FirstSize name) = option_map_or (λ s. s.size) (named_section j l name) 0
meant j l (SymbolAt n) = name_value j l n

abbrev pub dyn_of : Planned → Layout → Entry → Dyn
dyn_of j l entry = record { tag = entry.tag; value = meant j l entry.meaning }

unfoldable pub dynamic_part : Planned → Layout → List ℕ
dynamic_part j l = flat_map (λ entry. dynamic_bytes (dyn_of j l entry) Little W64) (dynamic_entries j)
