-- What is counted of a link before places are known.
use Rattle.std.specs.Prelude.{Bool, List, None, Option, Some, codes, if◌then◌else◌, is_some, length, nat_lt, not, ℕ, ◌&&◌, ◌+◌, ◌==◌}
use Rattle.elf_object.specs.Record.{ObjectRecord}
use Rattle.link_core.specs.declared.constants.TheConstants.{EM_X86_64}
use Rattle.link_core.specs.declared.options.LinkOptions.{LinkOptions}
use Rattle.link_core.specs.declared.plan.Plan.{Plan}
use Rattle.link_core.specs.declared.resolution.NameRow.{NameRow}
use Rattle.link_core.specs.declared.resolution.Resolution.{Resolution}
use Rattle.link_core.specs.Contents.{interpreter_of, row_count}
use Rattle.link_core.specs.Entries.{dynamic_entries, flags_value, has_output, rela_dyn_count}
use Rattle.link_core.specs.Exports.{is_shared}
use Rattle.link_core.specs.Planned.{Planned}
use Rattle.link_core.specs.Slots.{word_count}
use Rattle.link_core.specs.Strings.{dynamic_strings, soname_of, string_table_size}
use Rattle.link_tables.specs.declared.counts.Counts.{Counts}
use Rattle.link_tables.specs.declared.counts.Present.{Present}
use Rattle.link_tables.specs.Capped.{capped}
use Rattle.link_tables.specs.Fills.{fills_in, words_in}
use Rattle.link_tables.specs.Names.{is_defined, strings_room}

-- ---- .dynamic

abbrev pub count_if : Bool → ℕ → ℕ
count_if there n = if there then n else 0

-- how many entries there are; seven are always there
unfoldable pub entry_count : LinkOptions → List NameRow → Present → ℕ → Bool → Bool → ℕ
entry_count options names present needed moves calls =
    needed + 7
    + count_if (is_some (soname_of options)) 1
    + count_if (is_some options.runpath) 1
    + count_if (is_defined names (codes "_init")) 1
    + count_if (is_defined names (codes "_fini")) 1
    + count_if (present.preinit_array && not (is_shared options.kind)) 2
    + count_if present.init_array 2
    + count_if present.fini_array 2
    + count_if moves 3
    + count_if calls 3
    + count_if present.flags 1
    + count_if (not (is_shared options.kind)) 1

-- which output sections and flags .dynamic speaks of
unfoldable pub present_in : Planned → Present
present_in j = record {
  preinit_array = has_output j (codes ".preinit_array");
  init_array = has_output j (codes ".init_array");
  fini_array = has_output j (codes ".fini_array");
  flags = nat_lt 0 (flags_value j);
}

-- ---- all counts

-- the path of the interpreter with its NUL: the one that was given, or the usual one
abbrev pub path_room : Option (List ℕ) → ℕ → ℕ
path_room None number = if number == EM_X86_64 then 28 else 27
path_room (Some path) number = length path + 1

abbrev pub interpreter_room : LinkOptions → ℕ → ℕ
interpreter_room options number = path_room options.interp number

abbrev pub moves_by : LinkOptions → List ObjectRecord → Resolution → Plan → ℕ
moves_by options objects r p = capped (fills_in objects r.names options.kind p.got + length p.moves)

-- by all that they depend on
unfoldable pub counts_by : ℕ → ℕ → LinkOptions → List ObjectRecord → Resolution → Plan → Present → Counts
counts_by number header options objects r p present = record {
  program = not (is_shared options.kind);
  interpreter = interpreter_room options number;
  rows = 1 + length p.imports + length p.exports;
  strings = capped (strings_room options r p);
  moves = moves_by options objects r p;
  calls = length p.plt;
  words = capped (words_in p.got);
  entries =
      entry_count options r.names present (length r.needed) (nat_lt 0 (moves_by options objects r p))
      (nat_lt 0 (length p.plt));
  header = header;
}

unfoldable pub counts_of : Planned → Counts
counts_of j = record {
  program = not (is_shared j.options.kind);
  interpreter = length (interpreter_of j) + 1;
  rows = row_count j.plan;
  strings = capped (string_table_size (dynamic_strings j));
  moves = capped (rela_dyn_count j);
  calls = length j.plan.plt;
  words = capped (word_count j);
  entries = length (dynamic_entries j);
  header = j.rules.header_len;
}
