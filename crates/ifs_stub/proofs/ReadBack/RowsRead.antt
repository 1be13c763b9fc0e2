-- What the rows of a stub say, read from its file.
use Rattle.std.proofs.Common.{◌≡◌, ℕ, ◌+◌, ◌-◌, ◌*◌, true, List, length, map, None, ap, ◌∙◌, arith}
use Rattle.std.specs.List.{list_all, list_any, filter_map, flat_map, range_with_len, sum_by, count_by}
use Rattle.ifs_bytes.specs.Places.{places}
use Rattle.elf_file.specs.Tables.{symbol_size, symbol_at}
use Rattle.elf_file.specs.Written.{symbol_bytes}
use Rattle.elf_file.specs.declared.symbol.Row.{Row}
use Rattle.elf_file.proofs.ReadBack.{symbol_at-symbol_bytes, length-symbol_bytes}
use Rattle.elf_dyn.specs.Rows as rows
use Rattle.elf_dyn.specs.Rows.{candidate_count, bad_row, candidate_bytes, visible_rows, is_candidate}
use Rattle.elf_dyn.specs.Strings.{name_of}
use Rattle.elf_dyn.specs.declared.places.Strings.{Strings}
use Rattle.elf_dyn.specs.declared.places.Rows.{Rows}
use Rattle.ifs_interface.specs.Interface.{InterfaceRecord, AreParts}
use Rattle.ifs_stub.specs.declared.layout.Form.{Form}
use Rattle.ifs_stub.specs.StubFile.{plan_of, sizes_of, null_row, rows_from, symbol_part, symbol_name_bytes}
use Rattle.ifs_stub.proofs.FileSize.{length-rows_from}
use Rattle.ifs_stub.specs.Laws.{size_fits}
use Rattle.ifs_stub.specs.StubLibrary.{stub_row}
use Rattle.ifs_stub.proofs.ReadBack.Stands.{Stands, EachFits, read_each, stands_back}
use Rattle.ifs_stub.proofs.ReadBack.Each.{filter_map_each, sum_each, count_each, none_each}
use Rattle.ifs_stub.proofs.ReadBack.Parts.{PartsStand, PlanIsSmall}
use Rattle.ifs_stub.proofs.ReadBack.Sections.{stub_places}
use Rattle.ifs_stub.proofs.ReadBack.Strings.{NamesAreFound}
use Rattle.ifs_stub.proofs.ReadBack.Rows.{seen, is_bad, name_size, rows_are_seen, none_is_bad, sizes_of_names, rows_are_candidates, RowFits, rows_fit}

abbrev bytes_in : Form → Row → List ℕ
bytes_in form row = symbol_bytes row form.order form.width

abbrev pub read_at : List ℕ → InterfaceRecord → Form → ℕ → Row
read_at file i form = rows.row file (stub_places (plan_of i form)).rows

-- the names of the symbols stand within the string table
rows_have_places : (i : InterfaceRecord) (form : Form) → PlanIsSmall (plan_of i form) → list_all (size_fits form.width) i.symbols ≡ true → EachFits (RowFits form.width) (rows_from 1 i.symbols)
unfolding sizes_of
rows_have_places i form small sizes =
    let size = small.strings_size in
    rows_fit form.width 1 i.symbols (omega (arith, size)) sizes

-- the rows behind row 0
behind_first : (file : List ℕ) (i : InterfaceRecord) (form : Form) → PartsStand file i (plan_of i form) → Stands file ((plan_of i form).layout.symbols + 1 * symbol_size form.width) (flat_map (bytes_in form) (rows_from 1 i.symbols))
unfolding symbol_part
behind_first file i form parts =
    let at = (plan_of i form).layout.symbols in
    let next : at + length (bytes_in form null_row) ≡ at + 1 * symbol_size form.width = omega (arith, length-symbol_bytes null_row form.order form.width) in
    stands_back file (bytes_in form null_row) (flat_map (bytes_in form) (rows_from 1 i.symbols)) at (at + 1 * symbol_size form.width) parts.symbols next

rows_counted : (i : InterfaceRecord) → (sizes_of i).rows - 1 ≡ length (rows_from 1 i.symbols)
unfolding sizes_of
rows_counted i = omega (arith, length-rows_from 1 i.symbols)

pub rows_are_read : (file : List ℕ) (i : InterfaceRecord) (form : Form) → PartsStand file i (plan_of i form) → PlanIsSmall (plan_of i form) → list_all (size_fits form.width) i.symbols ≡ true → map (read_at file i form) (places 1 (sizes_of i).rows) ≡ rows_from 1 i.symbols
rows_are_read file i form parts small sizes =
    let order = form.order in
    let width = form.width in
    let at = (plan_of i form).layout.symbols in
    ap (λ n. map (read_at file i form) (range_with_len 1 n)) (rows_counted i)
    ∙ read_each (λ bytes place. symbol_at bytes place order width) (bytes_in form) (RowFits width) (symbol_size width) (λ r. length-symbol_bytes r order width) (λ r before after fit. symbol_at-symbol_bytes r order width before after fit) file at 1 (rows_from 1 i.symbols) (rows_have_places i form small sizes) (behind_first file i form parts)

-- what the rows of a stub say
pub record RowsSay (file : List ℕ) (r : Rows) (strings : Strings) (i : InterfaceRecord) : Type 0 where
  pub visible : visible_rows file r strings ≡ map stub_row i.symbols
  pub count : candidate_count file r ≡ length i.symbols
  pub bytes : candidate_bytes file r strings ≡ symbol_name_bytes i.symbols
  pub bad : bad_row file r strings ≡ None

pub rows_say : (file : List ℕ) (i : InterfaceRecord) (form : Form) (strings : Strings) → PartsStand file i (plan_of i form) → PlanIsSmall (plan_of i form) → list_all (size_fits form.width) i.symbols ≡ true → AreParts i.soname i.target i.needed i.symbols → NamesAreFound (name_of file strings) i → RowsSay file (stub_places (plan_of i form)).rows strings i
unfolding visible_rows candidate_count candidate_bytes bad_row
rows_say file i form strings parts small sizes proper found =
    let read = read_at file i form in
    let all = rows_are_read file i form parts small sizes in
    let later = places 1 (sizes_of i).rows in
    let look = name_of file strings in
    record {
      visible = filter_map_each read (seen look) later ∙ ap (filter_map (seen look)) all ∙ rows_are_seen look 1 i.symbols found.symbols proper.names_are_proper;
      count = count_each read is_candidate later ∙ ap (count_by is_candidate) all ∙ rows_are_candidates 1 i.symbols;
      bytes = sum_each read (name_size look) later ∙ ap (sum_by (name_size look)) all ∙ sizes_of_names look 1 i.symbols found.symbols;
      bad = none_each read (is_bad look) (λ k. is_bad look (read k)) (λ k h. h) later (ap (list_any (is_bad look)) all ∙ none_is_bad look 1 i.symbols found.symbols);
    }
