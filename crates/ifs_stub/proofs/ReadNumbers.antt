-- Numbers of a library that was read have the size of their fields.
use Rattle.std.proofs.Common.{◌≡◌, ℕ, zero, suc, ◌+◌, ◌*◌, ◌/◌, ◌<◌, ◌^◌, Bool, true, not, List, [], ◌∷◌, drop, Option, Some, None, Result, Ok, Err, refl, sym, ap, ◌∙◌, arith}
use Rattle.std.specs.Prelude.{nat_lt, option_map}
use Rattle.std.specs.List.{list_all}
use Rattle.std.proofs.lemmas.Bool.Decides.{nat_tests}
use Rattle.byteorder.specs.Numbers.{big_from-lt, little_from-lt}
use Rattle.ifs_bytes.specs.Field.{number_at, word_size, lies}
use Rattle.ifs_bytes.specs.Outcome.{◌>>=◌, check}
use Rattle.ifs_bytes.specs.Places.{places}
use Rattle.ifs_bytes.specs.declared.form.Order.{Order}
use Rattle.ifs_bytes.specs.declared.form.Order.TheVariants.{Little, Big}
use Rattle.ifs_bytes.specs.declared.form.Width.{Width}
use Rattle.elf_file.specs.Header.{is_archive, has_magic, has_known_sizes, sections_of, tables_of, header_of}
use Rattle.elf_file.specs.Header as header
use Rattle.elf_file.specs.Tables.{header_size, segment_size, symbol_size, dynamic_size, file_header_at, symbol_at}
use Rattle.elf_file.specs.declared.cause.ElfCause.{ElfCause}
use Rattle.elf_file.specs.declared.cause.ElfCause.TheVariants.{NotElf, BadHeader, Truncated, Archive}
use Rattle.elf_file.specs.declared.fields.FileHeader.{FileHeader}
use Rattle.elf_file.specs.declared.form.Form.{Form}
use Rattle.elf_file.specs.declared.header.Header.{Header}
use Rattle.elf_file.specs.declared.section.SectionHeader.{SectionHeader}
use Rattle.elf_file.specs.declared.symbol.Row.{Row}
use Rattle.elf_dyn.specs.Library.{places_by, places_of}
use Rattle.elf_dyn.specs.Rows.{row, row_name, is_candidate, named_row, visible_row, visible_rows}
use Rattle.elf_dyn.specs.Sections.{first_section, strings_by_section, places_by_sections}
use Rattle.elf_dyn.specs.Segments.{entries_by_segment, addresses_of, strings_by_address, row_count, rows_by_address, mapped, places_by_segments}
use Rattle.elf_dyn.specs.Entries.{entry_count}
use Rattle.elf_dyn.specs.Strings.{unless_empty}
use Rattle.elf_dyn.specs.declared.addresses.Addresses.{Addresses}
use Rattle.elf_dyn.specs.declared.places.Entries.{Entries}
use Rattle.elf_dyn.specs.declared.places.Places.{Places}
use Rattle.elf_dyn.specs.declared.places.Rows.{Rows}
use Rattle.elf_dyn.specs.declared.places.Strings.{Strings}
use Rattle.elf_dyn.specs.declared.constants.TheConstants.{SHT_DYNAMIC, SHT_DYNSYM}
use Rattle.elf_dyn.specs.Rank.{are_bytes}
use Rattle.elf_dyn.proofs.Ranking.{AreBytes, bytes_from}
use Rattle.elf_dyn.proofs.Proper.{passes, all_kept, if_kept}
use Rattle.ifs_interface.specs.declared.row.DynRow.{DynRow}
use Rattle.ifs_stub.proofs.Steps.{steps, ok_is}

-- ---- numbers in bytes

dropped : (n : ℕ) (xs : List ℕ) → AreBytes xs → AreBytes (drop n xs)
dropped zero xs h k = h k
dropped (suc n) [] h k = omega arith
dropped (suc n) (x ∷ xs) h k = dropped n xs (λ j. h (suc j)) k

number_is_below : (file : List ℕ) (at size : ℕ) (order : Order) → AreBytes file → number_at file at size order < 256 ^ size
unfolding number_at
number_is_below file at size Little bytes = little_from-lt 0 size (drop at file) (dropped at file bytes)
number_is_below file at size Big bytes = big_from-lt 0 size (drop at file) (dropped at file bytes)

-- ---- the machine

machine_of_tables : (file : List ℕ) (e : FileHeader) (form : Form) (h : Header) → tables_of file e form ≡ Ok h → h.machine ≡ e.machine
unfolding tables_of
machine_of_tables file e form h is =
    by (check (has_known_sizes e form.width) BadHeader) (check (lies file e.phoff (e.phnum * segment_size form.width)) (Truncated e.phoff)) (sections_of file e form) is
  where
    by : (c d : Result (Unit {0}) ElfCause) (s : Result (ℕ × ℕ) ElfCause) → (c >>= λ t. d >>= λ u. s >>= λ sections. Ok (record { order = form.order; width = form.width; kind = e.kind; machine = e.machine; entry_point = e.entry; phoff = e.phoff; phnum = e.phnum; shoff = e.shoff; shnum = sections.0; shstrndx = sections.1 })) ≡ Ok h → h.machine ≡ e.machine
    by (Ok t) (Ok u) (Ok sections) same = ap (λ (g : Header). g.machine) (ok_is h _ (Ok h) refl (sym same))
    by (Err cause) d s same = absurd (cc)
    by (Ok t) (Err cause) s same = absurd (cc)
    by (Ok t) (Ok u) (Err cause) same = absurd (cc)

pub machine_is_below : (file : List ℕ) (h : Header) → are_bytes file ≡ true → header_of file ≡ Ok h → h.machine < 2 ^ 16
unfolding header_of file_header_at
machine_is_below file h bytes is =
    by (check (not (is_archive file)) Archive) (check (has_magic file) NotElf) (header.form_of file) is
  where
    by : (c d : Result (Unit {0}) ElfCause) (f : Result Form ElfCause) → (c >>= λ t. d >>= λ u. f >>= λ form. check (lies file 0 (header_size form.width)) (Truncated 0) >>= λ v. tables_of file (file_header_at file 0 form.order form.width) form) ≡ Ok h → h.machine < 2 ^ 16
    by (Ok t) (Ok u) (Ok form) same =
        let last = steps (check (lies file 0 (header_size form.width)) (Truncated 0)) (λ v. tables_of file (file_header_at file 0 form.order form.width) form) h same in
        omega (arith, machine_of_tables file (file_header_at file 0 form.order form.width) form h last.2, number_is_below file (0 + 18) 2 form.order (bytes_from file bytes))
    by (Err cause) d f same = absurd (cc)
    by (Ok t) (Err cause) f same = absurd (cc)
    by (Ok t) (Ok u) (Err cause) same = absurd (cc)

-- ---- the rows have the width of the file

by_address : (file : List ℕ) (h : Header) (a : Addresses) (count : ℕ) (r : Rows) → rows_by_address file h a count ≡ Ok r → r.width ≡ h.width
unfolding rows_by_address
by_address file h a count r is =
    let one = steps (mapped file h a.symbols) (λ from. check (lies file from (count * symbol_size h.width)) (Truncated from) >>= λ t. Ok (record { order = h.order; width = h.width; from = from; count = count })) r is in
    let two = steps (check (lies file one.0 (count * symbol_size h.width)) (Truncated one.0)) (λ t. Ok (record { order = h.order; width = h.width; from = one.0; count = count })) r one.2 in
    ap (λ (q : Rows). q.width) (ok_is r _ (Ok r) refl (sym two.2))

-- by segments, one step after the other
module _ (file : List ℕ) (h : Header) (p : Places) where
  abbrev made : Entries → Strings → Rows → Result Places ElfCause
  made e s r = Ok (record { entries = e; entry_strings = s; rows = r; row_strings = s })

  abbrev HasWidth : Type 0
  HasWidth = p.rows.width ≡ h.width

  with_rows : (e : Entries) (s : Strings) (r : Result Rows ElfCause) → ((q : Rows) → r ≡ Ok q → q.width ≡ h.width) → (r >>= λ q. made e s q) ≡ Ok p → HasWidth
  with_rows e s (Ok q) wide is = let same : record { entries = e; entry_strings = s; rows = q; row_strings = s } ≡ p = cc in ap (λ (m : Places). m.rows.width) (sym same) ∙ wide q refl
  with_rows e s (Err cause) wide is = absurd (cc)

  with_count : (e : Entries) (s : Strings) (a : Addresses) (n : Result ℕ ElfCause) → (n >>= λ k. rows_by_address file h a k >>= λ q. made e s q) ≡ Ok p → HasWidth
  with_count e s a (Ok k) is = with_rows e s (rows_by_address file h a k) (λ q found. by_address file h a k q found) is
  with_count e s a (Err cause) is = absurd (cc)

  with_strings : (e : Entries) (a : Addresses) (s : Result Strings ElfCause) → (s >>= λ t. row_count file h a.hash >>= λ k. rows_by_address file h a k >>= λ q. made e t q) ≡ Ok p → HasWidth
  with_strings e a (Ok s) is = with_count e s a (row_count file h a.hash) is
  with_strings e a (Err cause) is = absurd (cc)

  with_addresses : (e : Entries) (a : Result Addresses ElfCause) → (a >>= λ b. strings_by_address file h b >>= λ t. row_count file h b.hash >>= λ k. rows_by_address file h b k >>= λ q. made e t q) ≡ Ok p → HasWidth
  with_addresses e (Ok a) is = with_strings e a (strings_by_address file h a) is
  with_addresses e (Err cause) is = absurd (cc)

  with_entries : (e : Result Entries ElfCause) → (e >>= λ d. addresses_of file d (entry_count file d) >>= λ b. strings_by_address file h b >>= λ t. row_count file h b.hash >>= λ k. rows_by_address file h b k >>= λ q. made d t q) ≡ Ok p → HasWidth
  with_entries (Ok e) is = with_addresses e (addresses_of file e (entry_count file e)) is
  with_entries (Err cause) is = absurd (cc)

  by_segments : places_by_segments file h ≡ Ok p → HasWidth
  unfolding places_by_segments
  by_segments is = with_entries (entries_by_segment file h) is

by_sections : (file : List ℕ) (h : Header) (dynamics symbols : SectionHeader) (p : Places) → places_by_sections file h dynamics symbols ≡ Ok p → p.rows.width ≡ h.width
unfolding places_by_sections
by_sections file h dynamics symbols p is =
    by (strings_by_section file h dynamics) (strings_by_section file h symbols) is
  where
    by : (c d : Result Strings ElfCause) → (c >>= λ own. d >>= λ others. Ok (record { entries = record { order = h.order; width = h.width; from = dynamics.offset; room = dynamics.size / dynamic_size h.width }; entry_strings = own; rows = record { order = h.order; width = h.width; from = symbols.offset; count = symbols.size / symbol_size h.width }; row_strings = others })) ≡ Ok p → p.rows.width ≡ h.width
    by (Ok own) (Ok others) same = ap (λ (q : Places). q.rows.width) (ok_is p _ (Ok p) refl (sym same))
    by (Err cause) d same = absurd (cc)
    by (Ok own) (Err cause) same = absurd (cc)

pub rows_width : (file : List ℕ) (h : Header) (p : Places) → places_of file h ≡ Ok p → p.rows.width ≡ h.width
unfolding places_of
rows_width file h p is = by (first_section file h SHT_DYNAMIC) (first_section file h SHT_DYNSYM) is
  where
    by : (d s : Option SectionHeader) → places_by file h d s ≡ Ok p → p.rows.width ≡ h.width
    by (Some dynamics) (Some symbols) found = by_sections file h dynamics symbols p found
    by None s found = by_segments file h p found
    by (Some dynamics) None found = by_segments file h p found

-- ---- the sizes of rows

abbrev pub has_small_size : Width → DynRow → Bool
has_small_size width row = nat_lt row.size (256 ^ word_size width)

size_of_row : (file : List ℕ) (r : Rows) (i : ℕ) → AreBytes file → nat_lt (row file r i).size (256 ^ word_size r.width) ≡ true
unfolding symbol_at
size_of_row file r i bytes =
    let below = number_is_below file (r.from + i * symbol_size r.width + 2 * word_size r.width) (word_size r.width) r.order bytes in
    grind (arith, nat_tests, below)

named_size : (width : Width) (r : Row) (name : Option (List ℕ)) → nat_lt r.size (256 ^ word_size width) ≡ true → passes (has_small_size width) (option_map (named_row r) name) ≡ true
named_size width r None h = refl
named_size width r (Some name) h = h

pub sizes_of_rows : (file : List ℕ) (r : Rows) (strings : Strings) → are_bytes file ≡ true → list_all (has_small_size r.width) (visible_rows file r strings) ≡ true
unfolding visible_rows
sizes_of_rows file r strings bytes =
    all_kept (has_small_size r.width) (visible_row file r strings) (λ i. if_kept (has_small_size r.width) (is_candidate (row file r i)) _ (named_size r.width (row file r i) (unless_empty (row_name file r strings i)) (size_of_row file r i (bytes_from file bytes)))) (places 1 r.count)
