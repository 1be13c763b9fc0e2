-- The interface of a library that was read has a stub.
use Rattle.std.proofs.Common.{◌≡◌, ℕ, ◌+◌, ◌≤◌, ◌^◌, ◌==◌, Bool, true, false, cond, List, [], ◌∷◌, length, map, filter, Option, Some, None, Result, Ok, Err, refl, ap, subst, arith}
use Rattle.std.specs.Prelude.{nat_lt, nat_le, option_map, unwrap_or, if◌then◌else◌}
use Rattle.std.specs.List.{find, list_all, filter_map, sum_by}
use Rattle.std.proofs.lemmas.Bool.{and_parts, and_from}
use Rattle.std.proofs.lemmas.Bool.Decides.{nat_tests}
use Rattle.std.proofs.lemmas.List.{length-map}
use Rattle.std.proofs.lemmas.List.Sums.{sum_by-cons}
use Rattle.ifs_bytes.specs.Carried.{carried}
use Rattle.ifs_bytes.specs.Field.{word_size}
use Rattle.ifs_bytes.specs.Outcome.{◌>>=◌, check}
use Rattle.ifs_bytes.specs.Places.{places}
use Rattle.ifs_bytes.specs.declared.form.Width.{Width}
use Rattle.ifs_bytes.specs.declared.form.Width.TheVariants.{W32, W64}
use Rattle.elf_file.specs.Header.{header_of}
use Rattle.elf_file.specs.declared.cause.ElfCause.{ElfCause}
use Rattle.elf_file.specs.declared.cause.ElfCause.TheVariants.{WrongKind, TooMany, NamesTooLarge}
use Rattle.elf_file.specs.declared.header.Header.{Header}
use Rattle.elf_file.specs.declared.symbol.Row.{Row}
use Rattle.elf_dyn.specs.Entries as entries
use Rattle.elf_dyn.specs.Entries.{entry_count, bad_entry, soname_of, needed_at, needed_of, needed_bytes, needed_count, entry_name}
use Rattle.elf_dyn.specs.Library.{places_of, listed_count, name_bytes, checked, library_at, library_of}
use Rattle.elf_dyn.specs.Rows as rows
use Rattle.elf_dyn.specs.Rows.{is_candidate, named_row, row_name, candidate_count, candidate_size, candidate_bytes, bad_row, visible_row, visible_rows}
use Rattle.elf_dyn.specs.Strings.{unless_empty, bytes_of}
use Rattle.elf_dyn.specs.declared.constants.TheConstants.{ET_DYN, DT_NEEDED, MOST_ROWS, MOST_NAME_BYTES}
use Rattle.elf_dyn.specs.declared.places.Entries.{Entries}
use Rattle.elf_dyn.specs.declared.places.Places.{Places}
use Rattle.elf_dyn.specs.declared.places.Rows.{Rows}
use Rattle.elf_dyn.specs.declared.places.Strings.{Strings}
use Rattle.elf_dyn.specs.Rank.{are_bytes}
use Rattle.elf_dyn.proofs.Proper.{passes, proper_library}
use Rattle.ifs_interface.specs.Extracted.{interface_of, in_order, visible_names, symbol_named, described, wanted_symbol, rows_named, is_defined, kind_of, size_of}
use Rattle.ifs_interface.specs.Interface.{IsInterface}
use Rattle.ifs_interface.specs.Library.{LibraryRecord, HasProperNames}
use Rattle.ifs_interface.specs.Parts.{parts_of}
use Rattle.ifs_interface.specs.Triple.{same_name}
use Rattle.ifs_interface.specs.declared.row.DynRow.{DynRow}
use Rattle.ifs_interface.specs.declared.symbol.Kind.{Kind}
use Rattle.ifs_interface.specs.declared.symbol.Kind.TheVariants.{NoType, Func, Object, Tls, Unknown}
use Rattle.ifs_interface.specs.declared.symbol.Symbol.{Symbol}
use Rattle.ifs_stub.specs.Laws.{HasStub, size_fits, form_of_library}
use Rattle.ifs_stub.specs.Stub.{IsWithin, form_of, stub_of}
use Rattle.ifs_stub.specs.StubFile.{symbol_name_bytes, needed_name_bytes, soname_bytes, stub_file}
use Rattle.ifs_stub.proofs.ReadNumbers.{has_small_size, machine_is_below, rows_width, sizes_of_rows}
use Rattle.ifs_stub.proofs.Sorting.{names_ascend, names_are_proper}
use Rattle.ifs_stub.proofs.ReadBack.Stubs.{stubs_are_made}
use Rattle.ifs_stub.proofs.Steps.{steps, check_holds, at_most}
use Rattle.ifs_stub.proofs.Weights.{length_by_sum, weight, sum_of_kept, sum_of_ordered}

-- ---- the sizes of its symbols

no_size_fits : (size limit : ℕ) → nat_lt size limit ≡ true → nat_lt 0 limit ≡ true
no_size_fits size limit h = grind (arith, nat_tests)

unless_zero : (b : Bool) (size limit : ℕ) → nat_lt size limit ≡ true → nat_lt (unwrap_or (if b then None else Some size) 0) limit ≡ true
unless_zero true size limit h = no_size_fits size limit h
unless_zero false size limit h = h

kept_size : (kind : Kind) (size limit : ℕ) → nat_lt size limit ≡ true → nat_lt (unwrap_or (size_of kind size) 0) limit ≡ true
kept_size Func size limit h = no_size_fits size limit h
kept_size Object size limit h = h
kept_size Tls size limit h = h
kept_size NoType size limit h = unless_zero (size == 0) size limit h
kept_size Unknown size limit h = unless_zero (size == 0) size limit h

found_passes : {X : Type 0} (test p : X → Bool) (xs : List X) → list_all test xs ≡ true → passes test (find p xs) ≡ true
found_passes test p [] h = refl
found_passes test p (x ∷ xs) h =
    let parts = and_parts (test x) (list_all test xs) h in
    elim (p x) as (λ b. passes test (cond b (Some x) (find p xs)) ≡ true)
    [ true ↦ parts.0 | false ↦ found_passes test p xs parts.1 ]

filter_passes : {X : Type 0} (test p : X → Bool) (xs : List X) → list_all test xs ≡ true → list_all test (filter p xs) ≡ true
filter_passes test p [] h = refl
filter_passes test p (x ∷ xs) h =
    let parts = and_parts (test x) (list_all test xs) h in
    let rest = filter_passes test p xs parts.1 in
    elim (p x) as (λ b. list_all test (cond b (x ∷ filter p xs) (filter p xs)) ≡ true)
    [ true ↦ and_from (test x) (list_all test (filter p xs)) parts.0 rest | false ↦ rest ]

module _ (width : Width) where
  wanted_fits : (name : List ℕ) (rs : List DynRow) → list_all (has_small_size width) rs ≡ true → size_fits width (wanted_symbol name rs) ≡ true
  wanted_fits name [] h = elim width as (λ w. nat_lt 0 (256 ^ word_size w) ≡ true) [ W32 ↦ refl | W64 ↦ refl ]
  wanted_fits name (r ∷ rs) h =
      kept_size (kind_of r.kind) r.size (256 ^ word_size width) (and_parts (has_small_size width r) (list_all (has_small_size width) rs) h).0

  described_fits : (name : List ℕ) (o : Option DynRow) (rs : List DynRow) → passes (has_small_size width) o ≡ true → list_all (has_small_size width) rs ≡ true → size_fits width (described name o rs) ≡ true
  described_fits name None rs found all = wanted_fits name rs all
  described_fits name (Some r) rs found all = kept_size (kind_of r.kind) r.size (256 ^ word_size width) found

  symbol_fits : (rs : List DynRow) (name : List ℕ) → list_all (has_small_size width) rs ≡ true → size_fits width (symbol_named rs name) ≡ true
  unfolding symbol_named
  symbol_fits rs name all =
      let own = filter_passes (has_small_size width) (λ (row : DynRow). same_name row.name name) rs all in
      described_fits name (find is_defined (rows_named name rs)) (rows_named name rs) (found_passes (has_small_size width) is_defined (rows_named name rs) own) own

  symbols_fit : (rs : List DynRow) (names : List (List ℕ)) → list_all (has_small_size width) rs ≡ true → list_all (size_fits width) (map (symbol_named rs) names) ≡ true
  symbols_fit rs [] all = refl
  symbols_fit rs (n ∷ ns) all = and_from (size_fits width (symbol_named rs n)) (list_all (size_fits width) (map (symbol_named rs) ns)) (symbol_fits rs n all) (symbols_fit rs ns all)

-- ---- how many names it has, and of how many bytes

-- the name of a symbol is the name that it was made for
pub described_name : (name : List ℕ) (o : Option DynRow) (rs : List DynRow) → (described name o rs).name ≡ name
described_name name (Some r) rs = refl
described_name name None [] = refl
described_name name None (r ∷ rs) = refl

names_kept : (rs : List DynRow) (names : List (List ℕ)) → symbol_name_bytes (map (symbol_named rs) names) ≡ sum_by (λ n. length n) names
unfolding symbol_named
names_kept rs [] = refl
names_kept rs (n ∷ ns) =
    let named = described_name n (find is_defined (rows_named n rs)) (rows_named n rs) in
    omega (arith, sum_by-cons (λ (s : Symbol). length s.name) (symbol_named rs n) (map (symbol_named rs) ns), sum_by-cons (λ (m : List ℕ). length m) n ns, ap length named, names_kept rs ns)

sum_of_map : {X Y : Type 0} (f : Y → ℕ) (g : X → Y) (xs : List X) → sum_by f (map g xs) ≡ sum_by (λ x. f (g x)) xs
sum_of_map f g [] = refl
sum_of_map f g (x ∷ xs) =
    omega (arith, sum_by-cons f (g x) (map g xs), sum_by-cons (λ y. f (g y)) x xs, sum_of_map f g xs)

symbols_are_few : (rs : List DynRow) → length (map (symbol_named rs) (visible_names rs)) ≤ sum_by (λ r. 1) rs
unfolding visible_names
symbols_are_few rs =
    let names = map (λ (r : DynRow). r.name) rs in
    omega (arith, length-map (in_order names) (symbol_named rs), length_by_sum (in_order names), sum_of_ordered (λ n. 1) names, sum_of_map (λ n. 1) (λ (r : DynRow). r.name) rs)

symbols_are_short : (rs : List DynRow) → symbol_name_bytes (map (symbol_named rs) (visible_names rs)) ≤ sum_by (λ r. length r.name) rs
unfolding visible_names
symbols_are_short rs =
    let names = map (λ (r : DynRow). r.name) rs in
    omega (arith, names_kept rs (in_order names), sum_of_ordered (λ n. length n) names, sum_of_map (λ (n : List ℕ). length n) (λ (r : DynRow). r.name) rs)

-- a row that is visible is a candidate, and its name is the candidate's
visible_count : (b : Bool) (r : Row) (o : Option (List ℕ)) → weight (λ (d : DynRow). 1) (if b then option_map (named_row r) (unless_empty o) else None) ≤ cond b 1 0
visible_count false r o = omega arith
visible_count true r None = omega arith
visible_count true r (Some []) = omega arith
visible_count true r (Some (x ∷ xs)) = omega arith

visible_size : (b : Bool) (r : Row) (o : Option (List ℕ)) → weight (λ (d : DynRow). length d.name) (if b then option_map (named_row r) (unless_empty o) else None) ≤ (if b then bytes_of o else 0)
visible_size false r o = omega arith
visible_size true r None = omega arith
visible_size true r (Some []) = omega arith
visible_size true r (Some (x ∷ xs)) = omega arith

rows_are_few : (file : List ℕ) (r : Rows) (strings : Strings) → sum_by (λ d. 1) (visible_rows file r strings) ≤ candidate_count file r
unfolding visible_rows candidate_count
rows_are_few file r strings =
    sum_of_kept (λ d. 1) (visible_row file r strings) (λ i. cond (is_candidate (rows.row file r i)) 1 0) (λ i. visible_count (is_candidate (rows.row file r i)) (rows.row file r i) (row_name file r strings i)) (places 1 r.count)

rows_are_short : (file : List ℕ) (r : Rows) (strings : Strings) → sum_by (λ d. length d.name) (visible_rows file r strings) ≤ candidate_bytes file r strings
unfolding visible_rows candidate_bytes
rows_are_short file r strings =
    sum_of_kept (λ d. length d.name) (visible_row file r strings) (candidate_size file r strings) (λ i. visible_size (is_candidate (rows.row file r i)) (rows.row file r i) (row_name file r strings i)) (places 1 r.count)

needed_one : (b : Bool) (o : Option (List ℕ)) → weight (λ (n : List ℕ). 1) (if b then unless_empty o else None) ≤ cond b 1 0
needed_one false o = omega arith
needed_one true None = omega arith
needed_one true (Some []) = omega arith
needed_one true (Some (x ∷ xs)) = omega arith

needed_size : (o : Option (List ℕ)) → weight (λ (n : List ℕ). length n) o ≤ bytes_of o
needed_size None = omega arith
needed_size (Some n) = omega arith

needed_are_few : (file : List ℕ) (e : Entries) (strings : Strings) (n : ℕ) → length (needed_of file e strings n) ≤ needed_count file e n
unfolding needed_of needed_count
needed_are_few file e strings n =
    omega (arith, length_by_sum (filter_map (needed_at file e strings) (places 0 n)), sum_of_kept (λ m. 1) (needed_at file e strings) (λ i. cond ((entries.entry file e i).tag == DT_NEEDED) 1 0) (λ i. needed_one ((entries.entry file e i).tag == DT_NEEDED) (entry_name file e strings i)) (places 0 n))

needed_are_short : (file : List ℕ) (e : Entries) (strings : Strings) (n : ℕ) → needed_name_bytes (needed_of file e strings n) ≤ needed_bytes file e strings n
unfolding needed_of needed_bytes
needed_are_short file e strings n =
    sum_of_kept (λ m. length m) (needed_at file e strings) (λ i. bytes_of (needed_at file e strings i)) (λ i. needed_size (needed_at file e strings i)) (places 0 n)

soname_is_short : (o : Option (List ℕ)) → soname_bytes o ≡ bytes_of o
soname_is_short None = refl
soname_is_short (Some name) = refl

record AreSound (file : List ℕ) (p : Places) (n : ℕ) : Type 0 where
  pub count : candidate_count file p.rows + needed_count file p.entries n ≤ 1000000
  pub bytes : candidate_bytes file p.rows p.row_strings + (bytes_of (soname_of file p.entries p.entry_strings n) + needed_bytes file p.entries p.entry_strings n) ≤ 33554432

are_sound : (file : List ℕ) (p : Places) (n : ℕ) → checked file p n ≡ Ok tt → AreSound file p n
unfolding checked listed_count name_bytes
are_sound file p n is =
    by (entries.unless_bad (bad_entry file p.entries p.entry_strings n)) (nat_le (listed_count file p n) MOST_ROWS) refl (rows.unless_bad (bad_row file p.rows p.row_strings)) is
  where
    not_carried : (k : ℕ) → carried k ≤ 33554432 → k ≤ 33554432
    not_carried k h = omega (arith, h)

    by : (c : Result (Unit {0}) ElfCause) (few : Bool) → nat_le (listed_count file p n) MOST_ROWS ≡ few → (d : Result (Unit {0}) ElfCause) → (c >>= λ t. check few (TooMany (listed_count file p n)) >>= λ u. d >>= λ v. check (nat_le (name_bytes file p n) MOST_NAME_BYTES) (NamesTooLarge (name_bytes file p n))) ≡ Ok tt → AreSound file p n
    by (Ok t) true few (Ok v) same = record {
      count = at_most _ _ few;
      bytes = not_carried _ (at_most _ _ (check_holds (nat_le (name_bytes file p n) MOST_NAME_BYTES) (NamesTooLarge (name_bytes file p n)) tt same));
    }
    by (Err cause) few is_few d same = absurd (cc)
    by (Ok t) false few d same = absurd (cc)
    by (Ok t) true few (Err cause) same = absurd (cc)

-- ---- that library

record IsReadFrom (file : List ℕ) (h : Header) (p : Places) (n : ℕ) (library : LibraryRecord) : Type 0 where
  pub header : header_of file ≡ Ok h
  pub places : places_of file h ≡ Ok p
  pub sound : checked file p n ≡ Ok tt
  pub is : library_at file h p n ≡ library

read_from : (file : List ℕ) (library : LibraryRecord) → library_of file ≡ Ok library → (h : Header) × (p : Places) × IsReadFrom file h p (entry_count file p.entries) library
unfolding library_of
read_from file library is =
    let one = steps (header_of file) (λ h. check (h.kind == ET_DYN) WrongKind >>= λ t. places_of file h >>= λ p. checked file p (entry_count file p.entries) >>= λ u. Ok (library_at file h p (entry_count file p.entries))) library is in
    let h = one.0 in
    let two = steps (check (h.kind == ET_DYN) WrongKind) (λ t. places_of file h >>= λ p. checked file p (entry_count file p.entries) >>= λ u. Ok (library_at file h p (entry_count file p.entries))) library one.2 in
    let three = steps (places_of file h) (λ p. checked file p (entry_count file p.entries) >>= λ u. Ok (library_at file h p (entry_count file p.entries))) library two.2 in
    let p = three.0 in
    let four = steps (checked file p (entry_count file p.entries)) (λ u. Ok (library_at file h p (entry_count file p.entries))) library three.2 in
    (h, p, record { header = one.1; places = three.1; sound = four.1; is = made (library_at file h p (entry_count file p.entries)) four.2 })
  where
    made : (l : LibraryRecord) → ◌≡◌ {A = Result LibraryRecord ElfCause} (Ok l) (Ok library) → l ≡ library
    made l same = cc

interface_is : (file : List ℕ) (h : Header) (p : Places) (n : ℕ) → IsInterface (interface_of (library_at file h p n))
unfolding interface_of library_at
interface_is file h p n =
    let proper : HasProperNames (library_at file h p n) = proper_library file h p n in
    record {
      parts = record {
        soname_is_proper = proper.soname_is_proper;
        target_is_proper = refl;
        needed_are_proper = proper.needed_are_proper;
        names_are_proper = names_are_proper (visible_rows file p.rows p.row_strings) proper.rows_are_proper;
      };
      ascending = names_ascend (visible_rows file p.rows p.row_strings);
    }

within_limits : (file : List ℕ) (h : Header) (p : Places) (n : ℕ) → AreSound file p n → IsWithin (interface_of (library_at file h p n))
unfolding interface_of library_at
within_limits file h p n sound =
    let rs = visible_rows file p.rows p.row_strings in
    record {
      names = omega (arith, symbols_are_few rs, rows_are_few file p.rows p.row_strings, needed_are_few file p.entries p.entry_strings n, sound.count);
      bytes = omega (arith, symbols_are_short rs, rows_are_short file p.rows p.row_strings, needed_are_short file p.entries p.entry_strings n, soname_is_short (soname_of file p.entries p.entry_strings n), sound.bytes);
    }

sizes_fit : (file : List ℕ) (h : Header) (p : Places) (n : ℕ) → are_bytes file ≡ true → p.rows.width ≡ h.width → list_all (size_fits h.width) (interface_of (library_at file h p n)).symbols ≡ true
unfolding interface_of library_at
sizes_fit file h p n bytes same =
    let rs = visible_rows file p.rows p.row_strings in
    symbols_fit h.width rs (visible_names rs) (subst (λ w. list_all (has_small_size w) rs ≡ true) same (sizes_of_rows file p.rows p.row_strings bytes))

has_stub : (file : List ℕ) (h : Header) (p : Places) (n : ℕ) → are_bytes file ≡ true → header_of file ≡ Ok h → places_of file h ≡ Ok p → checked file p n ≡ Ok tt → HasStub (interface_of (library_at file h p n)) (form_of_library (library_at file h p n))
unfolding library_at
has_stub file h p n bytes header places sound = record {
  interface = interface_is file h p n;
  machine_fits = machine_is_below file h bytes header;
  sizes_fit = sizes_fit file h p n bytes (rows_width file h p places);
  within = within_limits file h p n (are_sound file p n sound);
}

pub extracted_have_stubs : (file : List ℕ) (library : LibraryRecord) → are_bytes file ≡ true → library_of file ≡ Ok library → HasStub (interface_of library) (form_of_library library)
extracted_have_stubs file library bytes is =
    let read = read_from file library is in
    let from = read.2 in
    subst (λ l. HasStub (interface_of l) (form_of_library l)) from.is (has_stub file read.0 read.1 (entry_count file read.1.entries) bytes from.header from.places from.sound)

pub form_is : (library : LibraryRecord) → form_of (parts_of (interface_of library).target) ≡ Ok (form_of_library library)
unfolding form_of interface_of
form_is library = refl

pub extracted_are_made : (file : List ℕ) (library : LibraryRecord) → are_bytes file ≡ true → library_of file ≡ Ok library → stub_of (interface_of library) ≡ Ok (stub_file library.order library.width library.machine (interface_of library))
extracted_are_made file library bytes is =
    stubs_are_made (interface_of library) (form_of_library library) (extracted_have_stubs file library bytes is) (form_is library)
