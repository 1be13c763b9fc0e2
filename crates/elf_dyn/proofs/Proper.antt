-- What is read is of a file, and its names are proper: they aren't empty, and have no NUL.
use Rattle.std.proofs.Common.{◌≡◌, ℕ, suc, ◌+◌, Bool, true, false, cond, ltb, List, [], ◌∷◌, length, take, drop, Option, Some, None, Ok, refl, sym, ap, ◌∙◌, arith}
use Rattle.std.specs.Prelude.{not, ◌&&◌, ◌==◌}
use Rattle.std.specs.List.{list_all, filter_map, cons_option, prefix_len, position_or_len}
use Rattle.std.specs.Option.{option_map, option_and_then}
use Rattle.ifs_bytes.specs.Name.{name_in}
use Rattle.ifs_bytes.specs.Places.{places}
use Rattle.ifs_interface.specs.Interface.{is_proper_name, is_proper_soname}
use Rattle.ifs_interface.specs.Library.{HasProperNames}
use Rattle.ifs_interface.specs.declared.row.DynRow.{DynRow}
use Rattle.elf_file.specs.declared.header.Header.{Header}
use Rattle.elf_file.specs.declared.symbol.Row.{Row}
use Rattle.elf_dyn.specs.declared.places.Entries.{Entries}
use Rattle.elf_dyn.specs.declared.places.Places.{Places}
use Rattle.elf_dyn.specs.declared.places.Strings.{Strings}
use Rattle.elf_dyn.specs.declared.constants.TheConstants.{DT_NEEDED, DT_SONAME}
use Rattle.elf_dyn.specs.Entries.{entry, entry_name, first_with, defines_versions, needed_at, needed_of, soname_of}
use Rattle.elf_dyn.specs.Library.{library_at, library_of, IsRead}
use Rattle.elf_dyn.specs.Rank.{are_bytes}
use Rattle.elf_dyn.specs.Rows.{row, row_name, is_candidate, named_row, visible_row, visible_rows}
use Rattle.elf_dyn.specs.Strings.{name_of, string_table, unless_empty}

-- the test holds of the value, if there is one
abbrev pub passes : {X : Type 0} → (X → Bool) → Option X → Bool
passes test None = true
passes test (Some x) = test x

front_case : (test : ℕ → Bool) (x : ℕ) (xs : List ℕ) (b : Bool) → test x ≡ b → list_all test (take (prefix_len test xs) xs) ≡ true → list_all test (take (cond b (1 + prefix_len test xs) 0) (x ∷ xs)) ≡ true
front_case test x xs true e h =
    let one : 1 + prefix_len test xs ≡ suc (prefix_len test xs) = omega arith in
    rw one (ap (λ b. b && list_all test (take (prefix_len test xs) xs)) e ∙ h)
front_case test x xs false e h = refl

front_passes : (test : ℕ → Bool) (xs : List ℕ) → list_all test (take (prefix_len test xs) xs) ≡ true
front_passes test [] = refl
front_passes test (x ∷ xs) = front_case test x xs (test x) refl (front_passes test xs)

abbrev no_nul : ℕ → Bool
no_nul c = not (c == 0)

-- the place of the first NUL, if there is one
placed : (xs : List ℕ) (b : Bool) (n : ℕ) → list_all no_nul (take n xs) ≡ true → passes (list_all no_nul) (option_map (λ n. take n xs) (cond b (Some n) None)) ≡ true
placed xs true n h = h
placed xs false n h = refl

name_has_no_nul : (table : List ℕ) (at : ℕ) → passes (list_all no_nul) (name_in table at) ≡ true
name_has_no_nul table at =
    let rest = drop at table in
    placed rest (ltb (position_or_len (λ b. b == 0) rest) (length rest)) (position_or_len (λ b. b == 0) rest) (front_passes no_nul rest)

some_is_proper : (name : Option (List ℕ)) → passes (list_all no_nul) name ≡ true → passes is_proper_name (unless_empty name) ≡ true
some_is_proper None h = refl
some_is_proper (Some []) h = refl
some_is_proper (Some (b ∷ bs)) h = h

proper_name : (file : List ℕ) (strings : Strings) (at : ℕ) → passes is_proper_name (unless_empty (name_of file strings at)) ≡ true
unfolding name_of
proper_name file strings at = some_is_proper (name_in (string_table file strings) at) (name_has_no_nul (string_table file strings) at)

-- what a filter keeps passes, where each thing that it makes does
kept : {X : Type 0} (test : X → Bool) (o : Option X) (xs : List X) → passes test o ≡ true → list_all test xs ≡ true → list_all test (cons_option o xs) ≡ true
kept test None xs h hs = hs
kept test (Some x) xs h hs = ap (λ b. b && list_all test xs) h ∙ hs

pub all_kept : {X : Type 0} (test : X → Bool) (f : ℕ → Option X) → ((i : ℕ) → passes test (f i) ≡ true) → (is : List ℕ) → list_all test (filter_map f is) ≡ true
all_kept test f h [] = refl
all_kept test f h (i ∷ is) = kept test (f i) (filter_map f is) (h i) (all_kept test f h is)

pub if_kept : {X : Type 0} (test : X → Bool) (b : Bool) (o : Option X) → passes test o ≡ true → passes test (cond b o None) ≡ true
if_kept test true o h = h
if_kept test false o h = refl

soname_case : (file : List ℕ) (e : Entries) (strings : Strings) (first : Option ℕ) → is_proper_soname (unless_empty (option_and_then (entry_name file e strings) first)) ≡ true
soname_case file e strings None = refl
soname_case file e strings (Some i) = soname_is (unless_empty (entry_name file e strings i)) (proper_name file strings (entry file e i).value) where
  soname_is : (o : Option (List ℕ)) → passes is_proper_name o ≡ true → is_proper_soname o ≡ true
  soname_is None h = refl
  soname_is (Some name) h = h

named : (r : Row) (name : Option (List ℕ)) → passes is_proper_name name ≡ true → passes (λ (row : DynRow). is_proper_name row.name) (option_map (named_row r) name) ≡ true
named r None h = refl
named r (Some name) h = h

pub proper_library : (file : List ℕ) (h : Header) (p : Places) (n : ℕ) → HasProperNames (library_at file h p n)
unfolding library_at soname_of needed_of visible_rows
proper_library file h p n = record {
  soname_is_proper = soname_case file p.entries p.entry_strings (first_with file p.entries n DT_SONAME);
  needed_are_proper = all_kept is_proper_name (needed_at file p.entries p.entry_strings) (λ i. if_kept is_proper_name ((entry file p.entries i).tag == DT_NEEDED) _ (proper_name file p.entry_strings (entry file p.entries i).value)) (places 0 n);
  rows_are_proper = all_kept (λ (row : DynRow). is_proper_name row.name) (visible_row file p.rows p.row_strings) (λ i. if_kept (λ (row : DynRow). is_proper_name row.name) (is_candidate (row file p.rows i)) _ (named (row file p.rows i) (unless_empty (row_name file p.rows p.row_strings i)) (proper_name file p.row_strings (row file p.rows i).name))) (places 1 p.rows.count);
}

-- what was read of a file is its library
pub read_from : (file : List ℕ) (h : Header) (p : Places) (n : ℕ) (soname : Option (List ℕ)) (needed : List (List ℕ)) (rows : List DynRow) (versioned : Bool)
    → are_bytes file ≡ true → library_of file ≡ Ok (library_at file h p n)
    → soname ≡ soname_of file p.entries p.entry_strings n → needed ≡ needed_of file p.entries p.entry_strings n
    → rows ≡ visible_rows file p.rows p.row_strings → versioned ≡ defines_versions file p.entries n
    → IsRead (record { machine = h.machine; order = h.order; width = h.width; soname = soname; needed = needed; rows = rows; versioned = versioned })
unfolding library_at
read_from file h p n soname needed rows versioned bytes is s m r v = record {
  file = file;
  bytes = bytes;
  is_its = is ∙ (λ i. Ok (record { machine = h.machine; order = h.order; width = h.width; soname = (sym s) i; needed = (sym m) i; rows = (sym r) i; versioned = (sym v) i }));
}
