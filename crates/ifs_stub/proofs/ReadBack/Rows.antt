-- The rows of symbols are read as visible rows.
use Rattle.std.proofs.Common.{◌≡◌, ℕ, suc, ◌+◌, ◌*◌, ◌/◌, ◌%◌, ◌<◌, ◌^◌, ◌==◌, ◌&&◌, ◌||◌, Bool, true, false, not, cond, List, [], ◌∷◌, length, map, Option, Some, None, refl, sym, ap, ◌∙◌, arith}
use Rattle.std.specs.Prelude.{if◌then◌else◌, is_none, option_map, unwrap_or, nat_lt}
use Rattle.std.specs.List.{list_all, list_any, filter_map, cons_option, count_by, sum_by}
use Rattle.std.proofs.lemmas.Bool.{and_parts}
use Rattle.std.proofs.lemmas.Bool.Decides.{nat_tests}
use Rattle.std.proofs.lemmas.List.Sums.{sum_by-cons}
use Rattle.ifs_bytes.specs.declared.form.Width.{Width}
use Rattle.ifs_bytes.specs.declared.form.Width.TheVariants.{W32, W64}
use Rattle.elf_file.specs.Written.{AllFit, symbol_fields}
use Rattle.elf_file.specs.declared.symbol.Row.{Row}
use Rattle.elf_dyn.specs.Rows.{is_candidate, named_row}
use Rattle.elf_dyn.specs.Strings.{unless_empty, bytes_of}
use Rattle.ifs_interface.specs.Interface.{is_proper_name, names_of}
use Rattle.ifs_interface.specs.declared.row.DynRow.{DynRow}
use Rattle.ifs_interface.specs.declared.symbol.Kind.{Kind}
use Rattle.ifs_interface.specs.declared.symbol.Kind.TheVariants.{NoType, Func, Object, Tls, Unknown}
use Rattle.ifs_interface.specs.declared.symbol.Symbol.{Symbol}
use Rattle.ifs_stub.specs.StubFile.{binding_of, type_of, row_of, null_row, rows_from, symbol_name_bytes}
use Rattle.ifs_stub.specs.Laws.{size_fits}
use Rattle.ifs_stub.specs.StubLibrary.{stub_row}
use Rattle.ifs_stub.proofs.ReadBack.Names.{AreFound, not_empty}
use Rattle.ifs_stub.proofs.ReadBack.Stands.{EachFits}

-- ---- the byte of binding and type

abbrev info : Bool → Kind → ℕ
info weak kind = binding_of weak * 16 + type_of kind

-- what is asked of that byte, and what it gives
record IsInfo (weak : Bool) (kind : Kind) : Type 0 where
  pub small : info weak kind < 256
  pub binding : info weak kind / 16 ≡ binding_of weak
  pub type : info weak kind % 16 ≡ type_of kind
  pub global : (info weak kind / 16 == 0) ≡ false

is_info : (weak : Bool) (kind : Kind) → IsInfo weak kind
is_info true NoType = record { small = omega arith; binding = refl; type = refl; global = refl }
is_info true Func = record { small = omega arith; binding = refl; type = refl; global = refl }
is_info true Object = record { small = omega arith; binding = refl; type = refl; global = refl }
is_info true Tls = record { small = omega arith; binding = refl; type = refl; global = refl }
is_info true Unknown = record { small = omega arith; binding = refl; type = refl; global = refl }
is_info false NoType = record { small = omega arith; binding = refl; type = refl; global = refl }
is_info false Func = record { small = omega arith; binding = refl; type = refl; global = refl }
is_info false Object = record { small = omega arith; binding = refl; type = refl; global = refl }
is_info false Tls = record { small = omega arith; binding = refl; type = refl; global = refl }
is_info false Unknown = record { small = omega arith; binding = refl; type = refl; global = refl }

all_candidates : (at : ℕ) (s : Symbol) → is_candidate (row_of at s) ≡ true
all_candidates at s = ap (λ t. not t && true) (is_info s.weak s.kind).global

named : (at : ℕ) (s : Symbol) → named_row (row_of at s) s.name ≡ stub_row s
named at s =
    let i = is_info s.weak s.kind in
    ap (λ b. record { name = s.name; binding = b; kind = info s.weak s.kind % 16; shndx = if s.undefined then 0 else 1; value = 0; size = unwrap_or s.size 0 }) i.binding
    ∙ ap (λ k. record { name = s.name; binding = binding_of s.weak; kind = k; shndx = if s.undefined then 0 else 1; value = 0; size = unwrap_or s.size 0 }) i.type

-- ---- what the rows give, where their names are found

module _ (look : ℕ → Option (List ℕ)) where
  -- a row, where it is visible
  abbrev pub seen : Row → Option DynRow
  seen row = if is_candidate row then option_map (named_row row) (unless_empty (look row.name)) else None

  -- a candidate whose name is bad
  abbrev pub is_bad : Row → Bool
  is_bad row = is_candidate row && is_none (look row.name)

  abbrev pub name_size : Row → ℕ
  name_size row = if is_candidate row then bytes_of (look row.name) else 0

  seen_row : (at : ℕ) (s : Symbol) → look at ≡ Some s.name → is_proper_name s.name ≡ true → seen (row_of at s) ≡ Some (stub_row s)
  seen_row at s found proper =
      let row = row_of at s in
      ap (λ t. if t then option_map (named_row row) (unless_empty (look at)) else None) (all_candidates at s)
      ∙ ap (λ o. option_map (named_row row) o) (ap unless_empty found ∙ not_empty s.name proper)
      ∙ ap (λ r. Some r) (named at s)

  pub rows_are_seen : (at : ℕ) (symbols : List Symbol) → AreFound look at (names_of symbols) → list_all is_proper_name (names_of symbols) ≡ true → filter_map seen (rows_from at symbols) ≡ map stub_row symbols
  rows_are_seen at [] found proper = refl
  rows_are_seen at (s ∷ ss) found proper =
      let parts = and_parts (is_proper_name s.name) (list_all is_proper_name (names_of ss)) proper in
      let next = at + (length s.name + 1) in
      ap (λ o. cons_option o (filter_map seen (rows_from next ss))) (seen_row at s found.0 parts.0)
      ∙ ap (λ rows. stub_row s ∷ rows) (rows_are_seen next ss found.1 parts.1)

  pub none_is_bad : (at : ℕ) (symbols : List Symbol) → AreFound look at (names_of symbols) → list_any is_bad (rows_from at symbols) ≡ false
  none_is_bad at [] found = refl
  none_is_bad at (s ∷ ss) found =
      let next = at + (length s.name + 1) in
      ap (λ t. t && is_none (look at) || list_any is_bad (rows_from next ss)) (all_candidates at s)
      ∙ ap (λ o. is_none o || list_any is_bad (rows_from next ss)) found.0
      ∙ none_is_bad next ss found.1

  pub sizes_of_names : (at : ℕ) (symbols : List Symbol) → AreFound look at (names_of symbols) → sum_by name_size (rows_from at symbols) ≡ symbol_name_bytes symbols
  sizes_of_names at [] found = refl
  sizes_of_names at (s ∷ ss) found =
      let next = at + (length s.name + 1) in
      let here : name_size (row_of at s) ≡ length s.name = ap (λ t. if t then bytes_of (look at) else 0) (all_candidates at s) ∙ ap bytes_of found.0 in
      sum_by-cons name_size (row_of at s) (rows_from next ss) ∙ ap (λ n. n + sum_by name_size (rows_from next ss)) here
      ∙ ap (λ n. length s.name + n) (sizes_of_names next ss found.1) ∙ sym (sum_by-cons (λ (symbol : Symbol). length symbol.name) s ss)

pub rows_are_candidates : (at : ℕ) (symbols : List Symbol) → count_by is_candidate (rows_from at symbols) ≡ length symbols
rows_are_candidates at [] = refl
rows_are_candidates at (s ∷ ss) =
    let next = at + (length s.name + 1) in
    let one : 1 + length ss ≡ suc (length ss) = omega arith in
    sum_by-cons (λ (row : Row). cond (is_candidate row) 1 0) (row_of at s) (rows_from next ss)
    ∙ ap (λ t. cond t 1 0 + count_by is_candidate (rows_from next ss)) (all_candidates at s)
    ∙ ap (λ n. 1 + n) (rows_are_candidates next ss) ∙ one

-- ---- the rows fit their places

abbrev pub RowFits : Width → Row → Type 0
RowFits width row = AllFit (symbol_fields row width)

index_is_small : (undefined : Bool) → (if undefined then 0 else 1) < 65536
index_is_small true = omega arith
index_is_small false = omega arith

size_below : (width : Width) (s : Symbol) (limit : ℕ) → nat_lt (unwrap_or s.size 0) limit ≡ true → unwrap_or s.size 0 < limit
size_below width s limit h = grind (arith, nat_tests)

row_fits : (width : Width) (at : ℕ) (s : Symbol) → at < 2 ^ 32 → size_fits width s ≡ true → RowFits width (row_of at s)
row_fits W32 at s small fits =
    (omega (arith, small), (omega arith, (size_below W32 s (256 ^ 4) fits, ((is_info s.weak s.kind).small, (omega arith, (index_is_small s.undefined, tt))))))
row_fits W64 at s small fits =
    (omega (arith, small), ((is_info s.weak s.kind).small, (omega arith, (index_is_small s.undefined, (omega arith, (size_below W64 s (256 ^ 8) fits, tt))))))

pub null_row_fits : (width : Width) → RowFits width null_row
null_row_fits W32 = (omega arith, (omega arith, (omega arith, (omega arith, (omega arith, (omega arith, tt))))))
null_row_fits W64 = (omega arith, (omega arith, (omega arith, (omega arith, (omega arith, (omega arith, tt))))))

pub rows_fit : (width : Width) (at : ℕ) (symbols : List Symbol) → at + (length symbols + symbol_name_bytes symbols) < 2 ^ 32 → list_all (size_fits width) symbols ≡ true → EachFits (RowFits width) (rows_from at symbols)
rows_fit width at [] small fits = tt
rows_fit width at (s ∷ ss) small fits =
    let parts = and_parts (size_fits width s) (list_all (size_fits width) ss) fits in
    let sum = sum_by-cons (λ (symbol : Symbol). length symbol.name) s ss in
    (row_fits width at s (omega (arith, small)) parts.0, rows_fit width (at + (length s.name + 1)) ss (omega (arith, small, sum)) parts.1)
