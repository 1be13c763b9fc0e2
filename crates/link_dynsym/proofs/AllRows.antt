-- All rows have the places of their names, and .dynstr is small.
use Rattle.std.proofs.Common.{◌≡◌, ◌<◌, ◌≤◌, ◌^◌, ◌+◌, ◌-◌, ℕ, zero, suc, true, List, [], ◌∷◌, ◌++◌, map, length, refl, sym, ap, ◌∙◌, arith, append_assoc}
use Rattle.std.specs.List.{enumerate_from, range_with_len}
use Rattle.std.specs.Option.{option_map_or, option_to_list}
use Rattle.std.specs.Prelude.{codes, nat_lt, not}
use Rattle.std.proofs.lemmas.List.{length-append, length-map}
use Rattle.ifs_bytes.specs.Places.{places}
use Rattle.elf_file.specs.declared.symbol.Row.{Row}
use Rattle.link_core.specs.declared.layout.Layout.{Layout}
use Rattle.link_core.specs.declared.options.LinkOptions.{LinkOptions}
use Rattle.link_core.specs.declared.output.OutClass.TheVariants as classes
use Rattle.link_core.specs.declared.plan.Plan.{Plan}
use Rattle.link_core.specs.declared.resolution.NameRow.{NameRow}
use Rattle.link_core.specs.declared.resolution.Resolution.{Resolution}
use Rattle.link_core.specs.Aligned.{aligned, end_from}
use Rattle.link_core.specs.Contents.{Content, dynstr_section, dynsym_section, has_plt, hash_section, interp_section, outputs_in, present, read_contents, rela_section}
use Rattle.link_core.specs.Entries.{rela_dyn_count}
use Rattle.link_core.specs.Exports.{is_shared}
use Rattle.link_core.specs.Layout.{contents_end, read_end, read_start}
use Rattle.link_core.specs.Planned.{Planned, name_at, row_at}
use Rattle.link_core.specs.Strings.{dynamic_rows, dynamic_strings, soname_of, string_place, string_table_size, symbol_names}
use Rattle.link_core.specs.Symbols.{dynamic_symbols, dynsym_bytes, export_by, export_of, import_of, import_row, null_row, row_name}
use Rattle.link_layout.proofs.Laid.{laid}
use Rattle.link_layout.proofs.Small.{IsWithin, code_before, data_before, end_before, read_before, written_before, written_small}
use Rattle.link_tables.proofs.Ends.{end_is_behind}
use Rattle.link_strings.specs.Named.{AreDynamicStrings, strings_of}
use Rattle.link_layout.specs.Laws.{IsLayoutOf}
use Rattle.link_dynsym.specs.Rows.{all_bytes, export_in, import_in, name_in, row_bytes, rows_bytes}
use denote.Ref.{Bor}

-- ---- .dynstr is small

behind : (at : ℕ) (cs : List Content) → at ≤ contents_end at cs
behind at cs = end_is_behind (λ (c : Content). c.align) (λ (c : Content). c.size) at cs

first_fits : (at : ℕ) (c : Content) (cs : List Content) → c.size ≤ contents_end at (c ∷ cs)
unfolding end_from
first_fits at c cs =
    let last : aligned c.align at + c.size ≤ contents_end (aligned c.align at + c.size) cs = behind (aligned c.align at + c.size) cs in
    omega (arith, last)

later_fits : (n at : ℕ) (cs ds : List Content) → ((start : ℕ) → n ≤ contents_end start ds) → n ≤ contents_end at (cs ++ ds)
unfolding end_from
later_fits n at [] ds fits = fits at
later_fits n at (c ∷ cs) ds fits = later_fits n (aligned c.align at + c.size) cs ds fits

abbrev strings_size : Planned → ℕ
strings_size j = string_table_size (dynamic_strings j)

front_fits : (at : ℕ) (cs ds : List Content) → contents_end at cs ≤ contents_end at (cs ++ ds)
unfolding end_from
front_fits at [] ds = behind at ds
front_fits at (c ∷ cs) ds = front_fits (aligned c.align at + c.size) cs ds

abbrev with_strings : Planned → List Content
with_strings j = present (not (is_shared j.options.kind)) (interp_section j) ++ present true (dynsym_section j.plan) ++ present true (dynstr_section j)

strings_there : (j : Planned) (at : ℕ) → string_table_size (dynamic_strings j) ≤ contents_end at (with_strings j)
strings_there j at =
    later_fits (strings_size j) at (present (not (is_shared j.options.kind)) (interp_section j) ++ present true (dynsym_section j.plan)) (present true (dynstr_section j))
    (λ start. first_fits start (dynstr_section j) [])

read_has : (j : Planned) → string_table_size (dynamic_strings j) ≤ contents_end (read_start j) (read_contents j)
unfolding read_contents
read_has j =
    let at = read_start j in
    let hash = present true (hash_section j.plan) in
    let moves = present (nat_lt 0 (rela_dyn_count j)) (rela_section (codes ".rela.dyn") (rela_dyn_count j)) in
    let calls = present (has_plt j) (rela_section (codes ".rela.plt") (length j.plan.plt)) in
    let first : strings_size j ≤ contents_end at (with_strings j) = strings_there j at in
    let a = front_fits at (with_strings j) hash in
    let b = front_fits at (with_strings j ++ hash) moves in
    let c = front_fits at (with_strings j ++ hash ++ moves) calls in
    let d = front_fits at (with_strings j ++ hash ++ moves ++ calls) (outputs_in classes.R j) in
    up first (up a (up b (up c d)))
  where
    up : {x y z : ℕ} → x ≤ y → y ≤ z → x ≤ z
    up {x} {y} {z} one two = omega (arith, one, two)

read_small : (j : Planned) → IsWithin j → contents_end (read_start j) (read_contents j) ≤ 2 ^ 30
unfolding read_end
read_small j within =
    let first = read_before j in
    omega (arith, first, code_before j, written_before j, data_before j, end_before j, written_small j within)

pub dynstr_small : (j : Planned) (l : Layout) → IsLayoutOf j l → string_table_size (dynamic_strings j) ≤ 2 ^ 30
dynstr_small j l made =
    let within = (laid j l made).within in
    omega (arith, read_has j, read_small j within)

pub strings_fit : (j : Planned) (l : Layout) (strings : List (List ℕ)) → IsLayoutOf j l → AreDynamicStrings j.options j.names j.plan strings → string_table_size strings < 2 ^ 32
strings_fit j l strings made are =
    let same : string_table_size strings ≡ string_table_size (dynamic_strings j) = ap string_table_size (are j.rules j.objects) in
    omega (arith, same, dynstr_small j l made)

-- ---- the places of the names of rows

place_at : (f : ℕ → ℕ) (k n i : ℕ) → i < n → name_in (map f (range_with_len k n)) i ≡ f (k + i)
place_at f k zero i low = absurd (omega (arith, low))
place_at f k (suc n) zero low = ap f (omega arith)
place_at f k (suc n) (suc i) low = place_at f (k + 1) n i (omega (arith, low)) ∙ ap f (omega arith)

module _ (j : Planned) (l : Layout) (starts : List ℕ) (count : ℕ) (places_are : (i : ℕ) → i < count → name_in starts i ≡ row_name j i) where
  import_is : (i n : ℕ) → i < count → import_in starts j (i, n) ≡ import_of j (i, n)
  unfolding import_of
  import_is i n low = ap (λ at. option_map_or (import_row at) (row_at j n) null_row) (places_are i low)

  export_is : (i n : ℕ) → i < count → export_in starts j l (i, n) ≡ export_of j l (i, n)
  unfolding export_of
  export_is i n low = ap (λ at. option_map_or (λ (row : NameRow). export_by j l at row n row.bound) (row_at j n) null_row) (places_are i low)

  imports_are : (k : ℕ) (ns : List ℕ) → k + length ns ≤ count → map (import_in starts j) (enumerate_from k ns) ≡ map (import_of j) (enumerate_from k ns)
  imports_are k [] low = refl
  imports_are k (n ∷ ns) low = λ i. import_is k n (omega (arith, low)) i ∷ imports_are (k + 1) ns (omega (arith, low)) i

  exports_are : (k : ℕ) (ns : List ℕ) → k + length ns ≤ count → map (export_in starts j l) (enumerate_from k ns) ≡ map (export_of j l) (enumerate_from k ns)
  exports_are k [] low = refl
  exports_are k (n ∷ ns) low = λ i. export_is k n (omega (arith, low)) i ∷ exports_are (k + 1) ns (omega (arith, low)) i

append_assoc_bytes : (xs ys : List Row) → rows_bytes (xs ++ ys) ≡ rows_bytes xs ++ rows_bytes ys
append_assoc_bytes [] ys = refl
append_assoc_bytes (x ∷ xs) ys = ap (λ bs. row_bytes x ++ bs) (append_assoc_bytes xs ys) ∙ sym (append_three (row_bytes x) (rows_bytes xs) (rows_bytes ys))
  where
    append_three : (a b c : List ℕ) → (a ++ b) ++ c ≡ a ++ (b ++ c)
    append_three [] b c = refl
    append_three (x ∷ a) b c = ap (λ xs. x ∷ xs) (append_three a b c)

pub rows_counted : (j : Planned) → length j.plan.imports + length j.plan.exports ≤ length (dynamic_strings j)
unfolding dynamic_strings
rows_counted j =
    let names = symbol_names j in
    let needed = j.names.needed in
    let soname = option_to_list (soname_of j.options) in
    let path = option_to_list j.options.runpath in
    counted names needed soname path (length j.plan.imports + length j.plan.exports) (length-map (dynamic_rows j.plan) (name_at j) ∙ length-append j.plan.imports j.plan.exports)
  where
    counted : (a b c d : List (List ℕ)) (n : ℕ) → length a ≡ n → n ≤ length (a ++ b ++ c ++ d)
    counted a b c d n e =
        let x = length-append (a ++ b ++ c) d in
        let y = length-append (a ++ b) c in
        let z = length-append a b in
        omega (arith, e, x, y, z)

from_none : (i : ℕ) → 0 + i ≡ i
from_none i = omega arith

none_less : (n : ℕ) → n - 0 ≡ n
none_less n = omega arith

pub all_named :
    (j : Planned) (l : Layout) (names : List (Bor (List ℕ))) (starts : List ℕ) → AreDynamicStrings j.options j.names j.plan (strings_of names)
    → starts ≡ map (string_place (strings_of names)) (places 0 (length names))
    → all_bytes starts j l ≡ dynsym_bytes j l
unfolding all_bytes dynsym_bytes dynamic_symbols
all_named j l names starts are starts_are =
    let strings : strings_of names ≡ dynamic_strings j = are j.rules j.objects in
    let count = length names in
    let long : length (strings_of names) ≡ count = length-map names (λ (n : Bor (List ℕ)). n.now) in
    let same = ap length strings in
    let rows = rows_counted j in
    let place : (i : ℕ) → i < count → name_in starts i ≡ row_name j i =
    λ i low. ap (λ s. name_in s i) starts_are ∙ ap (λ k. name_in (map (string_place (strings_of names)) (range_with_len 0 k)) i) (none_less count) ∙ place_at (string_place (strings_of names)) 0 count i low ∙ ap (string_place (strings_of names)) (from_none i) ∙ ap (λ s. string_place s i) strings in
    let imports = imports_are j l starts count place 0 j.plan.imports (omega (arith, rows, long, same)) in
    let exports = exports_are j l starts count place (length j.plan.imports) j.plan.exports (omega (arith, rows, long, same)) in
    let is = map (import_of j) (enumerate_from 0 j.plan.imports) in
    let es = map (export_of j l) (enumerate_from (length j.plan.imports) j.plan.exports) in
    (λ i. row_bytes null_row ++ rows_bytes (imports i) ++ rows_bytes (exports i))
    ∙ append_assoc (row_bytes null_row) (rows_bytes is) (rows_bytes es)
    ∙ ap (λ bs. row_bytes null_row ++ bs) (sym (append_assoc_bytes is es))

-- with what calls gave
pub strings_by :
    (j : Planned) (options : LinkOptions) (r : Resolution) (p : Plan) (strings : List (List ℕ)) → options ≡ j.options → r ≡ j.names → p ≡ j.plan
    → AreDynamicStrings options r p strings → AreDynamicStrings j.options j.names j.plan strings
strings_by j options r p strings o_is r_is p_is are rules objects =
    are rules objects ∙ (λ i. dynamic_strings (record { rules = rules; options = o_is i; objects = objects; names = r_is i; plan = p_is i }))

pub places_fit :
    (j : Planned) (l : Layout) (options : LinkOptions) (r : Resolution) (p : Plan) (names given : List (Bor (List ℕ))) → IsLayoutOf j l
    → options ≡ j.options → r ≡ j.names → p ≡ j.plan → AreDynamicStrings options r p (strings_of names) → given ≡ names
    → string_table_size (strings_of given) < 2 ^ 32
places_fit j l options r p names given made o_is r_is p_is are same =
    let low = strings_fit j l (strings_of names) made (strings_by j options r p (strings_of names) o_is r_is p_is are) in
    let size = ap (λ ns. string_table_size (strings_of ns)) same in
    omega (arith, low, size)

pub rows_are :
    (j : Planned) (l : Layout) (options : LinkOptions) (r : Resolution) (p : Plan) (names given : List (Bor (List ℕ))) (starts all old new : List ℕ)
    → options ≡ j.options → r ≡ j.names → p ≡ j.plan → AreDynamicStrings options r p (strings_of names) → given ≡ names
    → starts ≡ map (string_place (strings_of given)) (places 0 (length given)) → all ≡ starts
    → new ≡ old ++ all_bytes all j l → new ≡ old ++ dynsym_bytes j l
rows_are j l options r p names given starts all old new o_is r_is p_is are same starts_are all_is put =
    let mine = strings_by j options r p (strings_of names) o_is r_is p_is are in
    let every = all_named j l names starts mine (starts_are ∙ ap (λ ns. map (string_place (strings_of ns)) (places 0 (length ns))) same) in
    put ∙ ap (λ s. old ++ all_bytes s j l) all_is ∙ ap (λ bs. old ++ bs) every
