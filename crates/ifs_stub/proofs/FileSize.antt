-- The parts of a stub file are as long as its plan says.
use Rattle.std.proofs.Common.{◌≡◌, ℕ, zero, suc, ◌+◌, ◌*◌, ◌<◌, ◌≤◌, ◌-◌, List, [], ◌∷◌, ◌++◌, length, Option, Some, None, refl, ap, ◌∙◌, arith, length-append}
use Rattle.std.specs.List.{flat_map, range_with_len}
use Rattle.std.proofs.lemmas.List.{length-replicate}
use Rattle.std.proofs.lemmas.List.Sums.{sum_by-cons}
use Rattle.ifs_bytes.specs.declared.form.Order.{Order}
use Rattle.ifs_bytes.specs.declared.form.Width.{Width}
use Rattle.ifs_bytes.specs.declared.form.Width.TheVariants.{W32, W64}
use Rattle.elf_file.specs.Tables.{header_size, segment_size, section_size, symbol_size, dynamic_size}
use Rattle.elf_file.specs.Written.{symbol_bytes, dynamic_bytes}
use Rattle.elf_file.specs.declared.symbol.Row.{Row}
use Rattle.elf_file.specs.declared.dynamic.Dyn.{Dyn}
use Rattle.elf_file.proofs.ReadBack.{length-number_bytes, length-section_bytes, length-segment_bytes, length-symbol_bytes, length-dynamic_bytes}
use Rattle.elf_file.proofs.HeaderLaws.{length-header_bytes}
use Rattle.ifs_interface.specs.Interface.{InterfaceRecord}
use Rattle.ifs_interface.specs.declared.symbol.Symbol.{Symbol}
use Rattle.ifs_stub.specs.declared.layout.Form.{Form}
use Rattle.ifs_stub.specs.declared.layout.Plan.{Plan}
use Rattle.ifs_stub.specs.Stub.{IsWithin}
use Rattle.ifs_stub.specs.StubFile.{symbol_name_bytes, needed_name_bytes, soname_count, soname_bytes, sizes_of, layout_of, plan_of, gap, terminated, section_names, file_header, load_segment, dynamic_segment, header_part, null_row, rows_from, rows_bytes, symbol_part, soname_string, string_part, word_bytes, first_row, next_row, hash_part, entries_bytes, needed_entries, soname_entries, table_entries, table_part, dynamic_part, null_section, symbols_section, strings_section, hash_section, dynamic_section, names_section, section_part, gap_part, file_by}

-- a part behind others
pub next : (xs ys : List ℕ) (at size : ℕ) → length xs ≡ at → length ys ≡ size → length (xs ++ ys) ≡ at + size
next xs ys at size e g = omega (arith, e, g, length-append xs ys)

length-rows_bytes : (order : Order) (width : Width) (rows : List Row) → length (rows_bytes order width rows) ≡ length rows * symbol_size width
length-rows_bytes order W32 [] = refl
length-rows_bytes order W64 [] = refl
length-rows_bytes order W32 (r ∷ rs) =
    omega (arith, length-append (symbol_bytes r order W32) (rows_bytes order W32 rs), length-symbol_bytes r order W32, length-rows_bytes order W32 rs)
length-rows_bytes order W64 (r ∷ rs) =
    omega (arith, length-append (symbol_bytes r order W64) (rows_bytes order W64 rs), length-symbol_bytes r order W64, length-rows_bytes order W64 rs)

pub length-rows_from : (at : ℕ) (symbols : List Symbol) → length (rows_from at symbols) ≡ length symbols
length-rows_from at [] = refl
length-rows_from at (s ∷ ss) = omega (arith, length-rows_from (at + (length s.name + 1)) ss)

length-entries_bytes : (order : Order) (width : Width) (entries : List Dyn) → length (entries_bytes order width entries) ≡ length entries * dynamic_size width
length-entries_bytes order W32 [] = refl
length-entries_bytes order W64 [] = refl
length-entries_bytes order W32 (d ∷ ds) =
    omega (arith, length-append (dynamic_bytes d order W32) (entries_bytes order W32 ds), length-dynamic_bytes d order W32, length-entries_bytes order W32 ds)
length-entries_bytes order W64 (d ∷ ds) =
    omega (arith, length-append (dynamic_bytes d order W64) (entries_bytes order W64 ds), length-dynamic_bytes d order W64, length-entries_bytes order W64 ds)

pub length-needed_entries : (at : ℕ) (names : List (List ℕ)) → length (needed_entries at names) ≡ length names
length-needed_entries at [] = refl
length-needed_entries at (n ∷ ns) = omega (arith, length-needed_entries (at + (length n + 1)) ns)

pub length-soname_entries : (at : ℕ) (soname : Option (List ℕ)) → length (soname_entries at soname) ≡ soname_count soname
length-soname_entries at None = refl
length-soname_entries at (Some name) = refl

length-terminated : (name : List ℕ) → length (terminated name) ≡ length name + 1
length-terminated name = omega (arith, length-append name (0 ∷ []))

pub length-symbol_names : (symbols : List Symbol) → length (flat_map (λ symbol. terminated symbol.name) symbols) ≡ length symbols + symbol_name_bytes symbols
length-symbol_names [] = refl
length-symbol_names (s ∷ ss) =
    omega (arith, length-append (terminated s.name) (flat_map (λ symbol. terminated symbol.name) ss), length-terminated s.name, sum_by-cons (λ (symbol : Symbol). length symbol.name) s ss, length-symbol_names ss)

pub length-needed_names : (names : List (List ℕ)) → length (flat_map terminated names) ≡ length names + needed_name_bytes names
length-needed_names [] = refl
length-needed_names (n ∷ ns) =
    omega (arith, length-append (terminated n) (flat_map terminated ns), length-terminated n, sum_by-cons (λ (name : List ℕ). length name) n ns, length-needed_names ns)

length-soname_string : (soname : Option (List ℕ)) → length (soname_string soname) ≡ soname_count soname + soname_bytes soname
length-soname_string None = refl
length-soname_string (Some name) = omega (arith, length-terminated name)

length-chain : (f : ℕ → ℕ) (order : Order) (from count : ℕ) → length (flat_map (λ row. word_bytes order (f row)) (range_with_len from count)) ≡ 4 * count
length-chain f order from zero = refl
length-chain f order from (suc n) =
    omega (arith, length-append (word_bytes order (f from)) (flat_map (λ row. word_bytes order (f row)) (range_with_len (from + 1) n)), length-number_bytes 4 (f from) order, length-chain f order (from + 1) n)

pub length-header_part : (plan : Plan) → length (header_part plan) ≡ header_size plan.form.width + 2 * segment_size plan.form.width
unfolding header_part
length-header_part plan =
    let order = plan.form.order in
    let width = plan.form.width in
    let one = next _ _ _ _ (length-header_bytes (file_header plan)) (length-segment_bytes (load_segment plan) order width) in
    let two = next _ _ _ _ one (length-segment_bytes (dynamic_segment plan) order width) in
    two ∙ twice (header_size width) (segment_size width)
  where
    twice : (a b : ℕ) → a + b + b ≡ a + 2 * b
    twice a b = omega arith

pub length-symbol_part : (symbols : List Symbol) (form : Form) → length (symbol_part symbols form) ≡ (length symbols + 1) * symbol_size form.width
unfolding symbol_part
length-symbol_part symbols form =
    let rows = null_row ∷ rows_from 1 symbols in
    let count : length rows ≡ length symbols + 1 = omega (arith, length-rows_from 1 symbols) in
    length-rows_bytes form.order form.width rows ∙ ap (λ (n : ℕ). n * symbol_size form.width) count

pub length-string_part : (i : InterfaceRecord) → length (string_part i) ≡ (sizes_of i).strings
unfolding string_part sizes_of
length-string_part i =
    let symbols = flat_map (λ (symbol : Symbol). terminated symbol.name) i.symbols in
    let needed = flat_map terminated i.needed in
    let one = next (0 ∷ []) symbols 1 _ refl (length-symbol_names i.symbols) in
    let two = next (0 ∷ [] ++ symbols) needed _ _ one (length-needed_names i.needed) in
    let three = next (0 ∷ [] ++ symbols ++ needed) (soname_string i.soname) _ _ two (length-soname_string i.soname) in
    three ∙ regroup (length i.symbols) (symbol_name_bytes i.symbols) (length i.needed + needed_name_bytes i.needed) (soname_count i.soname + soname_bytes i.soname)
  where
    regroup : (a b c d : ℕ) → 1 + (a + b) + c + d ≡ a + 1 + b + c + d
    regroup a b c d = omega arith

pub length-gap_part : (width : Width) (at : ℕ) → length (gap_part width at) ≡ gap width at
unfolding gap_part
length-gap_part width at = length-replicate (gap width at) 0

pub length-hash_part : (count : ℕ) (order : Order) → length (hash_part count order) ≡ 4 * (count + 3)
unfolding hash_part
length-hash_part count order =
    let one = next _ _ _ _ (length-number_bytes 4 1 order) (length-number_bytes 4 count order) in
    let two = next _ _ _ _ one (length-number_bytes 4 (first_row count) order) in
    next _ _ _ _ two (length-chain (next_row count) order 0 (count - 0)) ∙ words count
  where
    words : (n : ℕ) → 4 + 4 + 4 + 4 * (n - 0) ≡ 4 * (n + 3)
    words n = omega arith

length-table_part : (plan : Plan) → length (table_part plan) ≡ 6 * dynamic_size plan.form.width
unfolding table_part
length-table_part plan = length-entries_bytes plan.form.order plan.form.width (table_entries plan)

pub length-dynamic_part : (i : InterfaceRecord) (plan : Plan) → length (dynamic_part i plan) ≡ (length i.needed + soname_count i.soname + 6) * dynamic_size plan.form.width
unfolding dynamic_part
length-dynamic_part i plan =
    let order = plan.form.order in
    let width = plan.form.width in
    let needed = needed_entries plan.sizes.needed_names i.needed in
    let soname = soname_entries plan.sizes.soname_name i.soname in
    let size = dynamic_size width in
    let one = length-entries_bytes order width needed ∙ ap (λ (n : ℕ). n * size) (length-needed_entries plan.sizes.needed_names i.needed) in
    let two = next _ _ _ _ one (length-entries_bytes order width soname ∙ ap (λ (n : ℕ). n * size) (length-soname_entries plan.sizes.soname_name i.soname)) in
    next _ _ _ _ two (length-table_part plan) ∙ together width (length i.needed) (soname_count i.soname)
  where
    together : (width : Width) (a b : ℕ) → a * dynamic_size width + b * dynamic_size width + 6 * dynamic_size width ≡ (a + b + 6) * dynamic_size width
    together W32 a b = omega arith
    together W64 a b = omega arith

pub length-section_part : (plan : Plan) → length (section_part plan) ≡ 6 * section_size plan.form.width
unfolding section_part
length-section_part plan =
    let order = plan.form.order in
    let width = plan.form.width in
    let one = next _ _ _ _ (length-section_bytes null_section order width) (length-section_bytes (symbols_section plan) order width) in
    let two = next _ _ _ _ one (length-section_bytes (strings_section plan) order width) in
    let three = next _ _ _ _ two (length-section_bytes (hash_section plan) order width) in
    let four = next _ _ _ _ three (length-section_bytes (dynamic_section plan) order width) in
    next _ _ _ _ four (length-section_bytes (names_section plan) order width) ∙ six (section_size width)
  where
    six : (n : ℕ) → n + n + n + n + n + n ≡ 6 * n
    six n = omega arith

pub length-file_by : (i : InterfaceRecord) (form : Form) → length (file_by i (plan_of i form)) ≡ (plan_of i form).layout.sections + 6 * section_size form.width
unfolding file_by layout_of sizes_of
length-file_by i form =
    let plan = plan_of i form in
    let width = form.width in
    let symbols = length-header_part plan in
    let strings = next _ _ _ _ symbols (length-symbol_part i.symbols form) in
    let strings_end = next _ _ _ _ strings (length-string_part i) in
    let hash = next _ _ _ _ strings_end (length-gap_part width plan.layout.strings_end) in
    let hash_end = next _ _ _ _ hash (length-hash_part plan.sizes.rows form.order) in
    let dynamic = next _ _ _ _ hash_end (length-gap_part width plan.layout.hash_end) in
    let names = next _ _ _ _ dynamic (length-dynamic_part i plan) in
    let names_end = next _ section_names _ 42 names refl in
    let sections = next _ _ _ _ names_end (length-gap_part width plan.layout.names_end) in
    next _ _ _ _ sections (length-section_part plan)

gap_is_small : (width : Width) (at : ℕ) → gap width at ≤ 7
gap_is_small W32 at = omega arith
gap_is_small W64 at = omega arith

soname_count_is_small : (soname : Option (List ℕ)) → soname_count soname ≤ 1
soname_count_is_small None = omega arith
soname_count_is_small (Some name) = omega arith

-- all parts together, the gaps as numbers of their own
total_is_small : (width : Width) (symbols needed soname bytes a b c : ℕ) → symbols + needed ≤ 1000000 → bytes ≤ 33554432 → soname ≤ 1 → a ≤ 7 → b ≤ 7 → c ≤ 7
    → header_size width + 2 * segment_size width + (symbols + 1) * symbol_size width + (symbols + 1 + needed + soname + bytes) + a + 4 * (symbols + 1 + 3) + b + (needed + soname + 6) * dynamic_size width + 42 + c + 6 * section_size width < 75497472
total_is_small W32 symbols needed soname bytes a b c count size one first second third = omega arith
total_is_small W64 symbols needed soname bytes a b c count size one first second third = omega arith

pub file_is_small : (i : InterfaceRecord) (form : Form) → IsWithin i → length (file_by i (plan_of i form)) < 75497472
unfolding layout_of sizes_of
file_is_small i form within =
    let layout = (plan_of i form).layout in
    let total = total_is_small form.width (length i.symbols) (length i.needed) (soname_count i.soname) (symbol_name_bytes i.symbols + (needed_name_bytes i.needed + soname_bytes i.soname)) (gap form.width layout.strings_end) (gap form.width layout.hash_end) (gap form.width layout.names_end) within.names within.bytes (soname_count_is_small i.soname) (gap_is_small form.width _) (gap_is_small form.width _) (gap_is_small form.width _) in
    omega (arith, total, length-file_by i form)

pub length_is_small : (bytes : List ℕ) (i : InterfaceRecord) (form : Form) → bytes ≡ file_by i (plan_of i form) → IsWithin i → length bytes < 75497472
length_is_small bytes i form is within = omega (arith, ap length is, file_is_small i form within)
