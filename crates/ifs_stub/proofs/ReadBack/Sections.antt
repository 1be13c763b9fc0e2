-- The section headers of a stub are read back, and give the places of its parts.
use Rattle.std.proofs.Common.{◌≡◌, ℕ, ◌+◌, ◌-◌, ◌*◌, ◌/◌, ◌<◌, ◌^◌, ◌==◌, true, List, [], ◌∷◌, ◌++◌, length, map, get_or, Some, Ok, refl, ap, ◌∙◌, subst, arith, append_assoc}
use Rattle.std.specs.Prelude.{nat_lt, option_map}
use Rattle.std.specs.List.{find, flat_map, range_with_len}
use Rattle.std.proofs.lemmas.List.{append-nil}
use Rattle.std.proofs.lemmas.Bool.{le-leb}
use Rattle.ifs_bytes.specs.Field.{word_size, lies}
use Rattle.ifs_bytes.specs.declared.form.Width.{Width}
use Rattle.ifs_bytes.specs.declared.form.Width.TheVariants.{W32, W64}
use Rattle.elf_file.specs.Header.{section_in}
use Rattle.elf_file.specs.Tables.{section_size, symbol_size, dynamic_size, section_header_at}
use Rattle.elf_file.specs.Written.{AllFit, section_fields, section_bytes}
use Rattle.elf_file.specs.declared.header.Header.{Header}
use Rattle.elf_file.specs.declared.section.SectionHeader.{SectionHeader}
use Rattle.elf_file.proofs.ReadBack.{section_header_at-section_bytes, length-section_bytes}
use Rattle.elf_dyn.specs.Sections.{first_section, string_section, strings_by_section, places_by_sections}
use Rattle.elf_dyn.specs.Library.{places_of}
use Rattle.elf_dyn.specs.declared.places.Strings.{Strings}
use Rattle.elf_dyn.specs.declared.places.Places.{Places}
use Rattle.elf_dyn.specs.declared.constants.TheConstants.{SHT_STRTAB, SHT_DYNAMIC, SHT_DYNSYM}
use Rattle.ifs_interface.specs.Interface.{InterfaceRecord}
use Rattle.ifs_stub.specs.declared.layout.Form.{Form}
use Rattle.ifs_stub.specs.declared.layout.Plan.{Plan}
use Rattle.ifs_stub.specs.StubFile.{plan_of, sizes_of, layout_of, file_header, null_section, symbols_section, strings_section, hash_section, dynamic_section, names_section, written_section, section_part, symbol_part, string_part, dynamic_part}
use Rattle.ifs_stub.proofs.FileSize.{length-symbol_part, length-string_part, length-dynamic_part}
use Rattle.ifs_stub.proofs.Fits.{fits}
use Rattle.ifs_stub.proofs.ReadBack.Stands.{Stands, EachFits, read_each, stands_within}
use Rattle.ifs_stub.proofs.ReadBack.Each.{find_each}
use Rattle.ifs_stub.proofs.ReadBack.Parts.{PartsStand, PlanIsSmall}

abbrev pub sections : Plan → List SectionHeader
sections plan =
    null_section ∷ symbols_section plan ∷ strings_section plan ∷ hash_section plan ∷ dynamic_section plan ∷ names_section plan ∷ []

-- ---- they fit their places

abbrev SectionFits : Width → SectionHeader → Type 0
SectionFits width s = AllFit (section_fields s (word_size width))

-- all numbers of a section header have a place in four bytes
record SectionIsSmall (s : SectionHeader) : Type 0 where
  pub name : s.name < 2 ^ 32
  pub type : s.kind < 2 ^ 32
  pub flags : s.flags < 2 ^ 32
  pub addr : s.addr < 2 ^ 32
  pub offset : s.offset < 2 ^ 32
  pub size : s.size < 2 ^ 32
  pub link : s.link < 2 ^ 32
  pub info : s.info < 2 ^ 32
  pub align : s.align < 2 ^ 32
  pub entsize : s.entsize < 2 ^ 32

section_fits : (width : Width) (s : SectionHeader) → SectionIsSmall s → SectionFits width s
section_fits width s small =
    (fits _ W32 small.name, (fits _ W32 small.type, (fits _ width small.flags, (fits _ width small.addr, (fits _ width small.offset, (fits _ width small.size, (fits _ W32 small.link, (fits _ W32 small.info, (fits _ width small.align, (fits _ width small.entsize, tt))))))))))

word_is_small : (width : Width) → word_size width < 2 ^ 32
word_is_small W32 = omega arith
word_is_small W64 = omega arith

pub symbol_is_small : (width : Width) → symbol_size width < 2 ^ 32
symbol_is_small W32 = omega arith
symbol_is_small W64 = omega arith

entry_is_small : (width : Width) → dynamic_size width < 2 ^ 32
entry_is_small W32 = omega arith
entry_is_small W64 = omega arith

sections_fit : (plan : Plan) → PlanIsSmall plan → EachFits (SectionFits plan.form.width) (sections plan)
sections_fit plan small =
    let width = plan.form.width in
    let word = word_is_small width in
    let zero_small : 0 < 2 ^ 32 = omega arith in
    let null : SectionIsSmall null_section = record { name = zero_small; type = zero_small; flags = zero_small; addr = zero_small; offset = zero_small; size = zero_small; link = zero_small; info = zero_small; align = zero_small; entsize = zero_small } in
    let symbols : SectionIsSmall (symbols_section plan) = record { name = omega arith; type = omega arith; flags = omega arith; addr = small.symbols; offset = small.symbols; size = small.symbols_size; link = omega arith; info = omega arith; align = word; entsize = symbol_is_small width } in
    let strings : SectionIsSmall (strings_section plan) = record { name = omega arith; type = omega arith; flags = omega arith; addr = small.strings; offset = small.strings; size = small.strings_size; link = zero_small; info = zero_small; align = omega arith; entsize = zero_small } in
    let hash : SectionIsSmall (hash_section plan) = record { name = omega arith; type = omega arith; flags = omega arith; addr = small.hash; offset = small.hash; size = small.hash_size; link = omega arith; info = zero_small; align = word; entsize = omega arith } in
    let dynamic : SectionIsSmall (dynamic_section plan) = record { name = omega arith; type = omega arith; flags = omega arith; addr = small.dynamic; offset = small.dynamic; size = small.dynamic_size; link = omega arith; info = zero_small; align = word; entsize = entry_is_small width } in
    let names : SectionIsSmall (names_section plan) = record { name = omega arith; type = omega arith; flags = zero_small; addr = zero_small; offset = small.names; size = omega arith; link = zero_small; info = zero_small; align = omega arith; entsize = zero_small } in
    (section_fits width _ null, (section_fits width _ symbols, (section_fits width _ strings, (section_fits width _ hash, (section_fits width _ dynamic, (section_fits width _ names, tt))))))

-- ---- they are read

abbrev bytes_in : Plan → SectionHeader → List ℕ
bytes_in plan s = section_bytes s plan.form.order plan.form.width

in_a_row : (plan : Plan) → section_part plan ≡ flat_map (bytes_in plan) (sections plan)
unfolding section_part
in_a_row plan =
    six (written_section plan null_section) (written_section plan (symbols_section plan)) (written_section plan (strings_section plan)) (written_section plan (hash_section plan)) (written_section plan (dynamic_section plan)) (written_section plan (names_section plan))
  where
    six : (a b c d e f : List ℕ) → a ++ b ++ c ++ d ++ e ++ f ≡ a ++ (b ++ (c ++ (d ++ (e ++ (f ++ [])))))
    six a b c d e f = simp (append_assoc, append-nil)

pub sections_are_read : (file : List ℕ) (i : InterfaceRecord) (plan : Plan) → PartsStand file i plan → PlanIsSmall plan → map (section_in file (file_header plan)) (range_with_len 0 6) ≡ sections plan
sections_are_read file i plan parts small =
    let order = plan.form.order in
    let width = plan.form.width in
    let at = plan.layout.sections in
    let start : at ≡ at + 0 * section_size width = omega arith in
    let stands : Stands file (at + 0 * section_size width) (flat_map (bytes_in plan) (sections plan)) = subst (λ n. Stands file n (flat_map (bytes_in plan) (sections plan))) start (subst (Stands file at) (in_a_row plan) parts.sections) in
    read_each (λ bytes place. section_header_at bytes place order width) (bytes_in plan) (SectionFits width) (section_size width) (λ s. length-section_bytes s order width) (λ s before after fit. section_header_at-section_bytes s order width before after fit) file at 0 (sections plan) (sections_fit plan small) stands

-- ---- and found

first_is : (file : List ℕ) (h : Header) (kind : ℕ) (all : List SectionHeader) → h.shnum ≡ 6 → map (section_in file h) (range_with_len 0 6) ≡ all → first_section file h kind ≡ find (λ s. s.kind == kind) all
unfolding first_section
first_is file h kind all six read =
    let count : h.shnum - 0 ≡ 6 = omega (arith, six) in
    ap (λ n. option_map (section_in file h) (find (λ i. (section_in file h i).kind == kind) (range_with_len 0 n))) count
    ∙ find_each (section_in file h) (λ s. s.kind == kind) (range_with_len 0 6) ∙ ap (find (λ s. s.kind == kind)) read

string_section_is : (file : List ℕ) (h : Header) (link : ℕ) (s : SectionHeader) → nat_lt link h.shnum ≡ true → section_in file h link ≡ s → (s.kind == SHT_STRTAB) ≡ true → string_section file h link ≡ Ok s
unfolding string_section
string_section_is file h link s below read strings = rw (below, read, strings) refl

strings_are : (file : List ℕ) (h : Header) (table s : SectionHeader) → lies file table.offset table.size ≡ true → string_section file h table.link ≡ Ok s → lies file s.offset s.size ≡ true → strings_by_section file h table ≡ Ok (record { from = s.offset; size = s.size })
unfolding strings_by_section
strings_are file h table s lie found strings_lie = rw (lie, found, strings_lie) refl

places_are : (file : List ℕ) (h : Header) (dynamics symbols : SectionHeader) (entry_strings row_strings : Strings) → first_section file h SHT_DYNAMIC ≡ Some dynamics → first_section file h SHT_DYNSYM ≡ Some symbols → strings_by_section file h dynamics ≡ Ok entry_strings → strings_by_section file h symbols ≡ Ok row_strings
    → places_of file h ≡ Ok (record {
      entries = record { order = h.order; width = h.width; from = dynamics.offset; room = dynamics.size / dynamic_size h.width };
      entry_strings = entry_strings;
      rows = record { order = h.order; width = h.width; from = symbols.offset; count = symbols.size / symbol_size h.width };
      row_strings = row_strings;
    })
unfolding places_of places_by_sections
places_are file h dynamics symbols entry_strings row_strings d s e r = rw (d, s, e, r) refl

-- where the parts of a stub lie
abbrev pub stub_strings : Plan → Strings
stub_strings plan = record { from = plan.layout.strings; size = plan.sizes.strings }

abbrev pub stub_places : Plan → Places
stub_places plan = record {
  entries = record { order = plan.form.order; width = plan.form.width; from = plan.layout.dynamic; room = plan.sizes.entries };
  entry_strings = stub_strings plan;
  rows = record { order = plan.form.order; width = plan.form.width; from = plan.layout.symbols; count = plan.sizes.rows };
  row_strings = stub_strings plan;
}

entries_divided : (width : Width) (n : ℕ) → n * dynamic_size width / dynamic_size width ≡ n
entries_divided W32 n = omega arith
entries_divided W64 n = omega arith

rows_divided : (width : Width) (n : ℕ) → n * symbol_size width / symbol_size width ≡ n
rows_divided W32 n = omega arith
rows_divided W64 n = omega arith

part_lies : (file part : List ℕ) (at size : ℕ) → length part ≡ size → Stands file at part → lies file at size ≡ true
part_lies file part at size e s = le-leb _ _ (omega (arith, e, stands_within file part at s))

entries_length : (i : InterfaceRecord) (plan : Plan) → length (dynamic_part i plan) ≡ (sizes_of i).entries * dynamic_size plan.form.width
unfolding sizes_of
entries_length i plan = length-dynamic_part i plan

rows_length : (i : InterfaceRecord) (form : Form) → length (symbol_part i.symbols form) ≡ (sizes_of i).rows * symbol_size form.width
unfolding sizes_of
rows_length i form = length-symbol_part i.symbols form

pub places_are_found : (file : List ℕ) (i : InterfaceRecord) (form : Form) → PartsStand file i (plan_of i form) → PlanIsSmall (plan_of i form) → places_of file (file_header (plan_of i form)) ≡ Ok (stub_places (plan_of i form))
unfolding layout_of
places_are_found file i form parts small =
    let plan = plan_of i form in
    let h = file_header plan in
    let read = sections_are_read file i plan parts small in
    let second : section_in file h 2 ≡ strings_section plan = ap (λ (xs : List SectionHeader). get_or xs 2 null_section) read in
    let found : string_section file h 2 ≡ Ok (strings_section plan) = string_section_is file h 2 (strings_section plan) refl second refl in
    let strings_lie = part_lies file (string_part i) plan.layout.strings plan.sizes.strings (length-string_part i) parts.strings in
    let dynamic_lies = part_lies file (dynamic_part i plan) plan.layout.dynamic plan.layout.dynamic_size (entries_length i plan) parts.dynamic in
    let symbols_lie = part_lies file (symbol_part i.symbols form) plan.layout.symbols plan.layout.symbols_size (rows_length i form) parts.symbols in
    places_are file h (dynamic_section plan) (symbols_section plan) (stub_strings plan) (stub_strings plan) (first_is file h SHT_DYNAMIC (sections plan) refl read) (first_is file h SHT_DYNSYM (sections plan) refl read)
    (strings_are file h (dynamic_section plan) (strings_section plan) dynamic_lies found strings_lie)
    (strings_are file h (symbols_section plan) (strings_section plan) symbols_lie found strings_lie)
    ∙ ap (λ room. Ok (record { entries = record { order = form.order; width = form.width; from = plan.layout.dynamic; room = room }; entry_strings = stub_strings plan; rows = record { order = form.order; width = form.width; from = plan.layout.symbols; count = plan.layout.symbols_size / symbol_size form.width }; row_strings = stub_strings plan })) (entries_divided form.width plan.sizes.entries)
    ∙ ap (λ count. Ok (record { entries = record { order = form.order; width = form.width; from = plan.layout.dynamic; room = plan.sizes.entries }; entry_strings = stub_strings plan; rows = record { order = form.order; width = form.width; from = plan.layout.symbols; count = count }; row_strings = stub_strings plan })) (rows_divided form.width plan.sizes.rows)
