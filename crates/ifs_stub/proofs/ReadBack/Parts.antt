-- The parts of a stub file stand at the places of its plan, and these are small numbers.
use Rattle.std.proofs.Common.{◌≡◌, ℕ, ◌+◌, ◌-◌, ◌*◌, ◌<◌, ◌^◌, List, [], ◌++◌, length, refl, subst, arith}
use Rattle.std.specs.Prelude.{replicate}
use Rattle.ifs_bytes.specs.declared.form.Width.{Width}
use Rattle.ifs_bytes.specs.declared.form.Width.TheVariants.{W32, W64}
use Rattle.elf_file.specs.Tables.{header_size, segment_size}
use Rattle.ifs_interface.specs.Interface.{InterfaceRecord}
use Rattle.ifs_stub.specs.declared.layout.Form.{Form}
use Rattle.ifs_stub.specs.declared.layout.Plan.{Plan}
use Rattle.ifs_stub.specs.Laws.{StandAt, HasParts}
use Rattle.ifs_stub.specs.Stub.{IsWithin}
use Rattle.ifs_stub.specs.StubFile.{sizes_of, layout_of, plan_of, gap, section_names, header_part, symbol_part, string_part, hash_part, dynamic_part, section_part, gap_part, file_by}
use Rattle.ifs_stub.proofs.FileSize.{next, length-header_part, length-symbol_part, length-string_part, length-gap_part, length-hash_part, length-dynamic_part, length-file_by, file_is_small}
use Rattle.ifs_stub.proofs.ReadBack.Stands.{Stands, stands_last, stands_more, stands_at}

pub record PartsStand (file : List ℕ) (i : InterfaceRecord) (plan : Plan) : Type 0 where
  pub header : Stands file 0 (header_part plan)
  pub symbols : Stands file plan.layout.symbols (symbol_part i.symbols plan.form)
  pub strings : Stands file plan.layout.strings (string_part i)
  pub before_hash : Stands file plan.layout.strings_end (gap_part plan.form.width plan.layout.strings_end)
  pub hash : Stands file plan.layout.hash (hash_part plan.sizes.rows plan.form.order)
  pub before_dynamic : Stands file plan.layout.hash_end (gap_part plan.form.width plan.layout.hash_end)
  pub dynamic : Stands file plan.layout.dynamic (dynamic_part i plan)
  pub names : Stands file plan.layout.names section_names
  pub before_sections : Stands file plan.layout.names_end (gap_part plan.form.width plan.layout.names_end)
  pub sections : Stands file plan.layout.sections (section_part plan)

pub parts_stand : (i : InterfaceRecord) (form : Form) → PartsStand (file_by i (plan_of i form)) i (plan_of i form)
unfolding file_by layout_of sizes_of
parts_stand i form =
    let plan = plan_of i form in
    let width = form.width in
    let header = header_part plan in
    let symbols = symbol_part i.symbols form in
    let strings = string_part i in
    let gap_one = gap_part width plan.layout.strings_end in
    let hash = hash_part plan.sizes.rows form.order in
    let gap_two = gap_part width plan.layout.hash_end in
    let dynamic = dynamic_part i plan in
    let gap_three = gap_part width plan.layout.names_end in
    let sections = section_part plan in
    let to_symbols = length-header_part plan in
    let to_strings = next _ _ _ _ to_symbols (length-symbol_part i.symbols form) in
    let to_gap_one = next _ _ _ _ to_strings (length-string_part i) in
    let to_hash = next _ _ _ _ to_gap_one (length-gap_part width plan.layout.strings_end) in
    let to_gap_two = next _ _ _ _ to_hash (length-hash_part plan.sizes.rows form.order) in
    let to_dynamic = next _ _ _ _ to_gap_two (length-gap_part width plan.layout.hash_end) in
    let to_names = next _ _ _ _ to_dynamic (length-dynamic_part i plan) in
    let to_gap_three = next _ section_names _ 42 to_names refl in
    let to_sections = next _ _ _ _ to_gap_three (length-gap_part width plan.layout.names_end) in
    let behind_names = λ (at : ℕ) (part : List ℕ) (s : Stands (header ++ symbols ++ strings ++ gap_one ++ hash ++ gap_two ++ dynamic ++ section_names) at part). stands_more _ _ sections _ (stands_more _ _ gap_three _ s) in
    let behind_dynamic = λ (at : ℕ) (part : List ℕ) (s : Stands (header ++ symbols ++ strings ++ gap_one ++ hash ++ gap_two ++ dynamic) at part). behind_names at part (stands_more _ _ section_names _ s) in
    let behind_hash = λ (at : ℕ) (part : List ℕ) (s : Stands (header ++ symbols ++ strings ++ gap_one ++ hash) at part). behind_dynamic at part (stands_more _ _ dynamic _ (stands_more _ _ gap_two _ s)) in
    let behind_gap_one = λ (at : ℕ) (part : List ℕ) (s : Stands (header ++ symbols ++ strings ++ gap_one) at part). behind_hash at part (stands_more _ _ hash _ s) in
    let behind_strings = λ (at : ℕ) (part : List ℕ) (s : Stands (header ++ symbols ++ strings) at part). behind_gap_one at part (stands_more _ _ gap_one _ s) in
    record {
      header = behind_strings _ _ (stands_more _ _ strings _ (stands_more _ _ symbols _ (stands_last [] header 0 refl)));
      symbols = behind_strings _ _ (stands_more _ _ strings _ (stands_last header symbols _ to_symbols));
      strings = behind_strings _ _ (stands_last (header ++ symbols) strings _ to_strings);
      before_hash = behind_gap_one _ _ (stands_last (header ++ symbols ++ strings) gap_one _ to_gap_one);
      hash = behind_hash _ _ (stands_last (header ++ symbols ++ strings ++ gap_one) hash _ to_hash);
      before_dynamic = behind_dynamic _ _ (stands_more _ _ dynamic _ (stands_last (header ++ symbols ++ strings ++ gap_one ++ hash) gap_two _ to_gap_two));
      dynamic = behind_dynamic _ _ (stands_last (header ++ symbols ++ strings ++ gap_one ++ hash ++ gap_two) dynamic _ to_dynamic);
      names = behind_names _ _ (stands_last (header ++ symbols ++ strings ++ gap_one ++ hash ++ gap_two ++ dynamic) section_names _ to_names);
      before_sections = stands_more _ _ sections _ (stands_last (header ++ symbols ++ strings ++ gap_one ++ hash ++ gap_two ++ dynamic ++ section_names) gap_three _ to_gap_three);
      sections = stands_last _ sections _ to_sections;
    }

-- ---- as it is said of stubs

zeros_between : (file : List ℕ) (width : Width) (at next : ℕ) → next ≡ at + gap width at → Stands file at (gap_part width at) → StandAt file at (replicate (next - at) 0)
unfolding gap_part
zeros_between file width at next is s =
    let size_is : gap width at ≡ next - at = omega (arith, is) in
    subst (λ n. StandAt file at (replicate n 0)) size_is (stands_at file _ at s)

pub stubs_have_their_parts : (i : InterfaceRecord) (form : Form) → HasParts (file_by i (plan_of i form)) i (plan_of i form)
unfolding layout_of
stubs_have_their_parts i form =
    let s = parts_stand i form in
    let layout = (plan_of i form).layout in
    record {
      headers = stands_at _ _ _ s.header;
      symbols = stands_at _ _ _ s.symbols;
      strings = stands_at _ _ _ s.strings;
      before_hash = zeros_between _ form.width layout.strings_end layout.hash refl s.before_hash;
      hash = stands_at _ _ _ s.hash;
      before_dynamic = zeros_between _ form.width layout.hash_end layout.dynamic refl s.before_dynamic;
      dynamic = stands_at _ _ _ s.dynamic;
      names = stands_at _ _ _ s.names;
      before_sections = zeros_between _ form.width layout.names_end layout.sections refl s.before_sections;
      sections = stands_at _ _ _ s.sections;
    }

-- all numbers of a plan have a place in four bytes
pub record PlanIsSmall (plan : Plan) : Type 0 where
  pub some : 0 < plan.layout.sections
  pub symbols : plan.layout.symbols < 2 ^ 32
  pub symbols_size : plan.layout.symbols_size < 2 ^ 32
  pub strings : plan.layout.strings < 2 ^ 32
  pub strings_size : plan.sizes.strings < 2 ^ 32
  pub hash : plan.layout.hash < 2 ^ 32
  pub hash_size : plan.layout.hash_size < 2 ^ 32
  pub dynamic : plan.layout.dynamic < 2 ^ 32
  pub dynamic_size : plan.layout.dynamic_size < 2 ^ 32
  pub names : plan.layout.names < 2 ^ 32
  pub sections : plan.layout.sections < 2 ^ 32

module _ (plan : Plan) (header rows strings a hash b entries c : ℕ) where
  pub record AreSums : Type 0 where
    pub header_some : 0 < header
    pub symbols_is : plan.layout.symbols ≡ header
    pub symbols_size_is : plan.layout.symbols_size ≡ rows
    pub strings_is : plan.layout.strings ≡ header + rows
    pub strings_size_is : plan.sizes.strings ≡ strings
    pub hash_is : plan.layout.hash ≡ header + rows + strings + a
    pub hash_size_is : plan.layout.hash_size ≡ hash
    pub dynamic_is : plan.layout.dynamic ≡ header + rows + strings + a + hash + b
    pub dynamic_size_is : plan.layout.dynamic_size ≡ entries
    pub names_is : plan.layout.names ≡ header + rows + strings + a + hash + b + entries
    pub sections_is : plan.layout.sections ≡ header + rows + strings + a + hash + b + entries + 42 + c

  small_sums : AreSums → plan.layout.sections < 2 ^ 32 → PlanIsSmall plan
  small_sums s all = record {
    some = omega (arith, s.header_some, s.sections_is);
    symbols = omega (arith, all, s.sections_is, s.symbols_is);
    symbols_size = omega (arith, all, s.sections_is, s.symbols_size_is);
    strings = omega (arith, all, s.sections_is, s.strings_is);
    strings_size = omega (arith, all, s.sections_is, s.strings_size_is);
    hash = omega (arith, all, s.sections_is, s.hash_is);
    hash_size = omega (arith, all, s.sections_is, s.hash_size_is);
    dynamic = omega (arith, all, s.sections_is, s.dynamic_is);
    dynamic_size = omega (arith, all, s.sections_is, s.dynamic_size_is);
    names = omega (arith, all, s.sections_is, s.names_is);
    sections = all;
  }

some_header : (width : Width) → 0 < header_size width + 2 * segment_size width
some_header width = elim width as (λ w. 0 < header_size w + 2 * segment_size w) [ W32 ↦ omega arith | W64 ↦ omega arith ]

pub plan_is_small : (i : InterfaceRecord) (form : Form) → IsWithin i → PlanIsSmall (plan_of i form)
unfolding layout_of
plan_is_small i form within =
    let plan = plan_of i form in
    let width = form.width in
    let sums : AreSums plan (header_size width + 2 * segment_size width) plan.layout.symbols_size plan.sizes.strings (gap width plan.layout.strings_end) plan.layout.hash_size (gap width plan.layout.hash_end) plan.layout.dynamic_size (gap width plan.layout.names_end) = record {
      header_some = some_header width;
      symbols_is = refl;
      symbols_size_is = refl;
      strings_is = refl;
      strings_size_is = refl;
      hash_is = refl;
      hash_size_is = refl;
      dynamic_is = refl;
      dynamic_size_is = refl;
      names_is = refl;
      sections_is = refl;
    } in
    let below : plan.layout.sections < 2 ^ 32 = bounded _ _ _ (file_is_small i form within) (length-file_by i form) in
    small_sums plan _ _ _ _ _ _ _ _ sums below
  where
    bounded : (length sections more : ℕ) → length < 75497472 → length ≡ sections + more → sections < 2 ^ 32
    bounded length sections more small is = omega (arith, small, is)
