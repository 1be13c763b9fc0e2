-- What the dynamic entries of a stub say, read from its file.
use Rattle.std.proofs.Common.{◌≡◌, ℕ, ◌+◌, ◌-◌, ◌*◌, ◌≤◌, ◌==◌, ◌&&◌, ◌||◌, Bool, true, false, cond, List, [], ◌∷◌, ◌++◌, length, take, map, Option, Some, None, refl, sym, ap, ◌∙◌, subst, arith, append_assoc, length-append}
use Rattle.std.specs.Prelude.{is_none, is_some, option_map, option_and_then, unwrap_or}
use Rattle.std.specs.List.{list_any, find, filter_map, flat_map, range_with_len, sum_by, count_by}
use Rattle.std.proofs.lemmas.Bool.{and_parts, and_from, eqb-true, false≢true}
use Rattle.std.proofs.lemmas.Grind.{flat_map-append}
use Rattle.std.proofs.lemmas.List.FromFn.{take-map-range_with_len}
use Rattle.std.proofs.Math.Seq.{take-append_seam}
use Rattle.ifs_bytes.specs.Places.{places}
use Rattle.elf_file.specs.Tables.{dynamic_size, symbol_size, dynamic_at}
use Rattle.elf_file.specs.Written.{dynamic_bytes}
use Rattle.elf_file.specs.declared.dynamic.Dyn.{Dyn}
use Rattle.elf_file.proofs.ReadBack.{dynamic_at-dynamic_bytes, length-dynamic_bytes}
use Rattle.elf_dyn.specs.Entries as entries
use Rattle.elf_dyn.specs.Entries.{entry_count, first_with, bad_entry, soname_of, needed_of, needed_bytes, needed_count, defines_versions, is_named, is_place}
use Rattle.elf_dyn.specs.Strings.{name_of, unless_empty, bytes_of}
use Rattle.elf_dyn.specs.declared.places.Entries.{Entries}
use Rattle.elf_dyn.specs.declared.places.Strings.{Strings}
use Rattle.elf_dyn.specs.declared.constants.TheConstants.{DT_SONAME}
use Rattle.ifs_interface.specs.Interface.{InterfaceRecord, AreParts}
use Rattle.ifs_stub.specs.declared.layout.Form.{Form}
use Rattle.ifs_stub.specs.declared.layout.Plan.{Plan}
use Rattle.ifs_stub.specs.StubFile.{plan_of, sizes_of, entry, needed_entries, soname_entries, table_entries, table_part, dynamic_part, needed_name_bytes}
use Rattle.ifs_stub.proofs.FileSize.{length-needed_entries, length-soname_entries}
use Rattle.ifs_stub.proofs.ReadBack.Stands.{Stands, EachFits, read_each}
use Rattle.ifs_stub.proofs.ReadBack.Each.{find_each, filter_map_each, sum_each, count_each, none_each, first_behind}
use Rattle.ifs_stub.proofs.ReadBack.Parts.{PartsStand, PlanIsSmall}
use Rattle.ifs_stub.proofs.ReadBack.Sections.{stub_places, symbol_is_small}
use Rattle.ifs_stub.proofs.ReadBack.Strings.{NamesAreFound}
use Rattle.ifs_stub.proofs.ReadBack.Entries.{Tables, tables_entries, entries_fit, counted, is_null, is_needed, is_soname, is_versions, EntryFits, none_is_null, none_is_versions, needed_are_counted, soname_is_read, none_is_bad, needed_are_read, sizes_of_needed, name_needed, is_bad, soname_in}

-- ---- any entries that count, of which the list is known

-- what is found passes
found_passes : (p : ℕ → Bool) (is : List ℕ) (i : ℕ) → find p is ≡ Some i → p i ≡ true
found_passes p [] i e = absurd (cc)
found_passes p (j ∷ js) i e = by (p j) refl e (found_passes p js i)
  where
    by : (b : Bool) → p j ≡ b → cond b (Some j) (find p js) ≡ Some i → (find p js ≡ Some i → p i ≡ true) → p i ≡ true
    by true passes is later = let same : j ≡ i = cc in ap p (sym same) ∙ passes
    by false fails is later = later is

and_then_map : {X Y Z : Type 0} (f : X → Y) (g : Y → Option Z) (o : Option X) → option_and_then (λ x. g (f x)) o ≡ option_and_then g (option_map f o)
and_then_map f g None = refl
and_then_map f g (Some x) = refl

some_map : {X Y : Type 0} (f : X → Y) (o : Option X) → is_some o ≡ is_some (option_map f o)
some_map f None = refl
some_map f (Some x) = refl

or_other : (a b c : Bool) → (a || c) ≡ true → (c ≡ true → b ≡ true) → (a || b) ≡ true
or_other true b c h other = refl
or_other false b c h other = other h

module _ (file : List ℕ) (e : Entries) (strings : Strings) (n : ℕ) (ds : List Dyn) (read : map (entries.entry file e) (places 0 n) ≡ ds) where
  find_is : (p : Dyn → Bool) → option_map (entries.entry file e) (find (λ i. p (entries.entry file e i)) (places 0 n)) ≡ find p ds
  find_is p = find_each (entries.entry file e) p (places 0 n) ∙ ap (find p) read

  pub soname_is : soname_of file e strings n ≡ soname_in (name_of file strings) ds
  unfolding soname_of first_with
  soname_is =
      ap unless_empty (and_then_map (entries.entry file e) (λ d. name_of file strings d.value) (find (λ i. is_soname (entries.entry file e i)) (places 0 n)) ∙ ap (option_and_then (λ d. name_of file strings d.value)) (find_is is_soname))

  pub needed_is : needed_of file e strings n ≡ filter_map (name_needed (name_of file strings)) ds
  unfolding needed_of
  needed_is = filter_map_each (entries.entry file e) (name_needed (name_of file strings)) (places 0 n) ∙ ap (filter_map (name_needed (name_of file strings))) read

  pub needed_bytes_are : needed_bytes file e strings n ≡ sum_by (λ d. bytes_of (name_needed (name_of file strings) d)) ds
  unfolding needed_bytes
  needed_bytes_are =
      sum_each (entries.entry file e) (λ d. bytes_of (name_needed (name_of file strings) d)) (places 0 n) ∙ ap (sum_by (λ d. bytes_of (name_needed (name_of file strings) d))) read

  pub needed_count_is : needed_count file e n ≡ count_by is_needed ds
  unfolding needed_count
  needed_count_is = count_each (entries.entry file e) is_needed (places 0 n) ∙ ap (count_by is_needed) read

  pub versions_are : defines_versions file e n ≡ is_some (find is_versions ds)
  unfolding first_with
  versions_are = some_map (entries.entry file e) (find (λ i. is_versions (entries.entry file e i)) (places 0 n)) ∙ ap is_some (find_is is_versions)

  -- an entry that is named is DT_NEEDED or DT_SONAME
  named_tag : (i : ℕ) (o : Option ℕ) → o ≡ first_with file e n DT_SONAME → is_named file e o i ≡ true → (is_needed (entries.entry file e i) || is_soname (entries.entry file e i)) ≡ true
  unfolding first_with
  named_tag i None first named = or_other (is_needed (entries.entry file e i)) (is_soname (entries.entry file e i)) false named (λ h. absurd (false≢true h))
  named_tag i (Some j) first named =
      let there : is_soname (entries.entry file e j) ≡ true = found_passes (λ k. is_soname (entries.entry file e k)) (places 0 n) j (sym first) in
      or_other (is_needed (entries.entry file e i)) (is_soname (entries.entry file e i)) (i == j) named (λ h. ap (λ k. is_soname (entries.entry file e k)) (eqb-true i j h) ∙ there)

  pub bad_is_none : list_any (is_bad (name_of file strings)) ds ≡ false → bad_entry file e strings n ≡ None
  unfolding bad_entry
  bad_is_none none =
      let own = first_with file e n DT_SONAME in
      let look = name_of file strings in
      none_each (entries.entry file e) (is_bad look) (λ i. is_named file e own i && is_none (entries.entry_name file e strings i)) (λ i h.
      let parts = and_parts (is_named file e own i) (is_none (entries.entry_name file e strings i)) h in
      and_from _ _ (named_tag i own refl parts.0) parts.1) (places 0 n) (ap (list_any (is_bad look)) read ∙ none)

-- ---- the entries of a stub

-- what the entries of its tables say
abbrev tables : Plan → Tables
tables plan = record {
  hash = plan.layout.hash;
  strings = plan.layout.strings;
  symbols = plan.layout.symbols;
  size = plan.sizes.strings;
  row_size = symbol_size plan.form.width;
}

-- the entries that count
abbrev pub stub_entries : InterfaceRecord → Plan → List Dyn
stub_entries i plan = counted plan.sizes.needed_names i.needed plan.sizes.soname_name i.soname (tables plan)

abbrev bytes_in : Plan → Dyn → List ℕ
bytes_in plan d = dynamic_bytes d plan.form.order plan.form.width

-- DT_NULL stands behind them
in_a_row : (i : InterfaceRecord) (plan : Plan) → dynamic_part i plan ≡ flat_map (bytes_in plan) (stub_entries i plan ++ entry 0 0 ∷ [])
unfolding dynamic_part table_part
in_a_row i plan =
    let bytes = bytes_in plan in
    let needed = needed_entries plan.sizes.needed_names i.needed in
    let own = soname_entries plan.sizes.soname_name i.soname in
    let tabled = table_entries plan in
    let split = flat_map-append bytes needed (own ++ tabled) ∙ ap (λ xs. flat_map bytes needed ++ xs) (flat_map-append bytes own tabled) in
    let listed : needed ++ (own ++ tabled) ≡ stub_entries i plan ++ entry 0 0 ∷ [] = sym (append_assoc needed (own ++ tables_entries (tables plan)) (entry 0 0 ∷ []) ∙ ap (λ xs. needed ++ xs) (append_assoc own (tables_entries (tables plan)) (entry 0 0 ∷ []))) in
    append_assoc (flat_map bytes needed) (flat_map bytes own) (flat_map bytes tabled) ∙ sym split ∙ ap (flat_map bytes) listed

entry_total : (i : InterfaceRecord) (form : Form) → length (stub_entries i (plan_of i form) ++ entry 0 0 ∷ []) ≡ (sizes_of i).entries
unfolding sizes_of
entry_total i form =
    let plan = plan_of i form in
    let needed = needed_entries plan.sizes.needed_names i.needed in
    let own = soname_entries plan.sizes.soname_name i.soname in
    let five = tables_entries (tables plan) in
    omega (arith, length-append (stub_entries i plan) (entry 0 0 ∷ []), length-append needed (own ++ five), length-append own five, length-needed_entries plan.sizes.needed_names i.needed, length-soname_entries plan.sizes.soname_name i.soname)

entries_have_places : (i : InterfaceRecord) (form : Form) → PlanIsSmall (plan_of i form) → EachFits (EntryFits form.width) (stub_entries i (plan_of i form) ++ entry 0 0 ∷ [])
unfolding sizes_of
entries_have_places i form small =
    let plan = plan_of i form in
    let size = small.strings_size in
    entries_fit form.width plan.sizes.needed_names i.needed plan.sizes.soname_name i.soname (tables plan) (omega (arith, size)) (omega (arith, size))
    (record { hash = small.hash; strings = small.strings; symbols = small.symbols; size = size; row_size = symbol_is_small form.width })

abbrev pub read_at : List ℕ → InterfaceRecord → Form → ℕ → Dyn
read_at file i form = entries.entry file (stub_places (plan_of i form)).entries

all_are_read : (file : List ℕ) (i : InterfaceRecord) (form : Form) → PartsStand file i (plan_of i form) → PlanIsSmall (plan_of i form) → map (read_at file i form) (places 0 (sizes_of i).entries) ≡ stub_entries i (plan_of i form) ++ entry 0 0 ∷ []
all_are_read file i form parts small =
    let plan = plan_of i form in
    let order = form.order in
    let width = form.width in
    let at = plan.layout.dynamic in
    let all = stub_entries i plan ++ entry 0 0 ∷ [] in
    let start : at ≡ at + 0 * dynamic_size width = omega arith in
    let stands : Stands file (at + 0 * dynamic_size width) (flat_map (bytes_in plan) all) = subst (λ n. Stands file n (flat_map (bytes_in plan) all)) start (subst (Stands file at) (in_a_row i plan) parts.dynamic) in
    let count : (sizes_of i).entries - 0 ≡ length all = omega (arith, entry_total i form) in
    ap (λ n. map (read_at file i form) (range_with_len 0 n)) count
    ∙ read_each (λ bytes place. dynamic_at bytes place order width) (bytes_in plan) (EntryFits width) (dynamic_size width) (λ d. length-dynamic_bytes d order width) (λ d before after fit. dynamic_at-dynamic_bytes d order width before after fit) file at 0 all (entries_have_places i form small) stands

-- as many count as stand before DT_NULL
pub entry_count_is : (file : List ℕ) (i : InterfaceRecord) (form : Form) → PartsStand file i (plan_of i form) → PlanIsSmall (plan_of i form) → entry_count file (stub_places (plan_of i form)).entries ≡ length (stub_entries i (plan_of i form))
unfolding entry_count
entry_count_is file i form parts small =
    let plan = plan_of i form in
    let counts = stub_entries i plan in
    let none : list_any is_null counts ≡ false = none_is_null plan.sizes.soname_name i.soname (tables plan) plan.sizes.needed_names i.needed in
    let found = first_behind is_null (read_at file i form) 0 ((sizes_of i).entries - 0) counts (entry 0 0) [] (all_are_read file i form parts small) none refl in
    ap (λ o. unwrap_or o (sizes_of i).entries) found ∙ omega arith

-- these are read
pub entries_are_read : (file : List ℕ) (i : InterfaceRecord) (form : Form) → PartsStand file i (plan_of i form) → PlanIsSmall (plan_of i form) → map (read_at file i form) (places 0 (length (stub_entries i (plan_of i form)))) ≡ stub_entries i (plan_of i form)
entries_are_read file i form parts small =
    let counts = stub_entries i (plan_of i form) in
    let read = read_at file i form in
    let n = length counts in
    let room = (sizes_of i).entries in
    let from_zero : n - 0 ≡ n = omega arith in
    let within : n ≤ room - 0 = omega (arith, entry_total i form, length-append counts (entry 0 0 ∷ [])) in
    ap (λ k. map read (range_with_len 0 k)) from_zero ∙ sym (take-map-range_with_len read 0 (room - 0) n within)
    ∙ ap (take n) (all_are_read file i form parts small) ∙ take-append_seam counts (entry 0 0 ∷ [])

-- what the entries of a stub say
pub record EntriesSay (file : List ℕ) (e : Entries) (strings : Strings) (n : ℕ) (i : InterfaceRecord) : Type 0 where
  pub soname : soname_of file e strings n ≡ i.soname
  pub needed : needed_of file e strings n ≡ i.needed
  pub needed_bytes : needed_bytes file e strings n ≡ needed_name_bytes i.needed
  pub needed_count : needed_count file e n ≡ length i.needed
  pub versioned : defines_versions file e n ≡ false
  pub bad : bad_entry file e strings n ≡ None

pub entries_say : (file : List ℕ) (i : InterfaceRecord) (form : Form) (strings : Strings) → PartsStand file i (plan_of i form) → PlanIsSmall (plan_of i form) → AreParts i.soname i.target i.needed i.symbols → NamesAreFound (name_of file strings) i → EntriesSay file (stub_places (plan_of i form)).entries strings (length (stub_entries i (plan_of i form))) i
entries_say file i form strings parts small proper found =
    let plan = plan_of i form in
    let e = (stub_places plan).entries in
    let ds = stub_entries i plan in
    let n = length ds in
    let read = entries_are_read file i form parts small in
    let look = name_of file strings in
    let at = plan.sizes.needed_names in
    let place = plan.sizes.soname_name in
    let t = tables plan in
    record {
      soname = soname_is file e strings n ds read ∙ soname_is_read place i.soname t look at i.needed found.soname proper.soname_is_proper;
      needed = needed_is file e strings n ds read ∙ needed_are_read place i.soname t look at i.needed found.needed proper.needed_are_proper;
      needed_bytes = needed_bytes_are file e strings n ds read ∙ sizes_of_needed place i.soname t look at i.needed found.needed proper.needed_are_proper;
      needed_count = needed_count_is file e strings n ds read ∙ needed_are_counted place i.soname t at i.needed;
      versioned = versions_are file e strings n ds read ∙ ap is_some (none_is_versions place i.soname t at i.needed);
      bad = bad_is_none file e strings n ds read (none_is_bad place i.soname t look at i.needed found.needed found.soname);
    }
