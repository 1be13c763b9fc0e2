-- The dynamic entries of a stub are read as its needed libraries and its soname.
use Rattle.std.proofs.Common.{◌≡◌, ℕ, suc, ◌+◌, ◌<◌, ◌^◌, ◌==◌, ◌&&◌, ◌||◌, Bool, true, false, cond, List, [], ◌∷◌, ◌++◌, length, Option, Some, None, refl, sym, ap, ◌∙◌, arith}
use Rattle.std.specs.Prelude.{if◌then◌else◌, is_none, option_and_then}
use Rattle.std.specs.List.{list_all, list_any, find, filter_map, cons_option, count_by, sum_by}
use Rattle.std.proofs.lemmas.Bool.{and_parts}
use Rattle.std.proofs.lemmas.List.Sums.{sum_by-cons}
use Rattle.ifs_bytes.specs.Field.{word_size}
use Rattle.ifs_bytes.specs.declared.form.Width.{Width}
use Rattle.elf_file.specs.Written.{AllFit, dynamic_fields}
use Rattle.elf_file.specs.declared.dynamic.Dyn.{Dyn}
use Rattle.elf_dyn.specs.Strings.{unless_empty, bytes_of}
use Rattle.elf_dyn.specs.declared.constants.TheConstants.{DT_NULL, DT_NEEDED, DT_SONAME, DT_VERDEF}
use Rattle.ifs_interface.specs.Interface.{is_proper_name, is_proper_soname}
use Rattle.ifs_stub.specs.StubFile.{entry, needed_entries, soname_entries, needed_name_bytes}
use Rattle.ifs_stub.proofs.Fits.{fits}
use Rattle.ifs_stub.proofs.ReadBack.Names.{AreFound, not_empty}
use Rattle.ifs_stub.proofs.ReadBack.Stands.{EachFits}

-- what the entries of tables say
pub record Tables : Type 0 where
  pub hash : ℕ
  pub strings : ℕ
  pub symbols : ℕ
  pub size : ℕ
  pub row_size : ℕ

-- the entries that count: those of the needed libraries, of the soname and of tables
abbrev pub tables_entries : Tables → List Dyn
tables_entries t = entry 4 t.hash ∷ entry 5 t.strings ∷ entry 6 t.symbols ∷ entry 10 t.size ∷ entry 11 t.row_size ∷ []

abbrev pub counted : ℕ → List (List ℕ) → ℕ → Option (List ℕ) → Tables → List Dyn
counted at needed place soname t = needed_entries at needed ++ (soname_entries place soname ++ tables_entries t)

abbrev pub is_null : Dyn → Bool
is_null d = d.tag == DT_NULL

abbrev pub is_needed : Dyn → Bool
is_needed d = d.tag == DT_NEEDED

abbrev pub is_soname : Dyn → Bool
is_soname d = d.tag == DT_SONAME

abbrev pub is_versions : Dyn → Bool
is_versions d = d.tag == DT_VERDEF

-- the soname is found, if there is one
abbrev pub IsFound : (ℕ → Option (List ℕ)) → ℕ → Option (List ℕ) → Type 0
IsFound look place None = Unit {0}
IsFound look place (Some name) = look place ≡ Some name

-- what is asked of entries, where names are looked up
module _ (look : ℕ → Option (List ℕ)) where
  -- the name of an entry that is DT_NEEDED
  abbrev pub name_needed : Dyn → Option (List ℕ)
  name_needed d = if is_needed d then unless_empty (look d.value) else None

  abbrev pub is_bad : Dyn → Bool
  is_bad d = (is_needed d || is_soname d) && is_none (look d.value)

  abbrev pub soname_in : List Dyn → Option (List ℕ)
  soname_in ds = unless_empty (option_and_then (λ d. look d.value) (find is_soname ds))

module _ (place : ℕ) (soname : Option (List ℕ)) (t : Tables) where
  rest : Option (List ℕ) → List Dyn
  rest name = soname_entries place name ++ tables_entries t

  pub none_is_null : (at : ℕ) (needed : List (List ℕ)) → list_any is_null (counted at needed place soname t) ≡ false
  none_is_null at [] = elim soname as (λ o. list_any is_null (soname_entries place o ++ tables_entries t) ≡ false) [ None ↦ refl | Some name ↦ refl ]
  none_is_null at (n ∷ ns) = none_is_null (at + (length n + 1)) ns

  pub none_is_versions : (at : ℕ) (needed : List (List ℕ)) → find is_versions (counted at needed place soname t) ≡ None
  none_is_versions at [] = elim soname as (λ o. find is_versions (soname_entries place o ++ tables_entries t) ≡ None) [ None ↦ refl | Some name ↦ refl ]
  none_is_versions at (n ∷ ns) = none_is_versions (at + (length n + 1)) ns

  pub needed_are_counted : (at : ℕ) (needed : List (List ℕ)) → count_by is_needed (counted at needed place soname t) ≡ length needed
  needed_are_counted at [] = elim soname as (λ o. count_by is_needed (soname_entries place o ++ tables_entries t) ≡ 0) [ None ↦ refl | Some name ↦ refl ]
  needed_are_counted at (n ∷ ns) =
      let next = at + (length n + 1) in
      let one : 1 + length ns ≡ suc (length ns) = omega arith in
      sum_by-cons (λ (d : Dyn). cond (is_needed d) 1 0) (entry 1 at) (counted next ns place soname t) ∙ ap (λ k. 1 + k) (needed_are_counted next ns) ∙ one

  module _ (look : ℕ → Option (List ℕ)) where
    pub soname_is_read : (at : ℕ) (needed : List (List ℕ)) → IsFound look place soname → is_proper_soname soname ≡ true → soname_in look (counted at needed place soname t) ≡ soname
    soname_is_read at [] found proper =
        elim soname as (λ o. IsFound look place o → is_proper_soname o ≡ true → soname_in look (soname_entries place o ++ tables_entries t) ≡ o) [
          | None ↦ λ f p. refl
          | Some name ↦ λ f p. ap unless_empty f ∙ not_empty name p
        ] found proper
    soname_is_read at (n ∷ ns) found proper = soname_is_read (at + (length n + 1)) ns found proper

    pub none_is_bad : (at : ℕ) (needed : List (List ℕ)) → AreFound look at needed → IsFound look place soname → list_any (is_bad look) (counted at needed place soname t) ≡ false
    none_is_bad at [] found own =
        elim soname as (λ o. IsFound look place o → list_any (is_bad look) (soname_entries place o ++ tables_entries t) ≡ false) [
          | None ↦ λ f. refl
          | Some name ↦ λ f. ap (λ o. is_none o || false) f
        ] own
    none_is_bad at (n ∷ ns) found own =
        let next = at + (length n + 1) in
        ap (λ o. is_none o || list_any (is_bad look) (counted next ns place soname t)) found.0 ∙ none_is_bad next ns found.1 own

    needed_here : (at : ℕ) (n : List ℕ) → look at ≡ Some n → is_proper_name n ≡ true → name_needed look (entry 1 at) ≡ Some n
    needed_here at n found proper = ap unless_empty found ∙ not_empty n proper

    pub needed_are_read : (at : ℕ) (needed : List (List ℕ)) → AreFound look at needed → list_all is_proper_name needed ≡ true → filter_map (name_needed look) (counted at needed place soname t) ≡ needed
    needed_are_read at [] found proper =
        elim soname as (λ o. filter_map (name_needed look) (soname_entries place o ++ tables_entries t) ≡ []) [ None ↦ refl | Some name ↦ refl ]
    needed_are_read at (n ∷ ns) found proper =
        let next = at + (length n + 1) in
        let parts = and_parts (is_proper_name n) (list_all is_proper_name ns) proper in
        ap (λ o. cons_option o (filter_map (name_needed look) (counted next ns place soname t))) (needed_here at n found.0 parts.0)
        ∙ ap (λ names. n ∷ names) (needed_are_read next ns found.1 parts.1)

    pub sizes_of_needed : (at : ℕ) (needed : List (List ℕ)) → AreFound look at needed → list_all is_proper_name needed ≡ true → sum_by (λ d. bytes_of (name_needed look d)) (counted at needed place soname t) ≡ needed_name_bytes needed
    sizes_of_needed at [] found proper =
        elim soname as (λ o. sum_by (λ d. bytes_of (name_needed look d)) (soname_entries place o ++ tables_entries t) ≡ 0) [ None ↦ refl | Some name ↦ refl ]
    sizes_of_needed at (n ∷ ns) found proper =
        let next = at + (length n + 1) in
        let parts = and_parts (is_proper_name n) (list_all is_proper_name ns) proper in
        let size = λ (d : Dyn). bytes_of (name_needed look d) in
        sum_by-cons size (entry 1 at) (counted next ns place soname t)
        ∙ ap (λ o. bytes_of o + sum_by size (counted next ns place soname t)) (needed_here at n found.0 parts.0)
        ∙ ap (λ k. length n + k) (sizes_of_needed next ns found.1 parts.1)
        ∙ sym (sum_by-cons (λ (name : List ℕ). length name) n ns)

-- ---- the entries fit their places

abbrev pub EntryFits : Width → Dyn → Type 0
EntryFits width d = AllFit (dynamic_fields d (word_size width))

-- a number below 2^32 in an entry
abbrev Small : ℕ → Type 0
Small n = n < 2 ^ 32

entry_fits : (width : Width) (tag value : ℕ) → Small tag → Small value → EntryFits width (entry tag value)
entry_fits width tag value low small = (fits tag width low, (fits value width small, tt))

pub record TablesAreSmall (t : Tables) : Type 0 where
  pub hash : t.hash < 2 ^ 32
  pub strings : t.strings < 2 ^ 32
  pub symbols : t.symbols < 2 ^ 32
  pub size : t.size < 2 ^ 32
  pub row_size : t.row_size < 2 ^ 32

pub each_append : {X : Type 0} (p : X → Type 0) (xs ys : List X) → EachFits p xs → EachFits p ys → EachFits p (xs ++ ys)
each_append p [] ys f g = g
each_append p (x ∷ xs) ys f g = (f.0, each_append p xs ys f.1 g)

needed_fit : (width : Width) (at : ℕ) (needed : List (List ℕ)) → at + (length needed + needed_name_bytes needed) < 2 ^ 32 → EachFits (EntryFits width) (needed_entries at needed)
needed_fit width at [] small = tt
needed_fit width at (n ∷ ns) small =
    let sum = sum_by-cons (λ (name : List ℕ). length name) n ns in
    (entry_fits width 1 at (omega arith) (omega (arith, small)), needed_fit width (at + (length n + 1)) ns (omega (arith, small, sum)))

soname_fits : (width : Width) (place : ℕ) (soname : Option (List ℕ)) → place < 2 ^ 32 → EachFits (EntryFits width) (soname_entries place soname)
soname_fits width place None small = tt
soname_fits width place (Some name) small = (entry_fits width 14 place (omega arith) small, tt)

tables_fit : (width : Width) (t : Tables) → TablesAreSmall t → EachFits (EntryFits width) (tables_entries t)
tables_fit width t s =
    (entry_fits width 4 t.hash (omega arith) s.hash, (entry_fits width 5 t.strings (omega arith) s.strings, (entry_fits width 6 t.symbols (omega arith) s.symbols, (entry_fits width 10 t.size (omega arith) s.size, (entry_fits width 11 t.row_size (omega arith) s.row_size, tt)))))

-- these, and DT_NULL behind them
pub entries_fit : (width : Width) (at : ℕ) (needed : List (List ℕ)) (place : ℕ) (soname : Option (List ℕ)) (t : Tables) → at + (length needed + needed_name_bytes needed) < 2 ^ 32 → place < 2 ^ 32 → TablesAreSmall t → EachFits (EntryFits width) (counted at needed place soname t ++ entry 0 0 ∷ [])
entries_fit width at needed place soname t names own small =
    let ending : EachFits (EntryFits width) (entry 0 0 ∷ []) = (entry_fits width 0 0 (omega arith) (omega arith), tt) in
    let tables = each_append (EntryFits width) (soname_entries place soname) (tables_entries t) (soname_fits width place soname own) (tables_fit width t small) in
    each_append (EntryFits width) (counted at needed place soname t) (entry 0 0 ∷ []) (each_append (EntryFits width) (needed_entries at needed) (soname_entries place soname ++ tables_entries t) (needed_fit width at needed names) tables) ending
