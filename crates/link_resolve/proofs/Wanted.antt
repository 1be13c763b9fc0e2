-- Names found among those of a scope, and what libraries want in vain.
use Rattle.std.proofs.Common.{◌≡◌, ℕ, Bool, true, false, not, ◌&&◌, ◌||◌, ◌==◌, cond, if◌then◌else◌, List, [], ◌∷◌, map, Option, Some, None, unwrap_or, refl, ap, sym, ◌∙◌}
use Rattle.std.specs.List.{enumerate_from, find, list_all, list_any}
use Rattle.std.specs.Option.{option_map, option_map_or, option_or}
use Rattle.std.proofs.lemmas.Bool.{false≢true}
use Rattle.std.proofs.lemmas.Option.{none-some}
use Rattle.std.proofs.Math.Path.{fun_ext}
use denote.Ref.{Bor}
use Rattle.ifs_interface.specs.declared.fact.Fact.{Fact}
use Rattle.ifs_interface.specs.Triple.{same_name}
use Rattle.ifs_interface.proofs.Groups.{has_named}
use Rattle.ifs_interface.proofs.InOrder.{has_in_order}
use Rattle.ifs_interface.proofs.Lists.{has_some}
use Rattle.ifs_interface.proofs.Names.{same_name-is}
use Rattle.link_core.specs.declared.constants.TheConstants.{STV_DEFAULT}
use Rattle.link_core.specs.declared.refusal.LinkRefusal.TheVariants as refusals
use Rattle.link_core.specs.declared.resolution.Bound.TheVariants as bounds
use Rattle.link_core.specs.Binding.{Allotted, Binding, Defined, Provided, Taken, Unbound, among_libraries, binding_of, taken_from}
use Rattle.link_core.specs.Exports.{is_offered, is_own, is_shared, is_visible}
use Rattle.link_core.specs.Lists.{first_some}
use Rattle.link_core.specs.Mentions.{Mention, are_weak, mentioned_names, naming, strictest}
use Rattle.link_core.specs.Provided.{is_provided}
use Rattle.link_core.specs.Resolution.{Scope, binding_in, bound_by, is_defined, is_defined_by_one, is_missing, is_offered_in, is_soname, library_undefined, library_undefined_in, missing_want, no_entry, visibility_in}
use Rattle.link_core.specs.Side.{Library}
use Rattle.link_mentions.specs.ByName.{name_of}
use Rattle.link_binding.proofs.Spoken.{offered_by_bound}
use Rattle.link_names.specs.declared.names.Name.{Name}
use Rattle.link_names.specs.Bounds.{is_provided_by}
use Rattle.link_checks.specs.Found.{entry_missing, is_defined_at, is_offered_at, name_in}
use Rattle.link_wants.specs.Least.{is_missing_by, missing_wanted}
use Rattle.link_wants.specs.Wants as wants
use Rattle.link_resolve.specs.Names.{name_for, names_in}
use Rattle.link_resolve.proofs.First.{first_fails, first_made}
use Rattle.link_resolve.proofs.Named.{names_for}

-- ---- a name among those of a scope

find_through : {X Y : Type 0} (p : Y → Bool) (g : X → Y) (xs : List X) → find p (map g xs) ≡ option_map g (find (λ x. p (g x)) xs)
find_through p g [] = refl
find_through p g (x ∷ xs) = one (p (g x)) x (find p (map g xs)) (find (λ x. p (g x)) xs) (find_through p g xs)
  where
    one : (t : Bool) (x : _) (ys : Option _) (zs : Option _) → ys ≡ option_map g zs → cond t (Some (g x)) ys ≡ option_map g (cond t (Some x) zs)
    one true x ys zs e = refl
    one false x ys zs e = e

module _ {X : Type 0} (p : X → Bool) where
  passes : (x : X) (t : Bool) (rest : Option X) (found : X) → p x ≡ t → (rest ≡ Some found → p found ≡ true) → cond t (Some x) rest ≡ Some found → p found ≡ true
  passes x true rest found e next is = sym (ap (λ o. p (unwrap_or o x)) is) ∙ e
  passes x false rest found e next is = next is

  find_passes : (xs : List X) (found : X) → find p xs ≡ Some found → p found ≡ true
  find_passes [] found is = absurd (none-some found is)
  find_passes (x ∷ xs) found is = passes x (p x) (find p xs) found refl (find_passes xs found) is

  fails : (x : X) (t : Bool) (rest : Option X) (others : Bool) → p x ≡ t → (rest ≡ None → others ≡ false) → cond t (Some x) rest ≡ None → (p x || others) ≡ false
  fails x true rest others e next is = absurd (none-some x (sym is))
  fails x false rest others e next is = ap (λ t. t || others) e ∙ next is

  find_fails : (xs : List X) → find p xs ≡ None → list_any p xs ≡ false
  find_fails [] is = refl
  find_fails (x ∷ xs) is = fails x (p x) (find p xs) (list_any p xs) refl (find_fails xs) is

without : {X : Type 0} (xs : List X) → has_some xs ≡ false → xs ≡ []
without [] e = refl
without (x ∷ xs) e = absurd (false≢true (sym e))

unmentioned : (s : Scope) (n : List ℕ) → find (λ m. same_name m n) (mentioned_names s.mentions) ≡ None → naming n s.mentions ≡ []
unfolding mentioned_names
unmentioned s n none =
    without (naming n s.mentions)
    (sym (has_named name_of n s.mentions) ∙ sym (has_in_order n (map name_of s.mentions)) ∙ find_fails (λ m. same_name m n) (mentioned_names s.mentions) none)

module _ (s : Scope) (n : List ℕ) (test : Name → Bool) (absent : naming n s.mentions ≡ [] → test (name_for s n) ≡ false) where
  by_place : (o : Option (List ℕ)) → find (λ m. same_name m n) (mentioned_names s.mentions) ≡ o → option_map_or test (option_map (name_for s) o) false ≡ test (name_for s n)
  by_place None e = sym (absent (unmentioned s n e))
  by_place (Some m) e = ap (λ k. test (name_for s k)) (same_name-is m n (find_passes (λ k. same_name k n) (mentioned_names s.mentions) m e))

  pub test_found : option_map_or test (name_in (names_in s) n) false ≡ test (name_for s n)
  test_found =
      ap (λ names. option_map_or test (name_in names n) false) (names_for s)
      ∙ ap (λ o. option_map_or test o false) (find_through (λ x. same_name x.row.name n) (name_for s) (mentioned_names s.mentions))
      ∙ by_place (find (λ m. same_name m n) (mentioned_names s.mentions)) refl

-- ---- a name that no object mentions is none of an object's

taken_is : (test : Binding → Bool) → ((library : ℕ) (fact : Fact) → test (Taken library fact) ≡ false) → (n : List ℕ) (libraries : List Library)
    → option_map_or test (first_some (taken_from n) (enumerate_from 0 libraries)) false ≡ false
taken_is test taken n libraries =
    first_fails test (taken_from n) (λ l. one l.0 (l.1.facts.fact_of n)) (enumerate_from 0 libraries)
  where
    one : (library : ℕ) (fact : Option Fact) → option_map_or test (option_map (Taken library) fact) false ≡ false
    one library None = refl
    one library (Some fact) = taken library fact

chosen : (test : Binding → Bool) (t : Bool) (found : Option Binding) → option_map_or test found false ≡ false → option_map_or test (if t then found else None) false ≡ false
chosen test true found e = e
chosen test false found e = refl

bound_else : (test : Binding → Bool) (p : Bool) (found : Option Binding) → test Provided ≡ false → test Unbound ≡ false → option_map_or test found false ≡ false
    → test (unwrap_or (option_or (if p then Some Provided else None) found) Unbound) ≡ false
bound_else test true found provided unbound e = provided
bound_else test false None provided unbound e = unbound
bound_else test false (Some b) provided unbound e = e

module _ (test : Binding → Bool) (provided : test Provided ≡ false) (unbound : test Unbound ≡ false) (taken : (library : ℕ) (fact : Fact) → test (Taken library fact) ≡ false) where
  nothing_owned : (s : Scope) (n : List ℕ) → test (binding_of (is_provided s.outputs) s.libraries n []) ≡ false
  unfolding binding_of
  nothing_owned s n =
      bound_else test (is_provided s.outputs n) (among_libraries s.libraries n []) provided unbound
      (chosen test (strictest [] == STV_DEFAULT) (first_some (taken_from n) (enumerate_from 0 s.libraries)) (taken_is test taken n s.libraries))

  unowned : (s : Scope) (n : List ℕ) → naming n s.mentions ≡ [] → test (binding_in s n) ≡ false
  unfolding binding_in
  unowned s n none = ap (λ ms. test (binding_of (is_provided s.outputs) s.libraries n ms)) none ∙ nothing_owned s n

abbrev binding_for : Scope → List ℕ → Binding
binding_for s n = binding_of (λ _. is_provided s.outputs n) s.libraries n (naming n s.mentions)

same_binding : (s : Scope) (n : List ℕ) → binding_for s n ≡ binding_in s n
unfolding binding_in binding_of
same_binding s n = refl

offered_for : (s : Scope) (n : List ℕ) → is_offered_at (name_for s n) ≡ is_offered_in s n
unfolding is_offered_in
offered_for s n =
    sym (offered_by_bound (binding_for s n) (naming n s.mentions) (strictest (naming n s.mentions)))
    ∙ ap (λ b. is_offered b (strictest (naming n s.mentions))) (same_binding s n)

offered_absent : (s : Scope) (n : List ℕ) → naming n s.mentions ≡ [] → is_offered_at (name_for s n) ≡ false
unfolding is_offered_in
offered_absent s n none = offered_for s n ∙ ap (λ own. own && is_visible (visibility_in s n)) (unowned is_own refl refl (λ library fact. refl) s n none)

pub offered_found : (s : Scope) (n : List ℕ) → option_map_or is_offered_at (name_in (names_in s) n) false ≡ is_offered_in s n
offered_found s n = test_found s n is_offered_at (offered_absent s n) ∙ offered_for s n

-- ---- what libraries want

module _ (s : Scope) (sections : List (Bor (List ℕ))) (same : (n : List ℕ) → is_provided_by sections n ≡ is_provided s.outputs n) where
  missing_is : (n : List ℕ) → is_missing_by (names_in s) s.libraries sections n ≡ is_missing s n
  unfolding is_missing
  missing_is n =
      ap (λ t. (not (is_defined_by_one s.libraries n) && not t) && not (option_map_or is_offered_at (name_in (names_in s) n) false)) (same n)
      ∙ ap (λ t. (not (is_defined_by_one s.libraries n) && not (is_provided s.outputs n)) && not t) (offered_found s n)

  wanted_is : (library : ℕ) (t : Bool) (name : List ℕ) → (if t then Some (refusals.LibraryUndefined name library) else None) ≡ option_map (λ n. refusals.LibraryUndefined n library) (if t then Some name else None)
  wanted_is library true name = refl
  wanted_is library false name = refl

  in_library : (t : Bool) (library : ℕ) (wanted : List (List ℕ × Bool))
      → option_map (λ n. refusals.LibraryUndefined n library) (if t then first_some (missing_wanted (is_missing s)) wanted else None)
      ≡ (if t then first_some (missing_want s library) wanted else None)
  in_library true library wanted =
      sym (first_made (λ n. refusals.LibraryUndefined n library) (missing_wanted (is_missing s)) wanted)
      ∙ ap (λ f. first_some f wanted) (fun_ext (λ w. sym (wanted_is library (w.1 && is_missing s w.0) w.0)))
  in_library false library wanted = refl

  library_is : (l : ℕ × Library) → wants.undefined_with (is_missing s) s.libraries l ≡ library_undefined_in s l
  unfolding library_undefined_in
  library_is l = in_library (list_all (is_soname s.libraries) l.1.facts.needed) l.0 l.1.facts.wanted

  pub libraries_are : wants.undefined_by (is_missing_by (names_in s) s.libraries sections) s.options s.libraries ≡ library_undefined s
  unfolding library_undefined
  libraries_are =
      ap (λ missing. wants.undefined_by missing s.options s.libraries) (fun_ext missing_is)
      ∙ ap (λ f. if is_shared s.options.kind || s.options.allow_shlib_undefined then None else first_some f (enumerate_from 0 s.libraries)) (fun_ext library_is)

-- ---- the entry

either_at : (weak : Bool) → is_defined_at (if weak then bounds.Zero else bounds.Import) ≡ false
either_at true = refl
either_at false = refl

defined_by_bound : (b : Binding) (ms : List Mention) → is_defined_at (bound_by b ms) ≡ is_defined b
defined_by_bound (Defined m) ms = refl
defined_by_bound Allotted ms = refl
defined_by_bound Provided ms = refl
defined_by_bound (Taken library fact) ms = refl
defined_by_bound Unbound ms = either_at (are_weak ms)

abbrev defined_at : Name → Bool
defined_at name = is_defined_at name.row.bound

defined_for : (s : Scope) (n : List ℕ) → defined_at (name_for s n) ≡ is_defined (binding_in s n)
defined_for s n = defined_by_bound (binding_for s n) (naming n s.mentions) ∙ ap is_defined (same_binding s n)

defined_absent : (s : Scope) (n : List ℕ) → naming n s.mentions ≡ [] → defined_at (name_for s n) ≡ false
defined_absent s n none = defined_for s n ∙ unowned is_defined refl refl (λ library fact. refl) s n none

pub entry_is : (s : Scope) → entry_missing s.options (names_in s) ≡ no_entry s
unfolding no_entry
entry_is s =
    ap (λ t. if is_shared s.options.kind || t then None else Some (refusals.NoEntry s.options.entry_name))
    (test_found s s.options.entry_name defined_at (defined_absent s s.options.entry_name) ∙ defined_for s s.options.entry_name)
