-- Flags of kept sections tell of the references that a link has.
use Rattle.std.proofs.Common.{◌≡◌, ℕ, ◌-◌, ◌<◌, Bool, true, false, not, cond, ◌&&◌, ◌||◌, List, [], ◌∷◌, length, map, filter, get_or, Option, None, refl, sym, ap, ◌∙◌, inl, inr, arith, zero-add}
use Rattle.std.proofs.Math.Nat.{sub-zero}
use Rattle.std.specs.List.{enumerate_from, flat_map, list_any}
use Rattle.std.specs.Option.{option_map_or}
use Rattle.std.specs.Prelude.{slice_get, slice_index_or, All}
use Rattle.std.proofs.lemmas.Bool.{cases_lt}
use Rattle.std.proofs.lemmas.List.{get_or-map, get_or_past}
use Rattle.std.proofs.lemmas.List.Elements.{All-tail}
use Rattle.std.proofs.lemmas.List.Folds.{list_any-append}
use Rattle.std.proofs.lemmas.List.FromFn.{length-enumerate_from, get_or-enumerate_from, length-map-range_with_len, get_or-map-range_with_len}
use Rattle.std.proofs.lemmas.Option.{slice_get_past}
use Rattle.elf_object.specs.declared.reference.Reference.{Reference}
use Rattle.elf_object.specs.declared.section.ObjSection.{ObjSection}
use Rattle.elf_object.specs.Record.{ObjectRecord}
use Rattle.elf_object.specs.Sections.{is_loadable}
use Rattle.link_machine.specs.Rules.{MachineRules}
use Rattle.link_core.specs.declared.resolution.Member.{Member}
use Rattle.link_core.specs.Kept.{is_among, is_kept}
use Rattle.link_core.specs.References.{Use, uses_in, uses_of}
use Rattle.link_pieces.specs.Flags.{flags_of, kept_flags}
use Rattle.link_threads.specs.Pointer.{is_in_any, is_in_kept, is_in_object, is_initial_exec, is_of_kind}

no_section : (dropped : List Member) (object : ℕ) (o : ObjectRecord) (section : ℕ) → slice_get o.sections section ≡ None → is_kept dropped object o section ≡ false
unfolding is_kept
no_section dropped object o section e =
    ap (λ (s : Option ObjSection). option_map_or is_loadable s false && not (is_among dropped object section)) e

flag_is : (dropped : List Member) (object : ℕ) (o : ObjectRecord) (section : ℕ) → slice_index_or (flags_of dropped object o) section false ≡ is_kept dropped object o section
flag_is dropped object o section =
    let n = length o.sections - 0 in
    let f = is_kept dropped object o in
    let many : n ≡ length o.sections = sub-zero (length o.sections) in
    let long = length-map-range_with_len f 0 n in
    elim (cases_lt section n) as (λ _. slice_index_or (flags_of dropped object o) section false ≡ is_kept dropped object o section) [
      | inl within ↦ get_or-map-range_with_len f 0 n section section false within (zero-add section)
      | inr past ↦
          get_or_past (flags_of dropped object o) section false (omega (arith, past, long))
          ∙ sym (no_section dropped object o section (slice_get_past o.sections section (omega (arith, past, many))))
    ]

module _ (rules : MachineRules) (dropped : List Member) where
  abbrev use_in : ℕ → ObjectRecord → Reference → Use
  use_in object o r = record { object = object; record_of = o; reference = r }

  in_kept : (object : ℕ) (o : ObjectRecord) (flags : List Bool) → flags ≡ flags_of dropped object o → (rs : List Reference)
      → list_any (is_in_kept rules flags) rs ≡ list_any (is_initial_exec rules) (map (use_in object o) (filter (λ r. is_kept dropped object o r.section) rs))
  in_kept object o flags are [] = refl
  in_kept object o flags are (r ∷ rs) =
      ap (λ b. (b && is_of_kind rules r.kind) || list_any (is_in_kept rules flags) rs)
      (ap (λ (fs : List Bool). slice_index_or fs r.section false) are ∙ flag_is dropped object o r.section)
      ∙ ap (λ b. (is_kept dropped object o r.section && is_of_kind rules r.kind) || b) (in_kept object o flags are rs)
      ∙ by (is_kept dropped object o r.section)
    where
      kept : List Reference
      kept = filter (λ q. is_kept dropped object o q.section) rs

      by : (t : Bool) → ((t && is_of_kind rules r.kind) || list_any (is_initial_exec rules) (map (use_in object o) (filter (λ q. is_kept dropped object o q.section) rs)))
          ≡ list_any (is_initial_exec rules) (map (use_in object o) (cond t (r ∷ filter (λ q. is_kept dropped object o q.section) rs) (filter (λ q. is_kept dropped object o q.section) rs)))
      by true = refl
      by false = refl

  in_objects : (all : List (List Bool)) (es : List (ℕ × ObjectRecord)) → All (λ e. slice_index_or all e.0 [] ≡ flags_of dropped e.0 e.1) es
      → list_any (is_in_object rules all) es ≡ list_any (is_initial_exec rules) (flat_map (uses_in dropped) es)
  in_objects all [] are = refl
  in_objects all (e ∷ es) are =
      ap (λ b. b || list_any (is_in_object rules all) es) (in_kept e.0 e.1 (slice_index_or all e.0 []) (are 0 e (omega arith)) e.1.references)
      ∙ ap (λ b. list_any (is_initial_exec rules) (uses_in dropped e) || b) (in_objects all es (All-tail (λ (x : ℕ × ObjectRecord). slice_index_or all x.0 [] ≡ flags_of dropped x.0 x.1) e es are))
      ∙ sym (list_any-append (is_initial_exec rules) (uses_in dropped e) (flat_map (uses_in dropped) es))

  numbered : (objects : List ObjectRecord) → All (λ e. slice_index_or (kept_flags dropped objects) e.0 [] ≡ flags_of dropped e.0 e.1) (enumerate_from 0 objects)
  numbered objects k d within =
      let es = enumerate_from 0 objects in
      let lt : k < length objects = omega (arith, within, length-enumerate_from 0 objects) in
      let at : (get_or es k d).0 ≡ k = ap (λ (e : ℕ × ObjectRecord). e.0) (get_or-enumerate_from 0 objects k d lt) ∙ zero-add k in
      ap (λ i. slice_index_or (kept_flags dropped objects) i []) at
      ∙ get_or-map (λ (o : ℕ × ObjectRecord). flags_of dropped o.0 o.1) es k d [] within

  pub any_is : (objects : List ObjectRecord) (all : List (List Bool)) → all ≡ kept_flags dropped objects → is_in_any rules all objects ≡ list_any (is_initial_exec rules) (uses_of dropped objects)
  unfolding uses_of
  any_is objects all are =
      ap (λ fs. is_in_any rules fs objects) are ∙ in_objects (kept_flags dropped objects) (enumerate_from 0 objects) (numbered objects)
