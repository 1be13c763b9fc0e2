-- The table of the symbols in an object's rows.
use Rattle.std.proofs.Common.{◌≡◌, ℕ, ◌<◌, ◌==◌, Bool, true, false, List, length, Option, Some, None, refl, sym, ap, ◌∙◌, inl, inr, arith, if◌then◌else◌}
use Rattle.std.specs.Prelude.{slice_get, option_map}
use Rattle.std.specs.Option.{option_map_or}
use Rattle.std.proofs.lemmas.Bool.{cases_lt}
use Rattle.std.proofs.lemmas.Option.{slice_get_past}
use Rattle.elf_object.specs.declared.symbol.ObjSymbol.{ObjSymbol}
use Rattle.elf_object.specs.Record.{ObjectRecord}
use Rattle.link_core.specs.References.{Target, no_symbol}
use Rattle.link_targets.specs.declared.target.Target.{Target as Code}
use Rattle.link_targets.specs.Targets.{target_at, target_in, target_seen}
use Rattle.link_uses.specs.Passes.{Given, AreTargets, looked_up}

module _ (g : Given) (object : ℕ) (o : ObjectRecord) where
  either_way : (test : Bool) (t : Option Target) → (if test then t else t) ≡ t
  either_way true t = refl
  either_way false t = refl

  no_row : (row : ℕ) → slice_get o.symbols row ≡ None
      → target_at g.names g.objects object o row ≡ Some (no_symbol object)
  unfolding target_at
  no_row row e =
      let none : Option Target = Some (no_symbol object) in
      ap (λ (s : Option ObjSymbol). if row == 0 then none else option_map_or
      (target_in g.names g.objects object o row) s none) e ∙ either_way (row == 0) none

  past_table : (table : List (Option Code)) (row : ℕ) → slice_get table row ≡ None
      → looked_up g.names object table row ≡ Some (no_symbol object)
  past_table table row e =
      ap (λ (t : Option (Option Code)). option_map_or (option_map (target_seen g.names)) t
      (Some (no_symbol object))) e

  -- a table with an entry for each row is the table of all rows
  pub whole_table : (table : List (Option Code)) (count : ℕ) → length table ≡ count → count ≡ length o.symbols
      → ((k : ℕ) → k < count → looked_up g.names object table k ≡ target_at g.names g.objects object o k)
      → AreTargets g object o table
  whole_table table count many all rows row =
      elim (cases_lt row count) as
      (λ _. looked_up g.names object table row ≡ target_at g.names g.objects object o row) [
        | inl within ↦ rows row within
        | inr past ↦ past_table table row (slice_get_past table row (omega (arith, many)))
            ∙ sym (no_row row (slice_get_past o.symbols row (omega (arith, all))))
      ]
