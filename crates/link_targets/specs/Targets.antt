-- The symbol of a reference, as code has it.
use Rattle.std.specs.Prelude.{◌≡◌, ℕ, ◌==◌, Bool, true, if◌then◌else◌, List, [], map, slice_get, Option, Some}
use Rattle.std.specs.Option.{option_map_or}
use Rattle.ifs_interface.specs.Interface.{ascends}
use Rattle.elf_object.specs.declared.symbol.ObjPlace.{ObjPlace}
use Rattle.elf_object.specs.declared.symbol.ObjPlace.TheVariants.{Undefined, Absolute, Common, In}
use Rattle.elf_object.specs.declared.symbol.ObjSymbol.{ObjSymbol}
use Rattle.elf_object.specs.Record.{ObjectRecord}
use Rattle.link_core.specs.declared.plan.SymbolId.{SymbolId}
use Rattle.link_core.specs.declared.plan.SymbolId.TheVariants as ids
use Rattle.link_core.specs.declared.resolution.Member.{Member}
use Rattle.link_core.specs.declared.resolution.Resolution.{Resolution}
use Rattle.link_core.specs.Kept.{is_kept}
use Rattle.link_core.specs.Mentions.{is_local}
use Rattle.link_core.specs.Need.{Setting as SettingMeant}
use Rattle.link_core.specs.References.{Target as TargetMeant, no_symbol, local_at, target_named}
use Rattle.link_targets.specs.declared.need.Setting.{Setting}
use Rattle.link_targets.specs.declared.target.Target.{Target}

-- ---- what code has

abbrev pub setting_seen : Setting → SettingMeant
setting_seen s = record { kind = s.kind; writable = s.writable; class = s.class }

-- the name of a symbol; a symbol that its object alone sees has none
abbrev pub name_of : Resolution → SymbolId → List ℕ
name_of r (ids.Name i) = option_map_or (λ row. row.name) (slice_get r.names i) []
name_of r (ids.Local object row) = []
name_of r ids.Module = []

abbrev pub target_seen : Resolution → Target → TargetMeant
target_seen r t = record {
  symbol = t.symbol;
  state = t.state;
  threaded = t.threaded;
  name = name_of r t.symbol;
  class = t.class;
}

-- ---- the symbol in a row

-- the names of a resolution stand in byte order, each once
abbrev pub NamesAscend : Resolution → Type 0
NamesAscend r = ascends (map (λ row. row.name) r.names) ≡ true

-- the section of a place is kept, where it has one
abbrev pub is_place_kept : List Member → ℕ → ObjectRecord → ObjPlace → Bool
is_place_kept dropped object o Undefined = true
is_place_kept dropped object o Absolute = true
is_place_kept dropped object o Common = true
is_place_kept dropped object o (In section) = is_kept dropped object o section

abbrev pub is_row_kept : List Member → ℕ → ObjectRecord → ℕ → Bool
is_row_kept dropped object o row =
    option_map_or (λ s. is_place_kept dropped object o s.place) (slice_get o.symbols row) true

abbrev pub target_in : Resolution → List ObjectRecord → ℕ → ObjectRecord → ℕ → ObjSymbol → Option TargetMeant
target_in r objects object o row symbol =
    if is_local symbol then local_at r.dropped object o row symbol.place else target_named r objects symbol.name

-- the symbol in row `row` of the object `o` at position `object`; there is none where it lay in a section that isn't kept
unfoldable pub target_at : Resolution → List ObjectRecord → ℕ → ObjectRecord → ℕ → Option TargetMeant
target_at r objects object o row =
    if row == 0 then Some (no_symbol object)
    else option_map_or (target_in r objects object o row) (slice_get o.symbols row) (Some (no_symbol object))
