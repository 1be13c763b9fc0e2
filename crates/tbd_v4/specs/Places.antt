-- What a library has that a text of version 4 has no place for.
use Rattle.std.specs.Prelude.{ℕ, Bool, true, false, not, ◌||◌, ◌==◌, List, length, Option, Some, None, is_some, if◌then◌else◌, codes}
use Rattle.std.specs.List.{list_any}
use Rattle.tbd_core.specs.declared.symbol.Part.{Part}
use Rattle.tbd_core.specs.declared.symbol.Part.TheVariants.{Any, Data, Code}
use Rattle.tbd_core.specs.declared.dylib.Named.{Named}
use Rattle.tbd_core.specs.declared.dylib.DylibParts.{DylibParts}
use Rattle.tbd_core.specs.declared.dylib.Tbd.{Tbd}

-- a target says the least version that it runs on
abbrev pub has_least : DylibParts → Bool
has_least parts = list_any (λ target. is_some target.min) parts.targets

-- a name isn't said for all targets; its positions ascend, so that as many as there are are all
abbrev pub is_partial : ℕ → Named → Bool
is_partial count name = not (length name.targets == count)

abbrev pub has_partial_flag : DylibParts → Bool
has_partial_flag parts = list_any (is_partial (length parts.targets)) parts.flags

abbrev pub has_rpath : DylibParts → Bool
has_rpath parts = not (length parts.rpaths == 0)

abbrev pub is_known : Part → Bool
is_known Any = false
is_known Data = true
is_known Code = true

-- a symbol is in a part that is known
abbrev pub has_segment : DylibParts → Bool
has_segment parts = list_any (λ symbol. is_known symbol.segment) parts.symbols

-- the library has it, or one that is part of it
abbrev pub in_any : (DylibParts → Bool) → Tbd → Bool
in_any has tbd = has tbd.main || list_any has tbd.inlined

-- the first of these that one of the libraries has
unfoldable pub without_place : Tbd → Option (List ℕ)
without_place tbd =
    if in_any has_least tbd then Some (codes "min_deployment")
    else (if in_any has_partial_flag tbd then Some (codes "flags")
    else (if in_any has_rpath tbd then Some (codes "rpaths")
    else (if in_any has_segment tbd then Some (codes "segment")
    else None)))
