-- What objects say of names: each row of a symbol table that other objects may see (gABI, "Symbol Table").
use Rattle.std.specs.Prelude.{ℕ, ◌==◌, Bool, true, false, not, ◌&&◌, ◌||◌, if◌then◌else◌, List, [], ◌∷◌, map, filter, flat_map, filter_map, Option, Some, None}
use Rattle.std.specs.List.{enumerate_from, list_all, list_any}
use Rattle.ifs_interface.specs.Triple.{same_name}
use Rattle.ifs_interface.specs.Extracted.{in_order}
use Rattle.elf_object.specs.declared.symbol.ObjPlace.{ObjPlace}
use Rattle.elf_object.specs.declared.symbol.ObjPlace.TheVariants.{Undefined, Absolute, Common, In}
use Rattle.elf_object.specs.declared.symbol.ObjSymbol.{ObjSymbol}
use Rattle.elf_object.specs.Record.{ObjectRecord}
use Rattle.link_core.specs.declared.constants.TheConstants.{STB_LOCAL, STB_WEAK, STV_DEFAULT, STV_INTERNAL, STV_HIDDEN, STV_PROTECTED}
use Rattle.link_core.specs.declared.resolution.Member.{Member}
use Rattle.link_core.specs.Kept.{is_kept}

-- the position of the object, the row of its symbol table, and what the row says
pub record Mention : Type 0 where
  pub object : ℕ
  pub row : ℕ
  pub symbol : ObjSymbol

-- ---- all mentions

-- a name without bytes is none
abbrev pub is_unnamed : List ℕ → Bool
is_unnamed [] = true
is_unnamed (b ∷ bs) = false

-- a row that its own object alone sees: STB_LOCAL, or without a name
abbrev pub is_local : ObjSymbol → Bool
is_local symbol = symbol.binding == STB_LOCAL || is_unnamed symbol.name

-- a definition in a section that isn't kept counts as undefined
abbrev pub counted_place : (ℕ → Bool) → ObjPlace → ObjPlace
counted_place kept Undefined = Undefined
counted_place kept Absolute = Absolute
counted_place kept Common = Common
counted_place kept (In section) = if kept section then In section else Undefined

-- what a row mentions, if it does
abbrev pub mentioned : (ℕ → Bool) → ℕ → ℕ × ObjSymbol → Option Mention
mentioned kept object row =
    if is_local row.1 then None
    else Some (record { object = object; row = row.0; symbol = record row.1 { place = counted_place kept row.1.place } })

-- all mentions, by object and row
unfoldable pub mentions_of : List Member → List ObjectRecord → List Mention
mentions_of dropped objects =
    flat_map (λ o. filter_map (mentioned (is_kept dropped o.0 o.1) o.0) (enumerate_from 0 o.1.symbols))
    (enumerate_from 0 objects)

-- the mentions of a name, by object and row
abbrev pub naming : List ℕ → List Mention → List Mention
naming name mentions = filter (λ m. same_name m.symbol.name name) mentions

-- the mentioned names in byte order, each once
unfoldable pub mentioned_names : List Mention → List (List ℕ)
mentioned_names mentions = in_order (map (λ m. m.symbol.name) mentions)

-- ---- what one mention says

abbrev pub is_weak : Mention → Bool
is_weak m = m.symbol.binding == STB_WEAK

abbrev pub is_placed : ObjPlace → Bool
is_placed Undefined = false
is_placed Absolute = true
is_placed Common = false
is_placed (In section) = true

-- it defines the name
abbrev pub is_definition : Mention → Bool
is_definition m = is_placed m.symbol.place

abbrev pub is_strong_definition : Mention → Bool
is_strong_definition m = is_definition m && not (is_weak m)

abbrev pub is_common_place : ObjPlace → Bool
is_common_place Undefined = false
is_common_place Absolute = false
is_common_place Common = true
is_common_place (In section) = false

-- it asks for room for the name (SHN_COMMON)
abbrev pub is_common : Mention → Bool
is_common m = is_common_place m.symbol.place

-- it wants the name from elsewhere, and the link fails without it
abbrev pub is_strong_want : Mention → Bool
is_strong_want m = not (is_definition m) && not (is_common m) && not (is_weak m)

-- ---- what the mentions of one name say together

-- every mention is weak
abbrev pub are_weak : List Mention → Bool
are_weak mentions = list_all is_weak mentions

abbrev pub one_has : ℕ → List Mention → Bool
one_has visibility mentions = list_any (λ m. m.symbol.visibility == visibility) mentions

-- the strictest visibility of them, in the order internal, hidden, protected, default
unfoldable pub strictest : List Mention → ℕ
strictest mentions =
    if one_has STV_INTERNAL mentions then STV_INTERNAL
    else (if one_has STV_HIDDEN mentions then STV_HIDDEN
    else (if one_has STV_PROTECTED mentions then STV_PROTECTED
    else STV_DEFAULT))
