-- What the references of a link need, or the first refusal.
use Rattle.std.specs.Prelude.{◌≡◌, ℕ, ◌==◌, ◌+◌, nat_le, Bool, true, false, not, ◌&&◌, ◌||◌, if◌then◌else◌, ℤ, pos, negsuc, List, [], map, filter, filter_map, slice_get, codes, take, Option, Some, None, option_and_then, Result, Ok, Err, ok_or}
use Rattle.std.specs.List.{enumerate_from}
use Rattle.std.specs.Option.{option_map_or}
use Rattle.ifs_bytes.specs.Outcome.{◌>>=◌, check}
use Rattle.ifs_interface.specs.Triple.{same_name}
use Rattle.elf_object.specs.declared.section.ObjSection.{ObjSection}
use Rattle.elf_object.specs.Record.{ObjectRecord}
use Rattle.link_machine.specs.declared.class.RefClass.{RefClass}
use Rattle.link_machine.specs.declared.class.RefClass.TheVariants as classes
use Rattle.link_machine.specs.Rules.{MachineRules, class_of, width_of}
use Rattle.link_core.specs.declared.constants.TheConstants.{EM_AARCH64}
use Rattle.link_core.specs.declared.need.Need.{Need}
use Rattle.link_core.specs.declared.need.Need.TheVariants as needs
use Rattle.link_core.specs.declared.need.Unmet.{Unmet}
use Rattle.link_core.specs.declared.need.Unmet.TheVariants as unmet
use Rattle.link_core.specs.declared.options.LinkOptions.{LinkOptions}
use Rattle.link_core.specs.declared.plan.DynReloc.{DynReloc}
use Rattle.link_core.specs.declared.plan.GotSlot.{GotSlot}
use Rattle.link_core.specs.declared.plan.Plan.{Plan}
use Rattle.link_core.specs.declared.plan.Slot.{Slot}
use Rattle.link_core.specs.declared.plan.Slot.TheVariants as slots
use Rattle.link_core.specs.declared.plan.SymbolId.{SymbolId}
use Rattle.link_core.specs.declared.plan.SymbolId.TheVariants as ids
use Rattle.link_core.specs.declared.refusal.At.{At}
use Rattle.link_core.specs.declared.refusal.LinkRefusal.{LinkRefusal}
use Rattle.link_core.specs.declared.refusal.LinkRefusal.TheVariants as refusals
use Rattle.link_core.specs.declared.resolution.Bound.{Bound}
use Rattle.link_core.specs.declared.resolution.Bound.TheVariants as bounds
use Rattle.link_core.specs.declared.resolution.NameRow.{NameRow}
use Rattle.link_core.specs.declared.resolution.Resolution.{Resolution}
use Rattle.link_core.specs.Lists.{once, each_ok}
use Rattle.link_core.specs.Need.{Setting, need_of, fits_class}
use Rattle.link_core.specs.OutputNames.{is_nobits, is_writable}
use Rattle.link_core.specs.References.{Use, Target, uses_of, at_of, target_of}

-- ---- a reference that can be taken

-- the patched section
abbrev pub section_of : Use → Option ObjSection
section_of u = slice_get u.record_of.sections u.reference.section

abbrev pub is_zero : ℤ → Bool
is_zero (pos n) = n == 0
is_zero (negsuc n) = false

-- a class whose value is that of a slot, with no addend
abbrev pub is_of_slot : RefClass → Bool
is_of_slot classes.Nothing = false
is_of_slot classes.Abs64 = false
is_of_slot classes.Abs32 = false
is_of_slot classes.Pc = false
is_of_slot classes.Call = false
is_of_slot classes.Got = true
is_of_slot classes.Le = false
is_of_slot classes.Ie = true
is_of_slot classes.Gd = false
is_of_slot classes.Ld = false
is_of_slot classes.Dtp = false
is_of_slot classes.Desc = true

-- on AArch64 the formulas of such classes have no addend
abbrev pub takes_addend : MachineRules → RefClass → ℤ → Bool
takes_addend rules class addend = is_zero addend || not (rules.number == EM_AARCH64 && is_of_slot class)

-- the field lies in the section, which has bytes in its file
abbrev pub has_field : MachineRules → Use → Bool
has_field rules u =
    option_map_or (λ s. not (is_nobits s) && nat_le (u.reference.offset + width_of rules u.reference.kind) s.size)
    (section_of u) false

-- the class of a reference that the machine has, at a place where it can be
unfoldable pub supported : MachineRules → Use → Option RefClass
supported rules u =
    option_and_then
    (λ class. if has_field rules u && takes_addend rules class u.reference.addend then Some class else None)
    (class_of rules u.reference.kind)

-- ---- a reference to what was left out

-- tables that say of code what was left out with it
abbrev pub is_cleared_in : List ℕ → Bool
is_cleared_in name =
    same_name name (codes ".eh_frame") || same_name (take 17 name) (codes ".gcc_except_table")

-- ---- what each reference needs

-- where it is, whose need it is, and what is needed
pub record Needed : Type 0 where
  pub at : At
  pub symbol : SymbolId
  pub need : Need

abbrev pub needed : Use → SymbolId → Need → Needed
needed u symbol need = record { at = at_of u; symbol = symbol; need = need }

abbrev pub refusal_of : Use → Target → Unmet → LinkRefusal
refusal_of u t unmet.TextRelocation = refusals.TextRelocation (at_of u)
refusal_of u t unmet.NotPic = refusals.NotPic (at_of u)
refusal_of u t unmet.CopyRelocation = refusals.CopyRelocation t.name (at_of u)
refusal_of u t unmet.CanonicalPlt = refusals.CanonicalPlt t.name (at_of u)

abbrev pub met : Use → Target → Result Need Unmet → Result Needed LinkRefusal
met u t (Ok need) = Ok (needed u t.symbol need)
met u t (Err cause) = Err (refusal_of u t cause)

abbrev pub setting_of : LinkOptions → Use → Target → Setting
setting_of options u t =
    record { kind = options.kind; writable = option_map_or is_writable (section_of u) false; class = t.class }

-- the name of the patched section
abbrev pub section_name : Use → List ℕ
section_name u = option_map_or (λ s. s.name) (section_of u) []

-- a reference to what was left out is refused, but in those tables
abbrev pub left_out : Use → Result Needed LinkRefusal
left_out u =
    if is_cleared_in (section_name u) then Ok (needed u (ids.Local u.object 0) needs.Clear)
    else Err (refusals.Discarded (at_of u))

abbrev pub need_at : LinkOptions → Use → RefClass → Option Target → Result Needed LinkRefusal
need_at options u class None = left_out u
need_at options u class (Some t) = do
  _ ← check (fits_class class t.state t.threaded) (refusals.TlsMismatch (at_of u))
  met u t (need_of class t.state (setting_of options u t))

-- what a reference needs, or its first cause
unfoldable pub needed_by : MachineRules → LinkOptions → List ObjectRecord → Resolution → Use → Result Needed LinkRefusal
needed_by rules options objects r u = do
  class ← ok_or (supported rules u) (refusals.Unsupported (at_of u) u.reference.kind)
  need_at options u class (target_of r objects u)

-- ---- the lists of a plan

abbrev pub same_symbol : SymbolId → SymbolId → Bool
same_symbol (ids.Name i) (ids.Name j) = i == j
same_symbol (ids.Local o i) (ids.Local p j) = o == p && i == j
same_symbol ids.Module ids.Module = true
same_symbol _ _ = false

abbrev pub same_sort : Slot → Slot → Bool
same_sort slots.Got slots.Got = true
same_sort slots.Tp slots.Tp = true
same_sort slots.TlsPair slots.TlsPair = true
same_sort slots.Module slots.Module = true
same_sort slots.Desc slots.Desc = true
same_sort _ _ = false

abbrev pub same_slot : GotSlot → GotSlot → Bool
same_slot a b = same_symbol a.symbol b.symbol && same_sort a.slot b.slot

-- the pair of the made file itself is nobody else's
abbrev pub owner : Slot → SymbolId → SymbolId
owner slots.Got symbol = symbol
owner slots.Tp symbol = symbol
owner slots.TlsPair symbol = symbol
owner slots.Module symbol = ids.Module
owner slots.Desc symbol = symbol

abbrev pub slot_for : SymbolId → Need → Option GotSlot
slot_for symbol needs.Value = None
slot_for symbol (needs.Slot s) = Some (record { symbol = owner s symbol; slot = s })
slot_for symbol needs.Plt = None
slot_for symbol needs.Relative = None
slot_for symbol needs.Symbolic = None
slot_for symbol needs.Clear = None

abbrev pub name_in : SymbolId → Option ℕ
name_in (ids.Name i) = Some i
name_in (ids.Local object row) = None
name_in ids.Module = None

abbrev pub entry_for : SymbolId → Need → Option ℕ
entry_for symbol needs.Value = None
entry_for symbol (needs.Slot s) = None
entry_for symbol needs.Plt = name_in symbol
entry_for symbol needs.Relative = None
entry_for symbol needs.Symbolic = None
entry_for symbol needs.Clear = None

abbrev pub move_for : At → SymbolId → Need → Option DynReloc
move_for at symbol needs.Value = None
move_for at symbol (needs.Slot s) = None
move_for at symbol needs.Plt = None
move_for at symbol needs.Relative = Some (record { at = at; symbol = None; relative = true })
move_for at symbol needs.Symbolic = Some (record { at = at; symbol = name_in symbol; relative = false })
move_for at symbol needs.Clear = None

-- the slots and pairs, each once, in order of the first need
unfoldable pub slots_of : List Needed → List GotSlot
slots_of all = once same_slot (filter_map (λ n. slot_for n.symbol n.need) all)

-- the names with an entry of .plt, each once, in order of the first need
unfoldable pub entries_of : List Needed → List ℕ
entries_of all = once (λ i j. i == j) (filter_map (λ n. entry_for n.symbol n.need) all)

-- the dynamic relocations of fields, in the order of the references
unfoldable pub moves_of : List Needed → List DynReloc
moves_of all = filter_map (λ n. move_for n.at n.symbol n.need) all

abbrev pub is_import : Bound → Bool
is_import (bounds.Object object row) = false
is_import bounds.Common = false
is_import bounds.Provided = false
is_import (bounds.Library library) = true
is_import bounds.Import = true
is_import bounds.Zero = false

-- the positions of some names
abbrev pub positions : (NameRow → Bool) → List NameRow → List ℕ
positions test names = map (λ n. n.0) (filter (λ n. test n.1) (enumerate_from 0 names))

abbrev pub planned : Resolution → List Needed → Plan
planned r all = record {
  got = slots_of all;
  plt = entries_of all;
  moves = moves_of all;
  imports = positions (λ row. is_import row.bound) r.names;
  exports = positions (λ row. row.exported) r.names;
}

-- what the references of kept sections need, or the first cause of the first reference that has any
unfoldable pub plan_of : MachineRules → LinkOptions → List ObjectRecord → Resolution → Result Plan LinkRefusal
plan_of rules options objects r = do
  all ← each_ok (needed_by rules options objects r) (uses_of r.dropped objects)
  Ok (planned r all)

-- the plan of these references
abbrev pub IsPlanned : MachineRules → LinkOptions → List ObjectRecord → Resolution → Plan → Type 0
IsPlanned rules options objects r p = plan_of rules options objects r ≡ Ok p
