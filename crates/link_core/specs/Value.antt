-- What the formulas of relocation types speak of, for a reference: S, A, P, G, L, TP and OFF (psABI x86-64,
-- "Relocation Types"; AArch64 ELF ABI, "Relocation operations").
use Rattle.std.specs.List.{position_or_len}
use Rattle.std.specs.Option.{option_map_or}
use Rattle.std.specs.Prelude.{Bool, List, codes, false, if◌then◌else◌, length, pos, sum_by, take, true, ℕ, ℤ, ◌%◌, ◌&&◌, ◌*◌, ◌+◌, ◌-ℤ◌, ◌-◌, ◌==◌, ◌^◌}
use Rattle.elf_object.specs.Record.{ObjectRecord}
use Rattle.elf_object.specs.declared.symbol.ObjPlace.{ObjPlace}
use Rattle.elf_object.specs.declared.symbol.ObjPlace.TheVariants as places
use Rattle.link_machine.specs.Rules.{class_of, value_of}
use Rattle.link_machine.specs.declared.class.RefClass.{RefClass}
use Rattle.link_machine.specs.declared.class.RefClass.TheVariants as refs
use Rattle.link_machine.specs.declared.class.Values.{Values}
use Rattle.link_core.specs.declared.constants.TheConstants.{EM_AARCH64, EM_X86_64}
use Rattle.link_core.specs.declared.layout.Layout.{Layout}
use Rattle.link_core.specs.declared.need.Need.{Need}
use Rattle.link_core.specs.declared.need.Need.TheVariants as needs
use Rattle.link_core.specs.declared.need.RefState.{RefState}
use Rattle.link_core.specs.declared.need.RefState.TheVariants as states
use Rattle.link_core.specs.declared.plan.GotSlot.{GotSlot}
use Rattle.link_core.specs.declared.plan.Slot.{Slot}
use Rattle.link_core.specs.declared.plan.SymbolId.{SymbolId}
use Rattle.link_core.specs.declared.plan.SymbolId.TheVariants as ids
use Rattle.link_core.specs.declared.resolution.Bound.{Bound}
use Rattle.link_core.specs.declared.resolution.Bound.TheVariants as bounds
use Rattle.link_core.specs.Aligned.{aligned}
use Rattle.link_core.specs.Places.{common_address, section_address, table_address}
use Rattle.link_core.specs.Plan.{Needed, owner, same_slot}
use Rattle.link_core.specs.Planned.{Planned, name_at, need_in, row_at, symbol_state}
use Rattle.link_core.specs.ProvidedValues.{provided_value}
use Rattle.link_core.specs.References.{Use, symbol_of}
use Rattle.link_core.specs.Slots.{slots_by}

-- ---- S, modulo 2^64

abbrev pub wrapped : ℕ → ℕ
wrapped n = n % 2 ^ 64

-- of a row of an object's symbol table
abbrev pub place_value : Layout → ℕ → ObjPlace → ℕ → ℕ
place_value l object places.Undefined value = 0
place_value l object places.Common value = 0
place_value l object places.Absolute value = value
place_value l object (places.In section) value = wrapped (section_address l object section + value)

unfoldable pub row_value : List ObjectRecord → Layout → ℕ → ℕ → ℕ
row_value objects l object row =
    option_map_or (λ s. place_value l object s.place s.value) (symbol_of objects object row) 0

-- of a name, by what it is bound to; what is found when the file is loaded counts as 0 here
abbrev pub bound_value : Planned → Layout → ℕ → Bound → ℕ
bound_value j l n (bounds.Object object row) = row_value j.objects l object row
bound_value j l n bounds.Common = common_address l n
bound_value j l n bounds.Provided = wrapped (provided_value j l (name_at j n))
bound_value j l n (bounds.Library library) = 0
bound_value j l n bounds.Import = 0
bound_value j l n bounds.Zero = 0

unfoldable pub name_value : Planned → Layout → ℕ → ℕ
name_value j l n = option_map_or (λ row. bound_value j l n row.bound) (row_at j n) 0

unfoldable pub symbol_value : Planned → Layout → SymbolId → ℕ
symbol_value j l (ids.Name n) = name_value j l n
symbol_value j l (ids.Local object row) = if row == 0 then 0 else row_value j.objects l object row
symbol_value j l ids.Module = 0

-- ---- OFF and TP

-- how far an address is from the start of the thread-local segment
unfoldable pub block_offset : Layout → ℕ → ℕ
block_offset l s = wrapped (s + (2 ^ 64 - l.tls_start))

-- the thread pointer is at the end of the block, rounded up (x86-64), or 16 bytes before it, rounded up
-- (AArch64)
unfoldable pub pointer_offset : Planned → Layout → ℕ → ℤ
pointer_offset j l off =
    if j.rules.number == EM_X86_64 then pos off -ℤ pos (aligned l.tls_align l.tls_size)
    else pos (off + aligned l.tls_align 16)

-- a number, and a name that stands for 0, are in no block: both are 0 there
abbrev pub offset_in : RefState → ℕ → ℕ
offset_in states.Own off = off
offset_in states.Imp off = off
offset_in states.Abs off = 0
offset_in states.Zero off = 0

abbrev pub pointer_in : RefState → ℤ → ℤ
pointer_in states.Own tp = tp
pointer_in states.Imp tp = tp
pointer_in states.Abs tp = pos 0
pointer_in states.Zero tp = pos 0

unfoldable pub symbol_offset : Planned → Layout → SymbolId → ℕ
symbol_offset j l id = offset_in (symbol_state j id) (block_offset l (symbol_value j l id))

unfoldable pub symbol_pointer : Planned → Layout → SymbolId → ℤ
symbol_pointer j l id =
    pointer_in (symbol_state j id) (pointer_offset j l (block_offset l (symbol_value j l id)))

-- ---- G: slots stand one after the other in .got, 8 bytes a word

abbrev pub words_of : Planned → GotSlot → ℕ
words_of j g = length (slots_by j g).words

unfoldable pub slot_address : Planned → Layout → ℕ → ℕ
slot_address j l i = table_address j l (codes ".got") + 8 * sum_by (words_of j) (take i j.plan.got)

unfoldable pub symbol_slot : Planned → Layout → SymbolId → Slot → ℕ
symbol_slot j l id slot =
    slot_address j l (position_or_len (same_slot (record { symbol = owner slot id; slot = slot })) j.plan.got)

abbrev pub needed_slot : Planned → Layout → SymbolId → Need → ℕ
needed_slot j l id (needs.Slot slot) = symbol_slot j l id slot
needed_slot j l id needs.Value = 0
needed_slot j l id needs.Plt = 0
needed_slot j l id needs.Relative = 0
needed_slot j l id needs.Symbolic = 0
needed_slot j l id needs.Clear = 0

-- ---- L: entries stand one after the other in .plt behind its header

unfoldable pub plt_entry_address : Planned → Layout → ℕ → ℕ
plt_entry_address j l i = table_address j l (codes ".plt") + (j.rules.header_len + 16 * i)

abbrev pub entry_of_symbol : Planned → Layout → SymbolId → ℕ
entry_of_symbol j l (ids.Name n) = plt_entry_address j l (position_or_len (λ m. m == n) j.plan.plt)
entry_of_symbol j l (ids.Local object row) = 0
entry_of_symbol j l ids.Module = 0

-- the symbol itself, where the call needs no entry
abbrev pub call_target : Planned → Layout → SymbolId → Need → ℕ
call_target j l id needs.Plt = entry_of_symbol j l id
call_target j l id needs.Value = symbol_value j l id
call_target j l id (needs.Slot slot) = symbol_value j l id
call_target j l id needs.Relative = symbol_value j l id
call_target j l id needs.Symbolic = symbol_value j l id
call_target j l id needs.Clear = symbol_value j l id

-- ---- the value of a reference

-- the address of its field
abbrev pub field_address : Layout → Use → ℕ
field_address l u = section_address l u.object u.reference.section + u.reference.offset

abbrev pub values_by : Planned → Layout → Use → SymbolId → Need → Values
values_by j l u id need = record {
  s = symbol_value j l id;
  a = u.reference.addend;
  p = field_address l u;
  g = needed_slot j l id need;
  l = call_target j l id need;
  tp = symbol_pointer j l id;
  off = symbol_offset j l id;
}

abbrev pub is_call : RefClass → Bool
is_call refs.Nothing = false
is_call refs.Abs64 = false
is_call refs.Abs32 = false
is_call refs.Pc = false
is_call refs.Call = true
is_call refs.Got = false
is_call refs.Le = false
is_call refs.Ie = false
is_call refs.Gd = false
is_call refs.Ld = false
is_call refs.Dtp = false
is_call refs.Desc = false

abbrev pub is_nothing : RefState → Bool
is_nothing states.Own = false
is_nothing states.Abs = false
is_nothing states.Zero = true
is_nothing states.Imp = false

-- on AArch64 a call of a name that stands for 0 goes to the next instruction
unfoldable pub is_empty_call : Planned → Use → SymbolId → Bool
is_empty_call j u id =
    j.rules.number == EM_AARCH64
    && option_map_or is_call (class_of j.rules u.reference.kind) false
    && is_nothing (symbol_state j id)

abbrev pub value_by_need : Planned → Layout → Use → Needed → ℤ
value_by_need j l u n =
    if is_empty_call j u n.symbol then pos 4
    else value_of j.rules u.reference.kind (values_by j l u n.symbol n.need)

unfoldable pub reference_value : Planned → Layout → Use → ℤ
reference_value j l u = value_by_need j l u (need_in j u)
