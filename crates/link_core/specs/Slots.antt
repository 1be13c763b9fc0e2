-- What the slots of .got hold, and the dynamic relocations that fill them: GLOB_DAT, RELATIVE, TPOFF64,
-- DTPMOD64, DTPOFF64 and TLSDESC, by their types on the machine (psABI x86-64, "Relocation Types",
-- "Thread-Local Storage"; AArch64 ELF ABI, "Dynamic relocations"; E. Drepper, "ELF Handling For Thread-Local
-- Storage").
use Rattle.std.specs.Prelude.{Bool, List, [], false, length, replicate, sum_by, true, ℕ, ◌∷◌}
use Rattle.link_machine.specs.Rules.{DynamicTypes}
use Rattle.link_core.specs.declared.need.RefState.{RefState}
use Rattle.link_core.specs.declared.need.RefState.TheVariants as states
use Rattle.link_core.specs.declared.options.OutKind.{OutKind}
use Rattle.link_core.specs.declared.options.OutKind.TheVariants as kinds
use Rattle.link_core.specs.declared.plan.GotSlot.{GotSlot}
use Rattle.link_core.specs.declared.plan.Slot.{Slot}
use Rattle.link_core.specs.declared.plan.Slot.TheVariants as slots
use Rattle.link_core.specs.Planned.{Planned, symbol_state}

-- a number that a slot holds or that is added to what a loader finds: 0; 1, the module number of a program;
-- the address of the symbol; its distance from the thread pointer; its offset in the block of thread-local
-- storage
pub data Word : Type 0 where
  Nought One Address FromPointer InBlock : Word

-- a dynamic relocation that fills a slot: its type, which word of the pair it stands on, whether it names
-- the symbol, and its addend
pub record Fill : Type 0 where
  pub kind : ℕ
  pub word : ℕ
  pub named : Bool
  pub addend : Word

-- the words of a slot or a pair as the file has them, and what fills them
pub record Slots : Type 0 where
  pub words : List Word
  pub fills : List Fill

abbrev pub holding : List Word → Slots
holding words = record { words = words; fills = [] }

-- words that are 0 in the file
abbrev pub filled : ℕ → List Fill → Slots
filled words fills = record { words = replicate words Nought; fills = fills }

abbrev pub named_fill : ℕ → ℕ → Fill
named_fill kind word = record { kind = kind; word = word; named = true; addend = Nought }

abbrev pub plain_fill : ℕ → Word → Fill
plain_fill kind addend = record { kind = kind; word = 0; named = false; addend = addend }

-- the address of a symbol, which moves with the file but in a program at fixed addresses
unfoldable pub got_slot : DynamicTypes → OutKind → RefState → Slots
got_slot types kinds.Exec states.Own = holding (Address ∷ [])
got_slot types kinds.Pie states.Own = filled 1 (plain_fill types.relative Address ∷ [])
got_slot types kinds.Shared states.Own = filled 1 (plain_fill types.relative Address ∷ [])
got_slot types kind states.Abs = holding (Address ∷ [])
got_slot types kind states.Zero = holding (Address ∷ [])
got_slot types kind states.Imp = filled 1 (named_fill types.glob_dat 0 ∷ [])

-- the distance from the thread pointer, which is known in a program
unfoldable pub tp_slot : DynamicTypes → OutKind → RefState → Slots
tp_slot types kinds.Exec states.Own = holding (FromPointer ∷ [])
tp_slot types kinds.Pie states.Own = holding (FromPointer ∷ [])
tp_slot types kinds.Shared states.Own = filled 1 (plain_fill types.tpoff64 InBlock ∷ [])
tp_slot types kind states.Abs = holding (Nought ∷ [])
tp_slot types kind states.Zero = holding (Nought ∷ [])
tp_slot types kind states.Imp = filled 1 (named_fill types.tpoff64 0 ∷ [])

-- the module and the offset in its block. A program is module 1
unfoldable pub tls_pair : DynamicTypes → OutKind → RefState → Slots
tls_pair types kinds.Exec states.Own = holding (One ∷ InBlock ∷ [])
tls_pair types kinds.Pie states.Own = holding (One ∷ InBlock ∷ [])
tls_pair types kinds.Shared states.Own =
    record { words = Nought ∷ InBlock ∷ []; fills = plain_fill types.dtpmod64 Nought ∷ [] }
tls_pair types kind states.Abs = holding (Nought ∷ Nought ∷ [])
tls_pair types kind states.Zero = holding (Nought ∷ Nought ∷ [])
tls_pair types kind states.Imp = filled 2 (named_fill types.dtpmod64 0 ∷ named_fill types.dtpoff64 1 ∷ [])

-- the own module and the offset 0
unfoldable pub module_pair : DynamicTypes → OutKind → Slots
module_pair types kinds.Exec = holding (One ∷ Nought ∷ [])
module_pair types kinds.Pie = holding (One ∷ Nought ∷ [])
module_pair types kinds.Shared = filled 2 (plain_fill types.dtpmod64 Nought ∷ [])

-- a descriptor
unfoldable pub desc_pair : DynamicTypes → RefState → Slots
desc_pair types states.Own = filled 2 (plain_fill types.tlsdesc InBlock ∷ [])
desc_pair types states.Abs = holding (Nought ∷ Nought ∷ [])
desc_pair types states.Zero = holding (Nought ∷ Nought ∷ [])
desc_pair types states.Imp = filled 2 (named_fill types.tlsdesc 0 ∷ [])

-- a slot or a pair for a symbol in a state
unfoldable pub slots_for : DynamicTypes → OutKind → RefState → Slot → Slots
slots_for types kind state slots.Got = got_slot types kind state
slots_for types kind state slots.Tp = tp_slot types kind state
slots_for types kind state slots.TlsPair = tls_pair types kind state
slots_for types kind state slots.Module = module_pair types kind
slots_for types kind state slots.Desc = desc_pair types state

-- those of .got
unfoldable pub slots_by : Planned → GotSlot → Slots
slots_by j g = slots_for j.rules.dynamic j.options.kind (symbol_state j g.symbol) g.slot

-- how many words .got has, and how many dynamic relocations fill them
unfoldable pub word_count : Planned → ℕ
word_count j = sum_by (λ g. length (slots_by j g).words) j.plan.got

unfoldable pub fill_count : Planned → ℕ
fill_count j = sum_by (λ g. length (slots_by j g).fills) j.plan.got
