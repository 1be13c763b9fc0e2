-- How many words a slot has, and how many dynamic relocations fill them.
use Rattle.std.specs.Prelude.{List, sum_by, ℕ}
use Rattle.elf_object.specs.Record.{ObjectRecord}
use Rattle.link_core.specs.declared.need.RefState.{RefState}
use Rattle.link_core.specs.declared.need.RefState.TheVariants as states
use Rattle.link_core.specs.declared.options.OutKind.{OutKind}
use Rattle.link_core.specs.declared.options.OutKind.TheVariants as kinds
use Rattle.link_core.specs.declared.plan.GotSlot.{GotSlot}
use Rattle.link_core.specs.declared.plan.Slot.{Slot}
use Rattle.link_core.specs.declared.plan.Slot.TheVariants as slots
use Rattle.link_core.specs.declared.resolution.NameRow.{NameRow}
use Rattle.link_tables.specs.States.{state_of}

abbrev pub slot_words : Slot → ℕ
slot_words slots.Got = 1
slot_words slots.Tp = 1
slot_words slots.TlsPair = 2
slot_words slots.Module = 2
slot_words slots.Desc = 2

-- what moves when the file is loaded, and what is known only then
abbrev pub if_moved : OutKind → ℕ
if_moved kinds.Exec = 0
if_moved kinds.Pie = 1
if_moved kinds.Shared = 1

abbrev pub if_library : OutKind → ℕ
if_library kinds.Exec = 0
if_library kinds.Pie = 0
if_library kinds.Shared = 1

-- so many for the made file's own symbol, so many for one of another file
abbrev pub by_state : RefState → ℕ → ℕ → ℕ
by_state states.Own own other = own
by_state states.Abs own other = 0
by_state states.Zero own other = 0
by_state states.Imp own other = other

abbrev pub slot_fills : OutKind → RefState → Slot → ℕ
slot_fills kind state slots.Got = by_state state (if_moved kind) 1
slot_fills kind state slots.Tp = by_state state (if_library kind) 1
slot_fills kind state slots.TlsPair = by_state state (if_library kind) 2
slot_fills kind state slots.Module = if_library kind
slot_fills kind state slots.Desc = by_state state 1 1

-- those of all slots together
abbrev pub words_in : List GotSlot → ℕ
words_in got = sum_by (λ g. slot_words g.slot) got

abbrev pub fills_in : List ObjectRecord → List NameRow → OutKind → List GotSlot → ℕ
fills_in objects names kind got =
    sum_by (λ g. slot_fills kind (state_of objects names g.symbol) g.slot) got
