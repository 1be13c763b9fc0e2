-- How many words and dynamic relocations a slot has, whatever types the machine gives these.
use Rattle.std.proofs.Common.{◌≡◌, ℕ, refl, length, ap, ◌∙◌}
use Rattle.link_machine.specs.Rules.{DynamicTypes}
use Rattle.link_core.specs.declared.need.RefState.{RefState}
use Rattle.link_core.specs.declared.need.RefState.TheVariants as states
use Rattle.link_core.specs.declared.options.OutKind.{OutKind}
use Rattle.link_core.specs.declared.options.OutKind.TheVariants as kinds
use Rattle.link_core.specs.declared.plan.GotSlot.{GotSlot}
use Rattle.link_core.specs.declared.plan.Slot.{Slot}
use Rattle.link_core.specs.declared.plan.Slot.TheVariants as slots
use Rattle.link_core.specs.declared.plan.SymbolId.{SymbolId}
use Rattle.link_core.specs.declared.plan.SymbolId.TheVariants as ids
use Rattle.link_core.specs.Planned.{Planned, symbol_state}
use Rattle.link_core.specs.Slots.{Slots, desc_pair, fill_count, got_slot, module_pair, slots_by, slots_for, tls_pair, tp_slot, word_count}
use Rattle.std.specs.Prelude.{sum_by}
use Rattle.link_tables.specs.Fills.{by_state, fills_in, if_library, if_moved, slot_fills, slot_words, words_in}
use Rattle.link_tables.specs.States.{state_of}

-- so many words, and so many relocations
pub record Has (s : Slots) (words fills : ℕ) : Type 0 where
  pub words_are : length s.words ≡ words
  pub fills_are : length s.fills ≡ fills

got_has : (types : DynamicTypes) (kind : OutKind) (state : RefState) → Has (got_slot types kind state) 1 (by_state state (if_moved kind) 1)
unfolding got_slot
got_has types kinds.Exec states.Own = record { words_are = refl; fills_are = refl }
got_has types kinds.Exec states.Abs = record { words_are = refl; fills_are = refl }
got_has types kinds.Exec states.Zero = record { words_are = refl; fills_are = refl }
got_has types kinds.Exec states.Imp = record { words_are = refl; fills_are = refl }
got_has types kinds.Pie states.Own = record { words_are = refl; fills_are = refl }
got_has types kinds.Pie states.Abs = record { words_are = refl; fills_are = refl }
got_has types kinds.Pie states.Zero = record { words_are = refl; fills_are = refl }
got_has types kinds.Pie states.Imp = record { words_are = refl; fills_are = refl }
got_has types kinds.Shared states.Own = record { words_are = refl; fills_are = refl }
got_has types kinds.Shared states.Abs = record { words_are = refl; fills_are = refl }
got_has types kinds.Shared states.Zero = record { words_are = refl; fills_are = refl }
got_has types kinds.Shared states.Imp = record { words_are = refl; fills_are = refl }

tp_has : (types : DynamicTypes) (kind : OutKind) (state : RefState) → Has (tp_slot types kind state) 1 (by_state state (if_library kind) 1)
unfolding tp_slot
tp_has types kinds.Exec states.Own = record { words_are = refl; fills_are = refl }
tp_has types kinds.Exec states.Abs = record { words_are = refl; fills_are = refl }
tp_has types kinds.Exec states.Zero = record { words_are = refl; fills_are = refl }
tp_has types kinds.Exec states.Imp = record { words_are = refl; fills_are = refl }
tp_has types kinds.Pie states.Own = record { words_are = refl; fills_are = refl }
tp_has types kinds.Pie states.Abs = record { words_are = refl; fills_are = refl }
tp_has types kinds.Pie states.Zero = record { words_are = refl; fills_are = refl }
tp_has types kinds.Pie states.Imp = record { words_are = refl; fills_are = refl }
tp_has types kinds.Shared states.Own = record { words_are = refl; fills_are = refl }
tp_has types kinds.Shared states.Abs = record { words_are = refl; fills_are = refl }
tp_has types kinds.Shared states.Zero = record { words_are = refl; fills_are = refl }
tp_has types kinds.Shared states.Imp = record { words_are = refl; fills_are = refl }

pair_has : (types : DynamicTypes) (kind : OutKind) (state : RefState) → Has (tls_pair types kind state) 2 (by_state state (if_library kind) 2)
unfolding tls_pair
pair_has types kinds.Exec states.Own = record { words_are = refl; fills_are = refl }
pair_has types kinds.Exec states.Abs = record { words_are = refl; fills_are = refl }
pair_has types kinds.Exec states.Zero = record { words_are = refl; fills_are = refl }
pair_has types kinds.Exec states.Imp = record { words_are = refl; fills_are = refl }
pair_has types kinds.Pie states.Own = record { words_are = refl; fills_are = refl }
pair_has types kinds.Pie states.Abs = record { words_are = refl; fills_are = refl }
pair_has types kinds.Pie states.Zero = record { words_are = refl; fills_are = refl }
pair_has types kinds.Pie states.Imp = record { words_are = refl; fills_are = refl }
pair_has types kinds.Shared states.Own = record { words_are = refl; fills_are = refl }
pair_has types kinds.Shared states.Abs = record { words_are = refl; fills_are = refl }
pair_has types kinds.Shared states.Zero = record { words_are = refl; fills_are = refl }
pair_has types kinds.Shared states.Imp = record { words_are = refl; fills_are = refl }

module_has : (types : DynamicTypes) (kind : OutKind) → Has (module_pair types kind) 2 (if_library kind)
unfolding module_pair
module_has types kinds.Exec = record { words_are = refl; fills_are = refl }
module_has types kinds.Pie = record { words_are = refl; fills_are = refl }
module_has types kinds.Shared = record { words_are = refl; fills_are = refl }

desc_has : (types : DynamicTypes) (state : RefState) → Has (desc_pair types state) 2 (by_state state 1 1)
unfolding desc_pair
desc_has types states.Own = record { words_are = refl; fills_are = refl }
desc_has types states.Abs = record { words_are = refl; fills_are = refl }
desc_has types states.Zero = record { words_are = refl; fills_are = refl }
desc_has types states.Imp = record { words_are = refl; fills_are = refl }

pub slots_have : (types : DynamicTypes) (kind : OutKind) (state : RefState) (slot : Slot) → Has (slots_for types kind state slot) (slot_words slot) (slot_fills kind state slot)
unfolding slots_for
slots_have types kind state slots.Got = got_has types kind state
slots_have types kind state slots.Tp = tp_has types kind state
slots_have types kind state slots.TlsPair = pair_has types kind state
slots_have types kind state slots.Module = module_has types kind
slots_have types kind state slots.Desc = desc_has types state

pub state_is : (j : Planned) (id : SymbolId) → symbol_state j id ≡ state_of j.objects j.names.names id
unfolding symbol_state state_of
state_is j (ids.Name n) = refl
state_is j (ids.Local object row) = refl
state_is j ids.Module = refl

pub words_of : (j : Planned) (g : GotSlot) → length (slots_by j g).words ≡ slot_words g.slot
unfolding slots_by
words_of j g = (slots_have j.rules.dynamic j.options.kind (symbol_state j g.symbol) g.slot).words_are

pub fills_of : (j : Planned) (g : GotSlot) → length (slots_by j g).fills ≡ slot_fills j.options.kind (state_of j.objects j.names.names g.symbol) g.slot
unfolding slots_by
fills_of j g =
    (slots_have j.rules.dynamic j.options.kind (symbol_state j g.symbol) g.slot).fills_are
    ∙ ap (λ (s : RefState). slot_fills j.options.kind s g.slot) (state_is j g.symbol)

pub words_counted : (j : Planned) → word_count j ≡ words_in j.plan.got
unfolding word_count
words_counted j = λ i. sum_by (λ g. words_of j g i) j.plan.got

pub fills_counted : (j : Planned) → fill_count j ≡ fills_in j.objects j.names.names j.options.kind j.plan.got
unfolding fill_count
fills_counted j = λ i. sum_by (λ g. fills_of j g i) j.plan.got
