-- .got: the words of each slot and pair, in order, 8 bytes a word.
use Rattle.std.specs.Prelude.{List, flat_map, map, ℕ, ℤ, ◌^◌}
use Rattle.ifs_bytes.specs.Field.{number_bytes}
use Rattle.ifs_bytes.specs.declared.form.Order.TheVariants.{Little}
use Rattle.link_machine.specs.Patch.{modulo}
use Rattle.link_core.specs.declared.layout.Layout.{Layout}
use Rattle.link_core.specs.declared.plan.GotSlot.{GotSlot}
use Rattle.link_core.specs.declared.plan.SymbolId.{SymbolId}
use Rattle.link_core.specs.Planned.{Planned}
use Rattle.link_core.specs.Slots.{Address, FromPointer, InBlock, Nought, One, Word, slots_by}
use Rattle.link_core.specs.Value.{symbol_offset, symbol_pointer, symbol_value}

-- a whole number in 64 bits
abbrev pub word_of : ℤ → ℕ
word_of z = modulo z (2 ^ 64)

-- what a word holds, for a symbol
abbrev pub word_value : Planned → Layout → SymbolId → Word → ℕ
word_value j l id Nought = 0
word_value j l id One = 1
word_value j l id Address = symbol_value j l id
word_value j l id FromPointer = word_of (symbol_pointer j l id)
word_value j l id InBlock = symbol_offset j l id

unfoldable pub slot_words : Planned → Layout → GotSlot → List ℕ
slot_words j l g = map (word_value j l g.symbol) (slots_by j g).words

abbrev pub words_bytes : List ℕ → List ℕ
words_bytes words = flat_map (λ word. number_bytes 8 word Little) words

unfoldable pub got_bytes : Planned → Layout → List ℕ
got_bytes j l = words_bytes (flat_map (slot_words j l) j.plan.got)
