-- Words and dynamic relocations of slots as code has them, and what they stand for.
use Rattle.std.specs.Prelude.{List, [], ◌∷◌}
use Rattle.link_core.specs.Slots as meant
use Rattle.link_slots.specs.declared.words.Fill.{Fill}
use Rattle.link_slots.specs.declared.words.Fills.{Fills}
use Rattle.link_slots.specs.declared.words.Fills.TheVariants as fills
use Rattle.link_slots.specs.declared.words.Word.{Word}
use Rattle.link_slots.specs.declared.words.Word.TheVariants as variants
use Rattle.link_slots.specs.declared.words.Words.{Words}
use Rattle.link_slots.specs.declared.words.Words.TheVariants as words

abbrev pub word_of : Word → meant.Word
word_of variants.Nought = meant.Nought
word_of variants.One = meant.One
word_of variants.Address = meant.Address
word_of variants.FromPointer = meant.FromPointer
word_of variants.InBlock = meant.InBlock

abbrev pub fill_of : Fill → meant.Fill
fill_of f = record { kind = f.kind; word = f.word; named = f.named; addend = word_of f.addend }

abbrev pub words_of : Words → List meant.Word
words_of (words.Single first) = word_of first ∷ []
words_of (words.Pair first second) = word_of first ∷ word_of second ∷ []

abbrev pub fills_of : Fills → List meant.Fill
fills_of fills.Nothing = []
fills_of (fills.Single first) = fill_of first ∷ []
fills_of (fills.Pair first second) = fill_of first ∷ fill_of second ∷ []

abbrev pub slots_of : Words → Fills → meant.Slots
slots_of held by = record { words = words_of held; fills = fills_of by }
