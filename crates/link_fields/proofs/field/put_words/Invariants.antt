use Rattle.std.proofs.Common.{◌≡◌, ◌++◌, take}
use Rattle.link_core.specs.Got.{words_bytes}
use Rattle.link_fields.proofs.field.put_words.Given as goal

abbrev pub invariant-loop-word : goal.invariant-loop-word
invariant-loop-word l = l.out.items ≡ l.fn.out.items ++ words_bytes (take l.word-index l.words)
