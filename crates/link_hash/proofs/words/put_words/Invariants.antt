use Rattle.std.proofs.Common.{◌≡◌, ◌++◌, take}
use Rattle.std.specs.List.{flat_map}
use Rattle.ifs_bytes.specs.Field.{number_bytes}
use Rattle.ifs_bytes.specs.declared.form.Order.TheVariants.{Little}
use Rattle.link_hash.proofs.words.put_words.Given as goal

abbrev pub invariant-loop-word : goal.invariant-loop-word
invariant-loop-word l = l.out.items ≡ l.fn.out.items ++ flat_map (λ word. number_bytes 4 word Little) (take l.word-index l.words)
