use Rattle.std.proofs.Common.{◌≡◌, ◌++◌, take}
use Rattle.link_strings.specs.Named.{strings_of}
use Rattle.link_strings.proofs.dynamic.push_texts.Given as goal

abbrev pub invariant-loop-text : goal.invariant-loop-text
invariant-loop-text l = strings_of l.all.items ≡ strings_of l.fn.all.items ++ take l.text-index l.texts
