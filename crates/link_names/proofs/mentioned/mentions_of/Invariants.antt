use Rattle.std.proofs.Common.{◌≡◌, ◌++◌, drop}
use Rattle.link_names.specs.Flags.{mentions_from, mentions_by}
use Rattle.link_names.proofs.mentioned.mentions_of.Given as goal

abbrev pub invariant-loop-i : goal.invariant-loop-i
invariant-loop-i l = l.mentions.items ++ mentions_from l.i (drop l.i l.flags) (drop l.i l.objects) ≡ mentions_by l.flags l.objects
