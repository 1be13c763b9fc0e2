use Rattle.std.proofs.Common.{◌≡◌, drop}
use Rattle.std.specs.List.{find}
use Rattle.link_core.specs.Mentions.{is_strong_want}
use Rattle.link_mentions.proofs.one_name.first_strong_want.Given as goal

abbrev pub invariant-loop-mention : goal.invariant-loop-mention
invariant-loop-mention l = find is_strong_want (drop l.mention-index l.mentions) ≡ find is_strong_want l.mentions
