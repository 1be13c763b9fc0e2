use Rattle.std.proofs.Common.{◌≡◌, drop}
use Rattle.std.specs.List.{find}
use Rattle.link_core.specs.Mentions.{is_definition}
use Rattle.link_mentions.proofs.one_name.first_definition.Given as goal

abbrev pub invariant-loop-mention : goal.invariant-loop-mention
invariant-loop-mention l = find is_definition (drop l.mention-index l.mentions) ≡ find is_definition l.mentions
