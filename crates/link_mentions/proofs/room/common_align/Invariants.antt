use Rattle.std.proofs.Common.{◌≡◌, drop}
use Rattle.link_core.specs.Mentions.{is_common}
use Rattle.link_mentions.proofs.Greatest.{greatest_of}
use Rattle.link_mentions.proofs.room.common_align.Given as goal

abbrev pub invariant-loop-mention : goal.invariant-loop-mention
invariant-loop-mention l =
    greatest_of is_common (λ m. m.symbol.value) l.greatest (drop l.mention-index l.mentions) ≡ greatest_of is_common (λ m. m.symbol.value) 0 l.mentions
