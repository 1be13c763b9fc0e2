use Rattle.std.proofs.Common.{◌≡◌, ◌++◌, drop}
use Rattle.std.specs.List.{enumerate_from, filter_map}
use Rattle.link_core.specs.Mentions.{mentioned}
use Rattle.link_names.specs.Flags.{has_flag}
use Rattle.link_names.proofs.mentioned.push_mentions.Given as goal

abbrev pub invariant-loop-row : goal.invariant-loop-row
invariant-loop-row l =
    l.mentions.items ++ filter_map (mentioned (has_flag l.flags) l.object) (enumerate_from l.row (drop l.row l.symbols))
    ≡ l.initial.mentions.items ++ filter_map (mentioned (has_flag l.flags) l.object) (enumerate_from 0 l.symbols)
