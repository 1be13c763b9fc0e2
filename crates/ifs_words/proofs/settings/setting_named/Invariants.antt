use Rattle.std.proofs.Common.{◌≡◌, length}
use Rattle.ifs_words.specs.Settings.{setting_named}
use Rattle.ifs_words.proofs.settings.setting_named.Given as goal

-- what is left has the answer
abbrev pub invariant-loop-rest : goal.invariant-loop-rest
invariant-loop-rest l = setting_named l.rest l.name ≡ setting_named l.table l.name

abbrev pub decreases-loop-rest : goal.decreases-loop-rest
decreases-loop-rest l = length l.rest
