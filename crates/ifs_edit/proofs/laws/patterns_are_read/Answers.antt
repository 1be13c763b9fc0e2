use Rattle.ifs_edit.proofs.PatternsAgree.{patterns_read, broken_is_refused, read_broken}
use Rattle.ifs_edit.proofs.laws.patterns_are_read.Goals as goal

pub returns-clause-value : goal.returns-clause-value
returns-clause-value c = patterns_read

pub returns-clause-broken : goal.returns-clause-broken
returns-clause-broken c = λ pattern at. (read_broken pattern at, broken_is_refused pattern at)
