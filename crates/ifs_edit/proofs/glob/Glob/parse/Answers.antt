use Rattle.ifs_edit.proofs.PatternsAgree.{read_unless_memory}
use Rattle.ifs_edit.proofs.glob.Glob.parse.Goals as goal

pub returns-clause-value : goal.returns-clause-value
returns-clause-value c = c.from_elements.ensures

pub returns-clause-read : goal.returns-clause-read
returns-clause-read c = read_unless_memory c.args.pattern.now _ c.from_elements.ensures
