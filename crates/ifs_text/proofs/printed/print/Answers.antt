use Rattle.ifs_text.proofs.ReadBack.{answer_is_read_back}
use Rattle.ifs_text.proofs.printed.print.Goals as goal

pub returns-clause-read_back : goal.returns-clause-read_back
returns-clause-read_back c = answer_is_read_back c.args.interface.now c.printed.result c.printed.ensures.text c.printed.ensures.numbers
