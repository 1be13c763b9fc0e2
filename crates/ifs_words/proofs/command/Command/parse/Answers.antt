use Rattle.std.proofs.Common.{map, string_bytes}
use Rattle.ifs_words.proofs.Usable.{parsed_is_usable}
use Rattle.ifs_words.proofs.command.Command.parse.Goals as goal

pub returns-clause-usable : goal.returns-clause-usable
returns-clause-usable c = parsed_is_usable (map string_bytes c.args.words.now) c.command_of.result c.command_of.ensures
