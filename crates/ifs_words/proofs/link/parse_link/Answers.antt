use Rattle.std.proofs.Common.{map, string_bytes}
use Rattle.ifs_words.proofs.Usable.{link_is_usable}
use Rattle.ifs_words.proofs.link.parse_link.Goals as goal

pub returns-clause-usable : goal.returns-clause-usable
returns-clause-usable c = link_is_usable (map string_bytes c.args.words.now) c.link_of.result c.link_of.ensures
