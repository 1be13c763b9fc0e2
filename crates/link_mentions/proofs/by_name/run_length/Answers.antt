use Rattle.std.proofs.Common.{◌≡◌, Bool, length, sym, ◌∙◌, rules, tests}
use Rattle.std.specs.List.{take_while}
use Rattle.std.proofs.lemmas.Iterator.{YieldsList-from_slice}
use Rattle.std.proofs.lemmas.Iterator.Consumers.{count_from_yields_List}
use Rattle.std.proofs.lemmas.Iterator.Search.{YieldsList-from_take_while}
use Rattle.ifs_interface.specs.Triple.{same_name}
use Rattle.link_core.specs.Mentions.{Mention}
use Rattle.link_mentions.proofs.Runs.{run_length_by}
use Rattle.link_mentions.proofs.by_name.run_length.Goals as goal

pub returns : goal.returns
returns c =
    let name = c.name-name.result.now in
    let named = λ (m : Mention). same_name m.symbol.name name in
    let run : c.count.result ≡ length (take_while named c.args.mentions.now) = count_from_yields_List _ c.count.result c.count.ensures.ran (YieldsList-from_take_while _ named (YieldsList-from_slice c.args.mentions.now (cc)) c.take_while.ensures.closure c.take_while.ensures.done (λ x b q k. search (rules, tests))) in
    run ∙ sym (run_length_by c.args.mentions.now c.index-mentions-0.result name c.requires c.index-mentions-0.is c.name-name.ensures)
