use Rattle.std.proofs.Common.{◌≡◌, length, sym, ◌∙◌, rules, tests}
use Rattle.std.specs.List.{take_while}
use Rattle.std.proofs.lemmas.Iterator.{YieldsList-from_slice}
use Rattle.std.proofs.lemmas.Iterator.Consumers.{count_from_yields_List}
use Rattle.std.proofs.lemmas.Iterator.Search.{YieldsList-from_take_while}
use Rattle.ifs_interface.specs.Triple.{same_name}
use Rattle.tbd_v4.specs.Listed.{Listed}
use Rattle.tbd_v4.proofs.Printing.{length_by}
use Rattle.tbd_v4.proofs.groups.run_length.Goals as goal

pub returns : goal.returns
returns c =
    let targets = c.targets-targets.result.now in
    let tied = λ (e : Listed). same_name e.targets targets in
    let run : c.count.result ≡ length (take_while tied c.args.entries.now) = count_from_yields_List _ c.count.result c.count.ensures.ran (YieldsList-from_take_while _ tied (YieldsList-from_slice c.args.entries.now (cc)) c.take_while.ensures.closure c.take_while.ensures.done (λ x b q k. search (rules, tests))) in
    run ∙ sym (length_by c.args.entries.now c.index-entries-0.result targets c.requires c.index-entries-0.is c.targets-targets.ensures)
