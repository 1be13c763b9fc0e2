use Rattle.std.proofs.Common.{◌≡◌, Bool, length, sym, ◌∙◌, rules, tests}
use Rattle.std.specs.List.{take_while}
use Rattle.std.proofs.lemmas.Iterator.{YieldsList-from_slice}
use Rattle.std.proofs.lemmas.Iterator.Consumers.{count_from_yields_List}
use Rattle.std.proofs.lemmas.Iterator.Search.{YieldsList-from_take_while}
use denote.Ref.{Bor}
use Rattle.ifs_interface.specs.declared.symbol.Symbol.{Symbol}
use Rattle.ifs_interface.specs.Triple.{same_name}
use Rattle.ifs_edit.proofs.Pointed.{run_length_pointed}
use Rattle.ifs_edit.proofs.sorted.run_length.Goals as goal

pub returns : goal.returns
returns c =
    let first = c.index-symbols-0.result in
    let named : Bor Symbol → Bool = λ s. same_name s.now.name first.now.name in
    let run : c.count.result ≡ length (take_while named c.args.symbols.now) = count_from_yields_List _ c.count.result c.count.ensures.ran (YieldsList-from_take_while _ named (YieldsList-from_slice c.args.symbols.now (cc)) c.take_while.ensures.closure c.take_while.ensures.done (λ x b q k. search (rules, tests))) in
    run ∙ sym (run_length_pointed c.args.symbols.now first c.requires c.index-symbols-0.is)
