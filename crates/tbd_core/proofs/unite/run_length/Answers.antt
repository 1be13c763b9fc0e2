use Rattle.std.proofs.Common.{◌≡◌, Bool, length, sym, ◌∙◌, rules, tests}
use Rattle.std.specs.List.{take_while}
use Rattle.std.specs.Ordering.{nat_cmp, is_eq}
use Rattle.std.specs.Cmp.Lexicographic.{slice_cmp}
use Rattle.std.proofs.lemmas.Iterator.{YieldsList-from_slice}
use Rattle.std.proofs.lemmas.Iterator.Consumers.{count_from_yields_List}
use Rattle.std.proofs.lemmas.Iterator.Search.{YieldsList-from_take_while}
use Rattle.tbd_core.specs.declared.symbol.TbdSymbol.{TbdSymbol}
use Rattle.tbd_core.specs.Keys.{key_of}
use Rattle.tbd_core.proofs.Runs.{front_by_order}
use Rattle.tbd_core.proofs.unite.run_length.Goals as goal

pub returns : goal.returns
returns c =
    let first = c.index-symbols-0.result in
    let ties : TbdSymbol → Bool = λ s. is_eq (slice_cmp nat_cmp (key_of s) (key_of first)) in
    let run : c.count.result ≡ length (take_while ties c.args.symbols.now) = count_from_yields_List _ c.count.result c.count.ensures.ran (YieldsList-from_take_while _ ties (YieldsList-from_slice c.args.symbols.now (cc)) c.take_while.ensures.closure c.take_while.ensures.done (λ x b q k. search (rules, tests))) in
    run ∙ sym (front_by_order key_of c.args.symbols.now first c.requires c.index-symbols-0.is)
