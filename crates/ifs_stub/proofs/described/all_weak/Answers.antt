use Rattle.std.proofs.Common.{sym, ◌∙◌, rules, tests}
use Rattle.std.proofs.lemmas.List.Folds.{list_all-map}
use Rattle.std.proofs.lemmas.Iterator.{YieldsList-from_slice}
use Rattle.std.proofs.lemmas.Iterator.Search.{all_from_yields_List}
use Rattle.ifs_interface.specs.Extracted.{is_weak}
use Rattle.ifs_stub.proofs.described.all_weak.Goals as goal

pub returns : goal.returns
returns c =
    all_from_yields_List (λ row. is_weak row.now) _ _ c.all.result c.all.ensures.ran (YieldsList-from_slice c.args.rows.now (cc)) (λ x b q k. search (rules, tests))
    ∙ sym (list_all-map is_weak (λ row. row.now) c.args.rows.now)
