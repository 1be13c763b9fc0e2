use Rattle.std.proofs.Common.{ap, ◌∙◌, inr}
use Rattle.std.specs.Prelude.{Ok}
use Rattle.std.proofs.lemmas.Result.{err_from_is_err_and}
use Rattle.ifs_edit.proofs.Binding.{meant_ok, meant_err}
use Rattle.ifs_edit.proofs.UnitedNames.{merged_err, merged_ok, united_ascend, united_proper}
use Rattle.ifs_edit.proofs.merged.merge.Goals as goal

pub returns-in_err-symbols : goal.returns-in_err-symbols
returns-in_err-symbols c =
    let p = err_from_is_err_and c.from_residual-in_err-symbols.result c.from_residual-in_err-symbols.ensures.1 in
    let cause = c.in_err-symbols.field-0.0 in
    rw (p.1, p.2) (meant_err _ cause _ _ (rw c.as_slice.ensures.value at c.in_err-symbols.ensures) (λ stopped. merged_err c.args.list.now c.index-list-0.result c.in_ok-sorted.sorted.items cause c.requires c.index-list-0.is c.in_ok-check_parts.ensures c.in_ok-sorted.ensures.sorted stopped))

pub with_symbols-requires-clause-ascending : goal.with_symbols-requires-clause-ascending
with_symbols-requires-clause-ascending c =
    let symbols = meant_ok _ c.in_ok-symbols.symbols.items _ (rw c.as_slice.ensures.value at c.in_ok-symbols.ensures) in
    united_ascend _ c.in_ok-sorted.sorted.items c.in_ok-symbols.symbols.items c.in_ok-sorted.ensures.sorted symbols

pub with_symbols-requires-clause-proper : goal.with_symbols-requires-clause-proper
with_symbols-requires-clause-proper c =
    let symbols = meant_ok _ c.in_ok-symbols.symbols.items _ (rw c.as_slice.ensures.value at c.in_ok-symbols.ensures) in
    united_proper _ c.in_ok-sorted.sorted.items c.in_ok-symbols.symbols.items c.in_ok-sorted.ensures.sorted c.in_ok-sorted.ensures.proper symbols

pub returns : goal.returns
returns c =
    let symbols = meant_ok _ c.in_ok-symbols.symbols.items _ (rw c.as_slice.ensures.value at c.in_ok-symbols.ensures) in
    inr (ap (λ i. Ok i) c.in_ok-with_symbols.ensures ∙ merged_ok c.args.list.now c.index-list-0.result c.in_ok-sorted.sorted.items c.in_ok-symbols.symbols.items c.requires c.index-list-0.is c.in_ok-check_parts.ensures c.in_ok-sorted.ensures.sorted symbols)
