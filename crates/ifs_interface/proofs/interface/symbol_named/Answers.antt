use Rattle.std.proofs.Common.{rules}
use Rattle.std.proofs.lemmas.Fn.{always_returns_same}
use Rattle.ifs_interface.specs.declared.symbol.Symbol.{Symbol}
use Rattle.std.specs.Ordering.{nat_cmp}
use Rattle.std.specs.Cmp.Lexicographic.{slice_cmp}
use Rattle.ifs_interface.proofs.Lookup.{search_found, search_missed}
use Rattle.ifs_interface.proofs.interface.symbol_named.Goals as goal

pub returns-in-Ok : goal.returns-in-Ok
returns-in-Ok c =
    let name = c.args.name.now in
    let equal = c.in-Ok.ensures.position (λ (s : Symbol). slice_cmp nat_cmp s.name name) (always_returns_same _ _ _ (λ a r f h. search rules)) in
    search_found name c.args.symbols.now c.in-Ok.place c.index-symbols-place.result c.requires c.in-Ok.ensures.bound equal c.index-symbols-place.is

pub returns-in-Err : goal.returns-in-Err
returns-in-Err c =
    let name = c.args.name.now in
    let missed = c.in-Err.ensures.position (λ (s : Symbol). slice_cmp nat_cmp s.name name) (always_returns_same _ _ _ (λ a r f h. search rules)) in
    search_missed name c.args.symbols.now c.in-Err._place c.requires missed
