use Rattle.std.proofs.Common.{rules}
use Rattle.std.proofs.lemmas.Fn.{always_returns_same}
use Rattle.std.specs.Ordering.{nat_cmp}
use Rattle.std.specs.Cmp.Lexicographic.{slice_cmp}
use Rattle.link_names.specs.declared.names.Name.{Name}
use Rattle.link_checks.proofs.Searched.{search_found, search_missed}
use Rattle.link_checks.proofs.found.name_in.Goals as goal

pub returns-in-Ok : goal.returns-in-Ok
returns-in-Ok c =
    let name = c.args.name.now in
    let equal = c.in-Ok.ensures.position (λ (n : Name). slice_cmp nat_cmp n.row.name name) (always_returns_same _ _ _ (λ a r f h. search rules)) in
    search_found (λ (n : Name). n.row.name) name c.args.names.now c.in-Ok.place c.index-names-place.result c.requires c.in-Ok.ensures.bound equal c.index-names-place.is

pub returns-in-Err : goal.returns-in-Err
returns-in-Err c =
    let name = c.args.name.now in
    let missed = c.in-Err.ensures.position (λ (n : Name). slice_cmp nat_cmp n.row.name name) (always_returns_same _ _ _ (λ a r f h. search rules)) in
    search_missed (λ (n : Name). n.row.name) name c.args.names.now c.in-Err._place c.requires missed
