use Rattle.std.proofs.Common.{rules}
use Rattle.std.proofs.lemmas.Fn.{always_returns_same}
use Rattle.std.specs.Ordering.{nat_cmp}
use Rattle.std.specs.Cmp.Lexicographic.{slice_cmp}
use Rattle.link_core.specs.declared.resolution.NameRow.{NameRow}
use Rattle.link_targets.proofs.Lookup.{search_found, search_missed}
use Rattle.link_targets.proofs.names.name_place.Goals as goal

pub returns-in-Ok : goal.returns-in-Ok
returns-in-Ok c =
    let name = c.args.name.now in
    let equal = c.in-Ok.ensures.position (λ (row : NameRow). slice_cmp nat_cmp row.name name) (always_returns_same _ _ _ (λ a r f h. search rules)) in
    search_found name c.args.names.now.names c.as_slice-rows.result.now c.in-Ok.place c.as_slice-rows.ensures c.requires c.in-Ok.ensures.bound equal

pub returns-in-Err : goal.returns-in-Err
returns-in-Err c =
    let name = c.args.name.now in
    let missed = c.in-Err.ensures.position (λ (row : NameRow). slice_cmp nat_cmp row.name name) (always_returns_same _ _ _ (λ a r f h. search rules)) in
    search_missed name c.args.names.now.names c.as_slice-rows.result.now c.in-Err._place c.as_slice-rows.ensures c.requires missed
