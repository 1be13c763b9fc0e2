use Rattle.std.proofs.Common.{rules}
use Rattle.std.proofs.lemmas.Fn.{always_returns_same}
use Rattle.std.specs.Ordering.{nat_cmp}
use Rattle.std.specs.Cmp.Lexicographic.{slice_cmp}
use Rattle.ifs_interface.specs.declared.shared_lib.Wanted.{Wanted}
use Rattle.link_binding.proofs.Wanting.{search_found, search_missed}
use Rattle.link_binding.proofs.wanted.is_wanted.Goals as goal

pub returns-in-Ok : goal.returns-in-Ok
returns-in-Ok c =
    let name = c.args.name.now in
    let equal = c.in-Ok.ensures.position (λ (w : Wanted). slice_cmp nat_cmp w.name.now name) (always_returns_same _ _ _ (λ a r f h. search rules)) in
    search_found name c.args.wanted.now c.in-Ok._place c.in-Ok.ensures.bound equal

pub returns-in-Err : goal.returns-in-Err
returns-in-Err c =
    let name = c.args.name.now in
    let missed = c.in-Err.ensures.position (λ (w : Wanted). slice_cmp nat_cmp w.name.now name) (always_returns_same _ _ _ (λ a r f h. search rules)) in
    search_missed name c.args.wanted.now c.in-Err._place c.requires missed
