use Rattle.std.proofs.Common.{ℕ, List, rules}
use Rattle.std.proofs.lemmas.Fn.{always_returns_same}
use Rattle.std.specs.Ordering.{nat_cmp}
use Rattle.std.specs.Cmp.Lexicographic.{slice_cmp}
use denote.Ref.{Bor}
use Rattle.link_names.proofs.Bounds.{search_found, search_missed}
use Rattle.link_names.proofs.provided.has_name.Goals as goal

pub returns-in-Ok : goal.returns-in-Ok
returns-in-Ok c =
    let name = c.args.name.now in
    let equal = c.in-Ok.ensures.position (λ (n : Bor (List ℕ)). slice_cmp nat_cmp n.now name) (always_returns_same _ _ _ (λ a r f h. search rules)) in
    search_found name c.args.names.now c.in-Ok._place c.in-Ok.ensures.bound equal

pub returns-in-Err : goal.returns-in-Err
returns-in-Err c =
    let name = c.args.name.now in
    let missed = c.in-Err.ensures.position (λ (n : Bor (List ℕ)). slice_cmp nat_cmp n.now name) (always_returns_same _ _ _ (λ a r f h. search rules)) in
    search_missed name c.args.names.now c.in-Err._place c.requires missed
