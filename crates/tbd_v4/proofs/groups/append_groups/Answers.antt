use Rattle.std.proofs.Common.{◌≡◌, ◌++◌, ap, ◌∙◌, subst}
use Rattle.std.specs.Prelude.{OnOk}
use Rattle.tbd_v4.specs.Lines.{groups_text}
use Rattle.tbd_v4.proofs.Printing.{same_text}
use Rattle.tbd_v4.proofs.groups.append_groups.Goals as goal

pub returns : goal.returns
returns c =
    let text = groups_text c.args.alone c.args.targets.now in
    let same : text c.as_slice.result.now ≡ text c.args.entries.items =
    ap text c.as_slice.ensures.value ∙ same_text c.args.alone c.args.targets.now _ _ c.in_ok-sorted.ensures.same_groups in
    subst (λ t. OnOk c.append_runs.result (c.append_runs.new.out ≡ c.args.out.now ++ t)) same c.append_runs.ensures
