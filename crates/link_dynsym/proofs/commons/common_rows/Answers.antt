use Rattle.std.proofs.Common.{sym, ◌∙◌}
use Rattle.link_dynsym.proofs.CommonSizes.{commons_are}
use Rattle.link_dynsym.specs.Made.{link_of}
use Rattle.link_dynsym.proofs.commons.common_rows.Goals as goal

pub returns : goal.returns
returns g c =
    let j = link_of g.M.Machine.rules c.args.p.now in
    commons_are j c.args.p.now.layout c.as_slice.result.now c.in_ok-found.found _ c.is_made.ensures
    (c.as_slice.ensures.value ∙ c.in_ok-all.ensures j (sym c.objects.ensures) (sym c.names.ensures))
    c.in_ok-found.ensures c.bss_number.ensures
