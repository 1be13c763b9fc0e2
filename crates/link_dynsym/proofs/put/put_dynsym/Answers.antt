use Rattle.link_dynsym.proofs.AllRows.{places_fit, rows_are}
use Rattle.link_dynsym.specs.Made.{link_of}
use Rattle.link_dynsym.proofs.put.put_dynsym.Goals as goal

pub places_of-requires : goal.places_of-requires
places_of-requires g c =
    places_fit (link_of g.M.Machine.rules c.args.p.now) c.args.p.now.layout c.options.result.now c.names.result.now c.plan.result.now
    c.in_ok-names.names.items c.as_slice.result.now c.is_made.ensures c.options.ensures c.names.ensures c.plan.ensures c.in_ok-names.ensures
    c.as_slice.ensures.value

pub returns : goal.returns
returns g c =
    rows_are (link_of g.M.Machine.rules c.args.p.now) c.args.p.now.layout c.options.result.now c.names.result.now c.plan.result.now
    c.in_ok-names.names.items c.as_slice.result.now c.in_ok-starts.starts.items c.as_slice-2.result.now c.args.out.now.items c.put_rows.new.out.items
    c.options.ensures c.names.ensures c.plan.ensures c.in_ok-names.ensures c.as_slice.ensures.value c.in_ok-starts.ensures
    c.as_slice-2.ensures.value c.in_ok-put_rows.ensures
