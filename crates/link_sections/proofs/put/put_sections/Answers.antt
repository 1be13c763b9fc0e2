use Rattle.link_placed.specs.Made.{link_of}
use Rattle.link_sections.proofs.AllRows.{names_fit, put_all, starts_are}
use Rattle.link_sections.proofs.put.put_sections.Goals as goal

pub places_of-requires : goal.places_of-requires
places_of-requires g c =
    names_fit (link_of g.M.Machine.rules c.args.p.now) c.args.p.now.layout c.in_ok-names.names.items c.as_slice.result.now
    c.is_made.ensures c.in_ok-names.ensures c.as_slice.ensures.value

pub returns : goal.returns
returns g c =
    let j = link_of g.M.Machine.rules c.args.p.now in
    put_all j c.args.p.now.layout c.put_rows.result c.as_slice-2.result.now _ _ c.is_made.ensures
    (starts_are j c.in_ok-names.names.items c.as_slice.result.now c.in_ok-starts.starts.items c.as_slice-2.result.now
    c.in_ok-names.ensures c.as_slice.ensures.value c.in_ok-starts.ensures c.as_slice-2.ensures.value)
    c.put_rows.ensures
