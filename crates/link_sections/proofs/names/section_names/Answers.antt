use Rattle.std.proofs.Common.{refl}
use Rattle.link_placed.specs.Made.{link_of}
use Rattle.link_sections.proofs.Named.{named_by}
use Rattle.link_sections.proofs.names.section_names.Goals as goal

pub returns : goal.returns
returns g c =
    named_by (link_of g.M.Machine.rules c.args.p.now) c.args.p.now.layout c.layout.result.now c.as_slice.result.now
    c.new-all.result.items c.push_names.new.all.items c.push.new.self.items _ c.is_made.ensures c.new-all.ensures.items
    c.layout.ensures c.as_slice.ensures c.in_ok-push_names.ensures c.in_ok-push.ensures.items refl
