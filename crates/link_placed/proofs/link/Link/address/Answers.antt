use Rattle.std.proofs.Common.{ap, ◌∙◌}
use Rattle.std.specs.Option.{option_map_or}
use Rattle.std.specs.Prelude.{slice_get}
use Rattle.link_core.specs.declared.layout.Layout.{Layout}
use Rattle.link_placed.proofs.Bounds.{address_low}
use Rattle.link_placed.specs.Made.{link_of}
use Rattle.link_placed.proofs.link.Link.address.Goals as goal

pub returns-clause-low : goal.returns-clause-low
returns-clause-low g c =
    address_low (link_of g.M.Machine.rules c.args.self.now) c.args.self.now.layout c.position.result
    c.table_address.result c.is_made.ensures (c.table_address.ensures ∙ ap (λ (l : Layout). option_map_or (λ s. s.address) (slice_get l.sections c.position.result) 0) c.layout.ensures)
