use Rattle.std.proofs.Common.{ap, ◌∙◌}
use Rattle.link_core.specs.Places.{named_section}
use Rattle.link_placed.proofs.Kept.{kept_is_of}
use Rattle.link_placed.specs.Made.{laid, link_of}
use Rattle.link_placed.proofs.link.Link.named_section.Goals as goal

pub returns : goal.returns
returns g c =
    let inside = c.self.inside in
    let m = laid inside.options.now inside.objects.now inside.names.now inside.plan.now inside.layout.now in
    let kept = kept_is_of g.M.Machine.rules m _ _ _ _ _ _ inside.moves inside.words c.self.invariant in
    c.named_section.ensures (link_of g.M.Machine.rules m) kept c.self.invariant.outputs_are
    ∙ ap (λ x. named_section (link_of g.M.Machine.rules x) x.layout c.args.name.now) c.self.view_is
