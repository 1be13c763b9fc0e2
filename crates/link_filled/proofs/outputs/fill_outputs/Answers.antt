use Rattle.std.proofs.Common.{sym, ap, ◌∙◌, ◌≡◌}
use Rattle.link_core.specs.declared.resolution.Resolution.{Resolution}
use Rattle.link_core.specs.OutputNames.{kept_pieces}
use Rattle.link_core.specs.Planned.{pieces_in}
use Rattle.link_outputs.specs.Grouped.{grouped}
use Rattle.link_filled.specs.Fills.{all_filled}
use Rattle.link_filled.proofs.AllFilled.{all_are}
use Rattle.link_filled.proofs.outputs.fill_outputs.Goals as goal

pub returns : goal.returns
returns c = λ j objects names.
    let dropped : c.as_slice.result.now ≡ j.names.dropped = c.as_slice.ensures ∙ ap (λ (r : Resolution). r.dropped) (sym names) in
    let pieces : c.in_ok-pieces.pieces.items ≡ pieces_in j = c.in_ok-pieces.ensures ∙ (λ i. kept_pieces (dropped i) (sym objects i)) in
    let groups = c.deref-2.ensures.value ∙ c.in_ok-groups.ensures ∙ ap grouped (c.deref.ensures.value ∙ pieces) in
    let rooms = c.deref-3.ensures.value ∙ c.in_ok-rooms.ensures j objects names in
    c.in_ok-all.ensures ∙ (λ i. all_filled (rooms i) (groups i)) ∙ all_are j
