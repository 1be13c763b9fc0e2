use Rattle.std.proofs.Common.{◌∙◌, ap}
use Rattle.std.specs.List.{list_any}
use Rattle.link_core.specs.Places.{is_code, is_thread}
use Rattle.link_core.specs.declared.layout.Layout.{Layout}
use Rattle.link_core.specs.Layout.{count_if}
use Rattle.link_placed.specs.Made.{link_of}
use Rattle.link_segments.proofs.Counted.{counted_by}
use Rattle.link_segments.proofs.there.segment_count.Goals as goal

pub returns-clause-is : goal.returns-clause-is
returns-clause-is g c =
    counted_by (link_of g.M.Machine.rules c.args.p.now) c.args.p.now.layout _ _ _ c.is_made.ensures
    (c.count_if-program.ensures ∙ ap count_if c.is_program.ensures)
    (c.count_if-code.ensures ∙ ap count_if (c.has_code.ensures ∙ ap (λ (l : Layout). list_any is_code l.sections) c.layout.ensures))
    (c.count_if-threads.ensures ∙ ap count_if (c.has_threads.ensures ∙ ap (λ (l : Layout). list_any is_thread l.sections) c.layout-2.ensures))
