use Rattle.std.proofs.Common.{ℕ, ap, ◌∙◌}
use Rattle.link_core.specs.Planned.{Planned}
use Rattle.link_tables.specs.declared.counts.Present.{Present}
use Rattle.link_tables.specs.Counts.{counts_by}
use Rattle.link_tables.proofs.Counted.{counted}
use Rattle.link_tables.proofs.counts.count_all.Goals as goal

pub returns : goal.returns
returns g c =
    let rules = g.M.Machine.rules in
    let options = c.args.options.now in
    let objects = c.args.objects.now in
    let r = c.args.r.now in
    let p = c.args.p.now in
    let j : Planned = record { rules = rules; options = options; objects = objects; names = r; plan = p } in
    c.counts_by.ensures
    ∙ ap (λ (n : ℕ). counts_by n c.header_len.result options objects r p c.args.present) c.number.ensures
    ∙ ap (λ (n : ℕ). counts_by rules.number n options objects r p c.args.present) c.header_len.ensures.is
    ∙ ap (λ (present : Present). counts_by rules.number rules.header_len options objects r p present) c.requires
    ∙ counted j
