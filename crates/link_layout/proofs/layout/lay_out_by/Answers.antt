use Rattle.std.proofs.Common.{ℕ, List, Result, subst, ap, ◌∙◌, Bool}
use Rattle.std.specs.List.{list_any}
use Rattle.std.specs.Prelude.{codes}
use Rattle.ifs_bytes.specs.Outcome.{UnlessMemory}
use Rattle.ifs_interface.specs.Triple.{same_name}
use Rattle.link_core.specs.declared.layout.Layout.{Layout}
use Rattle.link_core.specs.declared.refusal.LinkRefusal.{LinkRefusal}
use Rattle.link_core.specs.declared.refusal.LinkStop.TheVariants.{Memory}
use Rattle.link_core.specs.Layout.{layout_of}
use Rattle.link_core.specs.Planned.{Planned}
use Rattle.link_tables.specs.declared.counts.Counts.{Counts}
use Rattle.link_tables.specs.declared.output.FilledOutput.{FilledOutput}
use Rattle.link_tables.specs.Counts.{counts_of, present_in}
use Rattle.link_positions.specs.Whole.{layout_from, stopped}
use Rattle.link_layout.proofs.Present.{output_is_there}
use Rattle.link_layout.proofs.Whole.{layout_is}
use Rattle.link_layout.proofs.layout.lay_out_by.Goals as goal

pub count_all-n-requires : goal.count_all-n-requires
unfolding present_in
count_all-n-requires g c =
    let j : Planned = record { rules = g.M.Machine.rules; options = c.args.options.now; objects = c.args.objects.now; names = c.args.r.now; plan = c.args.p.now } in
    let any : List ℕ → List FilledOutput → Bool = λ name os. list_any (λ o. same_name o.name name) os in
    let preinit = c.has_output.ensures ∙ ap (any (codes ".preinit_array")) c.requires.outputs ∙ output_is_there j (codes ".preinit_array") in
    let init = c.has_output-2.ensures ∙ ap (any (codes ".init_array")) c.requires.outputs ∙ output_is_there j (codes ".init_array") in
    let fini = c.has_output-3.ensures ∙ ap (any (codes ".fini_array")) c.requires.outputs ∙ output_is_there j (codes ".fini_array") in
    let flags = c.requires.flags in
    λ i. record { preinit_array = preinit i; init_array = init i; fini_array = fini i; flags = flags i }

pub returns : goal.returns
unfolding layout_of
returns g c =
    let j : Planned = record { rules = g.M.Machine.rules; options = c.args.options.now; objects = c.args.objects.now; names = c.args.r.now; plan = c.args.p.now } in
    let kind = c.args.options.now.kind in
    let P : Result Layout LinkRefusal → Type 0 = λ m. UnlessMemory Memory c.lay_out_from.result (stopped m) in
    let same =
    ap (λ (page : ℕ). layout_from kind page c.count_all-n.result c.args.outputs.now) c.page.ensures
    ∙ ap (λ (n : Counts). layout_from kind j.rules.page n c.args.outputs.now) c.count_all-n.ensures
    ∙ ap (λ (os : List FilledOutput). layout_from kind j.rules.page (counts_of j) os) c.requires.outputs
    ∙ layout_is j
    in
    subst P same c.lay_out_from.ensures
