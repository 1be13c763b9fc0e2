use Rattle.std.proofs.Common.{sym, ◌∙◌, refl, rules}
use Rattle.std.proofs.lemmas.Iterator.{YieldsList-from_slice, items_from_drains}
use Rattle.std.proofs.lemmas.Iterator.Consumers.{YieldsList-from_copied, YieldsList-from_filter}
use Rattle.ifs_interface.proofs.Lists.{map_itself}
use Rattle.elf_dyn.specs.Found.{is_defined_at}
use Rattle.elf_dyn.proofs.by_name.defined_places.Goals as goal

pub returns : goal.returns
returns c =
    let ran = c.in_ok-collect.ensures.ran in
    ran.2.0 ∙ sym (map_itself (λ p. p) (λ p. refl) ran.0)
    ∙ items_from_drains ran.0 ran.1 (YieldsList-from_filter _ (is_defined_at c.args.rows.now) (YieldsList-from_copied (YieldsList-from_slice c.args.places.now cc)) c.filter.ensures.closure (λ x b q k. search rules))
