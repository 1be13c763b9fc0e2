use Rattle.std.proofs.Common.{ℕ, List, ◌++◌, map, ap, ◌∙◌}
use Rattle.link_strings.specs.Named.{name_in, strings_of}
use Rattle.link_strings.proofs.Named.{symbols_are}
use Rattle.link_strings.proofs.dynamic.symbol_names.Goals as goal

pub returns : goal.returns
returns c = λ rules options objects.
    symbols_are
    (record { rules = rules; options = options; objects = objects; names = c.args.r.now; plan = c.args.p.now })
    (strings_of c.new-all.result.items) (strings_of c.push_names.new.all.items) (strings_of c.push_names-2.new.all.items)
    (ap strings_of c.new-all.ensures.items)
    (c.in_ok-push_names.ensures
    ∙ ap (λ (rows : List ℕ). strings_of c.new-all.result.items ++ map (name_in c.args.r.now) rows) c.as_slice.ensures)
    (c.in_ok-push_names-2.ensures
    ∙ ap (λ (rows : List ℕ). strings_of c.push_names.new.all.items ++ map (name_in c.args.r.now) rows) c.as_slice-2.ensures)
