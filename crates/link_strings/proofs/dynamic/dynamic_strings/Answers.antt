use Rattle.std.proofs.Common.{ℕ, List, Option, ◌++◌, ap, ◌∙◌}
use Rattle.std.specs.Option.{option_to_list}
use Rattle.link_strings.specs.Named.{strings_of}
use Rattle.link_strings.proofs.Named.{strings_are}
use Rattle.link_strings.proofs.dynamic.dynamic_strings.Goals as goal

pub returns : goal.returns
returns c = λ rules objects.
    strings_are
    (record { rules = rules; options = c.args.options.now; objects = objects; names = c.args.r.now; plan = c.args.p.now })
    (strings_of c.in_ok-all.all.items) (strings_of c.push_texts.new.all.items) (strings_of c.push_option.new.all.items)
    (strings_of c.push_option-2.new.all.items)
    (c.in_ok-all.ensures rules c.args.options.now objects)
    (c.in_ok-push_texts.ensures ∙ ap (λ (texts : List (List ℕ)). strings_of c.in_ok-all.all.items ++ texts) c.as_slice.ensures)
    (c.in_ok-push_option.ensures
    ∙ ap (λ (text : Option (List ℕ)). strings_of c.push_texts.new.all.items ++ option_to_list text) c.soname_of.ensures)
    (c.in_ok-push_option-2.ensures
    ∙ ap (λ (text : Option (List ℕ)). strings_of c.push_option.new.all.items ++ option_to_list text) c.as_ref.ensures.value)
