use Rattle.std.proofs.Common.{◌≡◌, ◌++◌, map, ℕ, List, [], ◌∷◌, get_or, take, sym, ap, ◌∙◌, append-nil, append_assoc}
use Rattle.std.proofs.lemmas.List.{map_more}
use Rattle.ifs_bytes.specs.Field.{number_bytes}
use Rattle.ifs_bytes.specs.declared.form.Order.{Order}
use Rattle.elf_file.specs.Field.{sized}
use Rattle.elf_file.specs.Written.{fields_bytes}
use Rattle.elf_file.specs.declared.put.Field.TheVariants.{One}
use Rattle.elf_file.proofs.put.put_fields.Goals as goal

-- one field more is written at the end
fields_bytes-more : (fs : List (ℕ × ℕ)) (f : ℕ × ℕ) (order : Order) → fields_bytes (fs ++ f ∷ []) order ≡ fields_bytes fs order ++ number_bytes f.0 f.1 order
fields_bytes-more [] f order = simp append-nil
fields_bytes-more (g ∷ fs) f order =
    ap (λ (bytes : List ℕ). number_bytes g.0 g.1 order ++ bytes) (fields_bytes-more fs f order) ∙ sym (append_assoc (number_bytes g.0 g.1 order) (fields_bytes fs order) (number_bytes f.0 f.1 order))

pub loop-field-preserved : goal.loop-field-preserved
loop-field-preserved c =
    let fs = c.args.fields.now in
    let i = c.loop-field.field-index in
    let order = c.args.order in
    let more = map_more sized fs i (One 0) c.loop-field-test.true in
    let field = sized (get_or fs i (One 0)) in
    let longer = fields_bytes-more (map sized (take i fs)) field order in
    c.in_default.ensures
    ∙ ap (λ (bytes : List ℕ). bytes ++ number_bytes field.0 field.1 order) c.loop-field.invariant
    ∙ append_assoc c.args.out.now.items (fields_bytes (map sized (take i fs)) order) (number_bytes field.0 field.1 order)
    ∙ ap (λ (bytes : List ℕ). c.args.out.now.items ++ bytes) (sym longer ∙ ap (λ (xs : List (ℕ × ℕ)). fields_bytes xs order) (sym more))
