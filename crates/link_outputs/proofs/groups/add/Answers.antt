use Rattle.std.proofs.Common.{◌≡◌, ◌++◌, ◌∷◌, [], ap, ◌∙◌, cond}
use Rattle.link_core.specs.OutputNames.{Output, Piece, class_of_section, output_name, output_of}
use Rattle.link_outputs.specs.Grouped.{empty_group, key_of}
use Rattle.link_outputs.proofs.Keys.{add_groups, add_keys}
use Rattle.link_outputs.proofs.groups.add.Goals as goal
use Rattle.link_outputs.proofs.groups.add.Goals.{In_ok-put_at}

abbrev made : In_ok-put_at → Output
made c = record { name = c.output_name-name.result.now; class = c.class_of-class.result }

made_is : (c : In_ok-put_at) → made c ≡ output_of c.args.piece.now
made_is c =
    let name : c.output_name-name.result.now ≡ output_name c.args.piece.now.input.name =
    c.output_name-name.ensures ∙ ap output_name c.as_bytes.ensures ∙ ap (λ (p : Piece). output_name p.input.name) c.piece.view_is in
    let class : c.class_of-class.result ≡ class_of_section c.args.piece.now.input =
    c.class_of-class.ensures ∙ ap (λ (p : Piece). class_of_section p.input) c.piece.view_is in
    λ i. record { name = name i; class = class i }

key_is : (c : In_ok-put_at) → (c.output_name-name.result.now, c.class_number.result) ≡ key_of (output_of c.args.piece.now)
key_is c = (λ i. (c.output_name-name.result.now, c.class_number.ensures i)) ∙ ap key_of (made_is c)

mid_is : (c : In_ok-put_at) → c.push_new.new.groups.items ≡ cond c.in_ok-place.is_new (c.args.groups.now.items ++ empty_group (output_of c.args.piece.now) ∷ []) c.args.groups.now.items
mid_is c =
    c.in_ok-push_new.ensures ∙ ap (λ o. cond c.in_ok-place.is_new (c.args.groups.now.items ++ empty_group o ∷ []) c.args.groups.now.items) (made_is c)

pub returns-clause-keys : goal.returns-clause-keys
returns-clause-keys c =
    add_keys c.args.groups.now.items c.args.piece.now c.args.keys.now.keys (c.output_name-name.result, c.class_number.result) (key_is c) c.requires
    c.in_ok-place.is_new c.push_new.new.groups.items c.put_at.new.groups.items c.in_ok-place.place c.insert_full.new.self.keys
    c.in_ok-place.ensures.added (mid_is c) c.in_ok-put_at.ensures c.in_ok-place.ensures.keys

pub returns-clause-groups : goal.returns-clause-groups
returns-clause-groups c =
    add_groups c.args.groups.now.items c.args.piece.now c.args.keys.now.keys (c.output_name-name.result, c.class_number.result) (key_is c) c.requires
    c.in_ok-place.is_new c.push_new.new.groups.items c.put_at.new.groups.items c.in_ok-place.place
    c.in_ok-place.ensures.added (mid_is c) c.in_ok-place.ensures.index c.in_ok-put_at.ensures
