-- The value of a target has no fault, and says the target.
use Rattle.std.proofs.Common.{◌≡◌, ℕ, ◌<◌, ◌^◌, Bool, true, false, if◌then◌else◌, ◌&&◌, ◌||◌, List, [], ◌∷◌, ◌++◌, codes, Option, Some, None, refl, sym, ap, ◌∙◌}
use Rattle.std.specs.Prelude.{is_some, is_none, unwrap_or, option_map, option_and_then}
use Rattle.std.specs.Option.{option_or}
use Rattle.std.proofs.lemmas.Bool.{and_parts, or_parts}
use Rattle.ifs_bytes.specs.declared.form.Order.{Order}
use Rattle.ifs_bytes.specs.declared.form.Order.TheVariants.{Little, Big}
use Rattle.ifs_bytes.specs.declared.form.Width.{Width}
use Rattle.ifs_bytes.specs.declared.form.Width.TheVariants.{W32, W64}
use Rattle.ifs_interface.specs.declared.target.Target.{Target}
use Rattle.ifs_interface.specs.Arch.{arch_name}
use Rattle.ifs_interface.specs.Interface.{is_proper_target}
use Rattle.ifs_interface.specs.Triple.{parts_of_triple}
use Rattle.yaml_nodes.specs.declared.node.Node.{Node}
use Rattle.yaml_nodes.specs.declared.node.Node.TheVariants as node
use Rattle.yaml_nodes.specs.declared.node.Entry.{Entry}
use Rattle.yaml_nodes.specs.Nodes.{entries_of, entry}
use Rattle.ifs_text.specs.declared.maps.MapKind.TheVariants as kinds
use Rattle.ifs_text.specs.Printed.{has_part}
use Rattle.ifs_text.specs.Document.{machine_entries, order_entries, width_entries, part_nodes, target_entries_by, target_entries}
use Rattle.ifs_text.specs.Maps.{first_of, key_fault_at, key_fault, missing_fault, keys_fault, value_at}
use Rattle.ifs_text.specs.Values.{machine_in, order_in, width_in}
use Rattle.ifs_text.specs.Faults.{bad_unless, is_elf, part_fault, parts_fault, target_fault_by, target_fault, root_value_fault}
use Rattle.ifs_text.specs.Parts.{nothing_known, target_of_triple, target_of_map, target_by, target_in}
use Rattle.ifs_text.proofs.DocumentBack.Entries.{Field, optional, entries_by, GivesNone, first_none, value_is, or_none}
use Rattle.ifs_text.proofs.DocumentBack.Nodes.{text_of_scalar, text_of_map, entries_of_map}
use Rattle.ifs_text.proofs.DocumentBack.Values.{machine_read, little_read, big_read, narrow_read, wide_read}

-- ---- the fields of its map

abbrev machine_value : Option ℕ → Option Node
machine_value None = None
machine_value (Some machine) = Some (node.Scalar (arch_name machine))

abbrev order_value : Option Order → Option Node
order_value None = None
order_value (Some Little) = Some (node.Scalar (codes "little"))
order_value (Some Big) = Some (node.Scalar (codes "big"))

abbrev width_value : Option Width → Option Node
width_value None = None
width_value (Some W32) = Some (node.Scalar (codes "32"))
width_value (Some W64) = Some (node.Scalar (codes "64"))

abbrev fields_by : Option Node → Option Node → Option Node → List Field
fields_by machine order width =
    (codes "ObjectFormat", Some (node.Scalar (codes "ELF"))) ∷ (codes "Arch", machine) ∷ (codes "Endianness", order) ∷ (codes "BitWidth", width) ∷ []

abbrev fields : Target → List Field
fields target = fields_by (machine_value target.machine) (order_value target.order) (width_value target.width)

machine_is : (machine : Option ℕ) → machine_entries machine ≡ optional (codes "Arch") (machine_value machine)
machine_is None = refl
machine_is (Some machine) = refl

order_is : (order : Option Order) → order_entries order ≡ optional (codes "Endianness") (order_value order)
order_is None = refl
order_is (Some Little) = refl
order_is (Some Big) = refl

width_is : (width : Option Width) → width_entries width ≡ optional (codes "BitWidth") (width_value width) ++ []
width_is None = refl
width_is (Some W32) = refl
width_is (Some W64) = refl

abbrev nodes_by : List Entry → List Entry → List Entry → List Entry
nodes_by machine order width = entries_by ((codes "ObjectFormat", Some (node.Scalar (codes "ELF"))) ∷ []) ++ (machine ++ (order ++ width))

nodes_are : (target : Target) → part_nodes target ≡ entries_by (fields target)
unfolding part_nodes
nodes_are target =
    let machine = machine_is target.machine in
    let order = order_is target.order in
    let width = width_is target.width in
    λ j. nodes_by (machine j) (order j) (width j)

-- ---- its keys

keys_right : (machine order width : Option Node) → keys_fault kinds.Target (entries_by (fields_by machine order width)) ≡ None
unfolding keys_fault key_fault key_fault_at missing_fault
keys_right None None None = refl
keys_right None None (Some w) = refl
keys_right None (Some o) None = refl
keys_right None (Some o) (Some w) = refl
keys_right (Some m) None None = refl
keys_right (Some m) None (Some w) = refl
keys_right (Some m) (Some o) None = refl
keys_right (Some m) (Some o) (Some w) = refl

-- ---- its values

machine_right : (machine : Option ℕ) → unwrap_or machine 0 < 2 ^ 16 → GivesNone part_fault (codes "Arch") (machine_value machine)
unfolding part_fault
machine_right None small = tt
machine_right (Some machine) small = ap (λ o. bad_unless (is_some o) (codes "Arch")) (machine_read machine small)

order_right : (order : Option Order) → GivesNone part_fault (codes "Endianness") (order_value order)
unfolding part_fault
order_right None = tt
order_right (Some Little) = ap (λ o. bad_unless (is_some o) (codes "Endianness")) little_read
order_right (Some Big) = ap (λ o. bad_unless (is_some o) (codes "Endianness")) big_read

width_right : (width : Option Width) → GivesNone part_fault (codes "BitWidth") (width_value width)
unfolding part_fault
width_right None = tt
width_right (Some W32) = ap (λ o. bad_unless (is_some o) (codes "BitWidth")) narrow_read
width_right (Some W64) = ap (λ o. bad_unless (is_some o) (codes "BitWidth")) wide_read

format_right : GivesNone part_fault (codes "ObjectFormat") (Some (node.Scalar (codes "ELF")))
unfolding part_fault
format_right = ap (λ text. bad_unless (is_elf text) (codes "ObjectFormat")) (text_of_scalar (codes "ELF"))

values_right : (target : Target) → unwrap_or target.machine 0 < 2 ^ 16 → first_of part_fault (entries_by (fields target)) ≡ None
values_right target small =
    first_none part_fault (fields target) (format_right, (machine_right target.machine small, (order_right target.order, (width_right target.width, tt))))

parts_right : (target : Target) → unwrap_or target.machine 0 < 2 ^ 16 → parts_fault (part_nodes target) ≡ None
unfolding parts_fault
parts_right target small =
    ap parts_fault (nodes_are target)
    ∙ ap (λ o. option_or o (first_of part_fault (entries_by (fields target)))) (keys_right (machine_value target.machine) (order_value target.order) (width_value target.width))
    ∙ values_right target small

-- ---- what its map says

machine_said : (machine : Option ℕ) → unwrap_or machine 0 < 2 ^ 16 → option_and_then machine_in (machine_value machine) ≡ machine
machine_said None small = refl
machine_said (Some machine) small = machine_read machine small

order_said : (order : Option Order) → option_and_then order_in (order_value order) ≡ order
order_said None = refl
order_said (Some Little) = little_read
order_said (Some Big) = big_read

width_said : (width : Option Width) → option_and_then width_in (width_value width) ≡ width
width_said None = refl
width_said (Some W32) = narrow_read
width_said (Some W64) = wide_read

value_here : (target : Target) (key : List ℕ) (value : Option Node) → value_at key (entries_by (fields target)) ≡ option_or value None → value_at key (entries_by (fields target)) ≡ value
value_here target key value is = is ∙ or_none value

fields_said : (target : Target) → target.triple ≡ None → unwrap_or target.machine 0 < 2 ^ 16 → target_of_map (entries_by (fields target)) ≡ target
fields_said target none small =
    let triple = sym none in
    let machine = ap (option_and_then machine_in) (value_here target (codes "Arch") (machine_value target.machine) (value_is (codes "Arch") (fields target))) ∙ machine_said target.machine small in
    let order = ap (option_and_then order_in) (value_here target (codes "Endianness") (order_value target.order) (value_is (codes "Endianness") (fields target))) ∙ order_said target.order in
    let width = ap (option_and_then width_in) (value_here target (codes "BitWidth") (width_value target.width) (value_is (codes "BitWidth") (fields target))) ∙ width_said target.width in
    λ j. record { triple = triple j; machine = machine j; order = order j; width = width j }

parts_said : (target : Target) → target.triple ≡ None → unwrap_or target.machine 0 < 2 ^ 16 → target_of_map (part_nodes target) ≡ target
parts_said target none small = ap target_of_map (nodes_are target) ∙ fields_said target none small

-- ---- a triple

none_there : {X : Type 0} (value : Option X) → is_none value ≡ true → value ≡ None
none_there None h = refl
none_there (Some x) h = absurd (cc)

triple_said : (target : Target) (triple : List ℕ) → target.triple ≡ Some triple → is_proper_target (Some triple) target ≡ true → target_of_triple triple ≡ target
triple_said target triple is proper =
    let three = and_parts (is_some (parts_of_triple triple) && is_none target.machine && is_none target.order) (is_none target.width) proper in
    let two = and_parts (is_some (parts_of_triple triple) && is_none target.machine) (is_none target.order) three.0 in
    let one = and_parts (is_some (parts_of_triple triple)) (is_none target.machine) two.0 in
    let name = sym is in
    let machine = sym (none_there target.machine one.1) in
    let order = sym (none_there target.order two.1) in
    let width = sym (none_there target.width three.1) in
    let known : target_of_triple triple ≡ record { triple = Some triple; machine = None; order = None; width = None } =
    ap (λ test. if test then record { triple = Some triple; machine = None; order = None; width = None } else nothing_known) one.0 in
    known ∙ (λ j. record { triple = name j; machine = machine j; order = order j; width = width j })

is_known : (target : Target) (triple : List ℕ) → is_proper_target (Some triple) target ≡ true → is_some (parts_of_triple triple) ≡ true
is_known target triple proper =
    let three = and_parts (is_some (parts_of_triple triple) && is_none target.machine && is_none target.order) (is_none target.width) proper in
    let two = and_parts (is_some (parts_of_triple triple) && is_none target.machine) (is_none target.order) three.0 in
    (and_parts (is_some (parts_of_triple triple)) (is_none target.machine) two.0).0

-- ---- the value of the target

abbrev parts_value : Bool → Target → Option Node
parts_value known target = if known then Some (node.Map (part_nodes target)) else None

abbrev value_by : Option (List ℕ) → Target → Option Node
value_by (Some triple) target = Some (node.Scalar triple)
value_by None target = parts_value (has_part target) target

abbrev pub target_value : Target → Option Node
target_value target = value_by target.triple target

entry_of_parts : (known : Bool) (target : Target) → (if known then entry (codes "Target") (node.Map (part_nodes target)) ∷ [] else []) ≡ optional (codes "Target") (parts_value known target)
entry_of_parts true target = refl
entry_of_parts false target = refl

entry_by : (triple : Option (List ℕ)) (target : Target) → target_entries_by triple target ≡ optional (codes "Target") (value_by triple target)
entry_by (Some triple) target = refl
entry_by None target = entry_of_parts (has_part target) target

pub target_is : (target : Target) → target_entries target ≡ optional (codes "Target") (target_value target)
target_is target = entry_by target.triple target

-- ---- it is right

map_right : (known : Bool) (target : Target) → unwrap_or target.machine 0 < 2 ^ 16 → GivesNone root_value_fault (codes "Target") (parts_value known target)
unfolding root_value_fault target_fault
map_right true target small =
    ap (λ text. target_fault_by (codes "Target") text (entries_of (node.Map (part_nodes target)))) (text_of_map (part_nodes target))
    ∙ ap (target_fault_by (codes "Target") None) (entries_of_map (part_nodes target)) ∙ parts_right target small
map_right false target small = tt

right_by : (triple : Option (List ℕ)) (target : Target) → is_proper_target triple target ≡ true → unwrap_or target.machine 0 < 2 ^ 16 → GivesNone root_value_fault (codes "Target") (value_by triple target)
unfolding root_value_fault target_fault
right_by (Some triple) target proper small =
    ap (λ text. target_fault_by (codes "Target") text (entries_of (node.Scalar triple))) (text_of_scalar triple)
    ∙ ap (λ test. bad_unless test (codes "Target")) (is_known target triple proper)
right_by None target proper small = map_right (has_part target) target small

pub target_right : (target : Target) → is_proper_target target.triple target ≡ true → unwrap_or target.machine 0 < 2 ^ 16 → GivesNone root_value_fault (codes "Target") (target_value target)
target_right target proper small = right_by target.triple target proper small

-- ---- and says the target

none_where_not : {X : Type 0} (value : Option X) → is_some value ≡ false → value ≡ None
none_where_not None h = refl
none_where_not (Some x) h = absurd (cc)

nothing_said : (target : Target) → target.triple ≡ None → has_part target ≡ false → nothing_known ≡ target
nothing_said target none unknown =
    let two = or_parts (is_some target.machine || is_some target.order) (is_some target.width) unknown in
    let one = or_parts (is_some target.machine) (is_some target.order) two.0 in
    let triple = sym none in
    let machine = sym (none_where_not target.machine one.0) in
    let order = sym (none_where_not target.order one.1) in
    let width = sym (none_where_not target.width two.1) in
    λ j. record { triple = triple j; machine = machine j; order = order j; width = width j }

abbrev said_of : Option Node → Target
said_of value = unwrap_or (option_map target_in value) nothing_known

map_said : (known : Bool) (target : Target) → has_part target ≡ known → target.triple ≡ None → unwrap_or target.machine 0 < 2 ^ 16 → said_of (parts_value known target) ≡ target
unfolding target_in
map_said true target is none small =
    ap (λ text. target_by text (entries_of (node.Map (part_nodes target)))) (text_of_map (part_nodes target))
    ∙ ap (target_by None) (entries_of_map (part_nodes target)) ∙ parts_said target none small
map_said false target is none small = nothing_said target none is

said_by : (triple : Option (List ℕ)) (target : Target) → target.triple ≡ triple → is_proper_target triple target ≡ true → unwrap_or target.machine 0 < 2 ^ 16 → said_of (value_by triple target) ≡ target
unfolding target_in
said_by (Some triple) target is proper small =
    ap (λ text. target_by text (entries_of (node.Scalar triple))) (text_of_scalar triple) ∙ triple_said target triple is proper
said_by None target is proper small = map_said (has_part target) target refl is small

pub target_said : (target : Target) → is_proper_target target.triple target ≡ true → unwrap_or target.machine 0 < 2 ^ 16 → said_of (target_value target) ≡ target
target_said target proper small = said_by target.triple target refl proper small
