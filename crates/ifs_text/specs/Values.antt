-- The values of a text: which forms they have, and what they stand for.
use Rattle.std.specs.Prelude.{ℕ, Bool, true, false, List, [], ◌∷◌, take, drop, Option, Some, None, option_map, option_and_then, if◌then◌else◌, codes}
use Rattle.std.specs.List.{find}
use Rattle.ifs_bytes.specs.Numeral.{numeral, in_64_bits}
use Rattle.ifs_bytes.specs.declared.form.Order.{Order}
use Rattle.ifs_bytes.specs.declared.form.Order.TheVariants.{Little, Big}
use Rattle.ifs_bytes.specs.declared.form.Width.{Width}
use Rattle.ifs_bytes.specs.declared.form.Width.TheVariants.{W32, W64}
use Rattle.ifs_interface.specs.declared.symbol.Kind.{Kind}
use Rattle.ifs_interface.specs.declared.symbol.Kind.TheVariants.{NoType, Func, Object, Tls, Unknown}
use Rattle.ifs_interface.specs.Arch.{machine_named}
use Rattle.ifs_interface.specs.Interface.{is_proper_name}
use Rattle.ifs_interface.specs.Triple.{same_name}
use Rattle.yaml_nodes.specs.declared.node.Node.{Node}
use Rattle.yaml_nodes.specs.Nodes.{text_of}

-- what a table says of a text
abbrev pub among : {X : Type 0} → List (List ℕ × X) → List ℕ → Option X
among table text = option_map (λ e. e.1) (find (λ e. same_name text e.0) table)

-- what a scalar stands for, by what texts stand for
abbrev pub scalar_by : {X : Type 0} → (List ℕ → Option X) → Node → Option X
scalar_by meaning node = option_and_then meaning (text_of node)

-- a proper name
abbrev pub proper : List ℕ → Option (List ℕ)
proper name = if is_proper_name name then Some name else None

unfoldable pub name_in : Node → Option (List ℕ)
name_in node = scalar_by proper node

-- a machine, a byte order, a width
unfoldable pub machine_in : Node → Option ℕ
machine_in node = scalar_by machine_named node

unfoldable pub orders : List (List ℕ × Order)
orders = (codes "little", Little) ∷ (codes "big", Big) ∷ []

unfoldable pub order_in : Node → Option Order
order_in node = scalar_by (among orders) node

unfoldable pub widths : List (List ℕ × Width)
widths = (codes "32", W32) ∷ (codes "64", W64) ∷ []

unfoldable pub width_in : Node → Option Width
width_in node = scalar_by (among widths) node

-- the type of a symbol
unfoldable pub kinds : List (List ℕ × Kind)
kinds = (codes "NoType", NoType) ∷ (codes "Func", Func) ∷ (codes "Object", Object) ∷ (codes "TLS", Tls) ∷ (codes "Unknown", Unknown) ∷ []

unfoldable pub kind_in : Node → Option Kind
kind_in node = scalar_by (among kinds) node

-- a size: decimal digits, or `0x` and hexadecimal ones, of a number below 2^64
abbrev pub number_named : List ℕ → Option ℕ
number_named text = if same_name (take 2 text) (codes "0x") then numeral 16 (drop 2 text) else numeral 10 text

unfoldable pub size_in : Node → Option ℕ
size_in node = scalar_by (λ text. in_64_bits (number_named text)) node

-- a truth value
unfoldable pub truths : List (List ℕ × Bool)
truths =
    (codes "true", true) ∷ (codes "True", true) ∷ (codes "TRUE", true) ∷ (codes "false", false) ∷ (codes "False", false) ∷ (codes "FALSE", false) ∷ []

unfoldable pub truth_in : Node → Option Bool
truth_in node = scalar_by (among truths) node
