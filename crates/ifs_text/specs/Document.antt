-- The document that an interface is printed as, by its nodes.
use Rattle.std.specs.Prelude.{ℕ, Bool, List, [], ◌∷◌, ◌++◌, map, Option, Some, None, if◌then◌else◌, codes, decimal}
use Rattle.ifs_bytes.specs.declared.form.Order.{Order}
use Rattle.ifs_bytes.specs.declared.form.Order.TheVariants.{Little, Big}
use Rattle.ifs_bytes.specs.declared.form.Width.{Width}
use Rattle.ifs_bytes.specs.declared.form.Width.TheVariants.{W32, W64}
use Rattle.ifs_interface.specs.declared.symbol.Symbol.{Symbol}
use Rattle.ifs_interface.specs.declared.target.Target.{Target}
use Rattle.ifs_interface.specs.Arch.{arch_name}
use Rattle.ifs_interface.specs.Interface.{InterfaceRecord}
use Rattle.yaml_nodes.specs.declared.node.Node.{Node}
use Rattle.yaml_nodes.specs.declared.node.Node.TheVariants as node
use Rattle.yaml_nodes.specs.declared.node.Entry.{Entry}
use Rattle.yaml_nodes.specs.declared.document.Document.{Document}
use Rattle.yaml_nodes.specs.Nodes.{entry}
use Rattle.yaml_nodes.specs.Documents.{document}
use Rattle.ifs_text.specs.Printed.{kind_name, has_part}

-- a key and a scalar
abbrev pub scalar_entry : List ℕ → List ℕ → Entry
scalar_entry key text = entry key (node.Scalar text)

-- such an entry of what is there
abbrev pub entry_of : List ℕ → Option (List ℕ) → List Entry
entry_of key None = []
entry_of key (Some text) = scalar_entry key text ∷ []

-- ---- the target

abbrev pub machine_entries : Option ℕ → List Entry
machine_entries None = []
machine_entries (Some machine) = scalar_entry (codes "Arch") (arch_name machine) ∷ []

abbrev pub order_entries : Option Order → List Entry
order_entries None = []
order_entries (Some Little) = scalar_entry (codes "Endianness") (codes "little") ∷ []
order_entries (Some Big) = scalar_entry (codes "Endianness") (codes "big") ∷ []

abbrev pub width_entries : Option Width → List Entry
width_entries None = []
width_entries (Some W32) = scalar_entry (codes "BitWidth") (codes "32") ∷ []
width_entries (Some W64) = scalar_entry (codes "BitWidth") (codes "64") ∷ []

unfoldable pub part_nodes : Target → List Entry
part_nodes target =
    scalar_entry (codes "ObjectFormat") (codes "ELF")
    ∷ (machine_entries target.machine ++ (order_entries target.order ++ width_entries target.width))

abbrev pub target_entries_by : Option (List ℕ) → Target → List Entry
target_entries_by (Some triple) target = scalar_entry (codes "Target") triple ∷ []
target_entries_by None target = if has_part target then entry (codes "Target") (node.Map (part_nodes target)) ∷ [] else []

abbrev pub target_entries : Target → List Entry
target_entries target = target_entries_by target.triple target

-- ---- the needed libraries

abbrev pub needed_node : List (List ℕ) → Node
needed_node names = node.Seq (map (λ name. node.Scalar name) names)

abbrev pub needed_entries : List (List ℕ) → List Entry
needed_entries [] = []
needed_entries (name ∷ names) = entry (codes "NeededLibs") (needed_node (name ∷ names)) ∷ []

-- ---- the symbols

abbrev pub size_entries : Option ℕ → List Entry
size_entries None = []
size_entries (Some size) = scalar_entry (codes "Size") (decimal size) ∷ []

abbrev pub truth_entries : List ℕ → Bool → List Entry
truth_entries key holds = if holds then scalar_entry key (codes "true") ∷ [] else []

-- what some symbols have
unfoldable pub other_nodes : Symbol → List Entry
other_nodes symbol =
    size_entries symbol.size
    ++ (truth_entries (codes "Undefined") symbol.undefined
    ++ (truth_entries (codes "Weak") symbol.weak
    ++ entry_of (codes "Warning") symbol.warning))

unfoldable pub symbol_entries : Symbol → List Entry
symbol_entries symbol =
    scalar_entry (codes "Name") symbol.name ∷ (scalar_entry (codes "Type") (kind_name symbol.kind) ∷ other_nodes symbol)

abbrev pub symbol_node : Symbol → Node
symbol_node symbol = node.Map (symbol_entries symbol)

-- ---- the whole

unfoldable pub root_entries : InterfaceRecord → List Entry
root_entries i =
    scalar_entry (codes "IfsVersion") (codes "3.0")
    ∷ (entry_of (codes "SoName") i.soname
    ++ (target_entries i.target
    ++ (needed_entries i.needed
    ++ entry (codes "Symbols") (node.Seq (map symbol_node i.symbols)) ∷ [])))

abbrev pub document_of : InterfaceRecord → Document
document_of i = document (Some (codes "!ifs-v1")) (node.Map (root_entries i))
