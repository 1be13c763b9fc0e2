-- The entries of the root that an interface is printed as, by their tokens.
use Rattle.std.proofs.Common.{ℕ, Bool, true, false, cond, List, [], ◌∷◌, ◌++◌, map, inr, Option, Some, None, refl, codes, decimal}
use Rattle.std.specs.List.{flat_map}
use Rattle.ifs_bytes.specs.declared.form.Order.{Order}
use Rattle.ifs_bytes.specs.declared.form.Order.TheVariants.{Little, Big}
use Rattle.ifs_bytes.specs.declared.form.Width.{Width}
use Rattle.ifs_bytes.specs.declared.form.Width.TheVariants.{W32, W64}
use Rattle.ifs_interface.specs.declared.symbol.Symbol.{Symbol}
use Rattle.ifs_interface.specs.declared.target.Target.{Target}
use Rattle.ifs_interface.specs.Arch.{arch_name}
use Rattle.yaml_tokens.specs.declared.token.Token.{Token}
use Rattle.yaml_tokens.specs.declared.token.Token.TheVariants as token
use Rattle.yaml_nodes.specs.declared.node.Node.{Node}
use Rattle.yaml_nodes.specs.declared.node.Node.TheVariants as node
use Rattle.yaml_nodes.specs.declared.node.Entry.{Entry}
use Rattle.yaml_nodes.specs.Nodes.{entry}
use Rattle.yaml_nodes.specs.Lists.{end, Lined, final, next}
use Rattle.yaml_nodes.specs.Flow.{seq as in_seq, Flow}
use Rattle.yaml_nodes.specs.Block.{seq_goes_on, Value, inline, below, pair, BlockItem, other, items, Block}
use Rattle.ifs_text.specs.Printed.{kind_name, has_part}
use Rattle.ifs_text.specs.Document.{scalar_entry, entry_of, machine_entries, order_entries, width_entries, part_nodes, target_entries_by, needed_node, needed_entries, size_entries, truth_entries, other_nodes, symbol_entries, symbol_node}
use Rattle.ifs_text.proofs.FlowEntries.{entry_tokens}
use Rattle.ifs_text.proofs.TargetTokens.{arch_tokens, order_tokens, width_tokens, part_tokens, map_tokens, target_tokens_by}
use Rattle.ifs_text.proofs.SymbolTokens.{name_tokens, needed_tokens, size_tokens, truth_tokens, warning_tokens, other_tokens, symbol_tokens, symbols_tokens}
use Rattle.ifs_text.proofs.FlowMaps.{flow_scalar, Puts, puts_none, puts_pair, puts_both, map_node}
use Rattle.ifs_text.proofs.RootEntries.{Follows, follows_none, follows_entry, follows_pair}

-- ---- the target

arch_puts : (machine : Option ℕ) → Puts (arch_tokens machine) (machine_entries machine)
arch_puts None = puts_none
arch_puts (Some machine) = puts_pair (codes "Arch") (arch_name machine)

order_puts : (order : Option Order) → Puts (order_tokens order) (order_entries order)
order_puts None = puts_none
order_puts (Some Little) = puts_pair (codes "Endianness") (codes "little")
order_puts (Some Big) = puts_pair (codes "Endianness") (codes "big")

width_puts : (width : Option Width) → Puts (width_tokens width) (width_entries width)
width_puts None = puts_none
width_puts (Some W32) = puts_pair (codes "BitWidth") (codes "32")
width_puts (Some W64) = puts_pair (codes "BitWidth") (codes "64")

abbrev part_list : Target → List Entry
part_list target = machine_entries target.machine ++ (order_entries target.order ++ width_entries target.width)

parts_put : (target : Target) → Puts (part_tokens target) (part_list target)
parts_put target =
    puts_both (arch_tokens target.machine) (order_tokens target.order ++ width_tokens target.width) (machine_entries target.machine) (order_entries target.order ++ width_entries target.width) (arch_puts target.machine)
    (puts_both (order_tokens target.order) (width_tokens target.width) (order_entries target.order) (width_entries target.width) (order_puts target.order) (width_puts target.width))

map_follows : (target : Target) (us : List Token) (es : List Entry) → Follows us es → Follows (map_tokens target ++ us) (entry (codes "Target") (node.Map (part_nodes target)) ∷ es)
unfolding part_nodes
map_follows target us es f =
    let behind_key = token.OpenMap ∷ token.Scalar (codes "ObjectFormat") ∷ token.Colon ∷ token.Scalar (codes "ELF") ∷ ((part_tokens target ++ token.CloseMap ∷ []) ++ us) in
    follows_entry (token.Scalar (codes "Target") ∷ token.Colon ∷ behind_key) us (entry (codes "Target") (node.Map (scalar_entry (codes "ObjectFormat") (codes "ELF") ∷ part_list target))) es
    (pair (inline (map_node 14 (codes "ObjectFormat") (codes "ELF") (part_tokens target) (part_list target) us (parts_put target)))) f

pub target_follows : (triple : Option (List ℕ)) (target : Target) (us : List Token) (es : List Entry) → Follows us es → Follows (target_tokens_by triple target ++ us) (target_entries_by triple target ++ es)
target_follows (Some triple) target us es f = follows_pair (codes "Target") triple us es f
target_follows None target us es f = by (has_part target)
  where
    by : (t : Bool) → Follows (cond t (map_tokens target) [] ++ us) (cond t (entry (codes "Target") (node.Map (part_nodes target)) ∷ []) [] ++ es)
    by true = map_follows target us es f
    by false = f

-- ---- the needed libraries

abbrev Items : List Token → Node → List Token → Type 0
Items = BlockItem (Block 14) (Value (Flow 14) (Block 14) false 2)

names_lined : (name : List ℕ) (names : List (List ℕ)) (us : List Token)
    → Lined Items (seq_goes_on 2) (token.Dash 4 ∷ token.Scalar name ∷ (flat_map name_tokens names ++ token.Line 0 ∷ us)) (map (λ n. node.Scalar n) (name ∷ names)) (token.Line 0 ∷ us)
names_lined name [] us = final (other refl (inline (flow_scalar 14 name (token.Line 0 ∷ us)))) refl
names_lined name (n ∷ names) us =
    let behind_name = token.Dash 4 ∷ token.Scalar n ∷ (flat_map name_tokens names ++ token.Line 0 ∷ us) in
    next (other refl (inline (flow_scalar 14 name (token.Line 2 ∷ behind_name)))) refl (names_lined n names us)

pub needed_follows : (names : List (List ℕ)) (us : List Token) (es : List Entry) → Follows (token.Line 0 ∷ us) es → Follows (needed_tokens names ++ token.Line 0 ∷ us) (needed_entries names ++ es)
needed_follows [] us es f = f
needed_follows (name ∷ names) us es f =
    let below_key = token.Dash 4 ∷ token.Scalar name ∷ (flat_map name_tokens names ++ token.Line 0 ∷ us) in
    follows_entry (token.Scalar (codes "NeededLibs") ∷ token.Colon ∷ token.Line 2 ∷ below_key) (token.Line 0 ∷ us) (entry (codes "NeededLibs") (needed_node (name ∷ names))) es
    (pair (below refl (items (names_lined name names us)))) f

-- ---- the symbols

size_puts : (size : Option ℕ) → Puts (size_tokens size) (size_entries size)
size_puts None = puts_none
size_puts (Some size) = puts_pair (codes "Size") (decimal size)

truth_puts : (key : List ℕ) (holds : Bool) → Puts (truth_tokens key holds) (truth_entries key holds)
truth_puts key true = puts_pair key (codes "true")
truth_puts key false = puts_none

warning_puts : (warning : Option (List ℕ)) → Puts (warning_tokens warning) (entry_of (codes "Warning") warning)
warning_puts None = puts_none
warning_puts (Some warning) = puts_pair (codes "Warning") warning

others_put : (symbol : Symbol) → Puts (other_tokens symbol) (other_nodes symbol)
unfolding other_nodes
others_put symbol =
    let weak_tokens = truth_tokens (codes "Weak") symbol.weak ++ warning_tokens symbol.warning in
    let weak_entries = truth_entries (codes "Weak") symbol.weak ++ entry_of (codes "Warning") symbol.warning in
    let weak_puts : Puts weak_tokens weak_entries = puts_both (truth_tokens (codes "Weak") symbol.weak) (warning_tokens symbol.warning) (truth_entries (codes "Weak") symbol.weak) (entry_of (codes "Warning") symbol.warning)
    (truth_puts (codes "Weak") symbol.weak) (warning_puts symbol.warning) in
    puts_both (size_tokens symbol.size) (truth_tokens (codes "Undefined") symbol.undefined ++ weak_tokens) (size_entries symbol.size) (truth_entries (codes "Undefined") symbol.undefined ++ weak_entries) (size_puts symbol.size)
    (puts_both (truth_tokens (codes "Undefined") symbol.undefined) weak_tokens (truth_entries (codes "Undefined") symbol.undefined) weak_entries (truth_puts (codes "Undefined") symbol.undefined) weak_puts)

-- the map of a symbol
abbrev pub type_tokens : Symbol → List Token
type_tokens symbol = entry_tokens (codes "Type") (kind_name symbol.kind) ++ other_tokens symbol

abbrev symbol_front : Symbol → List Token → List Token
symbol_front symbol rest = token.OpenMap ∷ token.Scalar (codes "Name") ∷ token.Colon ∷ token.Scalar symbol.name ∷ ((type_tokens symbol ++ token.CloseMap ∷ []) ++ rest)

symbol_flow : (symbol : Symbol) (rest : List Token) → Flow 14 (symbol_front symbol rest) (symbol_node symbol) rest
unfolding symbol_entries
symbol_flow symbol rest =
    let type_entries = scalar_entry (codes "Type") (kind_name symbol.kind) ∷ [] in
    map_node 13 (codes "Name") symbol.name (type_tokens symbol) (type_entries ++ other_nodes symbol) rest
    (puts_both (entry_tokens (codes "Type") (kind_name symbol.kind)) (other_tokens symbol) type_entries (other_nodes symbol) (puts_pair (codes "Type") (kind_name symbol.kind)) (others_put symbol))

symbol_item : (symbol : Symbol) (rest : List Token) → Items (token.Dash 4 ∷ symbol_front symbol rest) (symbol_node symbol) rest
symbol_item symbol rest = other refl (inline (symbol_flow symbol rest))

symbols_lined : (symbol : Symbol) (symbols : List Symbol) → Lined Items (seq_goes_on 2) (token.Dash 4 ∷ symbol_front symbol (flat_map symbol_tokens symbols)) (map symbol_node (symbol ∷ symbols)) []
symbols_lined symbol [] = final (symbol_item symbol []) refl
symbols_lined symbol (s ∷ symbols) = next (symbol_item symbol (flat_map symbol_tokens (s ∷ symbols))) refl (symbols_lined s symbols)

pub symbols_follow : (symbols : List Symbol) → Follows (symbols_tokens symbols) (entry (codes "Symbols") (node.Seq (map symbol_node symbols)) ∷ [])
symbols_follow [] =
    follows_entry (token.Scalar (codes "Symbols") ∷ token.Colon ∷ token.OpenSeq ∷ token.CloseSeq ∷ []) [] (entry (codes "Symbols") (node.Seq [])) [] (pair (inline (inr (in_seq end)))) follows_none
symbols_follow (symbol ∷ symbols) =
    follows_entry (token.Scalar (codes "Symbols") ∷ token.Colon ∷ flat_map symbol_tokens (symbol ∷ symbols)) [] (entry (codes "Symbols") (node.Seq (map symbol_node (symbol ∷ symbols)))) []
    (pair (below refl (items (symbols_lined symbol symbols)))) follows_none
