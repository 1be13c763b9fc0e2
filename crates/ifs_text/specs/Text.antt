-- The interface that a text is, or the first cause why it is none.
use Rattle.std.specs.Prelude.{ℕ, List, [], ◌∷◌, ◌++◌, Option, Some, None, Result, Ok, Err, option_map, if◌then◌else◌, codes}
use Rattle.ifs_bytes.specs.Outcome.{◌>>=◌}
use Rattle.ifs_interface.specs.declared.symbol.Symbol.{Symbol}
use Rattle.ifs_interface.specs.Interface.{InterfaceRecord, comes_before, names_of}
use Rattle.ifs_interface.specs.Triple.{same_name}
use Rattle.yaml_nodes.specs.declared.node.Node.{Node}
use Rattle.yaml_nodes.specs.declared.node.Entry.{Entry}
use Rattle.yaml_nodes.specs.declared.document.Document.{Document}
use Rattle.yaml_nodes.specs.declared.cause.YamlCause.{YamlCause}
use Rattle.yaml_nodes.specs.declared.cause.YamlCause.TheVariants as yaml
use Rattle.yaml_nodes.specs.Nodes.{entries_of}
use Rattle.yaml_profile.specs.Yaml.{read_of}
use Rattle.ifs_text.specs.declared.cause.TextCause.{TextCause}
use Rattle.ifs_text.specs.declared.cause.TextCause.TheVariants.{Yaml, NotIfs, RepeatedSymbol, Memory}
use Rattle.ifs_text.specs.Maps.{is_among}
use Rattle.ifs_text.specs.Faults.{root_fault}
use Rattle.ifs_text.specs.Parts.{soname_of, target_of, needed_of, symbols_of}

-- the entries of the root, where there is one document, it has the tag, and its root is a map
abbrev pub tagged : Option (List ℕ) → Node → Option (List Entry)
tagged (Some tag) root = if same_name tag (codes "!ifs-v1") then entries_of root else None
tagged None root = None

unfoldable pub root_of : List Document → Option (List Entry)
root_of [] = None
root_of (d ∷ []) = tagged d.tag d.root
root_of (d ∷ e ∷ ds) = None

abbrev pub or_not_ifs : Option (List Entry) → Result (List Entry) TextCause
or_not_ifs (Some entries) = Ok entries
or_not_ifs None = Err NotIfs

-- nothing is wrong, or the cause
abbrev pub unless : Option TextCause → Result (Unit {0}) TextCause
unless None = Ok tt
unless (Some cause) = Err cause

-- the first name that stands among those before it
abbrev pub second_after : List (List ℕ) → List (List ℕ) → Option (List ℕ)
second_after before [] = None
second_after before (n ∷ ns) = if is_among n before then Some n else second_after (before ++ n ∷ []) ns

unfoldable pub second : List (List ℕ) → Option (List ℕ)
second names = second_after [] names

-- symbols in byte order of their names
abbrev pub insert_symbol : Symbol → List Symbol → List Symbol
insert_symbol s [] = s ∷ []
insert_symbol s (t ∷ ts) = if comes_before t.name s.name then t ∷ insert_symbol s ts else s ∷ t ∷ ts

abbrev pub by_name : List Symbol → List Symbol
by_name [] = []
by_name (s ∷ ss) = insert_symbol s (by_name ss)

-- what the map of the root says
unfoldable pub interface_of_map : List Entry → InterfaceRecord
interface_of_map entries = record {
  soname = soname_of entries;
  target = target_of entries;
  needed = needed_of entries;
  symbols = by_name (symbols_of entries);
}

-- the interface, unless two symbols have one name
unfoldable pub interface_said : List Entry → Result InterfaceRecord TextCause
interface_said entries = do
  _ ← unless (option_map RepeatedSymbol (second (names_of (symbols_of entries))))
  Ok (interface_of_map entries)

-- the interface of the map of the root
unfoldable pub interface_in_map : List Entry → Result InterfaceRecord TextCause
interface_in_map entries = do
  _ ← unless (root_fault entries)
  interface_said entries

-- the interface of documents
unfoldable pub interface_in : List Document → Result InterfaceRecord TextCause
interface_in documents = do
  entries ← or_not_ifs (root_of documents)
  interface_in_map entries

-- a fault of the YAML goes before all others
abbrev pub yaml_cause : YamlCause → TextCause
yaml_cause (yaml.At at kind) = Yaml (yaml.At at kind)
yaml_cause yaml.Memory = Memory

abbrev pub or_yaml : Result (List Document) YamlCause → Result (List Document) TextCause
or_yaml (Ok documents) = Ok documents
or_yaml (Err cause) = Err (yaml_cause cause)

-- the interface of a text, or the first cause
unfoldable pub interface_of_text : List ℕ → Result InterfaceRecord TextCause
interface_of_text text = do
  documents ← or_yaml (read_of text)
  interface_in documents
