-- The document that an interface is printed as has that interface.
use Rattle.std.proofs.Common.{◌≡◌, ℕ, List, [], ◌∷◌, Ok, ap, ◌∙◌}
use Rattle.ifs_bytes.specs.Outcome.{◌>>=◌}
use Rattle.ifs_interface.specs.Interface.{InterfaceRecord, IsInterface}
use Rattle.yaml_profile.specs.Yaml.{read_of}
use Rattle.ifs_text.specs.Document.{root_entries, document_of}
use Rattle.ifs_text.specs.DocumentBack.{HasNumbers}
use Rattle.ifs_text.specs.Text.{root_of, or_not_ifs, unless, interface_said, interface_in_map, interface_in, or_yaml, interface_of_text}
use Rattle.ifs_text.proofs.DocumentBack.Nodes.{entries_of_map}
use Rattle.ifs_text.proofs.DocumentBack.Entries.{entries_by}
use Rattle.ifs_text.proofs.DocumentBack.Roots.{fields, entries_are, root_right, root_said}

map_is : (i : InterfaceRecord) → IsInterface i → HasNumbers i → interface_in_map (entries_by (fields i)) ≡ Ok i
unfolding interface_in_map
map_is i is numbers =
    ap (λ fault. unless fault >>= (λ _. interface_said (entries_by (fields i)))) (root_right i is numbers) ∙ root_said i is numbers

pub documents_are_interfaces : (i : InterfaceRecord) → IsInterface i → HasNumbers i → interface_in (document_of i ∷ []) ≡ Ok i
unfolding interface_in root_of
documents_are_interfaces i is numbers =
    ap (λ entries. or_not_ifs entries >>= interface_in_map) (entries_of_map (root_entries i)) ∙ ap interface_in_map (entries_are i) ∙ map_is i is numbers

pub texts_are_interfaces : (i : InterfaceRecord) (text : List ℕ) → IsInterface i → HasNumbers i → read_of text ≡ Ok (document_of i ∷ []) → interface_of_text text ≡ Ok i
unfolding interface_of_text
texts_are_interfaces i text is numbers read =
    ap (λ documents. or_yaml documents >>= interface_in) read ∙ documents_are_interfaces i is numbers
