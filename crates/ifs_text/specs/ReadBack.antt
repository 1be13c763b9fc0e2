-- What it means that a printed interface is read back.
use Rattle.std.specs.Prelude.{◌≡◌, [], ◌∷◌, Ok}
use Rattle.ifs_interface.specs.Interface.{InterfaceRecord, IsInterface}
use Rattle.yaml_profile.specs.Yaml.{read_of}
use Rattle.ifs_text.specs.Printed.{printed_interface}
use Rattle.ifs_text.specs.Document.{document_of}
use Rattle.ifs_text.specs.DocumentBack.{HasNumbers}
use Rattle.ifs_text.specs.Text.{interface_of_text}

-- the text of an interface is read as the document that it is printed as, and no other
abbrev pub PrintedIsItsDocument : Type 0
PrintedIsItsDocument = (i : InterfaceRecord) → read_of (printed_interface i) ≡ Ok (document_of i ∷ [])

-- an interface whose numbers have the sizes of their types, as each in a program has
pub record CanBePrinted (i : InterfaceRecord) : Type 0 where
  pub interface : IsInterface i
  pub numbers : HasNumbers i

-- so it is read as the interface
abbrev pub PrintedIsReadBack : Type 0
PrintedIsReadBack = (i : InterfaceRecord) → CanBePrinted i → interface_of_text (printed_interface i) ≡ Ok i
