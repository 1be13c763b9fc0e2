-- The document that an interface is printed as has just that interface.
use Rattle.std.specs.Prelude.{◌≡◌, ℕ, ◌<◌, ◌^◌, Bool, true, List, [], ◌∷◌, nat_lt, unwrap_or, Ok}
use Rattle.std.specs.List.{list_all}
use Rattle.ifs_interface.specs.Interface.{InterfaceRecord, IsInterface}
use Rattle.ifs_interface.specs.declared.symbol.Symbol.{Symbol}
use Rattle.ifs_text.specs.Document.{document_of}
use Rattle.yaml_profile.specs.Yaml.{read_of}
use Rattle.ifs_text.specs.Text.{interface_in, interface_of_text}

-- the size is a number of 64 bits
abbrev pub has_small_size : Symbol → Bool
has_small_size symbol = nat_lt (unwrap_or symbol.size 0) (2 ^ 64)

-- the machine is a number of 16 bits, and each size one of 64
pub record HasNumbers (i : InterfaceRecord) : Type 0 where
  pub machine : unwrap_or i.target.machine 0 < 2 ^ 16
  pub sizes : list_all has_small_size i.symbols ≡ true

-- that document is read as the interface
abbrev pub DocumentsAreInterfaces : Type 0
DocumentsAreInterfaces = (i : InterfaceRecord) → IsInterface i → HasNumbers i → interface_in (document_of i ∷ []) ≡ Ok i

-- so a text of that one document is read as the interface
abbrev pub TextsAreInterfaces : Type 0
TextsAreInterfaces =
    (i : InterfaceRecord) (text : List ℕ) → IsInterface i → HasNumbers i → read_of text ≡ Ok (document_of i ∷ []) → interface_of_text text ≡ Ok i
