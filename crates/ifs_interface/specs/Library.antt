-- What a shared library stands for, once its file was read: plain data.
use Rattle.std.specs.Prelude.{◌≡◌, ℕ, Bool, true, List, Option}
use Rattle.std.specs.List.{list_all}
use Rattle.ifs_bytes.specs.declared.form.Order.{Order}
use Rattle.ifs_bytes.specs.declared.form.Width.{Width}
use Rattle.ifs_interface.specs.declared.row.DynRow.{DynRow}
use Rattle.ifs_interface.specs.Interface.{is_proper_name, is_proper_soname}

-- machine is e_machine; soname and needed are DT_SONAME and the DT_NEEDED names; rows are the visible rows
-- of the dynamic symbol table, in its order; versioned says that the library defines symbol versions
pub record LibraryRecord : Type 0 where
  pub machine : ℕ
  pub order : Order
  pub width : Width
  pub soname : Option (List ℕ)
  pub needed : List (List ℕ)
  pub rows : List DynRow
  pub versioned : Bool

-- all names of a library are proper
pub record HasProperNames (library : LibraryRecord) : Type 0 where
  pub soname_is_proper : is_proper_soname library.soname ≡ true
  pub needed_are_proper : list_all is_proper_name library.needed ≡ true
  pub rows_are_proper : list_all (λ row. is_proper_name row.name) library.rows ≡ true
