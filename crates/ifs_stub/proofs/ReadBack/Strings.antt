-- The names of an interface are found in the string table of its stub.
use Rattle.std.proofs.Common.{◌≡◌, ℕ, true, List, [], ◌∷◌, ◌++◌, length, Option, Some, None, refl, sym, ap, subst, arith, length-append}
use Rattle.std.specs.List.{flat_map}
use Rattle.ifs_bytes.specs.Name.{name_in}
use Rattle.elf_dyn.specs.Strings.{name_of}
use Rattle.ifs_interface.specs.Interface.{InterfaceRecord, AreParts, is_proper_soname, names_of}
use Rattle.ifs_interface.specs.declared.symbol.Symbol.{Symbol}
use Rattle.ifs_stub.specs.StubFile.{terminated, soname_string, string_part, sizes_of}
use Rattle.ifs_stub.proofs.FileSize.{next, length-symbol_names, length-needed_names, length-string_part}
use Rattle.ifs_stub.proofs.ReadBack.Stands.{Stands, stands_last, stands_more, stands_slice}
use Rattle.ifs_stub.proofs.ReadBack.Names.{AreFound, name_is_read, names_are_read}
use Rattle.ifs_stub.proofs.ReadBack.Entries.{IsFound}

-- each name is found at its place
pub record NamesAreFound (look : ℕ → Option (List ℕ)) (i : InterfaceRecord) : Type 0 where
  pub symbols : AreFound look 1 (names_of i.symbols)
  pub needed : AreFound look (sizes_of i).needed_names i.needed
  pub soname : IsFound look (sizes_of i).soname_name i.soname

terminated_names : (symbols : List Symbol) → flat_map (λ symbol. terminated symbol.name) symbols ≡ flat_map terminated (names_of symbols)
terminated_names [] = refl
terminated_names (s ∷ ss) = ap (λ bytes. terminated s.name ++ bytes) (terminated_names ss)

soname_is_found : (table : List ℕ) (at : ℕ) (soname : Option (List ℕ)) → is_proper_soname soname ≡ true → Stands table at (soname_string soname) → IsFound (name_in table) at soname
soname_is_found table at None proper s = tt
soname_is_found table at (Some name) proper s = name_is_read table name at proper s

pub found_in_part : (i : InterfaceRecord) → AreParts i.soname i.target i.needed i.symbols → NamesAreFound (name_in (string_part i)) i
unfolding string_part sizes_of
found_in_part i parts =
    let table = string_part i in
    let symbols = flat_map (λ (symbol : Symbol). terminated symbol.name) i.symbols in
    let needed = flat_map terminated i.needed in
    let own = soname_string i.soname in
    let to_needed : length ((0 ∷ []) ++ symbols) ≡ (sizes_of i).needed_names = omega (arith, length-append (0 ∷ []) symbols, length-symbol_names i.symbols) in
    let to_soname : length ((0 ∷ []) ++ symbols ++ needed) ≡ (sizes_of i).soname_name = next ((0 ∷ []) ++ symbols) needed _ _ to_needed (length-needed_names i.needed) in
    let symbols_stand : Stands table 1 symbols = stands_more _ _ own _ (stands_more _ _ needed _ (stands_last (0 ∷ []) symbols 1 refl)) in
    record {
      symbols = names_are_read table 1 (names_of i.symbols) parts.names_are_proper (subst (Stands table 1) (terminated_names i.symbols) symbols_stand);
      needed = names_are_read table _ i.needed parts.needed_are_proper (stands_more _ _ own _ (stands_last ((0 ∷ []) ++ symbols) needed _ to_needed));
      soname = soname_is_found table _ i.soname parts.soname_is_proper (stands_last ((0 ∷ []) ++ symbols ++ needed) own _ to_soname);
    }

-- in the file too
pub found_in_file : (file : List ℕ) (at : ℕ) (i : InterfaceRecord) → AreParts i.soname i.target i.needed i.symbols → Stands file at (string_part i) → NamesAreFound (name_of file (record { from = at; size = (sizes_of i).strings })) i
unfolding name_of
found_in_file file at i parts s =
    subst (λ table. NamesAreFound (name_in table) i) (sym (stands_slice file (string_part i) at (sizes_of i).strings (length-string_part i) s)) (found_in_part i parts)
