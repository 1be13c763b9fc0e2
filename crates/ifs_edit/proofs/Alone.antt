-- One interface alone is merged as it is.
use Rattle.std.proofs.Common.{◌≡◌, ℕ, true, List, [], ◌∷◌, ◌++◌, map, cond, not, Some, None, Ok, refl, sym, ap, ◌∙◌}
use Rattle.std.specs.List.{list_all}
use Rattle.std.proofs.lemmas.Bool.{and_from, and_parts}
use Rattle.std.proofs.lemmas.List.{append-nil}
use Rattle.std.proofs.lemmas.List.Folds.{list_all-map}
use Rattle.ifs_interface.specs.declared.symbol.Symbol.{Symbol}
use Rattle.ifs_interface.specs.Interface.{InterfaceRecord, ascends, comes_before, names_of}
use Rattle.ifs_interface.proofs.Groups.{groups_of_run, is_after, is_named}
use Rattle.ifs_interface.proofs.Names.{same_name-itself}
use Rattle.ifs_edit.specs.declared.united.Field.{Field}
use Rattle.ifs_edit.specs.declared.united.Field.TheVariants as fields
use Rattle.ifs_edit.specs.Laws.{MergesAlone}
use Rattle.ifs_edit.specs.Merged.{agree_in, all_agree, by_name, merged, parts_agree, same_parts, united, united_each, unless_other}
use Rattle.ifs_edit.proofs.Sameness.{in_itself, names_itself, soname_itself, target_itself}

abbrev name : Symbol → List ℕ
name s = s.name

-- each symbol is the only one of its name
groups_alone : (symbols : List Symbol) → ascends (names_of symbols) ≡ true → by_name symbols ≡ map (λ s. s ∷ []) symbols
unfolding by_name
groups_alone [] h = refl
groups_alone (s ∷ symbols) h =
    let parts = and_parts (list_all (comes_before s.name) (names_of symbols)) (ascends (names_of symbols)) h in
    let named : list_all (is_named name s.name) (s ∷ []) ≡ true = and_from (is_named name s.name s) true (same_name-itself s.name) refl in
    let after : list_all (is_after name s.name) symbols ≡ true = sym (list_all-map (comes_before s.name) name symbols) ∙ parts.0 in
    groups_of_run name s [] symbols named after ∙ ap (λ groups. (s ∷ []) ∷ groups) (groups_alone symbols parts.1)

-- a symbol agrees with itself
agrees_in_itself : (field : Field) (s : Symbol) → agree_in field s (s ∷ []) ≡ Ok tt
unfolding agree_in
agrees_in_itself field s = ap (λ same. unless_other field s (cond (not same) (Some s) None)) (in_itself field s)

united_alone : (s : Symbol) → united (s ∷ []) ≡ Ok s
unfolding all_agree
united_alone s = rw (agrees_in_itself fields.Kind s, agrees_in_itself fields.Size s, agrees_in_itself fields.Weak s, agrees_in_itself fields.Undefined s, agrees_in_itself fields.Warning s) refl

each_alone : (symbols : List Symbol) → united_each (map (λ s. s ∷ []) symbols) ≡ Ok symbols
each_alone [] = refl
each_alone (s ∷ symbols) = rw (united_alone s, each_alone symbols) refl

parts_alone : (i : InterfaceRecord) → parts_agree i 0 (i ∷ []) ≡ Ok tt
unfolding same_parts
parts_alone i = rw (target_itself i.target, soname_itself i.soname, names_itself i.needed) refl

symbols_alone : (symbols : List Symbol) → ascends (names_of symbols) ≡ true → united_each (by_name (symbols ++ [])) ≡ Ok symbols
symbols_alone symbols h = ap (λ all. united_each (by_name all)) (append-nil symbols) ∙ ap united_each (groups_alone symbols h) ∙ each_alone symbols

pub merges_alone : MergesAlone
unfolding merged
merges_alone i is = rw (parts_alone i, symbols_alone i.symbols is.ascending) refl
