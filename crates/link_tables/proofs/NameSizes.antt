-- How many bytes .dynstr has, and which names are bound to objects.
use Rattle.std.proofs.Common.{◌≡◌, ℕ, ◌+◌, List, [], ◌∷◌, ◌++◌, Option, Some, None, map, length, refl, ap, sym, ◌∙◌, arith, suc, cond, Bool, true, false}
use Rattle.std.specs.List.{list_any, position_or_len, sum_by}
use Rattle.std.specs.Option.{is_some, option_map_or, option_to_list}
use Rattle.std.specs.Prelude.{nat_lt, not, slice_get, ◌||◌}
use Rattle.std.proofs.lemmas.Bool.Decides.{nat_tests}
use Rattle.std.proofs.lemmas.List.Sums.{sum_by-append, sum_by-cons}
use Rattle.link_core.specs.declared.resolution.NameRow.{NameRow}
use Rattle.link_core.specs.Planned.{Planned, name_at, object_name}
use Rattle.link_core.specs.Strings.{dynamic_strings, soname_of, string_table_size, symbol_names}
use Rattle.link_tables.specs.Names.{is_defined, name_room, option_room, rows_room, strings_room}

sum_of_mapped : {A B : Type 0} (f : B → ℕ) (g : A → B) (xs : List A) → sum_by f (map g xs) ≡ sum_by (λ x. f (g x)) xs
sum_of_mapped f g [] = refl
sum_of_mapped f g (x ∷ xs) = sum_by-cons f (g x) (map g xs) ∙ ap (λ (n : ℕ). f (g x) + n) (sum_of_mapped f g xs) ∙ sym (sum_by-cons (λ y. f (g y)) x xs)

room_of : (o : Option NameRow) → length (option_map_or (λ row. row.name) o []) + 1 ≡ option_map_or (λ row. length row.name) o 0 + 1
room_of None = refl
room_of (Some row) = refl

name_room_is : (j : Planned) (n : ℕ) → length (name_at j n) + 1 ≡ name_room j.names.names n
unfolding name_at
name_room_is j n = room_of (slice_get j.names.names n)

rows_are : (j : Planned) (rows : List ℕ) → sum_by (λ name. length name + 1) (map (name_at j) rows) ≡ rows_room j.names.names rows
rows_are j rows = sum_of_mapped (λ name. length name + 1) (name_at j) rows ∙ (λ i. sum_by (λ n. name_room_is j n i) rows)

option_is : (o : Option (List ℕ)) → sum_by (λ name. length name + 1) (option_to_list o) ≡ option_room o
option_is None = refl
option_is (Some text) = omega (arith, sum_by-cons (λ (name : List ℕ). length name + 1) text [])

pub strings_counted : (j : Planned) → string_table_size (dynamic_strings j) ≡ strings_room j.options j.names j.plan
unfolding string_table_size dynamic_strings strings_room
strings_counted j =
    let f : List ℕ → ℕ = λ name. length name + 1 in
    let imports = j.plan.imports in
    let exports = j.plan.exports in
    let needed = j.names.needed in
    let soname = option_to_list (soname_of j.options) in
    let runpath = option_to_list j.options.runpath in
    let rows = symbol_names j in
    let a = sum_by-append f (rows ++ needed ++ soname) runpath in
    let b = sum_by-append f (rows ++ needed) soname in
    let c = sum_by-append f rows needed in
    let d = rows_are j (imports ++ exports) in
    let e = sum_by-append (name_room j.names.names) imports exports in
    omega (arith, a, b, c, d, e, option_is (soname_of j.options), option_is j.options.runpath)

-- ---- a name that is bound to an object

found_by : {X : Type 0} (b : Bool) (x : X) → is_some (cond b (Some x) None) ≡ b
found_by true x = refl
found_by false x = refl

step : (b any : Bool) (k n : ℕ) → any ≡ nat_lt k n → (b || any) ≡ nat_lt (cond (not b) (1 + k) 0) (suc n)
step true any k n h = grind (arith, nat_tests)
step false any k n h = grind (arith, nat_tests)

any_by_place : {X : Type 0} (p : X → Bool) (xs : List X) → list_any p xs ≡ nat_lt (position_or_len p xs) (length xs)
any_by_place p [] = refl
any_by_place p (x ∷ xs) = step (p x) (list_any p xs) (position_or_len p xs) (length xs) (any_by_place p xs)

pub name_is_defined : (j : Planned) (name : List ℕ) → is_some (object_name j name) ≡ is_defined j.names.names name
unfolding object_name
name_is_defined j name =
    found_by _ _ ∙ sym (any_by_place _ j.names.names)
