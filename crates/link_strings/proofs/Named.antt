-- The strings of .dynstr, part by part.
use Rattle.std.proofs.Common.{◌≡◌, ℕ, List, [], ◌++◌, map, refl, sym, ap, ◌∙◌}
use Rattle.std.specs.Option.{option_to_list}
use Rattle.std.proofs.lemmas.List.{map-append}
use Rattle.link_core.specs.Planned.{Planned, name_at}
use Rattle.link_core.specs.Strings.{dynamic_strings, soname_of, symbol_names}
use Rattle.link_strings.specs.Named.{name_in}

names_are : (j : Planned) (rows : List ℕ) → map (name_in j.names) rows ≡ map (name_at j) rows
unfolding name_at
names_are j rows = refl

-- the imports, then the exports
pub symbols_are : (j : Planned) (none imports all : List (List ℕ)) → none ≡ [] → imports ≡ none ++ map (name_in j.names) j.plan.imports → all ≡ imports ++ map (name_in j.names) j.plan.exports
    → all ≡ symbol_names j
symbols_are j none imports all empty is more =
    let f = name_in j.names in
    more
    ∙ ap (λ (xs : List (List ℕ)). xs ++ map f j.plan.exports) (is ∙ ap (λ (xs : List (List ℕ)). xs ++ map f j.plan.imports) empty)
    ∙ sym (map-append f j.plan.imports j.plan.exports)
    ∙ names_are j (j.plan.imports ++ j.plan.exports)

-- the names of the rows, the needed libraries, the soname and the runpath
pub strings_are : (j : Planned) (rows needed soname all : List (List ℕ)) → rows ≡ symbol_names j → needed ≡ rows ++ j.names.needed → soname ≡ needed ++ option_to_list (soname_of j.options) → all ≡ soname ++ option_to_list j.options.runpath
    → all ≡ dynamic_strings j
unfolding dynamic_strings
strings_are j rows needed soname all is more last path =
    path
    ∙ ap (λ (xs : List (List ℕ)). xs ++ option_to_list j.options.runpath) (last
    ∙ ap (λ (xs : List (List ℕ)). xs ++ option_to_list (soname_of j.options)) (more ∙ ap (λ (xs : List (List ℕ)). xs ++ j.names.needed) is))
