-- The names that the link itself provides.
use Rattle.std.specs.Prelude.{ℕ, ◌==◌, nat_le, Bool, false, ◌&&◌, ◌||◌, List, [], ◌∷◌, codes, Option, unwrap_or, option_map}
use Rattle.std.specs.List.{list_all, list_any}
use Rattle.std.specs.Option.{option_or}
use Rattle.ifs_interface.specs.Triple.{same_name}
use Rattle.link_core.specs.OutputNames.{Output, behind}

-- these names are provided in every link
unfoldable pub always_provided : List (List ℕ)
always_provided =
    codes "_GLOBAL_OFFSET_TABLE_" ∷ codes "_DYNAMIC" ∷ codes "__ehdr_start" ∷ codes "__executable_start" ∷ codes "__dso_handle"
    ∷ codes "_etext" ∷ codes "etext" ∷ codes "__bss_start" ∷ codes "_edata" ∷ codes "edata" ∷ codes "_end" ∷ codes "end"
    ∷ codes "__preinit_array_start" ∷ codes "__preinit_array_end" ∷ codes "__init_array_start" ∷ codes "__init_array_end"
    ∷ codes "__fini_array_start" ∷ codes "__fini_array_end" ∷ []

-- a letter or `_`
abbrev pub is_word_start : ℕ → Bool
is_word_start b = (nat_le 65 b && nat_le b 90) || (nat_le 97 b && nat_le b 122) || b == 95

abbrev pub is_word_byte : ℕ → Bool
is_word_byte b = is_word_start b || (nat_le 48 b && nat_le b 57)

-- an identifier of C: letters, digits and `_`, and no digit first
unfoldable pub is_identifier : List ℕ → Bool
is_identifier [] = false
is_identifier (b ∷ bs) = is_word_start b && list_all is_word_byte bs

-- N of `__start_N` and `__stop_N`
unfoldable pub bounded_name : List ℕ → Option (List ℕ)
bounded_name name = option_or (behind (codes "__start_") name) (behind (codes "__stop_") name)

-- an output section has this name, which is an identifier
abbrev pub has_bounds : List Output → List ℕ → Bool
has_bounds outputs name = is_identifier name && list_any (λ o. same_name o.name name) outputs

-- in every link, or as the bounds of an output section that is there
unfoldable pub is_provided : List Output → List ℕ → Bool
is_provided outputs name =
    list_any (same_name name) always_provided || unwrap_or (option_map (has_bounds outputs) (bounded_name name)) false
