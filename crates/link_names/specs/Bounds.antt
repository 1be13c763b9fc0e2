-- The names that a link provides, by the names of its output sections.
use Rattle.std.specs.Prelude.{ℕ, Bool, false, ◌&&◌, ◌||◌, List, [], ◌∷◌, codes, option_map, unwrap_or}
use Rattle.std.specs.List.{list_any}
use Rattle.std.specs.List.Sorted.{IsSortedByKey}
use Rattle.std.specs.Ordering.{nat_cmp}
use Rattle.std.specs.Cmp.Lexicographic.{slice_cmp}
use denote.Ref.{Bor}
use Rattle.ifs_interface.specs.Triple.{same_name}
use Rattle.link_core.specs.Provided.{always_provided, bounded_name, is_identifier}

-- one of the names is this one
abbrev pub has_name : List ℕ → List (Bor (List ℕ)) → Bool
has_name name names = list_any (λ n. same_name n.now name) names

abbrev pub AreInOrder : List (Bor (List ℕ)) → Type 0
AreInOrder names = IsSortedByKey (λ n. n.now) (slice_cmp nat_cmp) names

-- the names that are provided in every link, in three parts
unfoldable pub starts : List (List ℕ)
starts =
    codes "_GLOBAL_OFFSET_TABLE_" ∷ codes "_DYNAMIC" ∷ codes "__ehdr_start" ∷ codes "__executable_start" ∷ codes "__dso_handle" ∷ []

unfoldable pub ends : List (List ℕ)
ends =
    codes "_etext" ∷ codes "etext" ∷ codes "__bss_start" ∷ codes "_edata" ∷ codes "edata" ∷ codes "_end" ∷ codes "end" ∷ []

unfoldable pub arrays : List (List ℕ)
arrays =
    codes "__preinit_array_start" ∷ codes "__preinit_array_end" ∷ codes "__init_array_start" ∷ codes "__init_array_end"
    ∷ codes "__fini_array_start" ∷ codes "__fini_array_end" ∷ []

-- in every link, or as the bounds of one of these output sections
abbrev pub is_provided_by : List (Bor (List ℕ)) → List ℕ → Bool
is_provided_by sections name =
    list_any (same_name name) always_provided
    || unwrap_or (option_map (λ n. is_identifier n && has_name n sections) (bounded_name name)) false
