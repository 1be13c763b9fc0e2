-- The values of the names that a link provides.
use Rattle.std.specs.Option.{option_map_or}
use Rattle.std.specs.Prelude.{List, [], codes, find, ℕ, ◌∷◌}
use Rattle.ifs_interface.specs.Triple.{same_name}
use Rattle.link_core.specs.declared.layout.Layout.{Layout}
use Rattle.link_core.specs.Layout.{base_of}
use Rattle.link_core.specs.OutputNames.{behind}
use Rattle.link_core.specs.Places.{code_segment_end, file_end, named_section, section_end, table_address, zeros_start}
use Rattle.link_core.specs.Planned.{Planned}

-- the start and the end of an output section; the base where there is none
abbrev pub start_of : Planned → Layout → List ℕ → ℕ
start_of j l name = option_map_or (λ s. s.address) (named_section j l name) (base_of j.options.kind)

abbrev pub end_of : Planned → Layout → List ℕ → ℕ
end_of j l name = option_map_or section_end (named_section j l name) (base_of j.options.kind)

-- each name with its value
unfoldable pub provided_table : Planned → Layout → List (List ℕ × ℕ)
provided_table j l =
    (codes "_GLOBAL_OFFSET_TABLE_", table_address j l (codes ".got.plt"))
    ∷ (codes "_DYNAMIC", table_address j l (codes ".dynamic"))
    ∷ (codes "__ehdr_start", base_of j.options.kind)
    ∷ (codes "__executable_start", base_of j.options.kind)
    ∷ (codes "__dso_handle", base_of j.options.kind)
    ∷ (codes "_etext", code_segment_end l)
    ∷ (codes "etext", code_segment_end l)
    ∷ (codes "__bss_start", zeros_start l)
    ∷ (codes "_edata", file_end l)
    ∷ (codes "edata", file_end l)
    ∷ (codes "_end", l.end)
    ∷ (codes "end", l.end)
    ∷ (codes "__preinit_array_start", start_of j l (codes ".preinit_array"))
    ∷ (codes "__preinit_array_end", end_of j l (codes ".preinit_array"))
    ∷ (codes "__init_array_start", start_of j l (codes ".init_array"))
    ∷ (codes "__init_array_end", end_of j l (codes ".init_array"))
    ∷ (codes "__fini_array_start", start_of j l (codes ".fini_array"))
    ∷ (codes "__fini_array_end", end_of j l (codes ".fini_array"))
    ∷ []

-- __start_N and __stop_N are the start and the end of output section N
unfoldable pub section_bound : Planned → Layout → List ℕ → ℕ
section_bound j l name =
    option_map_or (start_of j l) (behind (codes "__start_") name)
    (option_map_or (end_of j l) (behind (codes "__stop_") name) 0)

unfoldable pub provided_value : Planned → Layout → List ℕ → ℕ
provided_value j l name =
    option_map_or (λ row. row.1) (find (λ row. same_name row.0 name) (provided_table j l))
    (section_bound j l name)
