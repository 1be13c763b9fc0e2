-- Small links, computed from the definitions: where their parts stand, and what is in them.
use Rattle.std.proofs.Common.{◌≡◌, ℕ, ◌*◌, ◌+◌, length, Bool, true, false, List, [], ◌∷◌, ◌++◌, map, refl}
use Rattle.ifs_bytes.specs.Outcome.{◌>>=◌}
use Rattle.std.specs.Prelude.{Option, Some, None, Result, Ok, Err, codes, pos, negsuc, ℤ}
use Rattle.ifs_bytes.specs.declared.form.Order.TheVariants.{Little}
use Rattle.ifs_bytes.specs.declared.form.Width.TheVariants.{W64}
use Rattle.ifs_interface.specs.declared.fact.Fact.{Fact}
use Rattle.ifs_interface.specs.declared.fact.Fact.TheVariants as facts
use Rattle.ifs_interface.specs.declared.row.DynRow.{DynRow}
use Rattle.ifs_interface.specs.Facts.{defined_in}
use Rattle.elf_object.specs.declared.reference.Reference.{Reference}
use Rattle.elf_object.specs.declared.section.ObjSection.{ObjSection}
use Rattle.elf_object.specs.declared.symbol.ObjPlace.{ObjPlace}
use Rattle.elf_object.specs.declared.symbol.ObjPlace.TheVariants as at
use Rattle.elf_object.specs.declared.symbol.ObjSymbol.{ObjSymbol}
use Rattle.elf_object.specs.Record.{ObjectRecord}
use Rattle.elf_object.specs.Sections.{is_loadable}
use Rattle.link_machine.specs.X86.{x86_rules}
use Rattle.link_machine.specs.A64.{a64_rules}
use Rattle.link_machine.specs.Patch.{patch_by}
use Rattle.link_core.specs.declared.options.LinkOptions.{LinkOptions}
use Rattle.link_core.specs.declared.options.OutKind.{OutKind}
use Rattle.link_core.specs.declared.options.OutKind.TheVariants.{Exec, Pie, Shared}
use Rattle.link_core.specs.declared.plan.Plan.{Plan}
use Rattle.link_core.specs.declared.plan.Slot.TheVariants as slots
use Rattle.link_core.specs.declared.plan.SymbolId.TheVariants as ids
use Rattle.link_core.specs.declared.refusal.LinkRefusal.{LinkRefusal}
use Rattle.link_core.specs.declared.refusal.LinkRefusal.TheVariants as refusals
use Rattle.link_core.specs.declared.resolution.Bound.{Bound}
use Rattle.link_core.specs.declared.resolution.Bound.TheVariants as bounds
use Rattle.link_core.specs.declared.resolution.NameRow.{NameRow}
use Rattle.link_core.specs.declared.resolution.Resolution.{Resolution}
use Rattle.link_core.specs.Kept.{is_dropped, dropped_sections, is_kept, kept_sections}
use Rattle.link_core.specs.Mentions.{mentions_of, mentioned_names, strictest}
use Rattle.link_core.specs.Binding.{binding_of, common_size, common_align}
use Rattle.link_core.specs.OutputNames.{pieces_of, joined_names, output_name, class_of_section, kept_pieces, outputs_of}
use Rattle.link_core.specs.Provided.{always_provided, is_identifier, bounded_name, is_provided}
use Rattle.link_core.specs.Exports.{is_spoken_of, is_exported, is_preemptible, needed_names}
use Rattle.link_core.specs.Resolution.{scope_of, binding_in, row_of, versioned_side, other_machine, duplicate_in, unmet_want, hidden_in, undefined_in, is_offered_in, is_missing, library_undefined_in, library_undefined, no_entry, names_of, resolution_in, resolution_of}
use Rattle.link_core.specs.Need.{need_of, fits_class}
use Rattle.link_core.specs.Plan.{supported, needed_by, slots_of, entries_of, moves_of, plan_of}
use Rattle.link_core.specs.References.{uses_of, state_of_name, is_threaded_name, target_named, target_of}
use Rattle.link_core.specs.Side.{Side, Held, library_named}
use Rattle.link_core.specs.declared.refusal.At.{At}
use Rattle.link_core.specs.declared.resolution.Member.{Member}
use Rattle.link_core.specs.Aligned.{aligned, places_from, end_from}
use Rattle.link_core.specs.Commons.{commons_of, outputs_by, items_of}
use Rattle.link_core.specs.Contents.{interpreter_of, output_section, outputs_in, read_contents, executed_contents, written_contents, contents_of}
use Rattle.link_core.specs.Dynamic.{dynamic_part}
use Rattle.link_core.specs.Entries.{flags_value, dynamic_entries}
use Rattle.link_core.specs.Got.{slot_words, got_bytes}
use Rattle.link_core.specs.HashTable.{hash_of, next_in_bucket, hash_words, hash_bytes}
use Rattle.link_core.specs.Headers.{written_segment_flags, code_address, written_address, program_headers, program_header_bytes, names_offset, names_bytes, headers_offset, section_headers, section_header_bytes, entry_address, file_header}
use Rattle.link_core.specs.Layout.{segment_count, headers_size, read_end, code_start, code_end, written_start, tls_align, tls_start, tls_file_end, tls_end, data_start, written_end, addresses_of, item_places, output_position, pieces_at, commons_at, layout_by, image_span, section_names, layout_in, layout_of}
use Rattle.link_core.specs.Parts.{tables_of, table_bytes, section_parts, parts_of}
use Rattle.link_core.specs.Patch.{field_after, patches_checked, patched_by, uses_at, input_bytes, piece_bytes}
use Rattle.link_core.specs.Places.{numbered, table_position, table_address, table_size, named_section, read_segment_end, code_segment_end, file_end, zeros_start, section_address, section_position, common_address}
use Rattle.link_core.specs.Planned.{name_at, object_name, symbol_state, need_in}
use Rattle.link_core.specs.Plt.{plt_entry, plt_bytes, got_plt_bytes}
use Rattle.link_core.specs.ProvidedValues.{provided_table, section_bound, provided_value}
use Rattle.link_core.specs.Relocations.{slot_relas, use_at, move_relas, rela_dyn_bytes, plt_slot_address, rela_plt_bytes}
use Rattle.link_core.specs.Slots.{got_slot, tp_slot, tls_pair, module_pair, desc_pair, slots_for, slots_by, word_count, fill_count}
use Rattle.link_core.specs.Strings.{string_table, string_table_size, string_place, soname_of, dynamic_strings}
use Rattle.link_core.specs.Symbols.{import_of, export_of, dynamic_symbols, dynsym_bytes, symbol_index}
use Rattle.link_core.specs.Value.{row_value, name_value, symbol_value, block_offset, pointer_offset, symbol_offset, symbol_pointer, slot_address, symbol_slot, plt_entry_address, is_empty_call, reference_value}
use Rattle.link_core.specs.Contents.{Content}
use Rattle.link_core.specs.Planned.{Planned}
use Rattle.link_core.specs.declared.layout.Layout.{Layout}
use Rattle.elf_file.specs.Written.{section_bytes, segment_bytes, symbol_bytes, dynamic_bytes, header_bytes}
use Rattle.ifs_bytes.specs.Field.{number_at}

abbrev options : LinkOptions
options = record { kind = Exec; entry_name = codes "_start"; soname = None; runpath = None; interp = None; export_dynamic = false; allow_shlib_undefined = false; as_needed = false; bind_now = false }

abbrev symbol : List ℕ → ℕ → ℕ → ℕ → ObjPlace → ObjSymbol
symbol name binding kind visibility place = record { name = name; binding = binding; kind = kind; visibility = visibility; place = place; value = 0; size = 13 }

abbrev main_object : ObjectRecord
main_object = record {
  machine = 62;
  bytes = 232 ∷ 0 ∷ 0 ∷ 0 ∷ 0 ∷ 72 ∷ 139 ∷ 5 ∷ 0 ∷ 0 ∷ 0 ∷ 0 ∷ 195 ∷ [];
  sections = record { name = []; kind = 0; flags = 0; offset = 0; size = 0; align = 0 } ∷ record { name = codes ".text"; kind = 1; flags = 6; offset = 0; size = 13; align = 16 } ∷ [];
  symbols = symbol [] 0 0 0 at.Undefined ∷ symbol (codes "_start") 1 2 0 (at.In 1) ∷ symbol (codes "foo") 1 0 0 at.Undefined ∷ symbol (codes "bar") 1 0 0 at.Undefined ∷ [];
  references = record { section = 1; index = 0; offset = 1; symbol = 2; kind = 4; addend = negsuc 3 } ∷ record { section = 1; index = 1; offset = 8; symbol = 3; kind = 42; addend = negsuc 3 } ∷ [];
  groups = [];
}

abbrev dyn : List ℕ → ℕ → ℕ → DynRow
dyn name kind size = record { name = name; binding = 1; kind = kind; shndx = 7; value = 0; size = size }

abbrev foo_and_bar : List Side
foo_and_bar = Held (library_named (codes "F") (record {
  machine = record { machine = Some 62; order = Some Little; width = Some W64 };
  soname = Some (codes "libfoo.so");
  needed = [];
  wanted = [];
  fact_of = defined_in (dyn (codes "foo") 2 0 ∷ dyn (codes "bar") 1 42 ∷ []);
})) ∷ []

abbrev resolution : Resolution
resolution = record {
  names = record { name = codes "_start"; bound = bounds.Object 0 1; class = facts.Func; weak_only = false; visibility = 0; exported = false; preemptible = false }
      ∷ record { name = codes "bar"; bound = bounds.Library 0; class = facts.Object; weak_only = false; visibility = 0; exported = false; preemptible = false }
      ∷ record { name = codes "foo"; bound = bounds.Library 0; class = facts.Func; weak_only = false; visibility = 0; exported = false; preemptible = false } ∷ [];
  needed = codes "libfoo.so" ∷ [];
  dropped = [];
}

abbrev plan : Plan
plan = record { got = record { symbol = ids.Name 1; slot = slots.Got } ∷ []; plt = 2 ∷ []; moves = []; imports = 1 ∷ 2 ∷ []; exports = [] }

abbrev job : Planned
job = record { rules = x86_rules; options = options; objects = main_object ∷ []; names = resolution; plan = plan }

-- ---- a program of x86-64 that calls `foo` and loads `bar`

pub planned : (resolution_of options (main_object ∷ []) foo_and_bar ≡ Ok resolution) × (plan_of x86_rules options (main_object ∷ []) resolution ≡ Ok plan)
unfolding resolution_of resolution_in scope_of dropped_sections is_dropped mentions_of is_kept is_loadable mentioned_names strictest binding_of kept_pieces kept_sections outputs_of output_name joined_names class_of_section is_provided always_provided bounded_name is_identifier is_spoken_of is_exported is_preemptible needed_names binding_in row_of versioned_side other_machine duplicate_in unmet_want hidden_in undefined_in is_offered_in is_missing library_undefined_in library_undefined no_entry names_of defined_in common_size common_align uses_of state_of_name is_threaded_name target_named target_of need_of fits_class supported needed_by slots_of entries_of moves_of plan_of
planned = (refl, refl)

abbrev layout : Layout
layout = layout_by job

pub placed : (hash_words (codes "bar" ∷ codes "foo" ∷ []) ≡ 3 ∷ 3 ∷ 1 ∷ 0 ∷ 0 ∷ 0 ∷ 2 ∷ 0 ∷ [])
    × (table_address job layout (codes ".plt") ≡ 4198400)
    × (table_address job layout (codes ".got") ≡ 4202736)
    × (table_address job layout (codes ".got.plt") ≡ 4202744)
    × (section_address layout 0 1 ≡ 4198432)
    × (headers_offset job layout + 64 * (length layout.sections + 2) ≡ 9400)
    × (entry_address job layout ≡ 4198432)
unfolding resolution_of resolution_in scope_of dropped_sections is_dropped mentions_of is_kept is_loadable mentioned_names strictest binding_of kept_pieces kept_sections outputs_of output_name joined_names class_of_section is_provided always_provided bounded_name is_identifier is_spoken_of is_exported is_preemptible needed_names binding_in row_of versioned_side other_machine duplicate_in unmet_want hidden_in undefined_in is_offered_in is_missing library_undefined_in library_undefined no_entry names_of defined_in common_size common_align uses_of state_of_name is_threaded_name target_named target_of need_of fits_class supported needed_by slots_of entries_of moves_of plan_of aligned places_from end_from commons_of outputs_by items_of interpreter_of output_section outputs_in read_contents executed_contents written_contents contents_of dynamic_part flags_value dynamic_entries slot_words got_bytes hash_of next_in_bucket hash_words hash_bytes written_segment_flags code_address written_address program_headers program_header_bytes names_offset names_bytes headers_offset section_headers section_header_bytes entry_address file_header segment_count headers_size read_end code_start code_end written_start tls_align tls_start tls_file_end tls_end data_start written_end addresses_of item_places output_position pieces_at commons_at layout_by image_span section_names layout_in layout_of tables_of table_bytes section_parts parts_of field_after patches_checked patched_by uses_at input_bytes piece_bytes numbered table_position table_address table_size named_section read_segment_end code_segment_end file_end zeros_start section_address section_position common_address name_at object_name symbol_state need_in plt_entry plt_bytes got_plt_bytes provided_table section_bound provided_value slot_relas use_at move_relas rela_dyn_bytes plt_slot_address rela_plt_bytes got_slot tp_slot tls_pair module_pair desc_pair slots_for slots_by word_count fill_count string_table string_table_size string_place soname_of dynamic_strings import_of export_of dynamic_symbols dynsym_bytes symbol_index row_value name_value symbol_value block_offset pointer_offset symbol_offset symbol_pointer slot_address symbol_slot plt_entry_address is_empty_call reference_value number_at pieces_of patch_by
placed = (refl, refl, refl, refl, refl, refl, refl)

pub filled : (got_bytes job layout ≡ 0 ∷ 0 ∷ 0 ∷ 0 ∷ 0 ∷ 0 ∷ 0 ∷ 0 ∷ [])
    × (got_plt_bytes job layout ≡ 0 ∷ 32 ∷ 64 ∷ 0 ∷ 0 ∷ 0 ∷ 0 ∷ 0 ∷ 0 ∷ 0 ∷ 0 ∷ 0 ∷ 0 ∷ 0 ∷ 0 ∷ 0 ∷ 0 ∷ 0 ∷ 0 ∷ 0 ∷ 0 ∷ 0 ∷ 0 ∷ 0 ∷ 22 ∷ 16 ∷ 64 ∷ 0 ∷ 0 ∷ 0 ∷ 0 ∷ 0 ∷ [])
    × (plt_bytes job layout ≡ 255 ∷ 53 ∷ 250 ∷ 16 ∷ 0 ∷ 0 ∷ 255 ∷ 37 ∷ 252 ∷ 16 ∷ 0 ∷ 0 ∷ 15 ∷ 31 ∷ 64 ∷ 0 ∷ 255 ∷ 37 ∷ 250 ∷ 16 ∷ 0 ∷ 0 ∷ 104 ∷ 0 ∷ 0 ∷ 0 ∷ 0 ∷ 233 ∷ 224 ∷ 255 ∷ 255 ∷ 255 ∷ [])
    × (piece_bytes job layout 0 1 ≡ 232 ∷ 235 ∷ 255 ∷ 255 ∷ 255 ∷ 72 ∷ 139 ∷ 5 ∷ 196 ∷ 16 ∷ 0 ∷ 0 ∷ 195 ∷ [])
    × (rela_dyn_bytes job layout ≡ 240 ∷ 32 ∷ 64 ∷ 0 ∷ 0 ∷ 0 ∷ 0 ∷ 0 ∷ 6 ∷ 0 ∷ 0 ∷ 0 ∷ 1 ∷ 0 ∷ 0 ∷ 0 ∷ 0 ∷ 0 ∷ 0 ∷ 0 ∷ 0 ∷ 0 ∷ 0 ∷ 0 ∷ [])
    × (rela_plt_bytes job layout ≡ 16 ∷ 33 ∷ 64 ∷ 0 ∷ 0 ∷ 0 ∷ 0 ∷ 0 ∷ 7 ∷ 0 ∷ 0 ∷ 0 ∷ 2 ∷ 0 ∷ 0 ∷ 0 ∷ 0 ∷ 0 ∷ 0 ∷ 0 ∷ 0 ∷ 0 ∷ 0 ∷ 0 ∷ [])
unfolding resolution_of resolution_in scope_of dropped_sections is_dropped mentions_of is_kept is_loadable mentioned_names strictest binding_of kept_pieces kept_sections outputs_of output_name joined_names class_of_section is_provided always_provided bounded_name is_identifier is_spoken_of is_exported is_preemptible needed_names binding_in row_of versioned_side other_machine duplicate_in unmet_want hidden_in undefined_in is_offered_in is_missing library_undefined_in library_undefined no_entry names_of defined_in common_size common_align uses_of state_of_name is_threaded_name target_named target_of need_of fits_class supported needed_by slots_of entries_of moves_of plan_of aligned places_from end_from commons_of outputs_by items_of interpreter_of output_section outputs_in read_contents executed_contents written_contents contents_of dynamic_part flags_value dynamic_entries slot_words got_bytes hash_of next_in_bucket hash_words hash_bytes written_segment_flags code_address written_address program_headers program_header_bytes names_offset names_bytes headers_offset section_headers section_header_bytes entry_address file_header segment_count headers_size read_end code_start code_end written_start tls_align tls_start tls_file_end tls_end data_start written_end addresses_of item_places output_position pieces_at commons_at layout_by image_span section_names layout_in layout_of tables_of table_bytes section_parts parts_of field_after patches_checked patched_by uses_at input_bytes piece_bytes numbered table_position table_address table_size named_section read_segment_end code_segment_end file_end zeros_start section_address section_position common_address name_at object_name symbol_state need_in plt_entry plt_bytes got_plt_bytes provided_table section_bound provided_value slot_relas use_at move_relas rela_dyn_bytes plt_slot_address rela_plt_bytes got_slot tp_slot tls_pair module_pair desc_pair slots_for slots_by word_count fill_count string_table string_table_size string_place soname_of dynamic_strings import_of export_of dynamic_symbols dynsym_bytes symbol_index row_value name_value symbol_value block_offset pointer_offset symbol_offset symbol_pointer slot_address symbol_slot plt_entry_address is_empty_call reference_value number_at pieces_of patch_by
filled = (refl, refl, refl, refl, refl, refl)

-- ---- a position-independent program with an address in its data

abbrev data_object : ObjectRecord
data_object = record {
  machine = 62;
  bytes = 195 ∷ 0 ∷ 0 ∷ 0 ∷ 0 ∷ 0 ∷ 0 ∷ 0 ∷ 0 ∷ [];
  sections = record { name = []; kind = 0; flags = 0; offset = 0; size = 0; align = 0 } ∷ record { name = codes ".text"; kind = 1; flags = 6; offset = 0; size = 1; align = 16 } ∷ record { name = codes ".data"; kind = 1; flags = 3; offset = 1; size = 8; align = 8 } ∷ [];
  symbols = symbol [] 0 0 0 at.Undefined ∷ symbol (codes "_start") 1 2 0 (at.In 1) ∷ [];
  references = record { section = 2; index = 0; offset = 0; symbol = 1; kind = 1; addend = pos 0 } ∷ [];
  groups = [];
}

abbrev start_row : NameRow
start_row = record { name = codes "_start"; bound = bounds.Object 0 1; class = facts.Func; weak_only = false; visibility = 0; exported = false; preemptible = false }

abbrev pie : Planned
pie = record { rules = x86_rules; options = record options { kind = Pie }; objects = data_object ∷ []; names = record { names = start_row ∷ []; needed = []; dropped = [] }; plan = record { got = []; plt = []; moves = record { at = record { object = 0; section = 2; index = 0 }; symbol = None; relative = true } ∷ []; imports = []; exports = [] } }

pub moved : (section_address (layout_by pie) 0 2 ≡ 8392)
    × (rela_dyn_bytes pie (layout_by pie) ≡ 200 ∷ 32 ∷ 0 ∷ 0 ∷ 0 ∷ 0 ∷ 0 ∷ 0 ∷ 8 ∷ 0 ∷ 0 ∷ 0 ∷ 0 ∷ 0 ∷ 0 ∷ 0 ∷ 0 ∷ 16 ∷ 0 ∷ 0 ∷ 0 ∷ 0 ∷ 0 ∷ 0 ∷ [])
    × (piece_bytes pie (layout_by pie) 0 2 ≡ 0 ∷ 0 ∷ 0 ∷ 0 ∷ 0 ∷ 0 ∷ 0 ∷ 0 ∷ [])
unfolding resolution_of resolution_in scope_of dropped_sections is_dropped mentions_of is_kept is_loadable mentioned_names strictest binding_of kept_pieces kept_sections outputs_of output_name joined_names class_of_section is_provided always_provided bounded_name is_identifier is_spoken_of is_exported is_preemptible needed_names binding_in row_of versioned_side other_machine duplicate_in unmet_want hidden_in undefined_in is_offered_in is_missing library_undefined_in library_undefined no_entry names_of defined_in common_size common_align uses_of state_of_name is_threaded_name target_named target_of need_of fits_class supported needed_by slots_of entries_of moves_of plan_of aligned places_from end_from commons_of outputs_by items_of interpreter_of output_section outputs_in read_contents executed_contents written_contents contents_of dynamic_part flags_value dynamic_entries slot_words got_bytes hash_of next_in_bucket hash_words hash_bytes written_segment_flags code_address written_address program_headers program_header_bytes names_offset names_bytes headers_offset section_headers section_header_bytes entry_address file_header segment_count headers_size read_end code_start code_end written_start tls_align tls_start tls_file_end tls_end data_start written_end addresses_of item_places output_position pieces_at commons_at layout_by image_span section_names layout_in layout_of tables_of table_bytes section_parts parts_of field_after patches_checked patched_by uses_at input_bytes piece_bytes numbered table_position table_address table_size named_section read_segment_end code_segment_end file_end zeros_start section_address section_position common_address name_at object_name symbol_state need_in plt_entry plt_bytes got_plt_bytes provided_table section_bound provided_value slot_relas use_at move_relas rela_dyn_bytes plt_slot_address rela_plt_bytes got_slot tp_slot tls_pair module_pair desc_pair slots_for slots_by word_count fill_count string_table string_table_size string_place soname_of dynamic_strings import_of export_of dynamic_symbols dynsym_bytes symbol_index row_value name_value symbol_value block_offset pointer_offset symbol_offset symbol_pointer slot_address symbol_slot plt_entry_address is_empty_call reference_value number_at pieces_of patch_by
moved = (refl, refl, refl)

-- ---- a program of AArch64 that calls an address at and past the range of its call

abbrev far_object : ℕ → ObjectRecord
far_object far = record {
  machine = 183;
  bytes = 0 ∷ 0 ∷ 0 ∷ 148 ∷ [];
  sections = record { name = []; kind = 0; flags = 0; offset = 0; size = 0; align = 0 } ∷ record { name = codes ".text"; kind = 1; flags = 6; offset = 0; size = 4; align = 4 } ∷ [];
  symbols = symbol [] 0 0 0 at.Undefined ∷ symbol (codes "_start") 1 2 0 (at.In 1) ∷ record (symbol (codes "far") 1 0 0 at.Absolute) { value = far } ∷ [];
  references = record { section = 1; index = 0; offset = 0; symbol = 2; kind = 283; addend = pos 0 } ∷ [];
  groups = [];
}

abbrev far_row : NameRow
far_row = record { name = codes "far"; bound = bounds.Object 0 2; class = facts.NoType; weak_only = false; visibility = 0; exported = false; preemptible = false }

abbrev called : ℕ → Planned
called far = record { rules = a64_rules; options = options; objects = far_object far ∷ []; names = record { names = start_row ∷ far_row ∷ []; needed = []; dropped = [] }; plan = record { got = []; plt = []; moves = []; imports = []; exports = [] } }

pub far : (section_address (layout_by (called 138477564)) 0 1 ≡ 4259840)
    × (piece_bytes (called 138477564) (layout_by (called 138477564)) 0 1 ≡ 255 ∷ 255 ∷ 255 ∷ 149 ∷ [])
    × (patches_checked (called 138477568) (layout_by (called 138477568)) ≡ Err (refusals.Overflow (record { object = 0; section = 1; index = 0 }) (pos 134217728)))
unfolding resolution_of resolution_in scope_of dropped_sections is_dropped mentions_of is_kept is_loadable mentioned_names strictest binding_of kept_pieces kept_sections outputs_of output_name joined_names class_of_section is_provided always_provided bounded_name is_identifier is_spoken_of is_exported is_preemptible needed_names binding_in row_of versioned_side other_machine duplicate_in unmet_want hidden_in undefined_in is_offered_in is_missing library_undefined_in library_undefined no_entry names_of defined_in common_size common_align uses_of state_of_name is_threaded_name target_named target_of need_of fits_class supported needed_by slots_of entries_of moves_of plan_of aligned places_from end_from commons_of outputs_by items_of interpreter_of output_section outputs_in read_contents executed_contents written_contents contents_of dynamic_part flags_value dynamic_entries slot_words got_bytes hash_of next_in_bucket hash_words hash_bytes written_segment_flags code_address written_address program_headers program_header_bytes names_offset names_bytes headers_offset section_headers section_header_bytes entry_address file_header segment_count headers_size read_end code_start code_end written_start tls_align tls_start tls_file_end tls_end data_start written_end addresses_of item_places output_position pieces_at commons_at layout_by image_span section_names layout_in layout_of tables_of table_bytes section_parts parts_of field_after patches_checked patched_by uses_at input_bytes piece_bytes numbered table_position table_address table_size named_section read_segment_end code_segment_end file_end zeros_start section_address section_position common_address name_at object_name symbol_state need_in plt_entry plt_bytes got_plt_bytes provided_table section_bound provided_value slot_relas use_at move_relas rela_dyn_bytes plt_slot_address rela_plt_bytes got_slot tp_slot tls_pair module_pair desc_pair slots_for slots_by word_count fill_count string_table string_table_size string_place soname_of dynamic_strings import_of export_of dynamic_symbols dynsym_bytes symbol_index row_value name_value symbol_value block_offset pointer_offset symbol_offset symbol_pointer slot_address symbol_slot plt_entry_address is_empty_call reference_value number_at pieces_of patch_by
far = (refl, refl, refl)
