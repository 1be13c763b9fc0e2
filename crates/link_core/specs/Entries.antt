-- The entries of .dynamic (gABI, "Dynamic Section"): which there are, and what their values are. What is
-- there depends on names and needs alone, so that the size of .dynamic is known before places are.
use Rattle.std.specs.List.{list_any}
use Rattle.std.specs.Option.{option_map_or}
use Rattle.std.specs.Prelude.{Bool, List, [], codes, false, flat_map, if◌then◌else◌, is_some, length, nat_lt, not, option_to_list, true, ℕ, ◌&&◌, ◌++◌, ◌+◌, ◌∷◌}
use Rattle.ifs_bytes.specs.Places.{places}
use Rattle.ifs_interface.specs.Triple.{same_name}
use Rattle.link_machine.specs.Rules.{MachineRules, class_of}
use Rattle.link_machine.specs.declared.class.RefClass.{RefClass}
use Rattle.link_machine.specs.declared.class.RefClass.TheVariants as refs
use Rattle.link_core.specs.declared.options.LinkOptions.{LinkOptions}
use Rattle.link_core.specs.declared.tables.TheConstants.{DF_BIND_NOW, DF_STATIC_TLS, DT_DEBUG, DT_FINI, DT_FINI_ARRAY, DT_FINI_ARRAYSZ, DT_FLAGS, DT_HASH, DT_INIT, DT_INIT_ARRAY, DT_INIT_ARRAYSZ, DT_JMPREL, DT_NEEDED, DT_NULL, DT_PLTGOT, DT_PLTREL, DT_PLTRELSZ, DT_PREINIT_ARRAY, DT_PREINIT_ARRAYSZ, DT_RELA, DT_RELAENT, DT_RELASZ, DT_RUNPATH, DT_SONAME, DT_STRSZ, DT_STRTAB, DT_SYMENT, DT_SYMTAB}
use Rattle.link_core.specs.Commons.{outputs_by}
use Rattle.link_core.specs.Exports.{is_shared}
use Rattle.link_core.specs.Planned.{Planned, object_name, uses_by}
use Rattle.link_core.specs.References.{Use}
use Rattle.link_core.specs.Slots.{fill_count}
use Rattle.link_core.specs.Strings.{needed_string, runpath_string, soname_of, soname_string}

-- what the value of an entry is: a number; the place of a string in .dynstr, by its position; the address or
-- the size of a table; those of the first output section of a name; the address of a name, by its position
pub data Meaning : Type 0 where
  Number : ℕ → Meaning
  NameAt : ℕ → Meaning
  StartOf SizeOf : List ℕ → Meaning
  FirstStart FirstSize : List ℕ → Meaning
  SymbolAt : ℕ → Meaning

pub record Entry : Type 0 where
  pub tag : ℕ
  pub meaning : Meaning

-- an entry, where it is there
abbrev pub entry : Bool → ℕ → Meaning → List Entry
entry there tag meaning = if there then record { tag = tag; meaning = meaning } ∷ [] else []

-- entries of a name that is bound to an object
abbrev pub symbol_entry : Planned → ℕ → List ℕ → List Entry
symbol_entry j tag name = flat_map (λ n. entry true tag (SymbolAt n)) (option_to_list (object_name j name))

-- there is an output section of the name
abbrev pub has_output : Planned → List ℕ → Bool
has_output j name = list_any (λ output. same_name output.name name) (outputs_by j)

-- the address and the size of an output section
abbrev pub array_entries : Bool → ℕ → ℕ → List ℕ → List Entry
array_entries there tag size_tag name =
    entry there tag (FirstStart name) ++ entry there size_tag (FirstSize name)

-- DF_BIND_NOW, and DF_STATIC_TLS where a library has a reference to the thread pointer
abbrev pub bind_now_flag : LinkOptions → ℕ
bind_now_flag options = if options.bind_now then DF_BIND_NOW else 0

abbrev pub is_of_pointer : RefClass → Bool
is_of_pointer refs.Nothing = false
is_of_pointer refs.Abs64 = false
is_of_pointer refs.Abs32 = false
is_of_pointer refs.Pc = false
is_of_pointer refs.Call = false
is_of_pointer refs.Got = false
is_of_pointer refs.Le = false
is_of_pointer refs.Ie = true
is_of_pointer refs.Gd = false
is_of_pointer refs.Ld = false
is_of_pointer refs.Dtp = false
is_of_pointer refs.Desc = false

abbrev pub is_initial_exec : MachineRules → Use → Bool
is_initial_exec rules u = option_map_or is_of_pointer (class_of rules u.reference.kind) false

abbrev pub static_tls_flag : Planned → ℕ
static_tls_flag j =
    if is_shared j.options.kind && list_any (is_initial_exec j.rules) (uses_by j) then DF_STATIC_TLS else 0

unfoldable pub flags_value : Planned → ℕ
flags_value j = bind_now_flag j.options + static_tls_flag j

-- how many relocations .rela.dyn has
abbrev pub rela_dyn_count : Planned → ℕ
rela_dyn_count j = fill_count j + length j.plan.moves

-- the entries, in order
unfoldable pub dynamic_entries : Planned → List Entry
dynamic_entries j =
    let library = is_shared j.options.kind in
    let has_moves = nat_lt 0 (rela_dyn_count j) in
    let has_calls = nat_lt 0 (length j.plan.plt) in
    flat_map (λ i. entry true DT_NEEDED (NameAt (needed_string j i))) (places 0 (length j.names.needed))
    ++ entry (is_some (soname_of j.options)) DT_SONAME (NameAt (soname_string j))
    ++ entry (is_some j.options.runpath) DT_RUNPATH (NameAt (runpath_string j))
    ++ symbol_entry j DT_INIT (codes "_init")
    ++ symbol_entry j DT_FINI (codes "_fini")
    ++ array_entries (has_output j (codes ".preinit_array") && not library)
    DT_PREINIT_ARRAY DT_PREINIT_ARRAYSZ (codes ".preinit_array")
    ++ array_entries (has_output j (codes ".init_array")) DT_INIT_ARRAY DT_INIT_ARRAYSZ (codes ".init_array")
    ++ array_entries (has_output j (codes ".fini_array")) DT_FINI_ARRAY DT_FINI_ARRAYSZ (codes ".fini_array")
    ++ entry true DT_HASH (StartOf (codes ".hash"))
    ++ entry true DT_STRTAB (StartOf (codes ".dynstr"))
    ++ entry true DT_SYMTAB (StartOf (codes ".dynsym"))
    ++ entry true DT_STRSZ (SizeOf (codes ".dynstr"))
    ++ entry true DT_SYMENT (Number 24)
    ++ entry has_moves DT_RELA (StartOf (codes ".rela.dyn"))
    ++ entry has_moves DT_RELASZ (SizeOf (codes ".rela.dyn"))
    ++ entry has_moves DT_RELAENT (Number 24)
    ++ entry true DT_PLTGOT (StartOf (codes ".got.plt"))
    ++ entry has_calls DT_PLTRELSZ (SizeOf (codes ".rela.plt"))
    ++ entry has_calls DT_PLTREL (Number DT_RELA)
    ++ entry has_calls DT_JMPREL (StartOf (codes ".rela.plt"))
    ++ entry (nat_lt 0 (flags_value j)) DT_FLAGS (Number (flags_value j))
    ++ entry (not library) DT_DEBUG (Number 0)
    ++ entry true DT_NULL (Number 0)
