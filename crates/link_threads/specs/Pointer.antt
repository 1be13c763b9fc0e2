-- References to the thread pointer.
use Rattle.std.specs.List.{enumerate_from, list_any}
use Rattle.std.specs.Option.{option_map_or}
use Rattle.std.specs.Prelude.{Bool, List, [], false, slice_index_or, true, ℕ, ◌&&◌}
use Rattle.elf_object.specs.declared.reference.Reference.{Reference}
use Rattle.elf_object.specs.Record.{ObjectRecord}
use Rattle.link_machine.specs.Rules.{MachineRules, class_of}
use Rattle.link_machine.specs.declared.class.RefClass.{RefClass}
use Rattle.link_machine.specs.declared.class.RefClass.TheVariants as refs
use Rattle.link_core.specs.References.{Use}

-- the slot of a symbol's distance from the thread pointer
abbrev pub is_of_pointer : RefClass → Bool
is_of_pointer refs.Nothing = false
is_of_pointer refs.Abs64 = false
is_of_pointer refs.Abs32 = false
is_of_pointer refs.Pc = false
is_of_pointer refs.Call = false
is_of_pointer refs.Got = false
is_of_pointer refs.Le = false
is_of_pointer refs.Ie = true
is_of_pointer refs.Gd = false
is_of_pointer refs.Ld = false
is_of_pointer refs.Dtp = false
is_of_pointer refs.Desc = false

abbrev pub is_of_kind : MachineRules → ℕ → Bool
is_of_kind rules kind = option_map_or is_of_pointer (class_of rules kind) false

-- a reference of the class initial exec
abbrev pub is_initial_exec : MachineRules → Use → Bool
is_initial_exec rules u = is_of_kind rules u.reference.kind

-- ---- by flags of kept sections

abbrev pub is_in_kept : MachineRules → List Bool → Reference → Bool
is_in_kept rules flags r = slice_index_or flags r.section false && is_of_kind rules r.kind

abbrev pub is_in_object : MachineRules → List (List Bool) → ℕ × ObjectRecord → Bool
is_in_object rules all o = list_any (is_in_kept rules (slice_index_or all o.0 [])) o.1.references

abbrev pub is_in_any : MachineRules → List (List Bool) → List ObjectRecord → Bool
is_in_any rules all objects = list_any (is_in_object rules all) (enumerate_from 0 objects)
