-- A machine: its table of relocation types, its procedure linkage table, and numbers of its own.
use Rattle.std.specs.Prelude.{ℕ, ℤ, pos, ◌+◌, ◌-◌, ◌^◌, ◌≤◌, List, ◌++◌, length, replicate, Option, option_map, Result, Ok}
use Rattle.std.specs.Option.{option_map_or}
use Rattle.link_machine.specs.Values.{meaning}
use Rattle.link_machine.specs.Patch.{patch_by}
use Rattle.link_machine.specs.declared.class.PatchCause.{PatchCause}
use Rattle.link_machine.specs.declared.class.RefClass.{RefClass}
use Rattle.link_machine.specs.declared.class.Values.{Values}
use Rattle.link_machine.specs.declared.rule.Rule.{Rule}

-- the types of the relocations that a link leaves to the loader
pub record DynamicTypes : Type 0 where
  pub abs64 : ℕ
  pub glob_dat : ℕ
  pub jump_slot : ℕ
  pub relative : ℕ
  pub dtpmod64 : ℕ
  pub dtpoff64 : ℕ
  pub tpoff64 : ℕ
  pub tlsdesc : ℕ

pub record MachineRules : Type 0 where
  -- e_machine
  pub number : ℕ
  -- what segments are aligned to
  pub page : ℕ
  -- the row of a relocation type
  pub rule : ℕ → Option Rule
  pub dynamic : DynamicTypes
  -- the length of the procedure linkage table's header
  pub header_len : ℕ
  -- the header's bytes, by its address and that of .got.plt
  pub plt_header : ℕ → ℕ → List ℕ
  -- an entry's bytes, by its address, its slot's, the header's, and its position
  pub plt_entry : ℕ → ℕ → ℕ → ℕ → List ℕ

-- what a relocation type asks of the link, and the size of its field
abbrev pub class_of : MachineRules → ℕ → Option RefClass
class_of rules kind = option_map (λ r. r.class) (rules.rule kind)

abbrev pub width_of : MachineRules → ℕ → ℕ
width_of rules kind = option_map_or (λ r. r.size) (rules.rule kind) 0

-- the value of a reference; 0 for a type that isn't in the table
abbrev pub value_of : MachineRules → ℕ → Values → ℤ
value_of rules kind values = option_map_or (λ r. meaning r.formula values) (rules.rule kind) (pos 0)

-- the field's number after the patch, or why there is none; a type that isn't in the table changes nothing
abbrev pub patch_of : MachineRules → ℕ → ℤ → ℕ → Result ℕ PatchCause
patch_of rules kind value old = option_map_or (λ r. patch_by r value old) (rules.rule kind) (Ok old)

-- bytes, and 0 up to the length n
abbrev pub padded : ℕ → List ℕ → List ℕ
padded n bytes = bytes ++ replicate (n - length bytes) 0

-- a signed number of 32 bits says how far each of the 32 bytes at a is from each of the 32 bytes at b
abbrev pub IsNear : ℕ → ℕ → Type 0
IsNear a b = (a + 32 ≤ b + 2 ^ 31) × (b + 32 ≤ a + 2 ^ 31)
