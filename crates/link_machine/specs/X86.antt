-- x86-64 (psABI, "Relocation Types", "Procedure Linkage Table").
use Rattle.std.specs.Prelude.{ℕ, pos, ◌-ℤ◌, ◌+◌, ◌^◌, List, [], ◌∷◌, ◌++◌}
use Rattle.std.specs.Int.{w32, to_le_bytes}
use Rattle.link_machine.specs.Patch.{modulo}
use Rattle.link_machine.specs.Rules.{MachineRules, DynamicTypes}
use Rattle.link_machine.specs.Table.{row, rule_in, whole, signed, unsigned}
use Rattle.link_machine.specs.declared.class.RefClass.TheVariants.{Nothing, Abs64, Abs32, Pc, Call, Got, Le, Ie, Gd, Ld, Dtp}
use Rattle.link_machine.specs.declared.rule.Field.TheVariants.{Unchanged}
use Rattle.link_machine.specs.declared.rule.Formula.TheVariants.{Zero, Symbol, SymbolFromPlace, CallFromPlace, SlotFromPlace, Offset, ThreadPointer}
use Rattle.link_machine.specs.declared.rule.Range.TheVariants.{Any}
use Rattle.link_machine.specs.declared.rule.Rule.{Rule}

abbrev pub x86_table : List (ℕ × Rule)
x86_table =
    row 0 Nothing Zero 0 Unchanged Any 1
    ∷ row 1 Abs64 Symbol 8 (whole 64) Any 1
    ∷ row 2 Pc SymbolFromPlace 4 (whole 32) (signed 32) 1
    ∷ row 4 Call CallFromPlace 4 (whole 32) (signed 32) 1
    ∷ row 9 Got SlotFromPlace 4 (whole 32) (signed 32) 1
    ∷ row 10 Abs32 Symbol 4 (whole 32) (unsigned 32) 1
    ∷ row 11 Abs32 Symbol 4 (whole 32) (signed 32) 1
    ∷ row 17 Dtp Offset 8 (whole 64) Any 1
    ∷ row 19 Gd SlotFromPlace 4 (whole 32) (signed 32) 1
    ∷ row 20 Ld SlotFromPlace 4 (whole 32) (signed 32) 1
    ∷ row 21 Dtp Offset 4 (whole 32) (signed 32) 1
    ∷ row 22 Ie SlotFromPlace 4 (whole 32) (signed 32) 1
    ∷ row 23 Le ThreadPointer 4 (whole 32) (signed 32) 1
    ∷ row 24 Pc SymbolFromPlace 8 (whole 64) Any 1
    ∷ row 41 Got SlotFromPlace 4 (whole 32) (signed 32) 1
    ∷ row 42 Got SlotFromPlace 4 (whole 32) (signed 32) 1
    ∷ []

-- a displacement: the four bytes that say how far an address is from the end of its instruction
abbrev pub displacement : ℕ → ℕ → List ℕ
displacement next address = to_le_bytes w32 (modulo (pos address -ℤ pos next) (2 ^ 32))

-- push the second word of .got.plt, jump through the third one, and a nop of four bytes
abbrev pub x86_header : ℕ → ℕ → List ℕ
x86_header at got_plt =
    (0xff ∷ 0x35 ∷ []) ++ displacement (at + 6) (got_plt + 8)
    ++ (0xff ∷ 0x25 ∷ []) ++ displacement (at + 12) (got_plt + 16)
    ++ (0x0f ∷ 0x1f ∷ 0x40 ∷ 0x00 ∷ [])

-- jump through the slot, push the position, jump to the header
abbrev pub x86_entry : ℕ → ℕ → ℕ → ℕ → List ℕ
x86_entry at slot header index =
    (0xff ∷ 0x25 ∷ []) ++ displacement (at + 6) slot
    ++ (0x68 ∷ []) ++ to_le_bytes w32 index
    ++ (0xe9 ∷ []) ++ displacement (at + 16) header

-- R_X86_64_64, GLOB_DAT, JUMP_SLOT, RELATIVE, DTPMOD64, DTPOFF64, TPOFF64, TLSDESC
abbrev pub x86_dynamic : DynamicTypes
x86_dynamic = record {
  abs64 = 1;
  glob_dat = 6;
  jump_slot = 7;
  relative = 8;
  dtpmod64 = 16;
  dtpoff64 = 17;
  tpoff64 = 18;
  tlsdesc = 36;
}

-- EM_X86_64
abbrev pub x86_rules : MachineRules
x86_rules = record {
  number = 62;
  page = 4096;
  rule = rule_in x86_table;
  dynamic = x86_dynamic;
  header_len = 16;
  plt_header = x86_header;
  plt_entry = x86_entry;
}
