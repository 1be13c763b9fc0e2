-- AArch64, LP64 (AArch64 ELF ABI, "Relocation types"; "Procedure Linkage Table" as GNU and LLVM linkers write
-- it). Page(x) clears 12 bits, whatever the pages of the system.
use Rattle.std.specs.Prelude.{ℕ, pos, ◌-ℤ◌, ◌+◌, List, [], ◌∷◌, ◌++◌}
use Rattle.std.specs.Int.{w32, to_le_bytes}
use Rattle.link_machine.specs.Patch.{patched}
use Rattle.link_machine.specs.Rules.{MachineRules, DynamicTypes}
use Rattle.link_machine.specs.Table.{row, rule_in, whole, part, adr, signed, unsigned, either}
use Rattle.link_machine.specs.Values.{page_of}
use Rattle.link_machine.specs.declared.class.RefClass.TheVariants.{Nothing, Abs64, Abs32, Pc, Call, Got, Le, Ie, Desc}
use Rattle.link_machine.specs.declared.rule.Field.{Field}
use Rattle.link_machine.specs.declared.rule.Field.TheVariants.{Unchanged}
use Rattle.link_machine.specs.declared.rule.Formula.TheVariants.{Zero, Symbol, SymbolFromPlace, SymbolPageFromPlace, CallFromPlace, Slot, SlotPageFromPlace, ThreadPointer}
use Rattle.link_machine.specs.declared.rule.Range.TheVariants.{Any}
use Rattle.link_machine.specs.declared.rule.Rule.{Rule}

-- ADRP: the distance of pages. ADD: 12 bits. LDR of 8 bytes: 12 bits, of which the lowest 3 are 0.
abbrev pub adrp : Field
adrp = adr 12

abbrev pub add12 : Field
add12 = part 11 0 10

abbrev pub load8 : Field
load8 = part 11 3 10

abbrev pub a64_table : List (ℕ × Rule)
a64_table =
    row 0 Nothing Zero 0 Unchanged Any 1
    ∷ row 256 Nothing Zero 0 Unchanged Any 1
    ∷ row 257 Abs64 Symbol 8 (whole 64) Any 1
    ∷ row 258 Abs32 Symbol 4 (whole 32) (either 32) 1
    ∷ row 260 Pc SymbolFromPlace 8 (whole 64) Any 1
    ∷ row 261 Pc SymbolFromPlace 4 (whole 32) (either 32) 1
    ∷ row 273 Pc SymbolFromPlace 4 (part 20 2 5) (signed 21) 4
    ∷ row 274 Pc SymbolFromPlace 4 (adr 0) (signed 21) 1
    ∷ row 275 Pc SymbolPageFromPlace 4 adrp (signed 33) 1
    ∷ row 276 Pc SymbolPageFromPlace 4 adrp Any 1
    ∷ row 277 Pc Symbol 4 add12 Any 1
    ∷ row 278 Pc Symbol 4 add12 Any 1
    ∷ row 279 Call CallFromPlace 4 (part 15 2 5) (signed 16) 4
    ∷ row 280 Call CallFromPlace 4 (part 20 2 5) (signed 21) 4
    ∷ row 282 Call CallFromPlace 4 (part 27 2 0) (signed 28) 4
    ∷ row 283 Call CallFromPlace 4 (part 27 2 0) (signed 28) 4
    ∷ row 284 Pc Symbol 4 (part 11 1 10) Any 2
    ∷ row 285 Pc Symbol 4 (part 11 2 10) Any 4
    ∷ row 286 Pc Symbol 4 (part 11 3 10) Any 8
    ∷ row 299 Pc Symbol 4 (part 11 4 10) Any 16
    ∷ row 311 Got SlotPageFromPlace 4 adrp (signed 33) 1
    ∷ row 312 Got Slot 4 load8 Any 8
    ∷ row 541 Ie SlotPageFromPlace 4 adrp (signed 33) 1
    ∷ row 542 Ie Slot 4 load8 Any 8
    ∷ row 549 Le ThreadPointer 4 (part 23 12 10) (unsigned 24) 1
    ∷ row 550 Le ThreadPointer 4 add12 (unsigned 12) 1
    ∷ row 551 Le ThreadPointer 4 add12 Any 1
    ∷ row 562 Desc SlotPageFromPlace 4 adrp (signed 33) 1
    ∷ row 563 Desc Slot 4 load8 Any 8
    ∷ row 564 Desc Slot 4 add12 Any 1
    ∷ row 569 Desc Zero 4 Unchanged Any 1
    ∷ []

abbrev pub word : ℕ → List ℕ
word n = to_le_bytes w32 n

-- adrp x16; ldr x17, [x16]; add x16, x16; br x17, for a slot, where the first stands at an address
abbrev pub jump_through : ℕ → ℕ → List ℕ
jump_through at slot =
    word (patched adrp (page_of (pos slot) -ℤ page_of (pos at)) 0x90000010)
    ++ word (patched load8 (pos slot) 0xf9400211)
    ++ word (patched add12 (pos slot) 0x91000210)
    ++ word 0xd61f0220

-- stp x16, x30, [sp, #-16]!; the jump through the third word of .got.plt; nop three times
abbrev pub a64_header : ℕ → ℕ → List ℕ
a64_header at got_plt =
    word 0xa9bf7bf0 ++ jump_through (at + 4) (got_plt + 16)
    ++ word 0xd503201f ++ word 0xd503201f ++ word 0xd503201f

abbrev pub a64_entry : ℕ → ℕ → ℕ → ℕ → List ℕ
a64_entry at slot header index = jump_through at slot

-- R_AARCH64_ABS64, GLOB_DAT, JUMP_SLOT, RELATIVE, TLS_DTPMOD, TLS_DTPREL, TLS_TPREL, TLSDESC
abbrev pub a64_dynamic : DynamicTypes
a64_dynamic = record {
  abs64 = 257;
  glob_dat = 1025;
  jump_slot = 1026;
  relative = 1027;
  dtpmod64 = 1028;
  dtpoff64 = 1029;
  tpoff64 = 1030;
  tlsdesc = 1031;
}

-- EM_AARCH64
abbrev pub a64_rules : MachineRules
a64_rules = record {
  number = 183;
  page = 65536;
  rule = rule_in a64_table;
  dynamic = a64_dynamic;
  header_len = 32;
  plt_header = a64_header;
  plt_entry = a64_entry;
}
