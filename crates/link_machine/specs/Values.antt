-- The values of references, as whole numbers of any sign (psABI x86-64, "Relocation Types"; AArch64 ELF ABI,
-- "Relocation operations").
use Rattle.std.specs.Prelude.{ℤ, pos, ◌+ℤ◌, ◌-ℤ◌}
use Rattle.std.specs.Int.{int_rem_euclid}
use Rattle.link_machine.specs.declared.class.Values.{Values}
use Rattle.link_machine.specs.declared.rule.Formula.{Formula}
use Rattle.link_machine.specs.declared.rule.Formula.TheVariants.{Zero, Symbol, SymbolFromPlace, SymbolPageFromPlace, CallFromPlace, Slot, SlotFromPlace, SlotPageFromPlace, Offset, ThreadPointer}

-- Page(x): x without its lowest 12 bits
abbrev pub page_of : ℤ → ℤ
page_of x = x -ℤ int_rem_euclid x (pos 4096)

-- what a formula means
abbrev pub meaning : Formula → Values → ℤ
meaning Zero v = pos 0
meaning Symbol v = pos v.s +ℤ v.a
meaning SymbolFromPlace v = (pos v.s +ℤ v.a) -ℤ pos v.p
meaning SymbolPageFromPlace v = page_of (pos v.s +ℤ v.a) -ℤ page_of (pos v.p)
meaning CallFromPlace v = (pos v.l +ℤ v.a) -ℤ pos v.p
meaning Slot v = pos v.g
meaning SlotFromPlace v = (pos v.g +ℤ v.a) -ℤ pos v.p
meaning SlotPageFromPlace v = page_of (pos v.g) -ℤ page_of (pos v.p)
meaning Offset v = pos v.off +ℤ v.a
meaning ThreadPointer v = v.tp +ℤ v.a
