-- The printed name of a machine is read back.
use Rattle.std.proofs.Common.{◌≡◌, ℕ, ◌<◌, ◌==◌, ◌&&◌, Bool, true, false, if◌then◌else◌, List, ◌++◌, codes, decimal, Some, None, option_and_then, refl, sym, ap, ◌∙◌, arith}
use Rattle.std.proofs.lemmas.Bool.{eqb-true, lt-ltb}
use Rattle.std.proofs.lemmas.Slice.Eq.{bytes_eq-Decides}
use Rattle.std.specs.Str.{bytes_eq}
use Rattle.ifs_bytes.proofs.Numerals.{numeral-decimal}
use Rattle.ifs_interface.specs.Arch.{arch_name, arch_names, machine_named, printed_machine}

printed_machine-decimal : (n : ℕ) → n < 65536 → printed_machine (decimal n) n ≡ Some n
printed_machine-decimal n small =
    ap (λ test. if test && bytes_eq (decimal n) (decimal n) then Some n else None) (lt-ltb n 65536 small)
    ∙ ap (λ test. if test then Some n else None) ((bytes_eq-Decides (decimal n) (decimal n)).1 refl)

number_is_read_back : (n : ℕ) → n < 65536 → machine_named (codes "EM_" ++ decimal n) ≡ Some n
unfolding machine_named arch_names
number_is_read_back n small =
    ap (option_and_then (printed_machine (decimal n))) (numeral-decimal n (omega (arith, small))) ∙ printed_machine-decimal n small

-- a machine that a name stands for is read from it, and another from its own
by_test : (n k : ℕ) (name other : List ℕ) → machine_named name ≡ Some k → machine_named other ≡ Some n → (test : Bool) → (n == k) ≡ test → machine_named (if test then name else other) ≡ Some n
by_test n k name other here there true is = here ∙ ap Some (sym (eqb-true n k is))
by_test n k name other here there false isnt = there

pub arch_names_are_read_back : (n : ℕ) → n < 65536 → machine_named (arch_name n) ≡ Some n
unfolding machine_named arch_names
arch_names_are_read_back n small =
    by_test n 62 (codes "x86_64") _ refl (by_test n 183 (codes "AArch64") _ refl (by_test n 3 (codes "i386") _ refl
    (by_test n 40 (codes "arm") _ refl (by_test n 20 (codes "ppc") _ refl (by_test n 21 (codes "ppc64") _ refl
    (by_test n 8 (codes "mips") _ refl (by_test n 243 (codes "riscv") _ refl (by_test n 22 (codes "s390") _ refl
    (by_test n 2 (codes "sparc") _ refl (by_test n 43 (codes "sparcv9") _ refl (number_is_read_back n small)
    (n == 43) refl) (n == 2) refl) (n == 22) refl) (n == 243) refl) (n == 8) refl) (n == 21) refl) (n == 20) refl) (n == 40) refl) (n == 3) refl) (n == 183) refl) (n == 62) refl
