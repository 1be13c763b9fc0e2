-- The names of machines (e_machine; gABI, "ELF Header"): as they are printed, and as they are read.
use Rattle.std.specs.Prelude.{ℕ, ◌==◌, nat_lt, ◌&&◌, if◌then◌else◌, List, [], ◌∷◌, ◌++◌, take, drop, codes, decimal, Option, Some, None, option_map, option_and_then}
use Rattle.std.specs.List.{find}
use Rattle.std.specs.Option.{option_or}
use Rattle.std.specs.Str.{bytes_eq, str_eq_ignore_ascii_case}
use Rattle.ifs_bytes.specs.Numeral.{numeral}

abbrev pub arch_name : ℕ → List ℕ
arch_name machine =
    if machine == 62 then codes "x86_64"
    else (if machine == 183 then codes "AArch64"
    else (if machine == 3 then codes "i386"
    else (if machine == 40 then codes "arm"
    else (if machine == 20 then codes "ppc"
    else (if machine == 21 then codes "ppc64"
    else (if machine == 8 then codes "mips"
    else (if machine == 243 then codes "riscv"
    else (if machine == 22 then codes "s390"
    else (if machine == 2 then codes "sparc"
    else (if machine == 43 then codes "sparcv9"
    else codes "EM_" ++ decimal machine))))))))))

-- the names that are read, in any case of their letters
unfoldable pub arch_names : List (List ℕ × ℕ)
arch_names =
    (codes "x86_64", 62) ∷ (codes "AArch64", 183) ∷ (codes "i386", 3) ∷ (codes "x86", 3) ∷ (codes "arm", 40) ∷ (codes "ppc", 20)
    ∷ (codes "ppc64", 21) ∷ (codes "mips", 8) ∷ (codes "riscv", 243) ∷ (codes "s390", 22) ∷ (codes "sparc", 2) ∷ (codes "sparcv9", 43) ∷ []

abbrev pub machine_among : List (List ℕ × ℕ) → List ℕ → Option ℕ
machine_among table name = option_map (λ e. e.1) (find (λ e. str_eq_ignore_ascii_case name e.0) table)

-- the machine whose number these are the decimal digits of, without leading zeros
abbrev pub printed_machine : List ℕ → ℕ → Option ℕ
printed_machine digits n = if nat_lt n 65536 && bytes_eq (decimal n) digits then Some n else None

abbrev pub machine_numbered : List ℕ → Option ℕ
machine_numbered name =
    if str_eq_ignore_ascii_case (take 3 name) (codes "EM_") then option_and_then (printed_machine (drop 3 name)) (numeral 10 (drop 3 name)) else None

-- the machine of a name: one of the table, or `EM_` and a number below 65536
unfoldable pub machine_named : List ℕ → Option ℕ
machine_named name = option_or (machine_among arch_names name) (machine_numbered name)
