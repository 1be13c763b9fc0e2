-- What a target triple says: its part before the first dash names a machine, a byte order and a width.
use Rattle.std.specs.Prelude.{ℕ, ◌==◌, nat_eq, Bool, if◌then◌else◌, List, [], ◌∷◌, take, position, codes, Option, Some, None, option_map, option_and_then}
use Rattle.std.specs.List.{find, ends_with}
use Rattle.std.specs.Cmp.Lexicographic.{pointwise}
use Rattle.ifs_bytes.specs.declared.form.Order.{Order}
use Rattle.ifs_bytes.specs.declared.form.Order.TheVariants.{Little, Big}
use Rattle.ifs_bytes.specs.declared.form.Width.{Width}
use Rattle.ifs_bytes.specs.declared.form.Width.TheVariants.{W32, W64}
use Rattle.ifs_interface.specs.declared.target.MachineFact.{MachineFact}

-- two names are the same bytes
abbrev pub same_name : List ℕ → List ℕ → Bool
same_name a b = pointwise nat_eq a b

-- a name with the machine, order and width that it stands for
abbrev pub entry : List ℕ → ℕ → Order → Width → List ℕ × MachineFact
entry name machine order width = (name, record { machine = Some machine; order = Some order; width = Some width })

unfoldable pub triple_machines : List (List ℕ × MachineFact)
triple_machines =
    entry (codes "x86_64") 62 Little W64
    ∷ entry (codes "i386") 3 Little W32
    ∷ entry (codes "i486") 3 Little W32
    ∷ entry (codes "i586") 3 Little W32
    ∷ entry (codes "i686") 3 Little W32
    ∷ entry (codes "aarch64") 183 Little W64
    ∷ entry (codes "arm64") 183 Little W64
    ∷ entry (codes "aarch64_be") 183 Big W64
    ∷ entry (codes "arm") 40 Little W32
    ∷ entry (codes "armv6") 40 Little W32
    ∷ entry (codes "armv7") 40 Little W32
    ∷ entry (codes "armv7a") 40 Little W32
    ∷ entry (codes "thumbv7") 40 Little W32
    ∷ entry (codes "armeb") 40 Big W32
    ∷ entry (codes "riscv32") 243 Little W32
    ∷ entry (codes "riscv64") 243 Little W64
    ∷ entry (codes "powerpc") 20 Big W32
    ∷ entry (codes "powerpc64") 21 Big W64
    ∷ entry (codes "powerpc64le") 21 Little W64
    ∷ entry (codes "mips") 8 Big W32
    ∷ entry (codes "mipsel") 8 Little W32
    ∷ entry (codes "s390x") 22 Big W64
    ∷ entry (codes "sparc") 2 Big W32
    ∷ entry (codes "sparcv9") 43 Big W64
    ∷ []

-- the part of a triple before its first dash, where there is one
abbrev pub first_part : List ℕ → Option (List ℕ)
first_part triple = option_map (λ n. take n triple) (position (λ b. b == 45) triple)

-- what a table says of a name
abbrev pub fact_among : List (List ℕ × MachineFact) → List ℕ → Option MachineFact
fact_among table name = option_map (λ e. e.1) (find (λ e. same_name e.0 name) table)

-- the triple of x32, which has the machine of x86-64 and words of 32 bits
abbrev pub is_x32 : List ℕ → Bool
is_x32 triple = ends_with nat_eq triple (codes "gnux32")

-- what a triple says, where it is known; x32 isn't
unfoldable pub parts_of_triple : List ℕ → Option MachineFact
parts_of_triple triple =
    if is_x32 triple then None else option_and_then (fact_among triple_machines) (first_part triple)
