-- The keys, the names of types and the names of machines are words.
use Rattle.std.proofs.Common.{◌≡◌, ℕ, Bool, true, false, cond, if◌then◌else◌, ◌==◌, List, [], ◌∷◌, ◌++◌, refl, codes, decimal}
use Rattle.std.specs.List.{list_all}
use Rattle.ifs_interface.specs.declared.symbol.Kind.{Kind}
use Rattle.ifs_interface.specs.declared.symbol.Kind.TheVariants.{NoType, Func, Object, Tls, Unknown}
use Rattle.ifs_interface.specs.Arch.{arch_name}
use Rattle.yaml_profile.specs.Printed.{begins_plain as begins_printed, is_plain_byte}
use Rattle.yaml_profile.proofs.PrintedBytes.{both}
use Rattle.ifs_text.specs.Printed.{kind_name}
use Rattle.ifs_text.proofs.Words.{is_word, decimal_is_bytes}

pub record Keys : Type 0 where
  pub version : is_word (codes "IfsVersion") ≡ true
  pub soname : is_word (codes "SoName") ≡ true
  pub target : is_word (codes "Target") ≡ true
  pub format : is_word (codes "ObjectFormat") ≡ true
  pub arch : is_word (codes "Arch") ≡ true
  pub order : is_word (codes "Endianness") ≡ true
  pub width : is_word (codes "BitWidth") ≡ true
  pub needed : is_word (codes "NeededLibs") ≡ true
  pub symbols : is_word (codes "Symbols") ≡ true
  pub name : is_word (codes "Name") ≡ true
  pub type_ : is_word (codes "Type") ≡ true
  pub size : is_word (codes "Size") ≡ true
  pub undefined : is_word (codes "Undefined") ≡ true
  pub weak : is_word (codes "Weak") ≡ true
  pub warning : is_word (codes "Warning") ≡ true

pub keys : Keys
unfolding begins_printed is_plain_byte
keys = record {
  version = refl;
  soname = refl;
  target = refl;
  format = refl;
  arch = refl;
  order = refl;
  width = refl;
  needed = refl;
  symbols = refl;
  name = refl;
  type_ = refl;
  size = refl;
  undefined = refl;
  weak = refl;
  warning = refl;
}

pub record Words : Type 0 where
  pub version : is_word (codes "3.0") ≡ true
  pub format : is_word (codes "ELF") ≡ true
  pub little : is_word (codes "little") ≡ true
  pub big : is_word (codes "big") ≡ true
  pub w32 : is_word (codes "32") ≡ true
  pub w64 : is_word (codes "64") ≡ true
  pub truth : is_word (codes "true") ≡ true

pub words : Words
unfolding begins_printed is_plain_byte
words = record { version = refl; format = refl; little = refl; big = refl; w32 = refl; w64 = refl; truth = refl }

pub kind_is_word : (k : Kind) → is_word (kind_name k) ≡ true
unfolding begins_printed is_plain_byte
kind_is_word NoType = refl
kind_is_word Func = refl
kind_is_word Object = refl
kind_is_word Tls = refl
kind_is_word Unknown = refl

-- the name of a machine, as a table
abbrev arch_table : List (ℕ × List ℕ)
arch_table =
    (62, codes "x86_64") ∷ (183, codes "AArch64") ∷ (3, codes "i386") ∷ (40, codes "arm") ∷ (20, codes "ppc") ∷ (21, codes "ppc64")
    ∷ (8, codes "mips") ∷ (243, codes "riscv") ∷ (22, codes "s390") ∷ (2, codes "sparc") ∷ (43, codes "sparcv9") ∷ []

abbrev arch_among : List (ℕ × List ℕ) → ℕ → List ℕ
arch_among [] machine = codes "EM_" ++ decimal machine
arch_among (e ∷ table) machine = if machine == e.0 then e.1 else arch_among table machine

either_word : (t : Bool) (a b : List ℕ) → is_word a ≡ true → is_word b ≡ true → is_word (cond t a b) ≡ true
either_word true a b h g = h
either_word false a b h g = g

numbered_is_word : (machine : ℕ) → is_word (codes "EM_" ++ decimal machine) ≡ true
unfolding begins_printed is_plain_byte
numbered_is_word machine = decimal_is_bytes machine

among_is_word : (table : List (ℕ × List ℕ)) (machine : ℕ) → list_all (λ e. is_word e.1) table ≡ true → is_word (arch_among table machine) ≡ true
among_is_word [] machine h = numbered_is_word machine
among_is_word (e ∷ table) machine h =
    let p = both (is_word e.1) (list_all (λ e. is_word e.1) table) h in
    either_word (machine == e.0) e.1 (arch_among table machine) p.0 (among_is_word table machine p.1)

table_is_words : list_all (λ e. is_word e.1) arch_table ≡ true
unfolding begins_printed is_plain_byte
table_is_words = refl

pub arch_is_word : (machine : ℕ) → is_word (arch_name machine) ≡ true
arch_is_word machine = among_is_word arch_table machine table_is_words
