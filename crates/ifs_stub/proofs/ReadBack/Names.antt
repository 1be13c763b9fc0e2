-- Names that stand in a string table are found there.
use Rattle.std.proofs.Common.{◌≡◌, ℕ, suc, ◌+◌, ◌==◌, Bool, true, not, cond, ltb, List, [], ◌∷◌, ◌++◌, length, take, Option, Some, None, refl, ap, ◌∙◌, arith, append_assoc, length-append}
use Rattle.std.specs.Prelude.{option_map, position}
use Rattle.std.specs.List.{list_all, flat_map, prefix_len}
use Rattle.std.proofs.lemmas.Bool.{and_parts, lt-ltb}
use Rattle.std.proofs.Math.Seq.{take-append_seam}
use Rattle.ifs_bytes.specs.Name.{name_in}
use Rattle.ifs_interface.specs.Interface.{is_proper_name}
use Rattle.elf_dyn.specs.Strings.{unless_empty}
use Rattle.ifs_stub.specs.StubFile.{terminated}
use Rattle.ifs_stub.proofs.ReadBack.Stands.{Stands, stands_front, stands_back, stands_drop}

-- a byte isn't the end of a name
abbrev goes_on : ℕ → Bool
goes_on b = not (b == 0)

ends_behind : (name rest : List ℕ) → list_all goes_on name ≡ true → prefix_len goes_on (name ++ 0 ∷ rest) ≡ length name
ends_behind [] rest h = refl
ends_behind (b ∷ bs) rest h =
    let parts = and_parts (goes_on b) (list_all goes_on bs) h in
    let one : 1 + length bs ≡ suc (length bs) = omega arith in
    ap (λ t. cond t (1 + prefix_len goes_on (bs ++ 0 ∷ rest)) 0) parts.0 ∙ ap (λ n. 1 + n) (ends_behind bs rest parts.1) ∙ one

end_is_found : (name rest : List ℕ) → list_all goes_on name ≡ true → position (λ b. b == 0) (name ++ 0 ∷ rest) ≡ Some (length name)
end_is_found name rest h =
    let all = name ++ 0 ∷ rest in
    let within : ltb (length name) (length all) ≡ true = lt-ltb _ _ (omega (arith, length-append name (0 ∷ rest))) in
    ap (λ n. cond (ltb n (length all)) (Some n) None) (ends_behind name rest h) ∙ ap (λ t. cond t (Some (length name)) None) within

goes_on_all : (name : List ℕ) → is_proper_name name ≡ true → list_all goes_on name ≡ true
goes_on_all [] h = refl
goes_on_all (b ∷ bs) h = h

pub name_is_read : (table name : List ℕ) (at : ℕ) → is_proper_name name ≡ true → Stands table at (terminated name) → name_in table at ≡ Some name
name_is_read table name at proper s =
    let rest = s.after in
    let found = end_is_found name rest (goes_on_all name proper) in
    ap (λ bytes. option_map (λ n. take n bytes) (position (λ b. b == 0) bytes)) (stands_drop table (terminated name) at s ∙ append_assoc name (0 ∷ []) rest)
    ∙ ap (option_map (λ n. take n (name ++ 0 ∷ rest))) found ∙ ap (λ n. Some n) (take-append_seam name (0 ∷ rest))

pub not_empty : (name : List ℕ) → is_proper_name name ≡ true → unless_empty (Some name) ≡ Some name
not_empty [] h = absurd (cc)
not_empty (b ∷ bs) h = refl

-- names that stand one after the other from a place on, each behind the NUL of the one before
module _ (look : ℕ → Option (List ℕ)) where
  abbrev pub AreFound : ℕ → List (List ℕ) → Type 0
  AreFound at [] = Unit {0}
  AreFound at (n ∷ ns) = (look at ≡ Some n) × AreFound (at + (length n + 1)) ns

pub names_are_read : (table : List ℕ) (at : ℕ) (names : List (List ℕ)) → list_all is_proper_name names ≡ true → Stands table at (flat_map terminated names) → AreFound (name_in table) at names
names_are_read table at [] proper s = tt
names_are_read table at (n ∷ ns) proper s =
    let parts = and_parts (is_proper_name n) (list_all is_proper_name ns) proper in
    let front = stands_front table (terminated n) (flat_map terminated ns) at s in
    let size : at + length (terminated n) ≡ at + (length n + 1) = omega (arith, length-append n (0 ∷ [])) in
    (name_is_read table n at parts.0 front, names_are_read table (at + (length n + 1)) ns parts.1 (stands_back table (terminated n) (flat_map terminated ns) at (at + (length n + 1)) s size))
