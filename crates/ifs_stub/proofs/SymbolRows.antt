-- Symbols whose sizes have places in their rows.
use Rattle.std.proofs.Common.{◌≡◌, ℕ, ◌+◌, ◌<◌, ◌^◌, Bool, true, false, cond, ◌||◌, List, [], ◌∷◌, length, get_or, drop, Some, None, refl, sym, ap, ◌∙◌, arith}
use Rattle.std.specs.Prelude.{unwrap_or}
use Rattle.std.specs.List.{find, list_any}
use Rattle.std.proofs.lemmas.List.{at_drop_more}
use Rattle.std.proofs.lemmas.Bool.Decides.{nat_tests}
use Rattle.ifs_bytes.specs.Field.{word_size}
use Rattle.ifs_bytes.specs.declared.form.Width.{Width}
use Rattle.ifs_bytes.specs.declared.form.Width.TheVariants.{W32, W64}
use Rattle.elf_file.specs.Written.{FitsRow}
use Rattle.ifs_interface.specs.declared.symbol.Symbol.{Symbol}
use Rattle.ifs_stub.specs.Stub.{is_too_wide}
use Rattle.ifs_stub.specs.StubFile.{row_of}

-- what isn't found isn't there
pub none_found : {X : Type 0} (p : X → Bool) (xs : List X) → find p xs ≡ None → list_any p xs ≡ false
none_found p [] e = refl
none_found p (x ∷ xs) e =
    let rest : (b : Bool) → cond b (Some x) (find p xs) ≡ None → (b || list_any p xs) ≡ false = λ b. elim b as (λ t. cond t (Some x) (find p xs) ≡ None → (t || list_any p xs) ≡ false) [ true ↦ λ h. cc | false ↦ λ h. none_found p xs h ] in
    rest (p x) e

or_first : (a b : Bool) → (a || b) ≡ false → a ≡ false
or_first true b e = cc
or_first false b e = refl

size_fits : (width : Width) (symbol : Symbol) → unwrap_or symbol.size 0 < 2 ^ 64 → is_too_wide width symbol ≡ false → unwrap_or symbol.size 0 < 256 ^ word_size width
size_fits W32 symbol small e = grind (arith, nat_tests)
size_fits W64 symbol small e = omega (arith, small)

-- the row of the next symbol
pub row_fits : (width : Width) (symbols : List Symbol) (i at : ℕ) (symbol : Symbol) → i < length symbols → symbol ≡ get_or symbols i symbol → list_any (is_too_wide width) (drop i symbols) ≡ false → unwrap_or symbol.size 0 < 2 ^ 64 → FitsRow (row_of at symbol) width
row_fits width symbols i at symbol h is none small =
    let F : List Symbol → Bool = λ xs. list_any (is_too_wide width) xs in
    let here : F (symbol ∷ drop (i + 1) symbols) ≡ false = ap (λ (s : Symbol). F (s ∷ drop (i + 1) symbols)) is ∙ sym (at_drop_more F symbols i symbol h) ∙ none in
    record {
      value = elim width as (λ w. 0 < 256 ^ word_size w) [ W32 ↦ omega arith | W64 ↦ omega arith ];
      size = size_fits width symbol small (or_first _ _ here);
    }
