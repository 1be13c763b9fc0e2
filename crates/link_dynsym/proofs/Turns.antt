-- The rows of names, one after the other.
use Rattle.std.proofs.Common.{◌≡◌, ◌+◌, ◌<◌, ◌≤◌, ℕ, List, ◌∷◌, ◌++◌, map, length, drop, get_or, sym, ap, ◌∙◌, arith, append_assoc}
use Rattle.std.specs.List.{enumerate_from}
use Rattle.std.proofs.lemmas.List.{append-nil, at_drop_more, drop_all}
use Rattle.elf_file.specs.declared.symbol.Row.{Row}
use Rattle.link_dynsym.specs.Rows.{row_bytes, rows_bytes}

-- those from a name on
abbrev pub rest : (ℕ × ℕ → Row) → ℕ → ℕ → List ℕ → List ℕ
rest f first i names = rows_bytes (map f (enumerate_from (first + i) (drop i names)))

drop_more : (xs : List ℕ) (i d : ℕ) → i < length xs → drop i xs ≡ get_or xs i d ∷ drop (i + 1) xs
drop_more xs i d h = at_drop_more (λ ys. ys) xs i d h

pub turn :
    (f : ℕ × ℕ → Row) (first i k n d : ℕ) (names out new all : List ℕ) (row : Row) → i < length names → k ≡ first + i → n ≡ get_or names i d
    → row ≡ f (k, n) → new ≡ out ++ row_bytes row → out ++ rest f first i names ≡ all
    → new ++ rest f first (i + 1) names ≡ all
turn f first i k n d names out new all row low at name is put so_far =
    let next : first + (i + 1) ≡ first + i + 1 = omega arith in
    let here : row ≡ f (first + i, get_or names i d) = is ∙ (λ t. f (at t, name t)) in
    ap (λ bs. bs ++ rest f first (i + 1) names) (put ∙ ap (λ r. out ++ row_bytes r) here)
    ∙ append_assoc out (row_bytes (f (first + i, get_or names i d))) (rest f first (i + 1) names)
    ∙ ap (λ k. out ++ (row_bytes (f (first + i, get_or names i d)) ++ rows_bytes (map f (enumerate_from k (drop (i + 1) names))))) next
    ∙ sym (ap (λ ns. out ++ rows_bytes (map f (enumerate_from (first + i) ns))) (drop_more names i d low))
    ∙ so_far

pub ended :
    (f : ℕ × ℕ → Row) (first i : ℕ) (names out old : List ℕ) → length names ≤ i → out ++ rest f first i names ≡ old ++ rest f first 0 names
    → out ≡ old ++ rows_bytes (map f (enumerate_from first names))
ended f first i names out old high so_far =
    let from : first + 0 ≡ first = omega arith in
    sym (ap (λ ns. out ++ rows_bytes (map f (enumerate_from (first + i) ns))) (drop_all i names high) ∙ append-nil out)
    ∙ so_far
    ∙ ap (λ k. old ++ rows_bytes (map f (enumerate_from k names))) from
