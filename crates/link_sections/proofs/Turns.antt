-- The rows of sections, one after the other.
use Rattle.std.proofs.Common.{◌≡◌, ◌+◌, ◌<◌, ◌≤◌, ℕ, List, ◌∷◌, ◌++◌, map, length, drop, get_or, sym, ap, ◌∙◌, append_assoc}
use Rattle.std.specs.List.{enumerate_from}
use Rattle.std.proofs.lemmas.List.{append-nil, at_drop_more, drop_all}
use Rattle.elf_file.specs.declared.section.SectionHeader.{SectionHeader}
use Rattle.link_core.specs.declared.layout.OutSection.{OutSection}
use Rattle.link_sections.specs.Rows.{row_bytes, rows_bytes}

-- those from a section on
abbrev pub rest : (ℕ × OutSection → SectionHeader) → ℕ → List OutSection → List ℕ
rest f i sections = rows_bytes (map f (enumerate_from i (drop i sections)))

drop_more :
    (xs : List OutSection) (i : ℕ) (d : OutSection) → i < length xs
    → drop i xs ≡ get_or xs i d ∷ drop (i + 1) xs
drop_more xs i d h = at_drop_more (λ ys. ys) xs i d h

pub turn :
    (f : ℕ × OutSection → SectionHeader) (i : ℕ) (s d : OutSection) (sections : List OutSection)
    (out new all : List ℕ) (row : SectionHeader) → i < length sections → s ≡ get_or sections i d
    → row ≡ f (i, s) → new ≡ out ++ row_bytes row → out ++ rest f i sections ≡ all
    → new ++ rest f (i + 1) sections ≡ all
turn f i s d sections out new all row low at is put so_far =
    let here : row ≡ f (i, get_or sections i d) = is ∙ ap (λ t. f (i, t)) at in
    ap (λ bs. bs ++ rest f (i + 1) sections) (put ∙ ap (λ r. out ++ row_bytes r) here)
    ∙ append_assoc out (row_bytes (f (i, get_or sections i d))) (rest f (i + 1) sections)
    ∙ sym (ap (λ ss. out ++ rows_bytes (map f (enumerate_from i ss))) (drop_more sections i d low))
    ∙ so_far

pub ended :
    (f : ℕ × OutSection → SectionHeader) (i : ℕ) (sections : List OutSection) (out old : List ℕ)
    → length sections ≤ i → out ++ rest f i sections ≡ old ++ rest f 0 sections
    → out ≡ old ++ rows_bytes (map f (enumerate_from 0 sections))
ended f i sections out old high so_far =
    sym (ap (λ ss. out ++ rows_bytes (map f (enumerate_from i ss))) (drop_all i sections high) ∙ append-nil out)
    ∙ so_far
