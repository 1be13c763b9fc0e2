-- A table is as large as its content says.
use Rattle.std.proofs.Common.{◌≡◌, ℕ, ◌+◌, List, [], ◌∷◌, refl, ap, ◌∙◌, arith, suc, cond, Option, Some, Bool, true, false}
use Rattle.std.specs.List.{position_or_len}
use Rattle.std.specs.Option.{option_map_or}
use Rattle.std.specs.Prelude.{find, not, slice_get}
use Rattle.link_core.specs.declared.layout.OutSection.{OutSection}
use Rattle.link_core.specs.Contents.{Content, contents_of}
use Rattle.link_core.specs.Places.{is_table, table_position, table_size}
use Rattle.link_layout.specs.Laws.{TablesHaveTheirSize}
use Rattle.link_layout.proofs.Within.{sections_the_contents}

one_more : (k : ℕ) → 1 + k ≡ suc k
one_more k = omega arith

step :
    (b : Bool) (x : Content) (xs : List Content) (k : ℕ) (r : Option Content) → slice_get xs k ≡ r
    → slice_get (x ∷ xs) (cond (not b) (1 + k) 0) ≡ cond b (Some x) r
step true x xs k r e = refl
step false x xs k r e = ap (λ (n : ℕ). slice_get (x ∷ xs) n) (one_more k) ∙ e

found_by_position : (p : Content → Bool) (xs : List Content) → slice_get xs (position_or_len p xs) ≡ find p xs
found_by_position p [] = refl
found_by_position p (x ∷ xs) = step (p x) x xs (position_or_len p xs) (find p xs) (found_by_position p xs)

pub tables_sized : TablesHaveTheirSize
unfolding table_size table_position
tables_sized j l name c given there =
    let here = found_by_position (is_table name) (contents_of j) ∙ there in
    ap (λ (s : Option OutSection). option_map_or (λ s. s.size) s 0)
    ((sections_the_contents j l given).each (position_or_len (is_table name) (contents_of j)) c here)
