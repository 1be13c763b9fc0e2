-- Places are multiples of their alignments, and ascend.
use Rattle.std.proofs.Common.{◌≡◌, ℕ, ◌+◌, ◌-◌, ◌*◌, ◌/◌, ◌%◌, ◌≤◌, List, [], ◌∷◌, ◌++◌, length, refl, ap, sym, ◌∙◌, arith, subst, append_assoc, add-zero, suc, Bool, true}
use Rattle.std.specs.List.{AllByRecursion}
use Rattle.std.specs.Prelude.{All, if◌then◌else◌, nat_lt}
use Rattle.std.proofs.lemmas.Bool.Decides.{nat_tests}
use Rattle.std.proofs.lemmas.List.Elements.{All-from_recursion}
use Rattle.std.proofs.lemmas.Nat.{mod-mul-add}
use Rattle.link_core.specs.declared.layout.OutSection.{OutSection}
use Rattle.link_core.specs.Aligned.{aligned, alignment, end_from, places_from}
use Rattle.link_core.specs.Contents.{Content, executed_contents, read_contents, thread_contents, thread_zeros, written_contents}
use Rattle.link_core.specs.Layout.{base_of, code_end, code_start, contents_end, data_start, read_end, read_start, tls_file_end, tls_start, written_start}
use Rattle.link_core.specs.Planned.{Planned}
use Rattle.link_tables.proofs.Multiples.{aligned_is_behind}
use Rattle.link_layout.specs.Laws.{AreInOrder, Ascend, IsAligned, PlacesAreAligned, PlacesAscend}
use Rattle.link_layout.proofs.Placed.{sections_of, sections_parts}
use Rattle.link_layout.proofs.Sections.{sections_from}
use Rattle.link_layout.proofs.Small.{read_before, tls_before, written_before}
use Rattle.link_layout.proofs.Within.{headers_before, of_parts, sections_are}

-- ---- multiples

positive : (align : ℕ) → 1 ≤ alignment align
positive align = omega arith

is_multiple : (align at : ℕ) → aligned align at % alignment align ≡ 0
unfolding aligned
is_multiple align at =
    let m = alignment align in
    let q = (at + (m - 1)) / m in
    ap (λ (k : ℕ). k % m) (sym (add-zero (q * m))) ∙ mod-mul-add q m 0 (positive align)

aligned_from : (at : ℕ) (cs : List Content) → AllByRecursion IsAligned (sections_from at cs)
unfolding places_from
aligned_from at [] = tt
aligned_from at (c ∷ cs) = (is_multiple c.align at, aligned_from (aligned c.align at + c.size) cs)

pub places_aligned : PlacesAreAligned
places_aligned j l given =
    let P : List OutSection → Type 0 = λ ss. All IsAligned ss in
    subst P (sections_are j l given)
    (All-from_recursion IsAligned (sections_of j)
    (of_parts IsAligned j
    (aligned_from (read_start j) (read_contents j))
    (aligned_from (code_start j) (executed_contents j))
    (aligned_from (tls_start j) (thread_contents j))
    (aligned_from (tls_file_end j) (thread_zeros j))
    (aligned_from (data_start j) (written_contents j))))

-- ---- order

lower : (low at : ℕ) (ss : List OutSection) → low ≤ at → Ascend at ss → Ascend low ss
lower low at [] less all = tt
lower low at (s ∷ ss) less all = let here = all.0 in (omega (arith, less, here), all.1)

-- sections from an address on, with what follows behind their end
ascend_from : (low at : ℕ) (cs : List Content) (rest : List OutSection) → low ≤ at → Ascend (contents_end at cs) rest → Ascend low (sections_from at cs ++ rest)
unfolding places_from end_from
ascend_from low at [] rest less follows = lower low at rest less follows
ascend_from low at (c ∷ cs) rest less follows =
    let place = aligned c.align at in
    let here : at ≤ place = aligned_is_behind c.align at in
    (omega (arith, less, here), ascend_from (place + c.size) (place + c.size) cs rest (omega arith) follows)

ascend_last : (low at : ℕ) (cs : List Content) → low ≤ at → Ascend low (sections_from at cs)
unfolding places_from
ascend_last low at [] less = tt
ascend_last low at (c ∷ cs) less =
    let place = aligned c.align at in
    let here : at ≤ place = aligned_is_behind c.align at in
    (omega (arith, less, here), ascend_last (place + c.size) (place + c.size) cs (omega arith))

read_code :
    (j : Planned) (rest : List OutSection) → Ascend (code_end j) rest
    → Ascend (base_of j.options.kind)
    (sections_from (read_start j) (read_contents j) ++ (sections_from (code_start j) (executed_contents j) ++ rest))
unfolding read_end code_end
read_code j rest follows =
    let before : contents_end (read_start j) (read_contents j) ≤ code_start j = read_before j in
    ascend_from (base_of j.options.kind) (read_start j) (read_contents j)
    (sections_from (code_start j) (executed_contents j) ++ rest) (headers_before j)
    (ascend_from (contents_end (read_start j) (read_contents j)) (code_start j) (executed_contents j) rest before follows)

zeros_follow : (j : Planned) → Ascend (code_end j) (sections_from (tls_start j) (thread_contents j) ++ sections_from (tls_file_end j) (thread_zeros j))
unfolding tls_file_end
zeros_follow j =
    let end = contents_end (tls_start j) (thread_contents j) in
    ascend_from (code_end j) (tls_start j) (thread_contents j) (sections_from end (thread_zeros j))
    (omega (arith, written_before j, tls_before j)) (ascend_last end end (thread_zeros j) (omega arith))

some : (n : ℕ) → nat_lt 0 (suc n) ≡ true
some n = grind (arith, nat_tests)

-- without thread-local data, what is written starts behind the code, else behind that data
data_follow :
    (low start at : ℕ) (cs ws : List Content) → low ≤ start → start ≤ at
    → Ascend low (sections_from at cs ++ sections_from (if nat_lt 0 (length cs) then contents_end at cs else start) ws)
unfolding places_from
data_follow low start at [] ws one other = ascend_last low start ws one
data_follow low start at (c ∷ cs) ws one other =
    let end = contents_end at (c ∷ cs) in
    let P : Bool → Type 0 = λ b. Ascend low (sections_from at (c ∷ cs) ++ sections_from (if b then end else start) ws) in
    subst P (sym (some (length cs)))
    (ascend_from low at (c ∷ cs) (sections_from end ws) (omega (arith, one, other)) (ascend_last end end ws (omega arith)))

written_follow : (j : Planned) → Ascend (code_end j) (sections_from (tls_start j) (thread_contents j) ++ sections_from (data_start j) (written_contents j))
unfolding data_start tls_file_end
written_follow j = data_follow (code_end j) (written_start j) (tls_start j) (thread_contents j) (written_contents j) (written_before j) (tls_before j)

as_many : (at : ℕ) (cs : List Content) → length (sections_from at cs) ≡ length cs
unfolding places_from
as_many at [] = refl
as_many at (c ∷ cs) = ap (λ (n : ℕ). suc n) (as_many (aligned c.align at + c.size) cs)

three_to_right : {X : Type 0} (a b c d : List X) → a ++ (b ++ (c ++ d)) ≡ a ++ b ++ c ++ d
three_to_right a b c d = simp append_assoc

in_order : (j : Planned) → AreInOrder j (sections_of j)
in_order j =
    let r = sections_from (read_start j) (read_contents j) in
    let x = sections_from (code_start j) (executed_contents j) in
    let t = sections_from (tls_start j) (thread_contents j) in
    let z = sections_from (tls_file_end j) (thread_zeros j) in
    let w = sections_from (data_start j) (written_contents j) in
    let P : List OutSection → Type 0 = λ ss. Ascend (base_of j.options.kind) ss in
    record {
      read = r;
      code = x;
      thread = t;
      zeros = z;
      written = w;
      whole = sections_parts j;
      all_read = as_many (read_start j) (read_contents j);
      all_code = as_many (code_start j) (executed_contents j);
      all_thread = as_many (tls_start j) (thread_contents j);
      all_zeros = as_many (tls_file_end j) (thread_zeros j);
      all_written = as_many (data_start j) (written_contents j);
      ascend = subst P (three_to_right r x t w) (read_code j (t ++ w) (written_follow j));
      zeros_ascend = subst P (three_to_right r x t z) (read_code j (t ++ z) (zeros_follow j));
    }

pub places_in_order : PlacesAscend
places_in_order j l given =
    let P : List OutSection → Type 0 = λ ss. AreInOrder j ss in
    subst P (sections_are j l given) (in_order j)
