-- The sections of a layout are the contents, and stand in the image.
use Rattle.std.proofs.Common.{◌≡◌, ℕ, ◌+◌, ◌≤◌, List, [], ◌∷◌, ◌++◌, map, length, refl, ap, sym, arith, subst, suc, zero, Some, Bool, true, false}
use Rattle.std.specs.List.{AllByRecursion, zip}
use Rattle.std.specs.Prelude.{All, slice_get, slice_index}
use Rattle.std.proofs.lemmas.List.Elements.{All-from_recursion}
use Rattle.link_core.specs.declared.layout.Layout.{Layout}
use Rattle.link_core.specs.declared.layout.OutSection.{OutSection}
use Rattle.link_core.specs.Aligned.{aligned, end_from, places_from}
use Rattle.link_core.specs.Contents.{Content, contents_of, executed_contents, read_contents, thread_contents, thread_zeros, written_contents}
use Rattle.link_core.specs.Layout.{addresses_of, base_of, code_end, code_start, contents_end, data_start, has_threads, layout_by, read_end, read_start, tls_end, tls_file_end, tls_start, written_end, written_start}
use Rattle.link_core.specs.Planned.{Planned}
use Rattle.link_tables.proofs.Ends.{end_is_behind}
use Rattle.link_tables.proofs.Multiples.{aligned_is_behind}
use Rattle.link_layout.specs.Laws.{AreContents, IsInImage, IsLayoutOf, SectionsAreTheContents, SectionsAreWithin, most_end, section_at}
use Rattle.link_layout.proofs.Laid.{laid, tls_within, written_within}
use Rattle.link_layout.proofs.Pieces.{lengths}
use Rattle.link_layout.proofs.Placed.{sections_of, sections_parts}
use Rattle.link_layout.proofs.Sections.{section_from, sections_from}
use Rattle.link_layout.proofs.Small.{IsWithin, code_before, data_before, end_before, none_first, none_second, read_before, tls_before, thread_before, written_before, zeros_before}

-- ---- the contents

zipped_length : (cs : List Content) (ns : List ℕ) → length ns ≡ length cs → length (map section_from (zip cs ns)) ≡ length cs
zipped_length [] ns e = refl
zipped_length (c ∷ cs) [] e = cc
zipped_length (c ∷ cs) (n ∷ ns) e = let k : length ns ≡ length cs = omega (arith, e) in ap (λ (m : ℕ). suc m) (zipped_length cs ns k)

zipped_at :
    (cs : List Content) (ns : List ℕ) → length ns ≡ length cs → (i : ℕ) (c : Content)
    → slice_get cs i ≡ Some c → slice_get (map section_from (zip cs ns)) i ≡ Some (section_at c (slice_index ns i))
zipped_at [] ns e i c there = cc
zipped_at (d ∷ cs) [] e i c there = cc
zipped_at (d ∷ cs) (n ∷ ns) e zero c there = let same : d ≡ c = cc in ap (λ (x : Content). Some (section_at x n)) same
zipped_at (d ∷ cs) (n ∷ ns) e (suc i) c there = let k : length ns ≡ length cs = omega (arith, e) in zipped_at cs ns k i c there

pub contents_placed : (j : Planned) → AreContents (contents_of j) (addresses_of j) (sections_of j)
contents_placed j = record {
  as_many = zipped_length (contents_of j) (addresses_of j) (lengths j);
  placed = lengths j;
  each = zipped_at (contents_of j) (addresses_of j) (lengths j);
}

pub sections_are : (j : Planned) (l : Layout) → IsLayoutOf j l → sections_of j ≡ l.sections
unfolding layout_by
sections_are j l given = sym (ap (λ (m : Layout). m.sections) (laid j l given).is)

pub sections_the_contents : SectionsAreTheContents
sections_the_contents j l given =
    let P : List OutSection → Type 0 = λ ss. AreContents (contents_of j) (addresses_of j) ss in
    subst P (sections_are j l given) (contents_placed j)

-- ---- the image

within_from :
    (j : Planned) (at : ℕ) (cs : List Content) → base_of j.options.kind ≤ at → contents_end at cs ≤ most_end j.options.kind
    → AllByRecursion (IsInImage j.options.kind) (sections_from at cs)
unfolding places_from end_from
within_from j at [] low high = tt
within_from j at (c ∷ cs) low high =
    let place = aligned c.align at in
    let here : at ≤ place = aligned_is_behind c.align at in
    let behind = end_is_behind (λ (x : Content). x.align) (λ (x : Content). x.size) (place + c.size) cs in
    ((omega (arith, here, low), omega (arith, behind, high)), within_from j (place + c.size) cs (omega (arith, here, low)) high)

none_within : (j : Planned) (at : ℕ) (cs : List Content) → cs ≡ [] → AllByRecursion (IsInImage j.options.kind) (sections_from at cs)
none_within j at cs none = let P : List Content → Type 0 = λ xs. AllByRecursion (IsInImage j.options.kind) (sections_from at xs) in subst P (sym none) tt

pub headers_before : (j : Planned) → base_of j.options.kind ≤ read_start j
headers_before j = omega arith

pub read_first : (j : Planned) → read_start j ≤ read_end j
unfolding read_end
read_first j = end_is_behind (λ (x : Content). x.align) (λ (x : Content). x.size) (read_start j) (read_contents j)

read_within : (j : Planned) → IsWithin j → contents_end (read_start j) (read_contents j) ≤ most_end j.options.kind
unfolding read_end
read_within j within =
    let last = written_within j within in
    let first : contents_end (read_start j) (read_contents j) ≤ code_start j = read_before j in
    omega (arith, last, first, code_before j, written_before j, data_before j, end_before j)

code_within : (j : Planned) → IsWithin j → contents_end (code_start j) (executed_contents j) ≤ most_end j.options.kind
unfolding code_end
code_within j within =
    let last = written_within j within in
    let first : contents_end (code_start j) (executed_contents j) ≤ written_start j = written_before j in
    omega (arith, last, first, data_before j, end_before j)

data_within : (j : Planned) → IsWithin j → contents_end (data_start j) (written_contents j) ≤ most_end j.options.kind
unfolding written_end
data_within j within = written_within j within

thread_within : (j : Planned) → IsWithin j → has_threads j ≡ true → contents_end (tls_start j) (thread_contents j) ≤ most_end j.options.kind
unfolding tls_file_end
thread_within j within there =
    let last = tls_within j within there in
    let first : contents_end (tls_start j) (thread_contents j) ≤ tls_end j = zeros_before j in
    omega (arith, last, first)

zeros_within : (j : Planned) → IsWithin j → has_threads j ≡ true → contents_end (tls_file_end j) (thread_zeros j) ≤ most_end j.options.kind
unfolding tls_end
zeros_within j within there = tls_within j within there

pub written_low : (j : Planned) → base_of j.options.kind ≤ written_start j
written_low j = omega (arith, headers_before j, read_first j, read_before j, code_before j, written_before j)

thread_in : (j : Planned) (b : Bool) → IsWithin j → has_threads j ≡ b → AllByRecursion (IsInImage j.options.kind) (sections_from (tls_start j) (thread_contents j))
thread_in j true within there = within_from j (tls_start j) (thread_contents j) (omega (arith, written_low j, tls_before j)) (thread_within j within there)
thread_in j false within there = none_within j (tls_start j) (thread_contents j) (none_first (thread_contents j) (thread_zeros j) there)

zeros_in : (j : Planned) (b : Bool) → IsWithin j → has_threads j ≡ b → AllByRecursion (IsInImage j.options.kind) (sections_from (tls_file_end j) (thread_zeros j))
zeros_in j true within there = within_from j (tls_file_end j) (thread_zeros j) (omega (arith, written_low j, tls_before j, thread_before j)) (zeros_within j within there)
zeros_in j false within there = none_within j (tls_file_end j) (thread_zeros j) (none_second (thread_contents j) (thread_zeros j) there)

pub all_both : {X : Type 0} (P : X → Type 0) (xs ys : List X) → AllByRecursion P xs → AllByRecursion P ys → AllByRecursion P (xs ++ ys)
all_both P [] ys one other = other
all_both P (x ∷ xs) ys one other = (one.0, all_both P xs ys one.1 other)

-- what holds of the sections of each part holds of all
pub of_parts :
    (P : OutSection → Type 0) (j : Planned)
    → AllByRecursion P (sections_from (read_start j) (read_contents j))
    → AllByRecursion P (sections_from (code_start j) (executed_contents j))
    → AllByRecursion P (sections_from (tls_start j) (thread_contents j))
    → AllByRecursion P (sections_from (tls_file_end j) (thread_zeros j))
    → AllByRecursion P (sections_from (data_start j) (written_contents j))
    → AllByRecursion P (sections_of j)
of_parts P j r x t z w =
    let sr = sections_from (read_start j) (read_contents j) in
    let sx = sections_from (code_start j) (executed_contents j) in
    let st = sections_from (tls_start j) (thread_contents j) in
    let sz = sections_from (tls_file_end j) (thread_zeros j) in
    let sw = sections_from (data_start j) (written_contents j) in
    let Q : List OutSection → Type 0 = λ ss. AllByRecursion P ss in
    subst Q (sym (sections_parts j))
    (all_both P (sr ++ sx ++ st ++ sz) sw
    (all_both P (sr ++ sx ++ st) sz
    (all_both P (sr ++ sx) st (all_both P sr sx r x) t) z) w)

all_in : (j : Planned) → IsWithin j → AllByRecursion (IsInImage j.options.kind) (sections_of j)
all_in j within =
    of_parts (IsInImage j.options.kind) j
    (within_from j (read_start j) (read_contents j) (headers_before j) (read_within j within))
    (within_from j (code_start j) (executed_contents j) (omega (arith, headers_before j, read_first j, read_before j)) (code_within j within))
    (thread_in j (has_threads j) within refl)
    (zeros_in j (has_threads j) within refl)
    (within_from j (data_start j) (written_contents j) (omega (arith, written_low j, data_before j)) (data_within j within))

pub sections_within : SectionsAreWithin
sections_within j l given =
    let P : List OutSection → Type 0 = λ ss. All (IsInImage j.options.kind) ss in
    subst P (sections_are j l given) (All-from_recursion (IsInImage j.options.kind) (sections_of j) (all_in j (laid j l given).within))
