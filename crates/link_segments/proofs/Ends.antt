-- Ends of segments, and pages, are small.
use Rattle.std.proofs.Common.{◌≡◌, ◌≤◌, ◌<◌, ◌+◌, ◌-◌, ◌*◌, ◌/◌, ◌^◌, ℕ, zero, suc, cond, Bool, true, false, List, [], ◌∷◌, Option, Some, None, arith}
use Rattle.std.specs.List.{AllByRecursion, last_or}
use Rattle.std.specs.Option.{option_map_or}
use Rattle.std.specs.Prelude.{filter, ◌||◌}
use Rattle.std.proofs.lemmas.List.Elements.{recursion_from_All}
use Rattle.link_core.specs.declared.layout.Layout.{Layout}
use Rattle.link_core.specs.declared.layout.OutSection.{OutSection}
use Rattle.link_core.specs.declared.options.OutKind.{OutKind}
use Rattle.link_core.specs.Aligned.{aligned, alignment}
use Rattle.link_core.specs.Layout.{code_start, headers_size, read_end, read_start}
use Rattle.link_core.specs.Places.{code_segment_end, is_code, is_read, read_segment_end, section_end}
use Rattle.link_core.specs.Planned.{Planned}
use Rattle.link_tables.proofs.Multiples.{aligned_is_behind}
use Rattle.link_layout.specs.Laws.{IsInImage, IsLayoutOf}
use Rattle.link_layout.proofs.Laid.{images_low, laid, written_within}
use Rattle.link_layout.proofs.Small.{code_before, data_before, end_before, written_before}
use Rattle.link_layout.proofs.Within.{read_first, sections_within}

-- ---- pages

next_row : (q m : ℕ) → suc q * m ≡ q * m + m
next_row q m = grind arith

one_at_least : (q m at : ℕ) → 0 < at → at ≤ q * m → m ≤ q * m
one_at_least zero m at some behind = omega arith
one_at_least (suc q) m at some behind = omega (arith, next_row q m)

-- what is behind 0 ends a page at least
page_at : (align at : ℕ) → 0 < at → alignment align ≤ aligned align at
unfolding aligned
page_at align at some =
    let m = alignment align in
    one_at_least ((at + (m - 1)) / m) m at some (aligned_is_behind align at)

started : (j : Planned) → 64 ≤ read_start j
unfolding headers_size
started j = omega arith

first_page : (j : Planned) → alignment j.rules.page ≤ code_start j
unfolding code_start
first_page j = page_at j.rules.page (read_end j) (omega (arith, started j, read_first j))

pub page_low : (j : Planned) (l : Layout) → IsLayoutOf j l → j.rules.page < 2 ^ 33
page_low j l made =
    let first = first_page j in
    let end = written_within j (laid j l made).within in
    let most = images_low j.options.kind in
    omega (arith, first, end, most, code_before j, written_before j, data_before j, end_before j)

-- ---- ends of sections

abbrev IsLow : OutSection → Type 0
IsLow s = section_end s < 2 ^ 33

low : (kind : OutKind) (ss : List OutSection) → AllByRecursion (IsInImage kind) ss → AllByRecursion IsLow ss
low kind [] all = tt
low kind (s ∷ ss) all =
    let most = images_low kind in
    let end = all.0.1 in
    (omega (arith, most, end), low kind ss all.1)

chosen : (t : Bool) (s : OutSection) (some all : List OutSection) → IsLow s → AllByRecursion IsLow some → AllByRecursion IsLow (cond t (s ∷ some) some)
chosen true s some all here rest = (here, rest)
chosen false s some all here rest = rest

low_some : (test : OutSection → Bool) (ss : List OutSection) → AllByRecursion IsLow ss → AllByRecursion IsLow (filter test ss)
low_some test [] all = tt
low_some test (s ∷ ss) all = chosen (test s) s (filter test ss) ss all.0 (low_some test ss all.1)

low_last : (last : Option OutSection) (ss : List OutSection) → option_map_or section_end last 0 < 2 ^ 33 → AllByRecursion IsLow ss → option_map_or section_end (last_or last ss) 0 < 2 ^ 33
low_last last [] here all = here
low_last last (s ∷ ss) here all = low_last (Some s) ss all.0 all.1

end_low : (j : Planned) (l : Layout) (test : OutSection → Bool) → IsLayoutOf j l → option_map_or section_end (last_or None (filter test l.sections)) 0 < 2 ^ 33
end_low j l test made =
    let within = recursion_from_All (IsInImage j.options.kind) l.sections (sections_within j l made) in
    low_last None (filter test l.sections) (omega arith) (low_some test l.sections (low j.options.kind l.sections within))

pub read_low : (j : Planned) (l : Layout) → IsLayoutOf j l → read_segment_end l < 2 ^ 33
unfolding read_segment_end
read_low j l made = end_low j l is_read made

pub code_low : (j : Planned) (l : Layout) → IsLayoutOf j l → code_segment_end l < 2 ^ 33
unfolding code_segment_end
code_low j l made = end_low j l (λ s. is_read s || is_code s) made
