-- Turns of the loops over output sections and sections.
use Rattle.std.proofs.Common.{◌≡◌, ℕ, ◌+◌, ◌<◌, ◌≤◌, List, [], ◌∷◌, ◌++◌, map, drop, length, get_or, ap, sym, ◌∙◌, refl, append_assoc, Bool, true, false}
use Rattle.std.specs.Prelude.{filter, if◌then◌else◌}
use Rattle.std.proofs.lemmas.List.{drop_more, drop_all}
use Rattle.link_core.specs.declared.layout.OutSection.{OutSection}
use Rattle.link_core.specs.declared.output.OutClass.{OutClass}
use Rattle.link_core.specs.OutputNames.{same_class}
use Rattle.link_core.specs.Aligned.{aligned}
use Rattle.link_tables.specs.declared.output.FilledOutput.{FilledOutput}
use Rattle.link_tables.specs.declared.section.Section.{Section}
use Rattle.link_tables.specs.Capped.{capped}
use Rattle.link_places.specs.Placed.{placed_at, placed_from}
use Rattle.link_places.specs.Segments.{section_of, sections_in}

front_by : (there : Bool) (o : FilledOutput) (rest : List FilledOutput) → map section_of (if there then o ∷ rest else rest) ≡ (if there then section_of o ∷ [] else []) ++ map section_of rest
front_by true o rest = refl
front_by false o rest = refl

-- one turn of the loop over output sections
pub section_turn :
    (class : OutClass) (outputs : List FilledOutput) (i : ℕ) (o : FilledOutput) (old new all : List Section)
    → i < length outputs → o ≡ get_or outputs i o
    → new ≡ old ++ (if same_class o.class class then section_of o ∷ [] else [])
    → old ++ sections_in class (drop i outputs) ≡ all → new ++ sections_in class (drop (i + 1) outputs) ≡ all
section_turn class outputs i o old new all within is pushed so_far =
    let rest = sections_in class (drop (i + 1) outputs) in
    let here : List Section = if same_class o.class class then section_of o ∷ [] else [] in
    let e : drop i outputs ≡ o ∷ drop (i + 1) outputs = drop_more outputs i o within ∙ ap (λ (x : FilledOutput). x ∷ drop (i + 1) outputs) (sym is) in
    ap (λ (xs : List Section). xs ++ rest) pushed ∙ append_assoc old here rest
    ∙ ap (λ (xs : List Section). old ++ xs) (sym (ap (sections_in class) e ∙ front_by (same_class o.class class) o (filter (λ p. same_class p.class class) (drop (i + 1) outputs))))
    ∙ so_far

-- one turn of the loop over sections
pub placed_turn :
    (sections : List Section) (i end address next : ℕ) (s : Section) (old new all : List OutSection)
    → i < length sections → s ≡ get_or sections i s → address ≡ capped (aligned s.align end)
    → next ≡ capped (address + s.size) → new ≡ old ++ placed_at s address ∷ []
    → old ++ placed_from end (drop i sections) ≡ all → new ++ placed_from next (drop (i + 1) sections) ≡ all
unfolding placed_from
placed_turn sections i end address next s old new all within is here ends pushed so_far =
    let rest = drop (i + 1) sections in
    let e : drop i sections ≡ s ∷ rest = drop_more sections i s within ∙ ap (λ (x : Section). x ∷ rest) (sym is) in
    let at = capped (aligned s.align end) in
    let n : next ≡ capped (at + s.size) = ends ∙ ap (λ (a : ℕ). capped (a + s.size)) here in
    ap (λ (xs : List OutSection). xs ++ placed_from next rest) (pushed ∙ ap (λ (a : ℕ). old ++ placed_at s a ∷ []) here)
    ∙ ap (λ (k : ℕ). old ++ placed_at s at ∷ [] ++ placed_from k rest) n
    ∙ append_assoc old (placed_at s at ∷ []) (placed_from (capped (at + s.size)) rest)
    ∙ ap (λ (xs : List Section). old ++ placed_from end xs) (sym e)
    ∙ so_far

pub placed_end : (sections : List Section) (i end : ℕ) → length sections ≤ i → placed_from end (drop i sections) ≡ []
unfolding placed_from
placed_end sections i end h = ap (placed_from end) (drop_all i sections h)
