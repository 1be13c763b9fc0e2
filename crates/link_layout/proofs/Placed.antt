-- Within the limit of the image, all sections are placed as the layout says.
use Rattle.std.proofs.Common.{◌≡◌, ℕ, List, [], ◌++◌, map, refl, ap, sym, ◌∙◌, subst, append_assoc, Bool, true, false}
use Rattle.std.specs.List.{zip}
use Rattle.link_core.specs.declared.layout.OutSection.{OutSection}
use Rattle.link_core.specs.Contents.{Content, contents_of, executed_contents, read_contents, thread_contents, thread_zeros, written_contents}
use Rattle.link_core.specs.Layout.{addresses_from, addresses_of, code_start, data_start, has_threads, read_start, tls_file_end, tls_start}
use Rattle.link_core.specs.Planned.{Planned}
use Rattle.link_tables.specs.Capped.{capped}
use Rattle.link_tables.specs.Sections.{shown}
use Rattle.link_places.specs.declared.bounds.Bounds.{Bounds}
use Rattle.link_places.specs.Bounds.{bounds_of}
use Rattle.link_places.specs.Placed.{placed_by, placed_from}
use Rattle.link_layout.proofs.Sections.{placed_are, placed_first, placed_from_capped, section_from, sections_from}
use Rattle.link_layout.proofs.Segments.{code_is, read_is, segments_by, thread_is, written_is, zeros_is}
use Rattle.link_layout.proofs.Small.{IsWithin, code_small, data_small, none_first, none_second, read_small, thread_small, zeros_small}
use Rattle.link_layout.proofs.Starts.{code_starts, data_starts, read_starts, tls_file_ends, tls_starts}

none_placed : (n at : ℕ) (cs : List Content) → cs ≡ [] → placed_from n (map shown cs) ≡ sections_from at cs
unfolding placed_from
none_placed n at cs none =
    let P : List Content → Type 0 = λ xs. placed_from n (map shown xs) ≡ sections_from at xs in
    subst P (sym none) refl

thread_placed : (j : Planned) (b : Bool) → IsWithin j → has_threads j ≡ b → placed_from (capped (tls_start j)) (map shown (thread_contents j)) ≡ sections_from (tls_start j) (thread_contents j)
thread_placed j true within there = placed_from_capped (tls_start j) (thread_contents j) (thread_small j within there)
thread_placed j false within there = none_placed (capped (tls_start j)) (tls_start j) (thread_contents j) (none_first (thread_contents j) (thread_zeros j) there)

zeros_placed : (j : Planned) (b : Bool) → IsWithin j → has_threads j ≡ b → placed_from (capped (tls_file_end j)) (map shown (thread_zeros j)) ≡ sections_from (tls_file_end j) (thread_zeros j)
zeros_placed j true within there = placed_from_capped (tls_file_end j) (thread_zeros j) (zeros_small j within there)
zeros_placed j false within there = none_placed (capped (tls_file_end j)) (tls_file_end j) (thread_zeros j) (none_second (thread_contents j) (thread_zeros j) there)

abbrev pub bounds_by : Planned → Bounds
bounds_by j = bounds_of j.options.kind j.rules.page (segments_by j)

placed_parts :
    (j : Planned) → IsWithin j → placed_by (bounds_by j) (segments_by j)
    ≡ sections_from (read_start j) (read_contents j)
    ++ sections_from (code_start j) (executed_contents j)
    ++ sections_from (tls_start j) (thread_contents j)
    ++ sections_from (tls_file_end j) (thread_zeros j)
    ++ sections_from (data_start j) (written_contents j)
unfolding placed_by bounds_of
placed_parts j within =
    let read = (λ i. placed_from (read_starts j i) (read_is j i)) ∙ placed_are (read_start j) (read_contents j) (read_small j within) in
    let code = (λ i. placed_from (code_starts j i) (code_is j i)) ∙ placed_from_capped (code_start j) (executed_contents j) (code_small j within) in
    let thread = (λ i. placed_from (tls_starts j i) (thread_is j i)) ∙ thread_placed j (has_threads j) within refl in
    let zeros = (λ i. placed_from (tls_file_ends j i) (zeros_is j i)) ∙ zeros_placed j (has_threads j) within refl in
    let written = (λ i. placed_from (data_starts j i) (written_is j i)) ∙ placed_from_capped (data_start j) (written_contents j) (data_small j within) in
    λ i. read i ++ code i ++ thread i ++ zeros i ++ written i

-- ---- all sections are the contents at their addresses

five : {X : Type 0} (a b c d e : List X) → a ++ b ++ c ++ d ++ e ≡ a ++ (b ++ (c ++ (d ++ e)))
five a b c d e = simp append_assoc

abbrev pub sections_of : Planned → List OutSection
sections_of j = map section_from (zip (contents_of j) (addresses_of j))

pub sections_parts :
    (j : Planned) → sections_of j
    ≡ sections_from (read_start j) (read_contents j)
    ++ sections_from (code_start j) (executed_contents j)
    ++ sections_from (tls_start j) (thread_contents j)
    ++ sections_from (tls_file_end j) (thread_zeros j)
    ++ sections_from (data_start j) (written_contents j)
unfolding contents_of addresses_of
sections_parts j =
    let r = read_contents j in
    let x = executed_contents j in
    let t = thread_contents j in
    let z = thread_zeros j in
    let w = written_contents j in
    let ar = addresses_from (read_start j) r in
    let ax = addresses_from (code_start j) x in
    let at = addresses_from (tls_start j) t in
    let az = addresses_from (tls_file_end j) z in
    let aw = addresses_from (data_start j) w in
    (λ i. map section_from (zip (five r x t z w i) (five ar ax at az aw i)))
    ∙ placed_first (read_start j) r (x ++ (t ++ (z ++ w))) (ax ++ (at ++ (az ++ aw)))
    ∙ ap (λ (ss : List OutSection). sections_from (read_start j) r ++ ss)
    (placed_first (code_start j) x (t ++ (z ++ w)) (at ++ (az ++ aw))
    ∙ ap (λ (ss : List OutSection). sections_from (code_start j) x ++ ss)
    (placed_first (tls_start j) t (z ++ w) (az ++ aw)
    ∙ ap (λ (ss : List OutSection). sections_from (tls_start j) t ++ ss) (placed_first (tls_file_end j) z w aw)))
    ∙ sym (five (sections_from (read_start j) r) (sections_from (code_start j) x) (sections_from (tls_start j) t) (sections_from (tls_file_end j) z) (sections_from (data_start j) w))

pub sections_placed : (j : Planned) → IsWithin j → placed_by (bounds_by j) (segments_by j) ≡ sections_of j
sections_placed j within = placed_parts j within ∙ sym (sections_parts j)
