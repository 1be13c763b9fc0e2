-- The layout by counts and output sections is the one that the link has, or the same limit.
use Rattle.std.proofs.Common.{◌≡◌, ℕ, ◌+◌, ◌-◌, ◌≤◌, ◌^◌, List, [], ◌∷◌, ◌++◌, map, length, Result, Ok, refl, ap, sym, ◌∙◌, arith, Bool, true, false}
use Rattle.std.specs.List.{flat_map, zip}
use Rattle.std.specs.Prelude.{codes, if◌then◌else◌, nat_le, sum_by}
use Rattle.std.proofs.lemmas.Bool.Decides.{nat_tests}
use Rattle.std.proofs.lemmas.List.{length-map}
use Rattle.std.proofs.lemmas.List.Sums.{sum_by-append, sum_by-cons}
use Rattle.ifs_bytes.specs.Carried.{carried}
use Rattle.ifs_bytes.specs.Outcome.{check, ◌>>=◌}
use Rattle.link_core.specs.declared.layout.Layout.{Layout}
use Rattle.link_core.specs.declared.layout.OutSection.{OutSection}
use Rattle.link_core.specs.declared.output.OutClass.{OutClass}
use Rattle.link_core.specs.declared.refusal.LinkRefusal.{LinkRefusal}
use Rattle.link_core.specs.declared.refusal.LinkRefusal.TheVariants.{ImageTooLarge}
use Rattle.link_core.specs.declared.tables.TheConstants.{MOST_IMAGE_BYTES, MOST_OUTPUT_SECTIONS}
use Rattle.link_core.specs.Commons.{outputs_by}
use Rattle.link_core.specs.Contents.{Content, contents_of}
use Rattle.link_core.specs.Layout as layout
use Rattle.link_core.specs.Layout.{addresses_of, commons_at, image_span, layout_by, layout_in, names_size, pieces_at, section_names}
use Rattle.link_core.specs.Planned.{Planned}
use Rattle.link_core.specs.Strings.{string_table_size}
use Rattle.link_tables.specs.Capped.{capped}
use Rattle.link_tables.specs.Counts.{counts_of}
use Rattle.link_tables.specs.Filled.{filled, outputs_filled}
use Rattle.link_places.specs.Bounds.{bounds_of}
use Rattle.link_places.specs.Placed.{placed_by}
use Rattle.link_positions.specs.Next as positions
use Rattle.link_positions.specs.Standing.{commons_in, pieces_in}
use Rattle.link_positions.specs.Whole as whole
use Rattle.link_positions.specs.Whole.{if_there, layout_from, limited, names_room, too_large}
use Rattle.link_layout.proofs.Found.{first_of, of_class}
use Rattle.link_layout.proofs.Pieces.{IsNamed, commons_are, pieces_are}
use Rattle.link_layout.proofs.Placed.{bounds_by, sections_of, sections_placed}
use Rattle.link_layout.proofs.Positions.{first_at}
use Rattle.link_layout.proofs.Sections.{is_carried, section_from}
use Rattle.link_layout.proofs.Segments.{segments_by}
use Rattle.link_layout.proofs.Small.{IsWithin, starts_ascend, thread_before, tls_small, written_small, zeros_before}
use Rattle.link_layout.proofs.Starts.{spans, spans_within, threads_are, tls_aligns, tls_ends, tls_file_ends, tls_starts, written_ends}
use Rattle.link_layout.proofs.Pieces.{lengths}

-- ---- names

names_zipped : (cs : List Content) (ns : List ℕ) → length ns ≡ length cs → sum_by (λ s. length s.name + 1) (map section_from (zip cs ns)) ≡ sum_by (λ name. length name + 1) (map (λ c. c.name) cs)
names_zipped [] [] e = refl
names_zipped [] (n ∷ ns) e = cc
names_zipped (c ∷ cs) [] e = cc
names_zipped (c ∷ cs) (n ∷ ns) e =
    let k : length ns ≡ length cs = omega (arith, e) in
    sum_by-cons (λ (s : OutSection). length s.name + 1) (section_from (c, n)) (map section_from (zip cs ns))
    ∙ ap (λ (m : ℕ). length c.name + 1 + m) (names_zipped cs ns k)
    ∙ sym (sum_by-cons (λ (name : List ℕ). length name + 1) c.name (map (λ (d : Content). d.name) cs))

names_are : (j : Planned) → names_room (sections_of j) ≡ capped (names_size j)
unfolding section_names string_table_size
names_are j =
    let f : List ℕ → ℕ = λ name. length name + 1 in
    let cs = map (λ (c : Content). c.name) (contents_of j) in
    let own = sum_by-append f cs (codes ".shstrtab" ∷ []) in
    let last : sum_by f (codes ".shstrtab" ∷ []) ≡ 10 = refl in
    let n : sum_by f cs + 11 ≡ 1 + sum_by f (cs ++ codes ".shstrtab" ∷ []) = omega (arith, own, last) in
    ap (λ (m : ℕ). capped (m + 11)) (names_zipped (contents_of j) (addresses_of j) (lengths j)) ∙ ap capped n

capped_within : (n : ℕ) → nat_le (capped n) 268435456 ≡ nat_le n 268435456
capped_within n = grind (arith, nat_tests)

capped_carried : (n : ℕ) → carried (capped n) ≡ carried n
capped_carried n = omega arith

-- ---- numbers of the thread-local segment

there_or_0 : (b : Bool) (n : ℕ) → (b ≡ true → n ≤ 2 ^ 40) → if_there b (carried (capped n)) ≡ (if b then n else 0)
there_or_0 true n small = is_carried n (small refl)
there_or_0 false n small = refl

apart_by : (n m : ℕ) → n ≤ 2 ^ 40 → m ≤ n → carried (capped n - capped m) ≡ n - m
apart_by n m small less = omega (arith, small, less)

apart_or_0 : (b : Bool) (n m : ℕ) → (b ≡ true → n ≤ 2 ^ 40) → m ≤ n → if_there b (carried (capped n - capped m)) ≡ (if b then n - m else 0)
apart_or_0 true n m small less = apart_by n m (small refl) less
apart_or_0 false n m small less = refl

tls_less : (j : Planned) → IsWithin j → layout.has_threads j ≡ true → layout.tls_end j ≤ 2 ^ 40
tls_less j within there = let last = tls_small j within there in omega (arith, last)

-- ---- the layout

counts_start : (j : Planned) (class : OutClass) → positions.at (positions.first_of (segments_by j)) class ≡ positions.position (length (first_of class j) + length (of_class class []))
counts_start j class =
    let n : length (first_of class j) ≡ length (first_of class j) + 0 = omega arith in
    first_at j class ∙ ap positions.position n

pieces_whole : (j : Planned) → IsWithin j → IsNamed j → pieces_in (placed_by (bounds_by j) (segments_by j)) (positions.first_of (segments_by j)) (outputs_filled j) ≡ flat_map (pieces_at j) (outputs_by j)
pieces_whole j within named =
    ap (λ (ss : List OutSection). pieces_in ss (positions.first_of (segments_by j)) (outputs_filled j)) (sections_placed j within)
    ∙ pieces_are j [] (outputs_by j) (positions.first_of (segments_by j)) within named refl (counts_start j)

commons_whole : (j : Planned) → IsWithin j → IsNamed j → commons_in (placed_by (bounds_by j) (segments_by j)) (positions.first_of (segments_by j)) (outputs_filled j) ≡ flat_map (commons_at j) (outputs_by j)
commons_whole j within named =
    ap (λ (ss : List OutSection). commons_in ss (positions.first_of (segments_by j)) (outputs_filled j)) (sections_placed j within)
    ∙ commons_are j [] (outputs_by j) (positions.first_of (segments_by j)) within named refl (counts_start j)

whole_is : (j : Planned) → IsWithin j → IsNamed j → whole.whole (bounds_by j) (segments_by j) (outputs_filled j) ≡ layout_by j
unfolding whole.whole bounds_of layout_by
whole_is j within named =
    let threads = threads_are j in
    let t = layout.has_threads j in
    let sections = sections_placed j within in
    let pieces = pieces_whole j within named in
    let commons = commons_whole j within named in
    let last = written_small j within in
    let end = ap carried (written_ends j) ∙ is_carried (layout.written_end j) (omega (arith, last)) in
    let starts = tls_starts j in
    let files = tls_file_ends j in
    let ends = tls_ends j in
    let aligns = tls_aligns j in
    let less = tls_less j within in
    let start =
    (λ i. if_there (threads i) (carried (starts i)))
    ∙ there_or_0 t (layout.tls_start j) (λ there. let e = less there in omega (arith, e, starts_ascend j))
    in
    let file =
    (λ i. if_there (threads i) (carried (files i - starts i)))
    ∙ apart_or_0 t (layout.tls_file_end j) (layout.tls_start j) (λ there. let e = less there in omega (arith, e, zeros_before j)) (thread_before j)
    in
    let size =
    (λ i. if_there (threads i) (carried (ends i - starts i)))
    ∙ apart_or_0 t (layout.tls_end j) (layout.tls_start j) less (starts_ascend j)
    in
    λ i. record {
      sections = sections i;
      pieces = pieces i;
      commons = commons i;
      end = end i;
      tls_start = start i;
      tls_file = file i;
      tls_size = size i;
      tls_align = if_there (threads i) (aligns i);
    }

-- ---- limit by limit

checked : (b : Bool) (e : LinkRefusal) (x y : Result Layout LinkRefusal) → (b ≡ true → x ≡ y) → (check b e >>= (λ _. x)) ≡ (check b e >>= (λ _. y))
checked true e x y same = same refl
checked false e x y same = refl

third : (j : Planned) → IsWithin j →
    (check (nat_le (names_room (placed_by (bounds_by j) (segments_by j))) MOST_IMAGE_BYTES) (too_large (names_room (placed_by (bounds_by j) (segments_by j))))
    >>= (λ _. Ok (whole.whole (bounds_by j) (segments_by j) (outputs_filled j))))
    ≡ (check (nat_le (names_size j) MOST_IMAGE_BYTES) (too_large (names_size j)) >>= (λ _. Ok (layout_by j)))
third j within =
    let whole_layout = whole.whole (bounds_by j) (segments_by j) (outputs_filled j) in
    let names = ap names_room (sections_placed j within) ∙ names_are j in
    let test = capped_within (names_size j) in
    let number = capped_carried (names_size j) in
    (λ i. check (nat_le (names i) MOST_IMAGE_BYTES) (too_large (names i)) >>= (λ _. Ok whole_layout))
    ∙ (λ i. check (test i) (ImageTooLarge (number i)) >>= (λ _. Ok whole_layout))
    ∙ checked (nat_le (names_size j) MOST_IMAGE_BYTES) (too_large (names_size j)) (Ok whole_layout) (Ok (layout_by j)) (λ named. ap Ok (whole_is j within named))

second : (j : Planned) → IsWithin j →
    (check (nat_le (length (outputs_filled j)) MOST_OUTPUT_SECTIONS) (too_large (length (outputs_filled j)))
    >>= (λ _. check (nat_le (names_room (placed_by (bounds_by j) (segments_by j))) MOST_IMAGE_BYTES) (too_large (names_room (placed_by (bounds_by j) (segments_by j))))
    >>= (λ _. Ok (whole.whole (bounds_by j) (segments_by j) (outputs_filled j)))))
    ≡ (check (nat_le (length (outputs_by j)) MOST_OUTPUT_SECTIONS) (too_large (length (outputs_by j)))
    >>= (λ _. check (nat_le (names_size j) MOST_IMAGE_BYTES) (too_large (names_size j)) >>= (λ _. Ok (layout_by j))))
second j within =
    let many = length-map (outputs_by j) (filled j) in
    let more = third j within in
    λ i. check (nat_le (many i) MOST_OUTPUT_SECTIONS) (too_large (many i)) >>= (λ _. more i)

limits_are : (j : Planned) → limited (bounds_by j) (segments_by j) (outputs_filled j) ≡ layout_in j
unfolding limited bounds_of layout_in
limits_are j =
    let test = spans_within j in
    let number = spans j in
    let one =
    check (nat_le (length (outputs_filled j)) MOST_OUTPUT_SECTIONS) (too_large (length (outputs_filled j)))
    >>= (λ _. check (nat_le (names_room (placed_by (bounds_by j) (segments_by j))) MOST_IMAGE_BYTES) (too_large (names_room (placed_by (bounds_by j) (segments_by j))))
    >>= (λ _. Ok (whole.whole (bounds_by j) (segments_by j) (outputs_filled j))))
    in
    let other =
    check (nat_le (length (outputs_by j)) MOST_OUTPUT_SECTIONS) (too_large (length (outputs_by j)))
    >>= (λ _. check (nat_le (names_size j) MOST_IMAGE_BYTES) (too_large (names_size j)) >>= (λ _. Ok (layout_by j)))
    in
    (λ i. check (test i) (ImageTooLarge (number i)) >>= (λ _. one))
    ∙ checked (nat_le (image_span j) MOST_IMAGE_BYTES) (too_large (image_span j)) one other (λ within. second j within)

pub layout_is : (j : Planned) → layout_from j.options.kind j.rules.page (counts_of j) (outputs_filled j) ≡ layout_in j
unfolding layout_from
layout_is j = limits_are j
