-- Where the segments start and end is as the layout says, in 128 bits.
use Rattle.std.proofs.Common.{◌≡◌, ℕ, ◌+◌, ◌-◌, ◌*◌, ◌≤◌, max, List, map, length, refl, ap, sym, ◌∙◌, arith, Bool, true, false}
use Rattle.std.specs.Prelude.{if◌then◌else◌, nat_le, nat_lt, not, ◌||◌}
use Rattle.std.proofs.lemmas.Bool.Decides.{nat_tests}
use Rattle.std.proofs.lemmas.List.{length-append, length-map}
use Rattle.ifs_bytes.specs.Carried.{carried}
use Rattle.link_core.specs.declared.options.OutKind.{OutKind}
use Rattle.link_core.specs.declared.options.OutKind.TheVariants as kinds
use Rattle.link_core.specs.Contents.{Content, executed_contents, read_contents, thread_contents, thread_zeros, written_contents}
use Rattle.link_core.specs.Exports.{is_shared}
use Rattle.link_core.specs.Layout as layout
use Rattle.link_core.specs.Layout.{base_of, headers_size, segment_count}
use Rattle.link_core.specs.Planned.{Planned}
use Rattle.link_tables.specs.declared.section.Section.{Section}
use Rattle.link_tables.specs.Capped.{capped}
use Rattle.link_tables.specs.Sections.{shown}
use Rattle.link_places.specs.Bounds.{code_start, data_start, end_of, has_threads, header_count, next_page, read_start, some, span_by, tls_align, tls_end, tls_file_end, tls_start, written_end, written_start}
use Rattle.link_layout.proofs.Ends.{aligned_capped, end_is, end_shown, greatest_of_both}
use Rattle.link_layout.proofs.Segments.{code_is, read_is, segments_by, thread_is, written_is, zeros_is}

some_shown : (cs : List Content) → some (map shown cs) ≡ nat_lt 0 (length cs)
some_shown cs = ap (λ (n : ℕ). nat_lt 0 n) (length-map cs shown)

some_of_both : (n m : ℕ) → (nat_lt 0 n || nat_lt 0 m) ≡ nat_lt 0 (n + m)
some_of_both n m = grind (arith, nat_tests)

pub threads_are : (j : Planned) → has_threads (segments_by j) ≡ layout.has_threads j
threads_are j =
    let t = ap (λ (xs : List Section). some xs) (thread_is j) ∙ some_shown (thread_contents j) in
    let z = ap (λ (xs : List Section). some xs) (zeros_is j) ∙ some_shown (thread_zeros j) in
    (λ i. t i || z i)
    ∙ some_of_both (length (thread_contents j)) (length (thread_zeros j))
    ∙ ap (λ (n : ℕ). nat_lt 0 n) (sym (length-append (thread_contents j) (thread_zeros j)))

abbrev one : Bool → ℕ
one there = if there then 1 else 0

headers_by : (p c t : Bool) → 64 + 56 * header_count p c t ≡ 64 + 56 * (one p + one p + 1 + one c + 1 + 1 + one t + 1)
headers_by true true true = refl
headers_by true true false = refl
headers_by true false true = refl
headers_by true false false = refl
headers_by false true true = refl
headers_by false true false = refl
headers_by false false true = refl
headers_by false false false = refl

pub read_starts : (j : Planned) → read_start j.options.kind (segments_by j) ≡ layout.read_start j
unfolding headers_size segment_count
read_starts j =
    let code = ap (λ (xs : List Section). some xs) (code_is j) ∙ some_shown (executed_contents j) in
    let threads = threads_are j in
    let program = not (is_shared j.options.kind) in
    (λ i. base_of j.options.kind + (64 + 56 * header_count program (code i) (threads i)))
    ∙ ap (λ (n : ℕ). base_of j.options.kind + n) (headers_by program (layout.has_code j) (layout.has_threads j))

pub code_starts : (j : Planned) → code_start j.options.kind j.rules.page (segments_by j) ≡ capped (layout.code_start j)
unfolding code_start layout.code_start layout.read_end
code_starts j =
    let page = j.rules.page in
    let at = read_starts j in
    let read = read_is j in
    (λ i. next_page page (end_of (at i) (read i)))
    ∙ ap (λ (n : ℕ). next_page page n) (end_shown (layout.read_start j) (read_contents j))
    ∙ aligned_capped page (layout.contents_end (layout.read_start j) (read_contents j))

pub written_starts : (j : Planned) → written_start j.options.kind j.rules.page (segments_by j) ≡ capped (layout.written_start j)
unfolding written_start layout.written_start layout.code_end
written_starts j =
    let page = j.rules.page in
    let at = code_starts j in
    let code = code_is j in
    (λ i. next_page page (end_of (at i) (code i)))
    ∙ ap (λ (n : ℕ). next_page page n) (end_is (layout.code_start j) (executed_contents j))
    ∙ aligned_capped page (layout.contents_end (layout.code_start j) (executed_contents j))

pub tls_aligns : (j : Planned) → tls_align (segments_by j) ≡ layout.tls_align j
unfolding layout.tls_align
tls_aligns j =
    ap (λ (xs : List Section). tls_align (record (segments_by j) { thread = xs })) (thread_is j)
    ∙ ap (λ (xs : List Section). tls_align (record (segments_by j) { thread = map shown (thread_contents j); zeros = xs })) (zeros_is j)
    ∙ greatest_of_both (thread_contents j) (thread_zeros j)

pub tls_starts : (j : Planned) → tls_start j.options.kind j.rules.page (segments_by j) ≡ capped (layout.tls_start j)
unfolding tls_start layout.tls_start
tls_starts j =
    let align = tls_aligns j in
    let at = written_starts j in
    (λ i. next_page (align i) (at i)) ∙ aligned_capped (layout.tls_align j) (layout.written_start j)

pub tls_file_ends : (j : Planned) → tls_file_end j.options.kind j.rules.page (segments_by j) ≡ capped (layout.tls_file_end j)
unfolding tls_file_end layout.tls_file_end
tls_file_ends j =
    let at = tls_starts j in
    let thread = thread_is j in
    (λ i. end_of (at i) (thread i)) ∙ end_is (layout.tls_start j) (thread_contents j)

pub tls_ends : (j : Planned) → tls_end j.options.kind j.rules.page (segments_by j) ≡ capped (layout.tls_end j)
unfolding tls_end layout.tls_end
tls_ends j =
    let at = tls_file_ends j in
    let zeros = zeros_is j in
    (λ i. end_of (at i) (zeros i)) ∙ end_is (layout.tls_file_end j) (thread_zeros j)

chosen : (b : Bool) (n m : ℕ) → (if b then capped n else capped m) ≡ capped (if b then n else m)
chosen true n m = refl
chosen false n m = refl

pub data_starts : (j : Planned) → data_start j.options.kind j.rules.page (segments_by j) ≡ capped (layout.data_start j)
unfolding data_start layout.data_start
data_starts j =
    let there = ap (λ (xs : List Section). some xs) (thread_is j) ∙ some_shown (thread_contents j) in
    let file = tls_file_ends j in
    let start = written_starts j in
    (λ i. if there i then file i else start i)
    ∙ chosen (nat_lt 0 (length (thread_contents j))) (layout.tls_file_end j) (layout.written_start j)

pub written_ends : (j : Planned) → written_end j.options.kind j.rules.page (segments_by j) ≡ capped (layout.written_end j)
unfolding written_end layout.written_end
written_ends j =
    let at = data_starts j in
    let written = written_is j in
    (λ i. end_of (at i) (written i)) ∙ end_is (layout.data_start j) (written_contents j)

-- ---- how much memory the image takes

small_base : (kind : OutKind) → base_of kind ≤ 4194304
small_base kinds.Exec = omega arith
small_base kinds.Pie = omega arith
small_base kinds.Shared = omega arith

span_by_capped : (base w e : ℕ) (t : Bool) → base ≤ 4194304 → carried (span_by base t (capped w) (capped e)) ≡ carried (max w (if t then e else 0) - base)
span_by_capped base w e true small = omega (arith, small)
span_by_capped base w e false small = omega (arith, small)

abbrev pub span_of : Planned → ℕ
span_of j = span_by (base_of j.options.kind) (has_threads (segments_by j)) (written_end j.options.kind j.rules.page (segments_by j)) (tls_end j.options.kind j.rules.page (segments_by j))

pub spans : (j : Planned) → carried (span_of j) ≡ carried (layout.image_span j)
unfolding layout.image_span
spans j =
    let base = base_of j.options.kind in
    let threads = threads_are j in
    let written = written_ends j in
    let tls = tls_ends j in
    (λ i. carried (span_by base (threads i) (written i) (tls i)))
    ∙ span_by_capped base (layout.written_end j) (layout.tls_end j) (layout.has_threads j) (small_base j.options.kind)

within_carried : (n : ℕ) → nat_le n 268435456 ≡ nat_le (carried n) 268435456
within_carried n = grind (arith, nat_tests)

pub spans_within : (j : Planned) → nat_le (span_of j) 268435456 ≡ nat_le (layout.image_span j) 268435456
spans_within j = within_carried (span_of j) ∙ ap (λ (n : ℕ). nat_le n 268435456) (spans j) ∙ sym (within_carried (layout.image_span j))
