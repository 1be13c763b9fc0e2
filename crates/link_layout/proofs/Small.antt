-- Where the image is within its limit, all addresses are small.
use Rattle.std.proofs.Common.{◌≡◌, ℕ, ◌-◌, ◌≤◌, ◌^◌, max, List, [], ◌∷◌, ◌++◌, length, refl, arith, Bool, true, false}
use Rattle.std.specs.Prelude.{if◌then◌else◌, nat_le, nat_lt}
use Rattle.std.proofs.lemmas.Bool.Decides.{nat_tests}
use Rattle.std.proofs.lemmas.List.{length-append}
use Rattle.link_core.specs.declared.options.OutKind.{OutKind}
use Rattle.link_core.specs.declared.options.OutKind.TheVariants as kinds
use Rattle.link_core.specs.Contents.{Content, executed_contents, read_contents, thread_contents, thread_zeros, written_contents}
use Rattle.link_core.specs.Layout.{base_of, code_end, code_start, contents_end, data_start, has_threads, image_span, read_end, read_start, tls_align, tls_end, tls_file_end, tls_start, written_end, written_start}
use Rattle.link_core.specs.Planned.{Planned}
use Rattle.link_tables.proofs.Ends.{end_is_behind}
use Rattle.link_tables.proofs.Multiples.{aligned_is_behind}

abbrev pub IsWithin : Planned → Type 0
IsWithin j = nat_le (image_span j) 268435456 ≡ true

behind : (at : ℕ) (cs : List Content) → at ≤ contents_end at cs
behind at cs = end_is_behind (λ (c : Content). c.align) (λ (c : Content). c.size) at cs

pub read_before : (j : Planned) → read_end j ≤ code_start j
unfolding code_start
read_before j = aligned_is_behind j.rules.page (read_end j)

pub code_before : (j : Planned) → code_start j ≤ code_end j
unfolding code_end
code_before j = behind (code_start j) (executed_contents j)

pub written_before : (j : Planned) → code_end j ≤ written_start j
unfolding written_start
written_before j = aligned_is_behind j.rules.page (code_end j)

pub tls_before : (j : Planned) → written_start j ≤ tls_start j
unfolding tls_start
tls_before j = aligned_is_behind (tls_align j) (written_start j)

pub thread_before : (j : Planned) → tls_start j ≤ tls_file_end j
unfolding tls_file_end
thread_before j = behind (tls_start j) (thread_contents j)

pub zeros_before : (j : Planned) → tls_file_end j ≤ tls_end j
unfolding tls_end
zeros_before j = behind (tls_file_end j) (thread_zeros j)

one_of : (b : Bool) (n m k : ℕ) → k ≤ n → k ≤ m → k ≤ (if b then n else m)
one_of true n m k one other = one
one_of false n m k one other = other

pub data_before : (j : Planned) → written_start j ≤ data_start j
unfolding data_start
data_before j =
    one_of (nat_lt 0 (length (thread_contents j))) (tls_file_end j) (written_start j) (written_start j)
    (omega (arith, tls_before j, thread_before j)) (omega arith)

pub end_before : (j : Planned) → data_start j ≤ written_end j
unfolding written_end
end_before j = behind (data_start j) (written_contents j)

-- ---- within the limit

small_base : (kind : OutKind) → base_of kind ≤ 4194304
small_base kinds.Exec = omega arith
small_base kinds.Pie = omega arith
small_base kinds.Shared = omega arith

first_small : (w e base : ℕ) (t : Bool) → base ≤ 4194304 → nat_le (max w (if t then e else 0) - base) 268435456 ≡ true → w ≤ 2 ^ 30
first_small w e base true small within = grind (arith, nat_tests)
first_small w e base false small within = grind (arith, nat_tests)

other_small : (w e base : ℕ) (t : Bool) → t ≡ true → base ≤ 4194304 → nat_le (max w (if t then e else 0) - base) 268435456 ≡ true → e ≤ 2 ^ 30
other_small w e base true there small within = grind (arith, nat_tests)
other_small w e base false there small within = grind (arith, nat_tests)

pub written_small : (j : Planned) → IsWithin j → written_end j ≤ 2 ^ 30
unfolding image_span
written_small j within = first_small (written_end j) (tls_end j) (base_of j.options.kind) (has_threads j) (small_base j.options.kind) within

pub tls_small : (j : Planned) → IsWithin j → has_threads j ≡ true → tls_end j ≤ 2 ^ 30
unfolding image_span
tls_small j within there = other_small (written_end j) (tls_end j) (base_of j.options.kind) (has_threads j) there (small_base j.options.kind) within

pub read_small : (j : Planned) → IsWithin j → contents_end (read_start j) (read_contents j) ≤ 2 ^ 40
unfolding read_end
read_small j within =
    let last = written_small j within in
    let first : contents_end (read_start j) (read_contents j) ≤ code_start j = read_before j in
    omega (arith, last, first, code_before j, written_before j, data_before j, end_before j)

pub code_small : (j : Planned) → IsWithin j → contents_end (code_start j) (executed_contents j) ≤ 2 ^ 40
unfolding code_end
code_small j within =
    let last = written_small j within in
    let first : contents_end (code_start j) (executed_contents j) ≤ written_start j = written_before j in
    omega (arith, last, first, data_before j, end_before j)

pub data_small : (j : Planned) → IsWithin j → contents_end (data_start j) (written_contents j) ≤ 2 ^ 40
unfolding written_end
data_small j within =
    let last : contents_end (data_start j) (written_contents j) ≤ 2 ^ 30 = written_small j within in
    omega (arith, last)

pub thread_small : (j : Planned) → IsWithin j → has_threads j ≡ true → contents_end (tls_start j) (thread_contents j) ≤ 2 ^ 40
unfolding tls_file_end
thread_small j within there =
    let last = tls_small j within there in
    let first : contents_end (tls_start j) (thread_contents j) ≤ tls_end j = zeros_before j in
    omega (arith, last, first)

pub zeros_small : (j : Planned) → IsWithin j → has_threads j ≡ true → contents_end (tls_file_end j) (thread_zeros j) ≤ 2 ^ 40
unfolding tls_end
zeros_small j within there =
    let last : contents_end (tls_file_end j) (thread_zeros j) ≤ 2 ^ 30 = tls_small j within there in
    omega (arith, last)

pub starts_ascend : (j : Planned) → tls_start j ≤ tls_end j
starts_ascend j = omega (arith, thread_before j, zeros_before j)

-- ---- without threads

pub none_first : (xs ys : List Content) → nat_lt 0 (length (xs ++ ys)) ≡ false → xs ≡ []
none_first [] ys none = refl
none_first (x ∷ xs) ys none = grind (arith, nat_tests)

pub none_second : (xs ys : List Content) → nat_lt 0 (length (xs ++ ys)) ≡ false → ys ≡ []
none_second xs [] none = refl
none_second xs (y ∷ ys) none = let both = length-append xs (y ∷ ys) in grind (arith, nat_tests, both)
