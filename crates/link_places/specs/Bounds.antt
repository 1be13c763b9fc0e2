-- Where the segments start and end; 2^128 - 1 stands for any greater address.
use Rattle.std.specs.Prelude.{Bool, List, if◌then◌else◌, length, max, nat_lt, not, ℕ, ◌*◌, ◌+◌, ◌-◌, ◌||◌}
use Rattle.link_core.specs.declared.options.OutKind.{OutKind}
use Rattle.link_core.specs.Aligned.{aligned, end_from, greatest_align}
use Rattle.link_core.specs.Exports.{is_shared}
use Rattle.link_core.specs.Layout.{base_of}
use Rattle.link_tables.specs.declared.section.Section.{Section}
use Rattle.link_tables.specs.Capped.{capped}
use Rattle.link_places.specs.declared.bounds.Bounds.{Bounds}
use Rattle.link_places.specs.declared.segments.Segments.{Segments}

abbrev pub end_of : ℕ → List Section → ℕ
end_of at sections = capped (end_from (λ s. s.align) (λ s. s.size) at sections)

abbrev pub next_page : ℕ → ℕ → ℕ
next_page page at = capped (aligned page at)

abbrev pub some : List Section → Bool
some sections = nat_lt 0 (length sections)

abbrev pub has_threads : Segments → Bool
has_threads s = some s.thread || some s.zeros

-- the headers of all segments: two in programs alone, and those of code and of threads where these are there
abbrev pub count_if : Bool → ℕ → ℕ
count_if there n = if there then n else 0

abbrev pub header_count : Bool → Bool → Bool → ℕ
header_count program code threads = 4 + count_if program 2 + count_if code 1 + count_if threads 1

abbrev pub read_start : OutKind → Segments → ℕ
read_start kind s = base_of kind + (64 + 56 * header_count (not (is_shared kind)) (some s.code) (has_threads s))

unfoldable pub code_start : OutKind → ℕ → Segments → ℕ
code_start kind page s = next_page page (end_of (read_start kind s) s.read)

unfoldable pub written_start : OutKind → ℕ → Segments → ℕ
written_start kind page s = next_page page (end_of (code_start kind page s) s.code)

abbrev pub tls_align : Segments → ℕ
tls_align s = max (greatest_align (λ s. s.align) s.thread) (greatest_align (λ s. s.align) s.zeros)

unfoldable pub tls_start : OutKind → ℕ → Segments → ℕ
tls_start kind page s = next_page (tls_align s) (written_start kind page s)

unfoldable pub tls_file_end : OutKind → ℕ → Segments → ℕ
tls_file_end kind page s = end_of (tls_start kind page s) s.thread

unfoldable pub tls_end : OutKind → ℕ → Segments → ℕ
tls_end kind page s = end_of (tls_file_end kind page s) s.zeros

unfoldable pub data_start : OutKind → ℕ → Segments → ℕ
data_start kind page s = if some s.thread then tls_file_end kind page s else written_start kind page s

unfoldable pub written_end : OutKind → ℕ → Segments → ℕ
written_end kind page s = end_of (data_start kind page s) s.written

-- how much memory the image takes
abbrev pub span_by : ℕ → Bool → ℕ → ℕ → ℕ
span_by base threads written tls = max written (if threads then tls else 0) - base

unfoldable pub bounds_of : OutKind → ℕ → Segments → Bounds
bounds_of kind page s = record {
  threads = has_threads s;
  read_start = read_start kind s;
  code_start = code_start kind page s;
  tls_align = tls_align s;
  tls_start = tls_start kind page s;
  tls_file_end = tls_file_end kind page s;
  tls_end = tls_end kind page s;
  data_start = data_start kind page s;
  written_end = written_end kind page s;
  span = span_by (base_of kind) (has_threads s) (written_end kind page s) (tls_end kind page s);
}
