-- The whole layout by counts and output sections, or the first limit that isn't kept.
use Rattle.std.specs.Prelude.{Bool, List, Ok, Err, Result, if◌then◌else◌, length, nat_le, sum_by, ℕ, ◌+◌, ◌-◌}
use Rattle.ifs_bytes.specs.Carried.{carried}
use Rattle.ifs_bytes.specs.Outcome.{check, ◌>>=◌}
use Rattle.link_core.specs.declared.layout.Layout.{Layout}
use Rattle.link_core.specs.declared.layout.OutSection.{OutSection}
use Rattle.link_core.specs.declared.options.OutKind.{OutKind}
use Rattle.link_core.specs.declared.refusal.LinkRefusal.{LinkRefusal}
use Rattle.link_core.specs.declared.refusal.LinkRefusal.TheVariants.{ImageTooLarge}
use Rattle.link_core.specs.declared.refusal.LinkStop.{LinkStop}
use Rattle.link_core.specs.declared.refusal.LinkStop.TheVariants.{Refused}
use Rattle.link_core.specs.declared.tables.TheConstants.{MOST_IMAGE_BYTES, MOST_OUTPUT_SECTIONS}
use Rattle.link_tables.specs.declared.counts.Counts.{Counts}
use Rattle.link_tables.specs.declared.output.FilledOutput.{FilledOutput}
use Rattle.link_tables.specs.Capped.{capped}
use Rattle.link_places.specs.declared.bounds.Bounds.{Bounds}
use Rattle.link_places.specs.declared.segments.Segments.{Segments}
use Rattle.link_places.specs.Bounds.{bounds_of}
use Rattle.link_places.specs.Placed.{placed_by}
use Rattle.link_places.specs.Segments.{segments_of}
use Rattle.link_positions.specs.Next.{first_of}
use Rattle.link_positions.specs.Standing.{commons_in, pieces_in}

-- a NUL, the names with theirs, and `.shstrtab` with its own
abbrev pub section_names : List OutSection → ℕ
section_names sections = sum_by (λ s. length s.name + 1) sections

abbrev pub names_room : List OutSection → ℕ
names_room sections = capped (section_names sections + 11)

abbrev pub if_there : Bool → ℕ → ℕ
if_there there n = if there then n else 0

unfoldable pub whole : Bounds → Segments → List FilledOutput → Layout
whole b s outputs =
    let sections = placed_by b s in
    record {
      sections = sections;
      pieces = pieces_in sections (first_of s) outputs;
      commons = commons_in sections (first_of s) outputs;
      end = carried b.written_end;
      tls_start = if_there b.threads (carried b.tls_start);
      tls_file = if_there b.threads (carried (b.tls_file_end - b.tls_start));
      tls_size = if_there b.threads (carried (b.tls_end - b.tls_start));
      tls_align = if_there b.threads b.tls_align;
    }

abbrev pub too_large : ℕ → LinkRefusal
too_large n = ImageTooLarge (carried n)

-- the layout, or the first limit that it doesn't keep
unfoldable pub limited : Bounds → Segments → List FilledOutput → Result Layout LinkRefusal
limited b s outputs = do
  _ ← check (nat_le b.span MOST_IMAGE_BYTES) (too_large b.span)
  _ ← check (nat_le (length outputs) MOST_OUTPUT_SECTIONS) (too_large (length outputs))
  _ ← check (nat_le (names_room (placed_by b s)) MOST_IMAGE_BYTES) (too_large (names_room (placed_by b s)))
  Ok (whole b s outputs)

unfoldable pub layout_from : OutKind → ℕ → Counts → List FilledOutput → Result Layout LinkRefusal
layout_from kind page n outputs =
    limited (bounds_of kind page (segments_of n outputs)) (segments_of n outputs) outputs

-- a refusal stops the link
abbrev pub stopped : {T : Type 0} → Result T LinkRefusal → Result T LinkStop
stopped (Ok x) = Ok x
stopped (Err refusal) = Err (Refused refusal)
