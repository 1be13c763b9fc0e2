-- Sections at their places.
use Rattle.std.specs.Prelude.{List, [], ℕ, ◌++◌, ◌+◌, ◌∷◌}
use Rattle.ifs_bytes.specs.Carried.{carried}
use Rattle.link_core.specs.declared.layout.OutSection.{OutSection}
use Rattle.link_core.specs.Aligned.{aligned}
use Rattle.link_tables.specs.declared.section.Section.{Section}
use Rattle.link_tables.specs.Capped.{capped}
use Rattle.link_places.specs.declared.bounds.Bounds.{Bounds}
use Rattle.link_places.specs.declared.segments.Segments.{Segments}

-- 2^64 - 1 stands for any greater address or size
abbrev pub placed_at : Section → ℕ → OutSection
placed_at s at = record {
  name = s.name;
  kind = s.kind;
  flags = s.flags;
  address = carried at;
  size = carried s.size;
  align = s.align;
}

-- each at the least multiple of its alignment behind what is before it
unfoldable pub placed_from : ℕ → List Section → List OutSection
placed_from at [] = []
placed_from at (s ∷ sections) =
    placed_at s (capped (aligned s.align at)) ∷ placed_from (capped (capped (aligned s.align at) + s.size)) sections

unfoldable pub placed_by : Bounds → Segments → List OutSection
placed_by b s =
    placed_from b.read_start s.read
    ++ placed_from b.code_start s.code
    ++ placed_from b.tls_start s.thread
    ++ placed_from b.tls_file_end s.zeros
    ++ placed_from b.data_start s.written
