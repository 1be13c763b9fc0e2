-- Where the parts of the made file end, by its sections.
use Rattle.std.specs.List.{last_or}
use Rattle.std.specs.Option.{option_map_or}
use Rattle.std.specs.Prelude.{Bool, List, None, Option, Some, filter, find, if◌then◌else◌, not, option_map, ℕ, ◌&&◌, ◌||◌}
use Rattle.link_core.specs.declared.layout.OutSection.{OutSection}
use Rattle.link_core.specs.Places.{has_bytes, is_code, is_read, is_thread, section_end}
use Rattle.link_where.specs.declared.ends.Met.{Met}

abbrev pub last_end : (OutSection → Bool) → List OutSection → ℕ
last_end test sections = option_map_or section_end (last_or None (filter test sections)) 0

abbrev pub has_code : OutSection → Bool
has_code s = is_read s || is_code s

abbrev pub is_zeroed : OutSection → Bool
is_zeroed s = not (has_bytes s) && not (is_thread s)

unfoldable pub met : List OutSection → Met
met sections = record {
  read = last_end is_read sections;
  code = last_end has_code sections;
  file = last_end has_bytes sections;
  zeros = option_map (λ s. s.address) (find is_zeroed sections);
}

-- with one section more
abbrev pub later : Bool → ℕ → ℕ → ℕ
later counts end so_far = if counts then end else so_far

abbrev pub first : Bool → ℕ → Option ℕ → Option ℕ
first counts start None = if counts then Some start else None
first counts start (Some found) = Some found

unfoldable pub and_section : Met → OutSection → Met
and_section m s = record {
  read = later (is_read s) (section_end s) m.read;
  code = later (has_code s) (section_end s) m.code;
  file = later (has_bytes s) (section_end s) m.file;
  zeros = first (is_zeroed s) s.address m.zeros;
}
