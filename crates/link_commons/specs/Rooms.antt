-- The room of the common symbols of a link.
use Rattle.std.specs.Prelude.{ℕ, Bool, true, false, List, [], ◌∷◌, map, max, if◌then◌else◌}
use Rattle.link_core.specs.declared.resolution.Bound.{Bound}
use Rattle.link_core.specs.declared.resolution.Bound.TheVariants as bounds
use Rattle.link_core.specs.declared.resolution.NameRow.{NameRow}
use Rattle.link_core.specs.Commons.{CommonItem, commons_of, item_align, item_size}
use Rattle.link_core.specs.Planned.{Planned}
use Rattle.link_commons.specs.declared.asked.Asked.{Asked}
use Rattle.link_commons.specs.declared.room.Room.{Room}

abbrev pub room_at : Planned → ℕ → Room
room_at j n = record { name = n; align = item_align j (CommonItem n); size = item_size j (CommonItem n) }

-- by name, in order of the names
unfoldable pub rooms_of : Planned → List Room
rooms_of j = map (room_at j) (commons_of j)

-- a name is a common symbol's
abbrev pub is_common : Bound → Bool
is_common (bounds.Object object row) = false
is_common bounds.Common = true
is_common bounds.Provided = false
is_common (bounds.Library library) = false
is_common bounds.Import = false
is_common bounds.Zero = false

-- the room of a name under which this is asked for
abbrev pub room_with : ℕ → Asked → Room
room_with name asked = record { name = name; align = max 1 asked.align; size = asked.size }

-- the room of a name, if it is a common symbol's
abbrev pub rooms_if : (List ℕ → Asked) → ℕ × NameRow → List Room
rooms_if asked row = if is_common row.1.bound then room_with row.0 (asked row.1.name) ∷ [] else []
