-- The output sections of a link with its common symbols, which stand last in .bss, in name order.
use Rattle.std.specs.Prelude.{Bool, List, [], codes, false, if◌then◌else◌, map, true, ℕ, ◌++◌}
use Rattle.link_core.specs.declared.output.OutClass.TheVariants as classes
use Rattle.link_core.specs.declared.resolution.Bound.{Bound}
use Rattle.link_core.specs.declared.resolution.Bound.TheVariants as bounds
use Rattle.link_core.specs.Binding.{common_align, common_size}
use Rattle.link_core.specs.Lists.{once}
use Rattle.link_core.specs.Mentions.{Mention, mentions_of, naming}
use Rattle.link_core.specs.OutputNames.{Output, Piece, outputs_of, pieces_of, same_output}
use Rattle.link_core.specs.Plan.{positions}
use Rattle.link_core.specs.Planned.{Planned, name_at, pieces_in}

abbrev pub is_common_bound : Bound → Bool
is_common_bound (bounds.Object object row) = false
is_common_bound bounds.Common = true
is_common_bound bounds.Provided = false
is_common_bound (bounds.Library library) = false
is_common_bound bounds.Import = false
is_common_bound bounds.Zero = false

-- the names of common symbols, by their positions
unfoldable pub commons_of : Planned → List ℕ
commons_of j = positions (λ row. is_common_bound row.bound) j.names.names

-- what the objects say of a name
abbrev pub mentions_at : Planned → ℕ → List Mention
mentions_at j n = naming (name_at j n) (mentions_of j.names.dropped j.objects)

abbrev pub bss : Output
bss = record { name = codes ".bss"; class = classes.B }

-- the output sections in order of first appearance; a .bss that only common symbols make is the last
unfoldable pub outputs_by : Planned → List Output
outputs_by j = once same_output (outputs_of (pieces_in j) ++ map (λ n. bss) (commons_of j))

-- ---- what an output section has, in order

-- a piece, or a common symbol by the position of its name
pub data Item : Type 0 where
  PieceItem : Piece → Item
  CommonItem : ℕ → Item

abbrev pub commons_in : Planned → Output → List ℕ
commons_in j output = if same_output output bss then commons_of j else []

unfoldable pub items_of : Planned → Output → List Item
items_of j output = map PieceItem (pieces_of (pieces_in j) output) ++ map CommonItem (commons_in j output)

-- in bytes; a common symbol has the greatest size and the greatest alignment that are asked for
abbrev pub item_align : Planned → Item → ℕ
item_align j (PieceItem piece) = piece.input.align
item_align j (CommonItem n) = common_align (mentions_at j n)

abbrev pub item_size : Planned → Item → ℕ
item_size j (PieceItem piece) = piece.input.size
item_size j (CommonItem n) = common_size (mentions_at j n)
