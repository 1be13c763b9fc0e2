-- Mentions in byte order of their names, and the runs of one name in them.
use Rattle.std.specs.Prelude.{◌≡◌, ℕ, List, [], ◌∷◌, map}
use Rattle.std.specs.List.{prefix_len}
use Rattle.std.specs.List.Sorted.{IsSortedByKey}
use Rattle.std.specs.Ordering.{nat_cmp}
use Rattle.std.specs.Cmp.Lexicographic.{slice_cmp}
use Rattle.ifs_interface.specs.Triple.{same_name}
use Rattle.link_core.specs.Mentions.{Mention, naming, mentioned_names}

abbrev pub name_of : Mention → List ℕ
name_of m = m.symbol.name

-- the mentions of each name, by these names in byte order
unfoldable pub by_name : List Mention → List (List Mention)
by_name mentions = map (λ name. naming name mentions) (mentioned_names mentions)

-- the mentions stand in byte order of their names
abbrev pub AreInNameOrder : List Mention → Type 0
AreInNameOrder mentions = IsSortedByKey name_of (slice_cmp nat_cmp) mentions

-- sorted has the mentions in byte order of their names, those of one name in the order that they had
pub record IsSortedByName (mentions sorted : List Mention) : Type 0 where
  pub rising : AreInNameOrder sorted
  pub same_mentions : (name : List ℕ) → naming name sorted ≡ naming name mentions

-- how many mentions at the front have the name of the first
abbrev pub run_length : List Mention → ℕ
run_length [] = 0
run_length (m ∷ mentions) = prefix_len (λ later. same_name later.symbol.name m.symbol.name) (m ∷ mentions)
