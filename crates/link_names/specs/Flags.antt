-- Which sections of each object are kept, as flags.
use Rattle.std.specs.Prelude.{ℕ, ◌+◌, ◌<◌, ◌^◌, Bool, false, List, [], ◌∷◌, ◌++◌, filter_map, length, slice_get, unwrap_or, Vec, All}
use Rattle.std.specs.List.{enumerate_from}
use Rattle.std.specs.declared.alloc.Global.{Global}
use Rattle.elf_object.specs.Record.{ObjectRecord}
use Rattle.link_core.specs.Mentions.{Mention, mentioned}

-- a section that isn't there has none
abbrev pub has_flag : List Bool → ℕ → Bool
has_flag flags section = unwrap_or (slice_get flags section) false

-- the rows of each object are so few that their numbers have 32 bits
abbrev pub AreSmall : List ObjectRecord → Type 0
AreSmall objects = All (λ o. length o.symbols < 2 ^ 32) objects

abbrev pub Flags : Type 0
Flags = Vec Bool Global

-- what objects mention, each by its flags
abbrev pub mentions_from : ℕ → List Flags → List ObjectRecord → List Mention
mentions_from i flags [] = []
mentions_from i [] (o ∷ os) = []
mentions_from i (f ∷ fs) (o ∷ os) =
    filter_map (mentioned (has_flag f.items) i) (enumerate_from 0 o.symbols) ++ mentions_from (i + 1) fs os

abbrev pub mentions_by : List Flags → List ObjectRecord → List Mention
mentions_by flags objects = mentions_from 0 flags objects
