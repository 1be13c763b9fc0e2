-- The output sections of a link, each with its pieces.
use Rattle.std.specs.Prelude.{◌≡◌, ℕ, List, [], ◌∷◌, ◌++◌, filter, if◌then◌else◌, map, slice_index_or, slice_set}
use Rattle.std.specs.List.{list_any}
use Rattle.std.specs.List.Sorted.{IsSortedByKey}
use Rattle.std.specs.Ordering.{nat_cmp}
use Rattle.std.specs.Cmp.Lexicographic.{slice_cmp}
use denote.Ref.{Bor}
use Rattle.ifs_interface.specs.Triple.{same_name}
use Rattle.link_core.specs.declared.output.OutClass.{OutClass}
use Rattle.link_core.specs.declared.output.OutClass.TheVariants.{R, X, W, T, Z, B}
use Rattle.link_core.specs.OutputNames.{Output, Piece, output_of, outputs_of, same_output}

-- an output section, with its pieces by object and section
pub record Group : Type 0 where
  pub output : Output
  pub pieces : List Piece

-- the pieces of the output section, in their order
abbrev pub pieces_with : List Piece → Output → List Piece
pieces_with pieces output = filter (λ p. same_output (output_of p) output) pieces

abbrev pub group_of : List Piece → Output → Group
group_of pieces output = record { output = output; pieces = pieces_with pieces output }

-- the output sections of pieces in order of first appearance, each with its own
unfoldable pub grouped : List Piece → List Group
grouped pieces = map (group_of pieces) (outputs_of pieces)

abbrev pub outputs : List Group → List Output
outputs groups = map (λ g. g.output) groups

-- ---- names

-- a name is among them just where an output section has it; they stand in byte order
pub record AreNamesOf (groups : List Group) (names : List (Bor (List ℕ))) : Type 0 where
  pub rising : IsSortedByKey (λ n. n.now) (slice_cmp nat_cmp) names
  pub same_names : (name : List ℕ) →
      list_any (λ n. same_name n.now name) names ≡ list_any (λ o. same_name o.name name) (outputs groups)

-- ---- one piece more, for the code alone

-- a piece put last in an output section
abbrev pub with_last : Group → Piece → Group
with_last g piece = record g { pieces = g.pieces ++ piece ∷ [] }

abbrev pub empty_group : Output → Group
empty_group output = record { output = output; pieces = [] }

-- a piece put last in its own, which is put last where it isn't there
abbrev pub with_piece : List Group → Piece → List Group
with_piece [] piece = with_last (empty_group (output_of piece)) piece ∷ []
with_piece (g ∷ gs) piece =
    if same_output (output_of piece) g.output then with_last g piece ∷ gs else g ∷ with_piece gs piece

-- a piece put last in the one at this place
abbrev pub put_at : List Group → ℕ → Piece → List Group
put_at groups place piece =
    slice_set groups place (with_last (slice_index_or groups place (empty_group (output_of piece))) piece)

-- ---- keys, for the code alone

-- a class as a number
abbrev pub class_number : OutClass → ℕ
class_number R = 0
class_number X = 1
class_number W = 2
class_number T = 3
class_number Z = 4
class_number B = 5

abbrev pub key_of : Output → List ℕ × ℕ
key_of output = (output.name, class_number output.class)

abbrev pub key_seen : Bor (List ℕ) × ℕ → List ℕ × ℕ
key_seen k = (k.0.now, k.1)

-- the keys are those of the output sections, in their order
abbrev pub AreKeysOf : List Group → List (Bor (List ℕ) × ℕ) → Type 0
AreKeysOf groups keys = map key_seen keys ≡ map (λ g. key_of g.output) groups
