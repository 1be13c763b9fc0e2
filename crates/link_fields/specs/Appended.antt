-- Bytes to which the parts of an image were appended, one after the other.
use Rattle.std.specs.Prelude.{◌≡◌, ◌-◌, ◌++◌, List, [], length, replicate, ℕ, ◌∷◌}
use Rattle.link_core.specs.Image.{laid_out}
use Rattle.link_core.specs.LinkLaws.{Ascend}
use Rattle.link_core.specs.Parts.{Part}

abbrev part_at : ℕ → List ℕ → Part
part_at offset bytes = record { offset = offset; bytes = bytes }

-- the bytes are those of parts that ascend
pub record Appended (out : List ℕ) (parts : List Part) : Type 0 where
  pub ascend : Ascend 0 parts
  pub laid : out ≡ laid_out 0 parts

-- zeros up to the part's offset, and its bytes: so the parts are one more, whichever stand there
pub record PutsPart (old new : List ℕ) (offset : ℕ) (bytes : List ℕ) : Type 0 where
  pub written : new ≡ (old ++ replicate (offset - length old) 0) ++ bytes
  pub appended : (parts : List Part) → Appended old parts → Appended new (parts ++ part_at offset bytes ∷ [])
