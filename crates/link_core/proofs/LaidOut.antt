-- Parts in ascending offsets fill the bytes to the end of the last one, and follow each other.
use Rattle.std.proofs.Common.{◌≡◌, ℕ, ◌+◌, ◌-◌, ◌≤◌, List, [], ◌∷◌, ◌++◌, length, replicate, refl, ap, ◌∙◌, sym, arith, length-append, append_assoc}
use Rattle.std.proofs.lemmas.List.{length-replicate}
use Rattle.link_core.specs.Image.{laid_out}
use Rattle.link_core.specs.LinkLaws.{Ascend, parts_end, PartsFillTheirSpan, PartsFollow}
use Rattle.link_core.specs.Parts.{Part}

pub parts_fill : PartsFillTheirSpan
unfolding laid_out
parts_fill at [] h = omega (arith)
parts_fill at (part ∷ parts) h =
    let rest = parts_fill (part.offset + length part.bytes) parts h.1 in
    let gap : List ℕ = replicate (part.offset - at) 0 in
    let more : List ℕ = laid_out (part.offset + length part.bytes) parts in
    omega (arith, h.0, rest, length-append (gap ++ part.bytes) more, length-append gap part.bytes, length-replicate {A = ℕ} (part.offset - at) 0)

pub parts_follow : PartsFollow
unfolding laid_out
parts_follow at [] after = refl
parts_follow at (part ∷ parts) after =
    let gap : List ℕ = replicate (part.offset - at) 0 in
    let behind = part.offset + length part.bytes in
    ap (λ (rest : List ℕ). gap ++ part.bytes ++ rest) (parts_follow behind parts after)
    ∙ sym (append_assoc (gap ++ part.bytes) (laid_out behind parts) (laid_out (parts_end behind parts) after))
