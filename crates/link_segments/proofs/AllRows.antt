-- The rows of the program header table, one after the other.
use Rattle.std.proofs.Common.{◌≡◌, ◌++◌, List, ℕ, Result, Ok, Err, ap, ◌∙◌}
use Rattle.std.specs.Prelude.{OnOk}
use Rattle.std.proofs.lemmas.List.{append_assoc}
use Rattle.std.proofs.lemmas.List.Concat.{flat_map-append}
use Rattle.link_core.specs.declared.layout.Layout.{Layout}
use Rattle.link_core.specs.Headers.{program_header_bytes, program_headers}
use Rattle.link_core.specs.Planned.{Planned}
use Rattle.link_segments.specs.Rows.{back_bytes, front_bytes}

pub all_bytes : (j : Planned) (l : Layout) → front_bytes j l ++ back_bytes j l ≡ program_header_bytes j l
unfolding front_bytes back_bytes program_header_bytes program_headers
all_bytes j l = simp (append_assoc, flat_map-append)

-- a half, and then the other
pub halves :
    {E : Type 0} (j : Planned) (l : Layout) (result : Result Unit E) (old between new : List ℕ) → between ≡ old ++ front_bytes j l
    → OnOk result (new ≡ between ++ back_bytes j l) → OnOk result (new ≡ old ++ program_header_bytes j l)
halves j l (Ok done) old between new front back =
    back ∙ ap (λ bytes. bytes ++ back_bytes j l) front
    ∙ append_assoc old (front_bytes j l) (back_bytes j l)
    ∙ ap (λ bytes. old ++ bytes) (all_bytes j l)
halves j l (Err e) old between new front back = tt
