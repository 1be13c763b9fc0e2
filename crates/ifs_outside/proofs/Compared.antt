-- A reader whose bytes are compared with a list, piece by piece.
use Rattle.std.proofs.Common.{◌≡◌, ◌≢◌, ◌↔◌, ℕ, false, List, [], ◌++◌, Option, None, Some, sym, ap, ◌∙◌}
use Rattle.std.specs.Prelude.{IsTrue, IfSome}
use Rattle.std.specs.Io.KnownBytes.{Consumes, IsAtEnd}
use Rattle.std.proofs.lemmas.Bool.{false≢true}
use Rattle.std.proofs.lemmas.List.{append_cancel_left}

-- what is left now is the rest exactly where what was left first is all the bytes
abbrev pub StillSame : Option (List ℕ) → Option (List ℕ) → List ℕ → List ℕ → Type 0
StillSame None now bytes rest = Unit {0}
StillSame (Some first) None bytes rest = ⊥
StillSame (Some first) (Some now) bytes rest = (first ≡ bytes) ↔ (now ≡ rest)

-- the piece that was read stands at the front of the rest
pub same_piece : (first now next : Option (List ℕ)) (bytes rest piece others : List ℕ) → StillSame first now bytes rest → Consumes now next piece → rest ≡ piece ++ others → StillSame first next bytes others
same_piece None now next bytes rest piece others same takes front = tt
same_piece (Some first) None next bytes rest piece others same takes front = absurd same
same_piece (Some first) (Some now) None bytes rest piece others same takes front = absurd takes
same_piece (Some first) (Some now) (Some next) bytes rest piece others same takes front =
    (λ is. append_cancel_left piece next others (sym takes ∙ same.0 is ∙ front), λ is. same.1 (takes ∙ ap (λ xs. piece ++ xs) is ∙ sym front))

-- the piece that was read doesn't stand at the front of the rest
pub other_piece : (first now next : Option (List ℕ)) (bytes rest piece : List ℕ) → StillSame first now bytes rest → Consumes now next piece → ((others : List ℕ) → rest ≢ piece ++ others) → IfSome first (λ left. left ≢ bytes)
other_piece None now next bytes rest piece same takes apart = tt
other_piece (Some first) None next bytes rest piece same takes apart = absurd same
other_piece (Some first) (Some now) None bytes rest piece same takes apart = absurd takes
other_piece (Some first) (Some now) (Some next) bytes rest piece same takes apart = λ is. apart next (sym (same.0 is) ∙ takes)

-- nothing is left
pub at_end : (first now next : Option (List ℕ)) (bytes rest : List ℕ) → StillSame first now bytes rest → Consumes now next [] → IsAtEnd next → IfSome first (λ left. (rest ≡ []) ↔ (left ≡ bytes))
at_end None now next bytes rest same takes end = tt
at_end (Some first) None next bytes rest same takes end = absurd same
at_end (Some first) (Some now) None bytes rest same takes end = absurd takes
at_end (Some first) (Some now) (Some next) bytes rest same takes end =
    let gone : now ≡ [] = takes ∙ end in
    (λ is. same.1 (gone ∙ sym is), λ is. sym (same.0 is) ∙ gone)

-- so the answer is false
pub not_same : (first : Option (List ℕ)) (bytes : List ℕ) → IfSome first (λ left. left ≢ bytes) → IfSome first (λ left. IsTrue false ↔ (left ≡ bytes))
not_same None bytes apart = tt
not_same (Some first) bytes apart = (λ yes. absurd (false≢true yes), λ is. absurd (apart is))
