-- What is refused before anything is written.
use Rattle.std.specs.Prelude.{◌≡◌, ℕ, List, [], ◌∷◌, ◌++◌, ◌⊎◌, Result, Ok, Err}
use Rattle.ifs_bytes.specs.Outcome.{◌>>=◌}
use Rattle.ifs_top.specs.declared.refusal.Refusal.{Refusal}
use Rattle.ifs_top.specs.declared.refusal.Refusal.TheVariants as refusals
use Rattle.ifs_top.specs.Reply.{fault}

-- the refusal of a subject, with its text and the status
abbrev pub refused : {X : Type 0} → List ℕ → List ℕ → ℕ → Result X Refusal
refused subject text status = Err (refusals.Fault (fault subject text status))

-- a value, or its cause as the refusal of a subject
abbrev pub or_refused : {X C : Type 0} → List ℕ → (C → List ℕ) → Result X C → Result X Refusal
or_refused subject printed (Ok x) = Ok x
or_refused subject printed (Err cause) = refused subject (printed cause) 1

-- what f gives of each, in order, or the first refusal
abbrev pub each : {X Y : Type 0} → (X → Result Y Refusal) → List X → Result (List Y) Refusal
each f [] = Ok []
each f (x ∷ xs) = f x >>= (λ y. each f xs >>= (λ ys. Ok (y ∷ ys)))

-- these, and what follows them
abbrev pub behind : {Y : Type 0} → List Y → Result (List Y) Refusal → Result (List Y) Refusal
behind ys (Ok zs) = Ok (ys ++ zs)
behind ys (Err refusal) = Err refusal

-- what is meant was put at the end, or a refusal answered
abbrev pub Pushes : {T Y : Type 0} → Result T Refusal → List Y → List Y → Result (List Y) Refusal → Type 0
Pushes (Ok _) old new meant = behind old meant ≡ Ok new
Pushes (Err refusal) old new meant = behind old meant ≡ Err refusal

-- the same of one, unless memory ran out
abbrev pub with_one : {Y : Type 0} → List Y → Result Y Refusal → Result (List Y) Refusal
with_one ys (Ok y) = Ok (ys ++ y ∷ [])
with_one ys (Err refusal) = Err refusal

abbrev pub PushesOne : {T Y : Type 0} → Result T Refusal → List Y → List Y → Result Y Refusal → Type 0
PushesOne (Ok _) old new meant = with_one old meant ≡ Ok new
PushesOne (Err refusal) old new meant = (refusal ≡ refusals.Memory) ⊎ (with_one old meant ≡ Err refusal)
