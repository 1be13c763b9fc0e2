-- What a call answers, and what it leaves, where memory may run out.
use Rattle.std.specs.Prelude.{◌≡◌, List, ◌++◌, Result, Ok, Err, ◌⊎◌, Bool, if◌then◌else◌}

-- the call answered what is meant, or that memory ran out
abbrev pub UnlessMemory : {T E : Type 0} → E → Result T E → Result T E → Type 0
UnlessMemory memory result meant = (result ≡ Err memory) ⊎ (result ≡ meant)

-- old with more at its end where the call was done, else old
abbrev pub appended : {T : Type 0} → Bool → List T → List T → List T
appended done old more = if done then old ++ more else old

-- a value, or the first cause
infixl 10 ◌>>=◌
abbrev pub ◌>>=◌ : {A B E : Type 0} → Result A E → (A → Result B E) → Result B E
(Ok x) >>= f = f x
(Err e) >>= f = Err e

-- a condition, or the cause that it doesn't hold
abbrev pub check : {E : Type 0} → Bool → E → Result (Unit {0}) E
check holds cause = if holds then Ok tt else Err cause
