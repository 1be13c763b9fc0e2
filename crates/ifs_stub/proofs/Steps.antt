-- What holds where all steps of a definition went well.
use Rattle.std.proofs.Common.{◌≡◌, ℕ, ◌≤◌, Bool, true, false, Result, Ok, Err, refl, arith}
use Rattle.std.specs.Prelude.{nat_le}
use Rattle.std.proofs.lemmas.Bool.Decides.{nat_tests}
use Rattle.ifs_bytes.specs.Outcome.{◌>>=◌, check}

-- a step that went well, and the one behind it
pub steps : {A B E : Type 0} (first : Result A E) (next : A → Result B E) (b : B) → (first >>= next) ≡ Ok b → (a : A) × (first ≡ Ok a) × (next a ≡ Ok b)
steps (Ok a) next b is = (a, refl, is)
steps (Err e) next b is = absurd (cc)

pub check_holds : {E : Type 0} (holds : Bool) (cause : E) (t : Unit {0}) → check holds cause ≡ Ok t → holds ≡ true
check_holds true cause t is = refl
check_holds false cause t is = absurd (cc)

pub at_most : (a b : ℕ) → nat_le a b ≡ true → a ≤ b
at_most a b h = grind (arith, nat_tests)

pub ok_is : {A E : Type 0} (a b : A) (r : Result A E) → r ≡ Ok a → r ≡ Ok b → a ≡ b
ok_is a b r h g = cc
