-- Results that are bound, and results that are meant unless memory ran out.
use Rattle.std.proofs.Common.{◌≡◌, inl, inr, refl, sym, ap}
use Rattle.std.specs.Prelude.{Result, Ok, Err}
use Rattle.ifs_bytes.specs.Outcome.{UnlessMemory, ◌>>=◌}

-- what was bound to a value was a value
pub bound_ok : {A B E : Type 0} (r : Result A E) (f : A → Result B E) (y : B) → r >>= f ≡ Ok y → (x : A) × (r ≡ Ok x) × (f x ≡ Ok y)
bound_ok (Ok x) f y h = (x, refl, h)
bound_ok (Err e) f y h = absurd (cc)

pub same_ok : {A E : Type 0} (r : Result A E) (x y : A) → r ≡ Ok x → r ≡ Ok y → x ≡ y
same_ok r x y h g = cc

-- a value that was answered is what was meant
pub meant_ok : {A E : Type 0} (memory : E) (x : A) (meant : Result A E) → UnlessMemory memory (Ok x) meant → meant ≡ Ok x
meant_ok memory x meant (inl h) = absurd (cc)
meant_ok memory x meant (inr h) = sym h

-- a cause that was answered, of another call
pub meant_err : {A B E : Type 0} (memory cause : E) (meant : Result A E) (all : Result B E) → UnlessMemory memory (Err cause) meant → (meant ≡ Err cause → all ≡ Err cause) → UnlessMemory memory (Err cause) all
meant_err {A} {B} {E} memory cause meant all (inl h) follows = let same : cause ≡ memory = cc in inl (ap (λ e. Err e) same)
meant_err memory cause meant all (inr h) follows = inr (sym (follows (sym h)))
