-- A write that goes on where the one before it ended.
use Rattle.std.proofs.Common.{◌≡◌, ℕ, ◌+◌, ◌≤◌, List, length, take, drop, Option, None, Some, Err, refl, ap, arith, append_assoc, length-drop}
use Rattle.std.specs.Io.KnownBytes.{append_known}
use Rattle.std.proofs.Math.Seq.{take-add}
use Rattle.ifs_outside.specs.declared.cause.WriteCause.{WriteCause}
use Rattle.ifs_outside.specs.declared.cause.WriteCause.TheVariants.{Failed, Memory}
use Rattle.ifs_outside.specs.Sink.{Puts, PutsPrefix}

-- what stands after two writes one behind the other
pub more_written : (told : Option (List ℕ)) (bytes : List ℕ) (done n : ℕ) → append_known (append_known told (take done bytes)) (take n (drop done bytes)) ≡ append_known told (take (done + n) bytes)
more_written None bytes done n = refl
more_written (Some text) bytes done n = ap Some (rw (take-add done n bytes, append_assoc))

-- a write that stopped leaves a prefix of the whole
pub stopped : (cause : WriteCause) (bytes : List ℕ) (done : ℕ) (old now new : Option (List ℕ)) → done ≤ length bytes → now ≡ append_known old (take done bytes) → Puts (Err cause) (drop done bytes) now new → PutsPrefix bytes old new
stopped Failed bytes done old now new within is puts =
    (done + puts.0, omega (arith, puts.1, length-drop done bytes), rw (puts.2, is) (more_written old bytes done puts.0))
stopped Memory bytes done old now new within is puts = (done, within, rw (puts, is))
