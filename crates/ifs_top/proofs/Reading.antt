-- What reading an input leaves.
use Rattle.std.proofs.Common.{◌≡◌, ℕ, List, [], ◌∷◌, Option, Result, Ok, Err, refl, ap, sym, subst, ◌∙◌, inl, inr}
use Rattle.std.specs.Prelude.{codes, IfSome}
use Rattle.std.proofs.lemmas.Slice.Eq.{bytes_eq-Decides}
use Rattle.ifs_bytes.specs.Outcome.{UnlessMemory}
use Rattle.ifs_outside.specs.Count.{Rose}
use Rattle.std.specs.Prelude.{Vec}
use Rattle.std.specs.declared.alloc.Global.{Global}
use Rattle.ifs_outside.specs.Files.{FileMap, reading, ReadTells, ReadCounts}
use Rattle.ifs_outside.specs.declared.cause.ReadCause.{ReadCause}
use Rattle.ifs_outside.specs.declared.cause.ReadCause.TheVariants.{TooLarge}
use Rattle.ifs_outside.specs.declared.counts.FileCounts.{FileCounts}
use Rattle.ifs_top.specs.declared.inputs.Input.{Input}
use Rattle.ifs_top.specs.declared.limits.TheConstants.{MOST_FILE_BYTES}
use Rattle.ifs_top.specs.declared.refusal.Refusal.{Refusal}
use Rattle.ifs_top.specs.declared.refusal.Stop.{Stop}
use Rattle.ifs_top.specs.declared.refusal.Stop.TheVariants as stops
use Rattle.ifs_top.specs.Inputs.{AreNamed}
use Rattle.ifs_top.specs.Refused.{refused}
use Rattle.ifs_top.specs.Steps.{ReadsInputs}

miss_alone : (old new : FileCounts) → new ≡ record old { misses = new.misses } → new ≡ record old { read_faults = new.read_faults; misses = new.misses }
miss_alone old new h = h ∙ ap (λ (n : ℕ). record old { read_faults = n; misses = new.misses }) (sym (ap (λ (x : FileCounts). x.read_faults) h))

-- one path is named
pub named_alone : (path : List ℕ) → AreNamed (path ∷ []) path
named_alone path = rw ((bytes_eq-Decides path path).1 refl) refl

-- an input that holds too much
pub too_large : (path : List ℕ) (result : Result (Result Input Refusal) Stop) (files : Option FileMap) (old new : FileCounts) (cause : ReadCause) → cause ≡ TooLarge → AreNamed (path ∷ []) path
    → UnlessMemory stops.Memory result (Ok (refused path (codes "too large") 3)) → IfSome files (λ held. ReadTells (Err cause) (reading MOST_FILE_BYTES (held path)))
    → ReadCounts {T = Vec ℕ Global} (Err cause) old new → ReadsInputs (path ∷ []) result files old new
too_large path result files old new cause is named answer tells counts =
    let told : IfSome files (λ held. reading MOST_FILE_BYTES (held path) ≡ Err TooLarge) = subst (λ (c : ReadCause). IfSome files (λ held. ReadTells (Err c) (reading MOST_FILE_BYTES (held path)))) is tells in
    let counted : Rose old.misses new.misses × (new ≡ record old { misses = new.misses }) = subst (λ (c : ReadCause). ReadCounts {T = Vec ℕ Global} (Err c) old new) is counts in
    elim answer [ inl memory ↦ rw memory (miss_alone old new counted.1) | inr missed ↦ rw missed ((path, named, inr (refl, told)), counted.0, counted.1) ]
