-- One part more behind parts that ascend.
use Rattle.std.proofs.Common.{◌≡◌, ℕ, ◌+◌, ◌-◌, ◌≤◌, List, [], ◌∷◌, ◌++◌, length, replicate, ap, ◌∙◌, sym, subst, arith, length-append, append_assoc, append-nil}
use Rattle.std.proofs.lemmas.List.{length-replicate}
use Rattle.link_core.specs.Image.{laid_out}
use Rattle.link_core.specs.LinkLaws.{Ascend, parts_end}
use Rattle.link_core.specs.Parts.{Part}
use Rattle.link_fields.specs.Appended.{Appended, PutsPart}

-- what is laid out from an offset on ends with the last part
parts_fill : (at : ℕ) (parts : List Part) → Ascend at parts → at + length (laid_out at parts) ≡ parts_end at parts
unfolding laid_out
parts_fill at [] h = omega (arith)
parts_fill at (part ∷ parts) h =
    let rest = parts_fill (part.offset + length part.bytes) parts h.1 in
    let gap : List ℕ = replicate (part.offset - at) 0 in
    let more : List ℕ = laid_out (part.offset + length part.bytes) parts in
    omega (arith, h.0, rest, length-append (gap ++ part.bytes) more, length-append gap part.bytes, length-replicate {A = ℕ} (part.offset - at) 0)

-- a part that starts at or behind the end of the last one
ascend_put : (at : ℕ) (parts : List Part) (part : Part) → Ascend at parts → parts_end at parts ≤ part.offset
    → Ascend at (parts ++ part ∷ [])
ascend_put at [] part h behind = (behind, tt)
ascend_put at (p ∷ parts) part h behind = (h.0, ascend_put (p.offset + length p.bytes) parts part h.1 behind)

laid_put : (at : ℕ) (parts : List Part) (part : Part)
    → laid_out at (parts ++ part ∷ [])
    ≡ laid_out at parts ++ (replicate (part.offset - parts_end at parts) 0 ++ part.bytes)
unfolding laid_out
laid_put at [] part = append-nil (replicate (part.offset - at) 0 ++ part.bytes)
laid_put at (p ∷ parts) part =
    let gap : List ℕ = replicate (p.offset - at) 0 in
    let behind = p.offset + length p.bytes in
    let last : List ℕ = replicate (part.offset - parts_end behind parts) 0 ++ part.bytes in
    ap (λ (rest : List ℕ). gap ++ p.bytes ++ rest) (laid_put behind parts part)
    ∙ sym (append_assoc (gap ++ p.bytes) (laid_out behind parts) last)

-- where parts ascend, zeros up to an offset and a part's bytes are the part behind them
pub part_put : (out : List ℕ) (parts : List Part) (offset : ℕ) (bytes : List ℕ)
    → Ascend 0 parts → out ≡ laid_out 0 parts
    → (out ++ replicate (offset - length out) 0) ++ bytes
    ≡ laid_out 0 (parts ++ record { offset = offset; bytes = bytes } ∷ [])
part_put out parts offset bytes ascend laid =
    let part : Part = record { offset = offset; bytes = bytes } in
    let ends : length out ≡ parts_end 0 parts = omega (arith, ap length laid, parts_fill 0 parts ascend) in
    append_assoc out (replicate (offset - length out) 0) bytes
    ∙ (ap (λ n. out ++ (replicate (offset - n) 0 ++ bytes)) ends
    ∙ (ap (λ xs. xs ++ (replicate (offset - parts_end 0 parts) 0 ++ bytes)) laid ∙ sym (laid_put 0 parts part)))

-- the same, with the parts still ascending
pub appended_put : (out : List ℕ) (parts : List Part) (offset : ℕ) (bytes : List ℕ)
    → length out ≤ offset → Appended out parts
    → Appended ((out ++ replicate (offset - length out) 0) ++ bytes)
    (parts ++ record { offset = offset; bytes = bytes } ∷ [])
appended_put out parts offset bytes behind so_far =
    let ends : parts_end 0 parts ≤ offset =
    omega (arith, behind, ap length so_far.laid, parts_fill 0 parts so_far.ascend) in
    record {
      ascend = ascend_put 0 parts (record { offset = offset; bytes = bytes }) so_far.ascend ends;
      laid = part_put out parts offset bytes so_far.ascend so_far.laid;
    }

pub puts_part : (old new : List ℕ) (offset : ℕ) (bytes : List ℕ) → length old ≤ offset
    → new ≡ (old ++ replicate (offset - length old) 0) ++ bytes → PutsPart old new offset bytes
puts_part old new offset bytes behind written =
    record {
      written = written;
      appended = λ parts so_far.
          subst (λ xs. Appended xs (parts ++ record { offset = offset; bytes = bytes } ∷ [])) (sym written)
          (appended_put old parts offset bytes behind so_far);
    }
