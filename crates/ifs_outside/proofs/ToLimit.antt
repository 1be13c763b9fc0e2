-- A reader that is read up to one byte past a limit.
use Rattle.std.proofs.Common.{◌≡◌, ℕ, ◌+◌, ◌-◌, ◌^◌, ◌≤◌, min, List, [], ◌++◌, length, take, Option, None, Some, Ok, Vec, vec_len, sym, ap, ◌∙◌, arith, length-take}
use Rattle.std.specs.Prelude.{IfSome}
use Rattle.std.specs.Option.{option_map}
use Rattle.std.specs.declared.alloc.Global.{Global}
use Rattle.std.proofs.lemmas.Bool.{le-leb}
use Rattle.std.proofs.lemmas.List.{take_all}
use Rattle.ifs_outside.specs.Files.{reading, ReadTells}

-- where what was read is no longer than the limit, it is all
pub within_limit : (told : Option (List ℕ)) (limit most : ℕ) (old : List ℕ) (bytes : Vec ℕ Global) → most ≡ min (limit + 1) (2 ^ 64 - 1) → old ≡ [] → IfSome (option_map (take most) told) (λ xs. bytes.items ≡ old ++ xs) → vec_len bytes ≤ limit → IfSome told (λ left. ReadTells (Ok bytes) (reading limit (Some left)))
within_limit None limit most old bytes is none read within = tt
within_limit (Some left) limit most old bytes is none read within =
    let got : bytes.items ≡ take most left = rw none at read in
    let long : vec_len bytes ≡ min most (length left) = bytes.ok.0 ∙ ap length got ∙ length-take most left in
    let fits : length left ≤ limit = omega (arith, bytes.ok.1, bytes.small) in
    let whole : take most left ≡ left = take_all most left (omega (arith, bytes.ok.1, bytes.small)) in
    rw (le-leb (length left) limit fits) (ap Ok (sym whole ∙ sym got))
