-- The test of a name.
use Rattle.std.proofs.Common.{◌≡◌, ℕ, ◌<◌, ◌==◌, true, false, not, ◌||◌, ◌&&◌, length, arith, List, [], ◌∷◌, refl}
use Rattle.std.specs.List.{list_all, list_any}
use Rattle.ifs_interface.specs.Interface.{is_proper_name}

no_nul : (ns : List ℕ) → list_all (λ c. not (c == 0)) ns ≡ not (list_any (λ c. c == 0) ns)
no_nul [] = refl
no_nul (n ∷ ns) =
    elim (n == 0) as (λ b. (not b && list_all (λ c. not (c == 0)) ns) ≡ not (b || list_any (λ c. c == 0) ns)) [ true ↦ refl | false ↦ no_nul ns ]

pub proper_some : (ns : List ℕ) → 0 < length ns → is_proper_name ns ≡ not (list_any (λ c. c == 0) ns)
proper_some [] some = absurd (omega (arith, some))
proper_some (n ∷ ns) some = no_nul (n ∷ ns)
