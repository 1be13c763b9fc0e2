-- A pattern by its runs, the elements between two `*`, for the code alone.
use Rattle.std.specs.Prelude.{ℕ, ◌+◌, ◌-◌, Bool, true, false, ◌&&◌, List, [], ◌∷◌, length, drop, nat_le, Option, Some, None, if◌then◌else◌}
use Rattle.ifs_edit.specs.declared.element.Element.{Element}
use Rattle.ifs_edit.specs.Glob.{is_any, is_end, stands_for, some_rest, matches}

-- how many elements stand before the first `*`
abbrev pub run_len : List Element → ℕ
run_len [] = 0
run_len (e ∷ es) = if is_any e then 0 else 1 + run_len es

-- the elements stand for the bytes at the front, one for one
abbrev pub fits : List Element → List ℕ → Bool
fits [] name = true
fits (e ∷ es) [] = false
fits (e ∷ es) (b ∷ bs) = stands_for e b && fits es bs

-- what stands behind the first bytes that the run fits
abbrev pub behind_run : List Element → List ℕ → Option (List ℕ)
behind_run run [] = if fits run [] then Some (drop (length run) []) else None
behind_run run (b ∷ bs) = if fits run (b ∷ bs) then Some (drop (length run) (b ∷ bs)) else behind_run run bs

-- the run fits the last bytes
abbrev pub fits_end : List Element → List ℕ → Bool
fits_end run name = nat_le (length run) (length name) && fits run (drop (length name - length run) name)

-- what the elements from a `*` on, or none, say of what is left of a name
abbrev pub left_passes : List Element → List ℕ → Bool
left_passes [] name = is_end name
left_passes (star ∷ more) name = some_rest (matches more) name
