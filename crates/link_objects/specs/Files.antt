-- Files of objects, and what a call answers that reads them.
use Rattle.std.specs.Prelude.{◌≡◌, ℕ, List, [], ◌∷◌, ◌++◌, ◌⊎◌, map, Result, Ok, Err}
use Rattle.elf_object.specs.Record.{ObjectRecord}
use Rattle.link_core.specs.declared.input.Input.{Input}
use Rattle.link_core.specs.declared.refusal.LinkRefusal.{LinkRefusal}
use Rattle.link_core.specs.declared.refusal.LinkStop.{LinkStop}
use Rattle.link_core.specs.declared.refusal.LinkStop.TheVariants as stops

-- the bytes of each file
abbrev pub bytes_of : List Input → List (List ℕ)
bytes_of files = map (λ file. file.bytes) files

-- the bytes that each object was read from
abbrev pub own_bytes : List ObjectRecord → List (List ℕ)
own_bytes objects = map (λ o. o.bytes) objects

-- what a call answers that is refused
abbrev pub stopped : {T : Type 0} → Result T LinkRefusal → Result T LinkStop
stopped (Ok x) = Ok x
stopped (Err refusal) = Err (stops.Refused refusal)

-- ---- for the code alone

-- items with one more
abbrev pub with_one : {Y : Type 0} → List Y → Result Y LinkRefusal → Result (List Y) LinkRefusal
with_one ys (Ok y) = Ok (ys ++ y ∷ [])
with_one ys (Err refusal) = Err refusal

-- what is meant was put at the end, or it is refused, unless memory ran out
abbrev pub PushesOne : {T Y : Type 0} → Result T LinkStop → List Y → List Y → Result Y LinkRefusal → Type 0
PushesOne (Ok _) old new meant = with_one old meant ≡ Ok new
PushesOne (Err stop) old new meant = (stop ≡ stops.Memory) ⊎ (stopped (with_one old meant) ≡ Err stop)
