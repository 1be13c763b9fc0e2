-- The rooms of common symbols, name by name.
use Rattle.std.proofs.Common.{◌≡◌, ℕ, ◌+◌, ◌≤◌, Bool, true, false, cond, if◌then◌else◌, List, [], ◌∷◌, ◌++◌, length, drop, map, filter, Some, refl, sym, ap, ◌∙◌, append_assoc, length-append, arith}
use Rattle.std.specs.List.{enumerate_from, flat_map, slice_get}
use Rattle.std.specs.Option.{option_map_or}
use Rattle.std.proofs.lemmas.List.{drop_all, append-nil}
use Rattle.link_core.specs.declared.resolution.NameRow.{NameRow}
use Rattle.link_core.specs.declared.resolution.Resolution.{Resolution}
use Rattle.elf_object.specs.Record.{ObjectRecord}
use Rattle.link_core.specs.Binding.{common_align, common_size}
use Rattle.link_core.specs.Commons.{commons_of}
use Rattle.link_core.specs.Mentions.{mentions_of}
use Rattle.link_core.specs.Planned.{Planned, name_at}
use Rattle.link_commons.specs.declared.asked.Asked.{Asked}
use Rattle.link_commons.specs.declared.room.Room.{Room}
use Rattle.link_commons.specs.Asked.{gathered, nothing}
use Rattle.link_commons.specs.Rooms.{is_common, room_at, room_with, rooms_if, rooms_of}
use Rattle.link_commons.proofs.Heard.{asked_is, folded, heard}

-- the rooms from a name on
abbrev pub rooms_from : (List ℕ → Asked) → ℕ → List NameRow → List Room
rooms_from asked i rows = flat_map (rooms_if asked) (enumerate_from i rows)

pub rooms_end : (asked : List ℕ → Asked) (rows : List NameRow) (i : ℕ) (old all : List Room) → length rows ≤ i → old ++ rooms_from asked i (drop i rows) ≡ all → old ≡ all
rooms_end asked rows i old all h so_far =
    sym (ap (λ ys. old ++ rooms_from asked i ys) (drop_all i rows h) ∙ append-nil old) ∙ so_far

-- the row behind some others
row_behind : (done rest : List NameRow) (row : NameRow) → slice_get (done ++ row ∷ rest) (length done) ≡ Some row
row_behind [] rest row = refl
row_behind (d ∷ done) rest row = row_behind done rest row

one_more : (done : List NameRow) (row : NameRow) (i : ℕ) → i ≡ length done → i + 1 ≡ length (done ++ row ∷ [])
one_more done row i at = omega (arith, length-append done (row ∷ []))

module _ (j : Planned) (asked : List ℕ → Asked) (by_name : (q : List ℕ) → asked q ≡ gathered q nothing j.objects) where
  -- the room of a name at its place
  room_is : (n : ℕ) (name : List ℕ) → name_at j n ≡ name → room_with n (asked name) ≡ room_at j n
  unfolding common_align common_size
  room_is n name named =
      let total : asked name ≡ folded nothing (heard (name_at j n) (mentions_of j.names.dropped j.objects)) = by_name name ∙ asked_is name j.names.dropped j.objects ∙ ap (λ q. folded nothing (heard q (mentions_of j.names.dropped j.objects))) (sym named) in
      ap (room_with n) total

  rooms_behind : (done rest : List NameRow) (i : ℕ) → i ≡ length done → done ++ rest ≡ j.names.names → rooms_from asked i rest ≡ map (room_at j) (map (λ n. n.0) (filter (λ n. is_common n.1.bound) (enumerate_from i rest)))
  unfolding name_at
  rooms_behind done [] i at whole = refl
  rooms_behind done (row ∷ rest) i at whole =
      let here : name_at j i ≡ row.name = ap (λ k. name_at j k) at ∙ ap (λ ns. option_map_or (λ r. r.name) (slice_get ns (length done)) []) (sym whole) ∙ ap (λ o. option_map_or (λ r. r.name) o []) (row_behind done rest row) in
      by (is_common row.bound) (room_is i row.name here) (rooms_behind (done ++ row ∷ []) rest (i + 1) (one_more done row i at) (append_assoc done (row ∷ []) rest ∙ whole))
    where
      by : (t : Bool) → room_with i (asked row.name) ≡ room_at j i → rooms_from asked (i + 1) rest ≡ map (room_at j) (map (λ n. n.0) (filter (λ n. is_common n.1.bound) (enumerate_from (i + 1) rest)))
          → (if t then room_with i (asked row.name) ∷ [] else []) ++ rooms_from asked (i + 1) rest ≡ map (room_at j) (map (λ n. n.0) (cond t ((i, row) ∷ filter (λ n. is_common n.1.bound) (enumerate_from (i + 1) rest)) (filter (λ n. is_common n.1.bound) (enumerate_from (i + 1) rest))))
      by true one others = λ k. one k ∷ others k
      by false one others = others

  pub rooms_are : rooms_from asked 0 j.names.names ≡ rooms_of j
  unfolding rooms_of commons_of
  rooms_are = rooms_behind [] j.names.names 0 refl refl

pub rooms_by : (asked : List ℕ → Asked) (objects : List ObjectRecord) (r : Resolution) (rooms : List Room) → ((q : List ℕ) → asked q ≡ gathered q nothing objects) → rooms ≡ rooms_from asked 0 r.names → (j : Planned) → j.objects ≡ objects → j.names ≡ r → rooms ≡ rooms_of j
rooms_by asked objects r rooms by_name rooms_is j objects_is names_is =
    rooms_is ∙ ap (λ n. rooms_from asked 0 n.names) (sym names_is)
    ∙ rooms_are j asked (λ q. by_name q ∙ ap (gathered q nothing) (sym objects_is))
