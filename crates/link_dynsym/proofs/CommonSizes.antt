-- What the rows of common symbols say.
use Rattle.std.proofs.Common.{◌≡◌, ◌+◌, ℕ, zero, suc, cond, Bool, true, false, List, [], ◌∷◌, ◌++◌, map, Option, Some, refl, ap, ◌∙◌, arith, eqb-true, eq-eqb}
use Rattle.std.specs.List.{enumerate_from, list_any}
use Rattle.std.specs.Option.{option_map_or}
use Rattle.std.specs.Prelude.{filter, find, length, slice_get, ◌==◌, ◌||◌}
use Rattle.indexmap.specs.IndexMap.{IndexMap}
use Rattle.link_commons.specs.declared.room.Room.{Room}
use Rattle.link_commons.specs.Rooms.{room_at, rooms_of}
use Rattle.link_core.specs.declared.layout.Layout.{Layout}
use Rattle.link_core.specs.declared.resolution.Bound.{Bound}
use Rattle.link_core.specs.declared.resolution.Bound.TheVariants as bounds
use Rattle.link_core.specs.declared.resolution.NameRow.{NameRow}
use Rattle.link_core.specs.Binding.{common_size}
use Rattle.link_core.specs.Commons.{bss, commons_of, is_common_bound, mentions_at, outputs_by}
use Rattle.link_core.specs.Layout.{output_position}
use Rattle.link_core.specs.OutputNames.{Output, outputs_of, same_output}
use Rattle.link_core.specs.Planned.{Planned, pieces_in, row_at}
use Rattle.link_outputs.proofs.Once.{any_once}
use Rattle.link_outputs.proofs.Outputs.{same_output_is, same_output_itself}
use Rattle.link_tables.specs.Filled.{outputs_filled}
use Rattle.link_layout.specs.Laws.{IsLayoutOf}
use Rattle.link_dynsym.proofs.Numbers.{bss_is}
use Rattle.link_dynsym.specs.Rows.{AreCommons, AreFound, bss_number, size_in}

either : (t : Bool) → (t || true) ≡ true
either true = refl
either false = refl

-- ---- a name that is bound to room is among the common symbols

abbrev test : NameRow → Bool
test row = is_common_bound row.bound

abbrev among : ℕ → List ℕ → Bool
among n ns = list_any (λ m. m == n) ns

abbrev numbers : ℕ → List NameRow → List ℕ
numbers k rows = map (λ n. n.0) (filter (λ n. test n.1) (enumerate_from k rows))

here_step : (b : Bool) (k n : ℕ) (r : NameRow) (rest : List (ℕ × NameRow)) → b ≡ true → k ≡ n → among n (map (λ n. n.0) (cond b ((k, r) ∷ rest) rest)) ≡ true
here_step true k n r rest e same = ap (λ t. t || among n (map (λ n. n.0) rest)) (eq-eqb k n same)
here_step false k n r rest e same = cc

later_step : (b : Bool) (k n : ℕ) (r : NameRow) (rest : List (ℕ × NameRow)) → among n (map (λ n. n.0) rest) ≡ true → among n (map (λ n. n.0) (cond b ((k, r) ∷ rest) rest)) ≡ true
later_step true k n r rest e = ap (λ t. (k == n) || t) e ∙ either (k == n)
later_step false k n r rest e = e

member : (rows : List NameRow) (i k n : ℕ) (row : NameRow) → n ≡ k + i → slice_get rows i ≡ Some row → test row ≡ true → among n (numbers k rows) ≡ true
member [] i k n row at e t = cc
member (r ∷ rows) zero k n row at e t =
    let same : r ≡ row = cc in
    here_step (test r) k n r (filter (λ n. test n.1) (enumerate_from (k + 1) rows)) (ap test same ∙ t) (omega (arith, at))
member (r ∷ rows) (suc i) k n row at e t =
    later_step (test r) k n r (filter (λ n. test n.1) (enumerate_from (k + 1) rows)) (member rows i (k + 1) n row (omega (arith, at)) e t)

is_common : (b : Bound) → b ≡ bounds.Common → is_common_bound b ≡ true
is_common b e = ap is_common_bound e

pub there : (j : Planned) (n : ℕ) (row : NameRow) → row_at j n ≡ Some row → row.bound ≡ bounds.Common → among n (commons_of j) ≡ true
unfolding commons_of
there j n row e b = member j.names.names n 0 n row (omega arith) e (is_common row.bound b)

-- ---- its room

room_step : (j : Planned) (b : Bool) (m n : ℕ) (rest : Option Room) → (m == n) ≡ b → (b ≡ false → rest ≡ Some (room_at j n)) → cond b (Some (room_at j m)) rest ≡ Some (room_at j n)
room_step j true m n rest e next = ap (λ k. Some (room_at j k)) (eqb-true m n e)
room_step j false m n rest e next = next refl

remains : (a b : Bool) → (a || b) ≡ true → a ≡ false → b ≡ true
remains true b e none = cc
remains false b e none = e

room_in : (j : Planned) (ns : List ℕ) (n : ℕ) → among n ns ≡ true → find (λ r. r.name == n) (map (room_at j) ns) ≡ Some (room_at j n)
room_in j [] n e = cc
room_in j (m ∷ ns) n e =
    room_step j (m == n) m n (find (λ r. r.name == n) (map (room_at j) ns)) refl
    (λ none. room_in j ns n (remains (m == n) (among n ns) e none))

sized : (j : Planned) (n : ℕ) → among n (commons_of j) ≡ true → option_map_or (λ r. r.size) (find (λ r. r.name == n) (rooms_of j)) 0 ≡ common_size (mentions_at j n)
unfolding rooms_of
sized j n e = ap (λ r. option_map_or (λ (r : Room). r.size) r 0) (room_in j (commons_of j) n e)

-- ---- .bss is an output section

some_bss : (n : ℕ) (os : List Output) (ns : List ℕ) → among n ns ≡ true → list_any (same_output bss) (os ++ map (λ n. bss) ns) ≡ true
some_bss n [] [] e = cc
some_bss n [] (m ∷ ns) e = ap (λ t. t || list_any (same_output bss) (map (λ n. bss) ns)) (same_output_itself bss)
some_bss n (o ∷ os) ns e = ap (λ t. same_output bss o || t) (some_bss n os ns e) ∙ either (same_output bss o)

turned_step : (a b r s : Bool) → (a ≡ true → b ≡ true) → (r ≡ true → s ≡ true) → (a || r) ≡ true → (b || s) ≡ true
turned_step true b r s first rest e = ap (λ t. t || s) (first refl)
turned_step false b r s first rest e = ap (λ t. b || t) (rest e) ∙ either b

turned : (os : List Output) → list_any (same_output bss) os ≡ true → list_any (λ o. same_output o bss) os ≡ true
turned [] e = cc
turned (o ∷ os) e =
    turned_step (same_output bss o) (same_output o bss) (list_any (same_output bss) os) (list_any (λ q. same_output q bss) os)
    (λ same. ap (λ q. same_output o q) (same_output_is bss o same) ∙ same_output_itself o) (turned os) e

bss_there : (j : Planned) (n : ℕ) → among n (commons_of j) ≡ true → list_any (λ o. same_output o bss) (outputs_by j) ≡ true
unfolding outputs_by
bss_there j n e =
    turned (outputs_by j)
    (any_once same_output same_output_is same_output_itself bss (outputs_of (pieces_in j) ++ map (λ n. bss) (commons_of j))
    ∙ some_bss n (outputs_of (pieces_in j)) (commons_of j) e)

-- ---- all of them

pub commons_are :
    {S : Type 0} (j : Planned) (l : Layout) (rooms : List Room) (found : IndexMap ℕ Room S) (section : ℕ) → IsLayoutOf j l
    → rooms ≡ rooms_of j → AreFound rooms found
    → section ≡ bss_number (outputs_filled j) (length l.sections) → AreCommons j found section
commons_are j l rooms found section made all are number n row at bound =
    let e = there j n row at bound in (
      ap (λ r. option_map_or (λ (r : Room). r.size) r 0) (are n)
          ∙ ap (λ rs. option_map_or (λ (r : Room). r.size) (find (λ r. r.name == n) rs) 0) all
          ∙ sized j n e,
      number ∙ bss_is j l made (bss_there j n e),
    )

pub size_is :
    {S : Type 0} (j : Planned) (found : IndexMap ℕ Room S) (section n : ℕ) (row : NameRow) → AreCommons j found section
    → row_at j n ≡ Some row → row.bound ≡ bounds.Common → size_in found n ≡ common_size (mentions_at j n)
size_is j found section n row are at bound = (are n row at bound).0

pub section_is :
    {S : Type 0} (j : Planned) (found : IndexMap ℕ Room S) (section n : ℕ) (row : NameRow) → AreCommons j found section
    → row_at j n ≡ Some row → row.bound ≡ bounds.Common → section ≡ output_position j bss + 1
section_is j found section n row are at bound = (are n row at bound).1
