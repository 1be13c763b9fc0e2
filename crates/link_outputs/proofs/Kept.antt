-- The passes over the sections of objects, and that they keep just the kept sections.
use Rattle.std.proofs.Common.{◌≡◌, ℕ, zero, suc, ◌+◌, ◌-◌, ◌<◌, ◌≤◌, Bool, true, false, cond, List, [], ◌∷◌, ◌++◌, map, filter, length, Option, Some, None, refl, sym, ap, ◌∙◌, arith}
use Rattle.std.specs.List.{enumerate_from, filter_map, cons_option, range_with_len, slice_get, flat_map}
use Rattle.std.specs.Option.{option_map, option_and_then}
use Rattle.std.specs.declared.vec.Vec.{Vec}
use Rattle.std.proofs.lemmas.List.{length-map}
use Rattle.std.proofs.lemmas.List.Elements.{filter_map-append}
use Rattle.std.proofs.lemmas.List.FromFn.{length-enumerate_from}
use Rattle.ifs_bytes.specs.Places.{places}
use Rattle.elf_object.specs.declared.section.ObjSection.{ObjSection}
use Rattle.elf_object.specs.Record.{ObjectRecord}
use Rattle.link_core.specs.declared.resolution.Member.{Member}
use Rattle.link_core.specs.Kept.{is_kept, kept_sections, section_of}
use Rattle.link_core.specs.OutputNames.{Piece, kept_pieces, piece_at}
use Rattle.link_pieces.specs.Flags.{flags_of, kept_flags, rows}
use Rattle.link_outputs.specs.Pieces.{has_flag, piece_of, pieces_from, pieces_of_object}

-- ---- the kept sections of an object

-- the flags of the places from k on have the tests there
flag_in : (p : ℕ → Bool) (k n s : ℕ) → s < n → has_flag (map p (range_with_len k n)) s ≡ p (k + s)
flag_in p k zero s h = absurd (omega (arith, h))
flag_in p k (suc n) zero h = ap p (omega arith)
flag_in p k (suc n) (suc s) h = flag_in p (k + 1) n s (omega (arith, h)) ∙ ap p (omega arith)

flag_at : (p : ℕ → Bool) (n s : ℕ) → s < n → has_flag (map p (places 0 n)) s ≡ p s
flag_at p n s h =
    let all : n - 0 ≡ n = omega arith in
    ap (λ m. has_flag (map p (range_with_len 0 m)) s) all ∙ flag_in p 0 n s h ∙ ap p (omega arith)

module _ (place : Member → Option Piece) (sections : List ObjSection) (object : ℕ) (kept test : ℕ → Bool)
    (placed : (s : ℕ) (x : ObjSection) → slice_get sections s ≡ Some x → place (section_of object s) ≡ Some (record { object = object; section = s; input = x })) where
  abbrev listed : List ℕ → List Piece
  listed ss = filter_map place (map (section_of object) ss)

  section_step : (k : ℕ) (x : ObjSection) (ss : List ℕ) (rest : List Piece) (t : Bool) → test k ≡ t → kept k ≡ t → slice_get sections k ≡ Some x → listed ss ≡ rest
      → listed (cond t (k ∷ ss) ss) ≡ cons_option (cond (kept k) (Some (record { object = object; section = k; input = x })) None) rest
  section_step k x ss rest true e f there same =
      ap (λ o. cons_option o (listed ss)) (placed k x there)
      ∙ ap (λ ps. record { object = object; section = k; input = x } ∷ ps) same
      ∙ sym (ap (λ b. cons_option (cond b (Some (record { object = object; section = k; input = x })) None) rest) f)
  section_step k x ss rest false e f there same =
      same ∙ sym (ap (λ b. cons_option (cond b (Some (record { object = object; section = k; input = x })) None) rest) f)

  same_pieces : (k : ℕ) (xs : List ObjSection) → ((s : ℕ) → slice_get xs s ≡ slice_get sections (k + s))
      → ((s : ℕ) → k ≤ s → s < k + length xs → kept s ≡ test s)
      → listed (filter test (range_with_len k (length xs))) ≡ filter_map (piece_of kept object) (enumerate_from k xs)
  same_pieces k [] at agree = refl
  same_pieces k (x ∷ xs) at agree =
      let start : k + 0 ≡ k = omega arith in
      let here : slice_get sections k ≡ Some x = sym (ap (slice_get sections) start) ∙ sym (at 0) in
      let rest = same_pieces (k + 1) xs
      (λ s. at (suc s) ∙ ap (slice_get sections) (let e : k + suc s ≡ k + 1 + s = omega arith in e))
      (λ s h l. agree s (omega (arith, h)) (omega (arith, l))) in
      section_step k x (filter test (range_with_len (k + 1) (length xs))) _ (test k) refl (agree k (omega arith) (omega arith)) here rest

object_pieces : (dropped : List Member) (objects : List ObjectRecord) (i : ℕ) (o : ObjectRecord) → slice_get objects i ≡ Some o
    → filter_map (piece_at objects) (map (section_of i) (filter (is_kept dropped i o) (places 0 (length o.sections)))) ≡ pieces_of_object (flags_of dropped i o) i o.sections
object_pieces dropped objects i o at =
    let all : length o.sections - 0 ≡ length o.sections = omega arith in
    ap (λ n. filter_map (piece_at objects) (map (section_of i) (filter (is_kept dropped i o) (range_with_len 0 n)))) all
    ∙ same_pieces (piece_at objects) o.sections i (has_flag (flags_of dropped i o)) (is_kept dropped i o)
    (λ s x there. ap (λ found. option_map (λ y. record { object = i; section = s; input = y }) (option_and_then (λ r. slice_get r.sections s) found)) at
    ∙ ap (option_map (λ y. record { object = i; section = s; input = y })) there)
    0 o.sections
    (λ s. ap (slice_get o.sections) (let e : s ≡ 0 + s = omega arith in e))
    (λ s h l. flag_at (is_kept dropped i o) (length o.sections) s (omega (arith, l)))

-- ---- of all objects

abbrev sections_at : List Member → ℕ × ObjectRecord → List Member
sections_at dropped o = map (section_of o.0) (filter (is_kept dropped o.0 o.1) (places 0 (length o.1.sections)))

heads : {X : Type 0} (x y : X) (xs ys : List X) → x ∷ xs ≡ y ∷ ys → x ≡ y
heads x y xs ys e = cc

tails : {X : Type 0} (x y : X) (xs ys : List X) → x ∷ xs ≡ y ∷ ys → xs ≡ ys
tails x y xs ys e = cc

same_objects : {Z : Type 0} (dropped : List Member) (objects : List ObjectRecord) (i : ℕ) (os : List ObjectRecord) (flags : List (Vec Bool Z))
    → ((s : ℕ) → slice_get os s ≡ slice_get objects (i + s))
    → rows flags ≡ map (λ o. flags_of dropped o.0 o.1) (enumerate_from i os)
    → pieces_from i flags os ≡ filter_map (piece_at objects) (flat_map (sections_at dropped) (enumerate_from i os))
same_objects dropped objects i [] flags at e = refl
same_objects dropped objects i (o ∷ os) [] at e = absurd (cc)
same_objects dropped objects i (o ∷ os) (f ∷ fs) at e =
    let own : f.items ≡ flags_of dropped i o = heads _ _ _ _ e in
    let start : i + 0 ≡ i = omega arith in
    let here : slice_get objects i ≡ Some o = sym (ap (slice_get objects) start) ∙ sym (at 0) in
    let rest = same_objects dropped objects (i + 1) os fs
    (λ s. at (suc s) ∙ ap (slice_get objects) (let n : i + suc s ≡ i + 1 + s = omega arith in n))
    (tails _ _ _ _ e) in
    ap (λ flags. pieces_of_object flags i o.sections ++ pieces_from (i + 1) fs os) own
    ∙ ap (λ ps. ps ++ pieces_from (i + 1) fs os) (sym (object_pieces dropped objects i o here))
    ∙ ap (λ ps. filter_map (piece_at objects) (sections_at dropped (i, o)) ++ ps) rest
    ∙ sym (filter_map-append (piece_at objects) (sections_at dropped (i, o)) (flat_map (sections_at dropped) (enumerate_from (i + 1) os)))

pub kept_is : {Z : Type 0} (dropped : List Member) (objects : List ObjectRecord) (flags : List (Vec Bool Z)) → rows flags ≡ kept_flags dropped objects → pieces_from 0 flags objects ≡ kept_pieces dropped objects
unfolding kept_pieces kept_sections
kept_is dropped objects flags e =
    same_objects dropped objects 0 objects flags (λ s. ap (slice_get objects) (let n : s ≡ 0 + s = omega arith in n)) e

pub flags_long : {Z : Type 0} (dropped : List Member) (objects : List ObjectRecord) (flags : List (Vec Bool Z)) → rows flags ≡ kept_flags dropped objects → length flags ≡ length objects
flags_long dropped objects flags e =
    sym (length-map flags (λ f. f.items)) ∙ ap length e
    ∙ length-map (enumerate_from 0 objects) (λ o. flags_of dropped o.0 o.1) ∙ length-enumerate_from 0 objects
