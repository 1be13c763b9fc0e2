-- A map in which the first pieces, or the first common symbols, are found.
use Rattle.std.proofs.Common.{◌≡◌, ℕ, ◌+◌, ◌-◌, ◌<◌, cond, List, ◌∷◌, length, drop, get_or, Option, Some, refl, sym, ap, ◌∙◌, subst, arith}
use Rattle.std.proofs.lemmas.List.{at_drop_more}
use Rattle.indexmap.specs.IndexMap.{IndexMap, Updates}
use Rattle.link_core.specs.declared.layout.PieceAt.{PieceAt}
use Rattle.link_core.specs.declared.layout.Layout.{Layout}
use Rattle.link_core.specs.Places.{common_address, section_address, section_position}
use Rattle.link_where.specs.Commons as commons
use Rattle.link_where.specs.Pieces.{AreFound, address_in, is_of, position_in, same_pair}

drop_more : {X : Type 0} (xs : List X) (i : ℕ) (d : X) → i < length xs → drop i xs ≡ get_or xs i d ∷ drop (i + 1) xs
drop_more xs i d h = at_drop_more (λ ys. ys) xs i d h

-- going from the last to the first, the items that were met with one more are those that were met then
pub one_more : {X : Type 0} (Of : List X → Type 0) (xs : List X) (n i : ℕ) (x d : X) → n ≡ length xs → i < n → x ≡ get_or xs (n - 1 - i) d
    → Of (x ∷ drop (n - i) xs) → Of (drop (n - (i + 1)) xs)
one_more Of xs n i x d long h is so_far =
    let at = n - 1 - i in
    let next : at + 1 ≡ n - i = omega (arith, h) in
    let same : n - (i + 1) ≡ at = omega (arith, h) in
    let e : drop at xs ≡ x ∷ drop (n - i) xs =
    drop_more xs at d (omega (arith, h, long)) ∙ ap (λ k. get_or xs at d ∷ drop k xs) next ∙ ap (λ y. y ∷ drop (n - i) xs) (sym is) in
    subst (λ k. Of (drop k xs)) (sym same) (subst Of (sym e) so_far)

-- ---- pieces

-- a map in which one more piece is noted
pub noted : {S : Type 0} (old new : IndexMap (ℕ × ℕ) PieceAt S) (p : PieceAt) (pieces : List PieceAt)
    → Updates same_pair old new (p.object, p.section) (Some p) → AreFound pieces old → AreFound (p ∷ pieces) new
noted old new p pieces updates are object section =
    updates.0 (object, section) ∙ ap (λ (x : Option PieceAt). cond (is_of object section p) (Some p) x) (are object section)

-- ---- for callers: the look-ups of a layout are those of its lists

pub address_is : (l : Layout) (object section : ℕ) → section_address l object section ≡ address_in l.pieces object section
unfolding section_address
address_is l object section = refl

pub position_is : (l : Layout) (object section : ℕ) → section_position l object section ≡ position_in l.pieces object section
unfolding section_position
position_is l object section = refl

pub common_is : (l : Layout) (n : ℕ) → common_address l n ≡ commons.address_in l.commons n
unfolding common_address
common_is l n = refl
