-- The output sections of pieces, with one piece more.
use Rattle.std.proofs.Common.{◌≡◌, ℕ, ◌+◌, ◌<◌, Bool, true, false, cond, ◌||◌, List, [], ◌∷◌, ◌++◌, map, length, get_or, take, refl, sym, ap, ◌∙◌, subst}
use Rattle.std.specs.List.{AllByRecursion, IsDistinct, list_any}
use Rattle.std.proofs.lemmas.Bool.{false≢true}
use Rattle.std.proofs.lemmas.List.{append-nil, map-append, take_more}
use Rattle.std.proofs.lemmas.List.Elements.{filter-append}
use denote.Ref.{Bor}
use Rattle.ifs_interface.specs.Triple.{same_name}
use Rattle.link_core.specs.Lists.{once}
use Rattle.link_core.specs.OutputNames.{Output, Piece, output_of, outputs_of, same_output}
use Rattle.link_core.proofs.Once.{once_distinct}
use Rattle.link_outputs.specs.Grouped.{Group, group_of, grouped, outputs, pieces_with, with_last, empty_group, with_piece}
use Rattle.link_outputs.proofs.Keys.{any_seen}
use Rattle.link_outputs.proofs.Once.{all_differ, any_once, once_more, other_way}
use Rattle.link_outputs.proofs.Outputs.{same_output_is, same_output_itself}

abbrev groups_of : List Piece → List Output → List Group
groups_of ps os = map (group_of ps) os

outputs_of_groups : (ps : List Piece) (os : List Output) → outputs (groups_of ps os) ≡ os
outputs_of_groups ps [] = refl
outputs_of_groups ps (o ∷ os) = ap (λ xs. o ∷ xs) (outputs_of_groups ps os)

-- the output sections of groups
pub outputs_grouped : (ps : List Piece) → outputs (grouped ps) ≡ outputs_of ps
unfolding grouped
outputs_grouped ps = outputs_of_groups ps (outputs_of ps)

none_by : (o : Output) (q : Piece) (qs : List Piece) (t : Bool) → same_output o (output_of q) ≡ t → (t || list_any (same_output o) (map output_of qs)) ≡ false
    → (list_any (same_output o) (map output_of qs) ≡ false → pieces_with qs o ≡ []) → pieces_with (q ∷ qs) o ≡ []
none_by o q qs true e none rest = absurd (cc)
none_by o q qs false e none rest =
    ap (λ t. cond t (q ∷ pieces_with qs o) (pieces_with qs o)) (other_way same_output same_output_is same_output_itself o (output_of q) e) ∙ rest none

none_with : (qs : List Piece) (o : Output) → list_any (same_output o) (map output_of qs) ≡ false → pieces_with qs o ≡ []
none_with [] o none = refl
none_with (q ∷ qs) o none = none_by o q qs (same_output o (output_of q)) refl none (none_with qs o)

-- what isn't an output section of the pieces has none of them
pub no_pieces : (ps : List Piece) (o : Output) → list_any (same_output o) (outputs_of ps) ≡ false → pieces_with ps o ≡ []
unfolding outputs_of
no_pieces ps o none =
    none_with ps o (sym (any_once same_output same_output_is same_output_itself o (map output_of ps)) ∙ none)

module _ (ps : List Piece) (p : Piece) where
  pieces_more : (o : Output) (t : Bool) → same_output (output_of p) o ≡ t → pieces_with (ps ++ p ∷ []) o ≡ pieces_with ps o ++ cond t (p ∷ []) []
  pieces_more o t e =
      filter-append (λ q. same_output (output_of q) o) ps (p ∷ []) ∙ ap (λ u. pieces_with ps o ++ cond u (p ∷ []) []) e

  of_other : (o : Output) → same_output (output_of p) o ≡ false → group_of (ps ++ p ∷ []) o ≡ group_of ps o
  of_other o e = ap (λ qs. record { output = o; pieces = qs }) (pieces_more o false e ∙ append-nil (pieces_with ps o))

  of_own : (o : Output) → same_output (output_of p) o ≡ true → group_of (ps ++ p ∷ []) o ≡ with_last (group_of ps o) p
  of_own o e = ap (λ qs. record { output = o; pieces = qs }) (pieces_more o true e)

  of_others : (os : List Output) → AllByRecursion (λ o. same_output (output_of p) o ≡ false) os → groups_of (ps ++ p ∷ []) os ≡ groups_of ps os
  of_others [] h = refl
  of_others (o ∷ os) h = λ i. of_other o h.0 i ∷ of_others os h.1 i

  -- where its own output section is there
  found : (os : List Output) → IsDistinct same_output os → list_any (same_output (output_of p)) os ≡ true → groups_of (ps ++ p ∷ []) os ≡ with_piece (groups_of ps os) p
  unfolding IsDistinct
  found [] distinct any = absurd (false≢true any)
  found (o ∷ os) distinct any = by (same_output (output_of p) o) refl any (found os distinct.1)
    where
      by : (t : Bool) → same_output (output_of p) o ≡ t → (t || list_any (same_output (output_of p)) os) ≡ true
          → (list_any (same_output (output_of p)) os ≡ true → groups_of (ps ++ p ∷ []) os ≡ with_piece (groups_of ps os) p)
          → groups_of (ps ++ p ∷ []) (o ∷ os) ≡ cond t (with_last (group_of ps o) p ∷ groups_of ps os) (group_of ps o ∷ with_piece (groups_of ps os) p)
      by true e any rest =
          let own : output_of p ≡ o = same_output_is (output_of p) o e in
          let others = of_others os (subst (λ x. AllByRecursion (λ y. same_output x y ≡ false) os) (sym own) distinct.0) in
          λ i. of_own o e i ∷ others i
      by false e any rest = let later = rest any in λ i. of_other o e i ∷ later i

  -- where it isn't
  put_last : (os : List Output) → AllByRecursion (λ o. same_output (output_of p) o ≡ false) os → with_piece (groups_of ps os) p ≡ groups_of ps os ++ with_last (empty_group (output_of p)) p ∷ []
  put_last [] h = refl
  put_last (o ∷ os) h =
      ap (λ t. cond t (with_last (group_of ps o) p ∷ groups_of ps os) (group_of ps o ∷ with_piece (groups_of ps os) p)) h.0
      ∙ ap (λ gs. group_of ps o ∷ gs) (put_last os h.1)

  own_alone : pieces_with ps (output_of p) ≡ [] → group_of (ps ++ p ∷ []) (output_of p) ≡ with_last (empty_group (output_of p)) p
  own_alone none =
      of_own (output_of p) (same_output_itself (output_of p))
      ∙ ap (λ qs. record { output = output_of p; pieces = qs ++ p ∷ [] }) none

  more_by :
      (t : Bool) → list_any (same_output (output_of p)) (outputs_of ps) ≡ t → IsDistinct same_output (outputs_of ps)
      → groups_of (ps ++ p ∷ []) (cond t (outputs_of ps) (outputs_of ps ++ output_of p ∷ [])) ≡ with_piece (groups_of ps (outputs_of ps)) p
  more_by true e distinct = found (outputs_of ps) distinct e
  more_by false e distinct =
      let differ = all_differ same_output same_output_is same_output_itself (output_of p) (outputs_of ps) e in
      let others = of_others (outputs_of ps) differ in
      let own = own_alone (no_pieces ps (output_of p) e) in
      map-append (group_of (ps ++ p ∷ [])) (outputs_of ps) (output_of p ∷ [])
      ∙ (λ i. others i ++ own i ∷ []) ∙ sym (put_last (outputs_of ps) differ)

  outputs_more : outputs_of (ps ++ p ∷ []) ≡ cond (list_any (same_output (output_of p)) (outputs_of ps)) (outputs_of ps) (outputs_of ps ++ output_of p ∷ [])
  unfolding outputs_of
  outputs_more =
      ap (once same_output) (map-append output_of ps (p ∷ []))
      ∙ once_more same_output same_output_is same_output_itself (map output_of ps) (output_of p)

  distinct_outputs : IsDistinct same_output (outputs_of ps)
  unfolding outputs_of
  distinct_outputs = once_distinct same_output (map output_of ps)

  -- the pieces so far, and one more
  pub grouped_more : grouped (ps ++ p ∷ []) ≡ with_piece (grouped ps) p
  unfolding grouped
  grouped_more =
      ap (groups_of (ps ++ p ∷ [])) outputs_more
      ∙ more_by (list_any (same_output (output_of p)) (outputs_of ps)) refl distinct_outputs

-- ---- the steps of `group`

pub grouped_none : grouped [] ≡ []
unfolding grouped outputs_of
grouped_none = refl

pub group_step : (ps : List Piece) (i : ℕ) (x : Piece) (gs new : List Group) → i < length ps → x ≡ get_or ps i x → gs ≡ grouped (take i ps) → new ≡ with_piece gs x → new ≡ grouped (take (i + 1) ps)
group_step ps i x gs new h e so_far made =
    made ∙ ap (λ all. with_piece all x) so_far ∙ sym (grouped_more (take i ps) x)
    ∙ ap (λ y. grouped (take i ps ++ y ∷ [])) e ∙ ap grouped (sym (take_more ps i x h))

-- ---- names

pub names_of : (ns : List (Bor (List ℕ))) (gs : List Group) (name : List ℕ) → map (λ n. n.now) ns ≡ map (λ g. g.output.name) gs
    → list_any (λ n. same_name n.now name) ns ≡ list_any (λ o. same_name o.name name) (outputs gs)
names_of ns gs name e =
    any_seen (λ m. same_name m name) (λ (n : Bor (List ℕ)). n.now) ns ∙ ap (list_any (λ m. same_name m name)) e
    ∙ sym (any_seen (λ m. same_name m name) (λ (g : Group). g.output.name) gs)
    ∙ any_seen (λ (o : Output). same_name o.name name) (λ g. g.output) gs
