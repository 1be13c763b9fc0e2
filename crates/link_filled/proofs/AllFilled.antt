-- The output sections of a link, filled, are those of its pieces and its common symbols.
use Rattle.std.proofs.Common.{◌≡◌, ℕ, Bool, true, false, not, ◌&&◌, ◌||◌, cond, if◌then◌else◌, List, [], ◌∷◌, ◌++◌, map, filter, refl, sym, ap, ◌∙◌}
use Rattle.std.specs.List.{list_any}
use Rattle.std.proofs.Math.Path.{fun_ext}
use Rattle.std.proofs.lemmas.List.{append-nil, append_assoc, map-append}
use Rattle.link_core.specs.Commons.{CommonItem, PieceItem, bss, commons_in, commons_of, items_of, outputs_by}
use Rattle.link_core.specs.Lists.{once}
use Rattle.link_core.specs.OutputNames.{Output, Piece, output_of, outputs_of, pieces_of, same_output}
use Rattle.link_core.specs.Planned.{Planned, pieces_in}
use Rattle.link_commons.specs.Rooms.{room_at, rooms_of}
use Rattle.link_tables.specs.declared.output.FilledOutput.{FilledOutput}
use Rattle.link_tables.specs.Filled.{filled, item_of, outputs_filled}
use Rattle.link_outputs.specs.Grouped.{Group, empty_group, group_of, grouped}
use Rattle.link_outputs.proofs.Grouping.{no_pieces}
use Rattle.link_outputs.proofs.Once.{any_once, once_more, other_way}
use Rattle.link_outputs.proofs.Outputs.{same_output_is, same_output_itself}
use Rattle.link_filled.specs.Fills.{all_filled, filled_by, is_none, piece_item, room_item, rooms_in}

-- ---- one output section

map_through : {X Y Z : Type 0} (f : Y → Z) (g : X → Y) (xs : List X) → map f (map g xs) ≡ map (λ x. f (g x)) xs
map_through f g [] = refl
map_through f g (x ∷ xs) = ap (λ ys. f (g x) ∷ ys) (map_through f g xs)

rooms_where : (j : Planned) (t : Bool) → map (item_of j) (map CommonItem (if t then commons_of j else [])) ≡ map room_item (if t then map (room_at j) (commons_of j) else [])
rooms_where j true =
    map_through (item_of j) CommonItem (commons_of j) ∙ sym (map_through room_item (room_at j) (commons_of j))
rooms_where j false = refl

items_are : (j : Planned) (output : Output) (pieces : List Piece)
    → map (item_of j) (map PieceItem pieces ++ map CommonItem (commons_in j output)) ≡ map piece_item pieces ++ map room_item (rooms_in (map (room_at j) (commons_of j)) output)
items_are j output pieces =
    map-append (item_of j) (map PieceItem pieces) (map CommonItem (commons_in j output))
    ∙ ap (λ items. items ++ map (item_of j) (map CommonItem (commons_in j output))) (map_through (item_of j) PieceItem pieces)
    ∙ ap (λ rooms. map piece_item pieces ++ rooms) (rooms_where j (same_output output bss))

filled_is : (j : Planned) (output : Output) → filled_by (rooms_of j) (group_of (pieces_in j) output) ≡ filled j output
unfolding filled_by filled items_of pieces_of rooms_of
filled_is j output = ap (λ items. record (filled_by (rooms_of j) (group_of (pieces_in j) output)) { items = items }) (sym (items_are j output (pieces_of (pieces_in j) output)))

-- ---- each output section once, and a .bss of common symbols last

same_either_way : (a b : Output) → same_output a b ≡ same_output b a
same_either_way a b = by (same_output a b) refl
  where
    by : (t : Bool) → same_output a b ≡ t → t ≡ same_output b a
    by true e = sym (same_output_itself a) ∙ ap (λ o. same_output o a) (same_output_is a b e)
    by false e = sym (other_way same_output same_output_is same_output_itself a b e)

abbrev other_than : Output → List Output → List Output
other_than o os = filter (λ p. not (same_output o p)) os

not_twice : (o p : Output) (os : List Output) → other_than o (other_than p os) ≡ other_than p (other_than o os)
not_twice o p [] = refl
not_twice o p (q ∷ os) = by (not (same_output o q)) (not (same_output p q)) refl refl (not_twice o p os)
  where
    by : (t u : Bool) → not (same_output o q) ≡ t → not (same_output p q) ≡ u → other_than o (other_than p os) ≡ other_than p (other_than o os)
        → other_than o (cond u (q ∷ other_than p os) (other_than p os)) ≡ other_than p (cond t (q ∷ other_than o os) (other_than o os))
    by true true e f rest =
        ap (λ t. cond t (q ∷ other_than o (other_than p os)) (other_than o (other_than p os))) e ∙ ap (λ rs. q ∷ rs) rest
        ∙ sym (ap (λ t. cond t (q ∷ other_than p (other_than o os)) (other_than p (other_than o os))) f)
    by true false e f rest = rest ∙ sym (ap (λ t. cond t (q ∷ other_than p (other_than o os)) (other_than p (other_than o os))) f)
    by false true e f rest = ap (λ t. cond t (q ∷ other_than o (other_than p os)) (other_than o (other_than p os))) e ∙ rest
    by false false e f rest = rest

left_out : (o : Output) (os : List Output) → other_than o (other_than o os) ≡ other_than o os
left_out o [] = refl
left_out o (q ∷ os) = by (not (same_output o q)) refl (left_out o os)
  where
    by : (t : Bool) → not (same_output o q) ≡ t → other_than o (other_than o os) ≡ other_than o os
        → other_than o (cond t (q ∷ other_than o os) (other_than o os)) ≡ cond t (q ∷ other_than o os) (other_than o os)
    by true e rest = ap (λ t. cond t (q ∷ other_than o (other_than o os)) (other_than o (other_than o os))) e ∙ ap (λ rs. q ∷ rs) rest
    by false e rest = rest

once_other : (o : Output) (os : List Output) → once same_output (other_than o os) ≡ other_than o (once same_output os)
once_other o [] = refl
once_other o (q ∷ os) = by (same_output o q) refl (once_other o os)
  where
    by : (t : Bool) → same_output o q ≡ t → once same_output (other_than o os) ≡ other_than o (once same_output os)
        → once same_output (cond (not t) (q ∷ other_than o os) (other_than o os)) ≡ cond (not t) (q ∷ other_than o (other_than q (once same_output os))) (other_than o (other_than q (once same_output os)))
    by true e rest = rest ∙ sym (left_out o (once same_output os)) ∙ ap (λ p. other_than o (other_than p (once same_output os))) (same_output_is o q e)
    by false e rest = ap (λ rs. q ∷ other_than q rs) rest ∙ ap (λ rs. q ∷ rs) (not_twice q o (once same_output os))

once_again : (os : List Output) → once same_output (once same_output os) ≡ once same_output os
once_again [] = refl
once_again (q ∷ os) =
    ap (λ rs. q ∷ other_than q rs) (once_other q (once same_output os) ∙ ap (other_than q) (once_again os))
    ∙ ap (λ rs. q ∷ rs) (left_out q (once same_output os))

abbrev with_bss : List Output → List Output
with_bss os = if list_any (same_output bss) os then os else os ++ bss ∷ []

has_last : (o : Output) (os : List Output) → list_any (same_output o) (os ++ o ∷ []) ≡ true
has_last o [] = ap (λ t. t || false) (same_output_itself o)
has_last o (q ∷ os) = ap (λ t. same_output o q || t) (has_last o os) ∙ either (same_output o q)
  where
    either : (t : Bool) → (t || true) ≡ true
    either true = refl
    either false = refl

-- more of what is there change nothing
absorbed : (os : List Output) (commons : List ℕ) → list_any (same_output bss) (once same_output os) ≡ true → once same_output (os ++ map (λ n. bss) commons) ≡ once same_output os
absorbed os [] has = ap (once same_output) (append-nil os)
absorbed os (n ∷ ns) has =
    let more : once same_output (os ++ bss ∷ []) ≡ once same_output os =
    once_more same_output same_output_is same_output_itself os bss ∙ ap (λ t. cond t (once same_output os) (once same_output os ++ bss ∷ [])) has in
    ap (once same_output) (sym (append_assoc os (bss ∷ []) (map (λ n. bss) ns)))
    ∙ absorbed (os ++ bss ∷ []) ns (ap (list_any (same_output bss)) more ∙ has)
    ∙ more

outputs_with : (os : List Output) (n : ℕ) (ns : List ℕ) → once same_output os ≡ os → once same_output (os ++ map (λ n. bss) (n ∷ ns)) ≡ with_bss os
outputs_with os n ns distinct =
    ap (once same_output) (sym (append_assoc os (bss ∷ []) (map (λ n. bss) ns)))
    ∙ absorbed (os ++ bss ∷ []) ns (any_once same_output same_output_is same_output_itself bss (os ++ bss ∷ []) ∙ has_last bss os)
    ∙ once_more same_output same_output_is same_output_itself os bss
    ∙ ap (λ ps. with_bss ps) distinct

outputs_without : (os : List Output) → once same_output os ≡ os → once same_output (os ++ []) ≡ os
outputs_without os distinct = ap (once same_output) (append-nil os) ∙ distinct

-- ---- all of them

any_group : (ps : List Piece) (os : List Output) → list_any (λ (g : Group). same_output g.output bss) (map (group_of ps) os) ≡ list_any (same_output bss) os
any_group ps [] = refl
any_group ps (o ∷ os) = λ i. same_either_way o bss i || any_group ps os i

outputs_once : (ps : List Piece) → once same_output (outputs_of ps) ≡ outputs_of ps
unfolding outputs_of
outputs_once ps = once_again (map output_of ps)

module _ (j : Planned) where
  abbrev os : List Output
  os = outputs_of (pieces_in j)

  abbrev rest_of : Bool → List FilledOutput
  rest_of there = if there then filled_by (rooms_of j) (empty_group bss) ∷ [] else []

  groups_filled : map (filled_by (rooms_of j)) (grouped (pieces_in j)) ≡ map (filled j) os
  unfolding grouped
  groups_filled = map_through (filled_by (rooms_of j)) (group_of (pieces_in j)) os ∙ ap (λ f. map f os) (fun_ext (filled_is j))

  bss_filled : list_any (same_output bss) os ≡ false → filled_by (rooms_of j) (empty_group bss) ≡ filled j bss
  bss_filled none = ap (λ pieces. filled_by (rooms_of j) (record { output = bss; pieces = pieces })) (sym (no_pieces (pieces_in j) bss none)) ∙ filled_is j bss

  by_commons : (commons : List ℕ) (t : Bool) → list_any (same_output bss) os ≡ t
      → map (filled j) os ++ rest_of (not (is_none (map (room_at j) commons)) && not t) ≡ map (filled j) (once same_output (os ++ map (λ n. bss) commons))
  by_commons [] t e = append-nil (map (filled j) os) ∙ sym (ap (map (filled j)) (outputs_without os (outputs_once (pieces_in j))))
  by_commons (n ∷ ns) true e =
      append-nil (map (filled j) os)
      ∙ sym (ap (map (filled j)) (outputs_with os n ns (outputs_once (pieces_in j)) ∙ ap (λ t. if t then os else os ++ bss ∷ []) e))
  by_commons (n ∷ ns) false e =
      ap (λ output. map (filled j) os ++ output ∷ []) (bss_filled e)
      ∙ sym (map-append (filled j) os (bss ∷ []))
      ∙ sym (ap (map (filled j)) (outputs_with os n ns (outputs_once (pieces_in j)) ∙ ap (λ t. if t then os else os ++ bss ∷ []) e))

  pub all_are : all_filled (rooms_of j) (grouped (pieces_in j)) ≡ outputs_filled j
  unfolding grouped outputs_by rooms_of
  all_are =
      ap (λ outputs. outputs ++ rest_of (not (is_none (rooms_of j)) && not (list_any (λ (g : Group). same_output g.output bss) (grouped (pieces_in j))))) groups_filled
      ∙ ap (λ t. map (filled j) os ++ rest_of (not (is_none (rooms_of j)) && not t)) (any_group (pieces_in j) os)
      ∙ by_commons (commons_of j) (list_any (same_output bss) os) refl
