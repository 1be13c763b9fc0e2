-- Keys of output sections are found where the output sections are.
use Rattle.std.proofs.Common.{◌≡◌, ℕ, zero, suc, ◌+◌, Bool, true, false, cond, not, ◌&&◌, ◌||◌, eqb, List, [], ◌∷◌, ◌++◌, map, refl, sym, ap, ◌∙◌, arith}
use Rattle.std.specs.List.{list_any, position_or_len}
use Rattle.std.proofs.lemmas.List.{map-append}
use denote.Ref.{Bor}
use Rattle.ifs_interface.specs.Triple.{same_name}
use Rattle.link_core.specs.OutputNames.{Output, Piece, output_of, same_output}
use Rattle.link_outputs.specs.Grouped.{Group, with_last, empty_group, with_piece, put_at, key_of, key_seen, AreKeysOf}
use Rattle.link_outputs.proofs.Outputs.{number_same}

abbrev Key : Type 0
Key = Bor (List ℕ) × ℕ

abbrev same_key : List ℕ × ℕ → List ℕ × ℕ → Bool
same_key k m = same_name k.0 m.0 && eqb k.1 m.1

pub any_seen : {X Y : Type 0} (p : Y → Bool) (f : X → Y) (xs : List X) → list_any (λ x. p (f x)) xs ≡ list_any p (map f xs)
any_seen p f [] = refl
any_seen p f (x ∷ xs) = ap (λ b. p (f x) || b) (any_seen p f xs)

place_seen : {X Y : Type 0} (p : Y → Bool) (f : X → Y) (xs : List X) → position_or_len (λ x. p (f x)) xs ≡ position_or_len p (map f xs)
place_seen p f [] = refl
place_seen p f (x ∷ xs) = ap (λ n. cond (not (p (f x))) (1 + n) 0) (place_seen p f xs)

is_own : (o : Output) (g : Group) → same_key (key_of o) (key_of g.output) ≡ same_output o g.output
is_own o g = ap (λ b. same_name o.name g.output.name && b) (number_same o.class g.output.class)

any_own : (o : Output) (gs : List Group) → list_any (λ g. same_key (key_of o) (key_of g.output)) gs ≡ list_any (λ g. same_output o g.output) gs
any_own o [] = refl
any_own o (g ∷ gs) = λ i. is_own o g i || any_own o gs i

place_own : (o : Output) (gs : List Group) → position_or_len (λ g. same_key (key_of o) (key_of g.output)) gs ≡ position_or_len (λ g. same_output o g.output) gs
place_own o [] = refl
place_own o (g ∷ gs) = λ i. cond (not (is_own o g i)) (1 + place_own o gs i) 0

-- ---- a key among keys

pub any_key : (o : Output) (gs : List Group) (ks : List Key) → AreKeysOf gs ks → list_any (λ k. same_key (key_of o) (key_seen k)) ks ≡ list_any (λ g. same_output o g.output) gs
any_key o gs ks e =
    any_seen (same_key (key_of o)) key_seen ks ∙ ap (list_any (same_key (key_of o))) e
    ∙ sym (any_seen (same_key (key_of o)) (λ g. key_of g.output) gs) ∙ any_own o gs

pub place_key : (o : Output) (gs : List Group) (ks : List Key) → AreKeysOf gs ks → position_or_len (λ k. same_key (key_of o) (key_seen k)) ks ≡ position_or_len (λ g. same_output o g.output) gs
place_key o gs ks e =
    place_seen (same_key (key_of o)) key_seen ks ∙ ap (position_or_len (same_key (key_of o))) e
    ∙ sym (place_seen (same_key (key_of o)) (λ g. key_of g.output) gs) ∙ place_own o gs

-- ---- one piece more

abbrev own_place : List Group → Output → ℕ
own_place gs o = position_or_len (λ g. same_output o g.output) gs

abbrev has_own : List Group → Output → Bool
has_own gs o = list_any (λ g. same_output o g.output) gs

-- the output section of a piece, put last where it isn't there
abbrev pub with_output : List Group → Output → List Group
with_output gs o = cond (not (has_own gs o)) (gs ++ empty_group o ∷ []) gs

pub put_own : (gs : List Group) (p : Piece) → put_at (with_output gs (output_of p)) (own_place gs (output_of p)) p ≡ with_piece gs p
put_own [] p = refl
put_own (g ∷ gs) p = by (same_output (output_of p) g.output) (put_own gs p)
  where
    o : Output
    o = output_of p

    later : (u : Bool) → cond (not u) (g ∷ (gs ++ empty_group o ∷ [])) (g ∷ gs) ≡ g ∷ cond (not u) (gs ++ empty_group o ∷ []) gs
    later true = refl
    later false = refl

    by : (t : Bool) → put_at (with_output gs o) (own_place gs o) p ≡ with_piece gs p
        → put_at (cond (not (t || has_own gs o)) (g ∷ (gs ++ empty_group o ∷ [])) (g ∷ gs)) (cond (not t) (1 + own_place gs o) 0) p ≡ cond t (with_last g p ∷ gs) (g ∷ with_piece gs p)
    by true rest = refl
    by false rest =
        let next : 1 + own_place gs o ≡ suc (own_place gs o) = omega arith in
        ap (λ n. put_at (cond (not (has_own gs o)) (g ∷ (gs ++ empty_group o ∷ [])) (g ∷ gs)) n p) next
        ∙ ap (λ all. put_at all (suc (own_place gs o)) p) (later (has_own gs o)) ∙ ap (λ all. g ∷ all) rest

-- ---- the keys after it

abbrev outputs_seen : List Group → List (List ℕ × ℕ)
outputs_seen gs = map (λ g. key_of g.output) gs

same_outputs : (gs : List Group) (p : Piece) (n : ℕ) → outputs_seen (put_at gs n p) ≡ outputs_seen gs
same_outputs [] p n = refl
same_outputs (g ∷ gs) p zero = refl
same_outputs (g ∷ gs) p (suc n) = ap (λ ks. key_of g.output ∷ ks) (same_outputs gs p n)

pub keys_more : (gs : List Group) (o : Output) (ks new : List Key) (k : Key) → key_seen k ≡ key_of o → AreKeysOf gs ks
    → new ≡ cond (has_own gs o) ks (ks ++ k ∷ []) → AreKeysOf (with_output gs o) new
keys_more gs o ks new k seen e made = ap (map key_seen) made ∙ by (has_own gs o)
  where
    by : (t : Bool) → map key_seen (cond t ks (ks ++ k ∷ [])) ≡ outputs_seen (cond (not t) (gs ++ empty_group o ∷ []) gs)
    by true = e
    by false =
        map-append key_seen ks (k ∷ []) ∙ (λ i. e i ++ seen i ∷ [])
        ∙ sym (map-append (λ g. key_of g.output) gs (empty_group o ∷ []))

-- ---- the steps of `add`

abbrev meets : Key → Key → Bool
meets k m = same_name k.0.now m.0.now && eqb k.1 m.1

module _ (gs : List Group) (p : Piece) (ks : List Key) (k : Key) (seen : key_seen k ≡ key_of (output_of p)) (are : AreKeysOf gs ks) where
  own_key : list_any (meets k) ks ≡ has_own gs (output_of p)
  own_key = ap (λ s. list_any (λ m. same_key s (key_seen m)) ks) seen ∙ any_key (output_of p) gs ks are

  mid_is : (is_new : Bool) (mid : List Group) → is_new ≡ not (list_any (meets k) ks) → mid ≡ cond is_new (gs ++ empty_group (output_of p) ∷ []) gs → mid ≡ with_output gs (output_of p)
  mid_is is_new mid says made =
      made ∙ ap (λ t. cond t (gs ++ empty_group (output_of p) ∷ []) gs) (says ∙ ap not own_key)

  place_is : (place : ℕ) → place ≡ position_or_len (meets k) ks → place ≡ own_place gs (output_of p)
  place_is place at =
      at ∙ ap (λ s. position_or_len (λ m. same_key s (key_seen m)) ks) seen ∙ place_key (output_of p) gs ks are

  pub add_groups : (is_new : Bool) (mid new : List Group) (place : ℕ) → is_new ≡ not (list_any (meets k) ks) → mid ≡ cond is_new (gs ++ empty_group (output_of p) ∷ []) gs → place ≡ position_or_len (meets k) ks → new ≡ put_at mid place p → new ≡ with_piece gs p
  add_groups is_new mid new place says made at put =
      put ∙ (λ i. put_at (mid_is is_new mid says made i) (place_is place at i) p) ∙ put_own gs p

  pub add_keys : (is_new : Bool) (mid new : List Group) (place : ℕ) (keys : List Key) → is_new ≡ not (list_any (meets k) ks) → mid ≡ cond is_new (gs ++ empty_group (output_of p) ∷ []) gs → new ≡ put_at mid place p
      → keys ≡ cond (list_any (meets k) ks) ks (ks ++ k ∷ []) → AreKeysOf new keys
  add_keys is_new mid new place keys says made put inserted =
      keys_more gs (output_of p) ks keys k seen are (inserted ∙ ap (λ t. cond t ks (ks ++ k ∷ [])) own_key)
      ∙ ap outputs_seen (sym (mid_is is_new mid says made)) ∙ sym (same_outputs mid p place) ∙ ap outputs_seen (sym put)
