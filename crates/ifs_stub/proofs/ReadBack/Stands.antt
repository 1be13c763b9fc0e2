-- Parts that stand at places of a file.
use Rattle.std.proofs.Common.{◌≡◌, ℕ, ◌+◌, ◌-◌, ◌*◌, ◌≤◌, List, [], ◌∷◌, ◌++◌, length, take, drop, map, refl, sym, ap, ◌∙◌, arith, append_assoc, length-append}
use Rattle.std.specs.List.{flat_map, range_with_len, slice_range}
use Rattle.std.proofs.lemmas.List.{append-nil}
use Rattle.ifs_stub.specs.Laws.{StandAt}
use Rattle.std.proofs.Math.Seq.{drop-append_seam, take-append_seam}

pub record Stands (file : List ℕ) (at : ℕ) (part : List ℕ) : Type 0 where
  pub before : List ℕ
  pub after : List ℕ
  pub is : file ≡ before ++ part ++ after
  pub place : length before ≡ at

-- ---- where parts stand

pub stands_last : (xs part : List ℕ) (at : ℕ) → length xs ≡ at → Stands (xs ++ part) at part
stands_last xs part at e = record { before = xs; after = []; is = sym (append-nil (xs ++ part)); place = e }

pub stands_more : (file part ys : List ℕ) (at : ℕ) → Stands file at part → Stands (file ++ ys) at part
stands_more file part ys at s = record {
  before = s.before;
  after = s.after ++ ys;
  is = ap (λ f. f ++ ys) s.is ∙ append_assoc (s.before ++ part) s.after ys;
  place = s.place;
}

pub stands_front : (file xs ys : List ℕ) (at : ℕ) → Stands file at (xs ++ ys) → Stands file at xs
stands_front file xs ys at s = record {
  before = s.before;
  after = ys ++ s.after;
  is = s.is ∙ ap (λ f. f ++ s.after) (sym (append_assoc s.before xs ys)) ∙ append_assoc (s.before ++ xs) ys s.after;
  place = s.place;
}

pub stands_back : (file xs ys : List ℕ) (at next : ℕ) → Stands file at (xs ++ ys) → at + length xs ≡ next → Stands file next ys
stands_back file xs ys at next s e = record {
  before = s.before ++ xs;
  after = s.after;
  is = s.is ∙ ap (λ f. f ++ s.after) (sym (append_assoc s.before xs ys));
  place = length-append s.before xs ∙ ap (λ n. n + length xs) s.place ∙ e;
}

-- ---- what is read there

pub stands_within : (file part : List ℕ) (at : ℕ) → Stands file at part → at + length part ≤ length file
stands_within file part at s =
    omega (arith, ap length s.is, length-append (s.before ++ part) s.after, length-append s.before part, s.place)

-- a part that stands at the front
pub stands_at_start : (file part : List ℕ) (s : Stands file 0 part) → file ≡ part ++ s.after
stands_at_start file part s = by s.before s.is s.place
  where
    by : (before : List ℕ) → file ≡ before ++ part ++ s.after → length before ≡ 0 → file ≡ part ++ s.after
    by [] is none = is
    by (b ∷ bs) is none = absurd (omega (arith, none))

pub stands_drop : (file part : List ℕ) (at : ℕ) (s : Stands file at part) → drop at file ≡ part ++ s.after
stands_drop file part at s =
    ap (drop at) s.is ∙ ap (λ n. drop n (s.before ++ part ++ s.after)) (sym s.place) ∙ ap (drop (length s.before)) (append_assoc s.before part s.after) ∙ drop-append_seam s.before (part ++ s.after)

pub stands_slice : (file part : List ℕ) (at size : ℕ) → length part ≡ size → Stands file at part → slice_range file at (at + size) ≡ part
stands_slice file part at size e s =
    let size_is : at + size - at ≡ length part = omega (arith, e) in
    ap (λ n. take n (drop at file)) size_is ∙ ap (take (length part)) (stands_drop file part at s) ∙ take-append_seam part s.after

pub stands_at : (file part : List ℕ) (at : ℕ) → Stands file at part → StandAt file at part
stands_at file part at s = stands_slice file part at (length part) refl s

-- each value has a place
abbrev pub EachFits : {X : Type 0} → (X → Type 0) → List X → Type 0
EachFits fits [] = Unit {0}
EachFits fits (x ∷ xs) = fits x × EachFits fits xs

-- values of one size that stand one after the other are read one after the other
module _ {X : Type 0} (read : List ℕ → ℕ → X) (bytes : X → List ℕ) (Fits : X → Type 0) (size : ℕ) (sizes : (x : X) → length (bytes x) ≡ size) (reads : (x : X) (before after : List ℕ) → Fits x → read (before ++ bytes x ++ after) (length before) ≡ x) where
  pub read_one : (file : List ℕ) (at : ℕ) (x : X) → Fits x → Stands file at (bytes x) → read file at ≡ x
  read_one file at x fits s =
      ap (λ f. read f at) s.is ∙ ap (read (s.before ++ bytes x ++ s.after)) (sym s.place) ∙ reads x s.before s.after fits

  pub read_each : (file : List ℕ) (from k : ℕ) (xs : List X) → EachFits Fits xs → Stands file (from + k * size) (flat_map bytes xs) → map (λ i. read file (from + i * size)) (range_with_len k (length xs)) ≡ xs
  read_each file from k [] fits s = refl
  read_each file from k (x ∷ xs) fits s =
      let front = stands_front file (bytes x) (flat_map bytes xs) (from + k * size) s in
      let next : from + k * size + length (bytes x) ≡ from + (k + 1) * size = omega (arith, sizes x) in
      let back = stands_back file (bytes x) (flat_map bytes xs) (from + k * size) (from + (k + 1) * size) s next in
      ap (λ y. y ∷ map (λ i. read file (from + i * size)) (range_with_len (k + 1) (length xs))) (read_one file (from + k * size) x fits.0 front)
      ∙ ap (λ ys. x ∷ ys) (read_each file from (k + 1) xs fits.1 back)
