-- The steps by which a pattern is read.
use Rattle.std.proofs.Common.{◌≡◌, ℕ, zero, suc, ◌+◌, ◌-◌, ◌<◌, ◌≤◌, List, [], ◌∷◌, ◌++◌, take, drop, length, get_or, length-drop, Option, Some, None, refl, sym, ap, ◌∙◌, append_assoc, arith}
use Rattle.std.specs.Prelude.{Result, Ok, Err}
use Rattle.std.proofs.lemmas.List.{take_all}
use Rattle.ifs_edit.specs.declared.element.Span.{Span}
use Rattle.ifs_edit.specs.declared.element.Element.{Element}
use Rattle.ifs_edit.specs.Elements.{Set, Front, before_all, element_at, element_then, elements_from}

-- ---- the elements of a pattern

-- bytes that are passed
pub elements_passed : (at k : ℕ) (bytes : List ℕ) → elements_from at k bytes ≡ elements_from (at + length bytes - length (drop k bytes)) 0 (drop k bytes)
elements_passed at zero bytes = let same : at ≡ at + length bytes - length bytes = omega arith in ap (λ n. elements_from n 0 bytes) same
elements_passed at (suc k) [] = refl
elements_passed at (suc k) (b ∷ bs) =
    let same : at + 1 + length bs - length (drop k bs) ≡ at + length (b ∷ bs) - length (drop k bs) = omega arith in
    elements_passed (at + 1) k bs ∙ ap (λ n. elements_from n 0 (drop k bs)) same

-- what was read, before what is left
abbrev pub behind_done : List Element → Result (List Element) ℕ → Result (List Element) ℕ
behind_done done (Ok es) = Ok (done ++ es)
behind_done done (Err at) = Err at

one_more : (done : List Element) (e : Element) (left : Result (List Element) ℕ) → behind_done done (before_all e left) ≡ behind_done (done ++ e ∷ []) left
one_more done e (Ok es) = ap (λ all. Ok all) (sym (append_assoc done (e ∷ []) es))
one_more done e (Err at) = refl

-- ---- the items of a set

-- the same, with more bytes and items before
abbrev pub grown : List Span → ℕ → Option Set → Option Set
grown done size None = None
grown done size (Some set) = Some (done ++ set.0, size + set.1)

-- a byte at the front, and the bytes behind it
tail_is : (b : ℕ) (bs : List ℕ) → take (length (b ∷ bs) - 1) (drop 1 (b ∷ bs)) ≡ bs
tail_is b bs = take_all (length (b ∷ bs) - 1) bs (omega arith)

-- an element was read, and the bytes behind it are left
pub elements_more : (pattern rest left after : List ℕ) (done : List Element) (o : Option Front) (front : Front) → length rest ≤ length pattern → 1 ≤ length rest → after ≡ take (length rest - 1) (drop 1 rest) → o ≡ element_at (get_or rest 0 0) after → o ≡ Some front → left ≡ drop front.1 after → elements_from 0 0 pattern ≡ behind_done done (elements_from (length pattern - length rest) 0 rest) → elements_from 0 0 pattern ≡ behind_done (done ++ front.0 ∷ []) (elements_from (length pattern - length left) 0 left)
elements_more pattern [] left after done o front within some after_is o_is some_is left_is so_far = absurd (omega arith)
elements_more pattern (b ∷ bs) left after done o front within some after_is o_is some_is left_is so_far =
    let at = length pattern - length (b ∷ bs) in
    let more = front.1 in
    let behind : after ≡ bs = after_is ∙ tail_is b bs in
    let front_is : element_at b bs ≡ Some front = ap (element_at b) (sym behind) ∙ sym o_is ∙ some_is in
    let place : at + 1 + length bs - length (drop more bs) ≡ length pattern - length (drop more bs) = omega arith in
    let left' : left ≡ drop more bs = left_is ∙ ap (drop more) behind in
    so_far
    ∙ ap (λ f. behind_done done (element_then at f (λ k. elements_from (at + 1) k bs))) front_is
    ∙ one_more done front.0 (elements_from (at + 1) more bs)
    ∙ ap (behind_done (done ++ front.0 ∷ [])) (elements_passed (at + 1) more bs ∙ ap (λ n. elements_from n 0 (drop more bs)) place)
    ∙ ap (λ bytes. behind_done (done ++ front.0 ∷ []) (elements_from (length pattern - length bytes) 0 bytes)) (sym left')

pub left_within : (pattern rest left after : List ℕ) (k : ℕ) → length rest ≤ length pattern → 1 ≤ length rest → after ≡ take (length rest - 1) (drop 1 rest) → left ≡ drop k after → length left < length rest
left_within pattern [] left after k within some after_is left_is = absurd (omega arith)
left_within pattern (b ∷ bs) left after k within some after_is left_is =
    let size = ap length (left_is ∙ ap (drop k) (after_is ∙ tail_is b bs)) ∙ length-drop k bs in
    omega (arith, size)
