-- Ends and multiples in 128 bits are those of whole numbers, in 128 bits.
use Rattle.std.proofs.Common.{◌≡◌, ℕ, ◌+◌, ◌≤◌, max, List, [], ◌∷◌, ◌++◌, map, refl, ap, sym, ◌∙◌, arith}
use Rattle.std.specs.Prelude.{fold}
use Rattle.std.proofs.lemmas.List.Sums.{fold-append}
use Rattle.link_core.specs.Aligned.{aligned, end_from, greatest_align}
use Rattle.link_core.specs.Contents.{Content}
use Rattle.link_core.specs.Layout.{contents_end}
use Rattle.link_tables.specs.declared.section.Section.{Section}
use Rattle.link_tables.specs.Capped.{capped}
use Rattle.link_tables.specs.Sections.{shown}
use Rattle.link_tables.proofs.Ends.{end_from_capped}
use Rattle.link_places.specs.Bounds.{end_of}

no_more : (n : ℕ) → capped (n + 0) ≡ capped n
no_more n = omega arith

-- an end of one thing without a size is a multiple
pub aligned_capped : (align at : ℕ) → capped (aligned align (capped at)) ≡ capped (aligned align at)
unfolding end_from
aligned_capped align at =
    let both : capped (aligned align (capped at) + 0) ≡ capped (aligned align at + 0) = end_from_capped (λ (x : ℕ). align) (λ (x : ℕ). 0) at (0 ∷ []) in
    sym (no_more (aligned align (capped at))) ∙ both ∙ no_more (aligned align at)

sum_capped : (a b : ℕ) → capped (a + capped b) ≡ capped (a + b)
sum_capped a b = omega arith

pub end_shown : (at : ℕ) (cs : List Content) → end_of at (map shown cs) ≡ capped (contents_end at cs)
unfolding end_from
end_shown at [] = refl
end_shown at (c ∷ cs) =
    let place = aligned c.align at in
    let E : ℕ → ℕ = λ n. capped (contents_end n cs) in
    end_shown (place + capped c.size) cs
    ∙ sym (end_from_capped (λ (x : Content). x.align) (λ (x : Content). x.size) (place + capped c.size) cs)
    ∙ ap (λ (n : ℕ). capped (contents_end n cs)) (sum_capped place c.size)
    ∙ end_from_capped (λ (x : Content). x.align) (λ (x : Content). x.size) (place + c.size) cs

pub end_is : (at : ℕ) (cs : List Content) → end_of (capped at) (map shown cs) ≡ capped (contents_end at cs)
end_is at cs = end_from_capped (λ (s : Section). s.align) (λ (s : Section). s.size) at (map shown cs) ∙ end_shown at cs

pub greatest_shown : (a : ℕ) (cs : List Content) → fold (λ a s. max a s.align) a (map shown cs) ≡ fold (λ a c. max a c.align) a cs
greatest_shown a [] = refl
greatest_shown a (c ∷ cs) = greatest_shown (max a c.align) cs

greatest_from : (a : ℕ) (cs : List Content) → 1 ≤ a → fold (λ a c. max a c.align) a cs ≡ max a (fold (λ a c. max a c.align) 1 cs)
greatest_from a [] some = omega (arith, some)
greatest_from a (c ∷ cs) some =
    let one : 1 ≤ max a c.align = omega (arith, some) in
    let other : 1 ≤ max 1 c.align = omega arith in
    let x = greatest_from (max a c.align) cs one in
    let y = greatest_from (max 1 c.align) cs other in
    omega (arith, x, y, some)

greatest_some : (a : ℕ) (cs : List Content) → 1 ≤ a → 1 ≤ fold (λ a c. max a c.align) a cs
greatest_some a [] some = some
greatest_some a (c ∷ cs) some = let more : 1 ≤ max a c.align = omega (arith, some) in greatest_some (max a c.align) cs more

pub greatest_of_both :
    (xs ys : List Content) → max (greatest_align (λ s. s.align) (map shown xs)) (greatest_align (λ s. s.align) (map shown ys)) ≡ greatest_align (λ c. c.align) (xs ++ ys)
greatest_of_both xs ys =
    let f : ℕ → Content → ℕ = λ a c. max a c.align in
    (λ i. max (greatest_shown 1 xs i) (greatest_shown 1 ys i))
    ∙ sym (greatest_from (fold f 1 xs) ys (greatest_some 1 xs (omega arith)))
    ∙ sym (fold-append f 1 xs ys)
