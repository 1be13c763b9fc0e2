-- What several appends leave, one after another.
use Rattle.std.proofs.Common.{◌≡◌, ℕ, List, ◌++◌, ap, ◌∙◌, append_assoc}

pub two_joined : (o a b x y : List ℕ) → x ≡ o ++ a → y ≡ x ++ b → y ≡ o ++ (a ++ b)
two_joined o a b x y h g = g ∙ ap (λ t. t ++ b) h ∙ append_assoc o a b

pub three_joined : (o a b c d x y z : List ℕ) → x ≡ o ++ a → y ≡ x ++ b → z ≡ y ++ (c ++ d) → z ≡ o ++ (((a ++ b) ++ c) ++ d)
three_joined o a b c d x y z h g f = f ∙ ap (λ t. t ++ (c ++ d)) (g ∙ ap (λ t. t ++ b) h) ∙ simp append_assoc
