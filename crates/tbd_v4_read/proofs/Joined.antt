-- Lists that are put at the end of another, one after the other.
use Rattle.std.proofs.Common.{◌≡◌, List, ◌++◌, ap, ◌∙◌, append_assoc}

joined_two : {X : Type 0} (old a b one two : List X) → one ≡ old ++ a → two ≡ one ++ b → two ≡ old ++ (a ++ b)
joined_two old a b one two at_one at_two = at_two ∙ ap (λ xs. xs ++ b) at_one ∙ append_assoc old a b

pub joined_three : {X : Type 0} (old a b c one two three : List X) → one ≡ old ++ a → two ≡ one ++ b → three ≡ two ++ c → three ≡ old ++ (a ++ b ++ c)
joined_three old a b c one two three at_one at_two at_three =
    at_three ∙ ap (λ xs. xs ++ c) (joined_two old a b one two at_one at_two) ∙ append_assoc old (a ++ b) c

pub joined_four : {X : Type 0} (old a b c d one two three four : List X) → one ≡ old ++ a → two ≡ one ++ b → three ≡ two ++ c → four ≡ three ++ d → four ≡ old ++ (a ++ b ++ c ++ d)
joined_four old a b c d one two three four at_one at_two at_three at_four =
    at_four ∙ ap (λ xs. xs ++ d) (joined_three old a b c one two three at_one at_two at_three) ∙ append_assoc old (a ++ b ++ c) d
