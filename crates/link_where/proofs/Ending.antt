-- The sections of a layout, one after the other.
use Rattle.std.proofs.Common.{◌≡◌, ℕ, ◌+◌, ◌<◌, Bool, true, false, cond, List, [], ◌∷◌, ◌++◌, length, take, get_or, Option, Some, None, refl, sym, ap, ◌∙◌, filter, find}
use Rattle.std.specs.List.{last_or}
use Rattle.std.specs.Option.{option_map_or}
use Rattle.std.specs.Prelude.{option_map}
use Rattle.std.proofs.lemmas.List.{append-nil, take_more}
use Rattle.std.proofs.lemmas.List.Elements.{filter-append}
use Rattle.link_core.specs.declared.layout.OutSection.{OutSection}
use Rattle.link_core.specs.Places.{has_bytes, is_read, section_end}
use Rattle.link_where.specs.Ends.{and_section, first, has_code, is_zeroed, last_end, later, met}

last_is : {X : Type 0} (o : Option X) (xs : List X) (x : X) → last_or o (xs ++ x ∷ []) ≡ Some x
last_is o [] x = refl
last_is o (y ∷ ys) x = last_is (Some y) ys x

if_last : (test : OutSection → Bool) (xs : List OutSection) (x : OutSection) (t : Bool) → test x ≡ t
    → last_end test (xs ++ x ∷ []) ≡ later t (section_end x) (last_end test xs)
if_last test xs x true e =
    ap (λ ys. option_map_or section_end (last_or None ys) 0)
    (filter-append test xs (x ∷ []) ∙ ap (λ b. filter test xs ++ cond b (x ∷ []) []) e)
    ∙ ap (λ o. option_map_or section_end o 0) (last_is None (filter test xs) x)
if_last test xs x false e =
    ap (λ ys. option_map_or section_end (last_or None ys) 0)
    (filter-append test xs (x ∷ []) ∙ ap (λ b. filter test xs ++ cond b (x ∷ []) []) e ∙ append-nil (filter test xs))

first_is : (xs : List OutSection) (x : OutSection)
    → option_map (λ s. s.address) (find is_zeroed (xs ++ x ∷ [])) ≡ first (is_zeroed x) x.address (option_map (λ s. s.address) (find is_zeroed xs))
first_is [] x = at_last (is_zeroed x)
  where
    at_last : (t : Bool) → option_map (λ (s : OutSection). s.address) (cond t (Some x) None) ≡ first t x.address None
    at_last true = refl
    at_last false = refl
first_is (y ∷ ys) x = at_front (first_is ys x) (is_zeroed y)
  where
    at_front : option_map (λ (s : OutSection). s.address) (find is_zeroed (ys ++ x ∷ [])) ≡ first (is_zeroed x) x.address (option_map (λ (s : OutSection). s.address) (find is_zeroed ys))
        → (t : Bool) → option_map (λ (s : OutSection). s.address) (cond t (Some y) (find is_zeroed (ys ++ x ∷ []))) ≡ first (is_zeroed x) x.address (option_map (λ (s : OutSection). s.address) (cond t (Some y) (find is_zeroed ys)))
    at_front rest true = refl
    at_front rest false = rest

one_more : (xs : List OutSection) (x : OutSection) → met (xs ++ x ∷ []) ≡ and_section (met xs) x
unfolding met and_section
one_more xs x =
    ap (λ n. record (met (xs ++ x ∷ [])) { read = n }) (if_last is_read xs x (is_read x) refl)
    ∙ ap (λ n. record { read = later (is_read x) (section_end x) (last_end is_read xs); code = n; file = last_end has_bytes (xs ++ x ∷ []); zeros = option_map (λ s. s.address) (find is_zeroed (xs ++ x ∷ [])) }) (if_last has_code xs x (has_code x) refl)
    ∙ ap (λ n. record { read = later (is_read x) (section_end x) (last_end is_read xs); code = later (has_code x) (section_end x) (last_end has_code xs); file = n; zeros = option_map (λ s. s.address) (find is_zeroed (xs ++ x ∷ [])) }) (if_last has_bytes xs x (has_bytes x) refl)
    ∙ ap (λ n. record { read = later (is_read x) (section_end x) (last_end is_read xs); code = later (has_code x) (section_end x) (last_end has_code xs); file = later (has_bytes x) (section_end x) (last_end has_bytes xs); zeros = n }) (first_is xs x)

pub none_met : met [] ≡ record { read = 0; code = 0; file = 0; zeros = None }
unfolding met
none_met = refl

pub next_met : (xs : List OutSection) (i : ℕ) (x : OutSection) → i < length xs → x ≡ get_or xs i x → met (take (i + 1) xs) ≡ and_section (met (take i xs)) x
next_met xs i x h is = ap met (take_more xs i x h ∙ ap (λ y. take i xs ++ y ∷ []) (sym is)) ∙ one_more (take i xs) x
