-- The byte order of names.
use Rattle.std.proofs.Common.{◌≡◌, ℕ, Bool, true, false, not, ◌&&◌, List, refl, sym, ap, ◌∙◌, subst}
use Rattle.std.specs.declared.cmp.Ordering.{Ordering}
use Rattle.std.specs.declared.cmp.Ordering.TheVariants.{Less, Equal, Greater}
use Rattle.std.specs.Ordering.{nat_cmp, is_lt, is_eq, ordering_reverse}
use Rattle.std.specs.Cmp.Lexicographic.{slice_cmp, texts_ties, nat_list_cmp_total, nat_list_eq_equiv}
use Rattle.std.proofs.lemmas.Bool.{false≢true, not-true}
use Rattle.std.proofs.lemmas.Cmp.{tied_itself}
use Rattle.ifs_interface.specs.Triple.{same_name}
use Rattle.ifs_interface.specs.Interface.{comes_before}
use Rattle.ifs_interface.proofs.Names.{same_name-is, before_differs, before_trans, before_of_rest}

abbrev pub compared : List ℕ → List ℕ → Ordering
compared a b = slice_cmp nat_cmp a b

pub is_less : (o : Ordering) → is_lt o ≡ true → o ≡ Less
is_less Less h = refl
is_less Equal h = absurd (false≢true h)
is_less Greater h = absurd (false≢true h)

-- what the order says the other way round
back : (a b : List ℕ) → ordering_reverse (compared b a) ≡ compared a b
back a b = sym (nat_list_cmp_total.antisymm a b)

pub equal_itself : (a : List ℕ) → compared a a ≡ Equal
equal_itself a = tied_itself nat_list_cmp_total a

pub equal_is : (a b : List ℕ) → compared a b ≡ Equal → a ≡ b
equal_is a b h = same_name-is a b (texts_ties a b ∙ ap is_eq h)

pub greater_back : (a b : List ℕ) → compared a b ≡ Greater → comes_before b a ≡ true
greater_back a b h = ap is_lt (sym (back b a) ∙ ap ordering_reverse h)

-- a name that comes after another isn't the same
pub after_differs : (a b : List ℕ) → comes_before a b ≡ true → same_name b a ≡ false
after_differs a b h = nat_list_eq_equiv.symm b a ∙ before_differs a b h

-- what comes before a name comes before each that doesn't come before it
pub before_later : (n a b : List ℕ) → comes_before n a ≡ true → not (comes_before b a) ≡ true → comes_before n b ≡ true
before_later n a b h g = by (same_name b a) refl
  where
    by : (t : Bool) → same_name b a ≡ t → comes_before n b ≡ true
    by true e = subst (λ m. comes_before n m ≡ true) (sym (same_name-is b a e)) h
    by false e = before_trans n a b h (before_of_rest a b (not-true (comes_before b a) g) e)

pub equal_ties : (o : Ordering) → is_eq o ≡ (not (is_lt (ordering_reverse o)) && not (is_lt o))
equal_ties Less = refl
equal_ties Equal = refl
equal_ties Greater = refl

-- two names are the same where neither comes before the other
pub same_ties : (a b : List ℕ) → same_name a b ≡ (not (comes_before b a) && not (comes_before a b))
same_ties a b =
    texts_ties a b ∙ equal_ties (compared a b) ∙ ap (λ o. not (is_lt o) && not (is_lt (compared a b))) (back b a)
