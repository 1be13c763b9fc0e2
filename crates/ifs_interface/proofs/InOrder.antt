-- Names put in byte order, each once.
use Rattle.std.proofs.Common.{◌≡◌, ℕ, Bool, true, false, ◌||◌, List, [], ◌∷◌, refl, sym, ap, ◌∙◌, subst}
use Rattle.std.specs.List.{list_all, list_any}
use Rattle.std.specs.declared.cmp.Ordering.{Ordering}
use Rattle.std.specs.declared.cmp.Ordering.TheVariants.{Less, Equal, Greater}
use Rattle.std.specs.Ordering.{is_lt, match_ordering}
use Rattle.std.proofs.lemmas.Bool.{and_parts, and_from, true≢false, false≢true}
use Rattle.ifs_interface.specs.Triple.{same_name}
use Rattle.ifs_interface.specs.Interface.{comes_before, ascends}
use Rattle.ifs_interface.specs.Extracted.{insert_name, in_order}
use Rattle.ifs_interface.proofs.Names.{same_name-is, same_name-itself, before_trans}
use Rattle.ifs_interface.proofs.Repeats.{list_all-weaker}
use Rattle.ifs_interface.proofs.NameOrder.{compared, is_less, equal_itself, equal_is, greater_back, after_differs}
use Rattle.ifs_interface.proofs.Lists.{any_none}

-- a name of this order against the first of names, among these
abbrev placed : Ordering → List ℕ → List ℕ → List (List ℕ) → List (List ℕ)
placed o n m ms = match_ordering o (n ∷ m ∷ ms) (m ∷ ms) (m ∷ insert_name n ms)

-- ---- a test of all names

pub all_inserted : (p : List ℕ → Bool) (n : List ℕ) (ms : List (List ℕ)) → p n ≡ true → list_all p ms ≡ true → list_all p (insert_name n ms) ≡ true
all_inserted p n [] h g = and_from (p n) true h refl
all_inserted p n (m ∷ ms) h g =
    let parts = and_parts (p m) (list_all p ms) g in
    let rest = all_inserted p n ms h parts.1 in
    elim (compared n m) as (λ o. list_all p (placed o n m ms) ≡ true)
    [ Less ↦ and_from (p n) (list_all p (m ∷ ms)) h g | Equal ↦ g | Greater ↦ and_from (p m) (list_all p (insert_name n ms)) parts.0 rest ]

pub all_in_order : (p : List ℕ → Bool) (ns : List (List ℕ)) → list_all p ns ≡ true → list_all p (in_order ns) ≡ true
all_in_order p [] h = refl
all_in_order p (n ∷ ns) h =
    let parts = and_parts (p n) (list_all p ns) h in
    all_inserted p n (in_order ns) parts.0 (all_in_order p ns parts.1)

-- ---- where a name is put

-- a name before all others stands first
pub inserted_first : (n : List ℕ) (ms : List (List ℕ)) → list_all (comes_before n) ms ≡ true → insert_name n ms ≡ n ∷ ms
inserted_first n [] h = refl
inserted_first n (m ∷ ms) h =
    let parts = and_parts (comes_before n m) (list_all (comes_before n) ms) h in
    ap (λ o. placed o n m ms) (is_less (compared n m) parts.0)

pub inserted_again : (n : List ℕ) (ms : List (List ℕ)) → insert_name n (n ∷ ms) ≡ n ∷ ms
inserted_again n ms = ap (λ o. placed o n n ms) (equal_itself n)

-- ---- the order

-- a name that comes before the first of ascending names comes before all
all_after : (n m : List ℕ) (ms : List (List ℕ)) → comes_before n m ≡ true → list_all (comes_before m) ms ≡ true → list_all (comes_before n) (m ∷ ms) ≡ true
all_after n m ms h g =
    and_from (comes_before n m) (list_all (comes_before n) ms) h (list_all-weaker (comes_before m) (comes_before n) (λ k e. before_trans n m k h e) ms g)

ascends_placed : (n m : List ℕ) (ms : List (List ℕ)) → list_all (comes_before m) ms ≡ true → ascends ms ≡ true → ascends (insert_name n ms) ≡ true → (o : Ordering) → compared n m ≡ o → ascends (placed o n m ms) ≡ true
ascends_placed n m ms h g rest Less e =
    and_from (list_all (comes_before n) (m ∷ ms)) (ascends (m ∷ ms)) (all_after n m ms (ap is_lt e) h) (and_from (list_all (comes_before m) ms) (ascends ms) h g)
ascends_placed n m ms h g rest Equal e = and_from (list_all (comes_before m) ms) (ascends ms) h g
ascends_placed n m ms h g rest Greater e =
    and_from (list_all (comes_before m) (insert_name n ms)) (ascends (insert_name n ms)) (all_inserted (comes_before m) n ms (greater_back n m e) h) rest

ascends_inserted : (n : List ℕ) (ms : List (List ℕ)) → ascends ms ≡ true → ascends (insert_name n ms) ≡ true
ascends_inserted n [] h = refl
ascends_inserted n (m ∷ ms) h =
    let parts = and_parts (list_all (comes_before m) ms) (ascends ms) h in
    ascends_placed n m ms parts.0 parts.1 (ascends_inserted n ms parts.1) (compared n m) refl

pub in_order_ascends : (ns : List (List ℕ)) → ascends (in_order ns) ≡ true
in_order_ascends [] = refl
in_order_ascends (n ∷ ns) = ascends_inserted n (in_order ns) (in_order_ascends ns)

-- ---- which names stand there

-- whether the name stands among names
abbrev pub has : List ℕ → List (List ℕ) → Bool
has n ms = list_any (λ m. same_name m n) ms

or_twice : (a b : Bool) → (a || b) ≡ (a || (a || b))
or_twice true b = refl
or_twice false b = refl

or_swap : (a b c : Bool) → (b || (a || c)) ≡ (a || (b || c))
or_swap true true c = refl
or_swap true false c = refl
or_swap false true c = refl
or_swap false false c = refl

has_placed : (q n m : List ℕ) (ms : List (List ℕ)) → has q (insert_name n ms) ≡ (same_name n q || has q ms) → (o : Ordering) → compared n m ≡ o → has q (placed o n m ms) ≡ (same_name n q || (same_name m q || has q ms))
has_placed q n m ms rest Less e = refl
has_placed q n m ms rest Equal e =
    or_twice (same_name m q) (has q ms) ∙ ap (λ k. same_name k q || (same_name m q || has q ms)) (sym (equal_is n m e))
has_placed q n m ms rest Greater e =
    ap (λ t. same_name m q || t) rest ∙ or_swap (same_name n q) (same_name m q) (has q ms)

has_inserted : (q n : List ℕ) (ms : List (List ℕ)) → has q (insert_name n ms) ≡ (same_name n q || has q ms)
has_inserted q n [] = refl
has_inserted q n (m ∷ ms) = has_placed q n m ms (has_inserted q n ms) (compared n m) refl

pub has_in_order : (q : List ℕ) (ns : List (List ℕ)) → has q (in_order ns) ≡ has q ns
has_in_order q [] = refl
has_in_order q (n ∷ ns) = has_inserted q n (in_order ns) ∙ ap (λ t. same_name n q || t) (has_in_order q ns)

pub has_itself : (n : List ℕ) (ns : List (List ℕ)) → has n (n ∷ ns) ≡ true
has_itself n ns = ap (λ t. t || has n ns) (same_name-itself n)

has_no_earlier : (n : List ℕ) (ms : List (List ℕ)) → list_all (comes_before n) ms ≡ true → has n ms ≡ false
has_no_earlier n ms h = any_none (λ m. same_name m n) (comes_before n) (λ m e. after_differs n m e) ms h

-- the names behind the first of two lists that have the same names and the same first
has_behind : (q x : List ℕ) (xs ys : List (List ℕ)) → list_all (comes_before x) xs ≡ true → list_all (comes_before x) ys ≡ true → has q (x ∷ xs) ≡ has q (x ∷ ys) → (t : Bool) → same_name x q ≡ t → has q xs ≡ has q ys
has_behind q x xs ys f g h true e =
    let no_earlier : (zs : List (List ℕ)) → list_all (comes_before x) zs ≡ true → has q zs ≡ false = λ zs all. subst (λ n. has n zs ≡ false) (same_name-is x q e) (has_no_earlier x zs all) in
    no_earlier xs f ∙ sym (no_earlier ys g)
has_behind q x xs ys f g h false e =
    sym (ap (λ t. t || has q xs) e) ∙ h ∙ ap (λ t. t || has q ys) e

-- a list whose first name comes before that of another has more names
has_more : (x y : List ℕ) (xs ys : List (List ℕ)) → list_all (comes_before y) ys ≡ true → comes_before x y ≡ true → has x (x ∷ xs) ≡ has x (y ∷ ys) → ⊥
has_more x y xs ys g e h =
    true≢false (sym (has_itself x xs) ∙ h ∙ has_no_earlier x (y ∷ ys) (all_after x y ys e g))

abbrev SameNames : List (List ℕ) → List (List ℕ) → Type 0
SameNames xs ys = (q : List ℕ) → has q xs ≡ has q ys

by_order : (x y : List ℕ) (xs ys : List (List ℕ)) → list_all (comes_before x) xs ≡ true → list_all (comes_before y) ys ≡ true → SameNames (x ∷ xs) (y ∷ ys) → (SameNames xs ys → xs ≡ ys) → (o : Ordering) → compared x y ≡ o → (x ∷ xs) ≡ (y ∷ ys)
by_order x y xs ys f g h tails Less e = absurd (has_more x y xs ys g (ap is_lt e) (h x))
by_order x y xs ys f g h tails Equal e =
    let same : x ≡ y = equal_is x y e in
    let after : list_all (comes_before x) ys ≡ true = subst (λ n. list_all (comes_before n) ys ≡ true) (sym same) g in
    let both : SameNames (x ∷ xs) (x ∷ ys) = subst (λ n. SameNames (x ∷ xs) (n ∷ ys)) (sym same) h in
    let behind : xs ≡ ys = tails (λ q. has_behind q x xs ys f after (both q) (same_name x q) refl) in
    λ i. same i ∷ behind i
by_order x y xs ys f g h tails Greater e = absurd (has_more y x ys xs f (greater_back x y e) (sym (h y)))

-- ascending lists of the same names are equal
pub ascending_unique : (xs ys : List (List ℕ)) → ascends xs ≡ true → ascends ys ≡ true → SameNames xs ys → xs ≡ ys
ascending_unique [] [] f g h = refl
ascending_unique [] (y ∷ ys) f g h = absurd (false≢true (h y ∙ has_itself y ys))
ascending_unique (x ∷ xs) [] f g h = absurd (true≢false (sym (has_itself x xs) ∙ h x))
ascending_unique (x ∷ xs) (y ∷ ys) f g h =
    let front = and_parts (list_all (comes_before x) xs) (ascends xs) f in
    let other = and_parts (list_all (comes_before y) ys) (ascends ys) g in
    let tails : SameNames xs ys → xs ≡ ys = ascending_unique xs ys front.1 other.1 in
    by_order x y xs ys front.0 other.0 h tails (compared x y) refl
