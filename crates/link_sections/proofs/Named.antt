-- The names of .shstrtab are those of the sections and its own, and few.
use Rattle.std.proofs.Common.{◌≡◌, ◌≤◌, ◌+◌, ◌^◌, ℕ, suc, Bool, true, false, List, [], ◌∷◌, ◌++◌, length, map, take, zip, Result, Ok, refl, sym, ap, ◌∙◌, arith}
use Rattle.std.specs.Prelude.{codes, nat_le, sum_by}
use Rattle.std.proofs.lemmas.Bool.Decides.{nat_tests}
use Rattle.std.proofs.lemmas.List.{length-append, length-map, map-append}
use Rattle.std.proofs.lemmas.List.Sums.{sum_by-append, sum_by-cons}
use Rattle.ifs_bytes.specs.Outcome.{check, ◌>>=◌}
use Rattle.link_core.specs.declared.layout.Layout.{Layout}
use Rattle.link_core.specs.declared.layout.OutSection.{OutSection}
use Rattle.link_core.specs.declared.refusal.LinkRefusal.{LinkRefusal}
use Rattle.link_core.specs.declared.tables.TheConstants.{MOST_IMAGE_BYTES, MOST_OUTPUT_SECTIONS}
use Rattle.link_core.specs.Commons.{outputs_by}
use Rattle.link_core.specs.Contents.{Content, contents_of}
use Rattle.link_core.specs.Layout.{addresses_of, image_span, layout_by, layout_in, layout_of, names_size, section_from, section_names, too_large}
use Rattle.link_core.specs.Places.{is_table, table_position}
use Rattle.link_core.specs.Planned.{Planned}
use Rattle.link_core.specs.Strings.{string_place, string_table_size}
use Rattle.link_layout.specs.Laws.{IsLayoutOf}
use Rattle.link_layout.proofs.Pieces.{lengths}
use Rattle.link_layout.proofs.Within.{sections_are}
use Rattle.link_strings.specs.Named.{strings_of}
use Rattle.link_where.proofs.Tabled.{place_within}
use denote.Ref.{Bor}

one_less : (m n : ℕ) → suc m ≡ suc n → m ≡ n
one_less m n e = omega (arith, e)

zipped_names : (cs : List Content) (ats : List ℕ) → length ats ≡ length cs → map (λ s. s.name) (map section_from (zip cs ats)) ≡ map (λ c. c.name) cs
zipped_names [] [] e = refl
zipped_names [] (at ∷ ats) e = refl
zipped_names (c ∷ cs) [] e = cc
zipped_names (c ∷ cs) (at ∷ ats) e = ap (λ ns. c.name ∷ ns) (zipped_names cs ats (one_less (length ats) (length cs) e))

pub names_of : (j : Planned) (l : Layout) → IsLayoutOf j l → map (λ (s : OutSection). s.name) l.sections ≡ map (λ (c : Content). c.name) (contents_of j)
names_of j l made =
    sym (ap (λ (ss : List OutSection). map (λ (s : OutSection). s.name) ss) (sections_are j l made))
    ∙ zipped_names (contents_of j) (addresses_of j) (lengths j)

pub names_are : (j : Planned) (l : Layout) → IsLayoutOf j l → map (λ (s : OutSection). s.name) l.sections ++ codes ".shstrtab" ∷ [] ≡ section_names j
unfolding section_names
names_are j l made = ap (λ ns. ns ++ codes ".shstrtab" ∷ []) (names_of j l made)

pub as_many : (j : Planned) (l : Layout) → IsLayoutOf j l → length l.sections ≡ length (contents_of j)
as_many j l made =
    let names = ap length (names_of j l made) in
    let a = length-map l.sections (λ (s : OutSection). s.name) in
    let b = length-map (contents_of j) (λ (c : Content). c.name) in
    omega (arith, names, a, b)

-- ---- they are few

passed : (b : Bool) (e : LinkRefusal) (rest : Result Layout LinkRefusal) (l : Layout) → (check b e >>= (λ _. rest)) ≡ Ok l → (b ≡ true) × (rest ≡ Ok l)
passed true e rest l given = (refl, given)
passed false e rest l given = cc

within : (n : ℕ) → nat_le n MOST_IMAGE_BYTES ≡ true → n ≤ 2 ^ 28
within n e = grind (arith, nat_tests)

pub names_small : (j : Planned) (l : Layout) → IsLayoutOf j l → string_table_size (section_names j) ≤ 2 ^ 28
unfolding layout_of layout_in
names_small j l given =
    let third = check (nat_le (names_size j) MOST_IMAGE_BYTES) (too_large (names_size j)) >>= (λ _. Ok (layout_by j)) in
    let second = check (nat_le (length (outputs_by j)) MOST_OUTPUT_SECTIONS) (too_large (length (outputs_by j))) >>= (λ _. third) in
    let one = passed (nat_le (image_span j) MOST_IMAGE_BYTES) (too_large (image_span j)) second l given in
    let two = passed (nat_le (length (outputs_by j)) MOST_OUTPUT_SECTIONS) (too_large (length (outputs_by j))) third l one.1 in
    let three = passed (nat_le (names_size j) MOST_IMAGE_BYTES) (too_large (names_size j)) (Ok (layout_by j)) l two.1 in
    within (names_size j) three.0

many : (names : List (List ℕ)) → length names ≤ sum_by (λ name. length name + 1) names
many [] = omega arith
many (name ∷ names) =
    let rest = many names in
    let more = sum_by-cons (λ (n : List ℕ). length n + 1) name names in
    omega (arith, rest, more)

sized : (names : List (List ℕ)) → length names ≤ string_table_size names
unfolding string_table_size
sized names = omega (arith, many names)

pub count_is : (j : Planned) → length (section_names j) ≡ length (contents_of j) + 1
unfolding section_names
count_is j =
    let a = length-append (map (λ (c : Content). c.name) (contents_of j)) (codes ".shstrtab" ∷ []) in
    let b = length-map (contents_of j) (λ (c : Content). c.name) in
    omega (arith, a, b)

pub position_low : (j : Planned) (l : Layout) (name : List ℕ) → IsLayoutOf j l → table_position j name + 1 ≤ 2 ^ 28
unfolding table_position
position_low j l name made =
    let at = place_within (is_table name) (contents_of j) in
    let count = count_is j in
    let size = sized (section_names j) in
    let small = names_small j l made in
    omega (arith, at, count, size, small)

-- ---- the place of the last of them

take_front : (xs ys : List (List ℕ)) → take (length xs) (xs ++ ys) ≡ xs
take_front [] ys = refl
take_front (x ∷ xs) ys = ap (λ zs. x ∷ zs) (take_front xs ys)

one_name : (x : List ℕ) (xs : List (List ℕ)) → string_table_size (xs ++ x ∷ []) ≡ string_table_size xs + (length x + 1)
unfolding string_table_size
one_name x xs =
    let all = sum_by-append (λ (n : List ℕ). length n + 1) xs (x ∷ []) in
    omega (arith, all)

pub last_place : (j : Planned) → string_place (section_names j) (length (contents_of j)) + 10 ≡ string_table_size (section_names j)
unfolding string_place section_names
last_place j =
    let names = map (λ (c : Content). c.name) (contents_of j) in
    let long = length-map (contents_of j) (λ (c : Content). c.name) in
    let front = ap (λ n. string_table_size (take n (names ++ codes ".shstrtab" ∷ []))) (sym long) ∙ ap string_table_size (take_front names (codes ".shstrtab" ∷ [])) in
    let last = one_name (codes ".shstrtab") names in
    omega (arith, front, last)

pub number_low :
    (j : Planned) (l : Layout) (name : List ℕ) (n : ℕ) → IsLayoutOf j l → n ≡ table_position j name
    → n + 1 ≤ 2 ^ 28
number_low j l name n made at = let low = position_low j l name made in omega (arith, at, low)

pub named_by :
    (j : Planned) (l k : Layout) (sections : List OutSection) (first all last : List (Bor (List ℕ))) (x : Bor (List ℕ))
    → IsLayoutOf j l → first ≡ [] → k ≡ l → sections ≡ k.sections
    → strings_of all ≡ strings_of first ++ map (λ s. s.name) sections → last ≡ all ++ x ∷ [] → x.now ≡ codes ".shstrtab"
    → strings_of last ≡ section_names j
named_by j l k sections first all last x made none k_is sections_is put last_is x_is =
    ap strings_of last_is
    ∙ map-append (λ (n : Bor (List ℕ)). n.now) all (x ∷ [])
    ∙ (λ i. put i ++ x_is i ∷ [])
    ∙ ap (λ (f : List (Bor (List ℕ))). strings_of f ++ map (λ (s : OutSection). s.name) sections ++ codes ".shstrtab" ∷ []) none
    ∙ ap (λ (ss : List OutSection). map (λ (s : OutSection). s.name) ss ++ codes ".shstrtab" ∷ [])
    (sections_is ∙ ap (λ (m : Layout). m.sections) k_is)
    ∙ names_are j l made
