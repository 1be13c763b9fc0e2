-- Pieces and common symbols stand where the layout says.
use Rattle.std.proofs.Common.{◌≡◌, ℕ, ◌+◌, ◌≤◌, ◌^◌, List, [], ◌∷◌, ◌++◌, map, length, get_or, refl, ap, sym, ◌∙◌, arith, subst, append_assoc, suc, zero, Option, Some, None, Bool, true, false}
use Rattle.std.specs.List.{AllByRecursion, filter_map, flat_map, zip}
use Rattle.std.specs.Prelude.{codes, nat_le, sum_by}
use Rattle.std.proofs.lemmas.Bool.Decides.{nat_tests}
use Rattle.std.proofs.lemmas.List.{length-append, length-map}
use Rattle.std.proofs.lemmas.List.Sums.{sum_by-cons}
use Rattle.ifs_bytes.specs.Carried.{carried}
use Rattle.link_core.specs.declared.layout.CommonAt.{CommonAt}
use Rattle.link_core.specs.declared.layout.PieceAt.{PieceAt}
use Rattle.link_core.specs.declared.output.OutClass.{OutClass}
use Rattle.link_core.specs.Aligned.{aligned, end_from, places_from}
use Rattle.link_core.specs.Commons.{CommonItem, Item as Standing, PieceItem, item_align, item_size, items_of, outputs_by}
use Rattle.link_core.specs.Contents.{Content, contents_of, executed_contents, output_section, read_contents, thread_contents, thread_zeros, written_contents}
use Rattle.link_core.specs.Layout.{addresses_from, addresses_of, code_start, commons_at, contents_end, data_start, has_threads, item_places, names_size, output_address, output_position, pieces_at, read_start, section_names, tls_file_end, tls_start}
use Rattle.link_core.specs.OutputNames.{Output, same_class}
use Rattle.link_core.specs.Planned.{Planned}
use Rattle.link_core.specs.Strings.{string_table_size}
use Rattle.link_tables.specs.Capped.{capped}
use Rattle.link_tables.specs.Filled.{filled, item_of}
use Rattle.link_tables.proofs.Ends.{end_is_behind}
use Rattle.link_positions.specs.declared.next.Next.{Next}
use Rattle.link_positions.specs.Next.{at, behind, position}
use Rattle.link_positions.specs.Standing.{address_at, commons_from, commons_in, pieces_from, pieces_in}
use Rattle.link_layout.proofs.Found.{Found, first_of, found_at, fresh_in, of_class, position_at}
use Rattle.link_layout.proofs.Placed.{sections_of}
use Rattle.link_layout.proofs.Positions.{behind_at, count_behind, one_if}
use Rattle.link_layout.proofs.Sections.{length_of_places, section_from}
use Rattle.link_layout.proofs.Small.{IsWithin, code_small, data_small, none_first, none_second, read_small, thread_small, zeros_small}

-- ---- items of an output section

abbrev pub piece_from : ℕ → ℕ → Standing × ℕ → Option PieceAt
piece_from out address (PieceItem piece, place) =
    Some (record { object = piece.object; section = piece.section; out = out; address = address + place })
piece_from out address (CommonItem n, place) = None

abbrev pub common_from : ℕ → Standing × ℕ → Option CommonAt
common_from address (PieceItem piece, place) = None
common_from address (CommonItem n, place) = Some (record { name = n; address = address + place })

module _ (j : Planned) where
  place_small : (x : Standing) (place : ℕ) (items : List Standing) → end_from (item_align j) (item_size j) (place + item_size j x) items ≤ 2 ^ 40 → place + item_size j x ≤ 2 ^ 40
  place_small x place items small = omega (arith, small, end_is_behind (item_align j) (item_size j) (place + item_size j x) items)

  spot : (address place : ℕ) → address ≤ 2 ^ 40 → place ≤ 2 ^ 40 → carried (address + capped place) ≡ address + place
  spot address place one other = omega (arith, one, other)

  next_spot : (place size : ℕ) → place + size ≤ 2 ^ 40 → capped (capped place + size) ≡ place + size
  next_spot place size small = omega (arith, small)

  pub pieces_exact :
      (out address at : ℕ) (items : List Standing) → address ≤ 2 ^ 40 → end_from (item_align j) (item_size j) at items ≤ 2 ^ 40
      → pieces_from out address at (map (item_of j) items)
      ≡ filter_map (piece_from out address) (zip items (places_from (item_align j) (item_size j) at items))
  unfolding pieces_from places_from end_from
  pieces_exact out address at [] low small = refl
  pieces_exact out address at (PieceItem piece ∷ items) low small =
      let place = aligned (item_align j (PieceItem piece)) at in
      let both = place_small (PieceItem piece) place items small in
      let here = spot address place low (omega (arith, both)) in
      let next = next_spot place (item_size j (PieceItem piece)) both in
      let rest =
      ap (λ (n : ℕ). pieces_from out address n (map (item_of j) items)) next
      ∙ pieces_exact out address (place + item_size j (PieceItem piece)) items low small
      in
      λ i. record { object = piece.object; section = piece.section; out = out; address = here i } ∷ rest i
  pieces_exact out address at (CommonItem n ∷ items) low small =
      let place = aligned (item_align j (CommonItem n)) at in
      let both = place_small (CommonItem n) place items small in
      let next = next_spot place (item_size j (CommonItem n)) both in
      ap (λ (n : ℕ). pieces_from out address n (map (item_of j) items)) next
      ∙ pieces_exact out address (place + item_size j (CommonItem n)) items low small

  pub commons_exact :
      (address at : ℕ) (items : List Standing) → address ≤ 2 ^ 40 → end_from (item_align j) (item_size j) at items ≤ 2 ^ 40
      → commons_from address at (map (item_of j) items)
      ≡ filter_map (common_from address) (zip items (places_from (item_align j) (item_size j) at items))
  unfolding commons_from places_from end_from
  commons_exact address at [] low small = refl
  commons_exact address at (PieceItem piece ∷ items) low small =
      let place = aligned (item_align j (PieceItem piece)) at in
      let both = place_small (PieceItem piece) place items small in
      let next = next_spot place (item_size j (PieceItem piece)) both in
      ap (λ (n : ℕ). commons_from address n (map (item_of j) items)) next
      ∙ commons_exact address (place + item_size j (PieceItem piece)) items low small
  commons_exact address at (CommonItem n ∷ items) low small =
      let place = aligned (item_align j (CommonItem n)) at in
      let both = place_small (CommonItem n) place items small in
      let here = spot address place low (omega (arith, both)) in
      let next = next_spot place (item_size j (CommonItem n)) both in
      let rest =
      ap (λ (n : ℕ). commons_from address n (map (item_of j) items)) next
      ∙ commons_exact address (place + item_size j (CommonItem n)) items low small
      in
      λ i. record { name = n; address = here i } ∷ rest i

-- ---- all addresses and sizes are small

all_both : {X : Type 0} (P : X → Type 0) (xs ys : List X) → AllByRecursion P xs → AllByRecursion P ys → AllByRecursion P (xs ++ ys)
all_both P [] ys one other = other
all_both P (x ∷ xs) ys one other = (one.0, all_both P xs ys one.1 other)

all_at : {X : Type 0} (P : X → Type 0) (xs : List X) (y : X) (ys : List X) → AllByRecursion P (xs ++ y ∷ ys) → P y
all_at P [] y ys all = all.0
all_at P (x ∷ xs) y ys all = all_at P xs y ys all.1

abbrev IsSmall : Content → Type 0
IsSmall c = c.size ≤ 2 ^ 40

abbrev IsLow : ℕ → Type 0
IsLow a = a ≤ 2 ^ 40

record AreSmall (at : ℕ) (cs : List Content) : Type 0 where
  sizes : AllByRecursion IsSmall cs
  addresses : AllByRecursion IsLow (addresses_from at cs)

small_from : (at : ℕ) (cs : List Content) → contents_end at cs ≤ 2 ^ 40 → AreSmall at cs
unfolding places_from end_from
small_from at [] small = record { sizes = tt; addresses = tt }
small_from at (c ∷ cs) small =
    let place = aligned c.align at in
    let after = end_is_behind (λ (x : Content). x.align) (λ (x : Content). x.size) (place + c.size) cs in
    let rest = small_from (place + c.size) cs small in
    record {
      sizes = (omega (arith, after, small), rest.sizes);
      addresses = (omega (arith, after, small), rest.addresses);
    }

none_small : (at : ℕ) (cs : List Content) → cs ≡ [] → AreSmall at cs
unfolding places_from
none_small at cs none = let P : List Content → Type 0 = λ xs. AreSmall at xs in subst P (sym none) (record { sizes = tt; addresses = tt })

thread_are : (j : Planned) (b : Bool) → IsWithin j → has_threads j ≡ b → AreSmall (tls_start j) (thread_contents j)
thread_are j true within there = small_from (tls_start j) (thread_contents j) (thread_small j within there)
thread_are j false within there = none_small (tls_start j) (thread_contents j) (none_first (thread_contents j) (thread_zeros j) there)

zeros_are : (j : Planned) (b : Bool) → IsWithin j → has_threads j ≡ b → AreSmall (tls_file_end j) (thread_zeros j)
zeros_are j true within there = small_from (tls_file_end j) (thread_zeros j) (zeros_small j within there)
zeros_are j false within there = none_small (tls_file_end j) (thread_zeros j) (none_second (thread_contents j) (thread_zeros j) there)

sizes_small : (j : Planned) → IsWithin j → AllByRecursion IsSmall (contents_of j)
unfolding contents_of
sizes_small j within =
    let r = read_contents j in
    let x = executed_contents j in
    let t = thread_contents j in
    let z = thread_zeros j in
    let w = written_contents j in
    all_both IsSmall (r ++ x ++ t ++ z) w
    (all_both IsSmall (r ++ x ++ t) z
    (all_both IsSmall (r ++ x) t
    (all_both IsSmall r x (small_from (read_start j) r (read_small j within)).sizes (small_from (code_start j) x (code_small j within)).sizes)
    (thread_are j (has_threads j) within refl).sizes)
    (zeros_are j (has_threads j) within refl).sizes)
    (small_from (data_start j) w (data_small j within)).sizes

addresses_low : (j : Planned) → IsWithin j → AllByRecursion IsLow (addresses_of j)
unfolding addresses_of
addresses_low j within =
    let r = addresses_from (read_start j) (read_contents j) in
    let x = addresses_from (code_start j) (executed_contents j) in
    let t = addresses_from (tls_start j) (thread_contents j) in
    let z = addresses_from (tls_file_end j) (thread_zeros j) in
    let w = addresses_from (data_start j) (written_contents j) in
    all_both IsLow (r ++ x ++ t ++ z) w
    (all_both IsLow (r ++ x ++ t) z
    (all_both IsLow (r ++ x) t
    (all_both IsLow r x (small_from (read_start j) (read_contents j) (read_small j within)).addresses
    (small_from (code_start j) (executed_contents j) (code_small j within)).addresses)
    (thread_are j (has_threads j) within refl).addresses)
    (zeros_are j (has_threads j) within refl).addresses)
    (small_from (data_start j) (written_contents j) (data_small j within)).addresses

low_at : (ns : List ℕ) (n : ℕ) → AllByRecursion IsLow ns → get_or ns n 0 ≤ 2 ^ 40
low_at [] n low = omega arith
low_at (a ∷ ns) zero low = low.0
low_at (a ∷ ns) (suc n) low = low_at ns n low.1

address_low : (j : Planned) (o : Output) → IsWithin j → output_address j o ≤ 2 ^ 40
address_low j o within = low_at (addresses_of j) (output_position j o) (addresses_low j within)

size_small : (j : Planned) (o : Output) (n : ℕ) → Found j o n → IsWithin j → end_from (item_align j) (item_size j) 0 (items_of j o) ≤ 2 ^ 40
unfolding output_section
size_small j o n found within =
    let P : List Content → Type 0 = λ cs. AllByRecursion IsSmall cs in
    all_at IsSmall found.before (output_section j o) found.after (subst P found.split (sizes_small j within))

-- ---- addresses by position

address_is : (cs : List Content) (ns : List ℕ) (n : ℕ) → length ns ≡ length cs → address_at (map section_from (zip cs ns)) n ≡ get_or ns n 0
address_is [] [] n e = refl
address_is [] (a ∷ ns) n e = cc
address_is (c ∷ cs) [] n e = cc
address_is (c ∷ cs) (a ∷ ns) zero e = refl
address_is (c ∷ cs) (a ∷ ns) (suc n) e = let k : length ns ≡ length cs = omega (arith, e) in address_is cs ns n k

pub lengths : (j : Planned) → length (addresses_of j) ≡ length (contents_of j)
unfolding addresses_of contents_of
lengths j =
    let r = length_of_places (read_start j) (read_contents j) in
    let x = length_of_places (code_start j) (executed_contents j) in
    let t = length_of_places (tls_start j) (thread_contents j) in
    let z = length_of_places (tls_file_end j) (thread_zeros j) in
    let w = length_of_places (data_start j) (written_contents j) in
    simp length-append (omega (arith, r, x, t, z, w))

-- ---- how many sections there are

abbrev pub IsNamed : Planned → Type 0
IsNamed j = nat_le (names_size j) 268435456 ≡ true

as_many : (names : List (List ℕ)) → length names ≤ sum_by (λ name. length name + 1) names
as_many [] = omega arith
as_many (n ∷ names) = omega (arith, as_many names, sum_by-cons (λ (name : List ℕ). length name + 1) n names)

few_by : (n m : ℕ) → nat_le n 268435456 ≡ true → m ≤ n → m ≤ 268435456
few_by n m named less = grind (arith, nat_tests)

few : (j : Planned) → IsNamed j → length (contents_of j) ≤ 268435456
unfolding section_names string_table_size
few j named =
    let names = map (λ c. c.name) (contents_of j) ++ codes ".shstrtab" ∷ [] in
    let many = as_many names in
    let all = length-append (map (λ (c : Content). c.name) (contents_of j)) (codes ".shstrtab" ∷ []) in
    let cs = length-map (contents_of j) (λ (c : Content). c.name) in
    few_by (1 + sum_by (λ (name : List ℕ). length name + 1) names) (length (contents_of j)) named (omega (arith, many, all, cs))

position_small : (j : Planned) (o : Output) (n : ℕ) → Found j o n → IsNamed j → position n ≡ n
position_small j o n found named =
    let all = ap (λ (cs : List Content). length cs) found.split in
    let parts = length-append found.before (output_section j o ∷ found.after) in
    omega (arith, all, parts, found.place, few j named)

-- ---- output section by output section

abbrev Counts : Planned → List Output → Next → Type 0
Counts j before next = (class : OutClass) → at next class ≡ position (length (first_of class j) + length (of_class class before))

counts_on : (j : Planned) (before : List Output) (o : Output) (next : Next) → Counts j before next → Counts j (before ++ o ∷ []) (behind next o.class)
counts_on j before o next counts class =
    let first = length (first_of class j) in
    let sum : first + length (of_class class before) + one_if (same_class o.class class) ≡ first + length (of_class class (before ++ o ∷ [])) = omega (arith, count_behind class before o) in
    behind_at next o.class class (first + length (of_class class before)) (counts class) ∙ ap position sum

record IsAt (j : Planned) (o : Output) (next : Next) : Type 0 where
  out : at next o.class ≡ output_position j o
  address : address_at (sections_of j) (at next o.class) ≡ output_address j o
  small : end_from (item_align j) (item_size j) 0 (items_of j o) ≤ 2 ^ 40

stands : (j : Planned) (before rest : List Output) (o : Output) (next : Next) → IsWithin j → IsNamed j → outputs_by j ≡ before ++ o ∷ rest → Counts j before next → IsAt j o next
stands j before rest o next within named outputs counts =
    let found = found_at j before rest o outputs (fresh_in j before rest o outputs) in
    let n = length (first_of o.class j) + length (of_class o.class before) in
    let out = counts o.class ∙ position_small j o n found named ∙ sym (position_at j before rest o outputs) in
    record {
      out = out;
      address = ap (address_at (sections_of j)) out ∙ address_is (contents_of j) (addresses_of j) (output_position j o) (lengths j);
      small = size_small j o n found within;
    }

pieces_here : (j : Planned) (o : Output) (next : Next) → IsWithin j → IsAt j o next → pieces_from (at next o.class) (address_at (sections_of j) (at next o.class)) 0 (map (item_of j) (items_of j o)) ≡ pieces_at j o
unfolding pieces_at item_places
pieces_here j o next within is =
    (λ i. pieces_from (is.out i) (is.address i) 0 (map (item_of j) (items_of j o)))
    ∙ pieces_exact j (output_position j o) (output_address j o) 0 (items_of j o) (address_low j o within) is.small

commons_here : (j : Planned) (o : Output) (next : Next) → IsWithin j → IsAt j o next → commons_from (address_at (sections_of j) (at next o.class)) 0 (map (item_of j) (items_of j o)) ≡ commons_at j o
unfolding commons_at item_places
commons_here j o next within is =
    (λ i. commons_from (is.address i) 0 (map (item_of j) (items_of j o)))
    ∙ commons_exact j (output_address j o) 0 (items_of j o) (address_low j o within) is.small

pub further : (j : Planned) (before rest : List Output) (o : Output) → outputs_by j ≡ before ++ o ∷ rest → outputs_by j ≡ (before ++ o ∷ []) ++ rest
further j before rest o outputs = outputs ∙ sym (append_assoc before (o ∷ []) rest)

pub pieces_are : (j : Planned) (before rest : List Output) (next : Next) → IsWithin j → IsNamed j → outputs_by j ≡ before ++ rest → Counts j before next → pieces_in (sections_of j) next (map (filled j) rest) ≡ flat_map (pieces_at j) rest
unfolding pieces_in filled
pieces_are j before [] next within named outputs counts = refl
pieces_are j before (o ∷ rest) next within named outputs counts =
    let here = pieces_here j o next within (stands j before rest o next within named outputs counts) in
    let more = pieces_are j (before ++ o ∷ []) rest (behind next o.class) within named (further j before rest o outputs) (counts_on j before o next counts) in
    λ i. here i ++ more i

pub commons_are : (j : Planned) (before rest : List Output) (next : Next) → IsWithin j → IsNamed j → outputs_by j ≡ before ++ rest → Counts j before next → commons_in (sections_of j) next (map (filled j) rest) ≡ flat_map (commons_at j) rest
unfolding commons_in filled
commons_are j before [] next within named outputs counts = refl
commons_are j before (o ∷ rest) next within named outputs counts =
    let here = commons_here j o next within (stands j before rest o next within named outputs counts) in
    let more = commons_are j (before ++ o ∷ []) rest (behind next o.class) within named (further j before rest o outputs) (counts_on j before o next counts) in
    λ i. here i ++ more i
