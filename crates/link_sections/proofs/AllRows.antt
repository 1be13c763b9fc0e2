-- All rows of the section header table.
use Rattle.std.proofs.Common.{◌≡◌, ◌<◌, ◌+◌, ◌-◌, ◌^◌, ℕ, zero, suc, List, [], ◌∷◌, ◌++◌, length, map, zip, Some, Result, Ok, Err, refl, sym, ap, ◌∙◌, arith}
use Rattle.std.specs.List.{enumerate_from, range_with_len}
use Rattle.std.specs.Prelude.{OnOk, slice_get}
use Rattle.std.proofs.lemmas.List.{append-nil, append_assoc, length-map}
use Rattle.std.proofs.lemmas.List.Concat.{flat_map-append}
use Rattle.ifs_bytes.specs.Places.{places}
use Rattle.elf_file.specs.declared.section.SectionHeader.{SectionHeader}
use Rattle.link_core.specs.declared.layout.Layout.{Layout}
use Rattle.link_core.specs.declared.layout.OutSection.{OutSection}
use Rattle.link_core.specs.Contents.{Content, contents_of}
use Rattle.link_core.specs.Headers.{names_section, null_section, offset_of, section_header, section_header_bytes, section_headers}
use Rattle.link_core.specs.Layout.{section_names}
use Rattle.link_core.specs.Places.{numbered}
use Rattle.link_core.specs.Planned.{Planned}
use Rattle.link_core.specs.Strings.{string_place, string_table_size}
use Rattle.link_layout.specs.Laws.{IsLayoutOf}
use Rattle.link_strings.specs.Named.{strings_of}
use Rattle.link_sections.specs.Rows.{all_bytes, entry_size, info_of, linked_to, name_in, names_row, number_of, row_bytes, row_in, rows_bytes}
use Rattle.link_sections.proofs.Alone.{content_says, table_is}
use Rattle.link_sections.proofs.Named.{as_many, count_is, last_place, names_small}
use denote.Ref.{Bor}

-- ---- the places of names

place_at : (f : ℕ → ℕ) (k n i : ℕ) → i < n → name_in (map f (range_with_len k n)) i ≡ f (k + i)
place_at f k zero i low = absurd (omega (arith, low))
place_at f k (suc n) zero low = ap f (omega arith)
place_at f k (suc n) (suc i) low = place_at f (k + 1) n i (omega (arith, low)) ∙ ap f (omega arith)

from_none : (i : ℕ) → 0 + i ≡ i
from_none i = omega arith

none_less : (n : ℕ) → n - 0 ≡ n
none_less n = omega arith

place_is : (names : List (List ℕ)) (i : ℕ) → i < length names → name_in (map (string_place names) (places 0 (length names))) i ≡ string_place names i
place_is names i low =
    ap (λ n. name_in (map (string_place names) (range_with_len 0 n)) i) (none_less (length names))
    ∙ place_at (string_place names) 0 (length names) i low
    ∙ ap (string_place names) (from_none i)

-- ---- row by row

below : {X : Type 0} (xs : List X) (i : ℕ) (x : X) → slice_get xs i ≡ Some x → i < length xs
below [] i x e = cc
below (y ∷ ys) zero x e = omega arith
below (y ∷ ys) (suc i) x e = let rest = below ys i x e in omega (arith, rest)

one_row :
    (j : Planned) (starts : List ℕ) (i : ℕ) (c : Content) (s : OutSection) → name_in starts i ≡ string_place (section_names j) i
    → slice_get (contents_of j) i ≡ Some c → row_in starts j (i, s) ≡ section_header j (i, c, s)
one_row j starts i c s at there =
    let says = content_says j i c there in
    let is = table_is j i c there in
    let link = ap (λ t. number_of j (linked_to t)) is ∙ says.link in
    let info = ap info_of is ∙ says.info in
    let entsize = ap entry_size is ∙ says.entsize in
    λ k. record {
      name = at k;
      kind = s.kind;
      flags = s.flags;
      addr = s.address;
      offset = offset_of j s.address;
      size = s.size;
      link = link k;
      info = info k;
      align = s.align;
      entsize = entsize k;
    }

one_less : (m n : ℕ) → suc m ≡ suc n → m ≡ n
one_less m n e = omega (arith, e)

module _ (f : ℕ × OutSection → SectionHeader) (g : ℕ × Content × OutSection → SectionHeader) where
  zipped : (k : ℕ) (cs : List Content) (ss : List OutSection) → length ss ≡ length cs
      → ((i : ℕ) (c : Content) (s : OutSection) → slice_get cs i ≡ Some c → f (k + i, s) ≡ g (k + i, c, s))
      → map f (enumerate_from k ss) ≡ map g (map (λ e. (e.0, e.1.0, e.1.1)) (enumerate_from k (zip cs ss)))
  zipped k [] [] long each = refl
  zipped k [] (s ∷ ss) long each = cc
  zipped k (c ∷ cs) [] long each = cc
  zipped k (c ∷ cs) (s ∷ ss) long each =
      let same : k + 0 ≡ k = omega arith in
      let first : f (k, s) ≡ g (k, c, s) = sym (ap (λ n. f (n, s)) same) ∙ each 0 c s refl ∙ ap (λ n. g (n, c, s)) same in
      let later : (i : ℕ) (d : Content) (t : OutSection) → slice_get cs i ≡ Some d → f (k + 1 + i, t) ≡ g (k + 1 + i, d, t) =
      λ i d t e. sym (ap (λ n. f (n, t)) (next i)) ∙ each (suc i) d t e ∙ ap (λ n. g (n, d, t)) (next i) in
      let rest = zipped (k + 1) cs ss (one_less (length ss) (length cs) long) later in
      λ i. first i ∷ rest i
    where
      next : (i : ℕ) → k + suc i ≡ k + 1 + i
      next i = omega arith

rows_are :
    (j : Planned) (l : Layout) (starts : List ℕ) → IsLayoutOf j l
    → ((i : ℕ) → i < length (section_names j) → name_in starts i ≡ string_place (section_names j) i)
    → map (row_in starts j) (enumerate_from 0 l.sections) ≡ map (section_header j) (numbered (contents_of j) l.sections)
unfolding numbered
rows_are j l starts made places_are =
    zipped (row_in starts j) (section_header j) 0 (contents_of j) l.sections (as_many j l made)
    (λ i c s there. one_row j starts (0 + i) c s (places_are (0 + i) (low i c there)) (at i c there))
  where
    low : (i : ℕ) (c : Content) → slice_get (contents_of j) i ≡ Some c → 0 + i < length (section_names j)
    low i c there =
        let within = below (contents_of j) i c there in
        omega (arith, within, count_is j)

    at : (i : ℕ) (c : Content) → slice_get (contents_of j) i ≡ Some c → slice_get (contents_of j) (0 + i) ≡ Some c
    at i c there = ap (slice_get (contents_of j)) (from_none i) ∙ there

last_is :
    (j : Planned) (l : Layout) (starts : List ℕ) → IsLayoutOf j l
    → ((i : ℕ) → i < length (section_names j) → name_in starts i ≡ string_place (section_names j) i)
    → names_row starts j l ≡ names_section j l
last_is j l starts made places_are =
    let count = as_many j l made in
    let at = places_are (length l.sections) (omega (arith, count, count_is j)) in
    let size = ap (λ n. n + 10) (at ∙ ap (string_place (section_names j)) count) ∙ last_place j in
    λ k. record (names_section j l) { name = at k; size = size k }

pub all_named :
    (j : Planned) (l : Layout) (starts : List ℕ) → IsLayoutOf j l
    → starts ≡ map (string_place (section_names j)) (places 0 (length (section_names j)))
    → all_bytes starts j l ≡ section_header_bytes j l
unfolding all_bytes section_header_bytes section_headers
all_named j l starts made starts_are =
    let at : (i : ℕ) → i < length (section_names j) → name_in starts i ≡ string_place (section_names j) i =
    λ i low. ap (λ s. name_in s i) starts_are ∙ place_is (section_names j) i low in
    let rows = rows_are j l starts made at in
    let last = last_is j l starts made at in
    let all = map (section_header j) (numbered (contents_of j) l.sections) in
    (λ i. row_bytes null_section ++ rows_bytes (rows i) ++ row_bytes (last i))
    ∙ together (row_bytes null_section) all (names_section j l)
  where
    together : (first : List ℕ) (rows : List SectionHeader) (last : SectionHeader)
        → first ++ rows_bytes rows ++ row_bytes last ≡ first ++ rows_bytes (rows ++ last ∷ [])
    together first rows last = simp (append_assoc, flat_map-append, append-nil)

-- ---- with what calls gave

pub names_fit :
    (j : Planned) (l : Layout) (names given : List (Bor (List ℕ))) → IsLayoutOf j l → strings_of names ≡ section_names j → given ≡ names
    → string_table_size (strings_of given) < 2 ^ 32
names_fit j l names given made are same =
    let small = names_small j l made in
    let size = ap (λ ns. string_table_size (strings_of ns)) same ∙ ap string_table_size are in
    omega (arith, small, size)

pub starts_are :
    (j : Planned) (names given : List (Bor (List ℕ))) (starts all : List ℕ) → strings_of names ≡ section_names j → given ≡ names
    → starts ≡ map (string_place (strings_of given)) (places 0 (length given)) → all ≡ starts
    → all ≡ map (string_place (section_names j)) (places 0 (length (section_names j)))
starts_are j names given starts all are same placed all_is =
    let strings : strings_of given ≡ section_names j = ap strings_of same ∙ are in
    let long : length given ≡ length (section_names j) = sym (length-map given (λ (n : Bor (List ℕ)). n.now)) ∙ ap length strings in
    all_is ∙ placed
    ∙ (λ i. map (string_place (strings i)) (places 0 (length given)))
    ∙ ap (λ n. map (string_place (section_names j)) (places 0 n)) long

pub put_all :
    {E : Type 0} (j : Planned) (l : Layout) (result : Result Unit E) (all old new : List ℕ) → IsLayoutOf j l
    → all ≡ map (string_place (section_names j)) (places 0 (length (section_names j)))
    → OnOk result (new ≡ old ++ all_bytes all j l) → OnOk result (new ≡ old ++ section_header_bytes j l)
put_all j l (Ok done) all old new made all_is put = put ∙ ap (λ bytes. old ++ bytes) (all_named j l all made all_is)
put_all j l (Err e) all old new made all_is put = tt
