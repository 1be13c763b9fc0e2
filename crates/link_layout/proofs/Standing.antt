-- Pieces and common symbols stand in their output sections.
use Rattle.std.proofs.Common.{◌≡◌, ℕ, ◌+◌, ◌-◌, ◌≤◌, List, [], ◌∷◌, ◌++◌, map, length, refl, ap, sym, ◌∙◌, arith, subst, cond, Option, Some, None, Bool, true, false}
use Rattle.std.specs.List.{AllByRecursion, cons_option, filter_map, flat_map, zip}
use Rattle.std.specs.Prelude.{All, filter, if◌then◌else◌, option_and_then, option_map, slice_get, ◌&&◌}
use Rattle.std.proofs.lemmas.List.Elements.{All-from_recursion}
use Rattle.ifs_interface.specs.Triple.{same_name}
use Rattle.ifs_interface.proofs.Names.{same_name-is}
use Rattle.elf_object.specs.declared.section.ObjSection.{ObjSection}
use Rattle.elf_object.specs.Record.{ObjectRecord}
use Rattle.link_core.specs.declared.layout.Layout.{Layout}
use Rattle.link_core.specs.declared.layout.OutSection.{OutSection}
use Rattle.link_core.specs.declared.resolution.Member.{Member}
use Rattle.link_core.specs.Aligned.{aligned, end_from, places_from}
use Rattle.link_core.specs.Commons.{CommonItem, Item as Standing, PieceItem, bss, commons_of, item_align, item_size, items_of, outputs_by}
use Rattle.link_core.specs.Contents.{Content, contents_of, output_section}
use Rattle.link_core.specs.Kept.{kept_sections, section_of}
use Rattle.link_core.specs.Layout.{commons_at, has_threads, item_places, layout_by, output_address, output_position, pieces_at, tls_end, tls_file_end, tls_start}
use Rattle.link_core.specs.OutputNames.{Output, Piece, by_priority, goes_before, kept_pieces, output_of, piece_at, pieces_of, priority, put_by_priority, same_class, same_output}
use Rattle.link_core.specs.Planned.{Planned, pieces_in}
use Rattle.link_tables.proofs.Ends.{end_is_behind}
use Rattle.link_layout.specs.Laws.{CommonStands, CommonsAreWithin, EndsAreWithin, EndsInImage, PieceStands, PiecesAreWithin, StandsIn, most_end, section_at}
use Rattle.link_layout.proofs.Found.{class_is, found_at, fresh_in, position_at}
use Rattle.link_layout.proofs.Laid.{laid, tls_within, written_within}
use Rattle.link_layout.proofs.Pieces.{common_from, further, piece_from}
use Rattle.link_layout.proofs.Placed.{sections_of}
use Rattle.link_layout.proofs.Small.{IsWithin, data_before, end_before, starts_ascend, zeros_before}
use Rattle.link_layout.proofs.Within.{all_both, contents_placed, written_low}

-- ---- each piece is a section of an object

abbrev pub IsGiven : Planned → Piece → Type 0
IsGiven j p = piece_at j.objects (section_of p.object p.section) ≡ Some p

abbrev input_at : List ObjectRecord → Member → Option ObjSection
input_at objects m = option_and_then (λ o. slice_get o.sections m.section) (slice_get objects m.object)

abbrev pub piece_by : Member → ObjSection → Piece
piece_by m s = record { object = m.object; section = m.section; input = s }

given_turn :
    (j : Planned) (m : Member) (input : Option ObjSection) (ps : List Piece)
    → input_at j.objects m ≡ input → AllByRecursion (IsGiven j) ps
    → AllByRecursion (IsGiven j) (cons_option (option_map (piece_by m) input) ps)
given_turn j m None ps e rest = rest
given_turn j m (Some s) ps e rest = (ap (λ (input : Option ObjSection). option_map (piece_by m) input) e, rest)

all_given : (j : Planned) (ms : List Member) → AllByRecursion (IsGiven j) (filter_map (piece_at j.objects) ms)
all_given j [] = tt
all_given j (m ∷ ms) = given_turn j m (input_at j.objects m) (filter_map (piece_at j.objects) ms) refl (all_given j ms)

kept_given : (j : Planned) → AllByRecursion (IsGiven j) (pieces_in j)
unfolding kept_pieces
kept_given j = all_given j (kept_sections j.names.dropped j.objects)

module _ (P : Piece → Type 0) where
  one_kept : (b : Bool) (x : Piece) (xs : List Piece) → P x → AllByRecursion P xs → AllByRecursion P (cond b (x ∷ xs) xs)
  one_kept true x xs here rest = (here, rest)
  one_kept false x xs here rest = rest

  all_kept : (p : Piece → Bool) (xs : List Piece) → AllByRecursion P xs → AllByRecursion P (filter p xs)
  all_kept p [] all = tt
  all_kept p (x ∷ xs) all = one_kept (p x) x (filter p xs) all.0 (all_kept p xs all.1)

  either : (b : Bool) (xs ys : List Piece) → AllByRecursion P xs → AllByRecursion P ys → AllByRecursion P (cond b xs ys)
  either true xs ys one other = one
  either false xs ys one other = other

  all_put : (x : Piece) (xs : List Piece) → P x → AllByRecursion P xs → AllByRecursion P (put_by_priority x xs)
  all_put x [] here all = (here, tt)
  all_put x (y ∷ xs) here all =
      either (goes_before (priority y.input.name) (priority x.input.name)) (y ∷ put_by_priority x xs) (x ∷ y ∷ xs)
      (all.0, all_put x xs here all.1) (here, all)

  all_ordered : (xs : List Piece) → AllByRecursion P xs → AllByRecursion P (by_priority xs)
  all_ordered [] all = tt
  all_ordered (x ∷ xs) all = all_put x (by_priority xs) all.0 (all_ordered xs all.1)

-- a piece is given, and common symbols are in .bss
abbrev pub IsGivenItem : Planned → Output → Standing → Type 0
IsGivenItem j o (PieceItem piece) = IsGiven j piece
IsGivenItem j o (CommonItem n) = same_output o bss ≡ true

pieces_given : (j : Planned) (o : Output) (ps : List Piece) → AllByRecursion (IsGiven j) ps → AllByRecursion (IsGivenItem j o) (map PieceItem ps)
pieces_given j o [] all = tt
pieces_given j o (p ∷ ps) all = (all.0, pieces_given j o ps all.1)

numbers_given : (j : Planned) (o : Output) (ns : List ℕ) → same_output o bss ≡ true → AllByRecursion (IsGivenItem j o) (map CommonItem ns)
numbers_given j o [] same = tt
numbers_given j o (n ∷ ns) same = (same, numbers_given j o ns same)

commons_given : (j : Planned) (o : Output) (b : Bool) → same_output o bss ≡ b → AllByRecursion (IsGivenItem j o) (map CommonItem (if b then commons_of j else []))
commons_given j o true same = numbers_given j o (commons_of j) same
commons_given j o false same = tt

pub items_given : (j : Planned) (o : Output) → AllByRecursion (IsGivenItem j o) (items_of j o)
unfolding items_of pieces_of
items_given j o =
    let chosen = filter (λ p. same_output (output_of p) o) (pieces_in j) in
    all_both (IsGivenItem j o) (map PieceItem (by_priority chosen)) (map CommonItem (if same_output o bss then commons_of j else []))
    (pieces_given j o (by_priority chosen)
    (all_ordered (IsGiven j) chosen (all_kept (IsGiven j) (λ p. same_output (output_of p) o) (pieces_in j) (kept_given j))))
    (commons_given j o (same_output o bss) refl)

-- ---- the items of one section

module _ (j : Planned) (o : Output) (sections : List OutSection) (position address : ℕ) (s : OutSection) (there : slice_get sections position ≡ Some s) (starts : s.address ≡ address) where
  item_stands :
      (at : ℕ) (x : Standing) (items : List Standing)
      → end_from (item_align j) (item_size j) (aligned (item_align j x) at + item_size j x) items ≤ s.size
      → StandsIn sections position (address + aligned (item_align j x) at) (item_size j x)
  item_stands at x items high =
      let behind = end_is_behind (item_align j) (item_size j) (aligned (item_align j x) at + item_size j x) items in
      record {
        section = s;
        there = there;
        starts = omega (arith, starts);
        ends = omega (arith, starts, behind, high);
      }

  pieces_stand :
      (at : ℕ) (items : List Standing) → end_from (item_align j) (item_size j) at items ≤ s.size
      → AllByRecursion (IsGivenItem j o) items
      → AllByRecursion (PieceStands j sections) (filter_map (piece_from position address) (zip items (places_from (item_align j) (item_size j) at items)))
  unfolding places_from end_from
  pieces_stand at [] high all = tt
  pieces_stand at (PieceItem piece ∷ items) high all = (
    record { piece = piece; given = all.0; stands = item_stands at (PieceItem piece) items high },
    pieces_stand (aligned (item_align j (PieceItem piece)) at + item_size j (PieceItem piece)) items high all.1,
  )
  pieces_stand at (CommonItem n ∷ items) high all =
      pieces_stand (aligned (item_align j (CommonItem n)) at + item_size j (CommonItem n)) items high all.1

  commons_stand :
      (at : ℕ) (items : List Standing) → end_from (item_align j) (item_size j) at items ≤ s.size
      → AllByRecursion (IsGivenItem j o) items → (same_output o bss ≡ true → position ≡ output_position j bss)
      → AllByRecursion (CommonStands j sections) (filter_map (common_from address) (zip items (places_from (item_align j) (item_size j) at items)))
  unfolding places_from end_from
  commons_stand at [] high all same = tt
  commons_stand at (PieceItem piece ∷ items) high all same =
      commons_stand (aligned (item_align j (PieceItem piece)) at + item_size j (PieceItem piece)) items high all.1 same
  commons_stand at (CommonItem n ∷ items) high all same =
      let place = aligned (item_align j (CommonItem n)) at in
      let P : ℕ → Type 0 = λ k. StandsIn sections k (address + place) (item_size j (CommonItem n)) in (
        subst P (same all.0) (item_stands at (CommonItem n) items high),
        commons_stand (place + item_size j (CommonItem n)) items high all.1 same,
      )

-- ---- the section

at_front : (before : List Content) (c : Content) (after : List Content) → slice_get (before ++ c ∷ after) (length before) ≡ Some c
at_front [] c after = refl
at_front (b ∷ before) c after = at_front before c after

section_there :
    (j : Planned) (before rest : List Output) (o : Output) → outputs_by j ≡ before ++ o ∷ rest
    → slice_get (sections_of j) (output_position j o) ≡ Some (section_at (output_section j o) (output_address j o))
section_there j before rest o outputs =
    let found = found_at j before rest o outputs (fresh_in j before rest o outputs) in
    let place : length found.before ≡ output_position j o = found.place ∙ sym (position_at j before rest o outputs) in
    let here =
    ap (λ (n : ℕ). slice_get (contents_of j) n) (sym place)
    ∙ ap (λ (cs : List Content). slice_get cs (length found.before)) found.split
    ∙ at_front found.before (output_section j o) found.after
    in
    (contents_placed j).each (output_position j o) (output_section j o) here

all_within : (n : ℕ) → n ≤ n
all_within n = omega arith

pieces_here : (j : Planned) (before rest : List Output) (o : Output) → outputs_by j ≡ before ++ o ∷ rest → AllByRecursion (PieceStands j (sections_of j)) (pieces_at j o)
unfolding pieces_at item_places output_section
pieces_here j before rest o outputs =
    pieces_stand j o (sections_of j) (output_position j o) (output_address j o) (section_at (output_section j o) (output_address j o))
    (section_there j before rest o outputs) refl 0 (items_of j o) (all_within (end_from (item_align j) (item_size j) 0 (items_of j o))) (items_given j o)

parts_true : (a b : Bool) → (a && b) ≡ true → (a ≡ true) × (b ≡ true)
parts_true true b both = (refl, both)
parts_true false b both = cc

pub is_bss : (o : Output) → same_output o bss ≡ true → o ≡ bss
is_bss o same =
    let both = parts_true (same_name o.name bss.name) (same_class o.class bss.class) same in
    let name = same_name-is o.name bss.name both.0 in
    let class = class_is o.class bss.class both.1 in
    λ i. record { name = name i; class = class i }

commons_here : (j : Planned) (before rest : List Output) (o : Output) → outputs_by j ≡ before ++ o ∷ rest → AllByRecursion (CommonStands j (sections_of j)) (commons_at j o)
unfolding commons_at item_places output_section
commons_here j before rest o outputs =
    commons_stand j o (sections_of j) (output_position j o) (output_address j o) (section_at (output_section j o) (output_address j o))
    (section_there j before rest o outputs) refl 0 (items_of j o) (all_within (end_from (item_align j) (item_size j) 0 (items_of j o))) (items_given j o)
    (λ same. ap (λ (q : Output). output_position j q) (is_bss o same))

-- ---- all sections

pieces_all : (j : Planned) (before rest : List Output) → outputs_by j ≡ before ++ rest → AllByRecursion (PieceStands j (sections_of j)) (flat_map (pieces_at j) rest)
pieces_all j before [] outputs = tt
pieces_all j before (o ∷ rest) outputs =
    all_both (PieceStands j (sections_of j)) (pieces_at j o) (flat_map (pieces_at j) rest)
    (pieces_here j before rest o outputs) (pieces_all j (before ++ o ∷ []) rest (further j before rest o outputs))

commons_all : (j : Planned) (before rest : List Output) → outputs_by j ≡ before ++ rest → AllByRecursion (CommonStands j (sections_of j)) (flat_map (commons_at j) rest)
commons_all j before [] outputs = tt
commons_all j before (o ∷ rest) outputs =
    all_both (CommonStands j (sections_of j)) (commons_at j o) (flat_map (commons_at j) rest)
    (commons_here j before rest o outputs) (commons_all j (before ++ o ∷ []) rest (further j before rest o outputs))

pub pieces_within : PiecesAreWithin
unfolding layout_by
pieces_within j l given =
    let P : Layout → Type 0 = λ m. All (PieceStands j m.sections) m.pieces in
    subst P (sym (laid j l given).is)
    (All-from_recursion (PieceStands j (sections_of j)) (flat_map (pieces_at j) (outputs_by j)) (pieces_all j [] (outputs_by j) refl))

pub commons_within : CommonsAreWithin
unfolding layout_by
commons_within j l given =
    let P : Layout → Type 0 = λ m. All (CommonStands j m.sections) m.commons in
    subst P (sym (laid j l given).is)
    (All-from_recursion (CommonStands j (sections_of j)) (flat_map (commons_at j) (outputs_by j)) (commons_all j [] (outputs_by j) refl))

-- ---- ends

start_in : (b : Bool) (s e m : ℕ) → s ≤ e → (b ≡ true → e ≤ m) → (if b then s else 0) ≤ m
start_in true s e m less high = let h = high refl in omega (arith, less, h)
start_in false s e m less high = omega arith

sum_in : (b : Bool) (s e m : ℕ) → s ≤ e → (b ≡ true → e ≤ m) → (if b then s else 0) + (if b then e - s else 0) ≤ m
sum_in true s e m less high = let h = high refl in omega (arith, less, h)
sum_in false s e m less high = omega arith

file_in : (b : Bool) (s f e : ℕ) → f ≤ e → (if b then f - s else 0) ≤ (if b then e - s else 0)
file_in true s f e less = omega (arith, less)
file_in false s f e less = omega arith

ends_by : (j : Planned) → IsWithin j → EndsInImage j.options.kind (layout_by j)
unfolding layout_by
ends_by j within =
    let b = has_threads j in
    let m = most_end j.options.kind in
    record {
      behind = omega (arith, written_low j, data_before j, end_before j);
      end = written_within j within;
      tls_start = start_in b (tls_start j) (tls_end j) m (starts_ascend j) (tls_within j within);
      tls_end = sum_in b (tls_start j) (tls_end j) m (starts_ascend j) (tls_within j within);
      tls_file = file_in b (tls_start j) (tls_file_end j) (tls_end j) (zeros_before j);
    }

pub ends_within : EndsAreWithin
ends_within j l given =
    let P : Layout → Type 0 = λ m. EndsInImage j.options.kind m in
    subst P (sym (laid j l given).is) (ends_by j (laid j l given).within)
