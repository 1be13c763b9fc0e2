-- Sections that end below a bound are placed as the layout says.
use Rattle.std.proofs.Common.{◌≡◌, ℕ, ◌+◌, ◌≤◌, ◌^◌, List, [], ◌∷◌, ◌++◌, map, length, refl, ap, ◌∙◌, arith, suc}
use Rattle.std.specs.List.{zip}
use Rattle.std.proofs.lemmas.List.{map-append}
use Rattle.ifs_bytes.specs.Carried.{carried}
use Rattle.link_core.specs.declared.layout.OutSection.{OutSection}
use Rattle.link_core.specs.Aligned.{aligned, end_from, places_from}
use Rattle.link_core.specs.Contents.{Content}
use Rattle.link_core.specs.Layout.{addresses_from, contents_end}
use Rattle.link_tables.specs.Capped.{capped}
use Rattle.link_tables.specs.Sections.{shown}
use Rattle.link_tables.proofs.Ends.{end_is_behind}
use Rattle.link_places.specs.Placed.{placed_from}

abbrev pub section_from : Content × ℕ → OutSection
section_from placed = record {
  name = placed.0.name;
  kind = placed.0.kind;
  flags = placed.0.flags;
  address = placed.1;
  size = placed.0.size;
  align = placed.0.align;
}

abbrev pub sections_from : ℕ → List Content → List OutSection
sections_from at cs = map section_from (zip cs (addresses_from at cs))

pub is_capped : (n : ℕ) → n ≤ 2 ^ 40 → capped n ≡ n
is_capped n small = omega (arith, small)

pub is_carried : (n : ℕ) → n ≤ 2 ^ 40 → carried (capped n) ≡ n
is_carried n small = omega (arith, small)

pub placed_are : (at : ℕ) (cs : List Content) → contents_end at cs ≤ 2 ^ 40 → placed_from at (map shown cs) ≡ sections_from at cs
unfolding placed_from places_from end_from
placed_are at [] small = refl
placed_are at (c ∷ cs) small =
    let place = aligned c.align at in
    let behind = end_is_behind (λ (x : Content). x.align) (λ (x : Content). x.size) (place + c.size) cs in
    let address = is_carried place (omega (arith, behind, small)) in
    let size = is_carried c.size (omega (arith, behind, small)) in
    let next : capped (capped place + capped c.size) ≡ place + c.size = omega (arith, behind, small) in
    let rest = ap (λ (n : ℕ). placed_from n (map shown cs)) next ∙ placed_are (place + c.size) cs small in
    λ i. record {
      name = c.name;
      kind = c.kind;
      flags = c.flags;
      address = address i;
      size = size i;
      align = c.align;
    } ∷ rest i

pub placed_from_capped : (at : ℕ) (cs : List Content) → contents_end at cs ≤ 2 ^ 40 → placed_from (capped at) (map shown cs) ≡ sections_from at cs
placed_from_capped at cs small =
    let behind = end_is_behind (λ (x : Content). x.align) (λ (x : Content). x.size) at cs in
    ap (λ (n : ℕ). placed_from n (map shown cs)) (is_capped at (omega (arith, behind, small))) ∙ placed_are at cs small

-- ---- one after the other

pub length_of_places : (at : ℕ) (cs : List Content) → length (addresses_from at cs) ≡ length cs
unfolding places_from
length_of_places at [] = refl
length_of_places at (c ∷ cs) = ap (λ (n : ℕ). suc n) (length_of_places (aligned c.align at + c.size) cs)

zip_from :
    (at : ℕ) (cs ds : List Content) (ns : List ℕ)
    → zip (cs ++ ds) (addresses_from at cs ++ ns) ≡ zip cs (addresses_from at cs) ++ zip ds ns
unfolding places_from
zip_from at [] ds ns = refl
zip_from at (c ∷ cs) ds ns = ap (λ (ps : List (Content × ℕ)). (c, aligned c.align at) ∷ ps) (zip_from (aligned c.align at + c.size) cs ds ns)

pub placed_first :
    (at : ℕ) (cs ds : List Content) (ns : List ℕ)
    → map section_from (zip (cs ++ ds) (addresses_from at cs ++ ns)) ≡ sections_from at cs ++ map section_from (zip ds ns)
placed_first at cs ds ns = ap (map section_from) (zip_from at cs ds ns) ∙ map-append section_from (zip cs (addresses_from at cs)) (zip ds ns)
