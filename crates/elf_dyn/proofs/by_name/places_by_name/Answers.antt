use Rattle.std.proofs.Common.{◌≡◌, map, sym, ap, ◌∙◌, subst, refl, rules}
use Rattle.std.proofs.lemmas.Iterator.{YieldsList-from_slice, YieldsList-from_map, items_from_drains}
use Rattle.std.proofs.lemmas.List.Sorted.{answers_always}
use Rattle.ifs_interface.proofs.Lists.{map_itself}
use Rattle.elf_dyn.specs.ByName.{are_places, rows_at, IsSortedByName}
use Rattle.elf_dyn.proofs.RankedOrder.{before, before_ranks, sorted_by_rank, places_by_rank, placed_by_rank}
use Rattle.elf_dyn.proofs.by_name.places_by_name.Goals as goal

pub returns : goal.returns
returns c =
    let front = c.usual_front.result.now in
    let rows = c.args.rows.now in
    let old = c.in_ok-sorted.sorted.items in
    let new = c.sort_by.new.self.items in
    let ran = c.in_ok-collect.ensures.ran in
    let places : c.in_ok-collect.field-0.items ≡ map (λ r. r.place) new =
    ran.2.0 ∙ sym (map_itself (λ p. p) (λ p. refl) ran.0) ∙ items_from_drains ran.0 ran.1 (YieldsList-from_map _ (λ r. r.place) (YieldsList-from_slice new cc) c.map.ensures.closure (λ x r q k. search rules)) in
    let sorted = sorted_by_rank front rows old new c.in_ok-sorted.ensures.rows c.in_ok-sorted.ensures.ranks c.in_ok-sorted.ensures.bytes c.sort_by.ensures.permutation
    (c.in_ok-sort_by.ensures.sorted before before_ranks (answers_always _ _ _ (λ f a r g h. search rules)))
    (c.sort_by.ensures.stable before before_ranks (answers_always _ _ _ (λ f a r g h. search rules))) in
    record {
      are_places = ap (are_places rows) places ∙ places_by_rank rows old new c.in_ok-sorted.ensures.places c.sort_by.ensures.permutation;
      sorted = subst (IsSortedByName rows) (sym (ap (rows_at rows) places ∙ placed_by_rank rows old new c.in_ok-sorted.ensures.places c.sort_by.ensures.permutation)) sorted;
    }
