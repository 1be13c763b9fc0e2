use Rattle.link_core.specs.contracts.plan.GotSlotPartialEq.TheImpl.{eq-value}
use Rattle.std.proofs.Common.{◌==◌, subst, ap, ◌∙◌}
use Rattle.link_index.specs.Index.{ArePlaces, rows_of, starts_from}
use Rattle.link_index.proofs.Found.{same_slots, same_numbers}
use Rattle.link_index.proofs.index.PlanIndex.of.Goals as goal

pub invariant_of-result : goal.invariant_of-result
invariant_of-result c = record {
  slot_places = subst (λ same. ArePlaces same c.args.plan.now.got c.in_ok-slots.slots) same_slots (subst (λ items. ArePlaces (eq-value).it items c.in_ok-slots.slots) c.as_slice.ensures c.in_ok-slots.ensures);
  starts_stand = c.in_ok-starts.ensures ∙ ap (λ got. starts_from 0 got) c.as_slice-2.ensures;
  entry_places =
      subst (λ same. ArePlaces same c.args.plan.now.plt c.in_ok-entries.entries) same_numbers
      (subst (λ items. ArePlaces (λ n m. n == m) items c.in_ok-entries.entries) c.as_slice-3.ensures c.in_ok-entries.ensures);
  row_places =
      subst (λ same. ArePlaces same (rows_of c.args.plan.now) c.in_ok-rows.rows) same_numbers
      (subst (λ items. ArePlaces (λ n m. n == m) items c.in_ok-rows.rows) (c.as_slice-4.ensures.value ∙ c.in_ok-names.ensures) c.in_ok-rows.ensures);
}
