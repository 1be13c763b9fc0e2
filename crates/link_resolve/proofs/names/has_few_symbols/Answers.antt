use Rattle.std.proofs.Common.{arith, ap, sym, subst, ◌∙◌, ◌≡◌, ◌<◌, ◌^◌, inl, inr, length, get_or}
use Rattle.std.proofs.lemmas.List.{get_or_default}
use Rattle.std.proofs.lemmas.Bool.{cases_eq}
use Rattle.link_resolve.proofs.names.has_few_symbols.Goals as goal

pub loop-object-preserved : goal.loop-object-preserved
loop-object-preserved c = λ k d lt.
    elim (cases_eq k c.loop-object.object-index) as (λ _. length (get_or c.args.objects.now k d).symbols < 2 ^ 32) [
      | inl same ↦
          let item : get_or c.args.objects.now k d ≡ c.object-item.result =
          ap (λ i. get_or c.args.objects.now i d) same
          ∙ get_or_default c.args.objects.now c.loop-object.object-index d c.object-item.result c.loop-object-test.true ∙ sym c.object-item.is in
          let bytes : length c.object-item.result.bytes < 2 ^ 32 =
          subst (λ o. length o.bytes < 2 ^ 32) (sym c.object-item.is) (c.requires c.loop-object.object-index c.object-item.result c.loop-object-test.true) in
          subst (λ o. length o.symbols < 2 ^ 32) (sym item) (omega (arith, bytes, c.is_read.ensures.room.symbols))
      | inr differ ↦ c.loop-object.invariant k d (omega (arith, lt, differ))
    ]

pub returns : goal.returns
returns c = λ k d lt. c.loop-object.invariant k d (omega (arith, lt, c.loop-object-test.false))
