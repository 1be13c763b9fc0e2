-- Slots and symbols are the same exactly where they are equal.
use Rattle.std.proofs.Common.{◌≡◌, ℕ, ◌==◌, true, refl, ap, ◌∙◌, subst}
use Rattle.std.specs.Cmp.{IsEquivalence, decided, unsigned_Decides}
use Rattle.std.proofs.lemmas.Bool.{false≢true, and_parts, and_from}
use Rattle.link_core.specs.declared.plan.GotSlot.{GotSlot}
use Rattle.link_core.specs.declared.plan.Slot.{Slot}
use Rattle.link_core.specs.declared.plan.Slot.TheVariants.{Got, Tp, TlsPair, Module, Desc}
use Rattle.link_core.specs.declared.plan.SymbolId.{SymbolId}
use Rattle.link_core.specs.declared.plan.SymbolId.TheVariants as ids
use Rattle.link_core.specs.Plan.{same_slot, same_sort, same_symbol}

number_itself : (i : ℕ) → (i == i) ≡ true
number_itself i = (unsigned_Decides i i).1 refl

symbol_is : (s t : SymbolId) → same_symbol s t ≡ true → s ≡ t
symbol_is (ids.Name i) (ids.Name j) h = ap (λ n. ids.Name n) ((unsigned_Decides i j).0 h)
symbol_is (ids.Name i) (ids.Local p j) h = absurd (false≢true h)
symbol_is (ids.Name i) ids.Module h = absurd (false≢true h)
symbol_is (ids.Local o i) (ids.Name j) h = absurd (false≢true h)
symbol_is (ids.Local o i) (ids.Local p j) h =
    let parts = and_parts (o == p) (i == j) h in
    ap (λ n. ids.Local n i) ((unsigned_Decides o p).0 parts.0)
    ∙ ap (λ n. ids.Local p n) ((unsigned_Decides i j).0 parts.1)
symbol_is (ids.Local o i) ids.Module h = absurd (false≢true h)
symbol_is ids.Module (ids.Name j) h = absurd (false≢true h)
symbol_is ids.Module (ids.Local p j) h = absurd (false≢true h)
symbol_is ids.Module ids.Module h = refl

symbol_itself : (s : SymbolId) → same_symbol s s ≡ true
symbol_itself (ids.Name i) = number_itself i
symbol_itself (ids.Local o i) = and_from (o == o) (i == i) (number_itself o) (number_itself i)
symbol_itself ids.Module = refl

sort_is : (a b : Slot) → same_sort a b ≡ true → a ≡ b
sort_is Got Got h = refl
sort_is Got Tp h = absurd (false≢true h)
sort_is Got TlsPair h = absurd (false≢true h)
sort_is Got Module h = absurd (false≢true h)
sort_is Got Desc h = absurd (false≢true h)
sort_is Tp Got h = absurd (false≢true h)
sort_is Tp Tp h = refl
sort_is Tp TlsPair h = absurd (false≢true h)
sort_is Tp Module h = absurd (false≢true h)
sort_is Tp Desc h = absurd (false≢true h)
sort_is TlsPair Got h = absurd (false≢true h)
sort_is TlsPair Tp h = absurd (false≢true h)
sort_is TlsPair TlsPair h = refl
sort_is TlsPair Module h = absurd (false≢true h)
sort_is TlsPair Desc h = absurd (false≢true h)
sort_is Module Got h = absurd (false≢true h)
sort_is Module Tp h = absurd (false≢true h)
sort_is Module TlsPair h = absurd (false≢true h)
sort_is Module Module h = refl
sort_is Module Desc h = absurd (false≢true h)
sort_is Desc Got h = absurd (false≢true h)
sort_is Desc Tp h = absurd (false≢true h)
sort_is Desc TlsPair h = absurd (false≢true h)
sort_is Desc Module h = absurd (false≢true h)
sort_is Desc Desc h = refl

sort_itself : (a : Slot) → same_sort a a ≡ true
sort_itself Got = refl
sort_itself Tp = refl
sort_itself TlsPair = refl
sort_itself Module = refl
sort_itself Desc = refl

slot_is : (x y : GotSlot) → same_slot x y ≡ true → x ≡ y
slot_is x y h =
    let parts = and_parts (same_symbol x.symbol y.symbol) (same_sort x.slot y.slot) h in
    let f : SymbolId → Slot → GotSlot = λ s a. record { symbol = s; slot = a } in
    ap (λ s. f s x.slot) (symbol_is x.symbol y.symbol parts.0)
    ∙ ap (λ a. f y.symbol a) (sort_is x.slot y.slot parts.1)

slot_itself : (x : GotSlot) → same_slot x x ≡ true
slot_itself x =
    and_from (same_symbol x.symbol x.symbol) (same_sort x.slot x.slot) (symbol_itself x.symbol)
    (sort_itself x.slot)

pub same_slots : IsEquivalence same_slot
same_slots =
    decided same_slot (λ x y. (slot_is x y, λ e. subst (λ z. same_slot x z ≡ true) e (slot_itself x)))
