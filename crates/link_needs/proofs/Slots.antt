-- Slots are the same as their derived comparison says.
use Rattle.std.proofs.Common.{◌≡◌, Bool, ◌&&◌, ◌||◌, if◌then◌else◌, List, [], ◌∷◌, ◌++◌, refl, ap, ◌∙◌}
use Rattle.std.specs.List.{list_any}
use Rattle.link_core.specs.contracts.plan.GotSlotPartialEq.TheImpl.{eq-value}
use Rattle.link_core.specs.contracts.plan.SymbolIdPartialEq.TheImpl.{eq-value as symbol_eq}
use Rattle.link_core.specs.contracts.plan.SlotPartialEq.TheImpl.{eq-value as sort_eq}
use Rattle.link_core.specs.declared.plan.GotSlot.{GotSlot}
use Rattle.link_core.specs.declared.plan.Slot.{Slot}
use Rattle.link_core.specs.declared.plan.Slot.TheVariants.{Got, Tp, TlsPair, Module, Desc}
use Rattle.link_core.specs.declared.plan.SymbolId.{SymbolId}
use Rattle.link_core.specs.declared.plan.SymbolId.TheVariants as ids
use Rattle.link_core.specs.Plan.{same_slot, same_sort, same_symbol}

symbols : (s t : SymbolId) → (symbol_eq).it s t ≡ same_symbol s t
symbols (ids.Name i) (ids.Name j) = refl
symbols (ids.Name i) (ids.Local p j) = refl
symbols (ids.Name i) ids.Module = refl
symbols (ids.Local o i) (ids.Name j) = refl
symbols (ids.Local o i) (ids.Local p j) = refl
symbols (ids.Local o i) ids.Module = refl
symbols ids.Module (ids.Name j) = refl
symbols ids.Module (ids.Local p j) = refl
symbols ids.Module ids.Module = refl

sorts : (a b : Slot) → (sort_eq).it a b ≡ same_sort a b
sorts Got Got = refl
sorts Got Tp = refl
sorts Got TlsPair = refl
sorts Got Module = refl
sorts Got Desc = refl
sorts Tp Got = refl
sorts Tp Tp = refl
sorts Tp TlsPair = refl
sorts Tp Module = refl
sorts Tp Desc = refl
sorts TlsPair Got = refl
sorts TlsPair Tp = refl
sorts TlsPair TlsPair = refl
sorts TlsPair Module = refl
sorts TlsPair Desc = refl
sorts Module Got = refl
sorts Module Tp = refl
sorts Module TlsPair = refl
sorts Module Module = refl
sorts Module Desc = refl
sorts Desc Got = refl
sorts Desc Tp = refl
sorts Desc TlsPair = refl
sorts Desc Module = refl
sorts Desc Desc = refl

both : (p q a b : Bool) → p ≡ q → a ≡ b → (p && a) ≡ (q && b)
both p q a b e f = ap (λ t. t && a) e ∙ ap (λ t. q && t) f

pub slots : (x y : GotSlot) → (eq-value).it x y ≡ same_slot x y
slots x y = both _ _ _ _ (symbols x.symbol y.symbol) (sorts x.slot y.slot)

abbrev put_by : (GotSlot → GotSlot → Bool) → List GotSlot → GotSlot → List GotSlot
put_by same xs x = if list_any (same x) xs then xs else xs ++ x ∷ []

any_same : (x : GotSlot) (xs : List GotSlot) → list_any ((eq-value).it x) xs ≡ list_any (same_slot x) xs
any_same x [] = refl
any_same x (y ∷ ys) = either _ _ _ _ (slots x y) (any_same x ys)
  where
    either : (p q a b : Bool) → p ≡ q → a ≡ b → (p || a) ≡ (q || b)
    either p q a b e f = ap (λ t. t || a) e ∙ ap (λ t. q || t) f

pub put_same : (x : GotSlot) (xs : List GotSlot) → put_by (eq-value).it xs x ≡ put_by same_slot xs x
put_same x xs = ap (λ t. if t then xs else xs ++ x ∷ []) (any_same x xs)
