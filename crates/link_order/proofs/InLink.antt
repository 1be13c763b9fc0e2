-- The references of all objects.
use Rattle.std.proofs.Common.{◌≡◌, ℕ, ◌+◌, ◌<◌, Bool, true, List, [], ◌∷◌, filter, refl, arith}
use Rattle.std.proofs.lemmas.Bool.Decides.{nat_tests}
use Rattle.std.proofs.lemmas.List.Elements.{recursion_from_All}
use Rattle.std.specs.List.{AllByRecursion, enumerate_from}
use Rattle.std.specs.Prelude.{nat_lt, ◌==◌, ◌&&◌, ◌||◌}
use Rattle.elf_object.specs.declared.reference.Reference.{Reference}
use Rattle.elf_object.specs.Object.{IsRead}
use Rattle.elf_object.specs.Record.{ObjectRecord}
use Rattle.link_core.specs.declared.resolution.Member.{Member}
use Rattle.link_core.specs.Kept.{is_kept}
use Rattle.link_core.specs.References.{Use, uses_in, uses_of}
use Rattle.link_order.specs.Laws.{UsesAscend}
use Rattle.link_order.specs.Order.{reference_before, use_before}
use Rattle.link_order.proofs.Ascending.{ascends_filter, ascends_map}
use Rattle.link_order.proofs.InObject.{all_mapped, references_in_order}
use Rattle.link_order.proofs.Numbered.{Gives, enumerate_ascends, flat_ascends}

later_object : (a b : Use) → a.object < b.object → use_before a b ≡ true
later_object a b h = grind (arith, nat_tests)

same_object : (n : ℕ) (b : Bool) → b ≡ true → (nat_lt n n || (n == n && b)) ≡ true
same_object n b h = grind (arith, nat_tests)

abbrev use_of : ℕ × ObjectRecord → Reference → Use
use_of o r = record { object = o.0; record_of = o.1; reference = r }

later_reference : (o : ℕ × ObjectRecord) (a b : Reference) → reference_before a b ≡ true
    → use_before (use_of o a) (use_of o b) ≡ true
later_reference o a b h = same_object o.0 (reference_before a b) h

module _ (dropped : List Member) where
  abbrev GivesAt : ℕ × ObjectRecord → Type 0
  GivesAt = Gives (uses_in dropped) (λ o. o.0) (λ u. u.object) use_before later_object

  object_gives : (o : ℕ × ObjectRecord) → IsRead o.1 → GivesAt o
  object_gives o read =
      let kept : Reference → Bool = λ r. is_kept dropped o.0 o.1 r.section in
      record {
        numbered = all_mapped (use_of o) (λ u. u.object ≡ o.0) (λ r. refl) (filter kept o.1.references);
        ascends =
            ascends_map (use_of o) reference_before use_before (later_reference o)
            (filter kept o.1.references)
            (ascends_filter reference_before kept o.1.references
            (references_in_order o.1.bytes o.1 read.by_bytes));
      }

  all_give : (i : ℕ) (os : List ObjectRecord) → AllByRecursion IsRead os
      → AllByRecursion GivesAt (enumerate_from i os)
  all_give i [] h = tt
  all_give i (o ∷ os) h = (object_gives (i, o) h.0, all_give (i + 1) os h.1)

pub uses_in_order : UsesAscend
unfolding uses_of
uses_in_order dropped objects read =
    flat_ascends (uses_in dropped) (λ o. o.0) (λ u. u.object) use_before later_object
    (enumerate_from 0 objects)
    (all_give dropped 0 objects (recursion_from_All IsRead objects read)) (enumerate_ascends 0 objects)
