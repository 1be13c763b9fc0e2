-- The steps of a link come in order.
use Rattle.std.proofs.Common.{◌≡◌, ℕ, List, [], ◌∷◌, Result, Ok, Err, refl, ap, ◌∙◌, sym}
use Rattle.ifs_bytes.specs.Outcome.{◌>>=◌}
use Rattle.elf_object.specs.Record.{ObjectRecord}
use Rattle.link_machine.specs.Rules.{MachineRules}
use Rattle.link_core.specs.declared.layout.Layout.{Layout}
use Rattle.link_core.specs.declared.options.LinkOptions.{LinkOptions}
use Rattle.link_core.specs.declared.plan.Plan.{Plan}
use Rattle.link_core.specs.declared.refusal.LinkRefusal.{LinkRefusal}
use Rattle.link_core.specs.declared.resolution.Resolution.{Resolution}
use Rattle.link_core.specs.Side.{Side}
use Rattle.link_core.specs.Image.{image_of}
use Rattle.link_core.specs.LinkLaws.{RefusesInOrder, LinksRefuseInOrder}
use Rattle.link_core.specs.Layout.{layout_of}
use Rattle.link_core.specs.Link.{objects_of, sides_checked, rules_for, linked, link_of}
use Rattle.link_core.specs.Plan.{plan_of}
use Rattle.link_core.specs.Resolution.{resolution_of}

-- a step that answers goes on, and one that refuses ends
goes_on : {A B E : Type 0} (step : Result A E) (next : A → Result B E) (x : A) → step ≡ Ok x → step >>= next ≡ next x
goes_on step next x e = ap (λ (s : Result _ _). s >>= next) e

ends : {A B E : Type 0} (step : Result A E) (next : A → Result B E) (cause : E) → step ≡ Err cause → step >>= next ≡ Err cause
ends step next cause e = ap (λ (s : Result _ _). s >>= next) e

-- what follows once objects and libraries were read
reads : (options : LinkOptions) (files : List (List ℕ)) (sides : List Side) (objects : List ObjectRecord) → objects_of files ≡ Ok objects → sides_checked sides ≡ Ok tt → link_of options files sides ≡ linked options objects sides
unfolding link_of
reads options files sides objects e f =
    goes_on (objects_of files) _ objects e ∙ goes_on (sides_checked sides) _ tt f

module _ (options : LinkOptions) (files : List (List ℕ)) (sides : List Side) where
  objects_first : (e : LinkRefusal) → objects_of files ≡ Err e → link_of options files sides ≡ Err e
  unfolding link_of
  objects_first e h = ends (objects_of files) _ e h

  sides_next : (objects : List ObjectRecord) (e : LinkRefusal) → objects_of files ≡ Ok objects → sides_checked sides ≡ Err e → link_of options files sides ≡ Err e
  unfolding link_of
  sides_next objects e h k = goes_on (objects_of files) _ objects h ∙ ends (sides_checked sides) _ e k

  names_refused : (objects : List ObjectRecord) (e : LinkRefusal) → resolution_of options objects sides ≡ Err e → linked options objects sides ≡ Err e
  unfolding linked
  names_refused objects e h = ends (resolution_of options objects sides) _ e h

  needs_refused : (objects : List ObjectRecord) (r : Resolution) (rules : MachineRules) (e : LinkRefusal) → resolution_of options objects sides ≡ Ok r → rules_for objects ≡ Ok rules → plan_of rules options objects r ≡ Err e → linked options objects sides ≡ Err e
  unfolding linked
  needs_refused objects r rules e h k m =
      goes_on (resolution_of options objects sides) _ r h ∙ goes_on (rules_for objects) _ rules k ∙ ends (plan_of rules options objects r) _ e m

  places_refused : (objects : List ObjectRecord) (r : Resolution) (rules : MachineRules) (p : Plan) (e : LinkRefusal) → resolution_of options objects sides ≡ Ok r → rules_for objects ≡ Ok rules → plan_of rules options objects r ≡ Ok p → layout_of rules options objects r p ≡ Err e → linked options objects sides ≡ Err e
  unfolding linked
  places_refused objects r rules p e h k m n =
      goes_on (resolution_of options objects sides) _ r h ∙ goes_on (rules_for objects) _ rules k ∙ goes_on (plan_of rules options objects r) _ p m
      ∙ ends (layout_of rules options objects r p) _ e n

  image_last : (objects : List ObjectRecord) (r : Resolution) (rules : MachineRules) (p : Plan) (l : Layout) → resolution_of options objects sides ≡ Ok r → rules_for objects ≡ Ok rules → plan_of rules options objects r ≡ Ok p → layout_of rules options objects r p ≡ Ok l → linked options objects sides ≡ image_of rules options objects r p l
  unfolding linked
  image_last objects r rules p l h k m n =
      goes_on (resolution_of options objects sides) _ r h ∙ goes_on (rules_for objects) _ rules k ∙ goes_on (plan_of rules options objects r) _ p m
      ∙ goes_on (layout_of rules options objects r p) _ l n

pub links_refuse_in_order : LinksRefuseInOrder
links_refuse_in_order options files sides = record {
  objects = objects_first options files sides;
  libraries = sides_next options files sides;
  names = λ objects e h k n. reads options files sides objects h k ∙ names_refused options files sides objects e n;
  needs = λ objects r rules e h k a b c. reads options files sides objects h k ∙ needs_refused options files sides objects r rules e a b c;
  places = λ objects r rules p e h k a b c d. reads options files sides objects h k ∙ places_refused options files sides objects r rules p e a b c d;
  image = λ objects r rules p l h k a b c d. reads options files sides objects h k ∙ image_last options files sides objects r rules p l a b c d;
}
