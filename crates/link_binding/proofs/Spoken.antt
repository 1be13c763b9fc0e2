-- Names that libraries define or want, and those that the made file offers.
use Rattle.std.proofs.Common.{◌≡◌, ℕ, Bool, true, false, ◌||◌, ◌&&◌, ◌==◌, cond, List, [], ◌∷◌, is_some, refl, sym, ap, ◌∙◌}
use Rattle.std.specs.List.{list_any}
use Rattle.link_core.specs.declared.constants.TheConstants.{STV_DEFAULT}
use Rattle.link_core.specs.declared.options.LinkOptions.{LinkOptions}
use Rattle.link_core.specs.declared.resolution.Bound.TheVariants as bounds
use Rattle.link_core.specs.Binding.{Binding, Defined, Allotted, Provided, Taken, Unbound}
use Rattle.link_core.specs.Exports.{is_spoken_of, is_own, is_exported, is_preemptible, is_offered, is_shared, is_visible}
use Rattle.link_core.specs.Mentions.{Mention, are_weak, strictest}
use Rattle.link_core.specs.Resolution.{bound_by, is_defined_by_one}
use Rattle.link_core.specs.Side.{Library}
use Rattle.link_binding.specs.declared.bind.Bind.{Bind}
use Rattle.link_binding.specs.Bind.{bind_of}
use Rattle.link_binding.specs.Row.{is_bound_here, is_offered_by, is_shown, row_bound}
use Rattle.link_binding.specs.WantedNames.{wants}

or_swap : (a b c d : Bool) → ((a || b) || (c || d)) ≡ ((a || c) || (b || d))
or_swap true b c d = refl
or_swap false true true d = refl
or_swap false true false d = refl
or_swap false false c d = refl

by_both : (a b : Bool) → (b || a) ≡ (a || b)
by_both true true = refl
by_both true false = refl
by_both false true = refl
by_both false false = refl

pub spoken_by_parts : (name : List ℕ) (libraries : List Library) → list_any (is_spoken_of name) libraries ≡ (list_any (wants name) libraries || is_defined_by_one libraries name)
unfolding is_spoken_of
spoken_by_parts name [] = refl
spoken_by_parts name (l ∷ ls) =
    ap (λ t. (is_some (l.facts.fact_of name) || wants name l) || t) (spoken_by_parts name ls)
    ∙ ap (λ t. t || (list_any (wants name) ls || is_defined_by_one ls name)) (by_both (wants name l) (is_some (l.facts.fact_of name)))
    ∙ or_swap (wants name l) (is_some (l.facts.fact_of name)) (list_any (wants name) ls) (is_defined_by_one ls name)

pub own_by_bound : (binding : Binding) (mentions : List Mention) → is_own binding ≡ is_bound_here (bound_by binding mentions)
own_by_bound (Defined m) mentions = refl
own_by_bound Allotted mentions = refl
own_by_bound Provided mentions = refl
own_by_bound (Taken library fact) mentions = refl
own_by_bound Unbound mentions =
    elim (are_weak mentions) as (λ w. false ≡ is_bound_here (cond w bounds.Zero bounds.Import)) [ true ↦ refl | false ↦ refl ]

pub offered_by_bound : (binding : Binding) (mentions : List Mention) (visibility : ℕ) → is_offered binding visibility ≡ is_offered_by (bound_by binding mentions) visibility
offered_by_bound binding mentions visibility = ap (λ own. own && is_visible visibility) (own_by_bound binding mentions)

pub exported_by_bound : (options : LinkOptions) (libraries : List Library) (name : List ℕ) (binding : Binding) (mentions : List Mention) (visibility : ℕ) → is_exported options libraries name binding visibility ≡ (is_offered_by (bound_by binding mentions) visibility && is_shown options libraries name)
unfolding is_exported
exported_by_bound options libraries name binding mentions visibility =
    ap (λ offered. offered && is_shown options libraries name) (offered_by_bound binding mentions visibility)

pub preemptible_by_bound : (options : LinkOptions) (binding : Binding) (mentions : List Mention) (visibility : ℕ) → is_preemptible options binding visibility ≡ ((is_offered_by (bound_by binding mentions) visibility && is_shared options.kind) && visibility == STV_DEFAULT)
unfolding is_preemptible
preemptible_by_bound options binding mentions visibility =
    ap (λ offered. offered && is_shared options.kind && visibility == STV_DEFAULT) (offered_by_bound binding mentions visibility)

-- the row by what the name is bound to
pub row_is : (options : LinkOptions) (libraries : List Library) (name : List ℕ) (binding : Binding) (mentions : List Mention) (bind : Bind) (offered exported preemptible : Bool) → bind ≡ bind_of binding mentions → offered ≡ is_offered_by bind.bound (strictest mentions) → exported ≡ (offered && is_shown options libraries name) → preemptible ≡ (offered && is_shared options.kind && strictest mentions == STV_DEFAULT) → record { name = name; bound = bind.bound; class = bind.class; weak_only = are_weak mentions; visibility = strictest mentions; exported = exported; preemptible = preemptible } ≡ row_bound options libraries name binding mentions
row_is options libraries name binding mentions bind offered exported preemptible e o x p =
    let visibility = strictest mentions in
    let same : offered ≡ is_offered_by (bound_by binding mentions) visibility = o ∙ ap (λ b. is_offered_by b.bound visibility) e in
    let exports : exported ≡ is_exported options libraries name binding visibility = x ∙ ap (λ b. b && is_shown options libraries name) same ∙ sym (exported_by_bound options libraries name binding mentions visibility) in
    let gives_way : preemptible ≡ is_preemptible options binding visibility = p ∙ ap (λ b. b && is_shared options.kind && visibility == STV_DEFAULT) same ∙ sym (preemptible_by_bound options binding mentions visibility) in
    λ i. record { name = name; bound = (e i).bound; class = (e i).class; weak_only = are_weak mentions; visibility = visibility; exported = exports i; preemptible = gives_way i }

-- the same, of values that are these
pub row_made : (options : LinkOptions) (libraries : List Library) (name : List ℕ) (binding : Binding) (mentions : List Mention) (text : List ℕ) (bind : Bind) (weak : Bool) (visibility : ℕ) (offered exported preemptible : Bool) → text ≡ name → bind ≡ bind_of binding mentions → weak ≡ are_weak mentions → visibility ≡ strictest mentions → offered ≡ is_offered_by bind.bound visibility → exported ≡ (offered && is_shown options libraries name) → preemptible ≡ (offered && is_shared options.kind && visibility == STV_DEFAULT) → record { name = text; bound = bind.bound; class = bind.class; weak_only = weak; visibility = visibility; exported = exported; preemptible = preemptible } ≡ row_bound options libraries name binding mentions
row_made options libraries name binding mentions text bind weak visibility offered exported preemptible n e w v o x p =
    (λ i. record { name = n i; bound = bind.bound; class = bind.class; weak_only = w i; visibility = v i; exported = exported; preemptible = preemptible })
    ∙ row_is options libraries name binding mentions bind offered exported preemptible e (o ∙ ap (is_offered_by bind.bound) v) x (p ∙ ap (λ k. offered && is_shared options.kind && k == STV_DEFAULT) v)
