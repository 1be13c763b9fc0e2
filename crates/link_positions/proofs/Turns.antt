-- Turns of the loops over items and output sections.
use Rattle.std.proofs.Common.{◌≡◌, ℕ, ◌+◌, ◌≤◌, List, [], ◌∷◌, ◌++◌, drop, length, refl, ap, sym, ◌∙◌, append_assoc}
use Rattle.std.proofs.lemmas.List.{append-nil, drop_all}
use Rattle.ifs_bytes.specs.Carried.{carried}
use Rattle.link_core.specs.declared.layout.OutSection.{OutSection}
use Rattle.link_core.specs.Aligned.{aligned}
use Rattle.link_tables.specs.declared.output.FilledOutput.{FilledOutput}
use Rattle.link_tables.specs.declared.output.Item.{Item}
use Rattle.link_tables.specs.Capped.{capped}
use Rattle.link_positions.specs.declared.next.Next.{Next}
use Rattle.link_positions.specs.Next.{at, behind}
use Rattle.link_positions.specs.Standing.{address_at, common_of, commons_from, commons_in, piece_of, pieces_from, pieces_in}

-- a list that goes by its items, each with a state: what the first one gives, and what is behind it
pub turn :
    {X S Y : Type 0} (all_from : S → List X → List Y) (one : S → X → List Y) (next : S → X → S)
    → ((s : S) (x : X) (xs : List X) → all_from s (x ∷ xs) ≡ one s x ++ all_from (next s x) xs)
    → (xs : List X) (i : ℕ) (x : X) (s after : S) (old new all : List Y)
    → drop i xs ≡ x ∷ drop (i + 1) xs → new ≡ old ++ one s x → after ≡ next s x
    → old ++ all_from s (drop i xs) ≡ all → new ++ all_from after (drop (i + 1) xs) ≡ all
turn {X} {S} {Y} all_from one next law xs i x s after old new all here pushed stepped so_far =
    let rest = drop (i + 1) xs in
    ap (λ (ys : List Y). ys ++ all_from after rest) pushed
    ∙ ap (λ (t : S). (old ++ one s x) ++ all_from t rest) stepped
    ∙ append_assoc old (one s x) (all_from (next s x) rest)
    ∙ ap (λ (ys : List Y). old ++ ys) (sym (ap (all_from s) here ∙ law s x rest))
    ∙ so_far

-- ---- the four lists that go so

pub pieces_law :
    (out address place : ℕ) (x : Item) (items : List Item)
    → pieces_from out address place (x ∷ items)
    ≡ piece_of out (carried (address + capped (aligned x.align place))) x.thing
    ++ pieces_from out address (capped (capped (aligned x.align place) + x.size)) items
unfolding pieces_from
pieces_law out address place x items = refl

pub pieces_end : (out address place : ℕ) (i : ℕ) (items : List Item) → length items ≤ i → pieces_from out address place (drop i items) ≡ []
unfolding pieces_from
pieces_end out address place i items h = ap (pieces_from out address place) (drop_all i items h)

pub commons_law :
    (address place : ℕ) (x : Item) (items : List Item)
    → commons_from address place (x ∷ items)
    ≡ common_of (carried (address + capped (aligned x.align place))) x.thing
    ++ commons_from address (capped (capped (aligned x.align place) + x.size)) items
unfolding commons_from
commons_law address place x items = refl

pub commons_end : (address place : ℕ) (i : ℕ) (items : List Item) → length items ≤ i → commons_from address place (drop i items) ≡ []
unfolding commons_from
commons_end address place i items h = ap (commons_from address place) (drop_all i items h)

pub all_pieces_law :
    (sections : List OutSection) (next : Next) (o : FilledOutput) (outputs : List FilledOutput)
    → pieces_in sections next (o ∷ outputs)
    ≡ pieces_from (at next o.class) (address_at sections (at next o.class)) 0 o.items
    ++ pieces_in sections (behind next o.class) outputs
unfolding pieces_in
all_pieces_law sections next o outputs = refl

pub all_pieces_end : (sections : List OutSection) (next : Next) (i : ℕ) (outputs : List FilledOutput) → length outputs ≤ i → pieces_in sections next (drop i outputs) ≡ []
unfolding pieces_in
all_pieces_end sections next i outputs h = ap (pieces_in sections next) (drop_all i outputs h)

pub all_commons_law :
    (sections : List OutSection) (next : Next) (o : FilledOutput) (outputs : List FilledOutput)
    → commons_in sections next (o ∷ outputs)
    ≡ commons_from (address_at sections (at next o.class)) 0 o.items
    ++ commons_in sections (behind next o.class) outputs
unfolding commons_in
all_commons_law sections next o outputs = refl

pub all_commons_end : (sections : List OutSection) (next : Next) (i : ℕ) (outputs : List FilledOutput) → length outputs ≤ i → commons_in sections next (drop i outputs) ≡ []
unfolding commons_in
all_commons_end sections next i outputs h = ap (commons_in sections next) (drop_all i outputs h)

-- where the rest of a list gives nothing, what is done is all
pub done : {Y : Type 0} (old rest all : List Y) → rest ≡ [] → old ++ rest ≡ all → old ≡ all
done {Y} old rest all none so_far = sym (ap (λ (ys : List Y). old ++ ys) none ∙ append-nil old) ∙ so_far
