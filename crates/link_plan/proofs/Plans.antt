-- The lists of what references need, and the plan of these lists.
use Rattle.std.proofs.Common.{◌≡◌, ℕ, ◌==◌, List, [], ◌∷◌, ◌++◌, Result, Ok, Err, refl, sym, ap, ◌∙◌, subst, inr}
use Rattle.std.specs.Prelude.{fold}
use Rattle.std.specs.Option.{option_to_list}
use Rattle.std.specs.Cmp.{nat_eq_equiv}
use Rattle.std.proofs.lemmas.List.Folds.{fold-map}
use Rattle.ifs_bytes.specs.Outcome.{◌>>=◌, UnlessMemory}
use Rattle.elf_object.specs.Record.{ObjectRecord}
use Rattle.link_machine.specs.Rules.{MachineRules}
use Rattle.link_core.specs.declared.options.LinkOptions.{LinkOptions}
use Rattle.link_core.specs.declared.plan.DynReloc.{DynReloc}
use Rattle.link_core.specs.declared.plan.GotSlot.{GotSlot}
use Rattle.link_core.specs.declared.plan.Plan.{Plan}
use Rattle.link_core.specs.declared.refusal.LinkRefusal.{LinkRefusal}
use Rattle.link_core.specs.declared.refusal.LinkStop.{LinkStop}
use Rattle.link_core.specs.declared.refusal.LinkStop.TheVariants as stops
use Rattle.link_core.specs.declared.resolution.Resolution.{Resolution}
use Rattle.link_core.specs.Plan.{Needed, planned, plan_of, same_slot, slots_of, entries_of, moves_of, slot_for, entry_for, move_for}
use Rattle.link_needs.specs.Needs.{Lists, no_lists, after, put, stopped}
use Rattle.link_uses.specs.Laws.{PlanIsOfTaken}
use Rattle.link_uses.specs.Uses.{Taken, taken_of}
use Rattle.link_uses.proofs.Passes.{turn_ok, turn_err}
use Rattle.link_plan.specs.Lists.{needs_of, lists_of, plan_with}
use Rattle.link_plan.proofs.Slots.{same_slots}
use Rattle.link_plan.proofs.Once.{puts_once, pushed}

-- ---- the lists of all needs

got_are : (ns : List Needed) (s : Lists)
    → (fold after s ns).got ≡ fold (λ zs n. put same_slot zs (slot_for n.symbol n.need)) s.got ns
unfolding after
got_are [] s = refl
got_are (n ∷ ns) s = got_are ns (after s n)

plt_are : (ns : List Needed) (s : Lists)
    → (fold after s ns).plt ≡ fold (λ zs n. put (λ i j. i == j) zs (entry_for n.symbol n.need)) s.plt ns
unfolding after
plt_are [] s = refl
plt_are (n ∷ ns) s = plt_are ns (after s n)

moves_are : (ns : List Needed) (s : Lists)
    → (fold after s ns).moves
    ≡ fold (λ zs n. zs ++ option_to_list (move_for n.at n.symbol n.need)) s.moves ns
unfolding after
moves_are [] s = refl
moves_are (n ∷ ns) s = moves_are ns (after s n)

joined : (a d : List GotSlot) (b e : List ℕ) (c f : List DynReloc) → a ≡ d → b ≡ e → c ≡ f
    → ◌≡◌ {A = Lists} (record { got = a; plt = b; moves = c }) (record { got = d; plt = e; moves = f })
joined a d b e c f p q r =
    let make : List GotSlot → List ℕ → List DynReloc → Lists =
    λ x y z. record { got = x; plt = y; moves = z } in
    ap (λ x. make x b c) p ∙ ap (λ y. make d y c) q ∙ ap (λ z. make d e z) r

lists_are : (ns : List Needed) → fold after no_lists ns ≡ lists_of ns
unfolding slots_of entries_of moves_of
lists_are ns =
    let all = fold after no_lists ns in
    joined all.got (slots_of ns) all.plt (entries_of ns) all.moves (moves_of ns)
    (got_are ns no_lists ∙ puts_once same_slot same_slots (λ n. slot_for n.symbol n.need) ns)
    (plt_are ns no_lists ∙ puts_once (λ i j. i == j) nat_eq_equiv (λ n. entry_for n.symbol n.need) ns)
    (moves_are ns no_lists ∙ pushed (λ n. move_for n.at n.symbol n.need) ns [])

-- ---- reference by reference

-- the lists after what some references need
abbrev pub grown : Lists → List Taken → Lists
grown s ts = fold (λ t x. after t x.needed) s ts

pub grown_whole : (ts : List Taken) → grown no_lists ts ≡ lists_of (needs_of ts)
grown_whole ts = sym (fold-map after (λ t. t.needed) no_lists ts) ∙ lists_are (needs_of ts)

-- ---- the plan

-- a stop is handed on as it is
pub handed : (r : Result Plan LinkStop) (stop : LinkStop) (meant : Result Plan LinkStop)
    → (y : LinkStop) × (r ≡ Err y) × (y ≡ stop) → UnlessMemory stops.Memory (Err stop) meant
    → UnlessMemory stops.Memory r meant
handed r stop meant out h =
    let same : r ≡ Err stop = out.1 ∙ ap (λ (e : LinkStop). Err e) out.2 in
    subst (λ (t : Result Plan LinkStop). UnlessMemory stops.Memory t meant) (sym same) h

module _ (rules : MachineRules) (options : LinkOptions) (objects : List ObjectRecord) (r : Resolution) where
  abbrev taken : Result (List Taken) LinkRefusal
  taken = taken_of rules options objects r

  abbrev made : Result Plan LinkRefusal
  made = plan_of rules options objects r

  pub plan_ends : PlanIsOfTaken → (stop : LinkStop) → UnlessMemory stops.Memory (Err stop) (stopped taken)
      → UnlessMemory stops.Memory (Err stop) (stopped made)
  plan_ends law stop answer =
      subst (λ (q : Result Plan LinkRefusal). UnlessMemory stops.Memory (Err stop) (stopped q))
      (sym (law rules options objects r))
      (turn_err stop taken (λ ts. Ok (planned r (needs_of ts))) answer)

  pub plan_done : PlanIsOfTaken → (ts : List Taken) (s : Lists) (p : Plan)
      → UnlessMemory stops.Memory (Ok ts) (stopped taken) → s ≡ lists_of (needs_of ts)
      → p ≡ plan_with r s → UnlessMemory stops.Memory (Ok p) (stopped made)
  plan_done law ts s p answer grew is =
      let done : made ≡ Ok (planned r (needs_of ts)) =
      law rules options objects r
      ∙ ap (λ (q : Result (List Taken) LinkRefusal). q >>= (λ xs. Ok (planned r (needs_of xs))))
      (turn_ok ts taken answer) in
      let same : p ≡ planned r (needs_of ts) = is ∙ ap (plan_with r) grew in
      inr (ap (λ (q : Plan). Ok q) same ∙ sym (ap (λ (q : Result Plan LinkRefusal). stopped q) done))
