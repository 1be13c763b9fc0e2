-- Passes over references, turn by turn.
use Rattle.std.proofs.Common.{◌≡◌, ℕ, ◌+◌, ◌<◌, ◌≤◌, Bool, if◌then◌else◌, List, length, drop, get_or, Option, Result, Ok, Err, refl, sym, ap, ◌∙◌, subst, inl, inr}
use Rattle.std.specs.Prelude.{pos}
use Rattle.std.specs.declared.vec.Vec.{Vec}
use Rattle.std.proofs.lemmas.List.{at_drop_more, drop_all}
use Rattle.std.specs.List.{enumerate_from}
use Rattle.ifs_bytes.specs.Outcome.{◌>>=◌, UnlessMemory}
use Rattle.elf_object.specs.declared.reference.Reference.{Reference}
use Rattle.elf_object.specs.Record.{ObjectRecord}
use Rattle.link_machine.specs.Rules.{MachineRules}
use Rattle.link_core.specs.declared.refusal.LinkRefusal.{LinkRefusal}
use Rattle.link_core.specs.declared.refusal.LinkStop.{LinkStop}
use Rattle.link_core.specs.declared.refusal.LinkStop.TheVariants as stops
use Rattle.link_core.specs.Kept.{is_kept}
use Rattle.link_core.specs.Plan.{Needed, needed_by}
use Rattle.link_core.specs.References.{Use, target_of}
use Rattle.link_targets.specs.declared.target.Target.{Target as Code}
use Rattle.link_targets.specs.Targets.{target_at}
use Rattle.link_needs.specs.Needs.{stopped, needed_with}
use Rattle.link_uses.specs.Uses.{Taken, seen}
use Rattle.link_uses.specs.Passes.{Given, after, left, AreKept, AreTargets, has_flag, looked_up, goes, use_of, turn_with, reference_turn, object_turn, goes_from}

-- ---- what a turn answers, where memory may run out

pub turn_ok : {S : Type 0} (s : S) (meant : Result S LinkRefusal)
    → UnlessMemory stops.Memory (Ok s) (stopped meant) → meant ≡ Ok s
turn_ok s (Ok x) (inl e) = absurd (cc)
turn_ok s (Ok x) (inr e) = cc
turn_ok s (Err r) (inl e) = absurd (cc)
turn_ok s (Err r) (inr e) = absurd (cc)

abbrev stop_in : {S : Type 0} → Result S LinkStop → LinkStop → LinkStop
stop_in (Ok x) other = other
stop_in (Err e) other = e

same_stop : {S T : Type 0} (a b : LinkStop) → ◌≡◌ {A = Result S LinkStop} (Err a) (Err b)
    → ◌≡◌ {A = Result T LinkStop} (Err a) (Err b)
same_stop {S} {T} a b e =
    let stops_are : a ≡ b = ap (λ (r : Result S LinkStop). stop_in r a) e in
    ap (λ (c : LinkStop). Err c) stops_are

pub turn_err : {S T : Type 0} (stop : LinkStop) (meant : Result S LinkRefusal)
    (next : S → Result T LinkRefusal) → UnlessMemory stops.Memory (Err stop) (stopped meant)
    → UnlessMemory stops.Memory (Err stop) (stopped (meant >>= next))
turn_err stop (Ok x) next (inl e) = inl (same_stop stop stops.Memory e)
turn_err stop (Ok x) next (inr e) = absurd (cc)
turn_err stop (Err r) next (inl e) = inl (same_stop stop stops.Memory e)
turn_err stop (Err r) next (inr e) = inr (same_stop stop (stops.Refused r) e)

-- a stop is handed on as it is
pub seen_on : {T Z : Type 0} (r : Result (Vec T Z) LinkStop) (stop : LinkStop)
    (meant : Result (List T) LinkStop) → (y : LinkStop) × (r ≡ Err y) × (y ≡ stop)
    → UnlessMemory stops.Memory (Err stop) meant → UnlessMemory stops.Memory (seen r) meant
seen_on {T} {Z} r stop meant out h =
    let same : seen r ≡ Err stop =
    ap (λ (v : Result (Vec T Z) LinkStop). seen v) out.1 ∙ ap (λ (e : LinkStop). Err e) out.2 in
    subst (λ (t : Result (List T) LinkStop). UnlessMemory stops.Memory t meant) (sym same) h

pub handed_on : {S : Type 0} (s : S) (r : Result (Unit {0}) LinkStop) (stop : LinkStop)
    (meant : Result S LinkStop) → (y : LinkStop) × (r ≡ Err y) × (y ≡ stop)
    → UnlessMemory stops.Memory (Err stop) meant → UnlessMemory stops.Memory (left s r) meant
handed_on {S} s r stop meant out h =
    let same : left s r ≡ Err stop = ap (left s) out.1 ∙ ap (λ (e : LinkStop). Err e) out.2 in
    subst (λ (t : Result S LinkStop). UnlessMemory stops.Memory t meant) (sym same) h

-- ---- a pass

module _ {S X : Type 0} (turn : S → X → Result S LinkRefusal) where
  pass_more : (s : S) (xs : List X) (i : ℕ) (d x : X) → i < length xs → get_or xs i d ≡ x
      → goes turn s (drop i xs) ≡ turn s x >>= (λ next. goes turn next (drop (i + 1) xs))
  pass_more s xs i d x h e =
      at_drop_more (goes turn s) xs i d h
      ∙ ap (λ y. turn s y >>= (λ next. goes turn next (drop (i + 1) xs))) e

  pub pass_done : (s : S) (xs : List X) (i : ℕ) → length xs ≤ i → goes turn s (drop i xs) ≡ Ok s
  pass_done s xs i h = ap (goes turn s) (drop_all i xs h)

  -- a turn that is done
  pub pass_on : (s next : S) (xs : List X) (i : ℕ) (d x : X) (whole meant : Result S LinkRefusal)
      → i < length xs → get_or xs i d ≡ x → meant ≡ turn s x
      → UnlessMemory stops.Memory (Ok next) (stopped meant)
      → goes turn s (drop i xs) ≡ whole → goes turn next (drop (i + 1) xs) ≡ whole
  pass_on s next xs i d x whole meant h e is answer so_far =
      let done : turn s x ≡ Ok next = sym is ∙ turn_ok next meant answer in
      sym (pass_more s xs i d x h e
      ∙ ap (λ (r : Result S LinkRefusal). r >>= (λ n. goes turn n (drop (i + 1) xs))) done) ∙ so_far

  -- a turn that ends the pass
  pub pass_ends : (s : S) (xs : List X) (i : ℕ) (d x : X) (whole meant : Result S LinkRefusal)
      (stop : LinkStop) → i < length xs → get_or xs i d ≡ x → meant ≡ turn s x
      → UnlessMemory stops.Memory (Err stop) (stopped meant)
      → goes turn s (drop i xs) ≡ whole → UnlessMemory stops.Memory (Err stop) (stopped whole)
  pass_ends s xs i d x whole meant stop h e is answer so_far =
      let rest : S → Result S LinkRefusal = λ n. goes turn n (drop (i + 1) xs) in
      let same : meant >>= rest ≡ whole =
      ap (λ (r : Result S LinkRefusal). r >>= rest) is ∙ sym (pass_more s xs i d x h e) ∙ so_far in
      subst (λ (r : Result S LinkRefusal). UnlessMemory stops.Memory (Err stop) (stopped r)) same
      (turn_err stop meant rest answer)

-- ---- one reference

pub needed_is : (rules : MachineRules) (g : Given) (u : Use)
    → needed_by rules g.options g.objects g.names u
    ≡ needed_with rules g.options u (target_at g.names g.objects u.object u.record_of u.reference.symbol)
unfolding needed_by needed_with target_of target_at
needed_is rules g u = refl

pub turn_is : (rules : MachineRules) (g : Given) (object : ℕ) (o : ObjectRecord) (kept : List Bool)
    (table : List (Option Code)) (s : List Taken) (reference : Reference)
    → AreKept g.names.dropped object o kept → AreTargets g object o table
    → turn_with rules g.options (has_flag kept reference.section)
    (looked_up g.names object table reference.symbol) s (use_of object o reference)
    ≡ reference_turn rules g object o s reference
unfolding turn_with reference_turn
turn_is rules g object o kept table s reference are_kept are_targets =
    let u = use_of object o reference in
    ap (λ t. turn_with rules g.options (has_flag kept reference.section) t s u) (are_targets reference.symbol)
    ∙ ap (λ k. turn_with rules g.options k (target_at g.names g.objects object o reference.symbol) s u)
    (are_kept reference.section)
    ∙ ap
    (λ (r : Result Needed LinkRefusal).
    if is_kept g.names.dropped object o reference.section then r >>= (λ n. Ok (after s u n)) else Ok s)
    (sym (needed_is rules g u))

-- ---- the references of an object

abbrev pub blank : Reference
blank = record { section = 0; index = 0; offset = 0; symbol = 0; kind = 0; addend = pos 0 }

module _ (rules : MachineRules) (g : Given) (object : ℕ) (o : ObjectRecord) (kept : List Bool)
    (table : List (Option Code)) where
  abbrev turn : List Taken → Reference → Result (List Taken) LinkRefusal
  turn = reference_turn rules g object o

  abbrev code_turn : List Taken → Reference → Result (List Taken) LinkRefusal
  code_turn s r =
      turn_with rules g.options (has_flag kept r.section) (looked_up g.names object table r.symbol) s
      (use_of object o r)

  pub reference_on : (s next : List Taken) (items : List Reference) (i : ℕ)
      (whole : Result (List Taken) LinkRefusal) → AreKept g.names.dropped object o kept
      → AreTargets g object o table → items ≡ o.references → i < length items
      → UnlessMemory stops.Memory (Ok next) (stopped (code_turn s (get_or items i blank)))
      → goes turn s (drop i o.references) ≡ whole → goes turn next (drop (i + 1) o.references) ≡ whole
  reference_on s next items i whole are_kept are_targets e h answer so_far =
      let r = get_or items i blank in
      pass_on turn s next o.references i blank r whole (code_turn s r)
      (subst (λ (xs : List Reference). i < length xs) e h)
      (ap (λ (xs : List Reference). get_or xs i blank) (sym e))
      (turn_is rules g object o kept table s r are_kept are_targets) answer so_far

  pub reference_ends : (s : List Taken) (items : List Reference) (i : ℕ) (stop : LinkStop)
      (before : List Taken) → AreKept g.names.dropped object o kept → AreTargets g object o table
      → items ≡ o.references → i < length items
      → UnlessMemory stops.Memory (Err stop) (stopped (code_turn s (get_or items i blank)))
      → goes turn s (drop i o.references) ≡ goes turn before o.references
      → UnlessMemory stops.Memory (Err stop) (stopped (object_turn rules g before (object, o)))
  unfolding object_turn
  reference_ends s items i stop before are_kept are_targets e h answer so_far =
      let r = get_or items i blank in
      pass_ends turn s o.references i blank r (goes turn before o.references) (code_turn s r) stop
      (subst (λ (xs : List Reference). i < length xs) e h)
      (ap (λ (xs : List Reference). get_or xs i blank) (sym e))
      (turn_is rules g object o kept table s r are_kept are_targets) answer so_far

  pub references_done : (s before : List Taken) (items : List Reference) (i : ℕ) → items ≡ o.references
      → length items ≤ i → goes turn s (drop i o.references) ≡ goes turn before o.references
      → UnlessMemory stops.Memory (Ok s) (stopped (object_turn rules g before (object, o)))
  unfolding object_turn
  references_done s before items i e h so_far =
      let done : goes turn before o.references ≡ Ok s =
      sym so_far ∙ pass_done turn s o.references i (subst (λ (xs : List Reference). length xs ≤ i) e h) in
      inr (sym (ap (λ (r : Result (List Taken) LinkRefusal). stopped r) done))

-- ---- the objects

module _ (rules : MachineRules) (g : Given) where
  objects_more : (s : List Taken) (i : ℕ) (d : ObjectRecord) → i < length g.objects
      → goes_from rules g s i
      ≡ object_turn rules g s (i, get_or g.objects i d) >>= (λ next. goes_from rules g next (i + 1))
  objects_more s i d h = ap (goes (object_turn rules g) s) (at_drop_more (enumerate_from i) g.objects i d h)

  pub objects_end : (s : List Taken) (i : ℕ) (objects : List ObjectRecord) (d : ObjectRecord)
      (whole : Result (List Taken) LinkRefusal) (stop : LinkStop) → objects ≡ g.objects → i < length objects
      → UnlessMemory stops.Memory (Err stop) (stopped (object_turn rules g s (i, get_or objects i d)))
      → goes_from rules g s i ≡ whole → UnlessMemory stops.Memory (Err stop) (stopped whole)
  objects_end s i objects d whole stop same h answer so_far =
      let within : i < length g.objects = subst (λ (os : List ObjectRecord). i < length os) same h in
      let here =
      subst (λ (os : List ObjectRecord). UnlessMemory stops.Memory (Err stop)
      (stopped (object_turn rules g s (i, get_or os i d)))) same answer in
      let rest : List Taken → Result (List Taken) LinkRefusal = λ n. goes_from rules g n (i + 1) in
      subst (λ (r : Result (List Taken) LinkRefusal). UnlessMemory stops.Memory (Err stop) (stopped r))
      (sym (objects_more s i d within) ∙ so_far)
      (turn_err stop (object_turn rules g s (i, get_or g.objects i d)) rest here)
