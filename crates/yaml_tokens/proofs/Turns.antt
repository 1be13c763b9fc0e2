-- Turns of the pass that finds the fault of the pieces.
use Rattle.std.proofs.Common.{◌≡◌, ℕ, zero, suc, ◌+◌, ◌-◌, ◌≤◌, Bool, true, false, cond, ◌&&◌, ◌||◌, ◌==◌, nat_lt, nat_le, List, [], ◌∷◌, ◌++◌, Option, Some, None, refl, ap, sym, ◌∙◌, arith, append_assoc, append-nil}
use Rattle.std.specs.List.{filter_map, cons_option}
use Rattle.std.specs.Option.{option_to_list}
use Rattle.std.proofs.lemmas.Bool.Decides.{nat_tests}
use Rattle.yaml_tokens.specs.Least.{first_of, goes_before, rank}
use Rattle.yaml_tokens.specs.Faults.{Step, Up, Down, Fresh, Level as Same, step_of, offset, fault_at, stays_open, unclosed, least, own_fault}
use Rattle.yaml_tokens.specs.Brackets.{turned, turned_by, found_in, open_count}
use Rattle.yaml_tokens.specs.Tokens.{token_of}
use Rattle.yaml_tokens.specs.declared.token.Token.{Token}
use Rattle.yaml_tokens.specs.Pieces.{PieceRecord}
use Rattle.yaml_tokens.specs.declared.kind.YamlKind.TheVariants.{Unclosed as NotClosed}
use Rattle.yaml_tokens.specs.declared.kind.Fault.{Fault}
use Rattle.yaml_tokens.specs.declared.fault.Brackets.{Brackets}
use Rattle.yaml_tokens.specs.declared.fault.Brackets.TheVariants.{Level, Open, Unclosed}

-- the first bracket that stays open, where these are open before the pieces
abbrev pub found_by : Brackets → List PieceRecord → Option Fault
found_by Level ps = unclosed ps
found_by (Open first n) ps = cond (stays_open (suc n) ps) (Some (fault_at first NotClosed)) (unclosed ps)
found_by (Unclosed first) ps = Some (fault_at first NotClosed)

pub found_end : (b : Brackets) → found_by b [] ≡ found_in b
found_end Level = refl
found_end (Open first n) = refl
found_end (Unclosed first) = refl

pub first_of_none : (f : Option Fault) → first_of f None ≡ f
unfolding first_of
first_of_none None = refl
first_of_none (Some f) = refl

-- more brackets stay open where fewer do
stays_more : (n : ℕ) (ps : List PieceRecord) → stays_open n ps ≡ true → stays_open (suc n) ps ≡ true
stays_more zero ps h = let e : false ≡ true = h in cc
stays_more (suc n) [] h = refl
stays_more (suc n) (p ∷ ps) h =
    elim (step_of p.kind)
    as (λ s. (elim s [ Up ↦ stays_open (suc (suc n)) ps | Down ↦ stays_open n ps | Same ↦ stays_open (suc n) ps | Fresh ↦ true ]) ≡ true
    → (elim s [ Up ↦ stays_open (suc (suc (suc n))) ps | Down ↦ stays_open (suc n) ps | Same ↦ stays_open (suc (suc n)) ps | Fresh ↦ true ]) ≡ true)
    [ Up ↦ λ q. stays_more (suc (suc n)) ps q | Down ↦ λ q. stays_more n ps q | Same ↦ λ q. stays_more (suc n) ps q | Fresh ↦ λ q. refl ] h

stays_beyond : (n : ℕ) (ps : List PieceRecord) → stays_open 1 ps ≡ true → stays_open (suc n) ps ≡ true
stays_beyond zero ps h = h
stays_beyond (suc n) ps h = stays_more (suc n) ps (stays_beyond n ps h)

outer : {X : Type 0} (more one : Bool) (x y z : X) → (one ≡ true → more ≡ true) → cond more x (cond one y z) ≡ cond more x z
outer true one x y z h = refl
outer false false x y z h = refl
outer false true x y z h = let e : false ≡ true = h refl in cc

down : (n first : ℕ) (ps : List PieceRecord) → cond (stays_open n ps) (Some (fault_at first NotClosed)) (unclosed ps) ≡ found_by (turned_by Down (Open first n) 0) ps
down zero first ps = refl
down (suc n) first ps = let e : n ≡ suc n - 1 = omega arith in
    let f : (suc n == 0) ≡ false = grind (arith, nat_tests) in
    ap (λ k. found_by (Open first k) ps) e ∙ ap (λ t. found_by (cond t Level (Open first (suc n - 1))) ps) (sym f)

turn_by : (s : Step) (b : Brackets) (p : PieceRecord) (ps : List PieceRecord) → step_of p.kind ≡ s → found_by b (p ∷ ps) ≡ found_by (turned_by s b (offset p)) ps
turn_by s Level p ps e =
    let F : Step → Option Fault = λ t. elim t [ Up ↦ cond (stays_open 1 ps) (Some (fault_at (offset p) NotClosed)) (unclosed ps) | Down ↦ unclosed ps | Same ↦ unclosed ps | Fresh ↦ unclosed ps ] in
    let P : Step → Type 0 = λ t. F t ≡ found_by (turned_by t Level (offset p)) ps in
    ap F e ∙ (elim s as P [ Up ↦ refl | Down ↦ refl | Same ↦ refl | Fresh ↦ refl ])
turn_by s (Open first n) p ps e =
    let F : Step → Option Fault = λ t. elim t [ Up ↦ cond (stays_open 1 ps) (Some (fault_at (offset p) NotClosed)) (unclosed ps) | Down ↦ unclosed ps | Same ↦ unclosed ps | Fresh ↦ unclosed ps ] in
    let S : Step → Bool = λ t. elim t [ Up ↦ stays_open (suc (suc n)) ps | Down ↦ stays_open n ps | Same ↦ stays_open (suc n) ps | Fresh ↦ true ] in
    let G : Step → Option Fault = λ t. cond (S t) (Some (fault_at first NotClosed)) (F t) in
    let P : Step → Type 0 = λ t. G t ≡ found_by (turned_by t (Open first n) (offset p)) ps in
    let up : suc n ≡ n + 1 = omega arith in
    ap G e ∙ (elim s as P [
      | Up ↦ outer (stays_open (suc (suc n)) ps) (stays_open 1 ps) (Some (fault_at first NotClosed)) (Some (fault_at (offset p) NotClosed)) (unclosed ps) (stays_beyond (suc n) ps)
          ∙ ap (λ k. found_by (Open first k) ps) up
      | Down ↦ down n first ps
      | Same ↦ refl
      | Fresh ↦ refl
    ])
turn_by s (Unclosed first) p ps e =
    let P : Step → Type 0 = λ t. Some (fault_at first NotClosed) ≡ found_by (turned_by t (Unclosed first) (offset p)) ps in
    elim s as P [ Up ↦ refl | Down ↦ refl | Same ↦ refl | Fresh ↦ refl ]

pub bracket_turn : (b : Brackets) (p : PieceRecord) (ps : List PieceRecord) → found_by b (p ∷ ps) ≡ found_by (turned b p) ps
bracket_turn b p ps = turn_by (step_of p.kind) b p ps refl

-- of three faults it doesn't matter which two are compared first
abbrev earlier : ℕ → ℕ → ℕ → ℕ → Bool
earlier a i b j = nat_lt a b || (a == b && nat_le i j)

earlier_trans : (a i b j c k : ℕ) → earlier a i b j ≡ true → earlier b j c k ≡ true → earlier a i c k ≡ true
earlier_trans a i b j c k f g = grind (arith, nat_tests)

later_trans : (a i b j c k : ℕ) → earlier a i b j ≡ false → earlier b j c k ≡ false → earlier a i c k ≡ false
later_trans a i b j c k f g = grind (arith, nat_tests)

abbrev first : Fault → Fault → Fault
first f g = cond (goes_before f g) f g

first_by : (f g h : Fault) (x y : Bool) → goes_before f g ≡ x → goes_before g h ≡ y → first (first f g) h ≡ first f (first g h)
first_by f g h true true ex ey =
    let ez : goes_before f h ≡ true = earlier_trans f.at (rank f.kind) g.at (rank g.kind) h.at (rank h.kind) ex ey in
    let fg : first f g ≡ f = ap (λ t. cond t f g) ex in
    let gh : first g h ≡ g = ap (λ t. cond t g h) ey in
    ap (λ w. first w h) fg ∙ ap (λ t. cond t f h) ez ∙ sym fg ∙ ap (first f) (sym gh)
first_by f g h true false ex ey =
    let fg : first f g ≡ f = ap (λ t. cond t f g) ex in
    let gh : first g h ≡ h = ap (λ t. cond t g h) ey in
    ap (λ w. first w h) fg ∙ ap (first f) (sym gh)
first_by f g h false true ex ey =
    let fg : first f g ≡ g = ap (λ t. cond t f g) ex in
    let gh : first g h ≡ g = ap (λ t. cond t g h) ey in
    ap (λ w. first w h) fg ∙ gh ∙ sym fg ∙ ap (first f) (sym gh)
first_by f g h false false ex ey =
    let ez : goes_before f h ≡ false = later_trans f.at (rank f.kind) g.at (rank g.kind) h.at (rank h.kind) ex ey in
    let fg : first f g ≡ g = ap (λ t. cond t f g) ex in
    let gh : first g h ≡ h = ap (λ t. cond t g h) ey in
    ap (λ w. first w h) fg ∙ gh ∙ sym (ap (λ t. cond t f h) ez) ∙ ap (first f) (sym gh)

pub first_of_three : (a b c : Option Fault) → first_of (first_of a b) c ≡ first_of a (first_of b c)
unfolding first_of
first_of_three None b c = refl
first_of_three (Some f) None c = refl
first_of_three (Some f) (Some g) None = refl
first_of_three (Some f) (Some g) (Some h) = ap Some (first_by f g h (goes_before f g) (goes_before g h) refl refl)

-- a turn of the pass that finds the fault
pub least_turn : (fault fault' : Option Fault) (p : PieceRecord) (ps qs : List PieceRecord) (all : Option Fault) → fault' ≡ first_of fault (own_fault p) → ps ≡ p ∷ qs
    → first_of fault (least ps) ≡ all → first_of fault' (least qs) ≡ all
least_turn fault fault' p ps qs all e cuts so_far =
    ap (λ f. first_of f (least qs)) e ∙ first_of_three fault (own_fault p) (least qs) ∙ ap (λ w. first_of fault (least w)) (sym cuts) ∙ so_far

pub found_turn : (b b' : Brackets) (p : PieceRecord) (ps qs : List PieceRecord) (all : Option Fault) → b' ≡ turned b p → ps ≡ p ∷ qs → found_by b ps ≡ all → found_by b' qs ≡ all
found_turn b b' p ps qs all e cuts so_far = ap (λ w. found_by w qs) e ∙ sym (bracket_turn b p qs) ∙ ap (found_by b) (sym cuts) ∙ so_far

count_by_step : (s : Step) (b : Brackets) (at : ℕ) → open_count (turned_by s b at) ≤ open_count b + 1
count_by_step s Level at = elim s as (λ t. open_count (turned_by t Level at) ≤ 1) [ Up ↦ omega arith | Down ↦ omega arith | Same ↦ omega arith | Fresh ↦ omega arith ]
count_by_step s (Open first n) at =
    let down : open_count (cond (n == 0) Level (Open first (n - 1))) ≤ n + 1 =
    elim (n == 0) as (λ t. open_count (cond t Level (Open first (n - 1))) ≤ n + 1) [ true ↦ omega arith | false ↦ omega arith ] in
    elim s as (λ t. open_count (turned_by t (Open first n) at) ≤ n + 1) [ Up ↦ omega arith | Down ↦ down | Same ↦ omega arith | Fresh ↦ omega arith ]
count_by_step s (Unclosed first) at = elim s as (λ t. open_count (turned_by t (Unclosed first) at) ≤ 1) [ Up ↦ omega arith | Down ↦ omega arith | Same ↦ omega arith | Fresh ↦ omega arith ]

pub count_turn : (b b' : Brackets) (p : PieceRecord) → b' ≡ turned b p → open_count b' ≤ open_count b + 1
count_turn b b' p e =
    let h : open_count (turned b p) ≤ open_count b + 1 = count_by_step (step_of p.kind) b (offset p) in
    let g : open_count b' ≡ open_count (turned b p) = ap open_count e in
    omega arith

-- and its end
pub fault_end : (fault found least' unclosed' : Option Fault) (b : Brackets) (ps : List PieceRecord) → ps ≡ [] → first_of fault (least ps) ≡ least' → found_by b ps ≡ unclosed' → found ≡ found_in b
    → first_of fault found ≡ first_of least' unclosed'
fault_end fault found least' unclosed' b ps none el eu ef =
    let l : fault ≡ least' = sym (first_of_none fault) ∙ ap (λ w. first_of fault (least w)) (sym none) ∙ el in
    let u : found ≡ unclosed' = ef ∙ sym (found_end b) ∙ ap (found_by b) (sym none) ∙ eu in
    ap (λ w. first_of w found) l ∙ ap (first_of least') u

-- a turn of the pass that keeps the tokens
option_front : {X : Type 0} (o : Option X) (xs : List X) → cons_option o xs ≡ option_to_list o ++ xs
option_front None xs = refl
option_front (Some x) xs = refl

pub token_turn : (old new all : List Token) (p : PieceRecord) (ps qs : List PieceRecord) → new ≡ old ++ option_to_list (token_of p) → ps ≡ p ∷ qs
    → old ++ filter_map token_of ps ≡ all → new ++ filter_map token_of qs ≡ all
token_turn old new all p ps qs e cuts so_far =
    let rest = filter_map token_of qs in
    ap (λ w. w ++ rest) e ∙ append_assoc old (option_to_list (token_of p)) rest
    ∙ (ap (λ w. old ++ w) (sym (option_front (token_of p) rest)) ∙ (ap (λ w. old ++ filter_map token_of w) (sym cuts) ∙ so_far))

pub token_end : (tokens all : List Token) (ps : List PieceRecord) → ps ≡ [] → tokens ++ filter_map token_of ps ≡ all → tokens ≡ all
token_end tokens all ps none so_far = sym (append-nil tokens) ∙ ap (λ w. tokens ++ filter_map token_of w) (sym none) ∙ so_far

pub none_first_of : (f : Option Fault) → first_of None f ≡ f
unfolding first_of
none_first_of f = refl
