-- Pieces that a line of a document is cut into: their tokens, nothing wrong with them, and each bracket closed.
use Rattle.std.proofs.Common.{◌≡◌, ℕ, ◌+◌, Bool, true, false, cond, nat_lt, List, [], ◌∷◌, ◌++◌, Some, None, refl, ap, ◌∙◌, arith}
use Rattle.std.proofs.lemmas.Bool.Decides.{nat_tests}
use Rattle.std.specs.List.{list_any, filter_map, cons_option}
use Rattle.yaml_tokens.specs.Pieces.{PieceRecord, in_flow, after, after_all}
use Rattle.yaml_tokens.specs.Faults.{Up, Down, Fresh, Level as Same, step_of, offset, fault_at, own_fault, least, stays_open, unclosed}
use Rattle.yaml_tokens.specs.Tokens.{token_by, token_of}
use Rattle.yaml_tokens.specs.declared.piece.Before.{Before}
use Rattle.yaml_tokens.specs.declared.piece.Kind.{Kind}
use Rattle.yaml_tokens.specs.declared.piece.Kind.TheVariants as kind
use Rattle.yaml_tokens.specs.declared.kind.YamlKind.TheVariants.{Unclosed as NotClosed}
use Rattle.yaml_tokens.specs.declared.token.Token.{Token}
use Rattle.yaml_tokens.specs.Parts.{begins_part}
use Rattle.yaml_profile.proofs.PrintedBytes.{or_false}
use Rattle.yaml_profile.proofs.OneToken.{piece_at}
use Rattle.yaml_profile.proofs.InTexts.{least_none, level_passes}

-- a place inside a document: in flow behind one open bracket, or outside flow
pub record Stands (flow : Bool) (before : Before) : Type 0 where
  pub inside : before.inside ≡ true
  pub counts : before.opened ≡ before.closed + cond flow 1 0

one_open : (closed opened : ℕ) → opened ≡ closed + 1 → nat_lt closed opened ≡ true
one_open closed opened h = grind (arith, nat_tests)

none_open : (closed opened : ℕ) → opened ≡ closed + 0 → nat_lt closed opened ≡ false
none_open closed opened h = grind (arith, nat_tests)

pub stands_flow : (flow : Bool) (before : Before) → Stands flow before → in_flow before ≡ flow
stands_flow true before s = one_open before.closed before.opened s.counts
stands_flow false before s = none_open before.closed before.opened s.counts

pub stands_opened : (before : Before) → Stands false before → Stands true (after before kind.Open)
stands_opened before s =
    let h : before.opened ≡ before.closed + 0 = s.counts in
    let e : before.opened + 1 ≡ before.closed + 1 = omega arith in
    record { inside = s.inside; counts = e }

pub stands_closed : (before : Before) → Stands true before → Stands false (after before kind.Close)
stands_closed before s =
    let h : before.opened ≡ before.closed + 1 = s.counts in
    let e : before.opened ≡ before.closed + 1 + 0 = omega arith in
    record { inside = s.inside; counts = e }

-- behind a piece with a token that is no bracket and begins no document it stands the same
stands_by : (flow : Bool) (before : Before) (k : Kind) (p : PieceRecord) (t : Token) → Stands flow before → token_by k p ≡ Some t → step_of k ≡ Same → Stands flow (after before k)
stands_by flow before kind.Begin p t s e h = absurd (cc)
stands_by flow before kind.End p t s e h = absurd (cc)
stands_by flow before kind.Open p t s e h = absurd (cc)
stands_by flow before kind.Close p t s e h = absurd (cc)
stands_by flow before k p t s e h = record { inside = s.inside; counts = s.counts }

pub stands_behind : (flow : Bool) (before : Before) (p : PieceRecord) (t : Token) → Stands flow before → token_of p ≡ Some t → step_of p.kind ≡ Same → Stands flow (after before p.kind)
unfolding token_of
stands_behind flow before p t s e h = stands_by flow before p.kind p t s e h

-- the pieces of the rest of a line, whatever pieces follow
pub record Fine (flow : Bool) (before : Before) (ps : List PieceRecord) (ts : List Token) : Type 0 where
  pub tokens : (qs : List PieceRecord) → filter_map token_of (ps ++ qs) ≡ ts ++ filter_map token_of qs
  pub inner : list_any begins_part ts ≡ false
  pub good : (qs : List PieceRecord) → least qs ≡ None → least (ps ++ qs) ≡ None
  pub level : (qs : List PieceRecord) → unclosed (ps ++ qs) ≡ unclosed qs
  pub closes : (qs : List PieceRecord) → stays_open (cond flow 1 0) (ps ++ qs) ≡ false
  pub ends : Stands false (after_all before ps)

pub fine_none : (before : Before) → Stands false before → Fine false before [] []
fine_none before s = record {
  tokens = λ qs. refl;
  inner = refl;
  good = λ qs h. h;
  level = λ qs. refl;
  closes = λ qs. refl;
  ends = s;
}

same_stays : (flow : Bool) (p : PieceRecord) (ps : List PieceRecord) → step_of p.kind ≡ Same → stays_open (cond flow 1 0) (p ∷ ps) ≡ stays_open (cond flow 1 0) ps
same_stays false p ps h = refl
same_stays true p ps h = ap (λ s. elim s [ Up ↦ stays_open 2 ps | Down ↦ stays_open 0 ps | Same ↦ stays_open 1 ps | Fresh ↦ true ]) h

one_token : (p : PieceRecord) (t : Token) (ps qs : List PieceRecord) (ts : List Token) → token_of p ≡ Some t → filter_map token_of (ps ++ qs) ≡ ts ++ filter_map token_of qs
    → filter_map token_of (p ∷ (ps ++ qs)) ≡ t ∷ (ts ++ filter_map token_of qs)
one_token p t ps qs ts e h = ap (λ o. cons_option o (filter_map token_of (ps ++ qs))) e ∙ ap (λ w. t ∷ w) h

-- a piece that is no bracket
pub fine_piece : (flow : Bool) (before : Before) (p : PieceRecord) (t : Token) (ps : List PieceRecord) (ts : List Token) → token_of p ≡ Some t → begins_part t ≡ false → own_fault p ≡ None
    → step_of p.kind ≡ Same → Fine flow (after before p.kind) ps ts → Fine flow before (p ∷ ps) (t ∷ ts)
fine_piece flow before p t ps ts e inner good level f = record {
  tokens = λ qs. one_token p t ps qs ts e (f.tokens qs);
  inner = or_false (begins_part t) (list_any begins_part ts) inner f.inner;
  good = λ qs h. least_none p (ps ++ qs) good (f.good qs h);
  level = λ qs. level_passes p (ps ++ qs) level ∙ f.level qs;
  closes = λ qs. same_stays flow p (ps ++ qs) level ∙ f.closes qs;
  ends = f.ends;
}

-- a bracket has no fault of its own
own_bracket : (at column : ℕ) (bytes : List ℕ) → (own_fault (piece_at at column kind.Open bytes) ≡ None) × (own_fault (piece_at at column kind.Close bytes) ≡ None)
unfolding own_fault
own_bracket at column bytes = (refl, refl)

pub fine_open : (before : Before) (at column : ℕ) (bytes : List ℕ) (t : Token) (ps : List PieceRecord) (ts : List Token) → token_of (piece_at at column kind.Open bytes) ≡ Some t → begins_part t ≡ false
    → Fine true (after before kind.Open) ps ts → Fine false before (piece_at at column kind.Open bytes ∷ ps) (t ∷ ts)
fine_open before at column bytes t ps ts e inner f =
    let p = piece_at at column kind.Open bytes in
    record {
      tokens = λ qs. one_token p t ps qs ts e (f.tokens qs);
      inner = or_false (begins_part t) (list_any begins_part ts) inner f.inner;
      good = λ qs h. least_none p (ps ++ qs) (own_bracket at column bytes).0 (f.good qs h);
      level = λ qs. ap (λ u. cond u (Some (fault_at (offset p) NotClosed)) (unclosed (ps ++ qs))) (f.closes qs) ∙ f.level qs;
      closes = λ qs. refl;
      ends = f.ends;
    }

pub fine_close : (before : Before) (at column : ℕ) (bytes : List ℕ) (t : Token) (ps : List PieceRecord) (ts : List Token) → token_of (piece_at at column kind.Close bytes) ≡ Some t → begins_part t ≡ false
    → Fine false (after before kind.Close) ps ts → Fine true before (piece_at at column kind.Close bytes ∷ ps) (t ∷ ts)
fine_close before at column bytes t ps ts e inner f =
    let p = piece_at at column kind.Close bytes in
    record {
      tokens = λ qs. one_token p t ps qs ts e (f.tokens qs);
      inner = or_false (begins_part t) (list_any begins_part ts) inner f.inner;
      good = λ qs h. least_none p (ps ++ qs) (own_bracket at column bytes).1 (f.good qs h);
      level = f.level;
      closes = λ qs. refl;
      ends = f.ends;
    }
