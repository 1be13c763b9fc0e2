-- The tokens of a place, taken one by one.
use Rattle.std.proofs.Common.{◌≡◌, suc, ◌+◌, Bool, true, false, cond, ◌&&◌, List, [], ◌∷◌, take, Some, None, refl, ap, sym, ◌∙◌, arith}
use Rattle.std.specs.List.{filter_map, cons_option}
use Rattle.yaml_tokens.specs.Pieces.{PieceRecord}
use Rattle.yaml_tokens.specs.Places.{Place, left}
use Rattle.yaml_tokens.specs.Tokens.{token_of}
use Rattle.yaml_tokens.specs.Parts.{begins_part, body_size, body, up_to, parted, tokens_at}
use Rattle.yaml_tokens.specs.declared.token.Token.{Token}

-- the body goes on with a token that begins no part
pub body_more : (t : Token) (ts : List Token) → begins_part t ≡ false → body (t ∷ ts) ≡ t ∷ body ts
body_more t ts h =
    let e : 1 + body_size ts ≡ suc (body_size ts) = omega arith in
    ap (λ b. take (cond b 0 (1 + body_size ts)) (t ∷ ts)) h ∙ ap (λ n. take n (t ∷ ts)) e

pub body_over : (t : Token) (ts : List Token) → begins_part t ≡ true → body (t ∷ ts) ≡ []
body_over t ts h = ap (λ b. take (cond b 0 (1 + body_size ts)) (t ∷ ts)) h

-- a body has no more beyond it
body_twice_by : (t : Token) (ts : List Token) (b : Bool) → begins_part t ≡ b → body (body ts) ≡ body ts → body (body (t ∷ ts)) ≡ body (t ∷ ts)
body_twice_by t ts true h same = ap body (body_over t ts h) ∙ sym (body_over t ts h)
body_twice_by t ts false h same = ap body (body_more t ts h) ∙ (body_more t (body ts) h ∙ (ap (λ w. t ∷ w) same ∙ sym (body_more t ts h)))

body_twice : (ts : List Token) → body (body ts) ≡ body ts
body_twice [] = refl
body_twice (t ∷ ts) = body_twice_by t ts (begins_part t) refl (body_twice ts)

pub body_up_to : (bounded : Bool) (ts : List Token) → body ts ≡ body (up_to bounded ts)
body_up_to true ts = sym (body_twice ts)
body_up_to false ts = refl

-- where a body is asked for
pub body_bound : (bounded : Bool) (p old : Place) (view : List Token) → p ≡ old → up_to bounded (tokens_at old) ≡ view → body (tokens_at p) ≡ body view
body_bound bounded p old view same is = ap (λ w. body (tokens_at w)) same ∙ body_up_to bounded (tokens_at old) ∙ ap body is

-- a token is taken
more_by : (bounded : Bool) (t : Token) (ts : List Token) → (bounded && begins_part t) ≡ false → t ∷ up_to bounded ts ≡ up_to bounded (t ∷ ts)
more_by true t ts h = sym (body_more t ts h)
more_by false t ts h = refl

pub parted_more : (bounded : Bool) (t : Token) (p old new : Place) (view : List Token) → p ≡ old → tokens_at p ≡ t ∷ tokens_at new → (bounded && begins_part t) ≡ false
    → up_to bounded (tokens_at old) ≡ view → t ∷ up_to bounded (tokens_at new) ≡ view
parted_more bounded t p old new view same next test is =
    more_by bounded t (tokens_at new) test ∙ ap (up_to bounded) (sym next) ∙ ap (λ w. up_to bounded (tokens_at w)) same ∙ is

-- the body is over
over_by : (bounded : Bool) (t : Token) (ts : List Token) → (bounded && begins_part t) ≡ true → up_to bounded (t ∷ ts) ≡ []
over_by true t ts h = body_over t ts h
over_by false t ts h = let e : false ≡ true = h in absurd (cc)

pub parted_bound : (bounded : Bool) (t : Token) (p old new : Place) (view : List Token) → p ≡ old → tokens_at p ≡ t ∷ tokens_at new → (bounded && begins_part t) ≡ true
    → up_to bounded (tokens_at old) ≡ view → parted None ≡ view
parted_bound bounded t p old new view same next test is =
    sym (over_by bounded t (tokens_at new) test) ∙ ap (up_to bounded) (sym next) ∙ ap (λ w. up_to bounded (tokens_at w)) same ∙ is

-- the text is over
none_by : (bounded : Bool) → [] ≡ up_to bounded []
none_by true = refl
none_by false = refl

pub parted_none : (bounded : Bool) (p old : Place) (view : List Token) → p ≡ old → tokens_at p ≡ [] → up_to bounded (tokens_at old) ≡ view → parted None ≡ view
parted_none bounded p old view same none is = none_by bounded ∙ ap (up_to bounded) (sym none) ∙ ap (λ w. up_to bounded (tokens_at w)) same ∙ is

-- a piece has a token, or has none
pub next_some : (p : PieceRecord) (t : Token) (first old new : Place) → tokens_at first ≡ tokens_at old → left old ≡ p ∷ left new → Some t ≡ token_of p → tokens_at first ≡ t ∷ tokens_at new
next_some p t first old new same cuts is = same ∙ ap (filter_map token_of) cuts ∙ ap (λ o. cons_option o (tokens_at new)) (sym is)

pub next_none : (p : PieceRecord) (first old new : Place) → tokens_at first ≡ tokens_at old → left old ≡ p ∷ left new → None ≡ token_of p → tokens_at first ≡ tokens_at new
next_none p first old new same cuts is = same ∙ ap (filter_map token_of) cuts ∙ ap (λ o. cons_option o (tokens_at new)) (sym is)

pub next_end : (first old : Place) → tokens_at first ≡ tokens_at old → left old ≡ [] → tokens_at first ≡ []
next_end first old same over = same ∙ ap (filter_map token_of) over
