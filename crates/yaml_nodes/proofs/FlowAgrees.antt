-- Nodes in flow: the grammar and its reading agree.
use Rattle.std.proofs.Common.{◌≡◌, ℕ, zero, suc, ◌<◌, ◌⊎◌, inl, inr, Bool, true, false, cond, List, [], ◌∷◌, length, Some, None, refl, ap, subst, ◌∙◌, arith}
use Rattle.yaml_tokens.specs.declared.token.Token.{Token}
use Rattle.yaml_tokens.specs.declared.token.Token.TheVariants as token
use Rattle.yaml_nodes.specs.declared.node.Node.{Node}
use Rattle.yaml_nodes.specs.declared.node.Node.TheVariants as node
use Rattle.yaml_nodes.specs.declared.node.Entry.{Entry}
use Rattle.yaml_nodes.specs.declared.flow.Brackets.TheVariants.{Curly, Square}
use Rattle.yaml_nodes.specs.Nodes.{entry, blank}
use Rattle.yaml_nodes.specs.Front.{Front, front, Grammar, Reading, made, Agrees}
use Rattle.yaml_nodes.specs.Lists.{begins_with, listed}
use Rattle.yaml_nodes.specs.Flow.{IsScalar, scalar, ends_entry, FlowEntry, whole, valueless, alone, InBrackets, map, seq, Flow, closes, behind_key, flow_entry, scalar_front, flow_with, flow}
use Rattle.yaml_nodes.proofs.Fronts.{same_some, made_from, chosen}
use Rattle.yaml_nodes.proofs.Rounds.{Shrinks, shrinks}
use Rattle.yaml_nodes.proofs.ListsAgree.{Closing, listed_complete, listed_shorter, listed_sound}

-- what a node in flow begins with
abbrev pub begins_flow : List Token → Bool
begins_flow (token.Scalar text ∷ rest) = true
begins_flow (token.OpenMap ∷ rest) = true
begins_flow (token.OpenSeq ∷ rest) = true
begins_flow _ = false

abbrev pub BeginsFlow : Grammar Node → Type 0
BeginsFlow Value = (ts rest : List Token) (v : Node) → Value ts v rest → begins_flow ts ≡ true

begins_unclosed : (ts : List Token) → begins_flow ts ≡ true → begins_with (closes Square) ts ≡ false
begins_unclosed (token.CloseSeq ∷ rest) h = absurd (cc)
begins_unclosed [] h = refl
begins_unclosed (token.CloseMap ∷ rest) h = refl
begins_unclosed (t ∷ rest) h = refl

begins_value : (ts : List Token) → begins_flow ts ≡ true → ends_entry ts ≡ false
begins_value (token.Comma ∷ rest) h = absurd (cc)
begins_value (token.CloseMap ∷ rest) h = absurd (cc)
begins_value [] h = refl
begins_value (t ∷ rest) h = refl

square : Closing token.CloseSeq (closes Square)
square = record { does = refl; alone = only; stays = λ rest. refl }
  where
    only : (t : Token) → closes Square t ≡ true → t ≡ token.CloseSeq
    only token.CloseSeq h = refl
    only t h = absurd (cc)

curly : Closing token.CloseMap (closes Curly)
curly = record { does = refl; alone = only; stays = λ rest. refl }
  where
    only : (t : Token) → closes Curly t ≡ true → t ≡ token.CloseMap
    only token.CloseMap h = refl
    only t h = absurd (cc)

-- entries
alone_read : (read : Reading Node) (ts : List Token) → ends_entry ts ≡ true → behind_key read ts ≡ Some (front blank ts)
alone_read read (token.Colon ∷ rest) h = absurd (cc)
alone_read read ts h = ap (λ t. cond t (Some (front blank ts)) None) h

entry_complete : (Value : Grammar Node) (read : Reading Node) (a : Agrees Value read) → BeginsFlow Value → (ts rest : List Token) (e : Entry) → FlowEntry Value ts e rest
    → flow_entry read ts ≡ Some (front e rest)
entry_complete Value read a begins ts rest e (whole {key = key} {ts = more} {value = v} h) =
    ap (λ t. made (entry key) (cond t (Some (front blank more)) (read more))) (begins_value more (begins more rest v h))
    ∙ ap (made (entry key)) (a.complete more rest v h)
entry_complete Value read a begins ts rest e (valueless {key = key} h) = ap (λ t. made (entry key) (cond t (Some (front blank rest)) (read rest))) h
entry_complete Value read a begins ts rest e (alone {key = key} h) = ap (made (entry key)) (alone_read read rest h)

value_sound : (Value : Grammar Node) (read : Reading Node) (a : Agrees Value read) (key : List ℕ) (ts : List Token) (s : Front Node) (b : Bool) → ends_entry ts ≡ b
    → cond b (Some (front blank ts)) (read ts) ≡ Some s → FlowEntry Value (token.Scalar key ∷ token.Colon ∷ ts) (entry key s.value) s.rest
value_sound Value read a key ts s true e h =
    let P : Front Node → Type 0 = λ w. FlowEntry Value (token.Scalar key ∷ token.Colon ∷ ts) (entry key w.value) w.rest in
    subst P (same_some (front blank ts) s h) (valueless e)
value_sound Value read a key ts s false e h = whole (a.sound ts s h)

key_sound : (Value : Grammar Node) (read : Reading Node) (a : Agrees Value read) (key : List ℕ) (ts : List Token) (s : Front Node) → behind_key read ts ≡ Some s
    → FlowEntry Value (token.Scalar key ∷ ts) (entry key s.value) s.rest
key_sound Value read a key (token.Colon ∷ ts) s h = value_sound Value read a key ts s (ends_entry ts) refl h
key_sound Value read a key ts s h =
    let P : Front Node → Type 0 = λ w. FlowEntry Value (token.Scalar key ∷ ts) (entry key w.value) w.rest in
    let e = chosen (ends_entry ts) (front blank ts) s h in
    subst P e.0 (alone e.1)

entry_sound : (Value : Grammar Node) (read : Reading Node) (a : Agrees Value read) (ts : List Token) (r : Front Entry) → flow_entry read ts ≡ Some r → FlowEntry Value ts r.value r.rest
entry_sound Value read a (token.Scalar key ∷ ts) r h =
    let s = made_from (entry key) (behind_key read ts) r h in
    let P : Front Entry → Type 0 = λ w. FlowEntry Value (token.Scalar key ∷ ts) w.value w.rest in
    subst P s.2 (key_sound Value read a key ts s.0 s.1)
entry_sound Value read a ts r h = absurd (cc)

entry_shorter : (Value : Grammar Node) (read : Reading Node) (a : Agrees Value read) (ts rest : List Token) (e : Entry) → FlowEntry Value ts e rest → length rest < length ts
entry_shorter Value read a ts rest e (whole {ts = more} {value = v} h) = omega (arith, a.shorter more rest v h)
entry_shorter Value read a ts rest e (valueless h) = omega arith
entry_shorter Value read a ts rest e (alone h) = omega arith

pub entry_agrees : (Value : Grammar Node) (read : Reading Node) → Agrees Value read → BeginsFlow Value → Agrees (FlowEntry Value) (flow_entry read)
entry_agrees Value read a begins = record { sound = entry_sound Value read a; complete = entry_complete Value read a begins; shorter = entry_shorter Value read a }

entry_begins : (Value : Grammar Node) (ts rest : List Token) (e : Entry) → FlowEntry Value ts e rest → begins_with (closes Curly) ts ≡ false
entry_begins Value ts rest e (whole h) = refl
entry_begins Value ts rest e (valueless h) = refl
entry_begins Value ts rest e (alone h) = refl

-- scalars
scalar_sound : (ts : List Token) (r : Front Node) → scalar_front ts ≡ Some r → IsScalar ts r.value r.rest
scalar_sound (token.Scalar text ∷ rest) r h =
    let P : Front Node → Type 0 = λ w. IsScalar (token.Scalar text ∷ rest) w.value w.rest in
    subst P (same_some (front (node.Scalar text) rest) r h) scalar
scalar_sound ts r h = absurd (cc)

scalar_complete : (ts rest : List Token) (v : Node) → IsScalar ts v rest → scalar_front ts ≡ Some (front v rest)
scalar_complete ts rest v scalar = refl

scalar_shorter : (ts rest : List Token) (v : Node) → IsScalar ts v rest → length rest < length ts
scalar_shorter ts rest v scalar = omega arith

-- a level of brackets
abbrev Level : Grammar Node → Grammar Node
Level Value ts v rest = IsScalar ts v rest ⊎ InBrackets Value ts v rest

level_sound : (Value : Grammar Node) (read : Reading Node) (a : Agrees Value read) → BeginsFlow Value → (ts : List Token) (r : Front Node) → flow_with read ts ≡ Some r → Level Value ts r.value r.rest
level_sound Value read a begins (token.OpenMap ∷ ts) r h =
    let s = made_from node.Map (listed (flow_entry read) (closes Curly) (length ts) ts) r h in
    let P : Front Node → Type 0 = λ w. InBrackets Value (token.OpenMap ∷ ts) w.value w.rest in
    inr (subst P s.2 (map (listed_sound (FlowEntry Value) (flow_entry read) (entry_agrees Value read a begins) token.CloseMap (closes Curly) curly (length ts) ts s.0 s.1)))
level_sound Value read a begins (token.OpenSeq ∷ ts) r h =
    let s = made_from node.Seq (listed read (closes Square) (length ts) ts) r h in
    let P : Front Node → Type 0 = λ w. InBrackets Value (token.OpenSeq ∷ ts) w.value w.rest in
    inr (subst P s.2 (seq (listed_sound Value read a token.CloseSeq (closes Square) square (length ts) ts s.0 s.1)))
level_sound Value read a begins ts r h = inl (scalar_sound ts r h)

brackets_complete : (Value : Grammar Node) (read : Reading Node) (a : Agrees Value read) → BeginsFlow Value → (ts rest : List Token) (v : Node) → InBrackets Value ts v rest
    → flow_with read ts ≡ Some (front v rest)
brackets_complete Value read a begins ts rest v (map {ts = more} {entries = es} h) =
    ap (made node.Map) (listed_complete (FlowEntry Value) (flow_entry read) (entry_agrees Value read a begins) token.CloseMap (closes Curly) curly (entry_begins Value) (length more) more rest es h (omega arith))
brackets_complete Value read a begins ts rest v (seq {ts = more} {items = vs} h) =
    let starts : (ts rest : List Token) (x : Node) → Value ts x rest → begins_with (closes Square) ts ≡ false = λ ts rest x h. begins_unclosed ts (begins ts rest x h) in
    ap (made node.Seq) (listed_complete Value read a token.CloseSeq (closes Square) square starts (length more) more rest vs h (omega arith))

level_complete : (Value : Grammar Node) (read : Reading Node) (a : Agrees Value read) → BeginsFlow Value → (ts rest : List Token) (v : Node) → Level Value ts v rest
    → flow_with read ts ≡ Some (front v rest)
level_complete Value read a begins ts rest v (inl scalar) = refl
level_complete Value read a begins ts rest v (inr h) = brackets_complete Value read a begins ts rest v h

brackets_shorter : (Value : Grammar Node) (read : Reading Node) (a : Agrees Value read) → BeginsFlow Value → (ts rest : List Token) (v : Node) → InBrackets Value ts v rest → length rest < length ts
brackets_shorter Value read a begins ts rest v (map {ts = more} {entries = es} h) =
    omega (arith, listed_shorter (FlowEntry Value) (flow_entry read) (entry_agrees Value read a begins) token.CloseMap more rest es h)
brackets_shorter Value read a begins ts rest v (seq {ts = more} {items = vs} h) = omega (arith, listed_shorter Value read a token.CloseSeq more rest vs h)

level_shorter : (Value : Grammar Node) (read : Reading Node) (a : Agrees Value read) → BeginsFlow Value → (ts rest : List Token) (v : Node) → Level Value ts v rest → length rest < length ts
level_shorter Value read a begins ts rest v (inl h) = scalar_shorter ts rest v h
level_shorter Value read a begins ts rest v (inr h) = brackets_shorter Value read a begins ts rest v h

brackets_begin : (Value : Grammar Node) (ts rest : List Token) (v : Node) → InBrackets Value ts v rest → begins_flow ts ≡ true
brackets_begin Value ts rest v (map h) = refl
brackets_begin Value ts rest v (seq h) = refl

scalar_begins : (ts rest : List Token) (v : Node) → IsScalar ts v rest → begins_flow ts ≡ true
scalar_begins ts rest v scalar = refl

pub flow_begins : (depth : ℕ) → BeginsFlow (Flow depth)
flow_begins zero ts rest v h = scalar_begins ts rest v h
flow_begins (suc depth) ts rest v (inl h) = scalar_begins ts rest v h
flow_begins (suc depth) ts rest v (inr h) = brackets_begin (Flow depth) ts rest v h

pub flow_agrees : (depth : ℕ) → Agrees (Flow depth) (flow depth)
flow_agrees zero = record { sound = scalar_sound; complete = scalar_complete; shorter = scalar_shorter }
flow_agrees (suc depth) = record {
  sound = level_sound (Flow depth) (flow depth) (flow_agrees depth) (flow_begins depth);
  complete = level_complete (Flow depth) (flow depth) (flow_agrees depth) (flow_begins depth);
  shorter = level_shorter (Flow depth) (flow depth) (flow_agrees depth) (flow_begins depth);
}

-- the readings take at least one token
pub flow_shrinks : (depth : ℕ) → Shrinks (flow depth)
flow_shrinks depth = shrinks (Flow depth) (flow depth) (flow_agrees depth)

pub entry_shrinks : (depth : ℕ) → Shrinks (flow_entry (flow depth))
entry_shrinks depth = shrinks (FlowEntry (Flow depth)) (flow_entry (flow depth)) (entry_agrees (Flow depth) (flow depth) (flow_agrees depth) (flow_begins depth))
