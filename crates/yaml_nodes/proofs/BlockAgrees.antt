-- Nodes on lines of their own: the grammar and its reading agree.
use Rattle.std.proofs.Common.{◌≡◌, ℕ, zero, suc, ◌<◌, ◌≤◌, Bool, true, false, not, cond, ◌||◌, List, [], ◌∷◌, length, Some, refl, ap, subst, ◌∙◌, arith}
use Rattle.yaml_tokens.specs.declared.token.Token.{Token}
use Rattle.yaml_tokens.specs.declared.token.Token.TheVariants as token
use Rattle.yaml_nodes.specs.declared.node.Node.{Node}
use Rattle.yaml_nodes.specs.declared.node.Node.TheVariants as node
use Rattle.yaml_nodes.specs.declared.node.Entry.{Entry}
use Rattle.yaml_nodes.specs.Nodes.{entry, blank}
use Rattle.yaml_nodes.specs.Front.{Front, front, Grammar, Reading, made, Agrees}
use Rattle.yaml_nodes.specs.Lists.{Lined, final, next, lined}
use Rattle.yaml_nodes.specs.Flow.{Flow, flow}
use Rattle.yaml_nodes.specs.Block.{begins_entry, begins_item, map_goes_on, seq_goes_on, stands_below, is_missing, Value, inline, below, missing, BlockEntry, pair, BlockItem, compact, other, BlockNode, entries, items, Block, block_value, block_entry, block_item, block_map, block_seq, block_with, block}
use Rattle.yaml_nodes.proofs.Fronts.{same_some, made_from}
use Rattle.yaml_nodes.proofs.FlowAgrees.{begins_flow, BeginsFlow, flow_begins, flow_agrees}
use Rattle.yaml_nodes.proofs.Rounds.{Shrinks, shrinks}
use Rattle.yaml_nodes.proofs.ListsAgree.{OnLines, lined_complete, lined_shorter, lined_sound}

-- a reading that may take no token
pub record Gives {X : Type 0} (Says : Grammar X) (read : Reading X) : Type 0 where
  pub sound : (ts : List Token) (r : Front X) → read ts ≡ Some r → Says ts r.value r.rest
  pub complete : (ts rest : List Token) (x : X) → Says ts x rest → read ts ≡ Some (front x rest)
  pub within : (ts rest : List Token) (x : X) → Says ts x rest → length rest ≤ length ts

-- grammars and readings of blocks at each column
abbrev Blocks : (ℕ → Grammar Node) → (ℕ → Reading Node) → Type 0
Blocks Below read = (column : ℕ) → Agrees (Below column) (read column)

-- values
inline_read : (flow : Reading Node) (block : ℕ → Reading Node) (level : Bool) (n : ℕ) (ts : List Token) → begins_flow ts ≡ true → block_value flow block level n ts ≡ flow ts
inline_read flow block level n [] h = absurd (cc)
inline_read flow block level n (token.Line column ∷ rest) h = absurd (cc)
inline_read flow block level n (t ∷ rest) h = refl

missing_read : (flow : Reading Node) (block : ℕ → Reading Node) (level : Bool) (n : ℕ) (ts : List Token) → is_missing level n ts ≡ true → block_value flow block level n ts ≡ Some (front blank ts)
missing_read flow block level n [] h = refl
missing_read flow block level n (token.Line column ∷ rest) h = by_test (stands_below level n column rest) h
  where
    by_test : (b : Bool) → not b ≡ true → cond b (block column rest) (Some (front blank (token.Line column ∷ rest))) ≡ Some (front blank (token.Line column ∷ rest))
    by_test true h = absurd (cc)
    by_test false h = refl
missing_read flow block level n (t ∷ rest) h = absurd (cc)

value_complete : (In : Grammar Node) (flow : Reading Node) (a : Agrees In flow) → BeginsFlow In → (Below : ℕ → Grammar Node) (block : ℕ → Reading Node) (b : Blocks Below block) (level : Bool) (n : ℕ)
    (ts rest : List Token) (v : Node) → Value In Below level n ts v rest → block_value flow block level n ts ≡ Some (front v rest)
value_complete In flow a begins Below block b level n ts rest v (inline h) = inline_read flow block level n ts (begins ts rest v h) ∙ a.complete ts rest v h
value_complete In flow a begins Below block b level n ts rest v (below {ts = more} {column = column} e h) =
    ap (λ t. cond t (block column more) (Some (front blank (token.Line column ∷ more)))) e ∙ (b column).complete more rest v h
value_complete In flow a begins Below block b level n ts rest v (missing h) = missing_read flow block level n ts h

value_within : (In : Grammar Node) (flow : Reading Node) (a : Agrees In flow) (Below : ℕ → Grammar Node) (block : ℕ → Reading Node) (b : Blocks Below block) (level : Bool) (n : ℕ)
    (ts rest : List Token) (v : Node) → Value In Below level n ts v rest → length rest ≤ length ts
value_within In flow a Below block b level n ts rest v (inline h) = omega (arith, a.shorter ts rest v h)
value_within In flow a Below block b level n ts rest v (below {ts = more} {column = column} e h) = omega (arith, (b column).shorter more rest v h)
value_within In flow a Below block b level n ts rest v (missing h) = omega arith

value_sound : (In : Grammar Node) (flow : Reading Node) (a : Agrees In flow) (Below : ℕ → Grammar Node) (block : ℕ → Reading Node) (b : Blocks Below block) (level : Bool) (n : ℕ)
    (ts : List Token) (r : Front Node) → block_value flow block level n ts ≡ Some r → Value In Below level n ts r.value r.rest
value_sound In flow a Below block b level n [] r h =
    let P : Front Node → Type 0 = λ w. Value In Below level n [] w.value w.rest in
    subst P (same_some (front blank []) r h) (missing refl)
value_sound In flow a Below block b level n (token.Line column ∷ rest) r h = by_test (stands_below level n column rest) refl h
  where
    P : Front Node → Type 0
    P w = Value In Below level n (token.Line column ∷ rest) w.value w.rest

    by_test : (t : Bool) → stands_below level n column rest ≡ t → cond t (block column rest) (Some (front blank (token.Line column ∷ rest))) ≡ Some r → P r
    by_test true e h = below e ((b column).sound rest r h)
    by_test false e h = subst P (same_some (front blank (token.Line column ∷ rest)) r h) (missing (ap not e))
value_sound In flow a Below block b level n (t ∷ rest) r h = inline (a.sound (t ∷ rest) r h)

value_gives : (In : Grammar Node) (flow : Reading Node) → Agrees In flow → BeginsFlow In → (Below : ℕ → Grammar Node) (block : ℕ → Reading Node) → Blocks Below block → (level : Bool) (n : ℕ)
    → Gives (Value In Below level n) (block_value flow block level n)
value_gives In flow a begins Below block b level n = record {
  sound = value_sound In flow a Below block b level n;
  complete = value_complete In flow a begins Below block b level n;
  within = value_within In flow a Below block b level n;
}

-- entries
entry_complete : (V : Grammar Node) (value : Reading Node) (g : Gives V value) (ts rest : List Token) (e : Entry) → BlockEntry V ts e rest → block_entry value ts ≡ Some (front e rest)
entry_complete V value g ts rest e (pair {key = key} {ts = more} {value = v} h) = ap (made (entry key)) (g.complete more rest v h)

entry_sound : (V : Grammar Node) (value : Reading Node) (g : Gives V value) (ts : List Token) (r : Front Entry) → block_entry value ts ≡ Some r → BlockEntry V ts r.value r.rest
entry_sound V value g (token.Scalar key ∷ token.Colon ∷ ts) r h =
    let s = made_from (entry key) (value ts) r h in
    let P : Front Entry → Type 0 = λ w. BlockEntry V (token.Scalar key ∷ token.Colon ∷ ts) w.value w.rest in
    subst P s.2 (pair (g.sound ts s.0 s.1))
entry_sound V value g ts r h = absurd (cc)

entry_shorter : (V : Grammar Node) (value : Reading Node) (g : Gives V value) (ts rest : List Token) (e : Entry) → BlockEntry V ts e rest → length rest < length ts
entry_shorter V value g ts rest e (pair {key = key} {ts = more} {value = v} h) = omega (arith, g.within more rest v h)

entry_agrees : (V : Grammar Node) (value : Reading Node) → Gives V value → Agrees (BlockEntry V) (block_entry value)
entry_agrees V value g = record { sound = entry_sound V value g; complete = entry_complete V value g; shorter = entry_shorter V value g }

-- items
item_complete : (Below : ℕ → Grammar Node) (block : ℕ → Reading Node) (b : Blocks Below block) (V : Grammar Node) (value : Reading Node) (g : Gives V value) (ts rest : List Token) (v : Node)
    → BlockItem Below V ts v rest → block_item block value ts ≡ Some (front v rest)
item_complete Below block b V value g ts rest v (compact {ts = more} {column = column} e h) = ap (λ t. cond t (block column more) (value more)) e ∙ (b column).complete more rest v h
item_complete Below block b V value g ts rest v (other {ts = more} {column = column} e h) = ap (λ t. cond t (block column more) (value more)) e ∙ g.complete more rest v h

item_sound : (Below : ℕ → Grammar Node) (block : ℕ → Reading Node) (b : Blocks Below block) (V : Grammar Node) (value : Reading Node) (g : Gives V value) (ts : List Token) (r : Front Node)
    → block_item block value ts ≡ Some r → BlockItem Below V ts r.value r.rest
item_sound Below block b V value g (token.Dash column ∷ ts) r h = by_test (begins_entry ts) refl h
  where
    by_test : (t : Bool) → begins_entry ts ≡ t → cond t (block column ts) (value ts) ≡ Some r → BlockItem Below V (token.Dash column ∷ ts) r.value r.rest
    by_test true e h = compact e ((b column).sound ts r h)
    by_test false e h = other e (g.sound ts r h)
item_sound Below block b V value g ts r h = absurd (cc)

item_shorter : (Below : ℕ → Grammar Node) (block : ℕ → Reading Node) (b : Blocks Below block) (V : Grammar Node) (value : Reading Node) (g : Gives V value) (ts rest : List Token) (v : Node)
    → BlockItem Below V ts v rest → length rest < length ts
item_shorter Below block b V value g ts rest v (compact {ts = more} {column = column} e h) = omega (arith, (b column).shorter more rest v h)
item_shorter Below block b V value g ts rest v (other {ts = more} {column = column} e h) = omega (arith, g.within more rest v h)

item_agrees : (Below : ℕ → Grammar Node) (block : ℕ → Reading Node) → Blocks Below block → (V : Grammar Node) (value : Reading Node) → Gives V value → Agrees (BlockItem Below V) (block_item block value)
item_agrees Below block b V value g = record {
  sound = item_sound Below block b V value g;
  complete = item_complete Below block b V value g;
  shorter = item_shorter Below block b V value g;
}

-- lines
map_on_lines : (n : ℕ) → OnLines (map_goes_on n)
map_on_lines n [] h = absurd (cc)
map_on_lines n (token.Line column ∷ rest) h = (column, refl)
map_on_lines n (t ∷ rest) h = absurd (cc)

seq_on_lines : (n : ℕ) → OnLines (seq_goes_on n)
seq_on_lines n [] h = absurd (cc)
seq_on_lines n (token.Line column ∷ rest) h = (column, refl)
seq_on_lines n (t ∷ rest) h = absurd (cc)

entry_is_no_item : (V : Grammar Node) (ts rest : List Token) (e : Entry) → BlockEntry V ts e rest → begins_item ts ≡ false
entry_is_no_item V ts rest e (pair h) = refl

entry_begins : (V : Grammar Node) (ts rest : List Token) (e : Entry) → BlockEntry V ts e rest → begins_entry ts ≡ true
entry_begins V ts rest e (pair h) = refl

map_begins : (V : Grammar Node) (goes_on : List Token → Bool) (ts rest : List Token) (es : List Entry) → Lined (BlockEntry V) goes_on ts es rest → begins_entry ts ≡ true
map_begins V goes_on ts rest es (final {x = x} h e) = entry_begins V ts rest x h
map_begins V goes_on ts rest es (next {more = more} {x = x} {column = column} h e g) = entry_begins V ts (token.Line column ∷ more) x h

map_is_no_item : (V : Grammar Node) (goes_on : List Token → Bool) (ts rest : List Token) (es : List Entry) → Lined (BlockEntry V) goes_on ts es rest → begins_item ts ≡ false
map_is_no_item V goes_on ts rest es (final {x = x} h e) = entry_is_no_item V ts rest x h
map_is_no_item V goes_on ts rest es (next {more = more} {x = x} {column = column} h e g) = entry_is_no_item V ts (token.Line column ∷ more) x h

item_begins : (Below : ℕ → Grammar Node) (V : Grammar Node) (ts rest : List Token) (v : Node) → BlockItem Below V ts v rest → begins_item ts ≡ true
item_begins Below V ts rest v (compact e h) = refl
item_begins Below V ts rest v (other e h) = refl

seq_begins : (Below : ℕ → Grammar Node) (V : Grammar Node) (goes_on : List Token → Bool) (ts rest : List Token) (vs : List Node) → Lined (BlockItem Below V) goes_on ts vs rest → begins_item ts ≡ true
seq_begins Below V goes_on ts rest vs (final {x = x} h e) = item_begins Below V ts rest x h
seq_begins Below V goes_on ts rest vs (next {more = more} {x = x} {column = column} h e g) = item_begins Below V ts (token.Line column ∷ more) x h

-- a level of lines
pub level_agrees : (In : Grammar Node) (flow : Reading Node) → Agrees In flow → BeginsFlow In → (Below : ℕ → Grammar Node) (block : ℕ → Reading Node) → Blocks Below block → (n : ℕ)
    → Agrees (BlockNode In Below n) (block_with flow block n)
level_agrees In flow a begins Below block b n = record { sound = sound_by; complete = complete_by; shorter = shorter_by }
  where
    V : Bool → Grammar Node
    V level = Value In Below level n

    gives : (level : Bool) → Gives (V level) (block_value flow block level n)
    gives level = value_gives In flow a begins Below block b level n

    an_entry : Agrees (BlockEntry (V true)) (block_entry (block_value flow block true n))
    an_entry = entry_agrees (V true) (block_value flow block true n) (gives true)

    an_item : Agrees (BlockItem Below (V false)) (block_item block (block_value flow block false n))
    an_item = item_agrees Below block b (V false) (block_value flow block false n) (gives false)

    by_test : (ts : List Token) (r : Front Node) (t : Bool) → cond t (block_seq flow block n ts) (block_map flow block n ts) ≡ Some r → BlockNode In Below n ts r.value r.rest
    by_test ts r true h =
        let s = made_from node.Seq (lined (block_item block (block_value flow block false n)) (seq_goes_on n) (length ts) ts) r h in
        let P : Front Node → Type 0 = λ w. BlockNode In Below n ts w.value w.rest in
        subst P s.2 (items (lined_sound (BlockItem Below (V false)) (block_item block (block_value flow block false n)) an_item (seq_goes_on n) (seq_on_lines n) (length ts) ts s.0 s.1))
    by_test ts r false h =
        let s = made_from node.Map (lined (block_entry (block_value flow block true n)) (map_goes_on n) (length ts) ts) r h in
        let P : Front Node → Type 0 = λ w. BlockNode In Below n ts w.value w.rest in
        subst P s.2 (entries (lined_sound (BlockEntry (V true)) (block_entry (block_value flow block true n)) an_entry (map_goes_on n) (map_on_lines n) (length ts) ts s.0 s.1))

    sound_by : (ts : List Token) (r : Front Node) → block_with flow block n ts ≡ Some r → BlockNode In Below n ts r.value r.rest
    sound_by ts r h = by_test ts r (begins_item ts) h

    complete_by : (ts rest : List Token) (v : Node) → BlockNode In Below n ts v rest → block_with flow block n ts ≡ Some (front v rest)
    complete_by ts rest v (entries {found = es} h) =
        ap (λ t. cond t (block_seq flow block n ts) (block_map flow block n ts)) (map_is_no_item (V true) (map_goes_on n) ts rest es h)
        ∙ ap (made node.Map) (lined_complete (BlockEntry (V true)) (block_entry (block_value flow block true n)) an_entry (map_goes_on n) (length ts) ts rest es h (omega arith))
    complete_by ts rest v (items {found = vs} h) =
        ap (λ t. cond t (block_seq flow block n ts) (block_map flow block n ts)) (seq_begins Below (V false) (seq_goes_on n) ts rest vs h)
        ∙ ap (made node.Seq) (lined_complete (BlockItem Below (V false)) (block_item block (block_value flow block false n)) an_item (seq_goes_on n) (length ts) ts rest vs h (omega arith))

    shorter_by : (ts rest : List Token) (v : Node) → BlockNode In Below n ts v rest → length rest < length ts
    shorter_by ts rest v (entries {found = es} h) = lined_shorter (BlockEntry (V true)) (block_entry (block_value flow block true n)) an_entry (map_goes_on n) ts rest es h
    shorter_by ts rest v (items {found = vs} h) = lined_shorter (BlockItem Below (V false)) (block_item block (block_value flow block false n)) an_item (seq_goes_on n) ts rest vs h

pub block_agrees : (depth n : ℕ) → Agrees (Block depth n) (block depth n)
block_agrees zero n = record { sound = λ ts r h. absurd (cc); complete = λ ts rest v h. absurd h; shorter = λ ts rest v h. absurd h }
block_agrees (suc depth) n = level_agrees (Flow depth) (flow depth) (flow_agrees depth) (flow_begins depth) (Block depth) (block depth) (block_agrees depth) n

-- the readings of entries and items take at least one token
value_at : (depth n : ℕ) (level : Bool) → Gives (Value (Flow depth) (Block depth) level n) (block_value (flow depth) (block depth) level n)
value_at depth n level = value_gives (Flow depth) (flow depth) (flow_agrees depth) (flow_begins depth) (Block depth) (block depth) (block_agrees depth) level n

pub entry_shrinks : (depth n : ℕ) → Shrinks (block_entry (block_value (flow depth) (block depth) true n))
entry_shrinks depth n =
    let V : Grammar Node = Value (Flow depth) (Block depth) true n in
    shrinks (BlockEntry V) (block_entry (block_value (flow depth) (block depth) true n)) (entry_agrees V (block_value (flow depth) (block depth) true n) (value_at depth n true))

pub item_shrinks : (depth n : ℕ) → Shrinks (block_item (block depth) (block_value (flow depth) (block depth) false n))
item_shrinks depth n =
    let V : Grammar Node = Value (Flow depth) (Block depth) false n in
    shrinks (BlockItem (Block depth) V) (block_item (block depth) (block_value (flow depth) (block depth) false n))
    (item_agrees (Block depth) (block depth) (block_agrees depth) V (block_value (flow depth) (block depth) false n) (value_at depth n false))

-- what a block begins with
or_true : (a b : Bool) → b ≡ true → a || b ≡ true
or_true true b h = refl
or_true false b h = h

level_begins : (In : Grammar Node) (Below : ℕ → Grammar Node) (n : ℕ) (ts rest : List Token) (v : Node) → BlockNode In Below n ts v rest → begins_item ts || begins_entry ts ≡ true
level_begins In Below n ts rest v (entries {found = es} h) = or_true (begins_item ts) (begins_entry ts) (map_begins (Value In Below true n) (map_goes_on n) ts rest es h)
level_begins In Below n ts rest v (items {found = vs} h) = ap (λ t. t || begins_entry ts) (seq_begins Below (Value In Below false n) (seq_goes_on n) ts rest vs h)

pub block_begins : (depth n : ℕ) (ts rest : List Token) (v : Node) → Block depth n ts v rest → begins_item ts || begins_entry ts ≡ true
block_begins zero n ts rest v h = absurd h
block_begins (suc depth) n ts rest v h = level_begins (Flow depth) (Block depth) n ts rest v h
