-- The tokens of a node begin no part of a text.
use Rattle.std.proofs.Common.{◌≡◌, ℕ, zero, suc, inl, inr, Bool, true, false, not, ◌&&◌, List, [], ◌∷◌, Option, Some, Ok, refl, ap, sym, ◌∙◌}
use Rattle.yaml_tokens.specs.declared.token.Token.{Token}
use Rattle.yaml_tokens.specs.declared.token.Token.TheVariants as token
use Rattle.yaml_tokens.specs.Parts.{begins_part, body}
use Rattle.yaml_tokens.proofs.Parts.{body_more}
use Rattle.yaml_nodes.specs.declared.node.Node.{Node}
use Rattle.yaml_nodes.specs.Front.{Grammar}
use Rattle.yaml_nodes.specs.Lists.{Listed, Lined, end, last, more, final, next}
use Rattle.yaml_nodes.specs.Flow.{IsScalar, scalar, FlowEntry, whole, valueless, alone, InBrackets, map, seq, Flow}
use Rattle.yaml_nodes.specs.Block.{Value, inline, below, missing, BlockEntry, pair, BlockItem, compact, other, BlockNode, entries, items, Block}
use Rattle.yaml_nodes.specs.Documents.{max_depth, Root, nothing, inline as in_flow, lines, parts, document, root_of, document_of, document_by, and_documents, documents_of}
use Rattle.yaml_nodes.proofs.DocumentsAgree.{root_sound}

-- no part begins among these tokens
abbrev pub plain : List Token → Bool
plain [] = true
plain (t ∷ ts) = not (begins_part t) && plain ts

-- a value takes no token that begins one
abbrev Keeps : {X : Type 0} → Grammar X → Type 0
Keeps {X} Says = (ts rest : List Token) (x : X) → Says ts x rest → plain rest ≡ true → plain ts ≡ true

-- lists
listed_keeps : {X : Type 0} (Item : Grammar X) (close : Token) → Keeps Item → begins_part close ≡ false → (ts rest : List Token) (xs : List X) → Listed Item close ts xs rest
    → plain rest ≡ true → plain ts ≡ true
listed_keeps Item close keeps e ts rest xs end h = ap (λ b. not b && plain rest) e ∙ h
listed_keeps Item close keeps e ts rest xs (last {x = x} i) h = keeps ts (close ∷ rest) x i (ap (λ b. not b && plain rest) e ∙ h)
listed_keeps Item close keeps e ts rest xs (more {more = left} {x = x} {xs = ys} i g) h =
    keeps ts (token.Comma ∷ left) x i (listed_keeps Item close keeps e left rest ys g h)

lined_keeps : {X : Type 0} (Item : Grammar X) (goes_on : List Token → Bool) → Keeps Item → (ts rest : List Token) (xs : List X) → Lined Item goes_on ts xs rest
    → plain rest ≡ true → plain ts ≡ true
lined_keeps Item goes_on keeps ts rest xs (final {x = x} i e) h = keeps ts rest x i h
lined_keeps Item goes_on keeps ts rest xs (next {more = left} {x = x} {xs = ys} {column = c} i e g) h =
    keeps ts (token.Line c ∷ left) x i (lined_keeps Item goes_on keeps left rest ys g h)

-- flow
scalar_keeps : Keeps IsScalar
scalar_keeps ts rest v scalar h = h

flow_entry_keeps : (V : Grammar Node) → Keeps V → Keeps (FlowEntry V)
flow_entry_keeps V keeps ts rest e (whole {ts = left} {value = v} i) h = keeps left rest v i h
flow_entry_keeps V keeps ts rest e (valueless i) h = h
flow_entry_keeps V keeps ts rest e (alone i) h = h

brackets_keep : (V : Grammar Node) → Keeps V → Keeps (InBrackets V)
brackets_keep V keeps ts rest v (map {ts = left} {entries = es} g) h = listed_keeps (FlowEntry V) token.CloseMap (flow_entry_keeps V keeps) refl left rest es g h
brackets_keep V keeps ts rest v (seq {ts = left} {items = vs} g) h = listed_keeps V token.CloseSeq keeps refl left rest vs g h

flow_keeps : (depth : ℕ) → Keeps (Flow depth)
flow_keeps zero ts rest v i h = scalar_keeps ts rest v i h
flow_keeps (suc depth) ts rest v (inl i) h = scalar_keeps ts rest v i h
flow_keeps (suc depth) ts rest v (inr i) h = brackets_keep (Flow depth) (flow_keeps depth) ts rest v i h

-- lines
value_keeps : (In : Grammar Node) → Keeps In → (Below : ℕ → Grammar Node) → ((column : ℕ) → Keeps (Below column)) → (level : Bool) (n : ℕ) → Keeps (Value In Below level n)
value_keeps In keeps Below deep level n ts rest v (inline i) h = keeps ts rest v i h
value_keeps In keeps Below deep level n ts rest v (below {ts = left} {column = column} e i) h = deep column left rest v i h
value_keeps In keeps Below deep level n ts rest v (missing e) h = h

block_entry_keeps : (V : Grammar Node) → Keeps V → Keeps (BlockEntry V)
block_entry_keeps V keeps ts rest e (pair {ts = left} {value = v} i) h = keeps left rest v i h

block_item_keeps : (Below : ℕ → Grammar Node) → ((column : ℕ) → Keeps (Below column)) → (V : Grammar Node) → Keeps V → Keeps (BlockItem Below V)
block_item_keeps Below deep V keeps ts rest v (compact {ts = left} {column = column} e i) h = deep column left rest v i h
block_item_keeps Below deep V keeps ts rest v (other {ts = left} e i) h = keeps left rest v i h

block_node_keeps : (In : Grammar Node) → Keeps In → (Below : ℕ → Grammar Node) → ((column : ℕ) → Keeps (Below column)) → (n : ℕ) → Keeps (BlockNode In Below n)
block_node_keeps In keeps Below deep n ts rest v (entries {found = es} g) h =
    lined_keeps (BlockEntry (Value In Below true n)) _ (block_entry_keeps (Value In Below true n) (value_keeps In keeps Below deep true n)) ts rest es g h
block_node_keeps In keeps Below deep n ts rest v (items {found = vs} g) h =
    lined_keeps (BlockItem Below (Value In Below false n)) _ (block_item_keeps Below deep (Value In Below false n) (value_keeps In keeps Below deep false n)) ts rest vs g h

block_keeps : (depth n : ℕ) → Keeps (Block depth n)
block_keeps zero n ts rest v i h = absurd i
block_keeps (suc depth) n ts rest v i h = block_node_keeps (Flow depth) (flow_keeps depth) (Block depth) (block_keeps depth) n ts rest v i h

-- roots
root_is_plain : (ts : List Token) (v : Node) → Root ts v → plain ts ≡ true
root_is_plain ts v nothing = refl
root_is_plain ts v (in_flow {ts = left} {value = w} i) = flow_keeps max_depth left [] w i refl
root_is_plain ts v (lines {ts = left} {value = w} i) = block_keeps max_depth 0 left [] w i refl

-- where no part begins
head_plain : (b c : Bool) → (not b && c) ≡ true → (b ≡ false) × (c ≡ true)
head_plain true c h = let e : false ≡ true = h in absurd (cc)
head_plain false c h = (refl, h)

body_whole : (ts : List Token) → plain ts ≡ true → body ts ≡ ts
body_whole [] h = refl
body_whole (t ∷ ts) h =
    let p = head_plain (begins_part t) (plain ts) h in
    body_more t ts p.0 ∙ ap (λ w. t ∷ w) (body_whole ts p.1)

no_parts : (ts : List Token) → plain ts ≡ true → parts ts ≡ []
no_parts [] h = refl
no_parts (token.Begin at tag ∷ ts) h = let e : false ≡ true = h in absurd (cc)
no_parts (token.Stray at ∷ ts) h = let e : false ≡ true = h in absurd (cc)
no_parts (t ∷ ts) h = no_parts ts h

-- a document that has all tokens that are left is the last part
last_is : (at : ℕ) (tag : Option (List ℕ)) (ts : List Token) (root : Node) → Some root ≡ root_of ts → documents_of (parts (token.Begin at tag ∷ ts)) ≡ Ok (document tag root ∷ [])
last_is at tag ts root here =
    let free : plain ts ≡ true = root_is_plain ts root (root_sound ts root (sym here)) in
    ap (λ w. and_documents (document_of at tag w) (documents_of (parts ts))) (body_whole ts free)
    ∙ ap (λ w. and_documents (document_of at tag ts) (documents_of w)) (no_parts ts free)
    ∙ ap (λ r. and_documents (document_by at tag r) (Ok [])) (sym here)

pub last_with : (at : ℕ) (tag tag' : Option (List ℕ)) (ts : List Token) (root : Node) → tag' ≡ tag → Some root ≡ root_of ts
    → documents_of (parts (token.Begin at tag ∷ ts)) ≡ Ok (document tag' root ∷ [])
last_with at tag tag' ts root same here = last_is at tag ts root here ∙ ap (λ w. Ok (document w root ∷ [])) (sym same)
