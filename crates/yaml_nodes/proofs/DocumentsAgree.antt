-- Documents: the grammar and its reading agree.
use Rattle.std.proofs.Common.{◌≡◌, ◌↔◌, ℕ, zero, suc, Bool, true, false, cond, ◌||◌, ◌==◌, List, [], ◌∷◌, Option, Some, None, Result, Ok, Err, refl, ap, sym, subst, ◌∙◌, arith}
use Rattle.std.proofs.lemmas.Bool.Decides.{nat_tests}
use Rattle.yaml_tokens.specs.declared.token.Token.{Token}
use Rattle.yaml_tokens.specs.declared.token.Token.TheVariants as token
use Rattle.yaml_tokens.specs.declared.kind.YamlKind.TheVariants.{Shape}
use Rattle.yaml_nodes.specs.declared.node.Node.{Node}
use Rattle.yaml_nodes.specs.declared.node.Node.TheVariants as node
use Rattle.yaml_nodes.specs.declared.document.Document.{Document}
use Rattle.yaml_nodes.specs.declared.cause.YamlCause.{YamlCause}
use Rattle.yaml_nodes.specs.declared.cause.YamlCause.TheVariants.{At}
use Rattle.yaml_nodes.specs.Nodes.{blank}
use Rattle.yaml_nodes.specs.Front.{Front, front}
use Rattle.yaml_nodes.specs.Flow.{Flow, flow}
use Rattle.yaml_nodes.specs.Block.{begins_entry, begins_item, Block, block}
use Rattle.yaml_nodes.specs.Documents.{max_depth, Root, nothing, inline, lines, Part, Whole, Outside, document, Documents, none, one, ShapeAt, stray, unread, later, is_end, alone, root_at, root_of, document_by, behind_documents, and_documents, documents_of}
use Rattle.yaml_nodes.specs.Laws.{Are}
use Rattle.yaml_nodes.proofs.Fronts.{same_some}
use Rattle.yaml_nodes.proofs.FlowAgrees.{begins_flow, flow_begins, flow_agrees}
use Rattle.yaml_nodes.proofs.BlockAgrees.{block_begins, block_agrees}

-- roots
alone_by : (x : Node) (rest : List Token) (y : Node) → cond (is_end rest) (Some x) None ≡ Some y → front x rest ≡ front y []
alone_by x [] y h = ap (λ w. front w []) (same_some x y h)
alone_by x (t ∷ rest) y h = absurd (cc)

alone_from : (o : Option (Front Node)) (y : Node) → alone o ≡ Some y → o ≡ Some (front y [])
alone_from None y h = absurd (cc)
alone_from (Some found) y h = ap Some (alone_by found.value found.rest y h)

is_zero : (n : ℕ) → (n == 0) ≡ true → n ≡ 0
is_zero zero h = refl
is_zero (suc n) h =
    let e : (suc n == 0) ≡ false = grind (arith, nat_tests) in
    let q : false ≡ true = sym e ∙ h in absurd (cc)

root_at_sound : (ts : List Token) (x : Node) (b : Bool) → cond b (alone (block max_depth 0 ts)) (alone (flow max_depth ts)) ≡ Some x → Root (token.Line 0 ∷ ts) x
root_at_sound ts x true h = lines ((block_agrees max_depth 0).sound ts (front x []) (alone_from (block max_depth 0 ts) x h))
root_at_sound ts x false h = inline ((flow_agrees max_depth).sound ts (front x []) (alone_from (flow max_depth ts) x h))

line_sound : (column : ℕ) (ts : List Token) (x : Node) (b : Bool) → (column == 0) ≡ b → cond b (root_at ts) None ≡ Some x → Root (token.Line column ∷ ts) x
line_sound column ts x false e h = absurd (cc)
line_sound column ts x true e h =
    let P : ℕ → Type 0 = λ n. Root (token.Line n ∷ ts) x in
    subst P (sym (is_zero column e)) (root_at_sound ts x (begins_item ts || begins_entry ts) h)

pub root_sound : (ts : List Token) (x : Node) → root_of ts ≡ Some x → Root ts x
root_sound [] x h =
    let P : Node → Type 0 = λ w. Root [] w in
    subst P (same_some blank x h) nothing
root_sound (token.Line column ∷ ts) x h = line_sound column ts x (column == 0) refl h
root_sound (t ∷ ts) x h = absurd (cc)

-- a node in flow that nothing follows begins neither an entry nor an item
flow_is_no_item : (ts : List Token) → begins_flow ts ≡ true → begins_item ts ≡ false
flow_is_no_item [] h = refl
flow_is_no_item (token.Dash column ∷ rest) h = absurd (cc)
flow_is_no_item (t ∷ rest) h = refl

followed : (x y : Node) (t : Token) (rest : List Token) → Some (front x (t ∷ rest)) ≡ Some (front y []) → ⊥
followed x y t rest h =
    let e : is_end (t ∷ rest) ≡ is_end [] = ap (λ f. is_end f.rest) (same_some (front x (t ∷ rest)) (front y []) h) in
    let q : false ≡ true = e in cc

flow_is_no_entry : (depth : ℕ) (ts : List Token) (x : Node) → flow depth ts ≡ Some (front x []) → begins_entry ts ≡ false
flow_is_no_entry zero (token.Scalar key ∷ token.Colon ∷ rest) x h = absurd (followed (node.Scalar key) x token.Colon rest h)
flow_is_no_entry (suc depth) (token.Scalar key ∷ token.Colon ∷ rest) x h = absurd (followed (node.Scalar key) x token.Colon rest h)
flow_is_no_entry depth ts x h = refl

neither : (a b : Bool) → a ≡ false → b ≡ false → a || b ≡ false
neither true b h g = h
neither false b h g = g

pub root_complete : (ts : List Token) (x : Node) → Root ts x → root_of ts ≡ Some x
root_complete ts x nothing = refl
root_complete ts x (inline {ts = more} h) =
    let e : flow max_depth more ≡ Some (front x []) = (flow_agrees max_depth).complete more [] x h in
    let b : begins_item more || begins_entry more ≡ false =
    neither (begins_item more) (begins_entry more) (flow_is_no_item more (flow_begins max_depth more [] x h)) (flow_is_no_entry max_depth more x e) in
    ap (λ t. cond t (alone (block max_depth 0 more)) (alone (flow max_depth more))) b ∙ ap alone e
root_complete ts x (lines {ts = more} h) =
    ap (λ t. cond t (alone (block max_depth 0 more)) (alone (flow max_depth more))) (block_begins max_depth 0 more [] x h) ∙ ap alone ((block_agrees max_depth 0).complete more [] x h)

no_root : (ts : List Token) → root_of ts ≡ None → (x : Node) → Root ts x → ⊥
no_root ts h x r = let e : None ≡ Some x = sym h ∙ root_complete ts x r in cc

-- documents
abbrev Meant : Type 0
Meant = Result (List Document) YamlCause

behind_is : (at : ℕ) (tag : Option (List ℕ)) (ts : List Token) (root : Node) (ps : List Part) (r : Meant) → Root ts root → Are ps r → Are (Whole at tag ts ∷ ps) (behind_documents (document tag root ∷ []) r)
behind_is at tag ts root ps (Ok ds) h g = one h g
behind_is at tag ts root ps (Err cause) h g = (g.0, g.1, later h g.2)

whole_is : (at : ℕ) (tag : Option (List ℕ)) (ts : List Token) (ps : List Part) (o : Option Node) (r : Meant) → root_of ts ≡ o → Are ps r → Are (Whole at tag ts ∷ ps) (and_documents (document_by at tag o) r)
whole_is at tag ts ps None r e g = (at, refl, unread (no_root ts e))
whole_is at tag ts ps (Some root) r e g = behind_is at tag ts root ps r (root_sound ts root e) g

pub documents_are : (ps : List Part) → Are ps (documents_of ps)
documents_are [] = none
documents_are (Outside at ∷ ps) = (at, refl, stray)
documents_are (Whole at tag ts ∷ ps) = whole_is at tag ts ps (root_of ts) (documents_of ps) refl (documents_are ps)

pub documents_complete : (ps : List Part) (ds : List Document) → Documents ps ds → documents_of ps ≡ Ok ds
documents_complete ps ds none = refl
documents_complete ps ds (one {at = at} {tag = tag} {ts = ts} {root = root} {ps = qs} {ds = es} h g) =
    ap (λ o. and_documents (document_by at tag o) (documents_of qs)) (root_complete ts root h) ∙ ap (behind_documents (document tag root ∷ [])) (documents_complete qs es g)

no_root_is : (ts : List Token) → ((x : Node) → Root ts x → ⊥) → root_of ts ≡ None
no_root_is ts h = by_root (root_of ts) refl
  where
    by_root : (o : Option Node) → root_of ts ≡ o → root_of ts ≡ None
    by_root None e = e
    by_root (Some x) e = absurd (h x (root_sound ts x e))

pub shape_complete : (ps : List Part) (at : ℕ) → ShapeAt ps at → documents_of ps ≡ Err (At at Shape)
shape_complete ps at stray = refl
shape_complete ps at (unread {tag = tag} {ts = ts} {ps = qs} h) = ap (λ o. and_documents (document_by at tag o) (documents_of qs)) (no_root_is ts h)
shape_complete ps at (later {start = start} {tag = tag} {ts = ts} {root = root} {ps = qs} h g) =
    ap (λ o. and_documents (document_by start tag o) (documents_of qs)) (root_complete ts root h) ∙ ap (behind_documents (document tag root ∷ [])) (shape_complete qs at g)

-- the laws
pub front_unique : {X : Type 0} (x y : X) (rest others : List Token) → Some (front x rest) ≡ Some (front y others) → (x ≡ y) × (rest ≡ others)
front_unique x y rest others h =
    let e : front x rest ≡ front y others = same_some (front x rest) (front y others) h in
    (ap (λ f. f.value) e, ap (λ f. f.rest) e)

pub flow_unique : (depth : ℕ) (ts rest others : List Token) (x y : Node) → Flow depth ts x rest → Flow depth ts y others → (x ≡ y) × (rest ≡ others)
flow_unique depth ts rest others x y h g =
    front_unique x y rest others (sym ((flow_agrees depth).complete ts rest x h) ∙ (flow_agrees depth).complete ts others y g)

pub block_unique : (depth n : ℕ) (ts rest others : List Token) (x y : Node) → Block depth n ts x rest → Block depth n ts y others → (x ≡ y) × (rest ≡ others)
block_unique depth n ts rest others x y h g =
    front_unique x y rest others (sym ((block_agrees depth n).complete ts rest x h) ∙ (block_agrees depth n).complete ts others y g)

pub root_unique : (ts : List Token) (x y : Node) → Root ts x → Root ts y → x ≡ y
root_unique ts x y h g = same_some x y (sym (root_complete ts x h) ∙ root_complete ts y g)

are_read : (ps : List Part) (r : Meant) → Are ps r → documents_of ps ≡ r
are_read ps (Ok ds) h = documents_complete ps ds h
are_read ps (Err cause) h = shape_complete ps h.0 h.2 ∙ ap Err (sym h.1)

pub parts_read : (ps : List Part) (r : Meant) → (documents_of ps ≡ r) ↔ Are ps r
parts_read ps r = (λ e. subst (Are ps) e (documents_are ps), are_read ps r)
