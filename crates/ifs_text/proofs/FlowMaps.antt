-- Maps in flow, by the tokens of their entries.
use Rattle.std.proofs.Common.{ℕ, zero, suc, List, [], ◌∷◌, ◌++◌, inl, inr, sym, subst, append_assoc, append-nil}
use Rattle.yaml_tokens.specs.declared.token.Token.{Token}
use Rattle.yaml_tokens.specs.declared.token.Token.TheVariants as token
use Rattle.yaml_nodes.specs.declared.node.Node.TheVariants as node
use Rattle.yaml_nodes.specs.declared.node.Entry.{Entry}
use Rattle.yaml_nodes.specs.Lists.{Listed, last, more}
use Rattle.yaml_nodes.specs.Flow.{scalar, FlowEntry, whole, map as in_map, Flow}
use Rattle.ifs_text.specs.Document.{scalar_entry}
use Rattle.ifs_text.proofs.FlowEntries.{entry_tokens}

pub flow_scalar : (depth : ℕ) (text : List ℕ) (rest : List Token) → Flow depth (token.Scalar text ∷ rest) (node.Scalar text) rest
flow_scalar zero text rest = scalar
flow_scalar (suc depth) text rest = inl scalar

-- behind an entry of a map these tokens are the entries that follow it, and the map's end
pub record Further (depth : ℕ) (us : List Token) (es : List Entry) (rest : List Token) : Type 0 where
  pub further : (ts : List Token) (x : Entry) → FlowEntry (Flow depth) ts x us → Listed (FlowEntry (Flow depth)) token.CloseMap ts (x ∷ es) rest

closed : (depth : ℕ) (rest : List Token) → Further depth (token.CloseMap ∷ rest) [] rest
closed depth rest = record { further = λ ts x h. last h }

flow_pair : (depth : ℕ) (key value : List ℕ) (rest : List Token) → FlowEntry (Flow depth) (token.Scalar key ∷ token.Colon ∷ token.Scalar value ∷ rest) (scalar_entry key value) rest
flow_pair depth key value rest = whole (flow_scalar depth value rest)

-- these tokens are entries of a map, whatever entries stand behind them
pub record Puts (ts : List Token) (es : List Entry) : Type 0 where
  pub puts : (depth : ℕ) (us : List Token) (fs : List Entry) (rest : List Token) → Further depth us fs rest → Further depth (ts ++ us) (es ++ fs) rest

pub puts_none : Puts [] []
puts_none = record { puts = λ depth us fs rest f. f }

pub puts_pair : (key value : List ℕ) → Puts (entry_tokens key value) (scalar_entry key value ∷ [])
puts_pair key value = record {
  puts = λ depth us fs rest f.
      record { further = λ ts x h. more h (f.further (token.Scalar key ∷ token.Colon ∷ token.Scalar value ∷ us) (scalar_entry key value) (flow_pair depth key value us)) };
}

pub puts_both : (ts us : List Token) (es fs : List Entry) → Puts ts es → Puts us fs → Puts (ts ++ us) (es ++ fs)
puts_both ts us es fs p q = record {
  puts = λ depth vs gs rest f.
      subst (λ w. Further depth w ((es ++ fs) ++ gs) rest) (sym (append_assoc ts us vs))
      (subst (λ w. Further depth (ts ++ (us ++ vs)) w rest) (sym (append_assoc es fs gs)) (p.puts depth (us ++ vs) (fs ++ gs) rest (q.puts depth vs gs rest f)));
}

-- a map of one entry and of those that such tokens are
pub map_node : (depth : ℕ) (key value : List ℕ) (ts : List Token) (es : List Entry) (rest : List Token) → Puts ts es
    → Flow (suc depth) (token.OpenMap ∷ token.Scalar key ∷ token.Colon ∷ token.Scalar value ∷ ((ts ++ token.CloseMap ∷ []) ++ rest)) (node.Map (scalar_entry key value ∷ es)) rest
map_node depth key value ts es rest p =
    let us = ts ++ (token.CloseMap ∷ rest) in
    let front = token.Scalar key ∷ token.Colon ∷ token.Scalar value ∷ us in
    let f : Further depth us (es ++ []) rest = p.puts depth (token.CloseMap ∷ rest) [] rest (closed depth rest) in
    let found : Listed (FlowEntry (Flow depth)) token.CloseMap front (scalar_entry key value ∷ es) rest =
    subst (λ w. Listed (FlowEntry (Flow depth)) token.CloseMap front (scalar_entry key value ∷ w) rest) (append-nil es) (f.further front (scalar_entry key value) (flow_pair depth key value us)) in
    subst (λ w. Flow (suc depth) (token.OpenMap ∷ token.Scalar key ∷ token.Colon ∷ token.Scalar value ∷ w) (node.Map (scalar_entry key value ∷ es)) rest) (sym (append_assoc ts (token.CloseMap ∷ []) rest))
    (inr (in_map found))
