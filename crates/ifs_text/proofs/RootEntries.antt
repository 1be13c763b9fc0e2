-- The entries of the root: what follows each of them.
use Rattle.std.proofs.Common.{ℕ, true, List, [], ◌∷◌, ◌++◌, Option, Some, None, refl, codes}
use Rattle.yaml_tokens.specs.declared.token.Token.{Token}
use Rattle.yaml_tokens.specs.declared.token.Token.TheVariants as token
use Rattle.yaml_nodes.specs.declared.node.Entry.{Entry}
use Rattle.yaml_nodes.specs.Lists.{Lined, final, next}
use Rattle.yaml_nodes.specs.Flow.{Flow}
use Rattle.yaml_nodes.specs.Block.{map_goes_on, Value, inline, BlockEntry, pair, Block}
use Rattle.ifs_text.specs.Document.{scalar_entry, entry_of}
use Rattle.ifs_text.proofs.TargetTokens.{pair_tokens, soname_tokens}
use Rattle.ifs_text.proofs.FlowMaps.{flow_scalar}

abbrev RootEntry : List Token → Entry → List Token → Type 0
RootEntry = BlockEntry (Value (Flow 15) (Block 15) true 0)

-- behind an entry of the root these tokens are the entries that follow it, up to the end
pub record Follows (us : List Token) (es : List Entry) : Type 0 where
  pub follows : (ts : List Token) (x : Entry) → RootEntry ts x us → Lined RootEntry (map_goes_on 0) ts (x ∷ es) []

pub follows_none : Follows [] []
follows_none = record { follows = λ ts x h. final h refl }

pub follows_entry : (vs us : List Token) (e : Entry) (es : List Entry) → RootEntry vs e us → Follows us es → Follows (token.Line 0 ∷ vs) (e ∷ es)
follows_entry vs us e es h f = record { follows = λ ts x g. next g refl (f.follows vs e h) }

pub root_pair : (key value : List ℕ) (us : List Token) → RootEntry (token.Scalar key ∷ token.Colon ∷ token.Scalar value ∷ us) (scalar_entry key value) us
root_pair key value us = pair (inline (flow_scalar 15 value us))

pub follows_pair : (key value : List ℕ) (us : List Token) (es : List Entry) → Follows us es → Follows (pair_tokens key value ++ us) (scalar_entry key value ∷ es)
follows_pair key value us es f = follows_entry (token.Scalar key ∷ token.Colon ∷ token.Scalar value ∷ us) us (scalar_entry key value) es (root_pair key value us) f

pub soname_follows : (soname : Option (List ℕ)) (us : List Token) (es : List Entry) → Follows us es → Follows (soname_tokens soname ++ us) (entry_of (codes "SoName") soname ++ es)
soname_follows None us es f = f
soname_follows (Some name) us es f = follows_pair (codes "SoName") name us es f
