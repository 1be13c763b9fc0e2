-- The text of an interface is read as its document.
use Rattle.std.proofs.Common.{◌≡◌, ℕ, suc, ◌+◌, false, cond, List, [], ◌∷◌, ◌++◌, map, length, take, Option, Some, refl, ap, sym, subst, ◌∙◌, append-nil, arith, codes}
use Rattle.std.specs.List.{list_any}
use Rattle.std.proofs.Math.Seq.{take-append_seam}
use Rattle.ifs_interface.specs.Interface.{InterfaceRecord}
use Rattle.yaml_tokens.specs.Tokens.{tokens_of}
use Rattle.yaml_tokens.specs.declared.token.Token.{Token}
use Rattle.yaml_tokens.specs.declared.token.Token.TheVariants as token
use Rattle.yaml_nodes.specs.declared.node.Node.TheVariants as node
use Rattle.yaml_nodes.specs.Nodes.{entry}
use Rattle.yaml_nodes.specs.Block.{entries}
use Rattle.yaml_tokens.specs.Parts.{begins_part, body_size, body}
use Rattle.yaml_nodes.specs.Documents.{Root, lines, Whole, parts, Documents, none, one}
use Rattle.yaml_profile.specs.Yaml.{Yaml}
use Rattle.yaml_profile.proofs.PrintedBytes.{neither}
use Rattle.yaml_profile.proofs.Readings.{documents_are_read}
use Rattle.ifs_text.specs.Printed.{printed_interface}
use Rattle.ifs_text.specs.Document.{scalar_entry, entry_of, target_entries, needed_entries, symbol_node, root_entries, document_of}
use Rattle.ifs_text.specs.ReadBack.{PrintedIsItsDocument}
use Rattle.ifs_text.proofs.DocumentOfLines.{tag}
use Rattle.ifs_text.proofs.TargetTokens.{soname_tokens, target_tokens_by}
use Rattle.ifs_text.proofs.SymbolTokens.{needed_tokens, symbols_behind, symbols_tokens}
use Rattle.ifs_text.proofs.PrintedTokens.{body_tokens, printed_tokens}
use Rattle.ifs_text.proofs.RootEntries.{Follows, root_pair, soname_follows}
use Rattle.ifs_text.proofs.PrintedNodes.{target_follows, needed_follows, symbols_follow}

root_is : (i : InterfaceRecord) → Root (body_tokens i) (node.Map (root_entries i))
unfolding root_entries
root_is i =
    let symbols_es = entry (codes "Symbols") (node.Seq (map symbol_node i.symbols)) ∷ [] in
    let needed_ts = needed_tokens i.needed ++ symbols_tokens i.symbols in
    let needed_es = needed_entries i.needed ++ symbols_es in
    let target_ts = target_tokens_by i.target.triple i.target ++ needed_ts in
    let target_es = target_entries i.target ++ needed_es in
    let needed_f : Follows needed_ts needed_es = needed_follows i.needed (symbols_behind i.symbols) symbols_es (symbols_follow i.symbols) in
    let target_f : Follows target_ts target_es = target_follows i.target.triple i.target needed_ts needed_es needed_f in
    let us = soname_tokens i.soname ++ target_ts in
    let f : Follows us (entry_of (codes "SoName") i.soname ++ target_es) = soname_follows i.soname target_ts target_es target_f in
    lines (entries (f.follows (token.Scalar (codes "IfsVersion") ∷ token.Colon ∷ token.Scalar (codes "3.0") ∷ us) (scalar_entry (codes "IfsVersion") (codes "3.0")) (root_pair (codes "IfsVersion") (codes "3.0") us)))

-- tokens of which none begins another part are one part
all_body : (ts : List Token) → list_any begins_part ts ≡ false → body_size ts ≡ length ts
all_body [] h = refl
all_body (t ∷ ts) h =
    let p = neither (begins_part t) (list_any begins_part ts) h in
    let e : body_size ts ≡ length ts = all_body ts p.1 in
    ap (λ b. cond b 0 (1 + body_size ts)) p.0 ∙ (let s : 1 + body_size ts ≡ suc (length ts) = omega arith in s)

body_is : (ts : List Token) → list_any begins_part ts ≡ false → body ts ≡ ts
body_is ts h = ap (λ n. take n ts) (all_body ts h) ∙ ap (λ w. take (length ts) w) (sym (append-nil ts)) ∙ take-append_seam ts []

no_parts : (ts : List Token) → list_any begins_part ts ≡ false → parts ts ≡ []
no_parts [] h = refl
no_parts (token.Begin at tag ∷ ts) h = absurd (cc)
no_parts (token.Stray at ∷ ts) h = absurd (cc)
no_parts (t ∷ ts) h = no_parts ts h

one_part : (at : ℕ) (tag : Option (List ℕ)) (ts : List Token) → list_any begins_part ts ≡ false → parts (token.Begin at tag ∷ ts) ≡ Whole at tag ts ∷ []
one_part at tag ts h = ap (λ w. Whole at tag w ∷ parts ts) (body_is ts h) ∙ ap (λ w. Whole at tag ts ∷ w) (no_parts ts h)

printed_is_yaml : (i : InterfaceRecord) → Yaml (printed_interface i) (document_of i ∷ [])
printed_is_yaml i =
    let p = printed_tokens i in
    let is : parts (tokens_of (printed_interface i)) ≡ Whole 0 (Some tag) (body_tokens i) ∷ [] = ap parts p.tokens ∙ one_part 0 (Some tag) (body_tokens i) p.inner in
    (p.fault, subst (λ ps. Documents ps (document_of i ∷ [])) (sym is) (one (root_is i) none))

pub printed_is_its_document : PrintedIsItsDocument
printed_is_its_document i = (documents_are_read (printed_interface i) (document_of i ∷ [])).1 (printed_is_yaml i)
