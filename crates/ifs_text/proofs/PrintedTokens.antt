-- The tokens of the text of an interface.
use Rattle.std.proofs.Common.{◌≡◌, ℕ, List, [], ◌∷◌, ◌++◌, refl, sym, subst, append_assoc, codes}
use Rattle.ifs_interface.specs.Interface.{InterfaceRecord}
use Rattle.yaml_tokens.specs.declared.token.Token.{Token}
use Rattle.ifs_text.specs.Printed.{soname_line, target_line, needed_lines, symbol_lines, printed_interface}
use Rattle.ifs_text.proofs.LinesOfText.{Section, section_both}
use Rattle.ifs_text.proofs.DocumentOfLines.{document_text, IsDocument, section_document}
use Rattle.ifs_text.proofs.TargetTokens.{pair_tokens, version_section, soname_tokens, soname_section, target_tokens_by, target_section}
use Rattle.ifs_text.proofs.SymbolTokens.{needed_tokens, needed_section, symbols_tokens, symbols_section}

abbrev pub body_text : InterfaceRecord → List ℕ
body_text i = ((((codes "IfsVersion:      3.0" ++ 10 ∷ []) ++ soname_line i.soname) ++ target_line i.target) ++ needed_lines i.needed) ++ symbol_lines i.symbols

abbrev pub body_tokens : InterfaceRecord → List Token
body_tokens i = pair_tokens (codes "IfsVersion") (codes "3.0") ++ (soname_tokens i.soname ++ (target_tokens_by i.target.triple i.target ++ (needed_tokens i.needed ++ symbols_tokens i.symbols)))

regroup_five : (a b c d e : List ℕ) → a ++ (b ++ (c ++ (d ++ e))) ≡ (((a ++ b) ++ c) ++ d) ++ e
regroup_five a b c d e = simp append_assoc

body_section : (i : InterfaceRecord) → Section (body_text i) (body_tokens i)
body_section i =
    let version = codes "IfsVersion:      3.0" ++ 10 ∷ [] in
    let version_ts = pair_tokens (codes "IfsVersion") (codes "3.0") in
    let behind_needed = needed_lines i.needed ++ symbol_lines i.symbols in
    let needed_ts = needed_tokens i.needed ++ symbols_tokens i.symbols in
    let target_ts = target_tokens_by i.target.triple i.target in
    let needed_are : Section behind_needed needed_ts = section_both (needed_lines i.needed) (symbol_lines i.symbols) (needed_tokens i.needed) (symbols_tokens i.symbols) (needed_section i.needed) (symbols_section i.symbols) in
    let target_are : Section (target_line i.target ++ behind_needed) (target_ts ++ needed_ts) = section_both (target_line i.target) behind_needed target_ts needed_ts (target_section i.target) needed_are in
    let soname_are : Section (soname_line i.soname ++ (target_line i.target ++ behind_needed)) (soname_tokens i.soname ++ (target_ts ++ needed_ts)) =
    section_both (soname_line i.soname) (target_line i.target ++ behind_needed) (soname_tokens i.soname) (target_ts ++ needed_ts) (soname_section i.soname) target_are in
    subst (λ w. Section w (body_tokens i)) (regroup_five version (soname_line i.soname) (target_line i.target) (needed_lines i.needed) (symbol_lines i.symbols))
    (section_both version (soname_line i.soname ++ (target_line i.target ++ behind_needed)) version_ts (soname_tokens i.soname ++ (target_ts ++ needed_ts)) version_section soname_are)

text_is : (i : InterfaceRecord) → printed_interface i ≡ document_text (body_text i)
unfolding printed_interface
text_is i = refl

-- nothing is wrong with the text of an interface, and these are its tokens
pub printed_tokens : (i : InterfaceRecord) → IsDocument (printed_interface i) (body_tokens i)
printed_tokens i = subst (λ text. IsDocument text (body_tokens i)) (sym (text_is i)) (section_document (body_text i) (body_tokens i) (body_section i))
