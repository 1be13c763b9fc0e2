-- The tokens of the lines of the needed libraries and of the symbols.
use Rattle.std.proofs.Common.{◌≡◌, ℕ, suc, Bool, true, false, cond, if◌then◌else◌, ◌==◌, List, [], ◌∷◌, ◌++◌, length, Option, Some, None, refl, sym, subst, append_assoc, codes, decimal, arith}
use Rattle.std.proofs.lemmas.Bool.Decides.{nat_tests}
use Rattle.std.specs.List.{flat_map}
use Rattle.ifs_interface.specs.declared.symbol.Kind.{Kind}
use Rattle.ifs_interface.specs.declared.symbol.Symbol.{Symbol}
use Rattle.yaml_tokens.specs.Bytes.{is_blank, blanks}
use Rattle.yaml_tokens.specs.Scalars.{plain_size}
use Rattle.yaml_tokens.specs.declared.token.Token.{Token}
use Rattle.yaml_tokens.specs.declared.token.Token.TheVariants as token
use Rattle.yaml_profile.specs.Printed.{printed_scalar}
use Rattle.yaml_profile.proofs.OneToken.{loud, loud_both, printed_is_on_one_line}
use Rattle.yaml_profile.proofs.InTexts.{printed_starts}
use Rattle.ifs_text.specs.Printed.{scalar_line, needed_line, needed_lines, kind_name, size_entry, undefined_entry, weak_entry, warning_entry, first_entries, other_entries, symbol_line, symbol_lines}
use Rattle.ifs_text.proofs.Words.{word_calm, decimal_is_word}
use Rattle.ifs_text.proofs.RestOfLine.{Reads, reads_end, reads_blank, reads_scalar, reads_last_scalar, reads_key, reads_last_key, reads_open, reads_open_square, reads_close_square, reads_last_close, close_stops}
use Rattle.ifs_text.proofs.LinesOfText.{Section, section_none, section_line, section_both, section_each}
use Rattle.ifs_text.proofs.FlowEntries.{word_value, scalar_value, Chunk, chunk_none, chunk_both, entry_tokens, chunk_entry}
use Rattle.ifs_text.proofs.FixedWords.{keys, words, kind_is_word}
use Rattle.ifs_text.proofs.KindsOfLines.{begins_s, begins_n, top_line, item_line}

abbrev pub name_tokens : List ℕ → List Token
name_tokens name = token.Line 2 ∷ token.Dash 4 ∷ token.Scalar name ∷ []

abbrev pub needed_tokens : List (List ℕ) → List Token
needed_tokens [] = []
needed_tokens (name ∷ names) = token.Line 0 ∷ token.Scalar (codes "NeededLibs") ∷ token.Colon ∷ flat_map name_tokens (name ∷ names)

name_section : (name : List ℕ) → Section (needed_line name) (name_tokens name)
unfolding scalar_line
name_section name =
    let z = printed_scalar name in
    section_line (codes "  - " ++ z) (name_tokens name) (item_line z (token.Scalar name ∷ []) (printed_starts name) (printed_is_on_one_line name) (reads_last_scalar name))

libs_section : Section (codes "NeededLibs:" ++ 10 ∷ []) (token.Line 0 ∷ token.Scalar (codes "NeededLibs") ∷ token.Colon ∷ [])
libs_section =
    section_line (codes "NeededLibs:") (token.Line 0 ∷ token.Scalar (codes "NeededLibs") ∷ token.Colon ∷ [])
    (top_line 78 (codes "eededLibs:") (token.Scalar (codes "NeededLibs") ∷ token.Colon ∷ []) begins_n refl (reads_last_key (codes "NeededLibs") keys.needed))

more_than_none : (n : ℕ) → (suc n == 0) ≡ false
more_than_none n = grind (arith, nat_tests)

pub needed_section : (names : List (List ℕ)) → Section (needed_lines names) (needed_tokens names)
needed_section [] = section_none
needed_section (name ∷ names) =
    let text = (codes "NeededLibs:" ++ 10 ∷ []) ++ flat_map needed_line (name ∷ names) in
    subst (λ t. Section (cond t [] text) (needed_tokens (name ∷ names))) (sym (more_than_none (length names)))
    (section_both (codes "NeededLibs:" ++ 10 ∷ []) (flat_map needed_line (name ∷ names)) (token.Line 0 ∷ token.Scalar (codes "NeededLibs") ∷ token.Colon ∷ []) (flat_map name_tokens (name ∷ names)) libs_section
    (section_each needed_line name_tokens name_section (name ∷ names)))

-- ---- the symbols

abbrev pub size_tokens : Option ℕ → List Token
size_tokens None = []
size_tokens (Some size) = entry_tokens (codes "Size") (decimal size)

abbrev pub truth_tokens : List ℕ → Bool → List Token
truth_tokens key holds = if holds then entry_tokens key (codes "true") else []

abbrev pub warning_tokens : Option (List ℕ) → List Token
warning_tokens None = []
warning_tokens (Some warning) = entry_tokens (codes "Warning") warning

abbrev pub other_tokens : Symbol → List Token
other_tokens symbol =
    size_tokens symbol.size ++ (truth_tokens (codes "Undefined") symbol.undefined ++ (truth_tokens (codes "Weak") symbol.weak ++ warning_tokens symbol.warning))

abbrev pub symbol_tokens : Symbol → List Token
symbol_tokens symbol =
    token.Line 2 ∷ token.Dash 4 ∷ token.OpenMap ∷ token.Scalar (codes "Name") ∷ token.Colon ∷ token.Scalar symbol.name
    ∷ token.Comma ∷ token.Scalar (codes "Type") ∷ token.Colon ∷ token.Scalar (kind_name symbol.kind) ∷ (other_tokens symbol ++ token.CloseMap ∷ [])

size_chunk : (size : Option ℕ) → Chunk (size_entry size) (size_tokens size)
size_chunk None = chunk_none
size_chunk (Some size) = chunk_entry (codes ", Size: ") (codes "Size") (decimal size) (decimal size) (λ z. refl) refl keys.size (word_value (decimal size) (decimal_is_word size))

undefined_chunk : (undefined : Bool) → Chunk (undefined_entry undefined) (truth_tokens (codes "Undefined") undefined)
undefined_chunk true = chunk_entry (codes ", Undefined: ") (codes "Undefined") (codes "true") (codes "true") (λ z. refl) refl keys.undefined (word_value (codes "true") words.truth)
undefined_chunk false = chunk_none

weak_chunk : (weak : Bool) → Chunk (weak_entry weak) (truth_tokens (codes "Weak") weak)
weak_chunk true = chunk_entry (codes ", Weak: ") (codes "Weak") (codes "true") (codes "true") (λ z. refl) refl keys.weak (word_value (codes "true") words.truth)
weak_chunk false = chunk_none

warning_chunk : (warning : Option (List ℕ)) → Chunk (warning_entry warning) (warning_tokens warning)
warning_chunk None = chunk_none
warning_chunk (Some warning) = chunk_entry (codes ", Warning: ") (codes "Warning") (printed_scalar warning) warning (λ z. refl) refl keys.warning (scalar_value warning)

regroup_four : (a b c d : List ℕ) → a ++ (b ++ (c ++ d)) ≡ ((a ++ b) ++ c) ++ d
regroup_four a b c d = simp append_assoc

others_chunk : (symbol : Symbol) → Chunk (other_entries symbol) (other_tokens symbol)
unfolding other_entries
others_chunk symbol =
    let weak_on = weak_entry symbol.weak ++ warning_entry symbol.warning in
    let weak_tokens = truth_tokens (codes "Weak") symbol.weak ++ warning_tokens symbol.warning in
    let weak_reads : Chunk weak_on weak_tokens = chunk_both (weak_entry symbol.weak) (warning_entry symbol.warning) (truth_tokens (codes "Weak") symbol.weak) (warning_tokens symbol.warning) (weak_chunk symbol.weak) (warning_chunk symbol.warning) in
    subst (λ w. Chunk w (other_tokens symbol)) (regroup_four (size_entry symbol.size) (undefined_entry symbol.undefined) (weak_entry symbol.weak) (warning_entry symbol.warning))
    (chunk_both (size_entry symbol.size) (undefined_entry symbol.undefined ++ weak_on) (size_tokens symbol.size) (truth_tokens (codes "Undefined") symbol.undefined ++ weak_tokens) (size_chunk symbol.size)
    (chunk_both (undefined_entry symbol.undefined) weak_on (truth_tokens (codes "Undefined") symbol.undefined) weak_tokens (undefined_chunk symbol.undefined) weak_reads))

type_chunk : (k : Kind) → Chunk (codes ", Type: " ++ kind_name k) (entry_tokens (codes "Type") (kind_name k))
type_chunk k = chunk_entry (codes ", Type: ") (codes "Type") (kind_name k) (kind_name k) (λ z. refl) refl keys.type_ (word_value (kind_name k) (kind_is_word k))

regroup_inner : (a b c d : List ℕ) → a ++ ((b ++ c) ++ d) ≡ ((a ++ b) ++ c) ++ d
regroup_inner a b c d = simp append_assoc

-- what stands behind the opening bracket
first_reads : (symbol : Symbol) (z : List ℕ) (us : List Token) → plain_size true z ≡ 0 → Reads true z us
    → Reads true (first_entries symbol ++ z) (token.Scalar (codes "Name") ∷ token.Colon ∷ token.Scalar symbol.name ∷ (entry_tokens (codes "Type") (kind_name symbol.kind) ++ us))
unfolding first_entries
first_reads symbol z us e r =
    let y = codes ", Type: " ++ kind_name symbol.kind in
    let name = printed_scalar symbol.name in
    let t = type_chunk symbol.kind in
    let ts = entry_tokens (codes "Type") (kind_name symbol.kind) ++ us in
    let named : Reads true (name ++ (y ++ z)) (token.Scalar symbol.name ∷ ts) = reads_scalar true symbol.name (y ++ z) ts (t.stops z e) (t.reads z us e r) in
    subst (λ w. Reads true (codes "Name: " ++ w) (token.Scalar (codes "Name") ∷ token.Colon ∷ token.Scalar symbol.name ∷ ts)) (regroup_inner name (codes ", Type: ") (kind_name symbol.kind) z)
    (reads_key true (codes "Name") 0 (name ++ (y ++ z)) (token.Scalar symbol.name ∷ ts) keys.name named)

first_calm : (symbol : Symbol) → loud (first_entries symbol) ≡ false
unfolding first_entries
first_calm symbol =
    loud_both (printed_scalar symbol.name ++ codes ", Type: ") (kind_name symbol.kind) (loud_both (printed_scalar symbol.name) (codes ", Type: ") (printed_is_on_one_line symbol.name) refl) (word_calm (kind_name symbol.kind) (kind_is_word symbol.kind))

unblank_brace : (z : List ℕ) → blanks (123 ∷ z) ≡ 0
unfolding is_blank
unblank_brace z = refl

symbol_section : (symbol : Symbol) → Section (symbol_line symbol) (symbol_tokens symbol)
unfolding symbol_line
symbol_section symbol =
    let o = others_chunk symbol in
    let rest = other_entries symbol ++ codes " }" in
    let ts = other_tokens symbol ++ token.CloseMap ∷ [] in
    let rest_reads : Reads true rest ts = o.reads (codes " }") (token.CloseMap ∷ []) close_stops reads_last_close in
    let inner = first_entries symbol ++ rest in
    let us = token.Scalar (codes "Name") ∷ token.Colon ∷ token.Scalar symbol.name ∷ (entry_tokens (codes "Type") (kind_name symbol.kind) ++ ts) in
    let inner_reads : Reads true inner us = first_reads symbol rest ts (o.stops (codes " }") close_stops) rest_reads in
    let calm : loud inner ≡ false = loud_both (first_entries symbol) rest (first_calm symbol) (loud_both (other_entries symbol) (codes " }") o.calm refl) in
    subst (λ w. Section ((codes "  - { " ++ w) ++ 10 ∷ []) (symbol_tokens symbol)) (sym (append_assoc (first_entries symbol) (other_entries symbol) (codes " }")))
    (section_line (codes "  - { " ++ inner) (symbol_tokens symbol) (item_line (123 ∷ 32 ∷ inner) (token.OpenMap ∷ us) (unblank_brace (32 ∷ inner)) calm (reads_open (32 ∷ inner) us (reads_blank true inner us inner_reads))))

abbrev pub symbols_behind : List Symbol → List Token
symbols_behind [] = token.Scalar (codes "Symbols") ∷ token.Colon ∷ token.OpenSeq ∷ token.CloseSeq ∷ []
symbols_behind (symbol ∷ symbols) = token.Scalar (codes "Symbols") ∷ token.Colon ∷ flat_map symbol_tokens (symbol ∷ symbols)

abbrev pub symbols_tokens : List Symbol → List Token
symbols_tokens symbols = token.Line 0 ∷ symbols_behind symbols

none_section : Section (codes "Symbols:         []" ++ 10 ∷ []) (symbols_tokens [])
none_section =
    section_line (codes "Symbols:         []") (symbols_tokens [])
    (top_line 83 (codes "ymbols:         []") (token.Scalar (codes "Symbols") ∷ token.Colon ∷ token.OpenSeq ∷ token.CloseSeq ∷ []) begins_s refl
    (reads_key false (codes "Symbols") 8 (codes "[]") (token.OpenSeq ∷ token.CloseSeq ∷ []) keys.symbols (reads_open_square (codes "]") (token.CloseSeq ∷ []) (reads_close_square [] [] reads_end))))

list_section : Section (codes "Symbols:" ++ 10 ∷ []) (token.Line 0 ∷ token.Scalar (codes "Symbols") ∷ token.Colon ∷ [])
list_section =
    section_line (codes "Symbols:") (token.Line 0 ∷ token.Scalar (codes "Symbols") ∷ token.Colon ∷ [])
    (top_line 83 (codes "ymbols:") (token.Scalar (codes "Symbols") ∷ token.Colon ∷ []) begins_s refl (reads_last_key (codes "Symbols") keys.symbols))

pub symbols_section : (symbols : List Symbol) → Section (symbol_lines symbols) (symbols_tokens symbols)
symbols_section [] = none_section
symbols_section (symbol ∷ symbols) =
    let text = (codes "Symbols:" ++ 10 ∷ []) ++ flat_map symbol_line (symbol ∷ symbols) in
    subst (λ t. Section (cond t (codes "Symbols:         []" ++ 10 ∷ []) text) (symbols_tokens (symbol ∷ symbols))) (sym (more_than_none (length symbols)))
    (section_both (codes "Symbols:" ++ 10 ∷ []) (flat_map symbol_line (symbol ∷ symbols)) (token.Line 0 ∷ token.Scalar (codes "Symbols") ∷ token.Colon ∷ []) (flat_map symbol_tokens (symbol ∷ symbols)) list_section
    (section_each symbol_line symbol_tokens symbol_section (symbol ∷ symbols)))
