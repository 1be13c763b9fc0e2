-- The tokens of the lines before the needed libraries: the version, the soname and the target.
use Rattle.std.proofs.Common.{ℕ, Bool, true, false, cond, if◌then◌else◌, List, [], ◌∷◌, ◌++◌, Option, Some, None, refl, sym, subst, append_assoc, codes}
use Rattle.ifs_bytes.specs.declared.form.Order.{Order}
use Rattle.ifs_bytes.specs.declared.form.Order.TheVariants.{Little, Big}
use Rattle.ifs_bytes.specs.declared.form.Width.{Width}
use Rattle.ifs_bytes.specs.declared.form.Width.TheVariants.{W32, W64}
use Rattle.ifs_interface.specs.declared.target.Target.{Target}
use Rattle.ifs_interface.specs.Arch.{arch_name}
use Rattle.yaml_tokens.specs.declared.token.Token.{Token}
use Rattle.yaml_tokens.specs.declared.token.Token.TheVariants as token
use Rattle.yaml_profile.specs.Printed.{printed_scalar}
use Rattle.yaml_profile.proofs.OneToken.{loud_both, printed_is_on_one_line}
use Rattle.ifs_text.specs.Printed.{scalar_line, soname_line, arch_entry, order_entry, width_entry, part_entries, parts_line, has_part, target_line_by, target_line}
use Rattle.ifs_text.proofs.RestOfLine.{Reads, reads_end, reads_blank, reads_last_scalar, reads_word, reads_key, reads_open, reads_last_close, close_stops}
use Rattle.ifs_text.proofs.LinesOfText.{Section, section_none, section_line}
use Rattle.ifs_text.proofs.FlowEntries.{word_value, Chunk, chunk_none, chunk_both, entry_tokens, chunk_entry}
use Rattle.ifs_text.proofs.FixedWords.{keys, words, arch_is_word}
use Rattle.ifs_text.proofs.KindsOfLines.{begins_i, begins_s, begins_t, top_line}

abbrev pub pair_tokens : List ℕ → List ℕ → List Token
pair_tokens key value = token.Line 0 ∷ token.Scalar key ∷ token.Colon ∷ token.Scalar value ∷ []

pub version_section : Section (codes "IfsVersion:      3.0" ++ 10 ∷ []) (pair_tokens (codes "IfsVersion") (codes "3.0"))
version_section =
    section_line (codes "IfsVersion:      3.0") (pair_tokens (codes "IfsVersion") (codes "3.0"))
    (top_line 73 (codes "fsVersion:      3.0") (token.Scalar (codes "IfsVersion") ∷ token.Colon ∷ token.Scalar (codes "3.0") ∷ []) begins_i refl
    (reads_key false (codes "IfsVersion") 5 (codes "3.0") (token.Scalar (codes "3.0") ∷ []) keys.version (reads_word false (codes "3.0") [] [] words.version refl reads_end)))

abbrev pub soname_tokens : Option (List ℕ) → List Token
soname_tokens None = []
soname_tokens (Some name) = pair_tokens (codes "SoName") name

pub soname_section : (soname : Option (List ℕ)) → Section (soname_line soname) (soname_tokens soname)
unfolding scalar_line
soname_section None = section_none
soname_section (Some name) =
    let z = printed_scalar name in
    section_line (codes "SoName:          " ++ z) (pair_tokens (codes "SoName") name)
    (top_line 83 (codes "oName:          " ++ z) (token.Scalar (codes "SoName") ∷ token.Colon ∷ token.Scalar name ∷ []) begins_s (printed_is_on_one_line name)
    (reads_key false (codes "SoName") 9 z (token.Scalar name ∷ []) keys.soname (reads_last_scalar name)))

-- ---- the target

abbrev pub arch_tokens : Option ℕ → List Token
arch_tokens None = []
arch_tokens (Some machine) = entry_tokens (codes "Arch") (arch_name machine)

abbrev pub order_tokens : Option Order → List Token
order_tokens None = []
order_tokens (Some Little) = entry_tokens (codes "Endianness") (codes "little")
order_tokens (Some Big) = entry_tokens (codes "Endianness") (codes "big")

abbrev pub width_tokens : Option Width → List Token
width_tokens None = []
width_tokens (Some W32) = entry_tokens (codes "BitWidth") (codes "32")
width_tokens (Some W64) = entry_tokens (codes "BitWidth") (codes "64")

abbrev pub part_tokens : Target → List Token
part_tokens target = arch_tokens target.machine ++ (order_tokens target.order ++ width_tokens target.width)

arch_chunk : (machine : Option ℕ) → Chunk (arch_entry machine) (arch_tokens machine)
arch_chunk None = chunk_none
arch_chunk (Some machine) = chunk_entry (codes ", Arch: ") (codes "Arch") (arch_name machine) (arch_name machine) (λ z. refl) refl keys.arch (word_value (arch_name machine) (arch_is_word machine))

order_chunk : (order : Option Order) → Chunk (order_entry order) (order_tokens order)
order_chunk None = chunk_none
order_chunk (Some Little) = chunk_entry (codes ", Endianness: ") (codes "Endianness") (codes "little") (codes "little") (λ z. refl) refl keys.order (word_value (codes "little") words.little)
order_chunk (Some Big) = chunk_entry (codes ", Endianness: ") (codes "Endianness") (codes "big") (codes "big") (λ z. refl) refl keys.order (word_value (codes "big") words.big)

width_chunk : (width : Option Width) → Chunk (width_entry width) (width_tokens width)
width_chunk None = chunk_none
width_chunk (Some W32) = chunk_entry (codes ", BitWidth: ") (codes "BitWidth") (codes "32") (codes "32") (λ z. refl) refl keys.width (word_value (codes "32") words.w32)
width_chunk (Some W64) = chunk_entry (codes ", BitWidth: ") (codes "BitWidth") (codes "64") (codes "64") (λ z. refl) refl keys.width (word_value (codes "64") words.w64)

parts_chunk : (target : Target) → Chunk (part_entries target) (part_tokens target)
unfolding part_entries
parts_chunk target =
    subst (λ w. Chunk w (part_tokens target)) (sym (append_assoc (arch_entry target.machine) (order_entry target.order) (width_entry target.width)))
    (chunk_both (arch_entry target.machine) (order_entry target.order ++ width_entry target.width) (arch_tokens target.machine) (order_tokens target.order ++ width_tokens target.width) (arch_chunk target.machine)
    (chunk_both (order_entry target.order) (width_entry target.width) (order_tokens target.order) (width_tokens target.width) (order_chunk target.order) (width_chunk target.width)))

abbrev pub map_tokens : Target → List Token
map_tokens target =
    token.Line 0 ∷ token.Scalar (codes "Target") ∷ token.Colon ∷ token.OpenMap ∷ token.Scalar (codes "ObjectFormat") ∷ token.Colon ∷ token.Scalar (codes "ELF") ∷ (part_tokens target ++ token.CloseMap ∷ [])

parts_section : (target : Target) → Section (parts_line target) (map_tokens target)
unfolding parts_line
parts_section target =
    let p = parts_chunk target in
    let z = part_entries target ++ codes " }" in
    let ts = part_tokens target ++ token.CloseMap ∷ [] in
    let parts_read : Reads true z ts = p.reads (codes " }") (token.CloseMap ∷ []) close_stops reads_last_close in
    let elf = codes "ELF" ++ z in
    let us = token.Scalar (codes "ObjectFormat") ∷ token.Colon ∷ token.Scalar (codes "ELF") ∷ ts in
    let format = codes "ObjectFormat: ELF" ++ z in
    let format_reads : Reads true format us = reads_key true (codes "ObjectFormat") 0 elf (token.Scalar (codes "ELF") ∷ ts) keys.format (reads_word true (codes "ELF") z ts words.format (p.stops (codes " }") close_stops) parts_read) in
    section_line (codes "Target:          { ObjectFormat: ELF" ++ z) (map_tokens target)
    (top_line 84 (codes "arget:          { ObjectFormat: ELF" ++ z) (token.Scalar (codes "Target") ∷ token.Colon ∷ token.OpenMap ∷ us) begins_t (loud_both (part_entries target) (codes " }") p.calm refl)
    (reads_key false (codes "Target") 9 (123 ∷ 32 ∷ format) (token.OpenMap ∷ us) keys.target (reads_open (32 ∷ format) us (reads_blank true format us format_reads))))

abbrev pub target_tokens_by : Option (List ℕ) → Target → List Token
target_tokens_by (Some triple) target = pair_tokens (codes "Target") triple
target_tokens_by None target = if has_part target then map_tokens target else []

target_section_by : (triple : Option (List ℕ)) (target : Target) → Section (target_line_by triple target) (target_tokens_by triple target)
unfolding scalar_line
target_section_by (Some triple) target =
    let z = printed_scalar triple in
    section_line (codes "Target:          " ++ z) (pair_tokens (codes "Target") triple)
    (top_line 84 (codes "arget:          " ++ z) (token.Scalar (codes "Target") ∷ token.Colon ∷ token.Scalar triple ∷ []) begins_t (printed_is_on_one_line triple)
    (reads_key false (codes "Target") 9 z (token.Scalar triple ∷ []) keys.target (reads_last_scalar triple)))
target_section_by None target = by (has_part target)
  where
    by : (t : Bool) → Section (cond t (parts_line target) []) (cond t (map_tokens target) [])
    by true = parts_section target
    by false = section_none

pub target_section : (target : Target) → Section (target_line target) (target_tokens_by target.triple target)
target_section target = target_section_by target.triple target
