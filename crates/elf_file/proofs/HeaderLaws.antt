-- A written file header is read back.
use Rattle.std.proofs.Common.{◌≡◌, ◌<◌, ◌≤◌, ℕ, ◌*◌, ◌==◌, ◌||◌, Bool, true, false, nat_le, List, [], ◌++◌, length, slice_index, take, drop, Some, Ok, refl, sym, ap, ◌∙◌, subst, arith, append_assoc, length-append, eq-eqb}
use Rattle.std.proofs.Math.Seq.{drop-append_seam}
use Rattle.std.proofs.Math.Nat.{mul-le-mul_right}
use Rattle.std.proofs.lemmas.Bool.{le-leb, eqb-true}
use Rattle.std.proofs.lemmas.Bool.Decides.{nat_tests}
use Rattle.ifs_bytes.specs.Field.{word_size, lies}
use Rattle.ifs_bytes.specs.declared.form.Order.{Order}
use Rattle.ifs_bytes.specs.declared.form.Order.TheVariants.{Little, Big}
use Rattle.ifs_bytes.specs.declared.form.Width.{Width}
use Rattle.ifs_bytes.specs.declared.form.Width.TheVariants.{W32, W64}
use Rattle.elf_file.specs.ElfFile.{HeaderFits}
use Rattle.elf_file.specs.Header.{is_archive, has_magic, width_of, order_of, form_of, has_known_sizes, section_count, name_section, sections_of, counted_sections, tables_of, header_of}
use Rattle.elf_file.specs.Tables.{header_size, section_size, segment_size, file_header_at, section_header_at}
use Rattle.elf_file.specs.Written.{fields_bytes, AllFit, Stand, HeaderStands, IsPlain, header_fields, header_bytes, ident_bytes, class_of, code_of, file_header_of}
use Rattle.elf_file.specs.declared.fields.FileHeader.{FileHeader}
use Rattle.elf_file.specs.declared.form.Form.{Form}
use Rattle.elf_file.specs.declared.header.Header.{Header}
use Rattle.elf_file.proofs.ByWord.{header_size_is}
use Rattle.elf_file.proofs.ReadBack.{fields_stand, length-fields_bytes}

file_header_from_stand : (h : Header) (order : Order) (width : Width) (bytes : List ℕ) (at : ℕ) → Stand bytes at order 16 (header_fields h (word_size width)) → file_header_at bytes at order width ≡ file_header_of h
unfolding file_header_at
file_header_from_stand h order W32 bytes at f =
    rw (f.0, f.1.0, f.1.1.1.0, f.1.1.1.1.0, f.1.1.1.1.1.0, f.1.1.1.1.1.1.1.1.0, f.1.1.1.1.1.1.1.1.1.0, f.1.1.1.1.1.1.1.1.1.1.0, f.1.1.1.1.1.1.1.1.1.1.1.0, f.1.1.1.1.1.1.1.1.1.1.1.1.0) refl
file_header_from_stand h order W64 bytes at f =
    rw (f.0, f.1.0, f.1.1.1.0, f.1.1.1.1.0, f.1.1.1.1.1.0, f.1.1.1.1.1.1.1.1.0, f.1.1.1.1.1.1.1.1.1.0, f.1.1.1.1.1.1.1.1.1.1.0, f.1.1.1.1.1.1.1.1.1.1.1.0, f.1.1.1.1.1.1.1.1.1.1.1.1.0) refl

pub header_stands : (h : Header) (before after : List ℕ) → AllFit (header_fields h (word_size h.width)) → HeaderStands (before ++ header_bytes h ++ after) (length before) h
unfolding header_bytes
header_stands h before after fit =
    let fs = header_fields h (word_size h.width) in
    let ident = ident_bytes h.order h.width in
    let whole : before ++ header_bytes h ++ after ≡ before ++ (ident ++ (fields_bytes fs h.order ++ after)) = append_assoc before (header_bytes h) after in
    let f : Stand (before ++ header_bytes h ++ after) (length before) h.order 16 fs = subst (λ (b : List ℕ). Stand b (length before) h.order 16 fs) (sym whole) (fields_stand fs h.order before ident after 16 refl fit) in
    record {
      ident = ap (λ (b : List ℕ). take 16 (drop (length before) b)) whole ∙ ap (take 16) (drop-append_seam before (ident ++ (fields_bytes fs h.order ++ after)));
      fields = f;
      read = file_header_from_stand h h.order h.width _ _ f;
    }

pub length-header_bytes : (h : Header) → length (header_bytes h) ≡ header_size h.width
unfolding header_bytes
length-header_bytes h =
    let fs = header_fields h (word_size h.width) in
    omega (arith, length-append (ident_bytes h.order h.width) (fields_bytes fs h.order), length-fields_bytes fs h.order, header_size_is h.width)

-- each test of e_ident holds
form_of_is : (file : List ℕ) (o : Order) (w : Width) → nat_le 16 (length file) ≡ true → width_of (slice_index file 4) ≡ Some w → order_of (slice_index file 5) ≡ Some o → (slice_index file 6 == 1) ≡ true → form_of file ≡ Ok (record { order = o; width = w })
unfolding form_of
form_of_is file o w long class code version = rw (long, class, code, version) refl

width_of-class_of : (width : Width) → width_of (class_of width) ≡ Some width
width_of-class_of W32 = refl
width_of-class_of W64 = refl

order_of-code_of : (order : Order) → order_of (code_of order) ≡ Some order
order_of-code_of Little = refl
order_of-code_of Big = refl

form_of-ident_bytes : (order : Order) (width : Width) (rest : List ℕ) → form_of (ident_bytes order width ++ rest) ≡ Ok (record { order = order; width = width })
form_of-ident_bytes order width rest =
    form_of_is (ident_bytes order width ++ rest) order width (le-leb 16 _ (omega (arith, length-append (ident_bytes order width) rest))) (width_of-class_of width) (order_of-code_of order) refl

-- both tests of the section headers hold
counted_sections_is : (file : List ℕ) (e : FileHeader) (form : Form) (count names : ℕ) → lies file e.shoff (section_size form.width) ≡ true → section_count e (section_header_at file e.shoff form.order form.width) ≡ count → name_section e (section_header_at file e.shoff form.order form.width) ≡ names → lies file e.shoff (count * section_size form.width) ≡ true → counted_sections file e form ≡ Ok (count, names)
unfolding counted_sections
counted_sections_is file e form count names first counted named all = rw (first, counted, all, named) refl

tables_of_is : (file : List ℕ) (e : FileHeader) (form : Form) (count names : ℕ) → has_known_sizes e form.width ≡ true → lies file e.phoff (e.phnum * segment_size form.width) ≡ true → sections_of file e form ≡ Ok (count, names) → tables_of file e form ≡ Ok (record { order = form.order; width = form.width; kind = e.kind; machine = e.machine; entry_point = e.entry; phoff = e.phoff; phnum = e.phnum; shoff = e.shoff; shnum = count; shstrndx = names })
unfolding tables_of
tables_of_is file e form count names sizes segments sections = rw (sizes, segments, sections) refl

header_of_is : (file : List ℕ) (form : Form) (e : FileHeader) (h : Header) → is_archive file ≡ false → has_magic file ≡ true → form_of file ≡ Ok form → lies file 0 (header_size form.width) ≡ true → file_header_at file 0 form.order form.width ≡ e → tables_of file e form ≡ Ok h → header_of file ≡ Ok h
unfolding header_of
header_of_is file form e h archive magic formed whole fields tables = rw (archive, magic, formed, whole, fields) tables

or_true : (b : Bool) → (b || true) ≡ true
or_true true = refl
or_true false = refl

same_size : (n : ℕ) → (n == n) ≡ true
same_size n = eq-eqb n n refl

known_sizes : (h : Header) → h.phnum < 65535 → has_known_sizes (file_header_of h) h.width ≡ true
known_sizes h fits =
    let other : (h.phnum == 65535) ≡ false = grind (arith, nat_tests) in
    rw (other, same_size (segment_size h.width), same_size (section_size h.width), or_true (h.phnum == 0), or_true (h.shoff == 0)) refl

sections_by : (file : List ℕ) (h : Header) (b : Bool) → (h.shoff == 0) ≡ b → IsPlain h → HeaderFits file h → sections_of file (file_header_of h) (record { order = h.order; width = h.width }) ≡ Ok (h.shnum, h.shstrndx)
sections_by file h true none plain fits =
    let no_sections : h.shnum ≡ 0 = eqb-true h.shnum 0 (sym plain.sections ∙ none) in
    rw (none, no_sections) refl
sections_by file h false some plain fits =
    let form : Form = record { order = h.order; width = h.width } in
    let first = section_header_at file h.shoff h.order h.width in
    let counted : (h.shnum == 0) ≡ false = sym plain.sections ∙ some in
    let named : (h.shstrndx == 65535) ≡ false = let below = plain.names in grind (arith, nat_tests) in
    let above : 1 ≤ h.shnum = grind (arith, nat_tests) in
    let one : 1 * section_size h.width ≤ h.shnum * section_size h.width = mul-le-mul_right (section_size h.width) above in
    rw some (counted_sections_is file (file_header_of h) form h.shnum h.shstrndx (le-leb _ _ (omega (arith, fits.sections, one))) (rw counted refl) (rw named refl) (le-leb _ _ fits.sections))

pub header_of-header_bytes : (h : Header) (after : List ℕ) → AllFit (header_fields h (word_size h.width)) → IsPlain h → HeaderFits (header_bytes h ++ after) h → header_of (header_bytes h ++ after) ≡ Ok h
unfolding header_bytes
header_of-header_bytes h after fit plain fits =
    let file = header_bytes h ++ after in
    let form : Form = record { order = h.order; width = h.width } in
    let rest = fields_bytes (header_fields h (word_size h.width)) h.order ++ after in
    let stands = header_stands h [] after fit in
    header_of_is file form (file_header_of h) h refl refl (form_of-ident_bytes h.order h.width rest) (le-leb _ _ (omega (arith, length-append (header_bytes h) after, length-header_bytes h))) stands.read (tables_of_is file (file_header_of h) form h.shnum h.shstrndx (known_sizes h plain.segments) (le-leb _ _ fits.segments) (sections_by file h (h.shoff == 0) refl plain fits))
