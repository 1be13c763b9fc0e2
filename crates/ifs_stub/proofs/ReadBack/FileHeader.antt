-- The file header of a stub is read back.
use Rattle.std.proofs.Common.{◌≡◌, ℕ, ◌+◌, ◌<◌, ◌≤◌, ◌^◌, ◌==◌, false, List, ◌++◌, length, Ok, ap, ◌∙◌, subst, arith}
use Rattle.std.proofs.lemmas.Bool.Decides.{nat_tests}
use Rattle.ifs_bytes.specs.Field.{word_size}
use Rattle.ifs_bytes.specs.declared.form.Width.{Width}
use Rattle.ifs_bytes.specs.declared.form.Width.TheVariants.{W32, W64}
use Rattle.elf_file.specs.ElfFile.{HeaderFits}
use Rattle.elf_file.specs.Header.{header_of}
use Rattle.elf_file.specs.Tables.{header_size, segment_size, section_size}
use Rattle.elf_file.specs.Written.{AllFit, IsPlain, header_fields, header_bytes, segment_bytes}
use Rattle.elf_file.proofs.HeaderLaws.{header_of-header_bytes}
use Rattle.ifs_interface.specs.Interface.{InterfaceRecord}
use Rattle.ifs_stub.specs.declared.layout.Plan.{Plan}
use Rattle.ifs_stub.specs.StubFile.{file_header, load_segment, dynamic_segment, header_part, section_part}
use Rattle.ifs_stub.proofs.FileSize.{length-header_part, length-section_part}
use Rattle.ifs_stub.proofs.Fits.{fits}
use Rattle.ifs_stub.proofs.ReadBack.Stands.{Stands, stands_front, stands_within, stands_at_start}
use Rattle.ifs_stub.proofs.ReadBack.Parts.{PartsStand, PlanIsSmall}

sizes_are_small : (width : Width) → (header_size width < 2 ^ 16) × (segment_size width < 2 ^ 16) × (section_size width < 2 ^ 16)
sizes_are_small W32 = (omega arith, omega arith, omega arith)
sizes_are_small W64 = (omega arith, omega arith, omega arith)

header_fits : (plan : Plan) → plan.form.machine < 2 ^ 16 → plan.layout.sections < 2 ^ 32 → AllFit (header_fields (file_header plan) (word_size plan.form.width))
header_fits plan machine sections =
    let width = plan.form.width in
    let sizes = sizes_are_small width in
    let phoff : header_size width < 2 ^ 32 = omega (arith, sizes.0) in
    (omega arith, (omega (arith, machine), (omega arith, (fits 0 width (omega arith), (fits (header_size width) width phoff, (fits plan.layout.sections width sections, (omega arith, (omega (arith, sizes.0), (omega (arith, sizes.1), (omega arith, (omega (arith, sizes.2), (omega arith, (omega arith, tt)))))))))))))

header_is_plain : (plan : Plan) → 0 < plan.layout.sections → IsPlain (file_header plan)
header_is_plain plan some =
    let there : (plan.layout.sections == 0) ≡ false = grind (arith, nat_tests) in
    record { segments = omega arith; names = omega arith; sections = there }

-- both tables lie in the file
tables_lie : (file : List ℕ) (i : InterfaceRecord) (plan : Plan) → PartsStand file i plan → HeaderFits file (file_header plan)
tables_lie file i plan parts = record {
  segments = omega (arith, length-header_part plan, stands_within file (header_part plan) 0 parts.header);
  sections = subst (λ n. plan.layout.sections + n ≤ length file) (length-section_part plan) (stands_within file (section_part plan) plan.layout.sections parts.sections);
}

pub header_is_read : (file : List ℕ) (i : InterfaceRecord) (plan : Plan) → PartsStand file i plan → PlanIsSmall plan → plan.form.machine < 2 ^ 16 → header_of file ≡ Ok (file_header plan)
unfolding header_part
header_is_read file i plan parts small machine =
    let h = file_header plan in
    let load = segment_bytes (load_segment plan) plan.form.order plan.form.width in
    let dynamic = segment_bytes (dynamic_segment plan) plan.form.order plan.form.width in
    let first : Stands file 0 (header_bytes h) = stands_front file (header_bytes h) load 0 (stands_front file (header_bytes h ++ load) dynamic 0 parts.header) in
    let whole : file ≡ header_bytes h ++ first.after = stands_at_start file (header_bytes h) first in
    let lie : HeaderFits (header_bytes h ++ first.after) h = subst (λ f. HeaderFits f h) whole (tables_lie file i plan parts) in
    ap header_of whole ∙ header_of-header_bytes h first.after (header_fits plan machine small.sections) (header_is_plain plan small.some) lie
