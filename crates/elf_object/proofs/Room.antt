-- The bytes of an object have room for its section headers and its rows.
use Rattle.std.proofs.Common.{◌≡◌, ℕ, ◌+◌, ◌*◌, ◌-◌, ◌≤◌, true, List, length, refl, sym, subst, arith}
use Rattle.std.proofs.lemmas.Bool.{false≢true}
use Rattle.std.proofs.Math.Nat.{div-mul-le_self}
use Rattle.std.proofs.lemmas.List.FromFn.{length-map-range_with_len}
use Rattle.ifs_bytes.specs.declared.form.Width.{Width}
use Rattle.ifs_bytes.specs.declared.form.Width.TheVariants.{W32, W64}
use Rattle.elf_file.specs.ElfFile.{HeaderFits}
use Rattle.elf_file.specs.Tables.{section_size}
use Rattle.elf_file.specs.declared.header.Header.{Header}
use Rattle.elf_object.specs.declared.parts.Parts.{Parts}
use Rattle.elf_object.specs.Parts.{PartsLie}
use Rattle.elf_object.specs.Record.{ObjectRecord}
use Rattle.elf_object.specs.Object.{is_wide, object_at, HasRoom}
use Rattle.elf_object.specs.Sections.{section_at}
use Rattle.elf_object.specs.Symbols.{symbol_of, row_count}

wide_size : (w : Width) → is_wide w ≡ true → section_size w ≡ 64
wide_size W32 h = absurd (false≢true h)
wide_size W64 h = refl

of_object : (file : List ℕ) (h : Header) (p : Parts) → is_wide h.width ≡ true → HeaderFits file h → PartsLie file h p → HasRoom (object_at file h p)
unfolding object_at
of_object file h p wide fits lie =
    let n : length (object_at file h p).sections ≡ h.shnum - 0 = length-map-range_with_len (section_at file h p) 0 (h.shnum - 0) in
    let m : length (object_at file h p).symbols ≡ row_count p - 0 = length-map-range_with_len (symbol_of file h p) 0 (row_count p - 0) in
    let size = wide_size h.width wide in
    let there : h.shoff + h.shnum * 64 ≤ length file = subst (λ s. h.shoff + h.shnum * s ≤ length file) size fits.sections in
    let rows : row_count p * 24 ≤ p.rows.size = div-mul-le_self p.rows.size 24 in
    let lies : p.rows.from + p.rows.size ≤ length file = lie.rows_lie in
    record { sections = omega arith; symbols = omega arith }

pub has_room : (file : List ℕ) (h : Header) (p : Parts) (o : ObjectRecord) → is_wide h.width ≡ true → HeaderFits file h → PartsLie file h p → o ≡ object_at file h p → HasRoom o
has_room file h p o wide fits lie same = subst HasRoom (sym same) (of_object file h p wide fits lie)
