-- What references write into the fields of their sections.
use Rattle.std.specs.Option.{option_map_or}
use Rattle.std.specs.Prelude.{Err, List, None, Ok, Option, Result, Some, [], drop, filter, fold, slice_get, slice_range, take, ℕ, ◌&&◌, ◌++◌, ◌+◌, ◌==◌}
use Rattle.ifs_bytes.specs.Field.{number_at, number_bytes}
use Rattle.ifs_bytes.specs.Outcome.{◌>>=◌}
use Rattle.ifs_bytes.specs.declared.form.Order.TheVariants.{Little}
use Rattle.elf_object.specs.declared.section.ObjSection.{ObjSection}
use Rattle.link_machine.specs.Rules.{patch_of, width_of}
use Rattle.link_machine.specs.declared.class.PatchCause.{PatchCause}
use Rattle.link_machine.specs.declared.class.PatchCause.TheVariants as causes
use Rattle.link_core.specs.declared.layout.Layout.{Layout}
use Rattle.link_core.specs.declared.need.Need.{Need}
use Rattle.link_core.specs.declared.need.Need.TheVariants as needs
use Rattle.link_core.specs.declared.refusal.At.{At}
use Rattle.link_core.specs.declared.refusal.LinkRefusal.{LinkRefusal}
use Rattle.link_core.specs.declared.refusal.LinkRefusal.TheVariants.{Misaligned, Overflow}
use Rattle.link_core.specs.Lists.{first_some, unrefused}
use Rattle.link_core.specs.Planned.{Planned, need_in, uses_by}
use Rattle.link_core.specs.References.{Use, at_of}
use Rattle.link_core.specs.Value.{reference_value}

-- the field's number by the number that stood there, or why the value doesn't go in. A field that a dynamic
-- relocation fills, or whose symbol was left out, becomes 0, whole.
abbrev pub field_by : Planned → Layout → Use → Need → ℕ → Result ℕ PatchCause
field_by j l u needs.Value old = patch_of j.rules u.reference.kind (reference_value j l u) old
field_by j l u (needs.Slot slot) old = patch_of j.rules u.reference.kind (reference_value j l u) old
field_by j l u needs.Plt old = patch_of j.rules u.reference.kind (reference_value j l u) old
field_by j l u needs.Relative old = Ok 0
field_by j l u needs.Symbolic old = Ok 0
field_by j l u needs.Clear old = Ok 0

unfoldable pub field_after : Planned → Layout → Use → ℕ → Result ℕ PatchCause
field_after j l u old = field_by j l u (need_in j u).need old

-- ---- refusals: the first value out of its range, or else the first that isn't the multiple of its type,
-- whatever stood in the field

abbrev pub overflow_in : At → Result ℕ PatchCause → Option LinkRefusal
overflow_in at (Ok field) = None
overflow_in at (Err (causes.Overflow value)) = Some (Overflow at value)
overflow_in at (Err causes.Misaligned) = None

abbrev pub misaligned_in : At → Result ℕ PatchCause → Option LinkRefusal
misaligned_in at (Ok field) = None
misaligned_in at (Err (causes.Overflow value)) = None
misaligned_in at (Err causes.Misaligned) = Some (Misaligned at)

abbrev pub overflow_of : Planned → Layout → Use → Option LinkRefusal
overflow_of j l u = overflow_in (at_of u) (field_after j l u 0)

abbrev pub misaligned_of : Planned → Layout → Use → Option LinkRefusal
misaligned_of j l u = misaligned_in (at_of u) (field_after j l u 0)

unfoldable pub patches_checked : Planned → Layout → Result (Unit {0}) LinkRefusal
patches_checked j l = do
  _ ← unrefused (first_some (overflow_of j l) (uses_by j))
  unrefused (first_some (misaligned_of j l) (uses_by j))

-- ---- the bytes of a piece

-- bytes with a number of some bytes in place of what stood at a place
abbrev pub with_field : List ℕ → ℕ → ℕ → ℕ → List ℕ
with_field bytes at size value = take at bytes ++ number_bytes size value Little ++ drop (at + size) bytes

-- a value that doesn't go in changes nothing; then there is no image
abbrev pub kept_or : ℕ → Result ℕ PatchCause → ℕ
kept_or old (Ok field) = field
kept_or old (Err cause) = old

-- bytes after one patch
unfoldable pub patched_by : Planned → Layout → List ℕ → Use → List ℕ
patched_by j l bytes u =
    let size = width_of j.rules u.reference.kind in
    let old = number_at bytes u.reference.offset size Little in
    with_field bytes u.reference.offset size (kept_or old (field_after j l u old))

-- the references of a section, in order of index
unfoldable pub uses_at : Planned → ℕ → ℕ → List Use
uses_at j object section = filter (λ u. u.object == object && u.reference.section == section) (uses_by j)

-- the bytes of a section as its object has them
abbrev pub bytes_of : List ℕ → ObjSection → List ℕ
bytes_of file s = slice_range file s.offset (s.offset + s.size)

unfoldable pub input_bytes : Planned → ℕ → ℕ → List ℕ
input_bytes j object section =
    option_map_or (λ o. option_map_or (bytes_of o.bytes) (slice_get o.sections section) [])
    (slice_get j.objects object) []

-- the bytes of a piece: those of its section after all patches, in order of index
unfoldable pub piece_bytes : Planned → Layout → ℕ → ℕ → List ℕ
piece_bytes j l object section =
    fold (patched_by j l) (input_bytes j object section) (uses_at j object section)
