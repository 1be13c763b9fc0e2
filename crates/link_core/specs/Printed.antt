-- Refusals as text: the name of the refusal, and its fields in parentheses, numbers in decimal.
use Rattle.std.specs.Prelude.{ℕ, List, ◌++◌, codes, decimal}
use Rattle.std.specs.Fmt.{signed_decimal}
use Rattle.elf_file.specs.Printed.{printed_elf_cause}
use Rattle.elf_object.specs.Printed.{printed_object_cause}
use Rattle.ifs_text.specs.Cause.{printed_text_cause}
use Rattle.link_core.specs.declared.input.LibCause.{LibCause}
use Rattle.link_core.specs.declared.input.LibCause.TheVariants as libraries
use Rattle.link_core.specs.declared.refusal.At.{At}
use Rattle.link_core.specs.declared.refusal.Place.{Place}
use Rattle.link_core.specs.declared.refusal.Place.TheVariants as places
use Rattle.link_core.specs.declared.refusal.LinkRefusal.{LinkRefusal}
use Rattle.link_core.specs.declared.refusal.LinkRefusal.TheVariants as refusals

-- a name and its fields
unfoldable pub with_one : List ℕ → List ℕ → List ℕ
with_one name one = name ++ (codes "(" ++ (one ++ codes ")"))

unfoldable pub with_two : List ℕ → List ℕ → List ℕ → List ℕ
with_two name one two = name ++ (codes "(" ++ (one ++ (codes ", " ++ (two ++ codes ")"))))

unfoldable pub last_two : List ℕ → List ℕ → List ℕ
last_two two three = two ++ (codes ", " ++ (three ++ codes ")"))

unfoldable pub with_three : List ℕ → List ℕ → List ℕ → List ℕ → List ℕ
with_three name one two three = name ++ (codes "(" ++ (one ++ (codes ", " ++ last_two two three)))

-- the place of a reference: its object, its section and its index
unfoldable pub printed_at : At → List ℕ
printed_at at = decimal at.object ++ (codes ":" ++ (decimal at.section ++ (codes ":" ++ decimal at.index)))

abbrev pub printed_place : Place → List ℕ
printed_place (places.Object at) = with_one (codes "Object") (decimal at)
printed_place (places.Library at) = with_one (codes "Library") (decimal at)

abbrev pub printed_lib_cause : LibCause → List ℕ
printed_lib_cause (libraries.Elf cause) = with_one (codes "Elf") (printed_elf_cause cause)
printed_lib_cause (libraries.Text cause) = with_one (codes "Text") (printed_text_cause cause)

abbrev pub printed_refusal : LinkRefusal → List ℕ
printed_refusal (refusals.BadObject at cause) = with_two (codes "BadObject") (decimal at) (printed_object_cause cause)
printed_refusal (refusals.BadLibrary at cause) = with_two (codes "BadLibrary") (decimal at) (printed_lib_cause cause)
printed_refusal (refusals.Versioned at) = with_one (codes "Versioned") (decimal at)
printed_refusal (refusals.MachineMismatch place) = with_one (codes "MachineMismatch") (printed_place place)
printed_refusal (refusals.Duplicate name one other) =
    with_three (codes "Duplicate") name (decimal one) (decimal other)
printed_refusal (refusals.HiddenUndefined name) = with_one (codes "HiddenUndefined") name
printed_refusal (refusals.Undefined name at) = with_two (codes "Undefined") name (decimal at)
printed_refusal (refusals.LibraryUndefined name at) = with_two (codes "LibraryUndefined") name (decimal at)
printed_refusal (refusals.NoEntry name) = with_one (codes "NoEntry") name
printed_refusal (refusals.Unsupported at kind) = with_two (codes "Unsupported") (printed_at at) (decimal kind)
printed_refusal (refusals.Discarded at) = with_one (codes "Discarded") (printed_at at)
printed_refusal (refusals.TlsMismatch at) = with_one (codes "TlsMismatch") (printed_at at)
printed_refusal (refusals.TextRelocation at) = with_one (codes "TextRelocation") (printed_at at)
printed_refusal (refusals.NotPic at) = with_one (codes "NotPic") (printed_at at)
printed_refusal (refusals.CopyRelocation name at) = with_two (codes "CopyRelocation") name (printed_at at)
printed_refusal (refusals.CanonicalPlt name at) = with_two (codes "CanonicalPlt") name (printed_at at)
printed_refusal (refusals.ImageTooLarge size) = with_one (codes "ImageTooLarge") (decimal size)
printed_refusal (refusals.Overflow at value) = with_two (codes "Overflow") (printed_at at) (signed_decimal value)
printed_refusal (refusals.Misaligned at) = with_one (codes "Misaligned") (printed_at at)
