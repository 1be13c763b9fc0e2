-- Causes as text: the name of the cause, and its fields in parentheses, numbers in decimal.
use Rattle.std.specs.Prelude.{ℕ, List, ◌++◌, codes, decimal, Option, Some, None}
use Rattle.ifs_interface.specs.declared.symbol.Kind.{Kind}
use Rattle.ifs_interface.specs.declared.symbol.Kind.TheVariants.{NoType, Func, Object, Tls, Unknown}
use Rattle.ifs_interface.specs.Fields.{field_name}
use Rattle.ifs_edit.specs.declared.cause.GlobCause.{GlobCause}
use Rattle.ifs_edit.specs.declared.cause.GlobCause.TheVariants as globs
use Rattle.ifs_edit.specs.declared.cause.AdjustCause.{AdjustCause}
use Rattle.ifs_edit.specs.declared.cause.AdjustCause.TheVariants as adjusts
use Rattle.ifs_edit.specs.declared.cause.MergeCause.{MergeCause}
use Rattle.ifs_edit.specs.declared.cause.MergeCause.TheVariants as merges

abbrev pub kind_name : Kind → List ℕ
kind_name NoType = codes "NoType"
kind_name Func = codes "Func"
kind_name Object = codes "Object"
kind_name Tls = codes "Tls"
kind_name Unknown = codes "Unknown"

abbrev pub size_text : Option ℕ → List ℕ
size_text (Some size) = decimal size
size_text None = codes "none"

-- a cause with one field
unfoldable pub with_one : List ℕ → List ℕ → List ℕ
with_one cause field = cause ++ (field ++ codes ")")

-- a cause with three fields
unfoldable pub last_two : List ℕ → List ℕ → List ℕ
last_two one other = one ++ (codes ", " ++ (other ++ codes ")"))

unfoldable pub with_three : List ℕ → List ℕ → List ℕ → List ℕ → List ℕ
with_three cause one two three = cause ++ (one ++ (codes ", " ++ last_two two three))

abbrev pub printed_glob_cause : GlobCause → List ℕ
printed_glob_cause (globs.BadGlob at) = with_one (codes "BadGlob(") (decimal at)
printed_glob_cause globs.Memory = codes "Memory"

abbrev pub printed_adjust_cause : AdjustCause → List ℕ
printed_adjust_cause (adjusts.TargetConflict field there given) = with_three (codes "TargetConflict(") (field_name field) there given
printed_adjust_cause adjusts.Memory = codes "Memory"

abbrev pub printed_merge_cause : MergeCause → List ℕ
printed_merge_cause (merges.TargetMismatch at) = with_one (codes "TargetMismatch(") (decimal at)
printed_merge_cause (merges.SonameMismatch at) = with_one (codes "SonameMismatch(") (decimal at)
printed_merge_cause (merges.NeededMismatch at) = with_one (codes "NeededMismatch(") (decimal at)
printed_merge_cause (merges.TypeMismatch name one other) = with_three (codes "TypeMismatch(") name (kind_name one) (kind_name other)
printed_merge_cause (merges.SizeMismatch name one other) = with_three (codes "SizeMismatch(") name (size_text one) (size_text other)
printed_merge_cause (merges.WeakMismatch name) = with_one (codes "WeakMismatch(") name
printed_merge_cause (merges.UndefinedMismatch name) = with_one (codes "UndefinedMismatch(") name
printed_merge_cause (merges.WarningMismatch name) = with_one (codes "WarningMismatch(") name
printed_merge_cause merges.Memory = codes "Memory"
