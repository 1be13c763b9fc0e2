-- The values of options: what they stand for, and which are good.
use Rattle.std.specs.Prelude.{ℕ, Bool, ◌&&◌, true, List, codes, Option, Some, None, is_some, is_ok, if◌then◌else◌}
use Rattle.std.specs.Str.{bytes_eq, str_eq_ignore_ascii_case}
use Rattle.ifs_bytes.specs.declared.form.Order.{Order}
use Rattle.ifs_bytes.specs.declared.form.Order.TheVariants.{Little, Big}
use Rattle.ifs_bytes.specs.declared.form.Width.{Width}
use Rattle.ifs_bytes.specs.declared.form.Width.TheVariants.{W32, W64}
use Rattle.ifs_interface.specs.Arch.{machine_named}
use Rattle.ifs_interface.specs.Interface.{is_proper_name}
use Rattle.ifs_interface.specs.Triple.{parts_of_triple}
use Rattle.ifs_edit.specs.Parsed.{glob_of}
use Rattle.ifs_words.specs.declared.command.InputFormat.{InputFormat}
use Rattle.ifs_words.specs.declared.command.InputFormat.TheVariants.{Ifs, Elf}
use Rattle.ifs_words.specs.declared.link.LinkKind.{LinkKind}
use Rattle.ifs_words.specs.declared.link.LinkKind.TheVariants.{Exec, Pie, Shared}
use Rattle.ifs_words.specs.declared.settings.Form.{Form}
use Rattle.ifs_words.specs.declared.settings.Form.TheVariants as forms
use Rattle.ifs_words.specs.declared.tbd.TbdVersion.{TbdVersion}
use Rattle.ifs_words.specs.declared.tbd.TbdVersion.TheVariants.{V4, V5}

-- `IFS` or `ELF`, in any case of their letters
abbrev pub format_named : List ℕ → Option InputFormat
format_named value =
    if str_eq_ignore_ascii_case value (codes "IFS") then Some Ifs
    else (if str_eq_ignore_ascii_case value (codes "ELF") then Some Elf else None)

abbrev pub width_named : List ℕ → Option Width
width_named value =
    if bytes_eq value (codes "32") then Some W32
    else (if bytes_eq value (codes "64") then Some W64 else None)

abbrev pub order_named : List ℕ → Option Order
order_named value =
    if bytes_eq value (codes "little") then Some Little
    else (if bytes_eq value (codes "big") then Some Big else None)

abbrev pub kind_named : List ℕ → Option LinkKind
kind_named value =
    if bytes_eq value (codes "exec") then Some Exec
    else (if bytes_eq value (codes "pie") then Some Pie
    else (if bytes_eq value (codes "shared") then Some Shared else None))

abbrev pub version_named : List ℕ → Option TbdVersion
version_named value =
    if bytes_eq value (codes "4") then Some V4
    else (if bytes_eq value (codes "5") then Some V5 else None)

abbrev pub has_form : Form → List ℕ → Bool
has_form forms.Text value = true
has_form forms.Format value = is_some (format_named value)
has_form forms.Machine value = is_some (machine_named value)
has_form forms.Width value = is_some (width_named value)
has_form forms.Order value = is_some (order_named value)
has_form forms.Triple value = is_some (parts_of_triple value)
has_form forms.Pattern value = is_ok (glob_of value)
has_form forms.Kind value = is_some (kind_named value)
has_form forms.Version value = is_some (version_named value)

-- a good value isn't empty, has no NUL, and has the form; a flag has none, and any will do
abbrev pub is_good : Option Form → List ℕ → Bool
is_good None value = true
is_good (Some form) value = is_proper_name value && has_form form value
