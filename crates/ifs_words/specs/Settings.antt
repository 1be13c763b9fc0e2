-- The options and flags of the commands, a row each.
use Rattle.std.specs.Prelude.{ℕ, Bool, true, false, List, [], ◌∷◌, codes, Option, Some, None}
use Rattle.std.specs.List.{find}
use Rattle.std.specs.Str.{bytes_eq}
use Rattle.ifs_words.specs.declared.settings.Setting.{Setting}
use Rattle.ifs_words.specs.declared.settings.Setting.TheVariants.{InputFormat, OutputIfs, OutputElf, Arch, BitWidth, Endianness, Target, Soname, Exclude, StripIfsArch, StripIfsBitWidth, StripIfsEndianness, StripIfsTarget, StripUndefined, StripNeeded, StripSize, WriteIfChanged, Output, Kind, Entry, Runpath, DynamicLinker, Lib, ExportDynamic, AllowShlibUndefined, AsNeeded, Now, To}
use Rattle.ifs_words.specs.declared.settings.Form.{Form}
use Rattle.ifs_words.specs.declared.settings.Form.TheVariants as forms

-- a name, the form of its value, or none for a flag, and whether it may repeat
pub record SettingRow : Type 0 where
  pub name : List ℕ
  pub takes : Option Form
  pub repeats : Bool

abbrev pub flag : List ℕ → SettingRow
flag name = record { name = name; takes = None; repeats = false }

abbrev pub valued : List ℕ → Form → SettingRow
valued name form = record { name = name; takes = Some form; repeats = false }

abbrev pub repeated : List ℕ → Form → SettingRow
repeated name form = record { name = name; takes = Some form; repeats = true }

unfoldable pub row_of : Setting → SettingRow
row_of InputFormat = valued (codes "--input-format") forms.Format
row_of OutputIfs = valued (codes "--output-ifs") forms.Text
row_of OutputElf = valued (codes "--output-elf") forms.Text
row_of Arch = valued (codes "--arch") forms.Machine
row_of BitWidth = valued (codes "--bitwidth") forms.Width
row_of Endianness = valued (codes "--endianness") forms.Order
row_of Target = valued (codes "--target") forms.Triple
row_of Soname = valued (codes "--soname") forms.Text
row_of Exclude = repeated (codes "--exclude") forms.Pattern
row_of StripIfsArch = flag (codes "--strip-ifs-arch")
row_of StripIfsBitWidth = flag (codes "--strip-ifs-bitwidth")
row_of StripIfsEndianness = flag (codes "--strip-ifs-endianness")
row_of StripIfsTarget = flag (codes "--strip-ifs-target")
row_of StripUndefined = flag (codes "--strip-undefined")
row_of StripNeeded = flag (codes "--strip-needed")
row_of StripSize = flag (codes "--strip-size")
row_of WriteIfChanged = flag (codes "--write-if-changed")
row_of Output = valued (codes "--output") forms.Text
row_of Kind = valued (codes "--kind") forms.Kind
row_of Entry = valued (codes "--entry") forms.Text
row_of Runpath = valued (codes "--runpath") forms.Text
row_of DynamicLinker = valued (codes "--dynamic-linker") forms.Text
row_of Lib = repeated (codes "--lib") forms.Text
row_of ExportDynamic = flag (codes "--export-dynamic")
row_of AllowShlibUndefined = flag (codes "--allow-shlib-undefined")
row_of AsNeeded = flag (codes "--as-needed")
row_of Now = flag (codes "--now")
row_of To = valued (codes "--to") forms.Version

abbrev pub name_of : Setting → List ℕ
name_of setting = (row_of setting).name

-- the options and flags of `stub`
unfoldable pub stub_settings : List Setting
stub_settings =
    InputFormat ∷ OutputIfs ∷ OutputElf ∷ Arch ∷ BitWidth ∷ Endianness ∷ Target ∷ Soname ∷ Exclude
    ∷ StripIfsArch ∷ StripIfsBitWidth ∷ StripIfsEndianness ∷ StripIfsTarget
    ∷ StripUndefined ∷ StripNeeded ∷ StripSize ∷ WriteIfChanged ∷ []

-- the options and flags of `link`
unfoldable pub link_settings : List Setting
link_settings =
    Output ∷ Kind ∷ Entry ∷ Soname ∷ Runpath ∷ DynamicLinker ∷ Lib
    ∷ ExportDynamic ∷ AllowShlibUndefined ∷ AsNeeded ∷ Now ∷ WriteIfChanged ∷ []

-- the options and flags of `tbd`
unfoldable pub tbd_settings : List Setting
tbd_settings = To ∷ Output ∷ WriteIfChanged ∷ []

-- the one of that name in a table
abbrev pub setting_named : List Setting → List ℕ → Option Setting
setting_named table name = find (λ s. bytes_eq (name_of s) name) table
