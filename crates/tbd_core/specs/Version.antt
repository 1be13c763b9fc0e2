-- Versions of libraries as text: `X`, `X.Y` or `X.Y.Z`, X below 65536, Y and Z below 256.
use Rattle.std.specs.Prelude.{ℕ, ◌+◌, ◌^◌, Bool, not, ◌&&◌, ◌||◌, ◌==◌, nat_lt, List, [], ◌++◌, take, drop, position, Option, Some, None, option_map, option_and_then, if◌then◌else◌, codes, decimal}
use Rattle.ifs_bytes.specs.Numeral.{numeral, in_64_bits}
use Rattle.tbd_core.specs.declared.version.Version.{Version}

-- the version of a library of which none is said
abbrev pub first_version : Version
first_version = record { major = 1; minor = 0; sub = 0 }

abbrev pub is_first : Version → Bool
is_first v = v.major == 1 && v.minor == 0 && v.sub == 0

-- ---- reading

abbrev pub below : ℕ → ℕ → Option ℕ
below bound n = if nat_lt n bound then Some n else None

-- decimal digits of a number below a bound
abbrev pub number_below : ℕ → List ℕ → Option ℕ
number_below bound digits = option_and_then (below bound) (in_64_bits (numeral 10 digits))

abbrev pub dot_in : List ℕ → Option ℕ
dot_in text = position (λ b. b == 46) text

abbrev pub version : ℕ → ℕ → ℕ → Version
version major minor sub = record { major = major; minor = minor; sub = sub }

-- the text of the third number
abbrev pub sub_version : ℕ → ℕ → List ℕ → Option Version
sub_version major minor text = option_map (version major minor) (number_below (2 ^ 8) text)

-- the text of the second number, and of the third where a dot is in it
abbrev pub minor_version_by : ℕ → List ℕ → Option ℕ → Option Version
minor_version_by major text None = option_map (λ minor. version major minor 0) (number_below (2 ^ 8) text)
minor_version_by major text (Some end) =
    option_and_then (λ minor. sub_version major minor (drop (end + 1) text)) (number_below (2 ^ 8) (take end text))

unfoldable pub minor_version : ℕ → List ℕ → Option Version
minor_version major text = minor_version_by major text (dot_in text)

abbrev pub version_by : List ℕ → Option ℕ → Option Version
version_by text None = option_map (λ major. version major 0 0) (number_below (2 ^ 16) text)
version_by text (Some end) =
    option_and_then (λ major. minor_version major (drop (end + 1) text)) (number_below (2 ^ 16) (take end text))

-- the version that a text writes
unfoldable pub version_named : List ℕ → Option Version
version_named text = version_by text (dot_in text)

-- ---- printing

abbrev pub printed_part : ℕ → List ℕ
printed_part n = codes "." ++ decimal n

abbrev pub printed_minor : Version → List ℕ
printed_minor v = if not (v.minor == 0) || not (v.sub == 0) then printed_part v.minor else []

abbrev pub printed_sub : Version → List ℕ
printed_sub v = if not (v.sub == 0) then printed_part v.sub else []

-- the first number; the second where it or the third isn't 0; the third where it isn't 0
unfoldable pub printed_version : Version → List ℕ
printed_version v = decimal v.major ++ printed_minor v ++ printed_sub v
