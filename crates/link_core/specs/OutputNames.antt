-- Output sections: their names, their classes, and which input sections make them, in which order.
use Rattle.std.specs.Prelude.{ℕ, ◌==◌, ◌/◌, ◌%◌, nat_le, nat_lt, Bool, true, false, ◌&&◌, if◌then◌else◌, List, [], ◌∷◌, map, filter, filter_map, flat_map, take, drop, length, codes, slice_get, Option, Some, None, option_map, option_and_then, unwrap_or}
use Rattle.std.specs.List.{find}
use Rattle.std.specs.Option.{option_or}
use Rattle.ifs_bytes.specs.Numeral.{numeral}
use Rattle.ifs_interface.specs.Triple.{same_name}
use Rattle.elf_object.specs.declared.constants.TheConstants.{SHT_NOBITS}
use Rattle.elf_object.specs.declared.section.ObjSection.{ObjSection}
use Rattle.elf_object.specs.Record.{ObjectRecord}
use Rattle.link_core.specs.declared.constants.TheConstants.{SHF_WRITE, SHF_EXECINSTR, SHF_TLS}
use Rattle.link_core.specs.declared.output.OutClass.{OutClass}
use Rattle.link_core.specs.declared.output.OutClass.TheVariants.{R, X, W, T, Z, B}
use Rattle.link_core.specs.declared.resolution.Member.{Member}
use Rattle.link_core.specs.Kept.{kept_sections}
use Rattle.link_core.specs.Lists.{once}

-- ---- names

-- names under which sections are put together
unfoldable pub joined_names : List (List ℕ)
joined_names =
    codes ".text" ∷ codes ".rodata" ∷ codes ".data.rel.ro" ∷ codes ".data" ∷ codes ".bss" ∷ codes ".tdata" ∷ codes ".tbss"
    ∷ codes ".init_array" ∷ codes ".fini_array" ∷ codes ".preinit_array" ∷ codes ".gcc_except_table" ∷ codes ".eh_frame" ∷ []

-- the bytes behind a prefix
abbrev pub behind : List ℕ → List ℕ → Option (List ℕ)
behind prefix name = if same_name (take (length prefix) name) prefix then Some (drop (length prefix) name) else None

-- nothing, or what a dot begins
abbrev pub is_suffix : List ℕ → Bool
is_suffix [] = true
is_suffix (b ∷ bs) = b == 46

-- the name is the prefix, or begins with it and a dot
abbrev pub falls_under : List ℕ → List ℕ → Bool
falls_under name prefix = unwrap_or (option_map is_suffix (behind prefix name)) false

-- a section goes under the first of these names that its own falls under, else under its own
unfoldable pub output_name : List ℕ → List ℕ
output_name name = unwrap_or (find (falls_under name) joined_names) name

-- ---- classes

abbrev pub has_flag : ℕ → ℕ → Bool
has_flag flags flag = flags / flag % 2 == 1

abbrev pub is_nobits : ObjSection → Bool
is_nobits s = s.kind == SHT_NOBITS

abbrev pub is_threaded : ObjSection → Bool
is_threaded s = has_flag s.flags SHF_TLS

abbrev pub is_writable : ObjSection → Bool
is_writable s = has_flag s.flags SHF_WRITE

abbrev pub is_executable : ObjSection → Bool
is_executable s = has_flag s.flags SHF_EXECINSTR

-- thread-local or not, and then with bytes in the file or not, written, executed, or only read
unfoldable pub class_of_section : ObjSection → OutClass
class_of_section s =
    if is_threaded s then (if is_nobits s then Z else T)
    else (if is_nobits s then B
    else (if is_writable s then W
    else (if is_executable s then X
    else R)))

abbrev pub same_class : OutClass → OutClass → Bool
same_class R R = true
same_class X X = true
same_class W W = true
same_class T T = true
same_class Z Z = true
same_class B B = true
same_class _ _ = false

-- ---- output sections

-- input sections of one name and one class make one output section
pub record Output : Type 0 where
  pub name : List ℕ
  pub class : OutClass

abbrev pub same_output : Output → Output → Bool
same_output a b = same_name a.name b.name && same_class a.class b.class

-- a kept section of an object, with what the object says of it
pub record Piece : Type 0 where
  pub object : ℕ
  pub section : ℕ
  pub input : ObjSection

-- the section that is named, where it is there
abbrev pub piece_at : List ObjectRecord → Member → Option Piece
piece_at objects m =
    option_map (λ s. record { object = m.object; section = m.section; input = s })
    (option_and_then (λ o. slice_get o.sections m.section) (slice_get objects m.object))

-- the kept sections, by object and section
unfoldable pub kept_pieces : List Member → List ObjectRecord → List Piece
kept_pieces dropped objects = filter_map (piece_at objects) (kept_sections dropped objects)

abbrev pub output_of : Piece → Output
output_of piece = record { name = output_name piece.input.name; class = class_of_section piece.input }

-- the output sections of input sections, in order of first appearance
unfoldable pub outputs_of : List Piece → List Output
outputs_of pieces = once same_output (map output_of pieces)

-- ---- the order of pieces

-- the number of 1 to 5 digits that the bytes behind a dot write
abbrev pub five_digits : List ℕ → Option ℕ
five_digits digits = if nat_le (length digits) 5 then numeral 10 digits else None

abbrev pub numbered_suffix : List ℕ → Option ℕ
numbered_suffix [] = None
numbered_suffix (b ∷ digits) = if b == 46 then five_digits digits else None

-- the priority of a constructor or a destructor: N of `.init_array.N` and `.fini_array.N`
unfoldable pub priority : List ℕ → Option ℕ
priority name =
    option_and_then numbered_suffix (option_or (behind (codes ".init_array") name) (behind (codes ".fini_array") name))

-- a piece with a priority goes before one with a greater one, or with none
abbrev pub goes_before : Option ℕ → Option ℕ → Bool
goes_before None other = false
goes_before (Some n) None = true
goes_before (Some n) (Some m) = nat_lt n m

-- a piece put before the first that it isn't to follow
abbrev pub put_by_priority : Piece → List Piece → List Piece
put_by_priority piece [] = piece ∷ []
put_by_priority piece (p ∷ ps) =
    if goes_before (priority p.input.name) (priority piece.input.name) then p ∷ put_by_priority piece ps
    else piece ∷ p ∷ ps

-- pieces by priority, and those of one priority in their order
abbrev pub by_priority : List Piece → List Piece
by_priority [] = []
by_priority (p ∷ ps) = put_by_priority p (by_priority ps)

-- the pieces of an output section, in order
unfoldable pub pieces_of : List Piece → Output → List Piece
pieces_of pieces output = by_priority (filter (λ p. same_output (output_of p) output) pieces)

-- the pieces of all output sections, in order
unfoldable pub ordered_pieces : List Piece → List Piece
ordered_pieces pieces = flat_map (pieces_of pieces) (outputs_of pieces)
