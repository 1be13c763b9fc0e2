-- What holds of each layout.
use Rattle.std.specs.Prelude.{All, List, Ok, Some, [], find, length, slice_get, slice_index, ℕ, ◌%◌, ◌++◌, ◌+◌, ◌<◌, ◌^◌, ◌∷◌, ◌≡◌, ◌≤◌}
use Rattle.elf_object.specs.Record.{ObjectRecord}
use Rattle.link_core.specs.declared.layout.CommonAt.{CommonAt}
use Rattle.link_core.specs.declared.layout.Layout.{Layout}
use Rattle.link_core.specs.declared.layout.OutSection.{OutSection}
use Rattle.link_core.specs.declared.layout.PieceAt.{PieceAt}
use Rattle.link_core.specs.declared.options.OutKind.{OutKind}
use Rattle.link_core.specs.declared.tables.TheConstants.{MOST_IMAGE_BYTES}
use Rattle.link_core.specs.Aligned.{alignment}
use Rattle.link_core.specs.Binding.{common_size}
use Rattle.link_core.specs.Commons.{bss, mentions_at}
use Rattle.link_core.specs.Contents.{Content, contents_of, executed_contents, read_contents, thread_contents, thread_zeros, written_contents}
use Rattle.link_core.specs.Kept.{section_of}
use Rattle.link_core.specs.Layout.{addresses_of, base_of, layout_of, output_position}
use Rattle.link_core.specs.OutputNames.{Piece, piece_at}
use Rattle.link_core.specs.Places.{is_table, table_size}
use Rattle.link_core.specs.Planned.{Planned}

abbrev pub IsLayoutOf : Planned → Layout → Type 0
IsLayoutOf j l = layout_of j.rules j.options j.objects j.names j.plan ≡ Ok l

-- ---- sections are the contents

-- a content of the image, at its address
abbrev pub section_at : Content → ℕ → OutSection
section_at c address = record {
  name = c.name;
  kind = c.kind;
  flags = c.flags;
  address = address;
  size = c.size;
  align = c.align;
}

pub record AreContents (contents : List Content) (addresses : List ℕ) (sections : List OutSection) : Type 0 where
  pub as_many : length sections ≡ length contents
  pub placed : length addresses ≡ length contents
  pub each :
      (i : ℕ) (c : Content) → slice_get contents i ≡ Some c
      → slice_get sections i ≡ Some (section_at c (slice_index addresses i))

abbrev pub SectionsAreTheContents : Type 0
SectionsAreTheContents =
    (j : Planned) (l : Layout) → IsLayoutOf j l → AreContents (contents_of j) (addresses_of j) l.sections

-- a table that is there has the size that its content says
abbrev pub TablesHaveTheirSize : Type 0
TablesHaveTheirSize =
    (j : Planned) (l : Layout) (name : List ℕ) (c : Content) → IsLayoutOf j l
    → find (is_table name) (contents_of j) ≡ Some c → table_size j l name ≡ c.size

-- ---- sections stand in the image

-- the end of the largest image
abbrev pub most_end : OutKind → ℕ
most_end kind = base_of kind + MOST_IMAGE_BYTES

abbrev pub IsInImage : OutKind → OutSection → Type 0
IsInImage kind s = (base_of kind ≤ s.address) × (s.address + s.size ≤ most_end kind)

abbrev pub SectionsAreWithin : Type 0
SectionsAreWithin = (j : Planned) (l : Layout) → IsLayoutOf j l → All (IsInImage j.options.kind) l.sections

-- so no address in an image needs more than 33 bits
abbrev pub ImagesAreLow : Type 0
ImagesAreLow = (kind : OutKind) → most_end kind < 2 ^ 33

-- ---- pieces and common symbols stand in their sections

-- so many bytes at an address stand in the section at a position
pub record StandsIn (sections : List OutSection) (position address size : ℕ) : Type 0 where
  pub section : OutSection
  pub there : slice_get sections position ≡ Some section
  pub starts : section.address ≤ address
  pub ends : address + size ≤ section.address + section.size

-- a piece is a section of an object, and all its bytes stand in its output section
pub record PieceStands (j : Planned) (sections : List OutSection) (p : PieceAt) : Type 0 where
  pub piece : Piece
  pub given : piece_at j.objects (section_of p.object p.section) ≡ Some piece
  pub stands : StandsIn sections p.out p.address piece.input.size

abbrev pub PiecesAreWithin : Type 0
PiecesAreWithin = (j : Planned) (l : Layout) → IsLayoutOf j l → All (PieceStands j l.sections) l.pieces

-- a common symbol stands in .bss
abbrev pub CommonStands : Planned → List OutSection → CommonAt → Type 0
CommonStands j sections c =
    StandsIn sections (output_position j bss) c.address (common_size (mentions_at j c.name))

abbrev pub CommonsAreWithin : Type 0
CommonsAreWithin = (j : Planned) (l : Layout) → IsLayoutOf j l → All (CommonStands j l.sections) l.commons

-- ---- the ends of the image and of the thread-local segment

pub record EndsInImage (kind : OutKind) (l : Layout) : Type 0 where
  pub behind : base_of kind ≤ l.end
  pub end : l.end ≤ most_end kind
  pub tls_start : l.tls_start ≤ most_end kind
  pub tls_end : l.tls_start + l.tls_size ≤ most_end kind
  pub tls_file : l.tls_file ≤ l.tls_size

abbrev pub EndsAreWithin : Type 0
EndsAreWithin = (j : Planned) (l : Layout) → IsLayoutOf j l → EndsInImage j.options.kind l

-- no section of these objects has an alignment above a number
abbrev pub AlignAtMost : ℕ → List ObjectRecord → Type 0
AlignAtMost most objects = All (λ o. All (λ s. s.align ≤ most) o.sections) objects

-- the alignment of the thread-local segment is at most the greatest of the objects' sections, or 1
abbrev pub ThreadsAlignAsSections : Type 0
ThreadsAlignAsSections =
    (j : Planned) (l : Layout) (most : ℕ) → IsLayoutOf j l → 1 ≤ most → AlignAtMost most j.objects
    → l.tls_align ≤ most

-- ---- places are multiples of their alignments

-- an alignment of 0 counts as 1
abbrev pub IsAligned : OutSection → Type 0
IsAligned s = s.address % alignment s.align ≡ 0

abbrev pub PlacesAreAligned : Type 0
PlacesAreAligned = (j : Planned) (l : Layout) → IsLayoutOf j l → All IsAligned l.sections

-- ---- places ascend

-- each section starts at or behind the end of the one before it, the first at or behind an address
abbrev pub Ascend : ℕ → List OutSection → Type 0
Ascend at [] = Unit {0}
Ascend at (s ∷ ss) = (at ≤ s.address) × Ascend (s.address + s.size) ss

-- the sections by what they are: of segment R, code, thread-local data, its zeros, and the rest of segment W.
-- The zeros follow thread-local data, and take no addresses from what follows.
pub record AreInOrder (j : Planned) (sections : List OutSection) : Type 0 where
  pub read : List OutSection
  pub code : List OutSection
  pub thread : List OutSection
  pub zeros : List OutSection
  pub written : List OutSection
  pub whole : sections ≡ read ++ code ++ thread ++ zeros ++ written
  pub all_read : length read ≡ length (read_contents j)
  pub all_code : length code ≡ length (executed_contents j)
  pub all_thread : length thread ≡ length (thread_contents j)
  pub all_zeros : length zeros ≡ length (thread_zeros j)
  pub all_written : length written ≡ length (written_contents j)
  pub ascend : Ascend (base_of j.options.kind) (read ++ code ++ thread ++ written)
  pub zeros_ascend : Ascend (base_of j.options.kind) (read ++ code ++ thread ++ zeros)

abbrev pub PlacesAscend : Type 0
PlacesAscend = (j : Planned) (l : Layout) → IsLayoutOf j l → AreInOrder j l.sections
