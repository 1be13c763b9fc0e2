-- The lines of a text, and the lines that begin and end documents (YAML 1.2, "Line Break Characters",
-- "Comments", "Document Markers"). A line ends before LF, before CR and LF, or where the text ends.
use Rattle.std.specs.Prelude.{ℕ, ◌+◌, Bool, true, ◌||◌, ◌&&◌, ◌==◌, List, [], ◌∷◌, ◌++◌, length, take, drop, nat_le, Option, Some, None, is_some, codes, nat_eq, if◌then◌else◌}
use Rattle.std.specs.Str.{byte}
use Rattle.std.specs.List.{starts_with}
use Rattle.yaml_tokens.specs.Bytes.{is_blank, begins, blanks}

-- a line ends before these bytes
unfoldable pub line_ends : ℕ → List ℕ → Bool
line_ends b rest = b == 10 || b == 13 && begins (λ c. c == 10) rest

-- how many bytes stand before the end of the line
abbrev pub line_size : List ℕ → ℕ
line_size [] = 0
line_size (b ∷ rest) = if line_ends b rest then 0 else 1 + line_size rest

-- the bytes of the line at the front
abbrev pub line : List ℕ → List ℕ
line z = take (line_size z) z

-- a line, and the offset of its first byte
pub record Line : Type 0 where
  pub at : ℕ
  pub bytes : List ℕ

-- the lines of a text from the offset at on: one begins behind each LF, and one at the front where fresh
abbrev pub lines : Bool → ℕ → List ℕ → List Line
lines fresh at [] = []
lines fresh at (b ∷ rest) =
    (if fresh then record { at = at; bytes = line (b ∷ rest) } ∷ [] else []) ++ lines (b == 10) (at + 1) rest

-- what stands behind the first LF
abbrev pub behind_line : List ℕ → List ℕ
behind_line [] = []
behind_line (b ∷ rest) = if b == 10 then rest else behind_line rest

-- nothing but blanks and a comment, where the first byte stands at the line's start or behind a blank
abbrev pub skipped : List ℕ → Bool
skipped [] = true
skipped (b ∷ rest) = if is_blank b then skipped rest else b == byte "#"

-- nothing, or a blank and nothing but blanks and a comment
abbrev pub ends_idle : List ℕ → Bool
ends_idle [] = true
ends_idle (b ∷ rest) = is_blank b && skipped rest

-- how many bytes stand before a blank
abbrev pub word_size : List ℕ → ℕ
word_size [] = 0
word_size (b ∷ rest) = if is_blank b then 0 else 1 + word_size rest

abbrev pub word : List ℕ → List ℕ
word z = take (word_size z) z

abbrev pub behind_word : List ℕ → List ℕ
behind_word z = drop (word_size z) z

-- a tag is `!` and more bytes that aren't blank, and nothing but blanks and a comment may follow it
abbrev pub is_tag : List ℕ → List ℕ → Bool
is_tag tag rest = begins (λ b. b == byte "!") tag && nat_le 2 (length tag) && ends_idle rest

abbrev pub tag_at : List ℕ → Option (List ℕ)
tag_at z = if is_tag (word z) (behind_word z) then Some (word z) else None

-- the tag that stands there behind a blank and more of them
unfoldable pub tag_behind : List ℕ → Option (List ℕ)
tag_behind z = if begins is_blank z then tag_at (drop (blanks z) z) else None

-- the line begins a document
unfoldable pub begins_document : List ℕ → Bool
begins_document z = starts_with nat_eq z (codes "---") && (ends_idle (drop 3 z) || is_some (tag_behind (drop 3 z)))

-- the tag of a document that this line begins
unfoldable pub tag_of : List ℕ → Option (List ℕ)
tag_of z = tag_behind (drop 3 z)

-- the line ends a document
unfoldable pub ends_document : List ℕ → Bool
ends_document z = starts_with nat_eq z (codes "...") && ends_idle (drop 3 z)
