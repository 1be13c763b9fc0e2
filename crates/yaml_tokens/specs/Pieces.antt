-- How a text is cut: its lines one by one, and each line of a document into comments, indicators, plain and
-- quoted scalars (YAML 1.2, chapters 6 and 7). A byte other than a blank at which none of these begins is a
-- piece of its own.
use Rattle.std.specs.Prelude.{ℕ, zero, suc, ◌+◌, Bool, true, false, ◌||◌, ◌&&◌, not, ◌==◌, nat_lt, List, [], ◌∷◌, ◌++◌, length, take, Option, Some, None, if◌then◌else◌}
use Rattle.std.specs.Str.{byte}
use Rattle.std.specs.Option.{option_to_list}
use Rattle.yaml_tokens.specs.Bytes.{is_blank, begins, blanks, is_quote, is_open, is_close, is_left_out}
use Rattle.yaml_tokens.specs.Lines.{Line, lines, skipped, begins_document, ends_document}
use Rattle.yaml_tokens.specs.Scalars.{begins_plain, plain_size, single_size, double_size}
use Rattle.yaml_tokens.specs.declared.piece.Kind.{Kind}
use Rattle.yaml_tokens.specs.declared.piece.Kind.TheVariants.{Begin, End, Stray, Line as Indent, Open, Close, Colon, Dash, Plain, Single, Double, Unclosed, LeftOut, Other}
use Rattle.yaml_tokens.specs.declared.piece.Before.{Before}
use Rattle.yaml_tokens.specs.declared.piece.Class.{Class}
use Rattle.yaml_tokens.specs.declared.piece.Class.TheVariants.{Begins, Skipped, Stray as OutsideLine, Ends, Body}
use Rattle.yaml_tokens.specs.declared.front.Front.{Front}

-- a piece, with the offset of its line and its column there
pub record PieceRecord : Type 0 where
  pub line : ℕ
  pub column : ℕ
  pub kind : Kind
  pub bytes : List ℕ

-- a place is in flow where more brackets of its document have opened than closed before it
abbrev pub in_flow : Before → Bool
in_flow before = nat_lt before.closed before.opened

-- what stands before the place behind a piece of a kind
abbrev pub after : Before → Kind → Before
after before Begin = record { inside = true; opened = 0; closed = 0; quoted = false }
after before End = record { inside = false; opened = 0; closed = 0; quoted = false }
after before Stray = before
after before Indent = before
after before Open = record before { opened = before.opened + 1; quoted = false }
after before Close = record before { closed = before.closed + 1; quoted = false }
after before Single = record before { quoted = true }
after before Double = record before { quoted = true }
after before Unclosed = record before { quoted = true }
after before Colon = record before { quoted = false }
after before Dash = record before { quoted = false }
after before Plain = record before { quoted = false }
after before LeftOut = record before { quoted = false }
after before Other = record before { quoted = false }

abbrev pub is_dash_kind : Kind → Bool
is_dash_kind Dash = true
is_dash_kind _ = false

-- behind these pieces
abbrev pub after_all : Before → List PieceRecord → Before
after_all before [] = before
after_all before (p ∷ ps) = after_all (after before p.kind) ps

-- the kind of the piece at the front of a line's rest, and how many bytes it has behind its first
abbrev pub closed_by : Kind → Option ℕ → List ℕ → Front
closed_by kind (Some size) rest = record { kind = kind; size = size }
closed_by kind None rest = record { kind = Unclosed; size = length rest }

unfoldable pub quoted_front : ℕ → List ℕ → Front
quoted_front b rest = if b == byte "'" then closed_by Single (single_size false rest) rest else closed_by Double (double_size false rest) rest

-- in flow a `:` behind a scalar in quotes always parts a key and its value; another `:` that begins no plain
-- scalar does so except in flow directly before a bracket that opens
unfoldable pub parts_quoted : Before → ℕ → Bool
parts_quoted before b = b == byte ":" && in_flow before && before.quoted

unfoldable pub parts : Before → ℕ → List ℕ → Bool
parts before b rest = b == byte ":" && not (in_flow before && begins is_open rest)

-- outside flow a `-` that begins no plain scalar begins an item
abbrev pub begins_item : Before → ℕ → Bool
begins_item before b = b == byte "-" && not (in_flow before)

unfoldable pub leaves_out : ℕ → List ℕ → Bool
leaves_out b rest = is_left_out b || b == byte "?" && begins is_blank rest

unfoldable pub single_front : Before → ℕ → List ℕ → Front
single_front before b rest =
    if parts before b rest then record { kind = Colon; size = 0 }
    else (if begins_item before b then record { kind = Dash; size = blanks rest }
    else (if leaves_out b rest then record { kind = LeftOut; size = 0 }
    else record { kind = Other; size = 0 }))

unfoldable pub bare_front : Before → ℕ → List ℕ → Front
bare_front before b rest =
    if parts_quoted before b then record { kind = Colon; size = 0 }
    else (if begins_plain (in_flow before) b rest then record { kind = Plain; size = plain_size (in_flow before) rest }
    else single_front before b rest)

unfoldable pub front : Before → ℕ → List ℕ → Front
front before b rest =
    if is_quote b then quoted_front b rest
    else (if is_open b then record { kind = Open; size = 0 }
    else (if is_close b then record { kind = Close; size = 0 }
    else bare_front before b rest))

abbrev pub front_piece : Front → ℕ → ℕ → ℕ → List ℕ → PieceRecord
front_piece f at column b rest = record { line = at; column = column; kind = f.kind; bytes = b ∷ take f.size rest }

-- a blank stands before what follows a dash, where blanks belong to it
abbrev pub is_dash : Front → Bool
is_dash f = is_dash_kind f.kind && nat_lt 0 f.size

-- a line as one piece, and its indentation as one
abbrev pub whole : Kind → Line → PieceRecord
whole kind l = record { line = l.at; column = 0; kind = kind; bytes = l.bytes }

abbrev pub indentation : Kind → Line → PieceRecord
indentation kind l = record { line = l.at; column = 0; kind = kind; bytes = take (blanks l.bytes) l.bytes }

-- the pieces of a line from a column on, where within bytes at the front belong to the piece before, and
-- fresh says that the line's start or a blank stands before: there `#` begins a comment
abbrev pub cut : ℕ → Bool → Before → ℕ → ℕ → List ℕ → List PieceRecord
cut within fresh before at column [] = []
cut (suc within) fresh before at column (b ∷ rest) = cut within fresh before at (column + 1) rest
cut zero fresh before at column (b ∷ rest) =
    if is_blank b then cut zero true before at (column + 1) rest
    else (if b == byte "#" && fresh then []
    else front_piece (front before b rest) at column b rest
    ∷ cut (front before b rest).size (is_dash (front before b rest)) (after before (front before b rest).kind) at (column + 1) rest)

-- what a line is, by what stands before it
unfoldable pub class_of : Before → List ℕ → Class
class_of before z =
    if begins_document z then Begins
    else (if skipped z then Skipped
    else (if not before.inside then OutsideLine
    else (if ends_document z then Ends
    else Body)))

-- the piece that a line opens with: itself or its indentation
abbrev pub opening : Class → Before → Line → Option PieceRecord
opening Begins before l = Some (whole Begin l)
opening Skipped before l = None
opening OutsideLine before l = Some (indentation Stray l)
opening Ends before l = Some (whole End l)
opening Body before l = if in_flow before then None else Some (indentation Indent l)

-- what of a line is cut
abbrev pub content : Class → List ℕ → List ℕ
content Begins z = []
content Skipped z = []
content OutsideLine z = []
content Ends z = []
content Body z = z

abbrev pub line_pieces : Before → Line → List PieceRecord
line_pieces before l =
    option_to_list (opening (class_of before l.bytes) before l) ++ cut zero true before l.at 0 (content (class_of before l.bytes) l.bytes)

abbrev pub pieces : Before → List Line → List PieceRecord
pieces before [] = []
pieces before (l ∷ ls) = line_pieces before l ++ pieces (after_all before (line_pieces before l)) ls

-- nothing stands before a text
abbrev pub nothing : Before
nothing = record { inside = false; opened = 0; closed = 0; quoted = false }

-- the pieces of a text
abbrev pub pieces_of : List ℕ → List PieceRecord
pieces_of text = pieces nothing (lines true 0 text)
