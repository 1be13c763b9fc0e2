-- The tokens of a text. Comments and the lines that end documents leave none.
use Rattle.std.specs.Prelude.{ℕ, zero, ◌+◌, false, ◌==◌, List, [], ◌∷◌, length, Option, Some, None, if◌then◌else◌}
use Rattle.std.specs.Str.{byte}
use Rattle.std.specs.List.{filter_map}
use Rattle.yaml_tokens.specs.Lines.{tag_of}
use Rattle.yaml_tokens.specs.Scalars.{within, undoubled, unescaped}
use Rattle.yaml_tokens.specs.Pieces.{PieceRecord, pieces_of}
use Rattle.yaml_tokens.specs.declared.token.Token.{Token}
use Rattle.yaml_tokens.specs.declared.token.Token.TheVariants as token
use Rattle.yaml_tokens.specs.declared.piece.Kind.{Kind}
use Rattle.yaml_tokens.specs.declared.piece.Kind.TheVariants.{Begin, End, Stray, Line, Open, Close, Colon, Dash, Plain, Single, Double, Other}

abbrev pub first_byte : List ℕ → ℕ
first_byte [] = 0
first_byte (b ∷ rest) = b

-- the token of a piece that keeps no text, by its first byte
abbrev pub indicator_by : Kind → ℕ → Token
indicator_by Colon b = token.Colon
indicator_by Open b = if b == byte "{" then token.OpenMap else token.OpenSeq
indicator_by Close b = if b == byte "}" then token.CloseMap else token.CloseSeq
indicator_by Other b = if b == byte "," then token.Comma else token.Other b
indicator_by _ b = token.Other b

-- the text of a scalar
abbrev pub text_by : Kind → List ℕ → List ℕ
text_by Single z = undoubled false (within z)
text_by Double z = unescaped zero (within z)
text_by _ z = z

-- the token of a piece, by its kind
abbrev pub token_by : Kind → PieceRecord → Option Token
token_by Begin p = Some (token.Begin p.line (tag_of p.bytes))
token_by End p = None
token_by Stray p = Some (token.Stray p.line)
token_by Line p = Some (token.Line (p.column + length p.bytes))
token_by Dash p = Some (token.Dash (p.column + length p.bytes))
token_by Plain p = Some (token.Scalar (text_by Plain p.bytes))
token_by Single p = Some (token.Scalar (text_by Single p.bytes))
token_by Double p = Some (token.Scalar (text_by Double p.bytes))
token_by kind p = Some (indicator_by kind (first_byte p.bytes))

unfoldable pub token_of : PieceRecord → Option Token
token_of p = token_by p.kind p

-- the tokens of a text
abbrev pub tokens_of : List ℕ → List Token
tokens_of text = filter_map token_of (pieces_of text)
