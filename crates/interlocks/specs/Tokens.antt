-- The tokens of a rule's text: names, keywords, comparisons, numbers and brackets. (This project's own.)
use Rattle.std.specs.Prelude.{ℕ, suc, ◌-◌, ◌==◌, nat_le, Bool, false, not, ◌&&◌, ◌||◌, if◌then◌else◌, List, [], ◌∷◌}
use Rattle.std.specs.Prelude.{◌++◌, length, Option, Some, None, ℤ, codes}
use Rattle.std.specs.List.{list_all}
use Rattle.std.specs.Str.{bytes_eq}
use Rattle.std.specs.Char.{is_ascii_digit, is_ascii_alphanumeric}
use Rattle.interlocks.specs.declared.tree.Comparison.{Comparison}
use Rattle.interlocks.specs.declared.tree.Comparison.TheVariants.{Equal, NotEqual, Below, AtMost, Above, AtLeast}
use Rattle.interlocks.specs.declared.token.Token.{Token}
use Rattle.interlocks.specs.declared.token.Token.TheVariants.{Or, And, Not, Alarm, Open, Close, Name, Compare, Number}
use Rattle.interlocks.specs.declared.token.Token.TheVariants.{Other}
use Rattle.interlocks.specs.Numbers.{number_of, is_empty}

-- a letter, a digit or `_`, in ASCII
abbrev pub is_word_byte : ℕ → Bool
is_word_byte b = is_ascii_alphanumeric b || (b == 95)

-- whether a byte goes on with the token of these bytes: a word, and a `-` with what follows it, goes on
-- with the bytes of a word; `<`, `>` and `!` go on with `=`
abbrev pub continues : List ℕ → ℕ → Bool
continues [] b = false
continues (c ∷ cs) b = if is_word_byte c || (c == 45) then is_word_byte b else is_empty cs && (b == 61)
    && ((c == 60) || (c == 62) || (c == 33))

-- a token: its bytes, and the place of the first
pub record Piece : Type 0 where
  pub place : ℕ
  pub text : List ℕ

-- the token of these bytes, which ends before a place, in front of others
abbrev pub piece_before : List ℕ → ℕ → List Piece → List Piece
piece_before [] place rest = rest
piece_before (c ∷ cs) place rest = record { place = place - length (c ∷ cs); text = c ∷ cs } ∷ rest

-- what a byte begins: nothing where it is a space
abbrev pub begun : ℕ → List ℕ
begun b = if b == 32 then [] else b ∷ []

-- the tokens of a text: each is as long as its bytes go on, and spaces stand between
abbrev pub pieces_on : List ℕ → ℕ → List ℕ → List Piece
pieces_on begun_text place [] = piece_before begun_text place []
pieces_on begun_text place (b ∷ bs) = if continues begun_text b then pieces_on (begun_text ++ b ∷ []) (suc place)
    bs else piece_before begun_text place (pieces_on (begun b) (suc place) bs)

abbrev pub pieces : List ℕ → List Piece
pieces text = pieces_on [] 0 text

-- the words and brackets of the grammar
abbrev pub keyword_of : List ℕ → Option Token
keyword_of t =
    if bytes_eq t (codes "or") then Some Or
    else if bytes_eq t (codes "and") then Some And
    else if bytes_eq t (codes "not") then Some Not
    else if bytes_eq t (codes "alarm") then Some Alarm
    else if bytes_eq t (codes "(") then Some Open
    else if bytes_eq t (codes ")") then Some Close
    else None

abbrev pub comparison_of : List ℕ → Option Comparison
comparison_of t =
    if bytes_eq t (codes "=") then Some Equal
    else if bytes_eq t (codes "!=") then Some NotEqual
    else if bytes_eq t (codes "<") then Some Below
    else if bytes_eq t (codes "<=") then Some AtMost
    else if bytes_eq t (codes ">") then Some Above
    else if bytes_eq t (codes ">=") then Some AtLeast
    else None

-- a name, where it is no word of the grammar: at most 32 letters, digits and `_`, and no digit first
abbrev pub is_name : List ℕ → Bool
is_name [] = false
is_name (c ∷ cs) = not (is_ascii_digit c) && nat_le (length (c ∷ cs)) 32 && list_all is_word_byte (c ∷ cs)

abbrev pub number_token : Option ℤ → Token
number_token (Some z) = Number z
number_token None = Other

abbrev pub or_word : List ℕ → Option Comparison → Token
or_word t (Some c) = Compare c
or_word t None = if is_name t then Name else number_token (number_of t)

abbrev pub or_symbol : List ℕ → Option Token → Token
or_symbol t (Some k) = k
or_symbol t None = or_word t (comparison_of t)

-- what a token is, by its bytes
unfoldable pub token_of : List ℕ → Token
token_of t = or_symbol t (keyword_of t)
