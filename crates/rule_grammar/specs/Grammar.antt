use Rattle.std.specs.Prelude.{◌≡◌, ◌≤◌, ℕ, List, [], ◌∷◌, ◌++◌, Some, Ok}
use Rattle.point_table.specs.Table.{point_named}
use Rattle.alarm_rules.specs.Board.{alarm_named}
use Rattle.interlocks.specs.declared.token.Token.{Token}
use Rattle.interlocks.specs.declared.token.Token.TheVariants as token
use Rattle.interlocks.specs.Formula.{Formula, alarm, compare, negation, bracket, both, either}
use Rattle.interlocks.specs.Tokens.{Piece, pieces, token_of}
use Rattle.interlocks.specs.Reading.{Names, read_rule}

-- The grammar of rules (this project's own):
--   any := all { "or" all },  all := one { "and" one },
--   one := "not" one | "(" any ")" | "alarm" NAME | NAME CMP NUMBER

-- 0: the rule is a `one`; 1: an `all` of two parts or more; 2: an `any` of two parts or more
abbrev pub rank : Formula → ℕ
rank (alarm n) = 0
rank (compare p c z) = 0
rank (negation f) = 0
rank (bracket f) = 0
rank (both f g) = 1
rank (either f g) = 2

-- the rule is grouped as the grammar does
abbrev pub IsGrouped : Formula → Type 0
IsGrouped (alarm n) = Unit {0}
IsGrouped (compare p c z) = Unit {0}
IsGrouped (negation f) = (rank f ≤ 0) × IsGrouped f
IsGrouped (bracket f) = IsGrouped f
IsGrouped (both f g) = (rank f ≤ 1) × IsGrouped f × (rank g ≤ 0) × IsGrouped g
IsGrouped (either f g) = (rank f ≤ 2) × IsGrouped f × (rank g ≤ 1) × IsGrouped g

abbrev pub Is : Token → Piece → Type 0
Is k t = token_of t.text ≡ k

-- `alarm` and the name of that alarm
pub record SpellsAlarm (names : Names) (n : ℕ) (ts : List Piece) : Type 0 where
  pub word : Piece
  pub name : Piece
  pub all : ts ≡ word ∷ name ∷ []
  pub is_word : Is token.Alarm word
  pub is_name : Is token.Name name
  pub named : alarm_named names.alarms.rules name.text ≡ Some n

-- the name of that point, how it is compared, and with which number
pub record SpellsCompare (names : Names) (p : ℕ) (by number : Token) (ts : List Piece) : Type 0 where
  pub name : Piece
  pub sign : Piece
  pub value : Piece
  pub all : ts ≡ name ∷ sign ∷ value ∷ []
  pub is_name : Is token.Name name
  pub named : point_named names.points.points name.text ≡ Some p
  pub is_sign : Is by sign
  pub is_value : Is number value

-- one token and what stands behind it
pub record Front (k : Token) (P : List Piece → Type 0) (ts : List Piece) : Type 0 where
  pub word : Piece
  pub rest : List Piece
  pub all : ts ≡ word ∷ rest
  pub is_word : Is k word
  pub spelled : P rest

-- what stands before one token at the end
pub record Back (k : Token) (P : List Piece → Type 0) (ts : List Piece) : Type 0 where
  pub rest : List Piece
  pub word : Piece
  pub all : ts ≡ rest ++ word ∷ []
  pub is_word : Is k word
  pub spelled : P rest

-- two parts and the token between them
pub record Between (k : Token) (P Q : List Piece → Type 0) (ts : List Piece) : Type 0 where
  pub left : List Piece
  pub word : Piece
  pub right : List Piece
  pub all : ts ≡ left ++ word ∷ right
  pub is_word : Is k word
  pub is_left : P left
  pub is_right : Q right

-- these tokens spell the rule
abbrev pub Spells : Names → Formula → List Piece → Type 0
Spells names (alarm n) ts = SpellsAlarm names n ts
Spells names (compare p c z) ts = SpellsCompare names p (token.Compare c) (token.Number z) ts
Spells names (negation f) ts = Front token.Not (Spells names f) ts
Spells names (bracket f) ts = Front token.Open (Back token.Close (Spells names f)) ts
Spells names (both f g) ts = Between token.And (Spells names f) (Spells names g) ts
Spells names (either f g) ts = Between token.Or (Spells names f) (Spells names g) ts

-- what is read from a text is grouped as the grammar does, and the text's tokens spell it
abbrev pub EachRuleIsSpelled : Type 0
EachRuleIsSpelled = (names : Names) (text : List ℕ) (f : Formula) → read_rule names text ≡ Ok f →
    IsGrouped f × Spells names f (pieces text)
