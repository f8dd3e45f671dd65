-- Reading a rule from left to right, token by token. The grammar is
--   any := all { "or" all },  all := one { "and" one },
--   one := "not" one | "(" any ")" | "alarm" NAME | NAME CMP NUMBER
-- (this project's own). A node is a `not`, a pair of brackets, an `and` or `or` of two parts or more, or
-- a leaf, and what a node holds is one level deeper. A rule has at most 64 nodes on at most 16 levels.
use Rattle.std.specs.Prelude.{ℕ, ◌+◌, ◌-◌, max, nat_le, nat_lt, Bool, true, false, ◌&&◌, if◌then◌else◌, List, [], ◌∷◌}
use Rattle.std.specs.Prelude.{length, Option, Some, None, Result, Ok, Err, is_some, is_none, unwrap_or, take, drop}
use Rattle.std.specs.Option.{option_map}
use Rattle.point_table.specs.Table.{Table, point_named}
use Rattle.alarm_rules.specs.Board.{Board, alarm_named}
use Rattle.interlocks.specs.declared.tree.Comparison.{Comparison}
use Rattle.interlocks.specs.declared.token.Token.{Token}
use Rattle.interlocks.specs.declared.token.Token.TheVariants as token
use Rattle.interlocks.specs.declared.reader.Scope.{Scope}
use Rattle.interlocks.specs.declared.reader.Phase.{Phase}
use Rattle.interlocks.specs.declared.reader.Phase.TheVariants as phase
use Rattle.interlocks.specs.declared.reader.State.{State}
use Rattle.interlocks.specs.declared.refusal.RuleRefusal.{RuleRefusal}
use Rattle.interlocks.specs.declared.refusal.RuleRefusal.TheVariants.{BadRule, NoName}
use Rattle.interlocks.specs.Formula.{Formula, alarm, compare, bracket, both, either, negated}
use Rattle.interlocks.specs.Part.{Part}
use Rattle.interlocks.specs.Desk.{Desk}
use Rattle.interlocks.specs.Tokens.{Piece, pieces, pieces_on, token_of}

-- what names in a rule mean
pub record Names : Type 0 where
  pub points : Table
  pub alarms : Board

abbrev pub one_if : Bool → ℕ
one_if true = 1
one_if false = 0

-- how many levels stand above the present operand, its `not`s left out
abbrev pub above : Scope → ℕ
above f = f.base + one_if (is_some f.any) + one_if (is_some f.all)

-- the levels of a chain that one more part ends: a chain of one part is no node
abbrev pub chain_levels : Option Part → ℕ → ℕ
chain_levels None n = n
chain_levels (Some a) n = 1 + max a.levels n

-- the levels of a chain's parts after one more
abbrev pub grown_levels : Option Part → ℕ → ℕ
grown_levels None n = n
grown_levels (Some a) n = max a.levels n

abbrev pub all_tree : Option Part → Formula → Formula
all_tree None f = f
all_tree (Some a) f = both a.tree f

abbrev pub any_tree : Option Part → Formula → Formula
any_tree None f = f
any_tree (Some a) f = either a.tree f

abbrev pub with_nots : Scope → ℕ → Scope
with_nots f n = record { base = f.base; any = f.any; all = f.all; nots = n }

abbrev pub with_scope : Desk → Scope → Desk
with_scope d f = record { outer = d.outer; scope = f; nodes = d.nodes; unknown = d.unknown }

-- one more node below the present operand's place
abbrev pub begin : Desk → Option Desk
begin d = if nat_lt d.nodes 64 && nat_lt (above d.scope + d.scope.nots) 16
    then Some (record { outer = d.outer; scope = d.scope; nodes = d.nodes + 1; unknown = d.unknown }) else None

abbrev pub at_phase : Phase → Desk → State
at_phase p d = record { desk = d; phase = p }

abbrev pub noticed : Desk → State
noticed d = at_phase phase.Operand (with_scope d (with_nots d.scope (d.scope.nots + 1)))

abbrev pub opened : Desk → State
opened d = at_phase phase.Operand (record {
  outer = d.scope ∷ d.outer;
  scope = record { base = above d.scope + d.scope.nots + 1; any = None; all = None; nots = 0 };
  nodes = d.nodes;
  unknown = d.unknown;
})

-- the place of the first name that nothing has
abbrev pub unknown_after : Option ℕ → Option ℕ → ℕ → Option ℕ
unknown_after (Some p) found place = Some p
unknown_after None (Some n) place = None
unknown_after None None place = Some place

abbrev pub with_name : Desk → Option ℕ → ℕ → Desk
with_name d found place = record {
  outer = d.outer;
  scope = d.scope;
  nodes = d.nodes;
  unknown =
      unknown_after d.unknown found place;
}

-- a leaf that is whole
abbrev pub with_leaf : Desk → Formula → State
with_leaf d f = at_phase (phase.Done (record { tree = negated d.scope.nots f; levels = d.scope.nots + 1 }))
    (with_scope d (with_nots d.scope 0))

abbrev pub operand : Names → Desk → Token → Piece → Option State
operand names d token.Not t = option_map noticed (begin d)
operand names d token.Open t = option_map opened (begin d)
operand names d token.Alarm t = option_map (at_phase phase.AlarmName) (begin d)
operand names d token.Name t = option_map (λ d. let found = point_named names.points.points t.text in
    at_phase (phase.Comparison (unwrap_or found 0)) (with_name d found t.place)) (begin d)
operand names d _ t = None

abbrev pub alarm_name : Names → Desk → Token → Piece → Option State
alarm_name names d token.Name t = let found = alarm_named names.alarms.rules t.text in
    Some (with_leaf (with_name d found t.place) (alarm (unwrap_or found 0)))
alarm_name names d _ t = None

abbrev pub comparison : Desk → ℕ → Token → Option State
comparison d point (token.Compare c) = Some (at_phase (phase.Number point c) d)
comparison d point _ = None

abbrev pub number : Desk → ℕ → Comparison → Token → Option State
number d point c (token.Number z) = Some (with_leaf d (compare point c z))
number d point c _ = None

abbrev pub after_and : Desk → Part → Option State
after_and d p = if nat_le (d.nodes + one_if (is_none d.scope.all)) 64
    && nat_le (d.scope.base + one_if (is_some d.scope.any) + 1 + p.levels) 16
    then Some (at_phase phase.Operand (record {
      outer = d.outer;
      scope = record {
        base = d.scope.base;
        any = d.scope.any;
        all = Some (record { tree = all_tree d.scope.all p.tree; levels = grown_levels d.scope.all p.levels });
        nots = 0;
      };
      nodes = d.nodes + one_if (is_none d.scope.all);
      unknown = d.unknown;
    })) else None

abbrev pub after_or : Desk → Part → Option State
after_or d p = let levels = chain_levels d.scope.all p.levels in
    if nat_le (d.nodes + one_if (is_none d.scope.any)) 64 && nat_le (d.scope.base + 1 + levels) 16
    then Some (at_phase phase.Operand (record {
      outer = d.outer;
      scope = record {
        base = d.scope.base;
        any = Some (record {
          tree = any_tree d.scope.any (all_tree d.scope.all p.tree);
          levels =
              grown_levels d.scope.any levels;
        });
        all = None;
        nots = 0;
      };
      nodes = d.nodes + one_if (is_none d.scope.any);
      unknown = d.unknown;
    })) else None

-- the whole of a pair of brackets, or of a text, that a part ends
abbrev pub any_part : Scope → Part → Part
any_part f p = record {
  tree = any_tree f.any (all_tree f.all p.tree);
  levels =
      chain_levels f.any (chain_levels f.all p.levels);
}

abbrev pub closed : Desk → List Scope → Part → Option State
closed d [] inner = None
closed d (f ∷ fs) inner = let levels = f.nots + 1 + inner.levels in
    if nat_le (above f + levels) 16
    then Some (at_phase (phase.Done (record { tree = negated f.nots (bracket inner.tree); levels = levels }))
    (record { outer = fs; scope = with_nots f 0; nodes = d.nodes; unknown = d.unknown }))
    else None

abbrev pub after_part : Desk → Part → Token → Option State
after_part d p token.And = after_and d p
after_part d p token.Or = after_or d p
after_part d p token.Close = closed d d.outer (any_part d.scope p)
after_part d p _ = None

abbrev pub in_phase : Names → Desk → Phase → Token → Piece → Option State
in_phase names d phase.Operand k t = operand names d k t
in_phase names d phase.AlarmName k t = alarm_name names d k t
in_phase names d (phase.Comparison point) k t = comparison d point k
in_phase names d (phase.Number point c) k t = number d point c k
in_phase names d (phase.Done p) k t = after_part d p k

-- the state after one more token; none where the token can't stand there, or passes the limit of nodes or levels
unfoldable pub step : Names → State → Piece → Option State
step names s t = in_phase names s.desk s.phase (token_of t.text) t

abbrev pub whole_in : List Scope → Scope → Phase → Option Formula
whole_in [] f (phase.Done p) = Some (any_part f p).tree
whole_in [] f _ = None
whole_in (g ∷ gs) f p = None

-- the rule that is read, where the text may end there
abbrev pub whole : State → Option Formula
whole s = whole_in s.desk.outer s.desk.scope s.phase

abbrev pub or_unknown : Option ℕ → Formula → Result Formula RuleRefusal
or_unknown None f = Ok f
or_unknown (Some p) f = Err (NoName p)

abbrev pub ended_with : ℕ → Option ℕ → Option Formula → Result Formula RuleRefusal
ended_with len unknown None = Err (BadRule len)
ended_with len unknown (Some f) = or_unknown unknown f

-- the answer at the end of a text, which has at most 256 bytes
unfoldable pub ended : ℕ → State → Result Formula RuleRefusal
ended len s = if nat_lt 256 len then Err (BadRule len) else ended_with len s.desk.unknown (whole s)

abbrev pub or_bad : ℕ → Option State → Result State RuleRefusal
or_bad place None = Err (BadRule place)
or_bad place (Some s) = Ok s

-- the state after a token, which ends within 256 bytes
unfoldable pub taken : Names → State → Piece → Result State RuleRefusal
taken names s t = if nat_lt 256 (t.place + length t.text) then Err (BadRule t.place)
    else or_bad t.place (step names s t)

-- goes on after a token that was taken
abbrev pub go_on : Result State RuleRefusal → (State → Result Formula RuleRefusal) → Result Formula RuleRefusal
go_on (Ok s) rest = rest s
go_on (Err e) rest = Err e

abbrev pub run : Names → ℕ → State → List Piece → Result Formula RuleRefusal
run names len s [] = ended len s
run names len s (t ∷ ts) = go_on (taken names s t) (λ s'. run names len s' ts)

abbrev pub start : State
start = at_phase phase.Operand (record {
  outer = [];
  scope = record { base = 0; any = None; all = None; nots = 0 };
  nodes = 0;
  unknown = None;
})

-- the rule that a text spells, or why it spells none: the first token that can't stand there or passes a
-- limit, else the first name that nothing has
unfoldable pub read_rule : Names → List ℕ → Result Formula RuleRefusal
read_rule names text = run names (length text) start (pieces text)

-- the state after the token of these bytes, where there are any; they end before a place
abbrev pub taken_before : Names → State → List ℕ → ℕ → Result State RuleRefusal
taken_before names s [] end = Ok s
taken_before names s (c ∷ cs) end = taken names s (record { place = end - length (c ∷ cs); text = c ∷ cs })

-- the answer for a text that is read up to a place, where the present token begins at another
unfoldable pub here : Names → List ℕ → State → ℕ → ℕ → Result Formula RuleRefusal
here names text s start place =
    run names (length text) s (pieces_on (take (place - start) (drop start text)) place (drop place text))
