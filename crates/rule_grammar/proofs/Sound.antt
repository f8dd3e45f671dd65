-- Each rule that is read is spelled by its tokens and grouped as the grammar does. At every token the state
-- says what the tokens so far spell, and each step keeps that so.
use Rattle.std.proofs.Common.{◌≡◌, ◌+◌, nat_lt, ℕ, Bool, true, false, ◌&&◌, if◌then◌else◌, List, [], ◌∷◌, ◌++◌}
use Rattle.std.proofs.Common.{length, Option, Some, None, Result, Ok, Err, refl, sym, ◌∙◌, ap, subst, arith}
use Rattle.std.proofs.Common.{append_assoc, append-nil}
use Rattle.std.specs.Option.{option_map, unwrap_or}
use Rattle.point_table.specs.Table.{point_named}
use Rattle.alarm_rules.specs.Board.{alarm_named}
use Rattle.interlocks.specs.declared.tree.Comparison.{Comparison}
use Rattle.interlocks.specs.declared.token.Token.{Token}
use Rattle.interlocks.specs.declared.token.Token.TheVariants as token
use Rattle.interlocks.specs.declared.reader.Scope.{Scope}
use Rattle.interlocks.specs.declared.reader.Phase.{Phase}
use Rattle.interlocks.specs.declared.reader.Phase.TheVariants as phase
use Rattle.interlocks.specs.declared.reader.State.{State}
use Rattle.interlocks.specs.declared.refusal.RuleRefusal.{RuleRefusal}
use Rattle.interlocks.specs.Desk.{Desk}
use Rattle.interlocks.specs.Formula.{Formula, alarm, compare, bracket}
use Rattle.interlocks.specs.Part.{Part}
use Rattle.interlocks.specs.Tokens.{Piece, pieces, token_of}
use Rattle.interlocks.specs.Reading.{Names, step, in_phase, operand, alarm_name, comparison, number, after_part}
use Rattle.interlocks.specs.Reading.{after_and, after_or, closed, any_part, grown_levels, chain_levels, all_tree}
use Rattle.interlocks.specs.Reading.{any_tree, with_nots, with_name, with_leaf, unknown_after, noticed, opened}
use Rattle.interlocks.specs.Reading.{at_phase, above, run, taken, or_bad, go_on, ended, ended_with, whole_in, start}
use Rattle.interlocks.specs.Reading.{read_rule}
use Rattle.rule_grammar.specs.Grammar.{Is, Back, Between, EachRuleIsSpelled}
use Rattle.rule_grammar.proofs.Parts.{Fits, AreNots, Before, Opens, Split, negated-fits, all-fits, any-fits}
use Rattle.rule_grammar.proofs.Parts.{opens-more, before-not, opens-split}

-- the name of a point that is compared, behind what stands before the operand
record NameBack (names : Names) (p : ℕ) (P : List Piece → Type 0) (ts : List Piece) : Type 0 where
  rest : List Piece
  word : Piece
  all : ts ≡ rest ++ word ∷ []
  is_word : Is token.Name word
  named : point_named names.points.points word.text ≡ Some p
  spelled : P rest

-- an operand that is whole
record DoneIn (names : Names) (gs : List Scope) (f : Scope) (p : Part) (ts : List Piece) : Type 0 where
  before : List Piece
  part : List Piece
  all : ts ≡ before ++ part
  none : f.nots ≡ 0
  opens : Opens names gs f before
  fits : Fits names 0 p.tree part

-- what the tokens that are read say, by what may come next
abbrev Says : Names → List Scope → Scope → Phase → List Piece → Type 0
Says names gs f phase.Operand ts = Opens names gs f ts
Says names gs f phase.AlarmName ts = Back token.Alarm (Opens names gs f) ts
Says names gs f (phase.Comparison p) ts = NameBack names p (Opens names gs f) ts
Says names gs f (phase.Number p c) ts = Back (token.Compare c) (NameBack names p (Opens names gs f)) ts
Says names gs f (phase.Done p) ts = DoneIn names gs f p ts

abbrev SaysState : Names → State → List Piece → Type 0
SaysState names s ts = Says names s.desk.outer s.desk.scope s.phase ts

-- where each name is known, the tokens say what the state is
record Holds (names : Names) (s : State) (ts : List Piece) : Type 0 where
  says : s.desk.unknown ≡ None → SaysState names s ts

moved : (names : Names) (s s' : State) (ts : List Piece) → s ≡ s' → Holds names s ts → Holds names s' ts
moved names s s' ts e h = subst (λ (x : State). Holds names x ts) e h

some_is : (x y : State) → Some x ≡ Some y → x ≡ y
some_is x y e = cc

-- a node more and what it makes
begun_is : (b : Bool) (d : Desk) (f : Desk → State) (s : State) →
    option_map f (if b then Some d else None) ≡ Some s → f d ≡ s
begun_is true d f s e = cc
begun_is false d f s e = absurd (cc)

-- a leaf that is whole
leaf-done : (names : Names) (d : Desk) (f : Formula) (us vs : List Piece) → Opens names d.outer d.scope us →
    Fits names 0 f vs → SaysState names (with_leaf d f) (us ++ vs)
leaf-done names d f us vs o x =
    let s : Split names d.outer d.scope us = opens-split names d.outer d.scope us o in
    record {
      before = s.before;
      part = s.nots ++ vs;
      all = ap (λ (ws : List Piece). ws ++ vs) s.all ∙ append_assoc s.before s.nots vs;
      none = refl;
      opens = s.opens;
      fits = negated-fits names d.scope.nots f s.nots vs s.are_nots x;
    }

known : (u found : Option ℕ) (place : ℕ) → unknown_after u found place ≡ None →
    (u ≡ None) × (found ≡ Some (unwrap_or found 0))
known (Some p) found place e = absurd (cc)
known None (Some n) place e = (refl, refl)
known None None place e = absurd (cc)

from_operand : (names : Names) (d : Desk) (k : Token) (t : Piece) (ts : List Piece) (s' : State) → Is k t →
    (d.unknown ≡ None → Opens names d.outer d.scope ts) → operand names d k t ≡ Some s' → Holds names s' (ts ++ t ∷ [])
from_operand names d token.Not t ts s' is h e =
    moved names _ s' _ (begun_is (nat_lt d.nodes 64 && nat_lt (above d.scope + d.scope.nots) 16) _ noticed s' e)
    (record {
      says = λ u. opens-more names d.outer d.scope (with_nots d.scope (d.scope.nots + 1)) t ts
          (before-not names d.scope t is) (h u);
    })
from_operand names d token.Open t ts s' is h e =
    moved names _ s' _ (begun_is (nat_lt d.nodes 64 && nat_lt (above d.scope + d.scope.nots) 16) _ opened s' e)
    (record {
      says = λ u. record {
        left = ts;
        word = t;
        right = [];
        all = refl;
        is_word = is;
        is_left = h u;
        is_right = record {
          anys = [];
          alls = [];
          nots = [];
          all = refl;
          are_anys = refl;
          are_alls = refl;
          are_nots = refl;
        };
      };
    })
from_operand names d token.Alarm t ts s' is h e =
    moved names _ s' _ (begun_is (nat_lt d.nodes 64 && nat_lt (above d.scope + d.scope.nots) 16) _
    (at_phase phase.AlarmName) s' e)
    (record { says = λ u. record { rest = ts; word = t; all = refl; is_word = is; spelled = h u } })
from_operand names d token.Name t ts s' is h e =
    let found : Option ℕ = point_named names.points.points t.text in
    moved names _ s' _ (begun_is (nat_lt d.nodes 64 && nat_lt (above d.scope + d.scope.nots) 16) _
    (λ d'. at_phase (phase.Comparison (unwrap_or found 0)) (with_name d' found t.place)) s' e)
    (record {
      says = λ u. let both = known d.unknown found t.place u in
          record { rest = ts; word = t; all = refl; is_word = is; named = both.1; spelled = h both.0 };
    })
from_operand names d _ t ts s' is h e = absurd (cc)

from_alarm_name : (names : Names) (d : Desk) (k : Token) (t : Piece) (ts : List Piece) (s' : State) → Is k t →
    (d.unknown ≡ None → Back token.Alarm (Opens names d.outer d.scope) ts) → alarm_name names d k t ≡ Some s' →
    Holds names s' (ts ++ t ∷ [])
from_alarm_name names d token.Name t ts s' is h e =
    let found : Option ℕ = alarm_named names.alarms.rules t.text in
    moved names _ s' _ (some_is _ s' e)
    (record {
      says = λ u.
          let both = known d.unknown found t.place u in
          let b : Back token.Alarm (Opens names d.outer d.scope) ts = h both.0 in
          let x : Fits names 0 (alarm (unwrap_or found 0)) (b.word ∷ t ∷ []) =
          record {
            low = omega arith;
            grouped = tt;
            spelled =
                record { word = b.word; name = t; all = refl; is_word = b.is_word; is_name = is; named = both.1 };
          } in
          let same : b.rest ++ (b.word ∷ t ∷ []) ≡ ts ++ t ∷ [] = sym (append_assoc b.rest (b.word ∷ []) (t ∷ []))
          ∙ ap (λ (us : List Piece). us ++ t ∷ []) (sym b.all) in
          subst (λ (us : List Piece). SaysState names
          (with_leaf (with_name d found t.place) (alarm (unwrap_or found 0))) us) same
          (leaf-done names (with_name d found t.place) (alarm (unwrap_or found 0)) b.rest
          (b.word ∷ t ∷ []) b.spelled x);
    })
from_alarm_name names d _ t ts s' is h e = absurd (cc)

from_comparison : (names : Names) (d : Desk) (p : ℕ) (k : Token) (t : Piece) (ts : List Piece) (s' : State) → Is k t →
    (d.unknown ≡ None → NameBack names p (Opens names d.outer d.scope) ts) → comparison d p k ≡ Some s' →
    Holds names s' (ts ++ t ∷ [])
from_comparison names d p (token.Compare c) t ts s' is h e =
    moved names _ s' _ (some_is _ s' e)
    (record { says = λ u. record { rest = ts; word = t; all = refl; is_word = is; spelled = h u } })
from_comparison names d p _ t ts s' is h e = absurd (cc)

from_number : (names : Names) (d : Desk) (p : ℕ) (c : Comparison) (k : Token) (t : Piece) (ts : List Piece)
    (s' : State) → Is k t → (d.unknown ≡ None →
    Back (token.Compare c) (NameBack names p (Opens names d.outer d.scope)) ts) → number d p c k ≡ Some s' →
    Holds names s' (ts ++ t ∷ [])
from_number names d p c (token.Number z) t ts s' is h e =
    moved names _ s' _ (some_is _ s' e)
    (record {
      says = λ u.
          let b : Back (token.Compare c) (NameBack names p (Opens names d.outer d.scope)) ts = h u in
          let n : NameBack names p (Opens names d.outer d.scope) b.rest = b.spelled in
          let x : Fits names 0 (compare p c z) (n.word ∷ b.word ∷ t ∷ []) =
          record {
            low = omega arith;
            grouped = tt;
            spelled =
                record {
                  name = n.word;
                  sign = b.word;
                  value = t;
                  all = refl;
                  is_name = n.is_word;
                  named = n.named;
                  is_sign = b.is_word;
                  is_value = is;
                };
          } in
          let same : n.rest ++ (n.word ∷ b.word ∷ t ∷ []) ≡ ts ++ t ∷ [] =
          sym (append_assoc n.rest (n.word ∷ b.word ∷ []) (t ∷ [])) ∙ ap (λ (us : List Piece). us ++ t ∷ [])
          (sym (append_assoc n.rest (n.word ∷ []) (b.word ∷ []))
          ∙ (ap (λ (us : List Piece). us ++ b.word ∷ []) (sym n.all) ∙ sym b.all)) in
          subst (λ (us : List Piece). SaysState names (with_leaf d (compare p c z)) us) same
          (leaf-done names d (compare p c z) n.rest (n.word ∷ b.word ∷ t ∷ []) n.spelled x);
    })
from_number names d p c _ t ts s' is h e = absurd (cc)

guarded : (b : Bool) (x s : State) → (if b then Some x else None) ≡ Some s → x ≡ s
guarded true x s e = cc
guarded false x s e = absurd (cc)

-- an operand behind the chain of `and` in a scope
before-all : (names : Names) (f : Scope) (p : Formula) (before part : List Piece) → f.nots ≡ 0 →
    (b : Before names f before) → Fits names 0 p part → Fits names 1 (all_tree f.all p) (b.alls ++ part)
before-all names f p before part none b x = all-fits names f.all p b.alls part b.are_alls x

-- no `not` stands there
no_nots : (names : Names) (f : Scope) (ts : List Piece) → f.nots ≡ 0 → (b : Before names f ts) → ts ≡ b.anys ++ b.alls
no_nots names f ts none b =
    let empty : b.nots ≡ [] = subst (λ (n : ℕ). AreNots n b.nots) none b.are_nots in
    b.all ∙ (ap (λ (us : List Piece). b.anys ++ (b.alls ++ us)) empty
    ∙ ap (λ (us : List Piece). b.anys ++ us) (append-nil b.alls))

and-scope : Scope → Part → ℕ → Scope
and-scope f p levels = record {
  base = f.base;
  any = f.any;
  all =
      Some (record { tree = all_tree f.all p.tree; levels = levels });
  nots = 0;
}

or-scope : Scope → Part → ℕ → Scope
or-scope f p levels = record {
  base = f.base;
  any =
      Some (record { tree = any_tree f.any (all_tree f.all p.tree); levels = levels });
  all = None;
  nots = 0;
}

-- an `and` behind an operand
before-and : (names : Names) (f : Scope) (p : Part) (levels : ℕ) (t : Piece) (before part : List Piece) →
    Is token.And t → f.nots ≡ 0 → Fits names 0 p.tree part → Before names f before →
    Before names (and-scope f p levels) (before ++ (part ++ t ∷ []))
unfolding and-scope
before-and names f p levels t before part is none x b = record {
  anys = b.anys;
  alls = (b.alls ++ part) ++ t ∷ [];
  nots = [];
  all = ap (λ (us : List Piece). us ++ (part ++ t ∷ [])) (no_nots names f before none b)
      ∙ (append_assoc b.anys b.alls (part ++ t ∷ []) ∙ ap (λ (us : List Piece). b.anys ++ us)
      (sym (append_assoc b.alls part (t ∷ [])) ∙ sym (append-nil ((b.alls ++ part) ++ t ∷ []))));
  are_anys = b.are_anys;
  are_alls = record {
    rest = b.alls ++ part;
    word = t;
    all = refl;
    is_word = is;
    spelled =
        all-fits names f.all p.tree b.alls part b.are_alls x;
  };
  are_nots = refl;
}

before-or : (names : Names) (f : Scope) (p : Part) (levels : ℕ) (t : Piece) (before part : List Piece) →
    Is token.Or t → f.nots ≡ 0 → Fits names 0 p.tree part → Before names f before →
    Before names (or-scope f p levels) (before ++ (part ++ t ∷ []))
unfolding or-scope
before-or names f p levels t before part is none x b = record {
  anys = (b.anys ++ (b.alls ++ part)) ++ t ∷ [];
  alls = [];
  nots = [];
  all = ap (λ (us : List Piece). us ++ (part ++ t ∷ [])) (no_nots names f before none b)
      ∙ (append_assoc b.anys b.alls (part ++ t ∷ [])
      ∙ (ap (λ (us : List Piece). b.anys ++ us) (sym (append_assoc b.alls part (t ∷ [])))
      ∙ (sym (append_assoc b.anys (b.alls ++ part) (t ∷ []))
      ∙ sym (append-nil ((b.anys ++ (b.alls ++ part)) ++ t ∷ [])))));
  are_anys = record {
    rest = b.anys ++ (b.alls ++ part);
    word = t;
    all = refl;
    is_word = is;
    spelled =
        any-fits names f.any (all_tree f.all p.tree) b.anys (b.alls ++ part) b.are_anys
        (all-fits names f.all p.tree b.alls part b.are_alls x);
  };
  are_alls = refl;
  are_nots = refl;
}

-- the same in all brackets
opens-part : (names : Names) (gs : List Scope) (f f' : Scope) (before more : List Piece) →
    ((us : List Piece) → Before names f us → Before names f' (us ++ more)) → Opens names gs f before →
    Opens names gs f' (before ++ more)
opens-part names [] f f' before more go h = go before h
opens-part names (g ∷ gs) f f' before more go h = record {
  left = h.left;
  word = h.word;
  right = h.right ++ more;
  all = ap (λ (us : List Piece). us ++ more) h.all ∙ append_assoc h.left (h.word ∷ h.right) more;
  is_word = h.is_word;
  is_left = h.is_left;
  is_right = go h.right h.is_right;
}

-- the whole that a part ends, within its brackets
whole-fits : (names : Names) (f : Scope) (p : Part) (before part : List Piece) → f.nots ≡ 0 → Before names f before →
    Fits names 0 p.tree part → Fits names 2 (any_part f p).tree (before ++ part)
whole-fits names f p before part none b x =
    subst (λ (us : List Piece). Fits names 2 (any_part f p).tree us) (sym (append_assoc b.anys b.alls part)
    ∙ ap (λ (us : List Piece). us ++ part) (sym (no_nots names f before none b)))
    (any-fits names f.any (all_tree f.all p.tree) b.anys (b.alls ++ part) b.are_anys
    (all-fits names f.all p.tree b.alls part b.are_alls x))

-- the tokens up to a part, and one more
more_is : (ts before part : List Piece) (t : Piece) → ts ≡ before ++ part → before ++ (part ++ t ∷ []) ≡ ts ++ t ∷ []
more_is ts before part t e = sym (append_assoc before part (t ∷ [])) ∙ ap (λ (us : List Piece). us ++ t ∷ []) (sym e)

from_and : (names : Names) (d : Desk) (p : Part) (t : Piece) (ts : List Piece) (s' : State) → Is token.And t →
    (d.unknown ≡ None → DoneIn names d.outer d.scope p ts) → after_and d p ≡ Some s' → Holds names s' (ts ++ t ∷ [])
unfolding and-scope
from_and names d p t ts s' is h e =
    moved names _ s' _ (guarded _ _ s' e)
    (record {
      says = λ u.
          let x : DoneIn names d.outer d.scope p ts = h u in
          subst (λ (us : List Piece). Opens names d.outer (and-scope d.scope p (grown_levels d.scope.all p.levels))
          us) (more_is ts x.before x.part t x.all)
          (opens-part names d.outer d.scope (and-scope d.scope p (grown_levels d.scope.all p.levels))
          x.before (x.part ++ t ∷ [])
          (λ us b. before-and names d.scope p (grown_levels d.scope.all p.levels) t us x.part is x.none x.fits b)
          x.opens);
    })

from_or : (names : Names) (d : Desk) (p : Part) (t : Piece) (ts : List Piece) (s' : State) → Is token.Or t →
    (d.unknown ≡ None → DoneIn names d.outer d.scope p ts) → after_or d p ≡ Some s' → Holds names s' (ts ++ t ∷ [])
unfolding or-scope
from_or names d p t ts s' is h e =
    let levels : ℕ = grown_levels d.scope.any (chain_levels d.scope.all p.levels) in
    moved names _ s' _ (guarded _ _ s' e)
    (record {
      says = λ u.
          let x : DoneIn names d.outer d.scope p ts = h u in
          subst (λ (us : List Piece). Opens names d.outer (or-scope d.scope p levels) us)
          (more_is ts x.before x.part t x.all)
          (opens-part names d.outer d.scope (or-scope d.scope p levels) x.before (x.part ++ t ∷ [])
          (λ us b. before-or names d.scope p levels t us x.part is x.none x.fits b) x.opens);
    })

-- a bracket that closes: the desk is that of the scope around, with the bracket as a leaf
from_close : (names : Names) (d : Desk) (gs : List Scope) (p : Part) (t : Piece) (ts : List Piece) (s' : State) →
    Is token.Close t → (d.unknown ≡ None → DoneIn names gs d.scope p ts) →
    closed d gs (any_part d.scope p) ≡ Some s' → Holds names s' (ts ++ t ∷ [])
from_close names d [] p t ts s' is h e = absurd (cc)
from_close names d (g ∷ gs) p t ts s' is h e =
    moved names _ s' _ (guarded _ _ s' e)
    (record {
      says = λ u.
          let x : DoneIn names (g ∷ gs) d.scope p ts = h u in
          let o : Between token.Open (Opens names gs g) (Before names d.scope) x.before = x.opens in
          let w : Fits names 2 (any_part d.scope p).tree (o.right ++ x.part) =
          whole-fits names d.scope p o.right x.part x.none o.is_right x.fits in
          let b : Fits names 0 (bracket (any_part d.scope p).tree) (o.word ∷ ((o.right ++ x.part) ++ t ∷ [])) = record {
            low = omega arith;
            grouped = w.grouped;
            spelled = record {
              word = o.word;
              rest = (o.right ++ x.part) ++ t ∷ [];
              all = refl;
              is_word = o.is_word;
              spelled = record {
                rest = o.right ++ x.part;
                word = t;
                all = refl;
                is_word =
                    is;
                spelled = w.spelled;
              };
            };
          } in
          let same : o.left ++ (o.word ∷ ((o.right ++ x.part) ++ t ∷ [])) ≡ ts ++ t ∷ [] =
          sym (append_assoc o.left (o.word ∷ (o.right ++ x.part)) (t ∷ []))
          ∙ ap (λ (us : List Piece). us ++ t ∷ []) (sym (append_assoc o.left (o.word ∷ o.right) x.part)
          ∙ (ap (λ (us : List Piece). us ++ x.part) (sym o.all) ∙ sym x.all)) in
          let s : Split names gs g o.left = opens-split names gs g o.left o.is_left in
          record {
            before = s.before;
            part = s.nots ++ (o.word ∷ ((o.right ++ x.part) ++ t ∷ []));
            all = sym same ∙ (ap (λ (us : List Piece). us ++ (o.word ∷ ((o.right ++ x.part) ++ t ∷ []))) s.all
                ∙ append_assoc s.before s.nots _);
            none = refl;
            opens = s.opens;
            fits = negated-fits names g.nots (bracket (any_part d.scope p).tree) s.nots _ s.are_nots b;
          };
    })

from_part : (names : Names) (d : Desk) (p : Part) (k : Token) (t : Piece) (ts : List Piece) (s' : State) → Is k t →
    (d.unknown ≡ None → DoneIn names d.outer d.scope p ts) → after_part d p k ≡ Some s' → Holds names s' (ts ++ t ∷ [])
from_part names d p token.And t ts s' is h e = from_and names d p t ts s' is h e
from_part names d p token.Or t ts s' is h e = from_or names d p t ts s' is h e
from_part names d p token.Close t ts s' is h e = from_close names d d.outer p t ts s' is h e
from_part names d p _ t ts s' is h e = absurd (cc)

from_phase : (names : Names) (d : Desk) (ph : Phase) (k : Token) (t : Piece) (ts : List Piece) (s' : State) → Is k t →
    (d.unknown ≡ None → Says names d.outer d.scope ph ts) → in_phase names d ph k t ≡ Some s' →
    Holds names s' (ts ++ t ∷ [])
from_phase names d phase.Operand k t ts s' is h e = from_operand names d k t ts s' is h e
from_phase names d phase.AlarmName k t ts s' is h e = from_alarm_name names d k t ts s' is h e
from_phase names d (phase.Comparison p) k t ts s' is h e = from_comparison names d p k t ts s' is h e
from_phase names d (phase.Number p c) k t ts s' is h e = from_number names d p c k t ts s' is h e
from_phase names d (phase.Done p) k t ts s' is h e = from_part names d p k t ts s' is h e

-- one token more keeps what is said
step-holds : (names : Names) (s : State) (t : Piece) (ts : List Piece) (s' : State) → Holds names s ts →
    step names s t ≡ Some s' → Holds names s' (ts ++ t ∷ [])
unfolding step
step-holds names s t ts s' h e = from_phase names s.desk s.phase (token_of t.text) t ts s' refl h.says e

or_bad_ok : (place : ℕ) (o : Option State) (s : State) → or_bad place o ≡ Ok s → o ≡ Some s
or_bad_ok place None s e = absurd (cc)
or_bad_ok place (Some x) s e = cc

within_ok : (b : Bool) (refused : RuleRefusal) (place : ℕ) (o : Option State) (s : State) →
    (if b then Err refused else or_bad place o) ≡ Ok s → o ≡ Some s
within_ok true refused place o s e = absurd (cc)
within_ok false refused place o s e = or_bad_ok place o s e

taken-holds : (names : Names) (s : State) (t : Piece) (ts : List Piece) (s' : State) → Holds names s ts →
    taken names s t ≡ Ok s' → Holds names s' (ts ++ t ∷ [])
unfolding taken
taken-holds names s t ts s' h e =
    step-holds names s t ts s' h (within_ok (nat_lt 256 (t.place + length t.text)) _ t.place (step names s t) s' e)

-- where the text ends, its tokens spell the rule
whole-holds : (names : Names) (gs : List Scope) (f : Scope) (ph : Phase) (x : Formula) (ts : List Piece) →
    Says names gs f ph ts → whole_in gs f ph ≡ Some x → Fits names 2 x ts
whole-holds names [] f (phase.Done p) x ts h e =
    let same : (any_part f p).tree ≡ x = cc in
    subst (λ (y : Formula). Fits names 2 y ts) same (subst (λ (us : List Piece). Fits names 2 (any_part f p).tree us)
    (sym h.all) (whole-fits names f p h.before h.part h.none h.opens h.fits))
whole-holds names [] f _ x ts h e = absurd (cc)
whole-holds names (g ∷ gs) f ph x ts h e = absurd (cc)

ended_known : (len : ℕ) (u : Option ℕ) (o : Option Formula) (f : Formula) → ended_with len u o ≡ Ok f →
    (u ≡ None) × (o ≡ Some f)
ended_known len u None f e = absurd (cc)
ended_known len None (Some x) f e = (refl, cc)
ended_known len (Some p) (Some x) f e = absurd (cc)

ended_within : (b : Bool) (e : RuleRefusal) (r : Result Formula RuleRefusal) (f : Formula) →
    (if b then Err e else r) ≡ Ok f → r ≡ Ok f
ended_within true e r f h = absurd (cc)
ended_within false e r f h = h

ended-holds : (names : Names) (len : ℕ) (s : State) (ts : List Piece) (f : Formula) → Holds names s ts →
    ended len s ≡ Ok f → Fits names 2 f ts
unfolding ended
ended-holds names len s ts f h e =
    let both = ended_known len s.desk.unknown (whole_in s.desk.outer s.desk.scope s.phase) f
    (ended_within (nat_lt 256 len) _ _ f e) in
    whole-holds names s.desk.outer s.desk.scope s.phase f ts (h.says both.0) both.1

go_ok : (r : Result State RuleRefusal) (go : State → Result Formula RuleRefusal) (f : Formula) → go_on r go ≡ Ok f →
    (s : State) × (r ≡ Ok s) × (go s ≡ Ok f)
go_ok (Ok s) go f e = (s, refl, e)
go_ok (Err x) go f e = absurd (cc)

run-holds : (names : Names) (len : ℕ) (rest ts : List Piece) (s : State) (f : Formula) → Holds names s ts →
    run names len s rest ≡ Ok f → Fits names 2 f (ts ++ rest)
run-holds names len [] ts s f h e = subst (λ (us : List Piece). Fits names 2 f us) (sym (append-nil ts))
    (ended-holds names len s ts f h e)
run-holds names len (t ∷ rest) ts s f h e =
    let next = go_ok (taken names s t) (λ s'. run names len s' rest) f e in
    subst (λ (us : List Piece). Fits names 2 f us) (append_assoc ts (t ∷ []) rest)
    (run-holds names len rest (ts ++ t ∷ []) next.0 f (taken-holds names s t ts next.0 h next.1) next.2)

start-holds : (names : Names) → Holds names start []
start-holds names = record {
  says = λ u. record {
    anys = [];
    alls = [];
    nots = [];
    all = refl;
    are_anys = refl;
    are_alls = refl;
    are_nots = refl;
  };
}

pub each-rule : EachRuleIsSpelled
unfolding read_rule
each-rule names text f e =
    let x : Fits names 2 f ([] ++ pieces text) =
    run-holds names (length text) (pieces text) [] start f (start-holds names) e in
    (x.grouped, x.spelled)
