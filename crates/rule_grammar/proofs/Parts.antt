-- What the tokens read so far spell, as the parts of a rule that isn't whole yet: the chains of `or` and `and`,
-- the `not`s and the open brackets. And how these parts grow into larger rules.
use Rattle.std.proofs.Common.{◌≡◌, ◌≤◌, ◌+◌, ℕ, zero, suc, List, [], ◌∷◌, ◌++◌, Option, Some, None, refl, sym, ◌∙◌}
use Rattle.std.proofs.Common.{ap, subst, arith, append_assoc, append-nil, add-one}
use Rattle.interlocks.specs.declared.token.Token.{Token}
use Rattle.interlocks.specs.declared.token.Token.TheVariants as token
use Rattle.interlocks.specs.declared.reader.Scope.{Scope}
use Rattle.interlocks.specs.Formula.{Formula, negation, negated}
use Rattle.interlocks.specs.Part.{Part}
use Rattle.interlocks.specs.Tokens.{Piece}
use Rattle.interlocks.specs.Reading.{Names, all_tree, any_tree, with_nots}
use Rattle.rule_grammar.specs.Grammar.{rank, IsGrouped, Is, Back, Between, Spells}

-- a rule of at most this rank, grouped, that these tokens spell
pub record Fits (names : Names) (r : ℕ) (f : Formula) (ts : List Piece) : Type 0 where
  pub low : rank f ≤ r
  pub grouped : IsGrouped f
  pub spelled : Spells names f ts

-- the parts of a chain so far, with the word behind them
abbrev pub Parts : Token → Names → ℕ → Option Part → List Piece → Type 0
Parts k names r None ts = ts ≡ []
Parts k names r (Some a) ts = Back k (Fits names r a.tree) ts

-- so many times `not`
abbrev pub AreNots : ℕ → List Piece → Type 0
AreNots zero ts = ts ≡ []
AreNots (suc n) ts = Back token.Not (AreNots n) ts

-- what stands before the present operand, within its brackets
pub record Before (names : Names) (f : Scope) (ts : List Piece) : Type 0 where
  pub anys : List Piece
  pub alls : List Piece
  pub nots : List Piece
  pub all : ts ≡ anys ++ (alls ++ nots)
  pub are_anys : Parts token.Or names 2 f.any anys
  pub are_alls : Parts token.And names 1 f.all alls
  pub are_nots : AreNots f.nots nots

-- what stands before the present operand, in all brackets
abbrev pub Opens : Names → List Scope → Scope → List Piece → Type 0
Opens names [] f ts = Before names f ts
Opens names (g ∷ gs) f ts = Between token.Open (Opens names gs g) (Before names f) ts

pub weaker : (names : Names) (r s : ℕ) (f : Formula) (ts : List Piece) → r ≤ s → Fits names r f ts → Fits names s f ts
weaker names r s f ts h x = let low : rank f ≤ r = x.low in
    record { low = omega arith; grouped = x.grouped; spelled = x.spelled }

-- `not`s before a rule
pub negated-fits : (names : Names) (n : ℕ) (f : Formula) (nots ts : List Piece) → AreNots n nots → Fits names 0 f ts →
    Fits names 0 (negated n f) (nots ++ ts)
negated-fits names zero f nots ts h x = subst (λ (us : List Piece). Fits names 0 f (us ++ ts)) (sym h) x
negated-fits names (suc n) f nots ts h x =
    let made : Fits names 0 (negation f) (h.word ∷ ts) =
    record {
      low = omega arith;
      grouped = (x.low, x.grouped);
      spelled =
          record { word = h.word; rest = ts; all = refl; is_word = h.is_word; spelled = x.spelled };
    } in
    let same : h.rest ++ (h.word ∷ ts) ≡ nots ++ ts = sym (append_assoc h.rest (h.word ∷ []) ts)
    ∙ ap (λ (us : List Piece). us ++ ts) (sym h.all) in
    subst (λ (us : List Piece). Fits names 0 (negated n (negation f)) us) same
    (negated-fits names n (negation f) h.rest (h.word ∷ ts) h.spelled made)

-- the parts of a chain with the word behind them, and one part more
joined : (names : Names) (k : Token) (r s : ℕ) (f g : Formula) (us ts : List Piece) →
    Back k (Fits names r f) us → Fits names s g ts → Between k (Spells names f) (Spells names g) (us ++ ts)
joined names k r s f g us ts h x = record {
  left = h.rest;
  word = h.word;
  right = ts;
  all = ap (λ (vs : List Piece). vs ++ ts) h.all ∙ append_assoc h.rest (h.word ∷ []) ts;
  is_word = h.is_word;
  is_left = h.spelled.spelled;
  is_right = x.spelled;
}

-- a chain of `and` that one part ends
pub all-fits : (names : Names) (o : Option Part) (f : Formula) (alls ts : List Piece) →
    Parts token.And names 1 o alls → Fits names 0 f ts → Fits names 1 (all_tree o f) (alls ++ ts)
all-fits names None f alls ts h x = subst (λ (us : List Piece). Fits names 1 f (us ++ ts)) (sym h)
    (weaker names 0 1 f ts (omega arith) x)
all-fits names (Some a) f alls ts h x = record {
  low = omega arith;
  grouped = (h.spelled.low, h.spelled.grouped, x.low, x.grouped);
  spelled = joined names token.And 1 0 a.tree f alls ts h x;
}

pub any-fits : (names : Names) (o : Option Part) (f : Formula) (anys ts : List Piece) →
    Parts token.Or names 2 o anys → Fits names 1 f ts → Fits names 2 (any_tree o f) (anys ++ ts)
any-fits names None f anys ts h x = subst (λ (us : List Piece). Fits names 2 f (us ++ ts)) (sym h)
    (weaker names 1 2 f ts (omega arith) x)
any-fits names (Some a) f anys ts h x = record {
  low = omega arith;
  grouped = (h.spelled.low, h.spelled.grouped, x.low, x.grouped);
  spelled = joined names token.Or 2 1 a.tree f anys ts h x;
}

-- one token more within the present brackets
pub opens-more : (names : Names) (gs : List Scope) (f f' : Scope) (t : Piece) (ts : List Piece) →
    ((us : List Piece) → Before names f us → Before names f' (us ++ t ∷ [])) → Opens names gs f ts →
    Opens names gs f' (ts ++ t ∷ [])
opens-more names [] f f' t ts more h = more ts h
opens-more names (g ∷ gs) f f' t ts more h = record {
  left = h.left;
  word = h.word;
  right = h.right ++ t ∷ [];
  all = ap (λ (us : List Piece). us ++ t ∷ []) h.all ∙ append_assoc h.left (h.word ∷ h.right) (t ∷ []);
  is_word = h.is_word;
  is_left = h.is_left;
  is_right = more h.right h.is_right;
}

-- one `not` more
pub before-not : (names : Names) (f : Scope) (t : Piece) → Is token.Not t → (us : List Piece) → Before names f us →
    Before names (with_nots f (f.nots + 1)) (us ++ t ∷ [])
before-not names f t is us h = record {
  anys = h.anys;
  alls = h.alls;
  nots = h.nots ++ t ∷ [];
  all = ap (λ (vs : List Piece). vs ++ t ∷ []) h.all
      ∙ (append_assoc h.anys (h.alls ++ h.nots) (t ∷ []) ∙ ap (λ (vs : List Piece). h.anys ++ vs)
      (append_assoc h.alls h.nots (t ∷ [])));
  are_anys = h.are_anys;
  are_alls = h.are_alls;
  are_nots = rw (add-one f.nots) (record { rest = h.nots; word = t; all = refl; is_word = is; spelled = h.are_nots });
}

-- what stands before the `not`s of an operand, and those
pub record Split (names : Names) (gs : List Scope) (f : Scope) (ts : List Piece) : Type 0 where
  pub before : List Piece
  pub nots : List Piece
  pub all : ts ≡ before ++ nots
  pub opens : Opens names gs (with_nots f 0) before
  pub are_nots : AreNots f.nots nots

before-split : (names : Names) (f : Scope) (ts : List Piece) → Before names f ts → Split names [] f ts
before-split names f ts h = record {
  before = h.anys ++ (h.alls ++ []);
  nots = h.nots;
  all = h.all ∙ (ap (λ (us : List Piece). h.anys ++ (us ++ h.nots)) (sym (append-nil h.alls))
      ∙ sym (append_assoc h.anys (h.alls ++ []) h.nots));
  opens = record {
    anys = h.anys;
    alls = h.alls;
    nots = [];
    all = refl;
    are_anys = h.are_anys;
    are_alls =
        h.are_alls;
    are_nots = refl;
  };
  are_nots = h.are_nots;
}

pub opens-split : (names : Names) (gs : List Scope) (f : Scope) (ts : List Piece) →
    Opens names gs f ts → Split names gs f ts
opens-split names [] f ts h = before-split names f ts h
opens-split names (g ∷ gs) f ts h =
    let b : Split names [] f h.right = before-split names f h.right h.is_right in
    record {
      before = h.left ++ h.word ∷ b.before;
      nots = b.nots;
      all = h.all ∙ (ap (λ (us : List Piece). h.left ++ h.word ∷ us) b.all
          ∙ sym (append_assoc h.left (h.word ∷ b.before) b.nots));
      opens = record {
        left = h.left;
        word = h.word;
        right = b.before;
        all = refl;
        is_word = h.is_word;
        is_left = h.is_left;
        is_right = b.opens;
      };
      are_nots = b.are_nots;
    }
