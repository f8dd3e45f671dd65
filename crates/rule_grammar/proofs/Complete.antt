-- Each rule that is grouped as the grammar does, within its limits of nodes and levels, is read from the tokens
-- that spell it. By induction over the rule, its chains of `and` and `or` part by part.
use Rattle.std.proofs.Common.{◌≡◌, ◌≤◌, ◌<◌, ◌+◌, max, nat_lt, ℕ, suc, Bool, true, false, ◌&&◌, if◌then◌else◌, List}
use Rattle.std.proofs.Common.{[], ◌∷◌, ◌++◌, length, ℤ, Option, Some, None, Result, Ok, Err, refl, sym, ◌∙◌, ap}
use Rattle.std.proofs.Common.{subst, arith, append_assoc, append-nil, add-one, length-append, ◌==◌, is_some, is_none}
use Rattle.std.specs.Option.{option_map, unwrap_or}
use Rattle.std.proofs.lemmas.Bool.{lt-ltb, le-ltb, le-leb}
use Rattle.point_table.specs.Table.{point_named}
use Rattle.alarm_rules.specs.Board.{alarm_named}
use Rattle.interlocks.specs.declared.tree.Comparison.{Comparison}
use Rattle.interlocks.specs.declared.token.Token.{Token}
use Rattle.interlocks.specs.declared.token.Token.TheVariants as token
use Rattle.interlocks.specs.declared.reader.Scope.{Scope}
use Rattle.interlocks.specs.declared.reader.Phase.TheVariants as phase
use Rattle.interlocks.specs.declared.reader.State.{State}
use Rattle.interlocks.specs.declared.refusal.RuleRefusal.{RuleRefusal}
use Rattle.interlocks.specs.Desk.{Desk}
use Rattle.interlocks.specs.Formula.{Formula, alarm, compare, negation, bracket, both, either, negated}
use Rattle.interlocks.specs.Part.{Part}
use Rattle.interlocks.specs.Tokens.{Piece, pieces, pieces_on, piece_before, begun, continues, token_of}
use Rattle.interlocks.specs.Reading.{Names, one_if, step, in_phase, operand, alarm_name, comparison, number}
use Rattle.interlocks.specs.Reading.{after_part, any_part, all_tree, any_tree, chain_levels, grown_levels, with_nots}
use Rattle.interlocks.specs.Reading.{with_name, with_leaf, unknown_after, begin, noticed, opened, at_phase, above}
use Rattle.interlocks.specs.Reading.{run, taken, or_bad, go_on, ended, start, read_rule}
use Rattle.rule_grammar.specs.Grammar.{rank, IsGrouped, Is, Back, Spells}
use Rattle.rule_grammar.specs.Limits.{new_all, new_any, nodes, levels, all_levels, any_levels, EachSpelledRuleIsRead}

both_true : (a b : Bool) (x : Option State) → a ≡ true → b ≡ true → (if a && b then x else None) ≡ x
both_true true true x h g = refl
both_true true false x h g = absurd (cc)
both_true false b x h g = absurd (cc)

both_desk : (a b : Bool) (x : Option Desk) → a ≡ true → b ≡ true → (if a && b then x else None) ≡ x
both_desk true true x h g = refl
both_desk true false x h g = absurd (cc)
both_desk false b x h g = absurd (cc)

-- each token ends within so many bytes
abbrev AreWithin : ℕ → List Piece → Type 0
AreWithin n [] = Unit {0}
AreWithin n (t ∷ ts) = (t.place + length t.text ≤ n) × AreWithin n ts

AreWithin-left : (n : ℕ) (ts us : List Piece) → AreWithin n (ts ++ us) → AreWithin n ts
AreWithin-left n [] us h = tt
AreWithin-left n (t ∷ ts) us h = (h.0, AreWithin-left n ts us h.1)

AreWithin-right : (n : ℕ) (ts us : List Piece) → AreWithin n (ts ++ us) → AreWithin n us
AreWithin-right n [] us h = h
AreWithin-right n (t ∷ ts) us h = AreWithin-right n ts us h.1

taken_ok : (b : Bool) (e : RuleRefusal) (place : ℕ) (o : Option State) (s : State) → b ≡ false → o ≡ Some s →
    (if b then Err e else or_bad place o) ≡ Ok s
taken_ok true e place o s h is = absurd (cc)
taken_ok false e place o s h is = ap (or_bad place) is

-- one token that is taken
one_step : (names : Names) (len : ℕ) (s s' : State) (t : Piece) (rest : List Piece) → t.place + length t.text ≤ 256 →
    in_phase names s.desk s.phase (token_of t.text) t ≡ Some s' → run names len s (t ∷ rest) ≡ run names len s' rest
unfolding taken step
one_step names len s s' t rest low is = ap (λ (x : Result State RuleRefusal). go_on x (λ s''. run names len s'' rest))
    (taken_ok (nat_lt 256 (t.place + length t.text)) _ t.place _ s' (le-ltb 256 (t.place + length t.text) low) is)

-- the desk with so many nodes more, and no `not` before the operand
abbrev grown : Desk → ℕ → Desk
grown d n = record { outer = d.outer; scope = with_nots d.scope 0; nodes = d.nodes + n; unknown = d.unknown }

abbrev in_scope : Desk → Scope → ℕ → Desk
in_scope d f n = record { outer = d.outer; scope = f; nodes = n; unknown = d.unknown }

-- a `one` is read
ReadsOne : Formula → Type 0
ReadsOne f = (names : Names) (len : ℕ) (d : Desk) (ts rest : List Piece) → d.unknown ≡ None → rank f ≤ 0 →
    IsGrouped f → Spells names f ts → AreWithin 256 ts → d.nodes + nodes f ≤ 64 →
    above d.scope + d.scope.nots + levels f ≤ 16
    → run names len (at_phase phase.Operand d) (ts ++ rest) ≡ run names len
    (at_phase (phase.Done (record { tree = negated d.scope.nots f; levels = d.scope.nots + levels f }))
    (grown d (nodes f))) rest

-- how an `all` stands in its scope when it is read
record AllRead (names : Names) (len : ℕ) (d : Desk) (f : Formula) (ts rest : List Piece) : Type 0 where
  alls : Option Part
  part : Part
  tree : all_tree alls part.tree ≡ f
  chain : chain_levels alls part.levels ≡ levels f
  parts : grown_levels alls part.levels ≡ all_levels f
  fresh : one_if (is_none alls) ≡ new_all f
  reads : run names len (at_phase phase.Operand d) (ts ++ rest) ≡ run names len
      (at_phase (phase.Done part)
      (in_scope d (record { base = d.scope.base; any = d.scope.any; all = alls; nots = 0 }) (d.nodes + nodes f))) rest

ReadsAll : Formula → Type 0
ReadsAll f = (names : Names) (len : ℕ) (d : Desk) (ts rest : List Piece) → d.unknown ≡ None → rank f ≤ 1 →
    IsGrouped f → Spells names f ts → AreWithin 256 ts → d.scope.all ≡ None → d.scope.nots ≡ 0 →
    d.nodes + nodes f ≤ 64 → d.scope.base + one_if (is_some d.scope.any) + levels f ≤ 16 → AllRead names len d f ts rest

record AnyRead (names : Names) (len : ℕ) (d : Desk) (f : Formula) (ts rest : List Piece) : Type 0 where
  anys : Option Part
  alls : Option Part
  part : Part
  tree : any_tree anys (all_tree alls part.tree) ≡ f
  chain : chain_levels anys (chain_levels alls part.levels) ≡ levels f
  parts : grown_levels anys (chain_levels alls part.levels) ≡ any_levels f
  fresh : one_if (is_none anys) ≡ new_any f
  reads : run names len (at_phase phase.Operand d) (ts ++ rest) ≡ run names len
      (at_phase (phase.Done part) (in_scope d (record { base = d.scope.base; any = anys; all = alls; nots = 0 })
      (d.nodes + nodes f))) rest

ReadsAny : Formula → Type 0
ReadsAny f = (names : Names) (len : ℕ) (d : Desk) (ts rest : List Piece) → d.unknown ≡ None → IsGrouped f →
    Spells names f ts → AreWithin 256 ts → d.scope.any ≡ None → d.scope.all ≡ None → d.scope.nots ≡ 0 →
    d.nodes + nodes f ≤ 64 → d.scope.base + levels f ≤ 16 → AnyRead names len d f ts rest

-- a node more
begin_is : (d : Desk) → d.nodes < 64 → above d.scope + d.scope.nots < 16 →
    begin d ≡ Some (record { outer = d.outer; scope = d.scope; nodes = d.nodes + 1; unknown = d.unknown })
begin_is d few low = both_desk _ _ _ (lt-ltb d.nodes 64 few) (lt-ltb (above d.scope + d.scope.nots) 16 low)

operand_is : (names : Names) (d : Desk) (k : Token) (t : Piece) (s : State) → Is k t → operand names d k t ≡ Some s →
    in_phase names d phase.Operand (token_of t.text) t ≡ Some s
operand_is names d k t s is e = ap (λ (x : Token). operand names d x t) is ∙ e

-- states behind an operand that agree in each part
done_is : (names : Names) (len : ℕ) (rest : List Piece) (gs : List Scope) (f f' : Scope) (x x' : Formula)
    (l l' n n' : ℕ) (u u' : Option ℕ) → f ≡ f' → x ≡ x' → l ≡ l' → n ≡ n' → u ≡ u'
    → run names len (at_phase (phase.Done (record { tree = x; levels = l }))
    (record { outer = gs; scope = f; nodes = n; unknown = u })) rest
    ≡ run names len (at_phase (phase.Done (record { tree = x'; levels = l' }))
    (record { outer = gs; scope = f'; nodes = n'; unknown = u' })) rest
done_is names len rest gs f f' x x' l l' n n' u u' ef ex el en eu =
    ap (λ (y : Scope). run names len
    (at_phase (phase.Done (record { tree = x; levels = l }))
    (record { outer = gs; scope = y; nodes = n; unknown = u })) rest) ef
    ∙ (ap (λ (y : Formula). run names len
    (at_phase (phase.Done (record { tree = y; levels = l }))
    (record { outer = gs; scope = f'; nodes = n; unknown = u })) rest) ex
    ∙ (ap (λ (y : ℕ). run names len
    (at_phase (phase.Done (record { tree = x'; levels = y }))
    (record { outer = gs; scope = f'; nodes = n; unknown = u })) rest) el
    ∙ (ap (λ (y : ℕ). run names len
    (at_phase (phase.Done (record { tree = x'; levels = l' }))
    (record { outer = gs; scope = f'; nodes = y; unknown = u })) rest) en
    ∙ ap (λ (y : Option ℕ). run names len
    (at_phase (phase.Done (record { tree = x'; levels = l' }))
    (record { outer = gs; scope = f'; nodes = n'; unknown = y })) rest) eu)))

one-negation : (f : Formula) → ReadsOne f → ReadsOne (negation f)
unfolding ReadsOne
one-negation f read names len d ts rest known low grouped spelled within few deep =
    let d' : Desk = record {
      outer = d.outer;
      scope = with_nots d.scope (d.scope.nots + 1);
      nodes =
          d.nodes + 1;
      unknown = d.unknown;
    } in
    let w : AreWithin 256 (spelled.word ∷ spelled.rest) =
    subst (λ (us : List Piece). AreWithin 256 us) spelled.all within in
    let first : in_phase names d phase.Operand (token_of spelled.word.text) spelled.word ≡ Some
    (at_phase phase.Operand d') =
    operand_is names d token.Not spelled.word _ spelled.is_word
    (ap (option_map noticed) (begin_is d (omega arith) (omega arith))) in
    ap (λ (us : List Piece). run names len (at_phase phase.Operand d) (us ++ rest)) spelled.all
    ∙ (one_step names len (at_phase phase.Operand d) (at_phase phase.Operand d') spelled.word
    (spelled.rest ++ rest) w.0 first
    ∙ (read names len d' spelled.rest rest known grouped.0 grouped.1 spelled.spelled w.1 (omega arith) (omega arith)
    ∙ done_is names len rest d.outer (with_nots d.scope 0) (with_nots d.scope 0) (negated (d.scope.nots + 1) f)
    (negated d.scope.nots (negation f)) (d.scope.nots + 1 + levels f) (d.scope.nots + (1 + levels f))
    (d.nodes + 1 + nodes f) (d.nodes + (1 + nodes f)) d.unknown d.unknown refl
    (ap (λ (n : ℕ). negated n f) (add-one d.scope.nots)) (omega arith) (omega arith) refl))

named_known : (u found : Option ℕ) (place n : ℕ) → u ≡ None → found ≡ Some n → unknown_after u found place ≡ u
named_known (Some p) found place n e is = absurd (cc)
named_known None (Some m) place n e is = refl
named_known None None place n e is = absurd (cc)

named_is : (found : Option ℕ) (n : ℕ) → found ≡ Some n → unwrap_or found 0 ≡ n
named_is (Some m) n e = cc
named_is None n e = absurd (cc)

one-alarm : (n : ℕ) → ReadsOne (alarm n)
unfolding ReadsOne
one-alarm n names len d ts rest known low grouped spelled within few deep =
    let w : AreWithin 256 (spelled.word ∷ spelled.name ∷ []) =
    subst (λ (us : List Piece). AreWithin 256 us) spelled.all within in
    let d' : Desk = record { outer = d.outer; scope = d.scope; nodes = d.nodes + 1; unknown = d.unknown } in
    let found : Option ℕ = alarm_named names.alarms.rules spelled.name.text in
    let first : in_phase names d phase.Operand (token_of spelled.word.text) spelled.word ≡ Some
    (at_phase phase.AlarmName d') =
    operand_is names d token.Alarm spelled.word _ spelled.is_word
    (ap (option_map (at_phase phase.AlarmName)) (begin_is d (omega arith) (omega arith))) in
    let second : in_phase names d' phase.AlarmName (token_of spelled.name.text) spelled.name ≡ Some
    (with_leaf (with_name d' found spelled.name.place) (alarm (unwrap_or found 0))) =
    ap (λ (x : Token). alarm_name names d' x spelled.name) spelled.is_name in
    ap (λ (us : List Piece). run names len (at_phase phase.Operand d) (us ++ rest)) spelled.all
    ∙ (one_step names len (at_phase phase.Operand d) (at_phase phase.AlarmName d') spelled.word
    (spelled.name ∷ rest) w.0 first
    ∙ (one_step names len (at_phase phase.AlarmName d')
    (with_leaf (with_name d' found spelled.name.place) (alarm (unwrap_or found 0))) spelled.name rest w.1.0 second
    ∙ done_is names len rest d.outer (with_nots d.scope 0) (with_nots d.scope 0)
    (negated d.scope.nots (alarm (unwrap_or found 0))) (negated d.scope.nots (alarm n)) (d.scope.nots + 1)
    (d.scope.nots + 1) (d.nodes + 1) (d.nodes + 1)
    (unknown_after d.unknown found spelled.name.place) d.unknown refl
    (ap (λ (m : ℕ). negated d.scope.nots (alarm m)) (named_is found n spelled.named)) refl refl
    (named_known d.unknown found spelled.name.place n known spelled.named)))

one-compare : (p : ℕ) (c : Comparison) (z : ℤ) → ReadsOne (compare p c z)
unfolding ReadsOne
one-compare p c z names len d ts rest known low grouped spelled within few deep =
    let w : AreWithin 256 (spelled.name ∷ spelled.sign ∷ spelled.value ∷ []) =
    subst (λ (us : List Piece). AreWithin 256 us) spelled.all within in
    let found : Option ℕ = point_named names.points.points spelled.name.text in
    let d' : Desk = with_name (record { outer = d.outer; scope = d.scope; nodes = d.nodes + 1; unknown = d.unknown })
    found spelled.name.place in
    let q : ℕ = unwrap_or found 0 in
    let first : in_phase names d phase.Operand (token_of spelled.name.text) spelled.name ≡ Some
    (at_phase (phase.Comparison q) d') =
    operand_is names d token.Name spelled.name _ spelled.is_name
    (ap (option_map (λ d''. at_phase (phase.Comparison q) (with_name d'' found spelled.name.place)))
    (begin_is d (omega arith) (omega arith))) in
    let second : in_phase names d' (phase.Comparison q) (token_of spelled.sign.text) spelled.sign ≡ Some
    (at_phase (phase.Number q c) d') = ap (λ (x : Token). comparison d' q x) spelled.is_sign in
    let third : in_phase names d' (phase.Number q c) (token_of spelled.value.text) spelled.value ≡ Some
    (with_leaf d' (compare q c z)) = ap (λ (x : Token). number d' q c x) spelled.is_value in
    ap (λ (us : List Piece). run names len (at_phase phase.Operand d) (us ++ rest)) spelled.all
    ∙ (one_step names len (at_phase phase.Operand d) (at_phase (phase.Comparison q) d') spelled.name
    (spelled.sign ∷ spelled.value ∷ rest) w.0 first
    ∙ (one_step names len (at_phase (phase.Comparison q) d') (at_phase (phase.Number q c) d') spelled.sign
    (spelled.value ∷ rest) w.1.0 second
    ∙ (one_step names len (at_phase (phase.Number q c) d') (with_leaf d' (compare q c z))
    spelled.value rest w.1.1.0 third
    ∙ done_is names len rest d.outer (with_nots d.scope 0) (with_nots d.scope 0)
    (negated d.scope.nots (compare q c z)) (negated d.scope.nots (compare p c z)) (d.scope.nots + 1)
    (d.scope.nots + 1) (d.nodes + 1) (d.nodes + 1)
    (unknown_after d.unknown found spelled.name.place) d.unknown refl
    (ap (λ (m : ℕ). negated d.scope.nots (compare m c z)) (named_is found p spelled.named)) refl refl
    (named_known d.unknown found spelled.name.place p known spelled.named))))

if_true : (b : Bool) (x : Option State) → b ≡ true → (if b then x else None) ≡ x
if_true true x h = refl
if_true false x h = absurd (cc)

one-bracket : (f : Formula) → ReadsAny f → ReadsOne (bracket f)
unfolding ReadsOne ReadsAny
one-bracket f read names len d ts rest known low grouped spelled within few deep =
    let inner : Back token.Close (Spells names f) spelled.rest = spelled.spelled in
    let w : AreWithin 256 (spelled.word ∷ spelled.rest) =
    subst (λ (us : List Piece). AreWithin 256 us) spelled.all within in
    let v : AreWithin 256 (inner.rest ++ inner.word ∷ []) =
    subst (λ (us : List Piece). AreWithin 256 us) inner.all w.1 in
    let d' : Desk = record {
      outer = d.scope ∷ d.outer;
      scope =
          record { base = above d.scope + d.scope.nots + 1; any = None; all = None; nots = 0 };
      nodes =
          d.nodes + 1;
      unknown = d.unknown;
    } in
    let first : in_phase names d phase.Operand (token_of spelled.word.text) spelled.word ≡ Some
    (at_phase phase.Operand d') =
    operand_is names d token.Open spelled.word _ spelled.is_word
    (ap (option_map opened) (begin_is d (omega arith) (omega arith))) in
    let a : AnyRead names len d' f inner.rest (inner.word ∷ rest) =
    read names len d' inner.rest (inner.word ∷ rest) known grouped inner.spelled
    (AreWithin-left 256 inner.rest (inner.word ∷ []) v) refl refl refl (omega arith) (omega arith) in
    let g : Scope = record { base = d'.scope.base; any = a.anys; all = a.alls; nots = 0 } in
    let e : Desk = in_scope d' g (d'.nodes + nodes f) in
    let whole : Part = any_part g a.part in
    let deep' : above d.scope + (d.scope.nots + 1 + whole.levels) ≤ 16 = let c : whole.levels ≡ levels f =
    a.chain in omega arith in
    let closes : in_phase names e (phase.Done a.part) (token_of inner.word.text) inner.word
    ≡ Some (at_phase (phase.Done
    (record { tree = negated d.scope.nots (bracket whole.tree); levels = d.scope.nots + 1 + whole.levels }))
    (record { outer = d.outer; scope = with_nots d.scope 0; nodes = d'.nodes + nodes f; unknown = d.unknown })) =
    ap (λ (x : Token). after_part e a.part x) inner.is_word ∙ if_true _ _ (le-leb _ 16 deep') in
    let split : ts ++ rest ≡ spelled.word ∷ (inner.rest ++ (inner.word ∷ rest)) =
    ap (λ (us : List Piece). us ++ rest) spelled.all ∙ ap (λ (us : List Piece). spelled.word ∷ us)
    (ap (λ (us : List Piece). us ++ rest) inner.all ∙ append_assoc inner.rest (inner.word ∷ []) rest) in
    ap (run names len (at_phase phase.Operand d)) split
    ∙ (one_step names len (at_phase phase.Operand d) (at_phase phase.Operand d') spelled.word
    (inner.rest ++ (inner.word ∷ rest)) w.0 first
    ∙ (a.reads
    ∙ (one_step names len (at_phase (phase.Done a.part) e) _ inner.word rest
    (AreWithin-right 256 inner.rest (inner.word ∷ []) v).0 closes
    ∙ done_is names len rest d.outer (with_nots d.scope 0) (with_nots d.scope 0)
    (negated d.scope.nots (bracket whole.tree)) (negated d.scope.nots (bracket f))
    (d.scope.nots + 1 + whole.levels) (d.scope.nots + (1 + levels f)) (d.nodes + 1 + nodes f)
    (d.nodes + (1 + nodes f)) d.unknown d.unknown refl
    (ap (λ (x : Formula). negated d.scope.nots (bracket x)) a.tree) (let c : whole.levels ≡ levels f = a.chain in
    omega arith) (omega arith) refl)))

-- A rule that is no `and` is a chain of one part: as deep as that part, and a new node.
single-all : (f : Formula) → rank f ≤ 0 → (levels f ≡ all_levels f) × (1 ≡ new_all f)
single-all (alarm n) h = (refl, refl)
single-all (compare p c z) h = (refl, refl)
single-all (negation f) h = (refl, refl)
single-all (bracket f) h = (refl, refl)
single-all (both f g) h = absurd (omega arith)
single-all (either f g) h = absurd (omega arith)

-- The same of `or`.
single-any : (f : Formula) → rank f ≤ 1 → (levels f ≡ any_levels f) × (1 ≡ new_any f)
single-any (alarm n) h = (refl, refl)
single-any (compare p c z) h = (refl, refl)
single-any (negation f) h = (refl, refl)
single-any (bracket f) h = (refl, refl)
single-any (both f g) h = (refl, refl)
single-any (either f g) h = absurd (omega arith)

-- A rule is at most one level deeper than the parts of its chain.
levels-low : (f : Formula) → (levels f ≤ 1 + all_levels f) × (levels f ≤ 1 + any_levels f)
levels-low (alarm n) = (omega arith, omega arith)
levels-low (compare p c z) = (omega arith, omega arith)
levels-low (negation f) = (omega arith, omega arith)
levels-low (bracket f) = (omega arith, omega arith)
levels-low (both f g) = (omega arith, omega arith)
levels-low (either f g) = (omega arith, omega arith)

grown-at_least : (o : Option Part) (n : ℕ) → n ≤ grown_levels o n
grown-at_least None n = omega arith
grown-at_least (Some a) n = omega arith

scope_of : (f : Scope) (alls : Option Part) (nots : ℕ) → f.all ≡ alls →
    ◌≡◌ {A = Scope} (record { base = f.base; any = f.any; all = f.all; nots = nots })
    (record { base = f.base; any = f.any; all = alls; nots = nots })
scope_of f alls nots e = ap (λ (a : Option Part). let g : Scope =
    record { base = f.base; any = f.any; all = a; nots = nots } in g) e

scope_with : (base : ℕ) (a a' alls : Option Part) (nots : ℕ) → a ≡ a' →
    ◌≡◌ {A = Scope} (record { base = base; any = a; all = alls; nots = nots })
    (record { base = base; any = a'; all = alls; nots = nots })
scope_with base a a' alls nots e =
    ap (λ (x : Option Part). let g : Scope = record { base = base; any = x; all = alls; nots = nots } in g) e

-- a `one` is an `all` of one part
all-from_one : (f : Formula) → rank f ≤ 0 → ReadsOne f → ReadsAll f
unfolding ReadsOne ReadsAll
all-from_one f single read names len d ts rest known low grouped spelled within empty none few deep =
    let zero_all : one_if (is_some d.scope.all) ≡ 0 = ap (λ (a : Option Part). one_if (is_some a)) empty in
    record {
      alls = None;
      part = record { tree = f; levels = levels f };
      tree = refl;
      chain = refl;
      parts = (single-all f single).0;
      fresh = (single-all f single).1;
      reads = read names len d ts rest known single grouped spelled within few (omega arith)
          ∙ done_is names len rest d.outer (with_nots d.scope 0)
          (record { base = d.scope.base; any = d.scope.any; all = None; nots = 0 }) (negated d.scope.nots f) f
          (d.scope.nots + levels f) (levels f) (d.nodes + nodes f) (d.nodes + nodes f) d.unknown d.unknown
          (scope_of d.scope None 0 empty) (ap (λ (n : ℕ). negated n f) none) (omega arith) refl refl;
    }

-- an `and` of more parts
all-both : (f g : Formula) → ReadsAll f → ReadsOne g → ReadsAll (both f g)
unfolding ReadsOne ReadsAll
all-both f g read-f read-g names len d ts rest known low grouped spelled within empty none few deep =
    let w : AreWithin 256 (spelled.left ++ spelled.word ∷ spelled.right) =
    subst (λ (us : List Piece). AreWithin 256 us) spelled.all within in
    let v : AreWithin 256 (spelled.word ∷ spelled.right) =
    AreWithin-right 256 spelled.left (spelled.word ∷ spelled.right) w in
    let a : AllRead names len d f spelled.left (spelled.word ∷ (spelled.right ++ rest)) =
    read-f names len d spelled.left (spelled.word ∷ (spelled.right ++ rest)) known grouped.0 grouped.1
    spelled.is_left (AreWithin-left 256 spelled.left _ w) empty none (omega arith)
    (let l : levels f ≤ 1 + all_levels f = (levels-low f).0 in omega arith) in
    let e : Desk = in_scope d (record { base = d.scope.base; any = d.scope.any; all = a.alls; nots = 0 })
    (d.nodes + nodes f) in
    let s : Desk = in_scope d
    (record {
      base = d.scope.base;
      any = d.scope.any;
      all =
          Some (record { tree = all_tree a.alls a.part.tree; levels = grown_levels a.alls a.part.levels });
      nots = 0;
    })
    (d.nodes + nodes f + one_if (is_none a.alls)) in
    let room : d.nodes + nodes f + one_if (is_none a.alls) ≤ 64 = let n : one_if (is_none a.alls) ≡ new_all f =
    a.fresh in omega arith in
    let part_low : a.part.levels ≤ all_levels f = let m : a.part.levels ≤ grown_levels a.alls a.part.levels =
    grown-at_least a.alls a.part.levels in let p : grown_levels a.alls a.part.levels ≡ all_levels f =
    a.parts in omega arith in
    let flat : d.scope.base + one_if (is_some d.scope.any) + 1 + a.part.levels ≤ 16 = omega arith in
    let word : in_phase names e (phase.Done a.part) (token_of spelled.word.text) spelled.word ≡ Some
    (at_phase phase.Operand s) =
    ap (λ (x : Token). after_part e a.part x) spelled.is_word ∙ both_true _ _ _ (le-leb _ 64 room) (le-leb _ 16 flat) in
    let split : ts ++ rest ≡ spelled.left ++ (spelled.word ∷ (spelled.right ++ rest)) =
    ap (λ (us : List Piece). us ++ rest) spelled.all
    ∙ append_assoc spelled.left (spelled.word ∷ spelled.right) rest in
    let grown-is : grown_levels a.alls a.part.levels ≡ all_levels f = a.parts in
    record {
      alls = Some (record { tree = all_tree a.alls a.part.tree; levels = grown_levels a.alls a.part.levels });
      part = record { tree = g; levels = levels g };
      tree = ap (λ (x : Formula). both x g) a.tree;
      chain = ap (λ (n : ℕ). 1 + max n (levels g)) grown-is;
      parts = ap (λ (n : ℕ). max n (levels g)) grown-is;
      fresh = refl;
      reads = ap (run names len (at_phase phase.Operand d)) split
          ∙ (a.reads
          ∙ (one_step names len (at_phase (phase.Done a.part) e) (at_phase phase.Operand s) spelled.word
          (spelled.right ++ rest) v.0 word
          ∙ (read-g names len s spelled.right rest known grouped.2 grouped.3 spelled.is_right v.1
          (let n : one_if (is_none a.alls) ≡ new_all f = a.fresh in omega arith) (omega arith)
          ∙ done_is names len rest d.outer s.scope s.scope g g (0 + levels g) (levels g)
          (d.nodes + nodes f + one_if (is_none a.alls) + nodes g) (d.nodes + (nodes f + new_all f + nodes g))
          d.unknown d.unknown
          refl refl (omega arith) (let n : one_if (is_none a.alls) ≡ new_all f = a.fresh in omega arith) refl)));
    }

-- an `all` is an `any` of one part
any-from_all : (f : Formula) → rank f ≤ 1 → ReadsAll f → ReadsAny f
unfolding ReadsAll ReadsAny
any-from_all f single read names len d ts rest known grouped spelled within none-any none-all none few deep =
    let zero_any : one_if (is_some d.scope.any) ≡ 0 = ap (λ (a : Option Part). one_if (is_some a)) none-any in
    let a : AllRead names len d f ts rest =
    read names len d ts rest known single grouped spelled within none-all none few (omega arith) in
    record {
      anys = None;
      alls = a.alls;
      part = a.part;
      tree = a.tree;
      chain = a.chain;
      parts = a.chain ∙ (single-any f single).0;
      fresh = (single-any f single).1;
      reads = a.reads
          ∙ done_is names len rest d.outer (record { base = d.scope.base; any = d.scope.any; all = a.alls; nots = 0 })
          (record { base = d.scope.base; any = None; all = a.alls; nots = 0 }) a.part.tree a.part.tree
          a.part.levels a.part.levels (d.nodes + nodes f) (d.nodes + nodes f) d.unknown d.unknown
          (scope_with d.scope.base d.scope.any None a.alls 0 none-any) refl refl refl refl;
    }

-- an `or` of more parts
any-either : (f g : Formula) → ReadsAny f → ReadsAll g → ReadsAny (either f g)
unfolding ReadsAll ReadsAny
any-either f g read-f read-g names len d ts rest known grouped spelled within none-any none-all none few deep =
    let w : AreWithin 256 (spelled.left ++ spelled.word ∷ spelled.right) =
    subst (λ (us : List Piece). AreWithin 256 us) spelled.all within in
    let v : AreWithin 256 (spelled.word ∷ spelled.right) =
    AreWithin-right 256 spelled.left (spelled.word ∷ spelled.right) w in
    let a : AnyRead names len d f spelled.left (spelled.word ∷ (spelled.right ++ rest)) =
    read-f names len d spelled.left (spelled.word ∷ (spelled.right ++ rest)) known grouped.1 spelled.is_left
    (AreWithin-left 256 spelled.left _ w) none-any none-all none (omega arith)
    (let l : levels f ≤ 1 + any_levels f = (levels-low f).1 in omega arith) in
    let inner : ℕ = chain_levels a.alls a.part.levels in
    let e : Desk = in_scope d (record { base = d.scope.base; any = a.anys; all = a.alls; nots = 0 })
    (d.nodes + nodes f) in
    let made : Part = record {
      tree = any_tree a.anys (all_tree a.alls a.part.tree);
      levels =
          grown_levels a.anys inner;
    } in
    let s : Desk = in_scope d (record { base = d.scope.base; any = Some made; all = None; nots = 0 })
    (d.nodes + nodes f + one_if (is_none a.anys)) in
    let new : one_if (is_none a.anys) ≡ new_any f = a.fresh in
    let grown-is : grown_levels a.anys inner ≡ any_levels f = a.parts in
    let room : d.nodes + nodes f + one_if (is_none a.anys) ≤ 64 = omega arith in
    let inner_low : inner ≤ any_levels f = let m : inner ≤ grown_levels a.anys inner =
    grown-at_least a.anys inner in omega arith in
    let flat : d.scope.base + 1 + inner ≤ 16 = omega arith in
    let word : in_phase names e (phase.Done a.part) (token_of spelled.word.text) spelled.word ≡ Some
    (at_phase phase.Operand s) =
    ap (λ (x : Token). after_part e a.part x) spelled.is_word ∙ both_true _ _ _ (le-leb _ 64 room) (le-leb _ 16 flat) in
    let split : ts ++ rest ≡ spelled.left ++ (spelled.word ∷ (spelled.right ++ rest)) =
    ap (λ (us : List Piece). us ++ rest) spelled.all
    ∙ append_assoc spelled.left (spelled.word ∷ spelled.right) rest in
    let b : AllRead names len s g spelled.right rest =
    read-g names len s spelled.right rest known grouped.2 grouped.3 spelled.is_right v.1 refl refl
    (omega arith) (omega arith) in
    record {
      anys = Some made;
      alls = b.alls;
      part = b.part;
      tree = ap (λ (x : Formula). either x (all_tree b.alls b.part.tree)) a.tree
          ∙ ap (λ (x : Formula). either f x) b.tree;
      chain = ap (λ (n : ℕ). 1 + max n (chain_levels b.alls b.part.levels)) grown-is
          ∙ ap (λ (n : ℕ). 1 + max (any_levels f) n) b.chain;
      parts = ap (λ (n : ℕ). max n (chain_levels b.alls b.part.levels)) grown-is
          ∙ ap (λ (n : ℕ). max (any_levels f) n) b.chain;
      fresh = refl;
      reads = ap (run names len (at_phase phase.Operand d)) split
          ∙ (a.reads
          ∙ (one_step names len (at_phase (phase.Done a.part) e) (at_phase phase.Operand s) spelled.word
          (spelled.right ++ rest) v.0 word
          ∙ (b.reads
          ∙ done_is names len rest d.outer (record { base = d.scope.base; any = Some made; all = b.alls; nots = 0 })
          (record { base = d.scope.base; any = Some made; all = b.alls; nots = 0 })
          b.part.tree b.part.tree b.part.levels b.part.levels
          (d.nodes + nodes f + one_if (is_none a.anys) + nodes g) (d.nodes + (nodes f + new_any f + nodes g))
          d.unknown d.unknown refl refl refl (omega arith) refl)));
    }

record Reads (f : Formula) : Type 0 where
  one : ReadsOne f
  all : ReadsAll f
  any : ReadsAny f

not_one : (f : Formula) → 1 ≤ rank f → ReadsOne f
unfolding ReadsOne
not_one f h names len d ts rest known low grouped spelled within few deep = absurd (omega arith)

not_all : (f : Formula) → 2 ≤ rank f → ReadsAll f
unfolding ReadsAll
not_all f h names len d ts rest known low grouped spelled within empty none few deep = absurd (omega arith)

from_one : (f : Formula) → rank f ≤ 0 → ReadsOne f → Reads f
from_one f h one =
    let all : ReadsAll f = all-from_one f h one in
    record { one = one; all = all; any = any-from_all f (omega arith) all }

-- every rule is read
reads : (f : Formula) → Reads f
reads (alarm n) = from_one (alarm n) (omega arith) (one-alarm n)
reads (compare p c z) = from_one (compare p c z) (omega arith) (one-compare p c z)
reads (negation f) = from_one (negation f) (omega arith) (one-negation f (reads f).one)
reads (bracket f) = from_one (bracket f) (omega arith) (one-bracket f (reads f).any)
reads (both f g) =
    let all : ReadsAll (both f g) = all-both f g (reads f).all (reads g).one in
    record { one = not_one (both f g) (omega arith); all = all; any = any-from_all (both f g) (omega arith) all }
reads (either f g) = record {
  one = not_one (either f g) (omega arith);
  all = not_all (either f g) (omega arith);
  any = any-either f g (reads f).any (reads g).all;
}

within-before : (n place : ℕ) (t : List ℕ) (rest : List Piece) → length t ≤ place → place ≤ n → AreWithin n rest →
    AreWithin n (piece_before t place rest)
within-before n place [] rest h low w = w
within-before n place (c ∷ cs) rest h low w = (omega arith, w)

within-if : (n : ℕ) (b : Bool) (x y : List Piece) → AreWithin n x → AreWithin n y → AreWithin n (if b then x else y)
within-if n true x y h g = h
within-if n false x y h g = g

begun-short : (b : ℕ) (c : Bool) → length (if c then [] else b ∷ []) ≤ 1
begun-short b true = omega arith
begun-short b false = omega arith

-- each token ends within its text
within-pieces : (n : ℕ) (t : List ℕ) (place : ℕ) (bs : List ℕ) → length t ≤ place → place + length bs ≤ n →
    AreWithin n (pieces_on t place bs)
within-pieces n t place [] h low = within-before n place t [] h (omega arith) tt
within-pieces n t place (b ∷ bs) h low =
    within-if n (continues t b) _ _
    (within-pieces n (t ++ b ∷ []) (suc place) bs (let e : length (t ++ b ∷ []) ≡ length t + 1 =
    length-append t (b ∷ []) in omega arith) (omega arith))
    (within-before n place t _ h (omega arith)
    (within-pieces n (begun b) (suc place) bs (let e : length (begun b) ≤ 1 = begun-short b (b == 32) in
    omega arith) (omega arith)))

ended_ok : (b : Bool) (e : RuleRefusal) (r : Result Formula RuleRefusal) → b ≡ false → (if b then Err e else r) ≡ r
ended_ok true e r h = absurd (cc)
ended_ok false e r h = refl

ended-done : (len : ℕ) (f : Scope) (p : Part) (n : ℕ) → len ≤ 256 →
    ended len (at_phase (phase.Done p) (record { outer = []; scope = f; nodes = n; unknown = None })) ≡ Ok
    (any_part f p).tree
unfolding ended
ended-done len f p n low = ended_ok (nat_lt 256 len) _ _ (le-ltb 256 len low)

pub each-spelled : EachSpelledRuleIsRead
unfolding read_rule ReadsAny
each-spelled names text f short grouped spelled few deep =
    let w : AreWithin 256 (pieces text) = within-pieces 256 [] 0 text (omega arith) (omega arith) in
    let a : AnyRead names (length text) start.desk f (pieces text) [] =
    (reads f).any names (length text) start.desk (pieces text) [] refl grouped spelled w refl refl refl
    (omega arith) (omega arith) in
    ap (run names (length text) start) (sym (append-nil (pieces text)))
    ∙ (a.reads
    ∙ (ended-done (length text) (record { base = 0; any = a.anys; all = a.alls; nots = 0 }) a.part (0 + nodes f) short
    ∙ ap (λ (x : Formula). Ok x) a.tree))
