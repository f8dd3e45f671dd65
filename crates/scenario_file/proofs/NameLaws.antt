-- Names that are read are names, and no two of one list are the same. What a rule names is there.
use Rattle.std.proofs.Common.{◌≡◌, ◌≢◌, ℕ, zero, suc, ◌+◌, ◌<◌, ◌≤◌, nat_lt, Bool, true, false, cond, not, ◌&&◌, List}
use Rattle.std.proofs.Common.{[], ◌∷◌, ◌++◌, length, get_or, refl, sym, ◌∙◌, ap, subst, arith, Result, Ok, Err}
use Rattle.std.proofs.Common.{Option, Some, None, ℤ, pos}
use Rattle.std.specs.Prelude.{codes, AllPairs, is_some, position}
use Rattle.std.specs.List.{prefix_len, position_or_len}
use Rattle.std.specs.Str.{bytes_eq}
use Rattle.std.proofs.Common.{Decides}
use Rattle.std.proofs.lemmas.Bool.{and_parts, false≢true, not-true, ltb-false}
use Rattle.std.proofs.lemmas.List.Quantifiers.{all_pairs_push, position-Some}
use Rattle.std.proofs.lemmas.Slice.Eq.{bytes_eq-Decides}
use Rattle.toml.specs.Data.{Members}
use Rattle.point_table.specs.declared.point.Area.TheVariants.{Coil}
use Rattle.point_table.specs.declared.point.Point.{Point}
use Rattle.point_table.specs.Table.{point_named}
use Rattle.alarm_rules.specs.declared.alarm.AlarmKind.TheVariants.{High}
use Rattle.alarm_rules.specs.declared.alarm.AlarmRule.{AlarmRule}
use Rattle.alarm_rules.specs.Board.{alarm_named}
use Rattle.interlocks.specs.declared.refusal.RuleRefusal.{RuleRefusal}
use Rattle.interlocks.specs.Formula.{Formula, alarm, compare, negation, bracket, both, either}
use Rattle.interlocks.specs.Reading.{Names, read_rule}
use Rattle.interlocks.specs.Tokens.{Piece, pieces}
use Rattle.rule_grammar.specs.Grammar.{Spells}
use Rattle.rule_grammar.proofs.Sound.{each-rule}
use Rattle.scenario_file.specs.declared.refusal.ScenarioRefusal.{ScenarioRefusal}
use Rattle.scenario_file.specs.Values.{text_at}
use Rattle.scenario_file.specs.PlantRows.{is_name, name_in, rule_of, rule_in}
use Rattle.scenario_file.specs.Valid.{NamesThere}
use Rattle.scenario_file.proofs.Steps.{step, kept-ok, or_bad-ok}

no_place : (o : Option ℕ) → not (is_some o) ≡ true → o ≡ None
no_place None h = refl
no_place (Some n) h = absurd (false≢true h)

-- a name that is read is one, and nothing has it yet
pub name_in-fresh : (place_of : List ℕ → Option ℕ) (at : List ℕ) (t : Members) (s : List ℕ) →
    name_in place_of at t ≡ Ok s → (is_name s ≡ true) × (place_of s ≡ None)
unfolding name_in
name_in-fresh place_of at t s h =
    step (text_at at (codes "name") t) _ s h (λ name read h1.
    let (passed, same) = kept-ok (at ++ codes "name") (is_name name && not (is_some (place_of name))) name s h1 in
    let both = and_parts (is_name name) (not (is_some (place_of name))) passed in
    subst (λ (n : List ℕ). (is_name n ≡ true) × (place_of n ≡ None)) same (both.0, no_place (place_of name) both.1))

-- where no element passes a test, none does at its place

prefix_whole : {X : Type 0} (p : X → Bool) (xs : List X) → length xs ≤ prefix_len p xs → (k : ℕ) (d : X) →
    k < length xs → p (get_or xs k d) ≡ true
prefix_whole p [] all k d inside = absurd (omega arith)
prefix_whole p (x ∷ xs) all k d inside = by (p x) refl all (λ rest j less. prefix_whole p xs rest j d less) k inside
  where
    by : (b : Bool) → p x ≡ b → suc (length xs) ≤ cond b (1 + prefix_len p xs) 0 →
        (length xs ≤ prefix_len p xs → (j : ℕ) → j < length xs → p (get_or xs j d) ≡ true)
        → (k : ℕ) → k < suc (length xs) → p (get_or (x ∷ xs) k d) ≡ true
    by false is whole rest k inside = absurd (omega arith)
    by true is whole rest zero inside = is
    by true is whole rest (suc k) inside = rest (omega arith) k (omega arith)

no_index : (b : Bool) (n : ℕ) → cond b (Some n) None ≡ None → b ≡ false
no_index true n h = absurd (cc)
no_index false n h = refl

position-None : {X : Type 0} (p : X → Bool) (xs : List X) → position p xs ≡ None → (k : ℕ) (d : X) → k < length xs →
    p (get_or xs k d) ≡ false
position-None p xs none k d inside =
    let whole : length xs ≤ position_or_len p xs =
    ltb-false (position_or_len p xs) (length xs)
    (no_index (nat_lt (position_or_len p xs) (length xs)) (position_or_len p xs) none) in
    not-true (p (get_or xs k d)) (prefix_whole (λ x. not (p x)) xs whole k d inside)

-- the names of a list differ, each from those of the elements before it
abbrev pub Differ : {A : Type 0} → (A → List ℕ) → List A → Type 0
Differ name_of xs = AllPairs (λ x y. name_of x ≢ name_of y) xs

pub none-differ : {A : Type 0} (name_of : A → List ℕ) → Differ name_of []
none-differ name_of = λ i j d less inside. absurd (omega arith)

pub differ-push : {A : Type 0} (name_of : A → List ℕ) (xs : List A) (y : A) → Differ name_of xs →
    position (λ x. bytes_eq (name_of x) (name_of y)) xs ≡ None → Differ name_of (xs ++ y ∷ [])
differ-push name_of xs y so_far none =
    all_pairs_push (λ x z. name_of x ≢ name_of z) xs y so_far (λ k d inside same.
    let told : bytes_eq (name_of (get_or xs k d)) (name_of y) ≡ false =
    position-None (λ x. bytes_eq (name_of x) (name_of y)) xs none k d inside in
    false≢true (sym told ∙ (bytes_eq-Decides (name_of (get_or xs k d)) (name_of y)).1 same))

-- what has a name is there

some_point : Point
some_point = record {
  name = [];
  proxy = 0;
  area = Coil;
  place = 0;
  scale = pos 1;
  offset = pos 0;
  low = pos 0;
  high = pos 0;
  start = pos 0;
}

some_alarm : AlarmRule
some_alarm = record { name = []; point = 0; kind = High; limit = pos 0; band = pos 0 }

pub point_named-there : (points : List Point) (name : List ℕ) (n : ℕ) → point_named points name ≡ Some n →
    n < length points
point_named-there points name n h = (position-Some (λ p. bytes_eq p.name name) points n some_point h).0

alarm_named-there : (rules : List AlarmRule) (name : List ℕ) (n : ℕ) →
    alarm_named rules name ≡ Some n → n < length rules
alarm_named-there rules name n h = (position-Some (λ r. bytes_eq r.name name) rules n some_alarm h).0

spelled-there : (names : Names) (f : Formula) (ts : List Piece) → Spells names f ts →
    NamesThere (length names.points.points) (length names.alarms.rules) f
spelled-there names (alarm n) ts s = alarm_named-there names.alarms.rules s.name.text n s.named
spelled-there names (compare p c z) ts s = point_named-there names.points.points s.name.text p s.named
spelled-there names (negation f) ts s = spelled-there names f s.rest s.spelled
spelled-there names (bracket f) ts s = spelled-there names f s.spelled.rest s.spelled.spelled
spelled-there names (both f g) ts s = (spelled-there names f s.left s.is_left, spelled-there names g s.right s.is_right)
spelled-there names (either f g) ts s =
    (spelled-there names f s.left s.is_left, spelled-there names g s.right s.is_right)

abbrev read : Formula → Result Formula RuleRefusal
read f = Ok f

rule_of-ok : (name : List ℕ) (r : Result Formula RuleRefusal) (f : Formula) → rule_of name r ≡ Ok f → r ≡ Ok f
rule_of-ok name (Ok g) f h = ap read (let same : g ≡ f = cc in same)
rule_of-ok name (Err e) f h = absurd (cc)

-- a rule that is read names points and alarms that are there
pub rule_in-there : (names : Names) (at : List ℕ) (t : Members) (f : Formula) → rule_in names at t ≡ Ok f →
    NamesThere (length names.points.points) (length names.alarms.rules) f
unfolding rule_in
rule_in-there names at t f h =
    step (text_at at (codes "deny") t) _ f h (λ text there h1.
    spelled-there names f (pieces text)
    (each-rule names text f (rule_of-ok (at ++ codes "deny") (read_rule names text) f h1)).1)
