-- An actor before its first event, with the keeper that its scenario gives it.
use Rattle.std.proofs.Common.{◌≡◌, ℕ, ◌+◌, ◌<◌, ◌≤◌, Bool, true, false, cond, ◌&&◌, ◌||◌, not, List, [], ◌∷◌, length}
use Rattle.std.proofs.Common.{nat_lt, nat_le, refl, sym, ◌∙◌, ap, subst, arith}
use Rattle.std.specs.Prelude.{Option, Some, None, slice_get}
use Rattle.std.proofs.lemmas.Bool.{false≢true, lt-ltb, le-ltb, and_right}
use Rattle.std.proofs.lemmas.Bool.Decides.{nat_tests}
use Rattle.std.proofs.lemmas.Option.{slice_get-get_or, get_or_from_slice_get}
use Rattle.outside.specs.Keepers.{Binder}
use Rattle.quorum_sets.specs.Masters.{has_master}
use Rattle.scenario_file.specs.Reading.{Contents}
use Rattle.scenario_file.specs.Valid.{IsScenario}
use Rattle.history_rules.specs.Setup.{Setup, is_correct}
use Rattle.world_rules.specs.Scenarios.{setup_of, group_in, masters_in}
use Rattle.world_rules.proofs.Fields.{setup_goes_by}
use Rattle.history_laws.proofs.BenchLists.{none_is_bench_list}
use Rattle.history_laws.proofs.EntryByEntry.{nothing_stands}
use Rattle.world_history.specs.State.{BenchState}
use Rattle.world_history.specs.Lists.{EachFits, before_last, texts_of, replayed}
use Rattle.world_history.specs.Keeping.{fails_within, entries_kept}
use Rattle.world_history.specs.KeptState.{Keeps, first_keeper, first_state}
use Rattle.world_history.proofs.KeptGrows.{correct_is}
use Rattle.world_history.proofs.KeptInStep.{made, both_not}

-- a keeper that had no call yet
abbrev fresh : List ℕ → Option Binder
fresh failing = Some (record { entries = []; failing = failing; calls = 0; faults = 0 })

abbrev keeper_if : Setup → ℕ → Bool → Option Binder
keeper_if w actor correct = cond correct (fresh (w.failing actor)) None

-- an intruded master has no keeper
pub begins_with_none : (c : Contents) (actor : ℕ) → actor < masters_in c →
    has_master c.settings.intruded actor ≡ true → None ≡ first_keeper (setup_of c) actor
begins_with_none c actor low intruded =
    sym (ap (keeper_if (setup_of c) actor)
    (correct_is c actor ∙ both_not (nat_lt actor (masters_in c)) (has_master c.settings.intruded actor)
    (lt-ltb actor (masters_in c) low) intruded))

low_false : (low intruded : Bool) → low ≡ false → (low && intruded) ≡ false
low_false true intruded is = absurd (false≢true (sym is))
low_false false intruded is = refl

pub not_intruded : (c : Contents) (actor : ℕ) → has_master c.settings.intruded actor ≡ false →
    (nat_lt actor (masters_in c) && has_master c.settings.intruded actor) ≡ false
not_intruded c actor is = and_right (nat_lt actor (masters_in c)) (has_master c.settings.intruded actor) is

pub no_master : (c : Contents) (actor : ℕ) → masters_in c ≤ actor →
    (nat_lt actor (masters_in c) && has_master c.settings.intruded actor) ≡ false
no_master c actor high = low_false (nat_lt actor (masters_in c)) (has_master c.settings.intruded actor)
    (le-ltb actor (masters_in c) high)

-- every other actor has one, with the failing calls that the scenario lists for it
pub begins_with_some : (c : Contents) (actor : ℕ) (failing : List ℕ) →
    (nat_lt actor (masters_in c) && has_master c.settings.intruded actor) ≡ false
    → Some failing ≡ slice_get c.failing actor →
    Some (record { entries = []; failing = failing; calls = 0; faults = 0 }) ≡ first_keeper (setup_of c) actor
begins_with_some c actor failing other listed =
    ap fresh (sym (get_or_from_slice_get c.failing actor failing [] (sym listed))
    ∙ sym ((setup_goes_by c).failing actor))
    ∙ sym (ap (keeper_if (setup_of c) actor) (correct_is c actor ∙ ap not other))

-- there is a list of failing calls for each actor
pub is_listed : (c : Contents) (actor : ℕ) → IsScenario c → actor < (group_in c).n + (group_in c).clients →
    None ≡ slice_get c.failing actor → ⊥
is_listed c actor valid there none =
    let many = valid.failing in
    let low : actor < length c.failing = omega arith in
    let here = slice_get-get_or c.failing actor [] low in
    absurd (cc)

not_yet : (x : ℕ) → (nat_le 1 x && nat_le x 0) ≡ false
not_yet x = grind (arith, nat_tests)

none_fails_yet : (failing : List ℕ) → fails_within failing 0 ≡ false
none_fails_yet [] = refl
none_fails_yet (x ∷ failing) = ap (λ (b : Bool). b || fails_within failing 0) (not_yet x) ∙ none_fails_yet failing

nothing_kept : (w : Setup) (actor : ℕ) → entries_kept w actor [] ≡ []
nothing_kept w actor = ap (λ (b : Bool). cond b (before_last []) []) (none_fails_yet (w.failing actor))

intruded_of : (low intruded : Bool) → not (low && intruded) ≡ false → intruded ≡ true
intruded_of true true is = refl
intruded_of true false is = absurd (false≢true (sym is))
intruded_of false intruded is = absurd (false≢true (sym is))

-- the two go together at the start
pub begins_together : (c : Contents) (actor : ℕ) (b : BenchState) (k : Option Binder) → IsScenario c →
    actor < (group_in c).n + (group_in c).clients
    → b ≡ replayed c actor [] → k ≡ first_keeper (setup_of c) actor → Keeps b k false
begins_together c actor b k valid there begun kept =
    subst (λ (x : BenchState). Keeps x k false) (sym begun)
    (subst (λ (o : Option Binder). Keeps (replayed c actor []) o false) (sym kept)
    (by (is_correct (setup_of c) actor) refl))
  where
    by : (correct : Bool) → is_correct (setup_of c) actor ≡ correct →
        Keeps (replayed c actor []) (keeper_if (setup_of c) actor correct) false
    by true is = record {
      works = refl;
      scenario = valid;
      there = there;
      correct = is;
      unsigned = refl;
      entries = none_is_bench_list (setup_of c) actor;
      fits = subst EachFits (sym (nothing_kept (setup_of c) actor)) (λ before e s. absurd (nothing_stands s));
      keeper = record { failing = refl; calls = refl; entries = sym (ap texts_of (nothing_kept (setup_of c) actor)) };
      agrees = sym (none_fails_yet ((setup_of c).failing actor));
    }
    by false is = record {
      works = refl;
      intruded = is;
      failing = (setup_goes_by c).failing actor
          ∙ valid.intruded_keep_all actor
          (intruded_of (nat_lt actor (masters_in c)) (has_master c.settings.intruded actor)
          (sym (correct_is c actor) ∙ is));
      running = refl;
    }

pub begun_state : (c : Contents) (actor : ℕ) (b : BenchState) (k : Option Binder) → b ≡ replayed c actor [] →
    k ≡ first_keeper (setup_of c) actor
    → made b k false ≡ first_state c actor
begun_state c actor b k begun kept = ap (λ (x : BenchState). made x k false) begun
    ∙ ap (λ (o : Option Binder). made (replayed c actor []) o false) kept
