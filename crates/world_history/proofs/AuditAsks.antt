-- What an audit asks of the benches of a history: the correct masters' executions.
use Rattle.std.proofs.Common.{◌≡◌, ℕ, ◌+◌, ◌≤◌, Bool, true, false, cond, ◌&&◌, not, List, [], ◌∷◌, Option, Some, None}
use Rattle.std.proofs.Common.{map, filter, refl, sym, ◌∙◌, ap}
use Rattle.std.proofs.lemmas.Bool.{le-ltb}
use Rattle.std.specs.List.{filter_map, cons_option}
use Rattle.quorum_sets.specs.Masters.{numbers_below, voters}
use Rattle.protocol_rules.specs.Group.{Group}
use Rattle.scenario_file.specs.Reading.{Contents}
use Rattle.scenario_file.specs.Valid.{IsScenario}
use Rattle.history_rules.specs.Events.{Entry}
use Rattle.history_rules.specs.Setup.{Setup, is_correct_master}
use Rattle.history_rules.specs.Legal.{IsLegal, executions}
use Rattle.world_rules.specs.Headline.{agrees, Premises}
use Rattle.world_rules.specs.Scenarios.{setup_of, group_in, actors_in}
use Rattle.world_rules.proofs.Fields.{group_is}
use Rattle.world_rules.proofs.Headline.{headline_of_legal}
use Rattle.history_audit.specs.Prefixes.{all_prefixes}
use Rattle.history_audit.proofs.Longest.{agrees_by_lists}
use Rattle.world_history.specs.State.{BenchState, executed_if}
use Rattle.world_history.specs.Benches.{bench_in, benches_of, unsigned, AreBenches}
use Rattle.quorum_sets.proofs.Numbered.{voters_up_to}
use Rattle.plain_lists.proofs.Lists.{map_map}

pub one_shown : {X Y : Type 0} (passes : Bool) (x : X) (xs : List X) (f : X → Y) (shown : List Y) → shown ≡ map f xs
    → cons_option (cond (not passes) None (Some (f x))) shown ≡ map f (cond passes (x ∷ xs) xs)
one_shown {X} {Y} true x xs f shown same = ap (λ (ys : List Y). f x ∷ ys) same
one_shown false x xs f shown same = same

-- what is seen of those that pass, and of no others
pub shown_passing : {X Y Z : Type 0} (passes : X → Bool) (see : X → Y) (show : Y → Option Z) (f : X → Z)
    → ((x : X) → show (see x) ≡ cond (not (passes x)) None (Some (f x))) → (xs : List X) →
    filter_map show (map see xs) ≡ map f (filter passes xs)
shown_passing passes see show f each [] = refl
shown_passing {X} {Y} {Z} passes see show f each (x ∷ xs) =
    ap (λ (o : Option Z). cons_option o (filter_map show (map see xs))) (each x)
    ∙ one_shown (passes x) x (filter passes xs) f (filter_map show (map see xs))
    (shown_passing passes see show f each xs)

pub no_master : (w : Setup) (a : ℕ) → w.group.n ≤ a → is_correct_master w a ≡ false
no_master w a beyond = ap (λ (b : Bool). b && not (w.intruded a)) (le-ltb a w.group.n beyond)

-- no client is a correct master
masters_alone : (c : Contents) → voters (is_correct_master (setup_of c)) (actors_in c) ≡ voters
    (is_correct_master (setup_of c)) (setup_of c).group.n
masters_alone c =
    ap (λ (g : Group). voters (is_correct_master (setup_of c)) (g.n + (group_in c).clients)) (sym (group_is c))
    ∙ voters_up_to (is_correct_master (setup_of c)) (setup_of c).group.n (group_in c).clients (no_master (setup_of c))

executed_by_benches : (c : Contents) (history : List Entry)
    → filter_map executed_if (benches_of c history) ≡ map (executions (setup_of c) history)
    (voters (is_correct_master (setup_of c)) (setup_of c).group.n)
executed_by_benches c history =
    shown_passing (is_correct_master (setup_of c)) (bench_in c history) executed_if (executions (setup_of c) history)
    (λ a. refl) (numbers_below (actors_in c))
    ∙ ap (map (executions (setup_of c) history)) (masters_alone c)

-- words signed outside a list change nothing of what is executed
unsigned_execute : (benches : List BenchState) →
    filter_map executed_if benches ≡ filter_map executed_if (map unsigned benches)
unsigned_execute [] = refl
unsigned_execute (b ∷ benches) = ap (cons_option (executed_if b)) (unsigned_execute benches)

pub all_unsigned : (c : Contents) (history : List Entry) (benches : List BenchState) →
    benches ≡ benches_of c history → AreBenches c history benches
all_unsigned c history benches are = ap (map unsigned) are ∙ map_map unsigned (bench_in c history)
    (numbers_below (actors_in c))

-- The correct masters agree where of any two executions that benches show one begins the other.
pub agree_by_benches : (benches : List BenchState) (said : Bool) (c : Contents) (history : List Entry) →
    said ≡ all_prefixes (filter_map executed_if benches)
    → AreBenches c history benches → said ≡ agrees (setup_of c) history
agree_by_benches benches said c history tells are =
    tells ∙ ap all_prefixes (unsigned_execute benches)
    ∙ ap (λ (bs : List BenchState). all_prefixes (filter_map executed_if bs)) are
    ∙ ap all_prefixes (executed_by_benches c history) ∙ sym (agrees_by_lists (setup_of c) history)

-- So they do in a legal history while the premises hold.
pub agree_by_headline : (benches : List BenchState) (said : Bool) (c : Contents) (history : List Entry) →
    said ≡ all_prefixes (filter_map executed_if benches)
    → AreBenches c history benches → IsScenario c → IsLegal (setup_of c) history →
    Premises (setup_of c) history → said ≡ true
agree_by_headline benches said c history tells are scenario legal premises =
    agree_by_benches benches said c history tells are ∙ (headline_of_legal c history scenario legal premises).yes
