-- What the benches of a history show, by the history's own lists.
use Rattle.std.proofs.Common.{◌≡◌, ℕ, ◌+◌, ◌<◌, Bool, true, false, cond, ◌&&◌, ◌||◌, not, List, [], ◌∷◌, Option, Some}
use Rattle.std.proofs.Common.{None, map, filter, length, nat_le, refl, sym, ◌∙◌, ap, subst, arith}
use Rattle.std.specs.Option.{IfSome}
use Rattle.std.proofs.lemmas.Bool.{ltb-true, and_parts}
use Rattle.std.proofs.lemmas.Option.{IfSome_then}
use Rattle.std.proofs.lemmas.List.Elements.{All-nil, All-cons}
use Rattle.std.specs.List.{All, filter_map, cons_option}
use Rattle.quorum_sets.specs.Masters.{numbers_below, voters}
use Rattle.message_types.specs.declared.updates.Update.{Update}
use Rattle.protocol_rules.specs.Group.{Group}
use Rattle.protocol_rules.specs.Words.{greatest_reached}
use Rattle.scenario_file.specs.Reading.{Contents}
use Rattle.history_rules.specs.Events.{Entry}
use Rattle.history_rules.specs.Setup.{is_correct_master}
use Rattle.history_rules.specs.Legal.{executions, executions_in}
use Rattle.world_rules.specs.Scenarios.{setup_of, group_in, masters_in, actors_in}
use Rattle.world_rules.proofs.Fields.{group_is}
use Rattle.world_history.specs.State.{BenchState, executed_if}
use Rattle.world_history.specs.Benches.{bench_in, unsigned, AreBenches}
use Rattle.trend_archive.specs.declared.board.Vote.{Vote}
use Rattle.trend_archive.specs.Boards.{Tally}
use Rattle.run_questions.specs.TrendAnswers.{changes_of, correct_masters, counts_in, executed_by_more}
use Rattle.run_questions.specs.TrendAnswers.{reaching, vote_at_end, vote_by, vote_of, votes_in}
use Rattle.run_questions.proofs.VotesGathered.{with_votes}
use Rattle.run_questions.proofs.FilteredBoth.{filter_both}
use Rattle.quorum_sets.proofs.Numbered.{voters_up_to}
use Rattle.agreement.proofs.Places.{tails_same, heads_same}
use Rattle.plain_lists.proofs.Lists.{map_map}
use Rattle.world_history.proofs.AuditAsks.{no_master, shown_passing}

-- no client is a correct master
masters_alone : (c : Contents) → voters (is_correct_master (setup_of c)) (actors_in c) ≡ correct_masters (setup_of c)
masters_alone c =
    ap (λ (g : Group). voters (is_correct_master (setup_of c)) (g.n + (group_in c).clients)) (sym (group_is c))
    ∙ voters_up_to (is_correct_master (setup_of c)) (setup_of c).group.n (group_in c).clients (no_master (setup_of c))

-- words signed outside a list change nothing of what is shown
unsigned_show : {Z : Type 0} (show : BenchState → Option Z) → ((b : BenchState) → show b ≡ show (unsigned b)) →
    (benches : List BenchState)
    → filter_map show benches ≡ filter_map show (map unsigned benches)
unsigned_show show same [] = refl
unsigned_show {Z} show same (b ∷ benches) =
    ap (λ (o : Option Z). cons_option o (filter_map show benches)) (same b)
    ∙ ap (λ (zs : List Z). cons_option (show (unsigned b)) zs) (unsigned_show show same benches)

executed_by : (c : Contents) (history : List Entry) (benches : List BenchState) → AreBenches c history benches
    → filter_map executed_if benches ≡ map (executions (setup_of c) history) (correct_masters (setup_of c))
executed_by c history benches are =
    unsigned_show executed_if (λ b. refl) benches ∙ ap (filter_map executed_if) are
    ∙ shown_passing (is_correct_master (setup_of c)) (bench_in c history) executed_if
    (executions (setup_of c) history) (λ a. refl) (numbers_below (actors_in c))
    ∙ ap (map (executions (setup_of c) history)) (masters_alone c)

-- how many updates each correct master executed
counts_are : (c : Contents) (history : List Entry) (benches : List BenchState) → AreBenches c history benches
    → map length (filter_map executed_if benches) ≡ counts_in (setup_of c) history
counts_are c history benches are =
    ap (map length) (executed_by c history benches are) ∙ map_map length (executions (setup_of c) history)
    (correct_masters (setup_of c))

some_or_none : (far : Bool) (vote : Vote) → cond far (Some vote) None ≡ cond (not far) None (Some vote)
some_or_none true vote = refl
some_or_none false vote = refl

one_vote : (correct : Bool) (c : Contents) (p first last actor : ℕ) (us : List Update) →
    vote_at_end c p first last actor (cond (not correct) None (Some us))
    ≡ cond (not (correct && nat_le last (length us))) None
    (Some (record { signer = actor; changes = changes_of c p first last us }))
one_vote true c p first last actor us =
    some_or_none (nat_le last (length us)) (record { signer = actor; changes = changes_of c p first last us })
one_vote false c p first last actor us = refl

-- the votes of those that executed so far
votes_are : (c : Contents) (history : List Entry) (p first last : ℕ) (benches : List BenchState) →
    AreBenches c history benches
    → filter_map (vote_of c p first last) benches ≡ votes_in c history p first last
unfolding votes_in reaching
votes_are c history p first last benches are =
    let far : ℕ → Bool = λ i. nat_le last (length (executions (setup_of c) history i)) in
    unsigned_show (vote_of c p first last) (λ b. refl) benches ∙ ap (filter_map (vote_of c p first last)) are
    ∙ shown_passing (λ i. is_correct_master (setup_of c) i && far i) (bench_in c history) (vote_of c p first last)
    (vote_by c history p first last)
    (λ i. one_vote (is_correct_master (setup_of c) i) c p first last i (executions (setup_of c) history i))
    (numbers_below (actors_in c))
    ∙ ap (map (vote_by c history p first last))
    (filter_both (is_correct_master (setup_of c)) far (numbers_below (actors_in c)) ∙ ap (filter far) (masters_alone c))

worlds_among : (c : Contents) (history : List Entry) (benches : List BenchState) (actors : List ℕ) →
    map unsigned benches ≡ map (bench_in c history) actors → All (λ b. b.world ≡ c) benches
worlds_among c history [] actors same = All-nil (λ (b : BenchState). b.world ≡ c)
worlds_among c history (b ∷ benches) [] same = absurd (cc)
worlds_among c history (b ∷ benches) (a ∷ actors) same =
    All-cons (λ (b : BenchState). b.world ≡ c) b benches (ap (λ (b : BenchState). b.world) (heads_same same))
    (worlds_among c history benches actors (tails_same same))

-- the benches of a scenario's history are of the scenario
pub worlds_are : (c : Contents) (history : List Entry) (benches : List BenchState) → AreBenches c history benches →
    All (λ b. b.world ≡ c) benches
worlds_are c history benches are = worlds_among c history benches (numbers_below (actors_in c)) are

-- one that shows executions is a master's
master_shows : (c : Contents) (b : BenchState) (shown : Option (List Update)) → b.world ≡ c → shown ≡ executed_if b →
    IfSome shown (λ us. b.actor < masters_in c)
master_shows c b shown of is = by b.is_spent (is_correct_master (setup_of b.world) b.actor) shown refl is
  where
    low : is_correct_master (setup_of b.world) b.actor ≡ true → b.actor < masters_in c
    low correct =
        subst (λ (x : Contents). b.actor < masters_in x) of (subst (λ (g : Group). b.actor < g.n) (group_is b.world)
        (ltb-true b.actor (setup_of b.world).group.n (and_parts _ _ correct).0))

    by : (spent correct : Bool) (o : Option (List Update)) → is_correct_master (setup_of b.world) b.actor ≡ correct
        → o ≡ cond (spent || not correct) None (Some (executions_in (setup_of b.world) b.actor b.list)) →
        IfSome o (λ us. b.actor < masters_in c)
    by true correct o e is = subst (λ (x : Option (List Update)). IfSome x (λ us. b.actor < masters_in c)) (sym is) tt
    by false true o e is = subst (λ (x : Option (List Update)). IfSome x (λ us. b.actor < masters_in c))
        (sym is) (low e)
    by false false o e is = subst (λ (x : Option (List Update)). IfSome x (λ us. b.actor < masters_in c)) (sym is) tt

-- a board with the votes of all benches has those of the masters
pub tallied : (c : Contents) (history : List Entry) (p first last n : ℕ) (benches : List BenchState) (t : Tally) →
    n ≡ masters_in c → AreBenches c history benches
    → t ≡ with_votes n c.settings.f (filter_map (vote_of c p first last) benches) →
    t ≡ with_votes (masters_in c) c.settings.f (votes_in c history p first last)
tallied c history p first last n benches t size are is =
    is ∙ ap (λ (k : ℕ). with_votes k c.settings.f (filter_map (vote_of c p first last) benches)) size
    ∙ ap (with_votes (masters_in c) c.settings.f) (votes_are c history p first last benches are)

-- the count of the benches is the history's
pub count_is : (c : Contents) (history : List Entry) (benches : List BenchState) (count : ℕ) →
    AreBenches c history benches
    → count ≡ greatest_reached (c.settings.f + 1) (map length (filter_map executed_if benches)) →
    count ≡ executed_by_more c history
count_is c history benches count are is =
    is ∙ ap (greatest_reached (c.settings.f + 1)) (counts_are c history benches are)

-- so the actor of a bench that shows executions can be asked
pub may_be_asked : (c : Contents) (b : BenchState) (shown : Option (List Update)) (actor n : ℕ) → b.world ≡ c →
    shown ≡ executed_if b → actor ≡ b.actor → n ≡ masters_in c
    → IfSome shown (λ us. actor < n)
may_be_asked c b shown actor n of is here size =
    IfSome_then shown {P = λ us. b.actor < masters_in c} {Q = λ us. actor < n} (master_shows c b shown of is)
    (λ us low. omega arith)

-- what an actor's bench shows is its vote
pub vote_is : (c : Contents) (p first last actor : ℕ) (b : BenchState) (shown : Option (List Update)) →
    actor ≡ b.actor → shown ≡ executed_if b
    → vote_at_end c p first last actor shown ≡ vote_of c p first last b
vote_is c p first last actor b shown here is =
    ap (λ (a : ℕ). vote_at_end c p first last a shown) here ∙ ap (vote_at_end c p first last b.actor) is
