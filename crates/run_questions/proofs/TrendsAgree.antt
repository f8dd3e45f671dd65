-- The laws of the trends of a history.
use Rattle.std.proofs.Common.{◌≡◌, ℕ, ◌+◌, ◌<◌, ◌≤◌, Bool, true, ◌&&◌, List, [], ◌∷◌, Option, Some, None, Result, Ok}
use Rattle.std.proofs.Common.{Err, filter, length, map, nat_eq, nat_le, refl, sym, ◌∙◌, ap, inl, inr, arith}
use Rattle.std.proofs.lemmas.Bool.{and_parts, cases_lt, leb-true}
use Rattle.plain_lists.specs.Lists.{IsIn, here, Begins}
use Rattle.plain_lists.proofs.Members.{any_from, any_in, in_filter, in_filter_from, in_map, in_map_from}
use Rattle.quorum_sets.specs.Masters.{numbers_below, voters}
use Rattle.message_types.specs.declared.updates.Update.{Update}
use Rattle.protocol_rules.specs.Group.{Group}
use Rattle.scenario_file.specs.Reading.{Contents}
use Rattle.history_rules.specs.Events.{Entry}
use Rattle.history_rules.specs.Setup.{is_correct_master}
use Rattle.history_rules.specs.Legal.{executions}
use Rattle.world_rules.specs.Scenarios.{setup_of, masters_in}
use Rattle.world_rules.proofs.Fields.{group_is}
use Rattle.world_rules.proofs.Headline.{headline_of_legal}
use Rattle.trend_archive.specs.declared.answer.TrendAnswer.{TrendAnswer}
use Rattle.trend_archive.specs.declared.answer.TrendAnswer.TheVariants as answer
use Rattle.trend_archive.specs.declared.board.Vote.{Vote}
use Rattle.trend_archive.specs.declared.change.Changes.{Changes}
use Rattle.trend_archive.specs.Boards.{has_vote, is_vote, same_changes, shown, supporters}
use Rattle.trend_archive.specs.Trends.{changes, refusal}
use Rattle.trend_archive.proofs.BoardLaws.{same_changes-true, voted}
use Rattle.trend_archive.proofs.ShownLaws.{shown-is_supported, shown-where_supported}
use Rattle.trend_archive.proofs.TrendLaws.{earlier-stays, same_question}
use Rattle.run_questions.specs.declared.trend.fault.TrendRefusal.TheVariants as fault
use Rattle.run_questions.specs.TrendText.{changes_text}
use Rattle.run_questions.specs.TrendAnswers.{changes_by, changes_of, correct_masters, counts_in, executed_by_more, fault_of}
use Rattle.run_questions.specs.TrendAnswers.{printed, reaching, trend_in, unless_refused, vote_by, votes_in}
use Rattle.run_questions.specs.TrendLaws.{AlwaysMatches, IsHeadlined, IsNotReachedWhereFew, PrintsTheChangesOfAll}
use Rattle.run_questions.specs.TrendLaws.{PrintsTheChangesOfOne, Reaches}
use Rattle.run_questions.proofs.FilteredBoth.{filter_both, filter_fewer, length-filter_map}
use Rattle.run_questions.proofs.GreatestReached.{reached-down, reached-up}
use Rattle.run_questions.proofs.VotesGathered.{answered_parts, answered_where, not_reached_where}

-- why the definition has an answer, or that none matches
same_ok : {X E : Type 0} {x y : X} → ◌≡◌ {A = Result X E} (Ok x) (Ok y) → x ≡ y
same_ok same = cc

record IsPrinted (refused : Option TrendAnswer) (found : Option Changes) (text : List ℕ) : Type 0 where
  answered : refused ≡ None
  shown_is : (a : Changes) × (found ≡ Some a) × (text ≡ changes_text a)

printed_parts : (refused : Option TrendAnswer) (found : Option Changes) (text : List ℕ) →
    unless_refused refused (printed found) ≡ Ok text → IsPrinted refused found text
printed_parts (Some why) found text h = absurd (cc)
printed_parts None None text h = absurd (cc)
printed_parts None (Some a) text h = record { answered = refl; shown_is = (a, refl, sym (same_ok h)) }

no_fault : (why : TrendAnswer) → fault_of why ≡ fault.NoMatch → ⊥
no_fault answer.NoPoint h = absurd (cc)
no_fault answer.BadRange h = absurd (cc)
no_fault (answer.NotReached executed) h = absurd (cc)
no_fault answer.Want h = absurd (cc)

same_err : {X E : Type 0} {x y : E} → ◌≡◌ {A = Result X E} (Err x) (Err y) → x ≡ y
same_err same = cc

unmatched_parts : (refused : Option TrendAnswer) (found : Option Changes) →
    unless_refused refused (printed found) ≡ Err fault.NoMatch → (refused ≡ None) × (found ≡ None)
unmatched_parts (Some why) found h = absurd (no_fault why (same_err h))
unmatched_parts None None h = (refl, refl)
unmatched_parts None (Some a) h = absurd (cc)

never_not_reached : (found : Option Changes) (executed : ℕ) → printed found ≡ Err (fault.NotReached executed) → ⊥
never_not_reached None executed h = absurd (cc)
never_not_reached (Some a) executed h = absurd (cc)

-- the masters that executed so far, and how many they are
reaching_is : (c : Contents) (history : List Entry) (last i : ℕ) → IsIn i (reaching (setup_of c) history last) →
    Reaches c history last i
unfolding reaching
reaching_is c history last i h =
    let far = in_filter_from (λ j. nat_le last (length (executions (setup_of c) history j)))
    (correct_masters (setup_of c)) h in
    let master = in_filter_from (is_correct_master (setup_of c)) (numbers_below (setup_of c).group.n) far.0 in
    record { correct = master.1; far = leb-true last (length (executions (setup_of c) history i)) far.1 }

many_reach : (c : Contents) (history : List Entry) (last : ℕ) →
    length (filter (λ y. nat_le last y) (counts_in (setup_of c) history)) ≡ length (reaching (setup_of c) history last)
unfolding reaching
many_reach c history last = length-filter_map (λ i. length (executions (setup_of c) history i)) (λ y. nat_le last y)
    (correct_masters (setup_of c))

more_reach : (c : Contents) (history : List Entry) (last : ℕ) → 1 ≤ last → last ≤ executed_by_more c history →
    c.settings.f < length (reaching (setup_of c) history last)
more_reach c history last some far =
    let enough : c.settings.f + 1 ≤ length (filter (λ y. nat_le last y) (counts_in (setup_of c) history)) =
    reached-up (c.settings.f + 1) last (counts_in (setup_of c) history) some far in
    let same = many_reach c history last in
    omega arith

reached_by_more : (c : Contents) (history : List Entry) (last : ℕ) →
    c.settings.f < length (reaching (setup_of c) history last) → last ≤ executed_by_more c history
reached_by_more c history last more =
    let same = many_reach c history last in
    reached-down (c.settings.f + 1) last (counts_in (setup_of c) history) (omega arith) (omega arith)

one_of : (xs : List ℕ) (f : ℕ) → f < length xs → (x : ℕ) × IsIn x xs
one_of [] f h = absurd (omega arith)
one_of (x ∷ xs) f h = (x, here xs)

-- a vote among the masters' is a master's answer
vote_found : (c : Contents) (history : List Entry) (p first last : ℕ) (a : Changes) (m : ℕ) →
    has_vote (votes_in c history p first last) a m ≡ true
    → (i : ℕ) × Reaches c history last i × (a ≡ changes_by c history p first last i)
unfolding votes_in
vote_found c history p first last a m h =
    let found = any_from (is_vote a m) (map (vote_by c history p first last) (reaching (setup_of c) history last)) h in
    let from = in_map_from (vote_by c history p first last) (reaching (setup_of c) history last) found.1 in
    let same : found.0.changes ≡ a =
    same_changes-true found.0.changes a
    (and_parts (nat_eq found.0.signer m) (same_changes found.0.changes a) found.2).1 in
    (from.0, reaching_is c history last from.0 from.1, sym same ∙ ap (λ (v : Vote). v.changes) from.2)

-- an answer of more than f masters is one's
one_supports : (c : Contents) (history : List Entry) (p first last f : ℕ) (a : Changes) →
    f < length (supporters (masters_in c) (votes_in c history p first last) a)
    → (i : ℕ) × Reaches c history last i × (a ≡ changes_by c history p first last i)
unfolding supporters
one_supports c history p first last f a many =
    let one = one_of (voters (has_vote (votes_in c history p first last) a) (masters_in c)) f many in
    let from = in_filter_from (has_vote (votes_in c history p first last) a) (numbers_below (masters_in c)) one.1 in
    vote_found c history p first last a one.0 from.1

-- executions of which one begins the other give the same answer
begun_same : (c : Contents) (p first last : ℕ) (us vs : List Update) → last ≤ length us → Begins us vs →
    changes_of c p first last vs ≡ changes_of c p first last us
begun_same c p first last us vs far b =
    same_question p first last (changes c.plant c.settings.screens p first last vs)
    (changes c.plant c.settings.screens p first last us)
    (ap (changes c.plant c.settings.screens p first last) b.same
    ∙ earlier-stays c.plant c.settings.screens p first last us b.rest far)

all_same : (c : Contents) (history : List Entry) (p first last i j : ℕ) → IsHeadlined c history →
    Reaches c history last i → Reaches c history last j
    → changes_by c history p first last i ≡ changes_by c history p first last j
all_same c history p first last i j headlined one other =
    elim ((headline_of_legal c history headlined.scenario headlined.legal headlined.premises).prefixes i
    j one.correct other.correct) [
      | inl b ↦ sym (begun_same c p first last (executions (setup_of c) history i)
          (executions (setup_of c) history j) one.far b)
      | inr b ↦ begun_same c p first last (executions (setup_of c) history j)
          (executions (setup_of c) history i) other.far b
    ]

-- a master's own answer is its vote
has_voted : (c : Contents) (history : List Entry) (p first last i : ℕ) (a : Changes) →
    IsIn i (reaching (setup_of c) history last) → changes_by c history p first last i ≡ a
    → has_vote (votes_in c history p first last) a i ≡ true
unfolding votes_in
has_voted c history p first last i a among same =
    any_in (is_vote a i) (in_map (vote_by c history p first last) among)
    (sym (voted true a i (vote_by c history p first last i) refl (λ _. same, λ _. refl)))

supports : (c : Contents) (history : List Entry) (p first last i : ℕ) (a : Changes) →
    IsIn i (numbers_below (setup_of c).group.n)
    → (is_correct_master (setup_of c) i && nat_le last (length (executions (setup_of c) history i))) ≡ true
    → ((j : ℕ) → Reaches c history last j → changes_by c history p first last j ≡ a) →
    has_vote (votes_in c history p first last) a i ≡ true
unfolding reaching
supports c history p first last i a there_is passes same =
    let parts = and_parts (is_correct_master (setup_of c) i)
    (nat_le last (length (executions (setup_of c) history i))) passes in
    let among : IsIn i (reaching (setup_of c) history last) =
    in_filter (λ j. nat_le last (length (executions (setup_of c) history j)))
    (in_filter (is_correct_master (setup_of c)) there_is parts.0) parts.1 in
    has_voted c history p first last i a among (same i (reaching_is c history last i among))

-- where all answer alike, all who executed so far support that answer
all_support : (c : Contents) (history : List Entry) (p first last : ℕ) (a : Changes) →
    ((i : ℕ) → Reaches c history last i → changes_by c history p first last i ≡ a)
    → length (reaching (setup_of c) history last) ≤ length
    (supporters (masters_in c) (votes_in c history p first last) a)
unfolding supporters reaching
all_support c history p first last a same =
    let far : ℕ → Bool = λ i. nat_le last (length (executions (setup_of c) history i)) in
    let correct : ℕ → Bool = is_correct_master (setup_of c) in
    let many : length (filter (λ i. correct i && far i) (numbers_below (setup_of c).group.n)) ≡ length
    (filter far (filter correct (numbers_below (setup_of c).group.n))) =
    ap length (filter_both correct far (numbers_below (setup_of c).group.n)) in
    let size : length (voters (has_vote (votes_in c history p first last) a) (setup_of c).group.n) ≡ length
    (voters (has_vote (votes_in c history p first last) a) (masters_in c)) =
    ap (λ (g : Group). length (voters (has_vote (votes_in c history p first last) a) g.n)) (group_is c) in
    let fewer = filter_fewer (λ i. correct i && far i) (has_vote (votes_in c history p first last) a)
    (numbers_below (setup_of c).group.n) (λ i k h. supports c history p first last i a k h same) in
    omega arith

pub prints_one : PrintsTheChangesOfOne
unfolding trend_in
prints_one c history p first last text h =
    let parts = printed_parts (refusal (length c.plant.points) (executed_by_more c history) p first last)
    (shown (masters_in c) c.settings.f (votes_in c history p first last)) text h in
    let one = one_supports c history p first last c.settings.f parts.shown_is.0
    (shown-is_supported (masters_in c) c.settings.f (votes_in c history p first last)
    parts.shown_is.0 parts.shown_is.1) in
    (one.0, one.1, parts.shown_is.2 ∙ ap changes_text one.2)

pub prints_all : PrintsTheChangesOfAll
prints_all c history p first last text headlined h i reaches =
    let one = prints_one c history p first last text h in
    one.2 ∙ ap changes_text (all_same c history p first last one.0 i headlined one.1 reaches)

pub always_matches : AlwaysMatches
unfolding trend_in
always_matches c history p first last headlined h =
    let parts = unmatched_parts (refusal (length c.plant.points) (executed_by_more c history) p first last)
    (shown (masters_in c) c.settings.f (votes_in c history p first last)) h in
    let answered = answered_parts (length c.plant.points) (executed_by_more c history) p first last parts.0 in
    let from_one : 1 ≤ first = answered.some in
    let range : first ≤ last = answered.range in
    let more : c.settings.f < length (reaching (setup_of c) history last) =
    more_reach c history last (omega arith) answered.reached in
    let one = one_of (reaching (setup_of c) history last) c.settings.f more in
    let all = all_support c history p first last (changes_by c history p first last one.0)
    (λ i reaches. all_same c history p first last i one.0 headlined reaches (reaching_is c history last one.0 one.1)) in
    shown-where_supported (masters_in c) c.settings.f (votes_in c history p first last)
    (changes_by c history p first last one.0) (omega arith) parts.1

-- no more than f executed so far: so it isn't reached
few_refused : (c : Contents) (history : List Entry) (p first last : ℕ) → p < length c.plant.points → 1 ≤ first →
    first ≤ last → length (reaching (setup_of c) history last) ≤ c.settings.f
    → trend_in c history p first last ≡ Err (fault.NotReached (executed_by_more c history))
unfolding trend_in
few_refused c history p first last there_is some range few = elim (cases_lt (executed_by_more c history) last) [
  | inl less ↦ ap (λ (o : Option TrendAnswer). unless_refused o
      (printed (shown (masters_in c) c.settings.f (votes_in c history p first last))))
      (not_reached_where (length c.plant.points) (executed_by_more c history) p first last there_is some range less)
  | inr far ↦ let more = more_reach c history last (omega arith) far in absurd (omega arith)
]

-- more than f did: so it is
more_answered : (c : Contents) (history : List Entry) (p first last executed : ℕ) → p < length c.plant.points →
    1 ≤ first → first ≤ last → c.settings.f < length (reaching (setup_of c) history last)
    → trend_in c history p first last ≡ Err (fault.NotReached executed) → ⊥
unfolding trend_in
more_answered c history p first last executed there_is some range more h =
    let none = answered_where (length c.plant.points) (executed_by_more c history) p first last there_is some range
    (reached_by_more c history last more) in
    never_not_reached (shown (masters_in c) c.settings.f (votes_in c history p first last)) executed
    (sym (ap (λ (o : Option TrendAnswer). unless_refused o
    (printed (shown (masters_in c) c.settings.f (votes_in c history p first last)))) none) ∙ h)

pub not_reached_where_few : IsNotReachedWhereFew
not_reached_where_few c history p first last there_is some range = (
  λ few. (executed_by_more c history, few_refused c history p first last there_is some range few),
  λ refused. elim (cases_lt c.settings.f (length (reaching (setup_of c) history last))) [
    | inl more ↦ absurd (more_answered c history p first last refused.0 there_is some range more refused.1)
    | inr few ↦ few
  ],
)
