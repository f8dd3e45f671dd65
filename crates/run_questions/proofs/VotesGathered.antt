-- What a refusal says, how a board's votes grow, and what the command gives.
use Rattle.std.proofs.Common.{◌≡◌, ℕ, zero, suc, ◌+◌, ◌<◌, ◌≤◌, Bool, true, false, cond, ◌||◌, List, [], ◌∷◌, ◌++◌}
use Rattle.std.proofs.Common.{Option, Some, None, Result, Err, map, take, length, get_or, min, nat_eq, nat_le, nat_lt}
use Rattle.std.proofs.Common.{refl, sym, ◌∙◌, ap, subst, arith}
use Rattle.std.proofs.lemmas.Bool.{eqb-false, leb-false, ltb-false, lt-ltb, lt-leb, le-ltb, ne_eqb, or_from}
use Rattle.std.proofs.lemmas.List.{length-take, map-append, take_all, take_more}
use Rattle.std.proofs.lemmas.Option.{MatchOption-at_none, get_or_from_slice_get, slice_get-get_or}
use Rattle.std.proofs.lemmas.List.Elements.{filter_map-append}
use Rattle.std.specs.Option.{IfNone, option_map, option_to_list}
use Rattle.std.specs.Result.{IfErr}
use Rattle.std.specs.List.{filter_map, cons_option}
use Rattle.std.specs.declared.vec.Vec.{Vec}
use Rattle.std.specs.declared.alloc.Global.{Global}
use Rattle.message_types.specs.declared.updates.Update.{Update}
use Rattle.point_table.specs.declared.point.Point.{Point}
use Rattle.master_points.specs.declared.plant.Plant.{Plant}
use Rattle.scenario_file.specs.Reading.{Contents}
use Rattle.history_rules.specs.Events.{Entry}
use Rattle.world_rules.specs.Scenarios.{masters_in}
use Rattle.trend_archive.specs.declared.answer.TrendAnswer.{TrendAnswer}
use Rattle.trend_archive.specs.declared.answer.TrendAnswer.TheVariants as answer
use Rattle.trend_archive.specs.declared.board.Vote.{Vote}
use Rattle.trend_archive.specs.Boards.{Tally, shown}
use Rattle.trend_archive.specs.Trends.{Archive, IsTrend, refusal}
use Rattle.run_questions.specs.declared.trend.fault.TrendRefusal.{TrendRefusal}
use Rattle.run_questions.specs.declared.trend.fault.TrendRefusal.TheVariants as fault
use Rattle.run_questions.specs.TrendAnswers.{Gives, executed_by_more, fault_of, printed, trend_in, unless_refused, votes_in}
use Rattle.plain_lists.proofs.Lists.{one_listed}

abbrev refusal_by : (count : ℕ) → (no_point zero_first bad none_reached : Bool) → Option TrendAnswer
refusal_by count no_point zero_first bad far =
    cond no_point (Some answer.NoPoint)
    (cond (zero_first || bad) (Some answer.BadRange) (cond far (Some (answer.NotReached count)) None))

-- a question that isn't refused
pub record IsAnswered (points count p first last : ℕ) : Type 0 where
  pub there : p < points
  pub some : 1 ≤ first
  pub range : first ≤ last
  pub reached : last ≤ count

above_zero : (n : ℕ) → (n ≡ 0 → ⊥) → 1 ≤ n
above_zero zero h = absurd (h refl)
above_zero (suc n) h = omega arith

pub answered_parts : (points count p first last : ℕ) → refusal points count p first last ≡ None →
    IsAnswered points count p first last
answered_parts points count p first last h = by (nat_le points p) (nat_eq first 0) (nat_lt last first)
    (nat_lt count last) refl refl refl refl h
  where
    by : (a b c d : Bool) → nat_le points p ≡ a → nat_eq first 0 ≡ b → nat_lt last first ≡ c → nat_lt count last ≡ d →
        refusal_by count a b c d ≡ None
        → IsAnswered points count p first last
    by true b c d at none_first bad far none = absurd (cc)
    by false true c d at none_first bad far none = absurd (cc)
    by false false true d at none_first bad far none = absurd (cc)
    by false false false true at none_first bad far none = absurd (cc)
    by false false false false at none_first bad far none = record {
      there = leb-false points p at;
      some = above_zero first (eqb-false first 0 none_first);
      range = ltb-false last first bad;
      reached = ltb-false count last far;
    }

in_range : (first last : ℕ) → 1 ≤ first → first ≤ last → (nat_eq first 0 || nat_lt last first) ≡ false
in_range first last some range =
    or_from (nat_eq first 0) (nat_lt last first) (ne_eqb first 0 (λ none_first. absurd (omega arith)))
    (le-ltb last first range)

by_number : (points count p first last : ℕ) → p < points → 1 ≤ first → first ≤ last
    → refusal points count p first last ≡ cond (nat_lt count last) (Some (answer.NotReached count)) None
by_number points count p first last there some range =
    ap (λ (b : Bool). cond b (Some answer.NoPoint) (cond (nat_eq first 0 || nat_lt last first) (Some answer.BadRange)
    (cond (nat_lt count last) (Some (answer.NotReached count)) None)))
    (lt-leb points p there)
    ∙ ap (λ (b : Bool). cond b (Some answer.BadRange)
    (cond (nat_lt count last) (Some (answer.NotReached count)) None)) (in_range first last some range)

-- one that is about a point that is there and a range is answered where so many updates were executed
pub answered_where : (points count p first last : ℕ) → p < points → 1 ≤ first → first ≤ last → last ≤ count →
    refusal points count p first last ≡ None
answered_where points count p first last there some range far =
    by_number points count p first last there some range
    ∙ ap (λ (b : Bool). cond b (Some (answer.NotReached count)) None) (le-ltb count last far)

pub not_reached_where : (points count p first last : ℕ) → p < points → 1 ≤ first → first ≤ last → count < last →
    refusal points count p first last ≡ Some (answer.NotReached count)
not_reached_where points count p first last there some range few =
    by_number points count p first last there some range
    ∙ ap (λ (b : Bool). cond b (Some (answer.NotReached count)) None) (lt-ltb count last few)

-- one more of what is shown
pub shown_more : {X Y : Type 0} (show : X → Option Y) (xs : List X) (i : ℕ) (x : X) → i < length xs → x ≡ get_or xs i x
    → filter_map show (take (i + 1) xs) ≡ filter_map show (take i xs) ++ option_to_list (show x)
shown_more {X} {Y} show xs i x below is =
    ap (filter_map show) (take_more xs i x below)
    ∙ filter_map-append show (take i xs) (get_or xs i x ∷ [])
    ∙ ap (λ (z : X). filter_map show (take i xs) ++ cons_option (show z) []) (sym is)
    ∙ ap (λ (ys : List Y). filter_map show (take i xs) ++ ys) (one_listed (show x))

map_option : {X Y : Type 0} (f : X → Y) (o : Option X) → map f (option_to_list o) ≡ option_to_list (option_map f o)
map_option f None = refl
map_option f (Some x) = refl

-- the same of numbers that are counted
pub counts_more : {X Z : Type 0} (show : X → Option (List Z)) (xs : List X) (i : ℕ) (x : X)
    (shown : Option (List Z)) (old new : List ℕ)
    → i < length xs → x ≡ get_or xs i x → old ≡ map length (filter_map show (take i xs)) → shown ≡ show x →
    new ≡ old ++ option_to_list (option_map length shown)
    → new ≡ map length (filter_map show (take (i + 1) xs))
counts_more {X} {Z} show xs i x shown old new below is so_far seen next =
    next ∙ ap (λ (ns : List ℕ). ns ++ option_to_list (option_map length shown)) so_far
    ∙ ap (λ (o : Option (List Z)). map length (filter_map show (take i xs)) ++ option_to_list (option_map length o))
    seen
    ∙ ap (λ (ns : List ℕ). map length (filter_map show (take i xs)) ++ ns) (sym (map_option length (show x)))
    ∙ sym (map-append length (filter_map show (take i xs)) (option_to_list (show x)))
    ∙ ap (map length) (sym (shown_more show xs i x below is))

abbrev pub with_votes : (n f : ℕ) → List Vote → Tally
with_votes n f votes = record { n = n; f = f; votes = votes }

-- and of votes
pub votes_more : {X : Type 0} (show : X → Option Vote) (xs : List X) (i : ℕ) (x : X) (n f : ℕ)
    (old new : Tally) (vote : Option Vote)
    → i < length xs → x ≡ get_or xs i x → old ≡ with_votes n f (filter_map show (take i xs)) → vote ≡ show x
    → new ≡ record old { votes = old.votes ++ option_to_list vote } →
    new ≡ with_votes n f (filter_map show (take (i + 1) xs))
votes_more {X} show xs i x n f old new vote below is so_far seen next =
    next ∙ ap (λ (t : Tally). with_votes t.n t.f (t.votes ++ option_to_list vote)) so_far
    ∙ ap (λ (o : Option Vote). with_votes n f (filter_map show (take i xs) ++ option_to_list o)) seen
    ∙ ap (with_votes n f) (sym (shown_more show xs i x below is))

-- a fault that the definition has
pub gives_fault : (told : Result (List ℕ) TrendRefusal) (why : TrendRefusal) → told ≡ Err why → Gives told (Err why)
gives_fault told fault.NoPoint h = h
gives_fault told fault.BadRange h = h
gives_fault told (fault.NotReached executed) h = h
gives_fault told fault.NoMatch h = h
gives_fault told fault.Want h = tt

pub gives_same : (told other : Result (List ℕ) TrendRefusal) (result : Result (Vec ℕ Global) TrendRefusal) →
    told ≡ other → Gives other result → Gives told result
gives_same told other result same h = subst (λ (t : Result (List ℕ) TrendRefusal). Gives t result) (sym same) h

-- one update more is taken
trend_more : (plant : Plant) (executed : List Update) (i : ℕ) (u : Update) (old new : Archive) → i < length executed →
    u ≡ get_or executed i u
    → ((p : Plant) (s : ℕ) (us : List Update) → IsTrend p s us old → IsTrend p s (us ++ u ∷ []) new)
    → ((s : ℕ) → IsTrend plant s (take i executed) old) → (s : ℕ) → IsTrend plant s (take (i + 1) executed) new
trend_more plant executed i u old new below is step before = λ s.
    subst (λ (us : List Update). IsTrend plant s us new)
    (sym (take_more executed i u below ∙ ap (λ (x : Update). take i executed ++ x ∷ []) (sym is)))
    (step plant s (take i executed) (before s))

-- the same where the update is told as the one at its place
pub trend_more-at : (plant : Plant) (executed : List Update) (i : ℕ) (d : Update) (old new : Archive) →
    i < length executed
    → ((p : Plant) (s : ℕ) (us : List Update) → IsTrend p s us old → IsTrend p s (us ++ get_or executed i d ∷ []) new)
    → ((s : ℕ) → IsTrend plant s (take i executed) old) → (s : ℕ) → IsTrend plant s (take (i + 1) executed) new
trend_more-at plant executed i d old new below step before =
    trend_more plant executed i (get_or executed i d) old new below
    (sym (get_or_from_slice_get executed i (get_or executed i d) (get_or executed i d)
    (slice_get-get_or executed i d below))) step before

pub trend_whole : (plant : Plant) (executed : List Update) (i : ℕ) (t : Archive) → length executed ≤ i →
    ((s : ℕ) → IsTrend plant s (take i executed) t) → (s : ℕ) → IsTrend plant s executed t
trend_whole plant executed i t past is = λ s. subst (λ (us : List Update). IsTrend plant s us t)
    (take_all i executed past) (is s)

pub trend_count : (plant : Plant) (executed : List Update) (i : ℕ) (t : Archive) → i < length executed →
    ((s : ℕ) → IsTrend plant s (take i executed) t) → t.count ≡ i
trend_count plant executed i t below is =
    let size : length (take i executed) ≡ min i (length executed) = length-take i executed in
    let count : t.count ≡ length (take i executed) = (is 0).count in
    omega arith

-- where a trend isn't asked beyond its updates, only memory can be wanting
pub only_want : {X : Type 0} (plant : Plant) (screens : ℕ) (executed : List Update) (t : Archive) (p first last : ℕ)
    (r : Result X TrendAnswer) → IsTrend plant screens executed t
    → refusal (length plant.points) (length executed) p first last ≡ None
    → IfNone (refusal (length t.points) t.count p first last) (IfErr r (λ why. why ≡ answer.Want)) →
    IfErr r (λ why. why ≡ answer.Want)
only_want plant screens executed t p first last r is none h =
    MatchOption-at_none (IfErr r (λ why. why ≡ answer.Want)) (λ _. Unit {0})
    (ap (λ (ps : List Point). refusal (length ps) t.count p first last) is.points
    ∙ ap (λ (n : ℕ). refusal (length plant.points) n p first last) is.count ∙ none) h

-- a refusal of a question is the definition's
pub refused_is : (c : Contents) (history : List Entry) (p first last count : ℕ) (why : TrendAnswer) →
    count ≡ executed_by_more c history
    → refusal (length c.plant.points) count p first last ≡ Some why →
    trend_in c history p first last ≡ Err (fault_of why)
unfolding trend_in
refused_is c history p first last count why is h =
    ap (λ (o : Option TrendAnswer). unless_refused o
    (printed (shown (masters_in c) c.settings.f (votes_in c history p first last))))
    (ap (λ (n : ℕ). refusal (length c.plant.points) n p first last) (sym is) ∙ h)

-- one that isn't refused is answered by the votes
pub answered_is : (c : Contents) (history : List Entry) (p first last count : ℕ) (t : Tally) →
    count ≡ executed_by_more c history
    → refusal (length c.plant.points) count p first last ≡ None →
    t ≡ with_votes (masters_in c) c.settings.f (votes_in c history p first last)
    → trend_in c history p first last ≡ printed (shown t.n t.f t.votes)
unfolding trend_in
answered_is c history p first last count t is h tallied =
    ap (λ (o : Option TrendAnswer). unless_refused o
    (printed (shown (masters_in c) c.settings.f (votes_in c history p first last))))
    (ap (λ (n : ℕ). refusal (length c.plant.points) n p first last) (sym is) ∙ h)
    ∙ ap (λ (x : Tally). printed (shown x.n x.f x.votes)) (sym tallied)
