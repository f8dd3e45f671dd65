-- The inboxes of a run and their passes, as they are made and split off.
use Rattle.std.proofs.Common.{◌≡◌, ℕ, ◌+◌, ◌<◌, List, [], ◌∷◌, ◌++◌, Some, length, map, get_or, set, All}
use Rattle.std.proofs.Common.{refl, sym, ◌∙◌, ap, subst, append-nil, arith}
use Rattle.std.specs.Prelude.{slice_get, Result, Ok, Err, IfOk}
use Rattle.std.specs.List.{slice_index_or}
use Rattle.std.specs.declared.vec.Vec.{Vec}
use Rattle.std.specs.declared.alloc.Global.{Global}
use Rattle.std.proofs.lemmas.List.{length_push, length-map, length-set, map_push}
use Rattle.std.proofs.lemmas.Option.{none-some, slice_get_read}
use Rattle.plain_lists.specs.declared.want.Want.{Want}
use Rattle.std.proofs.lemmas.List.Elements.{All-push}
use Rattle.world_rules.specs.Scenarios.{actors_in}
use Rattle.station_turns.specs.Turns.{Stationed}
use Rattle.station_turns.specs.Naming.{RunName}
use Rattle.inboxes.specs.declared.inbox.Inbox.{Inbox}
use Rattle.inboxes.specs.declared.pass.InboxPass.{InboxPass}
use Rattle.inboxes.specs.Passes.{IsPassOf}
use Rattle.replica_threads.specs.declared.posted.Posted.{Posted}
use Rattle.replica_threads.specs.declared.shared.Shared.{Shared}
use Rattle.replica_threads.specs.Hands.{IsShared, ArePassesOf}
use Rattle.replica_threads.specs.declared.job.Job.{Job}
use Rattle.replica_threads.specs.Courses.{hands_of, AreJobs, IsCrew, CanTurn, AreAllReady}
use Rattle.replica_threads.proofs.Numbers.{pairs_push, pairs_next, pairs_set}

abbrev Box : Type 0
Box = Inbox Posted

abbrev Pass : Type 0
Pass = InboxPass Posted

abbrev Of : Box → Pass → Type 0
Of inbox pass = IsPassOf inbox pass

-- an inbox and the pass at its place
there : (inboxes : List Box) (place : ℕ) (inbox : Box) → place < length inboxes → inbox ≡ get_or inboxes place inbox →
    slice_get inboxes place ≡ Some inbox
there inboxes place inbox below at = slice_get_read inboxes (length inboxes) place inbox refl below at

pub pass_at : (inboxes : List Box) (passes : List Pass) (place : ℕ) (inbox : Box) (pass : Pass) →
    ArePassesOf inboxes passes → place < length inboxes → inbox ≡ get_or inboxes place inbox
    → pass ≡ get_or passes place pass → IsPassOf inbox pass
pass_at inboxes passes place inbox pass are below at other =
    are.each place inbox pass (there inboxes place inbox below at)
    (slice_get_read passes (length passes) place pass refl (omega (arith, below, are.count)) other)

-- what stands at a place is what was read there
read_there : (inboxes : List Box) (place : ℕ) (inbox found : Box) (pass : Pass) → place < length inboxes →
    inbox ≡ get_or inboxes place inbox → IsPassOf inbox pass
    → slice_get inboxes place ≡ Some found → IsPassOf found pass
read_there inboxes place inbox found pass below at of stands =
    let both : Some inbox ≡ Some found = sym (there inboxes place inbox below at) ∙ stands in
    let same : inbox ≡ found = cc in
    subst (λ (b : Box). IsPassOf b pass) same of

pub pass_changed : (inboxes : List Box) (passes : List Pass) (place : ℕ) (inbox : Box) (new : Pass) →
    ArePassesOf inboxes passes → place < length inboxes → inbox ≡ get_or inboxes place inbox
    → IsPassOf inbox new → ArePassesOf inboxes (set passes place new)
pass_changed inboxes passes place inbox new are below at of = record {
  count = length-set passes place new ∙ are.count;
  each = pairs_set Of inboxes passes place new are.each
      (λ found stands. read_there inboxes place inbox found new below at of stands);
}

pub other_of : (inboxes : List Box) (place : ℕ) (inbox : Box) (K : Pass → Type 0) (result : Result Pass Want) →
    place < length inboxes → inbox ≡ get_or inboxes place inbox
    → IfOk result (λ other. IsPassOf inbox other × K other) →
    IfOk result (λ other. (found : Box) → slice_get inboxes place ≡ Some found → IsPassOf found other)
other_of inboxes place inbox K (Ok other) below at told =
    λ found stands. read_there inboxes place inbox found other below at told.0 stands
other_of inboxes place inbox K (Err want) below at told = told

-- so many inboxes were made, with their passes
pub record AreMade (count : ℕ) (inboxes : List Box) (passes : List Pass) : Type 0 where
  pub many : length inboxes ≡ count
  pub passes_are : ArePassesOf inboxes passes

pub none_made : (inboxes : List Box) (passes : List Pass) → inboxes ≡ [] → passes ≡ [] → AreMade 0 inboxes passes
none_made inboxes passes no_inbox no_pass = record {
  many = ap length no_inbox;
  passes_are = record {
    count = ap length no_pass ∙ sym (ap length no_inbox);
    each = λ place inbox pass at other. absurd
        (none-some inbox (ap (λ (bs : List Box). slice_get bs place) (sym no_inbox) ∙ at));
  };
}

pub one_made : (count : ℕ) (inboxes more : List Box) (passes others : List Pass) (inbox : Box) (pass : Pass) →
    AreMade count inboxes passes → IsPassOf inbox pass
    → more ≡ inboxes ++ inbox ∷ [] → others ≡ passes ++ pass ∷ [] → AreMade (count + 1) more others
one_made count inboxes more passes others inbox pass made of grown longer = record {
  many = ap length grown ∙ length_push inboxes inbox ∙ ap (λ (n : ℕ). n + 1) made.many;
  passes_are = subst (λ (p : List Box × List Pass). ArePassesOf p.0 p.1) (λ i. (sym grown i, sym longer i)) (record {
    count = length_push passes pass ∙ ap (λ (n : ℕ). n + 1) made.passes_are.count ∙ sym (length_push inboxes inbox);
    each = pairs_push Of inboxes passes inbox pass (sym made.passes_are.count) made.passes_are.each of;
  });
}

-- so many passes were split off, one of each of the first inboxes
pub record AreSplit (inboxes : List Box) (count : ℕ) (others : List Pass) : Type 0 where
  pub many : length others ≡ count
  pub each : (place : ℕ) (inbox : Box) (pass : Pass) → slice_get inboxes place ≡ Some inbox →
      slice_get others place ≡ Some pass → IsPassOf inbox pass

pub none_split : (inboxes : List Box) (others : List Pass) → others ≡ [] → AreSplit inboxes 0 others
none_split inboxes others none = record {
  many = ap length none;
  each = λ place inbox pass at other. absurd
      (none-some pass (ap (λ (ps : List Pass). slice_get ps place) (sym none) ∙ other));
}

pub one_split : (inboxes : List Box) (count : ℕ) (others more : List Pass) (pass : Pass) → AreSplit inboxes count others
    → ((inbox : Box) → slice_get inboxes count ≡ Some inbox → IsPassOf inbox pass) → more ≡ others ++ pass ∷ [] →
    AreSplit inboxes (count + 1) more
one_split inboxes count others more pass split of grown = record {
  many = ap length grown ∙ length_push others pass ∙ ap (λ (n : ℕ). n + 1) split.many;
  each = subst (λ (ps : List Pass). (place : ℕ) (inbox : Box) (p : Pass) → slice_get inboxes place ≡ Some inbox →
      slice_get ps place ≡ Some p → IsPassOf inbox p) (sym grown)
      (pairs_next Of inboxes others pass split.each
      (λ inbox at. of inbox (ap (λ (n : ℕ). slice_get inboxes n) (sym split.many) ∙ at)));
}

pub all_split : (inboxes : List Box) (count : ℕ) (others : List Pass) → count ≡ length inboxes →
    AreSplit inboxes count others → ArePassesOf inboxes others
all_split inboxes count others all split = record { count = split.many ∙ all; each = split.each }

-- the hands of an actor, as they are made

pub no_jobs : (inboxes : List Box) (jobs : List Job) → jobs ≡ [] → AreJobs inboxes 0 jobs
no_jobs inboxes jobs none = record {
  many = ap length none;
  passes = subst (λ (js : List Job). All (λ (job : Job). ArePassesOf inboxes job.passes.items) js) (sym none)
      (λ k d inside. absurd (omega (arith, inside)));
}

pub one_job : (inboxes : List Box) (count : ℕ) (jobs more : List Job) (job : Job) → AreJobs inboxes count jobs →
    ArePassesOf inboxes job.passes.items → more ≡ jobs ++ job ∷ [] → AreJobs inboxes (count + 1) more
one_job inboxes count jobs more job before are grown = record {
  many = ap length grown ∙ length_push jobs job ∙ ap (λ (n : ℕ). n + 1) before.many;
  passes = subst (λ (js : List Job). All (λ (j : Job). ArePassesOf inboxes j.passes.items) js) (sym grown)
      (All-push (λ (j : Job). ArePassesOf inboxes j.passes.items) jobs job before.passes are);
}

pub all_jobs : (inboxes : List Box) (made count : ℕ) (jobs : List Job) → made ≡ count → AreJobs inboxes made jobs →
    AreJobs inboxes count jobs
all_jobs inboxes made count jobs all are = subst (λ (n : ℕ). AreJobs inboxes n jobs) all are

-- the stations with their hands

abbrev Crew : Type 0
Crew = Vec Job Global × Stationed

pub no_crews : (inboxes : List Box) (masters hands : ℕ) (crews : List Crew) → crews ≡ [] →
    All (IsCrew inboxes masters hands) crews
no_crews inboxes masters hands crews none = subst (λ (cs : List Crew). All (IsCrew inboxes masters hands) cs) (sym none)
    (λ k d inside. absurd (omega (arith, inside)))

pub one_crew : (inboxes : List Box) (masters hands count actor : ℕ) (crews more : List Crew) (jobs : Vec Job Global)
    (s : Stationed) → All (IsCrew inboxes masters hands) crews → AreJobs inboxes count jobs.items
    → count ≡ hands_of masters hands actor → actor ≡ s.kept.bench.actor → more ≡ crews ++ (jobs, s) ∷ [] →
    All (IsCrew inboxes masters hands) more
one_crew inboxes masters hands count actor crews more jobs s before are many whose grown =
    subst (λ (cs : List Crew). All (IsCrew inboxes masters hands) cs) (sym grown)
    (All-push (IsCrew inboxes masters hands) crews (jobs, s) before
    (subst (λ (n : ℕ). AreJobs inboxes n jobs.items) (many ∙ ap (hands_of masters hands) whose) are))

pub crews_same : (crews more : List Crew) (stations : List Stationed) (jobs : Vec Job Global) (s : Stationed) →
    map (λ crew. crew.1) crews ≡ stations → more ≡ crews ++ (jobs, s) ∷ [] →
    map (λ crew. crew.1) more ≡ stations ++ s ∷ []
crews_same crews more stations jobs s same grown =
    ap (map (λ (crew : Crew). crew.1)) grown
    ∙ map_push (λ (crew : Crew). crew.1) crews (jobs, s)
    ∙ ap (λ (ss : List Stationed). ss ++ s ∷ []) same

pub crews_whole : (all done left : List Stationed) (crews : List Crew) → done ++ left ≡ all → length left ≡ 0 →
    map (λ crew. crew.1) crews ≡ done → map (λ crew. crew.1) crews ≡ all
crews_whole all done left crews whole none same =
    same ∙ sym (append-nil done) ∙ ap (λ (ss : List Stationed). done ++ ss) (sym (length_none left none)) ∙ whole
  where
    length_none : (xs : List Stationed) → length xs ≡ 0 → xs ≡ []
    length_none [] is = refl
    length_none (x ∷ xs) is = absurd (omega (arith, is))

pub crews_many : (stations : List Stationed) (crews : List Crew) → map (λ crew. crew.1) crews ≡ stations →
    length crews ≡ length stations
crews_many stations crews same = sym (length-map crews (λ (crew : Crew). crew.1)) ∙ ap length same

-- All hands can make their turns.

pub all_ready : (name : RunName) (shared : Shared) (masters hands : ℕ) (crews : List Crew) → IsShared name shared →
    All (IsCrew shared.inboxes.now masters hands) crews → AreAllReady name shared crews
all_ready name shared masters hands crews shares each =
    λ k d inside. record { shares = shares; passes = (each k d inside).passes }

pub can_hand : (name : RunName) (shared : Shared) (actor whose : ℕ) (jobs : List Job) → CanTurn name shared jobs →
    actor ≡ whose → actor < actors_in name.scenario
    → (i : ℕ) (x : Job) → i < length jobs → x ≡ slice_index_or jobs i x →
    IsShared name shared × (actor ≡ whose) × (actor < actors_in name.scenario)
    × ArePassesOf shared.inboxes.now x.passes.items
can_hand name shared actor whose jobs can is there i x inside at = (
  can.shares,
  is,
  there,
  subst (λ (job : Job). ArePassesOf shared.inboxes.now job.passes.items) (sym at) (can.passes i x inside),
)

pub can_turn : (name : RunName) (shared : Shared) (crews : List Crew) → AreAllReady name shared crews
    → (i : ℕ) (x : Crew) → i < length crews → x ≡ slice_index_or crews i x → CanTurn name shared x.0.items
can_turn name shared crews all i x inside at =
    subst (λ (crew : Crew). CanTurn name shared crew.0.items) (sym at) (all i x inside)
