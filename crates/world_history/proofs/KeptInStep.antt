-- What is seen of an actor with its keeper: whether it is halted, and that the two go together after each call.
use Rattle.std.proofs.Common.{◌≡◌, ℕ, ◌+◌, ◌<◌, Bool, true, false, cond, ◌&&◌, not, List, [], ◌∷◌, ◌++◌, length}
use Rattle.std.proofs.Common.{nat_lt, refl, sym, ◌∙◌, ap, subst}
use Rattle.std.specs.Prelude.{Option, Some, None, unwrap_or}
use Rattle.std.specs.declared.vec.Vec.{Vec}
use Rattle.std.specs.declared.alloc.Global.{Global}
use Rattle.std.proofs.lemmas.Bool.{false≢true, true≢false, lt-ltb}
use Rattle.message_types.specs.declared.signed.Signed.{Signed}
use Rattle.message_types.specs.declared.body.Body.{Body}
use Rattle.outside.specs.Keepers.{Binder}
use Rattle.play_words.specs.declared.words.Word.{Word}
use Rattle.protocol_rules.specs.Group.{Group}
use Rattle.scenario_file.specs.Reading.{Contents}
use Rattle.history_rules.specs.Events.{Event, Took, Tick, Command, Field, Poll, Cry, Skip, Restart, is_restart}
use Rattle.history_rules.specs.Keeping.{keeper_calls}
use Rattle.history_rules.specs.Setup.{is_correct}
use Rattle.world_rules.specs.Scenarios.{setup_of, masters_in}
use Rattle.world_rules.proofs.Fields.{group_is}
use Rattle.world_history.specs.State.{BenchState, setup_in, entry_at, with_entry, frames_said, word_body, with_word}
use Rattle.world_history.specs.State.{after_word}
use Rattle.world_history.specs.Lists.{frames_of_last}
use Rattle.world_history.specs.Keeping.{fails_within}
use Rattle.world_history.specs.KeptState.{KeptState, HasNone, Keeps, halted_in, is_kept, frames_kept, posted}
use Rattle.world_history.proofs.KeptGrows.{CanCome, restarts_are_correct, frames_going}

abbrev pub made : BenchState → Option Binder → Bool → KeptState
made b k spent = record { bench = b; keeper = k; is_spent = spent }

none_fails : (failing : List ℕ) (many : ℕ) → failing ≡ [] → fails_within failing many ≡ false
none_fails failing many none = ap (λ (fs : List ℕ). fails_within fs many) none

-- what the actor has noted is so
pub halt_is : (b : BenchState) (k : Option Binder) (halted : Bool) → Keeps b k halted → halted ≡ halted_in b
halt_is b (Some k) halted keeps = keeps.agrees
halt_is b None halted keeps =
    keeps.running ∙ sym (none_fails ((setup_in b).failing b.actor) (length (keeper_calls b.list)) keeps.failing)

pub running_is : (b : BenchState) (k : Option Binder) (halted : Bool) → Keeps b k halted →
    halted_in b ≡ false → Keeps b k false
running_is b k halted keeps running = subst (Keeps b k) (halt_is b k halted keeps ∙ running) keeps

pub keeps_seen : (b : BenchState) (k : Option Binder) (halted spent : Bool) (now : KeptState) → made b k spent ≡ now →
    (spent ≡ false → Keeps b k halted)
    → now.is_spent ≡ false → Keeps now.bench now.keeper (halted_in now.bench)
keeps_seen b k halted spent now is together =
    subst (λ (x : KeptState). x.is_spent ≡ false → Keeps x.bench x.keeper (halted_in x.bench)) is
    (λ works. let keeps = together works in subst (Keeps b k) (halt_is b k halted keeps) keeps)

pub halt_seen : (b : BenchState) (k : Option Binder) (halted spent : Bool) (now : KeptState) → made b k spent ≡ now →
    (spent ≡ false → Keeps b k halted)
    → now.is_spent ≡ false → halted ≡ halted_in now.bench
halt_seen b k halted spent now is together =
    subst (λ (x : KeptState). x.is_spent ≡ false → halted ≡ halted_in x.bench) is
    (λ works. halt_is b k halted (together works))

-- an actor that works and isn't halted
pub goes_on : (b : BenchState) (k : Option Binder) (halted spent : Bool) (now : KeptState) → made b k spent ≡ now →
    (spent ≡ false → Keeps b k halted)
    → spent ≡ false → halted_in now.bench ≡ false → Keeps b k false
goes_on b k halted spent now is together works running =
    running_is b k halted (together works) (ap (λ (x : KeptState). halted_in x.bench) is ∙ running)

-- an intruded master's word changes nothing that the two go by
after_by : (b : BenchState) (halted : Bool) (said : Option Body) → HasNone b halted →
    HasNone (elim said [ None ↦ b | Some s ↦ with_word b ]) halted
after_by b halted None has = has
after_by b halted (Some s) has =
    record { works = has.works; intruded = has.intruded; failing = has.failing; running = has.running }

-- an intruded master isn't correct
pub both_not : (low intruded : Bool) → low ≡ true → intruded ≡ true → not (low && intruded) ≡ false
both_not true true is also = refl
both_not true false is also = absurd (false≢true also)
both_not false intruded is also = absurd (false≢true is)

is_intruded : (b : BenchState) → b.actor < masters_in b.world → (setup_in b).intruded b.actor ≡ true → is_kept b ≡ false
is_intruded b master intruded =
    both_not (nat_lt b.actor (setup_in b).group.n) ((setup_in b).intruded b.actor)
    (ap (λ (g : Group). nat_lt b.actor g.n) (group_is b.world) ∙ lt-ltb b.actor (masters_in b.world) master) intruded

pub keeps_after_word : (b : BenchState) (k : Option Binder) (halted : Bool) (word : Word) → Keeps b k halted →
    b.actor < masters_in b.world
    → (setup_in b).intruded b.actor ≡ true → Keeps (after_word b word) k halted
keeps_after_word b (Some k) halted word keeps master intruded =
    absurd (true≢false (sym keeps.correct ∙ is_intruded b master intruded))
keeps_after_word b None halted word keeps master intruded = after_by b halted (word_body b word) keeps

-- what is asked of the actor with its keeper is asked of its bench

pub seen_come : (b : BenchState) (k : Option Binder) (spent : Bool) (now : KeptState) (stamp : ℕ) (event : Event) →
    made b k spent ≡ now
    → CanCome now.bench stamp event → CanCome b stamp event
seen_come b k spent now stamp event is can = subst (λ (x : KeptState). CanCome x.bench stamp event) (sym is) can

-- An intruded master.
pub record IsIntruded (b : BenchState) : Type 0 where
  pub master : b.actor < masters_in b.world
  pub intruded : (setup_in b).intruded b.actor ≡ true

pub seen_intruded : (b : BenchState) (k : Option Binder) (spent : Bool) (now : KeptState) → made b k spent ≡ now →
    IsIntruded now.bench → IsIntruded b
seen_intruded b k spent now is intruded = subst (λ (x : KeptState). IsIntruded x.bench) (sym is) intruded

pub keeps_word : (b new : BenchState) (k : Option Binder) (halted : Bool) (word : Word) → Keeps b k halted →
    IsIntruded b → new ≡ after_word b word → Keeps new k halted
keeps_word b new k halted word keeps is spoke =
    subst (λ (x : BenchState). Keeps x k halted) (sym spoke)
    (keeps_after_word b k halted word keeps is.master is.intruded)

-- what is posted is what there is, or nothing
pub posted_or : (said : Option (Vec (Signed Body) Global)) (none frames : Vec (Signed Body) Global) →
    none.items ≡ [] → frames ≡ unwrap_or said none
    → frames.items ≡ posted said
posted_or (Some given) none frames nothing is = ap (λ (v : Vec (Signed Body) Global). v.items) is
posted_or None none frames nothing is = ap (λ (v : Vec (Signed Body) Global). v.items) is ∙ nothing

-- an intruded master's entry

not_restart : (c : Contents) (actor : ℕ) (event : Event) → is_correct (setup_of c) actor ≡ false →
    (setup_of c).fits actor event ≡ true → is_restart event ≡ false
not_restart c actor (Took s p f) other fits = refl
not_restart c actor Tick other fits = refl
not_restart c actor (Command o) other fits = refl
not_restart c actor (Field a p v) other fits = refl
not_restart c actor Poll other fits = refl
not_restart c actor (Cry bytes) other fits = refl
not_restart c actor Skip other fits = refl
not_restart c actor Restart other fits = absurd (false≢true (sym other ∙ restarts_are_correct c actor fits))

pub none_next : (b new : BenchState) (stamp : ℕ) (event : Event) → HasNone b false → new ≡ with_entry b stamp event →
    HasNone new false
none_next b new stamp event has added =
    subst (λ (x : BenchState). HasNone x false) (sym added)
    (record { works = has.works; intruded = has.intruded; failing = has.failing; running = refl })

pub none_frames : (b : BenchState) (stamp : ℕ) (event : Event) (frames : List (Signed Body)) → HasNone b false →
    (setup_in b).fits b.actor event ≡ true
    → frames ≡ frames_said b stamp event → frames ≡ frames_kept b stamp event
none_frames b stamp event frames has fits made =
    made
    ∙ ap (λ (r : Bool). cond r (frames_of_last (setup_in b) b.actor b.list) (frames_said b stamp event))
    (sym (not_restart b.world b.actor event has.intruded fits))
    ∙ frames_going b stamp event
    (none_fails ((setup_in b).failing b.actor) (length (keeper_calls (b.list ++ entry_at b stamp event ∷ [])))
    has.failing)

not_not : (b : Bool) → not (not b) ≡ b
not_not true = refl
not_not false = refl

-- what is noted of the actor is that it is halted
pub noted : (given none : Bool) → given ≡ not none → not given ≡ none
noted given none is = ap not is ∙ not_not none
