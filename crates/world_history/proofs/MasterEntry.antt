-- A correct master of a scenario through one entry.
use Rattle.std.proofs.Common.{◌≡◌, ℕ, Bool, true, false, cond, not, List, [], ◌∷◌, ◌++◌, Option, Result, Ok, Err}
use Rattle.std.proofs.Common.{OnOk, nat_lt, refl, sym, ◌∙◌, ap, subst, inl, inr, ◌⊎◌, arith}
use Rattle.std.proofs.lemmas.Bool.{false≢true, and_parts, cases_Bool, not-true}
use Rattle.message_types.specs.declared.signed.Signed.{Signed}
use Rattle.message_types.specs.declared.body.Body.{Body}
use Rattle.quorum_sets.specs.Masters.{has_master}
use Rattle.protocol_rules.specs.Group.{Group}
use Rattle.protocol_rules.specs.Master.{Heard}
use Rattle.scenario_file.specs.Reading.{Contents}
use Rattle.history_rules.specs.Events.{Event, Took, Tick, Command, Field, Poll, Cry, Skip, Restart, Entry}
use Rattle.history_rules.specs.Events.{frame_taken, is_tick, is_silent}
use Rattle.history_rules.specs.Setup.{Setup, is_correct_master}
use Rattle.history_rules.specs.Legal.{TakesWell, heard_in}
use Rattle.master_node.specs.Charge.{Charge, says_at}
use Rattle.master_node.specs.Laws.{charge_of}
use Rattle.master_node.specs.Node.{NodeState}
use Rattle.master_node.specs.Running.{IsRunning, HasSpoken, AreItsFrames, ticks_in}
use Rattle.master_node.proofs.Histories.{ticks_are_heard, keeps_its_charge}
use Rattle.world_rules.specs.Scenarios.{setup_of, masters_in, fits_correct, fits_intruded}
use Rattle.world_rules.proofs.Fields.{setup_goes_by, group_is}
use Rattle.bench_rules.specs.Lists.{frames_after}
use Rattle.bench_rules.proofs.HeardEvents.{few_ticks, silent_says_nothing, heard_next}
use Rattle.world_history.proofs.MasterSpeaks.{master_says, master_is_handed}
use Rattle.bench_rules.proofs.HeardEvents.{heard_same}
use Rattle.world_history.proofs.StandingFrames.{standing_is_whole}
use Rattle.world_history.specs.Roles.{Comes, IsMaster, HasAnswered, CanHear, says_event, is_event_whole}

fits_when : (low intruded : Bool) (correct other third : Bool) → low ≡ true → intruded ≡ false →
    cond low (cond intruded other correct) third ≡ correct
fits_when true false correct other third l i = refl
fits_when true true correct other third l i = absurd (false≢true (sym i))
fits_when false intruded correct other third l i = absurd (false≢true l)

-- a correct master's number is below the masters', and no intruded one's
pub master_is : (c : Contents) (actor : ℕ) → is_correct_master (setup_of c) actor ≡ true →
    (nat_lt actor (masters_in c) ≡ true) × (has_master c.settings.intruded actor ≡ false)
master_is c actor correct =
    let both = and_parts (nat_lt actor (setup_of c).group.n) (not ((setup_of c).intruded actor)) correct in (
      sym (ap (λ (g : Group). nat_lt actor g.n) (group_is c)) ∙ both.0,
      sym ((setup_goes_by c).intruded actor) ∙ not-true ((setup_of c).intruded actor) both.1,
    )

master_fits : (c : Contents) (actor : ℕ) (event : Event) → is_correct_master (setup_of c) actor ≡ true →
    (setup_of c).fits actor event ≡ fits_correct event
master_fits c actor event correct =
    let is = master_is c actor correct in
    (setup_goes_by c).fits actor event
    ∙ fits_when (nat_lt actor (masters_in c)) (has_master c.settings.intruded actor) (fits_correct event)
    (fits_intruded event) _ is.0 is.1

whole_event : (w : Setup) (now : ℕ) (event : Event) → TakesWell w now event → is_event_whole w.group event ≡ true
whole_event w now (Took stamp place frame) well = standing_is_whole w frame well.0
whole_event w now Tick well = refl
whole_event w now (Command op) well = refl
whole_event w now (Field area place value) well = refl
whole_event w now Poll well = refl
whole_event w now (Cry bytes) well = refl
whole_event w now Skip well = refl
whole_event w now Restart well = refl

pub can_hear : (c : Contents) (actor : ℕ) (own : List Entry) (e : Entry) (node : NodeState) → Comes c actor own e →
    IsMaster (setup_of c) actor own node → CanHear node e.event
can_hear c actor own e node comes is =
    let w : Setup = setup_of c in
    let kept = keeps_its_charge (charge_of w actor) node.running (heard_in w actor own) is.running in
    let ticks : ticks_in node.running ≡ _ =
    ticks_are_heard (charge_of w actor) node.running (heard_in w actor own) is.running in
    let few = few_ticks w actor own in
    let short = comes.short in
    record {
      works = is.works;
      some = record { charge = charge_of w actor; before = heard_in w actor own; is = is.running };
      whole = ap (λ (g : Group). is_event_whole g e.event) kept.0 ∙ whole_event w e.stamp e.event comes.adds.taken;
      ticks = omega arith;
      role = sym (master_fits c actor e.event is.correct) ∙ comes.adds.role;
    }

pub master_said : (c : Contents) (actor : ℕ) (own : List Entry) (e : Entry) (event : Event) (node : NodeState)
    (bodies : List Body) → Comes c actor own e → e.event ≡ event
    → IsMaster (setup_of c) actor own node
    → ((charge : Charge) (before : List Heard) → IsRunning charge node.running before →
    bodies ≡ says_event charge before event) → bodies ≡ e.said
master_said c actor own e event node bodies comes same is says =
    says (charge_of (setup_of c) actor) (heard_in (setup_of c) actor own) is.running
    ∙ ap (says_event (charge_of (setup_of c) actor) (heard_in (setup_of c) actor own)) (sym same)
    ∙ by (cases_Bool (is_silent e.event))
  where
    by : (is_silent e.event ≡ true) ⊎ (is_silent e.event ≡ false) →
        says_event (charge_of (setup_of c) actor) (heard_in (setup_of c) actor own) e.event ≡ e.said
    by (inl silent) =
        ap (λ (b : Bool). cond b [] (says_at (charge_of (setup_of c) actor) (heard_in (setup_of c) actor own)
        (frame_taken e.event) (is_tick e.event))) silent
        ∙ sym (silent_says_nothing (setup_of c) actor own e is.correct comes.adds silent)
    by (inr loud) =
        ap (λ (b : Bool). cond b [] (says_at (charge_of (setup_of c) actor) (heard_in (setup_of c) actor own)
        (frame_taken e.event) (is_tick e.event))) loud
        ∙ master_says (setup_of c) actor own e is.correct comes.list comes.adds loud

pub master_ready : (c : Contents) (actor : ℕ) (own : List Entry) (e : Entry) (event : Event) (old new : NodeState) →
    e.event ≡ event → IsMaster (setup_of c) actor own old
    → ((charge : Charge) (before : List Heard) → IsRunning charge old.running before →
    HasAnswered charge before event new)
    → (is_correct_master (setup_of c) actor ≡ true) × HasAnswered (charge_of (setup_of c) actor)
    (heard_in (setup_of c) actor own) e.event new
master_ready c actor own e event old new same is answered = (
  is.correct,
  subst (λ (ev : Event). HasAnswered (charge_of (setup_of c) actor) (heard_in (setup_of c) actor own) ev new) (sym same)
      (answered (charge_of (setup_of c) actor) (heard_in (setup_of c) actor own) is.running),
)

-- what handing a master its frames does
pub record IsHanded (old new : NodeState) (event : Event) (frames : List (Signed Body)) : Type 0 where
  pub silent : is_silent event ≡ true → new ≡ old
  pub loud : is_silent event ≡ false →
      (charge : Charge) (before : List Heard) (took : Option (Signed Body)) (at_tick : Bool)
      → HasSpoken charge old.running before took at_tick → AreItsFrames charge before took at_tick frames
      → IsRunning charge new.running (before ++ record { took = took; is_tick = at_tick; said = frames } ∷ [])
  pub works : old.is_spent ≡ false → new.is_spent ≡ false

pub master_closed : (c : Contents) (actor : ℕ) (own : List Entry) (e : Entry) (event : Event) (old new : NodeState)
    (frames : List (Signed Body)) → Comes c actor own e → e.event ≡ event
    → frames ≡ frames_after (setup_of c) actor own e
    → (is_correct_master (setup_of c) actor ≡ true) × HasAnswered (charge_of (setup_of c) actor)
    (heard_in (setup_of c) actor own) e.event old
    → IsHanded old new event frames → IsMaster (setup_of c) actor (own ++ e ∷ []) new
master_closed c actor own e event old new frames comes same signed ready handed = record {
  correct = ready.0;
  works = handed.works ready.1.works;
  running = by (cases_Bool (is_silent e.event));
}
  where
    by : (is_silent e.event ≡ true) ⊎ (is_silent e.event ≡ false) →
        IsRunning (charge_of (setup_of c) actor) new.running (heard_in (setup_of c) actor (own ++ e ∷ []))
    by (inl silent) =
        subst (λ (hs : List Heard). IsRunning (charge_of (setup_of c) actor) new.running hs)
        (sym (heard_same (setup_of c) actor own e silent))
        (subst (λ (node : NodeState). IsRunning (charge_of (setup_of c) actor) node.running
        (heard_in (setup_of c) actor own)) (sym (handed.silent (ap is_silent (sym same) ∙ silent)))
        (ready.1.silent silent))
    by (inr loud) =
        let said = heard_next (setup_of c) actor own e loud in
        subst (λ (hs : List Heard). IsRunning (charge_of (setup_of c) actor) new.running hs) (sym said)
        (subst (λ (fs : List (Signed Body)). IsRunning (charge_of (setup_of c) actor) new.running
        (heard_in (setup_of c) actor own ++ record {
          took = frame_taken e.event;
          is_tick = is_tick e.event;
          said = fs;
        } ∷ [])) signed
        (handed.loud (ap is_silent (sym same) ∙ loud) (charge_of (setup_of c) actor) (heard_in (setup_of c) actor own)
        (frame_taken e.event) (is_tick e.event) (ready.1.loud loud)
        (subst (λ (fs : List (Signed Body)). AreItsFrames (charge_of (setup_of c) actor)
        (heard_in (setup_of c) actor own) (frame_taken e.event) (is_tick e.event) fs) (sym signed)
        (master_is_handed (setup_of c) actor own e ready.0 comes.list comes.adds loud))))

-- both of what holds where there is a value
pub both_on_ok : {A E P Q R : Type 0} (r : Result A E) → OnOk r P → OnOk r Q → (P → Q → R) → OnOk r R
both_on_ok (Ok x) p q f = f p q
both_on_ok (Err e) p q f = tt

-- a master that spoke at an event that isn't silent answered it
pub answered_by : (charge : Charge) (before : List Heard) (event heard : Event) (node : NodeState) → event ≡ heard →
    is_silent heard ≡ false → node.is_spent ≡ false
    → HasSpoken charge node.running before (frame_taken heard) (is_tick heard) → HasAnswered charge before event node
answered_by charge before event heard node same loud works spoken =
    subst (λ (ev : Event). HasAnswered charge before ev node) (sym same) record {
      works = works;
      silent = λ silent. absurd (false≢true (sym loud ∙ silent));
      loud = λ _. spoken;
    }

pub three_on_ok : {A E P Q R S : Type 0} (r : Result A E) → OnOk r P → OnOk r Q → OnOk r R → (P → Q → R → S) → OnOk r S
three_on_ok (Ok x) p q r f = f p q r
three_on_ok (Err e) p q r f = tt
