-- A frame that an actor takes by its name, in a play at work.
use Rattle.std.proofs.Common.{◌≡◌, ℕ, ◌+◌, ◌*◌, ◌<◌, Bool, true, false, cond, ◌&&◌, List, Option, Some, None, Result}
use Rattle.std.proofs.Common.{Ok, Err, length, get_or, nat_lt, refl, sym, ◌∙◌, ap, subst, arith}
use Rattle.std.proofs.lemmas.Bool.{and_parts, ltb-true}
use Rattle.std.proofs.lemmas.List.{length-map}
use Rattle.play_words.specs.declared.words.Ref.{Ref}
use Rattle.scenario_file.specs.Reading.{Contents}
use Rattle.scenario_file.specs.Valid.{IsScenario}
use Rattle.history_rules.specs.Events.{Event}
use Rattle.history_rules.specs.Legal.{TakesWell}
use Rattle.world_rules.specs.Scenarios.{setup_of, actors_in}
use Rattle.world_entries.specs.declared.entry.Event.{Event as Happening}
use Rattle.world_entries.specs.Entries.{event_of}
use Rattle.world_history.specs.KeptState.{KeptState, halted_in}
use Rattle.script_laws.specs.Accepted.{is_there, may_do, is_named}
use Rattle.run_scripts.specs.declared.answer.StepRefusal.{StepRefusal}
use Rattle.run_scripts.specs.declared.answer.StepRefusal.TheVariants as stop
use Rattle.run_scripts.specs.declared.mail.Held.{Held}
use Rattle.run_scripts.specs.declared.playing.Playing.{Playing}
use Rattle.run_scripts.specs.Mail.{post_named, taking}
use Rattle.run_scripts.specs.Making.{Given, Making, Going, is_cry, has_halted, does, takes, takes_held}
use Rattle.run_scripts.specs.Playing.{IsMaking, IsPlaying, Goes, FoundAs, slot_at}
use Rattle.world_history.proofs.Addressed.{few_actors}
use Rattle.run_scripts.proofs.PlayKeeps.{named_is_well, may_take, takes_well}
use Rattle.run_scripts.proofs.EventPlayed.{kept_here}

takes_halted : (g : Given) (actor : ℕ) (r : Ref) (m : Making) → has_halted g m actor ≡ true → takes g actor r m ≡ Ok m
unfolding takes
takes_halted g actor r m halted = ap (λ b. cond b (Ok m) (takes_held g actor (post_named m.posts r) m)) halted

takes_is : (g : Given) (actor : ℕ) (r : Ref) (m : Making) (o : Option (Option Held)) → has_halted g m actor ≡ false →
    o ≡ post_named m.posts r → takes g actor r m ≡ takes_held g actor o m
unfolding takes
takes_is g actor r m o running named =
    ap (λ b. cond b (Ok m) (takes_held g actor (post_named m.posts r) m)) running
    ∙ ap (λ (x : Option (Option Held)). takes_held g actor x m) (sym named)

-- an actor that has halted takes nothing
pub halted_takes : (g : Given) {done : Unit {0}} (m : Making) (p : Playing) (actor : ℕ) (r : Ref) (k : KeptState)
    (b : Bool) → IsMaking g m p → is_there g.scenario actor ≡ true
    → k ≡ get_or p.kept.items actor k → (k.is_spent ≡ false → b ≡ halted_in k.bench) → b ≡ true →
    Goes g (Ok done) (takes g actor r m) p
halted_takes g m p actor r k b is there at tells so =
    let here = kept_here g m p actor k is there at in
    (m, takes_halted g actor r m (sym (ap halted_in here.bench) ∙ sym (tells here.works) ∙ so), is)

-- what is asked of a name
pub name_few : (c : Contents) (r : Ref) → IsScenario c → is_named c r ≡ true → r.actor < 26
name_few c r valid named =
    let few = few_actors c valid in let below =
    ltb-true r.actor (actors_in c) (and_parts (is_there c r.actor) (nat_lt r.kind 22) named).0 in omega arith

pub name_there : (c : Contents) (r : Ref) → is_named c r ≡ true → r.actor < actors_in c
name_there c r named = ltb-true r.actor (actors_in c) (and_parts (is_there c r.actor) (nat_lt r.kind 22) named).0

pub name_kind : (c : Contents) (r : Ref) → is_named c r ≡ true → r.kind < 22
name_kind c r named = ltb-true r.kind 22 (and_parts (is_there c r.actor) (nat_lt r.kind 22) named).1

pub name_slot : (g : Given) (p : Playing) (r : Ref) → IsPlaying g p → is_named g.scenario r ≡ true →
    slot_at r.actor r.kind < length p.mail.slots.items
name_slot g p r playing named =
    let there = name_there g.scenario r named in
    let kind = name_kind g.scenario r named in
    let all : length p.mail.slots.items ≡ 22 * actors_in g.scenario =
    sym (length-map p.mail.slots.items (λ v. v.items)) ∙ playing.is.mail.slots.all in
    omega arith

-- where no such frame was posted
pub not_found : {A : Type 0} (g : Given) (m : Making) (p : Playing) (actor : ℕ) (r : Ref) (o : Option (Option Held))
    (result : Result A StepRefusal) (why y : StepRefusal) → result ≡ Err y → y ≡ why
    → has_halted g m actor ≡ false → o ≡ post_named m.posts r → FoundAs (Err why) o →
    Goes g result (takes g actor r m) p
not_found {A} g m p actor r o result why y one two running named found =
    subst (λ (z : Result A StepRefusal). Goes g z (takes g actor r m) p) (sym (one ∙ ap Err two)) (by why found)
  where
    by : (why : StepRefusal) → FoundAs (Err why) o → Goes {A = A} g (Err why) (takes g actor r m) p
    by stop.NoFrame none = takes_is g actor r m o running named
        ∙ ap (λ (x : Option (Option Held)). takes_held g actor x m) none
    by stop.TooMany none = absurd none
    by stop.Want none = tt

-- one that nobody can take
pub passed_over : (g : Given) {done : Unit {0}} (m : Making) (p : Playing) (actor : ℕ) (r : Ref)
    (o : Option (Option Held)) → IsMaking g m p → has_halted g m actor ≡ false
    → o ≡ post_named m.posts r → o ≡ Some None → Goes g (Ok done) (takes g actor r m) p
passed_over g m p actor r o is running named none =
    (m, takes_is g actor r m o running named ∙ ap (λ (x : Option (Option Held)). takes_held g actor x m) none, is)

-- any other is taken
pub named_may : (g : Given) (p : Playing) (actor : ℕ) (r : Ref) (o : Option (Option Held)) (event : Happening) →
    IsPlaying g p → is_there g.scenario actor ≡ true
    → ((m : Making) → IsMaking g m p → o ≡ post_named m.posts r) → FoundAs (Ok (Some event)) o
    → (may_do g.scenario actor (event_of event) ≡ true) × (is_cry (event_of event) ≡ false)
    × TakesWell (setup_of g.scenario) p.entries (event_of event)
named_may g p actor r o event playing there named found =
    let m = playing.making in
    let is = playing.is in
    let held = found.0 in (
      subst (λ (e : Event). may_do g.scenario actor e ≡ true) (sym found.2) (may_take g.scenario actor held there),
      subst (λ (e : Event). is_cry e ≡ false) (sym found.2) refl,
      subst (λ (e : Event). TakesWell (setup_of g.scenario) p.entries e) (sym found.2)
          (subst (λ (n : ℕ). TakesWell (setup_of g.scenario) n (taking held)) (sym is.entries)
          (takes_well g.scenario (length m.history) held
          (named_is_well g.scenario (length m.history) m.posts r (Some held) is.sound.posts
          (sym (named m is) ∙ found.1)))),
    )

pub named_taken : (g : Given) (result : Result (Unit {0}) StepRefusal) (m : Making) (q : Playing) (actor : ℕ)
    (r : Ref) (o : Option (Option Held)) (event : Happening) → has_halted g m actor ≡ false
    → o ≡ post_named m.posts r → FoundAs (Ok (Some event)) o → Goes g result (does g actor (event_of event) m) q →
    Goes g result (takes g actor r m) q
named_taken g result m q actor r o event running named found goes =
    subst (λ (going : Going). Goes g result going q)
    (ap (λ (e : Event). does g actor e m) found.2
    ∙ sym (takes_is g actor r m o running named
    ∙ ap (λ (x : Option (Option Held)). takes_held g actor x m) found.1)) goes

pub found_event : (x y : Option Happening) (o : Option (Option Held)) → FoundAs (Ok x) o → x ≡ y → FoundAs (Ok y) o
found_event x y o found same = subst (λ (z : Option Happening). FoundAs (Ok z) o) same found
