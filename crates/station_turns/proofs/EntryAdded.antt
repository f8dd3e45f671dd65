-- An entry besides skips, and what is posted of it.
use Rattle.std.proofs.Common.{◌≡◌, ℕ, ◌+◌, ◌%◌, ◌<◌, Bool, true, false, cond, ◌&&◌, List, [], ◌∷◌, ◌++◌, Option, Some}
use Rattle.std.proofs.Common.{None, length, map, get_or, nat_eq, nat_lt, refl, sym, ◌∙◌, ap, subst, arith}
use Rattle.std.specs.Prelude.{slice_get, is_some, unwrap_or}
use Rattle.std.specs.List.{list_all}
use Rattle.std.specs.Option.{option_map}
use Rattle.std.proofs.lemmas.Bool.{true≢false, false≢true}
use Rattle.message_types.specs.declared.signed.Signed.{Signed}
use Rattle.message_types.specs.declared.body.Body.{Body}
use Rattle.play_words.specs.declared.input.Input.{Input}
use Rattle.scenario_file.specs.Reading.{Contents}
use Rattle.history_rules.specs.Events.{Event, Tick, Entry}
use Rattle.history_rules.specs.Legal.{TakesWell}
use Rattle.history_rules.specs.Setup.{stands}
use Rattle.world_rules.specs.Scenarios.{setup_of}
use Rattle.world_rules.specs.Frames.{cried}
use Rattle.world_history.specs.State.{BenchState, setup_in, entry_at, with_entry}
use Rattle.world_history.specs.KeptState.{KeptState, halted_in, frames_kept}
use Rattle.world_entries.specs.declared.entry.Event.{Event as Happening}
use Rattle.world_entries.specs.Entries.{event_of}
use Rattle.std.proofs.lemmas.Option.{slice_get_read}
use Rattle.station_turns.specs.declared.held.Turned.{Turned}
use Rattle.station_turns.specs.Pace.{fits_input, fit_inputs, is_inside, is_outside, signs_word, inputs_used}
use Rattle.station_turns.specs.Pace.{words_signed, next_input, event_given, after_input, bench_after}
use Rattle.station_turns.specs.Turns.{Stationed, IsSteady, CanAdd, Enters, stamp_posted, frames_posted, cries_frame}
use Rattle.station_turns.specs.Turns.{named, named_at, given_or_tick}
use Rattle.station_turns.proofs.CountsGrow.{input_more, input_same, signed_same, signed_more}
use Rattle.station_turns.proofs.InputGiven.{after_given, after_none, after_input_all, given_outside, given_fits}
use Rattle.station_turns.proofs.InputGiven.{outside_takes, inside_fits, inside_not_outside, inside_cries_nothing}
use Rattle.station_turns.proofs.StateInOrder.{entry_so, steady_more, entered_bench}
use Rattle.world_history.proofs.KeptGrows.{event_at}
use Rattle.plain_lists.proofs.Lists.{all_at_place}
use Rattle.world_history.proofs.WordsSigned.{signed_so}

frames_so : (b : BenchState) (n stamp : ℕ) (event : Event) →
    frames_posted (signed_so b n) stamp event ≡ frames_posted b stamp event
unfolding entry_at
frames_so b n stamp event = refl

-- an entry that goes by no input

pub inside_enters : (s new : Stationed) (stamp : ℕ) (event : Event) (t : Turned) → CanAdd s stamp →
    is_inside event ≡ true → TakesWell (setup_in s.kept.bench) stamp event
    → new.kept.bench ≡ with_entry s.kept.bench stamp event → new.kept.is_spent ≡ false → new.seat ≡ s.seat →
    new.inputs ≡ s.inputs → new.turns ≡ s.turns
    → t.stamp ≡ stamp_posted s.kept.bench.list stamp event → t.frames.items ≡ frames_posted s.kept.bench stamp event →
    t.cried ≡ cries_frame event → t.to ≡ [] → Enters s stamp event t new
inside_enters s new stamp event t can inside taken added works seat inputs turns said frames cries to =
    let b = s.kept.bench in
    let same : inputs_used (b.list ++ entry_at b stamp event ∷ []) ≡ inputs_used b.list =
    input_same b.list (entry_at b stamp event) (ap is_outside (event_at b stamp event)
    ∙ inside_not_outside event inside) in
    let steady : IsSteady new [] = steady_more s new stamp event b.signed can (inside_fits b event inside) taken added
    (can.steady.signed ∙ sym (signed_same s.inputs b.list (b.list ++ entry_at b stamp event ∷ []) same))
    works seat inputs in
    record {
      bench = entered_bench s new stamp event b.signed steady added inputs;
      seat = seat;
      inputs = inputs;
      turns = turns;
      steady = steady;
      said = said;
      frames = frames;
      cried = cries;
      to = to ∙ sym (ap (λ (fs : List (Signed Body)). cond (nat_lt 0 (length fs)) (named (next_input s.inputs b.list))
          []) (inside_cries_nothing event inside));
    }

pub inside_used : (s new : Stationed) (stamp used : ℕ) (event : Event) → is_inside event ≡ true →
    new.kept.bench ≡ with_entry s.kept.bench stamp event
    → used ≡ inputs_used s.kept.bench.list → used ≡ inputs_used new.kept.bench.list
inside_used s new stamp used event inside added is =
    let b = s.kept.bench in
    is ∙ sym (input_same b.list (entry_at b stamp event) (ap is_outside (event_at b stamp event)
    ∙ inside_not_outside event inside))
    ∙ sym (ap (λ (x : BenchState). inputs_used x.list) added)

-- the entry of an input

-- The next input and the actor as it stands, once it has come to this event.
pub record IsGiven (s : Stationed) (x : Input) (after : BenchState) (given : Option Event) : Type 0 where
  pub next : next_input s.inputs s.kept.bench.list ≡ Some x
  pub after_is : after ≡ after_input s.kept.bench x
  pub given_is : given ≡ event_given s.kept.bench x

pub given_fits_actor : (s : Stationed) (more : List ℕ) (x : Input) → IsSteady s more →
    next_input s.inputs s.kept.bench.list ≡ Some x → fits_input s.kept.bench.world s.kept.bench.actor x ≡ true
given_fits_actor s more x steady next = all_at_place (fits_input s.kept.bench.world s.kept.bench.actor) s.inputs
    (inputs_used s.kept.bench.list) x steady.inputs next

-- what is asked of the actor is asked of it after its input
pub asked_after : (P : BenchState → Type 0) (s : Stationed) (x : Input) (after : BenchState) (given : Option Event) →
    IsGiven s x after given → ((n : ℕ) → P (signed_so s.kept.bench n)) → P after
asked_after P s x after given is all = subst P (sym is.after_is) (after_input_all P s.kept.bench x all)

pub input_fits : (s : Stationed) (more : List ℕ) (x : Input) (after : BenchState) (ev : Event) → IsSteady s more →
    IsGiven s x after (Some ev) → (setup_in after).fits after.actor ev ≡ true
input_fits s more x after ev steady is =
    asked_after (λ (b : BenchState). (setup_in b).fits b.actor ev ≡ true) s x after (Some ev) is
    (λ n. given_fits s.kept.bench x ev (given_fits_actor s more x steady is.next) (sym is.given_is))

pub input_enters : (s new : Stationed) (stamp : ℕ) (x : Input) (after : BenchState) (ev : Event) (t : Turned) →
    CanAdd s stamp → IsGiven s x after (Some ev)
    → new.kept.bench ≡ with_entry after stamp ev → new.kept.is_spent ≡ false → new.seat ≡ s.seat →
    new.inputs ≡ s.inputs → new.turns ≡ s.turns
    → t.stamp ≡ stamp_posted after.list stamp ev → t.frames.items ≡ frames_posted after stamp ev →
    t.cried ≡ cries_frame ev → t.to ≡ cond (cries_frame ev) (named (Some x)) []
    → Enters s stamp (given_or_tick s.kept.bench (next_input s.inputs s.kept.bench.list)) t new
input_enters s new stamp x after ev t can is added works seat inputs turns said frames cries to =
    let b = s.kept.bench in
    let n = b.signed + cond (signs_word x) 1 0 in
    let so : after ≡ signed_so b n = is.after_is ∙ after_given b x ev (sym is.given_is) in
    let outside : is_outside ev ≡ true = given_outside b x ev (sym is.given_is) in
    let more : inputs_used (b.list ++ entry_at b stamp ev ∷ []) ≡ inputs_used b.list + 1 =
    input_more b.list (entry_at b stamp ev) (ap is_outside (event_at b stamp ev) ∙ outside) in
    let entered : new.kept.bench ≡ with_entry (signed_so b n) stamp ev =
    added ∙ ap (λ (y : BenchState). with_entry y stamp ev) so in
    let signed : n ≡ words_signed s.inputs (b.list ++ entry_at b stamp ev ∷ []) =
    ap (λ (m : ℕ). m + cond (signs_word x) 1 0) can.steady.signed
    ∙ sym (signed_more s.inputs b.list (b.list ++ entry_at b stamp ev ∷ []) x is.next more) in
    let steady : IsSteady new [] =
    steady_more s new stamp ev n can
    (given_fits b x ev (given_fits_actor s (stamp ∷ []) x can.steady is.next) (sym is.given_is))
    (outside_takes (setup_in b) stamp ev outside) entered signed works seat inputs in
    let event : given_or_tick b (next_input s.inputs b.list) ≡ ev = ap (given_or_tick b) is.next
    ∙ ap (λ (o : Option Event). unwrap_or o Tick) (sym is.given_is) in
    subst (λ (e : Event). Enters s stamp e t new) (sym event)
    (record {
      bench = entered_bench s new stamp ev n steady entered inputs;
      seat = seat;
      inputs = inputs;
      turns = turns;
      steady = steady;
      said = said ∙ ap (λ (y : BenchState). stamp_posted y.list stamp ev) so;
      frames = frames ∙ ap (λ (y : BenchState). frames_posted y stamp ev) so ∙ frames_so b n stamp ev;
      cried = cries;
      to = to ∙ ap (λ (o : Option Input). cond (cries_frame ev) (named o) []) (sym is.next);
    })

pub input_used : (s new : Stationed) (stamp used : ℕ) (x : Input) (after : BenchState) (ev : Event) →
    IsGiven s x after (Some ev) → new.kept.bench ≡ with_entry after stamp ev
    → used ≡ inputs_used s.kept.bench.list → used + 1 ≡ inputs_used new.kept.bench.list
input_used s new stamp used x after ev is added was =
    let b = s.kept.bench in
    let n = b.signed + cond (signs_word x) 1 0 in
    let so : after ≡ signed_so b n = is.after_is ∙ after_given b x ev (sym is.given_is) in
    ap (λ (m : ℕ). m + 1) was
    ∙ sym (input_more b.list (entry_at b stamp ev) (ap is_outside (event_at b stamp ev)
    ∙ given_outside b x ev (sym is.given_is)))
    ∙ ap (λ (e : Entry). inputs_used (b.list ++ e ∷ [])) (sym (entry_so b n stamp ev))
    ∙ sym (ap (λ (y : BenchState). inputs_used y.list) (added ∙ ap (λ (y : BenchState). with_entry y stamp ev) so))

-- a word that the actor can't say stays next, and the entry is a tick
pub unsaid_is : (s : Stationed) (x : Input) (after : BenchState) → IsGiven s x after None → after ≡ s.kept.bench
unsaid_is s x after is = is.after_is ∙ after_none s.kept.bench x (sym is.given_is)

pub unsaid_enters : (s new : Stationed) (stamp : ℕ) (x : Input) (after : BenchState) (t : Turned) →
    CanAdd s stamp → IsGiven s x after None
    → new.kept.bench ≡ with_entry after stamp Tick → new.kept.is_spent ≡ false → new.seat ≡ s.seat →
    new.inputs ≡ s.inputs → new.turns ≡ s.turns
    → t.stamp ≡ stamp_posted after.list stamp Tick → t.frames.items ≡ frames_posted after stamp Tick →
    t.cried ≡ cries_frame Tick → t.to ≡ []
    → Enters s stamp (given_or_tick s.kept.bench (next_input s.inputs s.kept.bench.list)) t new
unsaid_enters s new stamp x after t can is added works seat inputs turns said frames cries to =
    let b = s.kept.bench in
    let so : after ≡ b = unsaid_is s x after is in
    let event : given_or_tick b (next_input s.inputs b.list) ≡ Tick = ap (given_or_tick b) is.next
    ∙ ap (λ (o : Option Event). unwrap_or o Tick) (sym is.given_is) in
    subst (λ (e : Event). Enters s stamp e t new) (sym event)
    (inside_enters s new stamp Tick t can refl tt (added ∙ ap (λ (y : BenchState). with_entry y stamp Tick) so)
    works seat inputs turns
    (said ∙ ap (λ (y : BenchState). stamp_posted y.list stamp Tick) so)
    (frames ∙ ap (λ (y : BenchState). frames_posted y stamp Tick) so) cries to)

pub unsaid_used : (s new : Stationed) (stamp used : ℕ) (x : Input) (after : BenchState) → IsGiven s x after None →
    new.kept.bench ≡ with_entry after stamp Tick
    → used ≡ inputs_used s.kept.bench.list → used ≡ inputs_used new.kept.bench.list
unsaid_used s new stamp used x after is added was =
    inside_used s new stamp used Tick refl
    (added ∙ ap (λ (y : BenchState). with_entry y stamp Tick) (unsaid_is s x after is)) was

-- what stands after an input stands before it
pub stand_before : (b after : BenchState) (x : Input) (cries : Bool) (frames : List (Signed Body)) →
    after ≡ after_input b x
    → (cries ≡ false → list_all (stands (setup_in after)) frames ≡ true) → cries ≡ false →
    list_all (stands (setup_in b)) frames ≡ true
stand_before b after x cries frames is all none =
    subst (λ (w : Contents). list_all (stands (setup_of w)) frames ≡ true)
    (ap (λ (y : BenchState). y.world) is ∙ after_input_all (λ (y : BenchState). y.world ≡ b.world) b x (λ n. refl))
    (all none)

-- the event that the call answers

pub none_given : (o : Option Happening) (given : Option Event) → option_map event_of o ≡ given → o ≡ None → None ≡ given
none_given o given same is = sym (ap (option_map event_of) is) ∙ same

pub some_given : (o : Option Happening) (given : Option Event) (ev : Happening) → option_map event_of o ≡ given →
    o ≡ Some ev → Some (event_of ev) ≡ given
some_given o given ev same is = sym (ap (option_map event_of) is) ∙ same

-- the next input is the one at the place of those used
pub next_is : (s : Stationed) (used : ℕ) (x : Input) → used ≡ inputs_used s.kept.bench.list → used < length s.inputs →
    x ≡ get_or s.inputs used x → next_input s.inputs s.kept.bench.list ≡ Some x
next_is s used x same below at = ap (λ (i : ℕ). slice_get s.inputs i) (sym same)
    ∙ slice_get_read s.inputs (length s.inputs) used x refl below at

-- to whom a word goes that was cried
pub named_cried : (cries : Bool) (event : Event) (x : Input) (to : List ℕ) → to ≡ cond cries (named (Some x)) [] →
    cries ≡ cries_frame event → to ≡ cond (cries_frame event) (named (Some x)) []
named_cried cries event x to is same = is ∙ ap (λ (b : Bool). cond b (named (Some x)) []) same
