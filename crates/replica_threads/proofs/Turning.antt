-- What is known of a turn that was made.
use Rattle.std.proofs.Common.{◌≡◌, ℕ, ◌+◌, ◌<◌, ◌≤◌, Bool, true, false, cond, List, Option, Some, None, length}
use Rattle.std.proofs.Common.{nat_lt, refl, sym, ◌∙◌, ap, subst, inl, inr, ◌⊎◌, arith}
use Rattle.std.specs.Prelude.{IfSome}
use Rattle.std.specs.List.{list_all}
use Rattle.std.proofs.lemmas.Bool.{true≢false}
use Rattle.message_types.specs.Spelling.{has_spelling}
use Rattle.scenario_file.specs.Reading.{Contents}
use Rattle.scenario_file.specs.Valid.{IsScenario}
use Rattle.history_rules.specs.Setup.{Setup, stands}
use Rattle.world_rules.specs.Scenarios.{setup_of, actors_in}
use Rattle.script_laws.specs.Accepted.{is_there}
use Rattle.station_turns.specs.declared.held.Held.{Held}
use Rattle.station_turns.specs.declared.held.Turned.{Turned}
use Rattle.station_turns.specs.Turns.{Stationed, Turns, still_held}
use Rattle.station_turns.specs.Naming.{RunName, IsOwn}
use Rattle.replica_threads.specs.Letters.{IsWellTurned, IsTurnOf}
use Rattle.replica_threads.proofs.TakenByHands.{stand_held}

still_stands : (w : Setup) (held : Option Held) (stamp : ℕ) → stand_held w held → stand_held w (still_held held stamp)
still_stands w None stamp well = tt
still_stands w (Some h) stamp well = by (nat_lt h.stamp stamp)
  where
    by : (b : Bool) → stand_held w (cond b (Some h) None)
    by true = well
    by false = tt

back_when : (w : Setup) (b : Bool) (held : Option Held) → stand_held w held → stand_held w (cond b held None)
back_when w true held well = well
back_when w false held well = tt

-- the frame that comes back from a turn stands
back_stands : (w : Setup) (old new : Stationed) (held : Option Held) (t : Turned) → Turns old held t new →
    stand_held w held → stand_held w t.held
back_stands w old new held t (inl cut) well = subst (stand_held w) (sym cut.back) well
back_stands w old new held t (inr adds) well =
    subst (stand_held w) (sym adds.back)
    (back_when w _ (still_held held adds.stamp) (still_stands w held adds.stamp well))

-- what a station's turn gives can be handed on
pub well_turned : (c : Contents) (old new : Stationed) (held : Option Held) (t : Turned) → Turns old held t new →
    stand_held (setup_of c) held → list_all has_spelling t.frames.items ≡ true
    → (t.cried ≡ false → list_all (stands (setup_of c)) t.frames.items ≡ true) → list_all (is_there c) t.to ≡ true →
    IsWellTurned c t
well_turned c old new held t turns well spelled stand there = record {
  spelled = spelled;
  stand = stand;
  there = there;
  back = back_stands (setup_of c) old new held t turns well;
}

-- what holds of a run's scenario holds of the one that is shared

pub valid_here : (c d : Contents) → c ≡ d → IsScenario d → IsScenario c
valid_here c d same valid = subst (λ (x : Contents). IsScenario x) (sym same) valid

pub all_here : (c d : Contents) (count : ℕ) → c ≡ d → count ≡ actors_in d → count ≡ actors_in c
all_here c d count same all = all ∙ ap (λ (x : Contents). actors_in x) (sym same)

pub well_here : (c d : Contents) (t : Turned) → c ≡ d → IsWellTurned d t → IsWellTurned c t
well_here c d t same well = subst (λ (x : Contents). IsWellTurned x t) (sym same) well

-- how many turns are left to an actor that isn't halted

pub left_to_make : (halted : Bool) (made n turns : ℕ) → (halted ≡ true) ⊎ (made ≡ n) → halted ≡ false →
    n < turns → made < turns
left_to_make halted made n turns (inl is) isnt few = absurd (true≢false (sym is ∙ isnt))
left_to_make halted made n turns (inr is) isnt few = omega arith

pub made_more : (was now : Bool) (before after n : ℕ) → (was ≡ true) ⊎ (before ≡ n) → was ≡ false →
    (now ≡ true) ⊎ (after ≡ before + 1) → (now ≡ true) ⊎ (after ≡ n + 1)
made_more was now before after n (inl is) isnt next = absurd (true≢false (sym is ∙ isnt))
made_more was now before after n (inr is) isnt (inl halts) = inl halts
made_more was now before after n (inr is) isnt (inr more) = inr (omega arith)

pub made_all : (halted : Bool) (made n turns : ℕ) → (halted ≡ true) ⊎ (made ≡ n) → n ≡ turns →
    (halted ≡ true) ⊎ (made ≡ turns)
made_all halted made n turns (inl is) all = inl is
made_all halted made n turns (inr is) all = inr (is ∙ all)

pub some_well : (c : Contents) (o : Option Turned) (t : Turned) → IfSome o (λ x. IsWellTurned c x) →
    o ≡ Some t → IsWellTurned c t
some_well c o t well is = subst (λ (p : Option Turned). IfSome p (λ x. IsWellTurned c x)) is well

-- the held frame of a turn, once it is taken from it
pub held_of : (c : Contents) (t : Turned) (held : Option Held) → IsWellTurned c t → held ≡ t.held →
    stand_held (setup_of c) held
held_of c t held well same = subst (stand_held (setup_of c)) (sym same) well.back

-- whose turn it is
pub turn_of : (name : RunName) (actor whose : ℕ) (old new : Stationed) (held : Option Held) (t : Turned) →
    actor ≡ whose → Turns old held t new → IsOwn name whose old × IsOwn name whose new → IsTurnOf name actor t
turn_of name actor whose old new held t is turns both = record {
  old = old;
  new = new;
  held = held;
  before = subst (λ (a : ℕ). IsOwn name a old) (sym is) both.0;
  turns = turns;
  after = subst (λ (a : ℕ). IsOwn name a new) (sym is) both.1;
}

pub some_of : (name : RunName) (actor : ℕ) (o : Option Turned) (t : Turned) → IfSome o (λ x. IsTurnOf name actor x) →
    o ≡ Some t → IsTurnOf name actor t
some_of name actor o t whose is = subst (λ (p : Option Turned). IfSome p (λ x. IsTurnOf name actor x)) is whose
