-- What an input comes to: its event, and the actor after it.
use Rattle.std.proofs.Common.{◌≡◌, ℕ, ◌+◌, ◌-◌, Bool, true, false, cond, ◌&&◌, List, [], Option, Some, None}
use Rattle.std.proofs.Common.{length, nat_lt, refl, sym, ◌∙◌, ap, subst, arith}
use Rattle.std.specs.Prelude.{IsTrue}
use Rattle.std.specs.Option.{option_map}
use Rattle.std.specs.List.{list_all}
use Rattle.std.proofs.lemmas.Bool.{and_parts, false≢true}
use Rattle.quorum_sets.specs.Masters.{has_master}
use Rattle.message_types.specs.declared.signed.Signed.{Signed}
use Rattle.message_types.specs.declared.body.Body.{Body}
use Rattle.message_types.specs.Texts.{frame_text}
use Rattle.play_words.specs.declared.input.Input.{Input}
use Rattle.play_words.specs.declared.input.Input.TheVariants as input
use Rattle.play_words.specs.declared.words.Word.{Word}
use Rattle.play_words.specs.declared.words.Word.TheVariants as word
use Rattle.play_words.specs.Accepted.{is_accepted}
use Rattle.scenario_file.specs.Reading.{Contents}
use Rattle.history_rules.specs.Events.{Event, Took, Tick, Command, Field, Poll, Cry, Skip, Restart}
use Rattle.history_rules.specs.Setup.{Setup}
use Rattle.history_rules.specs.Legal.{TakesWell}
use Rattle.script_laws.specs.Accepted.{is_there, is_intruded}
use Rattle.world_rules.specs.Scenarios.{masters_in, fits_in}
use Rattle.world_rules.specs.Frames.{cried}
use Rattle.world_rules.proofs.Fields.{setup_goes_by}
use Rattle.world_history.specs.State.{BenchState, setup_in, spoken, word_body, word_frame, with_word, after_word}
use Rattle.station_turns.specs.Pace.{fits_input, is_skip, is_outside, is_inside, is_signed, signs_word, event_given}
use Rattle.station_turns.specs.Pace.{after_input}
use Rattle.world_rules.proofs.Clients.{fits_tick}
use Rattle.world_history.proofs.WordsSigned.{never_signs, after_some, signed_so}

no_more : (b : BenchState) → b ≡ signed_so b (b.signed + 0)
no_more b = let same : b.signed ≡ b.signed + 0 = omega arith in ap (λ (n : ℕ). signed_so b n) same

-- a word that is said and is a body was signed
said_signed : (b : BenchState) (o : Option Body) (ev : Event) →
    option_map Cry (option_map (λ said. frame_text (word_frame b said)) o) ≡ Some ev
    → (elim o [ None ↦ b | Some said ↦ with_word b ]) ≡ signed_so b (b.signed + 1)
said_signed b None ev is = absurd cc
said_signed b (Some x) ev is = refl

word_given : (b : BenchState) (w : Word) (ev : Event) → option_map Cry (spoken b w) ≡ Some ev →
    after_word b w ≡ signed_so b (b.signed + cond (is_signed w) 1 0)
unfolding spoken
word_given b (word.Raw bytes) ev is = ap (λ (o : Option Body). elim o [ None ↦ b | Some said ↦ with_word b ])
    (never_signs b bytes) ∙ no_more b
word_given b other ev is = said_signed b (word_body b other) ev is

-- the actor after an input that came to an event
pub after_given : (b : BenchState) (x : Input) (ev : Event) → event_given b x ≡ Some ev →
    after_input b x ≡ signed_so b (b.signed + cond (signs_word x) 1 0)
after_given b (input.Command op) ev is = no_more b
after_given b (input.Field area place value) ev is = no_more b
after_given b input.Poll ev is = no_more b
after_given b (input.Say to said) ev is = word_given b said ev is
after_given b input.Restart ev is = no_more b

unsaid : (b : BenchState) (o : Option Body) →
    option_map Cry (option_map (λ said. frame_text (word_frame b said)) o) ≡ None
    → (elim o [ None ↦ b | Some said ↦ with_word b ]) ≡ b
unsaid b None is = refl
unsaid b (Some x) is = absurd cc

word_not_given : (b : BenchState) (w : Word) → option_map Cry (spoken b w) ≡ None → after_word b w ≡ b
unfolding spoken
word_not_given b (word.Raw bytes) is = absurd cc
word_not_given b other is = unsaid b (word_body b other) is

-- the actor after a word that it couldn't say
pub after_none : (b : BenchState) (x : Input) → event_given b x ≡ None → after_input b x ≡ b
after_none b (input.Command op) is = absurd cc
after_none b (input.Field area place value) is = absurd cc
after_none b input.Poll is = absurd cc
after_none b (input.Say to said) is = word_not_given b said is
after_none b input.Restart is = absurd cc

pub after_input_all : (P : BenchState → Type 0) (b : BenchState) (x : Input) → ((n : ℕ) → P (signed_so b n)) →
    P (after_input b x)
after_input_all P b (input.Command op) all = all b.signed
after_input_all P b (input.Field area place value) all = all b.signed
after_input_all P b input.Poll all = all b.signed
after_input_all P b (input.Say to said) all = after_some P b (word_body b said) all
after_input_all P b input.Restart all = all b.signed

-- what is true of the event of each input

some_same : (x y : Event) → ◌≡◌ {A = Option Event} (Some x) (Some y) → x ≡ y
some_same x y is = cc

cry_all : (P : Event → Type 0) (o : Option (List ℕ)) (ev : Event) → option_map Cry o ≡ Some ev →
    ((bytes : List ℕ) → P (Cry bytes)) → P ev
cry_all P None ev is all = absurd cc
cry_all P (Some bytes) ev is all = subst P (some_same (Cry bytes) ev is) (all bytes)

pub given_outside : (b : BenchState) (x : Input) (ev : Event) → event_given b x ≡ Some ev → is_outside ev ≡ true
given_outside b (input.Command op) ev is = ap is_outside (sym (some_same (Command op) ev is))
given_outside b (input.Field area place value) ev is = ap is_outside (sym (some_same (Field area place value) ev is))
given_outside b input.Poll ev is = ap is_outside (sym (some_same Poll ev is))
given_outside b (input.Say to said) ev is = cry_all (λ e. is_outside e ≡ true) (spoken b said) ev is (λ bytes. refl)
given_outside b input.Restart ev is = ap is_outside (sym (some_same Restart ev is))

pub outside_no_skip : (ev : Event) → is_outside ev ≡ true → is_skip ev ≡ false
outside_no_skip (Took s p f) is = absurd (false≢true is)
outside_no_skip Tick is = absurd (false≢true is)
outside_no_skip (Command op) is = refl
outside_no_skip (Field a p v) is = refl
outside_no_skip Poll is = refl
outside_no_skip (Cry bytes) is = refl
outside_no_skip Skip is = absurd (false≢true is)
outside_no_skip Restart is = refl

pub outside_takes : (w : Setup) (stamp : ℕ) (ev : Event) → is_outside ev ≡ true → TakesWell w stamp ev
outside_takes w stamp (Took s p f) is = absurd (false≢true is)
outside_takes w stamp Tick is = tt
outside_takes w stamp (Command op) is = tt
outside_takes w stamp (Field a p v) is = tt
outside_takes w stamp Poll is = tt
outside_takes w stamp (Cry bytes) is = tt
outside_takes w stamp Skip is = tt
outside_takes w stamp Restart is = tt

pub inside_no_skip : (ev : Event) → is_inside ev ≡ true → is_skip ev ≡ false
inside_no_skip (Took s p f) is = refl
inside_no_skip Tick is = refl
inside_no_skip (Command op) is = absurd (false≢true is)
inside_no_skip (Field a p v) is = absurd (false≢true is)
inside_no_skip Poll is = absurd (false≢true is)
inside_no_skip (Cry bytes) is = absurd (false≢true is)
inside_no_skip Skip is = absurd (false≢true is)
inside_no_skip Restart is = absurd (false≢true is)

pub inside_not_outside : (ev : Event) → is_inside ev ≡ true → is_outside ev ≡ false
inside_not_outside (Took s p f) is = refl
inside_not_outside Tick is = refl
inside_not_outside (Command op) is = absurd (false≢true is)
inside_not_outside (Field a p v) is = absurd (false≢true is)
inside_not_outside Poll is = absurd (false≢true is)
inside_not_outside (Cry bytes) is = absurd (false≢true is)
inside_not_outside Skip is = absurd (false≢true is)
inside_not_outside Restart is = absurd (false≢true is)

pub inside_cries_nothing : (ev : Event) → is_inside ev ≡ true → cried ev ≡ []
inside_cries_nothing (Took s p f) is = refl
inside_cries_nothing Tick is = refl
inside_cries_nothing (Command op) is = absurd (false≢true is)
inside_cries_nothing (Field a p v) is = absurd (false≢true is)
inside_cries_nothing Poll is = absurd (false≢true is)
inside_cries_nothing (Cry bytes) is = absurd (false≢true is)
inside_cries_nothing Skip is = absurd (false≢true is)
inside_cries_nothing Restart is = absurd (false≢true is)

-- the events of each role

common_fits : (a b d : Bool) → cond a (cond b true true) (cond d true true) ≡ true
common_fits true true d = refl
common_fits true false d = refl
common_fits false b true = refl
common_fits false b false = refl

fits_took : (c : Contents) (actor s p : ℕ) (f : Signed Body) → fits_in c actor (Took s p f) ≡ true
fits_took c actor s p f = common_fits (nat_lt actor (masters_in c)) (has_master c.settings.intruded actor)
    (nat_lt (actor - masters_in c) (length c.plant.devices))

fits_skip : (c : Contents) (actor : ℕ) → fits_in c actor Skip ≡ true
fits_skip c actor = common_fits (nat_lt actor (masters_in c)) (has_master c.settings.intruded actor)
    (nat_lt (actor - masters_in c) (length c.plant.devices))

fits_cry : (c : Contents) (actor : ℕ) (bytes : List ℕ) → is_intruded c actor ≡ true → fits_in c actor (Cry bytes) ≡ true
fits_cry c actor bytes intruded = at (nat_lt actor (masters_in c)) (has_master c.settings.intruded actor)
    (nat_lt (actor - masters_in c) (length c.plant.devices)) intruded
  where
    at : (a b d : Bool) → a && b ≡ true → cond a (cond b true false) (cond d false false) ≡ true
    at true true d is = refl
    at true false d is = absurd (false≢true is)
    at false b d is = absurd (false≢true is)

pub skip_fits : (b : BenchState) → (setup_in b).fits b.actor Skip ≡ true
skip_fits b = (setup_goes_by b.world).fits b.actor Skip ∙ fits_skip b.world b.actor

inside_fits_in : (c : Contents) (actor : ℕ) (ev : Event) → is_inside ev ≡ true → fits_in c actor ev ≡ true
inside_fits_in c actor (Took s p f) is = fits_took c actor s p f
inside_fits_in c actor Tick is = fits_tick c actor
inside_fits_in c actor (Command op) is = absurd (false≢true is)
inside_fits_in c actor (Field a p v) is = absurd (false≢true is)
inside_fits_in c actor Poll is = absurd (false≢true is)
inside_fits_in c actor (Cry bytes) is = absurd (false≢true is)
inside_fits_in c actor Skip is = absurd (false≢true is)
inside_fits_in c actor Restart is = absurd (false≢true is)

pub inside_fits : (b : BenchState) (ev : Event) → is_inside ev ≡ true → (setup_in b).fits b.actor ev ≡ true
inside_fits b ev is = (setup_goes_by b.world).fits b.actor ev ∙ inside_fits_in b.world b.actor ev is

-- what a word's input says of its speaker
pub speaks : (c : Contents) (actor : ℕ) (to : List ℕ) (said : Word) → fits_input c actor (input.Say to said) ≡ true
    → (is_intruded c actor ≡ true) × IsTrue (is_accepted said)
speaks c actor to said fits =
    let both = and_parts (is_intruded c actor && is_accepted said) (list_all (is_there c) to) fits in
    and_parts (is_intruded c actor) (is_accepted said) both.0

given_fits_in : (b : BenchState) (x : Input) (ev : Event) → fits_input b.world b.actor x ≡ true →
    event_given b x ≡ Some ev → fits_in b.world b.actor ev ≡ true
given_fits_in b (input.Command op) ev fits is =
    subst (λ e. fits_in b.world b.actor e ≡ true) (some_same (Command op) ev is) fits
given_fits_in b (input.Field area place value) ev fits is =
    subst (λ e. fits_in b.world b.actor e ≡ true) (some_same (Field area place value) ev is) fits
given_fits_in b input.Poll ev fits is = subst (λ e. fits_in b.world b.actor e ≡ true) (some_same Poll ev is) fits
given_fits_in b (input.Say to said) ev fits is =
    cry_all (λ e. fits_in b.world b.actor e ≡ true) (spoken b said) ev is
    (λ bytes. fits_cry b.world b.actor bytes (speaks b.world b.actor to said fits).0)
given_fits_in b input.Restart ev fits is = subst (λ e. fits_in b.world b.actor e ≡ true) (some_same Restart ev is) fits

pub given_fits : (b : BenchState) (x : Input) (ev : Event) → fits_input b.world b.actor x ≡ true →
    event_given b x ≡ Some ev → (setup_in b).fits b.actor ev ≡ true
given_fits b x ev fits is = (setup_goes_by b.world).fits b.actor ev ∙ given_fits_in b x ev fits is

pub speaker_intruded : (b : BenchState) (to : List ℕ) (said : Word) →
    fits_input b.world b.actor (input.Say to said) ≡ true → (setup_in b).intruded b.actor ≡ true
speaker_intruded b to said fits =
    (setup_goes_by b.world).intruded b.actor
    ∙ (and_parts (nat_lt b.actor (masters_in b.world)) (has_master b.world.settings.intruded b.actor)
    (speaks b.world b.actor to said fits).0).1
