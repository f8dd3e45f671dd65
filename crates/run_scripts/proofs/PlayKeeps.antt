-- What each entry of a play keeps, the whole play keeps. Of any property of histories, and of frames held in them, this
-- goes from one entry more over the steps and the lines to the history that is played.
use Rattle.std.proofs.Common.{◌≡◌, ℕ, zero, suc, ◌+◌, ◌-◌, ◌≤◌, Bool, true, false, cond, ◌&&◌, ◌||◌, List, []}
use Rattle.std.proofs.Common.{◌∷◌, ◌++◌, Option, Some, None, Result, Ok, Err, filter, length, map, nat_eq}
use Rattle.std.proofs.Common.{nat_lt, refl, sym, ◌∙◌, ap, subst, arith, append-nil, append_assoc, inl, inr, ◌⊎◌}
use Rattle.std.specs.Prelude.{slice_get}
use Rattle.std.specs.List.{list_all, flat_map}
use Rattle.std.proofs.lemmas.Bool.{and_parts, and_from, leb-false, ltb-true}
use Rattle.std.proofs.lemmas.List.{length-append}
use Rattle.std.proofs.lemmas.List.Folds.{list_all-map}
use Rattle.plain_lists.proofs.Members.{none_in, in_cases}
use Rattle.plain_lists.specs.Lists.{IsIn, here, there}
use Rattle.quorum_sets.specs.Masters.{has_master}
use Rattle.quorum_sets.proofs.Numbered.{numbers_pass}
use Rattle.plain_lists.proofs.Lists.{all_at_place, all_filter}
use Rattle.play_words.specs.declared.words.Ref.{Ref}
use Rattle.scenario_file.specs.Reading.{Contents}
use Rattle.scenario_file.specs.Valid.{IsScenario}
use Rattle.history_rules.specs.Events.{Event, Took, Tick, Command, Field, Poll, Cry, Restart, Entry, is_restart}
use Rattle.history_rules.specs.Setup.{own, stands}
use Rattle.history_rules.specs.Legal.{TakesWell}
use Rattle.history_laws.proofs.EntryByEntry.{none_is_legal}
use Rattle.world_rules.specs.Frames.{cried}
use Rattle.world_rules.specs.Scenarios.{setup_of, masters_in, fits_in, actors_in}
use Rattle.world_rules.proofs.Clients.{fits_tick}
use Rattle.world_history.specs.State.{BenchState, entry_at, spoken}
use Rattle.script_lines.specs.declared.saying.Saying.{Saying}
use Rattle.script_lines.specs.declared.script.Line.{Line}
use Rattle.script_lines.specs.declared.step.Step.{Step}
use Rattle.script_lines.specs.declared.step.Step.TheVariants as step
use Rattle.script_lines.specs.declared.step.Ticking.{Ticking}
use Rattle.script_lines.specs.declared.step.Ticking.TheVariants as ticking
use Rattle.script_lines.specs.Given.{own_words}
use Rattle.script_laws.specs.Accepted.{is_there, may_do, are_ticking, is_step_of, are_lines_of}
use Rattle.script_laws.specs.Accepted.{are_sayings_of, is_saying_of, is_named, is_intruded}
use Rattle.run_scripts.specs.declared.answer.StepRefusal.{StepRefusal}
use Rattle.run_scripts.specs.declared.answer.StepRefusal.TheVariants as stop
use Rattle.run_scripts.specs.declared.mail.Held.{Held}
use Rattle.run_scripts.specs.declared.mail.Post.{Post}
use Rattle.run_scripts.specs.declared.mail.Delivery.{Delivery}
use Rattle.run_scripts.specs.Mail.{posted_by, post_named, post_to, sent, taking}
use Rattle.run_scripts.specs.Making.{Given, Making, Going, then_goes, has_halted, most_entries, is_full, is_lost}
use Rattle.run_scripts.specs.Making.{after, does, all_tick, times_over, deliver, deliver_all, round, takes, posts_at}
use Rattle.run_scripts.specs.Making.{takes_held, ticking_in, words_said, next_word, bench_at, after_cry, cries}
use Rattle.run_scripts.specs.Making.{cries_word, cries_bytes, goes, then_plays, played_from, beginning}
use Rattle.run_scripts.specs.Playing.{IsSound, is_held_well, is_posted_well, is_due}
use Rattle.run_scripts.proofs.SoundStays.{all_due_later}
use Rattle.run_scripts.proofs.EventAdds.{sound_after, sound_after_cry}
use Rattle.run_scripts.proofs.WordSaid.{word_to}
use Rattle.run_scripts.proofs.UnforgedPosts.{sent_from, named_from}

-- what may be done in a play, and what it does

fits_took : (c : Contents) (actor : ℕ) (h : Held) → fits_in c actor (taking h) ≡ true
fits_took c actor h = at (nat_lt actor (masters_in c)) (has_master c.settings.intruded actor)
    (nat_lt (actor - masters_in c) (length c.plant.devices))
  where
    at : (a b d : Bool) → cond a (cond b true true) (cond d true true) ≡ true
    at true true d = refl
    at true false d = refl
    at false b true = refl
    at false b false = refl

pub may_tick : (c : Contents) (actor : ℕ) → is_there c actor ≡ true → may_do c actor Tick ≡ true
may_tick c actor within = and_from (is_there c actor) (fits_in c actor Tick) within (fits_tick c actor)

pub may_take : (c : Contents) (actor : ℕ) (h : Held) → is_there c actor ≡ true → may_do c actor (taking h) ≡ true
may_take c actor h within = and_from (is_there c actor) (fits_in c actor (taking h)) within (fits_took c actor h)

pub takes_well : (c : Contents) (now : ℕ) (h : Held) → is_held_well (setup_of c) now h ≡ true →
    TakesWell (setup_of c) now (taking h)
takes_well c now h well = let parts = and_parts (nat_lt h.stamp now) (stands (setup_of c) h.frame) well in
    (parts.1, ltb-true h.stamp now parts.0)

pub tickers_there : (c : Contents) (who : Ticking) → are_ticking c who ≡ true →
    list_all (is_there c) (ticking_in c who) ≡ true
tickers_there c (ticking.Actor actor) may = and_from (is_there c actor) true may refl
tickers_there c ticking.Masters may = numbers_pass (masters_in c) (actors_in c) (omega arith)
tickers_there c ticking.All may = numbers_pass (actors_in c) (actors_in c) (omega arith)

-- nothing waits any more
pub emptied : (c : Contents) (m : Making) → IsSound c m → IsSound c (record m { waiting = [] })
emptied c m sound = record { legal = sound.legal; short = sound.short; posts = sound.posts; waiting = refl }

-- what was posted can be taken where it is held
pub named_is_well : (c : Contents) (now : ℕ) (posts : List Post) (r : Ref) (o : Option Held) →
    list_all (λ (p : Post). is_posted_well (setup_of c) now p.held) posts ≡ true
    → post_named posts r ≡ Some o → is_posted_well (setup_of c) now o ≡ true
unfolding post_named
named_is_well c now posts r o all is = at (nat_eq r.number 0) is
  where
    of_kind : Post → Bool
    of_kind p = nat_eq p.from r.actor && nat_eq p.kind r.kind

    each : list_all (is_posted_well (setup_of c) now) (posted_by r.actor r.kind posts) ≡ true
    each = list_all-map (is_posted_well (setup_of c) now) (λ (p : Post). p.held)
        (filter (λ (p : Post). nat_eq p.from r.actor && nat_eq p.kind r.kind) posts)
        ∙ all_filter (λ (p : Post). is_posted_well (setup_of c) now p.held) (λ (p : Post). nat_eq p.from r.actor
        && nat_eq p.kind r.kind) posts all

    at : (b : Bool) → cond b None (slice_get (posted_by r.actor r.kind posts) (r.number - 1)) ≡ Some o →
        is_posted_well (setup_of c) now o ≡ true
    at true none = absurd cc
    at false found = all_at_place (is_posted_well (setup_of c) now) (posted_by r.actor r.kind posts)
        (r.number - 1) o each found

-- what an event makes of a history in the making

pub entry_is : (b : BenchState) (stamp : ℕ) (event : Event) → ((entry_at b stamp event).event ≡ event)
    × ((entry_at b stamp event).actor ≡ b.actor)
unfolding entry_at
entry_is b stamp event = (refl, refl)

pub after_is : (g : Given) (actor : ℕ) (event : Event) (m : Making)
    → ((after g actor event m).history ≡ m.history ++ entry_at (bench_at g m.history actor)
    (length m.history) event ∷ [])
    × ((after g actor event m).posts ≡ m.posts ++ cond (is_restart event) [] (posts_at g m.history actor event))
    × ((after g actor event m).waiting ≡ m.waiting ++ flat_map sent (posts_at g m.history actor event))
unfolding after
after_is g actor event m = (refl, refl, refl)

-- the same for a cry
pub after_cry_is : (g : Given) (master : ℕ) (to bytes : List ℕ) (m : Making)
    → ((after_cry g master to bytes m).history ≡ m.history ++ entry_at (bench_at g m.history master)
    (length m.history) (Cry bytes) ∷ [])
    × ((after_cry g master to bytes m).posts ≡ m.posts
    ++ map (post_to to (setup_of g.scenario) master (length m.history) 0) (cried (Cry bytes)))
    × ((after_cry g master to bytes m).waiting ≡ m.waiting
    ++ flat_map sent (map (post_to to (setup_of g.scenario) master (length m.history) 0) (cried (Cry bytes))))
unfolding after_cry
after_cry_is g master to bytes m = (refl, refl, refl)

in_if : (b : Bool) (p : Post) (posts : List Post) → IsIn p (cond b [] posts) → IsIn p posts
in_if true p posts h = absurd (none_in h)
in_if false p posts h = h

-- The property: of histories, and of frames held in them.

-- What holds of each history in the making: it is sound and good, and each frame that can be taken may be.
pub record IsKept (g : Given) (Good : List Entry → Type 0) (May : List Entry → Held → Type 0) (m : Making) : Type 0
  where
    pub sound : IsSound g.scenario m
    pub good : Good m.history
    pub posts : (p : Post) (h : Held) → IsIn p m.posts → p.held ≡ Some h → May m.history h
    pub waiting : (d : Delivery) → IsIn d m.waiting → May m.history d.held

-- one that is so, with all entries of another
pub record Grows (g : Given) (Good : List Entry → Type 0) (May : List Entry → Held → Type 0) (m next : Making) : Type 0
  where
    pub kept : IsKept g Good May next
    pub more : List Entry
    pub grown : next.history ≡ m.history ++ more

-- an event takes only what may be taken; a cry is told apart
abbrev pub TakesAs : (List Entry → Held → Type 0) → List Entry → Event → Type 0
TakesAs May history (Took stamp place frame) = May history (record { stamp = stamp; place = place; frame = frame })
TakesAs May history (Cry bytes) = ⊥
TakesAs May history _ = Unit {0}

-- the master's next word comes to these bytes
pub record Cries (g : Given) (m : Making) (master : ℕ) (s : Saying) (bytes : List ℕ) : Type 0 where
  pub intruded : is_intruded g.scenario master ≡ true
  pub next : next_word g m master ≡ Some s
  pub spoke : spoken (bench_at g m.history master) s.word ≡ Some bytes

-- the history with an event's entry more
abbrev pub with_event : Given → Making → ℕ → Event → List Entry
with_event g m actor event = m.history ++ entry_at (bench_at g m.history actor) (length m.history) event ∷ []

-- what a cry posts
abbrev pub cry_posts : Given → Making → ℕ → List ℕ → List ℕ → List Post
cry_posts g m master to bytes = map (post_to to (setup_of g.scenario) master (length m.history) 0) (cried (Cry bytes))

-- An entry more keeps it.
pub record Keeps (g : Given) (Good : List Entry → Type 0) (May : List Entry → Held → Type 0) : Type 0 where
  pub goes_on : (history more : List Entry) (h : Held) → May history h → May (history ++ more) h
  pub entry : (m : Making) (actor : ℕ) (event : Event) → IsKept g Good May m
      → IsSound g.scenario (after g actor event m) → TakesAs May m.history event → Good (with_event g m actor event)
  pub posted : (m : Making) (actor : ℕ) (event : Event) → IsKept g Good May m → Good (with_event g m actor event)
      → (p : Post) (h : Held) → IsIn p (posts_at g m.history actor event) → p.held ≡ Some h
      → May (with_event g m actor event) h
  pub cry : (m : Making) (master : ℕ) (s : Saying) (bytes : List ℕ) → IsKept g Good May m
      → IsSound g.scenario (after_cry g master s.to bytes m) → Cries g m master s bytes
      → Good (with_event g m master (Cry bytes))
  pub cry_posted : (m : Making) (master : ℕ) (s : Saying) (bytes : List ℕ) → IsKept g Good May m
      → Cries g m master s bytes → (p : Post) (h : Held) → IsIn p (cry_posts g m master s.to bytes)
      → p.held ≡ Some h → May (with_event g m master (Cry bytes)) h

-- the answers of a step are one
same_ok : {m next : Making} → ◌≡◌ {A = Going} (Ok m) (Ok next) → m ≡ next
same_ok same = cc

same_history : (m : Making) (history : List Entry) →
    ◌≡◌ {A = Result (List Entry) (ℕ × StepRefusal)} (Ok m.history) (Ok history) → m.history ≡ history
same_history m history same = cc

-- what each word passes, the next one does
pub next_passes : (P : Saying → Bool) (g : Given) (m : Making) (master : ℕ) (s : Saying) → list_all P g.sayings ≡ true
    → next_word g m master ≡ Some s → P s ≡ true
next_passes P g m master s all found =
    all_at_place P (own_words master g.sayings) (words_said (own m.history master)) s
    (all_filter P (λ (x : Saying). nat_eq x.speaker master) g.sayings all) found

-- The history that is played, as the last that was in the making.
abbrev pub Ends : Given → (List Entry → Type 0) → (List Entry → Held → Type 0) → List Entry → Type 0
Ends g Good May history = (last : Making) × (last.history ≡ history) × IsKept g Good May last

-- An entry more, and so steps one after the other.
module _ (g : Given) (Good : List Entry → Type 0) (May : List Entry → Held → Type 0) (law : Keeps g Good May) where
  -- posts and deliveries are old, or of what may be taken
  grows : (m next : Making) (e : Entry) (more : List Post) → IsKept g Good May m → IsSound g.scenario next
      → Good (m.history ++ e ∷ []) → next.history ≡ m.history ++ e ∷ []
      → ((p : Post) → IsIn p next.posts → IsIn p m.posts ⊎ IsIn p more) → next.waiting ≡ m.waiting ++ flat_map sent more
      → ((p : Post) (h : Held) → IsIn p more → p.held ≡ Some h → May (m.history ++ e ∷ []) h) → Grows g Good May m next
  grows m next e more kept sound good grown posts waits may = record {
    kept = record {
      sound = sound;
      good = subst Good (sym grown) good;
      posts = λ p h among is. subst (λ (es : List Entry). May es h) (sym grown) (elim (posts p among) [
        | inl old ↦ law.goes_on m.history (e ∷ []) h (kept.posts p h old is)
        | inr new ↦ may p h new is
      ]);
      waiting = λ d among. subst (λ (es : List Entry). May es d.held) (sym grown)
          (elim (in_cases m.waiting (subst (λ (ds : List Delivery). IsIn d ds) waits among)) [
            | inl old ↦ law.goes_on m.history (e ∷ []) d.held (kept.waiting d old)
            | inr new ↦ let from = sent_from more d new in may from.0 d.held from.1 from.2
          ]);
    };
    more = e ∷ [];
    grown = grown;
  }

  after_grows : (m : Making) (actor : ℕ) (event : Event) → IsKept g Good May m
      → IsSound g.scenario (after g actor event m) → TakesAs May m.history event
      → Grows g Good May m (after g actor event m)
  after_grows m actor event kept sound takes =
      let is = after_is g actor event m in
      let good = law.entry m actor event kept sound takes in
      grows m (after g actor event m) (entry_at (bench_at g m.history actor) (length m.history) event)
      (posts_at g m.history actor event) kept sound good is.0
      (λ p among. elim (in_cases m.posts (subst (λ (ps : List Post). IsIn p ps) is.1 among)) [
        | inl old ↦ inl old
        | inr new ↦ inr (in_if (is_restart event) p (posts_at g m.history actor event) new)
      ]) is.2 (law.posted m actor event kept good)

  after_cry_grows : (m : Making) (master : ℕ) (s : Saying) (bytes : List ℕ) → IsKept g Good May m
      → IsSound g.scenario (after_cry g master s.to bytes m) → Cries g m master s bytes
      → Grows g Good May m (after_cry g master s.to bytes m)
  after_cry_grows m master s bytes kept sound cries =
      let is = after_cry_is g master s.to bytes m in
      grows m (after_cry g master s.to bytes m)
      (entry_at (bench_at g m.history master) (length m.history) (Cry bytes)) (cry_posts g m master s.to bytes) kept
      sound (law.cry m master s bytes kept sound cries) is.0
      (λ p among. in_cases m.posts (subst (λ (ps : List Post). IsIn p ps) is.1 among)) is.2
      (law.cry_posted m master s bytes kept cries)

  -- Steps one after the other.

  stays : (m next : Making) → IsKept g Good May m → m ≡ next → Grows g Good May m next
  stays m next kept same =
      subst (Grows g Good May m) same (record { kept = kept; more = []; grown = sym (append-nil m.history) })

  -- what leads from each such history to one that is so
  abbrev Leads : (Making → Going) → Type 0
  Leads F = (m next : Making) → IsKept g Good May m → F m ≡ Ok next → Grows g Good May m next

  then_goes_on : (going : Going) (rest : Making → Going) (m next : Making)
      → ((mid : Making) → going ≡ Ok mid → Grows g Good May m mid)
      → ((mid : Making) → Grows g Good May m mid → rest mid ≡ Ok next → Grows g Good May mid next)
      → then_goes going rest ≡ Ok next → Grows g Good May m next
  then_goes_on (Ok mid) rest m next first more is =
      let one = first mid refl in
      let two = more mid one is in
      record {
        kept = two.kept;
        more = one.more ++ two.more;
        grown = two.grown ∙ ap (λ (es : List Entry). es ++ two.more) one.grown
            ∙ append_assoc m.history one.more two.more;
      }
  then_goes_on (Err why) rest m next first more is = absurd cc

  then_keeps : (going : Going) (rest : Making → Going) (m next : Making)
      → ((mid : Making) → going ≡ Ok mid → Grows g Good May m mid)
      → Leads rest → then_goes going rest ≡ Ok next → Grows g Good May m next
  then_keeps going rest m next first more is =
      then_goes_on going rest m next first (λ mid one same. more mid next one.kept same) is

  does_keeps : (m next : Making) (actor : ℕ) (event : Event) → may_do g.scenario actor event ≡ true
      → TakesWell (setup_of g.scenario) (length m.history) event → TakesAs May m.history event → IsKept g Good May m
      → does g actor event m ≡ Ok next → Grows g Good May m next
  unfolding does
  does_keeps m next actor event may well takes kept is =
      at (has_halted g m actor) (is_full m) refl refl is
    where
      at : (halted full : Bool) → has_halted g m actor ≡ halted → is_full m ≡ full
          → cond halted (Ok m) (cond full (Err stop.TooMany) (Ok (after g actor event m))) ≡ Ok next →
          Grows g Good May m next
      at true full stopped room same = stays m next kept (same_ok same)
      at false true running room same = absurd cc
      at false false running room same =
          subst (Grows g Good May m) (same_ok same)
          (after_grows m actor event kept
          (sound_after g m actor event kept.sound (leb-false most_entries (length m.history) room) may running well)
          takes)

  took_keeps : (m next : Making) (actor : ℕ) (h : Held) → is_there g.scenario actor ≡ true
      → is_held_well (setup_of g.scenario) (length m.history) h ≡ true → May m.history h → IsKept g Good May m
      → does g actor (taking h) m ≡ Ok next → Grows g Good May m next
  took_keeps m next actor h within well may kept is =
      does_keeps m next actor (taking h) (may_take g.scenario actor h within)
      (takes_well g.scenario (length m.history) h well) may kept is

  all_tick_keeps : (actors : List ℕ) → list_all (is_there g.scenario) actors ≡ true → Leads (all_tick g actors)
  unfolding all_tick
  all_tick_keeps [] within m next kept is = stays m next kept (same_ok is)
  all_tick_keeps (actor ∷ rest) within m next kept is =
      let both = and_parts (is_there g.scenario actor) (list_all (is_there g.scenario) rest) within in
      then_keeps (does g actor Tick m) (all_tick g rest) m next
      (λ mid one. does_keeps m mid actor Tick (may_tick g.scenario actor both.0) tt tt kept one)
      (all_tick_keeps rest both.1) is

  times_keeps : (F : Making → Going) (n : ℕ) → Leads F → Leads (times_over n F)
  unfolding times_over
  times_keeps F zero keeps m next kept is = stays m next kept (same_ok is)
  times_keeps F (suc n) keeps m next kept is =
      then_keeps (F m) (times_over n F) m next (λ mid one. keeps m mid kept one) (times_keeps F n keeps) is

  pub deliver_keeps : (d : Delivery) (m next : Making) → is_due g.scenario (length m.history) d ≡ true
      → May m.history d.held → IsKept g Good May m → deliver g d m ≡ Ok next → Grows g Good May m next
  unfolding deliver
  deliver_keeps d m next due may kept is = at (is_lost m d.to || is_lost m d.from) is
    where
      at : (lost : Bool) → cond lost (Ok m) (does g d.to (taking d.held) m) ≡ Ok next → Grows g Good May m next
      at true same = stays m next kept (same_ok same)
      at false one =
          let both = and_parts (is_there g.scenario d.to) (is_held_well (setup_of g.scenario) (length m.history) d.held)
          due in
          took_keeps m next d.to d.held both.0 both.1 may kept one

  pub longer : (m next : Making) → Grows g Good May m next → length m.history ≤ length next.history
  longer m next goes =
      let same : length next.history ≡ length m.history + length goes.more = ap length goes.grown
      ∙ length-append m.history goes.more in
      omega arith

  may_still : (m next : Making) (h : Held) → Grows g Good May m next → May m.history h → May next.history h
  may_still m next h goes may = subst (λ (es : List Entry). May es h) (sym goes.grown)
      (law.goes_on m.history goes.more h may)

  deliver_all_keeps : (waiting : List Delivery) (m next : Making)
      → list_all (is_due g.scenario (length m.history)) waiting ≡ true
      → ((d : Delivery) → IsIn d waiting → May m.history d.held) → IsKept g Good May m
      → deliver_all g waiting m ≡ Ok next → Grows g Good May m next
  unfolding deliver_all
  deliver_all_keeps [] m next due may kept is = stays m next kept (same_ok is)
  deliver_all_keeps (d ∷ rest) m next due may kept is =
      let both = and_parts (is_due g.scenario (length m.history) d)
      (list_all (is_due g.scenario (length m.history)) rest) due in
      then_goes_on (deliver g d m) (deliver_all g rest) m next
      (λ mid one. deliver_keeps d m mid both.0 (may d (here rest)) kept one)
      (λ mid one more. deliver_all_keeps rest mid next
      (all_due_later g.scenario (length m.history) (length mid.history) rest (longer m mid one) both.1)
      (λ x h. may_still m mid x.held one (may x (there d rest h))) one.kept more) is

  -- nothing waits any more, or others are lost
  none_waits : (m : Making) → IsKept g Good May m → IsKept g Good May (record m { waiting = [] })
  none_waits m kept = record {
    sound = emptied g.scenario m kept.sound;
    good = kept.good;
    posts = kept.posts;
    waiting = λ d h. absurd (none_in h);
  }

  others_lost : (m : Making) (lost : List ℕ) → IsKept g Good May m → IsKept g Good May (record m { lost = lost })
  others_lost m lost kept = record {
    sound = record {
      legal = kept.sound.legal;
      short = kept.sound.short;
      posts = kept.sound.posts;
      waiting = kept.sound.waiting;
    };
    good = kept.good;
    posts = kept.posts;
    waiting = kept.waiting;
  }

  round_keeps : Leads (round g)
  unfolding round
  round_keeps m next kept is =
      let step = deliver_all_keeps m.waiting (record m { waiting = [] }) next kept.sound.waiting kept.waiting
      (none_waits m kept) is in
      record { kept = step.kept; more = step.more; grown = step.grown }

  takes_keeps : (actor : ℕ) (r : Ref) → is_there g.scenario actor ≡ true → Leads (takes g actor r)
  unfolding takes
  takes_keeps actor r within m next kept is =
      at (has_halted g m actor) (post_named m.posts r) refl is
    where
      at : (halted : Bool) (o : Option (Option Held)) → post_named m.posts r ≡ o →
          cond halted (Ok m) (takes_held g actor o m) ≡ Ok next → Grows g Good May m next
      at true o named same = stays m next kept (same_ok same)
      at false None named same = absurd cc
      at false (Some None) named same = stays m next kept (same_ok same)
      at false (Some (Some h)) named same =
          let from = named_from m.posts r h named in
          took_keeps m next actor h within
          (named_is_well g.scenario (length m.history) m.posts r (Some h) kept.sound.posts named)
          (kept.posts from.0 h from.1 from.2) kept same

  cries_keeps : (master : ℕ) → IsScenario g.scenario → are_sayings_of g.scenario g.sayings ≡ true
      → is_intruded g.scenario master ≡ true → Leads (cries g master)
  unfolding cries
  cries_keeps master valid words intruded m next kept is = at (next_word g m master) refl is
    where
      say : (s : Saying) → next_word g m master ≡ Some s → (full : Bool) → is_full m ≡ full → (o : Option (List ℕ))
          → spoken (bench_at g m.history master) s.word ≡ o
          → cond full (Err stop.TooMany) (cries_bytes g master s.to o m) ≡ Ok next → Grows g Good May m next
      say s found true room o spoke same = absurd cc
      say s found false room None spoke same = absurd cc
      say s found false room (Some bytes) spoke same =
          subst (Grows g Good May m) (same_ok same)
          (after_cry_grows m master s bytes kept
          (sound_after_cry g m master s.to bytes valid kept.sound (leb-false most_entries (length m.history) room)
          intruded (word_to g.scenario s (next_passes (is_saying_of g.scenario) g m master s words found)))
          (record { intruded = intruded; next = found; spoke = spoke }))

      at : (o : Option Saying) → next_word g m master ≡ o → cries_word g master o m ≡ Ok next → Grows g Good May m next
      at None found same = absurd cc
      at (Some s) found same = say s found (is_full m) refl (spoken (bench_at g m.history master) s.word) refl same

  goes_keeps : (s : Step) → IsScenario g.scenario → are_sayings_of g.scenario g.sayings ≡ true
      → is_step_of g.scenario s ≡ true → Leads (goes g s)
  unfolding goes is_step_of
  goes_keeps (step.Tick who times) valid words may m next kept is =
      times_keeps (all_tick g (ticking_in g.scenario who)) times
      (all_tick_keeps (ticking_in g.scenario who) (tickers_there g.scenario who may)) m next kept is
  goes_keeps (step.Flow rounds) valid words may m next kept is =
      times_keeps (round g) rounds round_keeps m next kept is
  goes_keeps (step.Lose actor) valid words may m next kept is =
      subst (Grows g Good May m) (same_ok is)
      (record { kept = others_lost m _ kept; more = []; grown = sym (append-nil m.history) })
  goes_keeps (step.Heal actor) valid words may m next kept is =
      subst (Grows g Good May m) (same_ok is)
      (record { kept = others_lost m _ kept; more = []; grown = sym (append-nil m.history) })
  goes_keeps step.Drop valid words may m next kept is =
      subst (Grows g Good May m) (same_ok is)
      (record { kept = none_waits m kept; more = []; grown = sym (append-nil m.history) })
  goes_keeps (step.Take actor r) valid words may m next kept is =
      takes_keeps actor r (and_parts (is_there g.scenario actor) (is_named g.scenario r) may).0 m next kept is
  goes_keeps (step.Command screen op) valid words may m next kept is =
      does_keeps m next screen (Command op) may tt tt kept is
  goes_keeps (step.Field proxy area place value) valid words may m next kept is =
      does_keeps m next proxy (Field area place value) may tt tt kept is
  goes_keeps (step.Poll proxy) valid words may m next kept is =
      does_keeps m next proxy Poll may tt tt kept is
  goes_keeps (step.Cry master times) valid words may m next kept is =
      times_keeps (cries g master) times (cries_keeps master valid words may) m next kept is
  goes_keeps (step.Restart actor) valid words may m next kept is =
      does_keeps m next actor Restart may tt tt kept is

  plays_on : (line : Line) (going : Going) (rest : Making → Result (List Entry) (ℕ × StepRefusal))
      (m : Making) (history : List Entry)
      → ((mid : Making) → going ≡ Ok mid → Grows g Good May m mid)
      → ((mid : Making) → IsKept g Good May mid → rest mid ≡ Ok history → Ends g Good May history)
      → then_plays line.number going rest ≡ Ok history → Ends g Good May history
  plays_on line (Ok mid) rest m history first more is = more mid (first mid refl).kept is
  plays_on line (Err why) rest m history first more is = absurd cc

  pub all_played : (lines : List Line) (m : Making) (history : List Entry) → IsScenario g.scenario
      → are_sayings_of g.scenario g.sayings ≡ true → are_lines_of g.scenario lines ≡ true → IsKept g Good May m
      → played_from g lines m ≡ Ok history → Ends g Good May history
  unfolding played_from
  all_played [] m history valid words may kept is = (m, same_history m history is, kept)
  all_played (line ∷ rest) m history valid words may kept is =
      let both = and_parts (is_step_of g.scenario line.step)
      (list_all (λ (l : Line). is_step_of g.scenario l.step) rest) may in
      plays_on line (goes g line.step m) (played_from g rest) m history
      (λ mid one. goes_keeps line.step valid words both.0 m mid kept one)
      (λ mid ok more. all_played rest mid history valid words both.1 ok more) is

pub beginning_sound : (c : Contents) → IsSound c beginning
unfolding most_entries
beginning_sound c = record { legal = none_is_legal (setup_of c); short = omega arith; posts = refl; waiting = refl }

pub beginning_kept : (g : Given) {Good : List Entry → Type 0} {May : List Entry → Held → Type 0} → Good []
    → IsKept g Good May beginning
beginning_kept g good = record {
  sound = beginning_sound g.scenario;
  good = good;
  posts = λ p h among is. absurd (none_in among);
  waiting = λ d h. absurd (none_in h);
}
