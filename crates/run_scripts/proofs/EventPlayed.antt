-- An actor's event in a play at work: what its call may ask, and where the play stands after it.
use Rattle.std.proofs.Common.{◌≡◌, ℕ, suc, Ok, Err, ◌+◌, ◌*◌, ◌^◌, ◌<◌, ◌≤◌, Bool, true, false, not, ◌&&◌, List, []}
use Rattle.std.proofs.Common.{◌∷◌, ◌++◌, length, get_or, set, nat_lt, refl, sym, ◌∙◌, ap, subst, arith}
use Rattle.std.specs.List.{list_all, flat_map}
use Rattle.std.proofs.lemmas.Bool.{and_parts, and_from, lt-ltb, ltb-true, le-leb, lt-leb}
use Rattle.std.proofs.lemmas.List.{length-map}
use Rattle.message_types.specs.declared.signed.Signed.{Signed}
use Rattle.message_types.specs.declared.body.Body.{Body}
use Rattle.scenario_file.specs.Reading.{Contents}
use Rattle.scenario_file.specs.Valid.{IsScenario}
use Rattle.history_rules.specs.Events.{Event, Entry, is_restart}
use Rattle.history_rules.specs.Setup.{Setup, stands, own}
use Rattle.history_rules.specs.Legal.{TakesWell}
use Rattle.world_rules.specs.Frames.{addressees}
use Rattle.world_rules.specs.Scenarios.{setup_of, fits_in, actors_in}
use Rattle.world_rules.proofs.Fields.{setup_goes_by}
use Rattle.world_history.specs.State.{BenchState, setup_in, with_entry}
use Rattle.world_history.specs.KeptState.{KeptState, halted_in, frames_kept}
use Rattle.script_laws.specs.Accepted.{is_there, may_do}
use Rattle.run_scripts.specs.declared.answer.StepRefusal.{StepRefusal}
use Rattle.run_scripts.specs.declared.answer.StepRefusal.TheVariants as stop
use Rattle.run_scripts.specs.declared.mail.Post.{Post}
use Rattle.run_scripts.specs.declared.mail.Delivery.{Delivery}
use Rattle.run_scripts.specs.declared.mail.Mail.{Mail}
use Rattle.run_scripts.specs.declared.playing.Playing.{Playing}
use Rattle.run_scripts.specs.Mail.{post_to, posts_from, sent}
use Rattle.run_scripts.specs.Making.{Given, Making, Going, is_cry, is_full, has_halted, most_entries, bench_at}
use Rattle.run_scripts.specs.Making.{stamp_said, posts_at, after, does}
use Rattle.run_scripts.specs.Playing.{IsMaking, IsPlaying, IsMail, IsKeptAt, Goes, slots_of, slot_at, has_slot}
use Rattle.run_scripts.specs.Playing.{new_posts}
use Rattle.world_history.proofs.Addressed.{few_actors}
use Rattle.run_scripts.proofs.KindsAreFew.{kinds_are_few}
use Rattle.run_scripts.proofs.SoundStays.{stamps_below}
use Rattle.run_scripts.proofs.EventAdds.{sound_after, acted}
use Rattle.run_scripts.proofs.PlaySteps.{halted_does, full_does, acts_does}
use Rattle.history_rules.proofs.Entries.{own_fewer}

-- the actor's place in the list of all
pub place_there : (g : Given) (p : Playing) (actor : ℕ) → IsPlaying g p → is_there g.scenario actor ≡ true →
    actor < length p.kept.items
place_there g p actor playing there = omega (arith, playing.is.many, ltb-true actor (actors_in g.scenario) there)

pub kept_here : (g : Given) (m : Making) (p : Playing) (actor : ℕ) (k : KeptState) → IsMaking g m p →
    is_there g.scenario actor ≡ true → k ≡ get_or p.kept.items actor k → IsKeptAt g m.history actor k
kept_here g m p actor k is there at = is.kept actor k (ltb-true actor (actors_in g.scenario) there) at

-- what holds of the actor as the history has it, holds of it here
pub of_bench : (P : BenchState → Type 0) (g : Given) (m : Making) (p : Playing) (actor : ℕ) (k : KeptState) →
    IsMaking g m p → is_there g.scenario actor ≡ true
    → k ≡ get_or p.kept.items actor k → P (bench_at g m.history actor) → P k.bench
of_bench P g m p actor k is there at h = subst P (sym (kept_here g m p actor k is there at).bench) h

pub its_world : (g : Given) (p : Playing) (actor : ℕ) (k : KeptState) → IsPlaying g p →
    is_there g.scenario actor ≡ true → k ≡ get_or p.kept.items actor k → g.scenario ≡ k.bench.world
unfolding bench_at
its_world g p actor k playing there at =
    of_bench (λ b. g.scenario ≡ b.world) g playing.making p actor k playing.is there at refl

pub its_running : (g : Given) (p : Playing) (actor : ℕ) (k : KeptState) → IsPlaying g p →
    is_there g.scenario actor ≡ true → k ≡ get_or p.kept.items actor k
    → ((m : Making) → IsMaking g m p → has_halted g m actor ≡ false) → halted_in k.bench ≡ false
its_running g p actor k playing there at runs =
    of_bench (λ b. halted_in b ≡ false) g playing.making p actor k playing.is there at (runs playing.making playing.is)

pub its_role : (g : Given) (p : Playing) (actor : ℕ) (event : Event) (k : KeptState) → IsPlaying g p →
    may_do g.scenario actor event ≡ true → k ≡ get_or p.kept.items actor k
    → (setup_in k.bench).fits k.bench.actor event ≡ true
unfolding bench_at
its_role g p actor event k playing may at =
    let parts = and_parts (is_there g.scenario actor) (fits_in g.scenario actor event) may in
    of_bench (λ b. (setup_in b).fits b.actor event ≡ true) g playing.making p actor k playing.is parts.0 at
    ((setup_goes_by g.scenario).fits actor event ∙ parts.1)

pub its_stamps : (g : Given) (p : Playing) (actor : ℕ) (k : KeptState) → IsPlaying g p →
    is_there g.scenario actor ≡ true → k ≡ get_or p.kept.items actor k
    → list_all (λ (e : Entry). nat_lt e.stamp p.entries) k.bench.list ≡ true
unfolding bench_at
its_stamps g p actor k playing there at =
    of_bench (λ b. list_all (λ (e : Entry). nat_lt e.stamp p.entries) b.list ≡ true)
    g playing.making p actor k playing.is there at
    (subst (λ (n : ℕ). list_all (λ (e : Entry). nat_lt e.stamp n) (own playing.making.history actor) ≡ true)
    (sym playing.is.entries)
    (stamps_below (setup_of g.scenario) playing.making.history actor playing.is.sound.legal))

pub it_takes : (g : Given) (p : Playing) (actor : ℕ) (event : Event) (k : KeptState) → IsPlaying g p →
    is_there g.scenario actor ≡ true → k ≡ get_or p.kept.items actor k
    → TakesWell (setup_of g.scenario) p.entries event → TakesWell (setup_in k.bench) p.entries event
unfolding bench_at
it_takes g p actor event k playing there at takes = of_bench (λ b. TakesWell (setup_in b) p.entries event)
    g playing.making p actor k playing.is there at takes

pub its_list_short : (g : Given) (p : Playing) (actor : ℕ) (k : KeptState) → IsPlaying g p →
    is_there g.scenario actor ≡ true → k ≡ get_or p.kept.items actor k → length k.bench.list < 2 ^ 32
unfolding bench_at most_entries
its_list_short g p actor k playing there at =
    of_bench (λ b. length b.list < 2 ^ 32) g playing.making p actor k playing.is there at
    (let short = own_fewer playing.making.history actor in let most = playing.is.sound.short in omega arith)

pub they_stand : (g : Given) (p : Playing) (actor : ℕ) (k : KeptState) (frames : List (Signed Body)) → IsPlaying g p →
    is_there g.scenario actor ≡ true → k ≡ get_or p.kept.items actor k
    → list_all (stands (setup_in k.bench)) frames ≡ true → list_all (stands (setup_of g.scenario)) frames ≡ true
they_stand g p actor k frames playing there at stand =
    subst (λ (c : Contents). list_all (stands (setup_of c)) frames ≡ true)
    (sym (its_world g p actor k playing there at)) stand

pub one_has_slot : (actors slots : ℕ) (p : Post) → actors ≤ 26 → slots ≡ 22 * actors → p.from < actors →
    p.kind < 22 → has_slot slots p ≡ true
one_has_slot actors slots p few all there narrow =
    and_from (nat_lt p.from 26 && nat_lt p.kind 22) (nat_lt (slot_at p.from p.kind) slots)
    (and_from (nat_lt p.from 26) (nat_lt p.kind 22) (lt-ltb p.from 26 (omega arith)) (lt-ltb p.kind 22 narrow))
    (lt-ltb (slot_at p.from p.kind) slots (omega arith))

slots_from : (w : Setup) (actors slots from stamp place : ℕ) (frames : List (Signed Body)) → actors ≤ 26 →
    slots ≡ 22 * actors → from < actors
    → list_all (has_slot slots) (posts_from w from stamp place frames) ≡ true
slots_from w actors slots from stamp place [] few all there = refl
slots_from w actors slots from stamp place (f ∷ rest) few all there =
    let p : Post = post_to (addressees w.group from f.body) w from stamp place f in
    and_from (has_slot slots p) (list_all (has_slot slots) (posts_from w from stamp (suc place) rest))
    (one_has_slot actors slots p few all there (kinds_are_few f.body))
    (slots_from w actors slots from stamp (suc place) rest few all there)

pub their_slots : (g : Given) (p : Playing) (from stamp : ℕ) (frames : List (Signed Body)) (posts : List Post) →
    IsScenario g.scenario → IsPlaying g p → is_there g.scenario from ≡ true
    → posts ≡ posts_from (setup_of g.scenario) from stamp 0 frames →
    list_all (has_slot (length p.mail.slots.items)) posts ≡ true
their_slots g p from stamp frames posts valid playing there are =
    ap (list_all (has_slot (length p.mail.slots.items))) are
    ∙ slots_from (setup_of g.scenario) (actors_in g.scenario) (length p.mail.slots.items) from stamp 0 frames
    (few_actors g.scenario valid)
    (sym (length-map p.mail.slots.items (λ v. v.items)) ∙ playing.is.mail.slots.all)
    (ltb-true from (actors_in g.scenario) there)

-- the play stands where the history with the event does
pub act_done : (g : Given) (m : Making) (p q : Playing) (actor : ℕ) (event : Event) (k after_it : KeptState)
    (said : ℕ) (frames : List (Signed Body)) (posts : List Post) (is_new : Bool)
    → IsMaking g m p → may_do g.scenario actor event ≡ true → is_cry event ≡ false → has_halted g m actor ≡ false →
    p.entries < most_entries
    → TakesWell (setup_of g.scenario) p.entries event → k ≡ get_or p.kept.items actor k →
    said ≡ stamp_said k.bench.list p.entries event
    → frames ≡ frames_kept k.bench p.entries event → posts ≡ posts_from (setup_of g.scenario) actor said 0 frames
    → after_it.bench ≡ with_entry k.bench p.entries event → after_it.is_spent ≡ false →
    q.kept.items ≡ set p.kept.items actor after_it → q.entries ≡ p.entries + 1
    → ((actors : ℕ) (before : List Post) (waiting : List Delivery) → IsMail actors before waiting p.mail →
    IsMail actors (before ++ new_posts is_new posts) (waiting ++ flat_map sent posts) q.mail)
    → is_new ≡ not (is_restart event) → q.lost.items ≡ p.lost.items → q.said.items ≡ p.said.items →
    IsMaking g (after g actor event m) q
unfolding posts_at bench_at
act_done g m p q actor event k after_it said frames posts is_new is may quiet running room takes at stamp framed
    posted bench works kept entries mail new lost told =
    let there = (and_parts (is_there g.scenario actor) (fits_in g.scenario actor event) may).0 in
    let here = kept_here g m p actor k is there at in
    let frames_are : frames ≡ frames_kept (bench_at g m.history actor) (length m.history) event =
    framed ∙ ap (λ (b : BenchState). frames_kept b p.entries event) here.bench
    ∙ ap (λ (n : ℕ). frames_kept (bench_at g m.history actor) n event) is.entries in
    let stamp_is : said ≡ stamp_said (own m.history actor) (length m.history) event =
    stamp ∙ ap (λ (b : BenchState). stamp_said b.list p.entries event) here.bench
    ∙ ap (λ (n : ℕ). stamp_said (own m.history actor) n event) is.entries in
    acted g m p q actor event after_it posts is
    (sound_after g m actor event is.sound (omega (arith, is.entries)) may running
    (subst (λ (n : ℕ). TakesWell (setup_of g.scenario) n event) is.entries takes))
    (ltb-true actor (actors_in g.scenario) there) quiet kept
    (bench ∙ ap (λ (b : BenchState). with_entry b p.entries event) here.bench
    ∙ ap (λ (n : ℕ). with_entry (bench_at g m.history actor) n event) is.entries)
    works (entries ∙ ap (λ (n : ℕ). n + 1) is.entries)
    (posted ∙ ap (λ (n : ℕ). posts_from (setup_of g.scenario) actor n 0 frames) stamp_is
    ∙ ap (λ (fs : List (Signed Body)). posts_from (setup_of g.scenario) actor
    (stamp_said (own m.history actor) (length m.history) event) 0 fs) frames_are)
    (subst (λ (b : Bool). IsMail (actors_in g.scenario) (m.posts ++ new_posts b posts)
    (m.waiting ++ flat_map sent posts) q.mail) new (mail (actors_in g.scenario) m.posts m.waiting is.mail))
    lost told

-- the three ways in which an event goes
pub halted_goes : (g : Given) {done : Unit {0}} (m : Making) (p : Playing) (actor : ℕ) (event : Event) (k : KeptState)
    (b : Bool) → IsMaking g m p → is_there g.scenario actor ≡ true
    → k ≡ get_or p.kept.items actor k → (k.is_spent ≡ false → b ≡ halted_in k.bench) → b ≡ true →
    Goes g (Ok done) (does g actor event m) p
halted_goes g m p actor event k b is there at tells so =
    let here = kept_here g m p actor k is there at in
    (m, halted_does g actor event m (sym (ap halted_in here.bench) ∙ sym (tells here.works) ∙ so), is)

pub runs_on : (g : Given) (m : Making) (p : Playing) (actor : ℕ) (k : KeptState) (b : Bool) → IsMaking g m p →
    is_there g.scenario actor ≡ true
    → k ≡ get_or p.kept.items actor k → (k.is_spent ≡ false → b ≡ halted_in k.bench) → b ≡ false →
    has_halted g m actor ≡ false
runs_on g m p actor k b is there at tells so =
    let here = kept_here g m p actor k is there at in sym (ap halted_in here.bench) ∙ sym (tells here.works) ∙ so

pub full_goes : (g : Given) (m : Making) (p : Playing) (actor : ℕ) (event : Event) → IsMaking g m p →
    has_halted g m actor ≡ false → most_entries ≤ p.entries
    → does g actor event m ≡ Err stop.TooMany
full_goes g m p actor event is running full =
    full_does g actor event m running (le-leb most_entries (length m.history) (omega (arith, is.entries)))

pub act_goes : (g : Given) {done : Unit {0}} (m : Making) (p q : Playing) (actor : ℕ) (event : Event) →
    IsMaking g m p → has_halted g m actor ≡ false → p.entries < most_entries
    → IsMaking g (after g actor event m) q → Goes g (Ok done) (does g actor event m) q
act_goes g m p q actor event is running room next = (
  after g actor event m,
  acts_does g actor event m running
      (lt-leb most_entries (length m.history) (omega (arith, is.entries))),
  next,
)
