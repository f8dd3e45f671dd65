-- Deliveries that are due stay so while others are taken.
use Rattle.std.proofs.Common.{◌≡◌, ℕ, ◌≤◌, drop, get_or, Bool, true, false, cond, ◌||◌, [], ◌++◌, List, Option}
use Rattle.std.proofs.Common.{length, Result, Ok, refl, ap, ◌∙◌, subst, sym, arith, nat_eq}
use Rattle.std.specs.List.{list_all, list_any}
use Rattle.std.proofs.lemmas.Bool.{and_parts}
use Rattle.history_rules.specs.Events.{Event}
use Rattle.history_rules.specs.Legal.{TakesWell}
use Rattle.world_rules.specs.Scenarios.{setup_of, actors_in}
use Rattle.script_laws.specs.Accepted.{is_there, may_do}
use Rattle.run_scripts.specs.declared.answer.StepRefusal.{StepRefusal}
use Rattle.run_scripts.specs.Mail.{taking}
use Rattle.script_lines.specs.Given.{own_words}
use Rattle.std.specs.declared.vec.Vec.{Vec}
use Rattle.std.specs.declared.alloc.Global.{Global}
use Rattle.run_scripts.specs.declared.mail.Held.{Held}
use Rattle.run_scripts.specs.declared.mail.Delivery.{Delivery}
use Rattle.run_scripts.specs.declared.playing.Playing.{Playing}
use Rattle.run_scripts.specs.Making.{Given, Making, Going, is_cry, is_lost, does, deliver, deliver_all, round}
use Rattle.run_scripts.specs.Playing.{IsMaking, IsPlaying, IsMail, AreSlots, Goes, is_due, is_held_well, slots_of}
use Rattle.run_scripts.proofs.SoundStays.{all_due_later}
use Rattle.run_scripts.proofs.PlayKeeps.{may_take, takes_well, emptied}
use Rattle.run_scripts.proofs.PlaysAreLegal.{deliver_longer}
use Rattle.run_scripts.proofs.PlaySteps.{round_is}

pub due_after : (g : Given) {done : Unit {0}} (d : Delivery) (p q : Playing) (rest : List Delivery) → IsPlaying g p
    → ((m : Making) → IsMaking g m p → Goes g (Ok done) (deliver g d m) q) → (is_due g.scenario p.entries d ≡ true)
    × (list_all (is_due g.scenario p.entries) rest ≡ true)
    → list_all (is_due g.scenario q.entries) rest ≡ true
due_after g d p q rest playing does due =
    let m = playing.making in
    let is = playing.is in
    let went = does m is in
    let here : is_due g.scenario (length m.history) d ≡ true =
    subst (λ (n : ℕ). is_due g.scenario n d ≡ true) is.entries due.0 in
    let longer = deliver_longer g d m went.0 here is.sound went.1 in
    all_due_later g.scenario p.entries q.entries rest (omega (arith, longer, is.entries, went.2.entries)) due.1

cut_off_is : (m : Making) (d : Delivery) (lost : List ℕ) (b : Bool) → lost ≡ m.lost →
    b ≡ (list_any (nat_eq d.to) lost || list_any (nat_eq d.from) lost) → b ≡ (is_lost m d.to || is_lost m d.from)
cut_off_is m d lost b same is = is ∙ ap (λ (ls : List ℕ). list_any (nat_eq d.to) ls || list_any (nat_eq d.from) ls) same

delivers : (g : Given) (d : Delivery) (m : Making) (b : Bool) → b ≡ (is_lost m d.to || is_lost m d.from) →
    deliver g d m ≡ cond b (Ok m) (does g d.to (taking d.held) m)
unfolding deliver
delivers g d m b is = ap (λ c. cond c (Ok m) (does g d.to (taking d.held) m)) (sym is)

-- a delivery that is cut off is thrown away
pub cut_off : (g : Given) {done : Unit {0}} (d : Delivery) (m : Making) (p : Playing) (lost : List ℕ) (b : Bool) →
    IsMaking g m p → lost ≡ p.lost.items
    → b ≡ (list_any (nat_eq d.to) lost || list_any (nat_eq d.from) lost) → b ≡ true → Goes g (Ok done) (deliver g d m) p
cut_off g d m p lost b is at tells so = (
  m,
  delivers g d m b (cut_off_is m d lost b (at ∙ is.lost) tells)
      ∙ ap (λ c. cond c (Ok m) (does g d.to (taking d.held) m)) so,
  is,
)

-- any other is taken
pub taken : (g : Given) (r : Result (Unit {0}) StepRefusal) (d : Delivery) (m : Making) (p q : Playing)
    (event : Event) (lost : List ℕ) (b : Bool) → IsMaking g m p → lost ≡ p.lost.items
    → b ≡ (list_any (nat_eq d.to) lost || list_any (nat_eq d.from) lost) → b ≡ false → event ≡ taking d.held →
    Goes g r (does g d.to event m) q → Goes g r (deliver g d m) q
taken g r d m p q event lost b is at tells so same goes =
    subst (λ (going : Going). Goes g r going q)
    (ap (λ (e : Event). does g d.to e m) same
    ∙ sym (delivers g d m b (cut_off_is m d lost b (at ∙ is.lost) tells)
    ∙ ap (λ c. cond c (Ok m) (does g d.to (taking d.held) m)) so)) goes

pub due_may : (g : Given) (d : Delivery) (now : ℕ) (event : Event) → is_due g.scenario now d ≡ true →
    event ≡ taking d.held
    → (may_do g.scenario d.to event ≡ true) × (is_cry event ≡ false) × TakesWell (setup_of g.scenario) now event
due_may g d now event due same =
    let parts = and_parts (is_there g.scenario d.to) (is_held_well (setup_of g.scenario) now d.held) due in (
      subst (λ (e : Event). may_do g.scenario d.to e ≡ true) (sym same) (may_take g.scenario d.to d.held parts.0),
      subst (λ (e : Event). is_cry e ≡ false) (sym same) refl,
      subst (λ (e : Event). TakesWell (setup_of g.scenario) now e) (sym same)
          (takes_well g.scenario now d.held parts.1),
    )

-- the play with nothing on its way
pub emptied_play : (g : Given) (m : Making) (p q : Playing) → IsMaking g m p → q.kept.items ≡ p.kept.items →
    q.entries ≡ p.entries → q.mail.slots.items ≡ p.mail.slots.items
    → q.mail.waiting.items ≡ [] → q.lost.items ≡ p.lost.items → q.said.items ≡ p.said.items →
    IsMaking g (record m { waiting = [] }) q
emptied_play g m p q is kept entries slots none lost said = record {
  sound = emptied g.scenario m is.sound;
  many = ap length kept ∙ is.many;
  kept = λ actor k below at. is.kept actor k below (at ∙ ap (λ ks. get_or ks actor k) kept);
  entries = entries ∙ is.entries;
  mail = record {
    slots = subst (λ (ss : List (Vec (Option Held) Global)). AreSlots (actors_in g.scenario) m.posts
        (slots_of ss)) (sym slots) is.mail.slots;
    waiting = none;
  };
  lost = lost ∙ is.lost;
  speakers = ap length said ∙ is.speakers;
  said = λ actor below. ap (λ (ps : List ℕ). own_words actor (drop (get_or ps actor 0) g.sayings)) said
      ∙ is.said actor below;
}

pub waiting_due : (g : Given) (p : Playing) (n : ℕ) (waiting : List Delivery) → IsPlaying g p →
    waiting ≡ p.mail.waiting.items → n ≡ p.entries → list_all (is_due g.scenario n) waiting ≡ true
waiting_due g p n waiting playing are count =
    let m = playing.making in
    subst (λ (ds : List Delivery). list_all (is_due g.scenario n) ds ≡ true) (sym (are ∙ playing.is.mail.waiting))
    (subst (λ (k : ℕ). list_all (is_due g.scenario k) m.waiting ≡ true) (sym (count ∙ playing.is.entries))
    playing.is.sound.waiting)

pub round_goes : (g : Given) (r : Result (Unit {0}) StepRefusal) (m : Making) (p q : Playing)
    (waiting : List Delivery) → IsMaking g m p → waiting ≡ p.mail.waiting.items
    → Goes g r (deliver_all g waiting (record m { waiting = [] })) q → Goes g r (round g m) q
round_goes g r m p q waiting is are goes =
    subst (λ (going : Going). Goes g r going q)
    (ap (λ (ds : List Delivery). deliver_all g ds (record m { waiting = [] })) (are ∙ is.mail.waiting)
    ∙ sym (round_is g m)) goes
