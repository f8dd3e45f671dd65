-- The definitions of a play, a step at a time.
use Rattle.std.proofs.Common.{◌≡◌, ℕ, Bool, true, false, cond, List, [], ◌∷◌, Option, Some, None, Ok, Err, refl, ap}
use Rattle.std.proofs.Common.{◌∙◌}
use Rattle.history_rules.specs.Events.{Event, Tick}
use Rattle.run_scripts.specs.declared.answer.StepRefusal.{StepRefusal}
use Rattle.run_scripts.specs.declared.answer.StepRefusal.TheVariants as stop
use Rattle.run_scripts.specs.declared.mail.Held.{Held}
use Rattle.run_scripts.specs.declared.mail.Delivery.{Delivery}
use Rattle.play_words.specs.declared.words.Ref.{Ref}
use Rattle.run_scripts.specs.Mail.{post_named, taking}
use Rattle.run_scripts.specs.Making.{Given, Making, Going, then_goes, has_halted, is_full, is_lost, after, does}
use Rattle.run_scripts.specs.Making.{all_tick, deliver, deliver_all, round, takes, takes_held}

pub ticks_more : (g : Given) (actor : ℕ) (rest : List ℕ) (m : Making) →
    all_tick g (actor ∷ rest) m ≡ then_goes (does g actor Tick m) (all_tick g rest)
unfolding all_tick
ticks_more g actor rest m = refl

pub ticks_end : (g : Given) (m : Making) → all_tick g [] m ≡ Ok m
unfolding all_tick
ticks_end g m = refl

pub deliveries_more : (g : Given) (d : Delivery) (rest : List Delivery) (m : Making) →
    deliver_all g (d ∷ rest) m ≡ then_goes (deliver g d m) (deliver_all g rest)
unfolding deliver_all
deliveries_more g d rest m = refl

pub deliveries_end : (g : Given) (m : Making) → deliver_all g [] m ≡ Ok m
unfolding deliver_all
deliveries_end g m = refl

pub round_is : (g : Given) (m : Making) → round g m ≡ deliver_all g m.waiting (record m { waiting = [] })
unfolding round
round_is g m = refl

pub halted_does : (g : Given) (actor : ℕ) (event : Event) (m : Making) → has_halted g m actor ≡ true →
    does g actor event m ≡ Ok m
unfolding does
halted_does g actor event m halted =
    ap (λ b. cond b (Ok m) (cond (is_full m) (Err stop.TooMany) (Ok (after g actor event m)))) halted

pub full_does : (g : Given) (actor : ℕ) (event : Event) (m : Making) → has_halted g m actor ≡ false →
    is_full m ≡ true → does g actor event m ≡ Err stop.TooMany
unfolding does
full_does g actor event m running full =
    ap (λ b. cond b (Ok m) (cond (is_full m) (Err stop.TooMany) (Ok (after g actor event m)))) running
    ∙ ap (λ b. cond b (Err stop.TooMany) (Ok (after g actor event m))) full

pub acts_does : (g : Given) (actor : ℕ) (event : Event) (m : Making) → has_halted g m actor ≡ false →
    is_full m ≡ false → does g actor event m ≡ Ok (after g actor event m)
unfolding does
acts_does g actor event m running room =
    ap (λ b. cond b (Ok m) (cond (is_full m) (Err stop.TooMany) (Ok (after g actor event m)))) running
    ∙ ap (λ b. cond b (Err stop.TooMany) (Ok (after g actor event m))) room
