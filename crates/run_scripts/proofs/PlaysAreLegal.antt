-- Each history that a script and words define is legal: soundness alone is what its entries keep.
use Rattle.std.proofs.Common.{◌≡◌, ◌≤◌, true, List, Ok, length, subst}
use Rattle.history_rules.specs.Events.{Entry}
use Rattle.history_rules.specs.Setup.{own}
use Rattle.history_rules.specs.Legal.{IsLegal}
use Rattle.history_laws.proofs.OwnEntries.{own_of_legal}
use Rattle.history_laws.proofs.BenchLists.{own_history_is_bench_list}
use Rattle.world_rules.specs.Scenarios.{setup_of}
use Rattle.run_scripts.specs.declared.mail.Held.{Held}
use Rattle.run_scripts.specs.declared.mail.Delivery.{Delivery}
use Rattle.run_scripts.specs.Making.{Given, Making, most_entries, deliver, beginning, played}
use Rattle.run_scripts.specs.Laws.{PlayedIsLegal}
use Rattle.run_scripts.specs.Playing.{IsSound, is_due}
use Rattle.run_scripts.proofs.PlayKeeps.{IsKept, Keeps, all_played, beginning_kept, deliver_keeps, longer}

abbrev Any : List Entry → Type 0
Any history = Unit {0}

abbrev AnyHeld : List Entry → Held → Type 0
AnyHeld history h = Unit {0}

any_keeps : (g : Given) → Keeps g Any AnyHeld
any_keeps g = record {
  goes_on = λ history more h may. tt;
  entry = λ m actor event kept sound takes. tt;
  posted = λ m actor event kept good p h among is. tt;
  cry = λ m master s bytes kept sound cries. tt;
  cry_posted = λ m master s bytes kept cries p h among is. tt;
}

-- a delivery takes no entry away
pub deliver_longer : (g : Given) (d : Delivery) (m next : Making) → is_due g.scenario (length m.history) d ≡ true →
    IsSound g.scenario m → deliver g d m ≡ Ok next → length m.history ≤ length next.history
deliver_longer g d m next due sound is =
    let kept : IsKept g Any AnyHeld m =
    record { sound = sound; good = tt; posts = λ p h among held. tt; waiting = λ x among. tt } in
    longer g Any AnyHeld (any_keeps g) m next (deliver_keeps g Any AnyHeld (any_keeps g) d m next due tt kept is)

pub played_is_legal : PlayedIsLegal
unfolding played
played_is_legal g lines history valid may words is =
    let all = all_played g Any AnyHeld (any_keeps g) lines beginning history valid words may
    (beginning_kept g tt) is in
    let legal : IsLegal (setup_of g.scenario) history =
    subst (IsLegal (setup_of g.scenario)) all.1 all.2.sound.legal in
    record {
      legal = legal;
      short = subst (λ (h : List Entry). length h ≤ most_entries) all.1 all.2.sound.short;
      lists = λ actor. own_history_is_bench_list (setup_of g.scenario) actor (own history actor)
          (own_of_legal (setup_of g.scenario) history actor legal);
    }
