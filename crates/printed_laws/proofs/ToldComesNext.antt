-- When the entry that a line tells comes next.
use Rattle.std.proofs.Common.{◌≡◌, ℕ, Bool, true, cond, ◌&&◌, List, [], ◌∷◌, Some, None, length, map, nat_eq, refl}
use Rattle.std.proofs.Common.{◌∙◌, ap}
use Rattle.std.proofs.lemmas.Slice.Eq.{bytes_eq-Decides}
use Rattle.message_types.specs.declared.body.Body.{Body}
use Rattle.script_grammar.specs.declared.kinds.Kind.{Kind}
use Rattle.script_grammar.specs.Kinds.{kind_number}
use Rattle.history_rules.specs.Events.{Event, Entry}
use Rattle.history_rules.specs.Setup.{Setup}
use Rattle.history_rules.specs.Legal.{says}
use Rattle.run_lines.specs.Names.{kind_of}
use Rattle.run_lines.specs.declared.entry_line.EntryLine.{EntryLine}
use Rattle.printed_history.specs.Histories.{event_from, frame_stands, standing_event, is_running, are_kinds}
use Rattle.printed_history.specs.Histories.{entry_with, entry_of_event, entry_by, entry_from}

-- The line tells an event that the actor may have next, and these bodies are what it says at it.
pub record TellsNext (w : Setup) (before : List Entry) (l : EntryLine) (actor : ℕ) (event : Event)
    (said : List Body) : Type 0 where
  pub who : l.actor ≡ Some actor
  pub now : nat_eq l.stamp (length before) ≡ true
  pub running : is_running w before actor ≡ true
  pub what : event_from w before l.event ≡ Some event
  pub stand : frame_stands w event ≡ true
  pub role : w.fits actor event ≡ true
  pub answer : says w before actor event ≡ said
  pub kinds : are_kinds l.kinds said ≡ true

event_comes : (w : Setup) (before : List Entry) (actor : ℕ) (kinds : List Kind) (event : Event) (said : List Body) →
    w.fits actor event ≡ true → says w before actor event ≡ said
    → are_kinds kinds said ≡ true → entry_of_event w before actor kinds (Some event) ≡ Some
    (entry_with before actor event said)
event_comes w before actor kinds event said role answer are =
    (λ i. cond (role i && are_kinds kinds (answer i)) (Some (entry_with before actor event (answer i))) None)
    ∙ ap (λ (b : Bool). cond b (Some (entry_with before actor event said)) None) are

pub entry_comes : (w : Setup) (before : List Entry) (l : EntryLine) (actor : ℕ) (event : Event) (said : List Body) →
    TellsNext w before l actor event said
    → entry_from w before l ≡ Some (entry_with before actor event said)
unfolding entry_from
entry_comes w before l actor event said tells =
    ap (entry_by w before l) tells.who
    ∙ (λ i. cond (tells.now i && tells.running i)
    (entry_of_event w before actor l.kinds (standing_event w (tells.what i))) None)
    ∙ ap (λ (b : Bool). entry_of_event w before actor l.kinds (cond b (Some event) None)) tells.stand
    ∙ event_comes w before actor l.kinds event said tells.role tells.answer tells.kinds

numbers_same : (said : List Body) → map kind_number (map kind_of said) ≡ map (λ b. kind_number (kind_of b)) said
numbers_same [] = refl
numbers_same (b ∷ said) = ap (λ (ns : List ℕ). kind_number (kind_of b) ∷ ns) (numbers_same said)

-- bodies are of their own kinds
pub own_kinds : (said : List Body) → are_kinds (map kind_of said) said ≡ true
own_kinds said = (bytes_eq-Decides (map kind_number (map kind_of said)) (map (λ b. kind_number (kind_of b)) said)).1
    (numbers_same said)
