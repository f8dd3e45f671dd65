-- What plain entries determine is the same of the same ones.
use Rattle.std.proofs.Common.{List, map, sym, ◌∙◌, ap}
use Rattle.history_rules.specs.Events.{Event, Entry}
use Rattle.history_rules.specs.Keeping.{is_halted}
use Rattle.history_rules.specs.Legal.{says_in}
use Rattle.world_rules.specs.Scenarios.{setup_of}
use Rattle.joint_lists.specs.Plain.{without_place, plain}
use Rattle.joint_lists.specs.Laws.{SameEntriesGoTheSame}
use Rattle.joint_lists.proofs.PlainEvents.{fits_plain}
use Rattle.joint_lists.proofs.PlainLists.{halted_plain}
use Rattle.joint_lists.proofs.PlainWords.{says_plain}

pub same_entries_go_the_same : SameEntriesGoTheSame
same_entries_go_the_same c actor xs ys same = record {
  words = λ event other alike.
      sym (says_plain c actor xs event)
      ∙ ap (λ (es : List Entry). says_in (setup_of c) actor es (without_place event)) same
      ∙ ap (λ (x : Event). says_in (setup_of c) actor (map plain ys) x) alike
      ∙ says_plain c actor ys other;
  halted = sym (halted_plain (setup_of c) actor xs) ∙ ap (is_halted (setup_of c) actor) same
      ∙ halted_plain (setup_of c) actor ys;
  roles = λ event other alike. sym (fits_plain c actor event) ∙ ap (λ (x : Event). (setup_of c).fits actor x) alike
      ∙ fits_plain c actor other;
}
