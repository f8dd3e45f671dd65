-- The first word that tells of bodies said parts the words into event and kinds. Where there is none all words
-- are the event's, as the definition has it.
use Rattle.std.proofs.Common.{◌∙◌, None, sym, subst}
use Rattle.script_grammar.specs.Faults.{Answers}
use Rattle.run_lines.proofs.ReadLaws.{parted_at, says_splits}
use Rattle.run_lines.proofs.entry_line.event_and_kinds.Goals as goal

pub returns-in-None : goal.returns-in-None
returns-in-None c =
    subst (Answers c.without_kinds.result)
    (sym (parted_at c.args.words.now None (sym c.says_place.ensures.place ∙ c.in-None.is)))
    (c.without_kinds.ensures _ c.read_event.ensures)

pub returns-in-Some : goal.returns-in-Some
returns-in-Some c =
    subst (Answers c.both.result)
    (says_splits c.args.words.now c.in-Some.place (sym c.says_place.ensures.place ∙ c.in-Some.is))
    (c.both.ensures _ _ c.read_event-in-Some.ensures c.kinds.ensures)
