-- A text asks for what its words ask for; what is no text asks for nothing clear.
use Rattle.std.proofs.Common.{◌≡◌, IfOk, ◌∙◌, ap, subst}
use Rattle.script_grammar.specs.Lines.{texts, words_of}
use Rattle.station_rules.specs.Answers.{Asked, words_asked}
use Rattle.stations.specs.Asking.{asked_by}
use Rattle.stations.proofs.Asked.{asked_text, asked_none}
use Rattle.stations.proofs.asking.line_ask.Goals as goal

pub returns-in_ok-words-in-Ok-clause-asked : goal.returns-in_ok-words-in-Ok-clause-asked
returns-in_ok-words-in-Ok-clause-asked c =
    subst (λ (a : Asked). IfOk c.words_ask.result (λ ask. asked_by ask ≡ a))
    (ap words_asked
    (ap texts c.as_slice.ensures.value ∙ c.in_ok-words-in-Ok.ensures ∙ ap words_of c.in-Ok.ensures.cases.0)
    ∙ asked_text c.args.line.now c.in-Ok.ensures.cases.1)
    c.words_ask.ensures.asked

pub returns-in-Err-clause-asked : goal.returns-in-Err-clause-asked
returns-in-Err-clause-asked c = asked_none c.args.line.now c.in-Err.ensures.cases.0
