-- The text is made of first line, states, totals, count and entries in this order, each appended to what stands
-- there. As the benches are those of the history, all of it is told of that history.
use Rattle.std.proofs.Common.{List, ℕ, ◌++◌, ◌∙◌, ap}
use Rattle.std.specs.Prelude.{string_bytes}
use Rattle.scenario_file.specs.Reading.{contents}
use Rattle.printed_run.proofs.BenchesMakeText.{all_are, states_text}
use Rattle.printed_run.proofs.WholeText.{text_put}
use Rattle.printed_run.proofs.printing.write_run_of.Goals as goal

pub put_states-requires-clause-benches : goal.put_states-requires-clause-benches
put_states-requires-clause-benches c =
    all_are (contents c.args.scenario.now) c.args.history.now c.args.benches.now c.requires.benches

pub returns-clause-text : goal.returns-clause-text
returns-clause-text c =
    ap (λ v. v.items) c.into_bytes.ensures.value
    ∙ text_put (contents c.args.scenario.now) c.args.history.now (string_bytes c.in_ok-text.text)
    (string_bytes c.put_states.new.text) (string_bytes c.put_totals.new.text)
    (string_bytes c.put_count.new.text) (string_bytes c.put_entries.new.text) c.len.result c.in_ok-text.ensures.ok
    (c.in_ok-put_states.ensures ∙ ap (λ (t : List ℕ). string_bytes c.in_ok-text.text ++ t)
    (states_text (contents c.args.scenario.now) c.args.history.now c.args.benches.now c.requires.benches))
    c.in_ok-put_totals.ensures c.in_ok-put_count.ensures c.len.ensures c.in_ok-put_entries.ensures.text
