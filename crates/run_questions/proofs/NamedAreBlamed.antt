-- Those that are named, and the text that names them.
use Rattle.std.proofs.Common.{◌≡◌, ℕ, List, [], ◌++◌, map, sym, ◌∙◌, ap}
use Rattle.protocol_rules.specs.Group.{Group}
use Rattle.scenario_file.specs.Reading.{Contents}
use Rattle.history_rules.specs.Events.{Entry}
use Rattle.world_entries.specs.declared.entry.Entry.{Entry as KeptEntry}
use Rattle.world_entries.specs.Entries.{entry_of}
use Rattle.world_rules.specs.Scenarios.{masters_in, setup_of}
use Rattle.world_rules.proofs.Fields.{group_is}
use Rattle.blame_check.specs.declared.pairs.Named.{Named}
use Rattle.blame_check.specs.Contradictions.{named}
use Rattle.blame_check.specs.Laws.{words_taken, blamed}
use Rattle.run_questions.specs.BlameText.{named_lines, blame_text}

pub named_is : (c : Contents) (history : List Entry) (n : ℕ) → n ≡ masters_in c →
    named n (words_taken history) ≡ blamed (setup_of c) history
named_is c history n is =
    ap (λ (k : ℕ). named k (words_taken history)) (is ∙ sym (ap (λ (g : Group). g.n) (group_is c)))

-- those named for the entries as they are kept
pub pairs_are : (c : Contents) (history : List Entry) (entries : List KeptEntry) (n : ℕ) (pairs : List Named) →
    n ≡ masters_in c → map entry_of entries ≡ history
    → pairs ≡ named n (words_taken (map entry_of entries)) → pairs ≡ blamed (setup_of c) history
pairs_are c history entries n pairs size whole is = is ∙ ap (λ (es : List Entry). named n (words_taken es)) whole
    ∙ named_is c history n size

pub text_put : (c : Contents) (history : List Entry) (pairs : List Named) (old new : List ℕ) → old ≡ [] →
    new ≡ old ++ named_lines pairs
    → pairs ≡ blamed (setup_of c) history → new ≡ blame_text c history
text_put c history pairs old new empty put are = put ∙ ap (λ (t : List ℕ). t ++ named_lines pairs) empty
    ∙ ap named_lines are
