-- What is told on a line may be said once the entry that the line makes is durable.
use Rattle.std.proofs.Common.{ℕ, Bool, true, false, List, [], ◌∷◌, ◌++◌, Option, Some, None, refl, append-nil}
use Rattle.std.specs.Prelude.{codes}
use Rattle.history_rules.specs.Events.{Entry}
use Rattle.agreement.proofs.Places.{stands_last}
use Rattle.scenario_file.specs.Reading.{Contents, cast_of}
use Rattle.world_history.specs.Benches.{bench_in}
use Rattle.station_rules.specs.Coming.{is_repeated, entry_given, first_entry}
use Rattle.station_rules.specs.Notes.{begun_note, reached}
use Rattle.station_lives.specs.Saying.{SaidBy, IsNote, word_lines}
use Rattle.station_rules.specs.Answers.{Start, Given, Again, Unclear, refusal, entry_answer, start_answer, told_at, answer}
use Rattle.station_rules.specs.Answers.{line_asked, after_asked}
use Rattle.station_rules.specs.Laws.{AnswerIsSaid, LinesAreSaid}
use Rattle.station_lives.proofs.Saying.{said_more, said_after, one_note, entry_said, since_said}
use Rattle.station_rules.proofs.Noting.{notes_said, begun_is_note}

refusal_is_note : (b : Bool) → IsNote (refusal b)
refusal_is_note true = record { text = codes "repeated"; one = refl; is = refl }
refusal_is_note false = record { text = codes "refused"; one = refl; is = refl }

-- an entry's words, and what its actor came to
told_said : (c : Contents) (list : List Entry) (e : Entry) → SaidBy c (list ++ e ∷ []) (told_at c list e)
told_said c list e =
    said_after (word_lines c list e) (entry_said c (list ++ e ∷ []) list e (stands_last list e))
    (notes_said c (list ++ e ∷ []) (cast_of c.settings c.plant) (reached (bench_in c list e.actor))
    (bench_in c (list ++ e ∷ []) e.actor))

started_said : (c : Contents) (actor : ℕ) (list : List Entry) (o : Option Entry) →
    SaidBy c (list ++ (start_answer c actor list o).entries) (start_answer c actor list o).told
started_said c actor list None = one_note c (list ++ []) (begun_note c actor list) (begun_is_note c actor list)
started_said c actor list (Some e) =
    said_after (begun_note c actor list)
    (one_note c (list ++ e ∷ []) (begun_note c actor list) (begun_is_note c actor list)) (told_said c list e)

pub answer_is_said : AnswerIsSaid
answer_is_said c actor list Start = started_said c actor list (first_entry c actor list)
answer_is_said c actor list (Given l) = by (entry_given c actor list l)
  where
    by : (o : Option Entry) → SaidBy c (list ++ (entry_answer c list l o).entries) (entry_answer c list l o).told
    by None = one_note c (list ++ []) (refusal (is_repeated list l)) (refusal_is_note (is_repeated list l))
    by (Some e) = told_said c list e
answer_is_said c actor list (Again stamp) = since_said c (list ++ []) stamp [] list (append-nil list)
answer_is_said c actor list Unclear =
    one_note c (list ++ []) _ (record { text = codes "badline"; one = refl; is = refl })

pub lines_are_said : LinesAreSaid
lines_are_said c actor work [] said = said
lines_are_said c actor work (line ∷ rest) said =
    lines_are_said c actor (after_asked c actor work (line_asked line)) rest
    (said_after work.told (said_more (answer c actor work.list (line_asked line)).entries said)
    (answer_is_said c actor work.list (line_asked line)))
