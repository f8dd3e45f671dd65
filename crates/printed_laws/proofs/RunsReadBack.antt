-- A printed run is read back.
use Rattle.std.proofs.Common.{◌≡◌, ℕ, ◌<◌, ◌^◌, List, [], ◌++◌, Ok, length, map, append_assoc, refl, ◌∙◌, ap, arith}
use Rattle.std.specs.Prelude.{codes}
use Rattle.std.specs.List.{All, flat_map}
use Rattle.scenario_file.specs.Reading.{Contents}
use Rattle.scenario_file.specs.Valid.{IsScenario}
use Rattle.history_rules.specs.Events.{Entry}
use Rattle.history_rules.specs.Legal.{IsLegal}
use Rattle.world_rules.specs.Scenarios.{setup_of}
use Rattle.run_lines.specs.Texts.{count_text}
use Rattle.run_lines.specs.Runs.{run_in}
use Rattle.printed_run.specs.Printed.{cast_in, is_said, entry_line, actors_text, totals_text, text_of}
use Rattle.printed_history.specs.Histories.{history_of, history_in}
use Rattle.printed_laws.specs.Lines.{line_read}
use Rattle.printed_laws.proofs.LinesReadBack.{printed_lines_read_back}
use Rattle.printed_run.specs.Tellable.{CanBeTold}
use Rattle.printed_laws.specs.RunLaws.{PrintedRunsReadBack, TextsTellHistories}
use Rattle.printed_laws.proofs.HeldIsPrintable.{few_actors, held_can_be_told, all_printable}
use Rattle.printed_laws.proofs.HistoryHeadsPassed.{heads_are_passed}
use Rattle.printed_laws.proofs.LinesTellEntries.{entries_told}
use Rattle.printed_laws.proofs.PrintedAgain.{text_again}

lines_back : (c : Contents) (history : List Entry) → IsScenario c → IsLegal (setup_of c) history →
    length history < 2 ^ 32
    → All (λ e. CanBeTold (is_said (setup_of c) history e.event) e.event) history
    → run_in (cast_in c) (text_of c history) ≡ Ok
    (map (λ e. line_read (is_said (setup_of c) history e.event) e) history)
unfolding text_of
lines_back c history scenario legal short can =
    ap (λ (bs : List ℕ). run_in (cast_in c) (bs ++ count_text (length history) ++ flat_map (entry_line c history)
    history)) (append_assoc (codes "spire 1\n") (actors_text c history) (totals_text (setup_of c) history))
    ∙ printed_lines_read_back (cast_in c) (actors_text c history ++ totals_text (setup_of c) history)
    (λ e. is_said (setup_of c) history e.event) history (few_actors c scenario)
    (heads_are_passed c history) (omega (arith, short)) (all_printable c history [] history legal short refl can)

pub texts_tell_histories : TextsTellHistories
unfolding history_in
texts_tell_histories c history scenario legal short can =
    ap (history_of (setup_of c)) (lines_back c history scenario legal short can)
    ∙ entries_told c history [] history legal refl can

pub printed_runs_read_back : PrintedRunsReadBack
printed_runs_read_back c history scenario legal held short = record {
  read = texts_tell_histories c history scenario legal short (held_can_be_told (setup_of c) history history held);
  again = text_again c history held;
}
