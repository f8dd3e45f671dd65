-- The five parts are appended in turn, each that of the definition, since the bench shows what it does.
use Rattle.std.proofs.Common.{◌≡◌, ◌∙◌, ◌++◌, ap, drop, map}
use Rattle.std.specs.List.{filter_map}
use Rattle.std.specs.Option.{option_to_list}
use Rattle.std.proofs.lemmas.Result.{on_ok_weaker}
use Rattle.world_entries.specs.Entries.{entry_of}
use Rattle.run_questions.specs.DelaysText.{entered, execution_of, happening_at, shown_of, spoken_in, whats_since}
use Rattle.run_questions.proofs.Watched.{parts_appended}
use Rattle.run_questions.proofs.delays.happened.add_happened.Goals as goal

pub returns : goal.returns
returns c =
    on_ok_weaker c.add_shown.result
    (λ made. parts_appended (happening_at c.args.entry.now.stamp c.args.entry.now.actor)
    (option_to_list c.tick_in.result) (option_to_list c.view_entered.result)
    (filter_map spoken_in c.as_slice.result.now) (map execution_of c.behind.result.now)
    (map shown_of c.behind-2.result.now) _ c.args.happened.now.items _ _ _ _ _ c.in_ok-add_if.ensures
    c.in_ok-add_if-2.ensures c.in_ok-add_said.ensures c.in_ok-add_executed.ensures made
    (λ j. c.tick_in.ensures j
    ++ (c.view_entered.ensures ∙ ap (entered c.args.came.view) (c.view.ensures c.requires)) j
    ++ filter_map spoken_in (c.as_slice.ensures j)
    ++ map execution_of ((c.behind.ensures ∙ ap (drop c.args.came.executed) (c.executions.ensures c.requires)) j)
    ++ map shown_of ((c.behind-2.ensures ∙ ap (drop c.args.came.shown) (c.board.ensures c.requires)) j)))
    c.add_shown.ensures
