-- The benches show what any of the history do, whatever words intruded masters signed outside it.
use Rattle.std.proofs.Common.{◌∙◌, ap, length, sym}
use Rattle.std.specs.Option.{option_copied}
use Rattle.scenario_file.specs.Reading.{contents}
use Rattle.axis_pictures.specs.Plots.{plot_text}
use Rattle.history_picture.proofs.Furthest.{benches_work, no_plot, plot_is}
use Rattle.history_picture.proofs.asked.point_plot.Goals as goal

pub furthest-executed-requires : goal.furthest-executed-requires
furthest-executed-requires c = benches_work _ c.requires.benches.0 c.args.benches.now c.requires.benches.1

pub returns-in_default : goal.returns-in_default
returns-in_default c = λ history are.
    no_plot (contents c.args.scenario.now) history c.args.number c.args.width
    (sym c.get.ensures ∙ ap option_copied c.in_default.is)

pub returns-in-Ok : goal.returns-in-Ok
returns-in-Ok c = λ history are.
    plot_is (contents c.args.scenario.now) history c.args.number c.args.width c.args.benches.now
    c.furthest-executed.result.now c.in-Some.point.now c.into_bytes.result.items are c.furthest-executed.ensures
    (sym c.get.ensures ∙ ap option_copied c.in-Some.is)
    (ap (λ v. v.items) c.into_bytes.ensures.value ∙ c.in-Ok.ensures
    ∙ (λ j. plot_text (record { width = c.from.ensures j; count = length c.furthest-executed.result.now }) c.args.number
    c.in-Some.point.now (c.as_slice-alarms.ensures j) c.furthest-executed.result.now))
