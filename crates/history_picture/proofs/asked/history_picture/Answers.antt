-- What is drawn, or why nothing is, goes by the range that is asked for.
use Rattle.std.proofs.Common.{ℕ, ◌∙◌, ap}
use Rattle.scenario_file.specs.Reading.{contents}
use Rattle.history_picture.specs.Pictures.{picture_in, range_of}
use Rattle.history_picture.proofs.Asking.{draws_fault, range_drawn, range_refused}
use Rattle.history_picture.proofs.asked.history_picture.Goals as goal

pub returns-in-Ok-drawn_in : goal.returns-in-Ok-drawn_in
returns-in-Ok-drawn_in c =
    range_drawn (contents c.args.scenario.now) c.args.history.now c.args.first c.args.last c.args.width
    c.range_of.result c.in-Ok.range c.in-Ok-drawn_in.text.items
    (c.range_of.ensures ∙ ap (λ (n : ℕ). range_of n c.args.first c.args.last) c.len.ensures) c.in-Ok.is
    c.in-Ok-drawn_in.ensures

pub returns-in-Err : goal.returns-in-Err
returns-in-Err c =
    draws_fault
    (picture_in (contents c.args.scenario.now) c.args.history.now c.args.first c.args.last c.args.width)
    c.in-Err.fault
    (range_refused (contents c.args.scenario.now) c.args.history.now c.args.first c.args.last c.args.width
    c.range_of.result c.in-Err.fault
    (c.range_of.ensures ∙ ap (λ (n : ℕ). range_of n c.args.first c.args.last) c.len.ensures) c.in-Err.is)
