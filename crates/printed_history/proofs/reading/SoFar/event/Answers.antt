-- A line that takes a frame finds it among what was said or reads it from bytes, and each other line tells its
-- event as it is.
use Rattle.std.proofs.Common.{refl, sym, ◌∙◌, ap}
use Rattle.run_lines.specs.declared.event_line.EventLine.TheVariants as line
use Rattle.world_entries.specs.declared.entry.Event.TheVariants as kept
use Rattle.printed_history.proofs.EventTold.{plain_event, found_so}
use Rattle.printed_history.proofs.reading.SoFar.event.Goals as goal

pub returns-in-Said : goal.returns-in-Said
returns-in-Said c = found_so c.args.self.now c.said.result c.args.line (line.Said c.in-Said.stamp c.in-Said.place)
    (sym c.in-Said.is) c.said.ensures

pub returns-in-Frame : goal.returns-in-Frame
returns-in-Frame c =
    found_so c.args.self.now c.told.result c.args.line (line.Frame c.as_slice.result.now)
    (ap line.Frame c.as_slice.ensures ∙ sym c.in-Frame.is) c.told.ensures

pub returns-in-Tick : goal.returns-in-Tick
returns-in-Tick c = plain_event c.args.self.now c.args.line line.Tick kept.Tick c.in-Tick.is refl

pub returns-in-Command : goal.returns-in-Command
returns-in-Command c = plain_event c.args.self.now c.args.line (line.Command c.in-Command.op)
    (kept.Command c.in-Command.op) c.in-Command.is refl

pub returns-in-Field : goal.returns-in-Field
returns-in-Field c =
    plain_event c.args.self.now c.args.line (line.Field c.in-Field.area c.in-Field.place c.in-Field.value)
    (kept.Field c.in-Field.area c.in-Field.place c.in-Field.value) c.in-Field.is refl

pub returns-in-Poll : goal.returns-in-Poll
returns-in-Poll c = plain_event c.args.self.now c.args.line line.Poll kept.Poll c.in-Poll.is refl

pub returns-in-Cry : goal.returns-in-Cry
returns-in-Cry c = plain_event c.args.self.now c.args.line (line.Cry c.in-Cry.bytes)
    (kept.Cry c.in-Cry.bytes) c.in-Cry.is refl

pub returns-in-Skip : goal.returns-in-Skip
returns-in-Skip c = plain_event c.args.self.now c.args.line line.Skip kept.Skip c.in-Skip.is refl

pub returns-in-Restart : goal.returns-in-Restart
returns-in-Restart c = plain_event c.args.self.now c.args.line line.Restart kept.Restart c.in-Restart.is refl
