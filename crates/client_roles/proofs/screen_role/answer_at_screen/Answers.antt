-- A command is said and counted where there is room, else nothing happens; a frame only adds the vote in it; at
-- any other event the screen says nothing and stays.
use Rattle.std.proofs.Common.{◌∙◌}
use Rattle.vouched_orders.proofs.TallyLaws.{on_err}
use Rattle.client_roles.proofs.Answering.{commanded, command_said, desk_stays, idle, no_room_unsaid, took}
use Rattle.client_roles.proofs.Answering.{took_unsaid, unmoved, wordless}
use Rattle.world_entries.specs.Entries.{event_of}
use Rattle.world_rules.specs.Clients.{screen_says}
use Rattle.client_roles.proofs.screen_role.answer_at_screen.Goals as goal

pub returns-then-no_room-clause-said : goal.returns-then-no_room-clause-said
returns-then-no_room-clause-said c = λ s has. no_room_unsaid c.args.room c.new.result.items
    (screen_says s (event_of c.args.event.now)) c.if-no_room.true c.new.ensures.items

pub returns-then-no_room-clause-after : goal.returns-then-no_room-clause-after
returns-then-no_room-clause-after c = idle c.args.screen.now c.args.event.now c.in-Command.op c.new.result.items
    c.in-Command.is c.new.ensures.items

pub returns-else-no_room-clause-said : goal.returns-else-no_room-clause-said
returns-else-no_room-clause-said c =
    command_said c.say_command.result (λ said. said.items) c.args.screen.now c.args.event.now c.in-Command.op
    c.args.room c.in-Command.is c.if-no_room.false c.say_command.ensures.said

pub returns-else-no_room-clause-err : goal.returns-else-no_room-clause-err
returns-else-no_room-clause-err c =
    desk_stays c.say_command.result c.args.screen.now c.say_command.new.screen c.say_command.ensures.err

pub returns-else-no_room-clause-after : goal.returns-else-no_room-clause-after
returns-else-no_room-clause-after c =
    commanded c.say_command.result (λ said. said.items) c.args.screen.now c.say_command.new.screen c.args.event.now
    c.in-Command.op c.in-Command.is
    c.say_command.ensures.said c.say_command.ensures.counted

pub returns-in_err-hear-in-Took-clause-err : goal.returns-in_err-hear-in-Took-clause-err
returns-in_err-hear-in-Took-clause-err c =
    on_err c.from_residual.result (λ s has. c.in_err-hear-in-Took.ensures.err s has)

pub returns-in_ok-hear-in-Took-clause-said : goal.returns-in_ok-hear-in-Took-clause-said
returns-in_ok-hear-in-Took-clause-said c = λ s has.
    took_unsaid s c.args.event.now c.args.room c.new-in-Took.result.items c.in-Took.stamp c.in-Took.place
    c.in-Took.frame c.in-Took.is c.new-in-Took.ensures.items

pub returns-in_ok-hear-in-Took-clause-after : goal.returns-in_ok-hear-in-Took-clause-after
returns-in_ok-hear-in-Took-clause-after c =
    took c.args.screen.now c.hear.new.screen c.args.event.now c.new-in-Took.result.items c.in-Took.stamp
    c.in-Took.place c.in-Took.frame c.frame.result.now
    c.in-Took.is c.frame.ensures.frame c.new-in-Took.ensures.items c.in_ok-hear-in-Took.ensures.ok

pub returns-in_default : goal.returns-in_default
returns-in_default c = record {
  said = λ s has. c.new-in_default.ensures.items ∙ wordless s c.args.event.now c.args.room c.in_default.not-Command;
  after = unmoved c.args.screen.now c.args.event.now c.new-in_default.result.items c.in_default.not-Took
      c.new-in_default.ensures.items;
  err = tt;
}
