-- The text put is the one that the command gave for these words and files: so where memory ends while it is
-- put, a beginning of that text was put.
use Rattle.std.proofs.Common.{[], map, string_bytes, sym, subst}
use Rattle.command_ends.specs.Steps.Step.{Gives}
use Rattle.command_ends.specs.Calls.{Call, call_of, Comes}
use Rattle.command_ends.proofs.Endings.{puts_in_memory}
use Rattle.command_ends.proofs.call.run.Goals as goal

pub returns-in-Ok-clause-memory : goal.returns-in-Ok-clause-memory
returns-in-Ok-clause-memory g c =
    let call : Call = call_of (map string_bytes c.args.words.now) (g.F.Files.held c.args.files.now)
    (g.F.Files.faults c.args.files.now) (g.F.Files.faults c.text.new.files) (g.O.Sink.faults c.args.out.now)
    (g.O.Sink.faults c.put.new.out) (g.O.Sink.told c.args.out.now) (g.O.Sink.told c.put.new.out) in
    let comes : Comes (g.C.Commands.next call.words) call.held [] (Gives c.as_slice.result.now) =
    subst (λ text. Comes (g.C.Commands.next call.words) call.held [] (Gives text)) (sym c.as_slice.ensures.value)
    c.in-Ok.ensures.cause in
    puts_in_memory g.C.Commands.next call c.as_slice.result.now c.put.result comes c.put.ensures.cause
