use Rattle.std.proofs.Common.{arith, sym}
use Rattle.std.proofs.lemmas.List.{take_all, drop_all}
use Rattle.command_ends.specs.Output.{piece_length}
use Rattle.command_ends.proofs.output.next_piece.Goals as goal

pub returns-clause-piece : goal.returns-clause-piece
returns-clause-piece c = sym (take_all piece_length c.args.text.now (omega arith))

pub returns-clause-after : goal.returns-clause-after
returns-clause-after c = sym (drop_all piece_length c.args.text.now (omega arith))
