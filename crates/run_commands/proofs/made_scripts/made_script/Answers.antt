-- Two draws follow each other in each round, so the text so far is that of the rounds so far and the last draw
-- is the definition's. Both go one round further with each turn.
use Rattle.std.proofs.Common.{sym, ◌∙◌}
use Rattle.run_commands.proofs.MadePieces.{draw-none, rounds-none, last-more, round-more}
use Rattle.run_commands.proofs.made_scripts.made_script.Goals as goal

pub loop-round-init : goal.loop-round-init
loop-round-init c = record {
  last = sym (draw-none c.args.number);
  made = c.new-text.ensures.bytes ∙ sym (rounds-none c.args.number);
}

pub loop-round-preserved : goal.loop-round-preserved
loop-round-preserved c = record {
  last = last-more c.args.number c.loop-round._round c.loop-round.last c.next_draw-current.result
      c.next_draw-last.result
      c.loop-round.invariant.last c.next_draw-current.ensures c.next_draw-last.ensures;
  made = round-more c.args.number c.loop-round._round c.loop-round.last c.next_draw-current.result
      c.next_draw-last.result _ _
      c.loop-round.invariant.last c.next_draw-current.ensures c.next_draw-last.ensures c.loop-round.invariant.made
      c.in_ok-put_round.ensures;
}
