-- What a play makes is legal and each of its entries is in one bench, so its text can be written. A play that
-- stops is refused with its line.
use Rattle.std.specs.declared.vec.Vec.{Vec}
use Rattle.std.specs.declared.alloc.Global.{Global}
use Rattle.scenario_file.specs.Reading.{contents}
use Rattle.world_history.specs.KeptState.{KeptState}
use Rattle.run_scripts.specs.Playing.{ArePlayed}
use Rattle.run_program.proofs.Benches.{are_after}
use Rattle.run_program.proofs.Giving.{gives_play, gives_refused}
use Rattle.run_program.proofs.played.played_text.Goals as goal

pub text_of_kept-requires-clause-kept : goal.text_of_kept-requires-clause-kept
text_of_kept-requires-clause-kept c = (
  c.in-Ok.ensures.0,
  are_after (contents c.args.scenario.now) c.args.words.now c.in-Ok.ensures.0 c.in-Ok.kept.items
      (c.played_is_legal.ensures (record { scenario = contents c.args.scenario.now; sayings = c.args.words.now })
      c.args.script.now c.in-Ok.ensures.0 c.requires.valid c.requires.lines c.requires.words c.in-Ok.ensures.1)
      c.in-Ok.ensures.2,
)

pub returns-in-Ok-text_of_kept : goal.returns-in-Ok-text_of_kept
returns-in-Ok-text_of_kept c =
    gives_play (contents c.args.scenario.now) c.args.script.now c.args.words.now c.in-Ok-text_of_kept.text
    c.in-Ok.ensures.0 c.in-Ok.ensures.1
    (c.in-Ok-text_of_kept.ensures c.in-Ok.ensures.0
    (are_after (contents c.args.scenario.now) c.args.words.now c.in-Ok.ensures.0 c.in-Ok.kept.items
    (c.played_is_legal.ensures (record { scenario = contents c.args.scenario.now; sayings = c.args.words.now })
    c.args.script.now c.in-Ok.ensures.0 c.requires.valid c.requires.lines c.requires.words c.in-Ok.ensures.1)
    c.in-Ok.ensures.2))

pub returns-in-Err : goal.returns-in-Err
returns-in-Err c =
    gives_refused {A = Vec KeptState Global}
    (λ kept history. ArePlayed (record { scenario = contents c.args.scenario.now; sayings = c.args.words.now })
    history kept.items) (contents c.args.scenario.now) c.args.script.now c.args.words.now c.in-Err.answer
    c.play_refusal.result c.play_refusal.ensures c.in-Err.ensures
