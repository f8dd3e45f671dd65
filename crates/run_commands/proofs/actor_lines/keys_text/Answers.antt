-- The text so far has the lines of the actors below; each turn adds the next actor's name and key.
use Rattle.std.proofs.Common.{sym, ◌∙◌, ◌++◌, ap}
use Rattle.scenario_file.specs.Reading.{contents}
use Rattle.run_commands.specs.Keys.{key_line}
use Rattle.run_commands.proofs.KeyLines.{no-lines, one-more}
use Rattle.run_commands.proofs.actor_lines.keys_text.Goals as goal

pub loop-actor-init : goal.loop-actor-init
loop-actor-init c = c.new-text.ensures.bytes ∙ sym (no-lines (contents c.args.scenario.now))

pub loop-actor-preserved : goal.loop-actor-preserved
loop-actor-preserved c =
    c.in_ok-put_key.ensures ∙ ap (λ t. t ++ key_line (contents c.args.scenario.now) c.loop-actor.actor)
    c.loop-actor.invariant
    ∙ sym (one-more (contents c.args.scenario.now) c.loop-actor.actor)
