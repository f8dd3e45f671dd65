use Rattle.std.proofs.Common.{◌≡◌}
use Rattle.std.specs.Prelude.{string_bytes}
use Rattle.scenario_file.specs.Reading.{contents}
use Rattle.run_commands.specs.Keys.{key_lines}
use Rattle.run_commands.proofs.actor_lines.keys_text.Given as goal

abbrev pub invariant-loop-actor : goal.invariant-loop-actor
invariant-loop-actor l = string_bytes l.text ≡ key_lines (contents l.scenario) l.actor
