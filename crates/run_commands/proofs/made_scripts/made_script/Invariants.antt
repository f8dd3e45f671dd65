use Rattle.std.proofs.Common.{◌≡◌, ◌*◌}
use Rattle.std.specs.Prelude.{string_bytes}
use Rattle.run_commands.specs.MadeScript.{draw, rounds_text}
use Rattle.run_commands.proofs.made_scripts.made_script.Given as goal

abbrev pub invariant-loop-round : goal.invariant-loop-round
invariant-loop-round l = record {
  last : l.last ≡ draw l.number (2 * l._round);
  made : string_bytes l.text ≡ rounds_text l.number l._round;
}
