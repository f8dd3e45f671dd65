-- Plays that stop at their first line, runs in which nothing happens, histories that are none, files that nobody kept, and parts of no text.
use Rattle.std.specs.Prelude.{◌≡◌, [], Some, Err}
use Rattle.command_ends.specs.declared.refusal.KeepFault.TheVariants as keep
use Rattle.command_ends.specs.declared.refusal.LineFault.TheVariants as line
use Rattle.command_ends.specs.declared.refusal.NoAnswer.TheVariants as none
use Rattle.run_commands.specs.Readers.{Readers, NoRequest}

abbrev pub unplayed : Readers
unplayed = record {
  played = λ c lines sayings. Err (line.NoFrame, 1);
  may_run = λ c lines sayings turns history. history ≡ [];
  history_in = λ c text. Err (line.BadLine, 1);
  may_join = λ c kept history. ⊥;
  join_fault = λ c kept. Some (0, keep.BadLine 1);
  text_of = λ c history. [];
  as_told = λ c history. history;
  answered = λ c history question. Err none.NoMatch;
  rebuilt = λ c text. Err NoRequest.NoText;
}
