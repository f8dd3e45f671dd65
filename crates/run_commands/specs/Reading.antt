-- What a file's content leads to: the next step, where it is accepted, or the refusal. (This project's own.)
use Rattle.std.specs.Prelude.{ℕ, List, Result, Ok, Err}
use Rattle.scenario_file.specs.Reading.{Contents}
use Rattle.script_grammar.specs.declared.fault.ScriptRefusal.{ScriptRefusal}
use Rattle.script_grammar.specs.declared.fault.ScriptRefusal.TheVariants as script
use Rattle.script_grammar.specs.Names.{who_of}
use Rattle.script_lines.specs.Scripts.{script_in}
use Rattle.script_lines.specs.Sayings.{words_in}
use Rattle.script_lines.specs.declared.script.Line.{Line}
use Rattle.script_lines.specs.declared.saying.Saying.{Saying}
use Rattle.history_rules.specs.Events.{Entry}
use Rattle.command_ends.specs.Steps.{Step}
use Rattle.command_ends.specs.Steps.Step.{Gives, Refuses}
use Rattle.command_ends.specs.declared.refusal.LineFault.{LineFault}
use Rattle.command_ends.specs.declared.refusal.LineFault.TheVariants as line
use Rattle.command_files.specs.Scenarios.{scenario_at, scenario_refusal}
use Rattle.command_ends.specs.declared.refusal.Refusal.{Refusal}
use Rattle.command_ends.specs.declared.refusal.Refusal.TheVariants as refusal
use Rattle.command_ends.specs.declared.refusal.NoAnswer.{NoAnswer}
use Rattle.run_commands.specs.declared.questions.Question.{Question}
use Rattle.run_commands.specs.Readers.{Readers, request_refusal}

abbrev pub script_refusal : ScriptRefusal → Refusal
script_refusal (script.BadLine number) = refusal.Script line.BadLine number
script_refusal (script.NoActor number) = refusal.Script line.NoActor number
script_refusal script.Want = refusal.Memory

abbrev pub words_refusal : ScriptRefusal → Refusal
words_refusal (script.BadLine number) = refusal.Words line.BadLine number
words_refusal (script.NoActor number) = refusal.Words line.NoActor number
words_refusal script.Want = refusal.Memory

-- the next step after an answer: that of the value, or the refusal of the fault
abbrev pub accepted : {A E : Type 0} → (E → Refusal) → Result A E → (A → Step) → Step
accepted refuse (Ok value) onward = onward value
accepted refuse (Err e) onward = Refuses (refuse e)

abbrev pub with_scenario : List ℕ → (Contents → Step) → Step
with_scenario bytes onward = accepted scenario_refusal (scenario_at bytes) onward

abbrev pub with_script : Contents → List ℕ → (List Line → Step) → Step
with_script c bytes onward = accepted script_refusal (script_in (who_of c) bytes) onward

abbrev pub with_words : Contents → List ℕ → (List Saying → Step) → Step
with_words c bytes onward = accepted words_refusal (words_in (who_of c) bytes) onward

-- a play that stops counts as its script's fault
abbrev pub with_play : Readers → Contents → List Line → List Saying → (List Entry → Step) → Step
with_play r c lines sayings onward = accepted (λ (e : LineFault × ℕ). refusal.Script e.0 e.1)
    (r.played c lines sayings) onward

abbrev pub with_history : Readers → Contents → List ℕ → (List Entry → Step) → Step
with_history r c bytes onward = accepted (λ (e : LineFault × ℕ). refusal.History e.0 e.1) (r.history_in c bytes) onward

-- what a question over a history comes to
abbrev pub with_answer : Readers → Contents → List Entry → Question → Step
with_answer r c history question = accepted (λ (why : NoAnswer). refusal.NoAnswer why) (r.answered c history question)
    (λ text. Gives text)

-- what lines of parts come to
abbrev pub with_pieces : Readers → Contents → List ℕ → Step
with_pieces r c bytes = accepted request_refusal (r.rebuilt c bytes) (λ text. Gives text)
