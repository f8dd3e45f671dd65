-- The status of each refusal, and the line that tells of it. (This project's own.)
use Rattle.std.specs.Prelude.{ℕ, List, ◌++◌, codes, decimal}
use Rattle.command_ends.specs.declared.refusal.ScenarioFault.{ScenarioFault}
use Rattle.command_ends.specs.declared.refusal.ScenarioFault.TheVariants as scenario
use Rattle.command_ends.specs.declared.refusal.LineFault.{LineFault}
use Rattle.command_ends.specs.declared.refusal.LineFault.TheVariants as line
use Rattle.command_ends.specs.declared.refusal.KeepFault.{KeepFault}
use Rattle.command_ends.specs.declared.refusal.KeepFault.TheVariants as keep
use Rattle.command_ends.specs.declared.refusal.NoAnswer.{NoAnswer}
use Rattle.command_ends.specs.declared.refusal.NoAnswer.TheVariants as none
use Rattle.command_ends.specs.declared.refusal.Refusal.{Refusal}
use Rattle.command_ends.specs.declared.refusal.Refusal.TheVariants as refusal

abbrev pub status_of : Refusal → ℕ
status_of refusal.Usage = 2
status_of (refusal.Fault name) = 3
status_of (refusal.TooLong name) = 3
status_of (refusal.Scenario fault) = 4
status_of (refusal.Script fault number) = 5
status_of (refusal.Words fault number) = 5
status_of (refusal.History fault number) = 5
status_of (refusal.Pieces number) = 5
status_of (refusal.Keep name fault) = 5
status_of refusal.Output = 6
status_of refusal.Memory = 7
status_of refusal.NotVerified = 8
status_of (refusal.NoAnswer why) = 9

-- a scenario's fault by its name, with the key's
abbrev pub scenario_fault_text : ScenarioFault → List ℕ
scenario_fault_text scenario.BadToml = codes "BadToml"
scenario_fault_text (scenario.MissingKey name) = codes "MissingKey " ++ name
scenario_fault_text (scenario.BadValue name) = codes "BadValue " ++ name
scenario_fault_text (scenario.TooMany name) = codes "TooMany " ++ name
scenario_fault_text (scenario.UnknownKey name) = codes "UnknownKey " ++ name

-- a line's fault by its name
abbrev pub line_fault_name : LineFault → List ℕ
line_fault_name line.BadLine = codes "BadLine"
line_fault_name line.NoActor = codes "NoActor"
line_fault_name line.NoFrame = codes "NoFrame"
line_fault_name line.TooMany = codes "TooMany"
line_fault_name line.NotLegal = codes "NotLegal"

-- why a file isn't what a station kept, by its name, with the line or the stamp
abbrev pub keep_fault_text : KeepFault → List ℕ
keep_fault_text (keep.BadLine number) = codes "BadLine " ++ decimal number
keep_fault_text (keep.NotLegal stamp) = codes "NotLegal " ++ decimal stamp
keep_fault_text (keep.OtherWords stamp) = codes "OtherWords " ++ decimal stamp
keep_fault_text keep.Twice = codes "Twice"

-- the command that has nothing to print, with the cause by its name
abbrev pub no_answer_text : NoAnswer → List ℕ
no_answer_text none.NotCertified = codes "parts NotCertified"
no_answer_text none.NoText = codes "rebuild NoText"
no_answer_text none.NoPoint = codes "trend NoPoint"
no_answer_text none.BadRange = codes "trend BadRange"
no_answer_text (none.NotReached executed) = codes "trend NotReached " ++ decimal executed
no_answer_text none.NoMatch = codes "trend NoMatch"
no_answer_text none.BadPart = codes "picture BadRange"
no_answer_text (none.NoSuchEntry last) = codes "picture NotReached " ++ decimal last
no_answer_text none.NoPlot = codes "plot NoPoint"

-- the line of a file's fault at a number
unfoldable pub fault_line : List ℕ → LineFault → ℕ → List ℕ
fault_line file fault number =
    codes "spire: " ++ file ++ codes " " ++ line_fault_name fault ++ codes " " ++ decimal number ++ codes "\n"

abbrev pub line_text : Refusal → List ℕ
line_text refusal.Usage = codes "spire: usage\n"
line_text (refusal.Fault name) = codes "spire: file " ++ name ++ codes " fault\n"
line_text (refusal.TooLong name) = codes "spire: file " ++ name ++ codes " too long\n"
line_text (refusal.Scenario fault) = codes "spire: scenario " ++ scenario_fault_text fault ++ codes "\n"
line_text (refusal.Script fault number) = fault_line (codes "script") fault number
line_text (refusal.Words fault number) = fault_line (codes "words") fault number
line_text (refusal.History fault number) = fault_line (codes "history") fault number
line_text (refusal.Pieces number) = fault_line (codes "parts") line.BadLine number
line_text (refusal.Keep name fault) =
    codes "spire: keep " ++ name ++ codes " " ++ keep_fault_text fault ++ codes "\n"
line_text refusal.NotVerified = codes "spire: not verified\n"
line_text (refusal.NoAnswer why) = codes "spire: " ++ no_answer_text why ++ codes "\n"
line_text refusal.Output = codes "spire: output fault\n"
line_text refusal.Memory = codes "spire: memory\n"
