-- Why each question that ends well was answered, and each with status 9 has no answer.
use Rattle.std.proofs.Common.{◌≡◌, ℕ, Bool, true, false, List, [], ◌∷◌, Option, None, Some, Result, Ok, Err, refl}
use Rattle.std.proofs.Common.{sym, ◌∙◌, ap, subst, arith, true≢false}
use Rattle.std.specs.Prelude.{option_and_then, option_map}
use Rattle.std.proofs.lemmas.Option.{same_Some}
use Rattle.outside.specs.Piece.{with_piece}
use Rattle.scenario_file.specs.Reading.{Contents}
use Rattle.scenario_file.specs.Valid.{IsScenario}
use Rattle.scenario_file.specs.declared.refusal.ScenarioRefusal.{ScenarioRefusal}
use Rattle.scenario_file.specs.declared.refusal.ScenarioRefusal.TheVariants as scenario
use Rattle.history_rules.specs.Events.{Entry}
use Rattle.command_words.specs.Wanted.{Wanted, play, run, replay, make, keys, key, verify, parts, rebuild, blame, trend, delays, page}
use Rattle.command_words.specs.Wanted.{picture, plot, chart, merge}
use Rattle.command_words.specs.Wanted.{is_command, wanted_in}
use Rattle.command_ends.specs.Refusals.{status_of}
use Rattle.command_ends.specs.Steps.{Step}
use Rattle.command_ends.specs.Steps.Step.{Load, Gives, Refuses}
use Rattle.command_ends.specs.declared.limits.TheConstants.{MOST_BYTES}
use Rattle.command_ends.specs.Calls.{Call, CauseOf, Comes, Loaded, IsContent, PutsNothing}
use Rattle.command_ends.specs.Ended.{ErrorSink, Ends, Finishes, Told}
use Rattle.command_ends.specs.declared.refusal.LineFault.{LineFault}
use Rattle.command_ends.specs.declared.refusal.NoAnswer.{NoAnswer}
use Rattle.command_ends.specs.declared.refusal.NoAnswer.TheVariants as lacks
use Rattle.command_ends.specs.declared.refusal.Refusal.{Refusal}
use Rattle.command_ends.specs.declared.refusal.Refusal.TheVariants as refusal
use Rattle.run_commands.specs.declared.questions.Question.{Question}
use Rattle.run_commands.specs.Posed.{posed}
use Rattle.run_commands.specs.Readers.{Readers, KeepsRules, NoRequest, request_refusal}
use Rattle.command_files.specs.Scenarios.{scenario_at, scenario_refusal}
use Rattle.run_commands.specs.Reading.{accepted, with_scenario, with_history}
use Rattle.run_commands.specs.Reading.{with_answer, with_pieces}
use Rattle.run_commands.specs.Course.{QuestionCourse, RebuildCourse, CommandStep, AskedStep, NextStep}
use Rattle.run_commands.specs.Answered.{asked_by, Spells, Answered, Unanswered, KeepsAnswers, HasPieces, Rebuilt}
use Rattle.run_commands.specs.Answered.{NotRebuilt, KeepsRequests}
use Rattle.run_commands.proofs.Headlines.{accepted-gives, scenario-valid, same-file, refused-not-well}
use Rattle.command_ends.proofs.Completes.{text_in}

-- ---- The last step of a call that gives a text, or has no answer.

abbrev is_last : Step → Bool
is_last (Gives text) = true
is_last (Refuses (refusal.NoAnswer why)) = true
is_last _ = false

abbrev is_usage : Step → Bool
is_usage (Refuses refusal.Usage) = true
is_usage _ = false

abbrev lack_in : NoAnswer → Step → NoAnswer
lack_in other (Refuses (refusal.NoAnswer why)) = why
lack_in other _ = other

no-usage : (step : Step) → is_last step ≡ true → is_usage step ≡ false
no-usage (Gives text) last = refl
no-usage (Load name most) last = absurd (true≢false (sym last))
no-usage (Refuses (refusal.NoAnswer why)) last = refl
no-usage (Refuses refusal.Usage) last = absurd (true≢false (sym last))
no-usage (Refuses (refusal.Fault name)) last = refl
no-usage (Refuses (refusal.TooLong name)) last = refl
no-usage (Refuses (refusal.Scenario fault)) last = refl
no-usage (Refuses (refusal.Script fault number)) last = refl
no-usage (Refuses (refusal.Words fault number)) last = refl
no-usage (Refuses (refusal.History fault number)) last = refl
no-usage (Refuses (refusal.Pieces number)) last = refl
no-usage (Refuses (refusal.Keep kept_name kept_fault)) last = refl
no-usage (Refuses refusal.NotVerified) last = refl
no-usage (Refuses refusal.Output) last = refl
no-usage (Refuses refusal.Memory) last = refl

no-load : (step : Step) (name : List ℕ) {most : ℕ} → is_last step ≡ true → step ≡ Load name most → ⊥
no-load step name last is = true≢false (sym last ∙ ap is_last is)

-- where the last step comes of an answer whose faults are others, there was a value
accepted-last : {A E : Type 0} (refuse : E → Refusal) → ((e : E) → is_last (Refuses (refuse e)) ≡ false) →
    (answer : Result A E) (onward : A → Step) (step : Step)
    → is_last step ≡ true → step ≡ accepted refuse answer onward →
    (value : A) × (answer ≡ Ok value) × (step ≡ onward value)
accepted-last refuse other (Ok value) onward step last is = (value, refl, is)
accepted-last refuse other (Err e) onward step last is = absurd (true≢false (sym last ∙ ap is_last is ∙ other e))

not-of-scenario : (e : ScenarioRefusal) → is_last (Refuses (scenario_refusal e)) ≡ false
not-of-scenario scenario.BadToml = refl
not-of-scenario (scenario.MissingKey name) = refl
not-of-scenario (scenario.BadValue name) = refl
not-of-scenario (scenario.TooMany name) = refl
not-of-scenario (scenario.UnknownKey name) = refl
not-of-scenario scenario.Want = refl

of-scenario : (first : List ℕ) (onward : Contents → Step) (step : Step) → is_last step ≡ true →
    step ≡ with_scenario first onward
    → (c : Contents) × (scenario_at first ≡ Ok c) × (step ≡ onward c)
of-scenario first onward step last is =
    accepted-last scenario_refusal not-of-scenario (scenario_at first) onward step last is

-- the second file is the one that is due, where the first is a scenario
second-due : (first name other : List ℕ) {most : ℕ} (c : Contents) → scenario_at first ≡ Ok c →
    Load other most ≡ with_scenario first (λ d. Load name MOST_BYTES) → Load other most ≡ Load name MOST_BYTES
second-due first name other c one is =
    is ∙ ap (λ a. accepted scenario_refusal a (λ (d : Contents). Load name MOST_BYTES)) one

-- ---- A question.

none : {A B : Type 0} (x : A) → (let nothing : Option A = None in nothing ≡ Some x) → B
none x is = absurd (cc)

course-of : (r : Readers) (w : Wanted) (p : List ℕ × List ℕ × Question) (contents : List (List ℕ)) (step : Step) →
    posed w ≡ Some p
    → CommandStep r w contents step → QuestionCourse r p.0 p.1 p.2 contents step
course-of r (parts scenario history originator number) p contents step is comes =
    subst (λ (q : List ℕ × List ℕ × Question). QuestionCourse r q.0 q.1 q.2 contents step) (same_Some _ _ is) comes
course-of r (blame scenario history) p contents step is comes =
    subst (λ (q : List ℕ × List ℕ × Question). QuestionCourse r q.0 q.1 q.2 contents step) (same_Some _ _ is) comes
course-of r (delays scenario history) p contents step is comes =
    subst (λ (q : List ℕ × List ℕ × Question). QuestionCourse r q.0 q.1 q.2 contents step) (same_Some _ _ is) comes
course-of r (page scenario history) p contents step is comes =
    subst (λ (q : List ℕ × List ℕ × Question). QuestionCourse r q.0 q.1 q.2 contents step) (same_Some _ _ is) comes
course-of r (picture scenario history first last width) p contents step is comes =
    subst (λ (q : List ℕ × List ℕ × Question). QuestionCourse r q.0 q.1 q.2 contents step) (same_Some _ _ is) comes
course-of r (plot scenario history point width) p contents step is comes =
    subst (λ (q : List ℕ × List ℕ × Question). QuestionCourse r q.0 q.1 q.2 contents step) (same_Some _ _ is) comes
course-of r (chart scenario history width) p contents step is comes =
    subst (λ (q : List ℕ × List ℕ × Question). QuestionCourse r q.0 q.1 q.2 contents step) (same_Some _ _ is) comes
course-of r (trend scenario history point from to) p contents step is comes =
    subst (λ (q : List ℕ × List ℕ × Question). QuestionCourse r q.0 q.1 q.2 contents step) (same_Some _ _ is) comes
course-of r (play scenario script words) p contents step is comes = none p is
course-of r (run scenario script words hands turns) p contents step is comes = none p is
course-of r (replay scenario history) p contents step is comes = none p is
course-of r (make number) p contents step is comes = none p is
course-of r (keys scenario) p contents step is comes = none p is
course-of r (key scenario actor) p contents step is comes = none p is
course-of r (verify public message sig) p contents step is comes = none p is
course-of r (rebuild scenario pieces) p contents step is comes = none p is
course-of r (merge scenario keeps) p contents step is comes = none p is

next-question : (r : Readers) (is : Bool) (o : Option Wanted) (p : List ℕ × List ℕ × Question)
    (contents : List (List ℕ)) (step : Step)
    → option_and_then posed o ≡ Some p → is_usage step ≡ false → AskedStep r is o contents step →
    QuestionCourse r p.0 p.1 p.2 contents step
next-question r false o p contents step named other asked = absurd (true≢false (sym (ap is_usage asked) ∙ other))
next-question r true None p contents step named other asked = absurd asked
next-question r true (Some w) p contents step named other asked = course-of r w p contents step named asked

abbrev ComesLast : Readers → Call → Question → Step → Type 0
ComesLast r call asked step = (c : Contents) × (history : List Entry) × Spells r call asked c history
    × (step ≡ with_answer r c history asked)

question-whole : (r : Readers) → KeepsRules r → (call : Call) (scenario name : List ℕ) (asked : Question)
    → option_and_then posed (wanted_in call.words) ≡ Some (scenario, name, asked)
    → (a b first second : List ℕ) {at bt : ℕ} (step : Step) → IsContent (call.held a) first → IsContent (call.held b) second
    → Load a at ≡ Load scenario MOST_BYTES → Load b bt ≡ with_scenario first (λ c. Load name MOST_BYTES)
    → is_last step ≡ true → step ≡ with_scenario first (λ c. with_history r c second (λ h. with_answer r c h asked)) →
    ComesLast r call asked step
question-whole r laws call scenario name asked named a b first second step at_a at_b due_a due_b last is =
    let one = of-scenario first (λ c. with_history r c second (λ h. with_answer r c h asked)) step last is in
    let c : Contents = one.0 in
    let two = accepted-last (λ (e : LineFault × ℕ). refusal.History e.0 e.1) (λ e. refl) (r.history_in c second)
    (λ h. with_answer r c h asked) step last one.2 in
    let history : List Entry = two.0 in
    let valid : IsScenario c = scenario-valid first c one.1 in (
      c,
      history,
      record {
        scenario = scenario;
        name = name;
        named = named;
        first = first;
        second = second;
        first_held = same-file call.held a scenario first due_a at_a;
        second_held = same-file call.held b name second (second-due first name b c one.1 due_b) at_b;
        scenario_read = one.1;
        history_read = two.1;
        valid = valid;
        legal = laws.read_legal c second history valid two.1;
      },
      two.2,
    )

question-run : (r : Readers) → KeepsRules r → (call : Call) (scenario name : List ℕ) (asked : Question) (step : Step)
    → option_and_then posed (wanted_in call.words) ≡ Some (scenario, name, asked) → is_last step ≡ true
    → (contents : List (List ℕ)) → Loaded (NextStep r call.words) call.held [] contents →
    NextStep r call.words contents step → ComesLast r call asked step
question-run r laws call scenario name asked step named last [] loaded next =
    absurd (no-load step scenario last
    (next-question r (is_command call.words) (wanted_in call.words) (scenario, name, asked) [] step named
    (no-usage step last) next))
question-run r laws call scenario name asked step named last (first ∷ []) loaded next =
    let one = of-scenario first (λ c. Load name MOST_BYTES) step last
    (next-question r (is_command call.words) (wanted_in call.words) (scenario, name, asked) (first ∷ []) step named
    (no-usage step last) next) in
    absurd (no-load step name last one.2)
question-run r laws call scenario name asked step named last (first ∷ second ∷ more) loaded next =
    question-whole r laws call scenario name asked named loaded.0 loaded.5.0 first second step loaded.3 loaded.5.3
    (next-question r (is_command call.words) (wanted_in call.words) (scenario, name, asked) []
    (Load loaded.0 loaded.1) named refl loaded.2)
    (next-question r (is_command call.words) (wanted_in call.words) (scenario, name, asked) (first ∷ [])
    (Load loaded.5.0 loaded.5.1) named refl loaded.5.2)
    last (next-question r (is_command call.words) (wanted_in call.words) (scenario, name, asked)
    (first ∷ second ∷ more) step named (no-usage step last) next)

-- ---- What the last step tells of the answer.

answer-given : (answer : Result (List ℕ) NoAnswer) (text : List ℕ) →
    Gives text ≡ accepted (λ (why : NoAnswer). refusal.NoAnswer why) answer (λ t. Gives t)
    → answer ≡ Ok text
answer-given answer text is =
    let gives = accepted-gives (λ (why : NoAnswer). refusal.NoAnswer why) answer (λ t. Gives t) text is in
    gives.1 ∙ ap Ok (sym (ap text_in gives.2))

answer-lacks : (answer : Result (List ℕ) NoAnswer) (why : NoAnswer)
    → Refuses (refusal.NoAnswer why) ≡ accepted (λ (w : NoAnswer). refusal.NoAnswer w) answer (λ t. Gives t) →
    answer ≡ Err why
answer-lacks (Ok text) why is = absurd (cc)
answer-lacks (Err lack) why is = ap Err (sym (ap (lack_in why) is))

-- the names of a question
of-asked : (o : Option (List ℕ × List ℕ × Question)) (asked : Question) →
    option_map (λ (p : List ℕ × List ℕ × Question). p.2) o ≡ Some asked
    → (scenario : List ℕ) × (name : List ℕ) × (o ≡ Some (scenario, name, asked))
of-asked None asked is = none asked is
of-asked (Some p) asked is = (p.0, p.1, ap (λ (q : Question). Some (p.0, p.1, q)) (same_Some p.2 asked is))

by-text : (r : Readers) → KeepsRules r → (call : Call) (text : List ℕ) →
    Comes (NextStep r call.words) call.held [] (Gives text)
    → call.put_after ≡ with_piece call.put_before text → (asked : Question) → asked_by call.words ≡ Some asked →
    Answered r call asked
by-text r laws call text comes put asked is =
    let names = of-asked (option_and_then posed (wanted_in call.words)) asked is in
    let whole = question-run r laws call names.0 names.1 asked (Gives text) names.2 refl comes.0 comes.1 comes.2 in
    record {
      scenario = whole.0;
      history = whole.1;
      spells = whole.2;
      text = text;
      answered = answer-given (r.answered whole.0 whole.1 asked) text whole.3;
      put = put;
    }

by-lack : (r : Readers) → KeepsRules r → (call : Call) (err : ErrorSink) (status : ℕ) (why : NoAnswer)
    → Comes (NextStep r call.words) call.held [] (Refuses (refusal.NoAnswer why)) → PutsNothing call →
    Told (refusal.NoAnswer why) err status
    → (asked : Question) → asked_by call.words ≡ Some asked → Unanswered r call err status asked
by-lack r laws call err status why comes nothing told asked is =
    let names = of-asked (option_and_then posed (wanted_in call.words)) asked is in
    let whole = question-run r laws call names.0 names.1 asked (Refuses (refusal.NoAnswer why))
    names.2 refl comes.0 comes.1 comes.2 in
    record {
      scenario = whole.0;
      history = whole.1;
      spells = whole.2;
      why = why;
      answered = answer-lacks (r.answered whole.0 whole.1 asked) why whole.3;
      told = told;
      put = nothing;
    }

-- ---- Status 9 is that of a question without an answer.

status-nine : (why : Refusal) → status_of why ≡ 9 → (lack : NoAnswer) × (why ≡ refusal.NoAnswer lack)
status-nine (refusal.NoAnswer lack) is = (lack, refl)
status-nine refusal.Usage is = absurd (omega arith)
status-nine (refusal.Fault name) is = absurd (omega arith)
status-nine (refusal.TooLong name) is = absurd (omega arith)
status-nine (refusal.Scenario fault) is = absurd (omega arith)
status-nine (refusal.Script fault number) is = absurd (omega arith)
status-nine (refusal.Words fault number) is = absurd (omega arith)
status-nine (refusal.History fault number) is = absurd (omega arith)
status-nine (refusal.Pieces number) is = absurd (omega arith)
status-nine (refusal.Keep kept_name kept_fault) is = absurd (omega arith)
status-nine refusal.NotVerified is = absurd (omega arith)
status-nine refusal.Output is = absurd (omega arith)
status-nine refusal.Memory is = absurd (omega arith)

told-nine : (why : Refusal) (err : ErrorSink) (status : ℕ) → status ≡ 9 → Told why err status →
    (lack : NoAnswer) × (why ≡ refusal.NoAnswer lack)
told-nine why err status nine (Told.whole is same line) = status-nine why (sym is ∙ nine)
told-nine why err status nine (Told.begun is risen put) = status-nine why (sym is ∙ nine)
told-nine why err status nine (Told.memory is put) = absurd (omega arith)

not-nine : (status : ℕ) → status ≡ 0 → status ≡ 9 → ⊥
not-nine status zero nine = absurd (omega arith)

abbrev CausedAndTold : Readers → Call → ErrorSink → ℕ → Refusal → Type 0
CausedAndTold r call err status why = CauseOf (NextStep r) call (Err why) × Told why err status

keeps-by : (r : Readers) → KeepsRules r → (call : Call) (err : ErrorSink) (status : ℕ) (result : Result (Unit {0}) Refusal)
    → CauseOf (NextStep r) call result → Finishes result err status → KeepsAnswers r call err status
keeps-by r laws call err status (Ok done) cause finish = record {
  answers = λ zero asked is. by-text r laws call cause.0 cause.1 cause.2 asked is;
  lacks = λ nine asked is. absurd (not-nine status finish.0 nine);
}
keeps-by r laws call err status (Err why) cause finish = record {
  answers = λ zero asked is. absurd (refused-not-well why err status zero finish);
  lacks = λ nine asked is.
      let lack = told-nine why err status nine finish in
      let both : CausedAndTold r call err status (refusal.NoAnswer lack.0) =
      subst (CausedAndTold r call err status) lack.1 (cause, finish) in
      by-lack r laws call err status lack.0 both.0.0 both.0.1 both.1 asked is;
}

-- Each question that ends well is answered, and each with status 9 has no answer.
pub answers : (r : Readers) → KeepsRules r → (call : Call) (err : ErrorSink) (status : ℕ) →
    Ends (NextStep r) call err status → KeepsAnswers r call err status
answers r laws call err status ends = keeps-by r laws call err status ends.result ends.cause ends.finish

-- ---- A request from its parts.

next-rebuild : (r : Readers) (is : Bool) (o : Option Wanted) (scenario pieces : List ℕ)
    (contents : List (List ℕ)) (step : Step)
    → o ≡ Some (rebuild scenario pieces) → is_usage step ≡ false → AskedStep r is o contents step →
    RebuildCourse r scenario pieces contents step
next-rebuild r false o scenario pieces contents step named other asked =
    absurd (true≢false (sym (ap is_usage asked) ∙ other))
next-rebuild r true o scenario pieces contents step named other asked =
    subst (λ (w : Option Wanted). AskedStep r true w contents step) named asked

abbrev ComesRebuilt : Readers → Call → List ℕ → List ℕ → Step → Type 0
ComesRebuilt r call scenario pieces step =
    (c : Contents) × (content : List ℕ) × HasPieces call scenario pieces c content × (step ≡ with_pieces r c content)

rebuild-run : (r : Readers) (call : Call) (scenario pieces : List ℕ) (step : Step) →
    wanted_in call.words ≡ Some (rebuild scenario pieces) → is_last step ≡ true
    → (contents : List (List ℕ)) → Loaded (NextStep r call.words) call.held [] contents →
    NextStep r call.words contents step
    → ComesRebuilt r call scenario pieces step
rebuild-run r call scenario pieces step named last [] loaded next =
    absurd (no-load step scenario last
    (next-rebuild r (is_command call.words) (wanted_in call.words) scenario pieces [] step named
    (no-usage step last) next))
rebuild-run r call scenario pieces step named last (first ∷ []) loaded next =
    let one = of-scenario first (λ c. Load pieces MOST_BYTES) step last
    (next-rebuild r (is_command call.words) (wanted_in call.words) scenario pieces (first ∷ []) step named
    (no-usage step last) next) in
    absurd (no-load step pieces last one.2)
rebuild-run r call scenario pieces step named last (first ∷ second ∷ more) loaded next =
    let one = of-scenario first (λ c. with_pieces r c second) step last
    (next-rebuild r (is_command call.words) (wanted_in call.words) scenario pieces (first ∷ second ∷ more) step named
    (no-usage step last) next) in
    let c : Contents = one.0 in
    let due_a = next-rebuild r (is_command call.words) (wanted_in call.words) scenario pieces []
    (Load loaded.0 loaded.1) named refl loaded.2 in
    let due_b = next-rebuild r (is_command call.words) (wanted_in call.words) scenario pieces (first ∷ [])
    (Load loaded.5.0 loaded.5.1) named refl loaded.5.2 in (
      c,
      second,
      record {
        first = first;
        first_held = same-file call.held loaded.0 scenario first due_a loaded.3;
        second_held = same-file call.held loaded.5.0 pieces second (second-due first pieces loaded.5.0 c one.1 due_b)
            loaded.5.3;
        scenario_read = one.1;
        valid = scenario-valid first c one.1;
      },
      one.2,
    )

request-given : (answer : Result (List ℕ) NoRequest) (text : List ℕ) →
    Gives text ≡ accepted request_refusal answer (λ t. Gives t) → answer ≡ Ok text
request-given answer text is =
    let gives = accepted-gives request_refusal answer (λ t. Gives t) text is in
    gives.1 ∙ ap Ok (sym (ap text_in gives.2))

request-lacks : (answer : Result (List ℕ) NoRequest) (why : NoAnswer) →
    Refuses (refusal.NoAnswer why) ≡ accepted request_refusal answer (λ t. Gives t)
    → (answer ≡ Err NoRequest.NoText) × (why ≡ lacks.NoText)
request-lacks (Ok text) why is = absurd (cc)
request-lacks (Err (NoRequest.BadLine number)) why is = absurd (true≢false (ap is_last is))
request-lacks (Err NoRequest.NoText) why is = (refl, ap (lack_in why) is)

requested : (r : Readers) (call : Call) (text : List ℕ) → Comes (NextStep r call.words) call.held [] (Gives text)
    → call.put_after ≡ with_piece call.put_before text → (scenario pieces : List ℕ) →
    wanted_in call.words ≡ Some (rebuild scenario pieces)
    → Rebuilt r call scenario pieces
requested r call text comes put scenario pieces named =
    let whole = rebuild-run r call scenario pieces (Gives text) named refl comes.0 comes.1 comes.2 in
    record {
      contents = whole.0;
      lines = whole.1;
      has = whole.2;
      text = text;
      rebuilt = request-given (r.rebuilt whole.0 whole.1) text whole.3;
      put = put;
    }

not-requested : (r : Readers) (call : Call) (err : ErrorSink) (status : ℕ) (why : NoAnswer)
    → Comes (NextStep r call.words) call.held [] (Refuses (refusal.NoAnswer why)) → PutsNothing call →
    Told (refusal.NoAnswer why) err status
    → (scenario pieces : List ℕ) → wanted_in call.words ≡ Some (rebuild scenario pieces) →
    NotRebuilt r call err status scenario pieces
not-requested r call err status why comes nothing told scenario pieces named =
    let whole = rebuild-run r call scenario pieces (Refuses (refusal.NoAnswer why))
    named refl comes.0 comes.1 comes.2 in
    let none = request-lacks (r.rebuilt whole.0 whole.1) why whole.3 in
    record {
      contents = whole.0;
      lines = whole.1;
      has = whole.2;
      rebuilt = none.0;
      told = subst (λ w. Told (refusal.NoAnswer w) err status) none.1 told;
      put = nothing;
    }

requests-by : (r : Readers) (call : Call) (err : ErrorSink) (status : ℕ) (result : Result (Unit {0}) Refusal)
    → CauseOf (NextStep r) call result → Finishes result err status → KeepsRequests r call err status
requests-by r call err status (Ok done) cause finish = record {
  rebuilds = λ zero scenario pieces is. requested r call cause.0 cause.1 cause.2 scenario pieces is;
  lacks = λ nine scenario pieces is. absurd (not-nine status finish.0 nine);
}
requests-by r call err status (Err why) cause finish = record {
  rebuilds = λ zero scenario pieces is. absurd (refused-not-well why err status zero finish);
  lacks = λ nine scenario pieces is.
      let lack = told-nine why err status nine finish in
      let both : CausedAndTold r call err status (refusal.NoAnswer lack.0) =
      subst (CausedAndTold r call err status) lack.1 (cause, finish) in
      not-requested r call err status lack.0 both.0.0 both.0.1 both.1 scenario pieces is;
}

-- Each request asked for from parts that ends well is the one that they rebuild, and each with status 9 is none.
pub requests : (r : Readers) (call : Call) (err : ErrorSink) (status : ℕ) → Ends (NextStep r) call err status →
    KeepsRequests r call err status
requests r call err status ends = requests-by r call err status ends.result ends.cause ends.finish
