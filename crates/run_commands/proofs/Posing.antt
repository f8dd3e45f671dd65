-- The steps of questions over a history, and of a request from its parts.
use Rattle.std.proofs.Common.{◌≡◌, ℕ, List, [], ◌∷◌, Option, None, Some, Result, Ok, Err, sym, ◌∙◌, ap, subst}
use Rattle.std.proofs.lemmas.Option.{same_Some}
use Rattle.std.specs.declared.vec.Vec.{Vec}
use Rattle.std.specs.declared.alloc.Global.{Global}
use Rattle.scenario_file.specs.Reading.{Contents}
use Rattle.command_words.specs.Wanted.{Wanted, play, run, replay, make, keys, key, verify, parts, rebuild, blame, trend, delays, page}
use Rattle.command_words.specs.Wanted.{picture, plot, chart, merge}
use Rattle.command_ends.specs.Steps.{Step}
use Rattle.command_ends.specs.Steps.Step.{Load, Gives, Refuses}
use Rattle.command_ends.specs.declared.limits.TheConstants.{MOST_BYTES}
use Rattle.command_ends.specs.Calls.{TextCause}
use Rattle.command_ends.specs.declared.refusal.LineFault.{LineFault}
use Rattle.command_ends.specs.declared.refusal.NoAnswer.{NoAnswer}
use Rattle.command_ends.specs.declared.refusal.Refusal.{Refusal}
use Rattle.command_ends.specs.declared.refusal.Refusal.TheVariants as refusal
use Rattle.run_commands.specs.declared.questions.Question.{Question}
use Rattle.run_commands.specs.Posed.{posed}
use Rattle.run_commands.specs.Readers.{Readers, NoRequest, AnswerGives, RebuildGives, request_refusal}
use Rattle.run_commands.specs.Reading.{accepted, with_scenario, with_history, with_answer, with_pieces}
use Rattle.run_commands.specs.Course.{QuestionCourse, RebuildCourse}
use Rattle.run_commands.specs.Told.{ToldStep}
use Rattle.run_commands.specs.Opened.{LeadsTo}
use Rattle.run_commands.specs.Made.{Makes}

-- ---- A question.

abbrev Posed : Type 0
Posed = List ℕ × List ℕ × Question

abbrev CausedBy : Readers → (List ℕ → Option (List ℕ)) → (List ℕ → ℕ) → (List ℕ → ℕ) →
    Result (Vec ℕ Global) Refusal → Posed → Type 0
CausedBy r held first last result p = TextCause (QuestionCourse r p.0 p.1 p.2) held first last [] result

none : {A B : Type 0} (x : A) → (let nothing : Option A = None in nothing ≡ Some x) → B
none x is = absurd (cc)

-- what words ask that pose a question is that question
pub question-cause : (r : Readers) (w : Wanted) (p : List ℕ × List ℕ × Question) (held : List ℕ → Option (List ℕ))
    (first last : List ℕ → ℕ)
    (result : Result (Vec ℕ Global) Refusal) → posed w ≡ Some p →
    TextCause (QuestionCourse r p.0 p.1 p.2) held first last [] result
    → TextCause (ToldStep r w) held first last [] result
question-cause r (parts scenario history originator number) p held first last result is cause =
    subst (CausedBy r held first last result) (sym (same_Some _ _ is)) cause
question-cause r (blame scenario history) p held first last result is cause =
    subst (CausedBy r held first last result) (sym (same_Some _ _ is)) cause
question-cause r (trend scenario history point from to) p held first last result is cause =
    subst (CausedBy r held first last result) (sym (same_Some _ _ is)) cause
question-cause r (delays scenario history) p held first last result is cause =
    subst (CausedBy r held first last result) (sym (same_Some _ _ is)) cause
question-cause r (page scenario history) p held first last result is cause =
    subst (CausedBy r held first last result) (sym (same_Some _ _ is)) cause
question-cause r (picture scenario history from to width) p held first last result is cause =
    subst (CausedBy r held first last result) (sym (same_Some _ _ is)) cause
question-cause r (plot scenario history point width) p held first last result is cause =
    subst (CausedBy r held first last result) (sym (same_Some _ _ is)) cause
question-cause r (chart scenario history width) p held first last result is cause =
    subst (CausedBy r held first last result) (sym (same_Some _ _ is)) cause
question-cause r (play scenario script words) p held first last result is cause = none p is
question-cause r (run scenario script words hands turns) p held first last result is cause = none p is
question-cause r (replay scenario history) p held first last result is cause = none p is
question-cause r (make number) p held first last result is cause = none p is
question-cause r (keys scenario) p held first last result is cause = none p is
question-cause r (key scenario actor) p held first last result is cause = none p is
question-cause r (verify public message sig) p held first last result is cause = none p is
question-cause r (rebuild scenario pieces) p held first last result is cause = none p is
question-cause r (merge scenario keeps) p held first last result is cause = none p is

pub question-first : (r : Readers) (scenario history : List ℕ) (asked : Question) (first : List ℕ) (c : Contents) →
    LeadsTo with_scenario first c
    → QuestionCourse r scenario history asked (first ∷ []) (Load history MOST_BYTES)
question-first r scenario history asked first c one = sym (one (λ d. Load history MOST_BYTES))

pub question-refused : (r : Readers) (scenario history : List ℕ) (asked : Question) (first : List ℕ) (w : Refusal)
    → ((onward : Contents → Step) → with_scenario first onward ≡ Refuses w) →
    QuestionCourse r scenario history asked (first ∷ []) (Refuses w)
question-refused r scenario history asked first w one = sym (one (λ d. Load history MOST_BYTES))

-- the last step, where the scenario is read
abbrev pub question-last : Readers → Contents → List ℕ → Question → Step
question-last r c text asked = with_history r c text (λ h. with_answer r c h asked)

pub question-second : (r : Readers) (scenario history : List ℕ) (asked : Question) (first second : List ℕ)
    (c : Contents) → LeadsTo with_scenario first c
    → QuestionCourse r scenario history asked (first ∷ second ∷ []) (question-last r c second asked)
question-second r scenario history asked first second c one = sym (one (λ d. question-last r d second asked))

pub question-makes : (r : Readers) (c : Contents) (text : List ℕ) (asked : Question)
    (result : Result (Vec ℕ Global) Refusal)
    → AnswerGives r c text asked result → Makes (question-last r c text asked) result
question-makes r c text asked (Ok answer) (history, spelt, is) =
    ap (λ p. accepted (λ (e : LineFault × ℕ). refusal.History e.0 e.1) p (λ h. with_answer r c h asked)) spelt
    ∙ ap (λ a. accepted (λ (why : NoAnswer). refusal.NoAnswer why) a (λ t. Gives t)) is
question-makes r c text asked (Err (refusal.NoAnswer lack)) (history, spelt, is) =
    ap (λ p. accepted (λ (e : LineFault × ℕ). refusal.History e.0 e.1) p (λ h. with_answer r c h asked)) spelt
    ∙ ap (λ a. accepted (λ (why : NoAnswer). refusal.NoAnswer why) a (λ t. Gives t)) is
question-makes r c text asked (Err (refusal.History fault number)) spelt =
    ap (λ p. accepted (λ (e : LineFault × ℕ). refusal.History e.0 e.1) p (λ h. with_answer r c h asked)) spelt
question-makes r c text asked (Err refusal.Memory) gives = tt
question-makes r c text asked (Err refusal.Usage) gives = absurd gives
question-makes r c text asked (Err (refusal.Fault name)) gives = absurd gives
question-makes r c text asked (Err (refusal.TooLong name)) gives = absurd gives
question-makes r c text asked (Err (refusal.Scenario fault)) gives = absurd gives
question-makes r c text asked (Err (refusal.Script fault number)) gives = absurd gives
question-makes r c text asked (Err (refusal.Words fault number)) gives = absurd gives
question-makes r c text asked (Err refusal.NotVerified) gives = absurd gives
question-makes r c text asked (Err (refusal.Pieces at)) gives = absurd gives
question-makes r c text asked (Err (refusal.Keep kept_name kept_fault)) gives = absurd gives
question-makes r c text asked (Err refusal.Output) gives = absurd gives

-- ---- A request from its parts.

pub rebuild-first : (r : Readers) (scenario pieces first : List ℕ) (c : Contents) → LeadsTo with_scenario first c
    → RebuildCourse r scenario pieces (first ∷ []) (Load pieces MOST_BYTES)
rebuild-first r scenario pieces first c one = sym (one (λ d. Load pieces MOST_BYTES))

pub rebuild-refused : (r : Readers) (scenario pieces first : List ℕ) (w : Refusal)
    → ((onward : Contents → Step) → with_scenario first onward ≡ Refuses w) →
    RebuildCourse r scenario pieces (first ∷ []) (Refuses w)
rebuild-refused r scenario pieces first w one = sym (one (λ d. Load pieces MOST_BYTES))

pub rebuild-second : (r : Readers) (scenario pieces first second : List ℕ) (c : Contents) →
    LeadsTo with_scenario first c
    → RebuildCourse r scenario pieces (first ∷ second ∷ []) (with_pieces r c second)
rebuild-second r scenario pieces first second c one = sym (one (λ d. with_pieces r d second))

refused-pieces : (r : Readers) (c : Contents) (text : List ℕ) (lack : NoRequest) → r.rebuilt c text ≡ Err lack
    → with_pieces r c text ≡ Refuses (request_refusal lack)
refused-pieces r c text lack is = ap (λ a. accepted request_refusal a (λ t. Gives t)) is

-- the refusal is one that no file's fault, output or want of memory brings
made-refused : (r : Readers) (c : Contents) (text : List ℕ) (lack : NoRequest) → r.rebuilt c text ≡ Err lack
    → (let result : Result (Vec ℕ Global) Refusal = Err (request_refusal lack) in Makes (with_pieces r c text) result)
made-refused r c text (NoRequest.BadLine number) is = refused-pieces r c text (NoRequest.BadLine number) is
made-refused r c text NoRequest.NoText is = refused-pieces r c text NoRequest.NoText is

made-lack : (r : Readers) (c : Contents) (text : List ℕ) (why : Refusal)
    → (lack : NoRequest) × (r.rebuilt c text ≡ Err lack) × (why ≡ request_refusal lack)
    → (let result : Result (Vec ℕ Global) Refusal = Err why in Makes (with_pieces r c text) result)
made-lack r c text why (lack, is, told) =
    subst (λ w. let result : Result (Vec ℕ Global) Refusal = Err w in Makes (with_pieces r c text) result) (sym told)
    (made-refused r c text lack is)

pub rebuild-makes : (r : Readers) (c : Contents) (text : List ℕ) (result : Result (Vec ℕ Global) Refusal) →
    RebuildGives r c text result
    → Makes (with_pieces r c text) result
rebuild-makes r c text (Ok request) is = ap (λ a. accepted request_refusal a (λ t. Gives t)) is
rebuild-makes r c text (Err refusal.Memory) gives = tt
rebuild-makes r c text (Err refusal.Usage) gives = made-lack r c text refusal.Usage gives
rebuild-makes r c text (Err (refusal.Fault name)) gives = made-lack r c text (refusal.Fault name) gives
rebuild-makes r c text (Err (refusal.TooLong name)) gives = made-lack r c text (refusal.TooLong name) gives
rebuild-makes r c text (Err (refusal.Scenario fault)) gives = made-lack r c text (refusal.Scenario fault) gives
rebuild-makes r c text (Err (refusal.Script fault number)) gives =
    made-lack r c text (refusal.Script fault number) gives
rebuild-makes r c text (Err (refusal.Words fault number)) gives = made-lack r c text (refusal.Words fault number) gives
rebuild-makes r c text (Err (refusal.History fault number)) gives =
    made-lack r c text (refusal.History fault number) gives
rebuild-makes r c text (Err refusal.NotVerified) gives = made-lack r c text refusal.NotVerified gives
rebuild-makes r c text (Err (refusal.NoAnswer lack)) gives = made-lack r c text (refusal.NoAnswer lack) gives
rebuild-makes r c text (Err (refusal.Pieces at)) gives = made-lack r c text (refusal.Pieces at) gives
rebuild-makes r c text (Err (refusal.Keep kept_name kept_fault)) gives = made-lack r c text (refusal.Keep kept_name kept_fault) gives
rebuild-makes r c text (Err refusal.Output) gives = made-lack r c text refusal.Output gives
