-- What the correct masters of a history answer, asked for a point's changes by the updates of some numbers, and which
-- of these answers is shown: the first of more than f of them. (This project's own, in the manner of Spire's screens.)
use Rattle.std.specs.Prelude.{◌≡◌, ℕ, ◌+◌, List, Option, Some, None, Result, Ok, Err, filter, length, map, nat_le}
use Rattle.std.specs.Prelude.{if◌then◌else◌}
use Rattle.std.specs.declared.vec.Vec.{Vec}
use Rattle.std.specs.declared.alloc.Global.{Global}
use Rattle.message_types.specs.declared.updates.Update.{Update}
use Rattle.quorum_sets.specs.Masters.{voters}
use Rattle.protocol_rules.specs.Words.{greatest_reached}
use Rattle.scenario_file.specs.Reading.{Contents}
use Rattle.history_rules.specs.Events.{Entry}
use Rattle.history_rules.specs.Setup.{Setup, is_correct_master}
use Rattle.history_rules.specs.Legal.{executions}
use Rattle.world_rules.specs.Scenarios.{setup_of, masters_in}
use Rattle.world_history.specs.State.{BenchState, executed_if}
use Rattle.trend_archive.specs.declared.answer.TrendAnswer.{TrendAnswer}
use Rattle.trend_archive.specs.declared.answer.TrendAnswer.TheVariants as answer
use Rattle.trend_archive.specs.declared.board.Vote.{Vote}
use Rattle.trend_archive.specs.declared.change.Changes.{Changes}
use Rattle.trend_archive.specs.Boards.{shown}
use Rattle.trend_archive.specs.Trends.{changes, refusal}
use Rattle.run_questions.specs.declared.trend.fault.TrendRefusal.{TrendRefusal}
use Rattle.run_questions.specs.declared.trend.fault.TrendRefusal.TheVariants as fault
use Rattle.run_questions.specs.TrendText.{changes_text}

-- the correct masters, rising
abbrev pub correct_masters : Setup → List ℕ
correct_masters w = voters (is_correct_master w) w.group.n

-- how many updates each of them executed
abbrev pub counts_in : Setup → List Entry → List ℕ
counts_in w history = map (λ i. length (executions w history i)) (correct_masters w)

-- those of the correct masters that executed so many updates
unfoldable pub reaching : Setup → List Entry → ℕ → List ℕ
reaching w history last = filter (λ i. nat_le last (length (executions w history i))) (correct_masters w)

-- a point's changes by updates number `first` to `last`, in a master's executions
abbrev pub changes_of : Contents → (p first last : ℕ) → List Update → Changes
changes_of c p first last us =
    record { point = p; first = first; last = last; items = changes c.plant c.settings.screens p first last us }

-- what a correct master of the history answers
abbrev pub changes_by : Contents → List Entry → (p first last : ℕ) → ℕ → Changes
changes_by c history p first last i = changes_of c p first last (executions (setup_of c) history i)

-- its answer as its vote
abbrev pub vote_by : Contents → List Entry → (p first last : ℕ) → ℕ → Vote
vote_by c history p first last i = record { signer = i; changes = changes_by c history p first last i }

-- the votes of the correct masters that executed up to the last number, rising
unfoldable pub votes_in : Contents → List Entry → (p first last : ℕ) → List Vote
votes_in c history p first last = map (vote_by c history p first last) (reaching (setup_of c) history last)

-- a refusal as the command tells it
abbrev pub fault_of : TrendAnswer → TrendRefusal
fault_of answer.NoPoint = fault.NoPoint
fault_of answer.BadRange = fault.BadRange
fault_of (answer.NotReached executed) = fault.NotReached executed
fault_of answer.Want = fault.Want

-- the text of the answer that is shown, or that there is none
abbrev pub printed : Option Changes → Result (List ℕ) TrendRefusal
printed None = Err fault.NoMatch
printed (Some a) = Ok (changes_text a)

-- the refusal, or else what is printed
abbrev pub unless_refused : Option TrendAnswer → Result (List ℕ) TrendRefusal → Result (List ℕ) TrendRefusal
unless_refused None told = told
unless_refused (Some why) told = Err (fault_of why)

-- how many updates more than f correct masters executed: the (f + 1)st greatest of their numbers
abbrev pub executed_by_more : Contents → List Entry → ℕ
executed_by_more c history = greatest_reached (c.settings.f + 1) (counts_in (setup_of c) history)

-- What the command prints of a history, or why it prints nothing: the question is refused as a trend of as many updates
-- as more than f correct masters executed refuses it; then no answer may be one of more than f.
unfoldable pub trend_in : Contents → List Entry → (p first last : ℕ) → Result (List ℕ) TrendRefusal
trend_in c history p first last =
    unless_refused (refusal (length c.plant.points) (executed_by_more c history) p first last)
    (printed (shown (masters_in c) c.settings.f (votes_in c history p first last)))

-- The result is this, or memory was wanting.
abbrev pub Gives : Result (List ℕ) TrendRefusal → Result (Vec ℕ Global) TrendRefusal → Type 0
Gives told (Ok text) = told ≡ Ok text.items
Gives told (Err fault.Want) = Unit {0}
Gives told (Err other) = told ≡ Err other

-- what the bench of a correct master answers that executed up to the last number; of others nothing
abbrev pub vote_at_end : Contents → (p first last : ℕ) → ℕ → Option (List Update) → Option Vote
vote_at_end c p first last actor None = None
vote_at_end c p first last actor (Some us) =
    if nat_le last (length us) then Some (record { signer = actor; changes = changes_of c p first last us }) else None

-- the same by a bench
abbrev pub vote_of : Contents → (p first last : ℕ) → BenchState → Option Vote
vote_of c p first last b = vote_at_end c p first last b.actor (executed_if b)
