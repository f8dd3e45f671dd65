-- What a station does with all that comes, and what is known of its file and of what it said when it stops, at whatever
-- moment and for whatever reason. (This project's own.)
use Rattle.std.specs.Prelude.{◌≡◌, ◌⊎◌, ◌^◌, ℕ, ◌≤◌, ◌<◌, Bool, true, false, List, [], ◌∷◌, ◌++◌, Option, Some, None, IfSome, length}
use Rattle.std.specs.Prelude.{take}
use Rattle.std.specs.Option.{option_to_list}
use Rattle.plain_lists.specs.Lists.{Begins}
use Rattle.outside.specs.Piece.{with_piece as put_behind}
use Rattle.scenario_file.specs.Reading.{Contents}
use Rattle.history_rules.specs.Events.{Entry}
use Rattle.printed_history.specs.Reading.{contents_in}
use Rattle.kept_lines.specs.Lines.{kept_from, kept_file}
use Rattle.station_files.specs.declared.batch.ReleaseAnswer.{ReleaseAnswer}
use Rattle.station_files.specs.declared.batch.ReleaseAnswer.TheVariants as release
use Rattle.station_files.specs.declared.lines.Came.{Came}
use Rattle.station_files.specs.declared.lines.Came.TheVariants as came
use Rattle.station_files.specs.declared.lines.LineAnswer.{LineAnswer}
use Rattle.station_files.specs.declared.lines.LineAnswer.TheVariants as line
use Rattle.station_files.specs.Batch.{Waiting}
use Rattle.station_files.specs.Held.{Held}
use Rattle.station_lives.specs.Lives.{Life, kept_by, IsLife}
use Rattle.station_lives.specs.Saying.{SaidBy}
use Rattle.station_rules.specs.Answers.{Asked, Start, Unclear, Work, line_asked, after_asked}
use Rattle.stations.specs.declared.living.Halt.{Halt}
use Rattle.stations.specs.declared.living.Halt.TheVariants as halt
use Rattle.stations.specs.declared.station.Station.{Station}
use Rattle.stations.specs.declared.station.TakeRefusal.{TakeRefusal}
use Rattle.stations.specs.declared.station.TakeRefusal.TheVariants as refusal
use Rattle.stations.specs.Asking.{AskedOf, input_asked}
use Rattle.stations.specs.Station.{IsReady, HasAnswered, list_after, list_of}

-- a station's work after it answered these in turn
abbrev pub after_each : Contents → ℕ → Work → List Asked → Work
after_each c actor work [] = work
after_each c actor work (asked ∷ rest) = after_each c actor (after_asked c actor work asked) rest

-- With what a station began to live: its scenario, its actor and its entries, what the file held, and what was put out
-- before.
pub record Origin : Type 0 where
  pub contents : Contents
  pub actor : ℕ
  pub list : List Entry
  pub held : Option Held
  pub told : Option (List ℕ)

abbrev pub origin : Station → Option Held → Option (List ℕ) → Origin
origin s held told =
    record { contents = contents_in s.so_far; actor = s.actor; list = list_of s; held = held; told = told }

-- All that is asked of it where these bytes come: that it starts, and what they ask for.
abbrev pub asked_of_life : ℕ → List ℕ → List Asked
asked_of_life room bytes = Start ∷ input_asked room bytes

-- its work after it answered these
abbrev pub work_of : Origin → List Asked → Work
work_of o asked = after_each o.contents o.actor (record { list = o.list; told = [] }) asked

-- What is kept of a life's durable entries is durable in the file, whose bytes are a beginning of what is kept of all its
-- entries. So whatever of these bytes outlives the machine is read again as a beginning of its list with all that was
-- durable.
pub record IsKeptOf (c : Contents) (life : Life) (held : Held) : Type 0 where
  pub bytes : Begins held.bytes (kept_file c life.list)
  pub durable : Begins (kept_file c (kept_by life)) (take held.durable held.bytes)

-- the same of a file that told what it held
abbrev pub KeepsLife : Contents → Life → Option Held → Option Held → Type 0
KeepsLife c life None after = Unit {0}
KeepsLife c life (Some held) None = ⊥
KeepsLife c life (Some held) (Some now) = IsKeptOf c life now

-- However a station stopped, it was a life of what it was asked: its entries are those that it made of that, those that it
-- began with are durable, it said a beginning of what it was to tell, nothing of it before it was kept, and the file has what
-- was durable.
pub record IsLifeOf (o : Origin) (asked : List Asked) (after : Option Held) (put : Option (List ℕ)) : Type 0 where
  pub life : Life
  pub is : IsLife o.contents o.actor life
  pub list : life.list ≡ (work_of o asked).list
  pub read : Begins o.list (kept_by life)
  pub said : Begins life.out (work_of o asked).told
  pub file : KeepsLife o.contents life o.held after
  pub output : put ≡ put_behind o.told life.out

-- the file has what is kept of these entries, and nothing more
abbrev pub KeepsAll : Contents → List Entry → Option Held → Option Held → Type 0
KeepsAll c list None after = Unit {0}
KeepsAll c list (Some held) None = ⊥
KeepsAll c list (Some held) (Some now) = now.bytes ≡ kept_file c list

-- It was asked for a beginning of what waited.
pub record HasLived (o : Origin) (room : ℕ) (waiting : Option (List ℕ)) (after : Option Held)
    (put : Option (List ℕ)) : Type 0 where
  pub asked : List Asked
  pub came : IfSome waiting (λ bytes. Begins asked (asked_of_life room bytes))
  pub lived : IsLifeOf o asked after put

-- A station is full: with the answer to the last that it was asked its file would have more bytes than are read again, or it
-- was asked as often as is counted.
pub record IsFull (o : Origin) (room : ℕ) (waiting : Option (List ℕ)) : Type 0 where
  pub asked : List Asked
  pub came : IfSome waiting (λ bytes. Begins asked (asked_of_life room bytes))
  pub much : (2 ^ 32 ≤ length (kept_file o.contents (work_of o asked).list)) ⊎ (2 ^ 64 ≤ length asked)

-- All that waited was answered, told and kept.
pub record HasAnsweredAll (o : Origin) (room : ℕ) (waiting : Option (List ℕ)) (after : Option Held)
    (put : Option (List ℕ)) : Type 0 where
  pub asked : List Asked
  pub all : IfSome waiting (λ bytes. asked ≡ asked_of_life room bytes)
  pub kept : KeepsAll o.contents (work_of o asked).list o.held after
  pub output : put ≡ put_behind o.told (work_of o asked).told

-- ---- On the way.

-- what came, as what is asked
abbrev pub came_asked : Came → Option Asked
came_asked (came.Line line) = Some (line_asked line.items)
came_asked came.TooLong = Some Unclear
came_asked came.Unended = Some Unclear
came_asked came.End = None

abbrev pub AnswersIf : Station → Option Asked → Waiting → Station → Waiting → Type 0
AnswersIf s None waits new after = (new ≡ s) × (after ≡ waits)
AnswersIf s (Some asked) waits new after = HasAnswered s asked waits new after

-- nothing waits any more, where that is told
abbrev pub EndsAt : Option (List ℕ) → Option (List ℕ) → Type 0
EndsAt None left = Unit {0}
EndsAt (Some bytes) left = IfSome left (λ rest. rest ≡ [])

-- the next of what waited was answered, or there was none
pub record Goes (room : ℕ) (waiting : Option (List ℕ)) (s : Station) (waits : Waiting) (is_ended : Bool)
    (left : Option (List ℕ)) (new : Station) (after : Waiting) : Type 0 where
  pub asked : Option Asked
  pub next : AskedOf room waiting (option_to_list asked) left
  pub answered : AnswersIf s asked waits new after
  pub ended : is_ended ≡ true → EndsAt waiting left
  pub one : is_ended ≡ false → 0 < length (option_to_list asked)

-- with the answer to what came next the file would have more bytes than are read again
pub record Overfills (room : ℕ) (waiting : Option (List ℕ)) (s : Station) (left : Option (List ℕ)) : Type 0 where
  pub asked : Asked
  pub next : AskedOf room waiting (asked ∷ []) left
  pub over : 2 ^ 32 ≤ length (kept_file (contents_in s.so_far) (list_after s asked))

-- the file has what is kept of the entries up to these, and that of the safe ones is durable
abbrev pub KeepsTo : Contents → List Entry → List Entry → Option Held → Option Held → Type 0
KeepsTo c safe kept None after = Unit {0}
KeepsTo c safe kept (Some held) None = ⊥
KeepsTo c safe kept (Some held) (Some now) =
    (now.bytes ≡ kept_file c (safe ++ kept)) × (length (kept_file c safe) ≤ now.durable)

-- A station that goes on. Of its entries the first are safe, since they are durable, the next are kept, and the lines of
-- the last wait. What it put out is said by the safe ones, and so is what waits, unless words wait.
pub record IsGoing (o : Origin) (asked : List Asked) (s : Station) (waits : Waiting) (after : Option Held)
    (put : Option (List ℕ)) : Type 0 where
  pub ready : IsReady s
  pub contents : contents_in s.so_far ≡ o.contents
  pub actor : s.actor ≡ o.actor
  pub safe : List Entry
  pub kept : List Entry
  pub fresh : List Entry
  pub out : List ℕ
  pub read : Begins o.list safe
  pub list : list_of s ≡ (safe ++ kept) ++ fresh
  pub work : work_of o asked ≡ record { list = list_of s; told = out ++ waits.out }
  pub lines : waits.lines ≡ kept_from o.contents (safe ++ kept) fresh
  pub file : KeepsTo o.contents safe kept o.held after
  pub output : put ≡ put_behind o.told out
  pub said : SaidBy o.contents safe out
  pub notes : waits.has_words ≡ false → SaidBy o.contents safe waits.out

-- why it stops
abbrev pub halt_of_line : LineAnswer → Halt
halt_of_line line.Failed = halt.Input
halt_of_line line.Want = halt.Want

abbrev pub halt_of_take : TakeRefusal → Halt
halt_of_take refusal.Full = halt.Full
halt_of_take refusal.Want = halt.Want

abbrev pub halt_of_release : ReleaseAnswer → Halt
halt_of_release release.NotKept = halt.Keep
halt_of_release release.NotPut = halt.Output
halt_of_release release.Want = halt.Want
