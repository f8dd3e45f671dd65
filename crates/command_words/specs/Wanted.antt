-- What the words of a command line ask for.
use Rattle.std.specs.Prelude.{◌≢◌, ◌≤◌, ℕ, Bool, List, [], ◌∷◌, ◌++◌, Option, None, Some, codes}
use Rattle.std.specs.Prelude.{if◌then◌else◌, option_and_then, decimal, length, map}
use Rattle.std.specs.List.{All}
use Rattle.std.specs.Str.{bytes_eq}
use Rattle.std.specs.Str.Parse.{digits_value, without_leading_plus}
use Rattle.clap.specs.ValueTests.{is_unsigned_in}
use Rattle.clap.specs.Words.{Row, Text, all_of, fault_of, first_of, one_of, subcommand_of}
use Rattle.clap.specs.Walk.{is_empty}
use Rattle.command_words.specs.CommandLine.{spire_app}
use Rattle.command_words.specs.declared.asked.Asked.{Asked}
use Rattle.command_words.specs.declared.asked.Asked.TheVariants as asked

-- a command with its values: texts, and numbers
pub data Wanted : Type 0 where
  play : Text → Text → Text → Wanted
  run : Text → Text → Text → ℕ → ℕ → Wanted
  replay : Text → Text → Wanted
  make : ℕ → Wanted
  keys : Text → Wanted
  key : Text → Text → Wanted
  verify : Text → Text → Text → Wanted
  parts : Text → Text → ℕ → ℕ → Wanted
  rebuild : Text → Text → Wanted
  blame : Text → Text → Wanted
  trend : Text → Text → ℕ → ℕ → ℕ → Wanted
  delays : Text → Text → Wanted
  page : Text → Text → Wanted
  -- the first and the last stamp, and the width
  picture : Text → Text → Option ℕ → Option ℕ → Option ℕ → Wanted
  plot : Text → Text → ℕ → Option ℕ → Wanted
  chart : Text → Text → Option ℕ → Wanted
  -- the files that stations kept
  merge : Text → List Text → Wanted

abbrev pub wanted : Asked → Wanted
wanted (asked.Play scenario script words) = play scenario.now script.now words.now
wanted (asked.Run scenario script words hands turns) = run scenario.now script.now words.now hands turns
wanted (asked.Replay scenario history) = replay scenario.now history.now
wanted (asked.Make number) = make number
wanted (asked.Keys scenario) = keys scenario.now
wanted (asked.Key scenario actor) = key scenario.now actor.now
wanted (asked.Verify public message signature) = verify public.now message.now signature.now
wanted (asked.Parts scenario history originator number) = parts scenario.now history.now originator number
wanted (asked.Rebuild scenario pieces) = rebuild scenario.now pieces.now
wanted (asked.Blame scenario history) = blame scenario.now history.now
wanted (asked.Trend scenario history point first last) = trend scenario.now history.now point first last
wanted (asked.Delays scenario history) = delays scenario.now history.now
wanted (asked.Page scenario history) = page scenario.now history.now
wanted (asked.Picture scenario history first last width) = picture scenario.now history.now first last width
wanted (asked.Plot scenario history point width) = plot scenario.now history.now point width
wanted (asked.Chart scenario history width) = chart scenario.now history.now width
wanted (asked.Merge scenario keeps) = merge scenario.now (map (λ keep. keep.now) keeps.items)

-- The words are a command: `clap` refuses them for no cause but want of memory.
abbrev pub is_command : List Text → Bool
is_command words = is_empty (fault_of spire_app words)

-- ---- The values among what `clap` found, by their names.

-- the number that a text of 32 bits says, in digits with a plus sign or none
abbrev pub number_in : Text → Option ℕ
number_in text =
    if is_unsigned_in 0 4294967295 text then Some (digits_value 10 (without_leading_plus text)) else None

abbrev pub number_of : Text → List Row → Option ℕ
number_of id rows = option_and_then number_in (one_of id rows)

abbrev pub with_text : Text → List Row → (Text → Option Wanted) → Option Wanted
with_text id rows next = option_and_then next (first_of id rows)

abbrev pub with_number : Text → List Row → (ℕ → Option Wanted) → Option Wanted
with_number id rows next = option_and_then next (number_of id rows)

abbrev pub with_texts : Text → List Row → (List Text → Option Wanted) → Option Wanted
with_texts id rows next = option_and_then next (all_of id rows)

abbrev pub play_in : List Row → Option Wanted
play_in rows = with_text (codes "scenario") rows (λ scenario.
    with_text (codes "script") rows (λ script.
    with_text (codes "words") rows (λ words. Some (play scenario script words))))

abbrev pub run_in : List Row → Option Wanted
run_in rows = with_text (codes "scenario") rows (λ scenario.
    with_text (codes "script") rows (λ script.
    with_text (codes "words") rows (λ words.
    with_number (codes "hands") rows (λ hands.
    with_number (codes "turns") rows (λ turns. Some (run scenario script words hands turns))))))

abbrev pub replay_in : List Row → Option Wanted
replay_in rows = with_text (codes "scenario") rows (λ scenario.
    with_text (codes "history") rows (λ history. Some (replay scenario history)))

abbrev pub make_in : List Row → Option Wanted
make_in rows = with_number (codes "number") rows (λ number. Some (make number))

abbrev pub keys_in : List Row → Option Wanted
keys_in rows = with_text (codes "scenario") rows (λ scenario. Some (keys scenario))

abbrev pub key_in : List Row → Option Wanted
key_in rows = with_text (codes "scenario") rows (λ scenario.
    with_text (codes "actor") rows (λ actor. Some (key scenario actor)))

abbrev pub verify_in : List Row → Option Wanted
verify_in rows = with_text (codes "public") rows (λ public.
    with_text (codes "message") rows (λ message.
    with_text (codes "signature") rows (λ signature. Some (verify public message signature))))

abbrev pub parts_in : List Row → Option Wanted
parts_in rows = with_text (codes "scenario") rows (λ scenario.
    with_text (codes "history") rows (λ history.
    with_number (codes "originator") rows (λ originator.
    with_number (codes "number") rows (λ number. Some (parts scenario history originator number)))))

abbrev pub rebuild_in : List Row → Option Wanted
rebuild_in rows = with_text (codes "scenario") rows (λ scenario.
    with_text (codes "pieces") rows (λ pieces. Some (rebuild scenario pieces)))

abbrev pub blame_in : List Row → Option Wanted
blame_in rows = with_text (codes "scenario") rows (λ scenario.
    with_text (codes "history") rows (λ history. Some (blame scenario history)))

abbrev pub trend_in : List Row → Option Wanted
trend_in rows = with_text (codes "scenario") rows (λ scenario.
    with_text (codes "history") rows (λ history.
    with_number (codes "point") rows (λ point.
    with_number (codes "first") rows (λ first.
    with_number (codes "last") rows (λ last. Some (trend scenario history point first last))))))

abbrev pub delays_in : List Row → Option Wanted
delays_in rows = with_text (codes "scenario") rows (λ scenario.
    with_text (codes "history") rows (λ history. Some (delays scenario history)))

abbrev pub page_in : List Row → Option Wanted
page_in rows = with_text (codes "scenario") rows (λ scenario.
    with_text (codes "history") rows (λ history. Some (page scenario history)))

abbrev pub picture_in : List Row → Option Wanted
picture_in rows = with_text (codes "scenario") rows (λ scenario.
    with_text (codes "history") rows (λ history. Some (picture scenario history (number_of (codes "first") rows)
    (number_of (codes "last") rows) (number_of (codes "width") rows))))

abbrev pub plot_in : List Row → Option Wanted
plot_in rows = with_text (codes "scenario") rows (λ scenario.
    with_text (codes "history") rows (λ history.
    with_number (codes "point") rows (λ point.
    Some (plot scenario history point (number_of (codes "width") rows)))))

abbrev pub chart_in : List Row → Option Wanted
chart_in rows = with_text (codes "scenario") rows (λ scenario.
    with_text (codes "history") rows (λ history. Some (chart scenario history (number_of (codes "width") rows))))

abbrev pub merge_in : List Row → Option Wanted
merge_in rows = with_text (codes "scenario") rows (λ scenario.
    with_texts (codes "keep") rows (λ keeps. Some (merge scenario keeps)))

abbrev pub command_in : Text → List Row → Option Wanted
command_in name rows = if bytes_eq name (codes "play") then play_in rows
    else (if bytes_eq name (codes "run") then run_in rows
    else (if bytes_eq name (codes "replay") then replay_in rows
    else (if bytes_eq name (codes "make") then make_in rows
    else (if bytes_eq name (codes "keys") then keys_in rows
    else (if bytes_eq name (codes "key") then key_in rows
    else (if bytes_eq name (codes "verify") then verify_in rows
    else (if bytes_eq name (codes "parts") then parts_in rows
    else (if bytes_eq name (codes "rebuild") then rebuild_in rows
    else (if bytes_eq name (codes "blame") then blame_in rows
    else (if bytes_eq name (codes "trend") then trend_in rows
    else (if bytes_eq name (codes "delays") then delays_in rows
    else (if bytes_eq name (codes "page") then page_in rows
    else (if bytes_eq name (codes "picture") then picture_in rows
    else (if bytes_eq name (codes "plot") then plot_in rows
    else (if bytes_eq name (codes "chart") then chart_in rows
    else (if bytes_eq name (codes "merge") then merge_in rows else None))))))))))))))))

-- the command that `clap` found, by its name and its rows
abbrev pub asked_in : Option (Text × List Row) → Option Wanted
asked_in = option_and_then (λ found. command_in found.0 found.1)

-- what the words ask for, as `clap` finds it in them
abbrev pub wanted_in : List Text → Option Wanted
wanted_in words = asked_in (subcommand_of spire_app words)

-- ---- A command as a user writes it: its name and its values in order, numbers in digits without sign or leading
-- zeros.

abbrev pub number_words : Option ℕ → List Text
number_words None = []
number_words (Some n) = decimal n ∷ []

abbrev pub width_words : Option ℕ → List Text
width_words None = []
width_words (Some n) = codes "--width" ∷ decimal n ∷ []

abbrev pub words_of : Wanted → List Text
words_of (play scenario script words) = codes "play" ∷ scenario ∷ script ∷ words ∷ []
words_of (run scenario script words hands turns) = codes "run" ∷ scenario ∷ script ∷ words
    ∷ codes "--hands" ∷ decimal hands ∷ codes "--turns" ∷ decimal turns ∷ []
words_of (replay scenario history) = codes "replay" ∷ scenario ∷ history ∷ []
words_of (make number) = codes "make" ∷ decimal number ∷ []
words_of (keys scenario) = codes "keys" ∷ scenario ∷ []
words_of (key scenario actor) = codes "key" ∷ scenario ∷ actor ∷ []
words_of (verify public message signature) = codes "verify" ∷ public ∷ message ∷ signature ∷ []
words_of (parts scenario history originator number) =
    codes "parts" ∷ scenario ∷ history ∷ decimal originator ∷ decimal number ∷ []
words_of (rebuild scenario pieces) = codes "rebuild" ∷ scenario ∷ pieces ∷ []
words_of (blame scenario history) = codes "blame" ∷ scenario ∷ history ∷ []
words_of (trend scenario history point first last) =
    codes "trend" ∷ scenario ∷ history ∷ decimal point ∷ decimal first ∷ decimal last ∷ []
words_of (delays scenario history) = codes "delays" ∷ scenario ∷ history ∷ []
words_of (page scenario history) = codes "page" ∷ scenario ∷ history ∷ []
words_of (picture scenario history first last width) =
    codes "picture" ∷ scenario ∷ history ∷ (number_words first ++ (number_words last ++ width_words width))
words_of (plot scenario history point width) = codes "plot" ∷ scenario ∷ history ∷ decimal point ∷ width_words width
words_of (chart scenario history width) = codes "chart" ∷ scenario ∷ history ∷ width_words width
words_of (merge scenario keeps) = codes "merge" ∷ scenario ∷ keeps

-- a name isn't empty and doesn't begin with a hyphen, whose number is 45
abbrev pub IsName : Text → Type 0
IsName [] = ⊥
IsName (x ∷ xs) = x ≢ 45

abbrev pub IsWhole : ℕ → Type 0
IsWhole number = number ≤ 4294967295

-- the first of two numbers may stand alone
abbrev pub IsSpan : Option ℕ → Option ℕ → Type 0
IsSpan None None = Unit {0}
IsSpan None (Some last) = ⊥
IsSpan (Some first) None = IsWhole first
IsSpan (Some first) (Some last) = IsWhole first × IsWhole last

abbrev pub IsWidth : Option ℕ → Type 0
IsWidth None = Unit {0}
IsWidth (Some width) = (600 ≤ width) × (width ≤ 4000)

-- each name is one, and each number is in its range
abbrev pub IsPlain : Wanted → Type 0
IsPlain (play scenario script words) = IsName scenario × IsName script × IsName words
IsPlain (run scenario script words hands turns) = IsName scenario × IsName script × IsName words
    × (1 ≤ hands) × (hands ≤ 4) × (1 ≤ turns) × (turns ≤ 4000)
IsPlain (replay scenario history) = IsName scenario × IsName history
IsPlain (make number) = IsWhole number
IsPlain (keys scenario) = IsName scenario
IsPlain (key scenario actor) = IsName scenario × IsName actor
IsPlain (verify public message signature) = IsName public × IsName message × IsName signature
IsPlain (parts scenario history originator number) =
    IsName scenario × IsName history × IsWhole originator × IsWhole number
IsPlain (rebuild scenario pieces) = IsName scenario × IsName pieces
IsPlain (blame scenario history) = IsName scenario × IsName history
IsPlain (trend scenario history point first last) =
    IsName scenario × IsName history × IsWhole point × IsWhole first × IsWhole last
IsPlain (delays scenario history) = IsName scenario × IsName history
IsPlain (page scenario history) = IsName scenario × IsName history
IsPlain (picture scenario history first last width) =
    IsName scenario × IsName history × IsSpan first last × IsWidth width
IsPlain (plot scenario history point width) = IsName scenario × IsName history × IsWhole point × IsWidth width
IsPlain (chart scenario history width) = IsName scenario × IsName history × IsWidth width
IsPlain (merge scenario keeps) = IsName scenario × All IsName keeps × (1 ≤ length keeps) × (length keeps ≤ 26)
