-- What intruded masters are made to say, and to whom. (This project's own.)
use Rattle.std.specs.Prelude.{ℕ, nat_eq, codes, if◌then◌else◌, List, [], ◌∷◌, Option, Some, None, Result, Ok, Err}
use Rattle.std.specs.Prelude.{filter, ◌==◌}
use Rattle.std.specs.List.{slice_split, list_any}
use Rattle.std.specs.Str.{bytes_eq}
use Rattle.play_words.specs.declared.words.Ref.{Ref}
use Rattle.play_words.specs.declared.words.Word.{Word}
use Rattle.play_words.specs.declared.words.Word.TheVariants as word
use Rattle.quorum_sets.specs.Masters.{numbers_below}
use Rattle.scenario_file.specs.declared.actors.Cast.{Cast}
use Rattle.scenario_file.specs.Actors.{actors_of}
use Rattle.script_grammar.specs.declared.fault.ScriptRefusal.{ScriptRefusal}
use Rattle.script_grammar.specs.declared.kinds.Kind.{Kind}
use Rattle.script_grammar.specs.declared.kinds.Kind.TheVariants as kind
use Rattle.script_grammar.specs.Faults.{Answer, bad, said, both, each}
use Rattle.script_grammar.specs.Kinds.{kind_named}
use Rattle.script_grammar.specs.Lines.{file_in}
use Rattle.script_grammar.specs.Names.{Who, actor_in, intruded_in}
use Rattle.script_lines.specs.declared.saying.Saying.{Saying}
use Rattle.script_lines.specs.WordFields.{raw_in, number_in, numbers_in, one_and_number_in, request_in, poack_in}
use Rattle.script_lines.specs.WordFields.{summary_in, preprepare_in, vote_in, rtt_in, report_in, newview_in}
use Rattle.script_lines.specs.WordFields.{voucher_in}

-- the word of a kind that has these fields; an update can't be spoken
unfoldable pub fields_in : Cast → Kind → List (List ℕ) → Answer Word
fields_in cast kind.Update fields = bad
fields_in cast kind.PoRequest fields = request_in cast fields
fields_in cast kind.PoAck fields = poack_in cast fields
fields_in cast kind.PoSummary fields = summary_in fields
fields_in cast kind.PrePrepare fields = preprepare_in cast fields
fields_in cast kind.Prepare fields = said (λ (p : ℕ × (ℕ × Ref)). word.Prepare p.0 p.1.0 p.1.1) (vote_in cast fields)
fields_in cast kind.Commit fields = said (λ (p : ℕ × (ℕ × Ref)). word.Commit p.0 p.1.0 p.1.1) (vote_in cast fields)
fields_in cast kind.Ping fields = said word.Ping (number_in fields)
fields_in cast kind.Pong fields = said (λ (p : ℕ × ℕ). word.Pong p.0 p.1) (one_and_number_in fields)
fields_in cast kind.Rtt fields = rtt_in fields
fields_in cast kind.TatReport fields = said (λ (p : ℕ × ℕ). word.TatReport p.0 p.1) (numbers_in fields)
fields_in cast kind.TatBound fields = said (λ (p : ℕ × ℕ). word.TatBound p.0 p.1) (numbers_in fields)
fields_in cast kind.Suspect fields = said word.Suspect (number_in fields)
fields_in cast kind.Report fields = report_in fields
fields_in cast kind.NewView fields = newview_in cast fields
fields_in cast kind.AskUpdate fields = said (λ (p : ℕ × ℕ). word.AskUpdate p.0 p.1) (one_and_number_in fields)
fields_in cast kind.Give fields = said (λ (p : ℕ × ℕ). word.Give p.0 p.1) (one_and_number_in fields)
fields_in cast kind.AskOrder fields = said word.AskOrder (number_in fields)
fields_in cast kind.GiveOrdered fields = said word.GiveOrdered (number_in fields)
fields_in cast kind.Voucher fields = voucher_in fields
fields_in cast kind.Mark fields = said word.Mark (number_in fields)

abbrev pub kind_fields_in : Cast → Option Kind → List (List ℕ) → Answer Word
kind_fields_in cast None fields = bad
kind_fields_in cast (Some k) fields = fields_in cast k fields

-- raw bytes, or a kind's name with its fields
unfoldable pub word_in : Cast → List (List ℕ) → Answer Word
word_in cast [] = bad
word_in cast (name ∷ fields) = if bytes_eq name (codes "raw") then raw_in fields else kind_fields_in cast
    (kind_named name) fields

-- the actors named, each once and in number order
abbrev pub among : Cast → List ℕ → List ℕ
among cast named = filter (λ a. list_any (λ m. nat_eq m a) named) (numbers_below (actors_of cast))

-- actors with commas between them
unfoldable pub addressees_in : Cast → List ℕ → Answer (List ℕ)
addressees_in cast text = said (among cast) (each (actor_in cast) (slice_split (λ b. b == 44) text))

abbrev pub saying_of : ℕ × (List ℕ × Word) → Saying
saying_of p = record { speaker = p.0; to = p.1.0; word = p.1.1 }

-- a master, whom it speaks to, and the word
unfoldable pub saying_in : Who → List (List ℕ) → Answer Saying
saying_in who (name ∷ to ∷ fields) =
    said saying_of (both (intruded_in who name) (both (addressees_in who.cast to) (word_in who.cast fields)))
saying_in who (name ∷ []) = bad
saying_in who [] = bad

-- a file of words has at most 1,000 lines
unfoldable pub words_in : Who → List ℕ → Result (List Saying) ScriptRefusal
words_in who bytes = file_in 1000 (λ number words. saying_in who words) bytes
