-- A station as a user writes it is taken, and asks for itself: the walk of `clap` is led word by word to its end, where each
-- value stands in its row.
use Rattle.std.proofs.Common.{◌≡◌, true, refl, ap, [], ◌∷◌, Option, None, Some, codes}
use Rattle.std.specs.List.{slice_index_or}
use Rattle.clap.specs.Walk.{Text, Walk, finished, idle, nothing_held, positional, walk_from}
use Rattle.clap.specs.Faults.{is_simple_and_free}
use Rattle.clap.specs.Simple.{Shape, built, is_simple, new_shape}
use Rattle.clap.proofs.OnLiterals.{clap_on_literals}
use Rattle.command_words.proofs.Walks.{IsWord, Runs, ends, held, is_taken_if, level_taken, name_is_word, state}
use Rattle.command_words.proofs.Walks.{text_row, word_steps}
use Rattle.station_words.specs.CommandLine.{station_app}
use Rattle.station_words.specs.Wanted.{AreNames, IsPlain, Wanted, is_taken, named_in, wanted_in, words_of}

pub station_is_free : is_simple_and_free station_app ≡ true
unfolding clap_on_literals
station_is_free = refl

pub station_is_simple : is_simple station_app ≡ true
unfolding clap_on_literals
station_is_simple = refl

-- the subcommand, with what `clap` adds
abbrev leaf : Shape
leaf = slice_index_or (built station_app).subs 0 (new_shape [])

-- what it asks for at the end of a walk
abbrev asked_at : Walk → Option Wanted
asked_at w = named_in (codes "station") (finished leaf.rules w.held)

-- the words are taken, and ask for this
record Asks (asked : Wanted) : Type 0 where
  taken : is_taken (words_of asked) ≡ true
  wanted : wanted_in (words_of asked) ≡ Some asked

asks : (a b c : Text) → IsWord a → IsWord b → IsWord c
    → Asks (record { scenario = a; actor = b; keep = c; keys = None })
unfolding clap_on_literals
asks a b c wa wb wc =
    let runs : Runs leaf (walk_from nothing_held) (a ∷ b ∷ c ∷ [])
    (state (held (text_row (codes "scenario") a ∷ text_row (codes "actor") b ∷ []) (codes "keep") (c ∷ [])) idle 4) =
    word_steps leaf _ _ _ a _ _ wa refl (word_steps leaf _ _ _ b _ _ wb refl
    (word_steps leaf _ _ _ c _ _ wc refl (ends leaf _))) in
    record {
      taken = ap is_taken_if (level_taken leaf _ _ runs refl);
      wanted = ap asked_at runs.walked_to;
    }

-- the same with the files of keys
asks_held : (a b c d e : Text) → IsWord a → IsWord b → IsWord c → IsWord d → IsWord e
    → Asks (record { scenario = a; actor = b; keep = c; keys = Some (d, e) })
unfolding clap_on_literals
asks_held a b c d e wa wb wc wd we =
    let runs : Runs leaf (walk_from nothing_held) (a ∷ b ∷ c ∷ d ∷ e ∷ [])
    (state (held (text_row (codes "scenario") a ∷ text_row (codes "actor") b ∷ text_row (codes "keep") c ∷ [])
    (codes "keys") (d ∷ e ∷ [])) positional 4) =
    word_steps leaf _ _ _ a _ _ wa refl (word_steps leaf _ _ _ b _ _ wb refl
    (word_steps leaf _ _ _ c _ _ wc refl (word_steps leaf _ _ _ d _ _ wd refl
    (word_steps leaf _ _ _ e _ _ we refl (ends leaf _))))) in
    record {
      taken = ap is_taken_if (level_taken leaf _ _ runs refl);
      wanted = ap asked_at runs.walked_to;
    }

asks_plain : (a b c : Text) (keys : Option (Text × Text)) → IsWord a → IsWord b → IsWord c → AreNames keys
    → Asks (record { scenario = a; actor = b; keep = c; keys = keys })
asks_plain a b c None wa wb wc names = asks a b c wa wb wc
asks_plain a b c (Some (d, e)) wa wb wc names =
    asks_held a b c d e wa wb wc (name_is_word d names.0) (name_is_word e names.1)

plain : (asked : Wanted) → IsPlain asked → Asks asked
plain asked h =
    asks_plain asked.scenario asked.actor asked.keep asked.keys (name_is_word _ h.0) (name_is_word _ h.1)
    (name_is_word _ h.2) h.3

pub plain_taken : (asked : Wanted) → IsPlain asked → is_taken (words_of asked) ≡ true
plain_taken asked h = (plain asked h).taken

pub plain_wanted : (asked : Wanted) → IsPlain asked → wanted_in (words_of asked) ≡ Some asked
plain_wanted asked h = (plain asked h).wanted
