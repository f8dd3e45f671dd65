-- What the walk of `clap` over the words of a subcommand makes of words that are no flags: a relation says that words
-- lead the walk without fault from one state to another, and is built word by word.
use Rattle.std.proofs.Common.{◌≡◌, ◌∙◌, ◌==◌, ℕ, Bool, true, false, refl, ap, ap₂, List, [], ◌∷◌, Some, None, arith}
use Rattle.std.specs.List.{fold, slice_index_or}
use Rattle.std.specs.Str.{bytes_eq}
use Rattle.std.specs.Str.Parse.{IsNumeral}
use Rattle.std.proofs.lemmas.Bool.{ne_eqb}
use Rattle.std.proofs.lemmas.Str.Parse.{digit_from_value}
use Rattle.clap.specs.Lexer.{long_of, short_of}
use Rattle.clap.specs.Kinds.{Kinds, or_else}
use Rattle.clap.specs.declared.builder.value_parser.Reading.TheVariants.{AsWritten}
use Rattle.clap.specs.declared.parser.matches.ValueSource.TheVariants.{CommandLine}
use Rattle.clap.specs.Walk.{Held, Row, Rule, Text, Waiting, Walk, after_step, finished, idle, is_empty, nothing_held}
use Rattle.clap.specs.Walk.{option, plain_word, positional, settled, subcommand_met, walk_from, walked}
use Rattle.clap.specs.Faults.{check_fault, defaults_fault, is_simple_and_free, level_fault, settle_fault, step_fault}
use Rattle.clap.specs.Faults.{turn_fault, walk_fault}
use Rattle.clap.specs.Simple.{Shape, built, is_simple, new_shape}
use Rattle.clap.proofs.OnLiterals.{clap_on_literals}
use Rattle.command_words.specs.CommandLine.{spire_app}
use Rattle.command_words.specs.Wanted.{IsName}

pub spire_is_free : is_simple_and_free spire_app ≡ true
unfolding clap_on_literals
spire_is_free = refl

pub spire_is_simple : is_simple spire_app ≡ true
unfolding clap_on_literals
spire_is_simple = refl

-- ---- Words that are no flags.

abbrev pub IsWord : Text → Type 0
IsWord t = (bytes_eq t (45 ∷ 45 ∷ []) ≡ false) × (long_of t ≡ None) × (short_of t ≡ None)

not_minus : (x : ℕ) (xs : Text) → (x == 45) ≡ false → IsWord (x ∷ xs)
not_minus x xs e = (rw e refl, rw e refl, rw e refl)

pub name_is_word : (t : Text) → IsName t → IsWord t
name_is_word [] h = absurd h
name_is_word (x ∷ xs) h = not_minus x xs (ne_eqb x 45 h)

pub numeral_is_word : (t : Text) → IsNumeral 10 t → IsWord t
numeral_is_word [] h = (refl, refl, refl)
numeral_is_word (x ∷ xs) h = not_minus x xs (ne_eqb x 45 (λ e. omega (arith, digit_from_value x h.1.0)))

-- ---- The walk at a subcommand.

abbrev pub state : Held → Waiting → ℕ → Walk
state h waiting p = record { held = h; waiting = waiting; position = p; is_trailing = false; stopped = None }

no_subcommand : (waiting : Waiting) (t : Text) → subcommand_met [] waiting t ≡ None
no_subcommand idle t = refl
no_subcommand (option id) t = refl
no_subcommand positional t = refl

plain_walked : (c : List Rule) (h : Held) (waiting : Waiting) (p : ℕ) (t : Text) → IsWord t
    → walked c [] (state h waiting p) t
    ≡ after_step c t (state h waiting p) (plain_word c waiting t h).0 (plain_word c waiting t h).1
unfolding walked
plain_walked c h waiting p t w = rw (no_subcommand waiting t, w.0, w.1, w.2) refl

plain_fault : (s : Shape) (h : Held) (waiting : Waiting) (p : ℕ) (t : Text) → IsWord t
    → turn_fault s [] (state h waiting p) t
    ≡ step_fault s p (plain_word s.rules waiting t h).0 (plain_word s.rules waiting t h).1
plain_fault s h waiting p t w = rw (no_subcommand waiting t, w.0, w.1, w.2) refl

-- the words are taken, and lead from one state to another
pub record Runs (s : Shape) (from : Walk) (words : List Text) (to : Walk) : Type 0 where
  pub taken : walk_fault s [] from words ≡ []
  pub walked_to : fold (walked s.rules []) from words ≡ to

pub ends : (s : Shape) (w : Walk) → Runs s w [] w
unfolding walk_fault
ends s w = record { taken = refl; walked_to = refl }

pub steps : (s : Shape) (w v : Walk) (t : Text) (rest : List Text) (to : Walk) → turn_fault s [] w t ≡ []
    → walked s.rules [] w t ≡ v → Runs s v rest to → Runs s w (t ∷ rest) to
unfolding walk_fault
steps s w v t rest to fault is more = record {
  taken = ap₂ (λ ks u. or_else ks (walk_fault s [] u rest)) fault is ∙ more.taken;
  walked_to = ap (λ u. fold (walked s.rules []) u rest) is ∙ more.walked_to;
}

pub word_steps : (s : Shape) (h : Held) (waiting : Waiting) (p : ℕ) (t : Text) (rest : List Text) (to : Walk)
    → IsWord t
    → step_fault s p (plain_word s.rules waiting t h).0 (plain_word s.rules waiting t h).1 ≡ []
    → Runs s (after_step s.rules t (state h waiting p) (plain_word s.rules waiting t h).0
    (plain_word s.rules waiting t h).1) rest to
    → Runs s (state h waiting p) (t ∷ rest) to
word_steps s h waiting p t rest to w fault more =
    steps s _ _ t rest to (plain_fault s h waiting p t w ∙ fault) (plain_walked s.rules h waiting p t w) more

-- the checks after the walk
abbrev pub end_fault : Shape → Held → Kinds
end_fault s end = or_else (settle_fault s.rules s.args_override_self end)
    (or_else (defaults_fault (settled s.rules end).rows s.rules) (check_fault s (finished s.rules end) false))

pub level_taken : (s : Shape) (words : List Text) (to : Walk) → Runs s (walk_from nothing_held) words to
    → end_fault s to.held ≡ []
    → level_fault s [] nothing_held words false [] ≡ []
level_taken s words to runs end =
    ap₂ (λ ks u. or_else ks (or_else [] (end_fault s u.held))) runs.taken runs.walked_to ∙ end

-- the subcommand in this place, with what `clap` adds
abbrev pub leaf : ℕ → Shape
leaf i = slice_index_or (built spire_app).subs i (new_shape [])

-- a text that is the value of a word, as the walk keeps it
abbrev pub text_row : Text → Text → Row
text_row id t = record { id = id; values = t ∷ []; count = None; source = Some CommandLine; reading = AsWritten }

abbrev pub held : List Row → Text → List Text → Held
held rows id values = record { rows = rows; pending = Some (id, values); skip = 0 }

abbrev pub is_taken_if : Kinds → Bool
is_taken_if ks = is_empty (or_else ks [])
