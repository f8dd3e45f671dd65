-- A command as a user writes it is taken, and asks for itself: for each subcommand the walk is led word by word to its
-- end, where each value stands in its row.
use Rattle.std.proofs.Common.{◌≡◌, ◌∙◌, ◌≤◌, ◌==◌, ℕ, suc, Bool, true, false, refl, ap, List, [], ◌∷◌, ◌++◌, length, nat_lt, Option, None, Some, codes, arith}
use Rattle.std.specs.Prelude.{decimal}
use Rattle.std.specs.List.{All}
use Rattle.std.proofs.lemmas.Bool.{ne_eqb}
use Rattle.std.proofs.Common.{append_assoc, append-nil}
use Rattle.clap.specs.Walk.{Row, Text, Walk, finished, idle, nothing_held, positional, walk_from}
use Rattle.clap.specs.ValueTests.{is_unsigned_in}
use Rattle.clap.specs.Kinds.{range_kinds, values_kinds}
use Rattle.clap.specs.declared.builder.value_parser.ValueParser.TheVariants as vp
use Rattle.clap.proofs.OnLiterals.{clap_on_literals}
use Rattle.command_words.specs.Wanted.{IsName, IsPlain, IsSpan, IsWhole, IsWidth, Wanted, command_in, is_command, number_in, wanted_in, words_of}
use Rattle.command_words.specs.Wanted.{play, run, replay, make, keys, key, verify, parts, rebuild, blame, trend, delays, page}
use Rattle.command_words.specs.Wanted.{picture, plot, chart, merge}
use Rattle.command_words.proofs.Walks.{IsWord, Runs, ends, held, is_taken_if, leaf, level_taken, name_is_word, state}
use Rattle.command_words.proofs.Walks.{steps, text_row, word_steps}
use Rattle.command_words.proofs.Stops.{merge_found, merge_taken}
use Rattle.command_words.proofs.Numbers.{below_whole, whole_is_in, whole_is_word, whole_reads, written_is_in}

-- where the walk ends: these rows are held, and the last value, behind which no more is awaited
abbrev end_at : List Row → Text → Text → ℕ → Walk
end_at rows id value p = state (held rows id (value ∷ [])) idle p

-- what the subcommand in this place and of this name asks for at the end of a walk
abbrev asked_at : ℕ → Text → Walk → Option Wanted
asked_at i name w = command_in name (finished (leaf i).rules w.held)

-- the words are a command, and ask for this
record Asks (words : List Text) (w : Wanted) : Type 0 where
  taken : is_command words ≡ true
  wanted : wanted_in words ≡ Some w

-- ---- play

play_asks : (a b c : Text) → IsWord a → IsWord b → IsWord c → Asks (codes "play" ∷ a ∷ b ∷ c ∷ []) (play a b c)
unfolding clap_on_literals
play_asks a b c wa wb wc =
    let runs : Runs (leaf 0) (walk_from nothing_held) (a ∷ b ∷ c ∷ [])
    (end_at (text_row (codes "scenario") a ∷ text_row (codes "script") b ∷ []) (codes "words") c 4) =
    word_steps (leaf 0) _ _ _ a _ _ wa refl (word_steps (leaf 0) _ _ _ b _ _ wb refl
    (word_steps (leaf 0) _ _ _ c _ _ wc refl (ends (leaf 0) _))) in
    record {
      taken = ap is_taken_if (level_taken (leaf 0) _ _ runs refl);
      wanted = ap (asked_at 0 (codes "play")) runs.walked_to;
    }

-- ---- run

run_asks : (a b c d e : Text) (nd ne : ℕ) → IsWord a → IsWord b → IsWord c → IsWord d → IsWord e →
    is_unsigned_in 1 4 d ≡ true → is_unsigned_in 1 4000 e ≡ true → number_in d ≡ Some nd → number_in e ≡ Some ne →
    Asks (codes "run" ∷ a ∷ b ∷ c ∷ codes "--hands" ∷ d ∷ codes "--turns" ∷ e ∷ []) (run a b c nd ne)
unfolding clap_on_literals
run_asks a b c d e nd ne wa wb wc wd we ed ee hd he =
    let runs : Runs (leaf 1) (walk_from nothing_held) (a ∷ b ∷ c ∷ codes "--hands" ∷ d ∷ codes "--turns" ∷ e ∷ [])
    (end_at (text_row (codes "scenario") a ∷ text_row (codes "script") b ∷ text_row (codes "words") c ∷
    text_row (codes "hands") d ∷ []) (codes "turns") e 4) =
    word_steps (leaf 1) _ _ _ a _ _ wa refl (word_steps (leaf 1) _ _ _ b _ _ wb refl
    (word_steps (leaf 1) _ _ _ c _ _ wc refl (steps (leaf 1) _ _ (codes "--hands") _ _ refl refl
    (word_steps (leaf 1) _ _ _ d _ _ wd refl (steps (leaf 1) _ _ (codes "--turns") _ _ (rw ed refl) refl
    (word_steps (leaf 1) _ _ _ e _ _ we refl (ends (leaf 1) _))))))) in
    record {
      taken = ap is_taken_if (level_taken (leaf 1) _ _ runs (rw ee refl));
      wanted = ap (asked_at 1 (codes "run")) runs.walked_to ∙ rw (hd, he) refl;
    }

-- ---- replay

replay_asks : (a b : Text) → IsWord a → IsWord b → Asks (codes "replay" ∷ a ∷ b ∷ []) (replay a b)
unfolding clap_on_literals
replay_asks a b wa wb =
    let runs : Runs (leaf 2) (walk_from nothing_held) (a ∷ b ∷ [])
    (end_at (text_row (codes "scenario") a ∷ []) (codes "history") b 3) =
    word_steps (leaf 2) _ _ _ a _ _ wa refl (word_steps (leaf 2) _ _ _ b _ _ wb refl (ends (leaf 2) _)) in
    record {
      taken = ap is_taken_if (level_taken (leaf 2) _ _ runs refl);
      wanted = ap (asked_at 2 (codes "replay")) runs.walked_to;
    }

-- ---- make

make_asks : (a : Text) (na : ℕ) → IsWord a → is_unsigned_in 0 4294967295 a ≡ true → number_in a ≡ Some na →
    Asks (codes "make" ∷ a ∷ []) (make na)
unfolding clap_on_literals
make_asks a na wa ea ha =
    let runs : Runs (leaf 3) (walk_from nothing_held) (a ∷ []) (end_at [] (codes "number") a 2) =
    word_steps (leaf 3) _ _ _ a _ _ wa refl (ends (leaf 3) _) in
    record {
      taken = ap is_taken_if (level_taken (leaf 3) _ _ runs (rw ea refl));
      wanted = ap (asked_at 3 (codes "make")) runs.walked_to ∙ rw ha refl;
    }

-- ---- keys

keys_asks : (a : Text) → IsWord a → Asks (codes "keys" ∷ a ∷ []) (keys a)
unfolding clap_on_literals
keys_asks a wa =
    let runs : Runs (leaf 4) (walk_from nothing_held) (a ∷ []) (end_at [] (codes "scenario") a 2) =
    word_steps (leaf 4) _ _ _ a _ _ wa refl (ends (leaf 4) _) in
    record {
      taken = ap is_taken_if (level_taken (leaf 4) _ _ runs refl);
      wanted = ap (asked_at 4 (codes "keys")) runs.walked_to;
    }

-- ---- key

key_asks : (a b : Text) → IsWord a → IsWord b → Asks (codes "key" ∷ a ∷ b ∷ []) (key a b)
unfolding clap_on_literals
key_asks a b wa wb =
    let runs : Runs (leaf 5) (walk_from nothing_held) (a ∷ b ∷ [])
    (end_at (text_row (codes "scenario") a ∷ []) (codes "actor") b 3) =
    word_steps (leaf 5) _ _ _ a _ _ wa refl (word_steps (leaf 5) _ _ _ b _ _ wb refl (ends (leaf 5) _)) in
    record {
      taken = ap is_taken_if (level_taken (leaf 5) _ _ runs refl);
      wanted = ap (asked_at 5 (codes "key")) runs.walked_to;
    }

-- ---- verify

verify_asks : (a b c : Text) → IsWord a → IsWord b → IsWord c →
    Asks (codes "verify" ∷ a ∷ b ∷ c ∷ []) (verify a b c)
unfolding clap_on_literals
verify_asks a b c wa wb wc =
    let runs : Runs (leaf 6) (walk_from nothing_held) (a ∷ b ∷ c ∷ [])
    (end_at (text_row (codes "public") a ∷ text_row (codes "message") b ∷ []) (codes "signature") c 4) =
    word_steps (leaf 6) _ _ _ a _ _ wa refl (word_steps (leaf 6) _ _ _ b _ _ wb refl
    (word_steps (leaf 6) _ _ _ c _ _ wc refl (ends (leaf 6) _))) in
    record {
      taken = ap is_taken_if (level_taken (leaf 6) _ _ runs refl);
      wanted = ap (asked_at 6 (codes "verify")) runs.walked_to;
    }

-- ---- parts

parts_asks : (a b c d : Text) (nc nd : ℕ) → IsWord a → IsWord b → IsWord c → IsWord d →
    is_unsigned_in 0 4294967295 c ≡ true → is_unsigned_in 0 4294967295 d ≡ true → number_in c ≡ Some nc →
    number_in d ≡ Some nd → Asks (codes "parts" ∷ a ∷ b ∷ c ∷ d ∷ []) (parts a b nc nd)
unfolding clap_on_literals
parts_asks a b c d nc nd wa wb wc wd ec ed hc hd =
    let runs : Runs (leaf 7) (walk_from nothing_held) (a ∷ b ∷ c ∷ d ∷ [])
    (end_at (text_row (codes "scenario") a ∷ text_row (codes "history") b ∷
    text_row (codes "originator") c ∷ []) (codes "number") d 5) =
    word_steps (leaf 7) _ _ _ a _ _ wa refl (word_steps (leaf 7) _ _ _ b _ _ wb refl
    (word_steps (leaf 7) _ _ _ c _ _ wc refl (word_steps (leaf 7) _ _ _ d _ _ wd (rw ec refl) (ends (leaf 7) _)))) in
    record {
      taken = ap is_taken_if (level_taken (leaf 7) _ _ runs (rw ed refl));
      wanted = ap (asked_at 7 (codes "parts")) runs.walked_to ∙ rw (hc, hd) refl;
    }

-- ---- rebuild

rebuild_asks : (a b : Text) → IsWord a → IsWord b → Asks (codes "rebuild" ∷ a ∷ b ∷ []) (rebuild a b)
unfolding clap_on_literals
rebuild_asks a b wa wb =
    let runs : Runs (leaf 8) (walk_from nothing_held) (a ∷ b ∷ [])
    (end_at (text_row (codes "scenario") a ∷ []) (codes "pieces") b 3) =
    word_steps (leaf 8) _ _ _ a _ _ wa refl (word_steps (leaf 8) _ _ _ b _ _ wb refl (ends (leaf 8) _)) in
    record {
      taken = ap is_taken_if (level_taken (leaf 8) _ _ runs refl);
      wanted = ap (asked_at 8 (codes "rebuild")) runs.walked_to;
    }

-- ---- blame

blame_asks : (a b : Text) → IsWord a → IsWord b → Asks (codes "blame" ∷ a ∷ b ∷ []) (blame a b)
unfolding clap_on_literals
blame_asks a b wa wb =
    let runs : Runs (leaf 9) (walk_from nothing_held) (a ∷ b ∷ [])
    (end_at (text_row (codes "scenario") a ∷ []) (codes "history") b 3) =
    word_steps (leaf 9) _ _ _ a _ _ wa refl (word_steps (leaf 9) _ _ _ b _ _ wb refl (ends (leaf 9) _)) in
    record {
      taken = ap is_taken_if (level_taken (leaf 9) _ _ runs refl);
      wanted = ap (asked_at 9 (codes "blame")) runs.walked_to;
    }

-- ---- trend

trend_asks : (a b c d e : Text) (nc nd ne : ℕ) → IsWord a → IsWord b → IsWord c → IsWord d → IsWord e →
    is_unsigned_in 0 4294967295 c ≡ true → is_unsigned_in 0 4294967295 d ≡ true →
    is_unsigned_in 0 4294967295 e ≡ true → number_in c ≡ Some nc → number_in d ≡ Some nd → number_in e ≡ Some ne →
    Asks (codes "trend" ∷ a ∷ b ∷ c ∷ d ∷ e ∷ []) (trend a b nc nd ne)
unfolding clap_on_literals
trend_asks a b c d e nc nd ne wa wb wc wd we ec ed ee hc hd he =
    let runs : Runs (leaf 10) (walk_from nothing_held) (a ∷ b ∷ c ∷ d ∷ e ∷ [])
    (end_at (text_row (codes "scenario") a ∷ text_row (codes "history") b ∷
    text_row (codes "point") c ∷ text_row (codes "first") d ∷ []) (codes "last") e 6) =
    word_steps (leaf 10) _ _ _ a _ _ wa refl (word_steps (leaf 10) _ _ _ b _ _ wb refl
    (word_steps (leaf 10) _ _ _ c _ _ wc refl (word_steps (leaf 10) _ _ _ d _ _ wd (rw ec refl)
    (word_steps (leaf 10) _ _ _ e _ _ we (rw ed refl) (ends (leaf 10) _))))) in
    record {
      taken = ap is_taken_if (level_taken (leaf 10) _ _ runs (rw ee refl));
      wanted = ap (asked_at 10 (codes "trend")) runs.walked_to ∙ rw (hc, hd, he) refl;
    }

-- ---- delays

delays_asks : (a b : Text) → IsWord a → IsWord b → Asks (codes "delays" ∷ a ∷ b ∷ []) (delays a b)
unfolding clap_on_literals
delays_asks a b wa wb =
    let runs : Runs (leaf 11) (walk_from nothing_held) (a ∷ b ∷ [])
    (end_at (text_row (codes "scenario") a ∷ []) (codes "history") b 3) =
    word_steps (leaf 11) _ _ _ a _ _ wa refl (word_steps (leaf 11) _ _ _ b _ _ wb refl (ends (leaf 11) _)) in
    record {
      taken = ap is_taken_if (level_taken (leaf 11) _ _ runs refl);
      wanted = ap (asked_at 11 (codes "delays")) runs.walked_to;
    }

-- ---- page

page_asks : (a b : Text) → IsWord a → IsWord b → Asks (codes "page" ∷ a ∷ b ∷ []) (page a b)
unfolding clap_on_literals
page_asks a b wa wb =
    let runs : Runs (leaf 12) (walk_from nothing_held) (a ∷ b ∷ [])
    (end_at (text_row (codes "scenario") a ∷ []) (codes "history") b 3) =
    word_steps (leaf 12) _ _ _ a _ _ wa refl (word_steps (leaf 12) _ _ _ b _ _ wb refl (ends (leaf 12) _)) in
    record {
      taken = ap is_taken_if (level_taken (leaf 12) _ _ runs refl);
      wanted = ap (asked_at 12 (codes "page")) runs.walked_to;
    }

-- ---- picture

picture_asks : (a b : Text) → IsWord a → IsWord b → Asks (codes "picture" ∷ a ∷ b ∷ []) (picture a b None None None)
unfolding clap_on_literals
picture_asks a b wa wb =
    let runs : Runs (leaf 13) (walk_from nothing_held) (a ∷ b ∷ [])
    (end_at (text_row (codes "scenario") a ∷ []) (codes "history") b 3) =
    word_steps (leaf 13) _ _ _ a _ _ wa refl (word_steps (leaf 13) _ _ _ b _ _ wb refl (ends (leaf 13) _)) in
    record {
      taken = ap is_taken_if (level_taken (leaf 13) _ _ runs refl);
      wanted = ap (asked_at 13 (codes "picture")) runs.walked_to;
    }

picture_from : (a b c : Text) (nc : ℕ) → IsWord a → IsWord b → IsWord c → is_unsigned_in 0 4294967295 c ≡ true →
    number_in c ≡ Some nc → Asks (codes "picture" ∷ a ∷ b ∷ c ∷ []) (picture a b (Some nc) None None)
unfolding clap_on_literals
picture_from a b c nc wa wb wc ec hc =
    let runs : Runs (leaf 13) (walk_from nothing_held) (a ∷ b ∷ c ∷ [])
    (end_at (text_row (codes "scenario") a ∷ text_row (codes "history") b ∷ []) (codes "first") c 4) =
    word_steps (leaf 13) _ _ _ a _ _ wa refl (word_steps (leaf 13) _ _ _ b _ _ wb refl
    (word_steps (leaf 13) _ _ _ c _ _ wc refl (ends (leaf 13) _))) in
    record {
      taken = ap is_taken_if (level_taken (leaf 13) _ _ runs (rw ec refl));
      wanted = ap (asked_at 13 (codes "picture")) runs.walked_to ∙ rw hc refl;
    }

picture_between : (a b c d : Text) (nc nd : ℕ) → IsWord a → IsWord b → IsWord c → IsWord d →
    is_unsigned_in 0 4294967295 c ≡ true → is_unsigned_in 0 4294967295 d ≡ true → number_in c ≡ Some nc →
    number_in d ≡ Some nd → Asks (codes "picture" ∷ a ∷ b ∷ c ∷ d ∷ []) (picture a b (Some nc) (Some nd) None)
unfolding clap_on_literals
picture_between a b c d nc nd wa wb wc wd ec ed hc hd =
    let runs : Runs (leaf 13) (walk_from nothing_held) (a ∷ b ∷ c ∷ d ∷ [])
    (end_at (text_row (codes "scenario") a ∷ text_row (codes "history") b ∷
    text_row (codes "first") c ∷ []) (codes "last") d 5) =
    word_steps (leaf 13) _ _ _ a _ _ wa refl (word_steps (leaf 13) _ _ _ b _ _ wb refl
    (word_steps (leaf 13) _ _ _ c _ _ wc refl (word_steps (leaf 13) _ _ _ d _ _ wd (rw ec refl) (ends (leaf 13) _)))) in
    record {
      taken = ap is_taken_if (level_taken (leaf 13) _ _ runs (rw ed refl));
      wanted = ap (asked_at 13 (codes "picture")) runs.walked_to ∙ rw (hc, hd) refl;
    }

picture_wide : (a b w : Text) (nw : ℕ) → IsWord a → IsWord b → IsWord w → is_unsigned_in 600 4000 w ≡ true →
    number_in w ≡ Some nw
    → Asks (codes "picture" ∷ a ∷ b ∷ codes "--width" ∷ w ∷ []) (picture a b None None (Some nw))
unfolding clap_on_literals
picture_wide a b w nw wa wb ww ew hw =
    let runs : Runs (leaf 13) (walk_from nothing_held) (a ∷ b ∷ codes "--width" ∷ w ∷ [])
    (end_at (text_row (codes "scenario") a ∷ text_row (codes "history") b ∷ []) (codes "width") w 3) =
    word_steps (leaf 13) _ _ _ a _ _ wa refl (word_steps (leaf 13) _ _ _ b _ _ wb refl
    (steps (leaf 13) _ _ (codes "--width") _ _ refl refl
    (word_steps (leaf 13) _ _ _ w _ _ ww refl (ends (leaf 13) _)))) in
    record {
      taken = ap is_taken_if (level_taken (leaf 13) _ _ runs (rw ew refl));
      wanted = ap (asked_at 13 (codes "picture")) runs.walked_to ∙ rw hw refl;
    }

picture_from_wide : (a b c w : Text) (nc nw : ℕ) → IsWord a → IsWord b → IsWord c → IsWord w →
    is_unsigned_in 0 4294967295 c ≡ true → is_unsigned_in 600 4000 w ≡ true → number_in c ≡ Some nc →
    number_in w ≡ Some nw
    → Asks (codes "picture" ∷ a ∷ b ∷ c ∷ codes "--width" ∷ w ∷ []) (picture a b (Some nc) None (Some nw))
unfolding clap_on_literals
picture_from_wide a b c w nc nw wa wb wc ww ec ew hc hw =
    let runs : Runs (leaf 13) (walk_from nothing_held) (a ∷ b ∷ c ∷ codes "--width" ∷ w ∷ [])
    (end_at (text_row (codes "scenario") a ∷ text_row (codes "history") b ∷
    text_row (codes "first") c ∷ []) (codes "width") w 4) =
    word_steps (leaf 13) _ _ _ a _ _ wa refl (word_steps (leaf 13) _ _ _ b _ _ wb refl
    (word_steps (leaf 13) _ _ _ c _ _ wc refl (steps (leaf 13) _ _ (codes "--width") _ _ (rw ec refl) refl
    (word_steps (leaf 13) _ _ _ w _ _ ww refl (ends (leaf 13) _))))) in
    record {
      taken = ap is_taken_if (level_taken (leaf 13) _ _ runs (rw ew refl));
      wanted = ap (asked_at 13 (codes "picture")) runs.walked_to ∙ rw (hc, hw) refl;
    }

picture_between_wide : (a b c d w : Text) (nc nd nw : ℕ) → IsWord a → IsWord b → IsWord c → IsWord d → IsWord w →
    is_unsigned_in 0 4294967295 c ≡ true → is_unsigned_in 0 4294967295 d ≡ true →
    is_unsigned_in 600 4000 w ≡ true → number_in c ≡ Some nc → number_in d ≡ Some nd → number_in w ≡ Some nw →
    Asks (codes "picture" ∷ a ∷ b ∷ c ∷ d ∷ codes "--width" ∷ w ∷ []) (picture a b (Some nc) (Some nd) (Some nw))
unfolding clap_on_literals
picture_between_wide a b c d w nc nd nw wa wb wc wd ww ec ed ew hc hd hw =
    let runs : Runs (leaf 13) (walk_from nothing_held) (a ∷ b ∷ c ∷ d ∷ codes "--width" ∷ w ∷ [])
    (end_at (text_row (codes "scenario") a ∷ text_row (codes "history") b ∷
    text_row (codes "first") c ∷ text_row (codes "last") d ∷ []) (codes "width") w 5) =
    word_steps (leaf 13) _ _ _ a _ _ wa refl (word_steps (leaf 13) _ _ _ b _ _ wb refl
    (word_steps (leaf 13) _ _ _ c _ _ wc refl (word_steps (leaf 13) _ _ _ d _ _ wd (rw ec refl)
    (steps (leaf 13) _ _ (codes "--width") _ _ (rw ed refl) refl
    (word_steps (leaf 13) _ _ _ w _ _ ww refl (ends (leaf 13) _)))))) in
    record {
      taken = ap is_taken_if (level_taken (leaf 13) _ _ runs (rw ew refl));
      wanted = ap (asked_at 13 (codes "picture")) runs.walked_to ∙ rw (hc, hd, hw) refl;
    }

picture_plain : (scenario history : Text) (first last width : Option ℕ) → IsWord scenario → IsWord history →
    IsSpan first last → IsWidth width
    → Asks (words_of (picture scenario history first last width)) (picture scenario history first last width)
picture_plain s h None None None ws wh span wide = picture_asks s h ws wh
picture_plain s h (Some a) None None ws wh span wide =
    picture_from s h (decimal a) a ws wh (whole_is_word a span) (whole_is_in a span) (whole_reads a span)
picture_plain s h (Some a) (Some b) None ws wh span wide =
    picture_between s h (decimal a) (decimal b) a b ws wh (whole_is_word a span.0) (whole_is_word b span.1)
    (whole_is_in a span.0) (whole_is_in b span.1) (whole_reads a span.0) (whole_reads b span.1)
picture_plain s h None None (Some w) ws wh span wide =
    let whole : IsWhole w = below_whole w 4000 wide.1 (omega arith) in
    picture_wide s h (decimal w) w ws wh (whole_is_word w whole) (written_is_in 600 4000 w wide.0 wide.1 whole)
    (whole_reads w whole)
picture_plain s h (Some a) None (Some w) ws wh span wide =
    let whole : IsWhole w = below_whole w 4000 wide.1 (omega arith) in
    picture_from_wide s h (decimal a) (decimal w) a w ws wh (whole_is_word a span) (whole_is_word w whole)
    (whole_is_in a span) (written_is_in 600 4000 w wide.0 wide.1 whole) (whole_reads a span) (whole_reads w whole)
picture_plain s h (Some a) (Some b) (Some w) ws wh span wide =
    let whole : IsWhole w = below_whole w 4000 wide.1 (omega arith) in
    picture_between_wide s h (decimal a) (decimal b) (decimal w) a b w ws wh (whole_is_word a span.0)
    (whole_is_word b span.1) (whole_is_word w whole) (whole_is_in a span.0) (whole_is_in b span.1)
    (written_is_in 600 4000 w wide.0 wide.1 whole) (whole_reads a span.0) (whole_reads b span.1) (whole_reads w whole)
picture_plain s h None (Some b) width ws wh span wide = absurd span

-- ---- plot

plot_asks : (a b c : Text) (nc : ℕ) → IsWord a → IsWord b → IsWord c → is_unsigned_in 0 4294967295 c ≡ true →
    number_in c ≡ Some nc → Asks (codes "plot" ∷ a ∷ b ∷ c ∷ []) (plot a b nc None)
unfolding clap_on_literals
plot_asks a b c nc wa wb wc ec hc =
    let runs : Runs (leaf 14) (walk_from nothing_held) (a ∷ b ∷ c ∷ [])
    (end_at (text_row (codes "scenario") a ∷ text_row (codes "history") b ∷ []) (codes "point") c 4) =
    word_steps (leaf 14) _ _ _ a _ _ wa refl (word_steps (leaf 14) _ _ _ b _ _ wb refl
    (word_steps (leaf 14) _ _ _ c _ _ wc refl (ends (leaf 14) _))) in
    record {
      taken = ap is_taken_if (level_taken (leaf 14) _ _ runs (rw ec refl));
      wanted = ap (asked_at 14 (codes "plot")) runs.walked_to ∙ rw hc refl;
    }

plot_wide : (a b c w : Text) (nc nw : ℕ) → IsWord a → IsWord b → IsWord c → IsWord w →
    is_unsigned_in 0 4294967295 c ≡ true → is_unsigned_in 600 4000 w ≡ true → number_in c ≡ Some nc →
    number_in w ≡ Some nw → Asks (codes "plot" ∷ a ∷ b ∷ c ∷ codes "--width" ∷ w ∷ []) (plot a b nc (Some nw))
unfolding clap_on_literals
plot_wide a b c w nc nw wa wb wc ww ec ew hc hw =
    let runs : Runs (leaf 14) (walk_from nothing_held) (a ∷ b ∷ c ∷ codes "--width" ∷ w ∷ [])
    (end_at (text_row (codes "scenario") a ∷ text_row (codes "history") b ∷
    text_row (codes "point") c ∷ []) (codes "width") w 4) =
    word_steps (leaf 14) _ _ _ a _ _ wa refl (word_steps (leaf 14) _ _ _ b _ _ wb refl
    (word_steps (leaf 14) _ _ _ c _ _ wc refl (steps (leaf 14) _ _ (codes "--width") _ _ (rw ec refl) refl
    (word_steps (leaf 14) _ _ _ w _ _ ww refl (ends (leaf 14) _))))) in
    record {
      taken = ap is_taken_if (level_taken (leaf 14) _ _ runs (rw ew refl));
      wanted = ap (asked_at 14 (codes "plot")) runs.walked_to ∙ rw (hc, hw) refl;
    }

plot_plain : (scenario history : Text) (point : ℕ) (width : Option ℕ) → IsWord scenario → IsWord history →
    IsWhole point → IsWidth width
    → Asks (words_of (plot scenario history point width)) (plot scenario history point width)
plot_plain s h p None ws wh whole wide =
    plot_asks s h (decimal p) p ws wh (whole_is_word p whole) (whole_is_in p whole) (whole_reads p whole)
plot_plain s h p (Some w) ws wh whole wide =
    let fits : IsWhole w = below_whole w 4000 wide.1 (omega arith) in
    plot_wide s h (decimal p) (decimal w) p w ws wh (whole_is_word p whole) (whole_is_word w fits) (whole_is_in p whole)
    (written_is_in 600 4000 w wide.0 wide.1 fits) (whole_reads p whole) (whole_reads w fits)

-- ---- chart

chart_asks : (a b : Text) → IsWord a → IsWord b → Asks (codes "chart" ∷ a ∷ b ∷ []) (chart a b None)
unfolding clap_on_literals
chart_asks a b wa wb =
    let runs : Runs (leaf 15) (walk_from nothing_held) (a ∷ b ∷ [])
    (end_at (text_row (codes "scenario") a ∷ []) (codes "history") b 3) =
    word_steps (leaf 15) _ _ _ a _ _ wa refl (word_steps (leaf 15) _ _ _ b _ _ wb refl (ends (leaf 15) _)) in
    record {
      taken = ap is_taken_if (level_taken (leaf 15) _ _ runs refl);
      wanted = ap (asked_at 15 (codes "chart")) runs.walked_to;
    }

chart_wide : (a b w : Text) (nw : ℕ) → IsWord a → IsWord b → IsWord w → is_unsigned_in 600 4000 w ≡ true →
    number_in w ≡ Some nw → Asks (codes "chart" ∷ a ∷ b ∷ codes "--width" ∷ w ∷ []) (chart a b (Some nw))
unfolding clap_on_literals
chart_wide a b w nw wa wb ww ew hw =
    let runs : Runs (leaf 15) (walk_from nothing_held) (a ∷ b ∷ codes "--width" ∷ w ∷ [])
    (end_at (text_row (codes "scenario") a ∷ text_row (codes "history") b ∷ []) (codes "width") w 3) =
    word_steps (leaf 15) _ _ _ a _ _ wa refl (word_steps (leaf 15) _ _ _ b _ _ wb refl
    (steps (leaf 15) _ _ (codes "--width") _ _ refl refl
    (word_steps (leaf 15) _ _ _ w _ _ ww refl (ends (leaf 15) _)))) in
    record {
      taken = ap is_taken_if (level_taken (leaf 15) _ _ runs (rw ew refl));
      wanted = ap (asked_at 15 (codes "chart")) runs.walked_to ∙ rw hw refl;
    }

chart_plain : (scenario history : Text) (width : Option ℕ) → IsWord scenario → IsWord history → IsWidth width
    → Asks (words_of (chart scenario history width)) (chart scenario history width)
chart_plain s h None ws wh wide = chart_asks s h ws wh
chart_plain s h (Some w) ws wh wide =
    let fits : IsWhole w = below_whole w 4000 wide.1 (omega arith) in
    chart_wide s h (decimal w) w ws wh (whole_is_word w fits) (written_is_in 600 4000 w wide.0 wide.1 fits)
    (whole_reads w fits)

-- ---- merge

-- the walk among the files, so many of them held
abbrev among_keeps : Text → List Text → Walk
among_keeps a held_so_far =
    state (held (text_row (codes "scenario") a ∷ []) (codes "keep") held_so_far) positional 2

name_first : (k : Text) (keeps : List Text) → All IsName (k ∷ keeps) → IsName k
name_first k keeps names = names 0 k (omega arith)

name_others : (k : Text) (keeps : List Text) → All IsName (k ∷ keeps) → All IsName keeps
name_others k keeps names = λ i d within. names (suc i) d (omega (arith, within))

more_keeps : (a : Text) (so_far keeps : List Text) → All IsName keeps
    → Runs (leaf 16) (among_keeps a so_far) keeps (among_keeps a (so_far ++ keeps))
unfolding clap_on_literals
more_keeps a so_far [] names = rw (append-nil so_far) (ends (leaf 16) _)
more_keeps a so_far (k ∷ keeps) names =
    word_steps (leaf 16) _ _ _ k _ _ (name_is_word k (name_first k keeps names)) refl
    (rw (← append_assoc so_far (k ∷ []) keeps)
    (more_keeps a (so_far ++ k ∷ []) keeps (name_others k keeps names)))

-- texts as they are written are never refused
texts_pass : (ignores : Bool) (values : List Text) → values_kinds ignores vp.String values ≡ []
texts_pass ignores [] = refl
texts_pass ignores (v ∷ vs) = texts_pass ignores vs

few_keeps : (n : ℕ) → 1 ≤ n → n ≤ 26 → range_kinds 1 26 n ≡ []
few_keeps n some few =
    let not_none : (n == 0) ≡ false = ne_eqb n 0 (λ e. omega arith) in
    let not_few : nat_lt n 1 ≡ false = grind (arith, some) in
    let not_many : nat_lt 26 n ≡ false = grind (arith, few) in
    rw (not_none, not_few, not_many) refl

merge_asks : (a k : Text) (keeps : List Text) → IsWord a → IsWord k → All IsName keeps
    → length (k ∷ keeps) ≤ 26 → Asks (codes "merge" ∷ a ∷ k ∷ keeps) (merge a (k ∷ keeps))
unfolding clap_on_literals
merge_asks a k keeps wa wk names few =
    let runs : Runs (leaf 16) (walk_from nothing_held) (a ∷ k ∷ keeps) (among_keeps a (k ∷ keeps)) =
    word_steps (leaf 16) _ _ _ a _ _ wa refl (word_steps (leaf 16) _ _ _ k _ _ wk refl
    (more_keeps a (k ∷ []) keeps names)) in
    record {
      taken = merge_taken a k keeps ∙ ap is_taken_if (level_taken (leaf 16) _ _ runs
          (rw (few_keeps (length (k ∷ keeps)) (omega arith) few, texts_pass false (k ∷ keeps)) refl));
      wanted = merge_found a k keeps ∙ ap (asked_at 16 (codes "merge")) runs.walked_to;
    }

merge_plain : (scenario : Text) (keeps : List Text) → IsName scenario → All IsName keeps → 1 ≤ length keeps
    → length keeps ≤ 26 → Asks (codes "merge" ∷ scenario ∷ keeps) (merge scenario keeps)
merge_plain s [] ws names some few = absurd (omega arith)
merge_plain s (k ∷ keeps) ws names some few =
    merge_asks s k keeps (name_is_word s ws) (name_is_word k (name_first k keeps names)) (name_others k keeps names) few

-- ---- all

plain : (w : Wanted) → IsPlain w → Asks (words_of w) w
plain (play scenario script words) h = play_asks scenario script words (name_is_word scenario h.0)
    (name_is_word script h.1) (name_is_word words h.2)
plain (run scenario script words hands turns) h =
    let few : IsWhole hands = below_whole hands 4 h.4 (omega arith) in
    let short : IsWhole turns = below_whole turns 4000 h.6 (omega arith) in
    run_asks scenario script words (decimal hands) (decimal turns) hands turns (name_is_word scenario h.0)
    (name_is_word script h.1) (name_is_word words h.2) (whole_is_word hands few) (whole_is_word turns short)
    (written_is_in 1 4 hands h.3 h.4 few) (written_is_in 1 4000 turns h.5 h.6 short)
    (whole_reads hands few) (whole_reads turns short)
plain (replay scenario history) h = replay_asks scenario history (name_is_word scenario h.0) (name_is_word history
    h.1)
plain (make number) h = make_asks (decimal number) number (whole_is_word number h) (whole_is_in number h)
    (whole_reads number h)
plain (keys scenario) h = keys_asks scenario (name_is_word scenario h)
plain (key scenario actor) h = key_asks scenario actor (name_is_word scenario h.0) (name_is_word actor h.1)
plain (verify public message signature) h = verify_asks public message signature (name_is_word public h.0)
    (name_is_word message h.1) (name_is_word signature h.2)
plain (parts scenario history originator number) h = parts_asks scenario history (decimal originator)
    (decimal number) originator number (name_is_word scenario h.0) (name_is_word history h.1)
    (whole_is_word originator h.2) (whole_is_word number h.3) (whole_is_in originator h.2)
    (whole_is_in number h.3) (whole_reads originator h.2) (whole_reads number h.3)
plain (rebuild scenario pieces) h = rebuild_asks scenario pieces (name_is_word scenario h.0) (name_is_word pieces h.1)
plain (blame scenario history) h = blame_asks scenario history (name_is_word scenario h.0) (name_is_word history h.1)
plain (trend scenario history point first last) h = trend_asks scenario history (decimal point)
    (decimal first) (decimal last) point first last (name_is_word scenario h.0) (name_is_word history h.1)
    (whole_is_word point h.2) (whole_is_word first h.3) (whole_is_word last h.4) (whole_is_in point h.2)
    (whole_is_in first h.3) (whole_is_in last h.4) (whole_reads point h.2) (whole_reads first h.3)
    (whole_reads last h.4)
plain (delays scenario history) h =
    delays_asks scenario history (name_is_word scenario h.0) (name_is_word history h.1)
plain (page scenario history) h =
    page_asks scenario history (name_is_word scenario h.0) (name_is_word history h.1)
plain (picture scenario history first last width) h =
    picture_plain scenario history first last width (name_is_word scenario h.0) (name_is_word history h.1) h.2 h.3
plain (plot scenario history point width) h =
    plot_plain scenario history point width (name_is_word scenario h.0) (name_is_word history h.1) h.2 h.3
plain (chart scenario history width) h =
    chart_plain scenario history width (name_is_word scenario h.0) (name_is_word history h.1) h.2
plain (merge scenario keeps) h = merge_plain scenario keeps h.0 h.1 h.2 h.3

pub plain_taken : (w : Wanted) → IsPlain w → is_command (words_of w) ≡ true
plain_taken w h = (plain w h).taken

pub plain_wanted : (w : Wanted) → IsPlain w → wanted_in (words_of w) ≡ Some w
plain_wanted w h = (plain w h).wanted
