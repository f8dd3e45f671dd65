-- The words behind a subcommand's name stop the walk of the top command, however many they are: they are the subcommand's.
use Rattle.std.proofs.Common.{◌≡◌, ◌∙◌, ℕ, Bool, refl, ap, ap₂, sym, List, [], ◌∷◌, ◌++◌, Some, codes, append_assoc, append-nil}
use Rattle.std.specs.Prelude.{is_some}
use Rattle.std.specs.List.{fold}
use Rattle.clap.specs.Kinds.{Kinds, or_else}
use Rattle.clap.specs.Walk.{Names, Rule, Text, Walk, finished, is_empty, nothing_held, settled, walk, walk_from, walked}
use Rattle.clap.specs.Faults.{check_fault, defaults_fault, entered_fault, settle_fault, walk_fault}
use Rattle.clap.specs.Simple.{App, Shape, built, entered, names_of}
use Rattle.clap.proofs.OnLiterals.{clap_on_literals}
use Rattle.command_words.specs.CommandLine.{spire_app}
use Rattle.command_words.specs.Wanted.{asked_in, is_command, wanted_in}

abbrev stopped_at : Walk → Text → List Text → Walk
stopped_at w name words = record w { stopped = Some (name, words) }

more_words : (c : List Rule) (names : Names) (w : Walk) (name : Text) (words more : List Text) →
    fold (walked c names) (stopped_at w name words) more ≡ stopped_at w name (words ++ more)
unfolding walked
more_words c names w name words [] = ap (stopped_at w name) (sym (append-nil words))
more_words c names w name words (x ∷ more) =
    more_words c names w name (words ++ x ∷ []) more ∙ ap (stopped_at w name) (append_assoc words (x ∷ []) more)

no_fault : (s : Shape) (names : Names) (w : Walk) (name : Text) (words more : List Text) →
    walk_fault s names (stopped_at w name words) more ≡ []
unfolding walk_fault walked
no_fault s names w name words [] = refl
no_fault s names w name words (x ∷ more) = no_fault s names w name (words ++ x ∷ []) more

-- the top command, with what `clap` adds
abbrev top : App
top = built spire_app

abbrev top_fault : Kinds → Walk → Kinds
top_fault walk_kinds w = or_else walk_kinds (or_else (entered_fault top w.stopped)
    (or_else (settle_fault top.top.rules top.top.args_override_self w.held)
    (or_else (defaults_fault (settled top.top.rules w.held).rows top.top.rules)
    (check_fault top.top (finished top.top.rules w.held) (is_some (entered top w.stopped))))))

-- the walk over `merge` and the words behind it
abbrev merge_walk : List Text → Walk
merge_walk words = stopped_at (walk_from nothing_held) (codes "merge") words

walk_of_merge : (a k : Text) (keeps : List Text) →
    walk top.top.rules (names_of top) nothing_held (codes "merge" ∷ a ∷ k ∷ keeps) ≡ merge_walk (a ∷ k ∷ keeps)
unfolding clap_on_literals
walk_of_merge a k keeps =
    more_words top.top.rules (names_of top) (walk_from nothing_held) (codes "merge") (a ∷ k ∷ []) keeps

fault_of_merge : (a k : Text) (keeps : List Text) →
    walk_fault top.top (names_of top) (walk_from nothing_held) (codes "merge" ∷ a ∷ k ∷ keeps) ≡ []
unfolding clap_on_literals
fault_of_merge a k keeps =
    no_fault top.top (names_of top) (walk_from nothing_held) (codes "merge") (a ∷ k ∷ []) keeps

pub merge_taken : (a k : Text) (keeps : List Text) →
    is_command (codes "merge" ∷ a ∷ k ∷ keeps) ≡ is_empty (top_fault [] (merge_walk (a ∷ k ∷ keeps)))
merge_taken a k keeps =
    ap₂ (λ (ks : Kinds) (w : Walk). is_empty (top_fault ks w)) (fault_of_merge a k keeps) (walk_of_merge a k keeps)

pub merge_found : (a k : Text) (keeps : List Text) →
    wanted_in (codes "merge" ∷ a ∷ k ∷ keeps) ≡ asked_in (entered top (merge_walk (a ∷ k ∷ keeps)).stopped)
merge_found a k keeps = ap (λ (w : Walk). asked_in (entered top w.stopped)) (walk_of_merge a k keeps)
