-- What comes next is one step, but for the text of a run in threads or of a merge, which may be one of several.
use Rattle.std.proofs.Common.{inl, inr, ◌≡◌, ℕ, Bool, true, false, List, [], ◌∷◌, Option, None, Some, sym, ◌∙◌, true≢false, length}
use Rattle.command_words.specs.Wanted.{Wanted, play, run, replay, make, keys, key, verify, parts, rebuild, blame, trend, delays, page}
use Rattle.command_words.specs.Wanted.{picture, plot, chart, merge}
use Rattle.command_words.specs.Wanted.{is_command, wanted_in}
use Rattle.command_ends.specs.Steps.{Step}
use Rattle.command_ends.specs.Complete.{IsAlike}
use Rattle.run_commands.specs.Verifying.{public_in}
use Rattle.run_commands.specs.Readers.{Readers, are_few, are_in_range}
use Rattle.run_commands.specs.Course.{VerifyCourse, RunStep, CommandStep, AskedStep, NextStep}
use Rattle.run_commands.specs.Keeps.{asks_for_several}
use Rattle.run_commands.proofs.Threading.{alike-course}
use Rattle.run_commands.proofs.Merging.{alike-merge}
use Rattle.command_ends.proofs.Completes.{alike-same}

certain-verify : (public : Option (List ℕ)) (message sig : List ℕ) (contents : List (List ℕ)) (one other : Step)
    → VerifyCourse public message sig contents one → VerifyCourse public message sig contents other → one ≡ other
certain-verify None message sig contents one other a b = a ∙ sym b
certain-verify (Some public) message sig [] one other a b = a ∙ sym b
certain-verify (Some public) message sig (x ∷ []) one other a b = a ∙ sym b
certain-verify (Some public) message sig (x ∷ y ∷ more) one other (inl a) (inl b) = a.1 ∙ sym b.1
certain-verify (Some public) message sig (x ∷ y ∷ more) one other (inl a) (inr b) = absurd (b.0 a.0)
certain-verify (Some public) message sig (x ∷ y ∷ more) one other (inr a) (inl b) = absurd (a.0 b.0)
certain-verify (Some public) message sig (x ∷ y ∷ more) one other (inr a) (inr b) = a.1 ∙ sym b.1

-- other words than those of a run in threads or of a merge
certain-command : (r : Readers) (w : Wanted) (contents : List (List ℕ)) (one other : Step) →
    asks_for_several (Some w) ≡ false
    → CommandStep r w contents one → CommandStep r w contents other → one ≡ other
certain-command r (play scenario script words) contents one other single a b = a ∙ sym b
certain-command r (replay scenario history) contents one other single a b = a ∙ sym b
certain-command r (make number) contents one other single a b = a ∙ sym b
certain-command r (keys scenario) contents one other single a b = a ∙ sym b
certain-command r (key scenario actor) contents one other single a b = a ∙ sym b
certain-command r (verify public message sig) contents one other single a b =
    certain-verify (public_in public) message sig contents one other a b
certain-command r (run scenario script words hands turns) contents one other single a b = absurd (true≢false single)
certain-command r (parts scenario history originator number) contents one other single a b = a ∙ sym b
certain-command r (rebuild scenario pieces) contents one other single a b = a ∙ sym b
certain-command r (blame scenario history) contents one other single a b = a ∙ sym b
certain-command r (delays scenario history) contents one other single a b = a ∙ sym b
certain-command r (page scenario history) contents one other single a b = a ∙ sym b
certain-command r (picture scenario history first last width) contents one other single a b = a ∙ sym b
certain-command r (plot scenario history point width) contents one other single a b = a ∙ sym b
certain-command r (chart scenario history width) contents one other single a b = a ∙ sym b
certain-command r (trend scenario history point first last) contents one other single a b = a ∙ sym b
certain-command r (merge scenario keeps) contents one other single a b = absurd (true≢false single)

certain-asked : (r : Readers) (is : Bool) (asked : Option Wanted) (contents : List (List ℕ)) (one other : Step) →
    asks_for_several asked ≡ false → AskedStep r is asked contents one
    → AskedStep r is asked contents other → one ≡ other
certain-asked r false asked contents one other single a b = a ∙ sym b
certain-asked r true None contents one other single a b = absurd a
certain-asked r true (Some w) contents one other single a b = certain-command r w contents one other single a b

-- What comes next is one step, where the words ask neither for a run in threads nor for a merge.
pub certain : (r : Readers) (words contents : List (List ℕ)) (one other : Step) →
    asks_for_several (wanted_in words) ≡ false → NextStep r words contents one → NextStep r words contents other →
    one ≡ other
certain r words contents one other single a b =
    certain-asked r (is_command words) (wanted_in words) contents one other single a b

alike-run : (r : Readers) (in-range : Bool) (scenario script words : List ℕ) (turns : ℕ) (contents : List (List ℕ))
    (one other : Step)
    → RunStep r in-range scenario script words turns contents one →
    RunStep r in-range scenario script words turns contents other → IsAlike one other
alike-run r true scenario script words turns contents one other a b =
    alike-course r scenario script words turns contents one other a b
alike-run r false scenario script words turns contents one other a b = alike-same one other (a ∙ sym b)

alike-command : (r : Readers) (w : Wanted) (contents : List (List ℕ)) (one other : Step) →
    CommandStep r w contents one → CommandStep r w contents other → IsAlike one other
alike-command r (run scenario script words hands turns) contents one other a b =
    alike-run r (are_in_range hands turns) scenario script words turns contents one other a b
alike-command r (play scenario script words) contents one other a b = alike-same one other (a ∙ sym b)
alike-command r (replay scenario history) contents one other a b = alike-same one other (a ∙ sym b)
alike-command r (make number) contents one other a b = alike-same one other (a ∙ sym b)
alike-command r (keys scenario) contents one other a b = alike-same one other (a ∙ sym b)
alike-command r (key scenario actor) contents one other a b = alike-same one other (a ∙ sym b)
alike-command r (verify public message sig) contents one other a b =
    alike-same one other (certain-verify (public_in public) message sig contents one other a b)
alike-command r (parts scenario history originator number) contents one other a b = alike-same one other (a ∙ sym b)
alike-command r (rebuild scenario pieces) contents one other a b = alike-same one other (a ∙ sym b)
alike-command r (blame scenario history) contents one other a b = alike-same one other (a ∙ sym b)
alike-command r (delays scenario history) contents one other a b = alike-same one other (a ∙ sym b)
alike-command r (page scenario history) contents one other a b = alike-same one other (a ∙ sym b)
alike-command r (picture scenario history first last width) contents one other a b = alike-same one other (a ∙ sym b)
alike-command r (plot scenario history point width) contents one other a b = alike-same one other (a ∙ sym b)
alike-command r (chart scenario history width) contents one other a b = alike-same one other (a ∙ sym b)
alike-command r (trend scenario history point first last) contents one other a b = alike-same one other (a ∙ sym b)
alike-command r (merge scenario keeps) contents one other a b =
    alike-merge r (are_few (length keeps)) scenario keeps contents one other a b

alike-asked : (r : Readers) (is : Bool) (asked : Option Wanted) (contents : List (List ℕ)) (one other : Step) →
    AskedStep r is asked contents one → AskedStep r is asked contents other → IsAlike one other
alike-asked r false asked contents one other a b = alike-same one other (a ∙ sym b)
alike-asked r true None contents one other a b = absurd a
alike-asked r true (Some w) contents one other a b = alike-command r w contents one other a b

-- What comes next is one step, or one of several texts.
pub alike : (r : Readers) (words contents : List (List ℕ)) (one other : Step) → NextStep r words contents one →
    NextStep r words contents other → IsAlike one other
alike r words contents one other a b = alike-asked r (is_command words) (wanted_in words) contents one other a b
