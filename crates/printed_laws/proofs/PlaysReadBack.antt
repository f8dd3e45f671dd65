-- Each frame that a play's entries take was said where they tell, so its printed text reads back.
use Rattle.std.proofs.Common.{◌≡◌, ◌≤◌, true, List, [], ◌∷◌, Ok, length, map, refl, ◌∙◌, ap, subst, arith}
use Rattle.std.specs.List.{All}
use Rattle.std.proofs.lemmas.List.Elements.{All-nil, All-cons, All-head, All-tail}
use Rattle.plain_lists.proofs.Members.{none_in}
use Rattle.plain_lists.specs.Lists.{IsIn, here, there}
use Rattle.printed_run.specs.Printed.{is_said}
use Rattle.scenario_file.specs.Valid.{IsScenario}
use Rattle.history_rules.specs.Events.{Entry}
use Rattle.history_rules.specs.Setup.{Setup}
use Rattle.world_rules.specs.Scenarios.{setup_of}
use Rattle.script_lines.specs.declared.script.Line.{Line}
use Rattle.script_laws.specs.Accepted.{are_lines_of, are_sayings_of}
use Rattle.run_scripts.specs.Making.{Given, most_entries, played, beginning}
use Rattle.run_scripts.proofs.PlayKeeps.{all_played, beginning_kept}
use Rattle.run_scripts.proofs.PlaysAreLegal.{played_is_legal}
use Rattle.printed_run.specs.Tellable.{CanBeTold, entry_as_told}
use Rattle.printed_laws.proofs.RunsReadBack.{texts_tell_histories}
use Rattle.printed_laws.specs.PlayLaws.{IsGiven, PlayedIsTold, PlayedTextsReadBack}
use Rattle.printed_laws.proofs.SaidThere.{WasSaid, entry_as_it_is, given_can_be_told}
use Rattle.printed_laws.proofs.HeldWereSaid.{AllSaid, told_keeps}

-- what is played tells of each frame where it was said
all_told : (g : Given) (lines : List Line) (history : List Entry) → IsScenario g.scenario →
    are_lines_of g.scenario lines ≡ true → are_sayings_of g.scenario g.sayings ≡ true → played g lines ≡ Ok history
    → AllSaid (setup_of g.scenario) history
unfolding played
all_told g lines history valid may words is =
    let all = all_played g _ _ (told_keeps g) lines beginning history valid words may
    (beginning_kept g (λ e h. absurd (none_in h))) is in
    subst (AllSaid (setup_of g.scenario)) all.1 all.2.good

as_they_are : (w : Setup) (history entries : List Entry) →
    ((e : Entry) → IsIn e entries → WasSaid w history e.event) → map (entry_as_told w history) entries ≡ entries
as_they_are w history [] said = refl
as_they_are w history (e ∷ entries) said =
    λ i. entry_as_it_is w history e (said e (here entries)) i ∷ as_they_are w history entries
    (λ x h. said x (there e entries h)) i

pub played_is_told : PlayedIsTold
played_is_told g lines history valid may words is =
    as_they_are (setup_of g.scenario) history history (all_told g lines history valid may words is)

all_can_be_told : (w : Setup) (history entries : List Entry) →
    ((e : Entry) → IsIn e entries → WasSaid w history e.event) → All (λ e. IsGiven e.event) entries
    → All (λ e. CanBeTold (is_said w history e.event) e.event) entries
all_can_be_told w history [] said given = All-nil (λ e. CanBeTold (is_said w history e.event) e.event)
all_can_be_told w history (e ∷ entries) said given =
    All-cons (λ x. CanBeTold (is_said w history x.event) x.event) e entries
    (given_can_be_told w history e.event (said e (here entries)) (All-head (λ x. IsGiven x.event) e entries given))
    (all_can_be_told w history entries (λ x h. said x (there e entries h))
    (All-tail (λ x. IsGiven x.event) e entries given))

pub played_texts_read_back : PlayedTextsReadBack
unfolding most_entries
played_texts_read_back g lines history valid may words is given =
    let legal = played_is_legal g lines history valid may words is in
    let said = all_told g lines history valid may words is in
    let short : length history ≤ 50000 = legal.short in
    texts_tell_histories g.scenario history valid legal.legal (omega (arith, short))
    (all_can_be_told (setup_of g.scenario) history history said given)
    ∙ ap (λ (es : List Entry). Ok es) (played_is_told g lines history valid may words is)
