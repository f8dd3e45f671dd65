-- What is posted of an entry.
use Rattle.std.proofs.Common.{◌≡◌, true, false, List, [], ◌∷◌, ◌++◌, Option, Some, None}
use Rattle.std.proofs.Common.{refl, ◌∙◌, ap, append-nil}
use Rattle.std.specs.Prelude.{is_some}
use Rattle.std.specs.List.{list_all}
use Rattle.std.proofs.lemmas.Bool.{and_parts, and_from, true≢false}
use Rattle.message_types.specs.declared.signed.Signed.{Signed}
use Rattle.message_types.specs.declared.body.Body.{Body}
use Rattle.message_types.specs.Spelling.{has_spelling}
use Rattle.history_rules.specs.Setup.{Setup, stands}
use Rattle.world_history.specs.Roles.{optional}
use Rattle.history_rules.proofs.Frames.{spelled_of_standing}

pub all_spelled : (w : Setup) (frames : List (Signed Body)) → list_all (stands w) frames ≡ true →
    list_all has_spelling frames ≡ true
all_spelled w [] all = refl
all_spelled w (f ∷ rest) all =
    let both = and_parts (stands w f) (list_all (stands w) rest) all in
    and_from (has_spelling f) (list_all has_spelling rest) (spelled_of_standing w f both.0) (all_spelled w rest both.1)

-- where no frame was cried, all frames are the actor's own, which stand
pub own_stand : (w : Setup) (found : Option (Signed Body)) (frames more : List (Signed Body)) →
    list_all (stands w) frames ≡ true → more ≡ frames ++ optional found → is_some found ≡ false
    → list_all (stands w) more ≡ true
own_stand w None frames more all is none = ap (list_all (stands w)) (is ∙ append-nil frames) ∙ all
own_stand w (Some f) frames more all is none = absurd (true≢false none)
