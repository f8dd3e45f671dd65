-- How the requests and acknowledgements said count among all that is said.
use Rattle.std.proofs.Common.{◌≡◌, ℕ, List, ◌++◌, filter, refl, sym}
use Rattle.message_types.specs.declared.signed.Signed.{Signed}
use Rattle.message_types.specs.declared.body.Body.{Body}
use Rattle.message_types.specs.declared.body.Body.TheVariants as body
use Rattle.protocol_rules.specs.Group.{Group}
use Rattle.preorder.specs.Composed.{is_preordering_word}
use Rattle.preorder.specs.PreorderState.{PreorderState, IsPreorderOf}
use Rattle.preorder.proofs.Composed.{said-alike}
use Rattle.words_by_part.specs.Kinds.{is_of, preordering}
use Rattle.master_answers.proofs.Alike.{kept_alike}

is_own : (word : Body) → is_preordering_word word ≡ is_of preordering word
is_own (body.PoRequest b) = refl
is_own (body.PoAck b) = refl
is_own _ = refl

pub words_said : (g : Group) (me : ℕ) (p : PreorderState) (taken known : List (Signed Body))
    (said all words : List Body) → filter (is_of preordering) all ≡ words
    → IsPreorderOf g me p taken known (said ++ words) → IsPreorderOf g me p taken known (said ++ all)
words_said g me p taken known said all words own is =
    said-alike g me p taken known (said ++ words) (said ++ all)
    (sym (kept_alike is_preordering_word (is_of preordering) said all words is_own own)) is
