-- What a word is doesn't go by how many clients there are.
use Rattle.std.proofs.Common.{◌≡◌, ℕ, List, refl}
use Rattle.message_types.specs.declared.signed.Signed.{Signed}
use Rattle.message_types.specs.declared.body.Body.{Body}
use Rattle.quorum_sets.specs.declared.sizes.Sizes.{Sizes}
use Rattle.protocol_rules.specs.Group.{group_of}
use Rattle.protocol_rules.specs.Facts.{facts_of}
use Rattle.protocol_rules.specs.Matrix.{rows_of_frames}
use Rattle.protocol_rules.specs.Plans.{plan_of}
use Rattle.protocol_rules.specs.Preorder.{certified}
use Rattle.protocol_rules.specs.Order.{is_voted, prepared, ordered, stable}
use Rattle.play_words.specs.declared.words.Word.{Word}
use Rattle.play_words.specs.declared.words.Word.TheVariants as word
use Rattle.intruder_words.specs.Speaking.{body_of}

pub any_clients : (sizes : Sizes) (clients other : ℕ) (known : List (Signed Body)) (w : Word) →
    body_of (group_of sizes clients) known w ≡ body_of (group_of sizes other) known w
unfolding body_of facts_of rows_of_frames plan_of certified is_voted prepared ordered stable
any_clients sizes clients other known (word.PoRequest k update) = refl
any_clients sizes clients other known (word.PoAck j k digest) = refl
any_clients sizes clients other known (word.PrePrepare v s frames) = refl
any_clients sizes clients other known (word.Prepare v s digest) = refl
any_clients sizes clients other known (word.Commit v s digest) = refl
any_clients sizes clients other known (word.Report v base items) = refl
any_clients sizes clients other known (word.NewView v reports) = refl
any_clients sizes clients other known (word.Give j k) = refl
any_clients sizes clients other known (word.GiveOrdered s) = refl
any_clients sizes clients other known _ = refl
