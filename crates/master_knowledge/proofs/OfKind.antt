-- Words by their kinds, and frames of one kind as frames of any.
use Rattle.std.proofs.Common.{◌≡◌, ◌≢◌, ℕ, false, List, [], refl, sym, ◌∙◌, ap, subst}
use Rattle.message_types.specs.declared.signed.Signed.{Signed}
use Rattle.message_types.specs.declared.updates.Update.{Update}
use Rattle.message_types.specs.declared.preordering.PoRequest.{PoRequest}
use Rattle.message_types.specs.declared.preordering.PoAck.{PoAck}
use Rattle.message_types.specs.declared.preordering.PoSummary.{PoSummary}
use Rattle.message_types.specs.declared.ordering.PrePrepare.{PrePrepare}
use Rattle.message_types.specs.declared.ordering.Prepare.{Prepare}
use Rattle.message_types.specs.declared.ordering.Commit.{Commit}
use Rattle.message_types.specs.declared.ordering.Mark.{Mark}
use Rattle.message_types.specs.declared.measures.Suspect.{Suspect}
use Rattle.message_types.specs.declared.reconciling.GiveOrdered.{GiveOrdered}
use Rattle.message_types.specs.declared.views.Report.{Report}
use Rattle.message_types.specs.declared.views.NewView.{NewView}
use Rattle.message_types.specs.declared.body.Body.{Body}
use Rattle.message_types.specs.declared.body.Body.TheVariants as body
use Rattle.message_types.specs.Parts.{as_frame}
use Rattle.protocol_rules.specs.Group.{Group}
use Rattle.protocol_rules.specs.Facts.{tells}
use Rattle.preorder.specs.Composed.{is_preordering, is_update}
use Rattle.global_order.specs.OrderState.{OrderState, Learns}
use Rattle.summary_matrix.specs.Held.{is_summary}
use Rattle.view_change.specs.ViewState.{is_view_word}

-- a frame of one kind, made of a part's signer and of copies of its word and signature, is that part
pub same_part : {B : Type 0} (kind : B → Body) (part : Signed Body) (word copy : B) (sig : List ℕ) →
    part.body ≡ kind word → copy ≡ word → sig ≡ part.sig
    → as_frame kind record { signer = part.signer; body = copy; sig = sig } ≡ part
same_part kind part word copy sig is same bytes =
    λ i. record { signer = part.signer; body = (ap kind same ∙ sym is) i; sig = bytes i }

pub no_preordering : (signer : ℕ) (word : Body) (sig : List ℕ) → ((x : PoRequest) → word ≢ body.PoRequest x) →
    ((x : PoAck) → word ≢ body.PoAck x)
    → is_preordering record { signer = signer; body = word; sig = sig } ≡ false
no_preordering signer (body.PoRequest b) sig not other = absurd (not b refl)
no_preordering signer (body.PoAck b) sig not other = absurd (other b refl)
no_preordering signer _ sig not other = refl

pub no_update : (signer : ℕ) (word : Body) (sig : List ℕ) → ((x : Update) → word ≢ body.Update x) →
    is_update record { signer = signer; body = word; sig = sig } ≡ false
no_update signer (body.Update b) sig not = absurd (not b refl)
no_update signer _ sig not = refl

pub no_summary : (signer : ℕ) (word : Body) (sig : List ℕ) → ((x : PoSummary) → word ≢ body.PoSummary x) →
    is_summary record { signer = signer; body = word; sig = sig } ≡ false
no_summary signer (body.PoSummary b) sig not = absurd (not b refl)
no_summary signer _ sig not = refl

pub no_view_word : (signer : ℕ) (word : Body) (sig : List ℕ) → ((x : Suspect) → word ≢ body.Suspect x) →
    ((x : Report) → word ≢ body.Report x) → ((x : NewView) → word ≢ body.NewView x)
    → is_view_word record { signer = signer; body = word; sig = sig } ≡ false
no_view_word signer (body.Suspect b) sig a c d = absurd (a b refl)
no_view_word signer (body.Report b) sig a c d = absurd (c b refl)
no_view_word signer (body.NewView b) sig a c d = absurd (d b refl)
no_view_word signer _ sig a c d = refl

-- the other kinds tell the global order nothing
pub tells_nothing : (g : Group) (signer : ℕ) (word : Body) (sig : List ℕ) →
    ((x : PrePrepare) → word ≢ body.PrePrepare x) → ((x : Prepare) → word ≢ body.Prepare x) →
    ((x : Commit) → word ≢ body.Commit x) → ((x : Mark) → word ≢ body.Mark x)
    → ((x : Report) → word ≢ body.Report x) → ((x : GiveOrdered) → word ≢ body.GiveOrdered x) →
    ((x : NewView) → word ≢ body.NewView x) → tells g record { signer = signer; body = word; sig = sig } ≡ []
tells_nothing g signer (body.PrePrepare b) sig p q r s t u v = absurd (p b refl)
tells_nothing g signer (body.Prepare b) sig p q r s t u v = absurd (q b refl)
tells_nothing g signer (body.Commit b) sig p q r s t u v = absurd (r b refl)
tells_nothing g signer (body.Mark b) sig p q r s t u v = absurd (s b refl)
tells_nothing g signer (body.Report b) sig p q r s t u v = absurd (t b refl)
tells_nothing g signer (body.GiveOrdered b) sig p q r s t u v = absurd (u b refl)
tells_nothing g signer (body.NewView b) sig p q r s t u v = absurd (v b refl)
tells_nothing g signer _ sig p q r s t u v = refl

-- a word tells the order the same as the one that it is a copy of
pub told_as : (g : Group) (before after : OrderState) (part copy : Signed Body) → copy ≡ part →
    Learns before after (tells g copy) → Learns before after (tells g part)
told_as g before after part copy same learns = subst (λ (f : Signed Body). Learns before after (tells g f)) same learns
