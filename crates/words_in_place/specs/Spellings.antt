-- What a correct master says has a spelling, where all that it knows has; so it can be signed and sent. And what the
-- parts of a master ask of the rows and updates that they are handed is so of all that is known. (The limits are this
-- project's own.)
use Rattle.std.specs.Prelude.{◌≡◌, ℕ, ◌+◌, Bool, true, List, [], Option, Some, map}
use Rattle.std.specs.List.{list_all, flat_map}
use Rattle.message_types.specs.declared.signed.Signed.{Signed}
use Rattle.message_types.specs.declared.updates.Update.{Update}
use Rattle.message_types.specs.declared.vouchers.Order.{Order}
use Rattle.message_types.specs.declared.views.NewView.{NewView}
use Rattle.message_types.specs.declared.body.Body.{Body}
use Rattle.message_types.specs.declared.body.Body.TheVariants as body
use Rattle.message_types.specs.Parts.{parts}
use Rattle.message_types.specs.Texts.{body_text}
use Rattle.message_types.specs.Spelling.{body_fits, has_spelling, rows_fit, signature_fits}
use Rattle.protocol_rules.specs.Group.{Group}
use Rattle.protocol_rules.specs.Places.{in_place, are_rows}
use Rattle.protocol_rules.specs.Plans.{certificates_of}
use Rattle.protocol_rules.specs.Preorder.{certified}
use Rattle.protocol_rules.specs.Master.{Heard, known_at, answers}
use Rattle.history_rules.specs.Setup.{Setup, stands}
use Rattle.agreement.specs.Laws.{HasSizes}
use Rattle.words_in_place.specs.Laws.{KnowsPlaced, MaySpeak, IsSaid}

-- Rows of a group fit their spelling.
abbrev pub RowsInPlaceFit : Type 0
RowsInPlaceFit = (g : Group) (rows : List (List ℕ)) → HasSizes g → are_rows g rows ≡ true → rows_fit rows ≡ true

-- So do the rows of the certificates that a new view with a spelling brings.
abbrev pub NewViewsFit : Type 0
NewViewsFit = (b : NewView) → body_fits (body.NewView b) ≡ true →
    list_all (λ c. rows_fit c.rows) (certificates_of (map (λ r. r.body) b.reports)) ≡ true

-- What is certified is an update in its place in its client's name.
abbrev pub CertifiedAreInPlace : Type 0
CertifiedAreInPlace =
    (g : Group) (known : List (Signed Body)) → KnowsPlaced g known
    → (j k : ℕ) (u : Update) → certified g known j k ≡ Some u →
    in_place g record { signer = g.n + u.client; body = body.Update u; sig = [] } ≡ true

-- Each part of frames with spellings has one.
abbrev pub PartsAreSpelled : Type 0
PartsAreSpelled = (frames : List (Signed Body)) → list_all has_spelling frames ≡ true →
    list_all has_spelling (flat_map parts frames) ≡ true

-- all that a master of the group knows is in place and has a spelling
pub record KnowsSpelled (g : Group) (before : List Heard) (took : Option (Signed Body)) : Type 0 where
  pub sizes : HasSizes g
  pub placed : list_all (in_place g) (known_at before took) ≡ true
  pub spelled : list_all has_spelling (known_at before took) ≡ true

-- Each word that the rules make such a master say fits its spelling: its lists are short, and their signers rise.
abbrev pub AnswersAreSpelled : Type 0
AnswersAreSpelled =
    (g : Group) (orders : List Update → ℕ → List Order) (me : ℕ) (before : List Heard)
    (took : Option (Signed Body)) (at_tick : Bool)
    → KnowsSpelled g before took → list_all body_fits (answers g orders me before took at_tick) ≡ true

-- So each part of such words as frames, signed with signatures that fit, has a spelling.
abbrev pub OwnPartsAreSpelled : Type 0
OwnPartsAreSpelled =
    (g : Group) (orders : List Update → ℕ → List Order) (me : ℕ) (before : List Heard)
    (took : Option (Signed Body)) (at_tick : Bool)
    → KnowsSpelled g before took
    → (count : ℕ) (frames : List (Signed Body)) → IsSaid g orders me before took at_tick count frames
    → list_all (λ f. signature_fits f) frames ≡ true → list_all has_spelling (flat_map parts frames) ≡ true

-- the signer's key bears out the signature
abbrev pub is_signed : Setup → Signed Body → Bool
is_signed w p = w.signs p.signer (body_text p.body) p.sig

-- So in any setup, where all that such a master knows is signed, the frames that it says stand once they are signed
-- too:
-- whoever takes frames that stand takes them.
abbrev pub OwnFramesStand : Type 0
OwnFramesStand =
    (w : Setup) (me : ℕ) (before : List Heard) (took : Option (Signed Body)) (at_tick : Bool)
    → MaySpeak w.group me before took at_tick
    → list_all has_spelling (known_at before took) ≡ true → list_all (is_signed w) (known_at before took) ≡ true
    → (count : ℕ) (frames : List (Signed Body)) → IsSaid w.group w.orders me before took at_tick count frames
    → list_all (λ f. signature_fits f) frames ≡ true → list_all (is_signed w) frames ≡ true →
    list_all (stands w) frames ≡ true
