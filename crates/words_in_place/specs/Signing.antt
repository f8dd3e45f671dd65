-- What correct masters of a legal history learn and say is spelled and signed, where the setup's signatures sign. (The
-- premise is what keys of RFC 8554 keep, section 6: each leaf signs once, and so many leaves as there are.)
use Rattle.std.specs.Prelude.{◌≡◌, ℕ, ◌+◌, ◌-◌, ◌^◌, ◌<◌, ◌≤◌, true, ◌&&◌, List, length}
use Rattle.std.specs.List.{list_all, flat_map}
use Rattle.message_types.specs.declared.signed.Signed.{Signed}
use Rattle.message_types.specs.declared.body.Body.{Body}
use Rattle.message_types.specs.Spelling.{body_fits, has_spelling, signature_fits}
use Rattle.protocol_rules.specs.Master.{learned}
use Rattle.history_rules.specs.Events.{Entry}
use Rattle.history_rules.specs.Leaves.{leaves_for}
use Rattle.history_rules.specs.Setup.{Setup, is_correct, is_correct_master, leaves_used, own, signed_from, stands}
use Rattle.history_rules.specs.Legal.{Stands, IsLegal, heard}
use Rattle.agreement.specs.Laws.{HasSizes}
use Rattle.words_in_place.specs.Laws.{ticks_heard}
use Rattle.words_in_place.specs.Spellings.{is_signed}

-- The setup's signatures of an actor sign. If it is correct and has leaves enough left for the bodies of one entry, each
-- of which fits its spelling, it has for each of them a signature within the limits, which its key bears out.
pub record SignsWell (w : Setup) (actor : ℕ) : Type 0 where
  pub signs : (used : ℕ) (said : List Body) → actor < w.group.n + w.group.clients → is_correct w actor ≡ true
      → leaves_for w.shared_leaves (length said) ≤ w.leaves - used → list_all body_fits said ≡ true
      → list_all (λ f. signature_fits f && is_signed w f) (signed_from w actor used said 0 said) ≡ true

-- the frames of what an actor said at an entry
abbrev pub frames_at : Setup → List Entry → Entry → List (Signed Body)
frames_at w before e = signed_from w e.actor (leaves_used w (own before e.actor)) e.said 0 e.said

-- In every legal history, whoever is intruded and whatever is forged, all that a correct master has learned has a
-- spelling, as long as it has had at most 2^32 ticks.
abbrev pub LearnedIsSpelled : Type 0
LearnedIsSpelled =
    (w : Setup) (history : List Entry) (i : ℕ) → IsLegal w history → HasSizes w.group → SignsWell w i →
    is_correct_master w i ≡ true
    → ticks_heard (heard w history i) ≤ 2 ^ 32 → list_all has_spelling (flat_map learned (heard w history i)) ≡ true

-- And all of it is signed.
abbrev pub LearnedIsSigned : Type 0
LearnedIsSigned =
    (w : Setup) (history : List Entry) (i : ℕ) → IsLegal w history → HasSizes w.group → SignsWell w i →
    is_correct_master w i ≡ true
    → ticks_heard (heard w history i) ≤ 2 ^ 32 → list_all (is_signed w) (flat_map learned (heard w history i)) ≡ true

-- So the frames of what it says stand: whoever takes frames that stand takes them.
abbrev pub SaidFramesStand : Type 0
SaidFramesStand =
    (w : Setup) (history before : List Entry) (e : Entry) → IsLegal w history → HasSizes w.group →
    SignsWell w e.actor → Stands history before e
    → is_correct_master w e.actor ≡ true → ticks_heard (heard w history e.actor) ≤ 2 ^ 32 →
    list_all (stands w) (frames_at w before e) ≡ true
