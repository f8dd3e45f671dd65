-- Induction over the events of a correct master: at each it says a beginning of what is due.
use Rattle.std.proofs.Common.{◌≡◌, ℕ, Bool, true, false, cond, ◌&&◌, not, List, [], ◌∷◌, ◌++◌, map, take, nat_lt, refl}
use Rattle.std.proofs.Common.{sym, ◌∙◌, ap, subst, inl, inr}
use Rattle.std.proofs.lemmas.Bool.{false≢true, cases_eq, cases_Bool}
use Rattle.message_types.specs.declared.body.Body.{Body}
use Rattle.protocol_rules.specs.Master.{Heard, answers}
use Rattle.history_rules.specs.Events.{Entry, frame_taken, is_tick, is_silent}
use Rattle.history_rules.specs.Setup.{Setup, is_correct_master, room, own, leaves_used}
use Rattle.history_rules.specs.Legal.{IsLegal, heard, says, says_in}
use Rattle.agreement.proofs.Places.{by_growth, stands_last, legal_before}
use Rattle.agreement.proofs.KnownAsItGrows.{hears, heard_then, heard_other, heard_silent, signed_from_bodies}
use Rattle.agreement.proofs.LearnedWasSaid.{heard_none}

-- what a correct master would say at an event that isn't silent
by_rule : (a x s : Bool) (due other : List Body) → (a && not x) ≡ true → s ≡ false →
    cond a (cond x [] (cond s [] due)) other ≡ due
by_rule true false false due other correct loud = refl
by_rule true false true due other correct loud = absurd (false≢true (sym loud))
by_rule true true s due other correct loud = absurd (false≢true correct)
by_rule false x s due other correct loud = absurd (false≢true correct)

-- it says as much of what is due as its leaves can sign
cut_due : (w : Setup) (before : List Entry) (e : Entry) (m : ℕ) → is_correct_master w m ≡ true →
    e.actor ≡ m → is_silent e.event ≡ false → e.said ≡ says w before e.actor e.event
    → e.said ≡ take (room w (own before m))
    (answers w.group w.orders m (heard w before m) (frame_taken e.event) (is_tick e.event))
unfolding says_in
cut_due w before e m correct by loud rule =
    rule ∙ ap (λ k. says w before k e.event) by
    ∙ ap (take (room w (own before m))) (by_rule (nat_lt m w.group.n) (w.intruded m) (is_silent e.event)
    (answers w.group w.orders m (heard w before m) (frame_taken e.event) (is_tick e.event))
    (w.client_says m (own before m) e.event) correct loud)

-- What holds of no events, and of one more at which a beginning of what is due is said, holds of all events of a master.
pub by_events : (w : Setup) (m : ℕ) (P : List Heard → Type 0) → is_correct_master w m ≡ true → P []
    → ((before : List Heard) (h : Heard) (r : ℕ) → P before
    → map (λ f. f.body) h.said ≡ take r (answers w.group w.orders m before h.took h.is_tick) → P (before ++ h ∷ []))
    → (history : List Entry) → IsLegal w history → P (heard w history m)
by_events w m P correct none step history legal = by_growth (λ (xs : List Entry). IsLegal w xs → P (heard w xs m))
    (λ l. subst P (sym (heard_none w m)) none) one_more history legal
  where
    one_more : (before : List Entry) (e : Entry) → (IsLegal w before → P (heard w before m)) →
        IsLegal w (before ++ e ∷ []) → P (heard w (before ++ e ∷ []) m)
    one_more before e so_far whole =
        let was : P (heard w before m) = so_far (legal_before w before (e ∷ []) whole) in
        elim (cases_eq e.actor m) [
          | inr other ↦ subst P (sym (heard_other w before e m other)) was
          | inl by ↦ elim (cases_Bool (is_silent e.event)) [
            | inl silent ↦ subst P (sym (heard_silent w before e m by silent)) was
            | inr loud ↦ subst P (sym (heard_then w before e m by loud))
                (step (heard w before m) (hears w m (leaves_used w (own before m)) e) (room w (own before m)) was
                (signed_from_bodies w m (leaves_used w (own before m)) 0 e.said e.said
                ∙ cut_due w before e m correct by loud (whole.entries before e (stands_last before e)).said))
          ]
        ]
