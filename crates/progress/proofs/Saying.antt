-- What is due is said: while a master has a leaf left nothing is cut off. And what it knows at the end of a history it
-- knew at its last event, at which it said all that was due by then.
use Rattle.std.proofs.Common.{◌≡◌, ℕ, ◌+◌, ◌-◌, ◌<◌, ◌≤◌, Bool, true, false, cond, ◌&&◌, not, List, [], ◌∷◌, ◌++◌}
use Rattle.std.proofs.Common.{length, take, nat_lt, refl, sym, ◌∙◌, ap, subst, inl, inr, ◌⊎◌, arith}
use Rattle.std.proofs.lemmas.Bool.{false≢true, cases_eq, cases_Bool}
use Rattle.plain_lists.specs.Lists.{IsIn}
use Rattle.plain_lists.proofs.Members.{in_left, in_right, in_filter_from}
use Rattle.message_types.specs.declared.body.Body.{Body}
use Rattle.protocol_rules.specs.Group.{is_live}
use Rattle.protocol_rules.specs.Measures.{ticks_of}
use Rattle.protocol_rules.specs.Turns.{acks_in_turn_due}
use Rattle.protocol_rules.specs.Master.{taken_at, said_before, answered_in}
use Rattle.history_rules.specs.Events.{Entry, frame_taken, is_tick, is_silent}
use Rattle.history_rules.specs.Setup.{Setup, is_correct_master, room, own, leaves_used}
use Rattle.history_rules.specs.Leaves.{leaves_for, room_of}
use Rattle.history_rules.specs.Legal.{Stands, heard, says, says_in, known_of}
use Rattle.history_rules.proofs.Uncut.{uncut, used_then}
use Rattle.agreement.specs.Laws.{known_by}
use Rattle.agreement.proofs.Places.{by_growth, stands_on, stands_last}
use Rattle.agreement.proofs.KnownAsItGrows.{known_then, hears, own-append, own_first, heard_last, heard_other, heard_silent}
use Rattle.agreement.proofs.LearnedWasSaid.{heard_none}
use Rattle.agreement.proofs.VouchedIsOrdered.{known_of_last}
use Rattle.words_by_part.specs.Kinds.{is_of, preordering}
use Rattle.words_by_part.specs.Laws.{AreByLivePart, told_at, moments_at}
use Rattle.words_by_part.proofs.Answering.{answers_by_live_part}
use Rattle.progress.specs.Laws.{due_at, AllIsSaid}

some_left : (shared : Bool) (leaves : ℕ) → 1 ≤ room_of shared leaves → 1 ≤ leaves
some_left true leaves h = omega arith
some_left false leaves h = omega arith

left_then : (leaves all before now after : ℕ) → all ≡ before + (now + after) → 1 ≤ leaves - all → 0 < leaves - before - now
left_then leaves all before now after e h = omega arith

-- what a correct master would say at an event that isn't silent
by_rule : (a x s : Bool) (due other : List Body) → (a && not x) ≡ true → s ≡ false →
    cond a (cond x [] (cond s [] due)) other ≡ due
by_rule true false false due other correct loud = refl
by_rule true false true due other correct loud = absurd (false≢true (sym loud))
by_rule true true s due other correct loud = absurd (false≢true correct)
by_rule false x s due other correct loud = absurd (false≢true correct)

cut_due : (w : Setup) (before : List Entry) (e : Entry) (m : ℕ) → is_correct_master w m ≡ true →
    e.actor ≡ m → is_silent e.event ≡ false → e.said ≡ says w before e.actor e.event
    → e.said ≡ take (room w (own before m)) (due_at w before m e)
unfolding says_in
cut_due w before e m correct by loud rule =
    rule ∙ ap (λ k. says w before k e.event) by
    ∙ ap (take (room w (own before m))) (by_rule (nat_lt m w.group.n) (w.intruded m) (is_silent e.event)
    (due_at w before m e) (w.client_says m (own before m) e.event) correct loud)

pub all_is_said : AllIsSaid
all_is_said w history before e m legal correct left s by loud =
    let free : ℕ = w.leaves - leaves_used w (own before m) in
    let cut : e.said ≡ take (room_of w.shared_leaves free) (due_at w before m e) =
    cut_due w before e m correct by loud (legal.entries before e s).said in
    let entries : own history m ≡ own before m ++ e ∷ own s.after m = ap (λ (xs : List Entry). own xs m) s.whole
    ∙ own-append before (e ∷ s.after) m ∙ ap (λ (xs : List Entry). own before m ++ xs) (own_first e s.after m by) in
    let used : leaves_used w (own history m) ≡ leaves_used w (own before m) + (leaves_for w.shared_leaves (length e.said)
    + leaves_used w (own s.after m)) = ap (leaves_used w) entries ∙ used_then w (own before m) (e ∷ own s.after m) in
    let some : 1 ≤ w.leaves - leaves_used w (own history m) =
    some_left w.shared_leaves (w.leaves - leaves_used w (own history m)) left in
    let now : 0 < free - leaves_for w.shared_leaves (length e.said) = left_then w.leaves (leaves_used w (own history m))
    (leaves_used w (own before m)) (leaves_for w.shared_leaves (length e.said)) (leaves_used w (own s.after m)) used some in
    cut ∙ sym (uncut w.shared_leaves free (due_at w before m e)
    (subst (λ (bs : List Body). 0 < free - leaves_for w.shared_leaves (length bs)) cut now))

-- by parts, what such a master said at an entry
abbrev pub SaidByPart : Setup → List Entry → ℕ → Entry → Type 0
SaidByPart w before m e = AreByLivePart w.group w.orders m (known_then w before m e)
    (taken_at (heard w before m) (frame_taken e.event)) (frame_taken e.event) (said_before (heard w before m))
    (answered_in (heard w before m)) (moments_at w.group (heard w before m) (frame_taken e.event) (is_tick e.event))
    (ticks_of (told_at w.group (heard w before m) (frame_taken e.event) (is_tick e.event))) (is_tick e.event) e.said

pub said_by_part : (w : Setup) (before : List Entry) (m : ℕ) (e : Entry) → is_live w.group ≡ true →
    e.said ≡ due_at w before m e → SaidByPart w before m e
said_by_part w before m e live all = subst (λ (bs : List Body). AreByLivePart w.group w.orders m (known_then w before m e)
    (taken_at (heard w before m) (frame_taken e.event)) (frame_taken e.event) (said_before (heard w before m))
    (answered_in (heard w before m)) (moments_at w.group (heard w before m) (frame_taken e.event) (is_tick e.event))
    (ticks_of (told_at w.group (heard w before m) (frame_taken e.event) (is_tick e.event))) (is_tick e.event) bs)
    (sym all)
    (answers_by_live_part w.group w.orders m (heard w before m) (frame_taken e.event) (is_tick e.event) live)

-- each acknowledgement that has its turn is among what was said
pub ack_said : (w : Setup) (before : List Entry) (m : ℕ) (e : Entry) (b : Body) → SaidByPart w before m e →
    IsIn b (acks_in_turn_due w.group (known_then w before m e) (said_before (heard w before m))) → IsIn b e.said
ack_said w before m e b parts h = (in_filter_from (is_of preordering) e.said
    (subst (λ (bs : List Body). IsIn b bs) (sym parts.requests) (in_right _ (in_left _ h)))).0

-- a master's last event
pub record LastEvent (w : Setup) (history : List Entry) (m : ℕ) : Type 0 where
  pub before : List Entry
  pub entry : Entry
  pub place : Stands history before entry
  pub by : entry.actor ≡ m
  pub loud : is_silent entry.event ≡ false
  pub used : ℕ
  pub heard_all : heard w history m ≡ heard w before m ++ hears w m used entry ∷ []

pub last_event : (w : Setup) (m : ℕ) (history : List Entry) → (heard w history m ≡ []) ⊎ LastEvent w history m
last_event w m history = by_growth (λ (xs : List Entry). (heard w xs m ≡ []) ⊎ LastEvent w xs m) (inl (heard_none w m))
    one_more history
  where
    unchanged : (before : List Entry) (e : Entry) → heard w (before ++ e ∷ []) m ≡ heard w before m →
        (heard w before m ≡ []) ⊎ LastEvent w before m → (heard w (before ++ e ∷ []) m ≡ []) ⊎ LastEvent w (before ++ e ∷ []) m
    unchanged before e same (inl none) = inl (same ∙ none)
    unchanged before e same (inr last) = inr record {
      before = last.before;
      entry = last.entry;
      place = stands_on (e ∷ []) last.place;
      by = last.by;
      loud = last.loud;
      used = last.used;
      heard_all = same ∙ last.heard_all;
    }

    one_more : (before : List Entry) (e : Entry) → (heard w before m ≡ []) ⊎ LastEvent w before m →
        (heard w (before ++ e ∷ []) m ≡ []) ⊎ LastEvent w (before ++ e ∷ []) m
    one_more before e so_far = elim (cases_eq e.actor m) [
      | inr other ↦ unchanged before e (heard_other w before e m other) so_far
      | inl by ↦ elim (cases_Bool (is_silent e.event)) [
        | inl silent ↦ unchanged before e (heard_silent w before e m by silent) so_far
        | inr loud ↦
            let at = heard_last w before e m by loud in
            inr record {
              before = before;
              entry = e;
              place = stands_last before e;
              by = by;
              loud = loud;
              used = at.0;
              heard_all = at.1;
            }
      ]
    ]

-- what is known at the end was known there
pub known_last : (w : Setup) (history : List Entry) (m : ℕ) (last : LastEvent w history m) →
    known_by w history m ≡ known_then w last.before m last.entry
known_last w history m last = ap known_of last.heard_all
    ∙ known_of_last (heard w last.before m) (hears w m last.used last.entry)
