-- What becomes of a view: more than f + k connected masters that lacked something for longer than their patience all voted
-- against it, so it is left two rounds later; else there are at most f + k of these. And under a connected leader that serves
-- all of them nothing else has to be asked for them to stay.
use Rattle.std.proofs.Common.{Bool, ◌<◌, ◌≡◌, ℕ, ◌+◌, ◌≤◌, true, List, ◌++◌, length, nat_eq, refl, inl, inr, arith}
use Rattle.std.proofs.Common.{◌&&◌, append_assoc, eqb-true}
use Rattle.std.proofs.lemmas.Bool.{and_parts, cases_lt}
use Rattle.quorum_sets.specs.Masters.{voters}
use Rattle.message_types.specs.declared.body.Body.TheVariants as body
use Rattle.protocol_rules.specs.Group.{is_live, most_view}
use Rattle.protocol_rules.specs.Views.{view, is_suspected}
use Rattle.history_rules.specs.Events.{Entry}
use Rattle.history_rules.specs.Setup.{Setup, room, own}
use Rattle.history_rules.specs.Legal.{IsLegal}
use Rattle.history_rules.specs.Audit.{HasSaid}
use Rattle.agreement.specs.Laws.{known_by}
use Rattle.agreement.proofs.Places.{legal_before}
use Rattle.progress.specs.Rounds.{AreConnected, IsRound, then_rounds}
use Rattle.progress.specs.Serving.{is_held, is_starved, HasStarved, StarvedIsLeft, ServedOrGone, NextViewOpens, UnderServingLeader}
use Rattle.progress.proofs.Reaching.{left_before}
use Rattle.progress.proofs.UnderLeader.{under_correct_leader, rounds_begin}
use Rattle.progress.proofs.Leaving.{votes_spread, voted_is_left}
use Rattle.progress.proofs.Impatient.{starved_votes, view_later}
use Rattle.progress.proofs.Opening.{view_opens}
use Rattle.progress.proofs.Kept.{patient_is_kept, served_is_kept}

-- all have voted against it a round later
module _ (w : Setup) (connected : ℕ → Bool) (history first : List Entry) (live : is_live w.group ≡ true)
    (legal : IsLegal w (history ++ first)) (are : AreConnected w connected) (fair : IsRound w connected history first)
    (left : (m : ℕ) → connected m ≡ true → 1 ≤ room w (own (history ++ first) m)) (v : ℕ) (low : v < most_view)
    (starved : ℕ → Bool) (many : w.group.f + w.group.k < length (voters starved w.group.n))
    (each : (m : ℕ) → starved m ≡ true → (connected m ≡ true) × HasStarved w history m v) where
  all_vote : (m : ℕ) → connected m ≡ true → HasSaid (history ++ first) m (body.Suspect record { v = v })
  all_vote = votes_spread w connected history first live legal are fair left v low starved many (λ j is_j.
      let it = each j is_j in (
        it.0,
        starved_votes w history j v live (legal_before w history first legal) (are.correct j it.0)
            (left_before w history first j (left j it.0)) low it.1,
      ))

pub starved_is_left : StarvedIsLeft
starved_is_left w connected history first second live legal are fair next left v low starved many each m is_m =
    (voted_is_left w connected (history ++ first) second legal are next v (all_vote w connected history first live
    (legal_before w (history ++ first) second legal) are fair
    (λ i is_i. left_before w (history ++ first) second i (left i is_i)) v low starved many each) m is_m).0

pub next_view_opens : NextViewOpens
next_view_opens w connected history first second third fourth live legal sizes unforged are fair left v low starved many each leads
    patient m is_m =
    let one : List Entry = history ++ first in
    let two : List Entry = one ++ second in
    let three : List Entry = two ++ third in
    let four : List Entry = three ++ fourth in
    let legal_three : IsLegal w three = legal_before w three fourth legal in
    let legal_two : IsLegal w two = legal_before w two third legal_three in
    let legal_one : IsLegal w one = legal_before w one second legal_two in
    let left_one : (i : ℕ) → connected i ≡ true → 1 ≤ room w (own one i) = λ i is_i.
    left_before w one second i (left_before w two third i (left_before w three fourth i (left i is_i))) in
    let gone : (i : ℕ) → connected i ≡ true → (v < view w.group (known_by w two i))
    × (is_suspected w.group (known_by w two i) v ≡ true) = voted_is_left w connected one second legal_two are fair.1.0 v
    (all_vote w connected history first live legal_one are fair.0 left_one v low starved many each) in
    let kept = (patient_is_kept w connected four live legal sizes unforged are (v + 1) patient).1 in
    let came : (i : ℕ) → connected i ≡ true → view w.group (known_by w two i) ≡ v + 1 = λ i is_i.
    let past : v < view w.group (known_by w two i) = (gone i is_i).0 in
    let later : view w.group (known_by w two i) ≤ view w.group (known_by w four i) = view_later w i two four
    record { rest = third ++ fourth; same = append_assoc two third fourth } in
    let most : view w.group (known_by w four i) ≤ v + 1 = kept i (are.correct i is_i) in
    omega (arith, past, later, most) in
    let stayed : (i : ℕ) → connected i ≡ true → view w.group (known_by w four i) ≡ v + 1 = λ i is_i.
    let past : v < view w.group (known_by w two i) = (gone i is_i).0 in
    let later : view w.group (known_by w two i) ≤ view w.group (known_by w four i) = view_later w i two four
    record { rest = third ++ fourth; same = append_assoc two third fourth } in
    let most : view w.group (known_by w four i) ≤ v + 1 = kept i (are.correct i is_i) in
    omega (arith, past, later, most) in (
      stayed m is_m,
      view_opens w connected two third fourth live legal are fair.1.1.0 fair.1.1.1.0 left v leads came stayed
          (λ i is_i. (gone i is_i).1) m is_m,
    )

pub served_or_gone : ServedOrGone
served_or_gone w connected beginning since first second live legal are fair next left v low came long =
    elim (cases_lt (w.group.f + w.group.k) (length (voters (λ m. connected m
    && is_held w v beginning (beginning ++ since) m) w.group.n))) [
      | inr few ↦ inr few
      | inl many ↦ inl (starved_is_left w connected (beginning ++ since) first second live legal are fair next left v low
          (λ m. connected m && is_held w v beginning (beginning ++ since) m) many (λ m held.
          let both = and_parts (connected m) (is_held w v beginning (beginning ++ since) m) held in
          let parts = and_parts (nat_eq (view w.group (known_by w (beginning ++ since) m)) v)
          (is_starved w beginning (beginning ++ since) m) both.1 in (
            both.0,
            record {
              beginning = beginning;
              since = since;
              whole = refl;
              came = came m both.0;
              stayed = eqb-true (view w.group (known_by w (beginning ++ since) m)) v parts.0;
              lacks = parts.1;
              long = long m both.0;
            },
          )))
    ]

pub under_serving_leader : UnderServingLeader
under_serving_leader w connected beginning rounds v door u live sound are fair nine leader came opened served have lack handed =
    under_correct_leader w connected beginning rounds v door u live sound are fair nine record {
      leader = leader;
      came = came;
      opened = opened;
      stayed = λ m is_m.
          let low : view w.group (known_by w (then_rounds beginning rounds) m) ≤ v = served_is_kept w connected
          (then_rounds beginning rounds) live sound.legal sound.sizes sound.unforged are v served m (are.correct m is_m) in
          let high : view w.group (known_by w beginning m) ≤ view w.group (known_by w (then_rounds beginning rounds) m) =
          view_later w m beginning (then_rounds beginning rounds) (rounds_begin beginning rounds) in
          let was : view w.group (known_by w beginning m) ≡ v = came m is_m in
          omega (arith, low, high, was);
    } have lack handed
