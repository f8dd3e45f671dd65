-- Who has waited for long enough asks for the next number and is given it, so it has ordered one more without a gap.
use Rattle.std.proofs.Common.{◌≡◌, ℕ, ◌+◌, ◌≤◌, List, [], ◌∷◌, ◌++◌, Option, Some, None, refl, sym, ◌∙◌, ap}
use Rattle.std.proofs.Common.{inl, inr, ◌⊎◌, arith}
use Rattle.std.proofs.lemmas.Bool.{cases_lt}
use Rattle.plain_lists.specs.Lists.{Begins}
use Rattle.message_types.specs.declared.body.Body.TheVariants as body
use Rattle.protocol_rules.specs.Group.{most_number}
use Rattle.protocol_rules.specs.Facts.{facts_of}
use Rattle.protocol_rules.specs.Order.{ordered, ordered_run, gapless}
use Rattle.history_rules.specs.Events.{Entry}
use Rattle.history_rules.specs.Setup.{Setup}
use Rattle.history_rules.specs.Audit.{HasSaid}
use Rattle.agreement.specs.Laws.{IsSound, known_by}
use Rattle.agreement.proofs.Places.{whole_upto}
use Rattle.progress.specs.Asking.{NextIsGiven}
use Rattle.progress.proofs.Reaching.{run_reaches}
use Rattle.progress.proofs.Settled.{sound_before}
use Rattle.progress.proofs.Worthy.{ordered_upto}
use Rattle.progress.proofs.Ordered.{begins_through, begins_append, ordered_kept}
use Rattle.progress.proofs.Asked.{waiting_asks}
use Rattle.progress.proofs.Given.{asked_is_given}

-- once the next number is ordered too, one more is ordered without a gap
one_more_ordered : (w : Setup) (m : ℕ) (before whole : List Entry) → Begins before whole → (s : ℕ) (rows : List (List ℕ))
    → s ≡ gapless w.group (facts_of w.group (known_by w before m)) + 1 → s ≤ most_number
    → ordered w.group (facts_of w.group (known_by w whole m)) s ≡ Some rows
    → s ≤ gapless w.group (facts_of w.group (known_by w whole m))
unfolding ordered_run
one_more_ordered w m before whole b s rows next most is =
    run_reaches (ordered w.group (facts_of w.group (known_by w whole m))) 1 most_number s most (λ k above below.
    elim (cases_lt k s) [
      | inl lower ↦
          let was = ordered_upto w.group (facts_of w.group (known_by w before m)) k above (omega (arith, lower, next)) in
          (was.0, ordered_kept w m before whole b k was.0 was.1)
      | inr high ↦
          let same : s ≡ k = omega (arith, high, below) in
          (rows, ap (ordered w.group (facts_of w.group (known_by w whole m))) (sym same) ∙ is)
    ])

cases_option : {X : Type 0} (o : Option X) → ((x : X) × (o ≡ Some x)) ⊎ (o ≡ None)
cases_option None = inr refl
cases_option (Some x) = inl (x, refl)

pub next_is_given : NextIsGiven
next_is_given w connected beginning first second before e live sound are fair next i m is_i is_m other left left_i s by tick long x rows
    is_next most had may within =
    let one : List Entry = beginning ++ first in
    let two : List Entry = one ++ second in
    let upto : List Entry = before ++ e ∷ [] in
    let upto_two : Begins upto two = begins_through record { rest = s.after; same = whole_upto s }
    (begins_through (begins_append beginning first) (begins_append one second)) in
    let sound_first : IsSound w beginning = sound_before w beginning first (sound_before w one second sound) in
    elim (cases_option (ordered w.group (facts_of w.group (known_by w upto m)) x)) [
      | inl some ↦ one_more_ordered w m upto two upto_two x some.0 is_next most (ordered_kept w m upto two upto_two x some.0 some.1)
      | inr none ↦
          let asked : HasSaid beginning m (body.AskOrder record { s = x }) = record {
            before = before;
            entry = e;
            place = s;
            by = by;
            among = waiting_asks w beginning before e m live sound_first.legal (are.correct m is_m) left s by tick long x is_next most
                none may;
          } in
          one_more_ordered w m upto two upto_two x rows is_next most (asked_is_given w connected beginning first second live sound are
          fair next i m x rows is_i is_m other left_i asked had within)
    ]
