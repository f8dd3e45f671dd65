-- What is ordered without a gap is marked at each eighth number, and what all marked each knows to be marked by a quorum, so it
-- is stable there.
use Rattle.std.proofs.Common.{◌≡◌, ℕ, ◌%◌, ◌<◌, ◌≤◌, Bool, true, false, cond, not, List, [], ◌∷◌, ◌++◌, Some, None}
use Rattle.std.proofs.Common.{nat_eq, refl, sym, ap, subst, inl, inr, ◌⊎◌, arith, eqb-true}
use Rattle.std.proofs.lemmas.Bool.{false≢true, and_from, cases_eq, cases_Bool, not_from_false, ne_eqb, eq-eqb}
use Rattle.std.specs.Option.{is_some}
use Rattle.std.specs.List.{list_any, filter_map}
use Rattle.plain_lists.specs.Lists.{IsIn, here, Begins}
use Rattle.plain_lists.proofs.Members.{in_right, in_flat_map, in_filter_from, in_filter_map, any_from, none_some}
use Rattle.message_types.specs.declared.signed.Signed.{Signed}
use Rattle.message_types.specs.declared.ordering.Mark.{Mark}
use Rattle.message_types.specs.declared.body.Body.{Body}
use Rattle.message_types.specs.declared.body.Body.TheVariants as body
use Rattle.protocol_rules.specs.declared.facts.OrderFact.{OrderFact}
use Rattle.protocol_rules.specs.declared.facts.OrderFact.TheVariants as fact
use Rattle.protocol_rules.specs.Words.{first_met}
use Rattle.protocol_rules.specs.Group.{Group, mark_step}
use Rattle.protocol_rules.specs.Facts.{tells, facts_of, rows_known}
use Rattle.protocol_rules.specs.Order.{ordered, gapless, stable, is_voted, mark_by, number_marked, marks_said, mark_due, marks_due, commits_due}
use Rattle.protocol_rules.specs.Views.{view, is_open}
use Rattle.protocol_rules.specs.Worth.{worthy_prepares_due}
use Rattle.protocol_rules.specs.Master.{Heard, said_before}
use Rattle.protocol_rules.proofs.FirstMet.{first_there}
use Rattle.protocol_rules.proofs.Numbers.{from_in}
use Rattle.history_rules.specs.Events.{Entry}
use Rattle.history_rules.specs.Setup.{Setup}
use Rattle.history_rules.specs.Legal.{IsLegal, heard, known_of}
use Rattle.agreement.specs.Laws.{IsSound, known_by}
use Rattle.agreement.proofs.Places.{said_whole, legal_before}
use Rattle.agreement.proofs.KnownAsItGrows.{known_then}
use Rattle.agreement.proofs.LearnedWasSaid.{FirstSaid, first_said_before}
use Rattle.agreement.proofs.PlannedRows.{greatest_above}
use Rattle.words_by_part.specs.Kinds.{is_of, ordering}
use Rattle.progress.specs.Rounds.{goes_to}
use Rattle.progress.specs.Laws.{KnowsWord}
use Rattle.progress.specs.Marking.{OrderedIsMarked, MarksArrive, OrderedIsStable, OfferIsStable}
use Rattle.progress.proofs.Arriving.{words_arrive}
use Rattle.progress.proofs.Saying.{SaidByPart, last_event, known_last, all_is_said, said_by_part}
use Rattle.progress.specs.UnderLeader.{IsLed}
use Rattle.progress.proofs.Settled.{sound_before, led_before}
use Rattle.progress.proofs.Worthy.{ordered_upto}
use Rattle.progress.proofs.Ordered.{begins_through, begins_append, offer_is_ordered}
use Rattle.progress.proofs.Voting.{voted_by}

-- nothing is ordered where nothing is known
none_ordered : (g : Group) (s : ℕ) (rows : List (List ℕ)) → ordered g (facts_of g (known_of [])) s ≡ Some rows → ⊥
unfolding ordered facts_of known_of first_met rows_known
none_ordered g s rows e = none_some e

mark_from : (s : ℕ) (b : Body) → marks_said s b ≡ true → b ≡ body.Mark record { s = s }
mark_from s (body.Mark b) e = let is : b.s ≡ s = eqb-true b.s s e in λ i. body.Mark record { s = is i }
mark_from s _ e = absurd (false≢true e)

-- the mark that is due
mark_is_due : (g : Group) (facts : List OrderFact) (said : List Body) (s : ℕ) → 1 ≤ s → s % mark_step ≡ 0 → s ≤ gapless g facts
    → list_any (marks_said s) said ≡ false → IsIn (body.Mark record { s = s }) (marks_due g facts said)
mark_is_due g facts said s one step low none =
    in_flat_map (mark_due said) (from_in 1 (gapless g facts) s one (omega (arith, low)))
    (subst (λ (c : Bool). IsIn (body.Mark record { s = s }) (cond c (body.Mark record { s = s } ∷ []) []))
    (sym (and_from (nat_eq (s % mark_step) 0) (not (list_any (marks_said s) said)) (eq-eqb (s % mark_step) 0 step)
    (not_from_false (list_any (marks_said s) said) none))) (here []))

pub ordered_is_marked : OrderedIsMarked
ordered_is_marked w history m s live legal correct left one step low = elim (last_event w m history) [
  | inl none ↦
      let was = ordered_upto w.group (facts_of w.group (known_by w history m)) s one low in
      absurd (none_ordered w.group s was.0 (subst (λ (hs : List Heard). ordered w.group (facts_of w.group (known_of hs)) s
      ≡ Some was.0) none was.1))
  | inr last ↦ elim (cases_Bool (list_any (marks_said s) (said_before (heard w last.before m)))) [
    | inl was ↦
        let found = any_from (marks_said s) (said_before (heard w last.before m)) was in
        let legal_then : IsLegal w last.before = legal_before w last.before (last.entry ∷ last.place.after)
        (subst (λ (xs : List Entry). IsLegal w xs) last.place.whole legal) in
        let earlier : FirstSaid w last.before m (body.Mark record { s = s }) = first_said_before w m (body.Mark record { s = s })
        correct last.before legal_then (subst (λ (b : Body). IsIn b (said_before (heard w last.before m)))
        (mark_from s found.0 found.2) found.1) in
        said_whole last.place earlier.said
    | inr fresh ↦
        let parts : SaidByPart w last.before m last.entry = said_by_part w last.before m last.entry live
        (all_is_said w history last.before last.entry m legal correct left last.place last.by last.loud) in
        let due : IsIn (body.Mark record { s = s }) (marks_due w.group (facts_of w.group (known_then w last.before m last.entry))
        (said_before (heard w last.before m))) = mark_is_due w.group (facts_of w.group (known_then w last.before m last.entry))
        (said_before (heard w last.before m)) s one step (subst (λ (ps : List (Signed Body)). s ≤ gapless w.group
        (facts_of w.group ps)) (known_last w history m last) low) fresh in
        record {
          before = last.before;
          entry = last.entry;
          place = last.place;
          by = last.by;
          among = (in_filter_from (is_of ordering) last.entry.said (subst (λ (bs : List Body). IsIn (body.Mark record { s = s }) bs)
              (sym parts.orders_said) (in_right (worthy_prepares_due w.group (facts_of w.group
              (known_then w last.before m last.entry)) (said_before (heard w last.before m))
              (view w.group (known_then w last.before m last.entry)) (is_open w.group (known_then w last.before m last.entry))
              ++ commits_due w.group (facts_of w.group (known_then w last.before m last.entry))
              (said_before (heard w last.before m)) (view w.group (known_then w last.before m last.entry))) due))).0;
        }
  ]
]

mark_sent : (w : Setup) (m i : ℕ) (b : Mark) → (m ≡ i) ⊎ (goes_to w.group i (body.Mark b) m ≡ true)
mark_sent w m i b = elim (cases_eq m i) [
  | inl same ↦ inl same
  | inr apart ↦ inr (not_from_false (nat_eq m i) (ne_eqb m i apart))
]

told_mark : (g : Group) (known : List (Signed Body)) (p : Signed Body) (b : Mark) → IsIn p known →
    p.body ≡ body.Mark b → IsIn (fact.Mark record { signer = p.signer; body = b; sig = p.sig }) (facts_of g known)
unfolding facts_of
told_mark g known p b among is = in_flat_map (tells g) among (by p.signer p.body p.sig is)
  where
    by : (signer : ℕ) (word : Body) (sig : List ℕ) → word ≡ body.Mark b →
        IsIn (fact.Mark record { signer = signer; body = b; sig = sig })
        (tells g record { signer = signer; body = word; sig = sig })
    by signer word sig is = subst (λ (x : Body). IsIn (fact.Mark record { signer = signer; body = b; sig = sig })
        (tells g record { signer = signer; body = x; sig = sig })) (sym is) (here [])

-- a mark that is known, of a number that a quorum marked
stable_above : (g : Group) (facts : List OrderFact) (f : Signed Mark) → IsIn (fact.Mark f) facts →
    is_voted g (mark_by f.body.s) facts ≡ true → f.body.s ≤ stable g facts
unfolding stable
stable_above g facts f among voted = greatest_above f.body.s (filter_map (number_marked g facts) facts)
    (in_filter_map (number_marked g facts) among (ap (λ (c : Bool). cond c (Some f.body.s) None) voted))

pub marks_arrive : MarksArrive
marks_arrive w connected beginning round legal are fair s said m is_m =
    let known : List (Signed Body) = known_by w (beginning ++ round) m in
    let word : Mark = record { s = s } in
    let knows : (i : ℕ) → connected i ≡ true → KnowsWord (known_by w (beginning ++ round) m) i (body.Mark word) = λ i is_i.
    words_arrive w connected beginning round legal are fair i m is_i is_m (body.Mark word) (said i is_i) (mark_sent w m i word) in
    let voted : is_voted w.group (mark_by s) (facts_of w.group (known_by w (beginning ++ round) m)) ≡ true =
    voted_by w.group connected (mark_by s) (facts_of w.group known) are.enough (λ i is_i.
    let k : KnowsWord (known_by w (beginning ++ round) m) i (body.Mark word) = knows i is_i in
    let vote : Signed Mark = record { signer = k.part.signer; body = word; sig = k.part.sig } in
    let first = first_there (in_filter_map (mark_by s i) (told_mark w.group known k.part word k.among k.word)
    (ap (λ (b : Bool). cond b (Some vote) None) (and_from (nat_eq k.part.signer i) (nat_eq s s) (eq-eqb k.part.signer i k.by)
    (eq-eqb s s refl)))) in
    ap is_some first.1) in
    let own : KnowsWord (known_by w (beginning ++ round) m) m (body.Mark word) = knows m is_m in
    stable_above w.group (facts_of w.group known) record { signer = own.part.signer; body = word; sig = own.part.sig }
    (told_mark w.group known own.part word own.among own.word) voted

pub ordered_is_stable : OrderedIsStable
ordered_is_stable w connected beginning round live legal are fair left s one step low =
    marks_arrive w connected beginning round legal are fair s (λ m is_m. ordered_is_marked w beginning m s live
    (legal_before w beginning round legal) (are.correct m is_m) (left m is_m) one step (low m is_m))

pub offer_is_stable : OfferIsStable
offer_is_stable w connected v plan beginning middle first second third fourth live sound are fair led begun s rows offer most step low =
    let three : List Entry = ((middle ++ first) ++ second) ++ third in
    let sound_three : IsSound w three = sound_before w three fourth sound in
    let begins_three : Begins beginning three = begins_through begun (begins_through (begins_append middle first)
    (begins_through (begins_append (middle ++ first) second) (begins_append ((middle ++ first) ++ second) third))) in
    let led_three : IsLed w connected v plan beginning three = led_before w connected v plan beginning three fourth begins_three led in
    let above : plan.base < s = offer.0 in
    ordered_is_stable w connected three fourth live sound.legal are fair.1.1.1.0 led_three.leaves s (omega (arith, above)) step
    (λ m is_m. (offer_is_ordered w connected v plan beginning middle first second third live sound_three are
    (fair.0, (fair.1.0, (fair.1.1.0, tt))) led_three begun s rows offer low m is_m).1 most)
