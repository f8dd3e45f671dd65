-- What a view offers all connected masters prepare a round later, since each finds it offered and worth it, or prepared the
-- plan's rows before; a round after that each knows the prepares of all and commits it, and a round after that it has it
-- ordered, with each number below: up to the base it was before, above it the view offers it too.
use Rattle.std.proofs.Common.{◌≡◌, ℕ, ◌+◌, ◌-◌, ◌<◌, ◌≤◌, Bool, true, cond, ◌&&◌, List, [], ◌++◌}
use Rattle.std.proofs.Common.{Option, Some, None, nat_eq, refl, sym, ◌∙◌, ap, subst, inl, inr, arith}
use Rattle.std.proofs.Common.{if◌then◌else◌, append-nil, append_assoc}
use Rattle.std.proofs.lemmas.Bool.{and_from, or_left, or_right, or_cases, eq-eqb, cases_lt}
use Rattle.std.specs.Option.{is_some}
use Rattle.std.specs.List.{find}
use Rattle.std.specs.Str.{bytes_eq}
use Rattle.plain_lists.specs.Lists.{IsIn, Begins, Within}
use Rattle.plain_lists.proofs.Members.{any_from, any_in, in_filter_map, none_some}
use Rattle.message_types.specs.declared.signed.Signed.{Signed}
use Rattle.message_types.specs.declared.ordering.Commit.{Commit}
use Rattle.message_types.specs.declared.views.Plan.{Plan}
use Rattle.message_types.specs.declared.body.Body.{Body}
use Rattle.message_types.specs.declared.body.Body.TheVariants as body
use Rattle.message_types.specs.Digests.{digest_of_rows}
use Rattle.protocol_rules.specs.declared.facts.OrderFact.{OrderFact}
use Rattle.protocol_rules.specs.declared.facts.OrderFact.TheVariants as fact
use Rattle.protocol_rules.specs.Group.{Group, is_live, leader_of, most_number, window}
use Rattle.protocol_rules.specs.Facts.{facts_of, rows_known}
use Rattle.protocol_rules.specs.Matrix.{rows_of_frames}
use Rattle.protocol_rules.specs.Order.{prepared, ordered, ordered_run, gapless, stable, is_voted, prepare_by, commit_by, commit_views, is_committed}
use Rattle.protocol_rules.specs.Views.{view, is_open, is_opened, new_view_in}
use Rattle.protocol_rules.proofs.FirstMet.{first_met-none}
use Rattle.history_rules.specs.Events.{Entry}
use Rattle.history_rules.specs.Setup.{Setup}
use Rattle.history_rules.specs.Legal.{heard}
use Rattle.history_rules.specs.Audit.{HasSaid}
use Rattle.agreement.specs.Laws.{IsSound, known_by}
use Rattle.agreement.proofs.KnownAsItGrows.{known_of_within}
use Rattle.agreement.proofs.FramesInside.{facts_more}
use Rattle.agreement.proofs.QuorumsStay.{stable_more}
use Rattle.agreement.proofs.VouchedIsOrdered.{ordered_stays}
use Rattle.progress.specs.Rounds.{AreConnected, IsRound}
use Rattle.progress.specs.Laws.{KnowsWord}
use Rattle.progress.specs.UnderLeader.{IsLed, IsProposed, IsOffer, OfferIsPrepared, OfferIsOrdered}
use Rattle.progress.proofs.Arriving.{in_more, known_grows, words_arrive}
use Rattle.progress.proofs.Certifying.{find_there}
use Rattle.progress.proofs.Reaching.{run_reaches}
use Rattle.progress.proofs.Voting.{prepares_arrive, commits_arrive, told_commit, self_bytes}
use Rattle.progress.proofs.Preparing.{offered_is_prepared}
use Rattle.progress.proofs.Committing.{prepared_is_committed}
use Rattle.progress.proofs.Proposed.{plan_kept, told_proposal, said_begun, offer_begun, offer_same, offer_lower}
use Rattle.progress.proofs.Settled.{sound_before, led_before, rows_told, plan_rows_known, plan_prepared, prepared_offer, ordered_offer}
use Rattle.progress.proofs.Worthy.{ordered_upto, proposal_sent, proposed_is_worth}

-- a view that is open stays so while it lasts
pub open_kept : (g : Group) (known more : List (Signed Body)) → Within known more → view g known ≡ view g more →
    is_open g known ≡ true → is_open g more ≡ true
unfolding is_open
open_kept g known more within same opens = elim (or_cases (nat_eq (view g known) 0) (is_opened known (view g known)) opens) [
  | inl zero_view ↦ or_left (nat_eq (view g more) 0) (is_opened more (view g more))
      (ap (λ (v : ℕ). nat_eq v 0) (sym same) ∙ zero_view)
  | inr opened ↦
      let found = any_from (λ f. is_some (new_view_in (view g known) f)) known opened in
      or_right (nat_eq (view g more) 0) (is_opened more (view g more)) (any_in (λ f. is_some (new_view_in (view g more) f))
      (within found.0 found.1) (ap (λ (v : ℕ). is_some (new_view_in v found.0)) (sym same) ∙ found.2))
]

pub offer_is_prepared : OfferIsPrepared
offer_is_prepared w connected v plan beginning middle round live sound are fair led begun s rows (above, inl planned) m is_m low =
    said_begun led.begins (plan_prepared w connected v plan beginning (middle ++ round) live sound are led m is_m s rows above
    planned.0 planned.1)
offer_is_prepared w connected v plan beginning middle round live sound are fair led begun s rows (above, inr beyond) m is_m low =
    let whole : List Entry = middle ++ round in
    let worth = proposed_is_worth w connected v plan beginning middle round live sound are fair led begun s rows beyond.0 beyond.1
    m is_m in
    let grown : Begins (known_by w beginning m) (known_by w (middle ++ round) m) = known_grows w whole beginning m led.begins in
    offered_is_prepared w whole whole m v s rows live sound.legal record { rest = []; same = sym (append-nil whole) }
    (are.correct m is_m) (led.leaves m is_m) (led.stayed m is_m) (open_kept w.group (known_by w beginning m) (known_by w whole m)
    (λ p h. in_more grown h) (led.came m is_m ∙ sym (led.stayed m is_m)) (led.opened m is_m)) worth.0 worth.1 (omega arith) low

-- rows that are known, and of whose digest there is a quorum of prepares, are prepared where no others can be
prepared_there : (g : Group) (facts : List OrderFact) (v s : ℕ) (rows : List (List ℕ)) → IsIn rows (rows_known facts) →
    is_voted g (prepare_by v s (digest_of_rows rows)) facts ≡ true
    → ((x : List (List ℕ)) → prepared g facts v s ≡ Some x → x ≡ rows) → prepared g facts v s ≡ Some rows
unfolding prepared
prepared_there g facts v s rows among voted alone = by (prepared g facts v s) refl
  where
    by : (o : Option (List (List ℕ))) → prepared g facts v s ≡ o → prepared g facts v s ≡ Some rows
    by (Some x) e = e ∙ ap (λ (y : List (List ℕ)). Some y) (alone x e)
    by None e =
        let none = first_met-none (λ beginning. find (λ rows. is_voted g (prepare_by v s (digest_of_rows rows)) beginning)
        (rows_known beginning)) [] facts e in
        let some = find_there (λ rows. is_voted g (prepare_by v s (digest_of_rows rows)) facts) among voted in
        absurd (none_some (sym none ∙ some.1))

-- and ordered, with a quorum of commits
pub ordered_there : (g : Group) (facts : List OrderFact) (s : ℕ) (rows : List (List ℕ)) → IsIn rows (rows_known facts) →
    is_committed g facts s (digest_of_rows rows) ≡ true
    → ((x : List (List ℕ)) → ordered g facts s ≡ Some x → x ≡ rows) → ordered g facts s ≡ Some rows
unfolding ordered
ordered_there g facts s rows among committed alone = by (ordered g facts s) refl
  where
    by : (o : Option (List (List ℕ))) → ordered g facts s ≡ o → ordered g facts s ≡ Some rows
    by (Some x) e = e ∙ ap (λ (y : List (List ℕ)). Some y) (alone x e)
    by None e =
        let none = first_met-none (λ beginning. find (λ rows. is_committed g beginning s (digest_of_rows rows))
        (rows_known beginning)) [] facts e in
        let some = find_there (λ rows. is_committed g facts s (digest_of_rows rows)) among committed in
        absurd (none_some (sym none ∙ some.1))

pub commit_view_there : (facts : List OrderFact) (f : Signed Commit) (v s : ℕ) (digest : List ℕ) →
    IsIn (fact.Commit f) facts → f.body ≡ record { v = v; s = s; digest = digest } → IsIn v (commit_views facts s digest)
commit_view_there facts f v s digest among is = in_filter_map (λ x. elim x as (λ _. Option ℕ) [
  | fact.Commit c ↦ if nat_eq c.body.s s
      && bytes_eq c.body.digest digest then Some c.body.v else None
  | _ ↦ None
]) among (ap (λ (c : Commit). cond (nat_eq c.s s && bytes_eq c.digest digest) (Some c.v) None) is
    ∙ ap (λ (b : Bool). cond b (Some v) None) (and_from (nat_eq s s) (bytes_eq digest digest) (eq-eqb s s refl)
    (self_bytes digest)))

-- windows only go up
pub stable_later : (w : Setup) (m : ℕ) (before whole : List Entry) → Begins before whole →
    stable w.group (facts_of w.group (known_by w before m)) ≤ stable w.group (facts_of w.group (known_by w whole m))
stable_later w m before whole b =
    let grown : Begins (known_by w before m) (known_by w whole m) = known_grows w whole before m b in
    stable_more w.group (facts_of w.group (known_by w before m)) (facts_of w.group (known_by w whole m))
    (facts_more w.group (known_by w before m) (known_by w whole m) (λ p h. in_more grown h))

pub begins_through : {X : Type 0} {xs ys zs : List X} → Begins xs ys → Begins ys zs → Begins xs zs
begins_through {X} {xs} a b = record {
  rest = a.rest ++ b.rest;
  same = b.same ∙ ap (λ (vs : List X). vs ++ b.rest) a.same ∙ append_assoc xs a.rest b.rest;
}

pub begins_append : {X : Type 0} (xs ys : List X) → Begins xs (xs ++ ys)
begins_append xs ys = record { rest = ys; same = refl }

-- what is ordered stays
pub ordered_kept : (w : Setup) (m : ℕ) (before whole : List Entry) → Begins before whole → (s : ℕ) (rows : List (List ℕ)) →
    ordered w.group (facts_of w.group (known_by w before m)) s ≡ Some rows →
    ordered w.group (facts_of w.group (known_by w whole m)) s ≡ Some rows
ordered_kept w m before whole b s rows e =
    let grown : Begins (known_by w before m) (known_by w whole m) = known_grows w whole before m b in
    subst (λ (ps : List (Signed Body)). ordered w.group (facts_of w.group ps) s ≡ Some rows) (sym grown.same)
    (ordered_stays w.group (known_by w before m) grown.rest s rows e)

module _ (w : Setup) (connected : ℕ → Bool) (v : ℕ) (plan : Plan) (beginning middle first second third : List Entry)
    (live : is_live w.group ≡ true)
    (sound : IsSound w (((middle ++ first) ++ second) ++ third)) (are : AreConnected w connected)
    (fair_one : IsRound w connected middle first) (fair_two : IsRound w connected (middle ++ first) second)
    (fair_three : IsRound w connected ((middle ++ first) ++ second) third)
    (led : IsLed w connected v plan beginning (((middle ++ first) ++ second) ++ third)) (begun : Begins beginning middle) where
  abbrev one : List Entry
  one = middle ++ first

  abbrev two : List Entry
  two = one ++ second

  abbrev three : List Entry
  three = two ++ third

  begun_one : Begins beginning one
  begun_one = begins_through begun (begins_append middle first)

  begun_two : Begins beginning two
  begun_two = begins_through begun_one (begins_append one second)

  sound_two : IsSound w two
  sound_two = sound_before w two third sound

  sound_one : IsSound w one
  sound_one = sound_before w one second sound_two

  led_two : IsLed w connected v plan beginning two
  led_two = led_before w connected v plan beginning two third begun_two led

  led_one : IsLed w connected v plan beginning one
  led_one = led_before w connected v plan beginning one second begun_one led_two

  led_middle : IsLed w connected v plan beginning middle
  led_middle = led_before w connected v plan beginning middle first begun led_one

  sound_middle : IsSound w middle
  sound_middle = sound_before w middle first sound_one

  module _ (t : ℕ) (rows : List (List ℕ)) (is : IsOffer w v plan middle t rows)
      (low : (m : ℕ) → connected m ≡ true → t ≤ stable w.group (facts_of w.group (known_by w middle m)) + window) where
    in_two : IsOffer w v plan two t rows
    in_two = offer_begun w v plan t rows (begins_through (begins_append middle first) (begins_append one second)) is

    in_three : IsOffer w v plan three t rows
    in_three = offer_begun w v plan t rows (begins_append two third) in_two

    prepare_said : (m : ℕ) → connected m ≡ true → HasSaid one m (body.Prepare record {
      v = v;
      s = t;
      digest = digest_of_rows rows;
    })
    prepare_said m is_m =
        let window_then : t ≤ stable w.group (facts_of w.group (known_by w middle m)) + window = low m is_m in
        let risen : stable w.group (facts_of w.group (known_by w middle m)) ≤
        stable w.group (facts_of w.group (known_by w (middle ++ first) m)) = stable_later w m middle one (begins_append middle first)
        in
        offer_is_prepared w connected v plan beginning middle first live sound_one are fair_one led_one begun t rows is m is_m
        (omega arith)

    -- the rows are known after the first round, and later on
    rows_there : (m : ℕ) → connected m ≡ true → (more : List Entry) →
        IsIn rows (rows_known (facts_of w.group (known_by w ((middle ++ first) ++ more) m)))
    rows_there m is_m more =
        let later : List (Signed Body) = known_by w ((middle ++ first) ++ more) m in
        elim is.1 [
          | inl planned ↦
              let grown : Begins (known_by w beginning m) (known_by w ((middle ++ first) ++ more) m) = known_grows w
              ((middle ++ first) ++ more) beginning m (begins_through begun_one (begins_append (middle ++ first) more)) in
              plan_rows_known (facts_of w.group later) v (t - plan.base - 1) plan rows
              (plan_kept w.group (known_by w beginning m) later v plan grown (led.planned m is_m)) planned.1
          | inr beyond ↦
              let is_it : IsProposed w v middle t rows = beyond.1 in
              let knows : KnowsWord (known_by w (middle ++ first) m) (leader_of w.group v) (body.PrePrepare is_it.word) =
              words_arrive w connected middle first sound_one.legal are fair_one (leader_of w.group v) m led.leader is_m
              (body.PrePrepare is_it.word) is_it.said (proposal_sent w.group m (leader_of w.group v) is_it.word) in
              let grown : Begins (known_by w (middle ++ first) m) (known_by w ((middle ++ first) ++ more) m) = known_grows w
              ((middle ++ first) ++ more) (middle ++ first) m (begins_append (middle ++ first) more) in
              subst (λ (x : List (List ℕ)). IsIn x (rows_known (facts_of w.group later))) (sym is_it.are)
              (rows_told (facts_of w.group later) is_it.word.v is_it.word.s (rows_of_frames w.group is_it.word.frames)
              (told_proposal w.group later knows.part is_it.word (in_more grown knows.among) knows.word))
        ]

    commit_said : (m : ℕ) → connected m ≡ true → HasSaid two m (body.Commit record {
      v = v;
      s = t;
      digest = digest_of_rows rows;
    })
    commit_said m is_m =
        let known : List (Signed Body) = known_by w two m in
        let above : plan.base < t = is.0 in
        let all_prepared : prepared w.group (facts_of w.group known) v t ≡ Some rows =
        prepared_there w.group (facts_of w.group known) v t rows (rows_there m is_m second)
        (prepares_arrive w connected one second sound_two.legal are fair_two v t (digest_of_rows rows) prepare_said m is_m)
        (λ x e. offer_same w connected v plan beginning two live sound_two are led_two t x rows
        (prepared_offer w connected v plan beginning two live sound_two are led_two m is_m known (known_of_within (heard w two m))
        t x e) in_two) in
        let window_then : t ≤ stable w.group (facts_of w.group (known_by w middle m)) + window = low m is_m in
        let risen : stable w.group (facts_of w.group (known_by w middle m)) ≤
        stable w.group (facts_of w.group (known_by w ((middle ++ first) ++ second) m)) = stable_later w m middle two
        (begins_through (begins_append middle first) (begins_append one second)) in
        prepared_is_committed w two two m v t rows live sound_two.legal record { rest = []; same = sym (append-nil two) }
        (are.correct m is_m) (led_two.leaves m is_m) (led_two.stayed m is_m) all_prepared (omega (arith, above))
        (omega (arith, window_then, risen))

    -- ordered after the third round
    pub number_ordered : (m : ℕ) → connected m ≡ true →
        ordered w.group (facts_of w.group (known_by w (((middle ++ first) ++ second) ++ third) m)) t ≡ Some rows
    number_ordered m is_m =
        let known : List (Signed Body) = known_by w three m in
        let facts : List OrderFact = facts_of w.group known in
        let digest : List ℕ = digest_of_rows rows in
        let voted = commits_arrive w connected two third sound.legal are fair_three v t digest commit_said m is_m in
        let word : Commit = record { v = v; s = t; digest = digest } in
        let own_word : KnowsWord (known_by w (((middle ++ first) ++ second) ++ third) m) m (body.Commit word) =
        words_arrive w connected two third sound.legal are fair_three m m is_m is_m (body.Commit word) (commit_said m is_m)
        (inl refl) in
        ordered_there w.group facts t rows
        (subst (λ (xs : List Entry). IsIn rows (rows_known (facts_of w.group (known_by w xs m))))
        (sym (append_assoc one second third)) (rows_there m is_m (second ++ third)))
        (any_in (λ x. is_voted w.group (commit_by x t digest) facts)
        (commit_view_there facts record { signer = own_word.part.signer; body = word; sig = own_word.part.sig } v t digest
        (told_commit w.group known own_word.part word own_word.among own_word.word) refl) voted)
        (λ x e. offer_same w connected v plan beginning three live sound are led t x rows
        (ordered_offer w connected v plan beginning three live sound are led m is_m known (known_of_within (heard w three m)) t x
        is.0 e) in_three)

  pub numbers_ordered : (s : ℕ) (rows : List (List ℕ)) → IsOffer w v plan middle s rows
      → ((m : ℕ) → connected m ≡ true → s ≤ stable w.group (facts_of w.group (known_by w middle m)) + window)
      → s ≤ most_number → (m : ℕ) → connected m ≡ true
      → s ≤ gapless w.group (facts_of w.group (known_by w (((middle ++ first) ++ second) ++ third) m))
  unfolding ordered_run
  numbers_ordered s rows is low most m is_m =
      run_reaches (ordered w.group (facts_of w.group (known_by w three m))) 1 most_number s most (λ t above below.
      elim (cases_lt plan.base t) [
        | inl beyond ↦
            let under = offer_lower w connected v plan beginning middle live sound_middle are led_middle s rows is t beyond
            (omega arith) in (
              under.0,
              number_ordered t under.0 under.1 (λ i is_i.
                  let high : s ≤ stable w.group (facts_of w.group (known_by w middle i)) + window = low i is_i in
                  omega (arith, high, below)) m is_m,
            )
        | inr within ↦
            let base : plan.base ≤ gapless w.group (facts_of w.group (known_by w beginning m)) = led.based m is_m in
            let was = ordered_upto w.group (facts_of w.group (known_by w beginning m)) t above (omega (arith, within, base)) in
            (was.0, ordered_kept w m beginning three led.begins t was.0 was.1)
      ])

pub offer_is_ordered : OfferIsOrdered
offer_is_ordered w connected v plan beginning middle first second third live sound are fair led begun s rows is low m is_m = (
  number_ordered w connected v plan beginning middle first second third live sound are fair.0 fair.1.0 fair.1.1.0 led begun s rows
      is low m is_m,
  λ most. numbers_ordered w connected v plan beginning middle first second third live sound are fair.0 fair.1.0 fair.1.1.0 led
      begun s rows is low most m is_m,
)
