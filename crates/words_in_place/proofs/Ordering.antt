-- Words of the global order that a master says: their numbers and views are within the limits, and their votes a
-- quorum's.
use Rattle.std.proofs.Common.{◌≡◌, ℕ, ◌+◌, ◌-◌, ◌%◌, ◌<◌, ◌≤◌, Bool, true, ◌&&◌, not, List, [], ◌∷◌, Option, Some, None}
use Rattle.std.proofs.Common.{length, length-take-le, min, nat_eq, nat_le, refl, subst, arith}
use Rattle.std.specs.List.{list_all, list_any, find}
use Rattle.std.specs.Str.{bytes_eq}
use Rattle.std.proofs.lemmas.Bool.{and_from, and_parts, leb-true, ltb-true, eq-eqb, eqb-true}
use Rattle.plain_lists.specs.Lists.{IsIn, Within, Each}
use Rattle.plain_lists.proofs.Members.{each_none, each_one, each_if, each_map, each_flat_map, in_filter, in_filter_from, in_filter_map, in_filter_map_from, in_take, find_some, any_from, none_some}
use Rattle.protocol_rules.proofs.FirstMet.{first_met_from}
use Rattle.message_types.specs.declared.signed.Signed.{Signed}
use Rattle.message_types.specs.declared.ordering.Mark.{Mark}
use Rattle.message_types.specs.declared.body.Body.{Body}
use Rattle.message_types.specs.declared.body.Body.TheVariants as body
use Rattle.message_types.specs.Digests.{digest_of_rows}
use Rattle.protocol_rules.specs.declared.facts.OrderFact.{OrderFact}
use Rattle.protocol_rules.specs.declared.facts.OrderFact.TheVariants as fact
use Rattle.protocol_rules.specs.Words.{numbers_from, greatest_of}
use Rattle.protocol_rules.specs.Group.{Group, most_number, mark_step}
use Rattle.protocol_rules.specs.Places.{word_in_place, is_view, is_number}
use Rattle.protocol_rules.specs.Facts.{rows_known}
use Rattle.protocol_rules.specs.Matrix.{latest_frames}
use Rattle.protocol_rules.specs.Order.{prepared, ordered, ordered_run, gapless, offered, is_voted, first_votes}
use Rattle.protocol_rules.specs.Order.{quorum_of, prepare_by, commit_by, mark_by, commit_views, plan_known}
use Rattle.protocol_rules.specs.Order.{prepares_said, prepare_due, prepares_due, commits_said, commit_due}
use Rattle.protocol_rules.specs.Order.{commits_due, mark_due, marks_due, in_window}
use Rattle.protocol_rules.specs.Worth.{is_worth, worthy_prepares_due}
use Rattle.protocol_rules.specs.Views.{view}
use Rattle.protocol_rules.specs.Reconcile.{ask_order_due, asks_for_order, orders_given, committed_views}
use Rattle.protocol_rules.specs.Reconcile.{give_ordered_due, gives_ordered_due, order_gift}
use Rattle.protocol_rules.specs.Lacking.{wanted_to, numbers_lacking, order_asks_due}
use Rattle.protocol_rules.specs.Master.{gap_of, next_number, preprepares_due, whole_preprepares_due}
use Rattle.agreement.proofs.SpokenByKind.{each_elim, if_some}
use Rattle.agreement.proofs.FramesInside.{vote_from, prepare_by_from, commit_by_from}
use Rattle.agreement.proofs.LearnedInPlace.{ordered_from}
use Rattle.agreement.proofs.QuorumsStay.{voted_more}
use Rattle.words_in_place.proofs.Limits.{all_from, same_bytes, number_from, from_bounds, number_in, greatest_in}
use Rattle.words_in_place.proofs.Limits.{one_of}
use Rattle.words_in_place.proofs.Facts.{FactPlaced, ordered_placed, offered_placed}
use Rattle.protocol_rules.proofs.Numbers.{length-run_from}

-- the word is in its place in the master's name
abbrev pub WordPlaced : Group → ℕ → Body → Type 0
WordPlaced g me b = word_in_place g me b ≡ true

-- a quorum is exactly q votes, each of them a vote
pub quorum_exact : {X : Type 0} (g : Group) (vote : ℕ → OrderFact → Option X) (facts : List OrderFact) →
    is_voted g vote facts ≡ true → nat_eq (length (quorum_of g vote facts)) g.q ≡ true
unfolding is_voted
quorum_exact g vote facts voted =
    eq-eqb _ _ (length-take-le g.q (first_votes g vote facts) (leb-true g.q (length (first_votes g vote facts)) voted))

pub quorum_alike : {X : Type 0} (g : Group) (vote : ℕ → OrderFact → Option X) (facts : List OrderFact) (test : X → Bool)
    → ((m : ℕ) (f : OrderFact) (x : X) → vote m f ≡ Some x → test x ≡ true) →
    list_all test (quorum_of g vote facts) ≡ true
quorum_alike g vote facts test each = all_from test (quorum_of g vote facts) (λ x h.
    let found = vote_from g vote facts x (in_take g.q (first_votes g vote facts) h) in
    each found.0 found.1 x found.4)

pub prepares_alike : (g : Group) (v s : ℕ) (digest : List ℕ) (facts : List OrderFact)
    → list_all (λ p. nat_eq p.body.v v && nat_eq p.body.s s && bytes_eq p.body.digest digest)
    (quorum_of g (prepare_by v s digest) facts) ≡ true
prepares_alike g v s digest facts = quorum_alike g (prepare_by v s digest) facts _ (λ m f x e.
    let is = prepare_by_from v s digest m f x e in
    and_from _ _ (and_from _ _ (eq-eqb x.body.v v is.2) (eq-eqb x.body.s s is.3))
    (same_bytes x.body.digest digest is.4))

commits_alike : (g : Group) (v s : ℕ) (digest : List ℕ) (facts : List OrderFact)
    → list_all (λ c. nat_eq c.body.v v && nat_eq c.body.s s && bytes_eq c.body.digest digest)
    (quorum_of g (commit_by v s digest) facts) ≡ true
commits_alike g v s digest facts = quorum_alike g (commit_by v s digest) facts _ (λ m f x e.
    let is = commit_by_from v s digest m f x e in
    and_from _ _ (and_from _ _ (eq-eqb x.body.v v is.2) (eq-eqb x.body.s s is.3))
    (same_bytes x.body.digest digest is.4))

pub mark_by_at : (s m : ℕ) (x : OrderFact) (f : Signed Mark) → mark_by s m x ≡ Some f →
    (x ≡ fact.Mark f) × (f.signer ≡ m) × (f.body.s ≡ s)
mark_by_at s m (fact.Mark h) f e =
    let held = if_some (nat_eq h.signer m && nat_eq h.body.s s) e in
    let both = and_parts (nat_eq h.signer m) (nat_eq h.body.s s) held.0 in
    subst (λ (z : Signed Mark). (fact.Mark h ≡ fact.Mark z) × (z.signer ≡ m) × (z.body.s ≡ s)) held.1
    (refl, eqb-true h.signer m both.0, eqb-true h.body.s s both.1)
mark_by_at s m _ f e = absurd (none_some e)

one_more : (x : ℕ) → 1 ≤ x + 1
one_more x = omega arith

pub voted_one : {X : Type 0} (g : Group) (vote : ℕ → OrderFact → Option X) (facts : List OrderFact) → 1 ≤ g.q →
    is_voted g vote facts ≡ true → (x : X) × IsIn x (first_votes g vote facts)
unfolding is_voted
voted_one g vote facts some voted =
    let enough : g.q ≤ length (first_votes g vote facts) = leb-true g.q (length (first_votes g vote facts)) voted in
    one_of (first_votes g vote facts) (omega arith)

commit_view_more : (facts more : List OrderFact) → Within facts more → (s : ℕ) (digest : List ℕ) →
    Within (commit_views facts s digest) (commit_views more s digest)
commit_view_more facts more within s digest v h =
    let found = in_filter_map_from _ facts h in
    in_filter_map _ (within found.0 found.1) found.2

module _ (g : Group) (some : 1 ≤ g.q) (facts : List OrderFact) (placed : Each (FactPlaced g) facts) where
  -- what a quorum voted for has a view and a number within the limits
  pub voted_prepare : (v s : ℕ) (digest : List ℕ) → is_voted g (prepare_by v s digest) facts ≡ true →
      (is_view v ≡ true) × (is_number s ≡ true)
  voted_prepare v s digest voted =
      let one = voted_one g (prepare_by v s digest) facts some voted in
      let vote = vote_from g (prepare_by v s digest) facts one.0 one.1 in
      let is = prepare_by_from v s digest vote.0 vote.1 one.0 vote.4 in
      let at = subst (FactPlaced g) is.0 (placed vote.1 vote.3) in
      (subst (λ (x : ℕ). is_view x ≡ true) is.2 at.0, subst (λ (x : ℕ). is_number x ≡ true) is.3 at.1)

  voted_commit : (v s : ℕ) (digest : List ℕ) → is_voted g (commit_by v s digest) facts ≡ true → is_view v ≡ true
  voted_commit v s digest voted =
      let one = voted_one g (commit_by v s digest) facts some voted in
      let vote = vote_from g (commit_by v s digest) facts one.0 one.1 in
      let is = commit_by_from v s digest vote.0 vote.1 one.0 vote.4 in
      let at = subst (FactPlaced g) is.0 (placed vote.1 vote.3) in
      subst (λ (x : ℕ). is_view x ≡ true) is.2 at.0

  pub voted_mark : (s : ℕ) → is_voted g (mark_by s) facts ≡ true → nat_eq (s % mark_step) 0 ≡ true
  voted_mark s voted =
      let one = voted_one g (mark_by s) facts some voted in
      let vote = vote_from g (mark_by s) facts one.0 one.1 in
      let is = mark_by_at s vote.0 vote.1 one.0 vote.4 in
      let at = subst (FactPlaced g) is.0 (placed vote.1 vote.3) in
      subst (λ (x : ℕ). nat_eq (x % mark_step) 0 ≡ true) is.2 at.1

  prepared_number : (v s : ℕ) (rows : List (List ℕ)) → prepared g facts v s ≡ Some rows → is_number s ≡ true
  unfolding prepared
  prepared_number v s rows e =
      let met = first_met_from (λ beginning. find
      (λ rows. is_voted g (prepare_by v s (digest_of_rows rows)) beginning) (rows_known beginning)) [] facts e in
      let found = find_some (λ rows. is_voted g (prepare_by v s (digest_of_rows rows)) met.0)
      (rows_known met.0) met.2 in
      (voted_prepare v s (digest_of_rows rows)
      (voted_more g (prepare_by v s (digest_of_rows rows)) met.0 facts met.1 found.1)).1

  -- the highest view in which ordered rows were committed is one in which a quorum did so
  committed_last : (s : ℕ) (rows : List (List ℕ)) → ordered g facts s ≡ Some rows
      → is_voted g (commit_by (greatest_of (committed_views g facts s (digest_of_rows rows))) s (digest_of_rows rows))
      facts ≡ true
  committed_last s rows e =
      let digest : List ℕ = digest_of_rows rows in
      let met = (ordered_from g facts s rows e).1 in
      let voted = any_from (λ v. is_voted g (commit_by v s digest) met.0) (commit_views met.0 s digest) met.2 in
      let now = voted_more g (commit_by voted.0 s digest) met.0 facts met.1 voted.2 in
      let member : IsIn voted.0 (committed_views g facts s digest) =
      in_filter (λ v. is_voted g (commit_by v s digest) facts)
      (commit_view_more met.0 facts met.1 s digest voted.0 voted.1) now in
      (in_filter_from (λ v. is_voted g (commit_by v s digest) facts) (commit_views facts s digest)
      (greatest_in (committed_views g facts s digest) member)).1

  gap_number : (s : ℕ) → gap_of g facts ≡ Some s → is_number s ≡ true
  gap_number s e =
      let held = if_some _ e in
      let found = any_from _ (numbers_from 1 most_number) held.0 in
      let bounds = from_bounds 1 most_number found.0 found.1 in
      let below : found.0 < 1 + most_number = bounds.1 in
      let less : gapless g facts + 1 < found.0 = ltb-true (gapless g facts + 1) found.0 (and_parts _ _ found.2).0 in
      subst (λ (x : ℕ). is_number x ≡ true) held.1
      (number_from (gapless g facts + 1) (one_more (gapless g facts)) (omega arith))

  module _ (me : ℕ) (said : List Body) (v : ℕ) (within : is_view v ≡ true) where
    prepare_placed : (s : ℕ) → Each (WordPlaced g me) (prepare_due facts said v s)
    prepare_placed s =
        each_if (WordPlaced g me) (list_any (prepares_said v s) said) [] _ (λ _. each_none (WordPlaced g me)) (λ _.
        each_elim (WordPlaced g me) (offered facts v s) _ (λ rows e.
        each_one (WordPlaced g me) (body.Prepare record { v = v; s = s; digest = digest_of_rows rows })
        (and_from _ _ within (offered_placed g facts placed v s rows e).1)))

    pub prepares_placed : (opened : Bool) → Each (WordPlaced g me) (prepares_due g facts said v opened)
    prepares_placed opened = each_if (WordPlaced g me) opened _ []
        (λ _. each_flat_map (WordPlaced g me) (prepare_due facts said v) (in_window g facts) (λ s _. prepare_placed s))
        (λ _. each_none (WordPlaced g me))

    pub worthy_prepares_placed : (opened : Bool) →
        Each (WordPlaced g me) (worthy_prepares_due g facts said v opened)
    worthy_prepares_placed opened = each_if (WordPlaced g me) opened _ []
        (λ _. each_flat_map (WordPlaced g me) _ (in_window g facts) (λ s _.
        each_if (WordPlaced g me) (is_worth g facts v s) _ [] (λ _. prepare_placed s)
        (λ _. each_none (WordPlaced g me))))
        (λ _. each_none (WordPlaced g me))

    pub commits_placed : Each (WordPlaced g me) (commits_due g facts said v)
    commits_placed = each_flat_map (WordPlaced g me) (commit_due g facts said v) (in_window g facts) (λ s _.
        each_if (WordPlaced g me) (list_any (commits_said v s) said) [] _ (λ _. each_none (WordPlaced g me)) (λ _.
        each_elim (WordPlaced g me) (prepared g facts v s) _ (λ rows e.
        each_one (WordPlaced g me) (body.Commit record { v = v; s = s; digest = digest_of_rows rows })
        (and_from _ _ within (prepared_number v s rows e)))))

  module _ (me : ℕ) (said : List Body) where
    pub marks_placed : Each (WordPlaced g me) (marks_due g facts said)
    unfolding ordered_run
    marks_placed = each_flat_map (WordPlaced g me) (mark_due said) (numbers_from 1 (gapless g facts)) (λ s h.
        each_if (WordPlaced g me) _ _ [] (λ holds. each_one (WordPlaced g me) (body.Mark record { s = s })
        (and_from _ _ (number_in (gapless g facts) s (length-run_from (ordered g facts) 1 most_number) h)
        (and_parts _ _ holds).0)) (λ _. each_none (WordPlaced g me)))

    pub preprepares_placed : (known : List (Signed Body)) → is_view (view g known) ≡ true → (at_tick : Bool) →
        Each (WordPlaced g me) (preprepares_due g me known facts said at_tick)
    preprepares_placed known within at_tick = each_elim (WordPlaced g me) (plan_known facts (view g known)) _ (λ plan _.
        each_if (WordPlaced g me) _ _ [] (λ holds.
        let small = and_parts _ _ (and_parts _ _ (and_parts _ _ holds).0).0 in
        let leads = and_parts _ _ (and_parts _ _ small.0).0 in
        let s : ℕ = next_number said (view g known) plan in
        each_one (WordPlaced g me)
        (body.PrePrepare record {
          v = view g known;
          s = next_number said (view g known) plan;
          frames = latest_frames g known;
        })
        (and_from _ _ (and_from _ _ within (number_from s (one_more _) (leb-true s most_number small.1))) leads.1))
        (λ _. each_none (WordPlaced g me)))

    pub whole_preprepares_placed : (known : List (Signed Body)) → is_view (view g known) ≡ true → (at_tick : Bool) →
        Each (WordPlaced g me) (whole_preprepares_due g me known facts said at_tick)
    whole_preprepares_placed known within at_tick = each_elim (WordPlaced g me) (plan_known facts (view g known)) _
        (λ plan _. each_if (WordPlaced g me) (nat_le plan.base (gapless g facts)) _ []
        (λ _. preprepares_placed known within at_tick) (λ _. each_none (WordPlaced g me)))

    pub ask_order_placed : (at_tick : Bool) → Each (WordPlaced g me) (ask_order_due said at_tick (gap_of g facts))
    ask_order_placed at_tick = by_gap (gap_of g facts) gap_number
      where
        by_gap : (o : Option ℕ) → ((s : ℕ) → o ≡ Some s → is_number s ≡ true) →
            Each (WordPlaced g me) (ask_order_due said at_tick o)
        by_gap None bound = each_none (WordPlaced g me)
        by_gap (Some s) bound = each_if (WordPlaced g me) _ _ []
            (λ _. each_one (WordPlaced g me) (body.AskOrder record { s = s }) (bound s refl))
            (λ _. each_none (WordPlaced g me))

    -- what is given of a number: its rows, and the commits of a view's quorum
    abbrev given : ℕ → List (List ℕ) → ℕ → Body
    given s rows v = body.GiveOrdered record {
      s = s;
      v = v;
      rows = rows;
      commits =
          quorum_of g (commit_by v s (digest_of_rows rows)) facts;
    }

    given_placed : (s : ℕ) → is_number s ≡ true → (rows : List (List ℕ)) →
        ordered g facts s ≡ Some rows → (v : ℕ) → is_voted g (commit_by v s (digest_of_rows rows)) facts ≡ true
        → WordPlaced g me (given s rows v)
    given_placed s number rows e v voted =
        and_from _ _ (and_from _ _
        (and_from _ _ (and_from _ _ number
        (voted_commit v s (digest_of_rows rows) voted))
        (ordered_placed g facts placed s rows e))
        (quorum_exact g (commit_by v s (digest_of_rows rows)) facts voted))
        (commits_alike g v s (digest_of_rows rows) facts)

    pub order_gift_placed : (s : ℕ) → is_number s ≡ true → Each (WordPlaced g me) (order_gift g facts s)
    order_gift_placed s number = each_elim (WordPlaced g me) (ordered g facts s)
        (λ rows. given s rows (greatest_of (committed_views g facts s (digest_of_rows rows))) ∷ []) (λ rows e.
        let v : ℕ = greatest_of (committed_views g facts s (digest_of_rows rows)) in
        each_one (WordPlaced g me) (given s rows v) (given_placed s number rows e v (committed_last s rows e)))

    pub gives_ordered_placed : (known : List (Signed Body)) →
        Each (WordPlaced g me) (gives_ordered_due g me known facts said)
    gives_ordered_placed known = each_flat_map (WordPlaced g me) (give_ordered_due g me known facts said)
        (numbers_from 1 most_number) (λ s h.
        each_if (WordPlaced g me) (list_any (asks_for_order me s) known && not (list_any (orders_given s) said))
        _ [] (λ _. order_gift_placed s (number_in most_number s (omega arith) h)) (λ _. each_none (WordPlaced g me)))

    pub order_asks_placed : (v : ℕ) (opened : Bool) (waiting now : ℕ) (at_tick : Bool) →
        Each (WordPlaced g me) (order_asks_due g facts said v opened waiting now at_tick)
    order_asks_placed v opened waiting now at_tick = each_if (WordPlaced g me) at_tick _ [] (λ _.
        each_map (WordPlaced g me) _ _ (λ s h.
        let to : ℕ = min 64 (min (wanted_to g facts said v opened waiting now) most_number - gapless g facts) in
        let lacking = (in_filter_from _ (numbers_lacking g facts said v opened waiting now) h).0 in
        let within = (in_filter_from _ (numbers_from (gapless g facts + 1) to) lacking).0 in
        let bounds = from_bounds (gapless g facts + 1) to s within in
        let low : gapless g facts + 1 ≤ s = bounds.0 in
        let high : s < gapless g facts + 1 + to = bounds.1 in
        number_from s (omega arith) (omega arith))) (λ _. each_none (WordPlaced g me))
