-- A view in which no connected master comes to the end of its patience is kept: the others are at most f + k, so each quorum
-- of votes, each f + k + 1 votes that one goes along with, and each quorum of reports that opens a view has one of a connected
-- master; and of these none votes first.
use Rattle.std.proofs.Common.{◌≡◌, ℕ, ◌+◌, ◌*◌, ◌<◌, ◌≤◌, Bool, true, false, cond, ◌&&◌, List, [], ◌∷◌, ◌++◌, Some, None}
use Rattle.std.proofs.Common.{filter, length, min, nat_eq, nat_lt, nat_le, refl, sym, ◌∙◌, ap, subst, inl, inr, ◌⊎◌, arith}
use Rattle.std.proofs.Common.{append_assoc, append-nil, eqb-true}
use Rattle.std.proofs.lemmas.Bool.{false≢true, and_parts, cases_Bool, cases_lt, leb-true, false_from_ne_true}
use Rattle.std.proofs.lemmas.List.{length-map}
use Rattle.std.specs.List.{list_any}
use Rattle.plain_lists.specs.Lists.{IsIn, here, Within, Each}
use Rattle.plain_lists.proofs.Members.{each_map, in_filter, in_filter_from, in_flat_map, in_map_from, any_from}
use Rattle.quorum_sets.specs.Masters.{voters, has_master}
use Rattle.quorum_sets.specs.Quorum.{has_quorum}
use Rattle.quorum_sets.proofs.MastersLemmas.{voters_meet, voters_none}
use Rattle.message_types.specs.declared.signed.Signed.{Signed}
use Rattle.message_types.specs.declared.measures.Suspect.{Suspect}
use Rattle.message_types.specs.declared.views.Report.{Report}
use Rattle.message_types.specs.declared.views.NewView.{NewView}
use Rattle.message_types.specs.declared.body.Body.{Body}
use Rattle.message_types.specs.declared.body.Body.TheVariants as body
use Rattle.message_types.specs.Parts.{inside, inside_report, as_frame}
use Rattle.message_types.specs.Spelling.{signers_of}
use Rattle.protocol_rules.specs.Words.{numbers_from}
use Rattle.protocol_rules.specs.Group.{Group, is_live, most_view}
use Rattle.protocol_rules.specs.Measures.{ticks_of}
use Rattle.protocol_rules.specs.Patience.{patience, vote_of, voted_to, voted_by_more, votes_to, is_vote_due, votes_due}
use Rattle.protocol_rules.specs.Views.{view, view_shown, is_suspect, is_suspected}
use Rattle.protocol_rules.specs.Master.{said_before}
use Rattle.protocol_rules.proofs.Greatest.{or_zero}
use Rattle.protocol_rules.proofs.Numbers.{from_below}
use Rattle.history_rules.specs.Events.{Entry, frame_taken, is_tick, is_silent}
use Rattle.history_rules.specs.Setup.{Setup, is_correct_master}
use Rattle.history_rules.specs.Legal.{Stands, IsLegal, heard}
use Rattle.history_rules.specs.Audit.{HasSaid, NothingForged}
use Rattle.agreement.specs.Laws.{HasSizes, known_by}
use Rattle.agreement.proofs.QuorumsMeet.{voter_beyond, rising_counts}
use Rattle.agreement.proofs.Places.{by_growth, heads_same, tails_same, stands_last, legal_before, unforged_before, whole_upto}
use Rattle.agreement.proofs.KnownAsItGrows.{learned_by, known_then, known_then_from, known_learned, correct_said}
use Rattle.agreement.proofs.FramesInside.{Closed}
use Rattle.agreement.proofs.LearnedWasSaid.{known_closed, learned_closed, said_due, learned_said}
use Rattle.agreement.proofs.LearnedInPlace.{GoodFrame, Good, learned_good}
use Rattle.agreement.proofs.QuorumsStay.{each_below}
use Rattle.agreement.proofs.RequestsAgree.{known_in}
use Rattle.words_by_part.specs.Kinds.{is_of, measuring}
use Rattle.words_by_part.specs.Laws.{told_at, moments_at, waiting_at}
use Rattle.words_by_part.proofs.Answering.{answers_by_live_part}
use Rattle.progress.specs.Rounds.{AreConnected}
use Rattle.progress.specs.Serving.{ArePatient, UnvotedIsKept, PatientIsKept, ServedIsKept}
use Rattle.progress.proofs.Arriving.{known_upto}
use Rattle.progress.proofs.Certifying.{correct_too}
use Rattle.progress.proofs.InOrder.{nil_place, append_place}
use Rattle.progress.proofs.Leaving.{voted_many}
use Rattle.progress.proofs.Impatient.{impatient_then, tick_is, served_are_patient}

-- Among more than f + k masters there is a connected one.
pub connected_among : (g : Group) (connected test : ℕ → Bool) → HasSizes g → g.q ≤ length (voters connected g.n) →
    g.f + g.k < length (voters test g.n) → (m : ℕ) × (connected m ≡ true) × (test m ≡ true)
connected_among g connected test sizes enough many =
    let all : g.n ≡ 3 * g.f + 2 * g.k + 1 = sizes.all in
    let quorum : g.q ≡ 2 * g.f + g.k + 1 = sizes.quorum in
    let both : length (voters connected g.n) + length (voters test g.n) ≤ g.n
    + length (voters (λ x. connected x && test x) g.n) = voters_meet connected test g.n in
    let none : length (voters (λ _. false) g.n) ≡ 0 = ap length (voters_none g.n) in
    let found = voter_beyond (λ x. connected x && test x) (λ _. false) g.n (omega (arith, all, quorum, both, none, enough, many)) in
    let parts = and_parts (connected found.0) (test found.0) found.2 in
    (found.0, parts.0, parts.1)

suspect_word : (u m signer : ℕ) (word : Body) (sig : List ℕ) → is_suspect u m record { signer = signer; body = word; sig = sig }
    ≡ true → (signer ≡ m) × (word ≡ body.Suspect record { v = u })
suspect_word u m signer (body.Suspect b) sig e =
    let both = and_parts (nat_eq signer m) (nat_eq b.v u) e in
    let is : b.v ≡ u = eqb-true b.v u both.1 in
    (eqb-true signer m both.0, λ i. body.Suspect record { v = is i })
suspect_word u m signer _ sig e = absurd (false≢true e)

-- a quorum's votes have one of a connected master among them
suspected_by : (w : Setup) (connected : ℕ → Bool) → HasSizes w.group → AreConnected w connected → (known : List (Signed Body))
    (u : ℕ) → is_suspected w.group known u ≡ true → (p : Signed Body) × IsIn p known × (connected p.signer ≡ true)
    × (p.body ≡ body.Suspect record { v = u })
unfolding has_quorum
suspected_by w connected sizes are known u e =
    let enough : w.group.q ≤ length (voters (λ m. list_any (is_suspect u m) known) w.group.n) =
    leb-true w.group.q (length (voters (λ m. list_any (is_suspect u m) known) w.group.n)) e in
    let quorum : w.group.q ≡ 2 * w.group.f + w.group.k + 1 = sizes.quorum in
    let found = connected_among w.group connected (λ m. list_any (is_suspect u m) known) sizes are.enough
    (omega (arith, enough, quorum)) in
    let vote = any_from (is_suspect u found.0) known found.2 in
    let is = suspect_word u found.0 vote.0.signer vote.0.body vote.0.sig vote.2 in
    (vote.0, vote.1, ap connected is.0 ∙ found.1, is.1)

pub unvoted_is_kept : UnvotedIsKept
unvoted_is_kept w connected history legal sizes unforged are v none m correct =
    false_from_ne_true (is_suspected w.group (known_by w history m) v) (λ suspected.
    let vote = suspected_by w connected sizes are (known_by w history m) v suspected in
    none vote.0.signer vote.2 (subst (λ (b : Body). HasSaid history vote.0.signer b) vote.3
    (learned_said w m history legal unforged correct vote.0
    (known_in w history history m record { rest = []; same = sym (append-nil history) } vote.0 vote.1)
    (correct_too w vote.0.signer (are.correct vote.0.signer vote.2)))))

-- What follows from words known, where the connected masters' votes among them are against views below v, and their reports
-- are of none above v.
module _ (w : Setup) (connected : ℕ → Bool) (v : ℕ) (sizes : HasSizes w.group) (are : AreConnected w connected)
    (known learned : List (Signed Body)) (within : Within known learned) (closed : Closed learned)
    (good : Each (GoodFrame w.group) learned)
    (votes_low : (p : Signed Body) → IsIn p learned → connected p.signer ≡ true → (u : ℕ) →
    p.body ≡ body.Suspect record { v = u } → u < v)
    (reports_low : (p : Signed Body) → IsIn p learned → connected p.signer ≡ true → (r : Report) →
    p.body ≡ body.Report r → r.v ≤ v) where
  -- a view that is opened
  opened_low : (p : Signed Body) → IsIn p known → (b : NewView) → p.body ≡ body.NewView b → b.v ≤ v
  opened_low p h b is =
      let placed : Good w.group (body.NewView b) = subst (λ (x : Body). Good w.group x) is (good p (within p h)).1 in
      let there_is : (r : Signed Report) → IsIn r b.reports → IsIn (as_frame body.Report r) learned = λ r k.
      closed p (as_frame body.Report r) (within p h)
      (subst (λ (x : Body). IsIn (as_frame body.Report r) (inside x)) (sym is)
      (in_flat_map (λ (f : Signed Report). as_frame body.Report f ∷ inside_report f.body) k (here (inside_report r.body)))) in
      let below : Each (λ x. x < w.group.n) (signers_of b.reports) = each_map (λ x. x < w.group.n) (λ f. f.signer) b.reports
      (λ r k. (good (as_frame body.Report r) (there_is r k)).0) in
      let count : length (signers_of b.reports) ≤ length (voters (has_master (signers_of b.reports)) w.group.n) =
      rising_counts (signers_of b.reports) w.group.n placed.1 below in
      let same : length (signers_of b.reports) ≡ length b.reports = length-map b.reports (λ f. f.signer) in
      let many : w.group.q ≤ length b.reports = placed.2 in
      let quorum : w.group.q ≡ 2 * w.group.f + w.group.k + 1 = sizes.quorum in
      let found = connected_among w.group connected (has_master (signers_of b.reports)) sizes are.enough
      (omega (arith, count, same, many, quorum)) in
      let signer = any_from (λ y. nat_eq y found.0) (signers_of b.reports) found.2 in
      let frame = in_map_from (λ (f : Signed Report). f.signer) b.reports signer.1 in
      let by : frame.0.signer ≡ found.0 = sym frame.2 ∙ eqb-true signer.0 found.0 signer.2 in
      let low : frame.0.body.v ≤ v = reports_low (as_frame body.Report frame.0) (there_is frame.0 frame.1)
      (ap connected by ∙ found.1) frame.0.body refl in
      let of_view : frame.0.body.v ≡ b.v = placed.3 frame.0 frame.1 in
      omega (arith, low, of_view)

  shown_low : (signer : ℕ) (word : Body) (sig : List ℕ) → IsIn record { signer = signer; body = word; sig = sig } known →
      or_zero (view_shown w.group known record { signer = signer; body = word; sig = sig }) ≤ v
  shown_low signer (body.Suspect b) sig h = by (is_suspected w.group known b.v) refl
    where
      by : (c : Bool) → is_suspected w.group known b.v ≡ c → or_zero (cond c (Some (b.v + 1)) None) ≤ v
      by true is =
          let vote = suspected_by w connected sizes are known b.v is in
          let low : b.v < v = votes_low vote.0 (within vote.0 vote.1) vote.2 b.v vote.3 in
          omega (arith, low)
      by false is = omega arith
  shown_low signer (body.NewView b) sig h = opened_low record { signer = signer; body = body.NewView b; sig = sig } h b refl
  shown_low signer _ sig h = omega arith

  view_low : view w.group known ≤ v
  unfolding view
  view_low = each_below (view_shown w.group known) v known (λ p h. shown_low p.signer p.body p.sig h)

  vote_low : (m : ℕ) → connected m ≡ true → (signer : ℕ) (word : Body) (sig : List ℕ) →
      IsIn record { signer = signer; body = word; sig = sig } known →
      or_zero (vote_of m record { signer = signer; body = word; sig = sig }) ≤ v
  vote_low m is_m signer (body.Suspect b) sig h = by (nat_eq signer m) refl
    where
      by : (c : Bool) → nat_eq signer m ≡ c → or_zero (cond c (Some (b.v + 1)) None) ≤ v
      by true is =
          let low : b.v < v = votes_low record { signer = signer; body = body.Suspect b; sig = sig } (within _ h)
          (ap connected (eqb-true signer m is) ∙ is_m) b.v refl in
          omega (arith, low)
      by false is = omega arith
  vote_low m is_m signer _ sig h = omega arith

  voted_low : voted_by_more w.group known (w.group.f + w.group.k) ≤ v
  voted_low = elim (cases_lt v (voted_by_more w.group known (w.group.f + w.group.k))) [
    | inr low ↦ low
    | inl above ↦
        let found = connected_among w.group connected (λ m. nat_le (v + 1) (voted_to known m)) sizes are.enough
        (voted_many w.group known (w.group.f + w.group.k) (v + 1) (omega arith) (omega (arith, above))) in
        let far : v + 1 ≤ voted_to known found.0 = leb-true (v + 1) (voted_to known found.0) found.2 in
        let low : voted_to known found.0 ≤ v = each_below (vote_of found.0) v known
        (λ p h. vote_low found.0 found.1 p.signer p.body p.sig h) in
        absurd (omega (arith, far, low))
  ]

suspect_same : {a b : Suspect} → body.Suspect a ≡ body.Suspect b → a ≡ b
suspect_same e = cc

-- A vote that is due is against a view below v, where the present one, and what so many voted against, is no higher than v
-- and patience with v isn't at its end.
low_below : (g : Group) (known : List (Signed Body)) (x v : ℕ) (b : Bool) → view g known ≤ v →
    voted_by_more g known (g.f + g.k) ≤ v → (view g known ≡ v → b ≡ false)
    → x < 0 + min (votes_to g known (view g known) b) most_view → x < v
low_below g known x v false low far patient less = omega (arith, less, low, far)
low_below g known x v true low far patient less = elim (cases_lt (view g known) v) [
  | inl lower ↦ omega (arith, less, lower, far)
  | inr high ↦ absurd (false≢true (sym (patient (omega (arith, low, high)))))
]

due_low : (g : Group) (known : List (Signed Body)) (said : List Body) (waiting now u v : ℕ) (at_tick : Bool) →
    view g known ≤ v → voted_by_more g known (g.f + g.k) ≤ v
    → (view g known ≡ v → (at_tick && nat_lt (patience g (view g known) now) waiting) ≡ false)
    → IsIn (body.Suspect record { v = u }) (votes_due g known said (view g known) waiting now at_tick) → u < v
due_low g known said waiting now u v at_tick low far patient h =
    let impatient : Bool = at_tick && nat_lt (patience g (view g known) now) waiting in
    let numbers : List ℕ = numbers_from 0 (min (votes_to g known (view g known) impatient) most_view) in
    let found = in_map_from (λ (x : ℕ). body.Suspect record { v = x })
    (filter (is_vote_due said now (view g known) impatient) numbers) h in
    let same : u ≡ found.0 = ap (λ (s : Suspect). s.v) (suspect_same found.2) in
    let less : found.0 < v = low_below g known found.0 v impatient low far patient
    (from_below 0 (min (votes_to g known (view g known) impatient) most_view) found.0
    (in_filter_from (is_vote_due said now (view g known) impatient) numbers found.1).0) in
    omega (arith, same, less)

one_is : {X : Type 0} (x h : X) (more r : List X) → x ∷ [] ≡ more ++ h ∷ r → x ≡ h
one_is x h [] r e = heads_same e
one_is x h (z ∷ more) r e = absurd (nil_place more h r (tails_same e))

-- what was said once a history has one entry more: said before, or at that entry
said_or : (before : List Entry) (e : Entry) (m : ℕ) (b : Body) → HasSaid (before ++ e ∷ []) m b →
    HasSaid before m b ⊎ ((e.actor ≡ m) × IsIn b e.said)
said_or before e m b said = elim (append_place before (e ∷ []) said.before said.place.after said.entry said.place.whole) [
  | inl earlier ↦ inl record {
    before = said.before;
    entry = said.entry;
    place = record { after = earlier.0; whole = earlier.1 };
    by = said.by;
    among = said.among;
  }
  | inr now ↦
      let same : e ≡ said.entry = one_is e said.entry now.0 said.place.after now.2 in inr (
        ap (λ (x : Entry). x.actor) same ∙ said.by,
        subst (λ (x : Entry). IsIn b x.said) (sym same) said.among,
      )
]

module _ (w : Setup) (connected : ℕ → Bool) (history : List Entry) (live : is_live w.group ≡ true) (legal : IsLegal w history)
    (sizes : HasSizes w.group) (unforged : NothingForged w history) (are : AreConnected w connected) (v : ℕ)
    (patient : ArePatient w connected v history) where
  -- the connected masters' votes so far are against views below v, and their reports of none above v
  abbrev IsLow : List Entry → Type 0
  IsLow before = ((m u : ℕ) → connected m ≡ true → HasSaid before m (body.Suspect record { v = u }) → u < v)
      × ((m : ℕ) (r : Report) → connected m ≡ true → HasSaid before m (body.Report r) → r.v ≤ v)

  module _ (before : List Entry) (e : Entry) (s : Stands history before e) (is_m : connected e.actor ≡ true)
      (loud : is_silent e.event ≡ false) (so_far : IsLow before) where
    abbrev m : ℕ
    m = e.actor

    abbrev known_now : List (Signed Body)
    known_now = known_then w before e.actor e

    upto_legal : IsLegal w (before ++ e ∷ [])
    upto_legal = legal_before w (before ++ e ∷ []) s.after (subst (λ (xs : List Entry). IsLegal w xs) (whole_upto s) legal)

    before_legal : IsLegal w before
    before_legal = legal_before w before (e ∷ s.after) (subst (λ (xs : List Entry). IsLegal w xs) s.whole legal)

    before_unforged : NothingForged w before
    before_unforged = unforged_before w before (e ∷ s.after)
        (subst (λ (xs : List Entry). NothingForged w xs) s.whole unforged)

    said_then : (p : Signed Body) → IsIn p (known_then w before e.actor e) → connected p.signer ≡ true →
        HasSaid before p.signer p.body
    said_then p h is = elim (known_then_from w before m e p h) [
      | inl earlier ↦ learned_said w m before before_legal before_unforged (are.correct m is_m) p earlier
          (correct_too w p.signer (are.correct p.signer is))
      | inr part ↦ unforged.said before e s p part (correct_too w p.signer (are.correct p.signer is))
    ]

    good_then : Each (GoodFrame w.group) (known_then w before e.actor e)
    good_then p h = learned_good w m (before ++ e ∷ []) upto_legal sizes (are.correct m is_m) p
        (known_learned w m (stands_last before e) refl loud p h)

    votes_then : (p : Signed Body) → IsIn p (known_then w before e.actor e) → connected p.signer ≡ true → (u : ℕ) →
        p.body ≡ body.Suspect record { v = u } → u < v
    votes_then p h is u word = so_far.0 p.signer u is
        (subst (λ (b : Body). HasSaid before p.signer b) word (said_then p h is))

    reports_then : (p : Signed Body) → IsIn p (known_then w before e.actor e) → connected p.signer ≡ true → (r : Report) →
        p.body ≡ body.Report r → r.v ≤ v
    reports_then p h is r word = so_far.1 p.signer r is
        (subst (λ (b : Body). HasSaid before p.signer b) word (said_then p h is))

    now_low : view w.group (known_then w before e.actor e) ≤ v
    now_low = view_low w connected v sizes are known_now known_now (λ p h. h)
        (known_closed (heard w before m) (frame_taken e.event)) good_then votes_then reports_then

    now_voted_low : voted_by_more w.group (known_then w before e.actor e) (w.group.f + w.group.k) ≤ v
    now_voted_low = voted_low w connected v sizes are known_now known_now (λ p h. h)
        (known_closed (heard w before m) (frame_taken e.event)) good_then votes_then reports_then

    abbrev waiting : ℕ
    waiting = waiting_at w.group (known_then w before e.actor e) (moments_at w.group (heard w before e.actor)
        (frame_taken e.event) (is_tick e.event))

    abbrev ticks : ℕ
    ticks = ticks_of (told_at w.group (heard w before e.actor) (frame_taken e.event) (is_tick e.event))

    now_patient : view w.group (known_then w before e.actor e) ≡ v → (is_tick e.event && nat_lt (patience w.group
        (view w.group (known_then w before e.actor e)) ticks) waiting) ≡ false
    now_patient at = elim (cases_Bool (is_tick e.event)) [
      | inr none ↦ ap (λ (b : Bool). b && nat_lt (patience w.group (view w.group known_now) ticks) waiting) none
      | inl tick ↦ ap (λ (b : Bool). b && nat_lt (patience w.group (view w.group known_now) ticks) waiting) tick
          ∙ impatient_then w before e m refl loud
          ∙ patient.patient before e s is_m (tick_is e.event tick)
          (ap (view w.group) (known_upto w before e m refl loud) ∙ at)
    ]

    vote_now : (u : ℕ) → IsIn (body.Suspect record { v = u }) e.said → u < v
    vote_now u h =
        let due = correct_said w m (body.Suspect record { v = u }) legal s refl (are.correct m is_m) h in
        let by_part = answers_by_live_part w.group w.orders m (heard w before m) (frame_taken e.event) (is_tick e.event) live in
        due_low w.group known_now (said_before (heard w before m)) waiting ticks u v (is_tick e.event) now_low now_voted_low
        now_patient (subst (λ (bs : List Body). IsIn (body.Suspect record { v = u }) bs) by_part.votes
        (in_filter (is_of measuring) due.1 refl))

    report_now : (r : Report) → IsIn (body.Report r) e.said → r.v ≤ v
    report_now r h = elim (said_due w m (body.Report r) legal s refl (are.correct m is_m) h).1 [
      | inl due ↦
          let is : r.v ≡ view w.group (known_then w before e.actor e) = due.0 in
          let low : view w.group (known_then w before e.actor e) ≤ v = now_low in
          omega (arith, is, low)
      | inr again ↦ absurd (false≢true again.1)
    ]

  said_loud : (before : List Entry) (e : Entry) (b : Body) → Stands history before e → connected e.actor ≡ true →
      IsIn b e.said → is_silent e.event ≡ false
  said_loud before e b s is_m h = (correct_said w e.actor b legal s refl (are.correct e.actor is_m) h).0

  one_more : (before : List Entry) (e : Entry) → ((after : List Entry) → history ≡ before ++ after → IsLow before) →
      (after : List Entry) → history ≡ (before ++ e ∷ []) ++ after → IsLow (before ++ e ∷ [])
  one_more before e so_far after same =
      let whole : history ≡ before ++ e ∷ after = same ∙ append_assoc before (e ∷ []) after in
      let s : Stands history before e = record { after = after; whole = whole } in
      let low : IsLow before = so_far (e ∷ after) whole in (
        λ i u is_i said. elim (said_or before e i (body.Suspect record { v = u }) said) [
          | inl earlier ↦ low.0 i u is_i earlier
          | inr now ↦
              let is : connected e.actor ≡ true = ap connected now.0 ∙ is_i in
              vote_now before e s is (said_loud before e (body.Suspect record { v = u }) s is now.1) low u now.1
        ],
        λ i r is_i said. elim (said_or before e i (body.Report r) said) [
          | inl earlier ↦ low.1 i r is_i earlier
          | inr now ↦
              let is : connected e.actor ≡ true = ap connected now.0 ∙ is_i in
              report_now before e s is (said_loud before e (body.Report r) s is now.1) low r now.1
        ],
      )

  all_low : IsLow history
  all_low = by_growth (λ (before : List Entry). (after : List Entry) → history ≡ before ++ after → IsLow before)
      (λ after same. (
        λ i u is_i said. absurd (nil_place said.before said.entry said.place.after said.place.whole),
        λ i r is_i said. absurd (nil_place said.before said.entry said.place.after said.place.whole),
      )) one_more history [] (sym (append-nil history))

  kept_view : (i : ℕ) → is_correct_master w i ≡ true → view w.group (known_by w history i) ≤ v
  kept_view i correct =
      let said : (p : Signed Body) → IsIn p (learned_by w history i) → connected p.signer ≡ true →
      HasSaid history p.signer p.body = λ p h is. learned_said w i history legal unforged correct p h
      (correct_too w p.signer (are.correct p.signer is)) in
      view_low w connected v sizes are (known_by w history i) (learned_by w history i)
      (known_in w history history i record { rest = []; same = sym (append-nil history) }) (learned_closed w history i)
      (learned_good w i history legal sizes correct)
      (λ p h is u word. all_low.0 p.signer u is (subst (λ (b : Body). HasSaid history p.signer b) word (said p h is)))
      (λ p h is r word. all_low.1 p.signer r is (subst (λ (b : Body). HasSaid history p.signer b) word (said p h is)))

pub patient_is_kept : PatientIsKept
patient_is_kept w connected history live legal sizes unforged are v patient = (
  λ m u is_m said. (all_low w connected history live legal sizes unforged are v patient).0 m u is_m said,
  kept_view w connected history live legal sizes unforged are v patient,
)

pub served_is_kept : ServedIsKept
served_is_kept w connected history live legal sizes unforged are v served =
    (patient_is_kept w connected history live legal sizes unforged are v (served_are_patient w connected history v served)).1
