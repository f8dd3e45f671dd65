-- What is prepared in a view led by a connected master, or ordered above the base of its plan, is what the view offers. A
-- quorum's prepares, and commits, have one of a connected master among them, and it prepared what was offered. What was
-- committed in an earlier view is within the plan; and the plan's rows all connected masters prepared, so they are the same.
use Rattle.std.proofs.Common.{◌≡◌, ℕ, ◌+◌, ◌-◌, ◌<◌, ◌≤◌, zero, suc, Bool, true, false, List, [], ◌∷◌, ◌++◌, Option, Some, None}
use Rattle.std.proofs.Common.{length, nat_le, refl, sym, ◌∙◌, ap, subst, inl, inr, arith}
use Rattle.std.proofs.lemmas.Bool.{cases_lt, cases_eq, or_left, le-leb}
use Rattle.std.proofs.lemmas.Grind.{flat_map-append}
use Rattle.std.specs.Prelude.{slice_get}
use Rattle.std.specs.List.{flat_map, filter_map}
use Rattle.plain_lists.specs.Lists.{IsIn, here, there, Begins, Within}
use Rattle.plain_lists.proofs.Members.{any_from, in_flat_map, in_filter_map_from, in_left, in_right, in_map, some_same, none_some}
use Rattle.message_types.specs.declared.signed.Signed.{Signed}
use Rattle.message_types.specs.declared.views.Plan.{Plan}
use Rattle.message_types.specs.declared.body.Body.{Body}
use Rattle.message_types.specs.declared.body.Body.TheVariants as body
use Rattle.message_types.specs.Digests.{digest_of_rows}
use Rattle.message_types.specs.Texts.{rows_text}
use Rattle.protocol_rules.specs.declared.facts.OrderFact.{OrderFact}
use Rattle.protocol_rules.specs.declared.facts.OrderFact.TheVariants as fact
use Rattle.protocol_rules.specs.Words.{first_of_list}
use Rattle.protocol_rules.specs.Group.{is_live, leader_of, window}
use Rattle.protocol_rules.specs.Facts.{facts_of, rows_known, rows_in}
use Rattle.protocol_rules.specs.Matrix.{rows_of_frames}
use Rattle.protocol_rules.specs.Plans.{first_plan}
use Rattle.protocol_rules.specs.Order.{plan_in, plan_known, prepared, ordered, is_voted, commit_by, commit_views, stable}
use Rattle.protocol_rules.specs.Views.{view}
use Rattle.protocol_rules.specs.Worth.{plan_end}
use Rattle.protocol_rules.proofs.FirstMet.{first_in}
use Rattle.history_rules.specs.Events.{Entry, is_silent}
use Rattle.history_rules.specs.Setup.{Setup}
use Rattle.history_rules.specs.Legal.{Stands, heard}
use Rattle.history_rules.specs.Audit.{HasSaid, bodies_of, texts_of, history_texts}
use Rattle.agreement.specs.Laws.{IsSound, known_by}
use Rattle.agreement.proofs.QuorumsMeet.{meet_at}
use Rattle.agreement.proofs.Places.{legal_before, unforged_before}
use Rattle.agreement.proofs.KnownAsItGrows.{learned_by, known_then, known_learned, known_of_within, correct_said}
use Rattle.agreement.proofs.FramesInside.{facts_more, rows_from, rows_more}
use Rattle.agreement.proofs.LearnedWasSaid.{FirstSaid, first_said, due_first, learned_closed}
use Rattle.agreement.proofs.LearnedInPlace.{GoodRows, learned_good, rows_good, ordered_from}
use Rattle.agreement.proofs.PlannedRows.{plan_in_from}
use Rattle.agreement.proofs.TextsTellAll.{rows_text-same}
use Rattle.agreement.proofs.SaidOnce.{IsBacked, IsPrepare, IsCommit, prepares_backed, commits_backed}
use Rattle.agreement.proofs.RequestsAgree.{known_in, learned_text}
use Rattle.agreement.proofs.QuorumsStay.{view_more}
use Rattle.agreement.proofs.CommittedStays.{prepared_from, committed_prepared, prepared_alike}
use Rattle.agreement.proofs.OrdersAgree.{digests_rows}
use Rattle.progress.specs.Rounds.{AreConnected}
use Rattle.progress.specs.Laws.{KnowsWord}
use Rattle.progress.specs.UnderLeader.{IsLed, IsProposed, IsOffer, end_of, OrderedIsOffer}
use Rattle.progress.proofs.Arriving.{in_more, known_grows, known_from, said_learned}
use Rattle.progress.proofs.Reaching.{left_before}
use Rattle.progress.proofs.Preparing.{offered_is_prepared}
use Rattle.progress.proofs.Plans.{positive, later_plan}
use Rattle.progress.proofs.Proposed.{slice_there, offered_planned, offered_offer, told_proposal, said_begun, leads}
use Rattle.progress.proofs.TakenOver.{committed_in_plan}

-- what begins a sound history is sound
pub sound_before : (w : Setup) (before more : List Entry) → IsSound w (before ++ more) → IsSound w before
sound_before w before more sound = record {
  legal = legal_before w before more sound.legal;
  sizes = sound.sizes;
  few = sound.few;
  unforged = unforged_before w before more sound.unforged;
  alike = record { alike = λ a b h i same. sound.alike.alike a b (in_whole a h) (in_whole b i) same };
}
  where
    texts : Entry → List (List ℕ)
    texts e = flat_map (texts_of w.group) (bodies_of e)

    in_whole : (a : List ℕ) → IsIn a (history_texts w.group before) → IsIn a (history_texts w.group (before ++ more))
    in_whole a h = subst (λ (xs : List (List ℕ)). IsIn a xs) (sym (flat_map-append texts before more)) (in_left (flat_map texts more) h)

-- and what begins a led one, once it was, is led
pub led_before : (w : Setup) (connected : ℕ → Bool) (v : ℕ) (plan : Plan) (beginning before more : List Entry) →
    Begins beginning before → IsLed w connected v plan beginning (before ++ more) → IsLed w connected v plan beginning before
led_before w connected v plan beginning before more begins led = record {
  begins = begins;
  leader = led.leader;
  came = led.came;
  opened = led.opened;
  planned = led.planned;
  based = led.based;
  windows = led.windows;
  leaves = λ m is_m. left_before w before more m (led.leaves m is_m);
  stayed = λ m is_m.
      let first : Begins (known_by w beginning m) (known_by w before m) = known_grows w before beginning m begins in
      let grown : Begins (known_by w before m) (known_by w (before ++ more) m) = known_grows w (before ++ more) before m
      record { rest = more; same = refl } in
      let low : view w.group (known_by w beginning m) ≤ view w.group (known_by w before m) =
      view_more w.group (known_by w beginning m) (known_by w before m) (λ p h. in_more first h) in
      let high : view w.group (known_by w before m) ≤ view w.group (known_by w (before ++ more) m) =
      view_more w.group (known_by w before m) (known_by w (before ++ more) m) (λ p h. in_more grown h) in
      let came : view w.group (known_by w beginning m) ≡ v = led.came m is_m in
      let stayed : view w.group (known_by w (before ++ more) m) ≡ v = led.stayed m is_m in
      omega arith;
}

-- the rows of a proposal that is told are known
pub rows_told : (facts : List OrderFact) (v s : ℕ) (rows : List (List ℕ)) → IsIn (fact.Proposal v s rows) facts →
    IsIn rows (rows_known facts)
unfolding rows_known
rows_told facts v s rows h = in_flat_map rows_in h (here [])

rows_planned : (facts : List OrderFact) (v : ℕ) (plan : Plan) (rows : List (List ℕ)) → IsIn (fact.Plan v plan) facts →
    IsIn rows plan.rows → IsIn rows (rows_known facts)
unfolding rows_known
rows_planned facts v plan rows h i = in_flat_map rows_in h i

slice_in : {X : Type 0} (xs : List X) (k : ℕ) {x : X} → slice_get xs k ≡ Some x → IsIn x xs
slice_in [] k e = absurd (none_some e)
slice_in {X} (y ∷ xs) zero {x} e = subst (λ (z : X). IsIn z (y ∷ xs)) (some_same e) (here xs)
slice_in (y ∷ xs) (suc k) e = there y xs (slice_in xs k e)

-- so are those of a plan
pub plan_rows_known : (facts : List OrderFact) (v k : ℕ) (plan : Plan) (rows : List (List ℕ)) → plan_known facts v ≡ Some plan →
    slice_get plan.rows k ≡ Some rows → IsIn rows (rows_known facts)
plan_rows_known facts v k plan rows knows e = elim (cases_eq v 0) [
  | inl zero_view ↦
      let empty : first_plan ≡ plan = some_same (ap (plan_known facts) (sym zero_view) ∙ knows) in
      absurd (none_some (ap (λ (p : Plan). slice_get p.rows k) empty ∙ e))
  | inr apart ↦
      let found = in_filter_map_from (plan_in v) facts (first_in (filter_map (plan_in v) facts)
      (later_plan v (first_of_list (filter_map (plan_in v) facts)) plan (positive v apart) knows)) in
      rows_planned facts v plan rows (subst (λ (x : OrderFact). IsIn x facts) (plan_in_from v found.0 plan found.2) found.1)
      (slice_in plan.rows k e)
]

module _ (w : Setup) (connected : ℕ → Bool) (v : ℕ) (plan : Plan) (beginning history : List Entry)
    (live : is_live w.group ≡ true) (sound : IsSound w history) (are : AreConnected w connected)
    (led : IsLed w connected v plan beginning history) where
  -- a quorum's word is one of a connected master
  meet_connected : (T : Body → Type 0) → IsBacked w history T → (m : ℕ) × (connected m ≡ true)
      × ((b : Body) × HasSaid history m b × T b)
  meet_connected T backed =
      let found = meet_at w.group backed.test connected w.intruded sound.sizes backed.enough are.enough sound.few.few in
      (found.0, found.3, backed.said found.0 found.1 found.2 found.4)

  -- no connected master was in a later view at any of its events
  pub view_then : (m : ℕ) → connected m ≡ true → {before : List Entry} {e : Entry} → Stands history before e →
      e.actor ≡ m → is_silent e.event ≡ false → view w.group (known_then w before m e) ≤ v
  view_then m is_m {before} {e} s by loud =
      let low : view w.group (known_then w before m e) ≤ view w.group (known_by w history m) = view_more w.group
      (known_then w before m e) (known_by w history m) (λ p h. in_more (known_from w m s by loud) h) in
      let last : view w.group (known_by w history m) ≡ v = led.stayed m is_m in
      omega arith

  -- each connected master prepared the plan's rows by the beginning
  pub plan_prepared : (m : ℕ) → connected m ≡ true → (s : ℕ) (rows : List (List ℕ)) → plan.base < s → s ≤ end_of plan
      → slice_get plan.rows (s - plan.base - 1) ≡ Some rows
      → HasSaid beginning m (body.Prepare record { v = v; s = s; digest = digest_of_rows rows })
  plan_prepared m is_m s rows above within gives =
      let facts : List OrderFact = facts_of w.group (known_by w beginning m) in
      let window_then : end_of plan ≤ stable w.group (facts_of w.group (known_by w beginning m)) + window = led.windows m is_m in
      let last : plan_end (facts_of w.group (known_by w beginning m)) v ≡ end_of plan = ap (λ (o : Option Plan). elim o as (λ _. ℕ)
      [ None ↦ 0 | Some plan ↦ plan.base + length plan.rows ]) (led.planned m is_m) in
      offered_is_prepared w history beginning m v s rows live sound.legal led.begins (are.correct m is_m) (led.leaves m is_m)
      (led.came m is_m) (led.opened m is_m) (offered_planned facts v s plan (led.planned m is_m) above within ∙ gives)
      (or_left (nat_le s (plan_end facts v)) _ (le-leb s (plan_end facts v) (omega (arith, last, within)))) (omega arith)
      (omega arith)

  plan_backed : (s : ℕ) (rows : List (List ℕ)) → plan.base < s → s ≤ end_of plan
      → slice_get plan.rows (s - plan.base - 1) ≡ Some rows → IsBacked w history (IsPrepare v s (digest_of_rows rows))
  plan_backed s rows above within gives = record {
    test = connected;
    enough = are.enough;
    said = λ m low is_m right. (
      body.Prepare record { v = v; s = s; digest = digest_of_rows rows },
      said_begun led.begins (plan_prepared m is_m s rows above within gives),
      refl,
    );
  }

  -- what a connected master prepared in the view
  prepared_one : (m : ℕ) → connected m ≡ true → (s : ℕ) (digest : List ℕ)
      → HasSaid history m (body.Prepare record { v = v; s = s; digest = digest })
      → (rows : List (List ℕ)) × IsOffer w v plan history s rows × (digest ≡ digest_of_rows rows)
  prepared_one m is_m s digest said =
      let word : Body = body.Prepare record { v = v; s = s; digest = digest } in
      let first : FirstSaid w history m (body.Prepare record { v = v; s = s; digest = digest }) =
      first_said w m word (are.correct m is_m) history sound.legal said in
      let due = due_first w history m word first in
      let known : List (Signed Body) = known_then w first.said.before m first.said.entry in (
        due.1.0,
        offered_offer w connected v plan beginning history live sound are led m is_m known
            (known_learned w m first.said.place first.said.by first.loud) s due.1.0 due.1.1,
        due.1.2,
      )

  backed_offer : (s : ℕ) (digest : List ℕ) → IsBacked w history (IsPrepare v s digest)
      → (rows : List (List ℕ)) × IsOffer w v plan history s rows × (digest ≡ digest_of_rows rows)
  backed_offer s digest backed =
      let met = meet_connected (IsPrepare v s digest) backed in
      prepared_one met.0 met.1 s digest (subst (λ (b : Body). HasSaid history met.0 b) met.2.2 met.2.1)

  -- rows that a connected master knows are short ones, and their text stands in the history
  rows_learned : (m : ℕ) → connected m ≡ true → (known : List (Signed Body)) → Within known (learned_by w history m) →
      (rows : List (List ℕ)) → IsIn rows (rows_known (facts_of w.group known)) → GoodRows rows
      × IsIn (rows_text rows) (history_texts w.group history)
  rows_learned m is_m known within rows h =
      let member : IsIn rows (rows_known (facts_of w.group (learned_by w history m))) = rows_more (facts_of w.group known)
      (facts_of w.group (learned_by w history m)) (facts_more w.group known (learned_by w history m) within) rows h in
      let word = rows_from w.group (learned_by w history m) rows member in (
        rows_good w.group sound.sizes (learned_by w history m) (learned_closed w history m)
            (learned_good w m history sound.legal sound.sizes (are.correct m is_m)) rows member,
        learned_text w history m sound.legal (are.correct m is_m) word.0 word.1 (rows_text rows)
            (in_right _ (in_map rows_text word.2)),
      )

  -- the leader knows what the view offers
  offer_good : (s : ℕ) (rows : List (List ℕ)) → IsOffer w v plan history s rows → GoodRows rows
      × IsIn (rows_text rows) (history_texts w.group history)
  offer_good s rows (above, inl planned) =
      let leader : ℕ = leader_of w.group v in
      rows_learned leader led.leader (known_by w beginning leader) (known_in w history beginning leader led.begins) rows
      (plan_rows_known (facts_of w.group (known_by w beginning leader)) v (s - plan.base - 1) plan rows
      (led.planned leader led.leader) planned.1)
  offer_good s rows (above, inr beyond) =
      let leader : ℕ = leader_of w.group v in
      let is : IsProposed w v history s rows = beyond.1 in
      let all : List (Signed Body) = learned_by w history (leader_of w.group v) in
      let loud = (correct_said w leader (body.PrePrepare is.word) sound.legal is.said.place is.said.by
      (leads w connected v plan beginning history live sound are led) is.said.among).0 in
      let own : KnowsWord (learned_by w history (leader_of w.group v)) (leader_of w.group v) (body.PrePrepare is.word) =
      said_learned w leader (body.PrePrepare is.word) is.said.place is.said.by loud is.said.among in
      rows_learned leader led.leader all (λ p h. h) rows
      (subst (λ (xs : List (List ℕ)). IsIn xs (rows_known (facts_of w.group (learned_by w history (leader_of w.group v)))))
      (sym is.are) (rows_told (facts_of w.group all) is.word.v is.word.s (rows_of_frames w.group is.word.frames)
      (told_proposal w.group all own.part is.word own.among own.word)))

  module _ (m : ℕ) (is_m : connected m ≡ true) (known : List (Signed Body)) (within : Within known (learned_by w history m)) where
    -- rows of one digest are the same
    rows_same : (s : ℕ) (rows other : List (List ℕ)) → IsIn rows (rows_known (facts_of w.group known))
        → IsOffer w v plan history s other → digest_of_rows rows ≡ digest_of_rows other → IsOffer w v plan history s rows
    rows_same s rows other h offer digests =
        let one = rows_learned m is_m known within rows h in
        let also = offer_good s other offer in
        let same : rows ≡ other = rows_text-same rows other one.0 also.0 (sound.alike.alike (rows_text rows)
        (rows_text other) one.1 also.1 (digests_rows rows other digests)) in
        subst (λ (xs : List (List ℕ)). IsOffer w v plan history s xs) (sym same) offer

    -- those of a digest that a quorum prepared in the view are offered
    digest_offer : (s : ℕ) (rows : List (List ℕ)) → IsIn rows (rows_known (facts_of w.group known))
        → IsBacked w history (IsPrepare v s (digest_of_rows rows)) → IsOffer w v plan history s rows
    digest_offer s rows h backed =
        let found = backed_offer s (digest_of_rows rows) backed in
        rows_same s rows found.0 h found.1 found.2

    pub prepared_offer : (s : ℕ) (rows : List (List ℕ)) → prepared w.group (facts_of w.group known) v s ≡ Some rows →
        IsOffer w v plan history s rows
    prepared_offer s rows e =
        let from = prepared_from w.group (facts_of w.group known) v s rows e in
        digest_offer s rows (rows_more from.0 (facts_of w.group known) from.1 rows from.2)
        (prepares_backed w history m sound (are.correct m is_m) known within from.0 from.1 v s (digest_of_rows rows) from.3)

    -- what was committed in an earlier view, above the base
    earlier_offer : (u s : ℕ) (rows : List (List ℕ)) → plan.base < s → u < v → IsIn rows (rows_known (facts_of w.group known))
        → IsBacked w history (IsCommit u s (digest_of_rows rows)) → IsOffer w v plan history s rows
    earlier_offer u s rows above lower h backed =
        let low : s ≤ end_of plan = committed_in_plan w connected v plan beginning history live sound are led u s
        (digest_of_rows rows) lower backed in
        let planned = slice_there plan.rows (s - plan.base - 1) (omega arith) in
        rows_same s rows planned.0 h (above, inl (low, planned.1)) (prepared_alike w history sound u s (digest_of_rows rows) backed
        v (digest_of_rows planned.0) (omega arith) (plan_backed s planned.0 above low planned.1))

    pub ordered_offer : (s : ℕ) (rows : List (List ℕ)) → plan.base < s → ordered w.group (facts_of w.group known) s ≡ Some rows →
        IsOffer w v plan history s rows
    ordered_offer s rows above e =
        let digest : List ℕ = digest_of_rows rows in
        let from = ordered_from w.group (facts_of w.group known) s rows e in
        let found = any_from (λ v. is_voted w.group (commit_by v s (digest_of_rows rows)) from.1.0)
        (commit_views from.1.0 s (digest_of_rows rows)) from.1.2 in
        let backed = commits_backed w history m sound (are.correct m is_m) known within from.1.0 from.1.1 found.0 s
        (digest_of_rows rows) found.2 in
        let met = meet_connected (IsCommit found.0 s (digest_of_rows rows)) backed in
        let word : Body = body.Commit record { v = found.0; s = s; digest = digest_of_rows rows } in
        let first : FirstSaid w history met.0 (body.Commit record { v = found.0; s = s; digest = digest_of_rows rows }) =
        first_said w met.0 word (are.correct met.0 met.1) history sound.legal
        (subst (λ (b : Body). HasSaid history met.0 b) met.2.2 met.2.1) in
        let due = due_first w history met.0 word first in
        let at : found.0 ≡ view w.group (known_then w first.said.before met.0 first.said.entry) = due.1.3 in
        let high : view w.group (known_then w first.said.before met.0 first.said.entry) ≤ v =
        view_then met.0 met.1 first.said.place first.said.by first.loud in
        elim (cases_lt found.0 v) [
          | inl lower ↦ earlier_offer found.0 s rows above lower from.0 backed
          | inr reached ↦
              let same : found.0 ≡ v = omega (arith, at, high, reached) in
              digest_offer s rows from.0 (subst (λ (x : ℕ). IsBacked w history (IsPrepare x s (digest_of_rows rows))) same
              (committed_prepared w history sound found.0 s digest backed))
        ]

pub ordered_is_offer : OrderedIsOffer
ordered_is_offer w connected v plan beginning whole live sound are led m is_m s rows =
    let within : Within (known_by w whole m) (learned_by w whole m) = known_of_within (heard w whole m) in (
      prepared_offer w connected v plan beginning whole live sound are led m is_m (known_by w whole m) within s rows,
      λ above. ordered_offer w connected v plan beginning whole live sound are led m is_m (known_by w whole m) within s rows above,
    )
