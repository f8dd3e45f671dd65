-- What a connected master requested the view offers five rounds later, in rows that make it eligible: four rounds later the
-- leader's summaries do so, at its tick in the fifth it offers these, or counts as much as offered; or it had ordered such up to
-- the base of the plan.
use Rattle.std.proofs.Common.{◌≡◌, ℕ, ◌+◌, ◌-◌, ◌<◌, ◌≤◌, Bool, true, false, List, [], ◌∷◌, ◌++◌, Some}
use Rattle.std.proofs.Common.{map, nat_lt, refl, sym, ◌∙◌, ap, subst, inl, inr, ◌⊎◌, arith, append_assoc}
use Rattle.std.proofs.lemmas.Bool.{false≢true, cases_lt, lt-ltb}
use Rattle.std.proofs.lemmas.Grind.{flat_map-append}
use Rattle.std.specs.List.{filter_map}
use Rattle.plain_lists.specs.Lists.{IsIn, here, there, Begins, Within}
use Rattle.plain_lists.proofs.Members.{any_in, in_left, in_filter_map_from}
use Rattle.message_types.specs.declared.signed.Signed.{Signed}
use Rattle.message_types.specs.declared.views.Plan.{Plan}
use Rattle.message_types.specs.declared.body.Body.{Body}
use Rattle.message_types.specs.declared.body.Body.TheVariants as body
use Rattle.protocol_rules.specs.Words.{greatest_of, numbers_from}
use Rattle.protocol_rules.specs.Group.{Group, is_live, leader_of, most_number, window}
use Rattle.protocol_rules.specs.Facts.{facts_of}
use Rattle.protocol_rules.specs.Matrix.{latest_frames, eligible, reach, exceeds}
use Rattle.protocol_rules.specs.Order.{stable, plan_known, ordered, gapless}
use Rattle.protocol_rules.specs.Views.{view}
use Rattle.protocol_rules.specs.Master.{Heard, said_before, latest_rows, next_number, offered_number, counted_rows}
use Rattle.protocol_rules.proofs.Numbers.{from_above}
use Rattle.history_rules.specs.Events.{Entry, is_silent}
use Rattle.history_rules.specs.Setup.{Setup, room, own}
use Rattle.history_rules.specs.Legal.{Stands, IsLegal, heard}
use Rattle.history_rules.specs.Audit.{HasSaid}
use Rattle.agreement.specs.Laws.{IsSound, known_by}
use Rattle.agreement.proofs.Places.{stands_on, whole_upto}
use Rattle.agreement.proofs.KnownAsItGrows.{known_then, known_learned, heard_more}
use Rattle.agreement.proofs.FramesInside.{facts_more}
use Rattle.agreement.proofs.QuorumsStay.{member_below, each_below, stable_more, view_more}
use Rattle.agreement.proofs.CommittedStays.{in_below}
use Rattle.agreement.proofs.VouchedIsOrdered.{ordered_stays}
use Rattle.progress.specs.Rounds.{AreConnected, HasTaken, HasTick, IsRound}
use Rattle.progress.specs.Laws.{next_offer, counted_before}
use Rattle.progress.specs.UnderLeader.{IsLed, IsOffer, end_of, RequestedIsOffer}
use Rattle.progress.proofs.Arriving.{in_more, known_from, known_grows, known_upto, tick_loud, stands_in_round}
use Rattle.progress.proofs.Certifying.{below_group}
use Rattle.progress.proofs.Reaching.{left_before, request_number}
use Rattle.progress.proofs.Joined.{eligible_in_four_rounds}
use Rattle.progress.proofs.Offering.{leader_offers}
use Rattle.progress.proofs.Proposed.{plan_kept, offered_offer}
use Rattle.progress.proofs.Settled.{sound_before, view_then}
use Rattle.progress.proofs.Worthy.{rows_latest, counted_low, counted_high, gapless_more}
use Rattle.progress.proofs.Ordered.{open_kept, begins_through, begins_append}

-- a round may go on
pub round_longer : (w : Setup) (connected : ℕ → Bool) (beginning round more : List Entry) → IsRound w connected beginning round →
    IsRound w connected beginning (round ++ more)
round_longer w connected beginning round more fair = record {
  delivered = record {
    taken = λ before e s heard nth b at m is_m goes.
        let t : HasTaken (beginning ++ round) m e nth b = fair.delivered.taken before e s heard nth b at m is_m goes in
        record {
          before = t.before;
          entry = t.entry;
          place = subst (λ (xs : List Entry). Stands xs t.before t.entry) (append_assoc beginning round more)
              (stands_on more t.place);
          by = t.by;
          frame = t.frame;
          event = t.event;
          signer = t.signer;
          word = t.word;
        };
  };
  ticks = λ m is_m.
      let t : HasTick round m = fair.ticks m is_m in
      record { before = t.before; entry = t.entry; place = stands_on more t.place; by = t.by; tick = t.tick };
}

-- of rows that reach a number some make it eligible
pub reach_has : (g : Group) (xs : List (List (List ℕ))) (j k : ℕ) → 1 ≤ k → k ≤ reach g xs j →
    (x : List (List ℕ)) × IsIn x xs × (k ≤ eligible g x j)
reach_has g [] j k one h = absurd (omega arith)
reach_has g (x ∷ xs) j k one h = elim (cases_lt (eligible g x j) k) [
  | inr here_is ↦ (x, here xs, here_is)
  | inl less ↦ let found = reach_has g xs j k one (omega arith) in (found.0, there x xs found.1, found.2)
]

exceeds_none : (g : Group) (rows : List (List ℕ)) (f : ℕ → ℕ) (j : ℕ) → j < g.n → exceeds g rows f ≡ false →
    eligible g rows j ≤ f j
exceeds_none g rows f j low e = elim (cases_lt (f j) (eligible g rows j)) [
  | inl more ↦ absurd (false≢true (sym e ∙ any_in (λ j. nat_lt (f j) (eligible g rows j)) (in_below g.n j low)
      (lt-ltb (f j) (eligible g rows j) more)))
  | inr le ↦ le
]

-- the next number only rises
pub next_more : (v : ℕ) (plan : Plan) (said more : List Body) → Within said more → next_number said v plan ≤ next_number more v plan
next_more v plan said more within =
    let low : greatest_of (filter_map (offered_number v) said) ≤ greatest_of (filter_map (offered_number v) more) = each_below
    (offered_number v) (greatest_of (filter_map (offered_number v) more)) said
    (λ x i. member_below (offered_number v) more (within x i)) in
    omega arith

pub said_more : (w : Setup) (before more : List Entry) (m : ℕ) →
    Within (said_before (heard w before m)) (said_before (heard w (before ++ more) m))
said_more w before more m b h =
    let grown = heard_more w before more m in
    subst (λ (hs : List Heard). IsIn b (said_before hs)) (sym grown.1)
    (subst (λ (bs : List Body). IsIn b bs) (sym (flat_map-append (λ (x : Heard). Rattle.std.proofs.Common.map (λ f. f.body) x.said)
    (heard w before m) grown.0)) (in_left (said_before grown.0) h))

-- the rows of which a result tells
abbrev pub Reaches : Setup → ℕ → Plan → List Entry → ℕ → ℕ → Type 0
Reaches w v plan whole j k = (s : ℕ) × (rows : List (List ℕ)) × (k ≤ eligible w.group rows j)
    × (IsOffer w v plan whole s rows ⊎ ((1 ≤ s) × (s ≤ plan.base) × (ordered w.group (facts_of w.group (known_by w whole
    (leader_of w.group v))) s ≡ Some rows)))

module _ (w : Setup) (connected : ℕ → Bool) (v : ℕ) (plan : Plan) (beginning middle four fifth : List Entry)
    (live : is_live w.group ≡ true) (sound : IsSound w (four ++ fifth)) (are : AreConnected w connected)
    (led : IsLed w connected v plan beginning (four ++ fifth))
    (numbers : next_offer w (four ++ fifth) v plan ≤ most_number)
    (windows : next_offer w (four ++ fifth) v plan ≤ stable w.group (facts_of w.group
    (known_by w middle (leader_of w.group v))) + window)
    (t : HasTick fifth (leader_of w.group v)) (begun : Begins beginning middle) (goes_on : Begins middle (four ++ t.before))
    (j k : ℕ) (low : j < w.group.n) (one : 1 ≤ k)
    (reached : k ≤ eligible w.group (latest_rows w.group (known_then w (four ++ t.before) (leader_of w.group v) t.entry)) j) where
  abbrev leader : ℕ
  leader = leader_of w.group v

  abbrev whole : List Entry
  whole = four ++ fifth

  abbrev known : List (Signed Body)
  known = known_then w (four ++ t.before) (leader_of w.group v) t.entry

  abbrev said : List Body
  said = said_before (heard w (four ++ t.before) (leader_of w.group v))

  place : Stands (four ++ fifth) (four ++ t.before) t.entry
  place = stands_in_round four t.place

  loud : is_silent t.entry.event ≡ false
  loud = tick_loud t.entry.event t.tick

  grown : (before : List Entry) → Begins before (four ++ t.before) → Begins (known_by w before (leader_of w.group v)) known
  grown before b = subst (λ (ps : List (Signed Body)). Begins (known_by w before leader) ps)
      (known_upto w (four ++ t.before) t.entry leader t.by loud)
      (known_grows w ((four ++ t.before) ++ t.entry ∷ []) before leader
      (begins_through b (begins_append (four ++ t.before) (t.entry ∷ []))))

  from_start : Begins (known_by w beginning (leader_of w.group v)) known
  from_start = grown beginning (begins_through begun goes_on)

  in_view : view w.group known ≡ v
  in_view =
      let high : view w.group known ≤ v = view_then w connected v plan beginning whole live sound are led leader led.leader place
      t.by loud in
      let more : view w.group (known_by w beginning (leader_of w.group v)) ≤ view w.group known = view_more w.group
      (known_by w beginning leader) known (λ p h. in_more from_start h) in
      let came : view w.group (known_by w beginning (leader_of w.group v)) ≡ v = led.came leader led.leader in
      omega (arith, high, more, came)

  knows : plan_known (facts_of w.group known) v ≡ Some plan
  knows = plan_kept w.group (known_by w beginning leader) known v plan from_start (led.planned leader led.leader)

  based : plan.base ≤ gapless w.group (facts_of w.group known)
  based =
      let first : plan.base ≤ gapless w.group (facts_of w.group (known_by w beginning (leader_of w.group v))) =
      led.based leader led.leader in
      let more : gapless w.group (facts_of w.group (known_by w beginning (leader_of w.group v))) ≤
      gapless w.group (facts_of w.group known) = gapless_more w.group (known_by w beginning leader) known from_start in
      omega (arith, first, more)

  next_low : next_number said v plan ≤ next_offer w (four ++ fifth) v plan
  next_low = next_more v plan said (said_before (heard w whole leader)) (λ b h. subst (λ (xs : List Entry). IsIn b
      (said_before (heard w xs leader))) (sym place.whole) (said_more w (four ++ t.before) (t.entry ∷ place.after) leader b h))

  next_is : next_number said (view w.group known) plan ≡ next_number said v plan
  next_is = ap (λ (x : ℕ). next_number said x plan) in_view

  beyond : end_of plan < next_number said v plan
  beyond = omega arith

  counted : exceeds w.group (latest_rows w.group known) (counted_before w.group known plan
      (next_number said (view w.group known) plan)) ≡ false → Reaches w v plan (four ++ fifth) j k
  counted e =
      let next : ℕ = next_number said (view w.group known) plan in
      let low_enough : eligible w.group (latest_rows w.group known) j ≤ counted_before w.group known plan
      (next_number said (view w.group known) plan) j = exceeds_none w.group (latest_rows w.group known)
      (counted_before w.group known plan next) j low e in
      let counts = counted_rows w.group (facts_of w.group known) (view w.group known) plan in
      let found = reach_has w.group (filter_map (counted_rows w.group (facts_of w.group known) (view w.group known) plan)
      (numbers_from 1 (next_number said (view w.group known) plan - 1))) j k one (omega (arith, low_enough, reached)) in
      let source = in_filter_map_from counts (numbers_from 1 (next - 1)) found.1 in
      let above : 1 ≤ source.0 = from_above 1 (next - 1) source.0 source.1 in
      let is : counted_rows w.group (facts_of w.group known) v plan source.0 ≡ Some found.0 =
      ap (λ (x : ℕ). counted_rows w.group (facts_of w.group known) x plan source.0) (sym in_view) ∙ source.2 in (
        source.0,
        found.0,
        found.2,
        elim (cases_lt plan.base source.0) [
          | inl high ↦ inl (offered_offer w connected v plan beginning whole live sound are led leader led.leader known
              (known_learned w leader place t.by loud) source.0 found.0
              (sym (counted_high w.group (facts_of w.group known) v source.0 plan high) ∙ is))
          | inr within ↦ inr (
            above,
            within,
            later_order source.0 found.0
                (sym (counted_low w.group (facts_of w.group known) v source.0 plan within) ∙ is),
          )
        ],
      )
    where
      later_order : (s : ℕ) (rows : List (List ℕ)) → ordered w.group (facts_of w.group known) s ≡ Some rows →
          ordered w.group (facts_of w.group (known_by w (four ++ fifth) (leader_of w.group v))) s ≡ Some rows
      later_order s rows e =
          let more : Begins known (known_by w (four ++ fifth) (leader_of w.group v)) = known_from w leader place t.by loud in
          subst (λ (ps : List (Signed Body)). ordered w.group (facts_of w.group ps) s ≡ Some rows) (sym more.same)
          (ordered_stays w.group known more.rest s rows e)

  offered_now : HasSaid (four ++ fifth) (leader_of w.group v) (body.PrePrepare record {
    v = view w.group known;
    s = next_number said (view w.group known) plan;
    frames = latest_frames w.group known;
  }) → Reaches w v plan (four ++ fifth) j k
  offered_now was =
      let high : end_of plan < next_number said (view w.group known) plan = subst (λ (x : ℕ). end_of plan < x) (sym next_is) beyond
      in (
        next_number said (view w.group known) plan,
        latest_rows w.group known,
        reached,
        inl (
          omega (arith, high),
          inr (
            high,
            record {
              word = record {
                v = view w.group known;
                s = next_number said (view w.group known) plan;
                frames = latest_frames w.group known;
              };
              said = was;
              of_view = in_view;
              numbered = refl;
              are = sym (rows_latest w.group known);
            },
          ),
        ),
      )

  pub offers : Reaches w v plan (four ++ fifth) j k
  offers =
      let most : next_offer w (four ++ fifth) v plan ≤ most_number = numbers in
      let high : next_offer w (four ++ fifth) v plan ≤ stable w.group (facts_of w.group
      (known_by w middle (leader_of w.group v))) + window = windows in
      let below : next_number said v plan ≤ next_offer w (four ++ fifth) v plan = next_low in
      let same : next_number said (view w.group known) plan ≡ next_number said v plan = next_is in
      let on : Begins (known_by w middle (leader_of w.group v)) known = grown middle goes_on in
      let risen : stable w.group (facts_of w.group (known_by w middle (leader_of w.group v))) ≤
      stable w.group (facts_of w.group known) = stable_more w.group (facts_of w.group (known_by w middle leader))
      (facts_of w.group known) (facts_more w.group (known_by w middle leader) known (λ p h. in_more on h)) in
      elim (leader_offers w whole (four ++ t.before) t.entry leader plan live sound.legal (are.correct leader led.leader)
      (led.leaves leader led.leader) place t.by t.tick (ap (leader_of w.group) (sym in_view))
      (open_kept w.group (known_by w beginning leader) known (λ p h. in_more from_start h)
      (led.came leader led.leader ∙ sym in_view) (led.opened leader led.leader))
      (ap (plan_known (facts_of w.group known)) in_view ∙ knows) based (omega (arith, most, below, same))
      (omega (arith, high, below, same, risen))) [
        | inl none ↦ counted none
        | inr was ↦ offered_now was
      ]

pub requested_is_offer : RequestedIsOffer
requested_is_offer w connected v plan beginning middle first second third fourth fifth live sound are fair led begun numbers windows
    j r is_j was =
    let three : List Entry = ((middle ++ first) ++ second) ++ third in
    let four : List Entry = three ++ fourth in
    let leader : ℕ = leader_of w.group v in
    let fair_four : IsRound w connected (((middle ++ first) ++ second) ++ third) fourth = fair.1.1.1.0 in
    let fair_five : IsRound w connected ((((middle ++ first) ++ second) ++ third) ++ fourth) fifth = fair.1.1.1.1.0 in
    let t : HasTick fifth (leader_of w.group v) = fair_five.ticks leader led.leader in
    let place = stands_in_round four t.place in
    let more : List Entry = t.before ++ t.entry ∷ [] in
    let upto : List Entry = (four ++ t.before) ++ t.entry ∷ [] in
    let same : upto ≡ three ++ (fourth ++ more) = append_assoc four t.before (t.entry ∷ []) ∙ append_assoc three fourth more in
    let sound_upto : IsSound w upto = sound_before w upto place.after
    (subst (λ (xs : List Entry). IsSound w xs) (whole_upto place) sound) in
    let sound_there : IsSound w (three ++ (fourth ++ more)) = subst (λ (xs : List Entry). IsSound w xs) same sound_upto in
    let legal_first : IsLegal w middle = (sound_before w middle first (sound_before w (middle ++ first) second
    (sound_before w ((middle ++ first) ++ second) third (sound_before w three fourth
    (sound_before w four fifth sound))))).legal in
    let reached : r.k ≤ eligible w.group (latest_rows w.group (known_by w (three ++ (fourth ++ more)) leader)) j =
    eligible_in_four_rounds w connected middle first second third (fourth ++ more) live sound_there.legal sound.sizes
    sound_there.unforged are (fair.0, (fair.1.0, (fair.1.1.0, (round_longer w connected three fourth more fair_four, tt))))
    (λ m is_m. subst (λ (xs : List Entry). 1 ≤ room w (own xs m)) same (left_before w upto place.after m
    (subst (λ (xs : List Entry). 1 ≤ room w (own xs m)) (whole_upto place) (led.leaves m is_m)))) j r is_j was leader led.leader in
    let known : known_by w (three ++ (fourth ++ more)) leader ≡ known_then w (four ++ t.before) leader t.entry =
    ap (λ (xs : List Entry). known_by w xs leader) (sym same)
    ∙ known_upto w (four ++ t.before) t.entry leader t.by (tick_loud t.entry.event t.tick) in
    let later : Begins middle (four ++ t.before) = begins_through (begins_append middle first)
    (begins_through (begins_append (middle ++ first) second) (begins_through (begins_append ((middle ++ first) ++ second) third)
    (begins_through (begins_append three fourth) (begins_append four t.before)))) in
    offers w connected v plan beginning middle four fifth live sound are led numbers windows t begun later j r.k
    (below_group w j (are.correct j is_j)) (request_number w middle j r live legal_first (are.correct j is_j) was).0
    (subst (λ (ps : List (Signed Body)). r.k ≤ eligible w.group (latest_rows w.group ps) j) known reached)
