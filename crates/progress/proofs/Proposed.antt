-- What a view offers as a number is what its plan gives to it, or what its leader proposed: each proposal known is of the
-- leader, and a correct one proposes a number once.
use Rattle.std.proofs.Common.{◌≡◌, ℕ, ◌+◌, ◌-◌, ◌<◌, ◌≤◌, zero, suc, Bool, true, false, cond, ◌&&◌, List, [], ◌∷◌, Option, Some, None}
use Rattle.std.proofs.Common.{length, map, nat_eq, nat_le, refl, sym, ◌∙◌, ap, subst, inl, inr, ◌⊎◌, arith, eqb-true}
use Rattle.std.proofs.lemmas.Bool.{false≢true, and_parts, cases_lt, eq-eqb, leb-false, leb-true, le-leb, false_from_ne_true}
use Rattle.std.proofs.lemmas.Grind.{flat_map-append}
use Rattle.std.specs.Prelude.{slice_get}
use Rattle.std.specs.List.{filter_map, flat_map}
use Rattle.plain_lists.specs.Lists.{IsIn, here, Begins, Within, Each}
use Rattle.plain_lists.proofs.Members.{each_none, each_one, each_map, in_flat_map, in_flat_map_from, in_filter_map, in_filter_map_from, some_same, none_some}
use Rattle.protocol_rules.proofs.FirstMet.{first_in, first_there}
use Rattle.message_types.specs.declared.signed.Signed.{Signed}
use Rattle.message_types.specs.declared.ordering.PrePrepare.{PrePrepare}
use Rattle.message_types.specs.declared.views.Plan.{Plan}
use Rattle.message_types.specs.declared.body.Body.{Body}
use Rattle.message_types.specs.declared.body.Body.TheVariants as body
use Rattle.protocol_rules.specs.declared.facts.OrderFact.{OrderFact}
use Rattle.protocol_rules.specs.declared.facts.OrderFact.TheVariants as fact
use Rattle.protocol_rules.specs.Words.{first_of_list}
use Rattle.protocol_rules.specs.Group.{Group, is_live, leader_of}
use Rattle.protocol_rules.specs.Facts.{tells, facts_of}
use Rattle.protocol_rules.specs.Matrix.{rows_of_frames}
use Rattle.protocol_rules.specs.Plans.{plan_of}
use Rattle.protocol_rules.specs.Order.{plan_known, proposal_in, offered}
use Rattle.protocol_rules.specs.Master.{offered_number}
use Rattle.history_rules.specs.Events.{Entry, is_silent}
use Rattle.history_rules.specs.Setup.{Setup, is_correct, is_correct_master}
use Rattle.history_rules.specs.Legal.{Stands, heard}
use Rattle.history_rules.specs.Audit.{HasSaid}
use Rattle.agreement.specs.Laws.{IsSound, known_by}
use Rattle.agreement.proofs.Places.{said_whole, said_on}
use Rattle.agreement.proofs.KnownAsItGrows.{learned_by, known_then, known_learned, known_of_within}
use Rattle.agreement.proofs.SpokenByKind.{if_some}
use Rattle.agreement.proofs.LearnedWasSaid.{learned_said}
use Rattle.agreement.proofs.SaidOneWay.{proposes_once}
use Rattle.agreement.proofs.RequestsAgree.{known_in}
use Rattle.progress.specs.Rounds.{AreConnected}
use Rattle.progress.specs.UnderLeader.{IsLed, IsProposed, IsOffer, end_of, OfferedIsOffer}
use Rattle.progress.proofs.Certifying.{correct_too}
use Rattle.progress.proofs.Preparing.{plan_stays}
use Rattle.progress.proofs.Proposing.{of_leader, lower_before}
use Rattle.progress.proofs.Plans.{plans_same}

-- a fact of a proposal is told by a proposal
abbrev FromProposal : Group → Body → OrderFact → Type 0
FromProposal g word (fact.Proposal v s rows) = (b : PrePrepare) × (word ≡ body.PrePrepare b) × (b.v ≡ v) × (b.s ≡ s)
    × (rows ≡ rows_of_frames g b.frames)
FromProposal g word _ = Unit {0}

told_by : (g : Group) (signer : ℕ) (word : Body) (sig : List ℕ) →
    Each (FromProposal g word) (tells g record { signer = signer; body = word; sig = sig })
told_by g signer (body.PrePrepare b) sig = each_one _ (fact.Proposal b.v b.s (rows_of_frames g b.frames))
    (b, refl, refl, refl, refl)
told_by g signer (body.Prepare b) sig = each_one _ (fact.Prepare record { signer = signer; body = b; sig = sig }) tt
told_by g signer (body.Commit b) sig = each_one _ (fact.Commit record { signer = signer; body = b; sig = sig }) tt
told_by g signer (body.Mark b) sig = each_one _ (fact.Mark record { signer = signer; body = b; sig = sig }) tt
told_by g signer (body.Report b) sig = each_map _ (λ c. fact.Rows c.rows) b.certificates (λ c within. tt)
told_by g signer (body.GiveOrdered b) sig = each_one _ (fact.Rows b.rows) tt
told_by g signer (body.NewView b) sig = each_one _ (fact.Plan b.v (plan_of g (map (λ r. r.body) b.reports))) tt
told_by g signer _ sig = each_none _

proposal_told : (g : Group) (known : List (Signed Body)) (v s : ℕ) (rows : List (List ℕ)) →
    IsIn (fact.Proposal v s rows) (facts_of g known)
    → (p : Signed Body) × IsIn p known × ((b : PrePrepare) × (p.body ≡ body.PrePrepare b) × (b.v ≡ v) × (b.s ≡ s)
    × (rows ≡ rows_of_frames g b.frames))
unfolding facts_of
proposal_told g known v s rows h = let found = in_flat_map_from (tells g) known h in
    (found.0, found.1, told_by g found.0.signer found.0.body found.0.sig (fact.Proposal v s rows) found.2)

pub told_proposal : (g : Group) (known : List (Signed Body)) (p : Signed Body) (b : PrePrepare) → IsIn p known →
    p.body ≡ body.PrePrepare b → IsIn (fact.Proposal b.v b.s (rows_of_frames g b.frames)) (facts_of g known)
unfolding facts_of
told_proposal g known p b among is = in_flat_map (tells g) among (by p.signer p.body p.sig is)
  where
    by : (signer : ℕ) (word : Body) (sig : List ℕ) → word ≡ body.PrePrepare b →
        IsIn (fact.Proposal b.v b.s (rows_of_frames g b.frames)) (tells g record { signer = signer; body = word; sig = sig })
    by signer word sig is = subst (λ (x : Body). IsIn (fact.Proposal b.v b.s (rows_of_frames g b.frames))
        (tells g record { signer = signer; body = x; sig = sig })) (sym is) (here [])

proposal_in_from : (v s : ℕ) (x : OrderFact) (rows : List (List ℕ)) → proposal_in v s x ≡ Some rows → x ≡ fact.Proposal v s rows
proposal_in_from v s (fact.Proposal w t found) rows e =
    let held = if_some (nat_eq w v && nat_eq t s) e in
    let both = and_parts (nat_eq w v) (nat_eq t s) held.0 in
    let is_v : w ≡ v = eqb-true w v both.0 in
    let is_s : t ≡ s = eqb-true t s both.1 in
    λ i. fact.Proposal (is_v i) (is_s i) (held.1 i)
proposal_in_from v s _ rows e = absurd (none_some e)

-- a proposal offers its number
pub offers_number : (b : PrePrepare) (v s : ℕ) → b.v ≡ v → b.s ≡ s → offered_number v (body.PrePrepare b) ≡ Some s
offers_number b v s of_v number = ap (λ (c : Bool). cond c (Some b.s) None) (eq-eqb b.v v of_v)
    ∙ ap (λ (x : ℕ). Some x) number

-- by what a view offers a number
abbrev Cases : List OrderFact → ℕ → ℕ → List (List ℕ) → Type 0
Cases facts v s rows = (p : Plan) × (plan_known facts v ≡ Some p) × (p.base < s)
    × (((s ≤ end_of p) × (slice_get p.rows (s - p.base - 1) ≡ Some rows))
    ⊎ ((end_of p < s) × (first_of_list (filter_map (proposal_in v s) facts) ≡ Some rows)))

offered_cases : (facts : List OrderFact) (v s : ℕ) (rows : List (List ℕ)) → offered facts v s ≡ Some rows →
    Cases facts v s rows
unfolding offered
offered_cases facts v s rows e = by_plan (plan_known facts v) refl e
  where
    by_base : (p : Plan) → plan_known facts v ≡ Some p → (b c : Bool) → nat_le s p.base ≡ b
        → nat_le s (p.base + length p.rows) ≡ c
        → cond b None (cond c (slice_get p.rows (s - p.base - 1)) (first_of_list (filter_map (proposal_in v s) facts))) ≡ Some rows
        → Cases facts v s rows
    by_base p is true c low upto e = absurd (none_some e)
    by_base p is false true low upto e = (p, is, leb-false s p.base low, inl (leb-true s (p.base + length p.rows) upto, e))
    by_base p is false false low upto e = (p, is, leb-false s p.base low, inr (leb-false s (p.base + length p.rows) upto, e))

    by_plan : (o : Option Plan) → plan_known facts v ≡ o
        → (elim o [
          | None ↦ None
          | Some plan ↦ cond (nat_le s plan.base) None
              (cond (nat_le s (plan.base + length plan.rows)) (slice_get plan.rows (s - plan.base - 1))
              (first_of_list (filter_map (proposal_in v s) facts)))
        ]) ≡ Some rows → Cases facts v s rows
    by_plan None is e = absurd (none_some e)
    by_plan (Some p) is e = by_base p is (nat_le s p.base) (nat_le s (p.base + length p.rows)) refl refl e

picked : (b c : Bool) (x y : Option (List (List ℕ))) → b ≡ false → c ≡ true → cond b None (cond c x y) ≡ x
picked true c x y is also = absurd (false≢true (sym is))
picked false true x y is also = refl
picked false false x y is also = absurd (false≢true also)

passed : (b c : Bool) (x y : Option (List (List ℕ))) → b ≡ false → c ≡ false → cond b None (cond c x y) ≡ y
passed true c x y is also = absurd (false≢true (sym is))
passed false true x y is also = absurd (false≢true (sym also))
passed false false x y is also = refl

pub above_false : (s t : ℕ) → t < s → nat_le s t ≡ false
above_false s t less = false_from_ne_true (nat_le s t) (λ low. let le : s ≤ t = leb-true s t low in omega arith)

abbrev offered_by : List OrderFact → ℕ → ℕ → Option Plan → Option (List (List ℕ))
offered_by facts v s o = elim o [
  | None ↦ None
  | Some plan ↦ cond (nat_le s plan.base) None
      (cond (nat_le s (plan.base + length plan.rows)) (slice_get plan.rows (s - plan.base - 1))
      (first_of_list (filter_map (proposal_in v s) facts)))
]

-- a number of the plan
pub offered_planned : (facts : List OrderFact) (v s : ℕ) (p : Plan) → plan_known facts v ≡ Some p → p.base < s → s ≤ end_of p →
    offered facts v s ≡ slice_get p.rows (s - p.base - 1)
unfolding offered
offered_planned facts v s p is above low = ap (offered_by facts v s) is
    ∙ picked (nat_le s p.base) (nat_le s (p.base + length p.rows)) (slice_get p.rows (s - p.base - 1))
    (first_of_list (filter_map (proposal_in v s) facts)) (above_false s p.base above) (le-leb s (p.base + length p.rows) low)

-- and one beyond it
offered_beyond : (facts : List OrderFact) (v s : ℕ) (p : Plan) → plan_known facts v ≡ Some p → end_of p < s →
    offered facts v s ≡ first_of_list (filter_map (proposal_in v s) facts)
unfolding offered
offered_beyond facts v s p is above = ap (offered_by facts v s) is
    ∙ passed (nat_le s p.base) (nat_le s (p.base + length p.rows)) (slice_get p.rows (s - p.base - 1))
    (first_of_list (filter_map (proposal_in v s) facts)) (above_false s p.base (omega arith))
    (above_false s (p.base + length p.rows) above)

-- a plan known stays
pub plan_kept : (g : Group) (known more : List (Signed Body)) (v : ℕ) (plan : Plan) → Begins known more →
    plan_known (facts_of g known) v ≡ Some plan → plan_known (facts_of g more) v ≡ Some plan
unfolding facts_of
plan_kept g known more v plan b e = subst (λ (ps : List (Signed Body)). plan_known (flat_map (tells g) ps) v ≡ Some plan)
    (sym b.same) (ap (λ (facts : List OrderFact). plan_known facts v) (flat_map-append (tells g) known b.rest)
    ∙ plan_stays (flat_map (tells g) known) (flat_map (tells g) b.rest) v plan e)

-- each place of a list has something
pub slice_there : {X : Type 0} (xs : List X) (k : ℕ) → k < length xs → (x : X) × (slice_get xs k ≡ Some x)
slice_there [] k less = absurd (omega arith)
slice_there (x ∷ xs) zero less = (x, refl)
slice_there (x ∷ xs) (suc k) less = slice_there xs k (omega arith)

proposal_at : (b : PrePrepare) (v s : ℕ) (rows : List (List ℕ)) → b.v ≡ v → b.s ≡ s →
    proposal_in v s (fact.Proposal b.v b.s rows) ≡ Some rows
proposal_at b v s rows of_v number = ap (λ (c : Bool). cond c (Some rows) None)
    (Rattle.std.proofs.lemmas.Bool.and_from (nat_eq b.v v) (nat_eq b.s s) (eq-eqb b.v v of_v) (eq-eqb b.s s number))

-- what was said in a beginning was said
pub said_begun : {before whole : List Entry} {actor : ℕ} {b : Body} → Begins before whole → HasSaid before actor b →
    HasSaid whole actor b
said_begun {before} {whole} {actor} {b} begins h = subst (λ (xs : List Entry). HasSaid xs actor b) (sym begins.same)
    (said_on begins.rest h)

pub proposed_begun : (w : Setup) (v : ℕ) {before whole : List Entry} (s : ℕ) (rows : List (List ℕ)) → Begins before whole →
    IsProposed w v before s rows → IsProposed w v whole s rows
proposed_begun w v s rows begins is = record {
  word = is.word;
  said = said_begun begins is.said;
  of_view = is.of_view;
  numbered = is.numbered;
  are = is.are;
}

pub offer_begun : (w : Setup) (v : ℕ) (plan : Plan) {before whole : List Entry} (s : ℕ) (rows : List (List ℕ)) →
    Begins before whole → IsOffer w v plan before s rows → IsOffer w v plan whole s rows
offer_begun w v plan s rows begins (above, inl planned) = (above, inl planned)
offer_begun w v plan s rows begins (above, inr proposed) =
    (above, inr (proposed.0, proposed_begun w v s rows begins proposed.1))

module _ (w : Setup) (connected : ℕ → Bool) (v : ℕ) (plan : Plan) (beginning history : List Entry)
    (live : is_live w.group ≡ true) (sound : IsSound w history) (are : AreConnected w connected)
    (led : IsLed w connected v plan beginning history) where
  pub leads : is_correct_master w (leader_of w.group v) ≡ true
  leads = are.correct (leader_of w.group v) led.leader

  -- what a connected master knows as the plan is the plan
  pub plan_same : (m : ℕ) → connected m ≡ true → (known : List (Signed Body)) → Within known (learned_by w history m)
      → (p : Plan) → plan_known (facts_of w.group known) v ≡ Some p → p ≡ plan
  plan_same m is_m known within p e = plans_same w history v live sound.legal sound.unforged leads m (leader_of w.group v)
      (are.correct m is_m) leads known (known_by w beginning (leader_of w.group v)) within
      (known_in w history beginning (leader_of w.group v) led.begins) p plan e (led.planned (leader_of w.group v) led.leader)

  -- the leader proposes a number once
  pub proposed_same : (s : ℕ) (a b : List (List ℕ)) → IsProposed w v history s a → IsProposed w v history s b → a ≡ b
  proposed_same s a b one other = one.are ∙ ap (λ (x : PrePrepare). rows_of_frames w.group x.frames)
      (proposes_once w history (leader_of w.group v) sound.legal leads one.word other.word one.said other.said
      (one.of_view ∙ sym other.of_view) (one.numbered ∙ sym other.numbered)) ∙ sym other.are

  -- at each of its entries the leader goes by the plan
  pub plans_then : (before : List Entry) (e : Entry) → Stands history before e → e.actor ≡ leader_of w.group v →
      is_silent e.event ≡ false → (p : Plan) → plan_known (facts_of w.group (known_then w before (leader_of w.group v) e)) v
      ≡ Some p → p ≡ plan
  plans_then before e s by loud p is = plan_same (leader_of w.group v) led.leader
      (known_then w before (leader_of w.group v) e) (known_learned w (leader_of w.group v) s by loud) p is

  proposed_lower : (s : ℕ) (rows : List (List ℕ)) → IsProposed w v history s rows → (r : ℕ) → end_of plan < r → r ≤ s →
      (under : List (List ℕ)) × IsProposed w v history r under
  proposed_lower s rows is r above low = elim (cases_lt r s) [
    | inl less ↦
        let c = lower_before w (leader_of w.group v) v plan live leads history sound.legal plans_then s is.word is.said is.of_view
        is.numbered r above less in (
          rows_of_frames w.group c.0.frames,
          record { word = c.0; said = said_whole is.said.place c.1; of_view = c.2; numbered = c.3; are = refl },
        )
    | inr same ↦ let equal : s ≡ r = omega arith in (rows, subst (λ (x : ℕ). IsProposed w v history x rows) equal is)
  ]

  -- what a connected master's words offer
  pub offered_offer : (m : ℕ) → connected m ≡ true → (known : List (Signed Body)) → Within known (learned_by w history m) →
      (s : ℕ) (rows : List (List ℕ)) → offered (facts_of w.group known) v s ≡ Some rows → IsOffer w v plan history s rows
  offered_offer m is_m known within s rows e =
      let facts : List OrderFact = facts_of w.group known in
      let cases = offered_cases facts v s rows e in
      let is : cases.0 ≡ plan = plan_same m is_m known within cases.0 cases.1 in (
        subst (λ (p : Plan). p.base < s) is cases.2,
        elim cases.3 [
          | inl planned ↦ inl (subst (λ (p : Plan). (s ≤ end_of p) × (slice_get p.rows (s - p.base - 1) ≡ Some rows)) is planned)
          | inr beyond ↦ inr (
            subst (λ (p : Plan). end_of p < s) is beyond.0,
            by_word (in_filter_map_from (proposal_in v s) facts (first_in (filter_map (proposal_in v s) facts) beyond.1)),
          )
        ],
      )
    where
      by_word : (x : OrderFact) × IsIn x (facts_of w.group known) × (proposal_in v s x ≡ Some rows) → IsProposed w v history s rows
      by_word found =
          let told = proposal_told w.group known v s rows (subst (λ (x : OrderFact). IsIn x (facts_of w.group known))
          (proposal_in_from v s found.0 rows found.2) found.1) in
          let word = told.2 in
          let signer : told.0.signer ≡ leader_of w.group v = of_leader w m history live sound.legal (are.correct m is_m) told.0
          (within told.0 told.1) word.0 word.1 ∙ ap (leader_of w.group) word.2 in
          let said : HasSaid history told.0.signer told.0.body = learned_said w m history sound.legal sound.unforged
          (are.correct m is_m) told.0 (within told.0 told.1) (subst (λ (i : ℕ). is_correct w i ≡ true) (sym signer)
          (correct_too w (leader_of w.group v) leads)) in
          record {
            word = word.0;
            said = subst (λ (b : Body). HasSaid history (leader_of w.group v) b) word.1
                (subst (λ (i : ℕ). HasSaid history i told.0.body) signer said);
            of_view = word.2;
            numbered = word.3;
            are = word.4;
          }

  pub offer_same : (s : ℕ) (a b : List (List ℕ)) → IsOffer w v plan history s a → IsOffer w v plan history s b → a ≡ b
  offer_same s a b (above, inl one) (also, inl other) = some_same (sym one.1 ∙ other.1)
  offer_same s a b (above, inl one) (also, inr other) =
      let low : s ≤ end_of plan = one.0 in
      let high : end_of plan < s = other.0 in
      absurd (omega arith)
  offer_same s a b (above, inr one) (also, inl other) =
      let high : end_of plan < s = one.0 in
      let low : s ≤ end_of plan = other.0 in
      absurd (omega arith)
  offer_same s a b (above, inr one) (also, inr other) = proposed_same s a b one.1 other.1

  pub offer_lower : (s : ℕ) (rows : List (List ℕ)) → IsOffer w v plan history s rows → (r : ℕ) → plan.base < r → r ≤ s →
      (under : List (List ℕ)) × IsOffer w v plan history r under
  offer_lower s rows is r above low = elim (cases_lt (end_of plan) r) [
    | inr within ↦
        let found = slice_there plan.rows (r - plan.base - 1) (omega arith) in
        (found.0, (above, inl (within, found.1)))
    | inl beyond ↦ elim is.1 [
      | inl planned ↦ let short : s ≤ end_of plan = planned.0 in absurd (omega arith)
      | inr proposed ↦
          let under = proposed_lower s rows proposed.1 r beyond low in
          (under.0, (above, inr (beyond, under.1)))
    ]
  ]

  -- a master that knows the plan, and the proposal of a number beyond it, finds it offered
  pub offered_known : (m : ℕ) → connected m ≡ true → (known : List (Signed Body)) → Within known (learned_by w history m)
      → plan_known (facts_of w.group known) v ≡ Some plan
      → (p : Signed Body) (b : PrePrepare) → IsIn p known → p.body ≡ body.PrePrepare b → b.v ≡ v
      → (s : ℕ) (rows : List (List ℕ)) → b.s ≡ s → end_of plan < s → IsProposed w v history s rows
      → offered (facts_of w.group known) v s ≡ Some rows
  offered_known m is_m known within knows p b among is of_v s rows number beyond proposes =
      let facts : List OrderFact = facts_of w.group known in
      let made : List (List ℕ) = rows_of_frames w.group b.frames in
      let first = first_there (in_filter_map (proposal_in v s) (told_proposal w.group known p b among is)
      (proposal_at b v s made of_v number)) in
      let found : offered (facts_of w.group known) v s ≡ Some first.0 = offered_beyond facts v s plan knows beyond ∙ first.1 in
      let same : first.0 ≡ rows = offer_same s first.0 rows (offered_offer m is_m known within s first.0 found)
      (omega arith, inr (beyond, proposes)) in
      found ∙ ap (λ (x : List (List ℕ)). Some x) same

pub offered_is_offer : OfferedIsOffer
offered_is_offer w connected v plan beginning whole live sound are led m is_m s rows e =
    let is = offered_offer w connected v plan beginning whole live sound are led m is_m (known_by w whole m)
    (known_of_within (heard w whole m)) s rows e in (
      is,
      (λ other also. offer_same w connected v plan beginning whole live sound are led s other rows also is),
      (λ r above low. offer_lower w connected v plan beginning whole live sound are led s rows is r above low),
    )
