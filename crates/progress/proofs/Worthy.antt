-- What the leader proposed is worth a prepare at each connected master a round later. Each number beyond the plan adds something
-- there: it did so for the leader when it proposed it, over the rows of all lower numbers; and all that stands at lower
-- numbers for a follower the leader counted: up to the plan's base what is ordered, above it what the view offers.
use Rattle.std.proofs.Common.{◌≡◌, ℕ, ◌+◌, ◌-◌, ◌<◌, ◌≤◌, zero, suc, Bool, true, false, cond, ◌||◌, List, [], ◌∷◌, ◌++◌}
use Rattle.std.proofs.Common.{Option, Some, None, length, map, nat_eq, nat_lt, nat_le, refl, sym, ◌∙◌, ap, subst, inl, inr, ◌⊎◌}
use Rattle.std.proofs.Common.{arith, eqb-true, length-append}
use Rattle.std.proofs.lemmas.Bool.{and_from, or_left, or_right, cases_lt, cases_eq, lt-ltb, ltb-true, eq-eqb, ne_eqb}
use Rattle.std.proofs.lemmas.Bool.{not_from_false, le-leb}
use Rattle.std.specs.List.{list_all, find, filter_map}
use Rattle.plain_lists.specs.Lists.{IsIn, here, there, Begins, Within}
use Rattle.plain_lists.proofs.Members.{none_in, in_cons_cases, in_cases, in_filter_map, in_filter_map_from, any_from, any_in}
use Rattle.plain_lists.proofs.Members.{find_some, none_some}
use Rattle.quorum_sets.specs.Masters.{numbers_below}
use Rattle.message_types.specs.declared.signed.Signed.{Signed}
use Rattle.message_types.specs.declared.preordering.PoSummary.{PoSummary}
use Rattle.message_types.specs.declared.ordering.PrePrepare.{PrePrepare}
use Rattle.message_types.specs.declared.views.Plan.{Plan}
use Rattle.message_types.specs.declared.body.Body.{Body}
use Rattle.message_types.specs.declared.body.Body.TheVariants as body
use Rattle.protocol_rules.specs.declared.facts.OrderFact.{OrderFact}
use Rattle.protocol_rules.specs.Words.{or_else, run_from, numbers_from}
use Rattle.protocol_rules.specs.Group.{Group, is_live, leader_of, most_number}
use Rattle.protocol_rules.specs.Facts.{facts_of}
use Rattle.protocol_rules.specs.Matrix.{summary_of, tells_more, latest, latest_frames, row_of, rows_of_frames, eligible, reach, exceeds}
use Rattle.protocol_rules.specs.Order.{plan_known, offered, ordered, ordered_run, gapless}
use Rattle.protocol_rules.specs.Views.{view}
use Rattle.protocol_rules.specs.Worth.{stands_at, plan_end, rows_before, adds, is_worth}
use Rattle.protocol_rules.specs.Master.{latest_rows, counted_rows}
use Rattle.protocol_rules.proofs.Numbers.{from_in, from_below, from_above}
use Rattle.history_rules.specs.Events.{Entry, is_silent}
use Rattle.history_rules.specs.Setup.{Setup, is_correct_master}
use Rattle.history_rules.specs.Legal.{IsLegal, heard}
use Rattle.agreement.specs.Laws.{IsSound, known_by}
use Rattle.agreement.proofs.Places.{legal_before}
use Rattle.agreement.proofs.KnownAsItGrows.{learned_by, known_then, known_learned, learned_then, known_of_within}
use Rattle.agreement.proofs.SpokenByKind.{if_some}
use Rattle.agreement.proofs.FramesInside.{best_in}
use Rattle.agreement.proofs.ExecutedInTurn.{runs_grow}
use Rattle.agreement.proofs.OrdersAgree.{ordered_same}
use Rattle.agreement.proofs.VouchedIsOrdered.{ordered_stays}
use Rattle.progress.specs.Rounds.{AreConnected, goes_to}
use Rattle.progress.specs.Laws.{KnowsWord}
use Rattle.progress.specs.UnderLeader.{IsLed, IsProposed, IsOffer, end_of, ProposedIsWorth}
use Rattle.progress.proofs.Arriving.{known_grows, said_learned, words_arrive}
use Rattle.progress.proofs.Certifying.{find_there}
use Rattle.progress.proofs.Summing.{run_has}
use Rattle.progress.proofs.Proposing.{Proposes, proposed, lower_before}
use Rattle.progress.proofs.Proposed.{offered_planned, above_false, plan_kept, proposed_begun, offer_begun, offered_offer, offered_known}
use Rattle.progress.proofs.Proposed.{offer_lower, plans_then, leads}
use Rattle.progress.proofs.Settled.{sound_before, led_before, ordered_offer}

-- what a run holds is given of a number within it
pub run_member : {X : Type 0} (f : ℕ → Option X) (start most : ℕ) (x : X) → IsIn x (run_from f start most)
    → (k : ℕ) × (start ≤ k) × (k < start + length (run_from f start most)) × (f k ≡ Some x)
unfolding run_from
run_member f start zero x h = absurd (none_in h)
run_member {X} f start (suc most) x h = by (f start) refl h (λ later. run_member f (suc start) most x later)
  where
    by : (o : Option X) → f start ≡ o → IsIn x (elim o [ None ↦ [] | Some y ↦ y ∷ run_from f (suc start) most ])
        → (IsIn x (run_from f (suc start) most) → (k : ℕ) × (suc start ≤ k)
        × (k < suc start + length (run_from f (suc start) most)) × (f k ≡ Some x))
        → (k : ℕ) × (start ≤ k) × (k < start + length {A = X} (elim o [ None ↦ [] | Some y ↦ y ∷ run_from f (suc start) most ]))
        × (f k ≡ Some x)
    by None e h later = absurd (none_in h)
    by (Some y) e h later = elim (in_cons_cases h) [
      | inl same ↦ (start, omega arith, omega arith, e ∙ ap (λ (z : X). Some z) (sym same))
      | inr k ↦
          let found = later k in
          let low : suc start ≤ found.0 = found.1 in
          let high : found.0 < suc start + length (run_from f (suc start) most) = found.2 in
          (found.0, omega arith, omega arith, found.3)
    ]

pub all_from : {X : Type 0} (f : X → Bool) (xs : List X) → ((x : X) → IsIn x xs → f x ≡ true) → list_all f xs ≡ true
all_from f [] h = refl
all_from f (x ∷ xs) h = and_from (f x) (list_all f xs) (h x (here xs)) (all_from f xs (λ y k. h y (there x xs k)))

-- of rows that are among others no more is eligible
pub reach_member : (g : Group) (xs : List (List (List ℕ))) (x : List (List ℕ)) (j : ℕ) → IsIn x xs →
    eligible g x j ≤ reach g xs j
reach_member g [] x j h = absurd (none_in h)
reach_member g (y ∷ ys) x j h = elim (in_cons_cases h) [
  | inl same ↦ let equal : eligible g x j ≡ eligible g y j = ap (λ (z : List (List ℕ)). eligible g z j) same in omega arith
  | inr later ↦ let deeper : eligible g x j ≤ reach g ys j = reach_member g ys x j later in omega arith
]

pub reach_within : (g : Group) (xs ys : List (List (List ℕ))) (j : ℕ) → Within xs ys → reach g xs j ≤ reach g ys j
reach_within g [] ys j within = omega arith
reach_within g (x ∷ xs) ys j within =
    let first : eligible g x j ≤ reach g ys j = reach_member g ys x j (within x (here xs)) in
    let rest : reach g xs j ≤ reach g ys j = reach_within g xs ys j (λ y h. within y (there x xs h)) in
    omega arith

pub exceeds_less : (g : Group) (rows : List (List ℕ)) (f h : ℕ → ℕ) → ((j : ℕ) → h j ≤ f j) → exceeds g rows f ≡ true →
    exceeds g rows h ≡ true
exceeds_less g rows f h less e =
    let found = any_from (λ j. nat_lt (f j) (eligible g rows j)) (numbers_below g.n) e in
    let above : f found.0 < eligible g rows found.0 = ltb-true (f found.0) (eligible g rows found.0) found.2 in
    let low : h found.0 ≤ f found.0 = less found.0 in
    any_in (λ j. nat_lt (h j) (eligible g rows j)) found.1 (lt-ltb (h found.0) (eligible g rows found.0) (omega arith))

-- a latest summary is of its master
summary_signer : (i signer : ℕ) (word : Body) (sig : List ℕ) (f : Signed PoSummary) →
    summary_of i record { signer = signer; body = word; sig = sig } ≡ Some f → f.signer ≡ i
summary_signer i signer (body.PoSummary b) sig f e =
    let is = if_some (nat_eq signer i) e in ap (λ (x : Signed PoSummary). x.signer) (sym is.1) ∙ eqb-true signer i is.0
summary_signer i signer _ sig f e = absurd (none_some e)

latest_own : (known : List (Signed Body)) (i : ℕ) (f : Signed PoSummary) → latest known i ≡ Some f → f.signer ≡ i
unfolding latest
latest_own known i f e =
    let found = in_filter_map_from (summary_of i) known (best_in tells_more (filter_map (summary_of i) known) e) in
    summary_signer i found.0.signer found.0.body found.0.sig f found.2

-- of what a function gives of each master, each with its master's name, a master's is what the function gives of it
found_by_name : (f : ℕ → Option (Signed PoSummary)) (xs : List ℕ) (j : ℕ) →
    ((i : ℕ) (x : Signed PoSummary) → f i ≡ Some x → x.signer ≡ i) → IsIn j xs →
    find (λ x. nat_eq x.signer j) (filter_map f xs) ≡ f j
found_by_name f xs j own among = by (find (λ x. nat_eq x.signer j) (filter_map f xs)) refl (f j) refl
  where
    by : (o : Option (Signed PoSummary)) → find (λ x. nat_eq x.signer j) (filter_map f xs) ≡ o →
        (p : Option (Signed PoSummary)) → f j ≡ p → o ≡ p
    by None e None is = refl
    by None e (Some x) is =
        let there = find_there (λ (x : Signed PoSummary). nat_eq x.signer j) (in_filter_map f among is)
        (eq-eqb x.signer j (own j x is)) in
        absurd (none_some (sym e ∙ there.1))
    by (Some x) e p is =
        let found = find_some (λ (x : Signed PoSummary). nat_eq x.signer j) (filter_map f xs) e in
        let source = in_filter_map_from f xs found.0 in
        let same : source.0 ≡ j = sym (own source.0 x source.2) ∙ eqb-true x.signer j found.1 in
        sym source.2 ∙ ap f same ∙ is

map_alike : {X Y : Type 0} (f h : X → Y) (xs : List X) → ((x : X) → IsIn x xs → f x ≡ h x) → map f xs ≡ map h xs
map_alike f h [] same = refl
map_alike {X} {Y} f h (x ∷ xs) same = ap (λ (y : Y). y ∷ map f xs) (same x (here xs))
    ∙ ap (λ (ys : List Y). h x ∷ ys) (map_alike f h xs (λ y k. same y (there x xs k)))

-- The rows that a leader's frames make are those that it counted.
pub rows_latest : (g : Group) (known : List (Signed Body)) → rows_of_frames g (latest_frames g known) ≡ latest_rows g known
unfolding rows_of_frames
rows_latest g known = map_alike (λ j. row_of (latest_frames g known) j)
    (λ j. elim (latest known j) [ None ↦ [] | Some f ↦ f.body.numbers ]) (numbers_below g.n) (λ j among.
    ap (λ (o : Option (Signed PoSummary)). elim o as (λ _. List ℕ) [ None ↦ [] | Some f ↦ f.body.numbers ])
    (found_by_name (latest known) (numbers_below g.n) j (latest_own known) among))

-- what a leader counts at a number
pub counted_low : (g : Group) (facts : List OrderFact) (v r : ℕ) (plan : Plan) → r ≤ plan.base →
    counted_rows g facts v plan r ≡ ordered g facts r
counted_low g facts v r plan low = ap (λ (b : Bool). cond b (ordered g facts r) (offered facts v r)) (le-leb r plan.base low)

pub counted_high : (g : Group) (facts : List OrderFact) (v r : ℕ) (plan : Plan) → plan.base < r →
    counted_rows g facts v plan r ≡ offered facts v r
counted_high g facts v r plan above =
    ap (λ (b : Bool). cond b (ordered g facts r) (offered facts v r)) (above_false r plan.base above)

-- what is ordered without a gap
pub ordered_upto : (g : Group) (facts : List OrderFact) (r : ℕ) → 1 ≤ r → r ≤ gapless g facts →
    (x : List (List ℕ)) × (ordered g facts r ≡ Some x)
unfolding ordered_run
ordered_upto g facts r one low = run_has (ordered g facts) 1 most_number r one (omega arith)

-- it only grows
pub runs_more : (g : Group) (known more : List (Signed Body)) → Begins known more →
    Begins (ordered_run g (facts_of g known)) (ordered_run g (facts_of g more))
unfolding ordered_run
runs_more g known more b = runs_grow (ordered g (facts_of g known)) (ordered g (facts_of g more))
    (λ s rows e. ordered_later s rows e) 1 most_number
  where
    ordered_later : (s : ℕ) (rows : List (List ℕ)) → ordered g (facts_of g known) s ≡ Some rows →
        ordered g (facts_of g more) s ≡ Some rows
    ordered_later s rows e = subst (λ (ps : List (Signed Body)). ordered g (facts_of g ps) s ≡ Some rows) (sym b.same)
        (ordered_stays g known b.rest s rows e)

pub gapless_more : (g : Group) (known more : List (Signed Body)) → Begins known more →
    gapless g (facts_of g known) ≤ gapless g (facts_of g more)
gapless_more g known more b =
    let grown : Begins (ordered_run g (facts_of g known)) (ordered_run g (facts_of g more)) = runs_more g known more b in
    let all : length (ordered_run g (facts_of g more)) ≡ length (ordered_run g (facts_of g known)) + length grown.rest =
    ap length grown.same ∙ length-append (ordered_run g (facts_of g known)) grown.rest in
    omega arith

-- a proposal goes to every other master
pub proposal_sent : (g : Group) (m i : ℕ) (b : PrePrepare) → (m ≡ i) ⊎ (goes_to g i (body.PrePrepare b) m ≡ true)
proposal_sent g m i b = elim (cases_eq m i) [
  | inl same ↦ inl same
  | inr apart ↦ inr (not_from_false (nat_eq m i) (ne_eqb m i apart))
]

module _ (w : Setup) (connected : ℕ → Bool) (v : ℕ) (plan : Plan) (beginning history : List Entry)
    (live : is_live w.group ≡ true) (sound : IsSound w history) (are : AreConnected w connected)
    (led : IsLed w connected v plan beginning history) where
  -- a connected master knew these rows as ordered up to the base
  pub record IsBased (r : ℕ) (x : List (List ℕ)) : Type 0 where
    pub low : r ≤ plan.base
    pub master : ℕ
    pub is_one : connected master ≡ true
    pub known : List (Signed Body)
    pub within : Within known (learned_by w history master)
    pub holds : ordered w.group (facts_of w.group known) r ≡ Some x

  -- what counts below a number
  abbrev pub IsBelow : ℕ → List (List ℕ) → Type 0
  IsBelow r x = IsOffer w v plan history r x ⊎ IsBased r x

  module _ (t : ℕ) (rows : List (List ℕ)) (is : IsProposed w v history t rows) where
    abbrev leader : ℕ
    leader = leader_of w.group v

    abbrev known_at_it : List (Signed Body)
    known_at_it = known_then w is.said.before (leader_of w.group v) is.said.entry

    right : is_correct_master w (leader_of w.group v) ≡ true
    right = leads w connected v plan beginning history live sound are led

    -- what the leader counted at a lower number
    leader_counts : (at : Proposes w.group (leader_of w.group v) known_at_it
        (Rattle.protocol_rules.specs.Master.said_before (heard w is.said.before (leader_of w.group v))) is.word)
        → is_silent is.said.entry.event ≡ false → (r : ℕ) (x : List (List ℕ)) → 1 ≤ r → r < t → IsBelow r x
        → counted_rows w.group (facts_of w.group known_at_it) (view w.group known_at_it) at.plan r ≡ Some x
    leader_counts at loud r x one less below =
        let is_v : view w.group known_at_it ≡ v = sym at.of_view ∙ is.of_view in
        let knows : plan_known (facts_of w.group known_at_it) v ≡ Some at.plan =
        ap (plan_known (facts_of w.group known_at_it)) (sym is_v) ∙ at.planned in
        let plan_is : at.plan ≡ plan = plans_then w connected v plan beginning history live sound are led is.said.before
        is.said.entry is.said.place is.said.by loud at.plan knows in
        let whole : counted_rows w.group (facts_of w.group known_at_it) (view w.group known_at_it) at.plan r ≡ counted_rows w.group
        (facts_of w.group known_at_it) v plan r = ap (λ (p : Plan). counted_rows w.group (facts_of w.group known_at_it)
        (view w.group known_at_it) p r) plan_is ∙ ap (λ (y : ℕ). counted_rows w.group (facts_of w.group known_at_it) y plan r) is_v in
        let within : Within known_at_it (learned_by w history (leader_of w.group v)) = known_learned w leader is.said.place is.said.by
        loud in
        whole ∙ by_case within (knows ∙ ap (λ (p : Plan). Some p) plan_is)
        (subst (λ (p : Plan). p.base ≤ gapless w.group (facts_of w.group known_at_it)) plan_is at.based) below
      where
        by_case : Within known_at_it (learned_by w history (leader_of w.group v))
            → plan_known (facts_of w.group known_at_it) v ≡ Some plan
            → plan.base ≤ gapless w.group (facts_of w.group known_at_it) → IsBelow r x
            → counted_rows w.group (facts_of w.group known_at_it) v plan r ≡ Some x
        by_case within knows based (inr low) =
            let below_base : r ≤ plan.base = low.low in
            let own = ordered_upto w.group (facts_of w.group known_at_it) r one (omega (arith, below_base, based)) in
            let same : own.0 ≡ x = ordered_same w history sound leader low.master right (are.correct low.master low.is_one)
            known_at_it low.known within low.within r own.0 x own.1 low.holds in
            counted_low w.group (facts_of w.group known_at_it) v r plan low.low ∙ own.1
            ∙ ap (λ (y : List (List ℕ)). Some y) same
        by_case within knows based (inl (above, inl planned)) =
            counted_high w.group (facts_of w.group known_at_it) v r plan above
            ∙ offered_planned (facts_of w.group known_at_it) v r plan knows above planned.0 ∙ planned.1
        by_case within knows based (inl (above, inr beyond)) =
            let c = lower_before w leader v plan live right history sound.legal (plans_then w connected v plan beginning history
            live sound are led) t is.word is.said is.of_view is.numbered r beyond.0 less in
            let own : KnowsWord (learned_by w is.said.before (leader_of w.group v)) (leader_of w.group v) (body.PrePrepare c.0) =
            said_learned w leader (body.PrePrepare c.0) c.1.place c.1.by (proposed w leader c.0 live (legal_before w is.said.before
            (is.said.entry ∷ is.said.place.after) (subst (λ (xs : List Entry). IsLegal w xs) is.said.place.whole sound.legal))
            c.1.place c.1.by right c.1.among).0 c.1.among in
            counted_high w.group (facts_of w.group known_at_it) v r plan above
            ∙ offered_known w connected v plan beginning history live sound are led leader led.leader known_at_it within knows
            own.part c.0 (learned_then w is.said.before leader is.said.entry own.part own.among) own.word c.2 r x c.3 beyond.0
            beyond.1

    -- What the leader proposed as a number makes more eligible than what counts below it.
    pub proposed_adds : (before : List (List (List ℕ)))
        → ((x : List (List ℕ)) → IsIn x before → (r : ℕ) × (1 ≤ r) × (r < t) × IsBelow r x)
        → exceeds w.group rows (reach w.group before) ≡ true
    proposed_adds before under =
        let due = proposed w leader is.word live sound.legal is.said.place is.said.by right is.said.among in
        let at = due.1 in
        let counts = counted_rows w.group (facts_of w.group known_at_it) (view w.group known_at_it) at.plan in
        let more : exceeds w.group rows (reach w.group (filter_map counts (numbers_from 1 (t - 1)))) ≡ true =
        subst (λ (x : ℕ). exceeds w.group rows (reach w.group (filter_map counts (numbers_from 1 (x - 1)))) ≡ true) is.numbered
        (subst (λ (x : List (List ℕ)). exceeds w.group x (reach w.group (filter_map counts (numbers_from 1 (is.word.s - 1)))) ≡
        true) (sym (is.are ∙ ap (rows_of_frames w.group) at.latest ∙ rows_latest w.group known_at_it)) at.more) in
        exceeds_less w.group rows (reach w.group (filter_map counts (numbers_from 1 (t - 1)))) (reach w.group before)
        (λ j. reach_within w.group before (filter_map counts (numbers_from 1 (t - 1))) j (λ x h.
        let low = under x h in
        let one : 1 ≤ low.0 = low.1 in
        let less : low.0 < t = low.2 in
        in_filter_map counts (from_in 1 (t - 1) low.0 one (omega (arith, one, less)))
        (leader_counts at due.0 low.0 x one less low.3)))
        more

  module _ (m : ℕ) (is_m : connected m ≡ true) (known : List (Signed Body)) (within : Within known (learned_by w history m))
      (later : Begins (known_by w beginning m) known) where
    abbrev facts : List OrderFact
    facts = facts_of w.group known

    knows : plan_known (facts_of w.group known) v ≡ Some plan
    knows = plan_kept w.group (known_by w beginning m) known v plan later (led.planned m is_m)

    based : plan.base ≤ gapless w.group (facts_of w.group known)
    based =
        let first : plan.base ≤ gapless w.group (facts_of w.group (known_by w beginning m)) = led.based m is_m in
        let grown : gapless w.group (facts_of w.group (known_by w beginning m)) ≤ gapless w.group (facts_of w.group known) =
        gapless_more w.group (known_by w beginning m) known later in
        omega arith

    ends : plan_end (facts_of w.group known) v ≡ end_of plan
    ends = ap (λ (o : Option Plan). elim o as (λ _. ℕ) [ None ↦ 0 | Some plan ↦ plan.base + length plan.rows ]) knows

    -- what is ordered as a number, or stands at one
    ordered_below : (r : ℕ) (x : List (List ℕ)) → ordered w.group (facts_of w.group known) r ≡ Some x → IsBelow r x
    ordered_below r x e = elim (cases_lt plan.base r) [
      | inl above ↦ inl (ordered_offer w connected v plan beginning history live sound are led m is_m known within r x above e)
      | inr low ↦ inr record { low = low; master = m; is_one = is_m; known = known; within = within; holds = e }
    ]

    stands_below : (r : ℕ) (x : List (List ℕ)) → stands_at w.group (facts_of w.group known) v r ≡ Some x → IsBelow r x
    stands_below r x e = by (offered facts v r) refl e
      where
        by : (o : Option (List (List ℕ))) → offered (facts_of w.group known) v r ≡ o →
            or_else o (ordered w.group (facts_of w.group known) r) ≡ Some x → IsBelow r x
        by (Some y) is e = inl (offered_offer w connected v plan beginning history live sound are led m is_m known within r x
            (is ∙ e))
        by None is e = ordered_below r x e

    -- the rows that count before a number
    before_below : (t : ℕ) → gapless w.group (facts_of w.group known) < t → (x : List (List ℕ)) →
        IsIn x (rows_before w.group (facts_of w.group known) v t) → (r : ℕ) × (1 ≤ r) × (r < t) × IsBelow r x
    unfolding ordered_run
    before_below t above x h = elim (in_cases (ordered_run w.group (facts_of w.group known)) h) [
      | inl run ↦
          let found = run_member (ordered w.group facts) 1 most_number x run in
          let high : found.0 < 1 + length (run_from (ordered w.group (facts_of w.group known)) 1 most_number) = found.2 in
          (found.0, found.1, omega arith, ordered_below found.0 x found.3)
      | inr stood ↦
          let first : ℕ = gapless w.group facts + 1 in
          let count : ℕ = t - gapless w.group facts - 1 in
          let found = in_filter_map_from (stands_at w.group facts v) (numbers_from (gapless w.group facts + 1)
          (t - gapless w.group facts - 1)) stood in
          let low : gapless w.group (facts_of w.group known) + 1 ≤ found.0 = from_above first count found.0 found.1 in
          let high : found.0 < gapless w.group (facts_of w.group known) + 1 + (t - gapless w.group (facts_of w.group known) - 1) =
          from_below first count found.0 found.1 in
          (found.0, omega arith, omega arith, stands_below found.0 x found.2)
    ]

    -- each number that is offered and not yet ordered without a gap adds something, or is of the plan
    offered_adds : (t : ℕ) (rows : List (List ℕ)) → gapless w.group (facts_of w.group known) < t →
        offered (facts_of w.group known) v t ≡ Some rows → IsOffer w v plan history t rows
        → adds w.group (facts_of w.group known) v t ≡ true
    offered_adds t rows above e is =
        ap (λ (o : Option (List (List ℕ))). elim (or_else o (ordered w.group facts t)) as (λ _. Bool) [
          | None ↦ false
          | Some rows ↦ nat_le t (plan_end facts v) || exceeds w.group rows (reach w.group (rows_before w.group facts v t))
        ]) e ∙ elim is.1 [
          | inl planned ↦ or_left (nat_le t (plan_end facts v)) _ (le-leb t (plan_end facts v) (subst (λ (x : ℕ). t ≤ x)
              (sym ends) planned.0))
          | inr beyond ↦ or_right (nat_le t (plan_end facts v)) _ (proposed_adds t rows beyond.1
              (rows_before w.group facts v t) (before_below t above))
        ]

    pub worth_by : (s : ℕ) → ((t : ℕ) → plan.base < t → t ≤ s → (rows : List (List ℕ))
        × (offered (facts_of w.group known) v t ≡ Some rows) × IsOffer w v plan history t rows)
        → is_worth w.group (facts_of w.group known) v s ≡ true
    worth_by s all = or_right (nat_le s (plan_end facts v)) _ (all_from (adds w.group facts v)
        (numbers_from (gapless w.group facts + 1) (s - gapless w.group facts)) (λ t h.
        let low : gapless w.group (facts_of w.group known) + 1 ≤ t = from_above (gapless w.group facts + 1)
        (s - gapless w.group facts) t h in
        let high : t < gapless w.group (facts_of w.group known) + 1 + (s - gapless w.group (facts_of w.group known)) =
        from_below (gapless w.group facts + 1) (s - gapless w.group facts) t h in
        let base : plan.base ≤ gapless w.group (facts_of w.group known) = based in
        let found = all t (omega (arith, low, base)) (omega (arith, low, high)) in
        offered_adds t found.0 (omega (arith, low)) found.1 found.2))

pub proposed_is_worth : ProposedIsWorth
proposed_is_worth w connected v plan beginning middle round live sound are fair led begun s rows beyond is m is_m =
    let whole : List Entry = middle ++ round in
    let known : List (Signed Body) = known_by w whole m in
    let within : Within (known_by w (middle ++ round) m) (learned_by w (middle ++ round) m) = known_of_within (heard w whole m) in
    let later : Begins (known_by w beginning m) (known_by w (middle ++ round) m) = known_grows w whole beginning m led.begins in
    let knows : plan_known (facts_of w.group (known_by w (middle ++ round) m)) v ≡ Some plan = plan_kept w.group
    (known_by w beginning m) known v plan later (led.planned m is_m) in
    let on : Begins middle (middle ++ round) = record { rest = round; same = refl } in
    let arrives : (t : ℕ) (x : List (List ℕ)) → end_of plan < t → IsProposed w v middle t x →
    offered (facts_of w.group (known_by w (middle ++ round) m)) v t ≡ Some x = λ t x high proposes.
    let knows_it : KnowsWord (known_by w (middle ++ round) m) (leader_of w.group v) (body.PrePrepare proposes.word) =
    words_arrive w connected middle round sound.legal are fair (leader_of w.group v) m led.leader is_m
    (body.PrePrepare proposes.word) proposes.said (proposal_sent w.group m (leader_of w.group v) proposes.word) in
    offered_known w connected v plan beginning whole live sound are led m is_m known within knows knows_it.part proposes.word
    knows_it.among knows_it.word proposes.of_view t x proposes.numbered high (proposed_begun w v t x on proposes) in
    let offers : (t : ℕ) (x : List (List ℕ)) → IsOffer w v plan middle t x →
    offered (facts_of w.group (known_by w (middle ++ round) m)) v t ≡ Some x = λ t x offer. elim offer.1 [
      | inl planned ↦ offered_planned (facts_of w.group known) v t plan knows offer.0 planned.0 ∙ planned.1
      | inr more ↦ arrives t x more.0 more.1
    ] in
    let offer : IsOffer w v plan middle s rows = (omega arith, inr (beyond, is)) in (
      offers s rows offer,
      worth_by w connected v plan beginning whole live sound are led m is_m known within later s (λ t above low.
          let under = offer_lower w connected v plan beginning middle live (sound_before w middle round sound) are
          (led_before w connected v plan beginning middle round begun led) s rows offer t above low in
          (under.0, offers t under.0 under.1, offer_begun w v plan t under.0 on under.1)),
    )
