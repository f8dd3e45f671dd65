-- What a correct leader proposes: at a tick of its view, the number after the plan and all that it offered in it, with rows
-- that make more eligible than what it counts. So it proposed each lower number beyond the plan before. And each proposal
-- that a correct master knows is of the leader of its view.
use Rattle.std.proofs.Common.{◌≡◌, ℕ, ◌+◌, ◌-◌, ◌<◌, ◌≤◌, zero, suc, Bool, true, false, cond, ◌&&◌, List, [], ◌∷◌}
use Rattle.std.proofs.Common.{Option, Some, None, length, max, nat_eq, nat_lt, nat_le, refl, sym, ◌∙◌, ap, subst, inl, inr}
use Rattle.std.proofs.Common.{arith, if◌then◌else◌, eqb-true}
use Rattle.std.proofs.lemmas.Bool.{and_parts, cases_lt, leb-true}
use Rattle.std.specs.List.{filter_map, flat_map, list_all}
use Rattle.plain_lists.specs.Lists.{IsIn}
use Rattle.plain_lists.proofs.Members.{none_in, in_cons_cases, in_cases, in_filter, in_filter_map_from, all_at, some_same, none_some}
use Rattle.message_types.specs.declared.signed.Signed.{Signed}
use Rattle.message_types.specs.declared.ordering.PrePrepare.{PrePrepare}
use Rattle.message_types.specs.declared.views.Plan.{Plan}
use Rattle.message_types.specs.declared.body.Body.{Body}
use Rattle.message_types.specs.declared.body.Body.TheVariants as body
use Rattle.message_types.specs.Parts.{parts}
use Rattle.message_types.specs.Spelling.{has_spelling}
use Rattle.message_types.specs.Texts.{body_text}
use Rattle.protocol_rules.specs.Words.{greatest_of, numbers_from}
use Rattle.protocol_rules.specs.Group.{Group, is_live, leader_of, most_number, window}
use Rattle.protocol_rules.specs.Facts.{facts_of}
use Rattle.protocol_rules.specs.Matrix.{latest_frames, reach, exceeds}
use Rattle.protocol_rules.specs.Order.{gapless, stable, plan_known}
use Rattle.protocol_rules.specs.Places.{in_place}
use Rattle.protocol_rules.specs.Views.{view, is_open}
use Rattle.protocol_rules.specs.Master.{said_before, latest_rows, next_number, offered_number, counted_rows, preprepares_due, taken_frames}
use Rattle.protocol_rules.specs.Master.{whole_preprepares_due}
use Rattle.history_rules.specs.Events.{Event, Took, Entry, frame_taken, is_tick, is_silent}
use Rattle.history_rules.specs.Setup.{Setup, is_correct_master, stands}
use Rattle.history_rules.specs.Legal.{Stands, IsLegal, TakesWell, heard}
use Rattle.history_rules.specs.Audit.{HasSaid}
use Rattle.agreement.proofs.Places.{said_whole, stands_on, legal_before}
use Rattle.agreement.proofs.KnownAsItGrows.{known_then, learned_by, correct_said}
use Rattle.agreement.proofs.SpokenByKind.{if_some}
use Rattle.agreement.proofs.LearnedWasSaid.{FirstSaid, first_said_before, learned_all}
use Rattle.words_by_part.specs.Kinds.{is_of, offering}
use Rattle.words_by_part.proofs.Answering.{answers_by_live_part}
use Rattle.progress.proofs.Turning.{greatest_in}

pub in_if : {X : Type 0} {x : X} (c : Bool) (xs : List X) → IsIn x (cond c xs []) → (c ≡ true) × IsIn x xs
in_if true xs h = (refl, h)
in_if false xs h = absurd (none_in h)

preprepare_same : {a b : PrePrepare} → body.PrePrepare a ≡ body.PrePrepare b → a ≡ b
preprepare_same e = cc

-- what a leader knew and had said when it proposed this
pub record Proposes (g : Group) (me : ℕ) (known : List (Signed Body)) (said : List Body) (b : PrePrepare) : Type 0 where
  pub plan : Plan
  pub planned : plan_known (facts_of g known) (view g known) ≡ Some plan
  pub based : plan.base ≤ gapless g (facts_of g known)
  pub leads : me ≡ leader_of g (view g known)
  pub of_view : b.v ≡ view g known
  pub next : b.s ≡ next_number said (view g known) plan
  pub latest : b.frames ≡ latest_frames g known
  pub low : b.s ≤ most_number
  pub more : exceeds g (latest_rows g known) (reach g (filter_map (counted_rows g (facts_of g known) (view g known) plan)
      (numbers_from 1 (b.s - 1)))) ≡ true

module _ (g : Group) (me : ℕ) (known : List (Signed Body)) (said : List Body) (at_tick : Bool) (b : PrePrepare) where
  abbrev v : ℕ
  v = view g known

  abbrev next : Plan → ℕ
  next plan = next_number said v plan

  abbrev adds_more : Plan → Bool
  adds_more plan = exceeds g (latest_rows g known)
      (reach g (filter_map (counted_rows g (facts_of g known) v plan) (numbers_from 1 (next plan - 1))))

  by_word : (plan : Plan) → plan_known (facts_of g known) v ≡ Some plan → plan.base ≤ gapless g (facts_of g known)
      → (at_tick && nat_eq me (leader_of g v)
      && is_open g known && nat_le (next plan) most_number && nat_le (next plan) (stable g (facts_of g known) + window)
      && adds_more plan) ≡ true
      → b ≡ record { v = v; s = next plan; frames = latest_frames g known } → Proposes g me known said b
  by_word plan is base may same =
      let more = and_parts _ (adds_more plan) may in
      let windows = and_parts _ (nat_le (next plan) (stable g (facts_of g known) + window)) more.0 in
      let most = and_parts _ (nat_le (next plan) most_number) windows.0 in
      let opened = and_parts _ (is_open g known) most.0 in
      let tick = and_parts at_tick (nat_eq me (leader_of g v)) opened.0 in
      let number : b.s ≡ next plan = ap (λ (x : PrePrepare). x.s) same in
      record {
        plan = plan;
        planned = is;
        based = base;
        leads = eqb-true me (leader_of g v) tick.1;
        of_view = ap (λ (x : PrePrepare). x.v) same;
        next = number;
        latest = ap (λ (x : PrePrepare). x.frames) same;
        low = subst (λ (x : ℕ). x ≤ most_number) (sym number) (leb-true (next plan) most_number most.1);
        more = subst (λ (x : ℕ). exceeds g (latest_rows g known) (reach g (filter_map
            (counted_rows g (facts_of g known) v plan) (numbers_from 1 (x - 1)))) ≡ true) (sym number) more.1;
      }

  by_plan : (o : Option Plan) → plan_known (facts_of g known) v ≡ o
      → ((plan : Plan) → plan_known (facts_of g known) v ≡ Some plan → plan.base ≤ gapless g (facts_of g known))
      → IsIn (body.PrePrepare b) (elim o [
        | None ↦ []
        | Some plan ↦
            let s = next_number said v plan in
            if at_tick && nat_eq me (leader_of g v) && is_open g known && nat_le s most_number
            && nat_le s (stable g (facts_of g known) + window)
            && exceeds g (latest_rows g known)
            (reach g (filter_map (counted_rows g (facts_of g known) v plan) (numbers_from 1 (s - 1))))
            then body.PrePrepare record { v = v; s = s; frames = latest_frames g known } ∷ []
            else []
      ]) → Proposes g me known said b
  by_plan None is base h = absurd (none_in h)
  by_plan (Some plan) is base h =
      let found = in_if _ (body.PrePrepare record { v = v; s = next plan; frames = latest_frames g known } ∷ []) h in
      elim (in_cons_cases found.1) [
        | inl same ↦ by_word plan is (base plan is) found.0 (preprepare_same same)
        | inr none ↦ absurd (none_in none)
      ]

  by_base : (o : Option Plan) → plan_known (facts_of g known) v ≡ o → IsIn (body.PrePrepare b) (elim o [
    | None ↦ []
    | Some plan ↦ if nat_le plan.base (gapless g (facts_of g known)) then
        preprepares_due g me known (facts_of g known) said at_tick else []
  ]) → Proposes g me known said b
  by_base None is h = absurd (none_in h)
  by_base (Some plan) is h =
      let due = in_if (nat_le plan.base (gapless g (facts_of g known)))
      (preprepares_due g me known (facts_of g known) said at_tick) h in
      by_plan (plan_known (facts_of g known) v) refl (λ other e. subst (λ (x : Plan). x.base ≤ gapless g (facts_of g known))
      (some_same (sym is ∙ e)) (leb-true plan.base (gapless g (facts_of g known)) due.0)) due.1

  pub proposal_due : IsIn (body.PrePrepare b) (whole_preprepares_due g me known (facts_of g known) said at_tick) →
      Proposes g me known said b
  proposal_due h = by_base (plan_known (facts_of g known) v) refl h

-- A proposal that a correct master said was due.
pub proposed : (w : Setup) {history before : List Entry} {e : Entry} (m : ℕ) (b : PrePrepare) → is_live w.group ≡ true
    → IsLegal w history → Stands history before e → e.actor ≡ m → is_correct_master w m ≡ true
    → IsIn (body.PrePrepare b) e.said → (is_silent e.event ≡ false)
    × Proposes w.group m (known_then w before m e) (said_before (heard w before m)) b
proposed w {before = before} {e} m b live legal s by correct among =
    let due = correct_said w m (body.PrePrepare b) legal s by correct among in
    let by_part = answers_by_live_part w.group w.orders m (heard w before m) (frame_taken e.event) (is_tick e.event) live in (
      due.0,
      proposal_due w.group m (known_then w before m e) (said_before (heard w before m)) (is_tick e.event) b
          (subst (λ (bs : List Body). IsIn (body.PrePrepare b) bs) by_part.offers (in_filter (is_of offering) due.1 refl)),
    )

-- the word proposes this number of the view
offered_from : (v s : ℕ) (word : Body) → offered_number v word ≡ Some s → (b : PrePrepare) × (word ≡ body.PrePrepare b)
    × (b.v ≡ v) × (b.s ≡ s)
offered_from v s (body.PrePrepare b) e = let is = if_some (nat_eq b.v v) e in (b, refl, eqb-true b.v v is.0, is.1)
offered_from v s _ e = absurd (none_some e)

-- Each lower number beyond the plan was proposed before.
module _ (w : Setup) (m v : ℕ) (plan : Plan) (live : is_live w.group ≡ true) (correct : is_correct_master w m ≡ true)
    (history : List Entry) (legal : IsLegal w history)
    (plans : (before : List Entry) (e : Entry) → Stands history before e → e.actor ≡ m → is_silent e.event ≡ false →
    (p : Plan) → plan_known (facts_of w.group (known_then w before m e)) v ≡ Some p → p ≡ plan) where
  pub lower_before : (s : ℕ) (b : PrePrepare) → (said : HasSaid history m (body.PrePrepare b)) → b.v ≡ v → b.s ≡ s
      → (r : ℕ) → plan.base + length plan.rows < r → r < s
      → (c : PrePrepare) × HasSaid said.before m (body.PrePrepare c) × (c.v ≡ v) × (c.s ≡ r)
  lower_before zero b said of_v number r above less = absurd (omega arith)
  lower_before (suc s) b said of_v number r above less =
      let words : List Body = said_before (heard w said.before m) in
      let due = proposed w m b live legal said.place said.by correct said.among in
      let at = due.1 in
      let is_v : view w.group (known_then w said.before m said.entry) ≡ v = sym at.of_view ∙ of_v in
      let plan_is : at.plan ≡ plan = plans said.before said.entry said.place said.by due.0 at.plan
      (ap (plan_known (facts_of w.group (known_then w said.before m said.entry))) (sym is_v) ∙ at.planned) in
      let next : b.s ≡ max (plan.base + length plan.rows) (greatest_of (filter_map (offered_number v)
      (said_before (heard w said.before m)))) + 1 = at.next
      ∙ ap (λ (p : Plan). next_number words (view w.group (known_then w said.before m said.entry)) p) plan_is
      ∙ ap (λ (x : ℕ). next_number words x plan) is_v in
      let last : greatest_of (filter_map (offered_number v) (said_before (heard w said.before m))) ≡ s =
      omega (arith, next, number, above, less) in
      let found = in_filter_map_from (offered_number v) words
      (greatest_in (filter_map (offered_number v) words) (omega (arith, last, above, less))) in
      let word = offered_from v (greatest_of (filter_map (offered_number v) words)) found.0 found.2 in
      let legal_then : IsLegal w said.before = legal_before w said.before (said.entry ∷ said.place.after)
      (subst (λ (xs : List Entry). IsLegal w xs) said.place.whole legal) in
      let first : FirstSaid w said.before m (body.PrePrepare word.0) = first_said_before w m (body.PrePrepare word.0) correct
      said.before legal_then (subst (λ (x : Body). IsIn x words) word.1 found.1) in
      let is : word.0.s ≡ s = word.3 ∙ last in
      elim (cases_lt r s) [
        | inl lower ↦
            let deeper = lower_before s word.0 record {
              before = first.said.before;
              entry = first.said.entry;
              place = subst (λ (xs : List Entry). Stands xs first.said.before first.said.entry) (sym said.place.whole)
                  (stands_on (said.entry ∷ said.place.after) first.said.place);
              by = first.said.by;
              among = first.said.among;
            } word.2 is r above lower in
            (deeper.0, said_whole first.said.place deeper.1, deeper.2, deeper.3)
        | inr same ↦ let equal : s ≡ r = omega (arith, same, less) in (word.0, first.said, word.2, is ∙ equal)
      ]

-- whoever a proposal in its place is of
placed_leader : (g : Group) (signer : ℕ) (word : Body) (sig : List ℕ) (b : PrePrepare) → word ≡ body.PrePrepare b →
    in_place g record { signer = signer; body = word; sig = sig } ≡ true → signer ≡ leader_of g b.v
placed_leader g signer word sig b is placed =
    let here = subst (λ (x : Body). in_place g record { signer = signer; body = x; sig = sig } ≡ true) is placed in
    eqb-true signer (leader_of g b.v) (and_parts _ (nat_eq signer (leader_of g b.v)) (and_parts (nat_lt signer g.n) _ here).1).1

taken_leader : (w : Setup) (now : ℕ) (event : Event) → TakesWell w now event → (p : Signed Body) →
    IsIn p (flat_map parts (taken_frames (frame_taken event))) → (b : PrePrepare) → p.body ≡ body.PrePrepare b
    → p.signer ≡ leader_of w.group b.v
unfolding stands
taken_leader w now (Took stamp place frame) well p h b is = elim (in_cases (parts frame) h) [
  | inl part ↦
      let each = (and_parts (has_spelling frame) (list_all (λ p. nat_lt p.signer (w.group.n + w.group.clients)
      && w.signs p.signer (body_text p.body) p.sig && in_place w.group p) (parts frame)) well.0).1 in
      placed_leader w.group p.signer p.body p.sig b is (and_parts _ (in_place w.group p)
      (all_at (λ p. nat_lt p.signer (w.group.n + w.group.clients) && w.signs p.signer (body_text p.body) p.sig
      && in_place w.group p) part each)).1
  | inr none ↦ absurd (none_in none)
]
taken_leader w now _ well p h b is = absurd (none_in h)

-- Each proposal that a correct master learned is of the leader of its view.
pub of_leader : (w : Setup) (i : ℕ) (history : List Entry) → is_live w.group ≡ true → IsLegal w history
    → is_correct_master w i ≡ true → (p : Signed Body) → IsIn p (learned_by w history i) → (b : PrePrepare)
    → p.body ≡ body.PrePrepare b → p.signer ≡ leader_of w.group b.v
of_leader w i history live legal correct = learned_all w i history (λ p. (b : PrePrepare) → p.body ≡ body.PrePrepare b →
    p.signer ≡ leader_of w.group b.v) legal correct
    (λ before e s by p h b is. taken_leader w (length before) e.event (legal.entries before e s).taken p h b is)
    (λ before e s by loud known p signer h due b is.
    let at = (proposed w i b live legal s by correct (subst (λ (x : Body). IsIn x e.said) is h)).1 in
    signer ∙ at.leads ∙ ap (leader_of w.group) (sym at.of_view))
