-- A correct master answers another one's asks within that one's share, which never falls.
use Rattle.std.proofs.Common.{◌≡◌, ℕ, zero, suc, ◌+◌, ◌*◌, ◌/◌, ◌<◌, ◌≤◌, Bool, true, false, cond, ◌&&◌, not, List, [], ◌∷◌, ◌++◌}
use Rattle.std.proofs.Common.{Option, Some, None, length, filter, map, nat_eq, nat_lt, sum, refl, sym, ◌∙◌, ap, subst, inl, inr, ◌⊎◌, arith}
use Rattle.std.proofs.lemmas.Bool.{false≢true, cases_eq, ne_eqb, ltb-true}
use Rattle.std.proofs.lemmas.List.Elements.{filter_map-append}
use Rattle.std.proofs.lemmas.List.Sums.{sum-map, sum_by-cons}
use Rattle.std.specs.Prelude.{if◌then◌else◌}
use Rattle.std.specs.List.{list_any, cons_option}
use Rattle.plain_lists.specs.Lists.{IsIn, Begins}
use Rattle.plain_lists.proofs.Members.{none_in, any_from, in_map, in_take, in_filter, in_filter_from, in_cases}
use Rattle.message_types.specs.declared.signed.Signed.{Signed}
use Rattle.message_types.specs.declared.body.Body.{Body}
use Rattle.message_types.specs.declared.body.Body.TheVariants as body
use Rattle.quorum_sets.specs.Masters.{numbers_below}
use Rattle.protocol_rules.specs.Group.{Group, is_live}
use Rattle.protocol_rules.specs.Facts.{facts_of}
use Rattle.protocol_rules.specs.Preorder.{vector}
use Rattle.protocol_rules.specs.Lacking.{answers_ask, gift_for, share, gift_due}
use Rattle.protocol_rules.specs.Master.{Heard, known_at, answered_in, is_give, is_order_given}
use Rattle.history_rules.specs.Setup.{Setup, is_correct_master}
use Rattle.history_rules.specs.Legal.{known_of}
use Rattle.agreement.proofs.VouchedIsOrdered.{known_of_last, known_of_grows}
use Rattle.words_by_part.specs.Kinds.{is_of, giving}
use Rattle.progress.proofs.Summing.{vector_more}
use Rattle.progress.proofs.Worthy.{gapless_more}
use Rattle.progress_bounds.specs.Bounds.{AsksWithinShare, ticks_in, answered_of}
use Rattle.progress_bounds.proofs.Events.{by_events}
use Rattle.progress_bounds.proofs.Counting.{one, one_most, count-append, count-cons}
use Rattle.progress_bounds.proofs.Rates.{due, by_part, ticks_more}

-- where each number rises, so does the sum
sum_more : (f g : ℕ → ℕ) (xs : List ℕ) → ((x : ℕ) → f x ≤ g x) → sum (map f xs) ≤ sum (map g xs)
sum_more f g [] more = omega arith
sum_more f g (x ∷ xs) more =
    let first = sum-map f (x ∷ xs) in
    let first_head = sum_by-cons f x xs in
    let first_rest = sum-map f xs in
    let second = sum-map g (x ∷ xs) in
    let second_head = sum_by-cons g x xs in
    let second_rest = sum-map g xs in
    let deeper = sum_more f g xs more in
    let now = more x in
    omega arith

share_more : (g : Group) (known more : List (Signed Body)) (now later : ℕ) → Begins known more → now ≤ later →
    share g known (facts_of g known) now ≤ share g more (facts_of g more) later
share_more g known more now later b le =
    let numbers = gapless_more g known more b in
    let requests = sum_more (vector g known) (vector g more) (numbers_below g.n) (λ j. vector_more g known more j b) in
    omega arith

-- what answers an ask is a gift
gift_kind : (asked word : Body) → answers_ask asked word ≡ true → is_of giving word ≡ true
gift_kind (body.AskUpdate b) (body.Give c) e = refl
gift_kind (body.AskUpdate b) _ e = absurd (false≢true e)
gift_kind (body.AskOrder b) (body.GiveOrdered c) e = refl
gift_kind (body.AskOrder b) _ e = absurd (false≢true e)
gift_kind _ word e = absurd (false≢true e)

-- a gift is given for a frame within its signer's share
gift_within : (g : Group) (me : ℕ) (known : List (Signed Body)) (answered : List ℕ) (f : Signed Body) (now : ℕ) (b : Body)
    → IsIn b (gift_due g me known (facts_of g known) answered (Some f) now)
    → length (filter (nat_eq f.signer) answered) < share g known (facts_of g known) now
gift_within g me known answered f now b h = by (nat_lt f.signer g.n && not (nat_eq f.signer me))
    (nat_lt (length (filter (nat_eq f.signer) answered)) (share g known (facts_of g known) now)) refl h
  where
    by : (other within : Bool)
        → nat_lt (length (filter (nat_eq f.signer) answered)) (share g known (facts_of g known) now) ≡ within
        → IsIn b (cond (other && within) (gift_for g known (facts_of g known) f.body) [])
        → length (filter (nat_eq f.signer) answered) < share g known (facts_of g known) now
    by true true e i = ltb-true (length (filter (nat_eq f.signer) answered)) (share g known (facts_of g known) now) e
    by true false e i = absurd (none_in i)
    by false within e i = absurd (none_in i)

-- the asker that one event answered
abbrev answered_now : Heard → Option ℕ
answered_now h = elim h.took [
  | None ↦ None
  | Some f ↦ if list_any (λ said. answers_ask f.body said.body) h.said then Some f.signer else None
]

answered_more : (asker : ℕ) (before : List Heard) (h : Heard) →
    answered_of asker (before ++ h ∷ []) ≡ answered_of asker before
    + length (filter (nat_eq asker) (cons_option (answered_now h) []))
answered_more asker before h = ap (λ (xs : List ℕ). length (filter (nat_eq asker) xs))
    (filter_map-append answered_now before (h ∷ []))
    ∙ count-append (nat_eq asker) (answered_in before) (cons_option (answered_now h) [])

module _ (w : Setup) (m : ℕ) (live : is_live w.group ≡ true) (correct : is_correct_master w m ≡ true) (asker : ℕ) where
  -- the share, where these events were heard
  abbrev share_after : List Heard → ℕ
  share_after hs = share w.group (known_of hs) (facts_of w.group (known_of hs)) (ticks_in hs)

  step : (before : List Heard) (h : Heard) (r : ℕ) → answered_of asker before ≤ share_after before
      → map (λ f. f.body) h.said ≡ Rattle.std.proofs.Common.take r (due w m live correct before h.took h.is_tick)
      → answered_of asker (before ++ h ∷ []) ≤ share_after (before ++ h ∷ [])
  step before h r was said =
      let ticks : ticks_in (before ++ h ∷ []) ≡ ticks_in before + one h.is_tick = ticks_more before h in
      let grown : share_after before ≤ share_after (before ++ h ∷ []) = share_more w.group (known_of before)
      (known_of (before ++ h ∷ [])) (ticks_in before) (ticks_in (before ++ h ∷ [])) (known_of_grows before (h ∷ [])) (omega arith) in
      let all = answered_more asker before h in
      elim (by_took h.took refl) [
        | inl none ↦ omega arith
        | inr some ↦ omega arith
      ]
    where
      now : ℕ
      now = ticks_in before + one h.is_tick

      -- the share at this event
      share_now : share w.group (known_at before h.took) (facts_of w.group (known_at before h.took)) now
          ≡ share_after (before ++ h ∷ [])
      share_now = λ i. share w.group (sym (known_of_last before h) i) (facts_of w.group (sym (known_of_last before h) i))
          (sym (ticks_more before h) i)

      -- nothing is counted, or one more than so many that are below the share
      Counted : Type 0
      Counted = (length (filter (nat_eq asker) (cons_option (answered_now h) [])) ≡ 0)
          ⊎ ((length (filter (nat_eq asker) (cons_option (answered_now h) [])) ≤ 1)
          × (answered_of asker before < share_after (before ++ h ∷ [])))

      answer_with : Option (Signed Body) → Option ℕ
      answer_with o = elim o [
        | None ↦ None
        | Some f ↦ if list_any (λ said. answers_ask f.body said.body) h.said then Some f.signer else None
      ]

      -- what answers the frame taken is a gift, which was within its signer's share
      within : (f : Signed Body) → h.took ≡ Some f → list_any (λ said. answers_ask f.body said.body) h.said ≡ true →
          length (filter (nat_eq f.signer) (answered_in before))
          < share w.group (known_at before h.took) (facts_of w.group (known_at before h.took)) now
      within f e g =
          let found = any_from (λ (x : Signed Body). answers_ask f.body x.body) h.said g in
          let word : Body = found.0.body in
          let told : IsIn word (map (λ (x : Signed Body). x.body) h.said) = in_map (λ (x : Signed Body). x.body) found.1 in
          let said_now : IsIn word (due w m live correct before h.took h.is_tick) =
          in_take r (due w m live correct before h.took h.is_tick) (subst (λ (bs : List Body). IsIn word bs) said told) in
          let kept : IsIn word (filter (is_of giving) (due w m live correct before h.took h.is_tick)) =
          in_filter (is_of giving) said_now (gift_kind f.body word found.2) in
          let gifts : List Body = gift_due w.group m (known_at before h.took) (facts_of w.group (known_at before h.took))
          (answered_in before) h.took now in
          let parted : IsIn word (filter is_give gifts ++ filter is_order_given gifts) =
          subst (λ (bs : List Body). IsIn word bs) (by_part w m live correct before h.took h.is_tick).gifts kept in
          let given : IsIn word gifts = elim (in_cases (filter is_give gifts) parted) [
            | inl one_kind ↦ (in_filter_from is_give gifts one_kind).0
            | inr other ↦ (in_filter_from is_order_given gifts other).0
          ] in
          gift_within w.group m (known_at before h.took) (answered_in before) f now word
          (subst (λ (o : Option (Signed Body)). IsIn word (gift_due w.group m (known_at before h.took)
          (facts_of w.group (known_at before h.took)) (answered_in before) o now)) e given)

      by_answer : (f : Signed Body) → h.took ≡ Some f → (b : Bool) →
          list_any (λ said. answers_ask f.body said.body) h.said ≡ b → Counted
      by_answer f e false g = inl (ap (λ o. length (filter (nat_eq asker) (cons_option (answer_with o) []))) e
          ∙ ap (λ b. length (filter (nat_eq asker) (cons_option (cond b (Some f.signer) None) []))) g)
      by_answer f e true g =
          let is : length (filter (nat_eq asker) (cons_option (answered_now h) [])) ≡ length
          (filter (nat_eq asker) (f.signer ∷ [])) = ap (λ o. length (filter (nat_eq asker) (cons_option (answer_with o) []))) e
          ∙ ap (λ b. length (filter (nat_eq asker) (cons_option (cond b (Some f.signer) None) []))) g in
          elim (cases_eq asker f.signer) [
            | inl same ↦
                let low = within f e g in
                let counted : answered_of asker before ≡ length (filter (nat_eq f.signer) (answered_in before)) =
                ap (λ x. length (filter (nat_eq x) (answered_in before))) same in
                let last = count-cons (nat_eq asker) f.signer [] in
                let most = one_most (nat_eq asker f.signer) in
                let there = share_now in
                inr (omega arith, omega arith)
            | inr apart ↦
                let last = count-cons (nat_eq asker) f.signer [] in
                let missed : one (nat_eq asker f.signer) ≡ 0 = ap one (ne_eqb asker f.signer apart) in
                inl (omega arith)
          ]

      by_took : (o : Option (Signed Body)) → h.took ≡ o → Counted
      by_took None e = inl (ap (λ o. length (filter (nat_eq asker) (cons_option (answer_with o) []))) e)
      by_took (Some f) e = by_answer f e (list_any (λ said. answers_ask f.body said.body) h.said) refl

pub asks_within_share : AsksWithinShare
asks_within_share w history m asker bound = by_events w m
    (λ hs. answered_of asker hs ≤ share w.group (known_of hs) (facts_of w.group (known_of hs)) (ticks_in hs)) bound.correct
    (omega arith) (step w m bound.live bound.correct asker) history bound.legal
