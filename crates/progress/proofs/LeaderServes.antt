-- A connected leader serves. What is eligible at one connected master all have certified some rounds later, and ordered six
-- after those, as long as they stay; so up to the end of any round each was served within that many rounds and one, hence in
-- time, hence they stay that round too.
use Rattle.std.proofs.Common.{◌≡◌, ℕ, ◌+◌, ◌*◌, ◌<◌, ◌≤◌, Bool, true, List, [], ◌∷◌, ◌++◌, length, sym, ◌∙◌, ap, subst}
use Rattle.std.proofs.Common.{inl, inr, arith, append_assoc, append-nil, length-append}
use Rattle.std.proofs.lemmas.Bool.{cases_lt, cases_Bool}
use Rattle.plain_lists.specs.Lists.{IsIn, Begins}
use Rattle.plain_lists.proofs.Members.{in_left}
use Rattle.message_types.specs.declared.views.Plan.{Plan}
use Rattle.protocol_rules.specs.Group.{is_live, most_number, window}
use Rattle.protocol_rules.specs.Facts.{facts_of}
use Rattle.protocol_rules.specs.Matrix.{eligible}
use Rattle.protocol_rules.specs.Order.{stable}
use Rattle.protocol_rules.specs.Preorder.{vector}
use Rattle.protocol_rules.specs.Views.{view}
use Rattle.protocol_rules.specs.Master.{latest_rows}
use Rattle.history_rules.specs.Events.{Entry}
use Rattle.history_rules.specs.Setup.{Setup, room, own}
use Rattle.agreement.specs.Laws.{IsSound, known_by}
use Rattle.agreement.proofs.Places.{by_growth}
use Rattle.progress.specs.Rounds.{AreConnected, AreRounds, then_rounds}
use Rattle.progress.specs.Laws.{next_offer}
use Rattle.progress.specs.UnderLeader.{IsLed}
use Rattle.progress.specs.Serving.{ordered_to, patience_by, AreServed}
use Rattle.progress.specs.Keeping.{HaveFewTicks, AreServedWithin, NoneHidden, BeginsLed, HaveSpace, LeaderServes, LeaderIsKept}
use Rattle.progress.proofs.Reaching.{left_before}
use Rattle.progress.proofs.Introducing.{begins_init}
use Rattle.progress.proofs.Settled.{sound_before}
use Rattle.progress.proofs.Ordered.{begins_through}
use Rattle.progress.proofs.OrderedThere.{next_later, certified_is_ordered, uncons, emptied}
use Rattle.progress.proofs.Arriving.{known_grows}
use Rattle.progress.proofs.Summing.{vector_more}
use Rattle.progress.proofs.Shown.{connected_are_shown}
use Rattle.progress.proofs.UnderLeader.{rounds_begin}
use Rattle.progress.proofs.Impatient.{ordered_more, view_later}
use Rattle.progress.proofs.Kept.{served_is_kept}
use Rattle.progress.proofs.InRounds.{cut, rounds_joined, rounds_first, rounds_behind, rounds_before, served_in_rounds}

module _ (w : Setup) (connected : ℕ → Bool) (v count early most : ℕ) (plan : Plan) (beginning : List Entry)
    (rounds : List (List Entry)) (live : is_live w.group ≡ true) (sound : IsSound w (then_rounds beginning rounds))
    (are : AreConnected w connected) (fair : AreRounds w connected beginning rounds)
    (start : BeginsLed w connected v plan beginning) (space : HaveSpace w connected v plan beginning rounds)
    (few : HaveFewTicks w connected v early most beginning rounds) (two_rounds : 2 ≤ count)
    (hidden : NoneHidden w connected v count beginning rounds)
    (patient : (upto : List Entry) → Begins upto (then_rounds beginning rounds) → (m : ℕ) → connected m ≡ true →
    (count + 8) * most + early < patience_by w upto m v) where
  -- all connected masters are in the view after these rounds
  abbrev Stay : List (List Entry) → Type 0
  Stay xs = (m : ℕ) → connected m ≡ true → view w.group (known_by w (then_rounds beginning xs) m) ≡ v

  -- the first rounds make a beginning of the whole
  first_of : (xs ys : List (List Entry)) → rounds ≡ xs ++ ys → Begins (then_rounds beginning xs) (then_rounds beginning rounds)
  first_of xs ys e = subst (λ (rs : List (List Entry)). Begins (then_rounds beginning xs) (then_rounds beginning rs)) (sym e)
      (rounds_first beginning xs ys)

  sound_first : (upto : List Entry) → Begins upto (then_rounds beginning rounds) → IsSound w upto
  sound_first upto b = sound_before w upto b.rest (subst (λ (es : List Entry). IsSound w es) b.same sound)

  left_first : (upto : List Entry) → Begins upto (then_rounds beginning rounds) → (m : ℕ) → connected m ≡ true →
      1 ≤ room w (own upto m)
  left_first upto b m is_m = left_before w upto b.rest m
      (subst (λ (es : List Entry). 1 ≤ room w (own es m)) b.same (space.leaves m is_m))

  -- so while they stay the view is led as the steps under a leader ask
  led_first : (upto : List Entry) → Begins beginning upto → Begins upto (then_rounds beginning rounds) →
      ((m : ℕ) → connected m ≡ true → view w.group (known_by w upto m) ≡ v) → IsLed w connected v plan beginning upto
  led_first upto begins b stay = record {
    begins = begins;
    leader = start.leader;
    came = start.came;
    opened = start.opened;
    planned = start.planned;
    based = start.based;
    windows = start.windows;
    leaves = left_first upto b;
    stayed = stay;
  }

  module _ (first between six more : List (List Entry)) (whole : rounds ≡ ((first ++ between) ++ six) ++ more)
      (size : length between ≡ count) (six_rounds : length six ≡ 6) (stay : Stay ((first ++ between) ++ six)) where
    abbrev middle : List Entry
    middle = then_rounds beginning (first ++ between)

    same : then_rounds beginning ((first ++ between) ++ six) ≡ then_rounds middle six
    same = rounds_joined beginning (first ++ between) six

    behind : rounds ≡ (first ++ between) ++ (six ++ more)
    behind = whole ∙ append_assoc (first ++ between) six more

    begins_there : Begins (then_rounds middle six) (then_rounds beginning rounds)
    begins_there = subst (λ (es : List Entry). Begins es (then_rounds beginning rounds)) same
        (first_of ((first ++ between) ++ six) more whole)

    certified : (j k : ℕ) → j < w.group.n → 1 ≤ k → ((m : ℕ) → connected m ≡ true → k ≤ vector w.group (known_by w middle m) j)
        → (m : ℕ) → connected m ≡ true → k ≤ ordered_to w (then_rounds middle six) m j
    certified j k low one all =
        let numbers : next_offer w (then_rounds beginning rounds) v plan ≤ most_number = space.numbers in
        let next : next_offer w (then_rounds middle six) v plan ≤ next_offer w (then_rounds beginning rounds) v plan =
        next_later w v plan (then_rounds middle six) (then_rounds beginning rounds) begins_there in
        certified_is_ordered w connected v plan beginning middle six live (sound_first (then_rounds middle six) begins_there) are
        (rounds_before w connected middle six more (rounds_behind w connected beginning (first ++ between) (six ++ more)
        (subst (λ (rs : List (List Entry)). AreRounds w connected beginning rs) behind fair))) six_rounds
        (led_first (then_rounds middle six) (begins_through (rounds_begin beginning (first ++ between)) (rounds_begin middle six))
        begins_there (λ m is_m. ap (λ (es : List Entry). view w.group (known_by w es m)) (sym same) ∙ stay m is_m))
        (rounds_begin beginning (first ++ between)) (omega (arith, numbers, next))
        (λ m is_m. subst (λ (es : List Entry). next_offer w es v plan ≤ stable w.group (facts_of w.group (known_by w middle m))
        + window) same (space.windows (first ++ between) six more whole six_rounds m is_m)) j k low one all

    -- what is eligible at one all have certified: of a connected master's requests two rounds later, of others' as it is said
    shown_all : (upto : List Entry) → Begins upto (then_rounds beginning first) → (i : ℕ) → connected i ≡ true →
        view w.group (known_by w upto i) ≡ v → (j k : ℕ) → j < w.group.n → 1 ≤ k
        → k ≤ eligible w.group (latest_rows w.group (known_by w upto i)) j → (m : ℕ) → connected m ≡ true
        → k ≤ vector w.group (known_by w middle m) j
    shown_all upto begins i is_i at j k low one reached m is_m = elim (cases_Bool (connected j)) [
      | inr other ↦ hidden.shown first between (six ++ more) behind size upto begins i is_i at j k low other one reached m is_m
      | inl is_j ↦
          let part = cut 2 between (omega (arith, size, two_rounds)) in
          let a = uncons 1 part.0 part.3 in
          let b = uncons 0 a.1 a.3 in
          let pair : part.0 ≡ a.0 ∷ b.0 ∷ [] = a.2 ∙ ap (λ (rs : List (List Entry)). a.0 ∷ rs) (b.2
          ∙ ap (λ (rs : List (List Entry)). b.0 ∷ rs) (emptied b.1 b.3)) in
          let start_there : List Entry = then_rounds beginning first in
          let split : between ≡ (a.0 ∷ b.0 ∷ []) ++ part.1 = part.2 ∙ ap (λ (rs : List (List Entry)). rs ++ part.1) pair in
          let all : rounds ≡ first ++ ((a.0 ∷ b.0 ∷ []) ++ (part.1 ++ (six ++ more))) = behind
          ∙ append_assoc first between (six ++ more) ∙ ap (λ (rs : List (List Entry)). first ++ (rs ++ (six ++ more))) split
          ∙ ap (λ (rs : List (List Entry)). first ++ rs) (append_assoc (a.0 ∷ b.0 ∷ []) part.1 (six ++ more)) in
          let pair_fair : AreRounds w connected start_there (a.0 ∷ b.0 ∷ []) = rounds_before w connected start_there (a.0 ∷ b.0 ∷ [])
          (part.1 ++ (six ++ more)) (rounds_behind w connected beginning first ((a.0 ∷ b.0 ∷ []) ++ (part.1 ++ (six ++ more)))
          (subst (λ (rs : List (List Entry)). AreRounds w connected beginning rs) all fair)) in
          let two_on : List Entry = (start_there ++ a.0) ++ b.0 in
          let joined : then_rounds beginning (first ++ (a.0 ∷ b.0 ∷ [])) ≡ two_on = rounds_joined beginning first (a.0 ∷ b.0 ∷ []) in
          let to_middle : Begins two_on (then_rounds beginning (first ++ between)) = subst (λ (es : List Entry). Begins es
          (then_rounds beginning (first ++ between))) joined (subst (λ (rs : List (List Entry)). Begins
          (then_rounds beginning (first ++ (a.0 ∷ b.0 ∷ []))) (then_rounds beginning rs))
          (append_assoc first (a.0 ∷ b.0 ∷ []) part.1 ∙ ap (λ (rs : List (List Entry)). first ++ rs) (sym split))
          (rounds_first beginning (first ++ (a.0 ∷ b.0 ∷ [])) part.1)) in
          let to_end : Begins two_on (then_rounds beginning rounds) = begins_through to_middle
          (first_of (first ++ between) (six ++ more) behind) in
          let there_sound : IsSound w two_on = sound_first two_on to_end in
          let done : k ≤ vector w.group (known_by w two_on m) j = connected_are_shown w connected start_there a.0 b.0 live
          there_sound.legal there_sound.sizes there_sound.unforged are pair_fair.0 pair_fair.1.0 (left_first two_on to_end) upto begins
          i j k is_i is_j one reached m is_m in
          let later : vector w.group (known_by w two_on m) j ≤ vector w.group (known_by w middle m) j = vector_more w.group
          (known_by w two_on m) (known_by w middle m) j (known_grows w middle two_on m to_middle) in
          omega (arith, done, later)
    ]

    -- what was eligible at one of them is ordered there
    ordered_within : (upto : List Entry) → Begins upto (then_rounds beginning first) → (m : ℕ) → connected m ≡ true →
        view w.group (known_by w upto m) ≡ v → (j : ℕ) → j < w.group.n
        → eligible w.group (latest_rows w.group (known_by w upto m)) j
        ≤ ordered_to w (then_rounds beginning ((first ++ between) ++ six)) m j
    ordered_within upto begins m is_m at j low = elim (cases_lt 0 (eligible w.group (latest_rows w.group (known_by w upto m)) j)) [
      | inr none ↦ omega (arith, none)
      | inl some ↦
          let k : ℕ = eligible w.group (latest_rows w.group (known_by w upto m)) j in
          subst (λ (es : List Entry). k ≤ ordered_to w es m j) (sym same) (certified j k low (omega (arith, some))
          (λ i is_i. shown_all upto begins m is_m at j k low (omega (arith, some)) (omega arith) i is_i) m is_m)
    ]

  -- Where they stay up to the last of these rounds each is served up to its end.
  module _ (xs ys : List (List Entry)) (whole : rounds ≡ xs ++ ys)
      (stay : (a b : List (List Entry)) → xs ≡ a ++ b → (b ≡ [] → ⊥) → Stay a) where
    within : AreServedWithin w connected v (count + 7) beginning xs
    within = record {
      served = λ first between rest e size upto begins m is_m at j low.
          let one = cut count between (omega (arith, size)) in
          let one_size : length one.0 ≡ count = one.3 in
          let sum : length between ≡ length one.0 + length one.1 = ap length one.2 ∙ length-append one.0 one.1 in
          let two = cut 6 one.1 (omega (arith, size, sum, one_size)) in
          let two_size : length two.0 ≡ 6 = two.3 in
          let two_sum : length one.1 ≡ length two.0 + length two.1 = ap length two.2 ∙ length-append two.0 two.1 in
          let a : List (List Entry) = (first ++ one.0) ++ two.0 in
          let to_between : first ++ between ≡ a ++ two.1 = ap (λ (rs : List (List Entry)). first ++ rs) one.2
          ∙ sym (append_assoc first one.0 one.1) ∙ ap (λ (rs : List (List Entry)). (first ++ one.0) ++ rs) two.2
          ∙ sym (append_assoc (first ++ one.0) two.0 two.1) in
          let split : xs ≡ a ++ (two.1 ++ rest) = e ∙ ap (λ (rs : List (List Entry)). rs ++ rest) to_between
          ∙ append_assoc a two.1 rest in
          let some : two.1 ++ rest ≡ [] → ⊥ = λ none.
          let empty : length (two.1 ++ rest) ≡ 0 = ap length none in
          let both : length (two.1 ++ rest) ≡ length two.1 + length rest = length-append two.1 rest in
          omega (arith, size, sum, one_size, two_size, two_sum, empty, both) in
          let done : eligible w.group (latest_rows w.group (known_by w upto m)) j ≤ ordered_to w (then_rounds beginning a) m j =
          ordered_within first one.0 two.0 ((two.1 ++ rest) ++ ys) (whole ∙ ap (λ (rs : List (List Entry)). rs ++ ys) split
          ∙ append_assoc a (two.1 ++ rest) ys) one_size two_size (stay a (two.1 ++ rest) split some) upto begins m is_m at j low in
          let later : ordered_to w (then_rounds beginning a) m j ≤ ordered_to w (then_rounds beginning (first ++ between)) m j =
          ordered_more w m j (then_rounds beginning a) (then_rounds beginning (first ++ between))
          (subst (λ (rs : List (List Entry)). Begins (then_rounds beginning a) (then_rounds beginning rs)) (sym to_between)
          (rounds_first beginning a two.1)) in
          omega (arith, done, later);
    }

    served_to : AreServed w connected v (then_rounds beginning xs)
    served_to = served_in_rounds w connected v (count + 7) early most beginning xs record {
      since = few.since;
      each = λ round k. few.each round (subst (λ (rs : List (List Entry)). IsIn round rs) (sym whole) (in_left ys k));
    } within (λ upto b m is_m.
        let long : (count + 8) * most + early < patience_by w upto m v = patient upto (begins_through b (first_of xs ys whole)) m is_m in
        let alike : (count + 7 + 1) * most ≡ (count + 8) * most = ap (λ (n : ℕ). n * most) (eight count) in
        omega (arith, long, alike))
      where
        eight : (n : ℕ) → n + 7 + 1 ≡ n + 8
        eight n = omega arith

    stay_to : Stay xs
    stay_to m is_m =
        let there : IsSound w (then_rounds beginning xs) = sound_first (then_rounds beginning xs) (first_of xs ys whole) in
        let low : view w.group (known_by w (then_rounds beginning xs) m) ≤ v = served_is_kept w connected
        (then_rounds beginning xs) live there.legal there.sizes there.unforged are v served_to m (are.correct m is_m) in
        let high : view w.group (known_by w beginning m) ≤ view w.group (known_by w (then_rounds beginning xs) m) =
        view_later w m beginning (then_rounds beginning xs) (rounds_begin beginning xs) in
        let was : view w.group (known_by w beginning m) ≡ v = start.came m is_m in
        omega (arith, low, high, was)

  -- a later time at which they are in the view leaves no other view for an earlier one
  stay_earlier : (a b : List (List Entry)) → Stay (a ++ b) → Stay a
  stay_earlier a b stay m is_m =
      let low : view w.group (known_by w beginning m) ≤ view w.group (known_by w (then_rounds beginning a) m) =
      view_later w m beginning (then_rounds beginning a) (rounds_begin beginning a) in
      let high : view w.group (known_by w (then_rounds beginning a) m) ≤ view w.group (known_by w (then_rounds beginning (a ++ b)) m)
      = view_later w m (then_rounds beginning a) (then_rounds beginning (a ++ b)) (rounds_first beginning a b) in
      let was : view w.group (known_by w beginning m) ≡ v = start.came m is_m in
      let is : view w.group (known_by w (then_rounds beginning (a ++ b)) m) ≡ v = stay m is_m in
      omega (arith, low, high, was, is)

  stays : (xs ys : List (List Entry)) → rounds ≡ xs ++ ys → Stay xs
  stays = by_growth (λ (xs : List (List Entry)). (ys : List (List Entry)) → rounds ≡ xs ++ ys → Stay xs)
      (λ ys e. start.came)
      (λ xs round so_far ys e. stay_to (xs ++ round ∷ []) ys e (λ a b split some.
      let begins : Begins a xs = begins_init a b xs round (sym split) some in
      stay_earlier a begins.rest (subst (λ (rs : List (List Entry)). Stay rs) begins.same
      (so_far (round ∷ ys) (e ∙ append_assoc xs (round ∷ []) ys)))))

  leader_served : AreServed w connected v (then_rounds beginning rounds)
  leader_served = served_to rounds [] (sym (append-nil rounds)) (λ a b split some. stays a b split)

pub leader_serves : LeaderServes
leader_serves w connected v count early most plan beginning rounds live sound are fair start space few two_rounds hidden patient =
    leader_served w connected v count early most plan beginning rounds live sound are fair start space few two_rounds hidden patient

pub leader_is_kept : LeaderIsKept
leader_is_kept w connected v count early most plan beginning rounds live sound are fair start space few two_rounds hidden patient =
    served_is_kept w connected (then_rounds beginning rounds) live sound.legal sound.sizes sound.unforged are v
    (leader_serves w connected v count early most plan beginning rounds live sound are fair start space few two_rounds hidden patient)
