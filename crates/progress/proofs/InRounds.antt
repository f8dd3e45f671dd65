-- Rounds by their ticks: a beginning of a history in rounds ends within one of them, or before the first; so who is served
-- within so many rounds is served within the ticks of these and one more.
use Rattle.std.proofs.Common.{◌≡◌, ℕ, ◌+◌, ◌*◌, ◌<◌, ◌≤◌, zero, suc, Bool, true, List, [], ◌∷◌, ◌++◌, length, nat_lt, refl, sym, ◌∙◌}
use Rattle.std.proofs.Common.{ap, subst, inl, inr, ◌⊎◌, arith, append_assoc, append-nil}
use Rattle.std.proofs.lemmas.Bool.{cases_lt, ltb-true}
use Rattle.std.proofs.lemmas.Nat.{mul-le}
use Rattle.plain_lists.specs.Lists.{IsIn, here, there, Begins}
use Rattle.plain_lists.proofs.Members.{in_left, in_right, any_from}
use Rattle.quorum_sets.specs.Masters.{numbers_below}
use Rattle.protocol_rules.specs.Matrix.{eligible}
use Rattle.protocol_rules.specs.Views.{view}
use Rattle.protocol_rules.specs.Master.{latest_rows}
use Rattle.history_rules.specs.Events.{Entry}
use Rattle.history_rules.specs.Setup.{Setup}
use Rattle.agreement.specs.Laws.{known_by}
use Rattle.agreement.proofs.Places.{heads_same, tails_same}
use Rattle.agreement.proofs.QuorumsMeet.{below_from}
use Rattle.progress.specs.Rounds.{AreRounds, then_rounds}
use Rattle.progress.specs.Serving.{ticks_among, ordered_to, is_starved, patience_by}
use Rattle.progress.specs.Keeping.{HaveFewTicks, AreServedWithin, ServedInRounds}
use Rattle.progress.proofs.Ordered.{begins_through, begins_append}
use Rattle.progress.proofs.UnderLeader.{rounds_begin}
use Rattle.progress.proofs.Waits.{among_joined}
use Rattle.progress.proofs.Impatient.{ordered_more}

-- of two beginnings of one list one begins the other
pub begins_either : {X : Type 0} (a b : List X) {z : List X} → Begins a z → Begins b z → Begins a b ⊎ Begins b a
begins_either a b p q = by a b p.rest q.rest (sym p.same ∙ q.same)
  where
    by : {X : Type 0} (a b x y : List X) → a ++ x ≡ b ++ y → Begins a b ⊎ Begins b a
    by [] b x y e = inl record { rest = b; same = refl }
    by (s ∷ a) [] x y e = inr record { rest = s ∷ a; same = refl }
    by {X} (s ∷ a) (t ∷ b) x y e = elim (by a b x y (tails_same e)) [
      | inl one ↦ inl record {
        rest = one.rest;
        same = ap (λ (u : X). u ∷ b) (sym (heads_same e)) ∙ ap (λ (us : List X). s ∷ us) one.same;
      }
      | inr other ↦ inr record {
        rest = other.rest;
        same = ap (λ (u : X). u ∷ a) (heads_same e) ∙ ap (λ (us : List X). t ∷ us) other.same;
      }
    ]

-- the first so many of a list that has as many
pub cut : {X : Type 0} (n : ℕ) (xs : List X) → n ≤ length xs → (first : List X) × (rest : List X) × (xs ≡ first ++ rest)
    × (length first ≡ n)
cut zero xs h = ([], xs, refl, refl)
cut (suc n) [] h = absurd (omega arith)
cut {X} (suc n) (x ∷ xs) h =
    let found = cut n xs (omega arith) in
    let size : length found.0 ≡ n = found.3 in
    (x ∷ found.0, found.1, ap (λ (zs : List X). x ∷ zs) found.2, omega (arith, size))

-- rounds behind rounds
pub rounds_joined : (beginning : List Entry) (xs ys : List (List Entry)) → then_rounds beginning (xs ++ ys) ≡
    then_rounds (then_rounds beginning xs) ys
rounds_joined beginning [] ys = refl
rounds_joined beginning (x ∷ xs) ys = rounds_joined (beginning ++ x) xs ys

-- the first of them make a beginning
pub rounds_first : (beginning : List Entry) (xs ys : List (List Entry)) →
    Begins (then_rounds beginning xs) (then_rounds beginning (xs ++ ys))
rounds_first beginning xs ys = subst (λ (zs : List Entry). Begins (then_rounds beginning xs) zs)
    (sym (rounds_joined beginning xs ys)) (rounds_begin (then_rounds beginning xs) ys)

-- and those behind are fair behind it
pub rounds_behind : (w : Setup) (connected : ℕ → Bool) (beginning : List Entry) (xs ys : List (List Entry)) →
    AreRounds w connected beginning (xs ++ ys) → AreRounds w connected (then_rounds beginning xs) ys
rounds_behind w connected beginning [] ys fair = fair
rounds_behind w connected beginning (x ∷ xs) ys fair = rounds_behind w connected (beginning ++ x) xs ys fair.1

pub rounds_before : (w : Setup) (connected : ℕ → Bool) (beginning : List Entry) (xs ys : List (List Entry)) →
    AreRounds w connected beginning (xs ++ ys) → AreRounds w connected beginning xs
rounds_before w connected beginning [] ys fair = tt
rounds_before w connected beginning (x ∷ xs) ys fair = (fair.0, rounds_before w connected (beginning ++ x) xs ys fair.1)

-- their ticks
ticks_in_rounds : (m most : ℕ) (beginning : List Entry) (rounds : List (List Entry)) →
    ((round : List Entry) → IsIn round rounds → ticks_among round m ≤ most)
    → ticks_among (then_rounds beginning rounds) m ≤ ticks_among beginning m + length rounds * most
ticks_in_rounds m most beginning [] few = omega arith
ticks_in_rounds m most beginning (round ∷ rest) few =
    let deeper : ticks_among (then_rounds (beginning ++ round) rest) m ≤ ticks_among (beginning ++ round) m + length rest * most =
    ticks_in_rounds m most (beginning ++ round) rest (λ r k. few r (there round rest k)) in
    let joined : ticks_among (beginning ++ round) m ≡ ticks_among beginning m + ticks_among round m =
    among_joined beginning round m in
    let one : ticks_among round m ≤ most = few round (here rest) in
    let sum : suc (length rest) * most ≡ length rest * most + most = one_more (length rest) most in
    omega (arith, deeper, joined, one, sum)
  where
    one_more : (n d : ℕ) → suc n * d ≡ n * d + d
    one_more n d = omega arith

-- where a beginning ends: within a round, or before the first
abbrev EndsIn : ℕ → ℕ → List Entry → List (List Entry) → List Entry → Type 0
EndsIn m most beginning rounds b = (first : List (List Entry)) × (rest : List (List Entry)) × (left : List Entry)
    × (rounds ≡ first ++ rest) × (then_rounds beginning first ≡ b ++ left) × (ticks_among left m ≤ most)

ends_in : (m most bound : ℕ) → most ≤ bound → (beginning : List Entry) (rounds : List (List Entry)) (b : List Entry) →
    Begins b (then_rounds beginning rounds) → ((round : List Entry) → IsIn round rounds → ticks_among round m ≤ most)
    → ((rest : List Entry) → beginning ≡ b ++ rest → ticks_among rest m ≤ bound) → EndsIn m bound beginning rounds b
ends_in m most bound fits beginning [] b begins few fresh = ([], [], begins.rest, refl, begins.same, fresh begins.rest begins.same)
ends_in m most bound fits beginning (round ∷ rounds) b begins few fresh =
    elim (begins_either b beginning begins (rounds_begin beginning (round ∷ rounds))) [
      | inl early ↦ ([], round ∷ rounds, early.rest, refl, early.same, fresh early.rest early.same)
      | inr later ↦
          let found = ends_in m most bound fits (beginning ++ round) rounds b begins (λ r k. few r (there round rounds k)) (λ rest same.
          let whole : ticks_among (beginning ++ round) m ≡ ticks_among beginning m + ticks_among round m =
          among_joined beginning round m in
          let parts : ticks_among (beginning ++ round) m ≡ ticks_among b m + ticks_among rest m =
          ap (λ (xs : List Entry). ticks_among xs m) same ∙ among_joined b rest m in
          let start : ticks_among b m ≡ ticks_among beginning m + ticks_among later.rest m =
          ap (λ (xs : List Entry). ticks_among xs m) later.same ∙ among_joined beginning later.rest m in
          let one : ticks_among round m ≤ most = few round (here rounds) in
          omega (arith, whole, parts, start, one, fits)) in (
            round ∷ found.0,
            found.1,
            found.2,
            ap (λ (rs : List (List Entry)). round ∷ rs) found.3,
            found.4,
            found.5,
          )
    ]

in_second : {X : Type 0} (xs ys : List X) {x : X} {zs : List X} → zs ≡ xs ++ ys → IsIn x ys → IsIn x zs
in_second {X} xs ys {x} e h = subst (λ (vs : List X). IsIn x vs) (sym e) (in_right xs h)

module _ (w : Setup) (connected : ℕ → Bool) (v count early most : ℕ) (beginning : List Entry) (rounds : List (List Entry))
    (few : HaveFewTicks w connected v early most beginning rounds)
    (within : AreServedWithin w connected v count beginning rounds) (b since : List Entry)
    (begins : Begins (b ++ since) (then_rounds beginning rounds)) (m : ℕ) (is_m : connected m ≡ true)
    (came : view w.group (known_by w b m) ≡ v)
    (lacking : is_starved w b (b ++ since) m ≡ true) where
  place : EndsIn m (early + most) beginning rounds b
  place = ends_in m most (early + most) (omega arith) beginning rounds b (begins_through (begins_append b since) begins)
      (λ r k. few.each r k m is_m) (λ rest same.
      let fresh : ticks_among rest m ≤ early = few.since b rest same m is_m came in
      omega (arith, fresh))

  few_behind : (xs ys : List (List Entry)) → place.1 ≡ xs ++ ys → (round : List Entry) → IsIn round xs →
      ticks_among round m ≤ most
  few_behind xs ys e round k = few.each round (in_second place.0 place.1 place.3
      (subst (λ (rs : List (List Entry)). IsIn round rs) (sym e) (in_left ys k))) m is_m

  -- the ticks up to the end of some rounds behind it
  ticks_to : (xs ys : List (List Entry)) → place.1 ≡ xs ++ ys →
      ticks_among (then_rounds (then_rounds beginning place.0) xs) m ≤ ticks_among b m + (early + most) + length xs * most
  ticks_to xs ys e =
      let all : ticks_among (then_rounds (then_rounds beginning place.0) xs) m ≤
      ticks_among (then_rounds beginning place.0) m + length xs * most =
      ticks_in_rounds m most (then_rounds beginning place.0) xs (few_behind xs ys e) in
      let start : ticks_among (then_rounds beginning place.0) m ≡ ticks_among b m + ticks_among place.2 m =
      ap (λ (es : List Entry). ticks_among es m) place.4 ∙ among_joined b place.2 m in
      let left : ticks_among place.2 m ≤ early + most = place.5 in
      omega (arith, all, start, left)

  -- what begins a list has no more ticks
  ticks_less : (whole : List Entry) → Begins (b ++ since) whole → ticks_among b m + ticks_among since m ≤ ticks_among whole m
  ticks_less whole p =
      let all : ticks_among whole m ≡ ticks_among (b ++ since) m + ticks_among p.rest m =
      ap (λ (es : List Entry). ticks_among es m) p.same ∙ among_joined (b ++ since) p.rest m in
      let parts : ticks_among (b ++ since) m ≡ ticks_among b m + ticks_among since m = among_joined b since m in
      omega (arith, all, parts)

  not_served : (between rest : List (List Entry)) → place.1 ≡ between ++ rest → length between ≡ count →
      Begins (then_rounds beginning (place.0 ++ between)) (b ++ since) → ⊥
  not_served between rest e size later =
      let found = any_from (λ j. nat_lt (ordered_to w (b ++ since) m j) (eligible w.group
      (latest_rows w.group (known_by w b m)) j)) (numbers_below w.group.n) lacking in
      let less : ordered_to w (b ++ since) m found.0 < eligible w.group (latest_rows w.group (known_by w b m)) found.0 =
      ltb-true (ordered_to w (b ++ since) m found.0) (eligible w.group (latest_rows w.group (known_by w b m)) found.0) found.2 in
      let done : eligible w.group (latest_rows w.group (known_by w b m)) found.0 ≤
      ordered_to w (then_rounds beginning (place.0 ++ between)) m found.0 = within.served place.0 between rest
      (place.3 ∙ ap (λ (rs : List (List Entry)). place.0 ++ rs) e ∙ sym (append_assoc place.0 between rest)) size b
      record { rest = place.2; same = place.4 } m is_m came found.0 (below_from w.group.n found.0 found.1) in
      let grown : ordered_to w (then_rounds beginning (place.0 ++ between)) m found.0 ≤ ordered_to w (b ++ since) m found.0 =
      ordered_more w m found.0 (then_rounds beginning (place.0 ++ between)) (b ++ since) later in
      omega (arith, less, done, grown)

  pub few_ticks : ticks_among since m ≤ early + most + count * most
  few_ticks = elim (cases_lt (length place.1) count) [
    | inl short ↦
        let size : length place.1 < count = short in
        let to_end : ticks_among (then_rounds (then_rounds beginning place.0) place.1) m ≤ ticks_among b m + (early + most)
        + length place.1 * most = ticks_to place.1 [] (sym (append-nil place.1)) in
        let whole : then_rounds beginning rounds ≡ then_rounds (then_rounds beginning place.0) place.1 =
        ap (then_rounds beginning) place.3 ∙ rounds_joined beginning place.0 place.1 in
        let less : ticks_among b m + ticks_among since m ≤ ticks_among (then_rounds (then_rounds beginning place.0) place.1) m =
        ticks_less (then_rounds (then_rounds beginning place.0) place.1)
        (subst (λ (es : List Entry). Begins (b ++ since) es) whole begins) in
        let scaled : length place.1 * most ≤ count * most = mul-le (length place.1) most count most (omega (arith, size))
        (omega arith) in
        omega (arith, to_end, less, scaled)
    | inr long ↦
        let parts = cut count place.1 long in
        let size : length parts.0 ≡ count = parts.3 in
        let to_there : ticks_among (then_rounds (then_rounds beginning place.0) parts.0) m ≤ ticks_among b m + (early + most)
        + length parts.0 * most = ticks_to parts.0 parts.1 parts.2 in
        let scaled : length parts.0 * most ≡ count * most = ap (λ (n : ℕ). n * most) size in
        let there_is : Begins (then_rounds beginning (place.0 ++ parts.0)) (then_rounds beginning rounds) =
        subst (λ (rs : List (List Entry)). Begins (then_rounds beginning (place.0 ++ parts.0)) (then_rounds beginning rs))
        (append_assoc place.0 parts.0 parts.1 ∙ ap (λ (rs : List (List Entry)). place.0 ++ rs) (sym parts.2) ∙ sym place.3)
        (rounds_first beginning (place.0 ++ parts.0) parts.1) in
        elim (begins_either (then_rounds beginning (place.0 ++ parts.0)) (b ++ since) there_is begins) [
          | inl later ↦ absurd (not_served parts.0 parts.1 parts.2 size later)
          | inr earlier ↦
              let less : ticks_among b m + ticks_among since m ≤
              ticks_among (then_rounds (then_rounds beginning place.0) parts.0) m =
              ticks_less (then_rounds (then_rounds beginning place.0) parts.0)
              (subst (λ (es : List Entry). Begins (b ++ since) es) (rounds_joined beginning place.0 parts.0) earlier) in
              omega (arith, to_there, less, scaled)
        ]
  ]

pub served_in_rounds : ServedInRounds
served_in_rounds w connected v count early most beginning rounds few within patient = record {
  served = λ b since begins m is_m came stayed lacking.
      let low : ticks_among since m ≤ early + most + count * most = few_ticks w connected v count early most beginning rounds few within b
      since begins m is_m came lacking in
      let above : (count + 1) * most + early < patience_by w (b ++ since) m v = patient (b ++ since) begins m is_m in
      let sum : (count + 1) * most ≡ count * most + most = one_more count most in
      omega (arith, low, above, sum);
}
  where
    one_more : (n d : ℕ) → (n + 1) * d ≡ n * d + d
    one_more n d = omega arith
