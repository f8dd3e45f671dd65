-- Rounds, tested: what was said before was taken by all that it goes to, and each connected master has a tick.
use Rattle.std.proofs.Common.{◌≡◌, ℕ, zero, suc, ◌+◌, ◌<◌, Bool, true, false, ◌&&◌, not, List, [], ◌∷◌, ◌++◌, Some, refl}
use Rattle.std.proofs.Common.{nat_eq, nat_lt, sym, ◌∙◌, subst, ap, arith, eqb-true, inl, inr}
use Rattle.std.proofs.lemmas.Bool.{false≢true, and_parts, and_from, cases_Bool, ltb-true}
use Rattle.std.specs.Prelude.{slice_get}
use Rattle.std.specs.List.{list_any, list_all}
use Rattle.plain_lists.specs.Lists.{IsIn}
use Rattle.plain_lists.proofs.Members.{any_from, all_at, some_same, none_some}
use Rattle.quorum_sets.specs.Masters.{numbers_below}
use Rattle.message_types.specs.declared.body.Body.{Body}
use Rattle.history_rules.specs.Events.{Event, Took, Tick, Entry, is_tick}
use Rattle.history_rules.specs.Setup.{Setup}
use Rattle.history_rules.specs.Legal.{Stands}
use Rattle.history_rules.specs.Sameness.{is_same_body}
use Rattle.history_laws.proofs.Same.{body_test}
use Rattle.history_laws.proofs.Forged.{in_of_stands}
use Rattle.agreement.proofs.Places.{stands_in}
use Rattle.progress.specs.Rounds.{AreConnected, is_heard, goes_to, HasTaken, HasTick, IsDelivered, IsRound, AreRounds}

-- the event takes the body that was said at that entry as number `nth`
abbrev takes_said : Entry → ℕ → Body → Event → Bool
takes_said said nth b (Took stamp place f) =
    nat_eq stamp said.stamp && nat_eq place nth && nat_eq f.signer said.actor && is_same_body f.body b
takes_said said nth b _ = false

abbrev is_taking : ℕ → Entry → ℕ → Body → Entry → Bool
is_taking m said nth b e = elim (nat_eq e.actor m) [ true ↦ takes_said said nth b e.event | false ↦ false ]

by_actor : (m : ℕ) (said : Entry) (nth : ℕ) (b : Body) (e : Entry) → is_taking m said nth b e ≡ true →
    (e.actor ≡ m) × (takes_said said nth b e.event ≡ true)
by_actor m said nth b e h = elim (cases_Bool (nat_eq e.actor m)) [
  | inl same ↦ (
    eqb-true e.actor m same,
    sym (ap (λ (t : Bool). elim t [ true ↦ takes_said said nth b e.event | false ↦ false ]) same) ∙ h,
  )
  | inr other ↦ absurd (false≢true
      (sym (ap (λ (t : Bool). elim t [ true ↦ takes_said said nth b e.event | false ↦ false ]) other) ∙ h))
]

taken_at_entry : (whole : List Entry) (m : ℕ) (said : Entry) (nth : ℕ) (b : Body) (before : List Entry) (e : Entry) →
    Stands whole before e → e.actor ≡ m → (event : Event) → e.event ≡ event → takes_said said nth b event ≡ true
    → HasTaken whole m said nth b
taken_at_entry whole m said nth b before e s by (Took stamp place f) is h =
    let words = and_parts (nat_eq stamp said.stamp && nat_eq place nth && nat_eq f.signer said.actor)
    (is_same_body f.body b) h in
    let signers = and_parts (nat_eq stamp said.stamp && nat_eq place nth) (nat_eq f.signer said.actor) words.0 in
    let places = and_parts (nat_eq stamp said.stamp) (nat_eq place nth) signers.0 in
    let stamps : stamp ≡ said.stamp = eqb-true stamp said.stamp places.0 in
    let nths : place ≡ nth = eqb-true place nth places.1 in
    record {
      before = before;
      entry = e;
      place = s;
      by = by;
      frame = f;
      event = is ∙ (λ i. Took (stamps i) (nths i) f);
      signer = eqb-true f.signer said.actor signers.1;
      word = (body_test f.body b).0 words.1;
    }
taken_at_entry whole m said nth b before e s by _ is h = absurd (false≢true h)

has_taken : (whole : List Entry) (m : ℕ) (said : Entry) (nth : ℕ) (b : Body) →
    list_any (is_taking m said nth b) whole ≡ true → HasTaken whole m said nth b
has_taken whole m said nth b h =
    let found = any_from (is_taking m said nth b) whole h in
    let place = stands_in whole found.1 in
    let at = by_actor m said nth b found.0 found.2 in
    taken_at_entry whole m said nth b place.0 found.0 place.1 at.0 found.0.event refl at.1

-- the master took the body, where it is connected and the body goes to it
abbrev has_come : Setup → (ℕ → Bool) → List Entry → Entry → ℕ → Body → ℕ → Bool
has_come w connected whole e nth b m =
    elim (connected m && goes_to w.group e.actor b m) [ true ↦ list_any (is_taking m e nth b) whole | false ↦ true ]

-- all bodies of the entry from this number on came to all masters
abbrev all_come : Setup → (ℕ → Bool) → List Entry → Entry → ℕ → List Body → Bool
all_come w connected whole e nth [] = true
all_come w connected whole e nth (b ∷ rest) =
    list_all (has_come w connected whole e nth b) (numbers_below w.group.n) && all_come w connected whole e (suc nth) rest

come_at : (w : Setup) (connected : ℕ → Bool) (whole : List Entry) (e : Entry) (start i : ℕ) (said : List Body) (b : Body) →
    all_come w connected whole e start said ≡ true → slice_get said i ≡ Some b
    → list_all (has_come w connected whole e (start + i) b) (numbers_below w.group.n) ≡ true
come_at w connected whole e start i [] b all found = absurd (none_some found)
come_at w connected whole e start zero (x ∷ said) b all found =
    let both = and_parts (list_all (has_come w connected whole e start x) (numbers_below w.group.n))
    (all_come w connected whole e (suc start) said) all in
    let at : start ≡ start + 0 = omega arith in
    subst (λ (k : ℕ). list_all (has_come w connected whole e k b) (numbers_below w.group.n) ≡ true) at
    (subst (λ (y : Body). list_all (has_come w connected whole e start y) (numbers_below w.group.n) ≡ true)
    (some_same found) both.0)
come_at w connected whole e start (suc i) (x ∷ said) b all found =
    let both = and_parts (list_all (has_come w connected whole e start x) (numbers_below w.group.n))
    (all_come w connected whole e (suc start) said) all in
    let at : suc start + i ≡ start + suc i = omega arith in
    subst (λ (k : ℕ). list_all (has_come w connected whole e k b) (numbers_below w.group.n) ≡ true) at
    (come_at w connected whole e (suc start) i said b both.1 found)

-- so of all entries of the beginning whose actor is heard
abbrev is_delivered : Setup → (ℕ → Bool) → List Entry → List Entry → Bool
is_delivered w connected beginning whole = list_all (λ e. elim (is_heard w connected e.actor) [
  | true ↦ all_come w connected whole e 0 e.said
  | false ↦ true
]) beginning

delivered : (w : Setup) (connected : ℕ → Bool) (beginning whole : List Entry) → AreConnected w connected →
    ((m : ℕ) → m < w.group.n → IsIn m (numbers_below w.group.n)) → is_delivered w connected beginning whole ≡ true →
    IsDelivered w connected beginning whole
delivered w connected beginning whole are listed all = record {
  taken = λ before e s heard nth b found m is goes.
      let at : elim (is_heard w connected e.actor) [ true ↦ all_come w connected whole e 0 e.said | false ↦ true ] ≡ true =
      all_at (λ x. elim (is_heard w connected x.actor) [
        | true ↦ all_come w connected whole x 0 x.said
        | false ↦ true
      ]) (in_of_stands s) all in
      let come : all_come w connected whole e 0 e.said ≡ true = sym (ap (λ (t : Bool). elim t [
        | true ↦ all_come w connected whole e 0 e.said
        | false ↦ true
      ]) heard) ∙ at in
      let all_masters : list_all (has_come w connected whole e (0 + nth) b) (numbers_below w.group.n) ≡ true =
      come_at w connected whole e 0 nth e.said b come found in
      let none : 0 + nth ≡ nth = omega arith in
      let below : m < w.group.n = ltb-true m w.group.n (and_parts (nat_lt m w.group.n) (not (w.intruded m)) (are.correct m is)).0
      in
      let one : has_come w connected whole e (0 + nth) b m ≡ true =
      all_at (has_come w connected whole e (0 + nth) b) (listed m below) all_masters in
      let taking : list_any (is_taking m e (0 + nth) b) whole ≡ true = sym (ap (λ (t : Bool). elim t [
        | true ↦ list_any (is_taking m e (0 + nth) b) whole
        | false ↦ true
      ]) (and_from (connected m) (goes_to w.group e.actor b m) is goes)) ∙ one in
      subst (λ (k : ℕ). HasTaken whole m e k b) none (has_taken whole m e (0 + nth) b taking);
}

-- the master has a tick among these entries, where it is connected
abbrev ticks_there : List Entry → ℕ → Bool
ticks_there entries m = list_any (λ e. nat_eq e.actor m && is_tick e.event) entries

ticked : (entries : List Entry) (m : ℕ) → ticks_there entries m ≡ true → HasTick entries m
ticked entries m h =
    let found = any_from (λ e. nat_eq e.actor m && is_tick e.event) entries h in
    let both = and_parts (nat_eq found.0.actor m) (is_tick found.0.event) found.2 in
    let place = stands_in entries found.1 in
    record {
      before = place.0;
      entry = found.0;
      place = place.1;
      by = eqb-true found.0.actor m both.0;
      tick = by_event found.0.event both.1;
    }
  where
    by_event : (event : Event) → is_tick event ≡ true → event ≡ Tick
    by_event Tick e = refl
    by_event _ e = absurd (false≢true e)

abbrev is_round : Setup → (ℕ → Bool) → List Entry → List Entry → Bool
is_round w connected beginning round = is_delivered w connected beginning (beginning ++ round)
    && list_all (λ m. elim (connected m) [ true ↦ ticks_there round m | false ↦ true ]) (numbers_below w.group.n)

abbrev pub go_on : Setup → (ℕ → Bool) → List Entry → List (List Entry) → Bool
go_on w connected beginning [] = true
go_on w connected beginning (round ∷ rest) =
    is_round w connected beginning round && go_on w connected (beginning ++ round) rest

one_round : (w : Setup) (connected : ℕ → Bool) (beginning round : List Entry) → AreConnected w connected →
    ((m : ℕ) → m < w.group.n → IsIn m (numbers_below w.group.n)) → is_round w connected beginning round ≡ true →
    IsRound w connected beginning round
one_round w connected beginning round are listed h =
    let both = and_parts (is_delivered w connected beginning (beginning ++ round))
    (list_all (λ m. elim (connected m) [ true ↦ ticks_there round m | false ↦ true ]) (numbers_below w.group.n)) h in
    record {
      delivered = delivered w connected beginning (beginning ++ round) are listed both.0;
      ticks = λ m is.
          let below : m < w.group.n = ltb-true m w.group.n
          (and_parts (nat_lt m w.group.n) (not (w.intruded m)) (are.correct m is)).0 in
          let at : elim (connected m) [ true ↦ ticks_there round m | false ↦ true ] ≡ true =
          all_at (λ x. elim (connected x) [ true ↦ ticks_there round x | false ↦ true ]) (listed m below) both.1 in
          ticked round m
          (sym (ap (λ (t : Bool). elim t [ true ↦ ticks_there round m | false ↦ true ]) is) ∙ at);
    }

pub are_rounds : (w : Setup) (connected : ℕ → Bool) (beginning : List Entry) (rounds : List (List Entry)) →
    AreConnected w connected → ((m : ℕ) → m < w.group.n → IsIn m (numbers_below w.group.n))
    → go_on w connected beginning rounds ≡ true → AreRounds w connected beginning rounds
are_rounds w connected beginning [] are listed h = tt
are_rounds w connected beginning (round ∷ rest) are listed h =
    let both = and_parts (is_round w connected beginning round) (go_on w connected (beginning ++ round) rest) h in
    (one_round w connected beginning round are listed both.0, are_rounds w connected (beginning ++ round) rest are listed both.1)
