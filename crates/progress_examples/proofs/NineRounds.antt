-- The history of nine rounds, computed: it meets all premises of progress under a correct leader, and the update is executed
-- in the ninth.
use Rattle.std.proofs.Common.{◌≡◌, ◌≤◌, ◌<◌, ◌+◌, ℕ, zero, suc, true, not, List, [], ◌∷◌, length, refl, subst}
use Rattle.std.proofs.Common.{None, inl, inr, arith, nat_lt, nat_eq}
use Rattle.std.proofs.lemmas.Bool.{false≢true, and_parts, leb-true, ltb-true, eq-eqb}
use Rattle.std.specs.List.{flat_map}
use Rattle.plain_lists.specs.Lists.{IsIn, here}
use Rattle.plain_lists.proofs.Members.{none_in, in_cons_cases, in_flat_map, in_filter, some_same}
use Rattle.quorum_sets.specs.Masters.{voters}
use Rattle.message_types.specs.declared.updates.Update.{Update}
use Rattle.message_types.specs.declared.views.Plan.{Plan}
use Rattle.message_types.specs.declared.body.Body.{Body}
use Rattle.message_types.specs.declared.body.Body.TheVariants as body
use Rattle.protocol_rules.specs.Group.{most_number, window}
use Rattle.protocol_rules.specs.Facts.{facts_of}
use Rattle.protocol_rules.specs.Plans.{first_plan}
use Rattle.protocol_rules.specs.Order.{gapless, stable}
use Rattle.protocol_rules.specs.Turns.{last_request}
use Rattle.protocol_rules.specs.Views.{view, is_open}
use Rattle.protocol_rules.specs.Master.{said_before, waiting_for}
use Rattle.history_rules.specs.Events.{Entry}
use Rattle.history_rules.specs.Setup.{room, own}
use Rattle.history_rules.specs.Legal.{heard, executions}
use Rattle.history_rules.specs.Audit.{HasSaid}
use Rattle.history_laws.proofs.Forged.{in_of_stands}
use Rattle.agreement.specs.Laws.{HasSizes, known_by}
use Rattle.progress.specs.Rounds.{AreConnected, then_rounds}
use Rattle.progress.specs.Laws.{introduced_to, next_offer}
use Rattle.history_examples.specs.Signing.{commands}
use Rattle.history_examples.specs.Words.{update}
use Rattle.progress_examples.specs.NineRounds as it
use Rattle.progress_examples.specs.Examples.{MeetsPremises, ExecutedInNineRounds, after_eight, after_nine}
use Rattle.progress_examples.proofs.Computing.{computing_live, IsComputed, is_sound, below_in}
use Rattle.progress_examples.proofs.Fair.{go_on, are_rounds}

-- what holds of masters 0, 2 and 3 holds of each connected one
each_connected : (P : ℕ → Type 0) → P 0 → P 2 → P 3 → (m : ℕ) → it.connected m ≡ true → P m
each_connected P first second third zero is = first
each_connected P first second third (suc zero) is = absurd (false≢true is)
each_connected P first second third (suc (suc zero)) is = second
each_connected P first second third (suc (suc (suc zero))) is = third
each_connected P first second third (suc (suc (suc (suc m)))) is =
    let low : suc (suc (suc (suc m))) < 4 = ltb-true (suc (suc (suc (suc m)))) 4
    (and_parts (nat_lt (suc (suc (suc (suc m)))) 4) (not (nat_eq (suc (suc (suc (suc m)))) 1)) is).0 in
    absurd (omega arith)

pub sizes : HasSizes it.group
sizes = record {
  group = record {
    some_may_be_intruded = omega arith;
    at_most_three_intruded = omega arith;
    at_most_two_away = omega arith;
  };
  all = refl;
  quorum = refl;
}

connected : AreConnected it.setup it.connected
unfolding computing_live
connected = record {
  correct = λ m is. is;
  enough = leb-true 3 (length (voters it.connected 4)) refl;
}

-- the history of these rounds
abbrev after : List (List Entry) → List Entry
after rounds = then_rounds it.beginning rounds

-- What is computed of it. View 0 stands on nothing, so its plan is the first.
record AreFacts (rounds : List (List Entry)) : Type 0 where
  computed : IsComputed it.setup (after rounds) 1
  fair : go_on it.setup it.connected it.beginning rounds ≡ true
  stayed : (m : ℕ) → it.connected m ≡ true → view it.group (known_by it.setup (after rounds) m) ≡ 0
  leaves : (m : ℕ) → it.connected m ≡ true → 1 ≤ room it.setup (own (after rounds) m)
  requests : last_request (said_before (heard it.setup (after rounds) 0)) < most_number
  numbers : next_offer it.setup (after rounds) 0 first_plan ≤ most_number
  windows : (m : ℕ) → it.connected m ≡ true → next_offer it.setup (after rounds) 0 first_plan ≤
      stable it.group (facts_of it.group (known_by it.setup it.beginning m)) + window
  waiting : (m : ℕ) → it.connected m ≡ true → waiting_for it.group (known_by it.setup (after rounds) m) ≡ None
  only : flat_map (λ e. e.said) (own (after rounds) 4) ≡ body.Update update ∷ []

eight : AreFacts it.eight
unfolding computing_live
eight = record {
  computed = record { live = refl; come = refl; say = refl; intruded = refl; forged = refl; alike = refl };
  fair = refl;
  stayed = each_connected (λ m. view it.group (known_by it.setup (after it.eight) m) ≡ 0) refl refl refl;
  leaves = each_connected (λ m. 1 ≤ room it.setup (own (after it.eight) m))
      (leb-true 1 (room it.setup (own (after it.eight) 0)) refl)
      (leb-true 1 (room it.setup (own (after it.eight) 2)) refl) (leb-true 1 (room it.setup (own (after it.eight) 3)) refl);
  requests = ltb-true (last_request (said_before (heard it.setup (after it.eight) 0))) most_number refl;
  numbers = leb-true (next_offer it.setup (after it.eight) 0 first_plan) most_number refl;
  windows = each_connected (λ m. next_offer it.setup (after it.eight) 0 first_plan ≤
      stable it.group (facts_of it.group (known_by it.setup it.beginning m)) + window)
      (leb-true (next_offer it.setup (after it.eight) 0 first_plan)
      (stable it.group (facts_of it.group (known_by it.setup it.beginning 0)) + window) refl)
      (leb-true (next_offer it.setup (after it.eight) 0 first_plan)
      (stable it.group (facts_of it.group (known_by it.setup it.beginning 2)) + window) refl)
      (leb-true (next_offer it.setup (after it.eight) 0 first_plan)
      (stable it.group (facts_of it.group (known_by it.setup it.beginning 3)) + window) refl);
  waiting = each_connected (λ m. waiting_for it.group (known_by it.setup (after it.eight) m) ≡ None) refl refl refl;
  only = refl;
}

nine : AreFacts it.nine
unfolding computing_live
nine = record {
  computed = record { live = refl; come = refl; say = refl; intruded = refl; forged = refl; alike = refl };
  fair = refl;
  stayed = each_connected (λ m. view it.group (known_by it.setup (after it.nine) m) ≡ 0) refl refl refl;
  leaves = each_connected (λ m. 1 ≤ room it.setup (own (after it.nine) m))
      (leb-true 1 (room it.setup (own (after it.nine) 0)) refl)
      (leb-true 1 (room it.setup (own (after it.nine) 2)) refl) (leb-true 1 (room it.setup (own (after it.nine) 3)) refl);
  requests = ltb-true (last_request (said_before (heard it.setup (after it.nine) 0))) most_number refl;
  numbers = leb-true (next_offer it.setup (after it.nine) 0 first_plan) most_number refl;
  windows = each_connected (λ m. next_offer it.setup (after it.nine) 0 first_plan ≤
      stable it.group (facts_of it.group (known_by it.setup it.beginning m)) + window)
      (leb-true (next_offer it.setup (after it.nine) 0 first_plan)
      (stable it.group (facts_of it.group (known_by it.setup it.beginning 0)) + window) refl)
      (leb-true (next_offer it.setup (after it.nine) 0 first_plan)
      (stable it.group (facts_of it.group (known_by it.setup it.beginning 2)) + window) refl)
      (leb-true (next_offer it.setup (after it.nine) 0 first_plan)
      (stable it.group (facts_of it.group (known_by it.setup it.beginning 3)) + window) refl);
  waiting = each_connected (λ m. waiting_for it.group (known_by it.setup (after it.nine) m) ≡ None) refl refl refl;
  only = refl;
}

-- nothing is less than nothing
nothing_less : (n : ℕ) → 0 ≤ n
nothing_less n = omega arith

-- all that an actor said is among its own words
among_own : (history : List Entry) (actor : ℕ) (b : Body) → HasSaid history actor b →
    IsIn b (flat_map (λ e. e.said) (own history actor))
unfolding own
among_own history actor b h = in_flat_map (λ (e : Entry). e.said)
    (in_filter (λ (e : Entry). nat_eq e.actor actor) (in_of_stands h.place) (eq-eqb h.entry.actor actor h.by)) h.among

update_same : {a b : Update} → body.Update a ≡ body.Update b → a ≡ b
update_same e = cc

meets : (rounds : List (List Entry)) → AreFacts rounds → MeetsPremises rounds
unfolding computing_live
meets rounds facts = record {
  live = refl;
  sound = is_sound it.setup (after rounds) 1 sizes (omega arith) facts.computed;
  connected = connected;
  fair = are_rounds it.setup it.connected it.beginning rounds connected (λ m lt. below_in 4 m lt) facts.fair;
  leader = record {
    leader = refl;
    came = each_connected (λ m. view it.group (known_by it.setup it.beginning m) ≡ 0) refl refl refl;
    opened = each_connected (λ m. is_open it.group (known_by it.setup it.beginning m) ≡ true) refl refl refl;
    stayed = facts.stayed;
  };
  room = record {
    leaves = facts.leaves;
    requests = facts.requests;
    numbers = λ plan is. subst (λ (p : Plan). next_offer it.setup (after rounds) 0 p ≤ most_number) (some_same is)
        facts.numbers;
    windows = λ m is_m plan is. subst (λ (p : Plan). next_offer it.setup (after rounds) 0 p ≤
        stable it.group (facts_of it.group (known_by it.setup it.beginning m)) + window) (some_same is)
        (facts.windows m is_m);
  };
  whole = record {
    numbers = λ m is_m plan is. subst (λ (p : Plan). p.base ≤
        gapless it.group (facts_of it.group (known_by it.setup it.beginning m))) (some_same is)
        (nothing_less (gapless it.group (facts_of it.group (known_by it.setup it.beginning m))));
    requests = facts.waiting;
  };
  handed = record {
    is_connected = refl;
    serves = refl;
    said = record {
      before = [];
      entry = commands 0 4 update;
      place = record { after = []; whole = refl };
      by = refl;
      among = here [];
    };
    counted = leb-true 1 1 refl;
    earlier = leb-true 1 (introduced_to it.setup it.beginning 0 0 + 1) refl;
    alone = λ other said same. elim (in_cons_cases (subst (λ (bs : List Body). IsIn (body.Update other) bs) facts.only
        (among_own (after rounds) 4 (body.Update other) said))) [
          | inl is ↦ update_same is
          | inr none ↦ absurd (none_in none)
        ];
  };
}

pub executed_in_nine_rounds : ExecutedInNineRounds
unfolding computing_live
executed_in_nine_rounds = record {
  intruded = refl;
  eight = meets it.eight eight;
  eight_rounds = refl;
  none_before = each_connected (λ m. executions it.setup after_eight m ≡ []) refl refl refl;
  nine = meets it.nine nine;
  nine_rounds = refl;
  executed = each_connected (λ m. executions it.setup after_nine m ≡ update ∷ []) refl refl refl;
}
