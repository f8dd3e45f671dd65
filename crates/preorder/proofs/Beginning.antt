-- What a pre-ordering begins with.
use Rattle.std.proofs.Common.{◌≡◌, ℕ, [], ◌∙◌, ap, sym, subst, refl, is_some, arith, true≢false, replicate, length}
use Rattle.std.specs.Prelude.{slice_index}
use Rattle.protocol_rules.specs.Group.{Group}
use Rattle.preorder.specs.declared.requests.Counts.{Counts}
use Rattle.preorder.specs.Again.{AreOwn}
use Rattle.preorder.specs.Counted.{IsCounted}
use Rattle.preorder.specs.PreorderState.{PreorderState, IsPreorderOf}
use Rattle.preorder.specs.Index.{IsKnownFirst, first_update, is_settled, ballot_update, ballot_has}
use Rattle.preorder.proofs.Turning.{lanes-begin}
use Rattle.preorder.proofs.RequestsInTurn.{introduced-begin}
use Rattle.preorder.proofs.Others.{pending-none, pair-empty, ballot-empty, certified-empty, zeros, reach-empty}

counted-none : (counts : Counts) → counts.introduced ≡ 0 → counts.said_for ≡ replicate 12 0 → IsCounted [] counts
counted-none counts all each = record {
  all = all;
  limit = omega arith;
  clients = ap length each;
  of_client = λ c below. ap (λ xs. slice_index xs c) each ∙ zeros 12 c;
}

pub starts : (g : Group) (me : ℕ) (p : PreorderState) → p.group ≡ g → p.me ≡ me → p.updates ≡ [] → p.firsts ≡ [] →
    p.ballots ≡ [] → p.certificates ≡ [] →
    p.reach ≡ replicate 14 0 → p.pending.low ≡ replicate 14 4097 → p.pending.high ≡ replicate 14 0 →
    p.counts.introduced ≡ 0 → p.counts.said_for ≡ replicate 12 0 →
    p.lanes ≡ replicate 14 (record { seen = 0; greatest = replicate 12 0 }) →
    p.introduced.request ≡ 0 → p.introduced.updates ≡ replicate 12 0 → p.own ≡ [] →
    IsPreorderOf g me p [] [] []
starts g me p group own updates firsts ballots certificates reach low high introduced said_for lanes request
    each keys = record {
      group = group;
      own = own;
      updates = λ c t. pair-empty p.updates (c, t) updates;
      numbers = λ c t high. pair-empty p.updates (c, t) updates;
      firsts = λ j k. record {
        update = ap first_update (pair-empty p.firsts (j, k) firsts);
        acked = sym (ap is_settled (pair-empty p.firsts (j, k) firsts));
        placed = subst (IsKnownFirst g j k) (sym (pair-empty p.firsts (j, k) firsts)) tt;
      };
      ballots = λ j k d. record {
        update = ap ballot_update (ballot-empty p.ballots (j, k, d) ballots);
        voters = λ m below. ap (λ o. ballot_has o m) (ballot-empty p.ballots (j, k, d) ballots);
      };
      certified = λ j k. pair-empty p.certificates (j, k) certificates ∙ sym (certified-empty g j k);
      reach = reach-empty g p.reach (λ j. ap (λ xs. slice_index xs j) reach ∙ zeros 14 j);
      pending = pending-none [] [] p.pending.low p.pending.high low high (λ j k pending. true≢false (sym pending.0));
      counted = λ first. counted-none p.counts introduced said_for;
      lanes = lanes-begin g p.lanes lanes;
      introduced = λ live. introduced-begin p.introduced request each;
      requested = λ live. subst (AreOwn [] p.updates) (sym keys) (record {
        count = refl;
        held = λ i key e. absurd (true≢false (sym (ap is_some e)));
        each = λ i. refl;
      });
      acknowledged = λ live j k any. absurd (true≢false (sym any));
    }
