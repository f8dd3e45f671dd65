-- What is computed of an example, and what follows of it: that its entries are legal, and its counts in order.
use Rattle.std.proofs.Common.{◌≡◌, ◌≤◌, ℕ, true, List, [], refl, subst, sym, arith}
use Rattle.sha2.specs.Sha256.{sha256, digest_bytes, hash_after, compress, rounds, schedule, first_words}
use Rattle.wire_parts.specs.Fields.{u16_bytes, u32_bytes, u64_bytes}
use Rattle.message_types.specs.Digests.{digest_of_update, digest_of_rows}
use Rattle.message_types.specs.Spelling.{has_spelling}
use Rattle.quorum_sets.specs.Masters.{numbers_below}
use Rattle.quorum_sets.specs.Quorum.{has_quorum}
use Rattle.protocol_rules.specs.Words.{first_met, run_from, numbers_from, best_by, last_below, in_order, each_once}
use Rattle.protocol_rules.specs.Group.{most_number, window, most_view, mark_step}
use Rattle.protocol_rules.specs.Facts.{facts_of, rows_known}
use Rattle.protocol_rules.specs.Plans.{chosen, plan_of}
use Rattle.protocol_rules.specs.Preorder.{certified, vector}
use Rattle.protocol_rules.specs.Matrix.{latest, rows_of_frames, eligible}
use Rattle.protocol_rules.specs.Order.{is_voted, prepared, offered, ordered, ordered_run, stable, last_certificate}
use Rattle.protocol_rules.specs.Execution.{eligible_requests, certified_run, first_missing, kept_after, executed_of}
use Rattle.protocol_rules.specs.Execution.{waiting_of}
use Rattle.protocol_rules.specs.Views.{view, is_open}
use Rattle.protocol_rules.specs.Measures.{turnaround, acceptable, own_bound}
use Rattle.protocol_rules.specs.Master.{known_at, executed, waits}
use Rattle.history_rules.specs.Events.{Entry}
use Rattle.history_rules.specs.Setup.{Setup, own, stands}
use Rattle.history_rules.specs.Legal.{IsLegal, heard_in, known_of}
use Rattle.history_rules.specs.Audit.{NothingForged, NoSharedDigest}
use Rattle.history_rules.specs.Counts.{forged, alike, intruded_masters}
use Rattle.agreement.specs.Laws.{HasSizes, IsSound}
use Rattle.history_laws.proofs.Forged.{forged_counts}
use Rattle.history_laws.proofs.Alike.{alike_counts}
use Rattle.history_laws.proofs.Sound.{sound_by_counts}
use Rattle.history_examples.specs.Signing.{four_masters}
use Rattle.history_examples.proofs.Minds.{short_answers, short_says, each_says}
use Rattle.history_examples.proofs.Entries.{each_may_come, legal_history}

-- `unfolding computing` opens all that the computation of an example goes through.
unfoldable pub computing : Unit {0}
unfolding short_says short_answers own stands has_spelling heard_in known_of known_at numbers_below has_quorum
    first_met run_from numbers_from best_by last_below in_order each_once most_number window most_view mark_step
    facts_of rows_known chosen plan_of certified vector latest rows_of_frames eligible is_voted prepared offered
    ordered ordered_run stable last_certificate eligible_requests certified_run first_missing kept_after executed_of
    waiting_of view is_open turnaround acceptable own_bound executed waits digest_of_update digest_of_rows sha256
    digest_bytes hash_after compress rounds schedule first_words u16_bytes u32_bytes u64_bytes
computing = tt

-- Each entry may come where it stands, and says what it is to say; and the counts are these.
pub record IsComputed (w : Setup) (history : List Entry) (masters words : ℕ) : Type 0 where
  pub come : each_may_come w [] history ≡ true
  pub say : each_says w history ≡ true
  pub intruded : intruded_masters w ≡ masters
  pub forged : forged w history ≡ words
  pub alike : alike w.group history ≡ 0

pub is_legal : (w : Setup) (history : List Entry) (masters words : ℕ) → IsComputed w history masters words →
    IsLegal w history
is_legal w history masters words c = legal_history w history c.come c.say

pub none_forged : (w : Setup) (history : List Entry) (masters : ℕ) → IsComputed w history masters 0 →
    NothingForged w history
none_forged w history masters c = (forged_counts w history).0 c.forged

pub none_alike : (w : Setup) (history : List Entry) (masters words : ℕ) → IsComputed w history masters words →
    NoSharedDigest w.group history
none_alike w history masters words c = (alike_counts w.group history).0 c.alike

pub is_sound : (w : Setup) (history : List Entry) (masters : ℕ) → HasSizes w.group → masters ≤ w.group.f →
    IsComputed w history masters 0 → IsSound w history
is_sound w history masters sizes few c =
    sound_by_counts w history (is_legal w history masters 0 c) sizes
    (subst (λ (m : ℕ). m ≤ w.group.f) (sym c.intruded) few) c.forged c.alike

pub four_have_sizes : (clients : ℕ) → HasSizes (four_masters clients)
four_have_sizes clients = record {
  group = record {
    some_may_be_intruded = omega arith;
    at_most_three_intruded = omega arith;
    at_most_two_away = omega arith;
  };
  all = refl;
  quorum = refl;
}
