-- The printed counts give all premises of the laws of agreement.
use Rattle.std.proofs.Common.{◌≡◌, ◌≤◌, List}
use Rattle.history_rules.specs.Events.{Entry}
use Rattle.history_rules.specs.Setup.{Setup}
use Rattle.history_rules.specs.Legal.{IsLegal}
use Rattle.history_rules.specs.Counts.{forged, alike, intruded_masters}
use Rattle.agreement.specs.Laws.{HasSizes, IsSound}
use Rattle.history_laws.proofs.Forged.{forged_counts}
use Rattle.history_laws.proofs.Alike.{alike_counts}

pub sound_by_counts : (w : Setup) (history : List Entry) → IsLegal w history → HasSizes w.group
    → intruded_masters w ≤ w.group.f → forged w history ≡ 0 → alike w.group history ≡ 0 → IsSound w history
sound_by_counts w history legal sizes few no_forged no_alike = record {
  legal = legal;
  sizes = sizes;
  few = record { few = few };
  unforged = (forged_counts w history).0 no_forged;
  alike = (alike_counts w.group history).0 no_alike;
}
