-- What a station has done is its actor's own, and so is any beginning of it.
use Rattle.std.proofs.Common.{ℕ, nat_eq, take, drop, refl, sym, subst}
use Rattle.std.proofs.lemmas.List.{take-append-drop}
use Rattle.plain_lists.proofs.Lists.{all_take}
use Rattle.history_rules.specs.Events.{Entry}
use Rattle.history_rules.specs.Legal.{IsLegal}
use Rattle.history_laws.specs.Own.{IsOwnHistory}
use Rattle.history_laws.proofs.EntryByEntry.{none_is_legal}
use Rattle.history_laws.proofs.OwnEntries.{own_of_legal}
use Rattle.agreement.proofs.Places.{legal_before}
use Rattle.world_rules.specs.Scenarios.{setup_of}
use Rattle.joint_lists.proofs.Alone.{own_alone}
use Rattle.station_lives.specs.Laws.{NoneIsStation, BeginningIsStation, StationIsOwn}

pub none_is_station : NoneIsStation
none_is_station c actor = record { legal = none_is_legal (setup_of c); alone = refl }

pub beginning_is_station : BeginningIsStation
beginning_is_station c actor list count is = record {
  legal = legal_before (setup_of c) (take count list) (drop count list)
      (subst (IsLegal (setup_of c)) (sym (take-append-drop count list)) is.legal);
  alone = all_take (λ (e : Entry). nat_eq e.actor actor) count list is.alone;
}

pub station_is_own : StationIsOwn
station_is_own c actor list is = subst (IsOwnHistory (setup_of c) actor) (own_alone actor list is.alone)
    (own_of_legal (setup_of c) list actor is.legal)
