-- What a correct master's object says at an entry, and the frames that it is handed there: those of the rules, since at
-- each silent entry before it said nothing.
use Rattle.std.proofs.Common.{◌≡◌, ℕ, true, List, nat_eq, sym, ◌∙◌}
use Rattle.std.proofs.lemmas.Bool.{eq-eqb}
use Rattle.history_rules.specs.Events.{Entry}
use Rattle.history_rules.specs.Setup.{Setup, is_correct_master, leaves_used}
use Rattle.agreement.proofs.KnownAsItGrows.{signed_from_in, signed_from_bodies}
use Rattle.agreement.proofs.Places.{stands_in}
use Rattle.words_in_place.proofs.Limits.{all_from}
use Rattle.master_node.specs.Laws.{SilentSayNothing}
use Rattle.master_node.proofs.Histories.{says_as_histories_do}
use Rattle.history_laws.specs.BenchLists.{IsBenchList}
use Rattle.bench_rules.specs.Lists.{frames_after}
use Rattle.bench_rules.proofs.HeardEvents.{silent_says_nothing}
use Rattle.world_history.specs.Laws.{MasterSays, MasterIsHanded}

quiet : (w : Setup) (i : ℕ) (list : List Entry) → is_correct_master w i ≡ true → IsBenchList w i list →
    SilentSayNothing list
quiet w i list correct is x h silent =
    let place = stands_in list h in silent_says_nothing w i place.0 x correct (is.entries place.0 x place.1) silent

pub master_says : MasterSays
master_says w i list e correct is adds loud =
    says_as_histories_do w i list e.event correct (quiet w i list correct is) loud ∙ sym adds.said

pub master_is_handed : MasterIsHanded
master_is_handed w i list e correct is adds loud = record {
  own = all_from (λ f. nat_eq f.signer i) (frames_after w i list e)
      (λ f h. eq-eqb f.signer i (signed_from_in w i (leaves_used w list) 0 e.said e.said f h).0);
  words = signed_from_bodies w i (leaves_used w list) 0 e.said e.said
      ∙ sym (master_says w i list e correct is adds loud);
}
