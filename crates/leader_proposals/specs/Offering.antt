-- How far a leader came: what it offered in its view, and what it counts as offered.
use Rattle.std.specs.Prelude.{◌≡◌, ℕ, ◌≤◌, ◌<◌, List, [], max}
use Rattle.std.specs.List.{filter_map}
use Rattle.message_types.specs.declared.body.Body.{Body}
use Rattle.protocol_rules.specs.declared.facts.OrderFact.{OrderFact}
use Rattle.protocol_rules.specs.Words.{greatest_of}
use Rattle.protocol_rules.specs.Parts as part
use Rattle.protocol_rules.specs.Group.{Group}
use Rattle.protocol_rules.specs.Master.{offered_number}
use Rattle.global_order.specs.OrderState.{HasSizes}
use Rattle.leader_proposals.specs.Counting.{IsSettled, plan_end}
use Rattle.leader_proposals.specs.declared.progress.Progress.{Progress}

-- The progress of a leader that said these words where these facts are known: in its view it offered numbers up to the
-- greatest, and none of a later view.
pub record IsProgressOf (g : Group) (p : Progress) (facts : List OrderFact) (said : List Body) : Type 0 where
  pub greatest : p.greatest ≡ greatest_of (filter_map (offered_number p.view) said)
  pub later : (v : ℕ) → p.view < v → filter_map (offered_number v) said ≡ []
  pub settled : IsSettled g facts p.view p.settled p.reach.numbers
  pub limit : p.settled ≤ max (plan_end facts p.view) p.greatest

-- the numbers of masters and of a quorum, and how far the leader came
pub record Offered : Type 0 where
  pub masters : ℕ
  pub quorum : ℕ
  pub progress : Progress

-- The offers of a master of this group that said these words where these facts are known: they don't depend on how many
-- clients there are.
pub record AreOffersOf (g : Group) (kept : Offered) (facts : List OrderFact) (said : List Body) : Type 0 where
  pub sizes : HasSizes g kept.masters kept.quorum
  pub progress : IsProgressOf g kept.progress facts said

-- The offers learn facts: whatever was known and said, they are the offers where these are known too.
abbrev pub Learns : Offered → Offered → List OrderFact → Type 0
Learns old new facts = (g : Group) → part.Learns (AreOffersOf g old) (AreOffersOf g new) facts
