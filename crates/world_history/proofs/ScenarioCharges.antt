-- What a scenario charges its masters with.
use Rattle.std.proofs.Common.{◌≡◌, ℕ, refl, sym}
use Rattle.quorum_sets.specs.Quorum.{group_size, quorum_size}
use Rattle.quorum_sets.specs.declared.sizes.Sizes.{Sizes}
use Rattle.protocol_rules.specs.Group.{Group, group_of}
use Rattle.world_history.specs.Laws.{ChargedBySetup}
use Rattle.world_rules.specs.Scenarios.{setup_of}

abbrev sized : Sizes → ℕ → Group
sized s clients = record { n = group_size s.f s.k; f = s.f; k = s.k; q = quorum_size s.f s.k; clients = clients; rules = s.rules }

same_group : (s : Sizes) (clients : ℕ) → sized s clients ≡ group_of s clients
same_group s clients = λ i. record { n = sym s.all i; f = s.f; k = s.k; q = sym s.quorum i; clients = clients; rules = s.rules }

pub charged_by_setup : ChargedBySetup
unfolding setup_of
charged_by_setup scenario master = record {
  group = same_group scenario.sizes _;
  me = refl;
  orders = λ updates client. refl;
  leaves = refl;
  shared = refl;
}
