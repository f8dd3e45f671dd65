-- Which rules a group goes by.
use Rattle.std.proofs.Common.{◌≡◌, Bool, true, false, ap}
use Rattle.quorum_sets.specs.declared.sizes.Rules.{Rules}
use Rattle.quorum_sets.specs.declared.sizes.Rules.TheVariants.{First, Live}
use Rattle.protocol_rules.specs.Group.{Group, is_live}

-- the same of the rules alone
abbrev tells : Rules → Bool
tells rules = elim rules [ First ↦ false | Live ↦ true ]

pub live_by : (g : Group) (rules : Rules) → rules ≡ g.rules → tells rules ≡ is_live g
unfolding is_live
live_by g rules same = ap tells same

pub first_by : (g : Group) → First ≡ g.rules → false ≡ is_live g
first_by g same = live_by g First same

pub alive_by : (g : Group) → Live ≡ g.rules → true ≡ is_live g
alive_by g same = live_by g Live same

pub live_alike : (g h : Group) → g.rules ≡ h.rules → is_live g ≡ is_live h
unfolding is_live
live_alike g h same = ap tells same
