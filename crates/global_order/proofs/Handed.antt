-- An order that is handed one fact more: what the fact doesn't tell of stays as it was.
use Rattle.std.proofs.Common.{◌≡◌, ℕ, ◌≤◌, List, [], ◌∷◌, ◌++◌, None, nat_eq, sym, ◌∙◌, arith}
use Rattle.indexmap.specs.IndexMap.{get}
use Rattle.message_types.specs.declared.body.Body.{Body}
use Rattle.protocol_rules.specs.declared.facts.OrderFact.{OrderFact}
use Rattle.protocol_rules.specs.Group.{Group}
use Rattle.protocol_rules.specs.Order.{mark_by, plan_in, proposal_in, stable}
use Rattle.global_order.specs.Giving.{HasViews}
use Rattle.global_order.specs.Held.{IsSound}
use Rattle.global_order.specs.Index.{Map, Vote, HasPrepares, HasCommits, HasMarks, HasChoices, HasPlaces}
use Rattle.global_order.specs.Index.{HasHighestOrder, OrdersGrow, Reaches, ReachesLess, order_in}
use Rattle.global_order.specs.Offered.{HasOffers, OffersFit}
use Rattle.global_order.specs.OrderState.{OrderState, IsOrderOf}
use Rattle.global_order.specs.Unsaid.{HasPending, HasPendingCommits, said_in, offers_rows}
use Rattle.global_order.specs.declared.choices.Choices.{Choices}
use Rattle.global_order.specs.declared.offers.Offers.{Offers}
use Rattle.global_order.specs.declared.order.Order.TheInside.{Inside}
use Rattle.global_order.proofs.Runs.{reaches-still}
use Rattle.global_order.proofs.Taking.{IsNoVote, offers-other, stable-no_mark}
use Rattle.global_order.proofs.Touching.{pending-other}
use Rattle.global_order.proofs.Viewing.{views-other}
use Rattle.global_order.proofs.Voting.{prepares-other, commits-other, marks-other}

-- rows become known or are offered, and no vote is told
pub rows-told : (g : Group) (old : OrderState) (choices : Choices) (offers : Offers) (facts : List OrderFact)
    (said : List Body) (x : OrderFact) → IsNoVote x → ((s m : ℕ) → mark_by s m x ≡ None) →
    HasChoices g (facts ++ x ∷ []) choices → HasOffers (facts ++ x ∷ []) offers →
    HasPending (said_in old.told.prepares) (offers_rows (facts ++ x ∷ [])) offers.pending →
    HasPendingCommits (said_in old.told.commits) choices → IsOrderOf g old facts said →
    IsOrderOf g record old { choices = choices; offers = offers } (facts ++ x ∷ []) said
rows-told g old choices offers facts said x no_vote no_mark has_choices has_offers has_prepares has_commits held =
    record {
      sizes = held.sizes;
      prepares = prepares-other facts x old.prepares no_vote.prepare held.prepares;
      commits = commits-other facts x old.commits no_vote.commit held.commits;
      marks = marks-other facts x old.marks no_mark held.marks;
      choices = has_choices;
      views = views-other g facts x old.views no_vote.commit no_vote.view held.views;
      offers = has_offers;
      prepares_said = held.prepares_said;
      commits_said = held.commits_said;
      marked = held.marked;
      stable = held.stable ∙ sym (stable-no_mark g facts x no_mark);
      prepares_pending = has_prepares;
      commits_pending = has_commits;
    }

-- a vote is told, and nothing is offered
pub vote-told : (g : Group) (old : OrderState) (prepares commits : Map Vote (List ℕ)) (marks : Map (ℕ × ℕ) (List ℕ))
    (choices : Choices) (views : Map (ℕ × List ℕ) ℕ) (now : ℕ) (facts : List OrderFact) (said : List Body)
    (x : OrderFact) → ((v : ℕ) → plan_in v x ≡ None) → ((v s : ℕ) → proposal_in v s x ≡ None) →
    HasPrepares (facts ++ x ∷ []) prepares → HasCommits (facts ++ x ∷ []) commits → HasMarks (facts ++ x ∷ []) marks →
    HasChoices g (facts ++ x ∷ []) choices → HasViews g (facts ++ x ∷ []) views → now ≡ stable g (facts ++ x ∷ []) →
    HasPendingCommits (said_in old.told.commits) choices → IsOrderOf g old facts said →
    IsOrderOf g
    record old { prepares = prepares; commits = commits; marks = marks; choices = choices; views = views; stable = now }
    (facts ++ x ∷ []) said
vote-told g old prepares commits marks choices views now facts said x no_plan no_proposal has_prepares has_commits
    has_marks has_choices has_views is_stable has_pending held =
    record {
      sizes = held.sizes;
      prepares = has_prepares;
      commits = has_commits;
      marks = has_marks;
      choices = has_choices;
      views = has_views;
      offers = offers-other facts x old.offers no_plan no_proposal held.offers;
      prepares_said = held.prepares_said;
      commits_said = held.commits_said;
      marked = held.marked;
      stable = is_stable;
      prepares_pending = pending-other (said_in old.told.prepares) facts x old.offers.pending no_plan no_proposal
          held.prepares_pending;
      commits_pending = has_pending;
    }

-- what is sound stays so where more is ordered, and the run without a gap goes on
pub sound-grown : (a b : Inside) → b.told.marked ≡ a.told.marked → b.stable ≡ a.stable → HasPlaces b.choices →
    OffersFit b.offers → HasHighestOrder b.choices → OrdersGrow a.choices.ordered b.choices.ordered →
    a.gapless ≤ b.gapless →
    (ReachesLess (λ s. order_in (get nat_eq b.choices.ordered s)) a.gapless →
    Reaches (λ s. order_in (get nat_eq b.choices.ordered s)) b.gapless) → IsSound a → IsSound b
sound-grown a b same_marked same_stable places fit highest grow on reaches sound = record {
  places = places;
  fit = fit;
  marked = omega (arith, sound.marked);
  stable = rw same_stable sound.stable;
  highest = highest;
  gapless = reaches
      (reaches-still (λ s. order_in (get nat_eq a.choices.ordered s))
      (λ s. order_in (get nat_eq b.choices.ordered s)) a.gapless grow sound.gapless);
}
