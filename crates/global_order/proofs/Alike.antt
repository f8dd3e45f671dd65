-- What holds of an order holds of one that holds the same, in other room.
use Rattle.std.proofs.Common.{◌≡◌, ℕ, Bool, List, Option, refl, sym, ◌∙◌, ap, subst, nat_eq}
use Rattle.std.specs.List.{list_any}
use Rattle.std.specs.Prelude.{Result, Ok, Err, OnErr}
use Rattle.std.specs.Map.{lookup}
use Rattle.std.specs.Str.{bytes_eq}
use Rattle.indexmap.specs.IndexMap.{get}
use Rattle.std.specs.HashSet.{contains}
use Rattle.protocol_rules.specs.Group.{Group}
use Rattle.global_order.specs.Choosing.{IsLeast}
use Rattle.global_order.specs.Index.{Agrees, Map, Vote, Waiting, HasPlaces, KeepsSlots, KeepsOrders, KeepsWaiting}
use Rattle.global_order.specs.Index.{same_pair, order_in, is_backing, is_ordering}
use Rattle.global_order.specs.OrderState.{OrderState, IsOrderOf, Stays}
use Rattle.global_order.specs.Held.{IsSound, state_of}
use Rattle.global_order.specs.Saying.{HasMarked, HasSaidPrepares, HasSaidCommits, Places}
use Rattle.global_order.specs.Unsaid.{HasPending, said_in}
use Rattle.global_order.specs.declared.said.Said.{Said}
use Rattle.global_order.specs.declared.choices.Choices.{Choices}
use Rattle.global_order.specs.declared.slots.Slot.{Slot}
use Rattle.global_order.specs.declared.order.Order.TheInside.{Inside}
use Rattle.message_types.specs.declared.body.Body.{Body}
use Rattle.message_types.specs.declared.views.Plan.{Plan}
use Rattle.protocol_rules.specs.declared.facts.OrderFact.{OrderFact}
use Rattle.global_order.specs.declared.pending.PendingNumbers.{PendingNumbers}
use Rattle.global_order.proofs.Highest.{highest-kept}
use Rattle.global_order.proofs.Touching.{pending-kept}
use Rattle.global_order.proofs.Runs.{reaches-same}

pub record AreAlike (a b : Choices) : Type 0 where
  pub rows : b.rows.entries ≡ a.rows.entries
  pub prepared : KeepsSlots a.prepared b.prepared
  pub backed : KeepsWaiting a.backed b.backed
  pub ordered : KeepsOrders a.ordered b.ordered
  pub committed : KeepsWaiting a.committed b.committed

pub keeps-itself : (a : Choices) → KeepsSlots a.prepared a.prepared
keeps-itself a = record { first = λ k. refl; least = λ k. refl; places = λ k e. e }

pub keeps-orders : (a : Choices) → KeepsOrders a.ordered a.ordered
keeps-orders a = record { order = λ s. refl; places = λ s e. e }

pub choices-alike : (known : List (List (List ℕ))) (prepares : ℕ × ℕ → List ℕ → Bool) (first : ℕ × ℕ →
    Option (List ℕ)) (commits : ℕ → List ℕ → Bool) (order : ℕ → Option (List ℕ)) (a b : Choices) → AreAlike a b →
    Agrees known prepares first commits order a → Agrees known prepares first commits order b
choices-alike known prepares first commits order a b like agrees = record {
  rows = λ d. ap (lookup (bytes_eq d)) like.rows ∙ agrees.rows d;
  prepared = record {
    choice = λ k. like.prepared.first k ∙ agrees.prepared.choice k;
    waiting = λ k d none. ap (list_any (is_backing k d)) (like.backed d) ∙ agrees.prepared.waiting k d none;
    places = λ k d waits. like.prepared.places k
        (agrees.prepared.places k d (sym (ap (list_any (is_backing k d)) (like.backed d)) ∙ waits));
    closed = agrees.prepared.closed;
  };
  least = λ k. subst (IsLeast _) (sym (like.prepared.least k)) (agrees.least k);
  ordered = record {
    choice = λ s. like.ordered.order s ∙ agrees.ordered.choice s;
    waiting = λ s d none. ap (list_any (is_ordering s d)) (like.committed d) ∙ agrees.ordered.waiting s d none;
    places = λ s d waits. like.ordered.places s
        (agrees.ordered.places s d (sym (ap (list_any (is_ordering s d)) (like.committed d)) ∙ waits));
    closed = agrees.ordered.closed;
  };
}

pub alike-itself : (a : Choices) → AreAlike a a
alike-itself a = record {
  rows = refl;
  prepared = keeps-itself a;
  backed = λ d. refl;
  ordered =
      keeps-orders a;
  committed = λ d. refl;
}

-- what waits has its place there too
pub places-alike : (a b : Choices) → AreAlike a b → HasPlaces a → HasPlaces b
places-alike a b like has = record {
  prepared = λ k d waits. like.prepared.places k
      (has.prepared k d (sym (ap (list_any (is_backing k d)) (like.backed d)) ∙ waits));
  ordered = λ s d waits. like.ordered.places s
      (has.ordered s d (sym (ap (list_any (is_ordering s d)) (like.committed d)) ∙ waits));
}

-- room for more rows, and for more that are prepared or ordered
pub alike-rows : (c : Choices) (rows : Map (List ℕ) (List (List ℕ))) → rows.entries ≡ c.rows.entries →
    AreAlike c (record c { rows = rows })
alike-rows c rows same = record {
  rows = same;
  prepared = keeps-itself c;
  backed = λ d. refl;
  ordered =
      keeps-orders c;
  committed = λ d. refl;
}

pub alike-prepared : (c : Choices) (slots : Map (ℕ × ℕ) Slot) (waiting : Waiting) → KeepsSlots c.prepared slots →
    KeepsWaiting c.backed waiting → AreAlike c (record c { prepared = slots; backed = waiting })
alike-prepared c slots waiting keeps waits = record {
  rows = refl;
  prepared = keeps;
  backed = waits;
  ordered =
      keeps-orders c;
  committed = λ d. refl;
}

pub alike-ordered : (c : Choices) (orders : Map ℕ (Option (List ℕ))) (waiting : Waiting) →
    KeepsOrders c.ordered orders → KeepsWaiting c.committed waiting →
    AreAlike c (record c { ordered = orders; committed = waiting })
alike-ordered c orders waiting keeps waits = record {
  rows = refl;
  prepared = keeps-itself c;
  backed = λ d. refl;
  ordered = keeps;
  committed = waits;
}

-- what an order holds besides the choices, as lists and numbers: the room that there is for more isn't among it
pub record Listed : Type 0 where
  pub masters : ℕ
  pub quorum : ℕ
  pub prepares : List (Vote × List ℕ)
  pub commits : List (Vote × List ℕ)
  pub marks : List ((ℕ × ℕ) × List ℕ)
  pub views : List ((ℕ × List ℕ) × ℕ)
  pub first_plan : Plan
  pub plans : List (ℕ × Plan)
  pub proposals : List ((ℕ × ℕ) × List (List ℕ))
  pub offers_pending : PendingNumbers
  pub commits_pending : PendingNumbers
  pub told : Said
  pub highest : ℕ
  pub stable : ℕ

abbrev pub listed : OrderState → Listed
listed k = record {
  masters = k.masters;
  quorum = k.quorum;
  prepares = k.prepares.entries;
  commits = k.commits.entries;
  marks = k.marks.entries;
  views = k.views.entries;
  first_plan = k.offers.first_plan;
  plans = k.offers.plans.entries;
  proposals = k.offers.proposals.entries;
  offers_pending = k.offers.pending;
  commits_pending = k.choices.pending;
  told = k.told;
  highest = k.choices.highest;
  stable = k.stable;
}

pub sound-alike : (a b : Inside) → listed (state_of b) ≡ listed (state_of a) → b.gapless ≡ a.gapless →
    AreAlike a.choices b.choices → IsSound a → IsSound b
sound-alike a b same same_gapless like sound =
    let same_first_plan : b.offers.first_plan ≡ a.offers.first_plan = ap (λ (k : Listed). k.first_plan) same in
    let same_plans : b.offers.plans.entries ≡ a.offers.plans.entries = ap (λ (k : Listed). k.plans) same in
    let same_proposals : b.offers.proposals.entries ≡ a.offers.proposals.entries =
    ap (λ (k : Listed). k.proposals) same in
    let same_told : b.told ≡ a.told = ap (λ (k : Listed). k.told) same in
    let same_highest : b.choices.highest ≡ a.choices.highest = ap (λ (k : Listed). k.highest) same in
    let same_stable : b.stable ≡ a.stable = ap (λ (k : Listed). k.stable) same in
    record {
      places = places-alike a.choices b.choices like sound.places;
      fit = record {
        first = rw same_first_plan sound.fit.first;
        plans = λ v. rw same_plans (sound.fit.plans v);
        proposals = λ k. rw same_proposals (sound.fit.proposals k);
      };
      marked = rw (same_told, same_gapless) sound.marked;
      stable = rw same_stable sound.stable;
      highest = rw same_highest
          (highest-kept a.choices.ordered b.choices.ordered a.choices.highest like.ordered sound.highest);
      gapless = rw same_gapless
          (reaches-same (λ s. order_in (get nat_eq a.choices.ordered s))
          (λ s. order_in (get nat_eq b.choices.ordered s)) a.gapless (λ s. sym (like.ordered.order s)) sound.gapless);
    }

-- the order is the one inside
pub inside : (a : Inside) (now : OrderState) → state_of a ≡ now →
    (g : Group) (facts : List OrderFact) (said : List Body) → IsOrderOf g now facts said →
    IsOrderOf g (state_of a) facts said
inside a now is g facts said held = subst (λ (k : OrderState). IsOrderOf g k facts said) (sym is) held

pub stays-alike : (a : Inside) (now new : OrderState) → state_of a ≡ now → listed new ≡ listed (state_of a) →
    AreAlike a.choices new.choices → Stays now new
stays-alike a now new is same like g facts said order =
    let held : IsOrderOf g (state_of a) facts said = inside a now is g facts said order in
    let same_masters : new.masters ≡ a.sizes.n = ap (λ (k : Listed). k.masters) same in
    let same_quorum : new.quorum ≡ a.sizes.q = ap (λ (k : Listed). k.quorum) same in
    let same_prepares : new.prepares.entries ≡ a.prepares.entries = ap (λ (k : Listed). k.prepares) same in
    let same_commits : new.commits.entries ≡ a.commits.entries = ap (λ (k : Listed). k.commits) same in
    let same_marks : new.marks.entries ≡ a.marks.entries = ap (λ (k : Listed). k.marks) same in
    let same_views : new.views.entries ≡ a.views.entries = ap (λ (k : Listed). k.views) same in
    let same_first_plan : new.offers.first_plan ≡ a.offers.first_plan = ap (λ (k : Listed). k.first_plan) same in
    let same_plans : new.offers.plans.entries ≡ a.offers.plans.entries = ap (λ (k : Listed). k.plans) same in
    let same_proposals : new.offers.proposals.entries ≡ a.offers.proposals.entries =
    ap (λ (k : Listed). k.proposals) same in
    let same_offers_pending : new.offers.pending ≡ a.offers.pending = ap (λ (k : Listed). k.offers_pending) same in
    let same_commits_pending : new.choices.pending ≡ a.choices.pending = ap (λ (k : Listed). k.commits_pending) same in
    let same_told : new.told ≡ a.told = ap (λ (k : Listed). k.told) same in
    let same_stable : new.stable ≡ a.stable = ap (λ (k : Listed). k.stable) same in
    record {
      sizes = record { masters = held.sizes.masters ∙ sym same_masters; quorum = held.sizes.quorum ∙ sym same_quorum };
      prepares = λ v s d m. rw same_prepares (held.prepares v s d m);
      commits = λ v s d m. rw same_commits (held.commits v s d m);
      marks = λ s m. rw same_marks (held.marks s m);
      choices = choices-alike _ _ _ _ _ a.choices new.choices like held.choices;
      views = λ s d. rw same_views (held.views s d);
      offers = record {
        first = same_first_plan ∙ held.offers.first;
        plans = λ v. rw same_plans (held.offers.plans v);
        proposals = λ v s. rw same_proposals (held.offers.proposals v s);
      };
      prepares_said = subst (λ (t : Said). HasSaidPrepares said t.prepares) (sym same_told) held.prepares_said;
      commits_said = subst (λ (t : Said). HasSaidCommits said t.commits) (sym same_told) held.commits_said;
      marked = subst (λ (t : Said). HasMarked said t.marked) (sym same_told) held.marked;
      stable = same_stable ∙ held.stable;
      prepares_pending = rw (same_told, same_offers_pending) held.prepares_pending;
      commits_pending = rw (same_told, same_commits_pending)
          (pending-kept (said_in a.told.commits) a.choices.prepared new.choices.prepared a.choices.pending
          like.prepared held.commits_pending);
    }

-- what holds anyway holds where there was no memory
pub on-err : {A E P : Type 0} (r : Result A E) → P → OnErr r P
on-err (Ok x) p = tt
on-err (Err e) p = p

pending-same : (old new : Places) (there : ℕ → ℕ → Bool) (p : PendingNumbers) →
    ((k : ℕ × ℕ) → contains same_pair new k ≡ contains same_pair old k) → HasPending (said_in old) there p →
    HasPending (said_in new) there p
pending-same old new there p same has = record {
  from_one = has.from_one;
  apart = has.apart;
  within = λ s one unsaid some. has.within s one (sym (same (p.view, s)) ∙ unsaid) some;
}

-- an order stays the same where room is made for more to say
pub stays-told : (now : OrderState) (told : Said) →
    ((k : ℕ × ℕ) → contains same_pair told.prepares k ≡ contains same_pair now.told.prepares k) →
    ((k : ℕ × ℕ) → contains same_pair told.commits k ≡ contains same_pair now.told.commits k) →
    told.marked ≡ now.told.marked → Stays now (record now { told = told })
stays-told now told prepares commits marked g facts said held = record {
  sizes = held.sizes;
  prepares = held.prepares;
  commits = held.commits;
  marks = held.marks;
  choices = held.choices;
  views = held.views;
  offers = held.offers;
  prepares_said = λ v s. prepares (v, s) ∙ held.prepares_said v s;
  commits_said = λ v s. commits (v, s) ∙ held.commits_said v s;
  marked = subst (HasMarked said) (sym marked) held.marked;
  stable = held.stable;
  prepares_pending = pending-same now.told.prepares told.prepares _ now.offers.pending prepares held.prepares_pending;
  commits_pending = pending-same now.told.commits told.commits _ now.choices.pending commits held.commits_pending;
}
