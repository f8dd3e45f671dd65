-- Measures where nothing was told, known or said.
use Rattle.std.proofs.Common.{◌≡◌, ℕ, zero, suc, Bool, true, false, cond, ◌&&◌, not, [], Option, None, get_or, nat_eq}
use Rattle.std.proofs.Common.{nat_lt, refl, sym, ◌∙◌, ap}
use Rattle.std.specs.Prelude.{replicate}
use Rattle.std.specs.Option.{unwrap_or}
use Rattle.message_types.specs.declared.measures.Rtt.{Rtt}
use Rattle.protocol_rules.specs.Group.{Group}
use Rattle.protocol_rules.specs.Words.{best_by}
use Rattle.suspect_leader.specs.declared.saying.Saying.{Saying}
use Rattle.suspect_leader.specs.declared.saying.Saying.TheVariants.{Ping, Pong, RoundTrip, Report, Bound, Vote}
use Rattle.suspect_leader.specs.Sayings.{is_pending, is_among}
use Rattle.suspect_leader.specs.MeasureState.{MeasureState, IsMeasureOf, told_at}
use Rattle.suspect_leader.proofs.Words.{later_trip}

pub no_trip_at : (n j : ℕ) → get_or (replicate n (let none : Option Rtt = None in none)) j None ≡ None
no_trip_at zero j = refl
no_trip_at (suc n) zero = refl
no_trip_at (suc n) (suc j) = no_trip_at n j

none_best : best_by later_trip [] ≡ None
unfolding best_by
none_best = refl

none_pending : (g : Group) (me : ℕ) (s : Saying) → false ≡ is_pending g me [] [] s
none_pending g me (Pong to number) = at (nat_lt to g.n) (nat_eq to me)
  where
    at : (l e : Bool) → false ≡ (l && not e && false && true)
    at true true = refl
    at true false = refl
    at false e = refl
none_pending g me (RoundTrip to number) = at (nat_lt to g.n)
  where
    at : (l : Bool) → false ≡ (l && false && true)
    at true = refl
    at false = refl
none_pending g me (Ping number) = refl
none_pending g me (Report v ticks) = refl
none_pending g me (Bound v) = refl
none_pending g me (Vote v) = refl

none_waited : (b : Bool) → let none : ℕ = 0 in cond b none 0 ≡ 0
none_waited true = refl
none_waited false = refl

pub start : (g : Group) (me : ℕ) (kept : MeasureState) → kept.group.n ≡ g.n → kept.group.f ≡ g.f →
    kept.group.q ≡ g.q → kept.me ≡ me → kept.ticks ≡ 0 → kept.waited ≡ 0 → kept.reports ≡ [] → kept.bounds ≡ [] →
    ((j : ℕ) → get_or kept.trips j None ≡ None) → kept.pending ≡ [] → kept.said ≡ []
    → IsMeasureOf g me kept [] [] []
start g me kept n f q own ticks waited reports bounds trips pending said = record {
  masters = n;
  intruded = f;
  quorum = q;
  own = own;
  ticks = ticks;
  waiting = λ v. ap (λ x. cond (nat_eq v kept.view) x 0) waited ∙ none_waited (nat_eq v kept.view);
  reports = λ v master lt. ap (λ l. unwrap_or (told_at l v master) 0) reports;
  bounds = λ v master lt. ap (λ l. told_at l v master) bounds;
  trips = λ master lt. trips master ∙ sym none_best;
  pending = λ s. ap (λ l. is_among l s) pending ∙ none_pending g me s;
  counted = λ s. ap (λ l. is_among l s) said;
}
