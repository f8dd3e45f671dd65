-- What an order begins with.
use Rattle.std.proofs.Common.{◌≡◌, ℕ, ◌≤◌, true, false, ◌&&◌, List, [], ◌∷◌, Option, None, length, nat_eq, nat_le}
use Rattle.std.proofs.Common.{refl, sym, ◌∙◌, ap, subst, arith}
use Rattle.std.specs.List.{list_any, filter_map, cons_option, find}
use Rattle.std.specs.Option.{option_map}
use Rattle.std.specs.Str.{bytes_eq}
use Rattle.std.specs.Map.{lookup}
use Rattle.std.proofs.lemmas.Bool.{lt-leb}
use Rattle.message_types.specs.Digests.{digest_of_rows}
use Rattle.quorum_sets.specs.Masters.{numbers_below}
use Rattle.protocol_rules.specs.declared.facts.OrderFact.{OrderFact}
use Rattle.protocol_rules.specs.Group.{Group, most_number}
use Rattle.protocol_rules.specs.Words.{first_met, first_of_list, greatest_of}
use Rattle.protocol_rules.specs.Facts.{rows_known}
use Rattle.protocol_rules.specs.Plans.{first_plan}
use Rattle.protocol_rules.specs.Order.{prepare_by, is_voted, prepared, ordered, stable}
use Rattle.protocol_rules.specs.Reconcile.{committed_views}
use Rattle.global_order.specs.Choosing.{has_digest, is_known, IsLeast}
use Rattle.global_order.specs.OrderState.{OrderState, HasSizes, IsOrderOf}
use Rattle.global_order.specs.Index.{waiting_in, HasChoices, HasPlaces, first_in, least_in, order_in, is_backing}
use Rattle.global_order.specs.Index.{is_ordering, same_pair}
use Rattle.global_order.specs.Held.{IsSound}
use Rattle.global_order.specs.Unsaid.{holds_prepared, offers_rows, said_in, whole_view}
use Rattle.global_order.proofs.Touching.{pending-whole}
use Rattle.global_order.specs.declared.choices.Choices.{Choices}
use Rattle.global_order.specs.declared.order.Order.TheInside.{Inside}

-- nothing is given of no votes
none-given : {X : Type 0} (f : ℕ → Option X) (ns : List ℕ) → ((m : ℕ) → f m ≡ None) → filter_map f ns ≡ []
none-given f [] none = refl
none-given f (n ∷ ns) none = ap (λ o. cons_option o (filter_map f ns)) (none n) ∙ none-given f ns none

no-quorum : {X : Type 0} (g : Group) (vote : ℕ → OrderFact → Option X) → 1 ≤ g.q → is_voted g vote [] ≡ false
unfolding is_voted
no-quorum {X} g vote some =
    ap (λ (xs : List X). nat_le g.q (length xs))
    (none-given (λ m. first_of_list (filter_map (vote m) [])) (numbers_below g.n) (λ m. refl)) ∙ lt-leb g.q 0 some

nothing-prepared : (g : Group) (v s : ℕ) → prepared g [] v s ≡ None
unfolding prepared first_met rows_known
nothing-prepared g v s = refl

nothing-ordered : (g : Group) (s : ℕ) → ordered g [] s ≡ None
unfolding ordered first_met rows_known
nothing-ordered g s = refl

nothing-known : rows_known [] ≡ []
unfolding rows_known
nothing-known = refl

nothing-viewed : (g : Group) (s : ℕ) (d : List ℕ) → committed_views g [] s d ≡ []
nothing-viewed g s d = refl

nothing-stable : (g : Group) → stable g [] ≡ 0
unfolding stable
nothing-stable g = refl

empty-choices : (g : Group) (c : Choices) → 1 ≤ g.q → c.rows.entries ≡ [] → c.prepared.entries ≡ [] →
    c.backed.entries ≡ [] → c.ordered.entries ≡ [] → c.committed.entries ≡ [] → HasChoices g [] c
empty-choices g c some rows slots backed orders committed = record {
  rows = λ d. ap (lookup (bytes_eq d)) rows ∙ sym (ap (find (has_digest d)) nothing-known);
  prepared = record {
    choice = λ k. ap (λ es. first_in (lookup (same_pair k) es)) slots
        ∙ sym (ap (option_map digest_of_rows) (nothing-prepared g k.0 k.1));
    waiting = λ k d none. ap (λ es. list_any (is_backing k d) (waiting_in (lookup (bytes_eq d) es))) backed
        ∙ sym (no-quorum g (prepare_by k.0 k.1 d) some);
    places = λ k d waits. let no_wait : false ≡ true =
        sym (ap (λ es. list_any (is_backing k d) (waiting_in (lookup (bytes_eq d) es))) backed) ∙ waits in absurd (cc);
    closed = λ k d none. ap (λ b. b && is_known (rows_known []) d) (no-quorum g (prepare_by k.0 k.1 d) some);
  };
  least = λ k. subst (IsLeast (λ d. is_voted g (prepare_by k.0 k.1 d) [] && is_known (rows_known []) d))
      (sym (ap (λ es. least_in (lookup (same_pair k) es)) slots))
      (λ d. ap (λ b. b && is_known (rows_known []) d) (no-quorum g (prepare_by k.0 k.1 d) some));
  ordered = record {
    choice = λ s. ap (λ es. order_in (lookup (nat_eq s) es)) orders
        ∙ sym (ap (option_map digest_of_rows) (nothing-ordered g s));
    waiting = λ s d none. ap (λ es. list_any (is_ordering s d) (waiting_in (lookup (bytes_eq d) es))) committed;
    places = λ s d waits. let no_wait : false ≡ true =
        sym (ap (λ es. list_any (is_ordering s d) (waiting_in (lookup (bytes_eq d) es))) committed) ∙ waits in
        absurd (cc);
    closed = λ s d none. refl;
  };
}

not-positive : (s : ℕ) → 1 ≤ s → false ≡ nat_le s 0
not-positive s low = sym (lt-leb s 0 low)

-- nothing waits
pub places-new : (c : Choices) → c.backed.entries ≡ [] → c.committed.entries ≡ [] → HasPlaces c
places-new c backed committed = record {
  prepared = λ k d waits. let no_wait : false ≡ true =
      sym (ap (λ es. list_any (is_backing k d) (waiting_in (lookup (bytes_eq d) es))) backed) ∙ waits in absurd (cc);
  ordered = λ s d waits. let no_wait : false ≡ true =
      sym (ap (λ es. list_any (is_ordering s d) (waiting_in (lookup (bytes_eq d) es))) committed) ∙ waits in
      absurd (cc);
}

pub sound-new : (a : Inside) → a.choices.backed.entries ≡ [] → a.choices.committed.entries ≡ [] →
    a.choices.ordered.entries ≡ [] → a.choices.highest ≡ 0 →
    a.offers.first_plan ≡ first_plan → a.offers.plans.entries ≡ [] → a.offers.proposals.entries ≡ [] →
    a.told.marked ≡ 0 → a.stable ≡ 0 → a.gapless ≡ 0 → IsSound a
sound-new a backed committed orders highest_is first plans proposals marked_is stable_is gapless_is = record {
  places = places-new a.choices backed committed;
  fit = record { first = rw first refl; plans = λ v. rw plans refl; proposals = λ k. rw proposals refl };
  marked = omega arith;
  stable = let z : 0 ≤ most_number = omega arith in rw stable_is z;
  highest = rw highest_is (record {
    limit = omega arith;
    there = λ low. absurd (omega arith);
    above =
        λ s high le. ap (λ es. order_in (lookup (nat_eq s) es)) orders;
  });
  gapless = rw gapless_is (record {
    limit = omega arith;
    without_gap = λ s low high. absurd (omega arith);
    stops = λ less. ap (λ es. order_in (lookup (nat_eq 1) es)) orders;
  });
}

pub order-new : (g : Group) (k : OrderState) → HasSizes g k.masters k.quorum → 1 ≤ g.q → k.prepares.entries ≡ [] →
    k.commits.entries ≡ [] → k.marks.entries ≡ [] →
    k.choices.rows.entries ≡ [] → k.choices.prepared.entries ≡ [] → k.choices.backed.entries ≡ [] →
    k.choices.ordered.entries ≡ [] → k.choices.committed.entries ≡ [] → k.views.entries ≡ [] →
    k.offers.first_plan ≡ first_plan → k.offers.plans.entries ≡ [] → k.offers.proposals.entries ≡ [] →
    k.told.prepares.keys ≡ [] → k.told.commits.keys ≡ [] → k.told.marked ≡ 0 → k.stable ≡ 0 →
    k.offers.pending ≡ whole_view 0 → k.choices.pending ≡ whole_view 0 → IsOrderOf g k [] []
order-new g k sizes some prepares commits marks rows slots backed orders committed views first plans proposals
    told_prepares told_commits marked_is stable_is offers_pending choices_pending = record {
      sizes = sizes;
      prepares = λ v s d m. rw prepares refl;
      commits = λ v s d m. rw commits refl;
      marks = λ s m. rw marks refl;
      choices = empty-choices g k.choices some rows slots backed orders committed;
      views = λ s d. rw views (sym (ap greatest_of (nothing-viewed g s d)));
      offers = record { first = first; plans = λ v. rw plans refl; proposals = λ v s. rw proposals refl };
      prepares_said = λ v s. rw told_prepares refl;
      commits_said = λ v s. rw told_commits refl;
      marked = λ s low multiple. rw marked_is (not-positive s low);
      stable = stable_is ∙ sym (nothing-stable g);
      prepares_pending = rw offers_pending (pending-whole (said_in k.told.prepares) (offers_rows []) 0);
      commits_pending = rw choices_pending (pending-whole (said_in k.told.commits) (holds_prepared k.choices.prepared) 0);
    }
