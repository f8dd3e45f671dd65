-- What one fact more changes of the choices, the offers and the stable number.
use Rattle.std.proofs.Common.{◌≡◌, ℕ, ◌≤◌, ◌⊎◌, inl, inr, max, Bool, true, false, cond, ◌&&◌, ◌||◌, not, List, []}
use Rattle.std.proofs.Common.{◌∷◌, ◌++◌, Option, Some, None, is_some, length, nat_eq, nat_le, refl, sym, ◌∙◌, ap}
use Rattle.std.proofs.Common.{subst, arith, true≢false}
use Rattle.std.specs.Bool.{OnTrue, OnFalse}
use Rattle.std.specs.List.{filter_map, list_any, list_all, cons_option}
use Rattle.std.specs.Str.{bytes_eq}
use Rattle.std.proofs.Math.Bool.{or-false, and-false}
use Rattle.std.proofs.lemmas.Bool.{leb-true, eq-eqb}
use Rattle.std.proofs.lemmas.List.{append-nil}
use Rattle.std.proofs.lemmas.List.Elements.{filter_map-append}
use Rattle.indexmap.specs.IndexMap.{get}
use Rattle.message_types.specs.declared.signed.Signed.{Signed}
use Rattle.message_types.specs.declared.ordering.Prepare.{Prepare}
use Rattle.message_types.specs.declared.ordering.Commit.{Commit}
use Rattle.message_types.specs.declared.ordering.Mark.{Mark}
use Rattle.message_types.specs.Digests.{digest_of_rows}
use Rattle.quorum_sets.specs.Masters.{numbers_below}
use Rattle.protocol_rules.specs.declared.facts.OrderFact.{OrderFact}
use Rattle.protocol_rules.specs.declared.facts.OrderFact.TheVariants as fact
use Rattle.protocol_rules.specs.Words.{or_else, first_of_list, greatest_of}
use Rattle.protocol_rules.specs.Group.{Group, most_number}
use Rattle.protocol_rules.specs.Facts.{rows_in, rows_known}
use Rattle.protocol_rules.specs.Order.{prepare_by, commit_by, mark_by, is_voted, commit_views, is_committed, prepared}
use Rattle.protocol_rules.specs.Order.{ordered, stable, number_marked, plan_in, proposal_in}
use Rattle.protocol_rules.proofs.Greatest.{or_zero, greatest-push, greatest-more, greatest-same}
use Rattle.global_order.specs.Choosing.{is_known}
use Rattle.global_order.specs.OrderState.{HasSizes}
use Rattle.global_order.specs.Index.{Map, Vote, TakesFirst, given, vote_at, mark_at, HasPrepares, HasCommits}
use Rattle.global_order.specs.Index.{HasMarks, Agrees, HasChoices, same_pair, prepares_in, prepared_in, ordered_in}
use Rattle.global_order.specs.Index.{with_rows, with_all, with_quorum, with_choice}
use Rattle.std.specs.Map.{lookup}
use Rattle.message_types.specs.declared.views.Plan.{Plan}
use Rattle.message_types.specs.Spelling.{rows_fit}
use Rattle.global_order.specs.Offered.{HasOffers, OffersFit, fits, plan_fits}
use Rattle.global_order.specs.declared.choices.Choices.{Choices}
use Rattle.global_order.specs.declared.pending.PendingNumbers.{PendingNumbers}
use Rattle.global_order.specs.declared.offers.Offers.{Offers}
use Rattle.global_order.proofs.Booleans.{and-parts, bytes-same, nat_eq-same, same_pair-same, nat_eq-own}
use Rattle.global_order.proofs.Booleans.{first_of_list-push, list_any-push, or_else-none, option_map-cond}
use Rattle.global_order.proofs.Meeting.{chosen-same, chosen-newly, chosen-rows, rows_known-push}
use Rattle.global_order.proofs.Settling.{agrees-alike}
use Rattle.global_order.proofs.Voting.{first-other, voted-other, voted-stays, prepares-apart, prepares-quorum}
use Rattle.global_order.proofs.Voting.{commits-apart, commits-quorum, marks-quorum}

-- the view of a commit for a number and a digest
abbrev pub view_of : ℕ → List ℕ → OrderFact → Option ℕ
view_of s digest f = elim f [
  | fact.Commit c ↦ cond (nat_eq c.body.s s && bytes_eq c.body.digest digest)
      (Some c.body.v) None
  | _ ↦ None
]

-- the fact is no vote that the choices go by
pub record IsNoVote (x : OrderFact) : Type 0 where
  pub prepare : (v s : ℕ) (d : List ℕ) (m : ℕ) → prepare_by v s d m x ≡ None
  pub commit : (v s : ℕ) (d : List ℕ) (m : ℕ) → commit_by v s d m x ≡ None
  pub view : (s : ℕ) (d : List ℕ) → view_of s d x ≡ None

pub views-push : (facts : List OrderFact) (x : OrderFact) (s : ℕ) (d : List ℕ) →
    commit_views (facts ++ x ∷ []) s d ≡ commit_views facts s d ++ cons_option (view_of s d x) []
views-push facts x s d = filter_map-append (view_of s d) facts (x ∷ [])

committed-other : (g : Group) (facts : List OrderFact) (x : OrderFact) (s : ℕ) (d : List ℕ) →
    ((v m : ℕ) → commit_by v s d m x ≡ None) → view_of s d x ≡ None →
    is_committed g (facts ++ x ∷ []) s d ≡ is_committed g facts s d
committed-other g facts x s d none view =
    ap (list_any (λ v. is_voted g (commit_by v s d) (facts ++ x ∷ [])))
    (views-push facts x s d ∙ ap (λ o. commit_views facts s d ++ cons_option o []) view
    ∙ append-nil (commit_views facts s d))
    ∙ (λ i. list_any (λ v. voted-other g (commit_by v s d) facts x (none v) i) (commit_views facts s d))

prepared-as : (g : Group) (facts : List OrderFact) (x : OrderFact) (k : ℕ × ℕ) → rows_in x ≡ [] →
    ((d : List ℕ) → prepares_in g (facts ++ x ∷ []) k d ≡ prepares_in g facts k d) →
    prepared_in g (facts ++ x ∷ []) k ≡ prepared_in g facts k
unfolding prepared
prepared-as g facts x k none same = chosen-same (λ beginning d. prepares_in g beginning k d) facts x none same

ordered-as : (g : Group) (facts : List OrderFact) (x : OrderFact) (s : ℕ) → rows_in x ≡ [] →
    ((d : List ℕ) → is_committed g (facts ++ x ∷ []) s d ≡ is_committed g facts s d) →
    ordered_in g (facts ++ x ∷ []) s ≡ ordered_in g facts s
unfolding ordered
ordered-as g facts x s none same = chosen-same (λ beginning d. is_committed g beginning s d) facts x none same

prepared-rows : (g : Group) (facts : List OrderFact) (x : OrderFact) (k : ℕ × ℕ) →
    ((d : List ℕ) → prepares_in g (facts ++ x ∷ []) k d ≡ prepares_in g facts k d) →
    prepared_in g (facts ++ x ∷ []) k ≡ with_all (prepares_in g facts) (prepared_in g facts) (rows_in x) k
unfolding prepared
prepared-rows g facts x k same = chosen-rows (λ beginning d. prepares_in g beginning k d) facts x same

ordered-rows : (g : Group) (facts : List OrderFact) (x : OrderFact) (s : ℕ) →
    ((d : List ℕ) → is_committed g (facts ++ x ∷ []) s d ≡ is_committed g facts s d) →
    ordered_in g (facts ++ x ∷ []) s ≡ with_all (is_committed g facts) (ordered_in g facts) (rows_in x) s
unfolding ordered
ordered-rows g facts x s same = chosen-rows (λ beginning d. is_committed g beginning s d) facts x same

prepared-newly : (g : Group) (facts : List OrderFact) (x : OrderFact) (k : ℕ × ℕ) (d : List ℕ) → rows_in x ≡ [] →
    prepares_in g (facts ++ x ∷ []) k d ≡ true →
    ((e : List ℕ) → bytes_eq d e ≡ false → prepares_in g (facts ++ x ∷ []) k e ≡ prepares_in g facts k e) →
    prepared_in g (facts ++ x ∷ []) k ≡ or_else (prepared_in g facts k)
    (cond (is_known (rows_known facts) d) (Some d) None)
unfolding prepared
prepared-newly g facts x k d none back others =
    chosen-newly (λ beginning d. prepares_in g beginning k d) facts x d none back others

ordered-newly : (g : Group) (facts : List OrderFact) (x : OrderFact) (s : ℕ) (d : List ℕ) → rows_in x ≡ [] →
    is_committed g (facts ++ x ∷ []) s d ≡ true →
    ((e : List ℕ) → bytes_eq d e ≡ false → is_committed g (facts ++ x ∷ []) s e ≡ is_committed g facts s e) →
    ordered_in g (facts ++ x ∷ []) s ≡ or_else (ordered_in g facts s)
    (cond (is_known (rows_known facts) d) (Some d) None)
unfolding ordered
ordered-newly g facts x s d none back others =
    chosen-newly (λ beginning d. is_committed g beginning s d) facts x d none back others

-- rows that become known by a fact which is no vote
pub choices-rows : (g : Group) (facts : List OrderFact) (x : OrderFact) (c : Choices) → IsNoVote x →
    Agrees (rows_known facts ++ rows_in x) (prepares_in g facts)
    (with_all (prepares_in g facts) (prepared_in g facts) (rows_in x)) (is_committed g facts)
    (with_all (is_committed g facts) (ordered_in g facts) (rows_in x)) c →
    HasChoices g (facts ++ x ∷ []) c
choices-rows g facts x c novote agrees =
    agrees-alike _ _ _ _ _ _ _ _ _ _ c (sym (rows_known-push facts x)) (λ k d. sym (prepares k d))
    (λ k. sym (prepared-rows g facts x k (prepares k))) (λ s d. sym (commits s d))
    (λ s. sym (ordered-rows g facts x s (commits s))) agrees
  where
    prepares : (k : ℕ × ℕ) (d : List ℕ) → prepares_in g (facts ++ x ∷ []) k d ≡ prepares_in g facts k d
    prepares k d = voted-other g (prepare_by k.0 k.1 d) facts x (novote.prepare k.0 k.1 d)

    commits : (s : ℕ) (d : List ℕ) → is_committed g (facts ++ x ∷ []) s d ≡ is_committed g facts s d
    commits s d = committed-other g facts x s d (λ v m. novote.commit v s d m) (novote.view s d)

-- one list of rows alone
pub choices-row : (g : Group) (facts : List OrderFact) (x : OrderFact) (r : List (List ℕ)) (c : Choices) →
    IsNoVote x → rows_in x ≡ r ∷ [] →
    Agrees (rows_known facts ++ r ∷ []) (prepares_in g facts)
    (with_rows (prepares_in g facts) (prepared_in g facts) (digest_of_rows r)) (is_committed g facts)
    (with_rows (is_committed g facts) (ordered_in g facts) (digest_of_rows r)) c →
    HasChoices g (facts ++ x ∷ []) c
choices-row g facts x r c novote rows agrees =
    choices-rows g facts x c novote
    (rw rows (agrees-alike _ _ _ _ _ _ _ _ _ _ c refl (λ k d. refl)
    (λ k. ap (or_else (prepared_in g facts k))
    (sym (option_map-cond digest_of_rows (prepares_in g facts k (digest_of_rows r)) r))) (λ s d. refl)
    (λ s. ap (or_else (ordered_in g facts s))
    (sym (option_map-cond digest_of_rows (is_committed g facts s (digest_of_rows r)) r))) agrees))

-- a fact that tells neither votes nor rows
pub choices-none : (g : Group) (facts : List OrderFact) (x : OrderFact) (c : Choices) → IsNoVote x → rows_in x ≡ [] →
    HasChoices g facts c → HasChoices g (facts ++ x ∷ []) c
choices-none g facts x c novote rows agrees =
    choices-rows g facts x c novote
    (rw rows (agrees-alike _ _ _ _ _ _ _ _ _ _ c (sym (append-nil (rows_known facts))) (λ k d. refl)
    (λ k. sym (or_else-none (prepared_in g facts k))) (λ s d. refl)
    (λ s. sym (or_else-none (ordered_in g facts s))) agrees))

-- whether a quorum is new, from what there was and is
abbrev Newly : Bool → Bool → Bool → Type 0
Newly had has is_new = cond is_new ((has ≡ true) × (had ≡ false)) (has ≡ had)

newly : (had has : Bool) → (had ≡ true → has ≡ true) → (is_new : Bool) → is_new ≡ (has && not had) →
    Newly had has is_new
newly true true keeps is_new e = subst (Newly true true) (sym e) refl
newly false false keeps is_new e = subst (Newly false false) (sym e) refl
newly false true keeps is_new e = subst (Newly false true) (sym e) (refl, refl)
newly true false keeps is_new e = absurd (true≢false (sym (keeps refl)))

newly-voted : {F : Type 0} (g : Group) (q : ℕ) (vote : ℕ → OrderFact → Option F) (facts : List OrderFact)
    (x : OrderFact) (before after : ℕ) (is_new : Bool) → g.q ≡ q → nat_le g.q before ≡ is_voted g vote facts →
    nat_le g.q after ≡ is_voted g vote (facts ++ x ∷ []) → is_new ≡ (nat_le q after && not (nat_le q before)) →
    Newly (is_voted g vote facts) (is_voted g vote (facts ++ x ∷ [])) is_new
newly-voted g q vote facts x before after is_new same was_is now_is test =
    newly (is_voted g vote facts) (is_voted g vote (facts ++ x ∷ [])) (voted-stays g vote facts x) is_new
    (test ∙ ap (λ m. nat_le m after && not (nat_le m before)) (sym same)
    ∙ (λ i. now_is i && not (was_is i)))

-- Only this digest may newly be backed, and only at this key: what `backs` says before and `now` after it.
record IsApart (K : Type 0) (same : K → K → Bool) (key : K) (digest : List ℕ) (backs now : K → List ℕ → Bool) :
    Type 0 where
  one : (k : K) → same key k ≡ true → key ≡ k
  apart : (k : K) (d : List ℕ) → (same key k && bytes_eq digest d) ≡ false → now k d ≡ backs k d

at-key : {K : Type 0} {same : K → K → Bool} {key : K} {digest : List ℕ} {backs now : K → List ℕ → Bool}
    (P : K → List ℕ → Type 0) → IsApart K same key digest backs now → (k : K) (d : List ℕ) →
    (same key k && bytes_eq digest d) ≡ true → P key digest → P k d
at-key {K} {same} {key} {digest} P is k d e p =
    let both : (same key k ≡ true) × (bytes_eq digest d ≡ true) = and-parts (same key k) (bytes_eq digest d) e in
    subst (P k) (bytes-same digest d both.1) (subst (λ (y : K). P y digest) (is.one k both.0) p)

-- if it isn't, all is as it was
backed-same : {K : Type 0} {same : K → K → Bool} {key : K} {digest : List ℕ} {backs now : K → List ℕ → Bool} →
    IsApart K same key digest backs now → now key digest ≡ backs key digest → (k : K) (d : List ℕ) →
    now k d ≡ backs k d
backed-same {K} {same} {key} {digest} {backs} {now} is here k d = by (same key k && bytes_eq digest d) refl
  where
    by : (b : Bool) → (same key k && bytes_eq digest d) ≡ b → now k d ≡ backs k d
    by true e = at-key (λ (y : K) (z : List ℕ). now y z ≡ backs y z) is k d e here
    by false e = is.apart k d e

-- if it is, it is backed too, and chosen there where its rows are known and nothing was
backed-more : {K : Type 0} {same : K → K → Bool} {key : K} {digest : List ℕ} {backs now : K → List ℕ → Bool} →
    IsApart K same key digest backs now → now key digest ≡ true → (k : K) (d : List ℕ) →
    with_quorum same key digest backs k d ≡ now k d
backed-more {K} {same} {key} {digest} {backs} {now} is there k d = by (same key k && bytes_eq digest d) refl
  where
    either : (b : Bool) → (b || true) ≡ true
    either true = refl
    either false = refl

    by : (here : Bool) → (same key k && bytes_eq digest d) ≡ here → (backs k d || here) ≡ now k d
    by true e = either (backs k d) ∙ sym (at-key (λ (y : K) (z : List ℕ). now y z ≡ true) is k d e there)
    by false e = or-false (backs k d) ∙ sym (is.apart k d e)

chosen-more : {K : Type 0} {same : K → K → Bool} {key : K} {digest : List ℕ} {backs now : K → List ℕ → Bool}
    (known : List (List (List ℕ))) (first chosen : K → Option (List ℕ)) →
    IsApart K same key digest backs now → now key digest ≡ true →
    ((k : K) → ((d : List ℕ) → now k d ≡ backs k d) → chosen k ≡ first k) →
    ((k : K) (d : List ℕ) → now k d ≡ true → ((e : List ℕ) → bytes_eq d e ≡ false → now k e ≡ backs k e) →
    chosen k ≡ or_else (first k) (cond (is_known known d) (Some d) None)) →
    (k : K) → with_choice same key digest known first k ≡ chosen k
chosen-more {K} {same} {key} {digest} {backs} {now} known first chosen is there as_was taken k =
    by (same key k) refl
  where
    by : (here : Bool) → same key k ≡ here →
        or_else (first k) (cond (here && is_known known digest) (Some digest) None) ≡ chosen k
    by false e =
        or_else-none (first k) ∙ sym (as_was k (λ d. is.apart k d (ap (λ b. b && bytes_eq digest d) e)))
    by true e = sym (taken k digest (subst (λ (y : K). now y digest ≡ true) (is.one k e) there)
        (λ d other. is.apart k d (ap (λ b. b && bytes_eq digest d) e ∙ other)))

-- a prepare
abbrev TakesPrepared : Signed Prepare → Choices → Choices → Type 0
TakesPrepared x c now = (known : List (List (List ℕ))) (prepares : ℕ × ℕ → List ℕ → Bool)
    (first : ℕ × ℕ → Option (List ℕ)) (commits : ℕ → List ℕ → Bool) (order : ℕ → Option (List ℕ)) →
    Agrees known prepares first commits order c →
    Agrees known (with_quorum same_pair (x.body.v, x.body.s) x.body.digest prepares)
    (with_choice same_pair (x.body.v, x.body.s) x.body.digest known first) commits order now

pub choices-prepare : (g : Group) (n q : ℕ) (facts : List OrderFact) (x : Signed Prepare)
    (old new : Map Vote (List ℕ)) (before after : ℕ) (is_new : Bool) (c now : Choices) → HasSizes g n q →
    HasPrepares facts old → HasPrepares (facts ++ fact.Prepare x ∷ []) new →
    before ≡ length (given (vote_at old x.body.v x.body.s x.body.digest) n) →
    after ≡ length (given (vote_at new x.body.v x.body.s x.body.digest) n) →
    is_new ≡ (nat_le q after && not (nat_le q before)) →
    OnTrue is_new (TakesPrepared x c now) → OnFalse is_new (now ≡ c) →
    HasChoices g facts c → HasChoices g (facts ++ fact.Prepare x ∷ []) now
choices-prepare g n q facts x old new before after is_new c now sizes has_old has_new before_is after_is
    test on_new on_old agrees =
    by is_new (newly-voted g q (prepare_by x.body.v x.body.s x.body.digest) facts (fact.Prepare x) before after is_new
    sizes.quorum
    (ap (nat_le g.q) before_is
    ∙ prepares-quorum g n facts old x.body.v x.body.s x.body.digest sizes.masters has_old)
    (ap (nat_le g.q) after_is
    ∙ prepares-quorum g n with_one new x.body.v x.body.s x.body.digest sizes.masters has_new) test) on_new on_old
  where
    with_one : List OrderFact
    with_one = facts ++ fact.Prepare x ∷ []

    commits : (s : ℕ) (d : List ℕ) → is_committed g with_one s d ≡ is_committed g facts s d
    commits s d = committed-other g facts (fact.Prepare x) s d (λ v m. refl) refl

    known : rows_known facts ≡ rows_known with_one
    known = sym (rows_known-push facts (fact.Prepare x) ∙ append-nil (rows_known facts))

    aside : IsApart (ℕ × ℕ) same_pair (x.body.v, x.body.s) x.body.digest (prepares_in g facts) (prepares_in g with_one)
    aside = record {
      one = same_pair-same (x.body.v, x.body.s);
      apart = λ k d e. prepares-apart g facts x k.0 k.1 d e;
    }

    by : (b : Bool) → Newly (prepares_in g facts (x.body.v, x.body.s) x.body.digest)
        (prepares_in g with_one (x.body.v, x.body.s) x.body.digest) b →
        OnTrue b (TakesPrepared x c now) → OnFalse b (now ≡ c) → HasChoices g with_one now
    by false same on_true on_false =
        subst (HasChoices g with_one) (sym on_false)
        (agrees-alike _ _ _ _ _ _ _ _ _ _ c known (λ k d. sym (backed-same aside same k d))
        (λ k. sym (prepared-as g facts (fact.Prepare x) k refl (backed-same aside same k)))
        (λ s d. sym (commits s d)) (λ s. sym (ordered-as g facts (fact.Prepare x) s refl (commits s))) agrees)
    by true fresh on_true on_false =
        agrees-alike _ _ _ _ _ _ _ _ _ _ now known (backed-more aside fresh.0)
        (chosen-more (rows_known facts) (prepared_in g facts) (prepared_in g with_one) aside fresh.0
        (λ k. prepared-as g facts (fact.Prepare x) k refl) (λ k d. prepared-newly g facts (fact.Prepare x) k d refl))
        (λ s d. sym (commits s d)) (λ s. sym (ordered-as g facts (fact.Prepare x) s refl (commits s)))
        (on_true (rows_known facts) (prepares_in g facts) (prepared_in g facts) (is_committed g facts)
        (ordered_in g facts) agrees)

-- a quorum has a vote, and so the number and digest are committed
some-given : {X : Type 0} (f : ℕ → Option X) (ns : List ℕ) → 1 ≤ length (filter_map f ns) →
    (m : ℕ) × (is_some (f m) ≡ true)
some-given f [] one = absurd (omega arith)
some-given {X} f (m ∷ ns) one = by (f m) refl one (some-given f ns)
  where
    by : (o : Option X) → f m ≡ o → 1 ≤ length (cons_option o (filter_map f ns)) →
        (1 ≤ length (filter_map f ns) → (i : ℕ) × (is_some (f i) ≡ true)) → (i : ℕ) × (is_some (f i) ≡ true)
    by None e one more = more one
    by (Some y) e one more = (m, ap is_some e)

view-there : (P : ℕ → Bool) (facts : List OrderFact) (v s : ℕ) (d : List ℕ) (m : ℕ) → P v ≡ true →
    is_some (first_of_list (filter_map (commit_by v s d m) facts)) ≡ true → list_any P (commit_views facts s d) ≡ true
view-there P [] v s d m pass there = absurd (true≢false (sym there))
view-there P (f ∷ rest) v s d m pass there = by f there (view-there P rest v s d m pass)
  where
    later : (o : Option ℕ) → list_any P (commit_views rest s d) ≡ true →
        list_any P (cons_option o (commit_views rest s d)) ≡ true
    later None e = e
    later (Some w) e = either (P w) e
      where
        either : (b : Bool) → list_any P (commit_views rest s d) ≡ true →
            (b || list_any P (commit_views rest s d)) ≡ true
        either true e = refl
        either false e = e

    commit : (c : Signed Commit) (a b h l : Bool) → nat_eq c.signer m ≡ a → nat_eq c.body.v v ≡ b →
        nat_eq c.body.s s ≡ h → bytes_eq c.body.digest d ≡ l →
        is_some (first_of_list (cons_option (cond (((a && b) && h) && l) (Some c) None)
        (filter_map (commit_by v s d m) rest))) ≡ true →
        (is_some (first_of_list (filter_map (commit_by v s d m) rest)) ≡ true →
        list_any P (commit_views rest s d) ≡ true) →
        list_any P (cons_option (cond (h && l) (Some c.body.v) None) (commit_views rest s d)) ≡ true
    commit c true true true true ea eb eh el there more = ap (λ b. b || list_any P (commit_views rest s d))
        (ap P (nat_eq-same c.body.v v eb) ∙ pass)
    commit c false b h l ea eb eh el there more = later (cond (h && l) (Some c.body.v) None) (more there)
    commit c true false h l ea eb eh el there more = later (cond (h && l) (Some c.body.v) None) (more there)
    commit c true true false l ea eb eh el there more = later (cond (false && l) (Some c.body.v) None) (more there)
    commit c true true true false ea eb eh el there more =
        later (cond (true && false) (Some c.body.v) None) (more there)

    by : (f : OrderFact) → is_some
        (first_of_list (cons_option (commit_by v s d m f) (filter_map (commit_by v s d m) rest))) ≡ true →
        (is_some (first_of_list (filter_map (commit_by v s d m) rest)) ≡ true →
        list_any P (commit_views rest s d) ≡ true) →
        list_any P (cons_option (view_of s d f) (commit_views rest s d)) ≡ true
    by (fact.Commit c) there more = commit c (nat_eq c.signer m) (nat_eq c.body.v v) (nat_eq c.body.s s)
        (bytes_eq c.body.digest d) refl refl refl refl there more
    by (fact.Prepare c) there more = more there
    by (fact.Mark c) there more = more there
    by (fact.Rows r) there more = more there
    by (fact.Proposal w t r) there more = more there
    by (fact.Plan w p) there more = more there

voted-committed : (g : Group) (facts : List OrderFact) (v s : ℕ) (d : List ℕ) → 1 ≤ g.q →
    is_voted g (commit_by v s d) facts ≡ true → is_committed g facts s d ≡ true
unfolding is_voted
voted-committed g facts v s d some voted =
    let enough : g.q ≤ length (given (λ m. first_of_list (filter_map (commit_by v s d m) facts)) g.n) =
    leb-true g.q _ voted in
    let one : (m : ℕ) × (is_some (first_of_list (filter_map (commit_by v s d m) facts)) ≡ true) =
    some-given (λ m. first_of_list (filter_map (commit_by v s d m) facts)) (numbers_below g.n) (omega arith) in
    view-there (λ w. is_voted g (commit_by w s d) facts) facts v s d one.0 voted one.1

-- a commit
abbrev TakesCommitted : Signed Commit → Choices → Choices → Type 0
TakesCommitted x c now = (known : List (List (List ℕ))) (prepares : ℕ × ℕ → List ℕ → Bool)
    (first : ℕ × ℕ → Option (List ℕ)) (commits : ℕ → List ℕ → Bool) (order : ℕ → Option (List ℕ)) →
    Agrees known prepares first commits order c →
    Agrees known prepares first (with_quorum nat_eq x.body.s x.body.digest commits)
    (with_choice nat_eq x.body.s x.body.digest known order) now

pub choices-commit : (g : Group) (n q : ℕ) (facts : List OrderFact) (x : Signed Commit) (old new : Map Vote (List ℕ))
    (before after : ℕ) (is_new : Bool) (c now : Choices) → HasSizes g n q → 1 ≤ q → HasCommits facts old →
    HasCommits (facts ++ fact.Commit x ∷ []) new →
    before ≡ length (given (vote_at old x.body.v x.body.s x.body.digest) n) →
    after ≡ length (given (vote_at new x.body.v x.body.s x.body.digest) n) →
    is_new ≡ (nat_le q after && not (nat_le q before)) →
    OnTrue is_new (TakesCommitted x c now) → OnFalse is_new (now ≡ c) →
    HasChoices g facts c → HasChoices g (facts ++ fact.Commit x ∷ []) now
choices-commit g n q facts x old new before after is_new c now sizes some has_old has_new before_is after_is
    test on_new on_old agrees =
    by is_new (newly-voted g q (commit_by x.body.v x.body.s x.body.digest) facts (fact.Commit x) before after is_new
    sizes.quorum
    (ap (nat_le g.q) before_is
    ∙ commits-quorum g n facts old x.body.v x.body.s x.body.digest sizes.masters has_old)
    (ap (nat_le g.q) after_is
    ∙ commits-quorum g n with_one new x.body.v x.body.s x.body.digest sizes.masters has_new) test) on_new on_old
  where
    with_one : List OrderFact
    with_one = facts ++ fact.Commit x ∷ []

    enough : 1 ≤ g.q
    enough = let same : g.q ≡ q = sizes.quorum in omega arith

    prepares : (k : ℕ × ℕ) (d : List ℕ) → prepares_in g with_one k d ≡ prepares_in g facts k d
    prepares k d = voted-other g (prepare_by k.0 k.1 d) facts (fact.Commit x) (λ m. refl)

    known : rows_known facts ≡ rows_known with_one
    known = sym (rows_known-push facts (fact.Commit x) ∙ append-nil (rows_known facts))

    views-here : commit_views with_one x.body.s x.body.digest ≡ commit_views facts x.body.s x.body.digest
        ++ x.body.v ∷ []
    views-here = views-push facts (fact.Commit x) x.body.s x.body.digest
        ∙ ap (λ b. commit_views facts x.body.s x.body.digest ++ cons_option (cond b (Some x.body.v) None) [])
        (nat_eq-own x.body.s x.body.digest)

    aside : IsApart ℕ nat_eq x.body.s x.body.digest (is_committed g facts) (is_committed g with_one)
    aside = record {
      one = nat_eq-same x.body.s;
      apart = λ s d e. committed-other g facts (fact.Commit x) s d
          (λ v m. ap (λ b. cond b (Some x) None) (none (nat_eq x.signer m) (nat_eq x.body.v v) (nat_eq x.body.s s)
          (bytes_eq x.body.digest d) e)) (ap (λ b. cond b (Some x.body.v) None) e);
    }
      where
        none : (a b h l : Bool) → (h && l) ≡ false → (((a && b) && h) && l) ≡ false
        none false b h l e = refl
        none true false h l e = refl
        none true true h l e = e

    by : (b : Bool) → Newly (is_voted g (commit_by x.body.v x.body.s x.body.digest) facts)
        (is_voted g (commit_by x.body.v x.body.s x.body.digest) with_one) b →
        OnTrue b (TakesCommitted x c now) → OnFalse b (now ≡ c) → HasChoices g with_one now
    by false same on_true on_false =
        subst (HasChoices g with_one) (sym on_false)
        (agrees-alike _ _ _ _ _ _ _ _ _ _ c known (λ k d. sym (prepares k d))
        (λ k. sym (prepared-as g facts (fact.Commit x) k refl (prepares k)))
        (λ s d. sym (backed-same aside here s d))
        (λ s. sym (ordered-as g facts (fact.Commit x) s refl (backed-same aside here s))) agrees)
      where
        voted : (v : ℕ) (here : Bool) → nat_eq x.body.v v ≡ here →
            is_voted g (commit_by v x.body.s x.body.digest) with_one ≡ is_voted g
            (commit_by v x.body.s x.body.digest) facts
        voted v true e = subst (λ (w : ℕ). is_voted g (commit_by w x.body.s x.body.digest) with_one
            ≡ is_voted g (commit_by w x.body.s x.body.digest) facts) (nat_eq-same x.body.v v e) same
        voted v false e = commits-apart g facts x v x.body.s x.body.digest
            (ap (λ b. (b && nat_eq x.body.s x.body.s) && bytes_eq x.body.digest x.body.digest) e)

        last : (b : Bool) → is_voted g (commit_by x.body.v x.body.s x.body.digest) facts ≡ b →
            (is_committed g facts x.body.s x.body.digest || b) ≡ is_committed g facts x.body.s x.body.digest
        last false e = or-false (is_committed g facts x.body.s x.body.digest)
        last true e = let there : is_committed g facts x.body.s x.body.digest ≡ true =
            voted-committed g facts x.body.v x.body.s x.body.digest enough e in rw there refl

        here : is_committed g with_one x.body.s x.body.digest ≡ is_committed g facts x.body.s x.body.digest
        here =
            ap (list_any (λ v. is_voted g (commit_by v x.body.s x.body.digest) with_one)) views-here
            ∙ (λ i. list_any (λ v. voted v (nat_eq x.body.v v) refl i)
            (commit_views facts x.body.s x.body.digest ++ x.body.v ∷ []))
            ∙ list_any-push (λ v. is_voted g (commit_by v x.body.s x.body.digest) facts)
            (commit_views facts x.body.s x.body.digest) x.body.v
            ∙ last (is_voted g (commit_by x.body.v x.body.s x.body.digest) facts) refl
    by true fresh on_true on_false =
        agrees-alike _ _ _ _ _ _ _ _ _ _ now known (λ k d. sym (prepares k d))
        (λ k. sym (prepared-as g facts (fact.Commit x) k refl (prepares k))) (backed-more aside there)
        (chosen-more (rows_known facts) (ordered_in g facts) (ordered_in g with_one) aside there
        (λ s. ordered-as g facts (fact.Commit x) s refl) (λ s d. ordered-newly g facts (fact.Commit x) s d refl))
        (on_true (rows_known facts) (prepares_in g facts) (prepared_in g facts) (is_committed g facts)
        (ordered_in g facts) agrees)
      where
        there : is_committed g with_one x.body.s x.body.digest ≡ true
        there = voted-committed g with_one x.body.v x.body.s x.body.digest enough fresh.0

-- a fact that offers nothing
pub offers-other : (facts : List OrderFact) (x : OrderFact) (offers : Offers) → ((v : ℕ) → plan_in v x ≡ None) →
    ((v s : ℕ) → proposal_in v s x ≡ None) → HasOffers facts offers → HasOffers (facts ++ x ∷ []) offers
offers-other facts x offers plan proposal has = record {
  first = has.first;
  plans = λ v. has.plans v ∙ sym (first-other (plan_in v) facts x (plan v));
  proposals = λ v s. has.proposals v s ∙ sym (first-other (proposal_in v s) facts x (proposal v s));
}

-- stable

stable-is : (g : Group) (facts : List OrderFact) →
    stable g facts ≡ greatest_of (filter_map (number_marked g facts) facts)
unfolding stable
stable-is g facts = refl

-- a fact shows the same number where the same numbers are marked by a quorum
marked-same : (g : Group) (facts more : List OrderFact) →
    ((s : ℕ) → is_voted g (mark_by s) more ≡ is_voted g (mark_by s) facts) → (x : OrderFact) →
    number_marked g more x ≡ number_marked g facts x
marked-same g facts more same (fact.Mark f) = ap (λ b. cond b (Some f.body.s) None) (same f.body.s)
marked-same g facts more same (fact.Prepare f) = refl
marked-same g facts more same (fact.Commit f) = refl
marked-same g facts more same (fact.Rows rows) = refl
marked-same g facts more same (fact.Proposal v s rows) = refl
marked-same g facts more same (fact.Plan v plan) = refl

-- one fact more, by which no more numbers are marked by a quorum
stable-pushed : (g : Group) (facts : List OrderFact) (x : OrderFact) →
    ((s : ℕ) → is_voted g (mark_by s) (facts ++ x ∷ []) ≡ is_voted g (mark_by s) facts)
    → stable g (facts ++ x ∷ []) ≡ max (stable g facts) (or_zero (number_marked g facts x))
stable-pushed g facts x same =
    stable-is g (facts ++ x ∷ []) ∙ greatest-same (number_marked g facts) (number_marked g (facts ++ x ∷ []))
    (marked-same g facts (facts ++ x ∷ []) same) (facts ++ x ∷ [])
    ∙ greatest-push (number_marked g facts) facts x ∙ ap (λ k. max k (or_zero (number_marked g facts x)))
    (sym (stable-is g facts))

max-none : (k : ℕ) → max k 0 ≡ k
max-none k = omega arith

no_mark-shown : (g : Group) (facts : List OrderFact) (x : OrderFact) → ((s m : ℕ) → mark_by s m x ≡ None) →
    number_marked g facts x ≡ None
no_mark-shown g facts (fact.Mark f) none =
    let own : Some f ≡ None =
    sym (ap (λ b. cond (b && nat_eq f.body.s f.body.s) (Some f) None) (eq-eqb f.signer f.signer refl)
    ∙ ap (λ b. cond b (Some f) None) (eq-eqb f.body.s f.body.s refl)) ∙ none f.body.s f.signer in
    absurd (cc)
no_mark-shown g facts (fact.Prepare f) none = refl
no_mark-shown g facts (fact.Commit f) none = refl
no_mark-shown g facts (fact.Rows rows) none = refl
no_mark-shown g facts (fact.Proposal v s rows) none = refl
no_mark-shown g facts (fact.Plan v plan) none = refl

pub stable-no_mark : (g : Group) (facts : List OrderFact) (x : OrderFact) → ((s m : ℕ) → mark_by s m x ≡ None) →
    stable g (facts ++ x ∷ []) ≡ stable g facts
stable-no_mark g facts x none =
    stable-pushed g facts x (λ s. voted-other g (mark_by s) facts x (none s))
    ∙ ap (λ o. max (stable g facts) (or_zero o)) (no_mark-shown g facts x none) ∙ max-none (stable g facts)

marks-apart : (g : Group) (facts : List OrderFact) (x : Signed Mark) (s : ℕ) → nat_eq x.body.s s ≡ false →
    is_voted g (mark_by s) (facts ++ fact.Mark x ∷ []) ≡ is_voted g (mark_by s) facts
marks-apart g facts x s e =
    voted-other g (mark_by s) facts (fact.Mark x) (λ m. ap (λ b. cond (nat_eq x.signer m && b) (Some x) None) e
    ∙ ap (λ b. cond b (Some x) None) (and-false (nat_eq x.signer m)))

-- a mark raises the stable number where its number has a quorum now
pub stable-mark : (g : Group) (n q : ℕ) (facts : List OrderFact) (x : Signed Mark) (new : Map (ℕ × ℕ) (List ℕ))
    (count was raised : ℕ) → HasSizes g n q → HasMarks (facts ++ fact.Mark x ∷ []) new →
    count ≡ length (given (mark_at new x.body.s) n) → was ≡ stable g facts →
    raised ≡ cond (nat_le q count) (max was x.body.s) was → raised ≡ stable g (facts ++ fact.Mark x ∷ [])
stable-mark g n q facts x new count was raised sizes has count_is was_is is =
    is ∙ (λ i. cond (has_is i) (max (was_is i) x.body.s) (was_is i)) ∙ by (is_voted g (mark_by x.body.s) now) refl
  where
    now : List OrderFact
    now = facts ++ fact.Mark x ∷ []

    has_is : nat_le q count ≡ is_voted g (mark_by x.body.s) now
    has_is = (λ i. nat_le (sym sizes.quorum i) (count_is i)) ∙ marks-quorum g n now new x.body.s sizes.masters has

    shown : ℕ → Bool → Option ℕ
    shown s b = cond b (Some s) None

    lost : is_voted g (mark_by x.body.s) now ≡ false → is_voted g (mark_by x.body.s) facts ≡ false
    lost e = on (is_voted g (mark_by x.body.s) facts) refl
      where
        on : (b : Bool) → is_voted g (mark_by x.body.s) facts ≡ b → b ≡ false
        on false h = refl
        on true h = absurd (true≢false (sym (voted-stays g (mark_by x.body.s) facts (fact.Mark x) h) ∙ e))

    same : is_voted g (mark_by x.body.s) now ≡ false → (s : ℕ) →
        is_voted g (mark_by s) now ≡ is_voted g (mark_by s) facts
    same e s = on (nat_eq x.body.s s) refl
      where
        on : (b : Bool) → nat_eq x.body.s s ≡ b → is_voted g (mark_by s) now ≡ is_voted g (mark_by s) facts
        on false h = marks-apart g facts x s h
        on true h = subst (λ (t : ℕ). is_voted g (mark_by t) now ≡ is_voted g (mark_by t) facts)
            (nat_eq-same x.body.s s h) (e ∙ sym (lost e))

    marked : is_voted g (mark_by x.body.s) now ≡ true → (s : ℕ) (b : Bool) → nat_eq x.body.s s ≡ b →
        (shown s (is_voted g (mark_by s) now) ≡ shown s (is_voted g (mark_by s) facts))
        ⊎ ((shown s (is_voted g (mark_by s) facts) ≡ None) × (shown s (is_voted g (mark_by s) now) ≡ Some x.body.s))
    marked e s false apart = inl (ap (shown s) (marks-apart g facts x s apart))
    marked e s true own = on (is_voted g (mark_by s) facts) refl
      where
        here : shown s (is_voted g (mark_by s) now) ≡ Some s
        here = ap (shown s) (ap (λ t. is_voted g (mark_by t) now) (sym (nat_eq-same x.body.s s own)) ∙ e)

        on : (b : Bool) → is_voted g (mark_by s) facts ≡ b →
            (shown s (is_voted g (mark_by s) now) ≡ shown s (is_voted g (mark_by s) facts))
            ⊎ ((shown s (is_voted g (mark_by s) facts) ≡ None)
            × (shown s (is_voted g (mark_by s) now) ≡ Some x.body.s))
        on true was = inl (here ∙ sym (ap (shown s) was))
        on false was = inr (ap (shown s) was, here ∙ ap Some (sym (nat_eq-same x.body.s s own)))

    more : is_voted g (mark_by x.body.s) now ≡ true → (f : OrderFact) →
        (number_marked g now f ≡ number_marked g facts f)
        ⊎ ((number_marked g facts f ≡ None) × (number_marked g now f ≡ Some x.body.s))
    more e (fact.Mark f) = marked e f.body.s (nat_eq x.body.s f.body.s) refl
    more e (fact.Prepare f) = inl refl
    more e (fact.Commit f) = inl refl
    more e (fact.Rows rows) = inl refl
    more e (fact.Proposal v s rows) = inl refl
    more e (fact.Plan v plan) = inl refl

    by : (b : Bool) → is_voted g (mark_by x.body.s) now ≡ b →
        cond b (max (stable g facts) x.body.s) (stable g facts) ≡ stable g now
    by true e = sym (
        stable-is g now ∙ greatest-push (number_marked g now) facts (fact.Mark x)
        ∙ ap (λ b. max (greatest_of (filter_map (number_marked g now) facts)) (or_zero (shown x.body.s b))) e
        ∙ greatest-more (number_marked g facts) (number_marked g now) x.body.s (more e) facts
        ∙ ap (λ k. max k x.body.s) (sym (stable-is g facts)))
    by false e = sym (stable-pushed g facts (fact.Mark x) (same e)
        ∙ ap (λ b. max (stable g facts) (or_zero (shown x.body.s b))) (lost e) ∙ max-none (stable g facts))

-- what a map held, in other room, is there still, and takes one more
pub taken-first : {K X : Type 0} (same : K → K → Bool) (old mid new : Map K X) (key : K) (x : X) →
    mid.entries ≡ old.entries → TakesFirst same mid new key x → TakesFirst same old new key x
taken-first same old mid new key x like takes k =
    takes k ∙ ap (λ es. or_else (lookup (same k) es) (cond (same key k) (Some x) None)) like

pub offers-proposal : (facts : List OrderFact) (v s : ℕ) (rows : List (List ℕ)) (offers : Offers)
    (new : Map (ℕ × ℕ) (List (List ℕ))) (pending : PendingNumbers) →
    TakesFirst same_pair offers.proposals new (v, s) rows → HasOffers facts offers →
    HasOffers (facts ++ fact.Proposal v s rows ∷ []) record {
      first_plan = offers.first_plan;
      plans = offers.plans;
      proposals = new;
      pending = pending;
    }
offers-proposal facts v s rows offers new pending takes has = record {
  first = has.first;
  plans = λ w. has.plans w ∙ sym (first-other (plan_in w) facts (fact.Proposal v s rows) refl);
  proposals = λ w t. takes (w, t) ∙ ap (λ o. or_else o (cond (same_pair (v, s) (w, t)) (Some rows) None))
      (has.proposals w t) ∙ sym (first_of_list-push (proposal_in w t) facts (fact.Proposal v s rows));
}

pub offers-plan : (facts : List OrderFact) (v : ℕ) (plan : Plan) (offers : Offers) (new : Map ℕ Plan)
    (pending : PendingNumbers) → TakesFirst nat_eq offers.plans new v plan → HasOffers facts offers →
    HasOffers (facts ++ fact.Plan v plan ∷ []) record {
      first_plan = offers.first_plan;
      plans = new;
      proposals =
          offers.proposals;
      pending = pending;
    }
offers-plan facts v plan offers new pending takes has = record {
  first = has.first;
  plans = λ w. takes w ∙ ap (λ o. or_else o (cond (nat_eq v w) (Some plan) None)) (has.plans w)
      ∙ sym (first_of_list-push (plan_in w) facts (fact.Plan v plan));
  proposals = λ w t. has.proposals w t ∙ sym (first-other (proposal_in w t) facts (fact.Plan v plan) refl);
}

pub fit-proposal : (key : ℕ × ℕ) (rows : List (List ℕ)) (offers : Offers) (new : Map (ℕ × ℕ) (List (List ℕ)))
    (pending : PendingNumbers) → rows_fit rows ≡ true → TakesFirst same_pair offers.proposals new key rows →
    OffersFit offers →
    OffersFit record { first_plan = offers.first_plan; plans = offers.plans; proposals = new; pending = pending }
fit-proposal key rows offers new pending fit takes fits_all = record {
  first = fits_all.first;
  plans = fits_all.plans;
  proposals = λ k. ap fits (takes k) ∙ by (get same_pair offers.proposals k) (same_pair key k) (fits_all.proposals k);
}
  where
    by : (o : Option (List (List ℕ))) (b : Bool) → fits o ≡ true → fits (or_else o (cond b (Some rows) None)) ≡ true
    by (Some r) b e = e
    by None true e = fit
    by None false e = refl

pub fit-plan : (v : ℕ) (plan : Plan) (offers : Offers) (new : Map ℕ Plan) (pending : PendingNumbers) →
    list_all rows_fit plan.rows ≡ true → TakesFirst nat_eq offers.plans new v plan → OffersFit offers →
    OffersFit record { first_plan = offers.first_plan; plans = new; proposals = offers.proposals; pending = pending }
fit-plan v plan offers new pending fit takes fits_all = record {
  first = fits_all.first;
  plans = λ w. ap plan_fits (takes w) ∙ by (get nat_eq offers.plans w) (nat_eq v w) (fits_all.plans w);
  proposals = fits_all.proposals;
}
  where
    by : (o : Option Plan) (b : Bool) → plan_fits o ≡ true → plan_fits (or_else o (cond b (Some plan) None)) ≡ true
    by (Some r) b e = e
    by None true e = fit
    by None false e = refl

pub raised-limit : (b : Bool) (was s : ℕ) → was ≤ most_number → s ≤ most_number → cond b (max was s) was ≤ most_number
raised-limit false was s le most = le
raised-limit true was s le most = omega arith
