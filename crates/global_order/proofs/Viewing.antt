-- The greatest view in which a quorum committed a number with a digest.
use Rattle.std.proofs.Common.{◌≡◌, ℕ, max, Bool, true, false, cond, ◌&&◌, ◌||◌, List, [], ◌∷◌, ◌++◌, Some, None}
use Rattle.std.proofs.Common.{length, filter, nat_eq, nat_le, refl, sym, ◌∙◌, ap, subst, arith, true≢false}
use Rattle.std.specs.List.{cons_option}
use Rattle.std.specs.Option.{option_map}
use Rattle.std.specs.Str.{bytes_eq}
use Rattle.std.proofs.Math.Bool.{or-false, or-true}
use Rattle.std.proofs.lemmas.Bool.{eq-eqb}
use Rattle.std.proofs.lemmas.List.{append-nil}
use Rattle.std.proofs.lemmas.List.Elements.{filter-append}
use Rattle.indexmap.specs.IndexMap.{get}
use Rattle.message_types.specs.declared.signed.Signed.{Signed}
use Rattle.message_types.specs.declared.ordering.Commit.{Commit}
use Rattle.message_types.specs.Digests.{digest_of_rows}
use Rattle.protocol_rules.specs.declared.facts.OrderFact.{OrderFact}
use Rattle.protocol_rules.specs.declared.facts.OrderFact.TheVariants as fact
use Rattle.protocol_rules.specs.Words.{greatest_of}
use Rattle.protocol_rules.specs.Group.{Group}
use Rattle.protocol_rules.specs.Order.{commit_by, commit_views, is_voted, ordered, quorum_of}
use Rattle.global_order.specs.Giving.{HasViews, given_order, last_view, same_order, view_in, whole_order}
use Rattle.global_order.specs.OrderState.{HasSizes}
use Rattle.global_order.specs.Index.{HasCommits, Map, Vote, given, ordered_in, vote_at}
use Rattle.global_order.proofs.Booleans.{and-parts, bytes-same, nat_eq-same, nat_eq-own}
use Rattle.global_order.proofs.Taking.{view_of, views-push}
use Rattle.global_order.proofs.Voting.{commits-apart, commits-quorum, voted-other, voted-stays}

-- one view more that passes
greatest-more : (P Q : ℕ → Bool) (v : ℕ) (vs : List ℕ) → ((w : ℕ) → Q w ≡ (P w || nat_eq v w)) →
    greatest_of (filter Q (vs ++ v ∷ [])) ≡ max (greatest_of (filter P vs)) v
greatest-more P Q v [] either =
    let own : Q v ≡ true = either v ∙ ap (λ b. P v || b) (eq-eqb v v refl) ∙ or-true (P v) in
    let most : max v 0 ≡ max 0 v = omega arith in
    ap (λ b. greatest_of (cond b (v ∷ []) [])) own ∙ most
greatest-more P Q v (w ∷ vs) either =
    ap (λ b. greatest_of (cond b (w ∷ filter Q (vs ++ v ∷ [])) (filter Q (vs ++ v ∷ [])))) (either w)
    ∙ by (P w) (nat_eq v w) refl (greatest-more P Q v vs either)
  where
    by : (a b : Bool) → nat_eq v w ≡ b → greatest_of (filter Q (vs ++ v ∷ [])) ≡ max (greatest_of (filter P vs)) v →
        greatest_of (cond (a || b) (w ∷ filter Q (vs ++ v ∷ [])) (filter Q (vs ++ v ∷ []))) ≡ max
        (greatest_of (cond a (w ∷ filter P vs) (filter P vs))) v
    by true b e more = let is : max w (greatest_of (filter Q (vs ++ v ∷ []))) ≡ max
        (max w (greatest_of (filter P vs))) v = omega arith in is
    by false true e more = let same : v ≡ w = nat_eq-same v w e in
        let is : max w (greatest_of (filter Q (vs ++ v ∷ []))) ≡ max (greatest_of (filter P vs)) v = omega arith in is
    by false false e more = more

-- one view more that doesn't pass
greatest-less : (P : ℕ → Bool) (v : ℕ) (vs : List ℕ) → P v ≡ false →
    greatest_of (filter P (vs ++ v ∷ [])) ≡ greatest_of (filter P vs)
greatest-less P v vs none =
    ap greatest_of (filter-append P vs (v ∷ []) ∙ ap (λ b. filter P vs ++ cond b (v ∷ []) []) none
    ∙ append-nil (filter P vs))

-- a fact that is no commit of the number with the digest
last_view-other : (g : Group) (facts : List OrderFact) (x : OrderFact) (s : ℕ) (d : List ℕ) →
    ((v m : ℕ) → commit_by v s d m x ≡ None) → view_of s d x ≡ None →
    last_view g (facts ++ x ∷ []) s d ≡ last_view g facts s d
last_view-other g facts x s d none view =
    ap (λ vs. greatest_of (filter (λ v. is_voted g (commit_by v s d) (facts ++ x ∷ [])) vs))
    (views-push facts x s d ∙ ap (λ o. commit_views facts s d ++ cons_option o []) view
    ∙ append-nil (commit_views facts s d))
    ∙ (λ i. greatest_of (filter (λ v. voted-other g (commit_by v s d) facts x (none v) i) (commit_views facts s d)))

pub views-other : (g : Group) (facts : List OrderFact) (x : OrderFact) (views : Map (ℕ × List ℕ) ℕ) →
    ((v s : ℕ) (d : List ℕ) (m : ℕ) → commit_by v s d m x ≡ None) → ((s : ℕ) (d : List ℕ) → view_of s d x ≡ None) →
    HasViews g facts views → HasViews g (facts ++ x ∷ []) views
views-other g facts x views none view has s d =
    has s d ∙ sym (last_view-other g facts x s d (λ v m. none v s d m) (view s d))

-- a commit
pub views-commit : (g : Group) (n q : ℕ) (facts : List OrderFact) (x : Signed Commit) (votes : Map Vote (List ℕ))
    (after : ℕ) (old new : Map (ℕ × List ℕ) ℕ) → HasSizes g n q → HasCommits (facts ++ fact.Commit x ∷ []) votes →
    after ≡ length (given (vote_at votes x.body.v x.body.s x.body.digest) n) →
    ((k : ℕ × List ℕ) → view_in (get same_order new k) ≡ cond
    (nat_le q after && same_order (x.body.s, x.body.digest) k) (max (view_in (get same_order old k)) x.body.v)
    (view_in (get same_order old k))) →
    HasViews g facts old → HasViews g (facts ++ fact.Commit x ∷ []) new
views-commit g n q facts x votes after old new sizes has_votes after_is put has s d =
    put (s, d)
    ∙ (λ i. cond (now_is i && same_order (x.body.s, x.body.digest) (s, d)) (max (has s d i) x.body.v) (has s d i))
    ∙ by (same_order (x.body.s, x.body.digest) (s, d)) refl
  where
    now : Bool
    now = is_voted g (commit_by x.body.v x.body.s x.body.digest) (facts ++ fact.Commit x ∷ [])

    now_is : nat_le q after ≡ is_voted g (commit_by x.body.v x.body.s x.body.digest) (facts ++ fact.Commit x ∷ [])
    now_is = (λ i. nat_le (sym sizes.quorum i) (after_is i)) ∙ commits-quorum g n (facts ++ fact.Commit x ∷ [])
        votes x.body.v x.body.s x.body.digest sizes.masters has_votes

    none : (a b h l : Bool) → (h && l) ≡ false → (((a && b) && h) && l) ≡ false
    none false b h l e = refl
    none true false h l e = refl
    none true true h l e = e

    false-and : (b : Bool) → (b && false) ≡ false
    false-and true = refl
    false-and false = refl

    apart : (t : ℕ) (e : List ℕ) → same_order (x.body.s, x.body.digest) (t, e) ≡ false →
        last_view g (facts ++ fact.Commit x ∷ []) t e ≡ last_view g facts t e
    apart t e other = last_view-other g facts (fact.Commit x) t e
        (λ v m. ap (λ b. cond b (Some x) None) (none (nat_eq x.signer m) (nat_eq x.body.v v) (nat_eq x.body.s t)
        (bytes_eq x.body.digest e) other)) (ap (λ b. cond b (Some x.body.v) None) other)

    views-here : commit_views (facts ++ fact.Commit x ∷ []) x.body.s x.body.digest ≡ commit_views facts x.body.s
        x.body.digest ++ x.body.v ∷ []
    views-here = views-push facts (fact.Commit x) x.body.s x.body.digest
        ∙ ap (λ b. commit_views facts x.body.s x.body.digest ++ cons_option (cond b (Some x.body.v) None) [])
        (nat_eq-own x.body.s x.body.digest)

    elsewhere : (w : ℕ) → nat_eq x.body.v w ≡ false →
        is_voted g (commit_by w x.body.s x.body.digest) (facts ++ fact.Commit x ∷ []) ≡ is_voted g
        (commit_by w x.body.s x.body.digest) facts
    elsewhere w e = commits-apart g facts x w x.body.s x.body.digest
        (ap (λ b. (b && nat_eq x.body.s x.body.s) && bytes_eq x.body.digest x.body.digest) e)

    here : (b : Bool) → is_voted g (commit_by x.body.v x.body.s x.body.digest) (facts ++ fact.Commit x ∷ []) ≡ b →
        cond (b && true) (max (last_view g facts x.body.s x.body.digest) x.body.v)
        (last_view g facts x.body.s x.body.digest) ≡ last_view g (facts ++ fact.Commit x ∷ [])
        x.body.s x.body.digest
    here true voted =
        sym (ap (λ vs. greatest_of
        (filter (λ w. is_voted g (commit_by w x.body.s x.body.digest) (facts ++ fact.Commit x ∷ [])) vs)) views-here
        ∙ greatest-more (λ w. is_voted g (commit_by w x.body.s x.body.digest) facts)
        (λ w. is_voted g (commit_by w x.body.s x.body.digest) (facts ++ fact.Commit x ∷ [])) x.body.v
        (commit_views facts x.body.s x.body.digest) (λ w. either w (nat_eq x.body.v w) refl))
      where
        either : (w : ℕ) (b : Bool) → nat_eq x.body.v w ≡ b →
            is_voted g (commit_by w x.body.s x.body.digest) (facts ++ fact.Commit x ∷ []) ≡
            (is_voted g (commit_by w x.body.s x.body.digest) facts || b)
        either w true e = subst (λ (y : ℕ). is_voted g (commit_by y x.body.s x.body.digest)
            (facts ++ fact.Commit x ∷ []) ≡ true) (nat_eq-same x.body.v w e) voted
            ∙ sym (or-true (is_voted g (commit_by w x.body.s x.body.digest) facts))
        either w false e = elsewhere w e ∙ sym (or-false (is_voted g (commit_by w x.body.s x.body.digest) facts))
    here false unvoted =
        sym (ap (λ vs. greatest_of
        (filter (λ w. is_voted g (commit_by w x.body.s x.body.digest) (facts ++ fact.Commit x ∷ [])) vs)) views-here
        ∙ (λ i. greatest_of (filter (λ w. same w (nat_eq x.body.v w) refl i)
        (commit_views facts x.body.s x.body.digest ++ x.body.v ∷ [])))
        ∙ greatest-less (λ w. is_voted g (commit_by w x.body.s x.body.digest) facts) x.body.v
        (commit_views facts x.body.s x.body.digest) before)
      where
        on : (b : Bool) → is_voted g (commit_by x.body.v x.body.s x.body.digest) facts ≡ b → b ≡ false
        on false e = refl
        on true e = absurd (true≢false
            (sym (voted-stays g (commit_by x.body.v x.body.s x.body.digest) facts (fact.Commit x) e) ∙ unvoted))

        before : is_voted g (commit_by x.body.v x.body.s x.body.digest) facts ≡ false
        before = on (is_voted g (commit_by x.body.v x.body.s x.body.digest) facts) refl

        same : (w : ℕ) (b : Bool) → nat_eq x.body.v w ≡ b →
            is_voted g (commit_by w x.body.s x.body.digest) (facts ++ fact.Commit x ∷ []) ≡ is_voted g
            (commit_by w x.body.s x.body.digest) facts
        same w true e = subst (λ (y : ℕ). is_voted g (commit_by y x.body.s x.body.digest)
            (facts ++ fact.Commit x ∷ []) ≡ is_voted g (commit_by y x.body.s x.body.digest) facts)
            (nat_eq-same x.body.v w e) (unvoted ∙ sym before)
        same w false e = elsewhere w e

    by : (b : Bool) → same_order (x.body.s, x.body.digest) (s, d) ≡ b →
        cond (is_voted g (commit_by x.body.v x.body.s x.body.digest) (facts ++ fact.Commit x ∷ []) && b)
        (max (last_view g facts s d) x.body.v) (last_view g facts s d) ≡ last_view g
        (facts ++ fact.Commit x ∷ []) s d
    by false e = ap (λ b. cond b (max (last_view g facts s d) x.body.v) (last_view g facts s d)) (false-and now)
        ∙ sym (apart s d e)
    by true e =
        let both : (nat_eq x.body.s s ≡ true) × (bytes_eq x.body.digest d ≡ true) =
        and-parts (nat_eq x.body.s s) (bytes_eq x.body.digest d) e in
        subst (λ (y : List ℕ). cond
        (is_voted g (commit_by x.body.v x.body.s x.body.digest) (facts ++ fact.Commit x ∷ []) && true)
        (max (last_view g facts s y) x.body.v) (last_view g facts s y) ≡ last_view g (facts ++ fact.Commit x ∷ [])
        s y) (bytes-same x.body.digest d both.1)
        (subst (λ (t : ℕ). cond (is_voted g (commit_by x.body.v x.body.s x.body.digest) (facts ++ fact.Commit x ∷ [])
        && true) (max (last_view g facts t x.body.digest) x.body.v) (last_view g facts t x.body.digest) ≡
        last_view g (facts ++ fact.Commit x ∷ []) t x.body.digest) (nat_eq-same x.body.s s both.0)
        (here now refl))

-- what is given

pub gift-none : (g : Group) (facts : List OrderFact) (s : ℕ) → None ≡ ordered g facts s → None ≡ given_order g facts s
gift-none g facts s e = ap (option_map (whole_order g facts s)) e

pub gift-some : (g : Group) (facts : List OrderFact) (s : ℕ) (d : List ℕ) (rows : List (List ℕ)) (v : ℕ)
    (commits : List (Signed Commit)) → Some rows ≡ ordered g facts s → Some d ≡ ordered_in g facts s →
    v ≡ last_view g facts s d →
    commits ≡ quorum_of g (commit_by v s d) facts →
    Some record { s = s; v = v; rows = rows; commits = commits } ≡ given_order g facts s
gift-some g facts s d rows v commits found held view_is commits_are =
    by same (ap (option_map (whole_order g facts s)) found)
  where
    same : d ≡ digest_of_rows rows
    same = let both : Some d ≡ Some (digest_of_rows rows) = held ∙ sym (ap (option_map digest_of_rows) found) in cc

    by : d ≡ digest_of_rows rows → Some (whole_order g facts s rows) ≡ given_order g facts s →
        Some record { s = s; v = v; rows = rows; commits = commits } ≡ given_order g facts s
    by e given = (λ i. Some record {
      s = s;
      v = (view_is ∙ ap (last_view g facts s) e) i;
      rows = rows;
      commits =
          (commits_are ∙ (λ j. quorum_of g (commit_by ((view_is ∙ ap (last_view g facts s) e) j) s (e j)) facts)) i;
    })
        ∙ given
