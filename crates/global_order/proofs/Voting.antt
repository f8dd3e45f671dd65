-- Votes: what one fact more adds to them, and when there is a quorum.
use Rattle.std.proofs.Common.{◌≡◌, ℕ, ◌≤◌, Bool, true, false, cond, ◌&&◌, List, [], ◌∷◌, ◌++◌, Option, Some, None}
use Rattle.std.proofs.Common.{is_some, length, nat_eq, nat_le, refl, sym, ◌∙◌, ap, arith}
use Rattle.std.specs.List.{filter_map}
use Rattle.std.specs.Option.{option_map}
use Rattle.std.specs.Str.{bytes_eq}
use Rattle.std.proofs.lemmas.Bool.{le-leb, leb-true}
use Rattle.message_types.specs.declared.signed.Signed.{Signed}
use Rattle.message_types.specs.declared.ordering.Prepare.{Prepare}
use Rattle.message_types.specs.declared.ordering.Commit.{Commit}
use Rattle.message_types.specs.declared.ordering.Mark.{Mark}
use Rattle.quorum_sets.specs.Masters.{numbers_below}
use Rattle.protocol_rules.specs.declared.facts.OrderFact.{OrderFact}
use Rattle.protocol_rules.specs.declared.facts.OrderFact.TheVariants as fact
use Rattle.protocol_rules.specs.Words.{or_else, first_of_list}
use Rattle.protocol_rules.specs.Group.{Group}
use Rattle.protocol_rules.specs.Order.{prepare_by, commit_by, mark_by, is_voted}
use Rattle.indexmap.specs.IndexMap.{get}
use Rattle.global_order.specs.Index.{Map, Vote, TakesFirst, same_vote, same_pair, given, vote_at, mark_at, prepare_of}
use Rattle.global_order.specs.Index.{commit_of, mark_of, HasPrepares, HasCommits, HasMarks}
use Rattle.global_order.proofs.Booleans.{same_vote-same, same_pair-same, first_of_list-push, or_else-none}
use Rattle.global_order.proofs.Booleans.{option_map-or_else}
use Rattle.global_order.proofs.Given.{length-map, length-grows}
pub use Rattle.plain_lists.proofs.Booleans.{regroup}

-- a fact that is no such vote changes nothing
pub first-other : {X : Type 0} (vote : OrderFact → Option X) (facts : List OrderFact) (x : OrderFact) → vote x ≡ None →
    first_of_list (filter_map vote (facts ++ x ∷ [])) ≡ first_of_list (filter_map vote facts)
first-other vote facts x none = first_of_list-push vote facts x ∙ ap (or_else (first_of_list (filter_map vote facts)))
    none ∙ or_else-none (first_of_list (filter_map vote facts))

pub voted-other : {X : Type 0} (g : Group) (vote : ℕ → OrderFact → Option X) (facts : List OrderFact)
    (x : OrderFact) → ((m : ℕ) → vote m x ≡ None) →
    is_voted g vote (facts ++ x ∷ []) ≡ is_voted g vote facts
unfolding is_voted
voted-other g vote facts x none =
    λ i. nat_le g.q (length (filter_map (λ m. first-other (vote m) facts x (none m) i) (numbers_below g.n)))

-- a quorum stays one
pub voted-stays : {X : Type 0} (g : Group) (vote : ℕ → OrderFact → Option X) (facts : List OrderFact)
    (x : OrderFact) → is_voted g vote facts ≡ true → is_voted g vote (facts ++ x ∷ []) ≡ true
unfolding is_voted
voted-stays {X} g vote facts x there =
    let before : g.q ≤ length (filter_map (λ m. first_of_list (filter_map (vote m) facts)) (numbers_below g.n)) =
    leb-true g.q _ there in
    let more : length (filter_map (λ m. first_of_list (filter_map (vote m) facts)) (numbers_below g.n)) ≤ length
    (filter_map (λ m. first_of_list (filter_map (vote m) (facts ++ x ∷ []))) (numbers_below g.n)) =
    length-grows (λ m. first_of_list (filter_map (vote m) facts))
    (λ m. first_of_list (filter_map (vote m) (facts ++ x ∷ []))) (numbers_below g.n)
    (λ m some. ap is_some (first_of_list-push (vote m) facts x)
    ∙ keeps (first_of_list (filter_map (vote m) facts)) (vote m x) some) in
    le-leb g.q _ (omega arith)
  where
    keeps : (o p : Option X) → is_some o ≡ true → is_some (or_else o p) ≡ true
    keeps None p e = absurd (cc)
    keeps (Some y) p e = refl

-- Votes of any kind, held as signatures by their keys: one that takes the first of each key holds the first votes
-- with one more, and the votes of one kind held are a quorum where the definitions have one.
votes-push : {K F : Type 0} (same : K → K → Bool) (frame : List ℕ → F) (vote : OrderFact → Option F)
    (facts : List OrderFact) (x : OrderFact) (key k : K) (sig : List ℕ) (old new : Map K (List ℕ)) →
    TakesFirst same old new key sig → option_map frame (cond (same key k) (Some sig) None) ≡ vote x →
    option_map frame (get same old k) ≡ first_of_list (filter_map vote facts) →
    option_map frame (get same new k) ≡ first_of_list (filter_map vote (facts ++ x ∷ []))
votes-push same frame vote facts x key k sig old new takes is has =
    ap (option_map frame) (takes k)
    ∙ option_map-or_else frame (get same old k) (cond (same key k) (Some sig) None)
    ∙ ap (λ o. or_else o (option_map frame (cond (same key k) (Some sig) None))) has
    ∙ ap (or_else (first_of_list (filter_map vote facts))) is
    ∙ sym (first_of_list-push vote facts x)

votes-quorum : {F : Type 0} (g : Group) (n : ℕ) (frame : ℕ → List ℕ → F) (vote : ℕ → OrderFact → Option F)
    (held : ℕ → Option (List ℕ)) (facts : List OrderFact) → g.n ≡ n →
    ((m : ℕ) → option_map (frame m) (held m) ≡ first_of_list (filter_map (vote m) facts)) →
    nat_le g.q (length (given held n)) ≡ is_voted g vote facts
unfolding is_voted
votes-quorum g n frame vote held facts masters has =
    ap (nat_le g.q) (ap (λ k. length (given held k)) (sym masters)
    ∙ sym (length-map frame held (numbers_below g.n)) ∙ (λ i. length (filter_map (λ m. has m i) (numbers_below g.n))))

-- the frame made of the signature where the key is the vote's own is the vote
vote-is : {F : Type 0} (frame : ℕ → ℕ → List ℕ → ℕ → List ℕ → F) (v s : ℕ) (d : List ℕ) (m : ℕ) (sig : List ℕ)
    (w t : ℕ) (e : List ℕ) (j : ℕ) →
    option_map (frame w t e j) (cond (same_vote (v, s, d, m) (w, t, e, j)) (Some sig) None)
    ≡ cond (nat_eq m j && nat_eq v w && nat_eq s t && bytes_eq d e) (Some (frame v s d m sig)) None
vote-is {F} frame v s d m sig w t e j = by (same_vote (v, s, d, m) (w, t, e, j)) refl
    ∙ ap (λ b. cond b (Some (frame v s d m sig)) None)
    (regroup (nat_eq m j) (nat_eq v w) (nat_eq s t) (bytes_eq d e))
  where
    by : (here : Bool) → same_vote (v, s, d, m) (w, t, e, j) ≡ here →
        option_map (frame w t e j) (cond here (Some sig) None) ≡ cond here (Some (frame v s d m sig)) None
    by false _ = refl
    by true here = ap (λ (k : Vote). Some (frame k.0 k.1 k.2 k.3 sig))
        (sym (same_vote-same (v, s, d, m) (w, t, e, j) here))

-- no vote for another view, number or digest
vote-apart : {F : Type 0} (frame : F) (a b c e : Bool) → (b && c && e) ≡ false →
    cond (a && b && c && e) (Some frame) None ≡ None
vote-apart frame false b c e apart = refl
vote-apart frame true b c e apart = ap (λ t. cond t (Some frame) None) apart

-- prepares

pub prepares-push : (facts : List OrderFact) (x : Signed Prepare) (old new : Map Vote (List ℕ)) →
    TakesFirst same_vote old new (x.body.v, x.body.s, x.body.digest, x.signer) x.sig →
    HasPrepares facts old → HasPrepares (facts ++ fact.Prepare x ∷ []) new
prepares-push facts x old new takes has v s d m =
    votes-push same_vote (prepare_of v s d m) (prepare_by v s d m) facts (fact.Prepare x)
    (x.body.v, x.body.s, x.body.digest, x.signer) (v, s, d, m) x.sig old new takes
    (vote-is prepare_of x.body.v x.body.s x.body.digest x.signer x.sig v s d m) (has v s d m)

pub prepares-other : (facts : List OrderFact) (x : OrderFact) (votes : Map Vote (List ℕ)) →
    ((v s : ℕ) (d : List ℕ) (m : ℕ) → prepare_by v s d m x ≡ None) → HasPrepares facts votes →
    HasPrepares (facts ++ x ∷ []) votes
prepares-other facts x votes none has v s d m =
    has v s d m ∙ sym (first-other (prepare_by v s d m) facts x (none v s d m))

pub prepares-quorum : (g : Group) (n : ℕ) (facts : List OrderFact) (votes : Map Vote (List ℕ)) (v s : ℕ)
    (d : List ℕ) → g.n ≡ n → HasPrepares facts votes →
    nat_le g.q (length (given (vote_at votes v s d) n)) ≡ is_voted g (prepare_by v s d) facts
prepares-quorum g n facts votes v s d masters has =
    votes-quorum g n (prepare_of v s d) (prepare_by v s d) (vote_at votes v s d) facts masters (has v s d)

-- another view, number or digest has the votes that it had
pub prepares-apart : (g : Group) (facts : List OrderFact) (x : Signed Prepare) (v s : ℕ) (d : List ℕ) →
    (same_pair (x.body.v, x.body.s) (v, s) && bytes_eq x.body.digest d) ≡ false →
    is_voted g (prepare_by v s d) (facts ++ fact.Prepare x ∷ []) ≡ is_voted g (prepare_by v s d) facts
prepares-apart g facts x v s d apart = voted-other g (prepare_by v s d) facts (fact.Prepare x)
    (λ m. vote-apart x (nat_eq x.signer m) (nat_eq x.body.v v) (nat_eq x.body.s s) (bytes_eq x.body.digest d) apart)

-- commits

pub commits-push : (facts : List OrderFact) (x : Signed Commit) (old new : Map Vote (List ℕ)) →
    TakesFirst same_vote old new (x.body.v, x.body.s, x.body.digest, x.signer) x.sig →
    HasCommits facts old → HasCommits (facts ++ fact.Commit x ∷ []) new
commits-push facts x old new takes has v s d m =
    votes-push same_vote (commit_of v s d m) (commit_by v s d m) facts (fact.Commit x)
    (x.body.v, x.body.s, x.body.digest, x.signer) (v, s, d, m) x.sig old new takes
    (vote-is commit_of x.body.v x.body.s x.body.digest x.signer x.sig v s d m) (has v s d m)

pub commits-other : (facts : List OrderFact) (x : OrderFact) (votes : Map Vote (List ℕ)) →
    ((v s : ℕ) (d : List ℕ) (m : ℕ) → commit_by v s d m x ≡ None) → HasCommits facts votes →
    HasCommits (facts ++ x ∷ []) votes
commits-other facts x votes none has v s d m =
    has v s d m ∙ sym (first-other (commit_by v s d m) facts x (none v s d m))

pub commits-quorum : (g : Group) (n : ℕ) (facts : List OrderFact) (votes : Map Vote (List ℕ)) (v s : ℕ) (d : List ℕ) →
    g.n ≡ n → HasCommits facts votes →
    nat_le g.q (length (given (vote_at votes v s d) n)) ≡ is_voted g (commit_by v s d) facts
commits-quorum g n facts votes v s d masters has =
    votes-quorum g n (commit_of v s d) (commit_by v s d) (vote_at votes v s d) facts masters (has v s d)

pub commits-apart : (g : Group) (facts : List OrderFact) (x : Signed Commit) (v s : ℕ) (d : List ℕ) →
    (same_pair (x.body.v, x.body.s) (v, s) && bytes_eq x.body.digest d) ≡ false →
    is_voted g (commit_by v s d) (facts ++ fact.Commit x ∷ []) ≡ is_voted g (commit_by v s d) facts
commits-apart g facts x v s d apart = voted-other g (commit_by v s d) facts (fact.Commit x)
    (λ m. vote-apart x (nat_eq x.signer m) (nat_eq x.body.v v) (nat_eq x.body.s s) (bytes_eq x.body.digest d) apart)

-- marks

mark-is : (x : Signed Mark) (s m : ℕ) →
    option_map (mark_of s m) (cond (same_pair (x.body.s, x.signer) (s, m)) (Some x.sig) None) ≡ mark_by s m
    (fact.Mark x)
mark-is x s m = by (same_pair (x.body.s, x.signer) (s, m)) refl ∙ ap (λ b. cond b (Some x) None)
    (swap (nat_eq x.body.s s) (nat_eq x.signer m))
  where
    swap : (a b : Bool) → (a && b) ≡ (b && a)
    swap true true = refl
    swap true false = refl
    swap false true = refl
    swap false false = refl

    by : (here : Bool) → same_pair (x.body.s, x.signer) (s, m) ≡ here →
        option_map (mark_of s m) (cond here (Some x.sig) None) ≡ cond here (Some x) None
    by false e = refl
    by true e = ap (λ (k : ℕ × ℕ). Some (mark_of k.0 k.1 x.sig)) (sym (same_pair-same (x.body.s, x.signer) (s, m) e))

pub marks-push : (facts : List OrderFact) (x : Signed Mark) (old new : Map (ℕ × ℕ) (List ℕ)) →
    TakesFirst same_pair old new (x.body.s, x.signer) x.sig →
    HasMarks facts old → HasMarks (facts ++ fact.Mark x ∷ []) new
marks-push facts x old new takes has s m =
    votes-push same_pair (mark_of s m) (mark_by s m) facts (fact.Mark x) (x.body.s, x.signer) (s, m) x.sig old new
    takes (mark-is x s m) (has s m)

pub marks-other : (facts : List OrderFact) (x : OrderFact) (marks : Map (ℕ × ℕ) (List ℕ)) →
    ((s m : ℕ) → mark_by s m x ≡ None) → HasMarks facts marks → HasMarks (facts ++ x ∷ []) marks
marks-other facts x marks none has s m = has s m ∙ sym (first-other (mark_by s m) facts x (none s m))

pub marks-quorum : (g : Group) (n : ℕ) (facts : List OrderFact) (marks : Map (ℕ × ℕ) (List ℕ)) (s : ℕ) →
    g.n ≡ n → HasMarks facts marks →
    nat_le g.q (length (given (mark_at marks s) n)) ≡ is_voted g (mark_by s) facts
marks-quorum g n facts marks s masters has =
    votes-quorum g n (mark_of s) (mark_by s) (mark_at marks s) facts masters (has s)
