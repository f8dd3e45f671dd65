-- The frames inside a word, and where votes and facts come from.
use Rattle.std.proofs.Common.{◌≡◌, ℕ, ◌+◌, ◌<◌, ◌≤◌, zero, suc, Bool, true, false, cond, ◌&&◌, List, [], ◌∷◌, ◌++◌}
use Rattle.std.proofs.Common.{Option, Some, None, take, map, nat_eq, refl, sym, ◌∙◌, ap, subst, inl, inr, ◌⊎◌, arith}
use Rattle.std.proofs.Common.{eqb-true}
use Rattle.std.proofs.lemmas.Bool.{and_parts, cases_eq}
use Rattle.std.proofs.lemmas.Slice.Eq.{bytes_eq-Decides}
use Rattle.std.specs.List.{flat_map, filter_map}
use Rattle.std.specs.Option.{option_map}
use Rattle.std.specs.Str.{bytes_eq}
use Rattle.plain_lists.specs.Lists.{IsIn, here, there, Within, Each}
use Rattle.plain_lists.proofs.Members.{none_in, in_left, in_right, in_cons_cases, in_cases, each_none, each_one, each_append, each_map, each_flat_map, in_map, in_flat_map, in_flat_map_from, in_filter_map_from, in_take, some_same, none_some}
use Rattle.protocol_rules.proofs.FirstMet.{first_in}
use Rattle.quorum_sets.specs.Masters.{numbers_below}
use Rattle.message_types.specs.declared.signed.Signed.{Signed}
use Rattle.message_types.specs.declared.updates.Update.{Update}
use Rattle.message_types.specs.declared.vouchers.Order.{Order}
use Rattle.message_types.specs.declared.preordering.PoAck.{PoAck}
use Rattle.message_types.specs.declared.preordering.PoSummary.{PoSummary}
use Rattle.message_types.specs.declared.ordering.Prepare.{Prepare}
use Rattle.message_types.specs.declared.ordering.Commit.{Commit}
use Rattle.message_types.specs.declared.ordering.Mark.{Mark}
use Rattle.message_types.specs.declared.ordering.Certificate.{Certificate}
use Rattle.message_types.specs.declared.views.Plan.{Plan}
use Rattle.message_types.specs.declared.views.Report.{Report}
use Rattle.message_types.specs.declared.views.NewView.{NewView}
use Rattle.message_types.specs.declared.body.Body.{Body}
use Rattle.message_types.specs.declared.body.Body.TheVariants as body
use Rattle.message_types.specs.Parts.{parts, inside, inside_report, request_parts, as_frame, frames_of}
use Rattle.message_types.specs.Digests.{digest_of_rows}
use Rattle.protocol_rules.specs.declared.facts.OrderFact.{OrderFact}
use Rattle.protocol_rules.specs.declared.facts.OrderFact.TheVariants as fact
use Rattle.protocol_rules.specs.Words.{first_of_list, numbers_from, last_below, or_else, best_by, best_from}
use Rattle.protocol_rules.specs.Group.{Group, window}
use Rattle.protocol_rules.specs.Facts.{facts_of, tells, rows_in, rows_known}
use Rattle.protocol_rules.specs.Plans.{plan_of}
use Rattle.protocol_rules.specs.Matrix.{latest, latest_frames, summary_of, tells_more, rows_of_frames}
use Rattle.protocol_rules.specs.Order.{prepare_by, commit_by, mark_by, first_votes, quorum_of, marks_for}
use Rattle.protocol_rules.specs.Order.{least_prepared, certificate_of, last_certificate, certificates_below, stable}
use Rattle.protocol_rules.specs.Views.{report_by, first_reports}
use Rattle.protocol_rules.specs.Reconcile.{ack_of, quorum_of_acks}
use Rattle.history_rules.specs.Audit.{rows_held}
use Rattle.agreement.proofs.SpokenByKind.{Due, if_some}

-- no frames are inside the frame
abbrev NoInside : Signed Body → Type 0
NoInside p = inside p.body ≡ []

plain_report : (b : Report) → Each NoInside (inside_report b)
plain_report b = each_append NoInside (frames_of body.Mark b.marks) _
    (each_map NoInside (as_frame body.Mark) b.marks (λ f _. refl))
    (each_flat_map NoInside (λ c. frames_of body.Prepare c.prepares) b.certificates
    (λ c _. each_map NoInside (as_frame body.Prepare) c.prepares (λ f _. refl)))

none_inside : (p : Signed Body) {r : Signed Body} → NoInside p → IsIn r (inside p.body) → ⊥
none_inside p {r} e h = none_in (subst (λ (fs : List (Signed Body)). IsIn r fs) e h)

at_frame : {B : Type 0} (kind : B → Body) (f : Signed B) {p r : Signed Body} → p ≡ as_frame kind f →
    IsIn r (inside p.body) → IsIn r (inside (kind f.body))
at_frame kind f {r = r} e h = subst (λ (q : Signed Body). IsIn r (inside q.body)) e h

new_view_closed : (rs : List (Signed Report)) (p r : Signed Body) →
    IsIn p (flat_map (λ f. as_frame body.Report f ∷ inside_report f.body) rs) → IsIn r (inside p.body)
    → IsIn r (flat_map (λ f. as_frame body.Report f ∷ inside_report f.body) rs)
new_view_closed rs p r h k =
    let found = in_flat_map_from (λ (f : Signed Report). as_frame body.Report f ∷ inside_report f.body) rs h in
    elim (in_cons_cases found.2) [
      | inl e ↦ in_flat_map (λ (f : Signed Report). as_frame body.Report f ∷ inside_report f.body) found.1
          (there (as_frame body.Report found.0) _ (at_frame body.Report found.0 e k))
      | inr deeper ↦ absurd (none_inside p (plain_report found.0.body p deeper) k)
    ]

-- the frames inside a frame inside a word are inside the word
pub inside_closed : (b : Body) (p r : Signed Body) → IsIn p (inside b) → IsIn r (inside p.body) → IsIn r (inside b)
inside_closed (body.PoRequest b) p r h k =
    absurd (none_inside p (each_one NoInside (as_frame body.Update b.update) refl p h) k)
inside_closed (body.PrePrepare b) p r h k =
    absurd (none_inside p (each_map NoInside (as_frame body.PoSummary) b.frames (λ f _. refl) p h) k)
inside_closed (body.Report b) p r h k = absurd (none_inside p (plain_report b p h) k)
inside_closed (body.NewView b) p r h k = new_view_closed b.reports p r h k
inside_closed (body.Give b) p r h k = elim (in_cases (request_parts b.request) h) [
  | inl request ↦ elim (in_cons_cases request) [
    | inl e ↦ in_left (frames_of body.PoAck b.acks)
        (there (as_frame body.PoRequest b.request) _ (at_frame body.PoRequest b.request e k))
    | inr update ↦ absurd (none_inside p
        (each_one NoInside (as_frame body.Update b.request.body.update) refl p update) k)
  ]
  | inr ack ↦ absurd (none_inside p (each_map NoInside (as_frame body.PoAck) b.acks (λ f _. refl) p ack) k)
]
inside_closed (body.GiveOrdered b) p r h k =
    absurd (none_inside p (each_map NoInside (as_frame body.Commit) b.commits (λ f _. refl) p h) k)
inside_closed _ p r h k = absurd (none_in h)

pub parts_closed : (f p r : Signed Body) → IsIn p (parts f) → IsIn r (inside p.body) → IsIn r (parts f)
parts_closed f p r h k = elim (in_cons_cases h) [
  | inl e ↦ there f (inside f.body) (subst (λ (q : Signed Body). IsIn r (inside q.body)) e k)
  | inr within ↦ there f (inside f.body) (inside_closed f.body p r within k)
]

-- with a word all frames inside it are known
abbrev pub Closed : List (Signed Body) → Type 0
Closed known = (p r : Signed Body) → IsIn p known → IsIn r (inside p.body) → IsIn r known

pub closed_parts : (frames : List (Signed Body)) → Closed (flat_map parts frames)
closed_parts frames p r h k = let found = in_flat_map_from parts frames h in
    in_flat_map parts found.1 (parts_closed found.0 p r found.2 k)

pub closed_append : (xs ys : List (Signed Body)) → Closed xs → Closed ys → Closed (xs ++ ys)
closed_append xs ys one other p r h k =
    elim (in_cases xs h) [ inl a ↦ in_left ys (one p r a k) | inr a ↦ in_right xs (other p r a k) ]

pub closed_flat_map : {X : Type 0} (f : X → List (Signed Body)) (xs : List X) → ((x : X) → Closed (f x)) →
    Closed (flat_map f xs)
closed_flat_map f xs each p r h k = let found = in_flat_map_from f xs h in
    in_flat_map f found.1 (each found.0 p r found.2 k)

-- what a fact says of the word that told it
abbrev pub ToldBy : Group → Signed Body → OrderFact → Type 0
ToldBy g p (fact.Prepare f) = p ≡ as_frame body.Prepare f
ToldBy g p (fact.Commit f) = p ≡ as_frame body.Commit f
ToldBy g p (fact.Mark f) = p ≡ as_frame body.Mark f
ToldBy g p (fact.Rows rows) = IsIn rows (rows_held g p.body)
ToldBy g p (fact.Proposal v s rows) = IsIn rows (rows_held g p.body)
ToldBy g p (fact.Plan v plan) = (b : NewView) × (p.body ≡ body.NewView b) × (b.v ≡ v)
    × (plan ≡ plan_of g (map (λ r. r.body) b.reports))

told_by_body : (g : Group) (signer : ℕ) (word : Body) (sig : List ℕ) →
    Each (ToldBy g record { signer = signer; body = word; sig = sig })
    (tells g record { signer = signer; body = word; sig = sig })
told_by_body g signer (body.PrePrepare b) sig = each_one _ (fact.Proposal b.v b.s (rows_of_frames g b.frames)) (here [])
told_by_body g signer (body.Prepare b) sig =
    each_one _ (fact.Prepare record { signer = signer; body = b; sig = sig }) refl
told_by_body g signer (body.Commit b) sig =
    each_one _ (fact.Commit record { signer = signer; body = b; sig = sig }) refl
told_by_body g signer (body.Mark b) sig = each_one _ (fact.Mark record { signer = signer; body = b; sig = sig }) refl
told_by_body g signer (body.Report b) sig = each_map _ (λ c. fact.Rows c.rows) b.certificates
    (λ c within. in_map (λ (c : Certificate). c.rows) within)
told_by_body g signer (body.GiveOrdered b) sig = each_one _ (fact.Rows b.rows) (here [])
told_by_body g signer (body.NewView b) sig =
    each_one _ (fact.Plan b.v (plan_of g (map (λ r. r.body) b.reports))) (b, refl, refl, refl)
told_by_body g signer _ sig = each_none _

-- the word that told a fact
pub fact_from : (g : Group) (known : List (Signed Body)) (x : OrderFact) → IsIn x (facts_of g known) →
    (p : Signed Body) × IsIn p known × ToldBy g p x
unfolding facts_of
fact_from g known x h = let found = in_flat_map_from (tells g) known h in
    (found.0, found.1, told_by_body g found.0.signer found.0.body found.0.sig x found.2)

pub facts_more : (g : Group) (known more : List (Signed Body)) → Within known more →
    Within (facts_of g known) (facts_of g more)
unfolding facts_of
facts_more g known more h x k = let found = in_flat_map_from (tells g) known k in
    in_flat_map (tells g) (h found.0 found.1) found.2

rows_from_fact : (g : Group) (p : Signed Body) (x : OrderFact) (rows : List (List ℕ)) → ToldBy g p x →
    IsIn rows (rows_in x) → IsIn rows (rows_held g p.body)
rows_from_fact g p (fact.Rows a) rows told h =
    elim (in_cons_cases h) [
      | inl e ↦ subst (λ (r : List (List ℕ)). IsIn r (rows_held g p.body)) (sym e) told
      | inr none ↦ absurd (none_in none)
    ]
rows_from_fact g p (fact.Proposal v s a) rows told h =
    elim (in_cons_cases h) [
      | inl e ↦ subst (λ (r : List (List ℕ)). IsIn r (rows_held g p.body)) (sym e) told
      | inr none ↦ absurd (none_in none)
    ]
rows_from_fact g p (fact.Plan v plan) rows told h =
    subst (λ (b : Body). IsIn rows (rows_held g b)) (sym told.1) (subst (λ (q : Plan). IsIn rows q.rows) told.3 h)
rows_from_fact g p _ rows told h = absurd (none_in h)

-- known rows stand in a word known
pub rows_from : (g : Group) (known : List (Signed Body)) (rows : List (List ℕ)) →
    IsIn rows (rows_known (facts_of g known)) → (p : Signed Body) × IsIn p known × IsIn rows (rows_held g p.body)
unfolding rows_known
rows_from g known rows h =
    let found = in_flat_map_from rows_in (facts_of g known) h in
    let word = fact_from g known found.0 found.1 in
    (word.0, word.1, rows_from_fact g word.0 found.0 rows word.2 found.2)

pub rows_more : (facts more : List OrderFact) → Within facts more → Within (rows_known facts) (rows_known more)
unfolding rows_known
rows_more facts more h r k = let found = in_flat_map_from rows_in facts k in
    in_flat_map rows_in (h found.0 found.1) found.2

-- the best of some values is one of them
pub best_from_in : {X : Type 0} (beats : X → X → Bool) (best : X) (xs : List X) → (best_from beats best xs ≡ best)
    ⊎ IsIn (best_from beats best xs) xs
best_from_in beats best [] = inl refl
best_from_in {X} beats best (x ∷ xs) = by_test (beats x best) (best_from_in beats best xs) (best_from_in beats x xs)
  where
    by_test : (b : Bool) → (best_from beats best xs ≡ best) ⊎ IsIn (best_from beats best xs) xs →
        (best_from beats x xs ≡ x) ⊎ IsIn (best_from beats x xs) xs
        → (best_from beats (cond b x best) xs ≡ best) ⊎ IsIn (best_from beats (cond b x best) xs) (x ∷ xs)
    by_test true one (inl e) = inr (subst (λ (z : X). IsIn z (x ∷ xs)) (sym e) (here xs))
    by_test true one (inr h) = inr (there x xs h)
    by_test false (inl e) other = inl e
    by_test false (inr h) other = inr (there x xs h)

pub best_in : {X : Type 0} (beats : X → X → Bool) {x : X} (xs : List X) → best_by beats xs ≡ Some x → IsIn x xs
unfolding best_by
best_in beats [] e = absurd (none_some e)
best_in {X} beats {x} (y ∷ ys) e = subst (λ (z : X). IsIn z (y ∷ ys)) (some_same e) (elim (best_from_in beats y ys) [
  | inl same ↦ subst (λ (z : X). IsIn z (y ∷ ys)) (sym same) (here ys)
  | inr later ↦ there y ys later
])

pub best_there : {X : Type 0} (beats : X → X → Bool) {x : X} {xs : List X} → IsIn x xs →
    (y : X) × (best_by beats xs ≡ Some y)
unfolding best_by
best_there beats (here rest) = (_, refl)
best_there beats (there y rest h) = (_, refl)

pub bytes_same : (a b : List ℕ) → bytes_eq a b ≡ true → a ≡ b
bytes_same a b e = (bytes_eq-Decides a b).0 e

-- what holds of a vote that passes the test of its signer, view, number and digest
vote_is : (signer m at v number s : ℕ) (named digest : List ℕ) →
    (nat_eq signer m && nat_eq at v && nat_eq number s && bytes_eq named digest) ≡ true →
    (signer ≡ m) × (at ≡ v) × (number ≡ s) × (named ≡ digest)
vote_is signer m at v number s named digest e =
    let digests = and_parts (nat_eq signer m && nat_eq at v && nat_eq number s) (bytes_eq named digest) e in
    let numbers = and_parts (nat_eq signer m && nat_eq at v) (nat_eq number s) digests.0 in
    let views = and_parts (nat_eq signer m) (nat_eq at v) numbers.0 in (
      eqb-true signer m views.0,
      eqb-true at v views.1,
      eqb-true number s numbers.1,
      bytes_same named digest digests.1,
    )

-- what a fact is that counts as a vote
pub prepare_by_from : (v s : ℕ) (digest : List ℕ) (m : ℕ) (x : OrderFact) (f : Signed Prepare) →
    prepare_by v s digest m x ≡ Some f
    → (x ≡ fact.Prepare f) × (f.signer ≡ m) × (f.body.v ≡ v) × (f.body.s ≡ s) × (f.body.digest ≡ digest)
prepare_by_from v s digest m (fact.Prepare h) f e =
    let held = if_some (nat_eq h.signer m && nat_eq h.body.v v && nat_eq h.body.s s && bytes_eq h.body.digest digest)
    e in
    let is = vote_is h.signer m h.body.v v h.body.s s h.body.digest digest held.0 in
    subst (λ (z : Signed Prepare). (fact.Prepare h ≡ fact.Prepare z) × (z.signer ≡ m) × (z.body.v ≡ v) × (z.body.s ≡ s)
    × (z.body.digest ≡ digest)) held.1 (refl, is.0, is.1, is.2, is.3)
prepare_by_from v s digest m _ f e = absurd (none_some e)

pub commit_by_from : (v s : ℕ) (digest : List ℕ) (m : ℕ) (x : OrderFact) (f : Signed Commit) →
    commit_by v s digest m x ≡ Some f
    → (x ≡ fact.Commit f) × (f.signer ≡ m) × (f.body.v ≡ v) × (f.body.s ≡ s) × (f.body.digest ≡ digest)
commit_by_from v s digest m (fact.Commit h) f e =
    let held = if_some (nat_eq h.signer m && nat_eq h.body.v v && nat_eq h.body.s s && bytes_eq h.body.digest digest)
    e in
    let is = vote_is h.signer m h.body.v v h.body.s s h.body.digest digest held.0 in
    subst (λ (z : Signed Commit). (fact.Commit h ≡ fact.Commit z) × (z.signer ≡ m) × (z.body.v ≡ v) × (z.body.s ≡ s)
    × (z.body.digest ≡ digest)) held.1 (refl, is.0, is.1, is.2, is.3)
commit_by_from v s digest m _ f e = absurd (none_some e)

pub mark_by_from : (s m : ℕ) (x : OrderFact) (f : Signed Mark) → mark_by s m x ≡ Some f → x ≡ fact.Mark f
mark_by_from s m (fact.Mark h) f e =
    ap (λ (z : Signed Mark). fact.Mark z) (if_some (nat_eq h.signer m && nat_eq h.body.s s) e).1
mark_by_from s m _ f e = absurd (none_some e)

-- a first vote is some master's, and a fact known
pub vote_from : {X : Type 0} (g : Group) (vote : ℕ → OrderFact → Option X) (facts : List OrderFact) (x : X) →
    IsIn x (first_votes g vote facts)
    → (m : ℕ) × (f : OrderFact) × IsIn m (numbers_below g.n) × IsIn f facts × (vote m f ≡ Some x)
vote_from g vote facts x h =
    let found = in_filter_map_from (λ m. first_of_list (filter_map (vote m) facts)) (numbers_below g.n) h in
    let inner = in_filter_map_from (vote found.0) facts (first_in (filter_map (vote found.0) facts) found.2) in
    (found.0, inner.0, found.1, inner.1, inner.2)

prepares_known : (g : Group) (known : List (Signed Body)) (v s : ℕ) (digest : List ℕ) →
    Each (λ p. IsIn p known) (frames_of body.Prepare (quorum_of g (prepare_by v s digest) (facts_of g known)))
prepares_known g known v s digest =
    each_map _ (as_frame body.Prepare) (quorum_of g (prepare_by v s digest) (facts_of g known)) (λ f h.
    let vote = vote_from g (prepare_by v s digest) (facts_of g known) f
    (in_take g.q (first_votes g (prepare_by v s digest) (facts_of g known)) h) in
    let is = prepare_by_from v s digest vote.0 vote.1 f vote.4 in
    let word = fact_from g known (fact.Prepare f) (subst (λ (x : OrderFact). IsIn x (facts_of g known)) is.0 vote.3) in
    subst (λ (p : Signed Body). IsIn p known) word.2 word.1)

commits_known : (g : Group) (known : List (Signed Body)) (v s : ℕ) (digest : List ℕ) →
    Each (λ p. IsIn p known) (frames_of body.Commit (quorum_of g (commit_by v s digest) (facts_of g known)))
commits_known g known v s digest =
    each_map _ (as_frame body.Commit) (quorum_of g (commit_by v s digest) (facts_of g known)) (λ f h.
    let vote = vote_from g (commit_by v s digest) (facts_of g known) f
    (in_take g.q (first_votes g (commit_by v s digest) (facts_of g known)) h) in
    let is = commit_by_from v s digest vote.0 vote.1 f vote.4 in
    let word = fact_from g known (fact.Commit f) (subst (λ (x : OrderFact). IsIn x (facts_of g known)) is.0 vote.3) in
    subst (λ (p : Signed Body). IsIn p known) word.2 word.1)

marks_known : (g : Group) (known : List (Signed Body)) (s : ℕ) →
    Each (λ p. IsIn p known) (frames_of body.Mark (quorum_of g (mark_by s) (facts_of g known)))
marks_known g known s = each_map _ (as_frame body.Mark) (quorum_of g (mark_by s) (facts_of g known)) (λ f h.
    let vote = vote_from g (mark_by s) (facts_of g known) f
    (in_take g.q (first_votes g (mark_by s) (facts_of g known)) h) in
    let is = mark_by_from s vote.0 vote.1 f vote.4 in
    let word = fact_from g known (fact.Mark f) (subst (λ (x : OrderFact). IsIn x (facts_of g known)) is vote.3) in
    subst (λ (p : Signed Body). IsIn p known) word.2 word.1)

marks_for_known : (g : Group) (known : List (Signed Body)) (s : ℕ) →
    Each (λ p. IsIn p known) (frames_of body.Mark (marks_for g (facts_of g known) s))
marks_for_known g known s = by_base (nat_eq s 0)
  where
    by_base : (b : Bool) → Each (λ p. IsIn p known)
        (frames_of body.Mark (cond b [] (quorum_of g (mark_by s) (facts_of g known))))
    by_base true = each_none _
    by_base false = marks_known g known s

-- the number at which something is found below a bound
pub last_below_from : {X : Type 0} (f : ℕ → Option X) (bound : ℕ) {x : X} → last_below f bound ≡ Some x →
    (w : ℕ) × (w < bound) × (f w ≡ Some x)
unfolding last_below
last_below_from f zero e = absurd (none_some e)
last_below_from {X} f (suc bound) {x} e = by_first (f bound) refl e (λ later. last_below_from f bound later)
  where
    by_first : (o : Option X) → f bound ≡ o → or_else o (last_below f bound) ≡ Some x →
        (last_below f bound ≡ Some x → (w : ℕ) × (w < bound) × (f w ≡ Some x)) →
        (w : ℕ) × (w < suc bound) × (f w ≡ Some x)
    by_first (Some y) is e later = (bound, omega arith, is ∙ e)
    by_first None is e later = let found = later e in let less : found.0 < bound = found.1 in
        (found.0, omega arith, found.2)

-- of a number below the bound at which something is found: something is found at it or higher
pub last_below_there : {X : Type 0} (f : ℕ → Option X) (bound v : ℕ) {x : X} → v < bound → f v ≡ Some x →
    (y : X) × (w : ℕ) × (last_below f bound ≡ Some y) × (v ≤ w) × (w < bound) × (f w ≡ Some y)
unfolding last_below
last_below_there f zero v lt e = absurd (omega arith)
last_below_there {X} f (suc bound) v {x} lt e = by_first (f bound) refl (λ less. last_below_there f bound v less e)
  where
    below : f bound ≡ None → (v ≡ bound) ⊎ (v ≡ bound → ⊥) → v < bound
    below is (inl same) = absurd (none_some (sym is ∙ ap f (sym same) ∙ e))
    below is (inr other) = omega arith

    by_first : (o : Option X) → f bound ≡ o →
        (v < bound → (y : X) × (w : ℕ) × (last_below f bound ≡ Some y) × (v ≤ w) × (w < bound) × (f w ≡ Some y))
        → (y : X) × (w : ℕ) × (or_else o (last_below f bound) ≡ Some y) × (v ≤ w) × (w < suc bound) × (f w ≡ Some y)
    by_first (Some y) is later = (y, bound, refl, omega arith, omega arith, is)
    by_first None is later =
        let less : v < bound = below is (cases_eq v bound) in
        let found = later less in let below : found.1 < bound = found.4 in
        (found.0, found.1, found.2, found.3, omega arith, found.5)

pub option_map_from : {X Y : Type 0} (f : X → Y) (o : Option X) {y : Y} → option_map f o ≡ Some y →
    (x : X) × (o ≡ Some x) × (f x ≡ y)
option_map_from f None e = absurd (none_some e)
option_map_from f (Some x) e = (x, refl, some_same e)

-- a certificate that a report brings
pub certificate_from : (g : Group) (facts : List OrderFact) (v : ℕ) (c : Certificate) →
    IsIn c (certificates_below g facts v)
    → (s w : ℕ) × (rows : List (List ℕ)) × IsIn s (numbers_from (stable g facts + 1) window) × (w < v)
    × (least_prepared g facts w s ≡ Some rows) × (certificate_of g facts s w rows ≡ c)
unfolding last_certificate
certificate_from g facts v c h =
    let number = in_filter_map_from (last_certificate g facts v) (numbers_from (stable g facts + 1) window) h in
    let lower = last_below_from
    (λ w. option_map (certificate_of g facts number.0 w) (least_prepared g facts w number.0)) v number.2 in
    let made = option_map_from (certificate_of g facts number.0 lower.0)
    (least_prepared g facts lower.0 number.0) lower.2 in
    (number.0, lower.0, made.0, number.1, lower.1, made.1, made.2)

certificates_known : (g : Group) (known : List (Signed Body)) (v : ℕ) →
    Each (λ p. IsIn p known) (flat_map (λ c. frames_of body.Prepare c.prepares)
    (certificates_below g (facts_of g known) v))
certificates_known g known v = each_flat_map _ (λ c. frames_of body.Prepare c.prepares)
    (certificates_below g (facts_of g known) v) (λ c h.
    let found = certificate_from g (facts_of g known) v c h in
    subst (λ (d : Certificate). Each (λ p. IsIn p known) (frames_of body.Prepare d.prepares)) found.6
    (prepares_known g known found.1 found.0 (digest_of_rows found.2)))

summary_of_body : (j signer : ℕ) (word : Body) (sig : List ℕ) (u : Signed PoSummary) →
    summary_of j record { signer = signer; body = word; sig = sig } ≡ Some u
    → record { signer = signer; body = word; sig = sig } ≡ as_frame body.PoSummary u
summary_of_body j signer (body.PoSummary b) sig u e = ap (λ (r : Signed PoSummary). as_frame body.PoSummary r)
    (if_some (nat_eq signer j) e).1
summary_of_body j signer _ sig u e = absurd (none_some e)

latest_known : (g : Group) (known : List (Signed Body)) →
    Each (λ p. IsIn p known) (frames_of body.PoSummary (latest_frames g known))
unfolding latest
latest_known g known = each_map _ (as_frame body.PoSummary) (latest_frames g known) (λ f h.
    let master = in_filter_map_from (latest known) (numbers_below g.n) h in
    let word = in_filter_map_from (summary_of master.0) known
    (best_in tells_more (filter_map (summary_of master.0) known) master.2) in
    subst (λ (p : Signed Body). IsIn p known) (summary_of_body master.0 word.0.signer word.0.body word.0.sig f word.2)
    word.1)

report_by_body : (v m signer : ℕ) (word : Body) (sig : List ℕ) (r : Signed Report) →
    report_by v m record { signer = signer; body = word; sig = sig } ≡ Some r
    → (record { signer = signer; body = word; sig = sig } ≡ as_frame body.Report r) × (r.signer ≡ m) × (r.body.v ≡ v)
report_by_body v m signer (body.Report b) sig r e =
    let held = if_some (nat_eq signer m && nat_eq b.v v) e in
    let both = and_parts (nat_eq signer m) (nat_eq b.v v) held.0 in (
      ap (λ (z : Signed Report). as_frame body.Report z) held.1,
      ap (λ (z : Signed Report). z.signer) (sym held.1)
          ∙ eqb-true signer m both.0,
      ap (λ (z : Signed Report). z.body.v) (sym held.1) ∙ eqb-true b.v v both.1,
    )
report_by_body v m signer _ sig r e = absurd (none_some e)

pub report_from : (g : Group) (known : List (Signed Body)) (v m : ℕ) (r : Signed Report) →
    first_of_list (filter_map (report_by v m) known) ≡ Some r
    → IsIn (as_frame body.Report r) known × (r.signer ≡ m) × (r.body.v ≡ v)
report_from g known v m r e =
    let word = in_filter_map_from (report_by v m) known (first_in (filter_map (report_by v m) known) e) in
    let is = report_by_body v m word.0.signer word.0.body word.0.sig r word.2 in
    (subst (λ (p : Signed Body). IsIn p known) is.0 word.1, is.1, is.2)

reports_known : (g : Group) (known : List (Signed Body)) → Closed known → (v : ℕ) →
    Each (λ p. IsIn p known) (flat_map (λ f. as_frame body.Report f ∷ inside_report f.body)
    (take g.q (first_reports g known v)))
reports_known g known closed v =
    each_flat_map _ (λ (f : Signed Report). as_frame body.Report f ∷ inside_report f.body)
    (take g.q (first_reports g known v)) (λ r h.
    let master = in_filter_map_from (λ m. first_of_list (filter_map (report_by v m) known)) (numbers_below g.n)
    (in_take g.q (first_reports g known v) h) in
    let is = report_from g known v master.0 r master.2 in
    (λ p k. elim (in_cons_cases k) [
      | inl e ↦ subst (λ (z : Signed Body). IsIn z known) (sym e) is.0
      | inr deeper ↦ closed (as_frame body.Report r) p is.0 deeper
    ]))

ack_of_body : (j k : ℕ) (digest : List ℕ) (m signer : ℕ) (word : Body) (sig : List ℕ) (u : Signed PoAck) →
    ack_of j k digest m record { signer = signer; body = word; sig = sig } ≡ Some u
    → record { signer = signer; body = word; sig = sig } ≡ as_frame body.PoAck u
ack_of_body j k digest m signer (body.PoAck b) sig u e =
    ap (λ (r : Signed PoAck). as_frame body.PoAck r)
    (if_some (nat_eq signer m && nat_eq b.j j && nat_eq b.k k && bytes_eq b.digest digest) e).1
ack_of_body j k digest m signer _ sig u e = absurd (none_some e)

acks_known : (g : Group) (known : List (Signed Body)) (j k : ℕ) (digest : List ℕ) →
    Each (λ p. IsIn p known) (frames_of body.PoAck (quorum_of_acks g known j k digest))
acks_known g known j k digest = each_map _ (as_frame body.PoAck) (quorum_of_acks g known j k digest) (λ f h.
    let master = in_filter_map_from (λ m. first_of_list (filter_map (ack_of j k digest m) known))
    (numbers_below g.n) (in_take g.q _ h) in
    let word = in_filter_map_from (ack_of j k digest master.0) known
    (first_in (filter_map (ack_of j k digest master.0) known) master.2) in
    subst (λ (p : Signed Body). IsIn p known)
    (ack_of_body j k digest master.0 word.0.signer word.0.body word.0.sig f word.2) word.1)

-- the frames inside a word that is due are known
pub due_inside : (g : Group) (orders : List Update → ℕ → List Order) (known taken : List (Signed Body))
    (said : List Body) → Within taken known → Closed known → (b : Body) → Due g orders known taken said b →
    Each (λ p. IsIn p known) (inside b)
due_inside g orders known taken said frames closed (body.Update b) due = absurd due
due_inside g orders known taken said frames closed (body.PoRequest b) due =
    each_one _ (as_frame body.Update b.update) (frames (as_frame body.Update b.update) due)
due_inside g orders known taken said frames closed (body.PrePrepare b) due =
    subst (λ (fs : List (Signed PoSummary)). Each (λ p. IsIn p known) (frames_of body.PoSummary fs))
    (sym due.0) (latest_known g known)
due_inside g orders known taken said frames closed (body.Report b) due =
    each_append _ (frames_of body.Mark b.marks) (flat_map (λ c. frames_of body.Prepare c.prepares) b.certificates)
    (subst (λ (ms : List (Signed Mark)). Each (λ p. IsIn p known) (frames_of body.Mark ms)) (sym due.2)
    (marks_for_known g known (stable g (facts_of g known))))
    (subst (λ (cs : List Certificate). Each (λ p. IsIn p known)
    (flat_map (λ c. frames_of body.Prepare c.prepares) cs)) (sym due.3)
    (certificates_known g known (Rattle.protocol_rules.specs.Views.view g known)))
due_inside g orders known taken said frames closed (body.NewView b) due =
    subst (λ (rs : List (Signed Report)). Each (λ p. IsIn p known)
    (flat_map (λ f. as_frame body.Report f ∷ inside_report f.body) rs)) (sym due.1)
    (reports_known g known closed b.v)
due_inside g orders known taken said frames closed (body.Give b) due =
    each_append _ (request_parts b.request) (frames_of body.PoAck b.acks)
    (λ p k. elim (in_cons_cases k) [
      | inl e ↦ subst (λ (z : Signed Body). IsIn z known) (sym e) due.3
      | inr deeper ↦ closed (as_frame body.PoRequest b.request) p due.3 deeper
    ])
    (subst (λ (fs : List (Signed PoAck)). Each (λ p. IsIn p known) (frames_of body.PoAck fs)) (sym due.4)
    (acks_known g known due.0 due.1 due.2))
due_inside g orders known taken said frames closed (body.GiveOrdered b) due =
    subst (λ (fs : List (Signed Commit)). Each (λ p. IsIn p known) (frames_of body.Commit fs)) (sym due.3)
    (commits_known g known due.0 b.s due.1)
due_inside g orders known taken said frames closed _ due = each_none _
