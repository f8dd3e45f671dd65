-- Rows of a master's answers by a shorter way: those that go over all 4,096 numbers go only as far as the words known
-- name numbers. So the answers of an example can be computed.
use Rattle.std.proofs.Common.{◌≡◌, ℕ, zero, suc, ◌+◌, ◌<◌, ◌≤◌, Bool, true, false, ◌&&◌, ◌||◌, not, cond, List, []}
use Rattle.std.proofs.Common.{◌∷◌, ◌++◌, Some, None, map, refl, ◌∙◌, ap, nat_eq, arith}
use Rattle.std.proofs.lemmas.Bool.{ne_eqb, and_right}
use Rattle.std.specs.Prelude.{if◌then◌else◌, Option, nat_lt}
use Rattle.std.specs.Str.{bytes_eq}
use Rattle.std.specs.List.{list_any, find, flat_map, cons_option}
use Rattle.message_types.specs.declared.signed.Signed.{Signed}
use Rattle.message_types.specs.declared.updates.Update.{Update}
use Rattle.message_types.specs.declared.body.Body.{Body}
use Rattle.message_types.specs.declared.body.Body.TheVariants as body
use Rattle.message_types.specs.Digests.{digest_of_update, digest_of_rows}
use Rattle.quorum_sets.specs.Masters.{numbers_below}
use Rattle.protocol_rules.specs.declared.facts.OrderFact.{OrderFact}
use Rattle.protocol_rules.specs.declared.facts.OrderFact.TheVariants as fact
use Rattle.protocol_rules.specs.Words.{or_else, first_met, greatest_of, numbers_from}
use Rattle.protocol_rules.specs.Group.{Group, most_number}
use Rattle.protocol_rules.specs.Facts.{rows_known}
use Rattle.protocol_rules.specs.Preorder.{update_requested, updates_requested, acks, ack_due, acks_due}
use Rattle.protocol_rules.specs.Order.{is_voted, commit_by, commit_views, is_committed, ordered, gapless}
use Rattle.protocol_rules.specs.Reconcile.{asks_for_update, updates_given, give_due, gives_due, asks_for_order}
use Rattle.protocol_rules.specs.Reconcile.{orders_given, give_ordered_due, gives_ordered_due}
use Rattle.protocol_rules.specs.Master.{gap_of}

-- the lesser of two numbers
abbrev pub lesser : ℕ → ℕ → ℕ
lesser zero b = zero
lesser (suc a) zero = zero
lesser (suc a) (suc b) = suc (lesser a b)

all_none : {X : Type 0} (f : ℕ → List X) (start count : ℕ) → ((k : ℕ) → start ≤ k → f k ≡ []) →
    flat_map f (numbers_from start count) ≡ []
unfolding numbers_from
all_none f start zero none = refl
all_none f start (suc count) none =
    let first : f start ≡ [] = none start (omega arith) in
    let rest : flat_map f (numbers_from (suc start) count) ≡ [] =
    all_none f (suc start) count (λ k h. none k (omega arith)) in
    λ i. first i ++ rest i

-- Where nothing comes of the numbers from start + m on, as many as m are enough.
pub enough : {X : Type 0} (f : ℕ → List X) (start count m : ℕ) → ((k : ℕ) → start + m ≤ k → f k ≡ [])
    → flat_map f (numbers_from start count) ≡ flat_map f (numbers_from start (lesser count m))
unfolding numbers_from
enough f start zero m none = refl
enough f start (suc count) zero none = all_none f start (suc count) (λ k h. none k (omega arith))
enough {X} f start (suc count) (suc m) none =
    ap (λ (ys : List X). f start ++ ys) (enough f (suc start) count m (λ k h. none k (omega arith)))

pub same_each : {X Y : Type 0} (f g : X → List Y) (xs : List X) → ((x : X) → f x ≡ g x) → flat_map f xs ≡ flat_map g xs
same_each f g [] same = refl
same_each f g (x ∷ xs) same = λ i. same x i ++ same_each f g xs same i

-- the numbers that a word names: of a request, of a question for an update, of one for an order; 0 where it is none
abbrev pub requested : Signed Body → ℕ
requested f = elim f.body [ body.PoRequest b ↦ b.k | _ ↦ 0 ]

abbrev update_asked : Signed Body → ℕ
update_asked f = elim f.body [ body.AskUpdate b ↦ b.k | _ ↦ 0 ]

abbrev order_asked : Signed Body → ℕ
order_asked f = elim f.body [ body.AskOrder b ↦ b.s | _ ↦ 0 ]

-- the greatest number that any of the words names
abbrev pub highest : (Signed Body → ℕ) → List (Signed Body) → ℕ
highest number known = greatest_of (map number known)

abbrev pub short_acks : Group → List (Signed Body) → List Body → List Body
short_acks g known said =
    flat_map (λ j. flat_map (ack_due known said j) (numbers_from 1 (lesser most_number (highest requested known))))
    (numbers_below g.n)

abbrev pub short_gives : Group → ℕ → List (Signed Body) → List Body → List Body
short_gives g me known said =
    flat_map (λ j. flat_map (give_due g me known said j)
    (numbers_from 1 (lesser most_number (highest update_asked known)))) (numbers_below g.n)

abbrev pub short_gives_ordered : Group → ℕ → List (Signed Body) → List OrderFact → List Body → List Body
short_gives_ordered g me known facts said = flat_map (give_ordered_due g me known facts said)
    (numbers_from 1 (lesser most_number (highest order_asked known)))

abbrev frame_of : ℕ → Body → List ℕ → Signed Body
frame_of signer b sig = record { signer = signer; body = b; sig = sig }

not_requested : (j k signer : ℕ) (sig : List ℕ) (b : Body) → requested (frame_of signer b sig) < k →
    update_requested j k (frame_of signer b sig) ≡ None
not_requested j k signer sig (body.PoRequest r) low =
    ap (λ t. cond t (Some r.update.body) None)
    (and_right (nat_eq signer j) (nat_eq r.k k) (ne_eqb r.k k (λ is. absurd (omega arith))))
not_requested j k signer sig _ low = refl

pub none_requested : (known : List (Signed Body)) (j k : ℕ) → highest requested known < k → updates_requested known j k ≡ []
none_requested [] j k low = refl
none_requested (f ∷ known) j k low =
    let first : update_requested j k f ≡ None = not_requested j k f.signer f.sig f.body (omega arith) in
    let rest : updates_requested known j k ≡ [] = none_requested known j k (omega arith) in
    λ i. cons_option (first i) (rest i)

abbrev ack_for : ℕ → ℕ → List Update → List Body
ack_for j k [] = []
ack_for j k (u ∷ rest) = body.PoAck record { j = j; k = k; digest = digest_of_update u } ∷ []

no_ack : (known : List (Signed Body)) (said : List Body) (j k : ℕ) (b : Bool) → updates_requested known j k ≡ [] →
    cond b [] (ack_for j k (updates_requested known j k)) ≡ []
no_ack known said j k true e = refl
no_ack known said j k false e = ap (ack_for j k) e

pub acks_same : (g : Group) (known : List (Signed Body)) (said : List Body) →
    acks_due g known said ≡ short_acks g known said
acks_same g known said =
    same_each (λ j. flat_map (ack_due known said j) (numbers_from 1 most_number))
    (λ j. flat_map (ack_due known said j) (numbers_from 1 (lesser most_number (highest requested known))))
    (numbers_below g.n)
    (λ j. enough (ack_due known said j) 1 most_number (highest requested known)
    (λ k h. no_ack known said j k (list_any (acks j k) said) (none_requested known j k (omega arith))))

not_asked : (me j k signer : ℕ) (sig : List ℕ) (b : Body) → update_asked (frame_of signer b sig) < k →
    asks_for_update me j k (frame_of signer b sig) ≡ false
not_asked me j k signer sig (body.AskUpdate a) low =
    and_right (not (nat_eq signer me)) (nat_eq a.j j && nat_eq a.k k)
    (and_right (nat_eq a.j j) (nat_eq a.k k) (ne_eqb a.k k (λ is. absurd (omega arith))))
not_asked me j k signer sig _ low = and_right (not (nat_eq signer me)) false refl

or_none : (a b : Bool) → a ≡ false → b ≡ false → (a || b) ≡ false
or_none true b e f = e
or_none false b e f = f

none_asked : (me j k : ℕ) (known : List (Signed Body)) → highest update_asked known < k →
    list_any (asks_for_update me j k) known ≡ false
none_asked me j k [] low = refl
none_asked me j k (f ∷ known) low =
    or_none (asks_for_update me j k f) (list_any (asks_for_update me j k) known)
    (not_asked me j k f.signer f.sig f.body (omega arith)) (none_asked me j k known (omega arith))

not_asked_order : (me s signer : ℕ) (sig : List ℕ) (b : Body) → order_asked (frame_of signer b sig) < s →
    asks_for_order me s (frame_of signer b sig) ≡ false
not_asked_order me s signer sig (body.AskOrder a) low = and_right (not (nat_eq signer me)) (nat_eq a.s s)
    (ne_eqb a.s s (λ is. absurd (omega arith)))
not_asked_order me s signer sig _ low = and_right (not (nat_eq signer me)) false refl

none_asked_order : (me s : ℕ) (known : List (Signed Body)) → highest order_asked known < s →
    list_any (asks_for_order me s) known ≡ false
none_asked_order me s [] low = refl
none_asked_order me s (f ∷ known) low =
    or_none (asks_for_order me s f) (list_any (asks_for_order me s) known)
    (not_asked_order me s f.signer f.sig f.body (omega arith)) (none_asked_order me s known (omega arith))

nothing : {X : Type 0} (a b : Bool) (xs : List X) → a ≡ false → cond (a && b) xs [] ≡ []
nothing a b xs e = ap (λ t. cond (t && b) xs []) e

pub gives_same : (g : Group) (me : ℕ) (known : List (Signed Body)) (said : List Body) →
    gives_due g me known said ≡ short_gives g me known said
gives_same g me known said =
    same_each (λ j. flat_map (give_due g me known said j) (numbers_from 1 most_number))
    (λ j. flat_map (give_due g me known said j)
    (numbers_from 1 (lesser most_number (highest update_asked known)))) (numbers_below g.n)
    (λ j. enough (give_due g me known said j) 1 most_number (highest update_asked known)
    (λ k h. nothing (list_any (asks_for_update me j k) known) (not (list_any (updates_given j k) said)) _
    (none_asked me j k known (omega arith))))

pub gives_ordered_same : (g : Group) (me : ℕ) (known : List (Signed Body)) (facts : List OrderFact) (said : List Body)
    → gives_ordered_due g me known facts said ≡ short_gives_ordered g me known facts said
gives_ordered_same g me known facts said =
    enough (give_ordered_due g me known facts said) 1 most_number (highest order_asked known)
    (λ s h. nothing (list_any (asks_for_order me s) known) (not (list_any (orders_given s) said)) _
    (none_asked_order me s known (omega arith)))

-- the number that a commit names
abbrev committed : OrderFact → ℕ
committed (fact.Commit f) = f.body.s
committed _ = 0

abbrev committed_view : ℕ → List ℕ → OrderFact → Option ℕ
committed_view s digest f =
    elim f [
      | fact.Commit c ↦ if nat_eq c.body.s s && bytes_eq c.body.digest digest then Some c.body.v else None
      | _ ↦ None
    ]

abbrev highest_committed : List OrderFact → ℕ
highest_committed facts = greatest_of (map committed facts)

no_commit : (s : ℕ) (digest : List ℕ) (f : OrderFact) → committed f < s → committed_view s digest f ≡ None
no_commit s digest (fact.Commit c) low = ap (λ t. cond (t && bytes_eq c.body.digest digest) (Some c.body.v) None)
    (ne_eqb c.body.s s (λ is. absurd (omega arith)))
no_commit s digest _ low = refl

no_views : (facts : List OrderFact) (s : ℕ) (digest : List ℕ) → highest_committed facts < s →
    commit_views facts s digest ≡ []
no_views [] s digest low = refl
no_views (f ∷ facts) s digest low =
    let first : committed_view s digest f ≡ None = no_commit s digest f (omega arith) in
    let rest : commit_views facts s digest ≡ [] = no_views facts s digest (omega arith) in
    λ i. cons_option (first i) (rest i)

none_found : {X : Type 0} (f : X → Bool) (xs : List X) → ((x : X) → f x ≡ false) → find f xs ≡ None
none_found f [] none = refl
none_found f (x ∷ xs) none = ap (λ b. cond b (Some x) (find f xs)) (none x) ∙ none_found f xs none

lower_all : (facts : List OrderFact) (f : OrderFact) (s : ℕ) → highest_committed facts < s → committed f < s →
    highest_committed (facts ++ f ∷ []) < s
lower_all [] f s low last = omega arith
lower_all (x ∷ facts) f s low last =
    let later : highest_committed (facts ++ f ∷ []) < s = lower_all facts f s (omega arith) last in
    omega arith

abbrev ordered_in : Group → ℕ → List OrderFact → Option (List (List ℕ))
ordered_in g s beginning = find (λ rows. is_committed g beginning s (digest_of_rows rows)) (rows_known beginning)

none_ordered_in : (g : Group) (s : ℕ) (facts : List OrderFact) → highest_committed facts < s →
    ordered_in g s facts ≡ None
none_ordered_in g s facts low =
    none_found (λ rows. is_committed g facts s (digest_of_rows rows)) (rows_known facts)
    (λ rows. ap (λ views. list_any (λ v. is_voted g (commit_by v s (digest_of_rows rows)) facts) views)
    (no_views facts s (digest_of_rows rows) low))

none_met : (g : Group) (s : ℕ) (seen facts : List OrderFact) → highest_committed seen < s →
    highest_committed facts < s → first_met (ordered_in g s) seen facts ≡ None
unfolding first_met
none_met g s seen [] low above = none_ordered_in g s seen low
none_met g s seen (f ∷ facts) low above =
    let now : ordered_in g s seen ≡ None = none_ordered_in g s seen low in
    ap (λ o. or_else o (first_met (ordered_in g s) (seen ++ f ∷ []) facts)) now
    ∙ none_met g s (seen ++ f ∷ []) facts (lower_all seen f s low (omega arith)) (omega arith)

-- a number above all of which a commit is known isn't ordered
none_ordered : (g : Group) (facts : List OrderFact) (s : ℕ) → highest_committed facts < s → ordered g facts s ≡ None
unfolding ordered
none_ordered g facts s low = none_met g s [] facts (omega arith) low

any_none : (f : ℕ → Bool) (start count : ℕ) → ((k : ℕ) → start ≤ k → f k ≡ false) →
    list_any f (numbers_from start count) ≡ false
unfolding numbers_from
any_none f start zero none = refl
any_none f start (suc count) none = or_none (f start) (list_any f (numbers_from (suc start) count))
    (none start (omega arith)) (any_none f (suc start) count (λ k h. none k (omega arith)))

any_enough : (f : ℕ → Bool) (start count m : ℕ) → ((k : ℕ) → start + m ≤ k → f k ≡ false) →
    list_any f (numbers_from start count) ≡ list_any f (numbers_from start (lesser count m))
unfolding numbers_from
any_enough f start zero m none = refl
any_enough f start (suc count) zero none = any_none f start (suc count) (λ k h. none k (omega arith))
any_enough f start (suc count) (suc m) none =
    ap (λ b. f start || b) (any_enough f (suc start) count m (λ k h. none k (omega arith)))

-- whether the number is ordered with one missing below it
abbrev is_beyond : Group → List OrderFact → ℕ → Bool
is_beyond g facts s = nat_lt (gapless g facts + 1) s && (elim (ordered g facts s) [ None ↦ false | Some rows ↦ true ])

abbrev pub short_gap : Group → List OrderFact → Option ℕ
short_gap g facts = if list_any (is_beyond g facts) (numbers_from 1 (lesser most_number (highest_committed facts)))
    then Some (gapless g facts + 1) else None

pub gap_same : (g : Group) (facts : List OrderFact) → gap_of g facts ≡ short_gap g facts
gap_same g facts =
    ap (λ b. cond b (Some (gapless g facts + 1)) None)
    (any_enough (is_beyond g facts) 1 most_number (highest_committed facts)
    (λ s h. and_right (nat_lt (gapless g facts + 1) s) _
    (ap (λ (o : Option (List (List ℕ))). elim o [ None ↦ false | Some rows ↦ true ])
    (none_ordered g facts s (omega arith)))))
