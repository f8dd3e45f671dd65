-- What the slots and the orders' places hold after a digest is put, and what then agrees.
use Rattle.std.proofs.Common.{◌≡◌, ℕ, ◌+◌, ◌<◌, Bool, true, false, cond, ◌&&◌, ◌||◌, List, [], ◌∷◌, ◌++◌, Option}
use Rattle.std.proofs.Common.{Some, None, is_some, nat_eq, length, take, get_or, refl, sym, ◌∙◌, ap, subst, arith}
use Rattle.std.proofs.Common.{append_assoc, true≢false}
use Rattle.std.specs.List.{find, list_any}
use Rattle.std.specs.Option.{option_map}
use Rattle.std.specs.Str.{bytes_eq}
use Rattle.std.proofs.Math.Bool.{or-false, and-false}
use Rattle.std.proofs.lemmas.List.Folds.{list_any_more}
use Rattle.indexmap.specs.IndexMap.{get}
use Rattle.message_types.specs.Digests.{digest_of_rows}
use Rattle.protocol_rules.specs.Words.{or_else}
use Rattle.global_order.specs.Choosing.{has_digest, is_known, IsLeast, lesser}
use Rattle.global_order.specs.Index.{Map, Waiting, HasPlaces, slot_waits, order_waits, waiting_in, with_all}
use Rattle.global_order.specs.Index.{same_pair, first_in, least_in, order_in, is_backing, is_ordering, TakesDigest}
use Rattle.global_order.specs.Index.{KeepsSlots, TakesOrder, HasRows, Agrees, with_rows, with_quorum, with_choice}
use Rattle.std.specs.declared.alloc.Global.{Global}
use Rattle.std.specs.declared.vec.Vec.{Vec}
use Rattle.global_order.specs.declared.pending.PendingNumbers.{PendingNumbers}
use Rattle.global_order.specs.declared.slots.Slot.{Slot}
use Rattle.global_order.specs.declared.quorum.Quorum.{Quorum}
use Rattle.global_order.specs.declared.choices.Choices.{Choices}
use Rattle.global_order.proofs.Booleans.{bytes-same, same_pair-same, nat_eq-same, none_there, or_else-none}
use Rattle.global_order.proofs.Booleans.{option_map-cond, option_map-or_else, list_any-push, find-append, find-some}
use Rattle.global_order.proofs.Booleans.{stays, taken}
use Rattle.global_order.proofs.Least.{below-irreflexive, least-more, least-alike}
use Rattle.global_order.proofs.Steps.{chosen-again, chosen-rows-new, chosen-backed, chosen-waits}
use Rattle.protocol_rules.specs.Plans.{digest_below}
use Rattle.protocol_rules.proofs.FirstMet.{or_else-assoc}

-- one digest more, given twice

again-first : (o : Option (List ℕ)) (d : List ℕ) → or_else (or_else o (Some d)) (Some d) ≡ or_else o (Some d)
again-first None d = refl
again-first (Some x) d = refl

again-lesser : (o : Option (List ℕ)) (d : List ℕ) → lesser (lesser o d) d ≡ lesser o d
again-lesser None d = ap (λ b. Some (cond b d d)) (below-irreflexive d)
again-lesser (Some x) d = by (digest_below d x) refl
  where
    by : (b : Bool) → digest_below d x ≡ b →
        Some (cond (digest_below d (cond b d x)) d (cond b d x)) ≡ Some (cond b d x)
    by true e = ap (λ b. Some (cond b d d)) (below-irreflexive d)
    by false e = ap (λ b. Some (cond b d x)) e

twice : {X : Type 0} (f : X → X) (o : X) → f (f o) ≡ f o → (p q : Bool) →
    cond q (f (cond p (f o) o)) (cond p (f o) o) ≡ cond (p || q) (f o) o
twice f o same true true = same
twice f o same true false = refl
twice f o same false true = refl
twice f o same false false = refl

pub takes-both : (p q r : ℕ × ℕ → Bool) (d : List ℕ) (old mid new : Map (ℕ × ℕ) Slot) →
    ((k : ℕ × ℕ) → r k ≡ (p k || q k)) → TakesDigest p d old mid → TakesDigest q d mid new → TakesDigest r d old new
takes-both p q r d old mid new either one two = record {
  first = λ k. two.first k ∙ ap (λ o. cond (q k) (or_else o (Some d)) o) (one.first k)
      ∙ twice (λ o. or_else o (Some d)) (first_in (get same_pair old k))
      (again-first (first_in (get same_pair old k)) d) (p k) (q k)
      ∙ ap (λ b. cond b (or_else (first_in (get same_pair old k)) (Some d)) (first_in (get same_pair old k)))
      (sym (either k));
  least = λ k. two.least k ∙ ap (λ o. cond (q k) (lesser o d) o) (one.least k)
      ∙ twice (λ o. lesser o d) (least_in (get same_pair old k)) (again-lesser (least_in (get same_pair old k)) d)
      (p k) (q k)
      ∙ ap (λ b. cond b (lesser (least_in (get same_pair old k)) d) (least_in (get same_pair old k))) (sym (either k));
  places = λ k. two.places k ∙ one.places k;
}

pub takes-same : (p r : ℕ × ℕ → Bool) (d : List ℕ) (old new : Map (ℕ × ℕ) Slot) → ((k : ℕ × ℕ) → r k ≡ p k) →
    TakesDigest p d old new → TakesDigest r d old new
takes-same p r d old new same one = record {
  first = λ k. one.first k ∙ ap (λ b. cond b (or_else (first_in (get same_pair old k)) (Some d))
      (first_in (get same_pair old k))) (sym (same k));
  least = λ k. one.least k ∙ ap
      (λ b. cond b (lesser (least_in (get same_pair old k)) d) (least_in (get same_pair old k))) (sym (same k));
  places = one.places;
}

pub takes-none : (p : ℕ × ℕ → Bool) (d : List ℕ) (old : Map (ℕ × ℕ) Slot) → ((k : ℕ × ℕ) → p k ≡ false) →
    TakesDigest p d old old
takes-none p d old none = record {
  first = λ k. ap (λ b. cond b (or_else (first_in (get same_pair old k)) (Some d)) (first_in (get same_pair old k)))
      (sym (none k));
  least = λ k. ap (λ b. cond b (lesser (least_in (get same_pair old k)) d) (least_in (get same_pair old k)))
      (sym (none k));
  places = λ k. refl;
}

pub order-both : (p q r : ℕ → Bool) (d : List ℕ) (old mid new : Map ℕ (Option (List ℕ))) →
    ((s : ℕ) → r s ≡ (p s || q s)) → TakesOrder p d old mid → TakesOrder q d mid new → TakesOrder r d old new
order-both p q r d old mid new either one two = record {
  order = λ s. two.order s ∙ ap (λ o. cond (q s) (or_else o (Some d)) o) (one.order s)
      ∙ twice (λ o. or_else o (Some d)) (order_in (get nat_eq old s))
      (again-first (order_in (get nat_eq old s)) d) (p s) (q s)
      ∙ ap (λ b. cond b (or_else (order_in (get nat_eq old s)) (Some d)) (order_in (get nat_eq old s)))
      (sym (either s));
  places = λ s. two.places s ∙ one.places s;
}

pub order-same : (p r : ℕ → Bool) (d : List ℕ) (old new : Map ℕ (Option (List ℕ))) → ((s : ℕ) → r s ≡ p s) →
    TakesOrder p d old new → TakesOrder r d old new
order-same p r d old new same one = record {
  order = λ s. one.order s ∙ ap
      (λ b. cond b (or_else (order_in (get nat_eq old s)) (Some d)) (order_in (get nat_eq old s))) (sym (same s));
  places = one.places;
}

pub order-none : (p : ℕ → Bool) (d : List ℕ) (old : Map ℕ (Option (List ℕ))) → ((s : ℕ) → p s ≡ false) →
    TakesOrder p d old old
order-none p d old none = record {
  order = λ s. ap (λ b. cond b (or_else (order_in (get nat_eq old s)) (Some d)) (order_in (get nat_eq old s)))
      (sym (none s));
  places = λ s. refl;
}

-- a slot takes the digest
pub takes-at : (old new : Map (ℕ × ℕ) Slot) (key : ℕ × ℕ) (slot after : Slot) (d : List ℕ) →
    Some slot ≡ get same_pair old key → after.first ≡ or_else slot.first (Some d) → after.least ≡ lesser slot.least d →
    ((k : ℕ × ℕ) → get same_pair new k ≡ cond (same_pair key k) (Some after) (get same_pair old k)) →
    TakesDigest (same_pair key) d old new
takes-at old new key slot after d there first least put = record {
  first = λ k. ap first_in (put k) ∙ at-first k (same_pair key k) refl;
  least = λ k. ap least_in (put k) ∙ at-least k (same_pair key k) refl;
  places = λ k. ap is_some (put k) ∙ at-place k (same_pair key k) refl;
}
  where
    found : (k : ℕ × ℕ) → same_pair key k ≡ true → Some slot ≡ get same_pair old k
    found k e = there ∙ ap (get same_pair old) (same_pair-same key k e)

    at-first : (k : ℕ × ℕ) (b : Bool) → same_pair key k ≡ b →
        first_in (cond b (Some after) (get same_pair old k)) ≡ cond b
        (or_else (first_in (get same_pair old k)) (Some d)) (first_in (get same_pair old k))
    at-first k true e = first ∙ ap (λ o. or_else (first_in o) (Some d)) (found k e)
    at-first k false e = refl

    at-least : (k : ℕ × ℕ) (b : Bool) → same_pair key k ≡ b →
        least_in (cond b (Some after) (get same_pair old k)) ≡ cond b (lesser (least_in (get same_pair old k)) d)
        (least_in (get same_pair old k))
    at-least k true e = least ∙ ap (λ o. lesser (least_in o) d) (found k e)
    at-least k false e = refl

    at-place : (k : ℕ × ℕ) (b : Bool) → same_pair key k ≡ b →
        is_some (cond b (Some after) (get same_pair old k)) ≡ is_some (get same_pair old k)
    at-place k true e = ap is_some (found k e)
    at-place k false e = refl

true-and : (b : Bool) → (b && true) ≡ b
true-and true = refl
true-and false = refl

pub slots-step : (waiting : List Quorum) (i : ℕ) (none : Quorum) (d : List ℕ) (old mid new : Map (ℕ × ℕ) Slot) →
    i < length waiting → bytes_eq (get_or waiting i none).digest d ≡ true →
    TakesDigest (λ k. list_any (is_backing k d) (take i waiting)) d old mid →
    TakesDigest (same_pair ((get_or waiting i none).v, (get_or waiting i none).s)) d mid new →
    TakesDigest (λ k. list_any (is_backing k d) (take (i + 1) waiting)) d old new
slots-step waiting i none d old mid new within like one two =
    takes-both (λ k. list_any (is_backing k d) (take i waiting))
    (same_pair ((get_or waiting i none).v, (get_or waiting i none).s))
    (λ k. list_any (is_backing k d) (take (i + 1) waiting)) d old mid new
    (λ k. list_any_more (is_backing k d) waiting i none within
    ∙ ap (λ b. list_any (is_backing k d) (take i waiting)
    || ((same_pair ((get_or waiting i none).v, (get_or waiting i none).s)) k && b)) like
    ∙ ap (λ b. list_any (is_backing k d) (take i waiting) || b)
    (true-and ((same_pair ((get_or waiting i none).v, (get_or waiting i none).s)) k))) one two

pub slots-skip : (waiting : List Quorum) (i : ℕ) (none : Quorum) (d : List ℕ) (old mid : Map (ℕ × ℕ) Slot) →
    i < length waiting → bytes_eq (get_or waiting i none).digest d ≡ false →
    TakesDigest (λ k. list_any (is_backing k d) (take i waiting)) d old mid →
    TakesDigest (λ k. list_any (is_backing k d) (take (i + 1) waiting)) d old mid
slots-skip waiting i none d old mid within like one =
    takes-same (λ k. list_any (is_backing k d) (take i waiting))
    (λ k. list_any (is_backing k d) (take (i + 1) waiting)) d old mid
    (λ k. list_any_more (is_backing k d) waiting i none within
    ∙ ap (λ b. list_any (is_backing k d) (take i waiting)
    || ((same_pair ((get_or waiting i none).v, (get_or waiting i none).s)) k && b)) like
    ∙ ap (λ b. list_any (is_backing k d) (take i waiting) || b)
    (and-false ((same_pair ((get_or waiting i none).v, (get_or waiting i none).s)) k))
    ∙ or-false (list_any (is_backing k d) (take i waiting))) one

pub orders-step : (waiting : List Quorum) (i : ℕ) (none : Quorum) (d : List ℕ) (old mid new : Map ℕ (Option (List ℕ)))
    → i < length waiting → bytes_eq (get_or waiting i none).digest d ≡ true →
    TakesOrder (λ s. list_any (is_ordering s d) (take i waiting)) d old mid →
    TakesOrder (nat_eq (get_or waiting i none).s) d mid new →
    TakesOrder (λ s. list_any (is_ordering s d) (take (i + 1) waiting)) d old new
orders-step waiting i none d old mid new within like one two =
    order-both (λ s. list_any (is_ordering s d) (take i waiting)) (nat_eq (get_or waiting i none).s)
    (λ s. list_any (is_ordering s d) (take (i + 1) waiting)) d old mid new
    (λ s. list_any_more (is_ordering s d) waiting i none within
    ∙ ap (λ b. list_any (is_ordering s d) (take i waiting) || ((nat_eq (get_or waiting i none).s) s && b)) like
    ∙ ap (λ b. list_any (is_ordering s d) (take i waiting) || b)
    (true-and ((nat_eq (get_or waiting i none).s) s))) one two

pub orders-skip : (waiting : List Quorum) (i : ℕ) (none : Quorum) (d : List ℕ) (old mid : Map ℕ (Option (List ℕ))) →
    i < length waiting → bytes_eq (get_or waiting i none).digest d ≡ false →
    TakesOrder (λ s. list_any (is_ordering s d) (take i waiting)) d old mid →
    TakesOrder (λ s. list_any (is_ordering s d) (take (i + 1) waiting)) d old mid
orders-skip waiting i none d old mid within like one =
    order-same (λ s. list_any (is_ordering s d) (take i waiting))
    (λ s. list_any (is_ordering s d) (take (i + 1) waiting)) d old mid
    (λ s. list_any_more (is_ordering s d) waiting i none within
    ∙ ap (λ b. list_any (is_ordering s d) (take i waiting) || ((nat_eq (get_or waiting i none).s) s && b)) like
    ∙ ap (λ b. list_any (is_ordering s d) (take i waiting) || b)
    (and-false ((nat_eq (get_or waiting i none).s) s)) ∙ or-false (list_any (is_ordering s d) (take i waiting))) one

-- rows

known-is : (known : List (List (List ℕ))) (map : Map (List ℕ) (List (List ℕ))) (d : List ℕ) → HasRows known map →
    is_some (get bytes_eq map d) ≡ is_known known d
known-is known map d has = ap is_some (has d) ∙ find-some (has_digest d) known

rows-again : (known : List (List (List ℕ))) (r : List (List ℕ)) (map : Map (List ℕ) (List (List ℕ))) →
    is_known known (digest_of_rows r) ≡ true → HasRows known map → HasRows (known ++ r ∷ []) map
rows-again known r map there has d =
    has d ∙ stays (has_digest d r) (find (has_digest d) known) r (λ e. find-some (has_digest d) known
    ∙ ap (is_known known) (sym (bytes-same (digest_of_rows r) d e)) ∙ there)
    ∙ sym (find-append (has_digest d) known (r ∷ []))

rows-new : (known : List (List (List ℕ))) (r : List (List ℕ)) (map new : Map (List ℕ) (List (List ℕ))) →
    is_known known (digest_of_rows r) ≡ false →
    ((d : List ℕ) → get bytes_eq new d ≡ cond (bytes_eq (digest_of_rows r) d) (Some r) (get bytes_eq map d)) →
    HasRows known map → HasRows (known ++ r ∷ []) new
rows-new known r map new unknown put has d =
    put d ∙ ap (cond (has_digest d r) (Some r)) (has d)
    ∙ taken (has_digest d r) (find (has_digest d) known) r
    (λ e. none_there (find (has_digest d) known)
    (sym (find-some (has_digest d) known ∙ ap (is_known known) (sym (bytes-same (digest_of_rows r) d e))
    ∙ unknown)))
    ∙ sym (find-append (has_digest d) known (r ∷ []))

-- rows that were known already
pub agrees-again : (known : List (List (List ℕ))) (r : List (List ℕ)) (digest : List ℕ) (prepares : ℕ × ℕ → List ℕ →
    Bool) (first : ℕ × ℕ → Option (List ℕ)) (commits : ℕ → List ℕ → Bool) (order : ℕ → Option (List ℕ)) (c : Choices) →
    digest ≡ digest_of_rows r → true ≡ is_some (get bytes_eq c.rows digest) →
    Agrees known prepares first commits order c →
    Agrees (known ++ r ∷ []) prepares (with_rows prepares first (digest_of_rows r)) commits
    (with_rows commits order (digest_of_rows r)) c
agrees-again known r digest prepares first commits order c is_digest there agrees = record {
  rows = rows-again known r c.rows knows agrees.rows;
  prepared = chosen-again known r prepares first _ _ _ knows agrees.prepared;
  least = λ k. least-alike (λ d. prepares k d && is_known known d) (λ d. prepares k d && is_known (known ++ r ∷ []) d)
      _ (λ d. ap (λ b. prepares k d && b) (list_any-push (has_digest d) known r ∙ same d)) (agrees.least k);
  ordered = chosen-again known r commits order _ _ _ knows agrees.ordered;
}
  where
    knows : is_known known (digest_of_rows r) ≡ true
    knows = ap (is_known known) (sym is_digest) ∙ sym (known-is known c.rows digest agrees.rows) ∙ sym there

    same : (d : List ℕ) → (is_known known d || has_digest d r) ≡ is_known known d
    same d = by (has_digest d r) refl
      where
        by : (b : Bool) → has_digest d r ≡ b → (is_known known d || b) ≡ is_known known d
        by false e = or-false (is_known known d)
        by true e = let is : is_known known d ≡ true = ap (is_known known) (sym (bytes-same (digest_of_rows r) d e))
            ∙ knows in rw is refl

-- none waits for rows of the digest any more, or one more waits
abbrev pub HasLeft : List ℕ → Waiting → Waiting → Type 0
HasLeft digest old new = (d : List ℕ) → get bytes_eq new d ≡ cond (bytes_eq digest d) None (get bytes_eq old d)

abbrev pub HasMore : Quorum → Waiting → Waiting → Type 0
HasMore q old new = (d : List ℕ) → waiting_in (get bytes_eq new d) ≡ cond (bytes_eq q.digest d)
    (waiting_in (get bytes_eq old d) ++ q ∷ []) (waiting_in (get bytes_eq old d))

pub fewer : (p : Quorum → Bool) (here : Bool) (old new : Option (Vec Quorum Global)) → new ≡ cond here None old →
    list_any p (waiting_in new) ≡ true → list_any p (waiting_in old) ≡ true
fewer p true old new left waits = absurd (true≢false (sym waits ∙ ap (λ o. list_any p (waiting_in o)) left))
fewer p false old new left waits = sym (ap (λ o. list_any p (waiting_in o)) left) ∙ waits

waits-more : (q : Quorum) (p : Quorum → Bool) (here like : Bool) (waiting : List Quorum) → p q ≡ (here && like) →
    list_any p (cond like (waiting ++ q ∷ []) waiting) ≡ (list_any p waiting || (here && like))
waits-more q p here true waiting e = list_any-push p waiting q ∙ ap (λ b. list_any p waiting || b) e
waits-more q p here false waiting e =
    sym (ap (λ b. list_any p waiting || b) (and-false here) ∙ or-false (list_any p waiting))

waits-there : (w here like there : Bool) → (w ≡ true → there ≡ true) → (here ≡ true → there ≡ true) →
    (w || (here && like)) ≡ true → there ≡ true
waits-there true here like there before new e = before refl
waits-there false true like there before new e = new refl
waits-there false false like there before new e = absurd (true≢false (sym e))

-- what waits still has its place
pub places-settled : (digest : List ℕ) (old new : Choices) → HasLeft digest old.backed new.backed →
    HasLeft digest old.committed new.committed → TakesDigest (λ k. slot_waits old.backed k digest)
    digest old.prepared new.prepared →
    TakesOrder (λ s. order_waits old.committed s digest) digest old.ordered new.ordered → HasPlaces old → HasPlaces new
places-settled digest old new left orders_left takes orders_take has = record {
  prepared = λ k d waits. takes.places k
      ∙ has.prepared k d (fewer (is_backing k d) (bytes_eq digest d) _ _ (left d) waits);
  ordered = λ s d waits. orders_take.places s
      ∙ has.ordered s d (fewer (is_ordering s d) (bytes_eq digest d) _ _ (orders_left d) waits);
}

-- and so where one more waits that has one
pub slot-waits : (q : Quorum) (backed after : Waiting) (slots : Map (ℕ × ℕ) Slot) →
    is_some (get same_pair slots (q.v, q.s)) ≡ true → HasMore q backed after →
    ((k : ℕ × ℕ) (d : List ℕ) → slot_waits backed k d ≡ true → is_some (get same_pair slots k) ≡ true) →
    (k : ℕ × ℕ) (d : List ℕ) → slot_waits after k d ≡ true → is_some (get same_pair slots k) ≡ true
slot-waits q backed after slots place pushed has k d waits =
    waits-there (slot_waits backed k d) (same_pair (q.v, q.s) k) (bytes_eq q.digest d)
    (is_some (get same_pair slots k)) (has k d)
    (λ e. ap (λ key. is_some (get same_pair slots key)) (sym (same_pair-same (q.v, q.s) k e)) ∙ place)
    (sym (ap (list_any (is_backing k d)) (pushed d) ∙ waits-more q (is_backing k d) (same_pair (q.v, q.s) k)
    (bytes_eq q.digest d) (waiting_in (get bytes_eq backed d)) refl) ∙ waits)

pub order-waits : (q : Quorum) (committed after : Waiting) (orders : Map ℕ (Option (List ℕ))) →
    is_some (get nat_eq orders q.s) ≡ true → HasMore q committed after →
    ((s : ℕ) (d : List ℕ) → order_waits committed s d ≡ true → is_some (get nat_eq orders s) ≡ true) →
    (s : ℕ) (d : List ℕ) → order_waits after s d ≡ true → is_some (get nat_eq orders s) ≡ true
order-waits q committed after orders place pushed has s d waits =
    waits-there (order_waits committed s d) (nat_eq q.s s) (bytes_eq q.digest d)
    (is_some (get nat_eq orders s)) (has s d)
    (λ e. ap (λ key. is_some (get nat_eq orders key)) (sym (nat_eq-same q.s s e)) ∙ place)
    (sym (ap (list_any (is_ordering s d)) (pushed d) ∙ waits-more q (is_ordering s d) (nat_eq q.s s)
    (bytes_eq q.digest d) (waiting_in (get bytes_eq committed d)) refl) ∙ waits)

-- The choices learned rows that none known had the digest of: what waited for them takes the digest, and waits no more.
pub record HasLearned (r : List (List ℕ)) (digest : List ℕ) (c after : Choices) : Type 0 where
  pub absent : false ≡ is_some (get bytes_eq c.rows digest)
  pub put : (d : List ℕ) → get bytes_eq after.rows d ≡ cond (bytes_eq digest d) (Some r) (get bytes_eq c.rows d)
  pub slots : TakesDigest (λ k. slot_waits c.backed k digest) digest c.prepared after.prepared
  pub orders : TakesOrder (λ s. order_waits c.committed s digest) digest c.ordered after.ordered
  pub slots_left : HasLeft digest c.backed after.backed
  pub orders_left : HasLeft digest c.committed after.committed

pub agrees-new : (known : List (List (List ℕ))) (r : List (List ℕ)) (digest : List ℕ) (prepares : ℕ × ℕ → List ℕ →
    Bool) (first : ℕ × ℕ → Option (List ℕ)) (commits : ℕ → List ℕ → Bool) (order : ℕ → Option (List ℕ))
    (c after : Choices) → digest ≡ digest_of_rows r → HasLearned r digest c after →
    Agrees known prepares first commits order c →
    Agrees (known ++ r ∷ []) prepares (with_rows prepares first (digest_of_rows r)) commits
    (with_rows commits order (digest_of_rows r)) after
agrees-new known r digest prepares first commits order c after is_digest taken agrees = record {
  rows = rows-new known r c.rows after.rows unknown learned.put agrees.rows;
  prepared = chosen-rows-new known r prepares first _ (slot_waits c.backed) (slot_waits after.backed) _ _ _ unknown
      (λ k d apart. ap (λ o. list_any (is_backing k d) (waiting_in o))
      (learned.slots_left d ∙ ap (λ b. cond b None (get bytes_eq c.backed d)) apart))
      (λ k d. fewer (is_backing k d) (bytes_eq (digest_of_rows r) d) _ _ (learned.slots_left d)) learned.slots.first
      (λ k e. learned.slots.places k ∙ e) agrees.prepared;
  least = λ k. least k (prepares k (digest_of_rows r)) refl
      (learned.slots.least k ∙ ap (λ b. cond b (lesser (least_in (get same_pair c.prepared k)) (digest_of_rows r))
      (least_in (get same_pair c.prepared k))) (agrees.prepared.waiting k (digest_of_rows r) unknown));
  ordered = chosen-rows-new known r commits order _ (order_waits c.committed) (order_waits after.committed)
      _ _ _ unknown (λ s d apart. ap (λ o. list_any (is_ordering s d) (waiting_in o))
      (learned.orders_left d ∙ ap (λ b. cond b None (get bytes_eq c.committed d)) apart))
      (λ s d. fewer (is_ordering s d) (bytes_eq (digest_of_rows r) d) _ _ (learned.orders_left d)) learned.orders.order
      (λ s e. learned.orders.places s ∙ e) agrees.ordered;
}
  where
    learned : HasLearned r (digest_of_rows r) c after
    learned = subst (λ (d : List ℕ). HasLearned r d c after) is_digest taken

    unknown : is_known known (digest_of_rows r) ≡ false
    unknown = sym (known-is known c.rows (digest_of_rows r) agrees.rows) ∙ sym learned.absent

    joined : (p n l : Bool) → (l ≡ true → p ≡ true) → (p && (n || l)) ≡ ((p && n) || l)
    joined true true l e = refl
    joined true false l e = refl
    joined false n false e = refl
    joined false n true e = absurd (true≢false (sym (e refl)))

    apart : (p n l : Bool) → (l ≡ true → p ≡ false) → (p && (n || l)) ≡ (p && n)
    apart true true l e = refl
    apart true false false e = refl
    apart true false true e = absurd (true≢false (e refl))
    apart false n l e = refl

    least : (k : ℕ × ℕ) (b : Bool) → prepares k (digest_of_rows r) ≡ b →
        least_in (get same_pair after.prepared k) ≡ cond b
        (lesser (least_in (get same_pair c.prepared k)) (digest_of_rows r))
        (least_in (get same_pair c.prepared k)) →
        IsLeast (λ d. prepares k d && is_known (known ++ r ∷ []) d) (least_in (get same_pair after.prepared k))
    least k true back is = rw is
        (least-more (λ d. prepares k d && is_known known d) (λ d. prepares k d && is_known (known ++ r ∷ []) d)
        (digest_of_rows r) (least_in (get same_pair c.prepared k))
        (λ e. ap (λ b. prepares k e && b) (list_any-push (has_digest e) known r)
        ∙ joined (prepares k e) (is_known known e) (has_digest e r)
        (λ like. ap (prepares k) (sym (bytes-same (digest_of_rows r) e like)) ∙ back)) (agrees.least k))
    least k false back is = rw is
        (least-alike (λ d. prepares k d && is_known known d) (λ d. prepares k d && is_known (known ++ r ∷ []) d)
        (least_in (get same_pair c.prepared k))
        (λ e. ap (λ b. prepares k e && b) (list_any-push (has_digest e) known r)
        ∙ apart (prepares k e) (is_known known e) (has_digest e r)
        (λ like. ap (prepares k) (sym (bytes-same (digest_of_rows r) e like)) ∙ back)) (agrees.least k))

-- a quorum of prepares whose rows are known
pub agrees-backed : (known : List (List (List ℕ))) (key : ℕ × ℕ) (d : List ℕ) (prepares : ℕ × ℕ → List ℕ → Bool)
    (first : ℕ × ℕ → Option (List ℕ)) (commits : ℕ → List ℕ → Bool) (order : ℕ → Option (List ℕ)) (c : Choices)
    (slots : Map (ℕ × ℕ) Slot) (pending : PendingNumbers) →
    true ≡ is_some (get bytes_eq c.rows d) → TakesDigest (same_pair key) d c.prepared slots →
    Agrees known prepares first commits order c →
    Agrees known (with_quorum same_pair key d prepares) (with_choice same_pair key d known first) commits order
    record c { prepared = slots; pending = pending }
agrees-backed known key d prepares first commits order c slots pending there takes agrees = record {
  rows = agrees.rows;
  prepared = chosen-backed same_pair known key d prepares _ first _ _ _ _ _ _ knows (λ k e. refl)
      (λ k. ap (λ b. or_else (first k) (cond (same_pair key k && b) (Some d) None)) knows
      ∙ ap (λ b. or_else (first k) (cond b (Some d) None)) (true-and (same_pair key k)))
      takes.first (λ k e. takes.places k ∙ e) agrees.prepared;
  least = λ k. least k (same_pair key k) (takes.least k);
  ordered = agrees.ordered;
}
  where
    knows : is_known known d ≡ true
    knows = sym (known-is known c.rows d agrees.rows) ∙ sym there

    joined : (p n l : Bool) → (l ≡ true → n ≡ true) → ((p || l) && n) ≡ ((p && n) || l)
    joined true true l e = refl
    joined true false false e = refl
    joined true false true e = absurd (true≢false (sym (e refl)))
    joined false n false e = refl
    joined false n true e = e refl

    nothing : (p n : Bool) → ((p || false) && n) ≡ (p && n)
    nothing true n = refl
    nothing false n = refl

    least : (k : ℕ × ℕ) (b : Bool) →
        least_in (get same_pair slots k) ≡ cond b (lesser (least_in (get same_pair c.prepared k)) d)
        (least_in (get same_pair c.prepared k)) →
        IsLeast (λ e. (prepares k e || (b && bytes_eq d e)) && is_known known e) (least_in (get same_pair slots k))
    least k true is = rw is (least-more (λ e. prepares k e && is_known known e) (λ e. (prepares k e || bytes_eq d e)
        && is_known known e) d (least_in (get same_pair c.prepared k))
        (λ e. joined (prepares k e) (is_known known e) (bytes_eq d e)
        (λ like. ap (is_known known) (sym (bytes-same d e like)) ∙ knows)) (agrees.least k))
    least k false is = rw is (least-alike (λ e. prepares k e && is_known known e)
        (λ e. (prepares k e || false) && is_known known e) (least_in (get same_pair c.prepared k))
        (λ e. nothing (prepares k e) (is_known known e)) (agrees.least k))

-- a quorum of prepares that waits for its rows
pub agrees-waits : (known : List (List (List ℕ))) (q : Quorum) (prepares : ℕ × ℕ → List ℕ → Bool) (first : ℕ × ℕ →
    Option (List ℕ)) (commits : ℕ → List ℕ → Bool) (order : ℕ → Option (List ℕ)) (c after : Choices) →
    false ≡ is_some (get bytes_eq c.rows q.digest) → is_some (get same_pair c.prepared (q.v, q.s)) ≡ true →
    HasMore q c.backed after.backed → after.rows ≡ c.rows → after.prepared ≡ c.prepared →
    after.ordered ≡ c.ordered → after.committed ≡ c.committed →
    Agrees known prepares first commits order c →
    Agrees known (with_quorum same_pair (q.v, q.s) q.digest prepares)
    (with_choice same_pair (q.v, q.s) q.digest known first) commits order after
agrees-waits known q prepares first commits order c after absent place pushed rows_are slots_are orders_are
    committed_are agrees = record {
      rows = rw rows_are agrees.rows;
      prepared = rw slots_are (chosen-waits same_pair known (q.v, q.s) q.digest prepares _ first _ _ _
          (slot_waits after.backed) _ _ _ unknown (λ k e. refl)
          (λ k. ap (λ b. or_else (first k) (cond (same_pair (q.v, q.s) k && b) (Some q.digest) None)) unknown
          ∙ ap (λ b. or_else (first k) (cond b (Some q.digest) None)) (and-false (same_pair (q.v, q.s) k))
          ∙ or_else-none (first k))
          (λ k. refl) (λ k e. ap (list_any (is_backing k e)) (pushed e) ∙ waits-more q (is_backing k e)
          (same_pair (q.v, q.s) k) (bytes_eq q.digest e) (waiting_in (get bytes_eq c.backed e)) refl) (λ k e. e)
          (λ k e. ap (λ key. is_some (get same_pair c.prepared key)) (sym (same_pair-same (q.v, q.s) k e)) ∙ place)
          agrees.prepared);
      least = λ k. rw slots_are
          (least-alike (λ e. prepares k e && is_known known e) _ (least_in (get same_pair c.prepared k))
          (λ e. apart (prepares k e) (is_known known e) (same_pair (q.v, q.s) k) (bytes_eq q.digest e)
          (λ like. ap (is_known known) (sym (bytes-same q.digest e like)) ∙ unknown)) (agrees.least k));
      ordered = rw (orders_are, committed_are) agrees.ordered;
    }
  where
    unknown : is_known known q.digest ≡ false
    unknown = sym (known-is known c.rows q.digest agrees.rows) ∙ sym absent

    apart : (p n here l : Bool) → (l ≡ true → n ≡ false) → ((p || (here && l)) && n) ≡ (p && n)
    apart true n here l e = refl
    apart false n false l e = refl
    apart false n true false e = refl
    apart false n true true e = e refl

-- a quorum of commits whose rows are known
pub agrees-committed : (known : List (List (List ℕ))) (s : ℕ) (d : List ℕ) (prepares : ℕ × ℕ → List ℕ → Bool)
    (first : ℕ × ℕ → Option (List ℕ)) (commits : ℕ → List ℕ → Bool) (order : ℕ → Option (List ℕ)) (c : Choices)
    (orders : Map ℕ (Option (List ℕ))) (highest : ℕ) →
    true ≡ is_some (get bytes_eq c.rows d) → TakesOrder (nat_eq s) d c.ordered orders →
    Agrees known prepares first commits order c →
    Agrees known prepares first (with_quorum nat_eq s d commits) (with_choice nat_eq s d known order)
    record c { ordered = orders; highest = highest }
agrees-committed known s d prepares first commits order c orders highest there takes agrees = record {
  rows = agrees.rows;
  prepared = agrees.prepared;
  least = agrees.least;
  ordered = chosen-backed nat_eq known s d commits _ order _ _ _ _ _ _ knows (λ k e. refl)
      (λ k. ap (λ b. or_else (order k) (cond (nat_eq s k && b) (Some d) None)) knows
      ∙ ap (λ b. or_else (order k) (cond b (Some d) None)) (true-and (nat_eq s k)))
      takes.order (λ k e. takes.places k ∙ e) agrees.ordered;
}
  where
    knows : is_known known d ≡ true
    knows = sym (known-is known c.rows d agrees.rows) ∙ sym there

-- a quorum of commits that waits for its rows
pub agrees-pending : (known : List (List (List ℕ))) (q : Quorum) (prepares : ℕ × ℕ → List ℕ → Bool) (first : ℕ × ℕ →
    Option (List ℕ)) (commits : ℕ → List ℕ → Bool) (order : ℕ → Option (List ℕ)) (c after : Choices) →
    false ≡ is_some (get bytes_eq c.rows q.digest) → is_some (get nat_eq c.ordered q.s) ≡ true →
    HasMore q c.committed after.committed → after.rows ≡ c.rows → after.prepared ≡ c.prepared →
    after.backed ≡ c.backed → after.ordered ≡ c.ordered →
    Agrees known prepares first commits order c →
    Agrees known prepares first (with_quorum nat_eq q.s q.digest commits)
    (with_choice nat_eq q.s q.digest known order) after
agrees-pending known q prepares first commits order c after absent place pushed rows_are slots_are backed_are
    orders_are agrees = record {
      rows = rw rows_are agrees.rows;
      prepared = rw (slots_are, backed_are) agrees.prepared;
      least = λ k. rw slots_are (agrees.least k);
      ordered = rw orders_are (chosen-waits nat_eq known q.s q.digest commits _ order _ _ _
          (order_waits after.committed) _ _ _ unknown (λ k e. refl)
          (λ k. ap (λ b. or_else (order k) (cond (nat_eq q.s k && b) (Some q.digest) None)) unknown
          ∙ ap (λ b. or_else (order k) (cond b (Some q.digest) None)) (and-false (nat_eq q.s k))
          ∙ or_else-none (order k))
          (λ k. refl) (λ k e. ap (list_any (is_ordering k e)) (pushed e) ∙ waits-more q (is_ordering k e) (nat_eq q.s k)
          (bytes_eq q.digest e) (waiting_in (get bytes_eq c.committed e)) refl) (λ k e. e)
          (λ k e. ap (λ key. is_some (get nat_eq c.ordered key)) (sym (nat_eq-same q.s k e)) ∙ place) agrees.ordered);
    }
  where
    unknown : is_known known q.digest ≡ false
    unknown = sym (known-is known c.rows q.digest agrees.rows) ∙ sym absent

-- an empty slot changes nothing
pub keeps-slots : (old new : Map (ℕ × ℕ) Slot) (key : ℕ × ℕ) (slot : Slot) → false ≡ is_some (get same_pair old key) →
    slot.first ≡ None → slot.least ≡ None →
    ((k : ℕ × ℕ) → get same_pair new k ≡ cond (same_pair key k) (Some slot) (get same_pair old k)) → KeepsSlots old new
keeps-slots old new key slot absent first least put = record {
  first = λ k. ap first_in (put k) ∙ at-first k (same_pair key k) refl;
  least = λ k. ap least_in (put k) ∙ at-least k (same_pair key k) refl;
  places = λ k there. ap is_some (put k) ∙ at-place k (same_pair key k) there;
}
  where
    none : (k : ℕ × ℕ) → same_pair key k ≡ true → get same_pair old k ≡ None
    none k e = ap (get same_pair old) (sym (same_pair-same key k e)) ∙ none_there (get same_pair old key) absent

    at-first : (k : ℕ × ℕ) (b : Bool) → same_pair key k ≡ b →
        first_in (cond b (Some slot) (get same_pair old k)) ≡ first_in (get same_pair old k)
    at-first k true e = first ∙ sym (ap first_in (none k e))
    at-first k false e = refl

    at-least : (k : ℕ × ℕ) (b : Bool) → same_pair key k ≡ b →
        least_in (cond b (Some slot) (get same_pair old k)) ≡ least_in (get same_pair old k)
    at-least k true e = least ∙ sym (ap least_in (none k e))
    at-least k false e = refl

    at-place : (k : ℕ × ℕ) (b : Bool) → is_some (get same_pair old k) ≡ true →
        is_some (cond b (Some slot) (get same_pair old k)) ≡ true
    at-place k true e = refl
    at-place k false e = e

-- one more of several rows
more-of : {K : Type 0} (backs : K → List ℕ → Bool) (first : K → Option (List ℕ)) (rows : List (List (List ℕ)))
    (r : List (List ℕ)) (k : K) →
    with_rows backs (with_all backs first rows) (digest_of_rows r) k ≡ with_all backs first (rows ++ r ∷ []) k
more-of backs first rows r k =
    or_else-assoc (first k) (option_map digest_of_rows (find (λ x. backs k (digest_of_rows x)) rows))
    (cond (backs k (digest_of_rows r)) (Some (digest_of_rows r)) None)
    ∙ ap (or_else (first k)) (ap (or_else (option_map digest_of_rows (find (λ x. backs k (digest_of_rows x)) rows)))
    (sym (option_map-cond digest_of_rows (backs k (digest_of_rows r)) r))
    ∙ sym (ap (option_map digest_of_rows) (find-append (λ x. backs k (digest_of_rows x)) rows (r ∷ []))
    ∙ option_map-or_else digest_of_rows (find (λ x. backs k (digest_of_rows x)) rows)
    (cond (backs k (digest_of_rows r)) (Some r) None)))

-- what agrees with tests and choices agrees with the same ones
pub agrees-alike : (known now : List (List (List ℕ))) (prepares prepares_now : ℕ × ℕ → List ℕ → Bool)
    (first first_now : ℕ × ℕ → Option (List ℕ)) (commits commits_now : ℕ → List ℕ → Bool) (order order_now : ℕ →
    Option (List ℕ)) (c : Choices) →
    known ≡ now → ((k : ℕ × ℕ) (d : List ℕ) → prepares k d ≡ prepares_now k d) →
    ((k : ℕ × ℕ) → first k ≡ first_now k) → ((s : ℕ) (d : List ℕ) → commits s d ≡ commits_now s d) →
    ((s : ℕ) → order s ≡ order_now s) →
    Agrees known prepares first commits order c → Agrees now prepares_now first_now commits_now order_now c
agrees-alike known now prepares prepares_now first first_now commits commits_now order order_now c
    rows one two three four agrees =
    subst (λ (T : Type 0). T)
    (λ i. Agrees (rows i) (λ k d. one k d i) (λ k. two k i) (λ s d. three s d i) (λ s. four s i) c) agrees

pub agrees-one_more : (known rows : List (List (List ℕ))) (r : List (List ℕ)) (prepares : ℕ × ℕ → List ℕ → Bool)
    (first : ℕ × ℕ → Option (List ℕ)) (commits : ℕ → List ℕ → Bool) (order : ℕ → Option (List ℕ)) (c : Choices) →
    Agrees ((known ++ rows) ++ r ∷ []) prepares (with_rows prepares (with_all prepares first rows) (digest_of_rows r))
    commits (with_rows commits (with_all commits order rows) (digest_of_rows r)) c →
    Agrees (known ++ (rows ++ r ∷ [])) prepares (with_all prepares first (rows ++ r ∷ [])) commits
    (with_all commits order (rows ++ r ∷ [])) c
agrees-one_more known rows r prepares first commits order c agrees =
    agrees-alike _ _ _ _ _ _ _ _ _ _ c (append_assoc known rows (r ∷ [])) (λ k d. refl)
    (more-of prepares first rows r) (λ s d. refl) (more-of commits order rows r) agrees

pub none_left : {X : Type 0} (xs : List X) → length xs ≡ 0 → xs ≡ []
none_left [] e = refl
none_left (x ∷ xs) e = absurd (omega arith)
