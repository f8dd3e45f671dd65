-- The index that an order keeps: each part of it agrees with a definition over the facts that the order was handed.
use Rattle.std.specs.Prelude.{◌≡◌, ◌⊎◌, ℕ, suc, ◌≤◌, ◌<◌, IsSome, Bool, ◌&&◌, ◌||◌, List, [], true, false, Option}
use Rattle.std.specs.Prelude.{Some, None, is_some, nat_eq, nat_lt, vec_len, vec_capacity, if◌then◌else◌}
use Rattle.std.specs.List.{filter_map, find, list_any}
use Rattle.std.specs.Option.{option_map}
use Rattle.std.specs.Str.{bytes_eq}
use Rattle.std.specs.HashMap.{HashMap}
use Rattle.std.specs.declared.alloc.Global.{Global}
use Rattle.std.specs.declared.vec.Vec.{Vec}
use Rattle.std.specs.declared.hash.FoldHasher.{FoldHasher}
use Rattle.std.specs.declared.hash.BuildHasherDefault.{BuildHasherDefault}
use Rattle.indexmap.specs.IndexMap.{get, spare}
use Rattle.message_types.specs.declared.signed.Signed.{Signed}
use Rattle.message_types.specs.declared.ordering.Prepare.{Prepare}
use Rattle.message_types.specs.declared.ordering.Commit.{Commit}
use Rattle.message_types.specs.declared.ordering.Mark.{Mark}
use Rattle.quorum_sets.specs.Masters.{numbers_below}
use Rattle.protocol_rules.specs.declared.facts.OrderFact.{OrderFact}
use Rattle.protocol_rules.specs.Words.{or_else, first_of_list}
use Rattle.protocol_rules.specs.Facts.{rows_known}
use Rattle.protocol_rules.specs.Order.{prepare_by, commit_by, mark_by}
use Rattle.message_types.specs.Digests.{digest_of_rows}
use Rattle.protocol_rules.specs.Group.{Group, most_number}
use Rattle.protocol_rules.specs.Order.{is_voted, is_committed, prepared, ordered}
pub use Rattle.protocol_rules.specs.Keys.{Vote, same_pair, same_vote}
use Rattle.global_order.specs.Choosing.{has_digest, is_known, IsChosen, IsLeast, lesser}
use Rattle.global_order.specs.declared.slots.Slot.{Slot}
use Rattle.global_order.specs.declared.quorum.Quorum.{Quorum}
use Rattle.global_order.specs.declared.choices.Choices.{Choices}

abbrev pub Map : Type 0 → Type 0 → Type 0
Map K X = HashMap K X (BuildHasherDefault FoldHasher)

-- the values that f gives of the numbers below n
abbrev pub given : {X : Type 0} → (ℕ → Option X) → ℕ → List X
given f n = filter_map f (numbers_below n)

-- the signatures of the votes held for this view, number and digest, by master
abbrev pub vote_at : Map Vote (List ℕ) → ℕ → ℕ → List ℕ → ℕ → Option (List ℕ)
vote_at votes v s digest m = get same_vote votes (v, s, digest, m)

abbrev pub mark_at : Map (ℕ × ℕ) (List ℕ) → ℕ → ℕ → Option (List ℕ)
mark_at marks s m = get same_pair marks (s, m)

-- the map keeps what it has, and takes the value where the key had none
abbrev pub TakesFirst : {K X : Type 0} → (K → K → Bool) → Map K X → Map K X → K → X → Type 0
TakesFirst {K} same old new key x = (k : K) →
    get same new k ≡ or_else (get same old k) (if same key k then Some x else None)

-- the frame of a master, of its body and its signature
abbrev pub signed_by : {B : Type 0} → B → ℕ → List ℕ → Signed B
signed_by body m sig = record { signer = m; body = body; sig = sig }

abbrev pub prepare_of : ℕ → ℕ → List ℕ → ℕ → List ℕ → Signed Prepare
prepare_of v s digest m sig = record { signer = m; body = record { v = v; s = s; digest = digest }; sig = sig }

abbrev pub commit_of : ℕ → ℕ → List ℕ → ℕ → List ℕ → Signed Commit
commit_of v s digest m sig = record { signer = m; body = record { v = v; s = s; digest = digest }; sig = sig }

abbrev pub mark_of : ℕ → ℕ → List ℕ → Signed Mark
mark_of s m sig = record { signer = m; body = record { s = s }; sig = sig }

-- held are the signatures of each master's first prepare, commit and mark of each kind
abbrev pub HasPrepares : List OrderFact → Map Vote (List ℕ) → Type 0
HasPrepares facts votes = (v s : ℕ) (d : List ℕ) (m : ℕ) →
    option_map (prepare_of v s d m) (vote_at votes v s d m) ≡ first_of_list (filter_map (prepare_by v s d m) facts)

abbrev pub HasCommits : List OrderFact → Map Vote (List ℕ) → Type 0
HasCommits facts votes = (v s : ℕ) (d : List ℕ) (m : ℕ) →
    option_map (commit_of v s d m) (vote_at votes v s d m) ≡ first_of_list (filter_map (commit_by v s d m) facts)

abbrev pub HasMarks : List OrderFact → Map (ℕ × ℕ) (List ℕ) → Type 0
HasMarks facts marks = (s m : ℕ) → option_map (mark_of s m) (mark_at marks s m) ≡ first_of_list
    (filter_map (mark_by s m) facts)

-- held are the first rows of each digest
abbrev pub HasRows : List (List (List ℕ)) → Map (List ℕ) (List (List ℕ)) → Type 0
HasRows rows map = (d : List ℕ) → get bytes_eq map d ≡ find (has_digest d) rows

-- what a slot holds: the digest prepared, and the least of those that have a certificate
abbrev pub first_in : Option Slot → Option (List ℕ)
first_in None = None
first_in (Some slot) = slot.first

abbrev pub least_in : Option Slot → Option (List ℕ)
least_in None = None
least_in (Some slot) = slot.least

-- what an order's place holds: the digest ordered, if any
abbrev pub order_in : Option (Option (List ℕ)) → Option (List ℕ)
order_in None = None
order_in (Some order) = order

-- the quorum is one of prepares for this view and number, or of commits for this number
abbrev pub is_backing : ℕ × ℕ → List ℕ → Quorum → Bool
is_backing k digest q = same_pair (q.v, q.s) k && bytes_eq q.digest digest

abbrev pub is_ordering : ℕ → List ℕ → Quorum → Bool
is_ordering s digest q = nat_eq q.s s && bytes_eq q.digest digest

-- the quorums that wait
abbrev pub waiting_in : Option (Vec Quorum Global) → List Quorum
waiting_in None = []
waiting_in (Some quorums) = quorums.items

abbrev pub Waiting : Type 0
Waiting = Map (List ℕ) (Vec Quorum Global)

-- of those that wait for rows of the digest one is of this view and number, or of this number
abbrev pub slot_waits : Waiting → ℕ × ℕ → List ℕ → Bool
slot_waits waiting k digest = list_any (is_backing k digest) (waiting_in (get bytes_eq waiting digest))

abbrev pub order_waits : Waiting → ℕ → List ℕ → Bool
order_waits waiting s digest = list_any (is_ordering s digest) (waiting_in (get bytes_eq waiting digest))

abbrev pub KeepsWaiting : Waiting → Waiting → Type 0
KeepsWaiting old new = (d : List ℕ) → waiting_in (get bytes_eq new d) ≡ waiting_in (get bytes_eq old d)

-- the list is there and has room
abbrev pub has_room : Option (Vec Quorum Global) → Bool
has_room None = false
has_room (Some quorums) = nat_lt (vec_len quorums) (vec_capacity quorums)

pub record HasRoomFor (digest : List ℕ) (waiting : Waiting) : Type 0 where
  pub entry : 1 ≤ spare waiting
  pub list : has_room (get bytes_eq waiting digest) ≡ true

-- the slots after are those before, but that those of the keys that pass take the digest
pub record TakesDigest (passes : ℕ × ℕ → Bool) (digest : List ℕ) (old new : Map (ℕ × ℕ) Slot) : Type 0 where
  pub first : (k : ℕ × ℕ) →
      first_in (get same_pair new k) ≡ (if passes k then or_else (first_in (get same_pair old k)) (Some digest)
      else first_in (get same_pair old k))
  pub least : (k : ℕ × ℕ) →
      least_in (get same_pair new k) ≡ (if passes k then lesser (least_in (get same_pair old k)) digest else least_in
      (get same_pair old k))
  pub places : (k : ℕ × ℕ) → is_some (get same_pair new k) ≡ is_some (get same_pair old k)

-- there is a place for one more, and all else is as it was
pub record KeepsSlots (old new : Map (ℕ × ℕ) Slot) : Type 0 where
  pub first : (k : ℕ × ℕ) → first_in (get same_pair new k) ≡ first_in (get same_pair old k)
  pub least : (k : ℕ × ℕ) → least_in (get same_pair new k) ≡ least_in (get same_pair old k)
  pub places : (k : ℕ × ℕ) → is_some (get same_pair old k) ≡ true → is_some (get same_pair new k) ≡ true

pub record TakesOrder (passes : ℕ → Bool) (digest : List ℕ) (old new : Map ℕ (Option (List ℕ))) : Type 0 where
  pub order : (s : ℕ) → order_in (get nat_eq new s) ≡ (if passes s then or_else (order_in (get nat_eq old s))
      (Some digest) else order_in (get nat_eq old s))
  pub places : (s : ℕ) → is_some (get nat_eq new s) ≡ is_some (get nat_eq old s)

pub record KeepsOrders (old new : Map ℕ (Option (List ℕ))) : Type 0 where
  pub order : (s : ℕ) → order_in (get nat_eq new s) ≡ order_in (get nat_eq old s)
  pub places : (s : ℕ) → is_some (get nat_eq old s) ≡ true → is_some (get nat_eq new s) ≡ true

-- Where these rows are known, `prepares` says which digests a quorum prepared in a view as a number, `commits` which a
-- quorum committed as a number, and `first` and `order` which digests were chosen of them: what the choices hold agrees
-- with all these.
pub record Agrees (known : List (List (List ℕ))) (prepares : ℕ × ℕ → List ℕ → Bool) (first : ℕ × ℕ → Option (List ℕ))
    (commits : ℕ → List ℕ → Bool) (order : ℕ → Option (List ℕ)) (choices : Choices) : Type 0 where
  pub rows : HasRows known choices.rows
  pub prepared : IsChosen known prepares first (λ k. first_in (get same_pair choices.prepared k))
      (λ k d. slot_waits choices.backed k d) (λ k. is_some (get same_pair choices.prepared k))
  pub least : (k : ℕ × ℕ) →
      IsLeast (λ d. prepares k d && is_known known d) (least_in (get same_pair choices.prepared k))
  pub ordered : IsChosen known commits order (λ s. order_in (get nat_eq choices.ordered s))
      (λ s d. order_waits choices.committed s d) (λ s. is_some (get nat_eq choices.ordered s))

-- a choice where rows of this digest are known too
abbrev pub with_rows : {K : Type 0} → (K → List ℕ → Bool) → (K → Option (List ℕ)) → List ℕ → K → Option (List ℕ)
with_rows backs first digest k = or_else (first k) (if backs k digest then Some digest else None)

-- a digest more that a quorum backs at a key, and the choice then
abbrev pub with_quorum : {K : Type 0} → (K → K → Bool) → K → List ℕ → (K → List ℕ → Bool) → K → List ℕ → Bool
with_quorum same key digest backs k e = backs k e || (same key k && bytes_eq digest e)

abbrev pub with_choice : {K : Type 0} → (K → K → Bool) → K → List ℕ → List (List (List ℕ)) →
    (K → Option (List ℕ)) → K → Option (List ℕ)
with_choice same key digest rows first k =
    or_else (first k) (if same key k && is_known rows digest then Some digest else None)

-- the digests that a quorum prepared in a view as a number, and the one prepared first
abbrev pub prepares_in : Group → List OrderFact → ℕ × ℕ → List ℕ → Bool
prepares_in g facts k digest = is_voted g (prepare_by k.0 k.1 digest) facts

abbrev pub prepared_in : Group → List OrderFact → ℕ × ℕ → Option (List ℕ)
prepared_in g facts k = option_map digest_of_rows (prepared g facts k.0 k.1)

abbrev pub ordered_in : Group → List OrderFact → ℕ → Option (List ℕ)
ordered_in g facts s = option_map digest_of_rows (ordered g facts s)

-- the choices are those of these facts
abbrev pub HasChoices : Group → List OrderFact → Choices → Type 0
HasChoices g facts choices = Agrees (rows_known facts) (prepares_in g facts) (prepared_in g facts)
    (is_committed g facts) (ordered_in g facts) choices

-- each quorum that waits has a place for its digest
pub record HasPlaces (choices : Choices) : Type 0 where
  pub prepared : (k : ℕ × ℕ) (d : List ℕ) → slot_waits choices.backed k d ≡ true →
      is_some (get same_pair choices.prepared k) ≡ true
  pub ordered : (s : ℕ) (d : List ℕ) → order_waits choices.committed s d ≡ true →
      is_some (get nat_eq choices.ordered s) ≡ true

-- the numbers from 1 to `reach`, and no further, are those that f gives something of without a gap
pub record ReachesLess (f : ℕ → Option (List ℕ)) (reach : ℕ) : Type 0 where
  pub limit : reach ≤ most_number
  pub without_gap : (s : ℕ) → 1 ≤ s → s ≤ reach → IsSome (f s)

pub record Reaches (f : ℕ → Option (List ℕ)) (reach : ℕ) : Type 0 where
  pub limit : reach ≤ most_number
  pub without_gap : (s : ℕ) → 1 ≤ s → s ≤ reach → IsSome (f s)
  pub stops : reach < most_number → f (suc reach) ≡ None

-- the greatest of the numbers that f gives something of, 0 where there is none
pub record HasHighest (f : ℕ → Option (List ℕ)) (highest : ℕ) : Type 0 where
  pub limit : highest ≤ most_number
  pub there : 1 ≤ highest → IsSome (f highest)
  pub above : (s : ℕ) → highest < s → s ≤ most_number → f s ≡ None

-- the greatest number ordered
abbrev pub HasHighestOrder : Choices → Type 0
HasHighestOrder choices = HasHighest (λ s. order_in (get nat_eq choices.ordered s)) choices.highest

-- the number rose to the greatest of those that pass, unless it was greater
pub record RisesTo (passes : ℕ → Bool) (old new : ℕ) : Type 0 where
  pub from : old ≤ new
  pub limit : old ≤ most_number → new ≤ most_number
  pub one_of : (new ≡ old) ⊎ (passes new ≡ true)
  pub covers : (s : ℕ) → passes s ≡ true → s ≤ most_number → s ≤ new

-- what is ordered stays ordered
abbrev pub OrdersGrow : Map ℕ (Option (List ℕ)) → Map ℕ (Option (List ℕ)) → Type 0
OrdersGrow old new = (s : ℕ) → IsSome (order_in (get nat_eq old s)) → IsSome (order_in (get nat_eq new s))

-- the choice where all these rows are known too
abbrev pub with_all : {K : Type 0} → (K → List ℕ → Bool) → (K → Option (List ℕ)) →
    List (List (List ℕ)) → K → Option (List ℕ)
with_all backs first rows k =
    or_else (first k) (option_map digest_of_rows (find (λ r. backs k (digest_of_rows r)) rows))
