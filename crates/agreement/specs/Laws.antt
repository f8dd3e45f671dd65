-- The laws of agreement, as statements over every setup and history. (What the correct masters of a group keep while at
-- most f of it are intruded: Prime's and PBFT's safety, here of whole legal histories.)
use Rattle.std.specs.Prelude.{◌≡◌, ℕ, ◌+◌, ◌<◌, ◌≤◌, ◌⊎◌, Bool, true, false, List, ◌++◌, ◌∷◌, Some, length, map}
use Rattle.std.specs.Prelude.{slice_get}
use Rattle.quorum_sets.specs.Quorum.{IsGroup, group_size, quorum_size}
use Rattle.quorum_sets.specs.Masters.{voters}
use Rattle.message_types.specs.declared.signed.Signed.{Signed}
use Rattle.message_types.specs.declared.updates.Update.{Update}
use Rattle.message_types.specs.declared.vouchers.Order.{Order}
use Rattle.message_types.specs.declared.body.Body.{Body}
use Rattle.message_types.specs.declared.body.Body.TheVariants as body
use Rattle.protocol_rules.specs.Group.{Group}
use Rattle.message_types.specs.declared.ordering.Certificate.{Certificate}
use Rattle.message_types.specs.declared.views.Report.{Report}
use Rattle.message_types.specs.Digests.{digest_of_rows}
use Rattle.protocol_rules.specs.Preorder.{certified}
use Rattle.protocol_rules.specs.Facts.{facts_of}
use Rattle.protocol_rules.specs.Plans.{certificates_of, planned, base_of}
use Rattle.protocol_rules.specs.Order.{ordered, is_voted, prepare_by, commit_by}
use Rattle.protocol_rules.specs.Master.{learned}
use Rattle.std.specs.List.{flat_map}
use Rattle.plain_lists.specs.Lists.{IsIn, Begins}
use Rattle.vouched_orders.specs.declared.vote.Vote.{Vote}
use Rattle.vouched_orders.specs.Vouching.{votes_in, orders_done}
use Rattle.history_rules.specs.Events.{Entry}
use Rattle.history_rules.specs.Setup.{Setup, is_correct_master, own}
use Rattle.history_rules.specs.Legal.{Stands, IsLegal, heard, known_of, executions}
use Rattle.history_rules.specs.Audit.{HasSaid, parts_taken, NothingForged, NoSharedDigest, FewIntruded}

-- the sizes are those of a group
pub record HasSizes (g : Group) : Type 0 where
  pub group : IsGroup g.f g.k
  pub all : g.n ≡ group_size g.f g.k
  pub quorum : g.q ≡ quorum_size g.f g.k

-- a legal history of a group of which at most f masters are intruded, with no word forged and no digest shared
pub record IsSound (w : Setup) (history : List Entry) : Type 0 where
  pub legal : IsLegal w history
  pub sizes : HasSizes w.group
  pub few : FewIntruded w
  pub unforged : NothingForged w history
  pub alike : NoSharedDigest w.group history

-- Two quorums share a master that isn't one of the at most f intruded ones.
abbrev pub QuorumsMeet : Type 0
QuorumsMeet =
    (g : Group) (first second intruded : ℕ → Bool) → HasSizes g
    → g.q ≤ length (voters first g.n) → g.q ≤ length (voters second g.n) → length (voters intruded g.n) ≤ g.f
    → (m : ℕ) × (m < g.n) × (first m ≡ true) × (second m ≡ true) × (intruded m ≡ false)

-- how a view above 0 began: by the reports of its new view
pub record Start : Type 0 where
  pub v : ℕ
  pub reports : List Report

-- The induction on views, over plain lists. Each start's certificates are of views below its own, and listed. The
-- listed certificates for number s of view v have one digest. Each one of a view above v is for the rows that some
-- start of its view plans for s. And each start of a view above v has a base of at least s, or a certificate for s of
-- view v or later.
-- Then all certificates for s of view v or later have that digest.
abbrev pub ViewInduction : Type 0
ViewInduction =
    (g : Group) (v s : ℕ) (digest : List ℕ) (certificates : List Certificate) (starts : List Start)
    → ((p : Start) (c : Certificate) → IsIn p starts → IsIn c (certificates_of p.reports) →
    (c.v < p.v) × IsIn c certificates)
    → ((c : Certificate) → IsIn c certificates → c.s ≡ s → c.v ≡ v → digest_of_rows c.rows ≡ digest)
    → ((c : Certificate) → IsIn c certificates → c.s ≡ s → v < c.v
    → (p : Start) × IsIn p starts × (p.v ≡ c.v) × (base_of p.reports < s)
    × (digest_of_rows c.rows ≡ digest_of_rows (planned g p.reports s)))
    → ((p : Start) → IsIn p starts → v < p.v → (s ≤ base_of p.reports)
    ⊎ ((c : Certificate) × IsIn c (certificates_of p.reports) × (c.s ≡ s) × (v ≤ c.v)))
    → (c : Certificate) → IsIn c certificates → c.s ≡ s → v ≤ c.v → digest_of_rows c.rows ≡ digest

-- all that a master knows at its last event of a history
abbrev pub known_by : Setup → List Entry → ℕ → List (Signed Body)
known_by w history i = known_of (heard w history i)

-- Of any two correct masters, at any two times, what both have certified as one request is one update.
abbrev pub CertifiedAgree : Type 0
CertifiedAgree =
    (w : Setup) (history first second : List Entry) (i j : ℕ) → IsSound w history → Begins first history →
    Begins second history
    → is_correct_master w i ≡ true → is_correct_master w j ≡ true
    → (master number : ℕ) (a b : Update) → certified w.group (known_by w first i) master number ≡ Some a →
    certified w.group (known_by w second j) master number ≡ Some b → a ≡ b

-- some correct master, at some time of the history, knows the body in the signer's name
pub record IsKnown (w : Setup) (history : List Entry) (signer : ℕ) (b : Body) : Type 0 where
  pub upto : List Entry
  pub begins : Begins upto history
  pub master : ℕ
  pub correct : is_correct_master w master ≡ true
  pub part : Signed Body
  pub among : IsIn part (known_by w upto master)
  pub by : part.signer ≡ signer
  pub word : part.body ≡ b

-- A quorum said the body, as far as correct masters know: each of the quorum's words is known to some correct master at
-- some time, and no one master need know them all.
pub record IsQuorumKnown (w : Setup) (history : List Entry) (b : Body) : Type 0 where
  pub masters : ℕ → Bool
  pub enough : w.group.q ≤ length (voters masters w.group.n)
  pub known : (m : ℕ) → m < w.group.n → masters m ≡ true → IsKnown w history m b

-- The votes of a quorum that one correct master knows are such.
abbrev pub VotesAreKnown : Type 0
VotesAreKnown =
    (w : Setup) (history upto : List Entry) (i : ℕ) → Begins upto history → is_correct_master w i ≡ true →
    (v s : ℕ) (digest : List ℕ)
    → (is_voted w.group (prepare_by v s digest) (facts_of w.group (known_by w upto i)) ≡ true
    → IsQuorumKnown w history (body.Prepare record { v = v; s = s; digest = digest }))
    × (is_voted w.group (commit_by v s digest) (facts_of w.group (known_by w upto i)) ≡ true
    → IsQuorumKnown w history (body.Commit record { v = v; s = s; digest = digest }))

-- Where a quorum committed a number in view v, each quorum that prepared it in view v or later prepared the same
-- digest.
abbrev pub CommittedStays : Type 0
CommittedStays =
    (w : Setup) (history : List Entry) → IsSound w history → (v u s : ℕ) (a b : List ℕ) → v ≤ u
    → IsQuorumKnown w history (body.Commit record { v = v; s = s; digest = a })
    → IsQuorumKnown w history (body.Prepare record { v = u; s = s; digest = b }) → a ≡ b

-- What any two correct masters, at any two times, have ordered as one number is the same.
abbrev pub OrderedAgree : Type 0
OrderedAgree =
    (w : Setup) (history first second : List Entry) (i j : ℕ) → IsSound w history → Begins first history →
    Begins second history
    → is_correct_master w i ≡ true → is_correct_master w j ≡ true
    → (s : ℕ) (a b : List (List ℕ)) → ordered w.group (facts_of w.group (known_by w first i)) s ≡ Some a →
    ordered w.group (facts_of w.group (known_by w second j)) s ≡ Some b → a ≡ b

-- Of what any two correct masters, at any two times, have executed one begins the other.
abbrev pub ExecutionsAgree : Type 0
ExecutionsAgree =
    (w : Setup) (history first second : List Entry) (i j : ℕ) → IsSound w history → Begins first history →
    Begins second history
    → is_correct_master w i ≡ true → is_correct_master w j ≡ true
    → Begins (executions w first i) (executions w second j) ⊎ Begins (executions w second j) (executions w first i)

-- What a master has executed only grows.
abbrev pub ExecutionsGrow : Type 0
ExecutionsGrow = (w : Setup) (history first : List Entry) (i : ℕ) → Begins first history →
    Begins (executions w first i) (executions w history i)

-- the update is among the parts of the frame that the entry took
abbrev pub TakesUpdate : Entry → Update → Type 0
TakesUpdate e u = IsIn (body.Update u) (map (λ p. p.body) (parts_taken e))

-- The entry at which a master came to know an update: it took a frame with the update among its parts, took none
-- before, and had learned no such word before, its own words included.
pub record FirstTaking (w : Setup) (history : List Entry) (master : ℕ) (u : Update) : Type 0 where
  pub before : List Entry
  pub entry : Entry
  pub place : Stands history before entry
  pub by : entry.actor ≡ master
  pub taken : TakesUpdate entry u
  pub first : (earlier : List Entry) (d : Entry) → Stands before earlier d → d.actor ≡ master → TakesUpdate d u → ⊥
  pub unknown : IsIn (body.Update u) (map (λ p. p.body) (flat_map learned (heard w before master))) → ⊥

-- Each update that a correct master has executed came to it in a frame taken, and its client said it at an entry before
-- the first such.
abbrev pub ExecutedWereSaid : Type 0
ExecutedWereSaid =
    (w : Setup) (history : List Entry) (i : ℕ) → IsLegal w history → HasSizes w.group → NothingForged w history
    → is_correct_master w i ≡ true → (u : Update) → IsIn u (executions w history i)
    → (came : FirstTaking w history i u) × HasSaid came.before (w.group.n + u.client) (body.Update u)

-- No client and number stand twice in what a master has executed.
abbrev pub NoneExecutedTwice : Type 0
NoneExecutedTwice =
    (w : Setup) (history : List Entry) (i : ℕ) (first between last : List Update) (u v : Update)
    → executions w history i ≡ (first ++ u ∷ between) ++ v ∷ last → u.client ≡ v.client → u.t ≡ v.t → ⊥

-- the body was in a frame taken, in the signer's name
pub record IsTaken (history : List Entry) (signer : ℕ) (b : Body) : Type 0 where
  pub before : List Entry
  pub entry : Entry
  pub place : Stands history before entry
  pub part : Signed Body
  pub among : IsIn part (parts_taken entry)
  pub by : part.signer ≡ signer
  pub word : part.body ≡ b

-- more than f masters' vouchers for this order of the client under this number were in frames taken
pub record IsVouched (w : Setup) (history : List Entry) (client number : ℕ) (order : Order) : Type 0 where
  pub masters : ℕ → Bool
  pub enough : w.group.f < length (voters masters w.group.n)
  pub taken : (m : ℕ) → m < w.group.n → masters m ≡ true →
      IsTaken history m (body.Voucher record { client = client; number = number; order = order })

-- Orders of a client that are vouched for one by one, from number 1 on, begin the orders of some correct master at the
-- end of the history, where longer lists of updates only append orders. So do a proxy's writes and a screen's notices.
abbrev pub VouchedBegin : Type 0
VouchedBegin =
    (w : Setup) (history : List Entry) (client : ℕ) → IsSound w history →
    ((xs ys : List Update) → Begins xs ys → Begins (w.orders xs client) (w.orders ys client))
    → (orders : List Order) →
    ((x : ℕ) (order : Order) → slice_get orders x ≡ Some order → IsVouched w history client (x + 1) order)
    → (i : ℕ) × (is_correct_master w i ≡ true) × Begins orders (w.orders (executions w history i) client)

-- the votes that a client took, whoever they are for
abbrev pub votes_taken : List Entry → ℕ → List Vote
votes_taken history actor = votes_in (flat_map parts_taken (own history actor))

-- What a client has done, of orders that it can act on, begins the orders of some correct master at the end of the
-- history, where longer lists of updates only append orders.
abbrev pub DoneBegins : Type 0
DoneBegins =
    (w : Setup) (history : List Entry) (client : ℕ) (can_act : Order → Bool) → IsSound w history
    → ((xs ys : List Update) → Begins xs ys → Begins (w.orders xs client) (w.orders ys client))
    → (i : ℕ) × (is_correct_master w i ≡ true)
    × Begins (orders_done can_act client w.group.n w.group.f (votes_taken history (w.group.n + client)))
    (w.orders (executions w history i) client)
