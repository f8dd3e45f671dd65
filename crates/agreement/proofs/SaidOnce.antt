-- Quorums that are known are backed by what correct masters said, and what these say once they never say otherwise.
use Rattle.std.proofs.Common.{◌≡◌, ℕ, ◌<◌, ◌≤◌, suc, Bool, true, false, cond, ◌&&◌, not, List, [], ◌∷◌, Option, Some}
use Rattle.std.proofs.Common.{None, filter, nat_eq, nat_lt, length, refl, sym, ◌∙◌, ap, subst, inl, inr, arith}
use Rattle.std.proofs.Common.{eqb-true}
use Rattle.std.proofs.lemmas.Bool.{false≢true, true≢false, and_parts, and_from, leb-true, lt-ltb, eq-eqb}
use Rattle.std.proofs.lemmas.Bool.{not_from_false, and_right}
use Rattle.std.specs.List.{filter_map, list_any, cons_option}
use Rattle.std.specs.Option.{is_some}
use Rattle.std.specs.Str.{bytes_eq}
use Rattle.plain_lists.specs.Lists.{IsIn, Within}
use Rattle.plain_lists.proofs.Members.{any_from, any_in, in_filter_map_from, some_same}
use Rattle.protocol_rules.proofs.FirstMet.{first_in}
use Rattle.quorum_sets.specs.Masters.{numbers_below, voters}
use Rattle.quorum_sets.specs.Quorum.{has_quorum}
use Rattle.message_types.specs.declared.signed.Signed.{Signed}
use Rattle.message_types.specs.declared.preordering.PoAck.{PoAck}
use Rattle.message_types.specs.declared.ordering.Prepare.{Prepare}
use Rattle.message_types.specs.declared.ordering.Commit.{Commit}
use Rattle.message_types.specs.declared.body.Body.{Body}
use Rattle.message_types.specs.declared.body.Body.TheVariants as body
use Rattle.message_types.specs.Digests.{digest_of_update, digest_of_rows}
use Rattle.protocol_rules.specs.declared.facts.OrderFact.{OrderFact}
use Rattle.protocol_rules.specs.declared.facts.OrderFact.TheVariants as fact
use Rattle.protocol_rules.specs.Words.{first_of_list}
use Rattle.protocol_rules.specs.Facts.{facts_of}
use Rattle.protocol_rules.specs.Preorder.{is_ack, is_acked, acks}
use Rattle.protocol_rules.specs.Order.{first_votes, is_voted, prepare_by, commit_by, prepares_said}
use Rattle.protocol_rules.specs.Master.{said_before, taken_at}
use Rattle.history_rules.specs.Events.{Entry, frame_taken}
use Rattle.history_rules.specs.Setup.{Setup, is_correct, is_correct_master}
use Rattle.history_rules.specs.Legal.{IsLegal, heard}
use Rattle.history_rules.specs.Audit.{HasSaid}
use Rattle.agreement.specs.Laws.{IsSound}
use Rattle.agreement.proofs.QuorumsMeet.{meet_at}
use Rattle.agreement.proofs.Places.{stands_cases}
use Rattle.agreement.proofs.KnownAsItGrows.{learned_by, known_then, said_earlier}
use Rattle.agreement.proofs.SpokenByKind.{Due}
use Rattle.agreement.proofs.FramesInside.{bytes_same, prepare_by_from, commit_by_from, fact_from}
use Rattle.agreement.proofs.LearnedWasSaid.{FirstSaid, first_said, due_first, learned_said}

-- at least q masters are intruded or said a body of which T holds
pub record IsBacked (w : Setup) (history : List Entry) (T : Body → Type 0) : Type 0 where
  pub test : ℕ → Bool
  pub enough : w.group.q ≤ length (voters test w.group.n)
  pub said : (m : ℕ) → m < w.group.n → test m ≡ true → w.intruded m ≡ false → (b : Body) × HasSaid history m b × T b

pub correct_master : (w : Setup) (m : ℕ) → m < w.group.n → w.intruded m ≡ false → is_correct_master w m ≡ true
correct_master w m lt right = and_from (nat_lt m w.group.n) (not (w.intruded m)) (lt-ltb m w.group.n lt)
    (not_from_false (w.intruded m) right)

pub correct_actor : (w : Setup) (m : ℕ) → w.intruded m ≡ false → is_correct w m ≡ true
correct_actor w m right = not_from_false (nat_lt m w.group.n && w.intruded m)
    (and_right (nat_lt m w.group.n) (w.intruded m) right)

-- a correct master that said a body of each kind
pub meet : (w : Setup) (history : List Entry) (T U : Body → Type 0) → IsSound w history →
    IsBacked w history T → IsBacked w history U
    → (m : ℕ) × (is_correct_master w m ≡ true) × (w.intruded m ≡ false) × ((b : Body) × HasSaid history m b × T b)
    × ((c : Body) × HasSaid history m c × U c)
meet w history T U world one other =
    let found = meet_at w.group one.test other.test w.intruded world.sizes one.enough other.enough world.few.few in (
      found.0,
      correct_master w found.0 found.1 found.4,
      found.4,
      one.said found.0 found.1 found.2 found.4,
      other.said found.0 found.1 found.3 found.4,
    )

pub length-filter_map : {X Y : Type 0} (f : X → Option Y) (xs : List X) →
    length (filter_map f xs) ≡ length (filter (λ x. is_some (f x)) xs)
length-filter_map f [] = refl
length-filter_map {X} {Y} f (x ∷ xs) = by_first (f x) (length-filter_map f xs)
  where
    by_first : (o : Option Y) → length (filter_map f xs) ≡ length (filter (λ x. is_some (f x)) xs)
        → length (cons_option o (filter_map f xs)) ≡ length
        (cond (is_some o) (x ∷ filter (λ x. is_some (f x)) xs) (filter (λ x. is_some (f x)) xs))
    by_first None e = e
    by_first (Some y) e = ap suc e

pub some_from : {X : Type 0} (o : Option X) → is_some o ≡ true → (x : X) × (o ≡ Some x)
some_from None e = absurd (false≢true e)
some_from (Some x) e = (x, refl)

-- a quorum of votes that are known
pub votes_backed : {X : Type 0} (w : Setup) (history : List Entry) (T : Body → Type 0) (vote : ℕ → OrderFact →
    Option X) (facts : List OrderFact)
    → ((m : ℕ) (x : X) (f : OrderFact) → IsIn f facts → vote m f ≡ Some x → w.intruded m ≡ false →
    (b : Body) × HasSaid history m b × T b)
    → is_voted w.group vote facts ≡ true → IsBacked w history T
unfolding is_voted
votes_backed w history T vote facts each voted =
    let enough : w.group.q ≤ length (first_votes w.group vote facts) =
    leb-true w.group.q (length (first_votes w.group vote facts)) voted in
    let same : length (first_votes w.group vote facts) ≡ length
    (voters (λ m. is_some (first_of_list (filter_map (vote m) facts))) w.group.n) =
    length-filter_map (λ m. first_of_list (filter_map (vote m) facts)) (numbers_below w.group.n) in
    record {
      test = λ m. is_some (first_of_list (filter_map (vote m) facts));
      enough = omega arith;
      said = λ m lt some right.
          let first = some_from (first_of_list (filter_map (vote m) facts)) some in
          let found = in_filter_map_from (vote m) facts (first_in (filter_map (vote m) facts) first.1) in
          each m first.0 found.0 found.1 found.2 right;
    }

abbrev pub IsPrepare : ℕ → ℕ → List ℕ → Body → Type 0
IsPrepare v s digest b = b ≡ body.Prepare record { v = v; s = s; digest = digest }

abbrev pub IsCommit : ℕ → ℕ → List ℕ → Body → Type 0
IsCommit v s digest b = b ≡ body.Commit record { v = v; s = s; digest = digest }

abbrev pub IsAck : ℕ → ℕ → List ℕ → Body → Type 0
IsAck j k digest b = b ≡ body.PoAck record { j = j; k = k; digest = digest }

pub prepare_same : (p : Prepare) (v s : ℕ) (digest : List ℕ) → p.v ≡ v → p.s ≡ s → p.digest ≡ digest →
    IsPrepare v s digest (body.Prepare p)
prepare_same p v s digest a b c = λ x. body.Prepare record { v = a x; s = b x; digest = c x }

pub commit_same : (p : Commit) (v s : ℕ) (digest : List ℕ) → p.v ≡ v → p.s ≡ s → p.digest ≡ digest →
    IsCommit v s digest (body.Commit p)
commit_same p v s digest a b c = λ x. body.Commit record { v = a x; s = b x; digest = c x }

pub ack_same : (p : PoAck) (j k : ℕ) (digest : List ℕ) → p.j ≡ j → p.k ≡ k → p.digest ≡ digest →
    IsAck j k digest (body.PoAck p)
ack_same p j k digest a b c = λ x. body.PoAck record { j = a x; k = b x; digest = c x }

ack_from_body : (j k : ℕ) (digest : List ℕ) (m signer : ℕ) (word : Body) (sig : List ℕ) →
    is_ack j k digest m record { signer = signer; body = word; sig = sig } ≡ true
    → (signer ≡ m) × IsAck j k digest word
ack_from_body j k digest m signer (body.PoAck b) sig e =
    let digests = and_parts (nat_eq signer m && nat_eq b.j j && nat_eq b.k k) (bytes_eq b.digest digest) e in
    let numbers = and_parts (nat_eq signer m && nat_eq b.j j) (nat_eq b.k k) digests.0 in
    let masters = and_parts (nat_eq signer m) (nat_eq b.j j) numbers.0 in (
      eqb-true signer m masters.0,
      ack_same b j k digest (eqb-true b.j j masters.1) (eqb-true b.k k numbers.1)
          (bytes_same b.digest digest digests.1),
    )
ack_from_body j k digest m signer _ sig e = absurd (false≢true e)

module _ (w : Setup) (history : List Entry) (i : ℕ) (world : IsSound w history)
    (correct : is_correct_master w i ≡ true) (known : List (Signed Body))
    (learned : Within known (learned_by w history i)) where
  pub said_of : (p : Signed Body) (m : ℕ) → IsIn p known → p.signer ≡ m → w.intruded m ≡ false →
      HasSaid history m p.body
  said_of p m h at right = subst (λ (x : ℕ). HasSaid history x p.body) at
      (learned_said w i history world.legal world.unforged correct p (learned p h)
      (subst (λ (x : ℕ). is_correct w x ≡ true) (sym at) (correct_actor w m right)))

  pub prepares_backed : (facts : List OrderFact) → Within facts (facts_of w.group known) →
      (v s : ℕ) (digest : List ℕ) → is_voted w.group (prepare_by v s digest) facts ≡ true →
      IsBacked w history (IsPrepare v s digest)
  prepares_backed facts within v s digest = votes_backed w history (IsPrepare v s digest) (prepare_by v s digest)
      facts (λ m x f h e right.
      let is = prepare_by_from v s digest m f x e in
      let word = fact_from w.group known (fact.Prepare x)
      (subst (λ (z : OrderFact). IsIn z (facts_of w.group known)) is.0 (within f h)) in (
        body.Prepare x.body,
        subst (λ (p : Signed Body). HasSaid history m p.body) word.2
            (said_of word.0 m word.1 (ap (λ (p : Signed Body). p.signer) word.2 ∙ is.1) right),
        prepare_same x.body v s digest is.2 is.3 is.4,
      ))

  pub commits_backed : (facts : List OrderFact) → Within facts (facts_of w.group known) →
      (v s : ℕ) (digest : List ℕ) → is_voted w.group (commit_by v s digest) facts ≡ true →
      IsBacked w history (IsCommit v s digest)
  commits_backed facts within v s digest = votes_backed w history (IsCommit v s digest) (commit_by v s digest)
      facts (λ m x f h e right.
      let is = commit_by_from v s digest m f x e in
      let word = fact_from w.group known (fact.Commit x)
      (subst (λ (z : OrderFact). IsIn z (facts_of w.group known)) is.0 (within f h)) in (
        body.Commit x.body,
        subst (λ (p : Signed Body). HasSaid history m p.body) word.2
            (said_of word.0 m word.1 (ap (λ (p : Signed Body). p.signer) word.2 ∙ is.1) right),
        commit_same x.body v s digest is.2 is.3 is.4,
      ))

  pub acks_backed : (words : List (Signed Body)) → Within words known → (j k : ℕ) (digest : List ℕ) →
      is_acked w.group words j k digest ≡ true → IsBacked w history (IsAck j k digest)
  unfolding has_quorum
  acks_backed words within j k digest acked = record {
    test = λ m. list_any (is_ack j k digest m) words;
    enough = leb-true w.group.q (length (voters (λ m. list_any (is_ack j k digest m) words) w.group.n)) acked;
    said = λ m lt some right.
        let found = any_from (is_ack j k digest m) words some in
        let is = ack_from_body j k digest m found.0.signer found.0.body found.0.sig found.2 in
        (found.0.body, said_of found.0 m (within found.0 found.1) is.0 right, is.1);
  }

-- what is due at an entry
abbrev pub DueAt : Setup → ℕ → List Entry → Entry → Body → Type 0
DueAt w m before e b = Due w.group w.orders (known_then w before m e)
    (taken_at (heard w before m) (frame_taken e.event)) (said_before (heard w before m)) b

-- what is said only where no such was said before, and one way at one entry, is said one way
pub said_once : (w : Setup) (history : List Entry) (m : ℕ) (t : Body → Bool) (b c : Body) → IsLegal w history →
    is_correct_master w m ≡ true → t b ≡ true → t c ≡ true
    → ((known taken : List (Signed Body)) (said : List Body) → Due w.group w.orders known taken said b →
    list_any t said ≡ false)
    → ((known taken : List (Signed Body)) (said : List Body) → Due w.group w.orders known taken said c →
    list_any t said ≡ false)
    → ((known taken : List (Signed Body)) (said : List Body) → Due w.group w.orders known taken said b →
    Due w.group w.orders known taken said c → b ≡ c)
    → HasSaid history m b → HasSaid history m c → b ≡ c
said_once w history m t b c legal correct is_b is_c fresh_b fresh_c alike one_said other_said =
    let first_b : FirstSaid w history m b = first_said w m b correct history legal one_said in
    let first_c : FirstSaid w history m c = first_said w m c correct history legal other_said in
    let one : HasSaid history m b = first_b.said in
    let other : HasSaid history m c = first_c.said in
    let due_b = due_first w history m b first_b in
    let due_c = due_first w history m c first_c in
    elim (stands_cases one.place other.place) [
      | inl same ↦ alike (known_then w other.before m other.entry)
          (taken_at (heard w other.before m) (frame_taken other.entry.event)) (said_before (heard w other.before m))
          (subst (λ (e : Entry). DueAt w m other.before e b) same.1
          (subst (λ (before : List Entry). DueAt w m before one.entry b) same.0 due_b.1)) due_c.1
      | inr apart ↦ elim apart [
        | inl earlier ↦ absurd (true≢false (sym (any_in t (said_earlier w m b earlier one.by due_b.0 one.among) is_b)
            ∙ fresh_c (known_then w other.before m other.entry)
            (taken_at (heard w other.before m) (frame_taken other.entry.event))
            (said_before (heard w other.before m)) due_c.1))
        | inr later ↦ absurd (true≢false (sym (any_in t (said_earlier w m c later other.by due_c.0 other.among) is_c)
            ∙ fresh_b (known_then w one.before m one.entry)
            (taken_at (heard w one.before m) (frame_taken one.entry.event))
            (said_before (heard w one.before m)) due_b.1))
      ]
    ]

pub self_eq : (x y : ℕ) → (nat_eq x x && nat_eq y y) ≡ true
self_eq x y = and_from (nat_eq x x) (nat_eq y y) (eq-eqb x x refl) (eq-eqb y y refl)

digest_of_ack : {a b : PoAck} → body.PoAck a ≡ body.PoAck b → a.digest ≡ b.digest
digest_of_ack {a} {b} e = let same : a ≡ b = cc in ap (λ (x : PoAck). x.digest) same

digest_of_prepare : {a b : Prepare} → body.Prepare a ≡ body.Prepare b → a.digest ≡ b.digest
digest_of_prepare {a} {b} e = let same : a ≡ b = cc in ap (λ (x : Prepare). x.digest) same

pub ack_once : (w : Setup) (history : List Entry) (m : ℕ) → IsLegal w history → is_correct_master w m ≡ true →
    (j k : ℕ) (d e : List ℕ) (b c : Body)
    → IsAck j k d b → IsAck j k e c → HasSaid history m b → HasSaid history m c → d ≡ e
ack_once w history m legal correct j k d e b c is_b is_c one other =
    let ack = λ (digest : List ℕ). let r : PoAck = record { j = j; k = k; digest = digest } in r in
    digest_of_ack (said_once w history m (acks j k) (body.PoAck (ack d)) (body.PoAck (ack e)) legal correct
    (self_eq j k) (self_eq j k)
    (λ known taken said due. due.3) (λ known taken said due. due.3)
    (λ known taken said due_b due_c. ap (λ (digest : List ℕ). body.PoAck (ack digest))
    (due_b.2 ∙ ap digest_of_update (some_same (sym due_b.1 ∙ due_c.1)) ∙ sym due_c.2))
    (subst (λ (x : Body). HasSaid history m x) is_b one) (subst (λ (x : Body). HasSaid history m x) is_c other))

pub prepare_once : (w : Setup) (history : List Entry) (m : ℕ) → IsLegal w history → is_correct_master w m ≡ true →
    (v s : ℕ) (d e : List ℕ) (b c : Body)
    → IsPrepare v s d b → IsPrepare v s e c → HasSaid history m b → HasSaid history m c → d ≡ e
prepare_once w history m legal correct v s d e b c is_b is_c one other =
    let word = λ (digest : List ℕ). let r : Prepare = record { v = v; s = s; digest = digest } in r in
    digest_of_prepare (said_once w history m (prepares_said v s) (body.Prepare (word d)) (body.Prepare (word e))
    legal correct (self_eq v s) (self_eq v s)
    (λ known taken said due. due.5) (λ known taken said due. due.5)
    (λ known taken said due_b due_c. ap (λ (digest : List ℕ). body.Prepare (word digest))
    (due_b.2 ∙ ap digest_of_rows (some_same (sym due_b.1 ∙ due_c.1)) ∙ sym due_c.2))
    (subst (λ (x : Body). HasSaid history m x) is_b one) (subst (λ (x : Body). HasSaid history m x) is_c other))
