-- What one word more changes in what is kept.
use Rattle.std.proofs.Common.{◌≡◌, ℕ, Bool, true, false, cond, ◌&&◌, not, List, [], ◌∷◌, ◌++◌, Option, Some, None}
use Rattle.std.proofs.Common.{nat_eq, take, IsTrue, Result, Ok, Err, refl, sym, ◌∙◌, ap, eqb-true, eq-eqb}
use Rattle.std.specs.Result.{OnOk, OnErr}
use Rattle.std.proofs.lemmas.Bool.{true≢false, and_parts, and_from}
use Rattle.std.proofs.lemmas.List.Folds.{find-append}
use Rattle.std.specs.List.{find, filter_map}
use Rattle.std.specs.Map.{lookup}
use Rattle.quorum_sets.specs.Masters.{numbers_below}
use Rattle.std.specs.Option.{option_map, option_or}
use Rattle.std.specs.HashMap.{HashMap}
use Rattle.std.specs.declared.hash.FoldHasher.{FoldHasher}
use Rattle.std.specs.declared.hash.BuildHasherDefault.{BuildHasherDefault}
use Rattle.std.specs.declared.alloc.Global.{Global}
use Rattle.std.specs.declared.vec.Vec.{Vec}
use Rattle.plain_lists.specs.Lists.{IsIn}
use Rattle.plain_lists.proofs.Members.{find_some, none_some, each_append, in_take}
use Rattle.plain_lists.specs.declared.want.Want.{Want}
use Rattle.indexmap.specs.IndexMap.{get}
use Rattle.message_types.specs.declared.signed.Signed.{Signed}
use Rattle.message_types.specs.declared.body.Body.{Body}
use Rattle.history_rules.specs.Sameness.{is_same_body}
use Rattle.history_laws.proofs.Same.{body_test}
use Rattle.blame_check.specs.declared.pairs.Named.{Named}
use Rattle.blame_check.specs.declared.blame.Blame.{Blame}
use Rattle.blame_check.specs.Contradictions.{are_rivals, contradict, pair_of, pair_with, first_pair, rising, named}
use Rattle.blame_check.specs.Contradictions.{IsOwnPair}
use Rattle.protocol_rules.specs.Keys.{Key, same_key}
use Rattle.checked_frames.specs.Standing.{Ring, part_stands, AllStand}
use Rattle.blame_check.specs.Slots.{Slot, key_for, slot_of, fills, HasTaken, HasBegun, IsOfRing}
use Rattle.protocol_rules.proofs.Keys.{same_key-same}
use Rattle.blame_check.proofs.Rivals.{fills_rivals, fills_its, fills_none, no_rivals, contrary_parts}
use Rattle.blame_check.proofs.FirstPairs.{or_none, first_pair-more, find_nothing, finds_nothing, finds_first}
use Rattle.blame_check.proofs.FirstPairs.{one_word, pair_is}

pub own_pairs : (words : List (Signed Body)) (m : ℕ) → IsOwnPair m (first_pair m [] words)
own_pairs words m x is = (pair_is m words x is).master

-- before any word
nobody : (xs : List ℕ) → filter_map (λ (m : ℕ). first_pair m [] []) xs ≡ []
nobody [] = refl
nobody (x ∷ xs) = nobody xs

pub none_taken : (n : ℕ) (blame : Blame) → blame.masters ≡ n → blame.firsts.entries ≡ [] →
    blame.pairs.items ≡ [] → HasTaken n [] blame
none_taken n blame masters firsts pairs = record {
  masters = masters;
  firsts = λ key. ap (lookup (same_key key)) firsts;
  pairs = pairs ∙ sym (nobody (numbers_below n));
}

-- what stands in a ring stays so with parts that do, or a beginning of them
pub stays_of_ring : (ring : Ring) (n : ℕ) (old new : Blame) (parts : List (Signed Body)) (r : Result (Unit {0}) Want)
    → AllStand ring parts
    → OnOk r ((m : ℕ) (words : List (Signed Body)) → HasTaken m words old → HasTaken m (words ++ parts) new)
    → OnErr r ((m : ℕ) (words : List (Signed Body)) → HasTaken m words old → HasBegun m words parts new)
    → IsOfRing ring n old → IsOfRing ring n new
stays_of_ring ring n old new parts (Ok done) stand taken begun was = record {
  words = was.words ++ parts;
  taken = taken n was.words was.taken;
  stand = each_append (λ p. IsTrue (part_stands ring p)) was.words parts was.stand stand;
}
stays_of_ring ring n old new parts (Err want) stand taken begun was =
    let some = begun n was.words was.taken in
    record {
      words = was.words ++ take some.count parts;
      taken = some.taken;
      stand = each_append (λ p. IsTrue (part_stands ring p)) was.words (take some.count parts) was.stand
          (λ p among. stand p (in_take some.count parts among));
    }

-- who is named, with one word more
named-more : (n : ℕ) (words : List (Signed Body)) (q : Signed Body) (late : ℕ → Option Named) →
    ((m : ℕ) → option_or (first_pair m [] words) (pair_with m words q) ≡ option_or (first_pair m [] words) (late m))
    → rising (λ m. option_or (first_pair m [] words) (late m)) n ≡ named n (words ++ q ∷ [])
named-more n words q late same =
    ap (λ (f : ℕ → Option Named). rising f n) (λ i m. (sym (same m) ∙ sym (first_pair-more m [] words q)) i)

nobody_new : (n : ℕ) (words : List (Signed Body)) (q : Signed Body) →
    ((m : ℕ) → option_or (first_pair m [] words) (pair_with m words q) ≡ first_pair m [] words)
    → named n words ≡ named n (words ++ q ∷ [])
nobody_new n words q same =
    ap (λ (f : ℕ → Option Named). rising f n) (λ i m. (sym (same m) ∙ sym (first_pair-more m [] words q)) i)

no_pair_with : (m : ℕ) (words : List (Signed Body)) (q : Signed Body) →
    (q.signer ≡ m → (p : Signed Body) → IsIn p words → contradict p q ≡ false) → pair_with m words q ≡ None
no_pair_with m words q none = by (nat_eq q.signer m) refl
  where
    by : (b : Bool) → nat_eq q.signer m ≡ b →
        cond b (option_map (λ p. pair_of p q) (find (λ p. contradict p q) words)) None ≡ None
    by true e = ap (option_map (λ p. pair_of p q))
        (finds_nothing (λ p. contradict p q) words (none (eqb-true q.signer m e)))
    by false e = refl

-- what is kept under a key, with one word more
firsts_more : (key : Key) (words : List (Signed Body)) (q : Signed Body) (kept : Option (Signed Body)) →
    kept ≡ find (fills key) words
    → (fills key q ≡ true → find (fills key) words ≡ None → ⊥) → kept ≡ find (fills key) (words ++ q ∷ [])
firsts_more key words q kept is known = is ∙ by (find (fills key) words) (fills key q) refl refl
    ∙ sym (find-append (fills key) words (q ∷ []))
  where
    by : (o : Option (Signed Body)) (b : Bool) → find (fills key) words ≡ o → fills key q ≡ b →
        o ≡ option_or o (cond b (Some q) None)
    by None true e t = absurd (known t e)
    by None false e t = refl
    by (Some p) b e t = refl

-- a word of another kind
pub other_taken : (n : ℕ) (words : List (Signed Body)) (q : Signed Body) (old : Blame) → slot_of q.body ≡ None →
    HasTaken n words old → HasTaken n (words ++ q ∷ []) old
other_taken n words q old is has = record {
  masters = has.masters;
  firsts = λ key. firsts_more key words q (get same_key old.firsts key) (has.firsts key)
      (λ t e. true≢false (sym t ∙ fills_none key q is));
  pairs = has.pairs
      ∙ nobody_new n words q (λ m. ap (option_or (first_pair m [] words))
      (no_pair_with m words q (λ by p among. no_rivals p q is)) ∙ or_none (first_pair m [] words));
}

-- a word that fills the key of none before contradicts none
narrow : (p q : Signed Body) (s : Slot) → slot_of q.body ≡ Some s → fills (key_for q.signer s) p ≡ false →
    contradict p q ≡ false
narrow p q s is e = by (nat_eq p.signer q.signer) (are_rivals p.body q.body) (not (is_same_body p.body q.body))
    (sym (fills_rivals p q s is) ∙ e)
  where
    by : (x y z : Bool) → (x && y) ≡ false → (x && (y && z)) ≡ false
    by true true z h = absurd (true≢false h)
    by true false z h = refl
    by false y z h = refl

-- the first word for its numbers
pub first_taken : (n : ℕ) (words : List (Signed Body)) (q : Signed Body) (s : Slot) (old after : Blame) →
    slot_of q.body ≡ Some s
    → None ≡ get same_key old.firsts (key_for q.signer s)
    → after.masters ≡ old.masters → after.pairs ≡ old.pairs
    → ((key : Key) → get same_key after.firsts key ≡ cond (same_key (key_for q.signer s) key) (Some q)
    (get same_key old.firsts key))
    → HasTaken n words old → HasTaken n (words ++ q ∷ []) after
first_taken n words q s old after is new same_masters same_pairs put has = record {
  masters = same_masters ∙ has.masters;
  firsts = λ key. put key ∙ by key (same_key (key_for q.signer s) key) refl
      ∙ sym (find-append (fills key) words (q ∷ []));
  pairs = ap (λ (v : Vec Named Global). v.items) same_pairs ∙ has.pairs
      ∙ nobody_new n words q (λ m. ap (option_or (first_pair m [] words))
      (no_pair_with m words q (λ by p among. narrow p q s is
      (find_nothing (fills (key_for q.signer s)) words (sym (new ∙ has.firsts (key_for q.signer s))) among)))
      ∙ or_none (first_pair m [] words));
}
  where
    by : (key : Key) (b : Bool) → same_key (key_for q.signer s) key ≡ b
        → cond b (Some q) (get same_key old.firsts key) ≡ option_or (find (fills key) words)
        (cond (fills key q) (Some q) None)
    by key true e =
        sym (ap (λ (o : Option (Signed Body)). option_or o (cond (fills key q) (Some q) None))
        (sym (has.firsts key) ∙ ap (get same_key old.firsts) (sym (same_key-same (key_for q.signer s) key e)) ∙ sym new)
        ∙ ap (λ (b : Bool). cond b (Some q) None) (fills_its key q s is ∙ e))
    by key false e =
        has.firsts key
        ∙ sym (ap (λ (b : Bool). option_or (find (fills key) words) (cond b (Some q) None)) (fills_its key q s is ∙ e)
        ∙ or_none (find (fills key) words))

-- what is known where a first word for the same numbers is kept
firsts_same : (n : ℕ) (words : List (Signed Body)) (q first : Signed Body) (s : Slot) (old : Blame) →
    slot_of q.body ≡ Some s
    → Some first ≡ get same_key old.firsts (key_for q.signer s) → HasTaken n words old
    → (key : Key) → get same_key old.firsts key ≡ find (fills key) (words ++ q ∷ [])
firsts_same n words q first s old is found has key =
    firsts_more key words q (get same_key old.firsts key) (has.firsts key) (λ t none.
    none_some (sym none ∙ sym (has.firsts key) ∙ ap (get same_key old.firsts)
    (sym (same_key-same (key_for q.signer s) key (sym (fills_its key q s is) ∙ t))) ∙ sym found))

first_found : (n : ℕ) (words : List (Signed Body)) (q first : Signed Body) (s : Slot) (old : Blame)
    → Some first ≡ get same_key old.firsts (key_for q.signer s) → HasTaken n words old →
    find (fills (key_for q.signer s)) words ≡ Some first
first_found n words q first s old found has = sym (found ∙ has.firsts (key_for q.signer s))

first_is : (words : List (Signed Body)) (q first : Signed Body) (s : Slot) → slot_of q.body ≡ Some s →
    find (fills (key_for q.signer s)) words ≡ Some first
    → IsIn first words × (first.signer ≡ q.signer) × (are_rivals first.body q.body ≡ true)
first_is words q first s is e =
    let found = find_some (fills (key_for q.signer s)) words e in
    let both = and_parts (nat_eq first.signer q.signer) (are_rivals first.body q.body)
    (sym (fills_rivals first q s is) ∙ found.1) in
    (found.0, eqb-true first.signer q.signer both.0, both.1)

-- a word that says the same again
said_again : (words : List (Signed Body)) (q first : Signed Body) (s : Slot) → slot_of q.body ≡ Some s →
    find (fills (key_for q.signer s)) words ≡ Some first
    → first.body ≡ q.body → (m : ℕ) → option_or (first_pair m [] words) (pair_with m words q) ≡ first_pair m [] words
said_again words q first s is e same m = by (first_pair m [] words) refl
  where
    its : IsIn first words × (first.signer ≡ q.signer) × (are_rivals first.body q.body ≡ true)
    its = first_is words q first s is e

    never : first_pair m [] words ≡ None → q.signer ≡ m → (p : Signed Body) → IsIn p words → (b : Bool) →
        contradict p q ≡ b → b ≡ false
    never none q_by p among false t = refl
    never none q_by p among true t =
        let facts = contrary_parts p q t in
        absurd (facts.2 (one_word m words none p first among its.0 (facts.0 ∙ q_by) (its.1 ∙ q_by)
        (ap (are_rivals p.body) same ∙ facts.1) ∙ same))

    by : (o : Option Named) → first_pair m [] words ≡ o → option_or o (pair_with m words q) ≡ o
    by None none = no_pair_with m words q (λ q_by p among. never none q_by p among (contradict p q) refl)
    by (Some x) is_some = refl

pub again_taken : (n : ℕ) (words : List (Signed Body)) (q first : Signed Body) (s : Slot) (old : Blame) →
    slot_of q.body ≡ Some s
    → Some first ≡ get same_key old.firsts (key_for q.signer s) → true ≡ is_same_body first.body q.body →
    HasTaken n words old → HasTaken n (words ++ q ∷ []) old
again_taken n words q first s old is found same has = record {
  masters = has.masters;
  firsts = firsts_same n words q first s old is found has;
  pairs = has.pairs
      ∙ nobody_new n words q (said_again words q first s is (first_found n words q first s old found has)
      ((body_test first.body q.body).0 (sym same)));
}

-- a word that contradicts the first
abbrev pub late_pair : Signed Body → Signed Body → ℕ → Option Named
late_pair first q m = cond (nat_eq q.signer m) (Some (pair_of first q)) None

contradicted : (words : List (Signed Body)) (q first : Signed Body) (s : Slot) → slot_of q.body ≡ Some s →
    find (fills (key_for q.signer s)) words ≡ Some first
    → is_same_body first.body q.body ≡ false → (m : ℕ) → pair_with m words q ≡ late_pair first q m
contradicted words q first s is e other m =
    let its = first_is words q first s is e in
    let contrary : contradict first q ≡ true =
    and_from (nat_eq first.signer q.signer) (are_rivals first.body q.body && not (is_same_body first.body q.body))
    (eq-eqb first.signer q.signer its.1)
    (and_from (are_rivals first.body q.body) (not (is_same_body first.body q.body)) its.2 (ap not other)) in
    ap (λ (o : Option (Signed Body)). cond (nat_eq q.signer m) (option_map (λ p. pair_of p q) o) None)
    (finds_first (fills (key_for q.signer s)) (λ p. contradict p q) words (λ p. narrow p q s is) e contrary)

pub contrary_taken : (n : ℕ) (words : List (Signed Body)) (q first : Signed Body) (s : Slot) (old after : Blame) →
    slot_of q.body ≡ Some s
    → Some first ≡ get same_key old.firsts (key_for q.signer s) → false ≡ is_same_body first.body q.body
    → after.masters ≡ old.masters → after.firsts ≡ old.firsts
    → ((pair : ℕ → Option Named) → ((m : ℕ) → IsOwnPair m (pair m)) → old.pairs.items ≡ rising pair old.masters
    → after.pairs.items ≡ rising (λ m. option_or (pair m) (late_pair first q m)) old.masters)
    → HasTaken n words old → HasTaken n (words ++ q ∷ []) after
contrary_taken n words q first s old after is found other same_masters same_firsts put has = record {
  masters = same_masters ∙ has.masters;
  firsts = λ key. ap (λ (kept : HashMap Key (Signed Body) (BuildHasherDefault FoldHasher)). get same_key kept key)
      same_firsts ∙ firsts_same n words q first s old is found has key;
  pairs =
      put (λ m. first_pair m [] words) (own_pairs words) (has.pairs ∙ ap (named_of words) (sym has.masters))
      ∙ ap (λ (k : ℕ). rising (λ m. option_or (first_pair m [] words) (late_pair first q m)) k) has.masters
      ∙ named-more n words q (late_pair first q)
      (λ m. ap (option_or (first_pair m [] words))
      (contradicted words q first s is (first_found n words q first s old found has) (sym other) m));
}
  where
    named_of : List (Signed Body) → ℕ → List Named
    named_of ws k = named k ws
