-- What blame is worth.
use Rattle.std.proofs.Common.{◌≡◌, ℕ, ◌+◌, ◌*◌, ◌<◌, ◌≤◌, Bool, true, false, cond, ◌&&◌, not, List, [], ◌∷◌, Option}
use Rattle.std.proofs.Common.{Some, None, length, filter, nat_eq, nat_lt, refl, sym, ◌∙◌, ap, subst, inl, inr, arith}
use Rattle.std.proofs.Common.{eqb-true, eq-eqb}
use Rattle.std.proofs.lemmas.Bool.{false≢true, and_parts, and_from, not-true}
use Rattle.std.specs.List.{list_all, list_any, filter_map, flat_map, cons_option}
use Rattle.plain_lists.specs.Lists.{IsIn}
use Rattle.plain_lists.proofs.Members.{none_in, in_cases, in_flat_map_from, in_filter_map_from, any_from, all_at}
use Rattle.quorum_sets.specs.Masters.{numbers_below, voters}
use Rattle.quorum_sets.proofs.MastersLemmas.{voters_meet}
use Rattle.message_types.specs.declared.signed.Signed.{Signed}
use Rattle.message_types.specs.declared.body.Body.{Body}
use Rattle.message_types.specs.declared.body.Body.TheVariants as body
use Rattle.message_types.specs.Texts.{body_text}
use Rattle.message_types.specs.Spelling.{has_spelling}
use Rattle.message_types.specs.Parts.{parts}
use Rattle.protocol_rules.specs.Places.{in_place}
use Rattle.protocol_rules.specs.Master.{taken_frames}
use Rattle.history_rules.specs.Events.{Event, Took, Entry, frame_taken}
use Rattle.history_rules.specs.Setup.{Setup, is_correct_master, stands}
use Rattle.history_rules.specs.Legal.{Stands, IsLegal, TakesWell}
use Rattle.history_rules.specs.Audit.{HasSaid, parts_taken, NothingForged}
use Rattle.history_rules.specs.Sameness.{is_same_body}
use Rattle.agreement.proofs.Places.{said_whole, stands_in}
use Rattle.agreement.proofs.SaidOnce.{correct_actor}
use Rattle.agreement.proofs.QuorumsMeet.{below_from}
use Rattle.agreement.proofs.SaidOneWay.{acknowledges_once, proposes_once, prepares_once, commits_once}
use Rattle.history_laws.proofs.Same.{body_test}
use Rattle.blame_check.specs.declared.pairs.Named.{Named}
use Rattle.blame_check.specs.Contradictions.{are_rivals, first_pair, named}
use Rattle.blame_check.specs.Laws.{words_taken, NamedContradict, ContraryAreNamed, has_commit, QuorumsNameMany}
use Rattle.blame_check.specs.Laws.{NamedStand, CorrectAreNotNamed}
use Rattle.blame_check.proofs.Rivals.{contrary_parts}
use Rattle.blame_check.proofs.FirstPairs.{IsPair, pair_is, one_word}
use Rattle.blame_check.proofs.Rising.{is_of, there_is}
use Rattle.blame_check.proofs.Taken.{own_pairs}

-- who is named, and for what
named_for : (n : ℕ) (words : List (Signed Body)) (x : Named) → IsIn x (named n words) →
    (m : ℕ) × (m < n) × IsPair m words x
named_for n words x among =
    let found = in_filter_map_from (λ m. first_pair m [] words) (numbers_below n) among in
    (found.0, below_from n found.0 found.1, pair_is found.0 words x found.2)

abbrev part_stands : Setup → Signed Body → Bool
part_stands w p = nat_lt p.signer (w.group.n + w.group.clients) && w.signs p.signer (body_text p.body) p.sig
    && in_place w.group p

abbrev IsSigned : Setup → Signed Body → Type 0
IsSigned w p = w.signs p.signer (body_text p.body) p.sig ≡ true

-- the parts of a frame that stands are signed
parts_signed : (w : Setup) (frame : Signed Body) → stands w frame ≡ true → (p : Signed Body) →
    IsIn p (parts frame) → IsSigned w p
unfolding stands
parts_signed w frame well p among =
    let both = and_parts (has_spelling frame) (list_all (part_stands w) (parts frame)) well in
    let at = and_parts (nat_lt p.signer (w.group.n + w.group.clients) && w.signs p.signer (body_text p.body) p.sig)
    (in_place w.group p) (all_at (part_stands w) among both.1) in
    (and_parts (nat_lt p.signer (w.group.n + w.group.clients)) (w.signs p.signer (body_text p.body) p.sig) at.0).1

taken_signed : (w : Setup) (now : ℕ) (event : Event) → TakesWell w now event → (p : Signed Body) →
    IsIn p (flat_map parts (taken_frames (frame_taken event))) → IsSigned w p
taken_signed w now (Took stamp place frame) well p among = elim (in_cases (parts frame) among) [
  | inl part ↦ parts_signed w frame well.0 p part
  | inr nowhere ↦ absurd (none_in nowhere)
]
taken_signed w now _ well p among = absurd (none_in among)

-- where a word taken was taken
word_place : (history : List Entry) (p : Signed Body) → IsIn p (words_taken history) →
    (e : Entry) × (before : List Entry) × Stands history before e × IsIn p (parts_taken e)
word_place history p among =
    let found = in_flat_map_from parts_taken history among in
    let place = stands_in history found.1 in
    (found.0, place.0, place.1, found.2)

word_signed : (w : Setup) (history : List Entry) → IsLegal w history → (p : Signed Body) →
    IsIn p (words_taken history) → IsSigned w p
word_signed w history legal p among =
    let at = word_place history p among in
    taken_signed w (length at.1) at.0.event (legal.entries at.1 at.0 at.2).taken p at.3

pub named_contradict : NamedContradict
named_contradict w history legal x among =
    let found = named_for w.group.n (words_taken history) x among in
    let pair = found.2 in
    let facts = contrary_parts x.first x.second pair.contrary in
    let second : x.second.signer ≡ x.master = pair.by ∙ sym pair.master in
    let first : x.first.signer ≡ x.master = facts.0 ∙ second in
    record {
      is_master = subst (λ (m : ℕ). m < w.group.n) (sym pair.master) found.1;
      first_by = first;
      second_by = second;
      first_signed = subst (λ (m : ℕ). w.signs m (body_text x.first.body) x.first.sig ≡ true) first
          (word_signed w history legal x.first pair.first_in);
      second_signed = subst (λ (m : ℕ). w.signs m (body_text x.second.body) x.second.sig ≡ true) second
          (word_signed w history legal x.second pair.second_in);
      contrary = pair.contrary;
    }

pub named_stand : NamedStand
named_stand ring n words stand x among =
    let pair = (named_for n words x among).2 in
    record { first = stand x.first pair.first_in; second = stand x.second pair.second_in }

pub contrary_are_named : ContraryAreNamed
contrary_are_named n words p q p_in q_in contrary below = by (first_pair p.signer [] words) refl
  where
    by : (o : Option Named) → first_pair p.signer [] words ≡ o → list_any (is_of p.signer) (named n words) ≡ true
    by None none =
        let facts = contrary_parts p q contrary in
        absurd (facts.2 (one_word p.signer words none p q p_in q_in refl (sym facts.0) facts.1))
    by (Some x) has = there_is (λ m. first_pair m [] words) (own_pairs words) p.signer x has n below

-- what a correct master said in two ways
one_said : (w : Setup) (history : List Entry) (i : ℕ) → IsLegal w history → is_correct_master w i ≡ true →
    (a b : Body) → are_rivals a b ≡ true
    → HasSaid history i a → HasSaid history i b → a ≡ b
one_said w history i legal correct (body.PoAck a) (body.PoAck b) e p q =
    let both = and_parts (nat_eq a.j b.j) (nat_eq a.k b.k) e in
    ap (λ x. body.PoAck x) (acknowledges_once w history i legal correct a b p q (eqb-true a.j b.j both.0)
    (eqb-true a.k b.k both.1))
one_said w history i legal correct (body.PrePrepare a) (body.PrePrepare b) e p q =
    let both = and_parts (nat_eq a.v b.v) (nat_eq a.s b.s) e in
    ap (λ x. body.PrePrepare x) (proposes_once w history i legal correct a b p q (eqb-true a.v b.v both.0)
    (eqb-true a.s b.s both.1))
one_said w history i legal correct (body.Prepare a) (body.Prepare b) e p q =
    let both = and_parts (nat_eq a.v b.v) (nat_eq a.s b.s) e in
    ap (λ x. body.Prepare x) (prepares_once w history i legal correct a b p q (eqb-true a.v b.v both.0)
    (eqb-true a.s b.s both.1))
one_said w history i legal correct (body.Commit a) (body.Commit b) e p q =
    let both = and_parts (nat_eq a.v b.v) (nat_eq a.s b.s) e in
    ap (λ x. body.Commit x) (commits_once w history i legal correct a b p q (eqb-true a.v b.v both.0)
    (eqb-true a.s b.s both.1))
one_said w history i legal correct _ _ e p q = absurd (false≢true e)

word_said : (w : Setup) (history : List Entry) (i : ℕ) → NothingForged w history → is_correct_master w i ≡ true →
    (p : Signed Body) → IsIn p (words_taken history) → p.signer ≡ i → HasSaid history i p.body
word_said w history i unforged correct p among by =
    let at = word_place history p among in
    let right : w.intruded i ≡ false =
    not-true (w.intruded i) (and_parts (nat_lt i w.group.n) (not (w.intruded i)) correct).1 in
    let said = unforged.said at.1 at.0 at.2 p at.3 (correct_actor w p.signer (ap w.intruded by ∙ right)) in
    subst (λ (m : ℕ). HasSaid history m p.body) by (said_whole at.2 said)

pub correct_are_not_named : CorrectAreNotNamed
correct_are_not_named w history legal unforged x among correct =
    let found = named_for w.group.n (words_taken history) x among in
    let pair = found.2 in
    let facts = contrary_parts x.first x.second pair.contrary in
    let second : x.second.signer ≡ x.master = pair.by ∙ sym pair.master in
    facts.2 (one_said w history x.master legal correct x.first.body x.second.body facts.1
    (word_said w history x.master unforged correct x.first pair.first_in (facts.0 ∙ second))
    (word_said w history x.master unforged correct x.second pair.second_in second))

-- there are as many pairs as numbers that have one
counted : (t : ℕ → Bool) (f : ℕ → Option Named) → ((m : ℕ) → t m ≡ true → f m ≡ None → ⊥) → (xs : List ℕ) →
    length (filter t xs) ≤ length (filter_map f xs)
counted t f has [] = omega arith
counted t f has (x ∷ xs) = by (t x) (f x) refl refl (counted t f has xs)
  where
    by : (b : Bool) (o : Option Named) → t x ≡ b → f x ≡ o → length (filter t xs) ≤ length (filter_map f xs)
        → length (cond b (x ∷ filter t xs) (filter t xs)) ≤ length (cons_option o (filter_map f xs))
    by true None e none less = absurd (has x e none)
    by true (Some y) e is less = omega arith
    by false None e none less = less
    by false (Some y) e is less = omega arith

abbrev commit : ℕ → ℕ → List ℕ → Body
commit v s digest = body.Commit record { v = v; s = s; digest = digest }

abbrev digest_in : Body → List ℕ
digest_in (body.Commit c) = c.digest
digest_in _ = []

-- a master that committed both
both_committed : (words : List (Signed Body)) (v s : ℕ) (a b : List ℕ) → (a ≡ b → ⊥) → (m : ℕ) →
    (has_commit words v s a m && has_commit words v s b m) ≡ true → first_pair m [] words ≡ None → ⊥
both_committed words v s a b apart m has none =
    let both = and_parts (has_commit words v s a m) (has_commit words v s b m) has in
    let one = any_from (λ p. nat_eq p.signer m && is_same_body p.body (commit v s a)) words both.0 in
    let other = any_from (λ p. nat_eq p.signer m && is_same_body p.body (commit v s b)) words both.1 in
    let first = and_parts (nat_eq one.0.signer m) (is_same_body one.0.body (commit v s a)) one.2 in
    let second = and_parts (nat_eq other.0.signer m) (is_same_body other.0.body (commit v s b)) other.2 in
    let is_a : one.0.body ≡ commit v s a = (body_test one.0.body (commit v s a)).0 first.1 in
    let is_b : other.0.body ≡ commit v s b = (body_test other.0.body (commit v s b)).0 second.1 in
    let rivals : are_rivals one.0.body other.0.body ≡ true =
    ap (λ x. are_rivals x other.0.body) is_a ∙ ap (are_rivals (commit v s a)) is_b
    ∙ and_from (nat_eq v v) (nat_eq s s) (eq-eqb v v refl) (eq-eqb s s refl) in
    apart (ap digest_in (sym is_a ∙ one_word m words none one.0 other.0 one.1 other.1
    (eqb-true one.0.signer m first.0) (eqb-true other.0.signer m second.0) rivals ∙ is_b))

pub quorums_name_many : QuorumsNameMany
quorums_name_many g sizes words v s a b apart first second =
    let all : g.n ≡ 3 * g.f + 2 * g.k + 1 = sizes.all in
    let quorum : g.q ≡ 2 * g.f + g.k + 1 = sizes.quorum in
    let both : length (voters (has_commit words v s a) g.n) + length (voters (has_commit words v s b) g.n)
    ≤ g.n + length (voters (λ x. has_commit words v s a x && has_commit words v s b x) g.n) =
    voters_meet (has_commit words v s a) (has_commit words v s b) g.n in
    let named_all : length (voters (λ x. has_commit words v s a x && has_commit words v s b x) g.n) ≤ length
    (named g.n words) =
    counted (λ x. has_commit words v s a x && has_commit words v s b x) (λ m. first_pair m [] words)
    (both_committed words v s a b apart) (numbers_below g.n) in
    omega arith
