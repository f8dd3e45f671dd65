-- A number asked for is given: the asked master takes the ask later than it was said, so it still has the number ordered, and
-- gives it with a quorum's commits; the asker takes these, and so has it ordered itself.
use Rattle.std.proofs.Common.{◌≡◌, ℕ, ◌+◌, ◌*◌, ◌<◌, ◌≤◌, Bool, true, false, cond, ◌&&◌, not, List, [], ◌∷◌, ◌++◌, Option, Some, None}
use Rattle.std.proofs.Common.{filter, length, nat_eq, nat_lt, refl, sym, ◌∙◌, ap, subst, inl, inr, arith, eqb-true, length-append, append-nil}
use Rattle.std.proofs.lemmas.Bool.{and_from, and_parts, not_from_false, ne_eqb, lt-ltb, or_left}
use Rattle.std.proofs.lemmas.List.{length-map}
use Rattle.std.specs.Option.{is_some}
use Rattle.std.specs.Prelude.{slice_get}
use Rattle.std.specs.Str.{bytes_eq}
use Rattle.plain_lists.specs.Lists.{IsIn, here, Begins, Each}
use Rattle.plain_lists.proofs.Members.{none_in, in_right, in_map, in_map_from, in_flat_map, in_filter, in_filter_from, in_filter_map, any_from, any_in, all_at, each_map}
use Rattle.quorum_sets.specs.Masters.{has_master, voters}
use Rattle.message_types.specs.declared.signed.Signed.{Signed}
use Rattle.message_types.specs.declared.ordering.Commit.{Commit}
use Rattle.message_types.specs.declared.reconciling.GiveOrdered.{GiveOrdered}
use Rattle.message_types.specs.declared.body.Body.{Body}
use Rattle.message_types.specs.declared.body.Body.TheVariants as body
use Rattle.message_types.specs.Digests.{digest_of_rows}
use Rattle.message_types.specs.Texts.{body_text}
use Rattle.message_types.specs.Parts.{inside, as_frame}
use Rattle.message_types.specs.Spelling.{has_spelling, body_fits, signers_of}
use Rattle.protocol_rules.specs.declared.facts.OrderFact.{OrderFact}
use Rattle.protocol_rules.specs.declared.facts.OrderFact.TheVariants as fact
use Rattle.protocol_rules.proofs.FirstMet.{first_there}
use Rattle.protocol_rules.specs.Group.{Group, is_live}
use Rattle.protocol_rules.specs.Facts.{tells, facts_of, rows_in, rows_known}
use Rattle.protocol_rules.specs.Measures.{ticks_of}
use Rattle.protocol_rules.specs.Order.{ordered, is_voted, commit_by}
use Rattle.protocol_rules.specs.Places.{in_place, word_in_place}
use Rattle.protocol_rules.specs.Reconcile.{whole_order}
use Rattle.protocol_rules.specs.Lacking.{share, gift_for, gift_due}
use Rattle.protocol_rules.specs.Master.{Heard, answered_in, is_order_given}
use Rattle.history_rules.specs.Events.{Event, Took, Entry, frame_taken, is_tick, is_silent}
use Rattle.history_rules.specs.Setup.{Setup, is_correct_master, stands, room, own}
use Rattle.history_rules.specs.Legal.{Stands, TakesWell, heard, known_of}
use Rattle.history_rules.specs.Audit.{HasSaid}
use Rattle.agreement.specs.Laws.{IsSound, known_by}
use Rattle.agreement.proofs.QuorumsMeet.{Rising, rising_from, rising_counts}
use Rattle.agreement.proofs.Places.{stands_on}
use Rattle.agreement.proofs.KnownAsItGrows.{known_then}
use Rattle.agreement.proofs.FramesInside.{Closed, bytes_same}
use Rattle.agreement.proofs.LearnedWasSaid.{known_closed}
use Rattle.agreement.proofs.LearnedInPlace.{learned_good}
use Rattle.agreement.proofs.SaidOnce.{commit_same}
use Rattle.agreement.proofs.RequestsAgree.{known_in}
use Rattle.agreement.proofs.ExecutionsAgree.{ordered_agree}
use Rattle.words_by_part.specs.Kinds.{is_of, giving}
use Rattle.words_by_part.specs.Laws.{told_at}
use Rattle.progress.specs.Rounds.{AreConnected, HasTaken, IsRound, goes_to}
use Rattle.progress.specs.Laws.{KnowsWord}
use Rattle.progress.specs.Serving.{ticks_among}
use Rattle.progress.specs.Asking.{IsWithinShare, AskedIsGiven}
use Rattle.progress.proofs.Arriving.{known_upto, took_loud, taken_known, numbered}
use Rattle.progress.proofs.Saying.{SaidByPart, last_event, known_last, all_is_said, said_by_part}
use Rattle.progress.proofs.Certifying.{below_group}
use Rattle.progress.proofs.Voting.{told_commit, voted_by, votes_for}
use Rattle.progress.proofs.Settled.{sound_before}
use Rattle.progress.proofs.Ordered.{begins_through, begins_append, ordered_kept, ordered_there, commit_view_there}
use Rattle.progress.proofs.InRounds.{begins_either}
use Rattle.progress.proofs.Impatient.{same_ticks}

-- the commits of an order that is given in its place
record GoodGift (g : Group) (b : GiveOrdered) : Type 0 where
  apart : Rising (signers_of b.commits)
  enough : g.q ≤ length b.commits
  alike : Each (λ c. (c.body.v ≡ b.v) × (c.body.s ≡ b.s) × (c.body.digest ≡ digest_of_rows b.rows)) b.commits

good_gift : (g : Group) (signer : ℕ) (b : GiveOrdered) → word_in_place g signer (body.GiveOrdered b) ≡ true →
    body_fits (body.GiveOrdered b) ≡ true → GoodGift g b
good_gift g signer b placed fits =
    let commits = and_parts _ _ placed in
    let count = and_parts _ _ commits.0 in
    let size : length b.commits ≡ g.q = eqb-true (length b.commits) g.q count.1 in
    let frames = and_parts _ _ fits in
    let spelled = and_parts _ _ frames.1 in
    let rising = and_parts _ _ spelled.0 in
    record {
      apart = rising_from (signers_of b.commits) rising.1;
      enough = omega (arith, size);
      alike = λ c k.
          let all = all_at (λ c. nat_eq c.body.v b.v && nat_eq c.body.s b.s
          && bytes_eq c.body.digest (digest_of_rows b.rows)) k commits.1 in
          let digest = and_parts _ _ all in
          let numbers = and_parts _ _ digest.0 in (
            eqb-true c.body.v b.v numbers.0,
            eqb-true c.body.s b.s numbers.1,
            bytes_same c.body.digest (digest_of_rows b.rows) digest.1,
          );
    }

gift_standing : (w : Setup) (signer : ℕ) (sig : List ℕ) (b : GiveOrdered) →
    stands w record { signer = signer; body = body.GiveOrdered b; sig = sig } ≡ true → GoodGift w.group b
unfolding stands has_spelling
gift_standing w signer sig b e =
    let frame : Signed Body = record { signer = signer; body = body.GiveOrdered b; sig = sig } in
    let both = and_parts _ _ e in
    let fits = and_parts _ _ both.0 in
    let at = and_parts _ _ (all_at (λ p. nat_lt p.signer (w.group.n + w.group.clients)
    && w.signs p.signer (body_text p.body) p.sig && in_place w.group p) {x = frame} (here (inside frame.body)) both.1) in
    let placed = and_parts (nat_lt signer w.group.n) (word_in_place w.group signer (body.GiveOrdered b)) at.1 in
    good_gift w.group signer b placed.1 fits.0

-- the gift that is due
gift_there : (g : Group) (me : ℕ) (known : List (Signed Body)) (facts : List OrderFact) (answered : List ℕ) (f : Signed Body)
    (now s : ℕ) (rows : List (List ℕ)) → f.signer < g.n → (f.signer ≡ me → ⊥)
    → length (filter (nat_eq f.signer) answered) < share g known facts now → f.body ≡ body.AskOrder record { s = s }
    → ordered g facts s ≡ Some rows
    → IsIn (body.GiveOrdered (whole_order g facts s rows)) (gift_due g me known facts answered (Some f) now)
gift_there g me known facts answered f now s rows low other few is e =
    subst (λ (c : Bool). IsIn (body.GiveOrdered (whole_order g facts s rows)) (cond c (gift_for g known facts f.body) []))
    (sym (and_from (nat_lt f.signer g.n && not (nat_eq f.signer me))
    (nat_lt (length (filter (nat_eq f.signer) answered)) (share g known facts now))
    (and_from (nat_lt f.signer g.n) (not (nat_eq f.signer me)) (lt-ltb f.signer g.n low)
    (not_from_false (nat_eq f.signer me) (ne_eqb f.signer me other)))
    (lt-ltb (length (filter (nat_eq f.signer) answered)) (share g known facts now) few)))
    (subst (λ (x : Body). IsIn (body.GiveOrdered (whole_order g facts s rows)) (gift_for g known facts x)) (sym is)
    (subst (λ (o : Option (List (List ℕ))). IsIn (body.GiveOrdered (whole_order g facts s rows)) (elim o as (λ _. List Body) [
      | Some x ↦ body.GiveOrdered (whole_order g facts s x) ∷ []
      | None ↦ []
    ])) (sym e) (here [])))

-- what goes from one master to another
ask_sent : (w : Setup) (i m actor s : ℕ) → actor ≡ m → (i ≡ m → ⊥) →
    goes_to w.group actor (body.AskOrder record { s = s }) i ≡ true
ask_sent w i m actor s by other = not_from_false (nat_eq i actor) (ne_eqb i actor (λ same. other (same ∙ by)))

gift_sent : (w : Setup) (i m actor : ℕ) (b : GiveOrdered) → actor ≡ i → (i ≡ m → ⊥) →
    goes_to w.group actor (body.GiveOrdered b) m ≡ true
gift_sent w i m actor b by other = not_from_false (nat_eq m actor) (ne_eqb m actor (λ same. other (sym (same ∙ by))))

-- the first of some
one_of : {X : Type 0} (xs : List X) → 1 ≤ length xs → (x : X) × IsIn x xs
one_of [] h = absurd (omega (arith, h))
one_of (x ∷ xs) h = (x, here xs)

-- What a master knows of an order that is in its place it has ordered, where no other rows can be.
module _ (w : Setup) (history : List Entry) (sound : IsSound w history) (m : ℕ) (correct : is_correct_master w m ≡ true)
    (b : GiveOrdered) (good : GoodGift w.group b) (closed : Closed (known_by w history m)) (p : Signed Body)
    (among : IsIn p (known_by w history m)) (is : p.body ≡ body.GiveOrdered b)
    (alone : (x : List (List ℕ)) → ordered w.group (facts_of w.group (known_by w history m)) b.s ≡ Some x → x ≡ b.rows) where
  abbrev known : List (Signed Body)
  known = known_by w history m

  abbrev facts : List OrderFact
  facts = facts_of w.group known

  commit_known : (c : Signed Commit) → IsIn c b.commits → IsIn (as_frame body.Commit c) known
  commit_known c k = closed p (as_frame body.Commit c) among (subst (λ (x : Body). IsIn (as_frame body.Commit c) (inside x)) (sym is)
      (in_map (as_frame body.Commit) k))

  abbrev word : Commit
  word = record { v = b.v; s = b.s; digest = digest_of_rows b.rows }

  commit_told : (c : Signed Commit) → IsIn c b.commits → IsIn (fact.Commit record { signer = c.signer; body = word; sig = c.sig }) facts
  commit_told c k =
      let same = good.alike c k in
      told_commit w.group known (as_frame body.Commit c) word (commit_known c k)
      (commit_same c.body b.v b.s (digest_of_rows b.rows) same.0 same.1 same.2)

  all_voted : is_voted w.group (commit_by b.v b.s (digest_of_rows b.rows)) facts ≡ true
  all_voted =
      let below : Each (λ x. x < w.group.n) (signers_of b.commits) = each_map (λ x. x < w.group.n) (λ f. f.signer) b.commits
      (λ c k. (learned_good w m history sound.legal sound.sizes correct (as_frame body.Commit c)
      (known_in w history history m record { rest = []; same = sym (append-nil history) } (as_frame body.Commit c)
      (commit_known c k))).0) in
      let count : length (signers_of b.commits) ≤ length (voters (has_master (signers_of b.commits)) w.group.n) =
      rising_counts (signers_of b.commits) w.group.n good.apart below in
      let same : length (signers_of b.commits) ≡ length b.commits = length-map b.commits (λ f. f.signer) in
      let enough : w.group.q ≤ length b.commits = good.enough in
      voted_by w.group (has_master (signers_of b.commits)) (commit_by b.v b.s (digest_of_rows b.rows)) facts
      (omega (arith, count, same, enough)) (λ x has.
      let signer = any_from (λ y. nat_eq y x) (signers_of b.commits) has in
      let c = in_map_from (λ (f : Signed Commit). f.signer) b.commits signer.1 in
      let vote : Signed Commit = record { signer = c.0.signer; body = word; sig = c.0.sig } in
      let first = first_there (in_filter_map (commit_by b.v b.s (digest_of_rows b.rows) x) (commit_told c.0 c.1)
      (ap (λ (t : Bool). cond t (Some vote) None) (votes_for c.0.signer x b.v b.s (digest_of_rows b.rows)
      (sym c.2 ∙ eqb-true signer.0 x signer.2)))) in
      ap is_some first.1)

  rows_there : IsIn b.rows (rows_known facts)
  unfolding rows_known facts_of
  rows_there = in_flat_map rows_in (in_flat_map (tells w.group) among (by p.signer p.body p.sig is)) (here [])
    where
      by : (signer : ℕ) (x : Body) (sig : List ℕ) → x ≡ body.GiveOrdered b →
          IsIn (fact.Rows b.rows) (tells w.group record { signer = signer; body = x; sig = sig })
      by signer x sig e = subst (λ (y : Body). IsIn (fact.Rows b.rows)
          (tells w.group record { signer = signer; body = y; sig = sig })) (sym e) (here [])

  given_ordered : ordered w.group facts b.s ≡ Some b.rows
  given_ordered =
      let enough : w.group.q ≤ length b.commits = good.enough in
      let quorum : w.group.q ≡ 2 * w.group.f + w.group.k + 1 = sound.sizes.quorum in
      let c = one_of b.commits (omega (arith, enough, quorum)) in
      ordered_there w.group facts b.s b.rows rows_there
      (any_in (λ x. is_voted w.group (commit_by x b.s (digest_of_rows b.rows)) facts)
      (commit_view_there facts record { signer = c.0.signer; body = word; sig = c.0.sig } b.v b.s (digest_of_rows b.rows)
      (commit_told c.0 c.1) refl) all_voted) alone

nothing_closed : Closed (known_of [])
unfolding known_of
nothing_closed p r h k = absurd (none_in h)

standing_taken : (w : Setup) (now stamp place : ℕ) (event : Event) (f : Signed Body) → TakesWell w now event →
    event ≡ Took stamp place f → (stands w f ≡ true) × (stamp < now)
standing_taken w now stamp place event f well is = subst (λ (x : Event). TakesWell w now x) is well

module _ (w : Setup) (connected : ℕ → Bool) (beginning first second : List Entry) (live : is_live w.group ≡ true)
    (sound : IsSound w ((beginning ++ first) ++ second)) (are : AreConnected w connected)
    (fair : IsRound w connected beginning first) (next : IsRound w connected (beginning ++ first) second) (i m s : ℕ)
    (rows : List (List ℕ)) (is_i : connected i ≡ true) (is_m : connected m ≡ true) (other : i ≡ m → ⊥)
    (left : 1 ≤ room w (own (beginning ++ first) i))
    (asked : HasSaid beginning m (body.AskOrder record { s = s }))
    (had : ordered w.group (facts_of w.group (known_by w asked.before i)) s ≡ Some rows)
    (within : IsWithinShare w (beginning ++ first) i m) where
  abbrev one : List Entry
  one = beginning ++ first

  abbrev two : List Entry
  two = (beginning ++ first) ++ second

  sound_one : IsSound w one
  sound_one = sound_before w one second sound

  -- the asked master took the ask
  at : (k : ℕ) × (slice_get asked.entry.said k ≡ Some (body.AskOrder record { s = s }))
  at = numbered asked.among

  t : HasTaken one i asked.entry at.0 (body.AskOrder record { s = s })
  t = fair.delivered.taken asked.before asked.entry asked.place
      (or_left (connected asked.entry.actor) _ (ap connected asked.by ∙ is_m)) at.0 (body.AskOrder record { s = s }) at.1 i is_i
      (ask_sent w i m asked.entry.actor s asked.by other)

  loud : is_silent t.entry.event ≡ false
  loud = took_loud t.entry.event asked.entry.stamp at.0 t.frame t.event

  abbrev known_there : List (Signed Body)
  known_there = known_then w t.before i t.entry

  -- later than it was said
  later : Begins asked.before t.before
  later =
      let said_place : Stands one asked.before asked.entry = stands_on first asked.place in
      let stamp : asked.entry.stamp ≡ length asked.before = (sound_one.legal.entries asked.before asked.entry said_place).stamp in
      let less : asked.entry.stamp < length t.before = (standing_taken w (length t.before) asked.entry.stamp at.0 t.entry.event t.frame
      (sound_one.legal.entries t.before t.entry t.place).taken t.event).1 in
      elim (begins_either asked.before t.before record { rest = asked.entry ∷ said_place.after; same = said_place.whole }
      record { rest = t.entry ∷ t.place.after; same = t.place.whole }) [
        | inl begun ↦ begun
        | inr back ↦
            let size : length asked.before ≡ length t.before + length back.rest = ap length back.same ∙ length-append t.before back.rest in
            absurd (omega (arith, stamp, less, size))
      ]

  has_it : ordered w.group (facts_of w.group known_there) s ≡ Some rows
  has_it = subst (λ (ps : List (Signed Body)). ordered w.group (facts_of w.group ps) s ≡ Some rows)
      (known_upto w t.before t.entry i t.by loud)
      (ordered_kept w i asked.before (t.before ++ t.entry ∷ []) (begins_through later (begins_append t.before (t.entry ∷ []))) s rows
      had)

  abbrev gift : GiveOrdered
  gift = whole_order w.group (facts_of w.group known_there) s rows

  -- and gave it
  gave : IsIn (body.GiveOrdered gift) t.entry.said
  gave =
      let taken : frame_taken t.entry.event ≡ Some t.frame = ap frame_taken t.event in
      let signer : t.frame.signer ≡ m = t.signer ∙ asked.by in
      let parts_there : SaidByPart w t.before i t.entry = said_by_part w t.before i t.entry live
      (all_is_said w one t.before t.entry i sound_one.legal (are.correct i is_i) left t.place t.by loud) in
      let ticks : ticks_of (told_at w.group (heard w t.before i) (frame_taken t.entry.event) (is_tick t.entry.event))
      ≡ ticks_among (t.before ++ t.entry ∷ []) i = same_ticks w t.before t.entry i t.by loud in
      let few : length (filter (nat_eq t.frame.signer) (answered_in (heard w t.before i))) < share w.group known_there
      (facts_of w.group known_there) (ticks_of (told_at w.group (heard w t.before i) (frame_taken t.entry.event)
      (is_tick t.entry.event))) = subst (λ (x : ℕ). length (filter (nat_eq x) (answered_in (heard w t.before i))) <
      share w.group known_there (facts_of w.group known_there) (ticks_of (told_at w.group (heard w t.before i)
      (frame_taken t.entry.event) (is_tick t.entry.event)))) (sym signer)
      (subst (λ (x : ℕ). length (filter (nat_eq m) (answered_in (heard w t.before i))) <
      share w.group known_there (facts_of w.group known_there) x) (sym ticks)
      (within.fewer t.before t.entry t.place t.by t.frame taken signer)) in
      let due : IsIn (body.GiveOrdered gift) (gift_due w.group i known_there (facts_of w.group known_there)
      (answered_in (heard w t.before i)) (frame_taken t.entry.event) (ticks_of (told_at w.group (heard w t.before i)
      (frame_taken t.entry.event) (is_tick t.entry.event)))) = subst (λ (o : Option (Signed Body)).
      IsIn (body.GiveOrdered gift) (gift_due w.group i known_there (facts_of w.group known_there)
      (answered_in (heard w t.before i)) o (ticks_of (told_at w.group (heard w t.before i)
      (frame_taken t.entry.event) (is_tick t.entry.event))))) (sym taken)
      (gift_there w.group i known_there (facts_of w.group known_there) (answered_in (heard w t.before i)) t.frame _ s rows
      (subst (λ (x : ℕ). x < w.group.n) (sym signer) (below_group w m (are.correct m is_m)))
      (λ same. other (sym same ∙ signer)) few t.word has_it) in
      (in_filter_from (is_of giving) t.entry.said (subst (λ (bs : List Body). IsIn (body.GiveOrdered gift) bs)
      (sym parts_there.gifts) (in_right _ (in_filter is_order_given due refl)))).0

  -- and the asker took that
  at_gift : (k : ℕ) × (slice_get t.entry.said k ≡ Some (body.GiveOrdered gift))
  at_gift = numbered gave

  got : HasTaken two m t.entry at_gift.0 (body.GiveOrdered gift)
  got = next.delivered.taken t.before t.entry t.place (or_left (connected t.entry.actor) _ (ap connected t.by ∙ is_i)) at_gift.0
      (body.GiveOrdered gift) at_gift.1 m is_m (gift_sent w i m t.entry.actor gift t.by other)

  good : GoodGift w.group gift
  good =
      let standing : stands w got.frame ≡ true = (standing_taken w (length got.before) t.entry.stamp at_gift.0 got.entry.event got.frame
      (sound.legal.entries got.before got.entry got.place).taken got.event).0 in
      gift_standing w got.frame.signer got.frame.sig gift (subst (λ (x : Body). stands w record {
        signer = got.frame.signer;
        body = x;
        sig = got.frame.sig;
      } ≡ true) got.word standing)

  knows : KnowsWord (known_by w two m) t.entry.actor (body.GiveOrdered gift)
  knows = taken_known w two m t.entry at_gift.0 (body.GiveOrdered gift) got

  closed_at_end : Closed (known_by w two m)
  closed_at_end = elim (last_event w m two) [
    | inl none ↦ subst (λ (hs : List Heard). Closed (known_of hs))
        (sym none) nothing_closed
    | inr last ↦ subst (λ (ps : List (Signed Body)). Closed ps) (sym (known_last w two m last))
        (known_closed (heard w last.before m) (frame_taken last.entry.event))
  ]

  given_at_end : ordered w.group (facts_of w.group (known_by w two m)) s ≡ Some rows
  given_at_end = given_ordered w two sound m (are.correct m is_m) gift good closed_at_end knows.part knows.among knows.word
      (λ x e. sym (ordered_agree w two asked.before two i m sound
      (begins_through record { rest = asked.entry ∷ asked.place.after; same = asked.place.whole }
      (begins_through (begins_append beginning first) (begins_append one second)))
      record { rest = []; same = sym (append-nil two) } (are.correct i is_i) (are.correct m is_m) s rows x had e))

pub asked_is_given : AskedIsGiven
asked_is_given w connected beginning first second live sound are fair next i m s rows is_i is_m other left asked had within =
    given_at_end w connected beginning first second live sound are fair next i m s rows is_i is_m other left asked had within
