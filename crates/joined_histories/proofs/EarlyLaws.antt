-- Where some order takes nothing early, an order that takes early only where all would takes nothing early: the first entry of the
-- good order that doesn't stand yet is its actor's next, and would take nothing early.
use Rattle.std.proofs.Common.{◌≡◌, ◌≤◌, ◌<◌, ◌+◌, ℕ, Bool, true, false, ◌&&◌, not, List, [], ◌∷◌, ◌++◌, length, map}
use Rattle.std.proofs.Common.{refl, sym, ◌∙◌, ap, subst, arith, inl, inr, ◌⊎◌, nat_eq, eq-eqb}
use Rattle.std.proofs.lemmas.Bool.{false≢true, true≢false, and_parts, and_from, cases_Bool}
use Rattle.std.proofs.lemmas.List.{length-append, length-map, map-append}
use Rattle.std.specs.List.{list_any}
use Rattle.plain_lists.specs.Lists.{IsIn}
use Rattle.plain_lists.proofs.Members.{any_from, any_in, in_filter, in_filter_from, in_map, in_map_from}
use Rattle.message_types.specs.declared.signed.Signed.{Signed}
use Rattle.message_types.specs.declared.body.Body.{Body}
use Rattle.scenario_file.specs.Reading.{Contents}
use Rattle.history_rules.specs.Events.{Entry}
use Rattle.history_rules.specs.Setup.{Setup, is_correct, own}
use Rattle.history_rules.specs.Legal.{Stands}
use Rattle.history_rules.specs.Audit.{HasSaid, NothingForged, parts_taken}
use Rattle.history_rules.specs.Counts.{forged, has_said, is_forged}
use Rattle.history_laws.proofs.Forged.{forged_counts, has_said_from, has_said_of, in_of_stands}
use Rattle.agreement.proofs.KnownAsItGrows.{own-append, own_first}
use Rattle.agreement.proofs.Places.{heads_same, tails_same, stands_in, said_whole}
use Rattle.world_rules.specs.Scenarios.{setup_of}
use Rattle.joint_lists.specs.Plain.{plain, AreTheSame}
use Rattle.joint_lists.specs.Joint.{IsJoint}
use Rattle.joined_histories.specs.Early.{is_early, takes_early, NothingEarly, EarlyOnlyWhereAllAre}
use Rattle.joined_histories.specs.Order.{says}
use Rattle.joined_histories.specs.Laws.{NothingEarlyWhereThatCanBe, NothingForgedWhereThatCanBe}
use Rattle.joined_histories.proofs.Said.{any_longer, any_said, said_own, said_same, same_parts}
use Rattle.joined_histories.proofs.Earliest.{IsFirst, first_missing, many}

-- ---- Two places of lists that are the same.

-- what stands behind equally long beginnings
behind_same : {X : Type 0} (xs ys : List X) (x y : X) (more rest : List X) → xs ++ x ∷ more ≡ ys ++ y ∷ rest →
    length xs ≡ length ys → x ≡ y
behind_same [] [] x y more rest same long = heads_same same
behind_same [] (z ∷ ys) x y more rest same long = absurd (omega arith)
behind_same (z ∷ xs) [] x y more rest same long = absurd (omega arith)
behind_same (a ∷ xs) (b ∷ ys) x y more rest same long = behind_same xs ys x y more rest (tails_same same) (omega arith)

-- a list that isn't empty
pub record HasFirst {X : Type 0} (xs : List X) : Type 0 where
  pub x : X
  pub more : List X
  pub is : xs ≡ x ∷ more

has_first : {X : Type 0} (xs : List X) → 0 < length xs → HasFirst xs
has_first [] some = absurd (omega arith)
has_first (x ∷ xs) some = record { x = x; more = xs; is = refl }

-- ---- Two histories that join the same lists.

module _ (history other : List Entry) (same : (a : ℕ) → AreTheSame (own history a) (own other a)) where
  same_many : (a : ℕ) → many history a ≡ many other a
  same_many a = sym (length-map (own history a) plain) ∙ ap length (same a) ∙ length-map (own other a) plain

  said_in_both : (a : ℕ) (b : Body) → has_said history a b ≡ has_said other a b
  said_in_both a b =
      said_own history a b ∙ said_same b (own history a) (own other a) (same a) ∙ sym (said_own other a b)

  -- what was said where fewer of an actor's entries stand, was said here
  said_before : (front before after rest : List Entry) (a : ℕ) (b : Body) → other ≡ front ++ after →
      history ≡ before ++ rest → many front a ≤ many before a → has_said front a b ≡ true → has_said before a b ≡ true
  said_before front before after rest a b cut split fewer has =
      let whole : map plain (own front a) ++ map plain (own after a) ≡ map plain (own before a) ++ map plain (own rest a) =
      sym (map-append plain (own front a) (own after a)) ∙ ap (map plain) (sym (own-append front after a))
      ∙ ap (λ (es : List Entry). map plain (own es a)) (sym cut) ∙ sym (same a)
      ∙ ap (λ (es : List Entry). map plain (own es a)) split ∙ ap (map plain) (own-append before rest a)
      ∙ map-append plain (own before a) (own rest a) in
      let short : length (map plain (own front a)) ≤ length (map plain (own before a)) =
      omega (arith, length-map (own front a) plain, length-map (own before a) plain) in
      let there : list_any (says b) (map plain (own front a)) ≡ true =
      any_said b (own front a) ∙ sym (said_own front a b) ∙ has in
      said_own before a b ∙ sym (any_said b (own before a))
      ∙ any_longer (says b) (map plain (own front a)) (map plain (own before a)) (map plain (own after a))
      (map plain (own rest a)) whole short there

  -- the actor's next entry here is the one that stands there
  pub record IsNext (before : List Entry) (first : Entry) : Type 0 where
    pub next : Entry
    pub stands : Stands (own history first.actor) (own before first.actor) next
    pub alike : plain next ≡ plain first

  next_here : (before rest : List Entry) (f : IsFirst before other) → history ≡ before ++ rest → IsNext before f.first
  next_here before rest f split =
      let a : ℕ = f.first.actor in
      let mine : own history a ≡ own before a ++ own rest a =
      ap (λ (es : List Entry). own es a) split ∙ own-append before rest a in
      let its : own other a ≡ own f.front a ++ f.first ∷ own f.after a =
      ap (λ (es : List Entry). own es a) f.whole ∙ own-append f.front (f.first ∷ f.after) a
      ∙ ap (λ (es : List Entry). own f.front a ++ es) (own_first f.first f.after a refl) in
      let as_many : many f.front a ≡ many before a = f.as_many in
      let all : many history a ≡ many before a + length (own rest a) =
      ap length mine ∙ length-append (own before a) (own rest a) in
      let theirs : many other a ≡ many f.front a + length (f.first ∷ own f.after a) =
      ap length its ∙ length-append (own f.front a) (f.first ∷ own f.after a) in
      let both : many history a ≡ many other a = same_many a in
      let some : 0 < length (own rest a) = omega arith in
      let left : HasFirst (own rest a) = has_first (own rest a) some in
      let here : own history a ≡ own before a ++ left.x ∷ left.more =
      mine ∙ ap (λ (es : List Entry). own before a ++ es) left.is in
      record {
        next = left.x;
        stands = record { after = left.more; whole = here };
        alike = behind_same (map plain (own before a)) (map plain (own f.front a)) (plain left.x) (plain f.first)
            (map plain left.more) (map plain (own f.after a))
            (sym (map-append plain (own before a) (left.x ∷ left.more)) ∙ ap (map plain) (sym here) ∙ same a
            ∙ ap (map plain) its ∙ map-append plain (own f.front a) (f.first ∷ own f.after a))
            (length-map (own before a) plain ∙ sym as_many ∙ sym (length-map (own f.front a) plain));
      }

  -- a part that is early here would be early there
  part_early : (w : Setup) (before rest front after : List Entry) (p : Signed Body) → history ≡ before ++ rest →
      other ≡ front ++ after → ((a : ℕ) → many front a ≤ many before a) → is_early w history before p ≡ true →
      is_early w other front p ≡ true
  part_early w before rest front after p split cut fewer early =
      let both = and_parts (is_forged w before p) (has_said history p.signer p.body) early in
      let bad = and_parts (is_correct w p.signer) (not (has_said before p.signer p.body)) both.0 in
      and_from (is_forged w front p) (has_said other p.signer p.body)
      (and_from (is_correct w p.signer) (not (has_said front p.signer p.body)) bad.0
      (elim (cases_Bool (has_said front p.signer p.body)) [
        | inl t ↦ absurd (false≢true (ap not (sym (said_before front before after rest p.signer p.body cut split
            (fewer p.signer) t)) ∙ bad.1))
        | inr f ↦ ap not f
      ]))
      (sym (said_in_both p.signer p.body) ∙ both.1)

  any_early : (w : Setup) (before rest front after : List Entry) (ps : List (Signed Body)) → history ≡ before ++ rest →
      other ≡ front ++ after → ((a : ℕ) → many front a ≤ many before a) →
      list_any (is_early w history before) ps ≡ true → list_any (is_early w other front) ps ≡ true
  any_early w before rest front after ps split cut fewer has =
      let found = any_from (is_early w history before) ps has in
      any_in (is_early w other front) found.1 (part_early w before rest front after found.0 split cut fewer found.2)

  none_early : (w : Setup) → EarlyOnlyWhereAllAre w history → NothingEarly w other → NothingEarly w history
  none_early w only nothing = record { each = λ before e s. by before e s (cases_Bool (takes_early w history before e)) }
    where
      never : (before : List Entry) (e : Entry) → Stands history before e → takes_early w history before e ≡ true → ⊥
      never before e s early =
          let a : ℕ = e.actor in
          let mine : many history a ≡ many before a + length (e ∷ own s.after a) =
          ap length (ap (λ (es : List Entry). own es a) s.whole ∙ own-append before (e ∷ s.after) a
          ∙ ap (λ (es : List Entry). own before a ++ es) (own_first e s.after a refl))
          ∙ length-append (own before a) (e ∷ own s.after a) in
          let both : many history a ≡ many other a = same_many a in
          let more : many before a < many other a = omega arith in
          let f : IsFirst before other = first_missing before other a more in
          let n : IsNext before f.first = next_here before (e ∷ s.after) f s.whole in
          let waits : takes_early w history before n.next ≡ true = only.each before e s early f.first.actor n.next n.stands in
          let there : list_any (is_early w other f.front) (parts_taken n.next) ≡ true =
          any_early w before (e ∷ s.after) f.front (f.first ∷ f.after) (parts_taken n.next) s.whole f.whole f.fewer waits in
          let so : takes_early w other f.front f.first ≡ true =
          ap (list_any (is_early w other f.front)) (sym (same_parts n.next f.first n.alike)) ∙ there in
          true≢false (sym so ∙ nothing.each f.front f.first record { after = f.after; whole = f.whole })

      by : (before : List Entry) (e : Entry) → Stands history before e →
          (takes_early w history before e ≡ true) ⊎ (takes_early w history before e ≡ false) →
          takes_early w history before e ≡ false
      by before e s (inl early) = absurd (never before e s early)
      by before e s (inr late) = late

-- ---- No word is forged.

-- where nothing is forged nothing is early
unforged_late : (w : Setup) (history : List Entry) → NothingForged w history → NothingEarly w history
unforged_late w history nothing =
    record { each = λ before e s. by before e s (cases_Bool (takes_early w history before e)) }
  where
    never : (before : List Entry) (e : Entry) → Stands history before e → takes_early w history before e ≡ true → ⊥
    never before e s early =
        let found = any_from (is_early w history before) (parts_taken e) early in
        let p : Signed Body = found.0 in
        let both = and_parts (is_forged w before p) (has_said history p.signer p.body) found.2 in
        let bad = and_parts (is_correct w p.signer) (not (has_said before p.signer p.body)) both.0 in
        let said : has_said before p.signer p.body ≡ true =
        has_said_of before p.signer p.body (nothing.said before e s p found.1 bad.0) in
        false≢true (ap not (sym said) ∙ bad.1)

    by : (before : List Entry) (e : Entry) → Stands history before e →
        (takes_early w history before e ≡ true) ⊎ (takes_early w history before e ≡ false) →
        takes_early w history before e ≡ false
    by before e s (inl early) = absurd (never before e s early)
    by before e s (inr late) = late

-- an entry of a history is one of its actor's own
in_own : (history : List Entry) (e : Entry) → IsIn e history → IsIn e (own history e.actor)
unfolding own
in_own history e h = in_filter (λ x. nat_eq x.actor e.actor) h (eq-eqb e.actor e.actor refl)

from_own : (history : List Entry) (a : ℕ) (e : Entry) → IsIn e (own history a) → IsIn e history
unfolding own
from_own history a e h = (in_filter_from (λ x. nat_eq x.actor a) history h).0

module _ (history other : List Entry) (same : (a : ℕ) → AreTheSame (own history a) (own other a)) where
  -- what an entry takes that is forged nowhere there, is said here
  said_here : (w : Setup) → NothingForged w other → (e : Entry) → IsIn e history → (p : Signed Body) →
      IsIn p (parts_taken e) → is_correct w p.signer ≡ true → has_said history p.signer p.body ≡ true
  said_here w nothing e h p part right =
      let there : IsIn (plain e) (map plain (own other e.actor)) =
      subst (λ (es : List Entry). IsIn (plain e) es) (same e.actor) (in_map plain (in_own history e h)) in
      let its = in_map_from plain (own other e.actor) there in
      let y : Entry = its.0 in
      let place = stands_in other (from_own other e.actor y its.1) in
      let alike : parts_taken e ≡ parts_taken y = same_parts e y its.2 in
      let said : HasSaid place.0 p.signer p.body =
      nothing.said place.0 y place.1 p (subst (λ (ps : List (Signed Body)). IsIn p ps) alike part) right in
      said_in_both history other same p.signer p.body
      ∙ has_said_of other p.signer p.body (said_whole place.1 said)

  unforged : (w : Setup) → EarlyOnlyWhereAllAre w history → NothingForged w other → NothingForged w history
  unforged w only nothing = record {
    said = λ before e s p part right. by before e s p part right (cases_Bool (has_said before p.signer p.body));
  }
    where
      by : (before : List Entry) (e : Entry) → Stands history before e → (p : Signed Body) → IsIn p (parts_taken e) →
          is_correct w p.signer ≡ true →
          (has_said before p.signer p.body ≡ true) ⊎ (has_said before p.signer p.body ≡ false) →
          HasSaid before p.signer p.body
      by before e s p part right (inl t) = has_said_from before p.signer p.body t
      by before e s p part right (inr f) =
          let early : is_early w history before p ≡ true =
          and_from (is_forged w before p) (has_said history p.signer p.body)
          (and_from (is_correct w p.signer) (not (has_said before p.signer p.body)) right (ap not f))
          (said_here w nothing e (in_of_stands s) p part right) in
          let takes : takes_early w history before e ≡ true = any_in (is_early w history before) part early in
          absurd (true≢false (sym takes
          ∙ (none_early history other same w only (unforged_late w other nothing)).each before e s))

  none_forged : (w : Setup) → EarlyOnlyWhereAllAre w history → forged w other ≡ 0 → forged w history ≡ 0
  none_forged w only none =
      (forged_counts w history).1 (unforged w only ((forged_counts w other).0 none))

pub nothing_early : NothingEarlyWhereThatCanBe
nothing_early c lists history other joint only others nothing =
    none_early history other (λ a. joint.each a ∙ sym (others.each a)) (setup_of c) only nothing

pub nothing_forged : NothingForgedWhereThatCanBe
nothing_forged c lists history other joint only others none =
    none_forged history other (λ a. joint.each a ∙ sym (others.each a)) (setup_of c) only none
