-- Whatever a correct master learned was in a frame taken or is a word of its own that was due; so what it learned in a
-- correct actor's name that actor said.
use Rattle.std.proofs.Common.{◌≡◌, ℕ, true, false, List, [], ◌∷◌, ◌++◌, Option, map, refl, sym, ◌∙◌, subst, inl, inr}
use Rattle.std.proofs.Common.{◌⊎◌}
use Rattle.std.proofs.Common.{append_assoc}
use Rattle.std.proofs.lemmas.List.{append-nil}
use Rattle.std.specs.List.{flat_map}
use Rattle.plain_lists.specs.Lists.{IsIn, here, Within, Each}
use Rattle.plain_lists.proofs.Members.{none_in, in_left, in_right, in_cases, in_map, in_flat_map, in_flat_map_from}
use Rattle.message_types.specs.declared.signed.Signed.{Signed}
use Rattle.message_types.specs.declared.body.Body.{Body}
use Rattle.message_types.specs.Parts.{parts, inside}
use Rattle.protocol_rules.specs.Master.{Heard, learned, taken_frames, known_at, said_before, taken_at}
use Rattle.history_rules.specs.Events.{Entry, frame_taken, is_tick, is_silent}
use Rattle.history_rules.specs.Setup.{Setup, is_correct, is_correct_master, own}
use Rattle.history_rules.specs.Legal.{Stands, IsLegal, heard_in, heard}
use Rattle.history_rules.specs.Audit.{HasSaid, NothingForged, parts_taken, bodies_of}
use Rattle.agreement.proofs.Places.{by_growth, said_whole, stands_on, stands_last, legal_before, whole_upto}
use Rattle.agreement.proofs.KnownAsItGrows.{learned_by, known_then, Source, from_frame, from_word, from_inside, learned_last}
use Rattle.agreement.proofs.KnownAsItGrows.{correct_said, known_then_from, known_grows, said_last}
use Rattle.agreement.proofs.SpokenByKind.{Due, Again, answers_are_due}
use Rattle.agreement.proofs.FramesInside.{Closed, closed_parts, closed_append, closed_flat_map, due_inside}

closed_learned : (e : Heard) → Closed (learned e)
closed_learned e = closed_append (flat_map parts (taken_frames e.took)) (flat_map parts e.said)
    (closed_parts (taken_frames e.took)) (closed_parts e.said)

pub known_closed : (before : List Heard) (took : Option (Signed Body)) → Closed (known_at before took)
unfolding known_at
known_closed before took = closed_append (flat_map learned before) (flat_map parts (taken_frames took))
    (closed_flat_map learned before closed_learned) (closed_parts (taken_frames took))

pub learned_closed : (w : Setup) (history : List Entry) (i : ℕ) → Closed (learned_by w history i)
learned_closed w history i = closed_flat_map learned (heard w history i) closed_learned

pub taken_known : (before : List Heard) (took : Option (Signed Body)) →
    Within (taken_at before took) (known_at before took)
unfolding known_at
taken_known before took f h = elim (in_cases (flat_map (λ e. taken_frames e.took) before) h) [
  | inl earlier ↦
      let found = in_flat_map_from (λ (e : Heard). taken_frames e.took) before earlier in
      in_left (flat_map parts (taken_frames took))
      (in_flat_map learned found.1
      (in_left (flat_map parts found.0.said) (in_flat_map parts found.2 (here (inside f.body)))))
  | inr now ↦ in_right (flat_map learned before) (in_flat_map parts now (here (inside f.body)))
]

pub heard_none : (w : Setup) (i : ℕ) → heard w [] i ≡ []
unfolding heard_in own
heard_none w i = refl

-- What is due at an entry, and what was said before it.
abbrev pub DueThen : Setup → ℕ → List Entry → Entry → Body → Type 0
DueThen w i before e b = Due w.group w.orders (known_then w before i e)
    (taken_at (heard w before i) (frame_taken e.event)) (said_before (heard w before i)) b

-- what a correct master said was due, or it had said it before
pub said_due : (w : Setup) {history before : List Entry} {e : Entry} (i : ℕ) (b : Body) → IsLegal w history →
    Stands history before e → e.actor ≡ i → is_correct_master w i ≡ true → IsIn b e.said
    → (is_silent e.event ≡ false) × (DueThen w i before e b ⊎ Again (said_before (heard w before i)) b)
said_due w {before = before} {e} i b legal s by correct h =
    let said = correct_said w i b legal s by correct h in
    (said.0, answers_are_due w.group w.orders i (heard w before i) (frame_taken e.event) (is_tick e.event) b said.1)

-- the entry at which a correct master said a body first: there it was due
pub record FirstSaid (w : Setup) (history : List Entry) (i : ℕ) (b : Body) : Type 0 where
  pub said : HasSaid history i b
  pub loud : is_silent said.entry.event ≡ false
  pub due : DueThen w i said.before said.entry b

pub due_first : (w : Setup) (history : List Entry) (i : ℕ) (b : Body) (first : FirstSaid w history i b) →
    (is_silent first.said.entry.event ≡ false) × DueThen w i first.said.before first.said.entry b
due_first w history i b first = (first.loud, first.due)

first_then : (w : Setup) (i : ℕ) (b : Body) {before : List Entry} (more : List Entry) →
    FirstSaid w before i b → FirstSaid w (before ++ more) i b
first_then w i b more first = record {
  said = record {
    before = first.said.before;
    entry = first.said.entry;
    place = stands_on more first.said.place;
    by = first.said.by;
    among = first.said.among;
  };
  loud = first.loud;
  due = first.due;
}

-- Whatever a correct master said, or said again, it said a first time.
module _ (w : Setup) (i : ℕ) (b : Body) (correct : is_correct_master w i ≡ true) where
  abbrev AtBeginning : List Entry → Type 0
  AtBeginning before = IsLegal w before → IsIn b (said_before (heard w before i)) → FirstSaid w before i b

  at_none : AtBeginning []
  at_none legal h = absurd (none_in (subst (λ (hs : List Heard). IsIn b (said_before hs)) (heard_none w i) h))

  at_entry : (before : List Entry) (e : Entry) → AtBeginning before → IsLegal w (before ++ e ∷ []) →
      e.actor ≡ i → IsIn b e.said → FirstSaid w (before ++ e ∷ []) i b
  at_entry before e so_far legal by h =
      let due = said_due w i b legal (stands_last before e) by correct h in
      elim due.1 [
        | inl now ↦ record {
          said = record { before = before; entry = e; place = stands_last before e; by = by; among = h };
          loud = due.0;
          due = now;
        }
        | inr earlier ↦ first_then w i b (e ∷ []) (so_far (legal_before w before (e ∷ []) legal) earlier.0)
      ]

  one_later : (before : List Entry) (e : Entry) → AtBeginning before → AtBeginning (before ++ e ∷ [])
  one_later before e so_far legal h = elim (said_last w before e i b h) [
    | inl earlier ↦ first_then w i b (e ∷ []) (so_far (legal_before w before (e ∷ []) legal) earlier)
    | inr now ↦ at_entry before e so_far legal now.0 now.1
  ]

  pub first_said_before : (before : List Entry) → AtBeginning before
  first_said_before before = by_growth AtBeginning at_none one_later before

  pub first_said : (history : List Entry) → IsLegal w history → HasSaid history i b → FirstSaid w history i b
  first_said history legal said =
      let upto : IsLegal w (said.before ++ said.entry ∷ []) = legal_before w (said.before ++ said.entry ∷ [])
      said.place.after (subst (λ (xs : List Entry). IsLegal w xs) (whole_upto said.place) legal) in
      let there = at_entry said.before said.entry (first_said_before said.before) upto said.by said.among in
      subst (λ (xs : List Entry). FirstSaid w xs i b) (sym (whole_upto said.place))
      (first_then w i b said.place.after there)

-- What holds of each part of a frame taken, and of each word due where it holds of all that is known, holds of all that
-- a correct master learned.
module _ (w : Setup) (i : ℕ) (history : List Entry) (P : Signed Body → Type 0) (legal : IsLegal w history)
    (correct : is_correct_master w i ≡ true)
    (taken : (before : List Entry) (e : Entry) → Stands history before e → e.actor ≡ i → Each P (parts_taken e))
    (own_word : (before : List Entry) (e : Entry) → Stands history before e → e.actor ≡ i →
    is_silent e.event ≡ false → Each P (known_then w before i e) → (p : Signed Body) →
    p.signer ≡ i → IsIn p.body e.said
    → Due w.group w.orders (known_then w before i e) (taken_at (heard w before i) (frame_taken e.event))
    (said_before (heard w before i)) p.body → P p) where
  -- where a word that is said again was said first, and what was known there
  first_at : (before : List Entry) (e : Entry) → Stands history before e → (b : Body) →
      IsIn b (said_before (heard w before i)) → FirstSaid w before i b
  first_at before e s b earlier = first_said_before w i b correct before
      (legal_before w before (e ∷ s.after) (subst (λ (xs : List Entry). IsLegal w xs) s.whole legal)) earlier

  stands_at : (before : List Entry) (e : Entry) → Stands history before e → (b : Body) →
      (first : FirstSaid w before i b) → Stands history first.said.before first.said.entry
  stands_at before e s b first = subst (λ (xs : List Entry). Stands xs first.said.before first.said.entry)
      (sym s.whole) (stands_on (e ∷ s.after) first.said.place)

  known_at_first : (before : List Entry) (e : Entry) (b : Body) (first : FirstSaid w before i b) →
      Each P (known_then w before i e) → Each P (known_then w first.said.before i first.said.entry)
  known_at_first before e b first known q k =
      known q (known_grows w e i first.said.place first.said.by first.loud q k)

  none_learned : (after : List Entry) → history ≡ [] ++ after → Each P (learned_by w [] i)
  none_learned after same p h =
      absurd (none_in (subst (λ (hs : List Heard). IsIn p (flat_map learned hs)) (heard_none w i) h))

  by_source : (before : List Entry) (e : Entry) → Stands history before e → e.actor ≡ i →
      is_silent e.event ≡ false → Each P (known_then w before i e) → (p : Signed Body) → Source w i e p → P p
  by_source before e s by loud known p (from_frame h) = taken before e s by p h
  by_source before e s by loud known p (from_word signer h) =
      elim (said_due w i p.body legal s by correct h).1 [
        | inl now ↦ own_word before e s by loud known p signer h now
        | inr earlier ↦
            let first = first_at before e s p.body earlier.0 in
            own_word first.said.before first.said.entry (stands_at before e s p.body first) first.said.by first.loud
            (known_at_first before e p.body first known) p signer first.said.among first.due
      ]
  by_source before e s by loud known p (from_inside b h within) =
      elim (said_due w i b legal s by correct h).1 [
        | inl now ↦ known p (inside_known before e b now p within)
        | inr earlier ↦
            let first = first_at before e s b earlier.0 in
            known_at_first before e b first known p
            (inside_known first.said.before first.said.entry b first.due p within)
      ]
    where
      inside_known : (before : List Entry) (e : Entry) (b : Body) → DueThen w i before e b →
          (p : Signed Body) → IsIn p (inside b) → IsIn p (known_then w before i e)
      inside_known before e b due p within = due_inside w.group w.orders (known_then w before i e)
          (taken_at (heard w before i) (frame_taken e.event)) (said_before (heard w before i))
          (taken_known (heard w before i) (frame_taken e.event)) (known_closed (heard w before i) (frame_taken e.event))
          b due p within

  one_more : (before : List Entry) (e : Entry) →
      ((after : List Entry) → history ≡ before ++ after → Each P (learned_by w before i))
      → (after : List Entry) → history ≡ (before ++ e ∷ []) ++ after → Each P (learned_by w (before ++ e ∷ []) i)
  one_more before e so_far after same p h =
      let whole : history ≡ before ++ e ∷ after = same ∙ append_assoc before (e ∷ []) after in
      let s : Stands history before e = record { after = after; whole = whole } in
      elim (learned_last w before e i p h) [
        | inl earlier ↦ so_far (e ∷ after) whole p earlier
        | inr now ↦ by_source before e s now.0 now.1 (λ q k. elim (known_then_from w before i e q k) [
          | inl earlier ↦ so_far (e ∷ after) whole q earlier
          | inr part ↦ taken before e s now.0 q part
        ]) p now.2
      ]

  pub learned_all : Each P (learned_by w history i)
  learned_all = by_growth (λ (before : List Entry). (after : List Entry) → history ≡ before ++ after →
      Each P (learned_by w before i)) none_learned one_more history [] (sym (append-nil history))

-- What a correct master learned in a correct actor's name, that actor said.
pub learned_said : (w : Setup) (i : ℕ) (history : List Entry) → IsLegal w history → NothingForged w history →
    is_correct_master w i ≡ true
    → (p : Signed Body) → IsIn p (learned_by w history i) → is_correct w p.signer ≡ true →
    HasSaid history p.signer p.body
learned_said w i history legal unforged correct =
    learned_all w i history (λ p. is_correct w p.signer ≡ true → HasSaid history p.signer p.body) legal correct
    (λ before e s by p h right. said_whole s (unforged.said before e s p h right))
    (λ before e s by loud known p signer h due right. record {
      before = before;
      entry = e;
      place = s;
      by =
          by ∙ sym signer;
      among = h;
    })

-- What a correct master learned stands in the history.
pub learned_stands : (w : Setup) (i : ℕ) (history : List Entry) → IsLegal w history → is_correct_master w i ≡ true
    → (p : Signed Body) → IsIn p (learned_by w history i) → (before : List Entry) × (e : Entry)
    × Stands history before e × IsIn p.body (bodies_of e)
learned_stands w i history legal correct =
    learned_all w i history (λ p. (before : List Entry) × (e : Entry) × Stands history before e
    × IsIn p.body (bodies_of e)) legal correct
    (λ before e s by p h. (before, e, s, in_left e.said (in_map (λ (q : Signed Body). q.body) h)))
    (λ before e s by loud known p signer h due. (before, e, s, in_right (map (λ p. p.body) (parts_taken e)) h))
