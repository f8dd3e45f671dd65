-- What a master knows as a history grows, and where it comes from.
use Rattle.std.proofs.Common.{◌≡◌, ℕ, ◌+◌, suc, Bool, true, false, cond, ◌&&◌, not, List, [], ◌∷◌, ◌++◌, length, take}
use Rattle.std.proofs.Common.{map, filter, nat_eq, nat_lt, refl, sym, ◌∙◌, ap, subst, inl, inr, ◌⊎◌, arith}
use Rattle.std.proofs.lemmas.List.{append-nil}
use Rattle.std.proofs.lemmas.List.Elements.{filter-append}
use Rattle.std.proofs.lemmas.Grind.{flat_map-append}
use Rattle.std.proofs.lemmas.Bool.{false≢true, eq-eqb, ne_eqb, cases_eq, cases_Bool}
use Rattle.std.specs.List.{flat_map}
use Rattle.plain_lists.specs.Lists.{IsIn, here, there, Within}
use Rattle.plain_lists.proofs.Members.{none_in, in_left, in_right, in_cons_cases, in_cases, in_first, in_flat_map, in_flat_map_from, in_take}
use Rattle.message_types.specs.declared.signed.Signed.{Signed}
use Rattle.message_types.specs.declared.body.Body.{Body}
use Rattle.message_types.specs.Parts.{parts, inside}
use Rattle.protocol_rules.specs.Master.{Heard, learned, known_at, said_before, answers}
use Rattle.history_rules.specs.Events.{Entry, frame_taken, is_tick, is_silent}
use Rattle.history_rules.specs.Setup.{Setup, is_correct_master, heard_from, leaves_used, own, signed_from, room}
use Rattle.history_rules.specs.Leaves.{leaves_for}
use Rattle.history_rules.specs.Legal.{Stands, IsLegal, heard_in, heard, says_in, says, known_of}
use Rattle.history_rules.specs.Audit.{parts_taken}

-- all that a master has learned, its last words included
abbrev pub learned_by : Setup → List Entry → ℕ → List (Signed Body)
learned_by w history i = flat_map learned (heard w history i)

-- all that a master knows at an entry after this history
abbrev pub known_then : Setup → List Entry → ℕ → Entry → List (Signed Body)
known_then w before i e = known_at (heard w before i) (frame_taken e.event)

-- one event as heard by its master
abbrev pub hears : Setup → ℕ → ℕ → Entry → Heard
hears w i used e = record {
  took = frame_taken e.event;
  is_tick = is_tick e.event;
  said =
      signed_from w i used e.said 0 e.said;
}

pub heard_step : (w : Setup) (i used : ℕ) (e : Entry) (b : Bool) (rest more : List Heard) → is_silent e.event ≡ b
    → cond b (rest ++ more) (hears w i used e ∷ (rest ++ more)) ≡ cond b rest (hears w i used e ∷ rest) ++ more
heard_step w i used e true rest more was = refl
heard_step w i used e false rest more was = refl

heard_from-append : (w : Setup) (i used : ℕ) (xs ys : List Entry)
    → heard_from w i used (xs ++ ys) ≡ heard_from w i used xs ++ heard_from w i (used + leaves_used w xs) ys
heard_from-append w i used [] ys = ap (λ k. heard_from w i k ys) (omega arith)
heard_from-append w i used (e ∷ xs) ys =
    let deeper : heard_from w i (used + leaves_for w.shared_leaves (length e.said)) (xs ++ ys) ≡ heard_from w i
    (used + leaves_for w.shared_leaves (length e.said)) xs
    ++ heard_from w i (used + leaves_for w.shared_leaves (length e.said) + leaves_used w xs) ys =
    heard_from-append w i (used + leaves_for w.shared_leaves (length e.said)) xs ys in
    let same : used + leaves_for w.shared_leaves (length e.said) + leaves_used w xs ≡ used +
    (leaves_for w.shared_leaves (length e.said) + leaves_used w xs) = omega arith in
    ap (λ (zs : List Heard). cond (is_silent e.event) zs (hears w i used e ∷ zs))
    (deeper ∙ ap (λ k. heard_from w i (used + leaves_for w.shared_leaves (length e.said)) xs
    ++ heard_from w i k ys) same)
    ∙ heard_step w i used e (is_silent e.event) (heard_from w i (used + leaves_for w.shared_leaves (length e.said))
    xs) (heard_from w i (used + (leaves_for w.shared_leaves (length e.said) + leaves_used w xs)) ys) refl

pub own-append : (xs ys : List Entry) (i : ℕ) → own (xs ++ ys) i ≡ own xs i ++ own ys i
unfolding own
own-append xs ys i = filter-append (λ e. nat_eq e.actor i) xs ys

pub own_first : (e : Entry) (rest : List Entry) (i : ℕ) → e.actor ≡ i → own (e ∷ rest) i ≡ e ∷ own rest i
unfolding own
own_first e rest i by = ap
    (λ b. cond b (e ∷ filter (λ e. nat_eq e.actor i) rest) (filter (λ e. nat_eq e.actor i) rest)) (eq-eqb e.actor i by)

pub own_other : (e : Entry) (rest : List Entry) (i : ℕ) → (e.actor ≡ i → ⊥) → own (e ∷ rest) i ≡ own rest i
unfolding own
own_other e rest i ne = ap
    (λ b. cond b (e ∷ filter (λ e. nat_eq e.actor i) rest) (filter (λ e. nat_eq e.actor i) rest)) (ne_eqb e.actor i ne)

pub own_none : (i : ℕ) → own [] i ≡ []
unfolding own
own_none i = refl

-- a longer history only adds to what was heard
pub heard_more : (w : Setup) (before more : List Entry) (i : ℕ) → (rest : List Heard)
    × (heard w (before ++ more) i ≡ heard w before i ++ rest)
unfolding heard_in
heard_more w before more i = (
  heard_from w i (0 + leaves_used w (own before i)) (own more i),
  ap (heard_from w i 0) (own-append before more i) ∙ heard_from-append w i 0 (own before i) (own more i),
)

-- an entry at which its master hears something
pub heard_at : (w : Setup) (before after : List Entry) (e : Entry) (i : ℕ) → e.actor ≡ i → is_silent e.event ≡ false
    → (used : ℕ) × (rest : List Heard) × (heard w (before ++ e ∷ after) i ≡ heard w before i ++ hears w i used e ∷ rest)
unfolding heard_in
heard_at w before after e i by loud =
    let used = 0 + leaves_used w (own before i) in (
      used,
      heard_from w i (used + leaves_for w.shared_leaves (length e.said)) (own after i),
      ap (heard_from w i 0) (own-append before (e ∷ after) i)
          ∙ heard_from-append w i 0 (own before i) (own (e ∷ after) i)
          ∙ ap (λ (zs : List Entry). heard_from w i 0 (own before i) ++ heard_from w i used zs) (own_first e after i by)
          ∙ ap (λ b. heard_from w i 0 (own before i)
          ++ cond b (heard_from w i (used + leaves_for w.shared_leaves (length e.said)) (own after i))
          (hears w i used e ∷ heard_from w i (used + leaves_for w.shared_leaves (length e.said)) (own after i)))
          loud,
    )

-- the last entry, before which its master used the leaves of its own entries before
pub heard_then : (w : Setup) (before : List Entry) (e : Entry) (i : ℕ) → e.actor ≡ i → is_silent e.event ≡ false
    → heard w (before ++ e ∷ []) i ≡ heard w before i ++ hears w i (leaves_used w (own before i)) e ∷ []
unfolding heard_in
heard_then w before e i by loud =
    let used = leaves_used w (own before i) in
    let none : 0 + used ≡ used = omega arith in
    ap (heard_from w i 0) (own-append before (e ∷ []) i) ∙ heard_from-append w i 0 (own before i) (own (e ∷ []) i)
    ∙ ap (λ (zs : List Entry). heard_from w i 0 (own before i) ++ heard_from w i (0 + used) zs)
    (own_first e [] i by ∙ ap (λ (zs : List Entry). e ∷ zs) (own_none i))
    ∙ ap (λ b. heard_from w i 0 (own before i) ++ cond b [] (hears w i (0 + used) e ∷ [])) loud
    ∙ ap (λ k. heard_from w i 0 (own before i) ++ hears w i k e ∷ []) none

pub heard_last : (w : Setup) (before : List Entry) (e : Entry) (i : ℕ) → e.actor ≡ i → is_silent e.event ≡ false
    → (used : ℕ) × (heard w (before ++ e ∷ []) i ≡ heard w before i ++ hears w i used e ∷ [])
heard_last w before e i by loud = (leaves_used w (own before i), heard_then w before e i by loud)

-- an entry of another, or a silent one, adds nothing
pub heard_other : (w : Setup) (before : List Entry) (e : Entry) (i : ℕ) → (e.actor ≡ i → ⊥) →
    heard w (before ++ e ∷ []) i ≡ heard w before i
unfolding heard_in
heard_other w before e i ne =
    ap (heard_from w i 0) (own-append before (e ∷ []) i ∙ ap (λ (zs : List Entry). own before i ++ zs)
    (own_other e [] i ne ∙ own_none i) ∙ append-nil (own before i))

pub heard_silent : (w : Setup) (before : List Entry) (e : Entry) (i : ℕ) → e.actor ≡ i → is_silent e.event ≡ true →
    heard w (before ++ e ∷ []) i ≡ heard w before i
unfolding heard_in
heard_silent w before e i by silent =
    let used = 0 + leaves_used w (own before i) in
    ap (heard_from w i 0) (own-append before (e ∷ []) i) ∙ heard_from-append w i 0 (own before i) (own (e ∷ []) i)
    ∙ ap (λ (zs : List Entry). heard_from w i 0 (own before i) ++ heard_from w i used zs)
    (own_first e [] i by ∙ ap (λ (zs : List Entry). e ∷ zs) (own_none i))
    ∙ ap (λ b. heard_from w i 0 (own before i) ++ cond b [] (hears w i used e ∷ [])) silent
    ∙ append-nil (heard_from w i 0 (own before i))

-- the frames of an entry's bodies are its actor's, one for each body
pub signed_from_in : (w : Setup) (i used place : ℕ) (said bs : List Body) (f : Signed Body) →
    IsIn f (signed_from w i used said place bs) → (f.signer ≡ i) × IsIn f.body bs
signed_from_in w i used place said [] f h = absurd (none_in h)
signed_from_in w i used place said (b ∷ bs) f h = elim (in_cons_cases h) [
  | inl e ↦ (ap (λ f. f.signer) e, subst (λ (c : Body). IsIn c (b ∷ bs)) (sym (ap (λ f. f.body) e)) (here bs))
  | inr later ↦ let found = signed_from_in w i used (suc place) said bs f later in (found.0, there b bs found.1)
]

pub signed_from_bodies : (w : Setup) (i used place : ℕ) (said bs : List Body) →
    map (λ f. f.body) (signed_from w i used said place bs) ≡ bs
signed_from_bodies w i used place said [] = refl
signed_from_bodies w i used place said (b ∷ bs) =
    ap (λ (zs : List Body). b ∷ zs) (signed_from_bodies w i used (suc place) said bs)

-- what was learned before stays
pub learned_more : (w : Setup) (before more : List Entry) (i : ℕ) →
    Within (learned_by w before i) (learned_by w (before ++ more) i)
learned_more w before more i p h =
    let grown = heard_more w before more i in
    subst (λ (hs : List Heard). IsIn p (flat_map learned hs)) (sym grown.1)
    (subst (λ (ps : List (Signed Body)). IsIn p ps) (sym (flat_map-append learned (heard w before i) grown.0))
    (in_left (flat_map learned grown.0) h))

-- what is known at an entry: learned before, or a part of the frame taken
pub known_then_from : (w : Setup) (before : List Entry) (i : ℕ) (e : Entry) (p : Signed Body) →
    IsIn p (known_then w before i e) → IsIn p (learned_by w before i) ⊎ IsIn p (parts_taken e)
unfolding known_at
known_then_from w before i e p h = in_cases (learned_by w before i) h

pub learned_then : (w : Setup) (before : List Entry) (i : ℕ) (e : Entry) →
    Within (learned_by w before i) (known_then w before i e)
unfolding known_at
learned_then w before i e p h = in_left (parts_taken e) h

-- what is known at an entry of its master has been learned after it
pub known_learned : (w : Setup) {history before : List Entry} {e : Entry} (i : ℕ) → Stands history before e →
    e.actor ≡ i → is_silent e.event ≡ false
    → Within (known_then w before i e) (learned_by w history i)
known_learned w {history} {before} {e} i s by loud p h =
    let there_heard = heard_at w before s.after e i by loud in
    let hs : List Heard = hears w i there_heard.0 e ∷ there_heard.1 in
    subst (λ (xs : List Entry). IsIn p (learned_by w xs i)) (sym s.whole)
    (subst (λ (zs : List Heard). IsIn p (flat_map learned zs)) (sym there_heard.2)
    (subst (λ (ps : List (Signed Body)). IsIn p ps) (sym (flat_map-append learned (heard w before i) hs))
    (elim (known_then_from w before i e p h) [
      | inl earlier ↦ in_left (flat_map learned hs) earlier
      | inr taken ↦ in_right (learned_by w before i)
          (in_left (flat_map learned there_heard.1)
          (in_left (flat_map parts (signed_from w i there_heard.0 e.said 0 e.said)) taken))
    ])))

-- from one entry of a master to a later one
pub known_grows : (w : Setup) {before earlier : List Entry} {d : Entry} (e : Entry) (i : ℕ) →
    Stands before earlier d → d.actor ≡ i → is_silent d.event ≡ false
    → Within (known_then w earlier i d) (known_then w before i e)
known_grows w {before} e i s by loud p h = learned_then w before i e p (known_learned w i s by loud p h)

-- what all that a history's last own event knows has been learned
pub known_of_within : (hs : List Heard) → Within (known_of hs) (flat_map learned hs)
unfolding known_of
known_of_within [] p h = absurd (none_in h)
known_of_within (e ∷ []) p h = in_left [] (in_left (flat_map parts e.said) h)
known_of_within (e ∷ f ∷ rest) p h = elim (in_cases (learned e) h) [
  | inl k ↦ in_left (flat_map learned (f ∷ rest)) k
  | inr later ↦ in_right (learned e) (known_of_within (f ∷ rest) p later)
]

-- where a word comes from that was learned at an entry
pub data Source (w : Setup) (i : ℕ) (e : Entry) (p : Signed Body) : Type 0 where
  from_frame : IsIn p (parts_taken e) → Source w i e p
  from_word : p.signer ≡ i → IsIn p.body e.said → Source w i e p
  from_inside : (b : Body) → IsIn b e.said → IsIn p (inside b) → Source w i e p

source_of : (w : Setup) (i used : ℕ) (e : Entry) (p : Signed Body) →
    IsIn p (learned (hears w i used e)) → Source w i e p
source_of w i used e p h = elim (in_cases (parts_taken e) h) [
  | inl taken ↦ from_frame taken
  | inr own_word ↦
      let found = in_flat_map_from parts (signed_from w i used e.said 0 e.said) own_word in
      let signed = signed_from_in w i used 0 e.said e.said found.0 found.1 in
      elim (in_cons_cases found.2) [
        | inl same ↦ from_word (ap (λ f. f.signer) same ∙ signed.0)
            (subst (λ (c : Body). IsIn c e.said) (sym (ap (λ f. f.body) same)) signed.1)
        | inr within ↦ from_inside found.0.body signed.1 within
      ]
]

-- of what was said once a history has one entry more: it was said before, or at that entry
pub said_last : (w : Setup) (before : List Entry) (e : Entry) (i : ℕ) (b : Body) →
    IsIn b (said_before (heard w (before ++ e ∷ []) i))
    → IsIn b (said_before (heard w before i)) ⊎ ((e.actor ≡ i) × IsIn b e.said)
said_last w before e i b h = by_actor (cases_eq e.actor i)
  where
    by_actor : (e.actor ≡ i) ⊎ (e.actor ≡ i → ⊥) → IsIn b (said_before (heard w before i))
        ⊎ ((e.actor ≡ i) × IsIn b e.said)
    by_actor (inr other) = inl
        (subst (λ (hs : List Heard). IsIn b (said_before hs)) (heard_other w before e i other) h)
    by_actor (inl by) = elim (cases_Bool (is_silent e.event)) [
      | inl silent ↦ inl (subst (λ (hs : List Heard). IsIn b (said_before hs)) (heard_silent w before e i by silent) h)
      | inr loud ↦
          let at = heard_last w before e i by loud in
          let bodies : map (λ f. f.body) (signed_from w i at.0 e.said 0 e.said) ≡ e.said =
          signed_from_bodies w i at.0 0 e.said e.said in
          let split = subst (λ (bs : List Body). IsIn b bs)
          (flat_map-append (λ (x : Heard). map (λ f. f.body) x.said) (heard w before i) (hears w i at.0 e ∷ []))
          (subst (λ (zs : List Heard). IsIn b (said_before zs)) at.1 h) in
          elim (in_cases (said_before (heard w before i)) split) [
            | inl earlier ↦ inl earlier
            | inr last ↦ elim (in_cases (map (λ f. f.body) (signed_from w i at.0 e.said 0 e.said)) last) [
              | inl now ↦ inr (by, subst (λ (bs : List Body). IsIn b bs) bodies now)
              | inr none ↦ absurd (none_in none)
            ]
          ]
    ]

-- of what is learned once a history has one entry more: it was learned before, or comes from that entry
pub learned_last : (w : Setup) (before : List Entry) (e : Entry) (i : ℕ) (p : Signed Body) →
    IsIn p (learned_by w (before ++ e ∷ []) i)
    → IsIn p (learned_by w before i) ⊎ ((e.actor ≡ i) × (is_silent e.event ≡ false) × Source w i e p)
learned_last w before e i p h = by_actor (cases_eq e.actor i)
  where
    by_actor : (e.actor ≡ i) ⊎ (e.actor ≡ i → ⊥) → IsIn p (learned_by w before i)
        ⊎ ((e.actor ≡ i) × (is_silent e.event ≡ false) × Source w i e p)
    by_actor (inr other) = inl
        (subst (λ (hs : List Heard). IsIn p (flat_map learned hs)) (heard_other w before e i other) h)
    by_actor (inl by) = elim (cases_Bool (is_silent e.event)) [
      | inl silent ↦ inl (subst (λ (hs : List Heard). IsIn p (flat_map learned hs))
          (heard_silent w before e i by silent) h)
      | inr loud ↦
          let at = heard_last w before e i by loud in
          let hs : List Heard = hears w i at.0 e ∷ [] in
          let split = subst (λ (ps : List (Signed Body)). IsIn p ps) (flat_map-append learned (heard w before i) hs)
          (subst (λ (zs : List Heard). IsIn p (flat_map learned zs)) at.1 h) in
          elim (in_cases (learned_by w before i) split) [
            | inl earlier ↦ inl earlier
            | inr last ↦ elim (in_cases (learned (hears w i at.0 e)) last)
                [ inl now ↦ inr (by, loud, source_of w i at.0 e p now) | inr none ↦ absurd (none_in none) ]
          ]
    ]

said_by_rule : (r : ℕ) (a x s : Bool) (due other bs : List Body) (b : Body) →
    bs ≡ take r (cond a (cond x [] (cond s [] due)) other) → (a && not x) ≡ true → IsIn b bs → (s ≡ false) × IsIn b due
said_by_rule r false x s due other bs b e correct h = absurd (false≢true correct)
said_by_rule r true true s due other bs b e correct h = absurd (false≢true correct)
said_by_rule r true false true due other bs b e correct h =
    absurd (none_in (in_take r [] (subst (λ (zs : List Body). IsIn b zs) e h)))
said_by_rule r true false false due other bs b e correct h =
    (refl, in_take r due (subst (λ (zs : List Body). IsIn b zs) e h))

-- what a correct master said at an entry
pub correct_said : (w : Setup) {history before : List Entry} {e : Entry} (i : ℕ) (b : Body) → IsLegal w history →
    Stands history before e → e.actor ≡ i → is_correct_master w i ≡ true → IsIn b e.said
    → (is_silent e.event ≡ false)
    × IsIn b (answers w.group w.orders i (heard w before i) (frame_taken e.event) (is_tick e.event))
unfolding says_in
correct_said w {before = before} {e} i b legal s by correct h =
    let rule : e.said ≡ says w before e.actor e.event = (legal.entries before e s).said in
    let rule_i : e.said ≡ says w before i e.event = rule ∙ ap (λ k. says w before k e.event) by in
    said_by_rule (room w (own before i)) (nat_lt i w.group.n) (w.intruded i) (is_silent e.event)
    (answers w.group w.orders i (heard w before i) (frame_taken e.event) (is_tick e.event))
    (w.client_says i (own before i) e.event) e.said b rule_i correct h

-- what was said earlier, at an entry that wasn't silent, is among what was said before
pub said_earlier : (w : Setup) {before earlier : List Entry} {d : Entry} (i : ℕ) (b : Body) →
    Stands before earlier d → d.actor ≡ i → is_silent d.event ≡ false → IsIn b d.said
    → IsIn b (said_before (heard w before i))
said_earlier w {before} {earlier} {d} i b s by loud h =
    let at = heard_at w earlier s.after d i by loud in
    let bodies : map (λ f. f.body) (signed_from w i at.0 d.said 0 d.said) ≡ d.said =
    signed_from_bodies w i at.0 0 d.said d.said in
    subst (λ (xs : List Entry). IsIn b (said_before (heard w xs i))) (sym s.whole)
    (subst (λ (zs : List Heard). IsIn b (said_before zs)) (sym at.2)
    (in_flat_map (λ e. map (λ f. f.body) e.said) (in_first (heard w earlier i) at.1)
    (subst (λ (bs : List Body). IsIn b bs) (sym bodies) h)))
