-- How an update comes to a correct master: in a frame taken, and its client said it before the first such.
use Rattle.std.proofs.Common.{◌≡◌, ℕ, ◌+◌, Bool, true, false, ◌&&◌, ◌||◌, List, [], ◌∷◌, map, length, nat_eq, nat_lt}
use Rattle.std.proofs.Common.{refl, sym, ◌∙◌, ap, subst, arith, eqb-true}
use Rattle.std.proofs.lemmas.Bool.{false≢true, true≢false, and_parts, and_from, and_left, not_from_false, eq-eqb}
use Rattle.std.proofs.lemmas.Bool.{le-ltb}
use Rattle.std.proofs.lemmas.Slice.Eq.{bytes_eq-Decides}
use Rattle.std.specs.List.{list_any, flat_map}
use Rattle.std.specs.Str.{bytes_eq}
use Rattle.plain_lists.specs.Lists.{IsIn}
use Rattle.plain_lists.proofs.Members.{in_first, in_map, in_map_from, any_from, any_in}
use Rattle.message_types.specs.declared.signed.Signed.{Signed}
use Rattle.message_types.specs.declared.updates.Update.{Update}
use Rattle.message_types.specs.declared.body.Body.{Body}
use Rattle.message_types.specs.declared.body.Body.TheVariants as body
use Rattle.message_types.specs.Parts.{as_frame}
use Rattle.message_types.specs.Texts.{update_text}
use Rattle.protocol_rules.specs.Master.{learned, taken_at, said_before}
use Rattle.history_rules.specs.Events.{Entry, frame_taken}
use Rattle.history_rules.specs.Setup.{Setup, is_correct, is_correct_master}
use Rattle.history_rules.specs.Legal.{Stands, IsLegal, heard}
use Rattle.history_rules.specs.Audit.{HasSaid, parts_taken}
use Rattle.agreement.specs.Laws.{HasSizes, known_by, TakesUpdate, FirstTaking, ExecutedWereSaid}
use Rattle.agreement.proofs.Places.{stands_behind, legal_before}
use Rattle.agreement.proofs.KnownAsItGrows.{learned_by, known_then, known_of_within}
use Rattle.agreement.proofs.SpokenByKind.{Due}
use Rattle.agreement.proofs.FramesInside.{bytes_same}
use Rattle.agreement.proofs.LearnedWasSaid.{learned_all, learned_closed}
use Rattle.agreement.proofs.LearnedInPlace.{GoodFrame, Good, SignedWell, good_event, learned_good}
use Rattle.agreement.proofs.TextsTellAll.{GoodUpdate, update_text-same}
use Rattle.agreement.proofs.RequestsAgree.{certified_from, requested_known}
use Rattle.agreement.proofs.ExecutionsAgree.{executed_from}

-- the first entry of a list that passes
first_passing : (t : Entry → Bool) (entries : List Entry) → list_any t entries ≡ true
    → (before : List Entry) × (e : Entry) × Stands entries before e × (t e ≡ true) × (list_any t before ≡ false)
first_passing t [] h = absurd (false≢true h)
first_passing t (x ∷ rest) h = by_test (t x) refl h (λ later. first_passing t rest later)
  where
    by_test : (b : Bool) → t x ≡ b → (b || list_any t rest) ≡ true
        → (list_any t rest ≡ true → (before : List Entry) × (e : Entry) × Stands rest before e × (t e ≡ true)
        × (list_any t before ≡ false))
        → (before : List Entry) × (e : Entry) × Stands (x ∷ rest) before e × (t e ≡ true) × (list_any t before ≡ false)
    by_test true is h later = ([], x, record { after = rest; whole = refl }, is, refl)
    by_test false is h later =
        let found = later h in
        (x ∷ found.0, found.1, stands_behind x found.2, found.3, ap (λ b. b || list_any t found.0) is ∙ found.4)

-- the body is an update with this text
abbrev has_text : List ℕ → Body → Bool
has_text text word = elim word [ body.Update v ↦ bytes_eq (update_text v) text | _ ↦ false ]

text_from : (text : List ℕ) (word : Body) → has_text text word ≡ true → (v : Update) × (word ≡ body.Update v)
    × (update_text v ≡ text)
text_from text (body.Update v) e = (v, refl, bytes_same (update_text v) text e)
text_from text _ e = absurd (false≢true e)

-- the master's entry took a frame with such an update among its parts
abbrev takes_text : ℕ → List ℕ → Entry → Bool
takes_text i text e = nat_eq e.actor i && list_any (has_text text) (map (λ p. p.body) (parts_taken e))

self_text : (text : List ℕ) → bytes_eq text text ≡ true
self_text text = (bytes_eq-Decides text text).1 refl

takes_from : (i : ℕ) (u : Update) (e : Entry) → e.actor ≡ i → TakesUpdate e u → takes_text i (update_text u) e ≡ true
takes_from i u e by taken = and_from (nat_eq e.actor i) _ (eq-eqb e.actor i by)
    (any_in (has_text (update_text u)) taken (self_text (update_text u)))

pub client_correct : (w : Setup) (actor c : ℕ) → actor ≡ w.group.n + c → is_correct w actor ≡ true
client_correct w actor c e = not_from_false (nat_lt actor w.group.n && w.intruded actor)
    (and_left (nat_lt actor w.group.n) (w.intruded actor) (le-ltb actor w.group.n (omega arith)))

-- where an update was taken
abbrev TakenAt : List Entry → ℕ → Update → Type 0
TakenAt history i u = (before : List Entry) × (e : Entry) × Stands history before e × (e.actor ≡ i) × TakesUpdate e u

-- an update that a correct master learned it took: it says none of its own
learned_taken : (w : Setup) (history : List Entry) (i : ℕ) → IsLegal w history → is_correct_master w i ≡ true
    → (p : Signed Body) → IsIn p (learned_by w history i) → (u : Update) → p.body ≡ body.Update u → TakenAt history i u
learned_taken w history i legal correct = learned_all w i history (λ p. (u : Update) → p.body ≡ body.Update u →
    TakenAt history i u) legal correct
    (λ before e s by p h u is. (
      before,
      e,
      s,
      by,
      subst (λ (b : Body). IsIn b (map (λ p. p.body) (parts_taken e))) is
          (in_map (λ (p : Signed Body). p.body) h),
    ))
    (λ before e s by loud known p signer h due u is.
    absurd (subst (λ (b : Body). Due w.group w.orders (known_then w before i e)
    (taken_at (heard w before i) (frame_taken e.event)) (said_before (heard w before i)) b) is due))

module _ (w : Setup) (history : List Entry) (i : ℕ) (legal : IsLegal w history) (sizes : HasSizes w.group) where
  -- the parts of a frame taken are in their places
  part_good : {before : List Entry} {e : Entry} → Stands history before e → (p : Signed Body) →
      IsIn p (parts_taken e) → GoodFrame w.group p
  part_good {before} {e} s p h = good_event w (length before) sizes e.event (legal.entries before e s).taken p h

  -- the update of a text that an entry took
  text_taken : (u : Update) → GoodUpdate u → {before : List Entry} {e : Entry} → Stands history before e →
      takes_text i (update_text u) e ≡ true
      → (e.actor ≡ i) × ((p : Signed Body) × IsIn p (parts_taken e) × (p.body ≡ body.Update u))
  text_taken u good {before} {e} s is =
      let both = and_parts (nat_eq e.actor i)
      (list_any (has_text (update_text u)) (map (λ p. p.body) (parts_taken e))) is in
      let found = any_from (has_text (update_text u)) (map (λ p. p.body) (parts_taken e)) both.1 in
      let part = in_map_from (λ (p : Signed Body). p.body) (parts_taken e) found.1 in
      let word = text_from (update_text u) found.0 found.2 in
      let same : part.0.body ≡ body.Update word.0 = sym part.2 ∙ word.1 in
      let fits : GoodUpdate word.0 = subst (λ (b : Body). Good w.group b) same (part_good s part.0 part.1).1 in (
        eqb-true e.actor i both.0,
        (part.0, part.1, same ∙ ap (λ (v : Update). body.Update v) (update_text-same word.0 u fits good word.2)),
      )

  first_taking : is_correct_master w i ≡ true → (u : Update) → GoodUpdate u → TakenAt history i u →
      FirstTaking w history i u
  first_taking correct u good taken =
      let any : list_any (takes_text i (update_text u)) history ≡ true =
      any_in (takes_text i (update_text u)) (subst (λ (xs : List Entry). IsIn taken.1 xs) (sym taken.2.whole)
      (in_first taken.0 taken.2.after)) (takes_from i u taken.1 taken.3 taken.4) in
      let found = first_passing (takes_text i (update_text u)) history any in
      let is = text_taken u good found.2 found.3 in
      let none_before : (earlier : List Entry) (d : Entry) → Stands found.0 earlier d → d.actor ≡ i →
      TakesUpdate d u → ⊥ = λ earlier d s by takes.
      true≢false (sym (any_in (takes_text i (update_text u))
      (subst (λ (xs : List Entry). IsIn d xs) (sym s.whole) (in_first earlier s.after))
      (takes_from i u d by takes)) ∙ found.4) in
      record {
        before = found.0;
        entry = found.1;
        place = found.2;
        by = is.0;
        taken = subst (λ (b : Body). IsIn b (map (λ p. p.body) (parts_taken found.1))) is.1.2
            (in_map (λ (p : Signed Body). p.body) is.1.1);
        first = none_before;
        unknown = λ h.
            let part = in_map_from (λ (p : Signed Body). p.body) (flat_map learned (heard w found.0 i)) h in
            let earlier = learned_taken w found.0 i
            (legal_before w found.0 (found.1 ∷ found.2.after)
            (subst (λ (xs : List Entry). IsLegal w xs) found.2.whole legal)) correct part.0 part.1 u (sym part.2) in
            none_before earlier.0 earlier.1 earlier.2 earlier.3 earlier.4;
      }

pub executed_were_said : ExecutedWereSaid
executed_were_said w history i legal sizes unforged correct u h =
    let request = executed_from w.group (known_by w history i) u h in
    let words = certified_from w.group (known_by w history i) request.0.j request.0.k u request.1 in
    let frame = requested_known (learned_by w history i) words.0 (learned_closed w history i)
    (λ p k. known_of_within (heard w history i) p (words.1 p k)) request.0.j request.0.k u words.2 in
    let good : GoodUpdate u =
    subst GoodUpdate frame.2 (learned_good w i history legal sizes correct
    (as_frame body.Update frame.0) frame.1).1 in
    let taken = learned_taken w history i legal correct (as_frame body.Update frame.0) frame.1 u
    (ap (λ (v : Update). body.Update v) frame.2) in
    let came = first_taking w history i legal sizes correct u good taken in
    let part = in_map_from (λ (p : Signed Body). p.body) (parts_taken came.entry) came.taken in
    let word : part.0.body ≡ body.Update u = sym part.2 in
    let signer : part.0.signer ≡ w.group.n + u.client = subst (λ (b : Body). SignedWell w.group part.0.signer b) word
    (part_good w history i legal sizes came.place part.0 part.1).0 in
    let said : HasSaid came.before part.0.signer part.0.body =
    unforged.said came.before came.entry came.place part.0 part.1
    (client_correct w part.0.signer u.client signer) in (
      came,
      subst (λ (b : Body). HasSaid came.before (w.group.n + u.client) b) word
          (subst (λ (x : ℕ). HasSaid came.before x part.0.body) signer said),
    )
