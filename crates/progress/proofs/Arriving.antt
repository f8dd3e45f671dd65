-- How words arrive: what a master knows grows at its end; what it takes it knows from then on, and what it says from its
-- next event on. So after a round each connected master knows what any of them said before it.
use Rattle.std.proofs.Common.{◌≡◌, ℕ, zero, suc, true, false, List, [], ◌∷◌, ◌++◌, Option, Some, map, refl, sym}
use Rattle.std.proofs.Common.{◌∙◌, ap, subst, inl, inr, append_assoc}
use Rattle.std.proofs.lemmas.Bool.{or_left}
use Rattle.std.specs.Prelude.{slice_get}
use Rattle.std.specs.List.{flat_map}
use Rattle.plain_lists.specs.Lists.{IsIn, here, there, Begins}
use Rattle.plain_lists.proofs.Members.{in_left, in_right, in_first, in_flat_map, in_map_from}
use Rattle.message_types.specs.declared.signed.Signed.{Signed}
use Rattle.message_types.specs.declared.body.Body.{Body}
use Rattle.message_types.specs.Parts.{parts, inside}
use Rattle.protocol_rules.specs.Master.{Heard, learned, taken_frames, known_at}
use Rattle.history_rules.specs.Events.{Event, Took, Tick, Entry, frame_taken, is_silent}
use Rattle.history_rules.specs.Setup.{Setup, is_correct_master, signed_from}
use Rattle.history_rules.specs.Legal.{Stands, IsLegal, heard, known_of}
use Rattle.history_rules.specs.Audit.{HasSaid}
use Rattle.agreement.specs.Laws.{known_by}
use Rattle.agreement.proofs.Places.{stands_on, whole_upto}
use Rattle.agreement.proofs.KnownAsItGrows.{learned_by, known_then, hears, heard_more, heard_at, heard_then, signed_from_in}
use Rattle.agreement.proofs.KnownAsItGrows.{signed_from_bodies, learned_then, correct_said}
use Rattle.agreement.proofs.VouchedIsOrdered.{known_of_last, known_of_grows}
use Rattle.progress.specs.Rounds.{HasTaken, HasTick, goes_to}
use Rattle.progress.specs.Laws.{KnowsWord, KnownGrows, WordsArrive}

pub known_grows : KnownGrows
known_grows w history first i b =
    let more = heard_more w first b.rest i in
    subst (λ (xs : List Entry). Begins (known_by w first i) (known_by w xs i)) (sym b.same)
    (subst (λ (hs : List Heard). Begins (known_by w first i) (known_of hs)) (sym more.1)
    (known_of_grows (heard w first i) more.0))

-- where the list is longer, what was in it is in it
pub in_more : {X : Type 0} {x : X} {xs ys : List X} → Begins xs ys → IsIn x xs → IsIn x ys
in_more {X} {x} b h = subst (λ (zs : List X). IsIn x zs) (sym b.same) (in_left b.rest h)

-- what a master knows up to an entry of its own is what it knows at it
pub known_upto : (w : Setup) (before : List Entry) (e : Entry) (m : ℕ) → e.actor ≡ m → is_silent e.event ≡ false →
    known_by w (before ++ e ∷ []) m ≡ known_then w before m e
known_upto w before e m by loud = ap known_of (heard_then w before e m by loud)
    ∙ known_of_last (heard w before m) (hears w m _ e)

-- and in the whole it knows that and more
pub known_from : (w : Setup) {history before : List Entry} {e : Entry} (m : ℕ) → Stands history before e → e.actor ≡ m →
    is_silent e.event ≡ false → Begins (known_then w before m e) (known_by w history m)
known_from w {history} {before} {e} m s by loud =
    subst (λ (ps : List (Signed Body)). Begins ps (known_by w history m)) (known_upto w before e m by loud)
    (known_grows w history (before ++ e ∷ []) m record { rest = s.after; same = whole_upto s })

-- a frame taken is known at once
pub taken_then : (w : Setup) (before : List Entry) (m : ℕ) (e : Entry) (f : Signed Body) →
    frame_taken e.event ≡ Some f → IsIn f (known_then w before m e)
unfolding known_at
taken_then w before m e f took = in_right (learned_by w before m)
    (subst (λ (o : Option (Signed Body)). IsIn f (flat_map parts (taken_frames o))) (sym took)
    (here (inside f.body ++ [])))

-- an event that takes a frame isn't silent
pub took_loud : (event : Event) (stamp place : ℕ) (f : Signed Body) → event ≡ Took stamp place f → is_silent event ≡ false
took_loud event stamp place f e = ap is_silent e

pub tick_loud : (event : Event) → event ≡ Tick → is_silent event ≡ false
tick_loud event e = ap is_silent e

-- what a master took it knows in the whole
pub taken_known : (w : Setup) (history : List Entry) (m : ℕ) (said : Entry) (nth : ℕ) (b : Body) →
    HasTaken history m said nth b → KnowsWord (known_by w history m) said.actor b
taken_known w history m said nth b t = record {
  part = t.frame;
  among = in_more (known_from w m t.place t.by (took_loud t.entry.event said.stamp nth t.frame t.event))
      (taken_then w t.before m t.entry t.frame (ap frame_taken t.event));
  by = t.signer;
  word = t.word;
}

-- a word among those said at an entry is in a frame of its actor's
signed_word : (w : Setup) (i used : ℕ) (said : List Body) (b : Body) → IsIn b said →
    (f : Signed Body) × IsIn f (signed_from w i used said 0 said) × (f.signer ≡ i) × (f.body ≡ b)
signed_word w i used said b h =
    let bodies : map (λ (f : Signed Body). f.body) (signed_from w i used said 0 said) ≡ said =
    signed_from_bodies w i used 0 said said in
    let found = in_map_from (λ (f : Signed Body). f.body) (signed_from w i used said 0 said)
    (subst (λ (bs : List Body). IsIn b bs) (sym bodies) h) in
    (found.0, found.1, (signed_from_in w i used 0 said said found.0 found.1).0, sym found.2)

-- what a master said at an entry that isn't silent it has learned in the whole
pub said_learned : (w : Setup) {history before : List Entry} {e : Entry} (m : ℕ) (b : Body) → Stands history before e →
    e.actor ≡ m → is_silent e.event ≡ false → IsIn b e.said → KnowsWord (learned_by w history m) m b
said_learned w {history} {before} {e} m b s by loud h =
    let at = heard_at w before s.after e m by loud in
    let f = signed_word w m at.0 e.said b h in
    let in_event : IsIn f.0 (learned (hears w m at.0 e)) = in_right (flat_map parts (taken_frames (frame_taken e.event)))
    (in_flat_map parts f.1 (here (inside f.0.body))) in
    record {
      part = f.0;
      among = subst (λ (xs : List Entry). IsIn f.0 (learned_by w xs m)) (sym s.whole)
          (subst (λ (hs : List Heard). IsIn f.0 (flat_map learned hs)) (sym at.2)
          (in_flat_map learned (in_first (heard w before m) at.1) in_event));
      by = f.2;
      word = f.3;
    }

-- the place in the whole of an entry of the round
pub stands_in_round : {round before : List Entry} {e : Entry} (beginning : List Entry) → Stands round before e →
    Stands (beginning ++ round) (beginning ++ before) e
stands_in_round {round} {before} {e} beginning s = record {
  after = s.after;
  whole = ap (λ (xs : List Entry). beginning ++ xs) s.whole ∙ sym (append_assoc beginning before (e ∷ s.after));
}

-- What a master said in the beginning it knows after a tick behind it.
own_known : (w : Setup) (beginning round : List Entry) (m : ℕ) (b : Body) → IsLegal w (beginning ++ round) →
    is_correct_master w m ≡ true → HasTick round m → HasSaid beginning m b →
    KnowsWord (known_by w (beginning ++ round) m) m b
own_known w beginning round m b legal correct t said =
    let there : Stands (beginning ++ t.before) said.before said.entry = stands_on t.before said.place in
    let loud = (correct_said w m b legal (stands_on round said.place) said.by correct said.among).0 in
    let own = said_learned w m b there said.by loud said.among in
    record {
      part = own.part;
      among = in_more (known_from w m (stands_in_round beginning t.place) t.by (tick_loud t.entry.event t.tick))
          (learned_then w (beginning ++ t.before) m t.entry own.part own.among);
      by = own.by;
      word = own.word;
    }

-- the number of a member
pub numbered : {X : Type 0} {x : X} {xs : List X} → IsIn x xs → (k : ℕ) × (slice_get xs k ≡ Some x)
numbered (here rest) = (zero, refl)
numbered (there y rest h) = let found = numbered h in (suc found.0, found.1)

pub words_arrive : WordsArrive
words_arrive w connected beginning round legal are r i m is_i is_m b said goes = elim goes [
  | inl own ↦ subst (λ (x : ℕ). KnowsWord (known_by w (beginning ++ round) m) x b) own
      (own_known w beginning round m b legal (are.correct m is_m) (r.ticks m is_m)
      (subst (λ (x : ℕ). HasSaid beginning x b) (sym own) said))
  | inr other ↦
      let at = numbered said.among in
      let heard_i : connected said.entry.actor ≡ true = ap connected said.by ∙ is_i in
      let taken = r.delivered.taken said.before said.entry said.place (or_left (connected said.entry.actor) _ heard_i)
      at.0 b at.1 m is_m (ap (λ (x : ℕ). goes_to w.group x b m) said.by ∙ other) in
      subst (λ (x : ℕ). KnowsWord (known_by w (beginning ++ round) m) x b) said.by
      (taken_known w (beginning ++ round) m said.entry at.0 b taken)
]
