-- The digests of the frames that were taken, as entries come.
use Rattle.std.proofs.Common.{◌≡◌, ℕ, Bool, true, false, cond, ◌||◌, List, [], ◌∷◌, ◌++◌, refl, sym, ◌∙◌, ap}
use Rattle.std.proofs.lemmas.List.Folds.{list_any-append}
use Rattle.std.specs.List.{list_any}
use Rattle.std.specs.Str.{bytes_eq}
use Rattle.sha2.specs.Sha256.{sha256}
use Rattle.indexmap.specs.IndexSet.{contains}
use Rattle.message_types.specs.declared.signed.Signed.{Signed}
use Rattle.message_types.specs.declared.body.Body.{Body}
use Rattle.message_types.specs.Texts.{frame_text}
use Rattle.history_rules.specs.Events.{Event, Took, Tick, Command, Field, Poll, Cry, Skip, Restart, Entry}
use Rattle.station_rules.specs.Coming.{takes_frame}
use Rattle.stations.specs.declared.taken.Taken.{Taken}
use Rattle.stations.specs.Taken.{takes_digest, AreTaken, HasFrame}

-- a frame of these bytes is one of this digest
takes_so : (bytes : List ℕ) (event : Event) → takes_digest (sha256 bytes) event ≡ takes_frame bytes event
takes_so bytes (Took stamp place frame) = refl
takes_so bytes Tick = refl
takes_so bytes (Command op) = refl
takes_so bytes (Field area place value) = refl
takes_so bytes Poll = refl
takes_so bytes (Cry cry) = refl
takes_so bytes Skip = refl
takes_so bytes Restart = refl

pub any_takes : (bytes : List ℕ) (list : List Entry) →
    list_any (λ e. takes_digest (sha256 bytes) e.event) list ≡ list_any (λ e. takes_frame bytes e.event) list
any_takes bytes [] = refl
any_takes bytes (e ∷ rest) = (λ i. takes_so bytes e.event i || any_takes bytes rest i)

-- so it is known whether one was taken
pub known_by : (list : List Entry) (taken : Taken) (bytes digest : List ℕ) (known : Bool) → AreTaken list taken →
    digest ≡ sha256 bytes → known ≡ contains bytes_eq taken.digests digest →
    known ≡ list_any (λ e. takes_frame bytes e.event) list
known_by list taken bytes digest known are is found =
    found ∙ ap (contains bytes_eq taken.digests) is ∙ are (sha256 bytes) ∙ any_takes bytes list

-- one more is taken last
last_takes : (digest : List ℕ) (list : List Entry) (e : Entry) →
    list_any (λ x. takes_digest digest x.event) (list ++ e ∷ []) ≡
    (takes_digest digest e.event || list_any (λ x. takes_digest digest x.event) list)
last_takes digest list e =
    list_any-append (λ (x : Entry). takes_digest digest x.event) list (e ∷ [])
    ∙ swap (list_any (λ x. takes_digest digest x.event) list) (takes_digest digest e.event)
  where
    swap : (a b : Bool) → (a || (b || false)) ≡ (b || a)
    swap true true = refl
    swap true false = refl
    swap false true = refl
    swap false false = refl

pub took_one : (list : List Entry) (e : Entry) (stamp place : ℕ) (frame : Signed Body) (old new : Taken) →
    AreTaken list old → HasFrame old frame new → e.event ≡ Took stamp place frame → AreTaken (list ++ e ∷ []) new
took_one list e stamp place frame old new are has is = λ digest.
    has digest
    ∙ (λ i. takes_digest digest (sym is i) || are digest i)
    ∙ sym (last_takes digest list e)

pub took_none : (list : List Entry) (e : Entry) (old : Taken) → ((digest : List ℕ) → takes_digest digest e.event ≡ false)
    → AreTaken list old → AreTaken (list ++ e ∷ []) old
took_none list e old none are = λ digest.
    are digest
    ∙ ap (λ (b : Bool). b || list_any (λ x. takes_digest digest x.event) list) (sym (none digest))
    ∙ sym (last_takes digest list e)

-- a digest that was added
pub frame_added : (old new : Taken) (frame : Signed Body) (digest : List ℕ) → digest ≡ sha256 (frame_text frame) →
    ((q : List ℕ) → contains bytes_eq new.digests q ≡ cond (bytes_eq digest q) true (contains bytes_eq old.digests q))
    → HasFrame old frame new
frame_added old new frame digest is has = λ q.
    has q ∙ ap (λ (d : List ℕ). cond (bytes_eq d q) true (contains bytes_eq old.digests q)) is
    ∙ same (bytes_eq (sha256 (frame_text frame)) q) (contains bytes_eq old.digests q)
  where
    same : (a b : Bool) → cond a true b ≡ (a || b)
    same true b = refl
    same false b = refl
