-- What an actor said goes by its own entries alone, and not by their stamps or by where frames come from.
use Rattle.std.proofs.Common.{◌≡◌, ◌≤◌, ℕ, Bool, true, false, ◌&&◌, ◌||◌, cond, List, [], ◌∷◌, ◌++◌, length, map}
use Rattle.std.proofs.Common.{refl, sym, ◌∙◌, ap, arith, nat_eq, inl, inr}
use Rattle.std.proofs.lemmas.Bool.{false≢true, or_cases, or_left, or_right}
use Rattle.std.specs.List.{list_any, flat_map}
use Rattle.message_types.specs.declared.signed.Signed.{Signed}
use Rattle.message_types.specs.declared.body.Body.{Body}
use Rattle.message_types.specs.Parts.{parts}
use Rattle.protocol_rules.specs.Master.{taken_frames}
use Rattle.history_rules.specs.Events.{Event, Took, Tick, Command, Field, Poll, Cry, Skip, Restart, Entry, frame_taken}
use Rattle.history_rules.specs.Setup.{own}
use Rattle.history_rules.specs.Audit.{parts_taken}
use Rattle.history_rules.specs.Counts.{has_said}
use Rattle.agreement.proofs.Places.{heads_same, tails_same}
use Rattle.joint_lists.specs.Plain.{plain, without_place, AreTheSame}
use Rattle.joined_histories.specs.Order.{says}

first_own : (e : Entry) (es : List Entry) (a : ℕ) (b : Body) (t : Bool) → nat_eq e.actor a ≡ t →
    has_said es a b ≡ list_any (says b) (own es a) →
    ((t && says b e) || has_said es a b) ≡ list_any (says b) (cond t (e ∷ own es a) (own es a))
first_own e es a b true is rest = ap (λ r. says b e || r) rest
first_own e es a b false is rest = rest

pub said_own : (es : List Entry) (a : ℕ) (b : Body) → has_said es a b ≡ list_any (says b) (own es a)
unfolding own
said_own [] a b = refl
said_own (e ∷ es) a b = first_own e es a b (nat_eq e.actor a) refl (said_own es a b)

pub any_said : (b : Body) (es : List Entry) → list_any (says b) (map plain es) ≡ list_any (says b) es
any_said b [] = refl
any_said b (e ∷ es) = ap (λ r. says b e || r) (any_said b es)

pub said_same : (b : Body) (xs ys : List Entry) → AreTheSame xs ys → list_any (says b) xs ≡ list_any (says b) ys
said_same b xs ys same = sym (any_said b xs) ∙ ap (list_any (says b)) same ∙ any_said b ys

frame_plain : (e : Event) → frame_taken (without_place e) ≡ frame_taken e
frame_plain (Took s p frame) = refl
frame_plain Tick = refl
frame_plain (Command op) = refl
frame_plain (Field area place value) = refl
frame_plain Poll = refl
frame_plain (Cry bytes) = refl
frame_plain Skip = refl
frame_plain Restart = refl

parts_plain : (e : Entry) → parts_taken (plain e) ≡ parts_taken e
parts_plain e = ap (λ f. flat_map parts (taken_frames f)) (frame_plain e.event)

-- entries that are the same take the same parts
pub same_parts : (x y : Entry) → plain x ≡ plain y → parts_taken x ≡ parts_taken y
same_parts x y same = sym (parts_plain x) ∙ ap parts_taken same ∙ parts_plain y

-- of two beginnings of one list the longer has what the shorter has
pub any_longer : {X : Type 0} (f : X → Bool) (xs ys more rest : List X) → xs ++ more ≡ ys ++ rest →
    length xs ≤ length ys → list_any f xs ≡ true → list_any f ys ≡ true
any_longer f [] ys more rest same short has = absurd (false≢true has)
any_longer f (x ∷ xs) [] more rest same short has = absurd (omega arith)
any_longer f (x ∷ xs) (y ∷ ys) more rest same short has = elim (or_cases (f x) (list_any f xs) has) [
  | inl now ↦ or_left (f y) (list_any f ys) (ap f (sym (heads_same same)) ∙ now)
  | inr later ↦ or_right (f y) (list_any f ys)
      (any_longer f xs ys more rest (tails_same same) (omega arith) later)
]
