-- What a master keeps of asks and gifts, and when it is what these words and bodies make of it.
use Rattle.std.specs.Prelude.{◌≡◌, ℕ, Bool, false, ◌&&◌, not, IsTrue, List, [], ◌∷◌, Option, Some, None}
use Rattle.std.specs.Prelude.{if◌then◌else◌}
use Rattle.std.specs.List.{list_any, list_all}
use Rattle.message_types.specs.declared.signed.Signed.{Signed}
use Rattle.message_types.specs.declared.body.Body.{Body}
use Rattle.protocol_rules.specs.Parts as part
use Rattle.protocol_rules.specs.Group.{Group}
use Rattle.protocol_rules.specs.Execution.{Request}
use Rattle.reconcile.specs.declared.wanted.Wanted.{Wanted}
use Rattle.reconcile.specs.Asking.{ask_for, asks, gives, is_wanted, same_wanted, is_among, comes_before}

-- the master and the number of masters, what others want of it, what it gave and what it asked for
pub record AskState : Type 0 where
  pub masters : ℕ
  pub me : ℕ
  pub wanted : List Wanted
  pub given : List Wanted
  pub asked : List Wanted

-- The asks of master `me` where these words are known and these bodies were said.
pub record AreAsksOf (g : Group) (me : ℕ) (kept : AskState) (known : List (Signed Body))
    (said : List Body) : Type 0 where
  pub group : kept.masters ≡ g.n
  pub own : kept.me ≡ me
  pub wanted : (w : Wanted) → is_among kept.wanted w ≡ is_wanted g me known said w
  pub given : (w : Wanted) → is_among kept.given w ≡ list_any (gives w) said
  pub asked : (w : Wanted) → is_among kept.asked w ≡ list_any (asks w) said

-- The asks learn a word: whatever was known and said, they are the asks where this is known too.
abbrev pub Learns : AskState → AskState → Signed Body → Type 0
Learns old new f = (g : Group) (me : ℕ) → part.Learns (AreAsksOf g me old) (AreAsksOf g me new) (f ∷ [])

-- They say bodies, or are told that these are said.
abbrev pub Says : AskState → AskState → List Body → Type 0
Says old new bodies = (g : Group) (me : ℕ) → part.Says (AreAsksOf g me old) (AreAsksOf g me new) bodies

-- what holds of all that may be known and said where these are the asks
abbrev pub Where : AskState → (Group → ℕ → List (Signed Body) → List Body → Type 0) → Type 0
Where kept Holds = (g : Group) (me : ℕ) (known : List (Signed Body)) (said : List Body) →
    AreAsksOf g me kept known said → Holds g me known said

-- each comes before all after it
abbrev pub AreInOrder : List Wanted → Type 0
AreInOrder [] = Unit {0}
AreInOrder (w ∷ rest) = IsTrue (list_all (comes_before w) rest) × AreInOrder rest

-- the list of all that others want, in order
pub record IsListOfWanted (g : Group) (me : ℕ) (known : List (Signed Body)) (said : List Body)
    (list : List Wanted) : Type 0 where
  pub in_order : AreInOrder list
  pub all : (w : Wanted) → is_among list w ≡ is_wanted g me known said w

-- a request by its master and number
abbrev pub request_at : Option (ℕ × ℕ) → Option Request
request_at None = None
request_at (Some at) = Some record { j = at.0; k = at.1 }

-- what is to be asked for at a tick, unless it was asked for
abbrev pub new_ask : Bool → List Wanted → Option Wanted → Option Wanted
new_ask at_tick asked None = None
new_ask at_tick asked (Some w) = if at_tick && not (is_among asked w) then Some w else None

-- the bodies that ask for it
abbrev pub asks_for : Option Wanted → List Body
asks_for None = []
asks_for (Some w) = ask_for w ∷ []

-- it is the one
abbrev pub is_one : Option Wanted → Wanted → Bool
is_one None w = false
is_one (Some x) w = same_wanted x w

-- the list with it, at its place
abbrev pub put_wanted : Wanted → List Wanted → List Wanted
put_wanted w [] = w ∷ []
put_wanted w (x ∷ rest) =
    if same_wanted w x then x ∷ rest else (if comes_before w x then w ∷ x ∷ rest else x ∷ put_wanted w rest)

abbrev pub with_one : Option Wanted → List Wanted → List Wanted
with_one None list = list
with_one (Some w) list = put_wanted w list
