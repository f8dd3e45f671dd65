-- What others want of a master: what they asked for and it hasn't given.
use Rattle.std.specs.Prelude.{ℕ, Bool, true, false, ◌&&◌, ◌||◌, not, List, Option, Some, None, is_some, nat_eq}
use Rattle.std.specs.Prelude.{nat_le, nat_lt}
use Rattle.std.specs.List.{list_any}
use Rattle.message_types.specs.declared.signed.Signed.{Signed}
use Rattle.message_types.specs.declared.body.Body.{Body}
use Rattle.message_types.specs.declared.body.Body.TheVariants as body
use Rattle.protocol_rules.specs.Group.{Group, most_number}
use Rattle.protocol_rules.specs.Reconcile.{updates_asked, orders_asked, updates_given, orders_given, asks_for_update}
use Rattle.protocol_rules.specs.Reconcile.{asks_for_order}
use Rattle.reconcile.specs.declared.wanted.Wanted.{Wanted}
use Rattle.reconcile.specs.declared.wanted.Wanted.TheVariants.{Request, Number}

-- what a body asks for
abbrev pub wanted_in : Body → Option Wanted
wanted_in word = elim word [
  | body.AskUpdate b ↦ Some (Request b.j b.k)
  | body.AskOrder b ↦ Some (Number b.s)
  | _ ↦ None
]

-- the body that asks for it
abbrev pub ask_for : Wanted → Body
ask_for (Request j k) = body.AskUpdate record { j = j; k = k }
ask_for (Number s) = body.AskOrder record { s = s }

-- the body asks for it
abbrev pub asks : Wanted → Body → Bool
asks (Request j k) = updates_asked j k
asks (Number s) = orders_asked s

-- the body gives it
abbrev pub gives : Wanted → Body → Bool
gives (Request j k) = updates_given j k
gives (Number s) = orders_given s

-- another master than `me` asks for it
abbrev pub other_asks : ℕ → Wanted → Signed Body → Bool
other_asks me (Request j k) = asks_for_update me j k
other_asks me (Number s) = asks_for_order me s

-- there may be such a request of a master of the group, or such a number
abbrev pub is_place : Group → Wanted → Bool
is_place g (Request j k) = nat_lt j g.n && (nat_le 1 k && nat_le k most_number)
is_place g (Number s) = nat_le 1 s && nat_le s most_number

-- Others want it: another master asked for it where these words are known, and it wasn't given in what was said.
abbrev pub is_wanted : Group → ℕ → List (Signed Body) → List Body → Wanted → Bool
is_wanted g me known said w = is_place g w && (list_any (other_asks me w) known && not (list_any (gives w) said))

-- the two are one
abbrev pub same_wanted : Wanted → Wanted → Bool
same_wanted (Request j k) (Request i m) = nat_eq j i && nat_eq k m
same_wanted (Request j k) (Number s) = false
same_wanted (Number s) (Request j k) = false
same_wanted (Number s) (Number t) = nat_eq s t

-- it is one of the list
abbrev pub is_among : List Wanted → Wanted → Bool
is_among list w = list_any (same_wanted w) list

-- requests come before numbers, requests by master and then by their numbers, numbers rising
abbrev pub comes_before : Wanted → Wanted → Bool
comes_before (Request j k) (Request i m) = nat_lt j i || nat_eq j i && nat_lt k m
comes_before (Request j k) (Number s) = true
comes_before (Number s) (Request j k) = false
comes_before (Number s) (Number t) = nat_lt s t

-- the word asks for something
abbrev pub is_ask : Signed Body → Bool
is_ask f = is_some (wanted_in f.body)
