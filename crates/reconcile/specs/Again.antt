-- Asks by the rules that stay alive: what isn't there is asked for, and again at each 16th tick for as long as it isn't.
-- (This project's own.)
use Rattle.std.specs.Prelude.{ℕ, Bool, ◌||◌, not, List, filter, map, take}
use Rattle.std.specs.List.{list_any}
use Rattle.message_types.specs.declared.body.Body.{Body}
use Rattle.protocol_rules.specs.Patience.{is_beat}
use Rattle.protocol_rules.specs.Lacking.{may_ask}
use Rattle.reconcile.specs.declared.wanted.Wanted.{Wanted}
use Rattle.reconcile.specs.Asking.{ask_for, asks, same_wanted, is_among}

-- the asks due for what is lacking, in its order, at most so many
abbrev pub asks_again_due : List Body → ℕ → List Wanted → ℕ → List Body
asks_again_due said now lacking most = map ask_for (take most (filter (λ w. may_ask said now (asks w)) lacking))

-- an ask for it is due, by what was asked for
abbrev pub is_due_kept : List Wanted → ℕ → Wanted → Bool
is_due_kept asked now w = is_beat now || not (is_among asked w)

-- it is one of these
abbrev pub is_one_of : List Wanted → Wanted → Bool
is_one_of list w = list_any (λ x. same_wanted x w) list
