-- Frames that stand, and calls of a keeper.
use Rattle.std.proofs.Common.{◌≡◌, true, ◌+◌, ◌*◌, ◌≤◌, Bool, false, cond, List, [], ◌∷◌, length, arith}
use Rattle.std.proofs.lemmas.Bool.{and_parts}
use Rattle.std.proofs.lemmas.List.{length-append}
use Rattle.message_types.specs.declared.signed.Signed.{Signed}
use Rattle.message_types.specs.declared.body.Body.{Body}
use Rattle.message_types.specs.Spelling.{has_spelling}
use Rattle.history_rules.specs.Setup.{Setup, stands}
use Rattle.history_rules.specs.Events.{Entry, is_restart}
use Rattle.history_rules.specs.Keeping.{Reading, Append, keeper_calls, calls_at}

pub spelled_of_standing : (w : Setup) (f : Signed Body) → stands w f ≡ true → has_spelling f ≡ true
unfolding stands
spelled_of_standing w f stand = (and_parts (has_spelling f) _ stand).0

-- at most two calls an entry
pub calls_few : (list : List Entry) → length (keeper_calls list) ≤ 2 * length list
calls_few [] = omega arith
calls_few (e ∷ rest) =
    let less = calls_few rest in
    let size : length (keeper_calls (e ∷ rest)) ≡ length (calls_at e) + length (keeper_calls rest) =
    length-append (calls_at e) (keeper_calls rest) in
    let few : length (calls_at e) ≤ 2 = two e in
    omega arith
  where
    two : (x : Entry) → length (calls_at x) ≤ 2
    two x = by (is_restart x.event)
      where
        by : (b : Bool) → length (cond b (Reading ∷ Append ∷ []) (Append ∷ [])) ≤ 2
        by true = omega arith
        by false = omega arith
