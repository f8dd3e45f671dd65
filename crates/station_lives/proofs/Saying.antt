-- What may be said stays so with more entries, and one after another. The words of an entry that is there may be said, and
-- so may those of all entries from a stamp on.
use Rattle.std.proofs.Common.{◌≡◌, ℕ, Bool, true, false, cond, List, [], ◌∷◌, ◌++◌, nat_le, refl, sym, ◌∙◌, ap, subst}
use Rattle.std.proofs.Common.{append_assoc, append-nil}
use Rattle.std.specs.List.{flat_map}
use Rattle.plain_lists.specs.Lists.{here, there, Within}
use Rattle.message_types.specs.declared.signed.Signed.{Signed}
use Rattle.message_types.specs.declared.body.Body.{Body}
use Rattle.scenario_file.specs.Reading.{Contents}
use Rattle.history_rules.specs.Events.{Entry}
use Rattle.history_rules.specs.Legal.{Stands}
use Rattle.agreement.proofs.Places.{stands_on}
use Rattle.world_rules.specs.Frames.{frames_of}
use Rattle.world_rules.specs.Scenarios.{setup_of}
use Rattle.station_lives.specs.Saying.{SaidBy, nothing, note, word, IsNote, BeginsToSay, word_line, word_lines, words_since}

pub said_more : {c : Contents} {durable : List Entry} {out : List ℕ} (more : List Entry) → SaidBy c durable out →
    SaidBy c (durable ++ more) out
said_more more nothing = nothing
said_more more (note out line whole said is same) = note out line whole (said_more more said) is same
said_more more (word out whole before e frame said at is same) =
    word out whole before e frame (said_more more said) (stands_on more at) is same

pub said_after : {c : Contents} {durable : List Entry} (out : List ℕ) {more : List ℕ} → SaidBy c durable out →
    SaidBy c durable more → SaidBy c durable (out ++ more)
said_after {c} {durable} out first nothing = subst (SaidBy c durable) (sym (append-nil out)) first
said_after out first (note before line whole said is same) =
    note (out ++ before) line (out ++ whole) (said_after out first said) is
    (ap (λ more. out ++ more) same ∙ sym (append_assoc out before line))
said_after {c} out first (word before whole entries e frame said at is same) =
    word (out ++ before) (out ++ whole) entries e frame (said_after out first said) at is
    (ap (λ more. out ++ more) same ∙ sym (append_assoc out before (word_line c e.actor frame)))

pub one_note : (c : Contents) (durable : List Entry) (line : List ℕ) → IsNote line → SaidBy c durable line
one_note c durable line is = note [] line line nothing is refl

frames_said : (c : Contents) (durable before : List Entry) (e : Entry) → Stands durable before e →
    (frames : List (Signed Body)) → Within frames (frames_of (setup_of c) before e) →
    SaidBy c durable (flat_map (word_line c e.actor) frames)
frames_said c durable before e at [] within = nothing
frames_said c durable before e at (frame ∷ rest) within =
    said_after (word_line c e.actor frame)
    (word [] (word_line c e.actor frame) before e frame nothing at (within frame (here rest)) refl)
    (frames_said c durable before e at rest (λ x one. within x (there frame rest one)))

pub entry_said : (c : Contents) (durable before : List Entry) (e : Entry) → Stands durable before e →
    SaidBy c durable (word_lines c before e)
entry_said c durable before e at = frames_said c durable before e at (frames_of (setup_of c) before e) (λ x one. one)

pub since_said : (c : Contents) (durable : List Entry) (stamp : ℕ) (before rest : List Entry) →
    durable ≡ before ++ rest → SaidBy c durable (words_since c stamp before rest)
since_said c durable stamp before [] whole = nothing
since_said c durable stamp before (e ∷ rest) whole =
    said_after (cond (nat_le stamp e.stamp) (word_lines c before e) []) (by (nat_le stamp e.stamp))
    (since_said c durable stamp (before ++ e ∷ []) rest (whole ∙ sym (append_assoc before (e ∷ []) rest)))
  where
    by : (b : Bool) → SaidBy c durable (cond b (word_lines c before e) [])
    by true = entry_said c durable before e (record { after = rest; whole = whole })
    by false = nothing

pub begun_more : {c : Contents} {durable : List Entry} {out : List ℕ} (more : List Entry) → BeginsToSay c durable out →
    BeginsToSay c (durable ++ more) out
begun_more more begun = record { whole = begun.whole; said = said_more more begun.said; begins = begun.begins }
