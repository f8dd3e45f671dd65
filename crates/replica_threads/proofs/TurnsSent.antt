-- What was posted of an actor's turns: turns after turns.
use Rattle.std.proofs.Common.{◌≡◌, ℕ, List, [], ◌∷◌, ◌++◌, All, refl, sym, ◌∙◌, ap, subst, append-nil}
use Rattle.std.specs.List.{flat_map}
use Rattle.std.proofs.lemmas.List.Elements.{All-nil, All-cons, All-head, All-tail, All-push}
use Rattle.std.proofs.lemmas.Grind.{flat_map-append}
use Rattle.scenario_file.specs.Reading.{Contents}
use Rattle.station_turns.specs.declared.held.Turned.{Turned}
use Rattle.station_turns.specs.Naming.{RunName}
use Rattle.inboxes.specs.declared.pass.InboxPass.{InboxPass}
use Rattle.replica_threads.specs.declared.posted.Posted.{Posted}
use Rattle.replica_threads.specs.Letters.{letters, HaveSent, IsTurnOf, HaveSentTurns}
use Rattle.replica_threads.proofs.Sending.{nothing_sent, sent_more, sent_as}

all_both : {X : Type 0} (P : X → Type 0) (xs ys : List X) → All P xs → All P ys → All P (xs ++ ys)
all_both P [] ys these those = those
all_both P (x ∷ xs) ys these those =
    All-cons P x (xs ++ ys) (All-head P x xs these) (all_both P xs ys (All-tail P x xs these) those)

module _ (name : RunName) (actor : ℕ) where
  no_turns : All (IsTurnOf name actor) []
  no_turns = All-nil (IsTurnOf name actor)

  pub none_sent : (passes : List (InboxPass Posted)) → HaveSentTurns name actor passes passes
  none_sent passes = record { turns = []; each = no_turns; sent = nothing_sent passes }

  pub quiet_sent : (a b : List (InboxPass Posted)) → HaveSent a [] b → HaveSentTurns name actor a b
  quiet_sent a b quiet = record { turns = []; each = no_turns; sent = quiet }

  pub then_sent : (a b c : List (InboxPass Posted)) → HaveSentTurns name actor a b → HaveSentTurns name actor b c →
      HaveSentTurns name actor a c
  then_sent a b c first then = record {
    turns = first.turns ++ then.turns;
    each = all_both (IsTurnOf name actor) first.turns then.turns first.each then.each;
    sent = sent_as a c (flat_map (letters name.scenario actor) first.turns
        ++ flat_map (letters name.scenario actor) then.turns)
        (flat_map (letters name.scenario actor) (first.turns ++ then.turns))
        (sym (flat_map-append (letters name.scenario actor) first.turns then.turns))
        (sent_more a b c (flat_map (letters name.scenario actor) first.turns)
        (flat_map (letters name.scenario actor) then.turns) first.sent then.sent);
  }

  pub turn_sent : (c : Contents) (t : Turned) (a b d : List (InboxPass Posted)) → c ≡ name.scenario →
      HaveSent a [] b → IsTurnOf name actor t → HaveSent b (letters c actor t) d → HaveSentTurns name actor a d
  turn_sent c t a b d same quiet is sent = record {
    turns = t ∷ [];
    each = All-push (IsTurnOf name actor) [] t no_turns is;
    sent = sent_as a d (letters c actor t) (letters name.scenario actor t ++ [])
        (ap (λ (x : Contents). letters x actor t) same ∙ sym (append-nil (letters name.scenario actor t)))
        (sent_more a b d [] (letters c actor t) quiet sent);
  }
