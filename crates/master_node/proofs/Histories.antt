-- A master by its own events and by a history.
use Rattle.std.proofs.Common.{◌≡◌, ℕ, ◌+◌, ◌-◌, Bool, true, false, cond, ◌&&◌, not, List, [], ◌∷◌, ◌++◌, length, take}
use Rattle.std.proofs.Common.{nat_eq, nat_lt, refl, sym, ◌∙◌, ap, subst, arith, eqb-true}
use Rattle.std.proofs.lemmas.Bool.{false≢true}
use Rattle.std.proofs.lemmas.List.{length-map}
use Rattle.plain_lists.specs.Lists.{here, there}
use Rattle.plain_lists.proofs.Members.{in_filter_from}
use Rattle.message_types.specs.declared.signed.Signed.{Signed}
use Rattle.message_types.specs.declared.body.Body.{Body}
use Rattle.protocol_rules.specs.Master.{Heard, answers}
use Rattle.history_rules.specs.Events.{Entry, frame_taken, is_tick, is_silent}
use Rattle.history_rules.specs.Leaves.{leaves_for, room_of}
use Rattle.history_rules.specs.Setup as setup
use Rattle.history_rules.specs.Setup.{Setup, heard_from, signed_from, own, room}
use Rattle.history_rules.specs.Legal.{heard_in, says_in}
use Rattle.agreement.proofs.KnownAsItGrows.{hears, signed_from_bodies, correct_said}
use Rattle.master_node.specs.Charge.{leaves_used, says_at}
use Rattle.master_node.specs.Running.{IsRunning}
use Rattle.master_node.specs.Laws.{SilentSayNothing, SaysAsHistoriesDo, SilentSayNothingInHistories, TicksAreHeard}
use Rattle.master_node.specs.Laws.{NothingToSign, KeepsItsCharge}
use Rattle.words_in_place.proofs.Measuring.{ticks_told}
use Rattle.master_node.proofs.Steps.{handed_so}
use Rattle.history_rules.proofs.Entries.{empty_from}
use Rattle.agreement.proofs.Places.{stands_in}

pub silent_say_nothing : SilentSayNothingInHistories
unfolding own
silent_say_nothing w history i legal correct e h silent =
    let from = in_filter_from (λ (x : Entry). nat_eq x.actor i) history h in
    let place = stands_in history from.0 in
    empty_from e.said (λ b k. false≢true
    (sym (correct_said w i b legal place.1 (eqb-true e.actor i from.1) correct k).0 ∙ silent))

used_alike : (w : Setup) (i used : ℕ) (es : List Entry) → SilentSayNothing es →
    leaves_used w.shared_leaves (heard_from w i used es) ≡ setup.leaves_used w es
used_alike w i used [] each = refl
used_alike w i used (e ∷ rest) each =
    by (is_silent e.event) refl (used_alike w i (used + leaves_for w.shared_leaves (length e.said)) rest
    (λ x h. each x (there e rest h)))
  where
    later : List Heard
    later = heard_from w i (used + leaves_for w.shared_leaves (length e.said)) rest

    many : length (signed_from w i used e.said 0 e.said) ≡ length e.said
    many = sym (length-map (signed_from w i used e.said 0 e.said) (λ (f : Signed Body). f.body))
        ∙ ap length (signed_from_bodies w i used 0 e.said e.said)

    none_used : (shared : Bool) → leaves_for shared 0 ≡ 0
    none_used true = refl
    none_used false = refl

    by : (b : Bool) → is_silent e.event ≡ b → leaves_used w.shared_leaves later ≡ setup.leaves_used w rest →
        leaves_used w.shared_leaves (cond (is_silent e.event) later (hears w i used e ∷ later)) ≡ leaves_for
        w.shared_leaves (length e.said) + setup.leaves_used w rest
    by true silent same =
        let none : leaves_for w.shared_leaves (length e.said) ≡ 0 =
        ap (λ (bs : List Body). leaves_for w.shared_leaves (length bs)) (each e (here rest) silent)
        ∙ none_used w.shared_leaves in
        ap (λ b. leaves_used w.shared_leaves (cond b later (hears w i used e ∷ later))) silent ∙ same ∙ (omega arith)
    by false loud same =
        ap (λ b. leaves_used w.shared_leaves (cond b later (hears w i used e ∷ later))) loud
        ∙ ap (λ n. leaves_for w.shared_leaves n + leaves_used w.shared_leaves later) many
        ∙ ap (λ n. leaves_for w.shared_leaves (length e.said) + n) same

rule_of : (r : ℕ) (a x s : Bool) (due other : List Body) → (a && not x) ≡ true → s ≡ false →
    take r due ≡ take r (cond a (cond x [] (cond s [] due)) other)
rule_of r true false false due other correct loud = refl
rule_of r true false true due other correct loud = absurd (false≢true (sym loud))
rule_of r true true s due other correct loud = absurd (false≢true correct)
rule_of r false x s due other correct loud = absurd (false≢true correct)

pub says_as_histories_do : SaysAsHistoriesDo
unfolding says_in heard_in says_at
says_as_histories_do w i own event correct quiet loud =
    ap (λ n. take (room_of w.shared_leaves (w.leaves - n))
    (answers w.group w.orders i (heard_in w i own) (frame_taken event) (is_tick event)))
    (used_alike w i 0 own quiet)
    ∙ rule_of (room w own) (nat_lt i w.group.n) (w.intruded i) (is_silent event)
    (answers w.group w.orders i (heard_in w i own) (frame_taken event) (is_tick event))
    (w.client_says i own event) correct loud

pub ticks_are_heard : TicksAreHeard
ticks_are_heard c kept before is = is.keeps.is_replica.knows.ticks_told ∙ ticks_told c.group [] before

pub nothing_to_sign : NothingToSign
nothing_to_sign c kept before took at_tick h none =
    subst (λ (own : List (Signed Body)). IsRunning c (record kept { unheard = own })
    (before ++ record { took = took; is_tick = at_tick; said = [] } ∷ [])) (sym h.unheard)
    (handed_so c kept before took at_tick [] h (record { own = refl; words = sym none }))

pub keeps_its_charge : KeepsItsCharge
keeps_its_charge c kept before is = (is.keeps.is_replica.knows.preorder.group, is.keeps.is_replica.own, is.leaves)
