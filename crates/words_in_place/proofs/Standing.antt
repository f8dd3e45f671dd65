-- The frames that a correct master says stand: they have spellings, and their parts are signed and in place.
use Rattle.std.proofs.Common.{◌≡◌, ℕ, ◌+◌, ◌<◌, Bool, true, List, Option, nat_lt, sym, subst, inl, inr, arith}
use Rattle.std.proofs.Common.{eqb-true}
use Rattle.std.specs.List.{list_all}
use Rattle.std.proofs.lemmas.Bool.{and_from, and_parts, ltb-true, lt-ltb}
use Rattle.plain_lists.specs.Lists.{IsIn, Each}
use Rattle.plain_lists.proofs.Members.{in_cons_cases}
use Rattle.message_types.specs.declared.signed.Signed.{Signed}
use Rattle.message_types.specs.declared.body.Body.{Body}
use Rattle.message_types.specs.declared.body.Body.TheVariants as body
use Rattle.message_types.specs.Parts.{parts}
use Rattle.message_types.specs.Spelling.{has_spelling}
use Rattle.protocol_rules.specs.Group.{Group}
use Rattle.protocol_rules.specs.Places.{in_place, word_in_place}
use Rattle.protocol_rules.specs.Master.{Heard, known_at, answers}
use Rattle.history_rules.specs.Setup.{Setup, stands}
use Rattle.agreement.proofs.SpokenByKind.{answers_are_due}
use Rattle.words_in_place.specs.Laws.{MaySpeak}
use Rattle.words_in_place.specs.Spellings.{KnowsSpelled, is_signed, OwnFramesStand}
use Rattle.words_in_place.proofs.Limits.{all_from, all_each}
use Rattle.words_in_place.proofs.Speaking.{answer_inside, own_frame, said_word}
use Rattle.words_in_place.proofs.Spelled.{own_spelled}

-- a part in its place is an actor's
actor_of : (g : Group) (signer : ℕ) (b : Body) (sig : List ℕ) →
    in_place g record { signer = signer; body = b; sig = sig } ≡ true → nat_lt signer (g.n + g.clients) ≡ true
actor_of g signer (body.Update b) sig placed =
    let own = and_parts _ _ (and_parts _ _ (and_parts _ _ placed).0).0 in
    let client : b.client < g.clients = ltb-true b.client g.clients (and_parts _ _ own.0).0 in
    let by : signer ≡ g.n + b.client = eqb-true signer (g.n + b.client) own.1 in
    lt-ltb signer (g.n + g.clients) (omega arith)
actor_of g signer b sig placed =
    let master : signer < g.n =
    ltb-true signer g.n (and_parts (nat_lt signer g.n) (word_in_place g signer b) placed).0 in
    lt-ltb signer (g.n + g.clients) (omega arith)

module _ (w : Setup) (me : ℕ) (before : List Heard) (took : Option (Signed Body)) (at_tick : Bool)
    (speaks : MaySpeak w.group me before took at_tick)
    (spelled : list_all has_spelling (known_at before took) ≡ true)
    (signed : list_all (is_signed w) (known_at before took) ≡ true) where
  part_signed : (f : Signed Body) → is_signed w f ≡ true →
      IsIn f.body (answers w.group w.orders me before took at_tick) → Each (λ p. is_signed w p ≡ true) (parts f)
  part_signed f own h p k = elim (in_cons_cases k) [
    | inl e ↦ subst (λ (z : Signed Body). is_signed w z ≡ true) (sym e) own
    | inr deeper ↦ all_each (is_signed w) (known_at before took) signed p
        (answer_inside w.group w.orders before took f.body
        (answers_are_due w.group w.orders me before took at_tick f.body h) p deeper)
  ]

  frame_stands : (f : Signed Body) → has_spelling f ≡ true → is_signed w f ≡ true → f.signer ≡ me →
      IsIn f.body (answers w.group w.orders me before took at_tick) → stands w f ≡ true
  unfolding stands
  frame_stands f fits own by h = and_from _ _ fits (all_from _ (parts f) (λ p k.
      let placed = own_frame w.group w.orders me before took at_tick speaks f by h p k in
      and_from _ _ (and_from _ _ (actor_of w.group p.signer p.body p.sig placed) (part_signed f own h p k)) placed))

pub own_frames_stand : OwnFramesStand
own_frames_stand w me before took at_tick speaks spelled signed count frames is fit own =
    let knows : KnowsSpelled w.group before took =
    record { sizes = speaks.sizes; placed = speaks.placed; spelled = spelled } in
    all_from (stands w) frames (λ f h.
    let word = said_word w.group w.orders me before took at_tick count frames is f h in
    frame_stands w me before took at_tick speaks spelled signed f
    (own_spelled w.group w.orders me before took at_tick knows count frames is fit f h)
    (all_each (is_signed w) frames own f h) word.0 word.1)
