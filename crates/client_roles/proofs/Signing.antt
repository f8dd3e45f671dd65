-- The frames of a client's words stand: each is signed, has a spelling, is in its place, and has no frames inside.
use Rattle.std.proofs.Common.{◌≡◌, ◌≤◌, ◌<◌, ◌+◌, ◌-◌, ℕ, suc, Bool, true, false, ◌&&◌, not, nat_lt, List, [], ◌∷◌}
use Rattle.std.proofs.Common.{length, take, min, refl, sym, ap, ◌∙◌, subst, arith}
use Rattle.std.specs.List.{list_all}
use Rattle.std.proofs.lemmas.Bool.{and_from, and_parts, lt-ltb, ltb-true, ltb-false}
use Rattle.std.proofs.lemmas.List.{length-take}
use Rattle.message_types.specs.declared.signed.Signed.{Signed}
use Rattle.message_types.specs.declared.body.Body.{Body}
use Rattle.message_types.specs.declared.body.Body.TheVariants as body
use Rattle.message_types.specs.Parts.{inside}
use Rattle.message_types.specs.Texts.{body_text}
use Rattle.message_types.specs.Spelling.{body_fits, has_spelling, signature_fits}
use Rattle.protocol_rules.specs.Group.{Group}
use Rattle.protocol_rules.specs.Places.{in_place, word_in_place}
use Rattle.history_rules.specs.Leaves.{leaves_for}
use Rattle.history_rules.specs.Setup.{Setup, is_correct, leaves_used, room, signed_from, stands}
use Rattle.words_in_place.specs.Spellings.{is_signed}
use Rattle.world_rules.specs.Scenarios.{client_in, setup_of}
use Rattle.world_rules.proofs.Fields.{group_is}
use Rattle.world_rules.proofs.Signed.{signatures_sign}
use Rattle.client_roles.specs.Laws.{client_actor, ClientFramesStand}
use Rattle.client_roles.proofs.Saying.{behind_masters, client_says_by_room}
use Rattle.client_roles.proofs.Wording.{client_words_fit, client_words_are_in_place}
use Rattle.words_in_place.proofs.Signing.{room_enough}

-- a word in its place that is no master's has no frames inside
none_inside : (g : Group) (signer : ℕ) (b : Body) (sig : List ℕ) → nat_lt signer g.n ≡ false
    → in_place g record { signer = signer; body = b; sig = sig } ≡ true → inside b ≡ []
none_inside g signer (body.Update b) sig behind placed = refl
none_inside g signer b sig behind placed =
    let master : signer < g.n =
    ltb-true signer g.n (and_parts (nat_lt signer g.n) (word_in_place g signer b) placed).0 in
    let other = ltb-false signer g.n behind in
    absurd (omega arith)

module _ (w : Setup) (actor used : ℕ) (said : List Body) (behind : nat_lt actor w.group.n ≡ false)
    (there : nat_lt actor (w.group.n + w.group.clients) ≡ true) where
  one_stands : (b : Body) (sig : List ℕ) → body_fits b ≡ true →
      in_place w.group record { signer = actor; body = b; sig = sig } ≡ true
      → (signature_fits {B = Body} record { signer = actor; body = b; sig = sig }
      && is_signed w record { signer = actor; body = b; sig = sig }) ≡ true
      → stands w record { signer = actor; body = b; sig = sig } ≡ true
  unfolding stands has_spelling
  one_stands b sig fits placed signed =
      let frame : Signed Body = record { signer = actor; body = b; sig = sig } in
      let both = and_parts (signature_fits frame) (is_signed w frame) signed in
      let part = and_from _ _ (and_from _ _ there both.1) placed in
      let whole = ap (λ (fs : List (Signed Body)). list_all
      (λ (p : Signed Body). nat_lt p.signer (w.group.n + w.group.clients) && w.signs p.signer (body_text p.body) p.sig
      && in_place w.group p)
      (frame ∷ fs)) (none_inside w.group actor b sig behind placed) in
      and_from _ _ (and_from _ _ fits both.0) (whole ∙ and_from _ true part refl)

  all_stand : (place : ℕ) (rest : List Body) → list_all body_fits rest ≡ true
      → list_all (λ (b : Body). in_place w.group record { signer = actor; body = b; sig = [] }) rest ≡ true
      → list_all (λ f. signature_fits f && is_signed w f) (signed_from w actor used said place rest) ≡ true
      → list_all (stands w) (signed_from w actor used said place rest) ≡ true
  all_stand place [] fit placed signed = refl
  all_stand place (b ∷ rest) fit placed signed =
      let fits = and_parts _ _ fit in
      let places = and_parts _ _ placed in
      let signatures = and_parts _ _ signed in
      and_from _ _ (one_stands b (w.signature actor used said place) fits.0 places.0 signatures.0)
      (all_stand (suc place) rest fits.1 places.1 signatures.1)

pub client_frames_stand : ClientFramesStand
client_frames_stand c client own e may own_key is =
    let w = setup_of c in
    let actor = client_actor c client in
    let used = leaves_used w own in
    let fit : list_all body_fits e.said ≡ true = ap (list_all body_fits) is.said
    ∙ client_words_fit c client own e.event may in
    let placed : list_all (λ (b : Body). in_place w.group record { signer = actor; body = b; sig = [] }) e.said ≡ true =
    ap (list_all (λ (b : Body). in_place w.group record { signer = actor; body = b; sig = [] })) is.said
    ∙ client_words_are_in_place c client own e.event may in
    let cut : e.said ≡ take (room w own) (client_in c actor own e.event) =
    is.said ∙ client_says_by_room c client own e.event in
    let enough : leaves_for w.shared_leaves (length e.said) ≤ w.leaves - used =
    subst (λ (bs : List Body). leaves_for w.shared_leaves (length bs) ≤ w.leaves - used) (sym cut)
    (room_enough w.shared_leaves (w.leaves - used) (client_in c actor own e.event)) in
    let below : actor < w.group.n + w.group.clients =
    subst (λ (g : Group). actor < g.n + g.clients) (sym (group_is c)) (let there = may.there in omega arith) in
    let correct : is_correct w actor ≡ true =
    ap (λ (b : Bool). not (b && w.intruded actor)) (behind_masters c client) in
    let signed = (signatures_sign c actor may.scenario own_key).signs used e.said below correct enough fit in
    all_stand w actor used e.said (behind_masters c client) (lt-ltb actor (w.group.n + w.group.clients) below)
    0 e.said fit placed signed
