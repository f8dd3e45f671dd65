-- A client of a list with one entry more is the client of the list, gone on at that entry.
use Rattle.std.proofs.Common.{◌≡◌, ◌+◌, ℕ, zero, suc, List, [], ◌∷◌, ◌++◌, length, take, map, refl, sym, ap, ◌∙◌}
use Rattle.std.proofs.Common.{arith}
use Rattle.std.specs.Prelude.{unwrap_or}
use Rattle.std.specs.List.{flat_map}
use Rattle.std.proofs.lemmas.Grind.{flat_map-append}
use Rattle.std.proofs.lemmas.List.{append-nil, length-append, length-map, take-map}
use Rattle.std.proofs.lemmas.List.Elements.{filter-append}
use Rattle.message_types.specs.declared.signed.Signed.{Signed}
use Rattle.message_types.specs.declared.updates.Op.{Op}
use Rattle.message_types.specs.declared.updates.Update.{Update}
use Rattle.message_types.specs.declared.vouchers.Voucher.{Voucher}
use Rattle.message_types.specs.declared.body.Body.{Body}
use Rattle.message_types.specs.declared.body.Body.TheVariants as body
use Rattle.message_types.specs.Parts.{parts}
use Rattle.master_points.specs.declared.plant.Plant.{Plant}
use Rattle.vouched_orders.specs.declared.vote.Vote.{Vote}
use Rattle.vouched_orders.specs.Vouching.{votes_in, counts, counted}
use Rattle.field_proxy.specs.Exchanges.{asked}
use Rattle.field_proxy.specs.Readings.{poll_requests, readings, last_in, told, numbered}
use Rattle.field_proxy.specs.Front.{Front, fresh, polled, poll_says, after_poll}
use Rattle.field_proxy.specs.Happenings.{Happening, Vouched, front_with, front_after}
use Rattle.field_proxy.proofs.ReadingLaws.{length-numbered}
use Rattle.operator_screen.specs.Board.{Desk, is_notice}
use Rattle.history_rules.specs.Events.{Took, Poll, Entry}
use Rattle.history_rules.specs.Audit.{parts_taken}
use Rattle.world_rules.specs.Clients.{happenings_of, device_of, front_of, desk_of, proxy_says}
use Rattle.world_rules.proofs.Votes.{no_vote_inside, votes_in-append}
use Rattle.client_roles.specs.Roles.{front_at, desk_at}
use Rattle.client_roles.specs.Laws.{ProxiesBeginFresh, ScreensBeginFresh}

pub front_after-append : (s : Front) (xs ys : List Happening) →
    front_after s (xs ++ ys) ≡ front_after (front_after s xs) ys
front_after-append s [] ys = refl
front_after-append s (x ∷ xs) ys = front_after-append (front_with s x) xs ys

pub front_more : (n f client : ℕ) (plant : Plant) (own : List Entry) (e : Entry)
    → front_of n f plant client (own ++ e ∷ []) ≡ front_at (front_of n f plant client own) e.event e.said
unfolding front_of
front_more n f client plant own e =
    let start = fresh client n f plant.points (device_of plant client) in
    ap (front_after start) (flat_map-append happenings_of own (e ∷ [])
    ∙ ap (λ (hs : List Happening). flat_map happenings_of own ++ hs) (append-nil (happenings_of e)))
    ∙ front_after-append start (flat_map happenings_of own) (happenings_of e)

-- the votes of a frame taken are its own
votes_taken : (frame : Signed Body) → votes_in (flat_map parts (frame ∷ [])) ≡ votes_in (frame ∷ [])
votes_taken frame = ap votes_in (append-nil (parts frame)) ∙ no_vote_inside frame

pub proxy_took : (s : Front) (stamp place : ℕ) (frame : Signed Body) →
    front_after s (map Vouched (votes_in (frame ∷ []))) ≡ front_at s (Took stamp place frame) []
proxy_took s stamp place frame = ap (λ (votes : List Vote). front_after s (map Vouched votes)) (sym (votes_taken frame))

-- what is cut to its own length stays
take_again : {X : Type 0} (room : ℕ) (xs : List X) → take (length (take room xs)) xs ≡ take room xs
take_again zero [] = refl
take_again zero (x ∷ xs) = refl
take_again (suc room) [] = refl
take_again (suc room) (x ∷ xs) = ap (λ (ys : List _). x ∷ ys) (take_again room xs)

numbered-take : (client t room : ℕ) (ops : List Op) →
    numbered client t (take room ops) ≡ take room (numbered client t ops)
unfolding numbered
numbered-take client t zero [] = refl
numbered-take client t zero (o ∷ ops) = refl
numbered-take client t (suc room) [] = refl
numbered-take client t (suc room) (o ∷ ops) =
    ap (λ (us : List Update). record { client = client; t = t; op = o } ∷ us) (numbered-take client (suc t) room ops)

polled_again : (s : Front) (room : ℕ) → polled s (length (polled s room)) ≡ polled s room
unfolding polled
polled_again s room = take_again room (readings s.places s.client s.points (last_in s.lasts))

abbrev as_body : Update → Body
as_body u = body.Update u

-- a poll with words, as its entry tells it
pub poll_counted : (s : Front) (room : ℕ) (said : List Body) → said ≡ map body.Update (poll_says s room) →
    after_poll s room ≡ after_poll s (length said)
poll_counted s room said is =
    let same : length (polled s room) ≡ length said =
    sym (ap length is ∙ length-map (poll_says s room) as_body
    ∙ length-numbered s.client (s.updates + 1) (polled s room)) in
    ap (λ (ops : List Op). record s {
      line = asked s.line s.places (poll_requests s.client s.points);
      lasts =
          told s.lasts ops;
      updates = s.updates + length ops;
    })
    (sym (polled_again s room)) ∙ ap (after_poll s) same

pub poll_words : (s : Front) (room : ℕ) → map body.Update (poll_says s room) ≡ take room (proxy_says s Poll)
unfolding polled
poll_words s room =
    let all = readings s.places s.client s.points (last_in s.lasts) in
    ap (map as_body) (numbered-take s.client (s.updates + 1) room all)
    ∙ sym (take-map as_body room (numbered s.client (s.updates + 1) all))

pub desk_more : (n f client : ℕ) (own : List Entry) (e : Entry) →
    desk_of n f client (own ++ e ∷ []) ≡ desk_at (desk_of n f client own) e.event e.said
unfolding desk_of
desk_more n f client own e =
    let words = flat_map-append (λ (b : Entry). b.said) own (e ∷ [])
    ∙ ap (λ (bs : List Body). flat_map (λ (b : Entry). b.said) own ++ bs) (append-nil e.said) in
    let frames = flat_map-append parts_taken own (e ∷ [])
    ∙ ap (λ (fs : List (Signed Body)). flat_map parts_taken own ++ fs) (append-nil (parts_taken e)) in
    let count : length (flat_map (λ (b : Entry). b.said) (own ++ e ∷ [])) ≡ length
    (flat_map (λ (b : Entry). b.said) own) + length e.said =
    ap length words ∙ length-append (flat_map (λ (b : Entry). b.said) own) e.said in
    let votes : counted is_notice client (votes_in (flat_map parts_taken (own ++ e ∷ [])))
    ≡ counted is_notice client (votes_in (flat_map parts_taken own))
    ++ counted is_notice client (votes_in (parts_taken e)) =
    ap (λ (fs : List (Signed Body)). counted is_notice client (votes_in fs)) frames
    ∙ ap (counted is_notice client) (votes_in-append (flat_map parts_taken own) (parts_taken e))
    ∙ filter-append (counts is_notice client) (votes_in (flat_map parts_taken own)) (votes_in (parts_taken e)) in
    ap (λ (k : ℕ). the_desk k (counted is_notice client (votes_in (flat_map parts_taken (own ++ e ∷ []))))) count
    ∙ ap (λ (vs : List Vote). the_desk (length (flat_map (λ (b : Entry). b.said) own) + length e.said) vs) votes where
      the_desk : ℕ → List Vote → Desk
      the_desk k vs = record { client = client; n = n; f = f; commands = k; votes = vs }

pub screen_took : (s : Desk) (stamp place : ℕ) (frame : Signed Body)
    → record s { votes = s.votes ++ counted is_notice s.client (votes_in (frame ∷ [])) } ≡ desk_at s
    (Took stamp place frame) []
screen_took s stamp place frame =
    ap (λ (votes : List Vote). record s { votes = s.votes ++ counted is_notice s.client votes })
    (sym (votes_taken frame))
    ∙ ap (λ (k : ℕ). record s {
      commands = k;
      votes =
          s.votes ++ counted is_notice s.client (votes_in (flat_map parts (frame ∷ [])));
    })
    (let e : s.commands ≡ s.commands + 0 = omega arith in e)

pub proxies_begin_fresh : ProxiesBeginFresh
unfolding front_of
proxies_begin_fresh n f client plant device there =
    ap (λ o. fresh client n f plant.points (unwrap_or o (record { coils = 0; discrete = 0; holding = 0; input = 0 })))
    there

pub screens_begin_fresh : ScreensBeginFresh
unfolding desk_of votes_in
screens_begin_fresh n f client = refl

-- a voucher's vote; any other frame has none
pub one_vote : (frame : Signed Body) (v : Voucher) → frame.body ≡ body.Voucher v →
    votes_in (frame ∷ []) ≡ record { signer = frame.signer; voucher = v } ∷ []
unfolding votes_in
one_vote frame v is =
    ap (λ (b : Body). (elim b [ body.Voucher x ↦ record { signer = frame.signer; voucher = x } ∷ [] | _ ↦ [] ]) ++ [])
    is

pub no_vote : (frame : Signed Body) → ((v : Voucher) → frame.body ≡ body.Voucher v → ⊥) → votes_in (frame ∷ []) ≡ []
unfolding votes_in
no_vote frame none = by frame.body refl where
  by : (b : Body) → frame.body ≡ b → votes_in (frame ∷ []) ≡ []
  by (body.Voucher v) is = absurd (none v is)
  by b is = ap (λ (x : Body).
      (elim x [ body.Voucher y ↦ record { signer = frame.signer; voucher = y } ∷ [] | _ ↦ [] ]) ++ []) is

pub nothing_cut : (room : ℕ) → [] ≡ take room (let e : List Body = [] in e)
nothing_cut zero = refl
nothing_cut (suc room) = refl
