-- What actors say at their entries has inside it only parts that their signers said.
use Rattle.std.proofs.Common.{◌≡◌, ℕ, ◌-◌, Bool, true, false, cond, ◌&&◌, not, List, [], ◌∷◌, length, take, nat_lt}
use Rattle.std.proofs.Common.{refl, sym, ◌∙◌, ap, subst, inl, inr}
use Rattle.std.proofs.lemmas.Bool.{false≢true, ltb-true}
use Rattle.plain_lists.specs.Lists.{IsIn, Each}
use Rattle.plain_lists.proofs.Members.{each_one, each_none, each_map, in_cons_cases, in_take, none_in}
use Rattle.message_types.specs.declared.signed.Signed.{Signed}
use Rattle.message_types.specs.declared.updates.Update.{Update}
use Rattle.message_types.specs.declared.vouchers.Order.{Order}
use Rattle.message_types.specs.declared.body.Body.{Body}
use Rattle.message_types.specs.declared.body.Body.TheVariants as body
use Rattle.message_types.specs.Parts.{parts, inside}
use Rattle.protocol_rules.specs.Group.{Group}
use Rattle.protocol_rules.specs.Master.{taken_at, said_before}
use Rattle.field_proxy.specs.Front.{Front}
use Rattle.operator_screen.specs.Board.{Desk}
use Rattle.scenario_file.specs.Reading.{Contents}
use Rattle.history_rules.specs.Events.{Event, Command, Poll, Entry, frame_taken}
use Rattle.history_rules.specs.Setup.{Setup, is_correct_master, room, own}
use Rattle.history_rules.specs.Legal.{Stands, IsLegal, heard, says, says_in, master_says}
use Rattle.agreement.proofs.KnownAsItGrows.{learned_by, known_then, known_then_from}
use Rattle.agreement.proofs.SpokenByKind.{Due}
use Rattle.agreement.proofs.FramesInside.{due_inside}
use Rattle.agreement.proofs.LearnedWasSaid.{DueThen, first_said, known_closed, learned_all, taken_known}
use Rattle.history_laws.proofs.BenchLists.{intruded_say_nothing}
use Rattle.world_rules.specs.Clients.{front_of, desk_of, proxy_says, screen_says}
use Rattle.world_rules.specs.Scenarios.{setup_of, masters_in, proxies_in, client_in}
use Rattle.world_rules.proofs.Fields.{setup_goes_by}
use Rattle.run_scripts.proofs.UnforgedKnown.{update_digest_size, rows_digest_size}
use Rattle.run_scripts.proofs.UnforgedParts.{HasDigest, IsBorne, borne_whole, IsHonest, honest_before, taken_borne}
use Rattle.agreement.proofs.Places.{stands_in}

digest_due : (g : Group) (orders : List Update → ℕ → List Order) (known taken : List (Signed Body)) (said : List Body)
    (b : Body) → Due g orders known taken said b → HasDigest b
digest_due g orders known taken said (body.PoAck b) due = ap length due.2 ∙ update_digest_size due.0
digest_due g orders known taken said (body.Prepare b) due = ap length due.2 ∙ rows_digest_size due.0
digest_due g orders known taken said (body.Commit b) due = ap length due.2 ∙ rows_digest_size due.0
digest_due g orders known taken said _ due = tt

-- what a correct master learned
learned_borne : (w : Setup) (i : ℕ) (history : List Entry) → IsHonest w history → is_correct_master w i ≡ true →
    Each (IsBorne w history) (learned_by w history i)
learned_borne w i history is correct = learned_all w i history (IsBorne w history) is.legal correct
    (λ before e s by p h. borne_whole s (taken_borne w history before e is s p h))
    (λ before e s by loud known p signer h due. record {
      said = λ right. record { before = before; entry = e; place = s; by = by ∙ sym signer; among = h };
      digest = digest_due w.group w.orders (known_then w before i e)
          (taken_at (heard w before i) (frame_taken e.event)) (said_before (heard w before i)) p.body due;
    })

-- A body of an entry: the frames inside it are borne out, and its digest has 32 bytes.
abbrev pub IsSaidWell : Setup → List Entry → Body → Type 0
IsSaidWell w history b = Each (IsBorne w history) (inside b) × HasDigest b

-- so it is where a correct master's body was due
due_well : (w : Setup) (history before : List Entry) (e : Entry) (i : ℕ) (b : Body) → IsHonest w history →
    Stands history before e → is_correct_master w i ≡ true → DueThen w i before e b → IsSaidWell w history b
due_well w history before e i b is s correct due =
    let known = known_then w before i e in
    let taken = taken_at (heard w before i) (frame_taken e.event) in
    let said = said_before (heard w before i) in
    let earlier : IsHonest w before = honest_before w before (e ∷ s.after) (subst (IsHonest w) s.whole is) in (
      (λ p k. elim (known_then_from w before i e p
          (due_inside w.group w.orders known taken said (taken_known (heard w before i) (frame_taken e.event))
          (known_closed (heard w before i) (frame_taken e.event)) b due p k)) [
            | inl learned ↦ borne_whole s (learned_borne w i before earlier correct p learned)
            | inr part ↦ borne_whole s (taken_borne w history before e is s p part)
          ]),
      digest_due w.group w.orders known taken said b due,
    )

-- What a master says again was due where it said it first.
by_master : (w : Setup) (history before : List Entry) (e : Entry) → IsHonest w history → Stands history before e →
    is_correct_master w e.actor ≡ true → Each (IsSaidWell w history) e.said
by_master w history before e is s correct b h =
    let first = first_said w e.actor b correct history is.legal
    (record { before = before; entry = e; place = s; by = refl; among = h }) in
    due_well w history first.said.before first.said.entry e.actor b is first.said.place correct first.due

-- a client says updates
abbrev IsPlain : Body → Type 0
IsPlain b = (inside b ≡ []) × HasDigest b

proxy_plain : (s : Front) (event : Event) → Each IsPlain (proxy_says s event)
proxy_plain s Poll = each_map IsPlain body.Update _ (λ u h. (refl, tt))
proxy_plain s _ = each_none IsPlain

screen_plain : (s : Desk) (event : Event) → Each IsPlain (screen_says s event)
screen_plain s (Command op) = each_one IsPlain _ (refl, tt)
screen_plain s _ = each_none IsPlain

client_plain : (c : Contents) (actor : ℕ) (list : List Entry) (event : Event) →
    Each IsPlain (client_in c actor list event)
client_plain c actor list event =
    at (nat_lt (actor - masters_in c) (proxies_in c)) _ _
    (proxy_plain (front_of (masters_in c) c.settings.f c.plant (actor - masters_in c) list) event)
    (screen_plain (desk_of (masters_in c) c.settings.f (actor - masters_in c) list) event)
  where
    at : (b : Bool) (xs ys : List Body) → Each IsPlain xs → Each IsPlain ys → Each IsPlain (cond b xs ys)
    at true xs ys one other = one
    at false xs ys one other = other

plain_well : (w : Setup) (history : List Entry) (b : Body) → IsPlain b → IsSaidWell w history b
plain_well w history b plain =
    ((λ p h. absurd (none_in (subst (λ (ps : List (Signed Body)). IsIn p ps) plain.0 h))), plain.1)

client_says : (r : ℕ) (a : Bool) (masters clients bs : List Body) (b : Body) → bs ≡ take r (cond a masters clients) →
    a ≡ false → IsIn b bs → IsIn b clients
client_says r true masters clients bs b e none h = absurd (false≢true (sym none))
client_says r false masters clients bs b e none h = in_take r clients (subst (λ (xs : List Body). IsIn b xs) e h)

by_client : (c : Contents) (history before : List Entry) (e : Entry) → IsLegal (setup_of c) history →
    Stands history before e → nat_lt e.actor (setup_of c).group.n ≡ false
    → Each (IsSaidWell (setup_of c) history) e.said
unfolding says_in
by_client c history before e legal s client b h =
    let w = setup_of c in
    let rule : e.said ≡ says w before e.actor e.event = (legal.entries before e s).said in
    let said = client_says (room w (own before e.actor)) (nat_lt e.actor w.group.n)
    (cond (w.intruded e.actor) [] (master_says w e.actor (own before e.actor) e.event))
    (w.client_says e.actor (own before e.actor) e.event) e.said b rule client h in
    plain_well w history b (client_plain c e.actor (own before e.actor) e.event b
    (subst (λ (bs : List Body). IsIn b bs) ((setup_goes_by c).clients e.actor (own before e.actor) e.event) said))

-- an intruded master says nothing
by_intruded : (w : Setup) (history before : List Entry) (e : Entry) → IsLegal w history → Stands history before e →
    nat_lt e.actor w.group.n ≡ true → w.intruded e.actor ≡ true
    → Each (IsSaidWell w history) e.said
by_intruded w history before e legal s master intruded b h =
    let rule : e.said ≡ says w before e.actor e.event = (legal.entries before e s).said in
    absurd (none_in (subst (λ (bs : List Body). IsIn b bs)
    (rule ∙ intruded_say_nothing w e.actor (own before e.actor) e.event
    (ltb-true e.actor w.group.n master) intruded) h))

pub said_well : (c : Contents) (history before : List Entry) (e : Entry) → IsHonest (setup_of c) history →
    Stands history before e → Each (IsSaidWell (setup_of c) history) e.said
said_well c history before e is s = at (nat_lt e.actor w.group.n) (w.intruded e.actor) refl refl
  where
    w : Setup
    w = setup_of c

    at : (master intruded : Bool) → nat_lt e.actor w.group.n ≡ master → w.intruded e.actor ≡ intruded →
        Each (IsSaidWell w history) e.said
    at false intruded client x = by_client c history before e is.legal s client
    at true true master x = by_intruded w history before e is.legal s master x
    at true false master x = by_master w history before e is s
        (ap (λ (a : Bool). a && not (w.intruded e.actor)) master ∙ ap not x)

-- so is each part of a frame of what was said at an entry
pub frame_borne : (c : Contents) (history : List Entry) (e : Entry) (f : Signed Body) →
    IsHonest (setup_of c) history → IsIn e history → f.signer ≡ e.actor → IsIn f.body e.said
    → Each (IsBorne (setup_of c) history) (parts f)
frame_borne c history e f is within signer among p h =
    let place = stands_in history within in
    let well = said_well c history place.0 e is place.1 f.body among in
    elim (in_cons_cases h) [
      | inl same ↦ subst (λ (q : Signed Body). IsBorne (setup_of c) history q) (sym same)
          (record {
            said = λ right. record {
              before = place.0;
              entry = e;
              place = place.1;
              by = sym signer;
              among =
                  among;
            };
            digest = well.1;
          })
      | inr deeper ↦ well.0 p deeper
    ]
