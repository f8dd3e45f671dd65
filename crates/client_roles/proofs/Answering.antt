-- What the calls of a screen give, as the entry that they make tells it.
use Rattle.std.proofs.Common.{◌≡◌, ◌+◌, ℕ, zero, suc, List, [], ◌∷◌, ◌++◌, take, refl, sym, ap, ◌∙◌}
use Rattle.std.proofs.Common.{subst, arith}
use Rattle.std.specs.Prelude.{Result, Ok, Err, IfOk, OnOk, OnErr}
use Rattle.std.proofs.lemmas.List.{append-nil}
use Rattle.message_types.specs.declared.signed.Signed.{Signed}
use Rattle.message_types.specs.declared.updates.Op.{Op}
use Rattle.message_types.specs.declared.vouchers.Voucher.{Voucher}
use Rattle.message_types.specs.declared.body.Body.{Body}
use Rattle.message_types.specs.declared.body.Body.TheVariants as body
use Rattle.vouched_orders.specs.declared.vote.Vote.{Vote}
use Rattle.vouched_orders.specs.Vouching.{votes_in, counted}
use Rattle.operator_screen.specs.Board.{Desk, ScreenState, IsDeskOf, is_notice}
use Rattle.history_rules.specs.Events as rules
use Rattle.world_entries.specs.declared.entry.Event.{Event}
use Rattle.world_entries.specs.declared.entry.Event.TheVariants as kept
use Rattle.world_entries.specs.Entries.{event_of}
use Rattle.world_rules.specs.Clients.{screen_says}
use Rattle.client_roles.specs.Roles.{IsScreenAfter, desk_at}
use Rattle.client_roles.proofs.Going.{screen_took, no_vote, nothing_cut}

-- a desk to which no count and no vote is added
same_desk : (s : Desk) (k : ℕ) (votes : List Vote) → k ≡ 0 → votes ≡ []
    → s ≡ record s { commands = s.commands + k; votes = s.votes ++ counted is_notice s.client votes }
same_desk s k votes none no_votes =
    let count : s.commands + k ≡ s.commands = omega arith in
    sym (ap (λ (n : ℕ). record s { commands = n; votes = s.votes ++ counted is_notice s.client votes }) count
    ∙ ap (λ (vs : List Vote). record s { votes = s.votes ++ counted is_notice s.client vs }) no_votes
    ∙ ap (λ (vs : List Vote). record s { votes = vs }) (append-nil s.votes))

pub unheard : (s : Desk) (frame : Signed Body) → ((v : Voucher) → frame.body ≡ body.Voucher v → ⊥)
    → s ≡ record s { votes = s.votes ++ counted is_notice s.client (votes_in (frame ∷ [])) }
unheard s frame none =
    sym (ap (λ (vs : List Vote). record s { votes = s.votes ++ counted is_notice s.client vs }) (no_vote frame none)
    ∙ ap (λ (vs : List Vote). record s { votes = vs }) (append-nil s.votes))

no_frame : votes_in [] ≡ []
unfolding votes_in
no_frame = refl

quiet : (s : Desk) (event : Event) → ((stamp place : ℕ) (frame : Signed Body) → event ≡ kept.Took stamp place frame →
    ⊥) → s ≡ desk_at s (event_of event) []
quiet s (kept.Took stamp place frame) none = absurd (none stamp place frame refl)
quiet s kept.Tick none = same_desk s 0 (votes_in []) refl no_frame
quiet s (kept.Command op) none = same_desk s 0 (votes_in []) refl no_frame
quiet s (kept.Field area place value) none = same_desk s 0 (votes_in []) refl no_frame
quiet s kept.Poll none = same_desk s 0 (votes_in []) refl no_frame
quiet s (kept.Cry bytes) none = same_desk s 0 (votes_in []) refl no_frame
quiet s kept.Skip none = same_desk s 0 (votes_in []) refl no_frame
quiet s kept.Restart none = same_desk s 0 (votes_in []) refl no_frame

pub unmoved : (p : ScreenState) (event : Event) (said : List Body) →
    ((stamp place : ℕ) (frame : Signed Body) → event ≡ kept.Took stamp place frame → ⊥) → said ≡ []
    → IsScreenAfter p p (event_of event) said
unmoved p event said none silent s has =
    subst (IsDeskOf p) (quiet s event none ∙ ap (desk_at s (event_of event)) (sym silent)) has

-- a command that there is no room for
pub idle : (p : ScreenState) (event : Event) (op : Op) (said : List Body) → event ≡ kept.Command op → said ≡ [] →
    IsScreenAfter p p (event_of event) said
idle p event op said is silent s has =
    subst (IsDeskOf p)
    (same_desk s 0 (votes_in []) refl no_frame ∙ ap (λ (e : Event). desk_at s (event_of e) []) (sym is)
    ∙ ap (desk_at s (event_of event)) (sym silent)) has

-- commands alone have words
pub wordless : (s : Desk) (event : Event) (room : ℕ) → ((op : Op) → event ≡ kept.Command op → ⊥) →
    [] ≡ take room (screen_says s (event_of event))
wordless s (kept.Took stamp place frame) room none = nothing_cut room
wordless s kept.Tick room none = nothing_cut room
wordless s (kept.Command op) room none = absurd (none op refl)
wordless s (kept.Field area place value) room none = nothing_cut room
wordless s kept.Poll room none = nothing_cut room
wordless s (kept.Cry bytes) room none = nothing_cut room
wordless s kept.Skip room none = nothing_cut room
wordless s kept.Restart room none = nothing_cut room

pub took_unsaid : (s : Desk) (event : Event) (room : ℕ) (words : List Body) (stamp place : ℕ) (frame : Signed Body) →
    event ≡ kept.Took stamp place frame → words ≡ [] → words ≡ take room (screen_says s (event_of event))
took_unsaid s event room words stamp place frame is none =
    none ∙ nothing_cut room ∙ ap (λ (e : Event). take room (screen_says s (event_of e))) (sym is)

-- without room there are none
pub no_room_unsaid : (room : ℕ) (words all : List Body) → room ≡ 0 → words ≡ [] → words ≡ take room all
no_room_unsaid room words all no_room none = none ∙ ap (λ (r : ℕ). take r all) (sym no_room)

pub took : (old new : ScreenState) (event : Event) (said : List Body) (stamp place : ℕ) (frame shown : Signed Body) →
    event ≡ kept.Took stamp place frame → shown ≡ frame → said ≡ []
    → ((s : Desk) → IsDeskOf old s →
    IsDeskOf new (record s { votes = s.votes ++ counted is_notice s.client (votes_in (shown ∷ [])) })) →
    IsScreenAfter old new (event_of event) said
took old new event said stamp place frame shown is same silent goes s has =
    subst (IsDeskOf new)
    (ap (λ (f : Signed Body). record s { votes = s.votes ++ counted is_notice s.client (votes_in (f ∷ [])) }) same
    ∙ screen_took s stamp place frame ∙ ap (λ (e : Event). desk_at s (event_of e) []) (sym is)
    ∙ ap (desk_at s (event_of event)) (sym silent))
    (goes s has)

-- the desk of a screen that counted a command
pub counted_at : (p : ScreenState) (s : Desk) → IsDeskOf p s → IsDeskOf (record p { commands = p.commands + 1 })
    (record s { commands = s.commands + 1 })
counted_at p s is = record {
  same = ap (λ (t : Desk). record t { commands = t.commands + 1; votes = s.votes }) is.same;
  tally = is.tally;
  board = is.board;
}

-- a command's word is that of the desk
pub command_word : (p : ScreenState) (s : Desk) (op : Op) → IsDeskOf p s
    → (let b : Body = body.Update record { client = p.client; t = p.commands + 1; op = op } in b) ≡ body.Update record
    { client = s.client; t = s.commands + 1; op = op }
command_word p s op is = ap (λ (t : Desk). body.Update record { client = t.client; t = t.commands + 1; op = op })
    (sym is.same)

pub commanded : {V E : Type 0} (r : Result V E) (words : V → List Body) (old new : ScreenState) (event : Event)
    (op : Op) → event ≡ kept.Command op
    → IfOk r (λ v. words v ≡ body.Update record { client = old.client; t = old.commands + 1; op = op } ∷ [])
    → OnOk r (new ≡ record old { commands = old.commands + 1 }) →
    IfOk r (λ v. IsScreenAfter old new (event_of event) (words v))
commanded (Err e) words old new event op is said at = tt
commanded (Ok v) words old new event op is said at = λ s has.
    let u : Body = body.Update record { client = s.client; t = s.commands + 1; op = op } in
    let word : words v ≡ u ∷ [] = said ∙ ap (λ (b : Body). b ∷ []) (command_word old s op has) in
    let kept_votes : record s { commands = s.commands + 1 } ≡ desk_at s (rules.Command op) (u ∷ []) =
    sym (ap (λ (vs : List Vote). record s {
      commands = s.commands + 1;
      votes = s.votes ++ counted is_notice s.client vs;
    }) no_frame
    ∙ ap (λ (vs : List Vote). record s { commands = s.commands + 1; votes = vs }) (append-nil s.votes)) in
    let after : IsDeskOf new (record s { commands = s.commands + 1 }) =
    subst (λ (p : ScreenState). IsDeskOf p (record s { commands = s.commands + 1 })) (sym at) (counted_at old s has) in
    subst (IsDeskOf new) (kept_votes ∙ ap (λ (e : Event). desk_at s (event_of e) (u ∷ [])) (sym is)
    ∙ ap (desk_at s (event_of event)) (sym word)) after

-- what a command's answer has, where there is room for it
one_taken : (room : ℕ) (u : Body) → (room ≡ 0 → ⊥) → (let one : List Body = u ∷ [] in one) ≡ take room (u ∷ [])
one_taken zero u some = absurd (some refl)
one_taken (suc n) u some = ap (λ (rest : List Body). u ∷ rest) (nothing_cut n)

pub command_said : {V E : Type 0} (r : Result V E) (words : V → List Body) (old : ScreenState) (event : Event)
    (op : Op) (room : ℕ) → event ≡ kept.Command op → (room ≡ 0 → ⊥)
    → IfOk r (λ v. words v ≡ body.Update record { client = old.client; t = old.commands + 1; op = op } ∷ [])
    → IfOk r (λ v. (s : Desk) → IsDeskOf old s → words v ≡ take room (screen_says s (event_of event)))
command_said (Err e) words old event op room is some said = tt
command_said (Ok v) words old event op room is some said = λ s has.
    let u : Body = body.Update record { client = s.client; t = s.commands + 1; op = op } in
    said ∙ ap (λ (b : Body). b ∷ []) (command_word old s op has) ∙ one_taken room u some
    ∙ ap (λ (e : Event). take room (screen_says s (event_of e))) (sym is)

-- without memory the desk stays
pub desk_stays : {V E : Type 0} (r : Result V E) (old new : ScreenState) → OnErr r (new ≡ old)
    → OnErr r ((s : Desk) → IsDeskOf old s → IsDeskOf new s)
desk_stays (Ok v) old new same = tt
desk_stays (Err e) old new same = λ s has. subst (λ (p : ScreenState). IsDeskOf p s) (sym same) has
