-- What is due in turn, requests and then acknowledgements, each with those that are said again, as the rules state it.
use Rattle.std.proofs.Common.{◌≡◌, ℕ, ◌+◌, Bool, cond, ◌&&◌, List, [], ◌++◌, Some, sym, subst, ◌∙◌, ap}
use Rattle.std.proofs.Common.{append_assoc}
use Rattle.std.specs.List.{find, flat_map}
use Rattle.std.specs.Option.{option_to_list, option_or}
use Rattle.std.proofs.lemmas.List.Folds.{find-append}
use Rattle.std.proofs.lemmas.List.Elements.{filter_map-append}
use Rattle.message_types.specs.declared.signed.Signed.{Signed}
use Rattle.message_types.specs.declared.updates.Update.{Update}
use Rattle.message_types.specs.declared.body.Body.{Body}
use Rattle.quorum_sets.specs.Masters.{numbers_below}
use Rattle.protocol_rules.specs.Group.{Group}
use Rattle.protocol_rules.specs.Words.{numbers_from}
use Rattle.protocol_rules.specs.Preorder.{acks, request_in, requests_said, vector}
use Rattle.protocol_rules.specs.Turns.{requests_in_turn_due, acks_in_turn_due, requests_number, is_slow_beat}
use Rattle.preorder.specs.PreorderState.{bodies_due_in_turn}
use Rattle.preorder.specs.declared.introducing.Introduced.{Introduced}
use Rattle.preorder.specs.Counted.{IsIntroduced}
use Rattle.preorder.specs.Index.{PairMap}
use Rattle.preorder.specs.Again.{AreOwn, AcknowledgesFirsts}
use Rattle.preorder.proofs.Introductions.{from_below}
use Rattle.preorder.proofs.RequestsInTurn.{turned-acks, introduced-more}
use Rattle.preorder.proofs.AcksInTurn.{turned-requests}
use Rattle.preorder.proofs.Holding.{AcksOnly, only-quiet, only-append, only-turns, only-again, only-request}
use Rattle.preorder.proofs.Holding.{again-requests, introduced-again, own-again, own-more}

-- what is said again
abbrev pub request_at : Bool → Group → ℕ → List (Signed Body) → List Body → List Body
request_at b g me known said = cond b (option_to_list (find (requests_number (vector g known me + 1)) said)) []

abbrev pub acks_at : Bool → Group → ℕ → List (Signed Body) → List Body → List Body
acks_at b g n known said =
    cond b (flat_map (λ j. option_to_list (find (acks j (vector g known j + 1)) said)) (numbers_below n)) []

-- the parts pushed one after another onto an empty list
pub pushed-four : (none first second third bodies requests again turned repeated : List Body) → none ≡ [] →
    first ≡ none ++ requests → second ≡ first ++ again → third ≡ second ++ turned → bodies ≡ third ++ repeated →
    bodies ≡ (requests ++ again) ++ (turned ++ repeated)
pushed-four none first second third bodies requests again turned repeated empty one two three all =
    all ∙ ap (λ xs. xs ++ repeated) (three ∙ ap (λ xs. xs ++ turned) (two ∙ ap (λ xs. xs ++ again)
    (one ∙ ap (λ xs. xs ++ requests) empty)))
    ∙ append_assoc (requests ++ again) turned repeated

-- the bodies due, by a group and a master that are these
pub turned-due : (g h : Group) (me own : ℕ) (taken known : List (Signed Body)) (executed : List Update)
    (said bodies : List Body) (b : Bool) (now : ℕ) (at_tick : Bool) → h ≡ g → own ≡ me →
    b ≡ (at_tick && is_slow_beat now) →
    bodies ≡ (requests_in_turn_due h own taken executed said (numbers_from 0 h.clients) ++ request_at b h own known said)
    ++ (acks_in_turn_due h known said ++ acks_at b h h.n known said) →
    bodies ≡ bodies_due_in_turn g me taken executed known said now at_tick
turned-due g h me own taken known executed said bodies b now at_tick group master beat all =
    all ∙ ap (λ (z : Group). (requests_in_turn_due z own taken executed said (numbers_from 0 z.clients)
    ++ request_at b z own known said) ++ (acks_in_turn_due z known said ++ acks_at b z z.n known said)) group
    ∙ ap (λ m. (requests_in_turn_due g m taken executed said (numbers_from 0 g.clients)
    ++ request_at b g m known said) ++ (acks_in_turn_due g known said ++ acks_at b g g.n known said)) master
    ∙ ap (λ cs. (requests_in_turn_due g me taken executed said cs
    ++ request_at b g me known said) ++ (acks_in_turn_due g known said ++ acks_at b g g.n known said))
    (from_below g.clients)
    ∙ ap (λ x. (requests_in_turn_due g me taken executed said (numbers_below g.clients)
    ++ request_at x g me known said) ++ (acks_in_turn_due g known said ++ acks_at x g g.n known said)) beat

-- they acknowledge only first requests
pub turned-only : (g h : Group) (me own : ℕ) (taken known : List (Signed Body)) (executed : List Update)
    (said : List Body) (cs : List ℕ) (b : Bool) → AcknowledgesFirsts known said →
    AcksOnly known ((requests_in_turn_due h own taken executed said cs ++ request_at b h own known said)
    ++ (acks_in_turn_due g known said ++ acks_at b h h.n known said))
turned-only g h me own taken known executed said cs b told =
    only-append known (requests_in_turn_due h own taken executed said cs ++ request_at b h own known said)
    (acks_in_turn_due g known said ++ acks_at b h h.n known said)
    (only-append known (requests_in_turn_due h own taken executed said cs) (request_at b h own known said)
    (only-quiet known (requests_in_turn_due h own taken executed said cs)
    (λ j k. turned-acks h own taken executed said cs j k))
    (only-request known said (vector h known own + 1) b))
    (only-append known (acks_in_turn_due g known said) (acks_at b h h.n known said) (only-turns g known said)
    (only-again known said (λ j. vector h known j + 1) b (numbers_below h.n) told))

-- how far the requests said went, and the own requests, go by the requests that are new

quiet : (g h : Group) (n : ℕ) (known : List (Signed Body)) (said : List Body) (b : Bool) →
    requests_said (acks_in_turn_due g known said ++ acks_at b h n known said) ≡ []
quiet g h n known said b =
    filter_map-append request_in (acks_in_turn_due g known said) (acks_at b h n known said)
    ∙ ap (λ xs. xs ++ requests_said (acks_at b h n known said)) (turned-requests g known said)
    ∙ again-requests said (λ j. vector h known j + 1) b (numbers_below n)

still : (said requests : List Body) (k : ℕ) (w : Body) → find (requests_number k) said ≡ Some w →
    find (requests_number k) (said ++ requests) ≡ Some w
still said requests k w e = find-append (requests_number k) said requests
    ∙ ap (λ o. option_or o (find (requests_number k) requests)) e

pub turned-introduced : (g h : Group) (own n : ℕ) (known : List (Signed Body)) (said requests bodies : List Body)
    (b : Bool) (introduced : Introduced) →
    bodies ≡ (requests ++ request_at b h own known said)
    ++ (acks_in_turn_due g known said ++ acks_at b h n known said) →
    IsIntroduced (said ++ requests) introduced → IsIntroduced (said ++ bodies) introduced
turned-introduced g h own n known said requests bodies b introduced all is =
    introduced-more said (requests ++ request_at b h own known said)
    (acks_in_turn_due g known said ++ acks_at b h n known said) bodies introduced all (quiet g h n known said b)
    (subst (λ (xs : List Body). IsIntroduced xs introduced)
    (append_assoc said requests (request_at b h own known said))
    (introduced-again (said ++ requests) introduced (vector h known own + 1) b
    (find (requests_number (vector h known own + 1)) said) (still said requests (vector h known own + 1)) is))

pub turned-own : (g h : Group) (own n : ℕ) (known : List (Signed Body)) (said requests bodies : List Body) (b : Bool)
    (map : PairMap (Signed Update)) (keys : List (ℕ × ℕ)) →
    bodies ≡ (requests ++ request_at b h own known said)
    ++ (acks_in_turn_due g known said ++ acks_at b h n known said) →
    AreOwn (said ++ requests) map keys → AreOwn (said ++ bodies) map keys
turned-own g h own n known said requests bodies b map keys all is =
    let again : List Body = request_at b h own known said in
    let more : List Body = acks_in_turn_due g known said ++ acks_at b h n known said in
    subst (λ (xs : List Body). AreOwn xs map keys)
    (append_assoc (said ++ requests) again more
    ∙ append_assoc said requests (again ++ more)
    ∙ ap (λ xs. said ++ xs) (sym (append_assoc requests again more)) ∙ ap (λ xs. said ++ xs) (sym all))
    (own-more ((said ++ requests) ++ again) more map keys (quiet g h n known said b)
    (own-again (said ++ requests) map keys (vector h known own + 1) b
    (find (requests_number (vector h known own + 1)) said) (still said requests (vector h known own + 1)) is))
