-- What a correct master can be made to say, whatever intruded masters do, by the rules that stay alive: how often it says
-- one and the same thing, how much it says at its own ticks, and how many asks it answers. Each word costs it a one-time
-- key. (This project's own.)
use Rattle.std.specs.Prelude.{◌≡◌, ℕ, ◌+◌, ◌*◌, ◌/◌, ◌<◌, ◌≤◌, Bool, true, ◌&&◌, List, [], ◌∷◌, filter, length, nat_eq, is_some}
use Rattle.std.specs.List.{list_any}
use Rattle.message_types.specs.declared.signed.Signed.{Signed}
use Rattle.message_types.specs.declared.updates.Update.{Update}
use Rattle.message_types.specs.declared.body.Body.{Body}
use Rattle.message_types.specs.declared.body.Body.TheVariants as body
use Rattle.protocol_rules.specs.Words.{numbers_from}
use Rattle.protocol_rules.specs.Group.{Group, is_live, most_number, is_door}
use Rattle.protocol_rules.specs.Facts.{facts_of}
use Rattle.protocol_rules.specs.Preorder.{acks}
use Rattle.protocol_rules.specs.Order.{prepares_said, commits_said, marks_said}
use Rattle.protocol_rules.specs.Views.{reports_said, new_views_said}
use Rattle.protocol_rules.specs.Measures.{suspects_said}
use Rattle.protocol_rules.specs.Reconcile.{updates_asked, orders_asked}
use Rattle.protocol_rules.specs.Turns.{requests_number, number_for}
use Rattle.protocol_rules.specs.Lacking.{share}
use Rattle.protocol_rules.specs.Master.{Heard, said_before, answered_in, vouchers_said}
use Rattle.protocol_rules.specs.declared.limits.TheConstants.{BEAT, SLOW_BEAT, MOST_NUMBERS_ASKED, MOST_REQUESTS_ASKED}
use Rattle.words_by_part.specs.Kinds.{is_of, summing, offering, asking}
use Rattle.history_rules.specs.Events.{Entry}
use Rattle.history_rules.specs.Setup.{Setup, is_correct_master}
use Rattle.history_rules.specs.Legal.{IsLegal, heard}
use Rattle.history_rules.specs.Audit.{HasSaid, NothingForged}
use Rattle.agreement.specs.Laws.{HasSizes, known_by}

-- a correct master of a group that goes by the rules that stay alive, in a legal history
pub record IsBound (w : Setup) (history : List Entry) (m : ℕ) : Type 0 where
  pub live : is_live w.group ≡ true
  pub legal : IsLegal w history
  pub correct : is_correct_master w m ≡ true

-- how many of the words pass the test
abbrev pub times : (Body → Bool) → List Body → ℕ
times such words = length (filter such words)

-- how many ticks there were among these events
abbrev pub ticks_in : List Heard → ℕ
ticks_in events = length (filter (λ e. e.is_tick) events)

-- all that a master said in a history, and how many ticks it had
abbrev pub words_by : Setup → List Entry → ℕ → List Body
words_by w history m = said_before (heard w history m)

abbrev pub ticks_by : Setup → List Entry → ℕ → ℕ
ticks_by w history m = ticks_in (heard w history m)

-- Among these words there is one prepare and one commit at most for a number in a view, one mark for a number, one report
-- into a view and one word that opens it, and one voucher for an order of a client.
pub record AreSaidOnce (words : List Body) : Type 0 where
  pub prepares : (v s : ℕ) → times (prepares_said v s) words ≤ 1
  pub commits : (v s : ℕ) → times (commits_said v s) words ≤ 1
  pub marks : (s : ℕ) → times (marks_said s) words ≤ 1
  pub reports : (v : ℕ) → times (reports_said v) words ≤ 1
  pub new_views : (v : ℕ) → times (new_views_said v) words ≤ 1
  pub vouchers : (c x : ℕ) → times (vouchers_said c x) words ≤ 1

abbrev pub SaidOnce : Type 0
SaidOnce = (w : Setup) (history : List Entry) (m : ℕ) → IsBound w history m → AreSaidOnce (words_by w history m)

-- Among these words of so many ticks there is one request of a number, one acknowledgement of a request, one vote against a
-- view, one ask for a request and one for a number, and besides one more for each 32nd tick, or each 16th.
pub record AreSaidSlowly (words : List Body) (ticks : ℕ) : Type 0 where
  pub requests : (k : ℕ) → times (requests_number k) words ≤ 1 + ticks / SLOW_BEAT
  pub acknowledgements : (j k : ℕ) → times (acks j k) words ≤ 1 + ticks / SLOW_BEAT
  pub votes : (v : ℕ) → times (suspects_said v) words ≤ 1 + ticks / BEAT
  pub update_asks : (j k : ℕ) → times (updates_asked j k) words ≤ 1 + ticks / BEAT
  pub order_asks : (s : ℕ) → times (orders_asked s) words ≤ 1 + ticks / BEAT

abbrev pub SaidSlowly : Type 0
SaidSlowly = (w : Setup) (history : List Entry) (m : ℕ) → IsBound w history m →
    AreSaidSlowly (words_by w history m) (ticks_by w history m)

-- pings, pongs, round trips, reports and bounds of turnaround
abbrev pub measured : List ℕ
measured = 8 ∷ 9 ∷ 10 ∷ 11 ∷ 12 ∷ []

-- Among these words of so many ticks there is a summary a tick and one more for each 32nd, one offered number a tick, and 80
-- asks; and no word about times, however many of these others say.
pub record AreFewATick (words : List Body) (ticks : ℕ) : Type 0 where
  pub summaries : times (is_of summing) words ≤ ticks + ticks / SLOW_BEAT
  pub offers : times (is_of offering) words ≤ ticks
  pub asks : times (is_of asking) words ≤ (MOST_REQUESTS_ASKED + MOST_NUMBERS_ASKED) * ticks
  pub measures : times (is_of measured) words ≡ 0

abbrev pub FewATick : Type 0
FewATick = (w : Setup) (history : List Entry) (m : ℕ) → IsBound w history m →
    AreFewATick (words_by w history m) (ticks_by w history m)

-- how many asks of a master were answered at these events
abbrev pub answered_of : ℕ → List Heard → ℕ
answered_of asker events = length (filter (nat_eq asker) (answered_in events))

-- A correct master answered no more asks of another one than that one's share is in the end: 64, one for each 4 ticks of its
-- own, and four for each number that it has ordered and each request that it has certified.
abbrev pub AsksWithinShare : Type 0
AsksWithinShare = (w : Setup) (history : List Entry) (m asker : ℕ) → IsBound w history m →
    answered_of asker (heard w history m)
    ≤ share w.group (known_by w history m) (facts_of w.group (known_by w history m)) (ticks_by w history m)

-- how many of master j's requests that are for client c, as far as these words tell, are acknowledged among those said
abbrev pub acked_for : List (Signed Body) → List Body → ℕ → ℕ → ℕ
acked_for known said j c =
    length (filter (λ k. list_any (acks j k) said && is_some (number_for known c j k)) (numbers_from 1 most_number))

-- a client of the group that master j is a door of, and that its request k is for
pub record IsForClient (g : Group) (known : List (Signed Body)) (j k : ℕ) : Type 0 where
  pub client : ℕ
  pub counted : client < g.clients
  pub serves : is_door g client j ≡ true
  pub update : is_some (number_for known client j k) ≡ true

-- Where nothing is forged, each request of master j that a correct master acknowledged is for a client that j is a door of;
-- and for each client there are no more of them than that client's updates, by the highest number of one that it said. So an
-- intruded door makes nobody acknowledge more than its clients' updates.
abbrev pub AcksForUpdates : Type 0
AcksForUpdates = (w : Setup) (history : List Entry) (m j : ℕ) → IsBound w history m → HasSizes w.group →
    NothingForged w history
    → ((k : ℕ) → list_any (acks j k) (words_by w history m) ≡ true → IsForClient w.group (known_by w history m) j k)
    × ((c highest : ℕ) → ((u : Update) → u.client ≡ c → HasSaid history (w.group.n + c) (body.Update u) → u.t ≤ highest)
    → acked_for (known_by w history m) (words_by w history m) j c ≤ highest)
