-- The headline: what holds of every legal history of every scenario while at most f masters are intruded, no word is
-- forged and no digest is shared. (Prime's and PBFT's agreement, and Spire's plant, as this project states them.)
use Rattle.std.specs.Prelude.{◌≡◌, ◌≤◌, ◌<◌, ◌⊎◌, ℕ, ◌+◌, Bool, true, ◌||◌, List, ◌∷◌, ◌++◌, filter, map}
use Rattle.std.specs.List.{list_all, starts_with, enumerate_from}
use Rattle.plain_lists.specs.Lists.{Begins, IsIn}
use Rattle.message_types.specs.declared.updates.Update.{Update}
use Rattle.message_types.specs.declared.body.Body.TheVariants as body
use Rattle.message_types.specs.declared.vouchers.Notice.{Notice}
use Rattle.message_types.specs.declared.vouchers.Order.TheVariants as order
use Rattle.quorum_sets.specs.Masters.{numbers_below}
use Rattle.master_points.specs.Orders.{orders}
use Rattle.field_proxy.specs.declared.writes.Write.{Write}
use Rattle.scenario_file.specs.Reading.{Contents}
use Rattle.scenario_file.specs.Valid.{IsScenario}
use Rattle.agreement.specs.Laws.{FirstTaking}
use Rattle.world_rules.specs.Plant.{numbered_order}
use Rattle.history_rules.specs.Events.{Entry}
use Rattle.history_rules.specs.Setup.{Setup, is_correct_master, own}
use Rattle.history_rules.specs.Legal.{IsLegal, executions}
use Rattle.history_rules.specs.Audit.{HasSaid}
use Rattle.history_rules.specs.Counts.{forged, alike, intruded_masters}
use Rattle.history_rules.specs.Sameness.{is_same_update}
use Rattle.world_rules.specs.Clients.{front_of, desk_of, board_of}
use Rattle.world_rules.specs.Scenarios.{setup_of, group_in, proxies_in}

-- At most f masters are intruded, no word is forged, no digest is shared: by the counts that an audit prints.
pub record Premises (w : Setup) (history : List Entry) : Type 0 where
  pub few : intruded_masters w ≤ w.group.f
  pub unforged : forged w history ≡ 0
  pub unlike : alike w.group history ≡ 0

-- of two lists of updates one begins the other
abbrev pub are_prefixes : List Update → List Update → Bool
are_prefixes xs ys = starts_with is_same_update ys xs || starts_with is_same_update xs ys

-- of any two correct masters' executions one begins the other
unfoldable pub agrees : Setup → List Entry → Bool
agrees w history =
    let correct = filter (is_correct_master w) (numbers_below w.group.n) in
    list_all (λ i. list_all (λ j. are_prefixes (executions w history i) (executions w history j)) correct) correct

-- what the proxy of a client wrote
abbrev pub writes_in : Contents → List Entry → ℕ → List Write
writes_in c history proxy =
    (front_of (group_in c).n (group_in c).f c.plant proxy (own history ((group_in c).n + proxy))).writes

-- Each write of the proxy, as its number, its point and its raw value, is the order of that number that some correct
-- master's executions make for it.
abbrev pub WritesBegin : Contents → List Entry → ℕ → Type 0
WritesBegin c history proxy =
    (i : ℕ) × (is_correct_master (setup_of c) i ≡ true)
    × Begins (map numbered_order (writes_in c history proxy))
    (enumerate_from 1 (orders c.plant c.settings.screens (executions (setup_of c) history i) proxy))

-- what the screen of a client shows
abbrev pub notices_in : Contents → List Entry → ℕ → List Notice
notices_in c history screen =
    board_of (desk_of (group_in c).n (group_in c).f screen (own history ((group_in c).n + screen)))

-- The notices on the screen, in the order in which they are printed, are the first of the orders that some correct master's
-- executions make for it.
abbrev pub BoardBegins : Contents → List Entry → ℕ → Type 0
BoardBegins c history screen =
    (i : ℕ) × (is_correct_master (setup_of c) i ≡ true)
    × Begins (map (λ n. order.Notice n) (notices_in c history screen))
    (orders c.plant c.settings.screens (executions (setup_of c) history i) screen)

-- What a reader may rely on.
pub record Agreed (c : Contents) (history : List Entry) : Type 0 where
  -- of any two correct masters' executions one begins the other
  pub prefixes : (i j : ℕ) → is_correct_master (setup_of c) i ≡ true → is_correct_master (setup_of c) j ≡ true
      → Begins (executions (setup_of c) history i) (executions (setup_of c) history j)
      ⊎ Begins (executions (setup_of c) history j) (executions (setup_of c) history i)
  -- no client and number stand twice there
  pub once : (i : ℕ) (first between last : List Update) (u v : Update)
      → executions (setup_of c) history i ≡ (first ++ u ∷ between) ++ v ∷ last → u.client ≡ v.client → u.t ≡ v.t → ⊥
  -- each update there came to its master in a frame taken, and its client said it at an entry before the first such
  pub said : (i : ℕ) → is_correct_master (setup_of c) i ≡ true → (u : Update) →
      IsIn u (executions (setup_of c) history i)
      → (came : FirstTaking (setup_of c) history i u) × HasSaid came.before ((group_in c).n + u.client) (body.Update u)
  -- each proxy's writes, with their numbers, begin some correct master's orders for it
  pub written : (proxy : ℕ) → proxy < proxies_in c → WritesBegin c history proxy
  -- each screen's notices begin some correct master's orders for it
  pub shown : (screen : ℕ) → proxies_in c ≤ screen → screen < (group_in c).clients → BoardBegins c history screen
  -- so what is printed of agreement is yes
  pub yes : agrees (setup_of c) history ≡ true

-- The headline, of every legal history of every scenario.
abbrev pub HeadlineHolds : Type 0
HeadlineHolds =
    (c : Contents) (history : List Entry) → IsScenario c → IsLegal (setup_of c) history →
    Premises (setup_of c) history → Agreed c history
