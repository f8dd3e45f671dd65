-- A vote and the state after it.
use Rattle.std.proofs.Common.{◌≡◌, ◌+◌, ℕ, Bool, true, false, List, [], ◌∷◌, ◌++◌, length, take}
use Rattle.std.proofs.Common.{drop, refl, sym, ap, ◌∙◌, subst}
use Rattle.std.specs.Prelude.{Option, Some, None, ◌&&◌, map, if◌then◌else◌, ℤ, slice_get, replicate, IsSomeAnd}
use Rattle.std.specs.Prelude.{Result, Ok, Err, OnOk}
use Rattle.std.specs.List.{list_all}
use Rattle.std.proofs.lemmas.List.{append-nil, map-append, length-map, drop_at}
use Rattle.std.proofs.lemmas.List.Folds.{list_all-append}
use Rattle.std.proofs.lemmas.Bool.{and_parts}
use Rattle.message_types.specs.declared.vouchers.Order.{Order}
use Rattle.point_table.specs.declared.point.Point.{Point}
use Rattle.vouched_orders.specs.declared.vote.Vote.{Vote}
use Rattle.vouched_orders.specs.Vouching.{counts, counted, done}
use Rattle.point_table.specs.declared.point.DeviceSizes.{DeviceSizes}
use Rattle.point_table.specs.declared.point.Area.{Area}
use Rattle.field_device.specs.Places.{Places, zeros, changed}
use Rattle.plain_lists.specs.Lists.{Begins}
use Rattle.field_proxy.specs.declared.line.Exchange.{Exchange}
use Rattle.field_proxy.specs.declared.line.Line.{Line}
use Rattle.field_proxy.specs.declared.writes.Write.{Write}
use Rattle.field_proxy.specs.Exchanges.{line_after, asked}
use Rattle.field_proxy.specs.Writes.{can_write, order_of, order_requests, after_orders, kept_orders}
use Rattle.field_proxy.specs.Readings.{poll_requests, readings, last_in, told}
use Rattle.vouched_orders.specs.Tally.{Tally, IsTallyOf, MakesDone, TakesVote, TalliesAlike}
use Rattle.vouched_orders.proofs.VouchingLaws.{done-none}
use Rattle.field_proxy.specs.Front.{Front, ProxyState, IsFrontOf, front_with_votes, votes_with, after_change}
use Rattle.field_proxy.specs.Front.{after_orders_done, after_vote, orders_with, poll_passes, vote_passes, polled, after_poll}
use Rattle.field_proxy.specs.Front.{fresh}
use Rattle.message_types.specs.declared.updates.Op.{Op}
use Rattle.field_proxy.proofs.OrderLaws.{after_orders-none, kept_orders-none, orders_kept}
use Rattle.field_proxy.proofs.VoteLaws.{done_passes}

-- a vote that doesn't count, and one that does

none_counted : (can : Order → Bool) (client : ℕ) (vote : Vote) → counts can client vote ≡ false →
    counted can client (vote ∷ []) ≡ []
none_counted can client vote no_count = ap (λ b. if b then vote ∷ [] else []) no_count

one_counted : (can : Order → Bool) (client : ℕ) (vote : Vote) → counts can client vote ≡ true →
    counted can client (vote ∷ []) ≡ vote ∷ []
one_counted can client vote it_counts = ap (λ b. if b then vote ∷ [] else []) it_counts

nothing_new : (writes : List Write) (orders : List Order) → map order_of writes ≡ orders →
    drop (length writes) orders ≡ []
nothing_new writes orders are =
    let size : length orders ≡ length writes = ap length (sym are) ∙ length-map writes order_of in
    ap (drop (length writes)) (sym (append-nil orders)) ∙ drop_at orders [] (length writes) size

no_orders : (s : Front) → after_orders_done s s.votes [] ≡ s
no_orders s =
    ap (λ p. record s {
      votes = s.votes;
      places = p;
      writes =
          s.writes ++ kept_orders s.points s.places (length s.writes + 1) [];
    }) (after_orders-none s.points s.places)
    ∙ ap (λ w. record s { votes = s.votes; places = s.places; writes = s.writes ++ w })
    (kept_orders-none s.points s.places (length s.writes + 1))
    ∙ ap (λ w. record s { votes = s.votes; places = s.places; writes = w }) (append-nil s.writes)

pub vote_ignored : (s : Front) (vote : Vote) → map order_of s.writes ≡ done s.n s.f s.votes
    → counts (can_write s.points s.client) s.client vote ≡ false → after_vote s vote ≡ s
vote_ignored s vote are no_count =
    let same : votes_with s vote ≡ s.votes =
    ap (λ more. s.votes ++ more) (none_counted (can_write s.points s.client) s.client vote no_count)
    ∙ append-nil s.votes in
    ap (λ votes. after_orders_done s votes (drop (length s.writes) (done s.n s.f votes))) same
    ∙ ap (after_orders_done s s.votes) (nothing_new s.writes (done s.n s.f s.votes) are)
    ∙ no_orders s

-- the orders that a vote makes done
orders_are : (s : Front) (vote : Vote) (orders : List Order) → map order_of s.writes ≡ done s.n s.f s.votes
    → counts (can_write s.points s.client) s.client vote ≡ true →
    done s.n s.f (s.votes ++ vote ∷ []) ≡ done s.n s.f s.votes ++ orders → orders_with s vote ≡ orders
orders_are s vote orders are it_counts more =
    let same : votes_with s vote ≡ s.votes ++ vote ∷ [] =
    ap (λ more. s.votes ++ more) (one_counted (can_write s.points s.client) s.client vote it_counts) in
    let size : length (done s.n s.f s.votes) ≡ length s.writes = ap length (sym are) ∙ length-map s.writes order_of in
    ap (λ votes. drop (length s.writes) (done s.n s.f votes)) same
    ∙ ap (drop (length s.writes)) more
    ∙ drop_at (done s.n s.f s.votes) orders (length s.writes) size

pub vote_counted : (s : Front) (vote : Vote) (orders : List Order) → map order_of s.writes ≡ done s.n s.f s.votes
    → counts (can_write s.points s.client) s.client vote ≡ true →
    done s.n s.f (s.votes ++ vote ∷ []) ≡ done s.n s.f s.votes ++ orders
    → after_vote s vote ≡ after_orders_done s (s.votes ++ vote ∷ []) orders
vote_counted s vote orders are it_counts more =
    let same : votes_with s vote ≡ s.votes ++ vote ∷ [] =
    ap (λ more. s.votes ++ more) (one_counted (can_write s.points s.client) s.client vote it_counts) in
    ap (λ votes. after_orders_done s votes (orders_with s vote)) same
    ∙ ap (after_orders_done s (s.votes ++ vote ∷ [])) (orders_are s vote orders are it_counts more)

-- what the state keeps to: the votes are for orders that can be carried out, and the writes are the orders done

pub all_pass_push : (points : List Point) (client : ℕ) (votes : List Vote) (vote : Vote)
    → list_all (λ vote. can_write points client vote.voucher.order) votes ≡ true →
    can_write points client vote.voucher.order ≡ true
    → list_all (λ vote. can_write points client vote.voucher.order) (votes ++ vote ∷ []) ≡ true
all_pass_push points client votes vote all can =
    list_all-append (λ (vote : Vote). can_write points client vote.voucher.order) votes (vote ∷ [])
    ∙ ap (λ b. b && (can_write points client vote.voucher.order && true)) all ∙ ap (λ b. b && true) can

pub new_orders_pass : (points : List Point) (client n f : ℕ) (votes : List Vote) (orders before : List Order)
    → list_all (λ vote. can_write points client vote.voucher.order) votes ≡ true → done n f votes ≡ before ++ orders
    → list_all (can_write points client) orders ≡ true
new_orders_pass points client n f votes orders before all more =
    (and_parts (list_all (can_write points client) before) (list_all (can_write points client) orders)
    (sym (list_all-append (can_write points client) before orders) ∙ ap (list_all (can_write points client)) (sym more)
    ∙ done_passes (can_write points client) n f votes all)).1

pub writes_are_done : (points : List Point) (client n f : ℕ) (votes : List Vote) (vote : Vote) (orders : List Order)
    (d : Places) (writes : List Write)
    → list_all (λ vote. can_write points client vote.voucher.order) votes ≡ true →
    can_write points client vote.voucher.order ≡ true
    → map order_of writes ≡ done n f votes → done n f (votes ++ vote ∷ []) ≡ done n f votes ++ orders
    → map order_of (writes ++ kept_orders points d (length writes + 1) orders) ≡ done n f (votes ++ vote ∷ [])
writes_are_done points client n f votes vote orders d writes all can are more =
    let pass = new_orders_pass points client n f (votes ++ vote ∷ []) orders (done n f votes)
    (all_pass_push points client votes vote all can) more in
    map-append order_of writes (kept_orders points d (length writes + 1) orders)
    ∙ ap (λ front. front ++ map order_of (kept_orders points d (length writes + 1) orders)) are
    ∙ ap (λ rest. done n f votes ++ rest) (orders_kept points client d (length writes + 1) orders pass)
    ∙ sym more

-- a poll, from what was read, cut and told

pub polled_is : (s : Front) (room : ℕ) (all ops : List Op) →
    all ≡ readings s.places s.client s.points (last_in s.lasts) → ops ≡ take room all
    → ops ≡ polled s room
unfolding polled
polled_is s room all ops read cut = cut ∙ ap (take room) read

pub poll_after : (s : Front) (room : ℕ) (places : Places) (line : Line) (lasts : List (Option ℤ)) (count : ℕ)
    (ops : List Op) → ops ≡ polled s room
    → places ≡ s.places → line ≡ asked s.line s.places (poll_requests s.client s.points) →
    lasts ≡ told s.lasts ops → count ≡ length ops
    → record s { places = places; line = line; lasts = lasts; updates = s.updates + count } ≡ after_poll s room
poll_after s room places line lasts count ops is stays passed said size =
    ap (λ p. record s { places = p; line = line; lasts = lasts; updates = s.updates + count }) stays
    ∙ ap (λ l. record s { line = l; lasts = lasts; updates = s.updates + count }) passed
    ∙ ap (λ l. record s {
      line = asked s.line s.places (poll_requests s.client s.points);
      lasts = l;
      updates =
          s.updates + count;
    }) (said ∙ ap (told s.lasts) is)
    ∙ ap (λ m. record s {
      line = asked s.line s.places (poll_requests s.client s.points);
      lasts =
          told s.lasts (polled s room);
      updates = s.updates + m;
    }) (size ∙ ap length is)

-- a proxy made, from its parts
pub front_made : (devices : List DeviceSizes) (client n f : ℕ) (points made : List Point) (device : DeviceSizes)
    (places : Places) (line : Line)
    (lasts : List (Option ℤ)) (count : ℕ) (tally : Tally) (writes : List Write) (broken : List Exchange)
    → slice_get devices client ≡ Some device → made ≡ points → places ≡ zeros device →
    line ≡ record { last = 0; passed = [] } → lasts ≡ replicate count None
    → count ≡ length made → IsTallyOf n f [] tally → writes ≡ []
    → IsSomeAnd (slice_get devices client) (λ device. IsFrontOf (record {
      client = client;
      n = n;
      f = f;
      points = made;
      places = places;
      line = line;
      lasts = lasts;
      updates = 0;
      tally = tally;
      writes = writes;
      broken_off = broken;
    }) (fresh client n f points device))
front_made devices client n f points made device places line lasts count tally writes broken there points_are places_are
    line_is lasts_are count_is nothing no_writes =
    rw there record {
      same = sym (
          ap (λ p. front p places line lasts writes) points_are
          ∙ ap (λ p. front points p line lasts writes) places_are
          ∙ ap (λ l. front points (zeros device) l lasts writes) line_is
          ∙ ap (λ l. front points (zeros device) unused l writes)
          (lasts_are ∙ ap (λ m. replicate m None) (count_is ∙ ap length points_are))
          ∙ ap (λ w. front points (zeros device) unused (replicate (length points) None) w) no_writes);
      tally = nothing;
      possible = refl;
      written = ap (map order_of) no_writes ∙ sym (done-none n f);
    }
  where
    unused : Line
    unused = record { last = 0; passed = [] }

    front : List Point → Places → Line → List (Option ℤ) → List Write → Front
    front points places line lasts writes = record {
      client = client;
      n = n;
      f = f;
      points = points;
      places = places;
      line = line;
      lasts = lasts;
      updates = 0;
      votes = [];
      writes = writes;
    }

-- what was written and taken is the state after the orders
pub taken_is : (s : Front) (places : Places) (line : Line) (votes taken : List Vote)
    (writes : List Write) (orders : List Order)
    → taken ≡ votes → places ≡ after_orders s.points s.places orders →
    line ≡ asked s.line s.places (order_requests s.points orders)
    → writes ≡ s.writes ++ kept_orders s.points s.places (length s.writes + 1) orders
    → record s { votes = taken; places = places; line = line; writes = writes } ≡ after_orders_done s votes orders
taken_is s places line votes taken writes orders votes_are places_are line_is writes_are =
    ap (λ v. record s { votes = v; places = places; line = line; writes = writes }) votes_are
    ∙ ap (λ p. record s { votes = votes; places = p; line = line; writes = writes }) places_are
    ∙ ap (λ l. record s { votes = votes; places = after_orders s.points s.places orders; line = l; writes = writes })
    line_is
    ∙ ap (λ w. record s {
      votes = votes;
      places = after_orders s.points s.places orders;
      line = asked s.line s.places (order_requests s.points orders);
      writes = w;
    }) writes_are

-- fronts of a state

pub front_seen : (p q : ProxyState) (s : Front) → p ≡ q → IsFrontOf q s → IsFrontOf p s
front_seen p q s same is = subst (λ (x : ProxyState). IsFrontOf x s) (sym same) is

pub front_is : (p q : ProxyState) (s : Front) → p ≡ q → IsFrontOf q s → front_with_votes p s.votes ≡ s
front_is p q s same is = ap (λ (x : ProxyState). front_with_votes x s.votes) same ∙ sym is.same

-- the writes of the front are what its votes make done
pub front_written : (p : ProxyState) (s : Front) → IsFrontOf p s → map order_of p.writes ≡ done s.n s.f s.votes
front_written p s is = is.written ∙ ap (λ (t : Front). done t.n t.f s.votes) (sym is.same)

-- what passed for a poll or a voucher that was broken off is no part of the front
pub front_kept : (p : ProxyState) (s : Front) (broken : List Exchange) → IsFrontOf p s →
    IsFrontOf (record p { broken_off = broken }) s
front_kept p s broken is = record {
  same = is.same;
  tally = is.tally;
  possible = is.possible;
  written = is.written;
}

pub front_stays : (p q : ProxyState) (s : Front) → q ≡ record p { broken_off = q.broken_off } → IsFrontOf p s →
    IsFrontOf q s
front_stays p q s same is = subst (λ (x : ProxyState). IsFrontOf x s) (sym same) (front_kept p s q.broken_off is)

pub poll_broken_off : (p q : ProxyState) (places : Places) (broken : List Exchange) → p ≡ q → places ≡ p.places
    → record p { places = places; broken_off = broken } ≡ record q { broken_off = broken }
poll_broken_off p q places broken same stays =
    ap (λ (d : Places). record p { places = d; broken_off = broken }) stays
    ∙ ap (λ (x : ProxyState). record x { broken_off = broken }) same

-- it begins what passes for the whole of it
pub front_polls : (p : ProxyState) (s : Front) (start later : Line) (points : List Point) (broken : List Exchange)
    → IsFrontOf p s → start ≡ record { last = p.line.last; passed = [] } → points ≡ p.points → broken ≡ later.passed
    → Begins later.passed (line_after start p.places (poll_requests p.client points)).passed
    → Begins broken (poll_passes s)
front_polls p s start later points broken is fresh here same begins =
    let first : Line = record { last = p.line.last; passed = [] } in
    let Asked : Line → List Point → List Exchange → Type 0 =
    λ l ps xs. Begins xs (line_after l p.places (poll_requests p.client ps)).passed in
    let asked : Asked first p.points broken =
    subst (λ (xs : List Exchange). Asked first p.points xs) (sym same)
    (subst (λ (ps : List Point). Asked first ps later.passed) here
    (subst (λ (l : Line). Asked l points later.passed) fresh begins)) in
    subst (λ (x : Front). Begins broken (poll_passes x)) (sym is.same) asked

pub front_asks : (p : ProxyState) (s : Front) (vote : Vote) (orders : List Order) (start later : Line)
    (points : List Point) (broken : List Exchange)
    → IsFrontOf p s → counts (can_write p.points p.client) p.client vote ≡ true → MakesDone p.tally vote orders
    → start ≡ record { last = p.line.last; passed = [] } → points ≡ p.points → broken ≡ later.passed
    → Begins later.passed (line_after start p.places (order_requests points orders)).passed
    → Begins broken (vote_passes s vote)
front_asks p s vote orders start later points broken is it_counts makes fresh here same begins =
    let first : Line = record { last = p.line.last; passed = [] } in
    let new : List Order = orders_with (front_with_votes p s.votes) vote in
    let new_are : new ≡ orders =
    orders_are (front_with_votes p s.votes) vote orders is.written it_counts (makes p.n p.f s.votes is.tally) in
    let Asked : Line → List Point → List Order → List Exchange → Type 0 =
    λ l ps os xs. Begins xs (line_after l p.places (order_requests ps os)).passed in
    let asked : Asked first p.points new broken =
    subst (λ (xs : List Exchange). Asked first p.points new xs) (sym same)
    (subst (λ (os : List Order). Asked first p.points os later.passed) (sym new_are)
    (subst (λ (ps : List Point). Asked first ps orders later.passed) here
    (subst (λ (l : Line). Asked l points orders later.passed) fresh begins))) in
    subst (λ (x : Front). Begins broken (vote_passes x vote)) (sym is.same) asked

-- a vote that doesn't count
pub front_ignored : (p : ProxyState) (s : Front) (vote : Vote) → IsFrontOf p s →
    counts (can_write p.points p.client) p.client vote ≡ false → IsFrontOf p (after_vote s vote)
front_ignored p s vote is no_count =
    let Done : Front → Type 0 = λ t. map order_of t.writes ≡ done t.n t.f s.votes in
    let Ignores : Front → Type 0 = λ t. counts (can_write t.points t.client) t.client vote ≡ false in
    subst (IsFrontOf p) (sym (vote_ignored s vote (subst Done (sym is.same) is.written)
    (subst Ignores (sym is.same) no_count))) is

-- a vote that counts: the state once its orders are written
pub front_voted : (p q : ProxyState) (s : Front) (vote : Vote) (orders : List Order) (places : Places)
    (line : Line) (writes : List Write) (broken : List Exchange)
    → IsFrontOf p s → counts (can_write p.points p.client) p.client vote ≡ true → MakesDone p.tally vote orders →
    TakesVote p.tally vote q.tally
    → q ≡ record p { tally = q.tally; places = places; line = line; writes = writes; broken_off = broken }
    → places ≡ after_orders p.points p.places orders → line ≡ asked p.line p.places (order_requests p.points orders)
    → writes ≡ p.writes ++ kept_orders p.points p.places (length p.writes + 1) orders
    → IsFrontOf q (after_vote s vote)
front_voted p q s vote orders places line writes broken is it_counts makes takes now places_are line_is writes_are =
    let t = front_with_votes p s.votes in
    let more : done p.n p.f (s.votes ++ vote ∷ []) ≡ done p.n p.f s.votes ++ orders = makes p.n p.f s.votes is.tally in
    let can = (and_parts _ _ it_counts).1 in
    let after : after_vote s vote ≡ after_orders_done t (s.votes ++ vote ∷ []) orders =
    ap (λ (x : Front). after_vote x vote) is.same ∙ vote_counted t vote orders is.written it_counts more in
    let state : ProxyState =
    record p { tally = q.tally; places = places; line = line; writes = writes; broken_off = broken } in
    let front : IsFrontOf state (after_orders_done t (s.votes ++ vote ∷ []) orders) = record {
      same = sym (taken_is t places line (s.votes ++ vote ∷ []) (s.votes ++ vote ∷ [])
          writes orders refl places_are line_is writes_are);
      tally = takes p.n p.f s.votes is.tally;
      possible = all_pass_push p.points p.client s.votes vote is.possible can;
      written = ap (map order_of) writes_are ∙ writes_are_done p.points p.client p.n p.f s.votes vote orders p.places
          p.writes is.possible can is.written more;
    } in
    subst (λ (x : ProxyState). IsFrontOf x (after_vote s vote)) (sym now) (subst (IsFrontOf state) (sym after) front)

-- a vote for which memory was wanting
pub front_refused : (p q : ProxyState) (s : Front) (places : Places) (writes : List Write) (broken : List Exchange) →
    IsFrontOf p s → TalliesAlike p.tally q.tally
    → q ≡ record p { tally = q.tally; places = places; writes = writes; broken_off = broken } → places ≡ p.places →
    writes ≡ p.writes → IsFrontOf q s
front_refused p q s places writes broken is alike now places_stay writes_stay =
    let state : ProxyState = record p { tally = q.tally; broken_off = broken } in
    let front : IsFrontOf state s = record {
      same = is.same;
      tally = alike p.n p.f s.votes is.tally;
      possible = is.possible;
      written = is.written;
    } in
    subst (λ (x : ProxyState). IsFrontOf x s)
    (sym (now
    ∙ ap (λ (d : Places). record p { tally = q.tally; places = d; writes = writes; broken_off = broken }) places_stay
    ∙ ap (λ (w : List Write). record p { tally = q.tally; writes = w; broken_off = broken }) writes_stay))
    front

-- a change in the field
pub front_moved : (p : ProxyState) (s : Front) (area : Area) (place value : ℕ) (places : Places) → IsFrontOf p s →
    places ≡ changed p.places area place value
    → IsFrontOf (record p { places = places }) (after_change s area place value)
front_moved p s area place value places is moved = record {
  same = ap (λ (t : Front). after_change t area place value) is.same
      ∙ ap (λ (d : Places). record (front_with_votes p s.votes) { places = d }) (sym moved);
  tally = is.tally;
  possible = is.possible;
  written = is.written;
}

pub when_ok : {V E A B : Type 0} (r : Result V E) → OnOk r A → (A → B) → OnOk r B
when_ok (Ok v) a f = f a
when_ok (Err e) a f = tt
