-- The line to the device, request by request.
use Rattle.std.proofs.Common.{◌≡◌, ◌≢◌, ◌<◌, ◌+◌, ℕ, Bool, true, false, List, [], ◌∷◌, ◌++◌, length}
use Rattle.std.proofs.Common.{take, get_or, refl, sym, ap, ◌∙◌, arith, length-append}
use Rattle.std.specs.Prelude.{Option, Some, None, map, filter, nat_eq, slice_get, if◌then◌else◌}
use Rattle.std.proofs.lemmas.List.{append-nil, take_more}
use Rattle.message_types.specs.declared.vouchers.Order.{Order}
use Rattle.message_types.specs.declared.vouchers.Order.TheVariants as order
use Rattle.point_table.specs.declared.point.Point.{Point}
use Rattle.modbus_forms.specs.declared.request.RequestPdu.{RequestPdu}
use Rattle.modbus_forms.specs.Requests.{request_text}
use Rattle.modbus_forms.specs.Replies.{reply_text}
use Rattle.field_device.specs.Places.{Places}
use Rattle.field_device.specs.Table.{after, reply_to}
use Rattle.field_proxy.specs.declared.line.Exchange.{Exchange}
use Rattle.field_proxy.specs.declared.line.Line.{Line}
use Rattle.field_proxy.specs.Exchanges.{read_pdu, request_with, exchange_of, next_transaction, line_with, line_after}
use Rattle.field_proxy.specs.Exchanges.{asked}
use Rattle.field_proxy.specs.Readings.{poll_requests}
use Rattle.field_proxy.specs.Writes.{write_request, after_write, requests_to, requests_of, order_requests}
use Rattle.field_proxy.specs.Writes.{after_orders}
use Rattle.field_proxy.proofs.ExchangeLaws.{after_read}

-- a poll reads one point more. Reads leave the device as it is

line_reads : (line : Line) (d : Places) (client : ℕ) (ps : List Point) (p : Point)
    → line_after line d (poll_requests client (ps ++ p ∷ [])) ≡ line_after
    (line_after line d (poll_requests client ps)) d (poll_requests client (p ∷ []))
line_reads line d client [] p = refl
line_reads line d client (q ∷ ps) p = by (nat_eq q.proxy client) (λ l. line_reads l d client ps p)
  where
    by : (b : Bool)
        → ((l : Line) → line_after l d (poll_requests client (ps ++ p ∷ [])) ≡ line_after
        (line_after l d (poll_requests client ps)) d (poll_requests client (p ∷ [])))
        → line_after line d (map (λ r. read_pdu r.area r.place)
        (if b then q ∷ filter (λ r. nat_eq r.proxy client) (ps ++ p ∷ []) else filter
        (λ r. nat_eq r.proxy client) (ps ++ p ∷ [])))
        ≡ line_after (line_after line d
        (map (λ r. read_pdu r.area r.place) (if b then q ∷ filter (λ r. nat_eq r.proxy client) ps else filter
        (λ r. nat_eq r.proxy client) ps))) d (poll_requests client (p ∷ []))
    by true rest =
        let same = after_read d q.area q.place in
        ap (λ e. line_after (line_with line d (read_pdu q.area q.place)) e (poll_requests client (ps ++ p ∷ []))) same
        ∙ rest (line_with line d (read_pdu q.area q.place))
        ∙ sym (ap (λ e. line_after
        (line_after (line_with line d (read_pdu q.area q.place)) e (poll_requests client ps)) d
        (poll_requests client (p ∷ []))) same)
    by false rest = rest line

pub line_reads_more : (line before now : Line) (d dev : Places) (client : ℕ) (points : List Point) (i : ℕ)
    (p : Point) → i < length points → p ≡ get_or points i p → dev ≡ d
    → before ≡ line_after line d (poll_requests client (take i points)) →
    now ≡ line_after before dev (poll_requests client (p ∷ []))
    → now ≡ line_after line d (poll_requests client (take (i + 1) points))
line_reads_more line before now d dev client points i p less is stays so_far one =
    one ∙ ap (λ e. line_after before e (poll_requests client (p ∷ []))) stays
    ∙ ap (λ l. line_after l d (poll_requests client (p ∷ []))) so_far
    ∙ sym (line_reads line d client (take i points) p)
    ∙ ap (λ ps. line_after line d (poll_requests client ps))
    (sym (take_more points i p less ∙ ap (λ q. take i points ++ q ∷ []) (sym is)))

-- one order more is carried out

line_orders : (line : Line) (d : Places) (points : List Point) (os : List Order) (o : Order)
    → line_after line d (order_requests points (os ++ o ∷ [])) ≡ line_after
    (line_after line d (order_requests points os)) (after_orders points d os) (requests_of points o)
unfolding after_orders
line_orders line d points [] o = ap (line_after line d) (append-nil (requests_of points o))
line_orders line d points (order.Notice n ∷ os) o = line_orders line d points os o
line_orders line d points (order.Write number raw ∷ os) o =
    by (slice_get points number) (λ l e. line_orders l e points os o)
  where
    by : (q : Option Point)
        → ((l : Line) (e : Places) → line_after l e (order_requests points (os ++ o ∷ [])) ≡ line_after
        (line_after l e (order_requests points os)) (after_orders points e os) (requests_of points o))
        → line_after line d (requests_to q raw ++ order_requests points (os ++ o ∷ []))
        ≡ line_after (line_after line d (requests_to q raw ++ order_requests points os))
        (after_orders points (after_write d q raw) os) (requests_of points o)
    by None rest = rest line d
    by (Some p) rest = rest (line_with line d (write_request p raw)) (after d (write_request p raw))

pub line_orders_more : (line before now : Line) (d dev : Places) (points : List Point) (os : List Order) (i : ℕ)
    (o : Order) → i < length os
    → dev ≡ after_orders points d (take i os) → before ≡ line_after line d (order_requests points (take i os))
    → now ≡ line_after before dev (requests_of points (get_or os i o))
    → now ≡ line_after line d (order_requests points (take (i + 1) os))
line_orders_more line before now d dev points os i o less state so_far one =
    one ∙ ap (λ e. line_after before e (requests_of points (get_or os i o))) state
    ∙ ap (λ l. line_after l (after_orders points d (take i os)) (requests_of points (get_or os i o))) so_far
    ∙ sym (line_orders line d points (take i os) (get_or os i o))
    ∙ ap (λ s. line_after line d (order_requests points s)) (sym (take_more os i o less))

-- an order that asks the device, and one to a point that isn't there

pub one_asked : (points : List Point) (line : Line) (d : Places) (o : Order) (number raw : ℕ) (p : Point) →
    o ≡ order.Write number raw → slice_get points number ≡ Some p
    → line_after line d (requests_of points o) ≡ line_with line d (write_request p raw)
one_asked points line d o number raw p is there =
    ap (λ q. line_after line d (requests_of points q)) is
    ∙ ap (λ (q : Option Point). line_after line d (requests_to q raw)) there

pub none_asked : (points : List Point) (line : Line) (d : Places) (o : Order) (number raw : ℕ) →
    o ≡ order.Write number raw → slice_get points number ≡ None
    → line ≡ line_after line d (requests_of points o)
none_asked points line d o number raw is out =
    sym (ap (λ q. line_after line d (requests_of points q)) is
    ∙ ap (λ (q : Option Point). line_after line d (requests_to q raw)) out)

-- requests after which something passed

length-passed : (line : Line) (d : Places) (rs : List RequestPdu) →
    length (line_after line d rs).passed ≡ length line.passed + length rs
unfolding line_with
length-passed line d [] = omega arith
length-passed line d (r ∷ rs) =
    let more = length-passed (line_with line d r) (after d r) rs in
    let grown : length (line_with line d r).passed ≡ length line.passed + 1 = length-append line.passed _ in
    omega arith

-- the line that is kept
pub asked_is : (line start later kept : Line) (d : Places) (rs : List RequestPdu) →
    start ≡ record { last = line.last; passed = [] } → later ≡ line_after start d rs
    → (later.passed ≢ [] → kept ≡ later) → (later.passed ≡ [] → kept ≡ line) → kept ≡ asked line d rs
asked_is line start later kept d [] fresh is some none = none (ap (λ (l : Line). l.passed) (is ∙ fresh))
asked_is line start later kept d (r ∷ rs) fresh is some none =
    some (λ empty.
    let size = length-passed start d (r ∷ rs) in
    let nothing : length (line_after start d (r ∷ rs)).passed ≡ 0 =
    ap (λ (l : Line). length l.passed) (sym is) ∙ ap length empty in
    absurd (omega arith))
    ∙ is ∙ ap (λ l. line_after l d (r ∷ rs)) fresh

-- the line after an exchange, from its parts
pub line_grown : (old used new : Line) (d : Places) (pdu : RequestPdu) (made : Exchange) (transaction : ℕ) →
    transaction ≡ next_transaction old.last
    → used.last ≡ transaction → used.passed ≡ old.passed → made.request ≡ request_text (request_with transaction pdu)
    → made.reply ≡ reply_text (reply_to d (request_with transaction pdu)) → new.last ≡ used.last →
    new.passed ≡ used.passed ++ made ∷ [] → new ≡ line_with old d pdu
unfolding line_with
line_grown old used new d pdu made transaction next used_last used_passed request_is reply_is last_is passed_is =
    let sent : made ≡ exchange_of (next_transaction old.last) d pdu =
    λ x. record {
      request = (request_is ∙ ap (λ (t : ℕ). request_text (request_with t pdu)) next) x;
      reply = (reply_is ∙ ap (λ (t : ℕ). reply_text (reply_to d (request_with t pdu))) next) x;
    } in
    λ x. record {
      last = (last_is ∙ used_last ∙ next) x;
      passed = (passed_is ∙ ap (λ (xs : List Exchange). xs ++ made ∷ []) used_passed
          ∙ ap (λ (e : Exchange). old.passed ++ e ∷ []) sent) x;
    }
