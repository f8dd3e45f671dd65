-- What passed for a beginning of what is asked begins what passes for all of it.
use Rattle.std.proofs.Common.{◌≡◌, ◌<◌, ◌+◌, ℕ, Bool, true, false, List, [], ◌∷◌, ◌++◌, length, take, drop, get_or, map}
use Rattle.std.proofs.Common.{filter, nat_eq, if◌then◌else◌, sym, refl, ap, ◌∙◌, subst, append_assoc, inl, inr}
use Rattle.std.specs.Prelude.{◌⊎◌, Result, Ok, Err, OnOk}
use Rattle.std.proofs.lemmas.List.{append-nil, take-append-drop}
use Rattle.plain_lists.specs.Lists.{Begins}
use Rattle.message_types.specs.declared.vouchers.Order.{Order}
use Rattle.point_table.specs.declared.point.Point.{Point}
use Rattle.modbus_forms.specs.declared.request.RequestPdu.{RequestPdu}
use Rattle.field_device.specs.Places.{Places}
use Rattle.field_device.specs.Table.{after}
use Rattle.field_proxy.specs.declared.line.Exchange.{Exchange}
use Rattle.field_proxy.specs.declared.line.Line.{Line}
use Rattle.field_proxy.specs.Exchanges.{read_pdu, exchange_of, next_transaction, line_with, line_after}
use Rattle.field_proxy.specs.Readings.{poll_requests}
use Rattle.field_proxy.specs.Writes.{requests_of, order_requests, after_orders}
use Rattle.field_proxy.proofs.LineLaws.{line_orders_more, line_reads_more}

-- nothing begins all, and all begins itself
pub nothing_passed : (broken all : List Exchange) → broken ≡ [] → Begins broken all
nothing_passed broken all none = record { rest = all; same = sym (ap (λ (xs : List Exchange). xs ++ all) none) }

pub all_passed : (line all : Line) → line ≡ all → Begins line.passed all.passed
all_passed line all same = record {
  rest = [];
  same = sym (append-nil line.passed ∙ ap (λ (l : Line). l.passed) same);
}

-- what passes later goes behind what passed
passed_more : (line : Line) (d : Places) (rs : List RequestPdu) → Begins line.passed (line_after line d rs).passed
unfolding line_with
passed_more line d [] = record { rest = []; same = sym (append-nil line.passed) }
passed_more line d (r ∷ rs) =
    let more = passed_more (line_with line d r) (after d r) rs in
    let one : Exchange = exchange_of (next_transaction line.last) d r in
    record { rest = one ∷ more.rest; same = more.same ∙ append_assoc line.passed (one ∷ []) more.rest }

requests_begin : (line : Line) (d : Places) (rs more all : List RequestPdu) → rs ++ more ≡ all
    → Begins (line_after line d rs).passed (line_after line d all).passed
requests_begin line d rs more all is =
    subst (λ (xs : List RequestPdu). Begins (line_after line d rs).passed (line_after line d xs).passed) is
    (begin line d rs more)
  where
    begin : (line : Line) (d : Places) (rs more : List RequestPdu)
        → Begins (line_after line d rs).passed (line_after line d (rs ++ more)).passed
    begin line d [] more = passed_more line d more
    begin line d (r ∷ rs) more = begin (line_with line d r) (after d r) rs more

-- of orders each is carried out or not

orders_joined : (points : List Point) (os more : List Order)
    → order_requests points (os ++ more) ≡ order_requests points os ++ order_requests points more
orders_joined points [] more = refl
orders_joined points (o ∷ os) more =
    ap (λ rs. requests_of points o ++ rs) (orders_joined points os more)
    ∙ sym (append_assoc (requests_of points o) (order_requests points os) (order_requests points more))

pub orders_begun : (line before now : Line) (d dev : Places) (points : List Point) (os : List Order) (i : ℕ) (o : Order)
    → i < length os → dev ≡ after_orders points d (take i os)
    → before ≡ line_after line d (order_requests points (take i os))
    → (now.passed ≡ before.passed) ⊎ (now ≡ line_after before dev (requests_of points (get_or os i o)))
    → Begins now.passed (line_after line d (order_requests points os)).passed
orders_begun line before now d dev points os i o less state so_far may = elim may [
  | inl none ↦ some i (none ∙ ap (λ (l : Line). l.passed) so_far)
  | inr one ↦ some (i + 1) (ap (λ (l : Line). l.passed)
      (line_orders_more line before now d dev points os i o less state so_far one))
]
  where
    some : (k : ℕ) → now.passed ≡ (line_after line d (order_requests points (take k os))).passed
        → Begins now.passed (line_after line d (order_requests points os)).passed
    some k passed =
        subst (λ (xs : List Exchange). Begins xs (line_after line d (order_requests points os)).passed) (sym passed)
        (requests_begin line d (order_requests points (take k os)) (order_requests points (drop k os))
        (order_requests points os)
        (sym (orders_joined points (take k os) (drop k os)) ∙ ap (order_requests points) (take-append-drop k os)))

-- the same of a poll, of whose points each is read or not

polls_joined : (client : ℕ) (ps more : List Point)
    → poll_requests client (ps ++ more) ≡ poll_requests client ps ++ poll_requests client more
polls_joined client [] more = refl
polls_joined client (p ∷ ps) more = by (nat_eq p.proxy client) (polls_joined client ps more)
  where
    by : (b : Bool) → poll_requests client (ps ++ more) ≡ poll_requests client ps ++ poll_requests client more
        → map (λ q. read_pdu q.area q.place) (if b then p ∷ filter (λ q. nat_eq q.proxy client) (ps ++ more) else filter
        (λ q. nat_eq q.proxy client) (ps ++ more))
        ≡ map (λ q. read_pdu q.area q.place) (if b then p ∷ filter (λ q. nat_eq q.proxy client) ps else filter
        (λ q. nat_eq q.proxy client) ps) ++ poll_requests client more
    by true rest = ap (λ rs. read_pdu p.area p.place ∷ rs) rest
    by false rest = rest

pub reads_begun : (line before now : Line) (d dev : Places) (client : ℕ) (points : List Point) (i : ℕ) (p : Point)
    → i < length points → p ≡ get_or points i p → dev ≡ d
    → before ≡ line_after line d (poll_requests client (take i points))
    → (now.passed ≡ before.passed) ⊎ (now ≡ line_after before dev (poll_requests client (p ∷ [])))
    → Begins now.passed (line_after line d (poll_requests client points)).passed
reads_begun line before now d dev client points i p less is stays so_far may = elim may [
  | inl none ↦ some i (none ∙ ap (λ (l : Line). l.passed) so_far)
  | inr one ↦ some (i + 1) (ap (λ (l : Line). l.passed)
      (line_reads_more line before now d dev client points i p less is stays so_far one))
]
  where
    some : (k : ℕ) → now.passed ≡ (line_after line d (poll_requests client (take k points))).passed
        → Begins now.passed (line_after line d (poll_requests client points)).passed
    some k passed =
        subst (λ (xs : List Exchange). Begins xs (line_after line d (poll_requests client points)).passed) (sym passed)
        (requests_begin line d (poll_requests client (take k points)) (poll_requests client (drop k points))
        (poll_requests client points)
        (sym (polls_joined client (take k points) (drop k points))
        ∙ ap (poll_requests client) (take-append-drop k points)))

-- what holds of a call that was seen through, where it didn't fail
pub unless_err : {V E A : Type 0} (r : Result V E) → OnOk r A → ((e : E) → r ≡ Err e → ⊥) → A
unless_err (Ok v) a no_err = a
unless_err (Err e) a no_err = absurd (no_err e refl)
