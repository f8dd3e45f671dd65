-- What a proxy writes. Order number x is written once the numbers before it are and more than f masters have vouched
-- for one and the same order as number x (`vouched_orders`); here is which orders count, and what writing them does.
use Rattle.std.specs.Prelude.{ℕ, suc, Bool, true, false, ◌&&◌, nat_eq, if◌then◌else◌, List, [], ◌∷◌, ◌++◌, Option}
use Rattle.std.specs.Prelude.{Some, None, slice_get}
use Rattle.message_types.specs.declared.vouchers.Order.{Order}
use Rattle.message_types.specs.declared.vouchers.Order.TheVariants as order
use Rattle.point_table.specs.declared.point.Area.{Area}
use Rattle.point_table.specs.declared.point.Area.TheVariants as area
use Rattle.point_table.specs.declared.point.Point.{Point}
use Rattle.point_table.specs.Point.{is_writable}
use Rattle.modbus_forms.specs.declared.request.RequestPdu.{RequestPdu}
use Rattle.modbus_forms.specs.declared.request.RequestPdu.TheVariants as request
use Rattle.field_device.specs.Places.{Places}
use Rattle.field_device.specs.Table.{coil_on, exception_for, after}
use Rattle.field_proxy.specs.declared.writes.Write.{Write}

-- a write to one of the client's own points that can be written: any other order counts for nothing at a proxy
abbrev pub is_own : ℕ → Option Point → Bool
is_own client None = false
is_own client (Some p) = nat_eq p.proxy client && is_writable p.area

abbrev pub can_write : List Point → ℕ → Order → Bool
can_write points client (order.Notice n) = false
can_write points client (order.Write number raw) = is_own client (slice_get points number)

-- the request that writes a raw value: of a coil function 5, with 0xFF00 for every value but 0, else function 6
abbrev pub write_pdu : Area → ℕ → ℕ → RequestPdu
write_pdu area.Coil place raw = request.WriteCoil place (if nat_eq raw 0 then 0 else coil_on)
write_pdu area.Discrete place raw = request.WriteRegister place raw
write_pdu area.Holding place raw = request.WriteRegister place raw
write_pdu area.Input place raw = request.WriteRegister place raw

-- the area that such a request writes
abbrev pub written_area : Area → Area
written_area area.Coil = area.Coil
written_area area.Discrete = area.Holding
written_area area.Holding = area.Holding
written_area area.Input = area.Holding

abbrev pub write_request : Point → ℕ → RequestPdu
write_request p raw = write_pdu p.area p.place raw

-- the requests of one order: one, where there is such a point
abbrev pub requests_to : Option Point → ℕ → List RequestPdu
requests_to None raw = []
requests_to (Some p) raw = write_request p raw ∷ []

abbrev pub requests_of : List Point → Order → List RequestPdu
requests_of points (order.Notice n) = []
requests_of points (order.Write number raw) = requests_to (slice_get points number) raw

-- the requests of orders, in turn
abbrev pub order_requests : List Point → List Order → List RequestPdu
order_requests points [] = []
order_requests points (o ∷ rest) = requests_of points o ++ order_requests points rest

-- the device after one order
abbrev pub after_write : Places → Option Point → ℕ → Places
after_write d None raw = d
after_write d (Some p) raw = after d (write_request p raw)

abbrev pub after_order : List Point → Places → Order → Places
after_order points d (order.Notice n) = d
after_order points d (order.Write number raw) = after_write d (slice_get points number) raw

-- what is kept of one order, under its number, with the exception that the device answers it with
abbrev pub kept : Places → ℕ → ℕ → ℕ → Option Point → List Write
kept d x number raw None = []
kept d x number raw (Some p) =
    record { number = x; point = number; raw = raw; exception = exception_for d (write_request p raw) } ∷ []

abbrev pub kept_of : List Point → Places → ℕ → Order → List Write
kept_of points d x (order.Notice n) = []
kept_of points d x (order.Write number raw) = kept d x number raw (slice_get points number)

-- the device after orders, in turn
unfoldable pub after_orders : List Point → Places → List Order → Places
after_orders points d [] = d
after_orders points d (o ∷ rest) = after_orders points (after_order points d o) rest

-- what is kept of orders from number x on, each of which meets the device as the ones before left it
unfoldable pub kept_orders : List Point → Places → ℕ → List Order → List Write
kept_orders points d x [] = []
kept_orders points d x (o ∷ rest) = kept_of points d x o ++ kept_orders points (after_order points d o) (suc x) rest

-- the order that a kept write was
abbrev pub order_of : Write → Order
order_of w = order.Write w.point w.raw
