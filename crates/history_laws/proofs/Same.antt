-- The tests of bodies part by part decide equality.
use Rattle.std.proofs.Common.{◌≡◌, ℕ, Bool, true, false, ◌&&◌, refl, sym, ◌∙◌, ap, subst, nat_eq, if◌then◌else◌}
use Rattle.std.proofs.lemmas.Bool.{false≢true}
use Rattle.std.specs.Bool.{Decides}
use Rattle.std.proofs.lemmas.Bool.Decides.{Decides-eqb, Decides-int_eq, Decides-and, Decides-like}
use Rattle.std.specs.Cmp.Lexicographic.{pointwise}
use Rattle.std.specs.Ordering.{int_eq}
use Rattle.std.specs.Str.{bytes_eq}
use Rattle.std.proofs.lemmas.Slice.Eq.{bytes_eq-Decides}
use lib.Pointwise.{pointwise_decides}
use Rattle.message_types.specs.declared.signed.Signed.{Signed}
use Rattle.message_types.specs.declared.updates.Op.TheVariants as op
use Rattle.message_types.specs.declared.measures.Ping.{Ping}
use Rattle.message_types.specs.declared.measures.Pong.{Pong}
use Rattle.message_types.specs.declared.measures.Rtt.{Rtt}
use Rattle.message_types.specs.declared.measures.TatReport.{TatReport}
use Rattle.message_types.specs.declared.measures.TatBound.{TatBound}
use Rattle.message_types.specs.declared.measures.Suspect.{Suspect}
use Rattle.message_types.specs.declared.views.NewView.{NewView}
use Rattle.message_types.specs.declared.reconciling.AskUpdate.{AskUpdate}
use Rattle.message_types.specs.declared.reconciling.AskOrder.{AskOrder}
use Rattle.message_types.specs.declared.reconciling.Give.{Give}
use Rattle.message_types.specs.declared.reconciling.GiveOrdered.{GiveOrdered}
use Rattle.message_types.specs.declared.vouchers.NoticeKind.{NoticeKind}
use Rattle.message_types.specs.declared.vouchers.NoticeKind.TheVariants as notice
use Rattle.message_types.specs.declared.vouchers.Notice.{Notice}
use Rattle.message_types.specs.declared.vouchers.Order.TheVariants as order
use Rattle.message_types.specs.declared.vouchers.Voucher.{Voucher}
use Rattle.message_types.specs.declared.body.Body.{Body}
use Rattle.message_types.specs.declared.body.Body.TheVariants as body
use Rattle.message_types.specs.Texts.{notice_number}
use Rattle.history_rules.specs.Sameness.{is_same_signed, are_same_signed, are_same_rows, is_same_op, is_same_update}
use Rattle.history_rules.specs.Sameness.{is_same_request, is_same_ack, is_same_summary, is_same_preprepare}
use Rattle.history_rules.specs.Sameness.{is_same_prepare, is_same_commit, is_same_mark, is_same_certificate}
use Rattle.history_rules.specs.Sameness.{is_same_report, is_same_order, is_same_body}

-- a test of values of a type decides their equality
abbrev pub IsTest : {X : Type 0} → (X → X → Bool) → Type 0
IsTest {X} same = (a b : X) → Decides (same a b) (a ≡ b)

two : {P Q R : Type 0} (x y : Bool) → Decides x P → Decides y Q → (P × Q → R) → (R → P × Q) → Decides (x && y) R
two x y p q to from = Decides-like (x && y) to from (Decides-and x y p q)

three : {P Q R S : Type 0} (x y z : Bool) → Decides x P → Decides y Q → Decides z R → (P × Q × R → S) →
    (S → P × Q × R) → Decides (x && y && z) S
three x y z p q r to from = two (x && y) z (Decides-and x y p q) r (λ h. to (h.0.0, h.0.1, h.1))
    (λ s. let h = from s in ((h.0, h.1), h.2))

four : {P Q R S T : Type 0} (x y z t : Bool) → Decides x P → Decides y Q → Decides z R → Decides t S →
    (P × Q × R × S → T) → (T → P × Q × R × S) → Decides (x && y && z && t) T
four x y z t p q r s to from =
    two (x && y && z) t (three x y z p q r (λ h. h) (λ h. h)) s (λ h. to (h.0.0, h.0.1, h.0.2, h.1))
    (λ v. let h = from v in ((h.0, h.1, h.2), h.3))

pub signed_test : {B : Type 0} (same : B → B → Bool) → IsTest same → IsTest (is_same_signed same)
signed_test {B} same decides a b =
    three (nat_eq a.signer b.signer) (same a.body b.body) (bytes_eq a.sig b.sig) (Decides-eqb a.signer b.signer)
    (decides a.body b.body) (bytes_eq-Decides a.sig b.sig)
    (λ h i. record { signer = h.0 i; body = h.1 i; sig = h.2 i })
    (λ e. (ap (λ (x : Signed B). x.signer) e, ap (λ (x : Signed B). x.body) e, ap (λ (x : Signed B). x.sig) e))

pub signed_lists_test : {B : Type 0} (same : B → B → Bool) → IsTest same → IsTest (are_same_signed same)
signed_lists_test same decides a b = pointwise_decides {E = is_same_signed same} (signed_test same decides) a b

pub rows_test : IsTest are_same_rows
rows_test a b = pointwise_decides {E = bytes_eq} bytes_eq-Decides a b

other : {P : Type 0} → (P → ⊥) → Decides false P
other differ = (λ e. absurd (false≢true e), λ p. absurd (differ p))

pub op_test : IsTest is_same_op
op_test (op.Reading p x) (op.Reading q y) = two (nat_eq p q) (int_eq x y) (Decides-eqb p q) (Decides-int_eq x y)
    (λ h i. op.Reading (h.0 i) (h.1 i)) (λ e. (cc, cc))
op_test (op.Set p x) (op.Set q y) = two (nat_eq p q) (int_eq x y) (Decides-eqb p q) (Decides-int_eq x y)
    (λ h i. op.Set (h.0 i) (h.1 i)) (λ e. (cc, cc))
op_test (op.Ack p) (op.Ack q) = Decides-like (nat_eq p q) (λ h i. op.Ack (h i)) (λ e. cc) (Decides-eqb p q)
op_test _ _ = other (λ e. cc)

pub update_test : IsTest is_same_update
update_test a b =
    three (nat_eq a.client b.client) (nat_eq a.t b.t) (is_same_op a.op b.op)
    (Decides-eqb a.client b.client) (Decides-eqb a.t b.t) (op_test a.op b.op)
    (λ h i. record { client = h.0 i; t = h.1 i; op = h.2 i })
    (λ e. (cc, cc, cc))

pub request_test : IsTest is_same_request
request_test a b =
    two (nat_eq a.k b.k) (is_same_signed is_same_update a.update b.update)
    (Decides-eqb a.k b.k) (signed_test is_same_update update_test a.update b.update)
    (λ h i. record { k = h.0 i; update = h.1 i })
    (λ e. (cc, cc))

pub ack_test : IsTest is_same_ack
ack_test a b =
    three (nat_eq a.j b.j) (nat_eq a.k b.k) (bytes_eq a.digest b.digest)
    (Decides-eqb a.j b.j) (Decides-eqb a.k b.k) (bytes_eq-Decides a.digest b.digest)
    (λ h i. record { j = h.0 i; k = h.1 i; digest = h.2 i })
    (λ e. (cc, cc, cc))

pub summary_test : IsTest is_same_summary
summary_test a b = Decides-like (bytes_eq a.numbers b.numbers) (λ h i. record { numbers = h i })
    (λ e. cc) (bytes_eq-Decides a.numbers b.numbers)

pub preprepare_test : IsTest is_same_preprepare
preprepare_test a b =
    three (nat_eq a.v b.v) (nat_eq a.s b.s) (are_same_signed is_same_summary a.frames b.frames)
    (Decides-eqb a.v b.v) (Decides-eqb a.s b.s) (signed_lists_test is_same_summary summary_test a.frames b.frames)
    (λ h i. record { v = h.0 i; s = h.1 i; frames = h.2 i })
    (λ e. (cc, cc, cc))

pub prepare_test : IsTest is_same_prepare
prepare_test a b =
    three (nat_eq a.v b.v) (nat_eq a.s b.s) (bytes_eq a.digest b.digest)
    (Decides-eqb a.v b.v) (Decides-eqb a.s b.s) (bytes_eq-Decides a.digest b.digest)
    (λ h i. record { v = h.0 i; s = h.1 i; digest = h.2 i })
    (λ e. (cc, cc, cc))

pub commit_test : IsTest is_same_commit
commit_test a b =
    three (nat_eq a.v b.v) (nat_eq a.s b.s) (bytes_eq a.digest b.digest)
    (Decides-eqb a.v b.v) (Decides-eqb a.s b.s) (bytes_eq-Decides a.digest b.digest)
    (λ h i. record { v = h.0 i; s = h.1 i; digest = h.2 i })
    (λ e. (cc, cc, cc))

pub mark_test : IsTest is_same_mark
mark_test a b = Decides-like (nat_eq a.s b.s) (λ h i. record { s = h i }) (λ e. cc)
    (Decides-eqb a.s b.s)

pub certificate_test : IsTest is_same_certificate
certificate_test a b =
    four (nat_eq a.s b.s) (nat_eq a.v b.v) (are_same_rows a.rows b.rows)
    (are_same_signed is_same_prepare a.prepares b.prepares)
    (Decides-eqb a.s b.s) (Decides-eqb a.v b.v) (rows_test a.rows b.rows)
    (signed_lists_test is_same_prepare prepare_test a.prepares b.prepares)
    (λ h i. record { s = h.0 i; v = h.1 i; rows = h.2 i; prepares = h.3 i })
    (λ e. (cc, cc, cc, cc))

pub report_test : IsTest is_same_report
report_test a b =
    four (nat_eq a.v b.v) (nat_eq a.base b.base) (are_same_signed is_same_mark a.marks b.marks)
    (pointwise is_same_certificate a.certificates b.certificates)
    (Decides-eqb a.v b.v) (Decides-eqb a.base b.base) (signed_lists_test is_same_mark mark_test a.marks b.marks)
    (pointwise_decides {E = is_same_certificate} certificate_test a.certificates b.certificates)
    (λ h i. record { v = h.0 i; base = h.1 i; marks = h.2 i; certificates = h.3 i })
    (λ e. (cc, cc, cc, cc))

-- the kind of a notice from its number
abbrev kind_numbered : ℕ → NoticeKind
kind_numbered n = (if nat_eq n 1 then notice.Done else
    (if nat_eq n 2 then notice.Denied else
    (if nat_eq n 3 then notice.NoPoint else
    (if nat_eq n 4 then notice.OutOfRange else
    (if nat_eq n 5 then notice.NotWritable else
    (if nat_eq n 6 then notice.NoAlarm else
    (if nat_eq n 7 then notice.Raised else (if nat_eq n 8 then notice.Cleared else notice.WrongPart))))))))

kind_again : (kind : NoticeKind) → kind_numbered (notice_number kind) ≡ kind
kind_again notice.Done = refl
kind_again notice.Denied = refl
kind_again notice.NoPoint = refl
kind_again notice.OutOfRange = refl
kind_again notice.NotWritable = refl
kind_again notice.NoAlarm = refl
kind_again notice.Raised = refl
kind_again notice.Cleared = refl
kind_again notice.WrongPart = refl

kind_test : (a b : NoticeKind) → Decides (nat_eq (notice_number a) (notice_number b)) (a ≡ b)
kind_test a b =
    Decides-like (nat_eq (notice_number a) (notice_number b))
    (λ h. sym (kind_again a) ∙ (ap kind_numbered h ∙ kind_again b)) (λ e. ap notice_number e)
    (Decides-eqb (notice_number a) (notice_number b))

notice_test : (a b : Notice) →
    Decides (nat_eq (notice_number a.what) (notice_number b.what) && nat_eq a.t b.t && nat_eq a.number b.number) (a ≡ b)
notice_test a b =
    three (nat_eq (notice_number a.what) (notice_number b.what)) (nat_eq a.t b.t) (nat_eq a.number b.number)
    (kind_test a.what b.what) (Decides-eqb a.t b.t) (Decides-eqb a.number b.number)
    (λ h i. record { what = h.0 i; t = h.1 i; number = h.2 i })
    (λ e. (cc, cc, cc))

pub order_test : IsTest is_same_order
order_test (order.Write p x) (order.Write q y) = two (nat_eq p q) (nat_eq x y) (Decides-eqb p q) (Decides-eqb x y)
    (λ h i. order.Write (h.0 i) (h.1 i)) (λ e. (cc, cc))
order_test (order.Notice a) (order.Notice b) =
    Decides-like (is_same_order (order.Notice a) (order.Notice b)) (λ h i. order.Notice (h i))
    (λ e. cc) (notice_test a b)
order_test _ _ = other (λ e. cc)

pub ping_test : IsTest {X = Ping} (λ a b. nat_eq a.number b.number)
ping_test a b = Decides-like (nat_eq a.number b.number) (λ h i. record { number = h i })
    (λ e. cc) (Decides-eqb a.number b.number)

pub pong_test : IsTest {X = Pong} (λ a b. nat_eq a.to b.to && nat_eq a.number b.number)
pong_test a b =
    two (nat_eq a.to b.to) (nat_eq a.number b.number)
    (Decides-eqb a.to b.to) (Decides-eqb a.number b.number)
    (λ h i. record { to = h.0 i; number = h.1 i })
    (λ e. (cc, cc))

pub rtt_test : IsTest {X = Rtt} (λ a b. nat_eq a.to b.to && nat_eq a.number b.number && nat_eq a.ticks b.ticks)
rtt_test a b =
    three (nat_eq a.to b.to) (nat_eq a.number b.number) (nat_eq a.ticks b.ticks)
    (Decides-eqb a.to b.to) (Decides-eqb a.number b.number) (Decides-eqb a.ticks b.ticks)
    (λ h i. record { to = h.0 i; number = h.1 i; ticks = h.2 i })
    (λ e. (cc, cc, cc))

pub tat_report_test : IsTest {X = TatReport} (λ a b. nat_eq a.v b.v && nat_eq a.ticks b.ticks)
tat_report_test a b =
    two (nat_eq a.v b.v) (nat_eq a.ticks b.ticks)
    (Decides-eqb a.v b.v) (Decides-eqb a.ticks b.ticks)
    (λ h i. record { v = h.0 i; ticks = h.1 i })
    (λ e. (cc, cc))

pub tat_bound_test : IsTest {X = TatBound} (λ a b. nat_eq a.v b.v && nat_eq a.ticks b.ticks)
tat_bound_test a b =
    two (nat_eq a.v b.v) (nat_eq a.ticks b.ticks)
    (Decides-eqb a.v b.v) (Decides-eqb a.ticks b.ticks)
    (λ h i. record { v = h.0 i; ticks = h.1 i })
    (λ e. (cc, cc))

pub suspect_test : IsTest {X = Suspect} (λ a b. nat_eq a.v b.v)
suspect_test a b = Decides-like (nat_eq a.v b.v) (λ h i. record { v = h i }) (λ e. cc)
    (Decides-eqb a.v b.v)

pub ask_update_test : IsTest {X = AskUpdate} (λ a b. nat_eq a.j b.j && nat_eq a.k b.k)
ask_update_test a b =
    two (nat_eq a.j b.j) (nat_eq a.k b.k)
    (Decides-eqb a.j b.j) (Decides-eqb a.k b.k)
    (λ h i. record { j = h.0 i; k = h.1 i })
    (λ e. (cc, cc))

pub ask_order_test : IsTest {X = AskOrder} (λ a b. nat_eq a.s b.s)
ask_order_test a b = Decides-like (nat_eq a.s b.s) (λ h i. record { s = h i }) (λ e. cc)
    (Decides-eqb a.s b.s)

pub new_view_test : IsTest {X = NewView} (λ a b. nat_eq a.v b.v && are_same_signed is_same_report a.reports b.reports)
new_view_test a b =
    two (nat_eq a.v b.v) (are_same_signed is_same_report a.reports b.reports)
    (Decides-eqb a.v b.v) (signed_lists_test is_same_report report_test a.reports b.reports)
    (λ h i. record { v = h.0 i; reports = h.1 i })
    (λ e. (cc, cc))

pub give_test : IsTest {X = Give} (λ a b. is_same_signed is_same_request a.request b.request
    && are_same_signed is_same_ack a.acks b.acks)
give_test a b =
    two (is_same_signed is_same_request a.request b.request) (are_same_signed is_same_ack a.acks b.acks)
    (signed_test is_same_request request_test a.request b.request)
    (signed_lists_test is_same_ack ack_test a.acks b.acks)
    (λ h i. record { request = h.0 i; acks = h.1 i })
    (λ e. (cc, cc))

pub give_ordered_test : IsTest {X = GiveOrdered} (λ a b. nat_eq a.s b.s && nat_eq a.v b.v
    && are_same_rows a.rows b.rows && are_same_signed is_same_commit a.commits b.commits)
give_ordered_test a b =
    four (nat_eq a.s b.s) (nat_eq a.v b.v) (are_same_rows a.rows b.rows)
    (are_same_signed is_same_commit a.commits b.commits)
    (Decides-eqb a.s b.s) (Decides-eqb a.v b.v) (rows_test a.rows b.rows)
    (signed_lists_test is_same_commit commit_test a.commits b.commits)
    (λ h i. record { s = h.0 i; v = h.1 i; rows = h.2 i; commits = h.3 i })
    (λ e. (cc, cc, cc, cc))

pub voucher_test : IsTest {X = Voucher} (λ a b. nat_eq a.client b.client && nat_eq a.number b.number
    && is_same_order a.order b.order)
voucher_test a b =
    three (nat_eq a.client b.client) (nat_eq a.number b.number) (is_same_order a.order b.order)
    (Decides-eqb a.client b.client) (Decides-eqb a.number b.number) (order_test a.order b.order)
    (λ h i. record { client = h.0 i; number = h.1 i; order = h.2 i })
    (λ e. (cc, cc, cc))

-- a body passes the test with itself
itself : (b : Body) → is_same_body b b ≡ true
itself (body.Update b) = (update_test b b).1 refl
itself (body.PoRequest b) = (request_test b b).1 refl
itself (body.PoAck b) = (ack_test b b).1 refl
itself (body.PoSummary b) = (summary_test b b).1 refl
itself (body.PrePrepare b) = (preprepare_test b b).1 refl
itself (body.Prepare b) = (prepare_test b b).1 refl
itself (body.Commit b) = (commit_test b b).1 refl
itself (body.Ping b) = (ping_test b b).1 refl
itself (body.Pong b) = (pong_test b b).1 refl
itself (body.Rtt b) = (rtt_test b b).1 refl
itself (body.TatReport b) = (tat_report_test b b).1 refl
itself (body.TatBound b) = (tat_bound_test b b).1 refl
itself (body.Suspect b) = (suspect_test b b).1 refl
itself (body.Report b) = (report_test b b).1 refl
itself (body.NewView b) = (new_view_test b b).1 refl
itself (body.AskUpdate b) = (ask_update_test b b).1 refl
itself (body.Give b) = (give_test b b).1 refl
itself (body.AskOrder b) = (ask_order_test b b).1 refl
itself (body.GiveOrdered b) = (give_ordered_test b b).1 refl
itself (body.Voucher b) = (voucher_test b b).1 refl
itself (body.Mark b) = (mark_test b b).1 refl

passed : (a b : Body) → is_same_body a b ≡ true → a ≡ b
passed (body.Update a) (body.Update b) e = ap (λ x. body.Update x) ((update_test a b).0 e)
passed (body.PoRequest a) (body.PoRequest b) e = ap (λ x. body.PoRequest x) ((request_test a b).0 e)
passed (body.PoAck a) (body.PoAck b) e = ap (λ x. body.PoAck x) ((ack_test a b).0 e)
passed (body.PoSummary a) (body.PoSummary b) e = ap (λ x. body.PoSummary x) ((summary_test a b).0 e)
passed (body.PrePrepare a) (body.PrePrepare b) e = ap (λ x. body.PrePrepare x) ((preprepare_test a b).0 e)
passed (body.Prepare a) (body.Prepare b) e = ap (λ x. body.Prepare x) ((prepare_test a b).0 e)
passed (body.Commit a) (body.Commit b) e = ap (λ x. body.Commit x) ((commit_test a b).0 e)
passed (body.Ping a) (body.Ping b) e = ap (λ x. body.Ping x) ((ping_test a b).0 e)
passed (body.Pong a) (body.Pong b) e = ap (λ x. body.Pong x) ((pong_test a b).0 e)
passed (body.Rtt a) (body.Rtt b) e = ap (λ x. body.Rtt x) ((rtt_test a b).0 e)
passed (body.TatReport a) (body.TatReport b) e = ap (λ x. body.TatReport x) ((tat_report_test a b).0 e)
passed (body.TatBound a) (body.TatBound b) e = ap (λ x. body.TatBound x) ((tat_bound_test a b).0 e)
passed (body.Suspect a) (body.Suspect b) e = ap (λ x. body.Suspect x) ((suspect_test a b).0 e)
passed (body.Report a) (body.Report b) e = ap (λ x. body.Report x) ((report_test a b).0 e)
passed (body.NewView a) (body.NewView b) e = ap (λ x. body.NewView x) ((new_view_test a b).0 e)
passed (body.AskUpdate a) (body.AskUpdate b) e = ap (λ x. body.AskUpdate x) ((ask_update_test a b).0 e)
passed (body.Give a) (body.Give b) e = ap (λ x. body.Give x) ((give_test a b).0 e)
passed (body.AskOrder a) (body.AskOrder b) e = ap (λ x. body.AskOrder x) ((ask_order_test a b).0 e)
passed (body.GiveOrdered a) (body.GiveOrdered b) e = ap (λ x. body.GiveOrdered x) ((give_ordered_test a b).0 e)
passed (body.Voucher a) (body.Voucher b) e = ap (λ x. body.Voucher x) ((voucher_test a b).0 e)
passed (body.Mark a) (body.Mark b) e = ap (λ x. body.Mark x) ((mark_test a b).0 e)
passed _ _ e = absurd (false≢true e)

pub body_test : IsTest is_same_body
body_test a b = (λ e. passed a b e, λ e. subst (λ (x : Body). is_same_body a x ≡ true) e (itself a))
