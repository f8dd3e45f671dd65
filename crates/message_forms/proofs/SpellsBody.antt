-- The form of a body of any kind, and of a frame, agrees with its text.
use Rattle.std.proofs.Common.{◌≡◌, ◌<◌, ◌≤◌, ◌+◌, ◌^◌, ℕ, true, List, [], ◌++◌, length, refl, ap, ◌∙◌, arith}
use Rattle.std.proofs.Common.{append_assoc}
use Rattle.std.specs.Prelude.{◌&&◌, None, Ok}
use Rattle.wire_parts.specs.Fields.{u8_bytes, u16_bytes, u32_bytes, u64_bytes}
use Rattle.message_types.specs.declared.views.NewView.{NewView}
use Rattle.message_types.specs.declared.reconciling.Give.{Give}
use Rattle.message_types.specs.declared.reconciling.GiveOrdered.{GiveOrdered}
use Rattle.message_types.specs.declared.vouchers.Notice.{Notice}
use Rattle.message_types.specs.declared.vouchers.NoticeKind.{NoticeKind}
use Rattle.message_types.specs.declared.vouchers.NoticeKind.TheVariants as notice
use Rattle.message_types.specs.declared.vouchers.Order.{Order}
use Rattle.message_types.specs.declared.vouchers.Order.TheVariants as order
use Rattle.message_types.specs.declared.vouchers.Voucher.{Voucher}
use Rattle.message_types.specs.declared.body.Body.{Body}
use Rattle.message_types.specs.declared.body.Body.TheVariants as body
use Rattle.message_types.specs.Kinds.{kind_number as number_of_kind}
use Rattle.message_types.specs.Texts.{list_text, signed_text, rows_text, notice_number, order_text, update_text}
use Rattle.message_types.specs.Texts.{request_text, ack_text, summary_text, commit_text, report_text, body_text}
use Rattle.message_types.specs.Spelling.{signature_fits, frames_fit, always_fits, rows_fit, request_fits, report_fits}
use Rattle.message_types.specs.Spelling.{body_fits}
use Rattle.message_forms.specs.Grammar.{at, number_at, nothing, both, Cases, unknown, case}
use Rattle.message_forms.specs.Forms.{update_at, request_at, ack_at, summary_at, pre_prepare_at, prepare_at}
use Rattle.message_forms.specs.Forms.{commit_at, ping_at, pong_at, rtt_at, tat_report_at, tat_bound_at, suspect_at}
use Rattle.message_forms.specs.Forms.{mark_at, report_at, new_view_at, ask_update_at, give_at, ask_order_at}
use Rattle.message_forms.specs.Forms.{give_ordered_at, what_at, what_cases, notice_at, order_at, voucher_at, kinds}
use Rattle.message_forms.specs.Forms.{measure_kinds, view_kinds, body_at}
use Rattle.message_forms.specs.Widths.{Is32, Is64, FitsNewView, FitsGive, FitsGiveOrdered, FitsNotice, FitsOrder}
use Rattle.message_forms.specs.Widths.{FitsVoucher, FitsBody}
use Rattle.message_forms.proofs.Spells.{Spells, Spells-u8, Spells-u16, Spells-u32, Spells-u64, Spells-nothing}
use Rattle.message_forms.proofs.Spells.{Spells-both, Spells-made, Spells-as}
use Rattle.message_forms.proofs.SpellsFrames.{Spells-signed, Spells-frames, CasesSound, unknown_sound, case_sound}
use Rattle.message_forms.proofs.SpellsFrames.{made_back, Spells-chosen}
use Rattle.message_forms.proofs.Lengths.{body_within}
use Rattle.message_forms.proofs.SpellsWords.{Spells-update, Spells-request, Spells-request_body, short_request}
use Rattle.message_forms.proofs.SpellsWords.{Spells-ack, Spells-ack_body, short_ack, Spells-summary, Spells-rows}
use Rattle.message_forms.proofs.SpellsWords.{Spells-pre_prepare, Spells-prepare, Spells-commit, Spells-commit_body}
use Rattle.message_forms.proofs.SpellsWords.{short_commit, Spells-mark, Spells-report, report_text_is}
use Rattle.message_forms.proofs.SpellsWords.{Spells-report_body, short_report, update_fields, request_fields}
use Rattle.message_forms.proofs.SpellsWords.{ack_fields, pre_prepare_fields, prepare_fields, commit_fields}
use Rattle.message_forms.proofs.SpellsWords.{report_fields}

-- orders and vouchers

what_back : (k : NoticeKind) (start place : ℕ) (rest : List ℕ) → true ≡ true → Unit {0}
    → what_cases (notice_number k) start (at place ([] ++ rest)) ≡ Ok (k, at (place + length {A = ℕ} []) rest)
what_back notice.Done start place rest ok wide = ap (λ n. Ok (notice.Done, at n rest)) (omega arith)
what_back notice.Denied start place rest ok wide = ap (λ n. Ok (notice.Denied, at n rest)) (omega arith)
what_back notice.NoPoint start place rest ok wide = ap (λ n. Ok (notice.NoPoint, at n rest)) (omega arith)
what_back notice.OutOfRange start place rest ok wide = ap (λ n. Ok (notice.OutOfRange, at n rest)) (omega arith)
what_back notice.NotWritable start place rest ok wide = ap (λ n. Ok (notice.NotWritable, at n rest)) (omega arith)
what_back notice.NoAlarm start place rest ok wide = ap (λ n. Ok (notice.NoAlarm, at n rest)) (omega arith)
what_back notice.Raised start place rest ok wide = ap (λ n. Ok (notice.Raised, at n rest)) (omega arith)
what_back notice.Cleared start place rest ok wide = ap (λ n. Ok (notice.Cleared, at n rest)) (omega arith)
what_back notice.WrongPart start place rest ok wide = ap (λ n. Ok (notice.WrongPart, at n rest)) (omega arith)

what_small : (k : NoticeKind) → notice_number k < 2 ^ 8
what_small notice.Done = omega arith
what_small notice.Denied = omega arith
what_small notice.NoPoint = omega arith
what_small notice.OutOfRange = omega arith
what_small notice.NotWritable = omega arith
what_small notice.NoAlarm = omega arith
what_small notice.Raised = omega arith
what_small notice.Cleared = omega arith
what_small notice.WrongPart = omega arith

one_what : (mark : ℕ) (kind : NoticeKind) → notice_number kind ≡ mark → (others : Cases NoticeKind)
    → CasesSound others notice_number (λ k. []) (λ k. true) (λ k. Unit {0})
    → CasesSound (case mark (λ _. kind) nothing others) notice_number (λ k. []) (λ k. true) (λ k. Unit {0})
one_what mark kind is others rest =
    case_sound notice_number (λ k. []) (λ k. true) (λ k. Unit {0}) mark (λ _. kind) others (λ a. is) (λ a. refl)
    (λ a. refl) (λ a w. tt) Spells-nothing rest

Spells-what : Spells what_at (λ k. u8_bytes (notice_number k)) (λ k. true) (λ k. Unit {0})
unfolding what_at
Spells-what =
    Spells-as (λ k. u8_bytes (notice_number k)) (λ k. true) (λ k. Unit {0}) (λ k. refl)
    (λ k. refl) (λ k w. w) (λ k w. w)
    (Spells-chosen 1 u8_bytes (λ n. n < 2 ^ 8) Spells-u8 what_cases notice_number (λ k. []) (λ k. true)
    (λ k. Unit {0}) what_small
    (one_what 1 notice.Done refl _
    (one_what 2 notice.Denied refl _ (one_what 3 notice.NoPoint refl _ (one_what 4 notice.OutOfRange refl _
    (one_what 5 notice.NotWritable refl _
    (one_what 6 notice.NoAlarm refl _ (one_what 7 notice.Raised refl _ (one_what 8 notice.Cleared refl _
    (one_what 9 notice.WrongPart refl _ (unknown_sound notice_number (λ k. []) (λ k. true) (λ k. Unit {0})))))))))))
    what_back)

abbrev notice_fields : Notice → List ℕ
notice_fields n = u8_bytes (notice_number n.what) ++ (u64_bytes n.t ++ u32_bytes n.number)

Spells-notice : Spells notice_at notice_fields (λ n. true) FitsNotice
unfolding notice_at
Spells-notice = Spells-as notice_fields (λ n. true) FitsNotice (λ n. refl) (λ n. refl) (λ n w. (tt, w)) (λ n w. w.1)
    (Spells-made (λ p. record { what = p.0; t = p.1.0; number = p.1.1 }) (λ n. (n.what, (n.t, n.number)))
    (λ n. refl) (λ a. refl)
    (Spells-both Spells-what (Spells-both Spells-u64 Spells-u32)))

abbrev write_text : ℕ × ℕ → List ℕ
write_text x = u32_bytes x.0 ++ u16_bytes x.1

Spells-write : Spells (both (number_at 4) (number_at 2)) write_text (λ x. true) (λ x. Is32 x.0 × (x.1 < 2 ^ 16))
Spells-write = Spells-both Spells-u32 Spells-u16

order_number : Order → ℕ
order_number (order.Write p r) = 1
order_number (order.Notice n) = 2

order_fields : Order → List ℕ
order_fields (order.Write p r) = write_text (p, r)
order_fields (order.Notice n) = notice_fields n

order_text_is : (o : Order) → order_text o ≡ u8_bytes (order_number o) ++ order_fields o
unfolding order_number order_fields
order_text_is (order.Write p r) = append_assoc (u8_bytes 1) (u32_bytes p) (u16_bytes r)
order_text_is (order.Notice n) =
    append_assoc (u8_bytes 2 ++ u8_bytes (notice_number n.what)) (u64_bytes n.t) (u32_bytes n.number)

order_small : (o : Order) → order_number o < 2 ^ 8
unfolding order_number
order_small (order.Write p r) = omega arith
order_small (order.Notice n) = omega arith

order_back : (o : Order) (start place : ℕ) (rest : List ℕ) → true ≡ true → FitsOrder o
    → case 1 (λ p. order.Write p.0 p.1) (both (number_at 4) (number_at 2)) (case 2 order.Notice notice_at unknown)
    (order_number o) start (at place (order_fields o ++ rest)) ≡ Ok (o, at (place + length (order_fields o)) rest)
unfolding order_number order_fields
order_back (order.Write p r) start place rest ok wide =
    made_back (λ x. order.Write x.0 x.1) (both (number_at 4) (number_at 2)) _ _ _
    (Spells-write.back (p, r) place rest refl wide)
order_back (order.Notice n) start place rest ok wide =
    made_back order.Notice notice_at _ _ _ (Spells-notice.back n place rest refl wide)

Spells-order : Spells order_at order_text (λ o. true) FitsOrder
unfolding order_at order_number order_fields
Spells-order =
    Spells-as order_text (λ o. true) FitsOrder order_text_is (λ o. refl) (λ o w. w) (λ o w. w)
    (Spells-chosen 1 u8_bytes (λ n. n < 2 ^ 8) Spells-u8 _ order_number order_fields (λ o. true) FitsOrder order_small
    (case_sound order_number order_fields (λ o. true) FitsOrder 1 (λ p. order.Write p.0 p.1) _ (λ a. refl) (λ a. refl)
    (λ a. refl) (λ a w. w) Spells-write
    (case_sound order_number order_fields (λ o. true) FitsOrder 2 order.Notice _ (λ a. refl) (λ a. refl)
    (λ a. refl) (λ a w. w) Spells-notice
    (unknown_sound order_number order_fields (λ o. true) FitsOrder))) order_back)

abbrev voucher_fields : Voucher → List ℕ
voucher_fields b = u32_bytes b.client ++ (u64_bytes b.number ++ order_text b.order)

Spells-voucher : Spells voucher_at voucher_fields (λ b. true) FitsVoucher
unfolding voucher_at
Spells-voucher = Spells-made (λ p. record { client = p.0; number = p.1.0; order = p.1.1 })
    (λ b. (b.client, (b.number, b.order))) (λ b. refl) (λ a. refl)
    (Spells-both Spells-u32 (Spells-both Spells-u64 Spells-order))

-- the other kinds

Spells-ping : Spells ping_at (λ b. u64_bytes b.number) (λ b. true) (λ b. Is64 b.number)
unfolding ping_at
Spells-ping = Spells-made (λ n. record { number = n }) (λ b. b.number) (λ b. refl) (λ a. refl) Spells-u64

Spells-pong : Spells pong_at (λ b. u32_bytes b.to ++ u64_bytes b.number) (λ b. true) (λ b. Is32 b.to × Is64 b.number)
unfolding pong_at
Spells-pong = Spells-made (λ p. record { to = p.0; number = p.1 }) (λ b. (b.to, b.number)) (λ b. refl) (λ a. refl)
    (Spells-both Spells-u32 Spells-u64)

Spells-rtt : Spells rtt_at (λ b. u32_bytes b.to ++ (u64_bytes b.number ++ u64_bytes b.ticks)) (λ b. true)
    (λ b. Is32 b.to × (Is64 b.number × Is64 b.ticks))
unfolding rtt_at
Spells-rtt = Spells-made (λ p. record { to = p.0; number = p.1.0; ticks = p.1.1 }) (λ b. (b.to, (b.number, b.ticks)))
    (λ b. refl) (λ a. refl)
    (Spells-both Spells-u32 (Spells-both Spells-u64 Spells-u64))

Spells-tat_report : Spells tat_report_at (λ b. u64_bytes b.v ++ u64_bytes b.ticks) (λ b. true)
    (λ b. Is64 b.v × Is64 b.ticks)
unfolding tat_report_at
Spells-tat_report = Spells-made (λ p. record { v = p.0; ticks = p.1 }) (λ b. (b.v, b.ticks)) (λ b. refl) (λ a. refl)
    (Spells-both Spells-u64 Spells-u64)

Spells-tat_bound : Spells tat_bound_at (λ b. u64_bytes b.v ++ u64_bytes b.ticks) (λ b. true)
    (λ b. Is64 b.v × Is64 b.ticks)
unfolding tat_bound_at
Spells-tat_bound = Spells-made (λ p. record { v = p.0; ticks = p.1 }) (λ b. (b.v, b.ticks)) (λ b. refl) (λ a. refl)
    (Spells-both Spells-u64 Spells-u64)

Spells-suspect : Spells suspect_at (λ b. u64_bytes b.v) (λ b. true) (λ b. Is64 b.v)
unfolding suspect_at
Spells-suspect = Spells-made (λ n. record { v = n }) (λ b. b.v) (λ b. refl) (λ a. refl) Spells-u64

abbrev new_view_fields : NewView → List ℕ
new_view_fields b = u64_bytes b.v ++ list_text (signed_text report_text) b.reports

Spells-new_view : Spells new_view_at new_view_fields (λ b. frames_fit report_fits b.reports) FitsNewView
unfolding new_view_at
Spells-new_view = Spells-made (λ p. record { v = p.0; reports = p.1 }) (λ b. (b.v, b.reports)) (λ b. refl) (λ a. refl)
    (Spells-both Spells-u64 (Spells-frames short_report Spells-report_body))

Spells-ask_update : Spells ask_update_at (λ b. u32_bytes b.j ++ u64_bytes b.k) (λ b. true) (λ b. Is32 b.j × Is64 b.k)
unfolding ask_update_at
Spells-ask_update = Spells-made (λ p. record { j = p.0; k = p.1 }) (λ b. (b.j, b.k)) (λ b. refl) (λ a. refl)
    (Spells-both Spells-u32 Spells-u64)

abbrev give_fields : Give → List ℕ
give_fields b = signed_text request_text b.request ++ list_text (signed_text ack_text) b.acks

Spells-give : Spells give_at give_fields (λ b. request_fits b.request.body && signature_fits b.request
    && frames_fit always_fits b.acks) FitsGive
unfolding give_at
Spells-give = Spells-made (λ p. record { request = p.0; acks = p.1 }) (λ b. (b.request, b.acks)) (λ b. refl) (λ a. refl)
    (Spells-both (Spells-signed short_request Spells-request_body None) (Spells-frames short_ack Spells-ack_body))

Spells-ask_order : Spells ask_order_at (λ b. u64_bytes b.s) (λ b. true) (λ b. Is64 b.s)
unfolding ask_order_at
Spells-ask_order = Spells-made (λ n. record { s = n }) (λ b. b.s) (λ b. refl) (λ a. refl) Spells-u64

abbrev give_ordered_fields : GiveOrdered → List ℕ
give_ordered_fields b = u64_bytes b.s
    ++ (u64_bytes b.v ++ (rows_text b.rows ++ list_text (signed_text commit_text) b.commits))

Spells-give_ordered : Spells give_ordered_at give_ordered_fields
    (λ b. rows_fit b.rows && frames_fit always_fits b.commits) FitsGiveOrdered
unfolding give_ordered_at
Spells-give_ordered = Spells-made (λ p. record { s = p.0; v = p.1.0; rows = p.1.1.0; commits = p.1.1.1 })
    (λ b. (b.s, (b.v, (b.rows, b.commits)))) (λ b. refl) (λ a. refl)
    (Spells-both Spells-u64 (Spells-both Spells-u64
    (Spells-both Spells-rows (Spells-frames short_commit Spells-commit_body))))

-- a body of any kind

kind_number : Body → ℕ
kind_number b = number_of_kind b

fields : Body → List ℕ
fields (body.Update b) = update_fields b
fields (body.PoRequest b) = request_fields b
fields (body.PoAck b) = ack_fields b
fields (body.PoSummary b) = list_text u64_bytes b.numbers
fields (body.PrePrepare b) = pre_prepare_fields b
fields (body.Prepare b) = prepare_fields b
fields (body.Commit b) = commit_fields b
fields (body.Ping b) = u64_bytes b.number
fields (body.Pong b) = u32_bytes b.to ++ u64_bytes b.number
fields (body.Rtt b) = u32_bytes b.to ++ (u64_bytes b.number ++ u64_bytes b.ticks)
fields (body.TatReport b) = u64_bytes b.v ++ u64_bytes b.ticks
fields (body.TatBound b) = u64_bytes b.v ++ u64_bytes b.ticks
fields (body.Suspect b) = u64_bytes b.v
fields (body.Report b) = report_fields b
fields (body.NewView b) = new_view_fields b
fields (body.AskUpdate b) = u32_bytes b.j ++ u64_bytes b.k
fields (body.Give b) = give_fields b
fields (body.AskOrder b) = u64_bytes b.s
fields (body.GiveOrdered b) = give_ordered_fields b
fields (body.Voucher b) = voucher_fields b
fields (body.Mark b) = u64_bytes b.s

body_text_is : (b : Body) → body_text b ≡ u16_bytes (kind_number b) ++ fields b
unfolding kind_number fields
body_text_is (body.Update b) = simp append_assoc
body_text_is (body.PoRequest b) = append_assoc (u16_bytes 2) (u64_bytes b.k) (signed_text update_text b.update)
body_text_is (body.PoAck b) = simp append_assoc
body_text_is (body.PoSummary b) = refl
body_text_is (body.PrePrepare b) = append_assoc (u16_bytes 5 ++ u64_bytes b.v) (u64_bytes b.s)
    (list_text (signed_text summary_text) b.frames) ∙ append_assoc (u16_bytes 5) (u64_bytes b.v)
    (u64_bytes b.s ++ list_text (signed_text summary_text) b.frames)
body_text_is (body.Prepare b) = simp append_assoc
body_text_is (body.Commit b) = simp append_assoc
body_text_is (body.Ping b) = refl
body_text_is (body.Pong b) = append_assoc (u16_bytes 9) (u32_bytes b.to) (u64_bytes b.number)
body_text_is (body.Rtt b) = simp append_assoc
body_text_is (body.TatReport b) = append_assoc (u16_bytes 11) (u64_bytes b.v) (u64_bytes b.ticks)
body_text_is (body.TatBound b) = append_assoc (u16_bytes 12) (u64_bytes b.v) (u64_bytes b.ticks)
body_text_is (body.Suspect b) = refl
body_text_is (body.Report b) = report_text_is b
body_text_is (body.NewView b) =
    append_assoc (u16_bytes 15) (u64_bytes b.v) (list_text (signed_text report_text) b.reports)
body_text_is (body.AskUpdate b) = append_assoc (u16_bytes 16) (u32_bytes b.j) (u64_bytes b.k)
body_text_is (body.Give b) = append_assoc (u16_bytes 17) (signed_text request_text b.request)
    (list_text (signed_text ack_text) b.acks)
body_text_is (body.AskOrder b) = refl
body_text_is (body.GiveOrdered b) = append_assoc (u16_bytes 19 ++ u64_bytes b.s ++ u64_bytes b.v) (rows_text b.rows)
    (list_text (signed_text commit_text) b.commits) ∙ append_assoc (u16_bytes 19 ++ u64_bytes b.s) (u64_bytes b.v)
    (rows_text b.rows ++ list_text (signed_text commit_text) b.commits) ∙ append_assoc (u16_bytes 19) (u64_bytes b.s)
    (u64_bytes b.v ++ (rows_text b.rows ++ list_text (signed_text commit_text) b.commits))
body_text_is (body.Voucher b) = append_assoc (u16_bytes 20 ++ u32_bytes b.client) (u64_bytes b.number)
    (order_text b.order) ∙ append_assoc (u16_bytes 20) (u32_bytes b.client) (u64_bytes b.number ++ order_text b.order)
body_text_is (body.Mark b) = refl

kind_small : (b : Body) → kind_number b < 2 ^ 16
unfolding kind_number
kind_small (body.Update b) = omega arith
kind_small (body.PoRequest b) = omega arith
kind_small (body.PoAck b) = omega arith
kind_small (body.PoSummary b) = omega arith
kind_small (body.PrePrepare b) = omega arith
kind_small (body.Prepare b) = omega arith
kind_small (body.Commit b) = omega arith
kind_small (body.Ping b) = omega arith
kind_small (body.Pong b) = omega arith
kind_small (body.Rtt b) = omega arith
kind_small (body.TatReport b) = omega arith
kind_small (body.TatBound b) = omega arith
kind_small (body.Suspect b) = omega arith
kind_small (body.Report b) = omega arith
kind_small (body.NewView b) = omega arith
kind_small (body.AskUpdate b) = omega arith
kind_small (body.Give b) = omega arith
kind_small (body.AskOrder b) = omega arith
kind_small (body.GiveOrdered b) = omega arith
kind_small (body.Voucher b) = omega arith
kind_small (body.Mark b) = omega arith

kinds_back : (b : Body) (start place : ℕ) (rest : List ℕ) → body_fits b ≡ true → FitsBody b
    → kinds (kind_number b) start (at place (fields b ++ rest)) ≡ Ok (b, at (place + length (fields b)) rest)
unfolding kind_number fields
kinds_back (body.Update b) start place rest ok wide =
    made_back body.Update update_at _ _ _ (Spells-update.back b place rest ok wide)
kinds_back (body.PoRequest b) start place rest ok wide =
    made_back body.PoRequest request_at _ _ _ (Spells-request.back b place rest ok wide)
kinds_back (body.PoAck b) start place rest ok wide =
    made_back body.PoAck ack_at _ _ _ (Spells-ack.back b place rest ok wide)
kinds_back (body.PoSummary b) start place rest ok wide =
    made_back body.PoSummary summary_at _ _ _ (Spells-summary.back b place rest ok wide)
kinds_back (body.PrePrepare b) start place rest ok wide =
    made_back body.PrePrepare pre_prepare_at _ _ _ (Spells-pre_prepare.back b place rest ok wide)
kinds_back (body.Prepare b) start place rest ok wide =
    made_back body.Prepare prepare_at _ _ _ (Spells-prepare.back b place rest ok wide)
kinds_back (body.Commit b) start place rest ok wide =
    made_back body.Commit commit_at _ _ _ (Spells-commit.back b place rest ok wide)
kinds_back (body.Ping b) start place rest ok wide =
    made_back body.Ping ping_at _ _ _ (Spells-ping.back b place rest ok wide)
kinds_back (body.Pong b) start place rest ok wide =
    made_back body.Pong pong_at _ _ _ (Spells-pong.back b place rest ok wide)
kinds_back (body.Rtt b) start place rest ok wide =
    made_back body.Rtt rtt_at _ _ _ (Spells-rtt.back b place rest ok wide)
kinds_back (body.TatReport b) start place rest ok wide =
    made_back body.TatReport tat_report_at _ _ _ (Spells-tat_report.back b place rest ok wide)
kinds_back (body.TatBound b) start place rest ok wide =
    made_back body.TatBound tat_bound_at _ _ _ (Spells-tat_bound.back b place rest ok wide)
kinds_back (body.Suspect b) start place rest ok wide =
    made_back body.Suspect suspect_at _ _ _ (Spells-suspect.back b place rest ok wide)
kinds_back (body.Report b) start place rest ok wide =
    made_back body.Report report_at _ _ _ (Spells-report.back b place rest ok wide)
kinds_back (body.NewView b) start place rest ok wide =
    made_back body.NewView new_view_at _ _ _ (Spells-new_view.back b place rest ok wide)
kinds_back (body.AskUpdate b) start place rest ok wide =
    made_back body.AskUpdate ask_update_at _ _ _ (Spells-ask_update.back b place rest ok wide)
kinds_back (body.Give b) start place rest ok wide =
    made_back body.Give give_at _ _ _ (Spells-give.back b place rest ok wide)
kinds_back (body.AskOrder b) start place rest ok wide =
    made_back body.AskOrder ask_order_at _ _ _ (Spells-ask_order.back b place rest ok wide)
kinds_back (body.GiveOrdered b) start place rest ok wide =
    made_back body.GiveOrdered give_ordered_at _ _ _ (Spells-give_ordered.back b place rest ok wide)
kinds_back (body.Voucher b) start place rest ok wide =
    made_back body.Voucher voucher_at _ _ _ (Spells-voucher.back b place rest ok wide)
kinds_back (body.Mark b) start place rest ok wide =
    made_back body.Mark mark_at _ _ _ (Spells-mark.back b place rest ok wide)

measures_sound : CasesSound measure_kinds kind_number fields body_fits FitsBody
unfolding kind_number fields
measures_sound =
    (case_sound kind_number fields body_fits FitsBody 8 body.Ping _ (λ a. refl) (λ a. refl)
    (λ a. refl) (λ a w. w) Spells-ping
    (case_sound kind_number fields body_fits FitsBody 9 body.Pong _ (λ a. refl) (λ a. refl)
    (λ a. refl) (λ a w. w) Spells-pong
    (case_sound kind_number fields body_fits FitsBody 10 body.Rtt _ (λ a. refl) (λ a. refl)
    (λ a. refl) (λ a w. w) Spells-rtt
    (case_sound kind_number fields body_fits FitsBody 11 body.TatReport _ (λ a. refl) (λ a. refl) (λ a. refl)
    (λ a w. w) Spells-tat_report
    (case_sound kind_number fields body_fits FitsBody 12 body.TatBound _ (λ a. refl) (λ a. refl) (λ a. refl)
    (λ a w. w) Spells-tat_bound
    (case_sound kind_number fields body_fits FitsBody 13 body.Suspect _ (λ a. refl) (λ a. refl) (λ a. refl) (λ a w. w)
    Spells-suspect (unknown_sound kind_number fields body_fits FitsBody)))))))

views_sound : CasesSound view_kinds kind_number fields body_fits FitsBody
unfolding kind_number fields
views_sound =
    (case_sound kind_number fields body_fits FitsBody 14 body.Report _ (λ a. refl) (λ a. refl)
    (λ a. refl) (λ a w. w) Spells-report
    (case_sound kind_number fields body_fits FitsBody 15 body.NewView _ (λ a. refl) (λ a. refl) (λ a. refl)
    (λ a w. w) Spells-new_view
    (case_sound kind_number fields body_fits FitsBody 16 body.AskUpdate _ (λ a. refl) (λ a. refl) (λ a. refl)
    (λ a w. w) Spells-ask_update
    (case_sound kind_number fields body_fits FitsBody 17 body.Give _ (λ a. refl) (λ a. refl)
    (λ a. refl) (λ a w. w) Spells-give
    (case_sound kind_number fields body_fits FitsBody 18 body.AskOrder _ (λ a. refl) (λ a. refl) (λ a. refl)
    (λ a w. w) Spells-ask_order
    (case_sound kind_number fields body_fits FitsBody 19 body.GiveOrdered _ (λ a. refl) (λ a. refl) (λ a. refl)
    (λ a w. w) Spells-give_ordered
    (case_sound kind_number fields body_fits FitsBody 20 body.Voucher _ (λ a. refl) (λ a. refl) (λ a. refl) (λ a w. w)
    Spells-voucher measures_sound)))))))

kinds_sound : CasesSound kinds kind_number fields body_fits FitsBody
unfolding kind_number fields
kinds_sound =
    (case_sound kind_number fields body_fits FitsBody 1 body.Update _ (λ a. refl) (λ a. refl)
    (λ a. refl) (λ a w. w) Spells-update
    (case_sound kind_number fields body_fits FitsBody 2 body.PoRequest _ (λ a. refl) (λ a. refl)
    (λ a. refl) (λ a w. w) Spells-request
    (case_sound kind_number fields body_fits FitsBody 3 body.PoAck _ (λ a. refl) (λ a. refl)
    (λ a. refl) (λ a w. w) Spells-ack
    (case_sound kind_number fields body_fits FitsBody 4 body.PoSummary _ (λ a. refl) (λ a. refl)
    (λ a. refl) (λ a w. w) Spells-summary
    (case_sound kind_number fields body_fits FitsBody 5 body.PrePrepare _ (λ a. refl) (λ a. refl) (λ a. refl)
    (λ a w. w) Spells-pre_prepare
    (case_sound kind_number fields body_fits FitsBody 6 body.Prepare _ (λ a. refl) (λ a. refl)
    (λ a. refl) (λ a w. w) Spells-prepare
    (case_sound kind_number fields body_fits FitsBody 7 body.Commit _ (λ a. refl) (λ a. refl)
    (λ a. refl) (λ a w. w) Spells-commit
    (case_sound kind_number fields body_fits FitsBody 21 body.Mark _ (λ a. refl) (λ a. refl) (λ a. refl) (λ a w. w)
    Spells-mark views_sound))))))))

pub Spells-body : Spells body_at body_text body_fits FitsBody
unfolding body_at
Spells-body = Spells-as body_text body_fits FitsBody body_text_is (λ b. refl) (λ b w. w) (λ b w. w)
    (Spells-chosen 2 u16_bytes (λ n. n < 2 ^ 16) Spells-u16 kinds kind_number fields body_fits FitsBody
    kind_small kinds_sound kinds_back)

pub short_body : (b : Body) → body_fits b ≡ true → FitsBody b → length (body_text b) ≤ 2 ^ 30
short_body b ok w = let h = body_within b ok w in omega arith
