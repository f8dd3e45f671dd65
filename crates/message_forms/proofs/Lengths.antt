-- How long texts can be: a frame that has a spelling is below 1 GiB.
use Rattle.std.proofs.Common.{◌≡◌, ◌≤◌, ◌+◌, ◌*◌, ◌^◌, ℕ, Bool, true, List, [], ◌∷◌, ◌++◌, length, refl, arith}
use Rattle.std.proofs.Common.{length-append}
use Rattle.std.specs.Prelude.{◌&&◌, nat_le, map}
use Rattle.std.specs.List.{flat_map, list_all, AllByRecursion}
use Rattle.std.proofs.Math.Nat.{mul-suc, mul-le-mul_left}
use Rattle.std.proofs.lemmas.Bool.{and_parts, leb-true}
use Rattle.wire_parts.specs.Fields.{u16_bytes, u64_bytes}
use Rattle.wire_parts.specs.FieldLaws.{length-u16_bytes, length-u32_bytes, length-u64_bytes}
use Rattle.message_types.specs.declared.signed.Signed.{Signed}
use Rattle.message_types.specs.declared.updates.Op.{Op}
use Rattle.message_types.specs.declared.updates.Op.TheVariants as op
use Rattle.message_types.specs.declared.updates.Update.{Update}
use Rattle.message_types.specs.declared.preordering.PoRequest.{PoRequest}
use Rattle.message_types.specs.declared.preordering.PoAck.{PoAck}
use Rattle.message_types.specs.declared.preordering.PoSummary.{PoSummary}
use Rattle.message_types.specs.declared.ordering.Prepare.{Prepare}
use Rattle.message_types.specs.declared.ordering.Commit.{Commit}
use Rattle.message_types.specs.declared.ordering.Mark.{Mark}
use Rattle.message_types.specs.declared.ordering.Certificate.{Certificate}
use Rattle.message_types.specs.declared.views.Report.{Report}
use Rattle.message_types.specs.declared.vouchers.Order.{Order}
use Rattle.message_types.specs.declared.vouchers.Order.TheVariants as order
use Rattle.message_types.specs.declared.body.Body.{Body}
use Rattle.message_types.specs.declared.body.Body.TheVariants as body
use Rattle.message_types.specs.Texts.{list_text, signed_text, op_text, rows_text, order_text, update_text}
use Rattle.message_types.specs.Texts.{request_text, ack_text, summary_text, prepare_text, commit_text, mark_text}
use Rattle.message_types.specs.Texts.{certificate_text, report_text, body_text, frame_text}
use Rattle.message_types.specs.Spelling.{is_rising, signers_of, signature_fits, frames_fit, always_fits, row_fits}
use Rattle.message_types.specs.Spelling.{rows_fit, request_fits, summary_fits, certificate_fits, report_fits}
use Rattle.message_types.specs.Spelling.{body_fits, has_spelling}
use Rattle.message_forms.specs.Widths.{Is64, FitsSigner, FitsSigners, FitsAck, FitsRow, FitsRows, FitsSummary}
use Rattle.message_forms.specs.Widths.{FitsPrepare, FitsCommit, FitsMark, FitsCertificate, FitsReport, FitsBody}
use Rattle.message_forms.specs.Widths.{FitsFields}

items_within : {X : Type 0} (f : X → List ℕ) (p : X → Bool) (W : X → Type 0) (most : ℕ)
    → ((x : X) → p x ≡ true → W x → length (f x) ≤ most)
    → (xs : List X) → list_all p xs ≡ true → AllByRecursion W xs → length (flat_map f xs) ≤ most * length xs
items_within f p W most each [] all wide = omega arith
items_within f p W most each (x ∷ xs) all wide =
    let parts = and_parts (p x) (list_all p xs) all in
    let rest = items_within f p W most each xs parts.1 wide.1 in
    let head = each x parts.0 wide.0 in
    omega (arith, length-append (f x) (flat_map f xs), mul-suc most (length xs))

list_within : {X : Type 0} (f : X → List ℕ) (p : X → Bool) (W : X → Type 0) (most count : ℕ)
    → ((x : X) → p x ≡ true → W x → length (f x) ≤ most)
    → (xs : List X) → nat_le (length xs) count ≡ true → list_all p xs ≡ true → AllByRecursion W xs
    → length (list_text f xs) ≤ 2 + most * count
list_within f p W most count each xs few all wide =
    let items = items_within f p W most each xs all wide in
    let fewer = mul-le-mul_left most (leb-true (length xs) count few) in
    omega (arith, length-append (u16_bytes (length xs)) (flat_map f xs), length-u16_bytes (length xs))

signed_within : {B : Type 0} (t : B → List ℕ) (f : Signed B) (most : ℕ) → length (t f.body) ≤ most →
    signature_fits f ≡ true
    → length (signed_text t f) ≤ most + 65548
signed_within t f most body fits =
    let sig = leb-true (length f.sig) 65536 fits in
    simp (length-append, length-u32_bytes) (omega arith)

frames_within : {B : Type 0} (t : B → List ℕ) (p : B → Bool) (W : B → Type 0) (most : ℕ)
    → ((b : B) → p b ≡ true → W b → length (t b) ≤ most)
    → (fs : List (Signed B)) → frames_fit p fs ≡ true → FitsSigners W fs →
    length (list_text (signed_text t) fs) ≤ 2 + (most + 65548) * 14
frames_within t p W most each fs fits wide =
    let a = and_parts (nat_le (length fs) 14 && is_rising (signers_of fs))
    (list_all (λ f. p f.body && signature_fits f) fs) fits in
    let b = and_parts (nat_le (length fs) 14) (is_rising (signers_of fs)) a.0 in
    list_within (signed_text t) (λ f. p f.body && signature_fits f) (FitsSigner W) (most + 65548) 14
    (λ f ok w. let c = and_parts (p f.body) (signature_fits f) ok in signed_within t f most (each f.body c.0 w.1) c.1)
    fs b.0 a.1 wide

numbers_all : (row : List ℕ) → list_all (λ x. true) row ≡ true
numbers_all [] = refl
numbers_all (x ∷ row) = numbers_all row

op_within : (o : Op) → length (op_text o) ≤ 13
op_within (op.Reading point value) = simp (length-append, length-u32_bytes, length-u64_bytes) (omega arith)
op_within (op.Set point value) = simp (length-append, length-u32_bytes, length-u64_bytes) (omega arith)
op_within (op.Ack alarm) = simp (length-append, length-u32_bytes) (omega arith)

pub update_within : (b : Update) → length (update_text b) ≤ 27
update_within b = let o = op_within b.op in
    simp (length-append, length-u16_bytes, length-u32_bytes, length-u64_bytes) (omega arith)

pub request_within : (b : PoRequest) → request_fits b ≡ true → length (request_text b) ≤ 65585
request_within b fits =
    let inner = signed_within update_text b.update 27 (update_within b.update.body) fits in
    omega (
      arith,
      length-append (u16_bytes 2 ++ u64_bytes b.k) (signed_text update_text b.update),
      length-append (u16_bytes 2) (u64_bytes b.k),
      length-u16_bytes 2,
      length-u64_bytes b.k,
    )

pub ack_within : (b : PoAck) → FitsAck b → length (ack_text b) ≤ 46
ack_within b wide = let d = wide.1.1 in
    simp (length-append, length-u16_bytes, length-u32_bytes, length-u64_bytes) (omega arith)

row_within : (row : List ℕ) → row_fits row ≡ true → FitsRow row → length (list_text u64_bytes row) ≤ 114
row_within row fits wide =
    list_within u64_bytes (λ x. true) Is64 8 14 (λ x ok w. omega (arith, length-u64_bytes x))
    row fits (numbers_all row) wide

pub summary_within : (b : PoSummary) → summary_fits b ≡ true → FitsSummary b → length (summary_text b) ≤ 116
summary_within b fits wide =
    let row = row_within b.numbers fits wide in
    omega (arith, length-append (u16_bytes 4) (list_text u64_bytes b.numbers), length-u16_bytes 4)

rows_within : (rows : List (List ℕ)) → rows_fit rows ≡ true → FitsRows rows → length (rows_text rows) ≤ 1600
rows_within rows fits wide =
    let a = and_parts (nat_le (length rows) 14) (list_all row_fits rows) fits in
    let all = list_within (list_text u64_bytes) row_fits FitsRow 114 14 row_within rows a.0 a.1 wide in
    omega (arith, length-append (u16_bytes 0x00f0) (list_text (list_text u64_bytes) rows), length-u16_bytes 0x00f0)

pub prepare_within : (b : Prepare) → FitsPrepare b → length (prepare_text b) ≤ 50
prepare_within b wide = let d = wide.1.1 in simp (length-append, length-u16_bytes, length-u64_bytes) (omega arith)

pub commit_within : (b : Commit) → FitsCommit b → length (commit_text b) ≤ 50
commit_within b wide = let d = wide.1.1 in simp (length-append, length-u16_bytes, length-u64_bytes) (omega arith)

pub mark_within : (b : Mark) → length (mark_text b) ≤ 10
mark_within b = simp (length-append, length-u16_bytes, length-u64_bytes) (omega arith)

certificate_within : (c : Certificate) → certificate_fits c ≡ true → FitsCertificate c →
    length (certificate_text c) ≤ 919990
certificate_within c fits wide =
    let a = and_parts (rows_fit c.rows) (frames_fit always_fits c.prepares) fits in
    let rows = rows_within c.rows a.0 wide.1.1.0 in
    let prepares = frames_within prepare_text always_fits FitsPrepare 50 (λ b ok w. prepare_within b w)
    c.prepares a.1 wide.1.1.1 in
    omega (
      arith,
      length-append (u64_bytes c.s ++ u64_bytes c.v ++ rows_text c.rows)
          (list_text (signed_text prepare_text) c.prepares),
      length-append (u64_bytes c.s ++ u64_bytes c.v) (rows_text c.rows),
      length-append (u64_bytes c.s) (u64_bytes c.v),
      length-u64_bytes c.s,
      length-u64_bytes c.v,
    )

pub report_within : (b : Report) → report_fits b ≡ true → FitsReport b → length (report_text b) ≤ 15637674
report_within b fits wide =
    let key = λ (c : Certificate). c.s in
    let a = and_parts (frames_fit always_fits b.marks && nat_le (length b.certificates) 16
    && is_rising (map (λ c. c.s) b.certificates)) (list_all certificate_fits b.certificates) fits in
    let d = and_parts (frames_fit always_fits b.marks && nat_le (length b.certificates) 16)
    (is_rising (map (λ c. c.s) b.certificates)) a.0 in
    let e = and_parts (frames_fit always_fits b.marks) (nat_le (length b.certificates) 16) d.0 in
    let marks = frames_within mark_text always_fits FitsMark 10 (λ m ok w. mark_within m) b.marks e.0 wide.1.1.0 in
    let certificates = list_within certificate_text certificate_fits FitsCertificate 919990 16 certificate_within
    b.certificates e.1 a.1 wide.1.1.1 in
    let front = u16_bytes 14 ++ u64_bytes b.v ++ u64_bytes b.base in
    let m = list_text (signed_text mark_text) b.marks in
    let c = list_text certificate_text b.certificates in
    omega (
      arith,
      length-append (u16_bytes 14 ++ u64_bytes b.v ++ u64_bytes b.base ++ list_text (signed_text mark_text) b.marks)
          (list_text certificate_text b.certificates),
      length-append (u16_bytes 14 ++ u64_bytes b.v ++ u64_bytes b.base) (list_text (signed_text mark_text) b.marks),
      length-append (u16_bytes 14 ++ u64_bytes b.v) (u64_bytes b.base),
      length-append (u16_bytes 14) (u64_bytes b.v),
      length-u16_bytes 14,
      length-u64_bytes b.v,
      length-u64_bytes b.base,
    )

order_within : (o : Order) → length (order_text o) ≤ 14
order_within (order.Write point raw) = simp (length-append, length-u16_bytes, length-u32_bytes) (omega arith)
order_within (order.Notice n) = simp (length-append, length-u32_bytes, length-u64_bytes) (omega arith)

-- the longest is a newview
pub body_within : (b : Body) → body_fits b ≡ true → FitsBody b → length (body_text b) ≤ 219845122
body_within (body.Update b) fits wide = let w = update_within b in omega arith
body_within (body.PoRequest b) fits wide = let w = request_within b fits in omega arith
body_within (body.PoAck b) fits wide = let w = ack_within b wide in omega arith
body_within (body.PoSummary b) fits wide = let w = summary_within b fits wide in omega arith
body_within (body.PrePrepare b) fits wide =
    let frames = frames_within summary_text summary_fits FitsSummary 116 summary_within b.frames fits wide.1.1 in
    omega (
      arith,
      length-append (u16_bytes 5 ++ u64_bytes b.v ++ u64_bytes b.s) (list_text (signed_text summary_text) b.frames),
      length-append (u16_bytes 5 ++ u64_bytes b.v) (u64_bytes b.s),
      length-append (u16_bytes 5) (u64_bytes b.v),
      length-u16_bytes 5,
      length-u64_bytes b.v,
      length-u64_bytes b.s,
    )
body_within (body.Prepare b) fits wide = let w = prepare_within b wide in omega arith
body_within (body.Commit b) fits wide = let w = commit_within b wide in omega arith
body_within (body.Ping b) fits wide = simp (length-append, length-u16_bytes, length-u64_bytes) (omega arith)
body_within (body.Pong b) fits wide =
    simp (length-append, length-u16_bytes, length-u32_bytes, length-u64_bytes) (omega arith)
body_within (body.Rtt b) fits wide =
    simp (length-append, length-u16_bytes, length-u32_bytes, length-u64_bytes) (omega arith)
body_within (body.TatReport b) fits wide = simp (length-append, length-u16_bytes, length-u64_bytes) (omega arith)
body_within (body.TatBound b) fits wide = simp (length-append, length-u16_bytes, length-u64_bytes) (omega arith)
body_within (body.Suspect b) fits wide = simp (length-append, length-u16_bytes, length-u64_bytes) (omega arith)
body_within (body.Report b) fits wide = let w = report_within b fits wide in omega arith
body_within (body.NewView b) fits wide =
    let frames = frames_within report_text report_fits FitsReport 15637674 report_within b.reports fits wide.1 in
    omega (
      arith,
      length-append (u16_bytes 15 ++ u64_bytes b.v) (list_text (signed_text report_text) b.reports),
      length-append (u16_bytes 15) (u64_bytes b.v),
      length-u16_bytes 15,
      length-u64_bytes b.v,
    )
body_within (body.AskUpdate b) fits wide =
    simp (length-append, length-u16_bytes, length-u32_bytes, length-u64_bytes) (omega arith)
body_within (body.Give b) fits wide =
    let a = and_parts (request_fits b.request.body && signature_fits b.request) (frames_fit always_fits b.acks) fits in
    let c = and_parts (request_fits b.request.body) (signature_fits b.request) a.0 in
    let request = signed_within request_text b.request 65585 (request_within b.request.body c.0) c.1 in
    let acks = frames_within ack_text always_fits FitsAck 46 (λ x ok w. ack_within x w) b.acks a.1 wide.1 in
    omega (
      arith,
      length-append (u16_bytes 17 ++ signed_text request_text b.request) (list_text (signed_text ack_text) b.acks),
      length-append (u16_bytes 17) (signed_text request_text b.request),
      length-u16_bytes 17,
    )
body_within (body.AskOrder b) fits wide = simp (length-append, length-u16_bytes, length-u64_bytes) (omega arith)
body_within (body.GiveOrdered b) fits wide =
    let a = and_parts (rows_fit b.rows) (frames_fit always_fits b.commits) fits in
    let rows = rows_within b.rows a.0 wide.1.1.0 in
    let commits = frames_within commit_text always_fits FitsCommit 50 (λ x ok w. commit_within x w)
    b.commits a.1 wide.1.1.1 in
    omega (
      arith,
      length-append (u16_bytes 19 ++ u64_bytes b.s ++ u64_bytes b.v ++ rows_text b.rows)
          (list_text (signed_text commit_text) b.commits),
      length-append (u16_bytes 19 ++ u64_bytes b.s ++ u64_bytes b.v) (rows_text b.rows),
      length-append (u16_bytes 19 ++ u64_bytes b.s) (u64_bytes b.v),
      length-append (u16_bytes 19) (u64_bytes b.s),
      length-u16_bytes 19,
      length-u64_bytes b.s,
      length-u64_bytes b.v,
    )
body_within (body.Voucher b) fits wide = let o = order_within b.order in
    simp (length-append, length-u16_bytes, length-u32_bytes, length-u64_bytes) (omega arith)
body_within (body.Mark b) fits wide = let w = mark_within b in omega arith

pub frame_within : (f : Signed Body) → has_spelling f ≡ true → FitsFields f → length (frame_text f) ≤ 2 ^ 30
unfolding has_spelling
frame_within f fits wide =
    let a = and_parts (body_fits f.body) (signature_fits f) fits in
    let w = signed_within body_text f 219845122 (body_within f.body a.0 wide.1) a.1 in
    omega (arith, w)
