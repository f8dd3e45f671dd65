-- Whole messages: one text each, and what a reader gives for one.
use Rattle.std.proofs.Common.{◌≡◌, ◌<◌, ◌^◌, ℕ, Bool, true, false, List, [], ◌++◌, refl, sym, ap, ◌∙◌}
use Rattle.std.specs.Prelude.{IsTrue, IfOk, IfErr, if◌then◌else◌, Option, Some, None, Result, Ok, Err}
use Rattle.std.proofs.lemmas.List.{append-nil}
use Rattle.modbus_forms.specs.declared.refusal.ModbusRefusal.{ModbusRefusal}
use Rattle.modbus_forms.specs.declared.refusal.ModbusRefusal.TheVariants as fault
use Rattle.modbus_forms.specs.declared.request.Request.{Request}
use Rattle.modbus_forms.specs.declared.request.RequestPdu.{RequestPdu}
use Rattle.modbus_forms.specs.declared.reply.Reply.{Reply}
use Rattle.modbus_forms.specs.declared.reply.ReplyPdu.{ReplyPdu}
use Rattle.modbus_forms.specs.Frame.{frame_text, frame_fault, pdu_of, first_fault}
use Rattle.modbus_forms.specs.Requests.{request_pdu_text, request_text, request_fits, is_request_sized, request_fault}
use Rattle.modbus_forms.specs.Replies.{reply_pdu_text, reply_text, reply_fits, is_reply_sized, reply_fault}
use Rattle.modbus_forms.specs.Widths.{FitsRequest, FitsReply}
use Rattle.modbus_forms.specs.Answered.{IsFault, Reads}
use Rattle.modbus_forms.proofs.FrameLaws.{framed_faultless}
use Rattle.modbus_forms.proofs.TextLaws.{same_frame}
use Rattle.modbus_forms.proofs.RequestLaws.{request_inj, request_sized, request_some, request_few}
use Rattle.modbus_forms.proofs.ReplyLaws.{reply_inj, reply_sized, reply_some, reply_few}

no_fault : (is_sized : List ℕ → Bool) (bytes pdu : List ℕ) → frame_fault bytes ≡ None →
    pdu_of bytes ≡ pdu → is_sized pdu ≡ true
    → first_fault is_sized bytes ≡ None
no_fault is_sized bytes pdu framed is sized =
    let right : is_sized (pdu_of bytes) ≡ true = ap is_sized is ∙ sized in
    ap (λ (first : Option ModbusRefusal). elim first [
      | Some e ↦ Some e
      | None ↦ if is_sized (pdu_of bytes)
          then None else Some fault.BadLength
    ]) framed
    ∙ ap (λ b. if b then None else Some fault.BadLength) right

pub request_faultless : (r : Request) → request_fits r ≡ true → request_fault (request_text r) ≡ None
request_faultless r fits =
    let framed = framed_faultless r.transaction r.unit (request_pdu_text r.pdu) (request_some r.pdu)
    (request_few r.pdu fits) in
    no_fault is_request_sized _ _ framed.0 framed.1 (request_sized r.pdu fits)

pub reply_faultless : (r : Reply) → reply_fits r ≡ true → reply_fault (reply_text r) ≡ None
reply_faultless r fits =
    let framed = framed_faultless r.transaction r.unit (reply_pdu_text r.pdu) (reply_some r.pdu)
    (reply_few r.pdu fits) in
    no_fault is_reply_sized _ _ framed.0 framed.1 (reply_sized r.pdu fits)

request_is : (f g : Request) → f.transaction ≡ g.transaction → f.unit ≡ g.unit → f.pdu ≡ g.pdu → f ≡ g
request_is f g a b c =
    let one : f ≡ record { transaction = g.transaction; unit = f.unit; pdu = f.pdu } =
    ap (λ x. record { transaction = x; unit = f.unit; pdu = f.pdu }) a in
    let two = ap (λ (x : ℕ). let made : Request = record { transaction = g.transaction; unit = x; pdu = f.pdu } in
    made) b in
    let three = ap (λ (x : RequestPdu). let made : Request =
    record { transaction = g.transaction; unit = g.unit; pdu = x } in made) c in
    one ∙ two ∙ three

reply_is : (f g : Reply) → f.transaction ≡ g.transaction → f.unit ≡ g.unit → f.pdu ≡ g.pdu → f ≡ g
reply_is f g a b c =
    let one : f ≡ record { transaction = g.transaction; unit = f.unit; pdu = f.pdu } =
    ap (λ x. record { transaction = x; unit = f.unit; pdu = f.pdu }) a in
    let two = ap (λ (x : ℕ). let made : Reply = record { transaction = g.transaction; unit = x; pdu = f.pdu } in made)
    b in
    let three = ap (λ (x : ReplyPdu). let made : Reply =
    record { transaction = g.transaction; unit = g.unit; pdu = x } in made) c in
    one ∙ two ∙ three

pub request_no_prefix : (f g : Request) (xs ys : List ℕ) → FitsRequest f → FitsRequest g → request_fits f ≡ true →
    request_fits g ≡ true
    → request_text f ++ xs ≡ request_text g ++ ys → (f ≡ g) × (xs ≡ ys)
request_no_prefix f g xs ys wf wg sf sg same =
    let frame = same_frame _ _ _ _ _ _ _ _ wf.0 wg.0 (request_few f.pdu sf) (request_few g.pdu sg) same in
    (request_is f g frame.transaction frame.unit (request_inj f.pdu g.pdu sf sg wf.1 wg.1 frame.pdu_is), frame.rest)

pub reply_no_prefix : (f g : Reply) (xs ys : List ℕ) → FitsReply f → FitsReply g →
    reply_fits f ≡ true → reply_fits g ≡ true
    → reply_text f ++ xs ≡ reply_text g ++ ys → (f ≡ g) × (xs ≡ ys)
reply_no_prefix f g xs ys wf wg sf sg same =
    let frame = same_frame _ _ _ _ _ _ _ _ wf.0 wg.0 (reply_few f.pdu sf) (reply_few g.pdu sg) same in
    (reply_is f g frame.transaction frame.unit (reply_inj f.pdu g.pdu sf sg wf.1 wg.1 frame.pdu_is), frame.rest)

-- bytes without a fault are read
never : (first : Option ModbusRefusal) (e : ModbusRefusal) → first ≡ None → first ≡ Some e → ⊥
never first e none some = cc

pub only_request : (result : Result Request ModbusRefusal) (bytes : List ℕ) → IfOk result (λ x. bytes ≡ request_text x)
    → IfOk result (λ x. IsTrue (request_fits x)) → IfOk result FitsRequest →
    IfErr result (λ e. IsFault e (request_fault bytes))
    → (m : Request) → FitsRequest m → IsTrue (request_fits m) → bytes ≡ request_text m → Reads result m
only_request (Ok x) bytes found fits wide err m wm sm is =
    (request_no_prefix x m [] [] wide wm fits sm (append-nil (request_text x) ∙ sym found ∙ is
    ∙ sym (append-nil (request_text m)))).0
only_request (Err fault.Want) bytes found fits wide err m wm sm is = tt
only_request (Err fault.Short) bytes found fits wide err m wm sm is =
    never _ _ (ap request_fault is ∙ request_faultless m sm) err
only_request (Err fault.Trailing) bytes found fits wide err m wm sm is =
    never _ _ (ap request_fault is ∙ request_faultless m sm) err
only_request (Err fault.BadProtocol) bytes found fits wide err m wm sm is =
    never _ _ (ap request_fault is ∙ request_faultless m sm) err
only_request (Err fault.BadLength) bytes found fits wide err m wm sm is =
    never _ _ (ap request_fault is ∙ request_faultless m sm) err

pub only_reply : (result : Result Reply ModbusRefusal) (bytes : List ℕ) → IfOk result (λ x. bytes ≡ reply_text x)
    → IfOk result (λ x. IsTrue (reply_fits x)) → IfOk result FitsReply →
    IfErr result (λ e. IsFault e (reply_fault bytes))
    → (m : Reply) → FitsReply m → IsTrue (reply_fits m) → bytes ≡ reply_text m → Reads result m
only_reply (Ok x) bytes found fits wide err m wm sm is =
    (reply_no_prefix x m [] [] wide wm fits sm (append-nil (reply_text x) ∙ sym found ∙ is
    ∙ sym (append-nil (reply_text m)))).0
only_reply (Err fault.Want) bytes found fits wide err m wm sm is = tt
only_reply (Err fault.Short) bytes found fits wide err m wm sm is =
    never _ _ (ap reply_fault is ∙ reply_faultless m sm) err
only_reply (Err fault.Trailing) bytes found fits wide err m wm sm is =
    never _ _ (ap reply_fault is ∙ reply_faultless m sm) err
only_reply (Err fault.BadProtocol) bytes found fits wide err m wm sm is =
    never _ _ (ap reply_fault is ∙ reply_faultless m sm) err
only_reply (Err fault.BadLength) bytes found fits wide err m wm sm is =
    never _ _ (ap reply_fault is ∙ reply_faultless m sm) err
