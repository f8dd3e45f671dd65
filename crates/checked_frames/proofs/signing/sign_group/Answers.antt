-- The signature just made verifies for the message of the group; hence each field signs its body's text, and
-- with the few bytes before the signature it stays within a frame's limit.
use Rattle.std.proofs.Common.{◌≡◌, ◌≤◌, ◌∙◌, map, arith, ap}
use Rattle.std.proofs.lemmas.List.{length-map}
use Rattle.message_types.specs.Texts.{body_text}
use Rattle.hash_signatures.specs.Signatures.{key_public, signed_behind}
use Rattle.checked_frames.specs.Signing.{group_signatures, signed_message}
use Rattle.checked_frames.proofs.SigningLaws.{group_signed, group_signs, group_fits, verified_as, short_as}
use Rattle.checked_frames.proofs.signing.sign_group.Goals.{In_ok-fields}
use Rattle.checked_frames.proofs.signing.sign_group.Goals as goal

message_is : (c : In_ok-fields) → c.deref-2.result.now ≡ signed_message (map body_text c.args.bodies.now)
message_is c = c.deref-2.ensures.value ∙ c.in_ok-group.ensures.message_is

fields_are : (c : In_ok-fields) → c.in_ok-fields.fields.items
    ≡ group_signatures c.args.key.now.key c.args.key.now.used (map body_text c.args.bodies.now)
fields_are c =
    c.in_ok-fields.ensures.fields
    ∙ ap (signed_behind c.args.key.now.key c.args.key.now.used c.deref-2.result.now) c.deref.ensures.value
    ∙ group_signed (map body_text c.args.bodies.now) c.deref-2.result.now c.in_ok-group.group.heads.items
    c.args.key.now.key c.args.key.now.used
    (record { message_is = message_is c; fields = c.in_ok-group.ensures.fields })

pub returns-clause-signatures : goal.returns-clause-signatures
returns-clause-signatures c = fields_are (goal.at.returns-clause-signatures c).In_ok-fields

pub returns-clause-signs : goal.returns-clause-signs
returns-clause-signs c =
    let at = (goal.at.returns-clause-signs c).In_ok-fields in
    let texts = map body_text c.args.bodies.now in
    let len = length-map c.args.bodies.now body_text in
    let key = c.args.key.now.key in
    let used = c.args.key.now.used in
    group_signs (key_public key) texts key used c.in_ok-fields.fields.items (omega arith)
    (verified_as (key_public key) c.deref-2.result.now _ key used c.in_ok-fields.ensures.verifies (message_is at))
    (fields_are at)

pub returns-clause-fit : goal.returns-clause-fit
returns-clause-fit c =
    let at = (goal.at.returns-clause-fit c).In_ok-fields in
    let key = c.args.key.now.key in
    let used = c.args.key.now.used in
    group_fits (map body_text c.args.bodies.now) key used c.in_ok-fields.fields.items
    (short_as c.deref-2.result.now _ key used c.in_ok-fields.ensures.short (message_is at)) (fields_are at)
