-- Sender and kind tell the one slot that a frame belongs in. Pushing it there makes the slots those of the
-- frames posted before and this one, as no other slot changes.
use Rattle.std.proofs.Common.{◌≡◌, arith, ap, length}
use Rattle.std.proofs.lemmas.List.{length-map}
use Rattle.run_scripts.specs.Playing.{slots_of}
use Rattle.run_scripts.proofs.MailGrows.{slot_there}
use Rattle.run_scripts.proofs.SlotsKept.{slot_put, slot_written}
use Rattle.run_scripts.proofs.mail.put.Goals as goal

pub slot_at-requires-clause-actor : goal.slot_at-requires-clause-actor
slot_at-requires-clause-actor c = (slot_there _ c.args.post.now c.requires).0

pub slot_at-requires-clause-kind : goal.slot_at-requires-clause-kind
slot_at-requires-clause-kind c = (slot_there _ c.args.post.now c.requires).1

pub index_mut-requires : goal.index_mut-requires
index_mut-requires c = omega (
  arith,
  (slot_there _ c.args.post.now c.requires).2,
  c.slot_at.ensures,
  c.args.slots.now.ok,
)

pub returns-clause-slots : goal.returns-clause-slots
returns-clause-slots c = λ actors posts is.
    let has = slot_there _ c.args.post.now c.requires in
    slot_put actors posts (slots_of c.args.slots.now.items) _ c.args.post.now has.1
    (omega (arith, has.2, length-map c.args.slots.now.items (λ v. v.items)))
    (slot_written c.args.slots.now.items c.slot_at.result _ c.index_mut.result.now c.push.new.self c.in_ok-held.held
    c.args.post.now.held c.slot_at.ensures has.2
    c.index_mut.ensures.value c.in_ok-push.ensures.items c.in_ok-held.ensures) is
