-- What was kept does spell an event, so that neither its kind nor the rest of it can be missing; and what is
-- read from it is the event kept.
use Rattle.std.proofs.Common.{◌∷◌, sym, ◌∙◌, subst}
use Rattle.history_rules.specs.Events.{Event}
use Rattle.entry_texts.specs.Reads.{ReadsEvent}
use Rattle.entry_texts.proofs.KeptReads.{some_event, behind_kind, other_spells}
use Rattle.entry_texts.proofs.read.read_kept_event.Goals as goal

pub unreachable-requires-in_default-read : goal.unreachable-requires-in_default-read
unreachable-requires-in_default-read c =
    some_event _ (behind_kind c.args.reader.now c.u8.new.self c.in-Ok.kind c.in-Ok.ensures.taken c.requires)
    (λ ring. subst (λ r. ReadsEvent ring (c.in-Ok.kind ∷ c.u8.new.self.rest) r) c.in_default-read.is
    (c.in_ok-read.ensures ring))

pub returns : goal.returns
returns c =
    other_spells c.requires.ring c.args.reader.now c.u8.new.self c.in-Ok.kind c.in-Some.event c.in-Ok.ensures.taken
    (subst (λ r. ReadsEvent c.requires.ring (c.in-Ok.kind ∷ c.u8.new.self.rest) r) c.in-Some.is
    (c.in_ok-read.ensures c.requires.ring))
