-- The first update of a client and number stays, and one that is new has a number of 64 bits.
use Rattle.std.proofs.Common.{◌∙◌, ℕ, ap, cond, Some, is_some}
use Rattle.preorder.specs.Index.{at_pair, same_pair}
use Rattle.preorder.proofs.Steps.{has_updates-known, has_updates-new, has_numbers-new}
use Rattle.preorder.proofs.updates.note_update.Goals as goal

pub returns-then-contains_key-clause-noted : goal.returns-then-contains_key-clause-noted
returns-then-contains_key-clause-noted c = λ taken has.
    has_updates-known taken c.args.frame.now c.args.updates.now.entries
    (c.if-contains_key.ensures ∙ ap (λ (k : ℕ × ℕ). is_some (at_pair c.args.updates.now.entries k))
    c.key_of-key.ensures.key) has

pub returns-clause-noted : goal.returns-clause-noted
returns-clause-noted c = λ taken has.
    has_updates-new taken c.args.frame.now c.in_ok-copy.field-0 c.args.updates.now.entries c.insert.new.self.entries
    c.in_ok-copy.ensures
    (c.if-contains_key.ensures ∙ ap (λ (k : ℕ × ℕ). is_some (at_pair c.args.updates.now.entries k))
    c.key_of-key.ensures.key)
    (λ k. c.in_ok-insert.ensures.updates.0 k
    ∙ ap (λ (x : ℕ × ℕ). cond (same_pair x k) (Some c.in_ok-copy.field-0) (at_pair c.args.updates.now.entries k))
    c.key_of-key.ensures.key) has

pub returns-clause-numbers : goal.returns-clause-numbers
returns-clause-numbers c = λ numbers.
    has_numbers-new c.args.frame.now.body.client c.args.frame.now.body.t c.in_ok-copy.field-0
    c.args.updates.now.entries c.insert.new.self.entries c.key_of-key.ensures.fits
    (λ k. c.in_ok-insert.ensures.updates.0 k
    ∙ ap (λ (x : ℕ × ℕ). cond (same_pair x k) (Some c.in_ok-copy.field-0) (at_pair c.args.updates.now.entries k))
    c.key_of-key.ensures.key) numbers
