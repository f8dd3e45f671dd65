-- What is taken posts nothing.
use Rattle.std.proofs.Common.{◌≡◌, ℕ, ◌<◌, ◌++◌, ◌⊎◌, inl, inr, List, [], Some, length, map, set, get_or, sym, ◌∙◌, ap}
use Rattle.std.proofs.Common.{append-nil}
use Rattle.std.specs.Prelude.{slice_get}
use Rattle.std.proofs.lemmas.Bool.{cases_eq}
use Rattle.std.proofs.lemmas.List.{length-set}
use Rattle.inboxes.specs.declared.pass.InboxPass.{InboxPass}
use Rattle.inboxes.specs.declared.rule.Known.{Known}
use Rattle.inboxes.specs.Passes.{known}
use Rattle.inboxes.specs.Steps.{Took}
use Rattle.replica_threads.specs.declared.posted.Posted.{Posted}
use Rattle.replica_threads.specs.Hands.{may_post}
use Rattle.replica_threads.specs.Letters.{sent_by, HaveSent}
use Rattle.replica_threads.proofs.Lists.{get_set_same, get_set_other, get_read}

pub took_quiet : (v w : Known Posted) (x : Posted) → Took may_post v x w → w.posted ≡ v.posted
took_quiet v w x (fits, taken, items, seen, is) = ap (λ (u : Known Posted). u.posted) is

quiet_at : (old : List (InboxPass Posted)) (i actor : ℕ) (before after : InboxPass Posted) → i < length old →
    slice_get old i ≡ Some before → (known after).posted ≡ (known before).posted
    → (actor ≡ i) ⊎ (actor ≡ i → ⊥) →
    sent_by (slice_get (set old i after) actor) ≡ sent_by (slice_get old actor) ++ []
quiet_at old i actor before after below at same (inl here) =
    ap (λ (n : ℕ). sent_by (slice_get (set old i after) n)) here
    ∙ ap sent_by (get_set_same old i after below)
    ∙ ap (map (λ (item : ℕ × Posted). item.1)) same
    ∙ ap sent_by (sym at)
    ∙ ap (λ (n : ℕ). sent_by (slice_get old n)) (sym here)
    ∙ sym (append-nil (sent_by (slice_get old actor)))
quiet_at old i actor before after below at same (inr other) =
    ap sent_by (get_set_other old i actor after other)
    ∙ sym (append-nil (sent_by (slice_get old actor)))

-- a pass that posted nothing is put back
pub quiet_set : (old : List (InboxPass Posted)) (i : ℕ) (before after : InboxPass Posted) → i < length old →
    before ≡ get_or old i before → (known after).posted ≡ (known before).posted → HaveSent old [] (set old i after)
quiet_set old i before after below at same = record {
  count = length-set old i after;
  each = λ actor within. quiet_at old i actor before after below (get_read old i before below at) same
      (cases_eq actor i);
}
