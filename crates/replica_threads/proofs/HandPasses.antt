-- What is known of passes once one of them was used.
use Rattle.std.proofs.Common.{◌≡◌, ℕ, ◌<◌, ◌++◌, ◌∷◌, ◌⊎◌, inl, inr, List, [], Option, Some, None, length, set}
use Rattle.std.proofs.Common.{get_or, refl, sym, ◌∙◌, ap, subst, arith}
use Rattle.std.specs.Prelude.{slice_get}
use Rattle.std.proofs.lemmas.Bool.{cases_eq}
use Rattle.std.proofs.lemmas.List.{length-set}
use Rattle.inboxes.specs.declared.inbox.Inbox.{Inbox}
use Rattle.inboxes.specs.declared.pass.InboxPass.{InboxPass}
use Rattle.inboxes.specs.Passes.{IsPassOf}
use Rattle.replica_threads.specs.declared.posted.Posted.{Posted}
use Rattle.replica_threads.specs.Hands.{ArePassesOf}
use Rattle.replica_threads.proofs.Lists.{get_set_same, get_set_other, get_read}

some_one : {X : Type 0} (x y : X) → ◌≡◌ {A = Option X} (Some x) (Some y) → x ≡ y
some_one x y is = cc

pass_of : (inboxes : List (Inbox Posted)) (old : List (InboxPass Posted)) (i place : ℕ) (inbox x : Inbox Posted)
    (pass p : InboxPass Posted) → ArePassesOf inboxes old → i < length inboxes
    → slice_get inboxes i ≡ Some inbox → IsPassOf inbox pass → slice_get inboxes place ≡ Some x →
    slice_get (set old i pass) place ≡ Some p
    → (place ≡ i) ⊎ (place ≡ i → ⊥) → IsPassOf x p
pass_of inboxes old i place inbox x pass p are below at is here there (inl same) =
    let the_inbox : inbox ≡ x = some_one inbox x (sym at ∙ ap (slice_get inboxes) (sym same) ∙ here) in
    let the_pass : pass ≡ p =
    some_one pass p (sym (get_set_same old i pass (omega (arith, are.count)))
    ∙ ap (slice_get (set old i pass)) (sym same) ∙ there) in
    subst (λ (q : InboxPass Posted). IsPassOf x q) the_pass (subst (λ (b : Inbox Posted). IsPassOf b pass) the_inbox is)
pass_of inboxes old i place inbox x pass p are below at is here there (inr other) =
    are.each place x p here (sym (get_set_other old i place pass other) ∙ there)

-- the pass of an inbox, as the two are read at one place
pub pass_here : (inboxes : List (Inbox Posted)) (passes : List (InboxPass Posted)) (i : ℕ) (inbox : Inbox Posted)
    (pass : InboxPass Posted) → ArePassesOf inboxes passes → i < length inboxes
    → slice_get inboxes i ≡ Some inbox → pass ≡ get_or passes i pass → IsPassOf inbox pass
pass_here inboxes passes i inbox pass are below at by =
    are.each i inbox pass at (get_read passes i pass (omega (arith, are.count)) by)

-- They are still the passes of these inboxes.
pub still_passes : (inboxes : List (Inbox Posted)) (old : List (InboxPass Posted)) (i : ℕ) (inbox : Inbox Posted)
    (pass : InboxPass Posted) → ArePassesOf inboxes old → i < length inboxes
    → slice_get inboxes i ≡ Some inbox → IsPassOf inbox pass → ArePassesOf inboxes (set old i pass)
still_passes inboxes old i inbox pass are below at is = record {
  count = length-set old i pass ∙ are.count;
  each = λ place x p here there. pass_of inboxes old i place inbox x pass p are below at is here there
      (cases_eq place i);
}
