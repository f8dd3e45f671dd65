-- What a correct master says under the same numbers it says one way.
use Rattle.std.proofs.Common.{◌≡◌, ℕ, ◌≤◌, Bool, true, false, cond, ◌&&◌, List, Some, None, nat_eq, refl, sym, ◌∙◌}
use Rattle.std.proofs.Common.{ap, arith, eqb-true}
use Rattle.std.proofs.lemmas.Bool.{false≢true, and_parts, eq-eqb, and_from, false_from_ne_true}
use Rattle.std.specs.List.{list_any, filter_map}
use Rattle.plain_lists.proofs.Members.{any_from, in_filter_map, some_same}
use Rattle.message_types.specs.declared.preordering.PoAck.{PoAck}
use Rattle.message_types.specs.declared.ordering.PrePrepare.{PrePrepare}
use Rattle.message_types.specs.declared.ordering.Prepare.{Prepare}
use Rattle.message_types.specs.declared.ordering.Commit.{Commit}
use Rattle.message_types.specs.declared.views.Plan.{Plan}
use Rattle.message_types.specs.declared.body.Body.{Body}
use Rattle.message_types.specs.declared.body.Body.TheVariants as body
use Rattle.message_types.specs.Digests.{digest_of_rows}
use Rattle.protocol_rules.specs.Words.{greatest_of}
use Rattle.protocol_rules.specs.Facts.{facts_of}
use Rattle.protocol_rules.specs.Order.{prepared, commits_said}
use Rattle.protocol_rules.specs.Master.{offered_number, next_number}
use Rattle.agreement.specs.Blame.{AcknowledgesOnce, ProposesOnce, PreparesOnce, CommitsOnce}
use Rattle.agreement.proofs.SaidOnce.{self_eq, said_once, ack_once, ack_same, prepare_once, prepare_same}
use Rattle.agreement.proofs.PlannedRows.{greatest_above}

pub acknowledges_once : AcknowledgesOnce
acknowledges_once w history i legal correct a b one other same_j same_k =
    let digests : a.digest ≡ b.digest = ack_once w history i legal correct a.j a.k a.digest b.digest
    (body.PoAck a) (body.PoAck b) refl
    (ack_same b a.j a.k b.digest (sym same_j) (sym same_k) refl) one other in
    λ x. record { j = same_j x; k = same_k x; digest = digests x }

pub prepares_once : PreparesOnce
prepares_once w history i legal correct a b one other same_v same_s =
    let digests : a.digest ≡ b.digest = prepare_once w history i legal correct a.v a.s a.digest b.digest
    (body.Prepare a) (body.Prepare b) refl
    (prepare_same b a.v a.s b.digest (sym same_v) (sym same_s) refl) one other in
    λ x. record { v = same_v x; s = same_s x; digest = digests x }

inner_commit : {a b : Commit} → body.Commit a ≡ body.Commit b → a ≡ b
inner_commit e = cc

inner_preprepare : {a b : PrePrepare} → body.PrePrepare a ≡ body.PrePrepare b → a ≡ b
inner_preprepare e = cc

commit_alike : (a b : Commit) → a.v ≡ b.v → a.s ≡ b.s → a.digest ≡ b.digest → body.Commit a ≡ body.Commit b
commit_alike a b same_v same_s same_digest =
    λ x. body.Commit record { v = same_v x; s = same_s x; digest = same_digest x }

pub commits_once : CommitsOnce
commits_once w history i legal correct a b one other same_v same_s =
    let b_said : commits_said a.v a.s (body.Commit b) ≡ true =
    and_from _ _ (eq-eqb b.v a.v (sym same_v)) (eq-eqb b.s a.s (sym same_s)) in
    inner_commit (said_once w history i (commits_said a.v a.s) (body.Commit a) (body.Commit b)
    legal correct (self_eq a.v a.s) b_said
    (λ known taken said due. due.5)
    (λ known taken said due. ap (λ (v : ℕ). list_any (commits_said v a.s) said) same_v
    ∙ ap (λ (s : ℕ). list_any (commits_said b.v s) said) same_s ∙ due.5)
    (λ known taken said due_a due_b.
    commit_alike a b same_v same_s (due_a.2 ∙ ap digest_of_rows (some_same (sym due_a.1
    ∙ ap (λ (v : ℕ). prepared w.group (facts_of w.group known) v a.s) same_v
    ∙ ap (λ (s : ℕ). prepared w.group (facts_of w.group known) b.v s) same_s
    ∙ due_b.1)) ∙ sym due_b.2))
    one other)

-- a proposal for this number of the view
abbrev proposes : ℕ → ℕ → Body → Bool
proposes v s word = elim word [ body.PrePrepare b ↦ nat_eq b.v v && nat_eq b.s s | _ ↦ false ]

offers : (v s : ℕ) (word : Body) → proposes v s word ≡ true → offered_number v word ≡ Some s
offers v s (body.PrePrepare b) e =
    let both = and_parts (nat_eq b.v v) (nat_eq b.s s) e in
    ap (λ t. cond t (Some b.s) None) both.0 ∙ ap (λ (x : ℕ). Some x) (eqb-true b.s s both.1)
offers v s _ e = absurd (false≢true e)

-- a number that a leader offers next it offered at no event before
fresh_number : (said : List Body) (v s : ℕ) (plan : Plan) → s ≡ next_number said v plan →
    list_any (proposes v s) said ≡ false
fresh_number said v s plan next = false_from_ne_true (list_any (proposes v s) said) (λ e.
    let found = any_from (proposes v s) said e in
    let above : s ≤ greatest_of (filter_map (offered_number v) said) =
    greatest_above s (filter_map (offered_number v) said)
    (in_filter_map (offered_number v) found.1 (offers v s found.0 found.2)) in
    omega arith)

preprepare_alike : (a b : PrePrepare) → a.v ≡ b.v → a.s ≡ b.s → a.frames ≡ b.frames →
    body.PrePrepare a ≡ body.PrePrepare b
preprepare_alike a b same_v same_s same_frames =
    λ x. body.PrePrepare record { v = same_v x; s = same_s x; frames = same_frames x }

pub proposes_once : ProposesOnce
proposes_once w history i legal correct a b one other same_v same_s =
    let b_said : proposes a.v a.s (body.PrePrepare b) ≡ true =
    and_from _ _ (eq-eqb b.v a.v (sym same_v)) (eq-eqb b.s a.s (sym same_s)) in
    inner_preprepare (said_once w history i (proposes a.v a.s) (body.PrePrepare a) (body.PrePrepare b)
    legal correct (self_eq a.v a.s) b_said
    (λ known taken said due. fresh_number said a.v a.s due.1 due.2)
    (λ known taken said due. fresh_number said a.v a.s due.1
    (same_s ∙ due.2 ∙ ap (λ (v : ℕ). next_number said v due.1) (sym same_v)))
    (λ known taken said due_a due_b. preprepare_alike a b same_v same_s (due_a.0 ∙ sym due_b.0))
    one other)
