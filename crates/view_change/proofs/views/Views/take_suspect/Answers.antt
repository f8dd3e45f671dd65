-- A vote adds its signer to those who suspect the view's leader, once at most. Where these are a quorum now,
-- the present view is at least the next one, as the rules tell of the words known.
use Rattle.std.proofs.Common.{◌≡◌, ◌≤◌, ◌+◌, ap, ◌∙◌, arith, Some, max, nat_eq, if◌then◌else◌}
use Rattle.quorum_sets.specs.Masters.{with_master, has_master}
use Rattle.quorum_sets.specs.Quorum.{has_quorum}
use Rattle.protocol_rules.specs.Group.{most_view}
use Rattle.view_change.specs.ViewState.{ViewState, at_view, suspects_of}
use Rattle.view_change.proofs.Maps.{view_put}
use Rattle.view_change.proofs.Reached.{quorum-is, quorum_some}
use Rattle.protocol_rules.proofs.LimitValues.{most_view-is}
use Rattle.view_change.proofs.Known.{suspect-passed, suspect-taken}
use Rattle.view_change.proofs.views.Views.take_suspect.Goals.{then-signer-self-via-then-signer-self}
use Rattle.view_change.proofs.views.Views.take_suspect.Goals.{then-signer-self-via-else-signer-self+then-v-ge-MOST_VIEW}
use Rattle.quorum_sets.proofs.Numbered.{masters_few}
use Rattle.view_change.proofs.views.Views.take_suspect.Goals as goal

pub add-requires : goal.add-requires
add-requires c = let few = masters_few c.self.inside.sizes in omega arith

pub returns-then-signer-self-clause-ok : goal.returns-then-signer-self-clause-ok
returns-then-signer-self-clause-ok c = λ within sig g me known said is.
    let masters : c.self.inside.sizes.n ≡ g.n = ap (λ (v : ViewState). v.group.n) c.self.view_is ∙ is.masters in
    let quorum : c.self.inside.sizes.q ≡ g.q = ap (λ (v : ViewState). v.group.q) c.self.view_is ∙ is.quorum in
    let some : 1 ≤ c.self.inside.sizes.q = quorum_some c.self.inside.sizes in
    let top : most_view ≡ 255 = most_view-is in
    let out : g.n ≤ c.args.signer =
    elim c.then-signer-self.branch [
      | then-signer-self-via-then-signer-self w ↦ omega (arith, w.if-signer-self.true)
      | then-signer-self-via-else-signer-self+then-v-ge-MOST_VIEW w ↦ absurd
          (omega (arith, w.if-v-ge-MOST_VIEW.true))
    ] in
    suspect-passed g me c.args.self.now known said c.args.signer c.args.v sig (omega arith) out is

pub returns-clause-passed : goal.returns-clause-passed
returns-clause-passed c = λ out. let top : most_view ≡ 255 = most_view-is in
    absurd (omega (arith, c.if-v-ge-MOST_VIEW.false))

pub returns-clause-ok : goal.returns-clause-ok
returns-clause-ok c = λ within sig g me known said is.
    let few = masters_few c.self.inside.sizes in
    let masters : c.self.inside.sizes.n ≡ g.n = ap (λ (v : ViewState). v.group.n) c.self.view_is ∙ is.masters in
    let quorum : c.self.inside.sizes.q ≡ g.q = ap (λ (v : ViewState). v.group.q) c.self.view_is ∙ is.quorum in
    suspect-taken g me c.args.self.now _ known said c.args.signer c.args.v sig c.add.new.self
    c.is_quorum-is_suspected.result (omega arith) (omega arith)
    (c.add.ensures.added ∙ ap (λ ms. with_master ms c.args.signer)
    (c.voters_at-masters.ensures ∙ ap (λ (v : ViewState). suspects_of v c.args.v) c.self.view_is))
    (quorum-is c.self.inside.sizes.n c.self.inside.sizes.q c.add.new.self c.is_quorum-is_suspected.result
    c.is_quorum-is_suspected.ensures
    ∙ ap (λ n. has_quorum n c.self.inside.sizes.q (has_master c.add.new.self)) masters
    ∙ ap (λ q. has_quorum g.n q (has_master c.add.new.self)) quorum)
    (ap (λ (v : ViewState). v.group) c.self.view_is) (ap (λ (v : ViewState). v.me) c.self.view_is)
    (c.view_after-self-inside.ensures
    ∙ ap (λ (v : ViewState). if c.is_quorum-is_suspected.result then max v.view (c.args.v + 1) else v.view)
    c.self.view_is)
    (λ w. view_put c.self.inside.suspects c.insert.new.self c.args.v c.add.new.self c.in_ok-insert.ensures.updates w
    ∙ ap (λ (v : ViewState). if nat_eq c.args.v w then Some c.add.new.self else at_view v.suspects w)
    c.self.view_is)
    (ap (λ (v : ViewState). v.reports) c.self.view_is) (ap (λ (v : ViewState). v.plans) c.self.view_is)
    (ap (λ (v : ViewState). v.reported) c.self.view_is) (ap (λ (v : ViewState). v.opened) c.self.view_is)
    is
