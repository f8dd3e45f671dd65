-- A report is owed once in a view above 0, where a quorum suspects the leader before. Where nobody is known to,
-- there is no quorum, as a quorum has at least one member.
use Rattle.std.proofs.Common.{◌≡◌, ◌-◌, [], List, ℕ, Option, false, ap, arith, sym, ◌∙◌, unwrap_or, slice_index_or}
use Rattle.std.specs.Option.{option_copied}
use Rattle.quorum_sets.specs.Masters.{has_master}
use Rattle.quorum_sets.specs.Quorum.{has_quorum}
use Rattle.view_change.specs.ViewState.{ViewState, suspects_of}
use Rattle.view_change.proofs.Maps.{at_view-is}
use Rattle.view_change.proofs.Reached.{quorum-is, quorum_some}
use Rattle.view_change.proofs.Answering.{owed_by, owed_by_none}
use Rattle.view_change.proofs.views.Views.is_report_owed.Goals as goal

pub returns-in-Some : goal.returns-in-Some
returns-in-Some c =
    owed_by c.args.self.now c.in-Some.masters.now c.is_quorum.result
    (λ (e : c.args.self.now.view ≡ 0). c.if-self-eq0.false (ap (λ (v : ViewState). v.view) c.self.view_is ∙ e))
    (ap (λ (v : ViewState). slice_index_or v.reported v.view false) (sym c.self.view_is) ∙ c.if-self.false)
    (ap (λ (v : ViewState). suspects_of v (v.view - 1)) (sym c.self.view_is)
    ∙ ap (λ (o : Option (List ℕ)). unwrap_or o []) (sym (at_view-is c.self.inside.suspects (c.self.inside.view - 1))
    ∙ sym c.get.ensures.value ∙ ap option_copied c.in-Some.is))
    (quorum-is c.self.inside.sizes.n c.self.inside.sizes.q c.in-Some.masters.now c.is_quorum.result c.is_quorum.ensures
    ∙ ap (λ (v : ViewState). has_quorum v.group.n v.group.q (has_master c.in-Some.masters.now)) c.self.view_is)

pub returns-in-None : goal.returns-in-None
returns-in-None c =
    let least = quorum_some c.self.inside.sizes in
    let same : c.self.inside.sizes.q ≡ c.args.self.now.group.q = ap (λ (v : ViewState). v.group.q) c.self.view_is in
    owed_by_none c.args.self.now
    (λ (e : c.args.self.now.view ≡ 0). c.if-self-eq0.false (ap (λ (v : ViewState). v.view) c.self.view_is ∙ e))
    (ap (λ (v : ViewState). slice_index_or v.reported v.view false) (sym c.self.view_is) ∙ c.if-self.false)
    (ap (λ (v : ViewState). suspects_of v (v.view - 1)) (sym c.self.view_is)
    ∙ ap (λ (o : Option (List ℕ)). unwrap_or o []) (sym (at_view-is c.self.inside.suspects (c.self.inside.view - 1))
    ∙ sym c.get.ensures.value ∙ ap option_copied c.in-None.is))
    (omega arith)
