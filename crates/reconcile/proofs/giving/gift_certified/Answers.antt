-- The preorder and the words known certify the same requests: so where it has no update nothing is to be given,
-- and else the gift made for that update is the definition's.
use Rattle.std.proofs.Common.{◌≡◌, List, Option, sym, ◌∙◌}
use Rattle.std.specs.Option.{option_map, option_to_list}
use Rattle.message_types.specs.declared.signed.Signed.{Signed}
use Rattle.message_types.specs.declared.reconciling.Give.{Give}
use Rattle.message_types.specs.declared.body.Body.{Body}
use Rattle.message_types.specs.declared.body.Body.TheVariants as body
use Rattle.protocol_rules.specs.Group.{Group}
use Rattle.preorder.specs.Index.{HasCertified}
use Rattle.reconcile.specs.GiftState.{AreGiftsOf}
use Rattle.reconcile.specs.Giving.{give_of}
use Rattle.reconcile.proofs.Loops.{ok_kept, give_certified, nothing_certified}
use Rattle.reconcile.proofs.giving.gift_certified.Goals as goal

pub returns-in-Some : goal.returns-in-Some
returns-in-Some c =
    ok_kept _
    (λ (gift : Option Give). (g : Group) (known : List (Signed Body)) → AreGiftsOf g c.args.gifts.now known →
    HasCertified g known c.args.preorder.now.certificates →
    option_to_list (option_map (λ give. body.Give give) gift) ≡ give_of g known c.args.j c.args.k)
    c.give.result
    (λ gift made g known gifts certain.
    let found = sym (certain c.args.j c.args.k) ∙ sym c.in-Some.ensures in
    give_certified g known c.args.j c.args.k c.in-Some.update.now gift found (made g known gifts found))
    c.give.ensures

pub returns-in-None : goal.returns-in-None
returns-in-None c = λ g known gifts certain. nothing_certified g known c.args.j c.args.k
    (sym (certain c.args.j c.args.k) ∙ sym c.in-None.ensures)
