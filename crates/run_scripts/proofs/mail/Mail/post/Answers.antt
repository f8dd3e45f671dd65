-- A new frame goes into the slot of its sender and kind, and any frame on its way. So slots and ways are those
-- of one frame more each turn, as each sender has its slots.
use Rattle.std.proofs.Common.{◌≡◌, ℕ, refl, ◌∙◌, sym, subst, true, arith}
use Rattle.run_scripts.specs.Playing.{has_slot}
use Rattle.run_scripts.proofs.MailGrows.{mail_starts, mail_more, mail_all}
use Rattle.plain_lists.proofs.Lists.{all_at}
use Rattle.run_scripts.proofs.mail.Mail.post.Goals as goal

pub loop-post-init : goal.loop-post-init
loop-post-init c = (
  refl,
  λ actors before waiting is. mail_starts c.args.is_new c.args.posts.now actors
      before waiting c.args.self.now is,
)

pub put_if-requires : goal.put_if-requires
put_if-requires c =
    subst (λ (n : ℕ). has_slot n c.post-item.result ≡ true) (sym c.loop-post.invariant.0)
    (all_at (has_slot _) c.args.posts.now c.loop-post.post-index c.post-item.result c.requires
    c.loop-post-test.true c.post-item.is)

pub loop-post-preserved : goal.loop-post-preserved
loop-post-preserved c = (
  c.put_if.ensures.as_many ∙ c.loop-post.invariant.0,
  λ actors before waiting is.
      mail_more c.args.is_new c.args.posts.now c.loop-post.post-index c.post-item.result actors before waiting
      c.loop-post.self _ c.loop-post-test.true c.post-item.is
      (c.in_ok-put_if.ensures.slots actors) c.in_ok-send.ensures (c.loop-post.invariant.1 actors before waiting is),
)

pub returns : goal.returns
returns c = λ actors before waiting is.
    mail_all c.args.is_new c.args.posts.now c.loop-post.post-index actors before waiting c.loop-post.self
    (omega arith) (c.loop-post.invariant.1 actors before waiting is)
