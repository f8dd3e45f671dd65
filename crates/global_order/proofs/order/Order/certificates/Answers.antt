-- One number of the window after another, the certificates are those of the numbers so far. The stable number
-- is at most 4,096, so no sum overflows.
use Rattle.std.proofs.Common.{◌≡◌, ◌+◌, ◌-◌, ◌≤◌, ◌++◌, ◌∙◌, sym, ap, arith, rules}
use Rattle.std.specs.List.{filter_map}
use Rattle.std.specs.Option.{option_to_list}
use Rattle.protocol_rules.specs.Words.{numbers_from}
use Rattle.protocol_rules.specs.Group.{most_number, window}
use Rattle.protocol_rules.specs.Order.{last_certificate}
use Rattle.global_order.specs.OrderState.{IsOrderOf}
use Rattle.global_order.specs.Held.{state_of}
use Rattle.global_order.proofs.Alike.{inside}
use Rattle.global_order.proofs.Certifying.{filter_map-more, filter_map-none}
use Rattle.global_order.proofs.order.Order.certificates.Goals as goal

pub overflow_step-s : goal.overflow_step-s
unfolding most_number
overflow_step-s c = let limit : c.self.inside.stable ≤ 4096 = c.self.invariant.stable in search rules

pub overflow_add-s-end : goal.overflow_add-s-end
unfolding most_number
overflow_add-s-end c = let limit : c.self.inside.stable ≤ 4096 = c.self.invariant.stable in search rules

pub overflow_add-s-end-2 : goal.overflow_add-s-end-2
unfolding most_number
overflow_add-s-end-2 c = let limit : c.self.inside.stable ≤ 4096 = c.self.invariant.stable in search rules

pub loop-s-init : goal.loop-s-init
loop-s-init c = record {
  in_range = omega arith;
  added = λ g facts said is.
      let none : c.self.inside.stable + 1 - (c.self.inside.stable + 1) ≡ 0 = omega arith in
      c.new-certificates.ensures.items ∙ filter_map-none (last_certificate g facts c.args.below)
      (c.self.inside.stable + 1)
      ∙ ap (λ n. filter_map (last_certificate g facts c.args.below) (numbers_from (c.self.inside.stable + 1) n))
      (sym none);
}

pub loop-s-preserved : goal.loop-s-preserved
loop-s-preserved c = record {
  in_range = omega arith;
  added = λ g facts said is.
      c.in_ok-extend_option.ensures.ok ∙ ap (λ xs. xs ++ option_to_list c.in_ok-certificate.certificate)
      (c.loop-s.invariant.added g facts said is)
      ∙ ap (λ o. filter_map (last_certificate g facts c.args.below)
      (numbers_from (c.self.inside.stable + 1) (c.loop-s.s - (c.self.inside.stable + 1))) ++ option_to_list o)
      (c.in_ok-certificate.ensures g facts is.sizes is.prepares is.choices)
      ∙ filter_map-more (last_certificate g facts c.args.below) (c.self.inside.stable + 1) c.loop-s.s (omega arith);
}

pub returns : goal.returns
unfolding window
returns c = λ g facts said is.
    let held : IsOrderOf g (state_of c.self.inside) facts said =
    inside c.self.inside c.args.self.now c.self.view_is g facts said is in
    let stable_is = held.stable in
    let count : c.loop-s.s - (c.self.inside.stable + 1) ≡ 16 = omega arith in
    c.loop-s.invariant.added g facts said held
    ∙ ap (λ n. filter_map (last_certificate g facts c.args.below) (numbers_from (c.self.inside.stable + 1) n)) count
    ∙ ap (λ b. filter_map (last_certificate g facts c.args.below) (numbers_from (b + 1) 16)) stable_is
