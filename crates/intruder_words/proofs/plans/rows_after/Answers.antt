-- The rows so far answer for each number up to the one reached, which is the base or has a certificate. Where
-- no greater number has one, all were gone over.
use Rattle.std.proofs.Common.{◌≤◌, ◌+◌, map, ◌∙◌, ap, arith, refl, inl, inr}
use Rattle.std.specs.List.{list_all, find}
use Rattle.message_types.specs.Digests.{digest_of_rows}
use Rattle.message_types.specs.Spelling.{rows_fit}
use Rattle.protocol_rules.specs.Words.{numbers_from}
use Rattle.protocol_rules.specs.Group.{group_of}
use Rattle.intruder_words.specs.Telling.{rows_for}
use Rattle.intruder_words.proofs.Shortening.{rows-start, rows-further, fits-more, fewer-left, all-passed}
use Rattle.intruder_words.proofs.plans.rows_after.Goals as goal

pub loop-next-init : goal.loop-next-init
loop-next-init c = record {
  same = λ test. ap (find (λ rows. test (digest_of_rows rows))) c.new-rows.ensures.items
      ∙ rows-start (rows_for (group_of c.args.sizes.now 0) c.args.all.now) c.args.base test;
  fit = ap (list_all rows_fit) c.new-rows.ensures.items;
  low = omega arith;
  reached = inl refl;
}

pub rows_up_to-requires : goal.rows_up_to-requires
rows_up_to-requires c = record { spelled = c.requires; next = c.in-Some.ensures }

pub loop-next-preserved : goal.loop-next-preserved
loop-next-preserved c =
    let above : c.loop-next.at ≤ c.in-Some.next = let less = c.in-Some.ensures.0 in omega (arith, less) in
    let low : c.args.base ≤ c.in-Some.next = omega (arith, c.loop-next.invariant.low, above) in
    record {
      same = λ test. ap (find (λ rows. test (digest_of_rows rows))) c.in_ok-append.ensures.items
          ∙ rows-further (rows_for (group_of c.args.sizes.now 0) c.args.all.now) c.args.base c.loop-next.at
          c.in-Some.next c.loop-next.rows.items c.in_ok-more.more.items c.loop-next.invariant.low above
          c.loop-next.invariant.same c.in_ok-more.ensures.same test;
      fit = fits-more c.loop-next.rows.items c.in_ok-more.more.items c.append.new.self.items c.loop-next.invariant.fit
          c.in_ok-more.ensures.fit c.in_ok-append.ensures.items;
      low = low;
      reached = inr c.in-Some.ensures.1;
    }

pub loop-next-smaller : goal.loop-next-smaller
loop-next-smaller c = fewer-left c.args.all.now c.loop-next.at c.in-Some.next c.in-Some.ensures

pub returns-clause-same : goal.returns-clause-same
returns-clause-same c = λ test.
    c.loop-next.invariant.same test
    ∙ ap (λ n. find (λ rows. test (digest_of_rows rows))
    (map (rows_for (group_of c.args.sizes.now 0) c.args.all.now) (numbers_from (c.args.base + 1) n)))
    (all-passed c.args.all.now c.args.base c.loop-next.at c.loop-next.invariant.low c.loop-next.invariant.reached
    c.in_default.ensures)
