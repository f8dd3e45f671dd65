-- The search goes by the sets that begin with the chosen parts and the first one, and then by those without it.
use Rattle.std.proofs.Common.{◌∙◌, ◌≤◌, ap, arith, length}
use Rattle.std.proofs.lemmas.Result.{IfOk-weaker}
use Rattle.parity_parts.specs.Rebuilding.{CanBePart}
use Rattle.parity_parts.proofs.Searching.{found_with, found_without}
use Rattle.parity_parts.proofs.Sublists.{all_front, all_rest, different_front, different_rest, first_and_rest}
use Rattle.parity_parts.proofs.rebuilding.+search.Goals as goal

pub text_of-requires-clause-different : goal.text_of-requires-clause-different
text_of-requires-clause-different t c = different_front c.args.chosen.now c.args.others.now c.requires.different

pub text_of-requires-clause-parts : goal.text_of-requires-clause-parts
text_of-requires-clause-parts t c = all_front _ c.args.chosen.now c.args.others.now c.requires.parts

pub returns-in-Some-clause-text : goal.returns-in-Some-clause-text
returns-in-Some-clause-text t c =
    let few : length c.args.chosen.now ≤ c.args.sizes.now.f = c.if-chosen-sizes.false in
    found_with c.args.sizes.now.f c.args.digest.now c.args.chosen.now c.as_slice.result.now c.first-item.result
    c.args.others.now _ c.in_ok-text-in-len1-up.text c.in-Some.text few
    (first_and_rest c.args.others.now c.first-item.result c.in-len1-up.len_at_least c.first-item.is)
    (c.as_slice.ensures.value ∙ c.in_ok-more-in-len1-up.ensures) c.in_ok-text-in-len1-up.ensures.text c.in-Some.is

pub search-requires-in-None : goal.search-requires-in-None
search-requires-in-None t c =
    let falls = c.decreases in
    let less = ap length
    (first_and_rest c.args.others.now c.first-item.result c.in-len1-up.len_at_least c.first-item.is) in (
      omega (arith, less),
      (
        c.requires.count,
        (
          different_rest c.args.chosen.now c.args.others.now c.first-item.result
              c.in-len1-up.len_at_least c.first-item.is
              c.requires.different,
          all_rest (CanBePart c.args.sizes.now.n c.args.sizes.now.f)
              c.args.chosen.now c.args.others.now c.first-item.result
              c.in-len1-up.len_at_least c.first-item.is c.requires.parts,
        ),
      ),
    )

pub returns-clause-text : goal.returns-clause-text
returns-clause-text t c =
    let few : length c.args.chosen.now ≤ c.args.sizes.now.f = c.if-chosen-sizes.false in
    IfOk-weaker _ _ _
    (λ text is. found_without c.args.sizes.now.f c.args.digest.now c.args.chosen.now c.as_slice.result.now
    c.first-item.result c.args.others.now _ c.in_ok-text-in-len1-up.text text few
    (first_and_rest c.args.others.now c.first-item.result c.in-len1-up.len_at_least c.first-item.is)
    (c.as_slice.ensures.value ∙ c.in_ok-more-in-len1-up.ensures) c.in_ok-text-in-len1-up.ensures.text c.in-None.is is)
    c.search-in-None.ensures.text
