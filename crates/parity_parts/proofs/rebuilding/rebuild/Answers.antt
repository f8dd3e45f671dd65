-- What the search finds from nothing chosen is the first text of all sets.
use Rattle.std.proofs.Common.{◌∙◌, ◌≤◌, rules}
use Rattle.parity_parts.proofs.Finding.{is_found, rebuilt_digest}
use Rattle.parity_parts.proofs.Searching.{all_searched}
use Rattle.parity_parts.proofs.rebuilding.rebuild.Goals as goal

pub returns-in_default-clause-text : goal.returns-in_default-clause-text
returns-in_default-clause-text c =
    all_searched c.args.sizes.now.f c.args.digest.now c.args.parts.now _ c.in_ok-text.ensures.text ∙ c.in_default.is

pub returns-in_default-clause-enough : goal.returns-in_default-clause-enough
returns-in_default-clause-enough c whole bytes told enough same =
    let small : c.args.sizes.now.n ≤ 16 = search rules in
    is_found c.args.sizes.now.n c.args.sizes.now.f c.args.digest.now whole c.args.parts.now small c.requires.different
    c.requires.parts bytes told enough
    (all_searched c.args.sizes.now.f c.args.digest.now c.args.parts.now _ c.in_ok-text.ensures.text ∙ c.in_default.is)

pub returns-clause-text : goal.returns-clause-text
returns-clause-text c =
    all_searched c.args.sizes.now.f c.args.digest.now c.args.parts.now _ c.in_ok-text.ensures.text ∙ c.in-Some.is

pub returns-clause-digest : goal.returns-clause-digest
returns-clause-digest c =
    rebuilt_digest c.args.sizes.now.f c.args.digest.now c.args.parts.now c.in-Some.text
    (all_searched c.args.sizes.now.f c.args.digest.now c.args.parts.now _ c.in_ok-text.ensures.text ∙ c.in-Some.is)
