-- Any f + 1 parts of one text are those of one joined text.
use Rattle.std.proofs.Common.{◌≡◌, ◌≤◌, ◌∙◌, ◌<◌, rules}
use Rattle.std.proofs.lemmas.Result.{IfOk-weaker}
use Rattle.std.proofs.lemmas.List.Elements.{All-from_recursion}
use Rattle.parity_parts.specs.Parts.{joined}
use Rattle.parity_parts.specs.declared.part.Part.{Part}
use Rattle.parity_parts.proofs.Joins.{only_solution, own_joined, small_masters, small_parts, solves}
use Rattle.parity_parts.proofs.joining.join.Goals as goal

pub joined_text-requires-clause-small : goal.joined_text-requires-clause-small
joined_text-requires-clause-small c =
    let n : c.args.sizes.now.n ≤ 16 = search rules in
    All-from_recursion (λ (part : Part). part.master < 16) c.args.parts.now (small_parts _ _ _ c.args.parts.now n
    c.requires.fit)

pub returns-clause-own : goal.returns-clause-own
returns-clause-own c whole bytes parts =
    let n : c.args.sizes.now.n ≤ 16 = search rules in
    let small = small_masters _ _ _ c.args.parts.now n c.requires.fit in
    IfOk-weaker _ (λ text. text.items ≡ joined c.args.sizes.now.f c.args.parts.now) (λ text. text.items ≡ whole)
    (λ text is. is ∙ own_joined c.args.sizes.now.f c.args.parts.now whole c.requires.count c.requires.different
    small bytes
    parts) c.joined_text.ensures

pub returns-clause-solved : goal.returns-clause-solved
returns-clause-solved c place =
    let n : c.args.sizes.now.n ≤ 16 = search rules in
    solves c.args.parts.now (small_masters _ _ _ c.args.parts.now n c.requires.fit) c.requires.different place

pub returns-clause-only : goal.returns-clause-only
returns-clause-only c place =
    let n : c.args.sizes.now.n ≤ 16 = search rules in
    only_solution c.args.parts.now (small_masters _ _ _ c.args.parts.now n c.requires.fit) c.requires.different place
