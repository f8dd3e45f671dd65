-- One step down signs the child's key, which goes to the end of the front, and makes the child the lowest tree:
-- the definitions of front and lowest tree take the same step. Fewer heights are left each time.
use Rattle.std.proofs.Common.{◌≡◌, ◌∷◌, ap, arith, length}
use Rattle.hash_signatures.proofs.Descending.{rest_total, rest_heights, first_height, next_height, lowest_is}
use Rattle.hash_signatures.proofs.Descending.{front_is, lowest_ok, front_ok}
use Rattle.hash_signatures.proofs.descent.+descend.Goals as goal

pub descend-requires : goal.descend-requires
descend-requires t c =
    let cons : c.args.lower.now ≡ c.in-Some.height.now ∷ c.in-Some.rest.now = c.in-Some.ensures.cases.0 in
    let len = ap length cons in
    let falls = c.decreases in
    let first = first_height _ _ _ cons c.requires.heights in (
      omega (arith, len),
      (
        next_height c.args.way.lowest c.in_ok-next-in-Some.next.lowest _ _ c.in_ok-next-in-Some.ensures.lowest first,
        (rest_heights _ _ _ cons c.requires.heights, rest_total _ _ _ cons c.requires.few),
      ),
    )

pub returns-in_ok-next-in-Some-clause-lowest : goal.returns-in_ok-next-in-Some-clause-lowest
returns-in_ok-next-in-Some-clause-lowest t c =
    let cons : c.args.lower.now ≡ c.in-Some.height.now ∷ c.in-Some.rest.now = c.in-Some.ensures.cases.0 in
    lowest_ok c.descend.result _ _
    (lowest_is c.args.way.lowest c.in_ok-next-in-Some.next.lowest _ _ _ c.args.m _ _ cons c.height.ensures
    c.leaf_of-q.ensures.leaf
    c.in_ok-next-in-Some.ensures.lowest)
    c.descend.ensures.lowest

pub returns-in_ok-next-in-Some-clause-front : goal.returns-in_ok-next-in-Some-clause-front
returns-in_ok-next-in-Some-clause-front t c =
    let cons : c.args.lower.now ≡ c.in-Some.height.now ∷ c.in-Some.rest.now = c.in-Some.ensures.cases.0 in
    front_ok c.descend.result _ _
    (front_is c.args.way.lowest c.in_ok-next-in-Some.next.lowest _ _ _ c.args.m _ _
    c.in_ok-next-in-Some.next.front.items c.args.way.front.items
    cons c.height.ensures c.leaf_of-q.ensures.leaf c.in_ok-next-in-Some.ensures.lowest
    c.in_ok-next-in-Some.ensures.front)
    c.descend.ensures.front
