-- The two parts are as long as parts of four bytes are.
use Rattle.std.proofs.Common.{◌≡◌, ◌≢◌, ◌<◌, arith, rules, refl}
use Rattle.parity_parts.proofs.Joins.{two_bytes_fit}
use Rattle.text_tests.proofs.parities.two_parts_give_the_text_back.Goals as goal

pub join-requires-clause-different : goal.join-requires-clause-different
join-requires-clause-different g c =
    let a = c.in_ok-part.ensures in
    let b = c.in_ok-part-2.ensures in
    let differ : c.in_ok-part.field-0.master ≢ c.in_ok-part-2.field-0.master = λ e. omega (arith, a.0, b.0) in
    ((differ, tt), (tt, tt))

pub join-requires-clause-fit : goal.join-requires-clause-fit
join-requires-clause-fit g c =
    let a = c.in_ok-part.ensures in
    let b = c.in_ok-part-2.ensures in
    let one : c.in_ok-sizes.sizes.f ≡ 1 = c.in_ok-sizes.ensures.intruded in
    let first : c.in_ok-part.field-0.master < c.in_ok-sizes.sizes.n = search rules in
    let second : c.in_ok-part-2.field-0.master < c.in_ok-sizes.sizes.n = search rules in (
      two_bytes_fit _ _ _ c.in_ok-part.field-0 _ one a.1 first a.1 a.2 refl,
      (two_bytes_fit _ _ _ c.in_ok-part-2.field-0 _ one a.1 second b.1 b.2 refl, tt),
    )

pub join-requires-clause-some : goal.join-requires-clause-some
join-requires-clause-some g c = let a = c.in_ok-part.ensures in omega (arith, a.1)

pub join-requires-clause-room : goal.join-requires-clause-room
join-requires-clause-room g c = let a = c.in_ok-part.ensures in omega (arith, a.1)
