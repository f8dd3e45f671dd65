-- The summary is in its place: its signer is one of four masters, and its four numbers are within the limit of 4,096.
use Rattle.std.proofs.Common.{◌≡◌, ◌<◌, ℕ, true, ◌&&◌, List, length, nat_eq, nat_le, nat_lt, ◌∙◌, ap, arith}
use Rattle.std.specs.List.{list_all}
use Rattle.std.proofs.lemmas.Bool.{and_from, lt-ltb, eq-eqb}
use Rattle.protocol_rules.specs.Group.{most_number}
use Rattle.protocol_rules.proofs.LimitValues.{most_number-is}
use Rattle.prime_tests.proofs.matrices.take_numbers.Goals as goal

placed : (n signer : ℕ) (xs ys : List ℕ) → n ≡ 4 → signer < 4 → length ys ≡ 4 →
    list_all (λ x. nat_le x 4096) ys ≡ true → xs ≡ ys →
    (nat_lt signer n && (nat_eq (length xs) n && list_all (λ x. nat_le x most_number) xs)) ≡ true
placed n signer xs ys masters below four small same =
    let many : length xs ≡ length ys = ap length same in
    and_from (nat_lt signer n) (nat_eq (length xs) n && list_all (λ x. nat_le x most_number) xs)
    (lt-ltb signer n (omega arith))
    (and_from (nat_eq (length xs) n) (list_all (λ x. nat_le x most_number) xs) (eq-eqb (length xs) n (omega arith))
    (ap (λ zs. list_all (λ x. nat_le x most_number) zs) same ∙ ap (λ m. list_all (λ x. nat_le x m) ys) most_number-is
    ∙ small))

pub take-requires : goal.take-requires
take-requires c = placed c.args.matrix.now.group.n c.args.signer c.from_vec.result c.args.numbers c.requires.masters
    c.requires.signer c.requires.four c.requires.small (c.from_vec.ensures ∙ c.in_ok-from_array.ensures.items)
