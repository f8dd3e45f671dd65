-- What the master knows before each call is written out: nothing, then the ping that it said, then also the one that
-- it heard. A ping is whole in a group of four, which one intruded master makes.
use Rattle.std.proofs.Common.{◌≡◌, ◌+◌, ◌*◌, ◌<◌, ℕ, [], ◌∷◌, ◌++◌, true, sym, ◌∙◌, ap, subst, arith}
use Rattle.message_types.specs.Parts.{parts}
use Rattle.protocol_rules.specs.Group.{Group, group_of}
use Rattle.master_knowledge.specs.Past.{no_past}
use Rattle.master_knowledge.specs.Whole.{is_whole}
use Rattle.prime_tests.proofs.knowing.a_ping_heard_is_answered_and_an_own_one_is_not.Goals as goal

pub hear-requires-clause-known : goal.hear-requires-clause-known
hear-requires-clause-known g c = record {
  group = group_of c.in_ok-sizes.sizes 1;
  own = 1;
  taken = [];
  known = [] ++ parts c.in_ok-ping.field-0;
  past = no_past;
  said = [];
  knows = c.in_ok-recall.ensures (group_of c.in_ok-sizes.sizes 1) 1 [] [] no_past [] c.new-knowledge.ensures;
}

pub hear-requires-clause-whole : goal.hear-requires-clause-whole
hear-requires-clause-whole g c =
    let knows = c.in_ok-recall.ensures (group_of c.in_ok-sizes.sizes 1) 1 [] [] no_past [] c.new-knowledge.ensures in
    let all : c.in_ok-sizes.sizes.n ≡ 3 * c.in_ok-sizes.sizes.f + 2 * c.in_ok-sizes.sizes.k + 1 =
    c.in_ok-sizes.sizes.all in
    let intruded : c.in_ok-sizes.sizes.f ≡ 1 = c.in_ok-sizes.ensures.intruded in
    ap (λ (h : Group). is_whole h c.in_ok-ping-2.field-0) knows.preorder.group
    ∙ c.in_ok-ping-2.ensures (group_of c.in_ok-sizes.sizes 1) (omega arith)

pub catch_up-requires : goal.catch_up-requires
catch_up-requires g c = record {
  group = group_of c.in_ok-sizes.sizes 1;
  own = 1;
  taken = [] ++ c.in_ok-ping-2.field-0 ∷ [];
  known = ([] ++ parts c.in_ok-ping.field-0) ++ parts c.in_ok-ping-2.field-0;
  past = no_past;
  said = [];
  knows = c.in_ok-hear.ensures (group_of c.in_ok-sizes.sizes 1) 1 [] ([] ++ parts c.in_ok-ping.field-0) no_past []
      (c.in_ok-recall.ensures (group_of c.in_ok-sizes.sizes 1) 1 [] [] no_past [] c.new-knowledge.ensures);
}
