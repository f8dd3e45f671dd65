-- A quorum's words that correct masters know, each to some of them, are backed by what correct masters said.
use Rattle.std.proofs.Common.{◌≡◌, ℕ, ◌≤◌, true, List, Option, Some, length, ◌∙◌, ap, subst, arith}
use Rattle.std.proofs.lemmas.Bool.{leb-true}
use Rattle.std.specs.List.{filter_map}
use Rattle.std.specs.Option.{is_some}
use Rattle.plain_lists.specs.Lists.{IsIn, Begins}
use Rattle.plain_lists.proofs.Members.{in_filter_map_from}
use Rattle.protocol_rules.proofs.FirstMet.{first_in}
use Rattle.quorum_sets.specs.Masters.{numbers_below, voters}
use Rattle.message_types.specs.declared.signed.Signed.{Signed}
use Rattle.message_types.specs.declared.body.Body.{Body}
use Rattle.message_types.specs.declared.body.Body.TheVariants as body
use Rattle.protocol_rules.specs.declared.facts.OrderFact.{OrderFact}
use Rattle.protocol_rules.specs.declared.facts.OrderFact.TheVariants as fact
use Rattle.protocol_rules.specs.Words.{first_of_list}
use Rattle.protocol_rules.specs.Facts.{facts_of}
use Rattle.protocol_rules.specs.Order.{first_votes, is_voted, prepare_by, commit_by}
use Rattle.history_rules.specs.Events.{Entry}
use Rattle.history_rules.specs.Setup.{Setup, is_correct_master}
use Rattle.agreement.specs.Laws.{IsSound, known_by, IsQuorumKnown, VotesAreKnown}
use Rattle.agreement.proofs.KnownAsItGrows.{learned_by}
use Rattle.agreement.proofs.FramesInside.{fact_from, prepare_by_from, commit_by_from}
use Rattle.agreement.proofs.SaidOnce.{IsBacked, said_of, length-filter_map, some_from, prepare_same, commit_same}
use Rattle.agreement.proofs.RequestsAgree.{known_in}

-- what correct masters know in a correct master's name, that master said
pub quorum_backed : (w : Setup) (history : List Entry) → IsSound w history → (b : Body) → IsQuorumKnown w history b →
    IsBacked w history (λ x. x ≡ b)
quorum_backed w history sound b quorum = record {
  test = quorum.masters;
  enough = quorum.enough;
  said = λ m lt has right.
      let word = quorum.known m lt has in (
        word.part.body,
        said_of w history word.master sound word.correct (learned_by w history word.master) (λ p h. h) word.part m
            (known_in w history word.upto word.master word.begins word.part word.among) word.by right,
        word.word,
      );
}

-- the votes of a quorum that one correct master knows
votes_known : {X : Type 0} (w : Setup) (history upto : List Entry) (i : ℕ) (b : Body) (vote : ℕ → OrderFact →
    Option X) → Begins upto history → is_correct_master w i ≡ true
    → ((m : ℕ) (x : X) (f : OrderFact) → IsIn f (facts_of w.group (known_by w upto i)) → vote m f ≡ Some x →
    (p : Signed Body) × IsIn p (known_by w upto i) × (p.signer ≡ m) × (p.body ≡ b))
    → is_voted w.group vote (facts_of w.group (known_by w upto i)) ≡ true → IsQuorumKnown w history b
unfolding is_voted
votes_known w history upto i b vote begins correct each voted =
    let facts : List OrderFact = facts_of w.group (known_by w upto i) in
    let enough : w.group.q ≤ length (first_votes w.group vote (facts_of w.group (known_by w upto i))) =
    leb-true w.group.q (length (first_votes w.group vote (facts_of w.group (known_by w upto i)))) voted in
    let same : length (first_votes w.group vote (facts_of w.group (known_by w upto i))) ≡ length
    (voters (λ m. is_some (first_of_list (filter_map (vote m) (facts_of w.group (known_by w upto i))))) w.group.n) =
    length-filter_map (λ m. first_of_list (filter_map (vote m) (facts_of w.group (known_by w upto i))))
    (numbers_below w.group.n) in
    record {
      masters = λ m. is_some (first_of_list (filter_map (vote m) (facts_of w.group (known_by w upto i))));
      enough = omega arith;
      known = λ m lt some.
          let first = some_from (first_of_list (filter_map (vote m) facts)) some in
          let found = in_filter_map_from (vote m) facts (first_in (filter_map (vote m) facts) first.1) in
          let word = each m first.0 found.0 found.1 found.2 in
          record {
            upto = upto;
            begins = begins;
            master = i;
            correct = correct;
            part = word.0;
            among = word.1;
            by = word.2;
            word = word.3;
          };
    }

pub votes_are_known : VotesAreKnown
votes_are_known w history upto i begins correct v s digest = (
  votes_known w history upto i (body.Prepare record { v = v; s = s; digest = digest }) (prepare_by v s digest)
      begins correct (λ m x f h e.
      let is = prepare_by_from v s digest m f x e in
      let told = fact_from w.group (known_by w upto i) (fact.Prepare x)
      (subst (λ (z : OrderFact). IsIn z (facts_of w.group (known_by w upto i))) is.0 h) in (
        told.0,
        told.1,
        ap (λ (p : Signed Body). p.signer) told.2 ∙ is.1,
        ap (λ (p : Signed Body). p.body) told.2
            ∙ prepare_same x.body v s digest is.2 is.3 is.4,
      )),
  votes_known w history upto i (body.Commit record { v = v; s = s; digest = digest }) (commit_by v s digest)
      begins correct (λ m x f h e.
      let is = commit_by_from v s digest m f x e in
      let told = fact_from w.group (known_by w upto i) (fact.Commit x)
      (subst (λ (z : OrderFact). IsIn z (facts_of w.group (known_by w upto i))) is.0 h) in (
        told.0,
        told.1,
        ap (λ (p : Signed Body). p.signer) told.2 ∙ is.1,
        ap (λ (p : Signed Body). p.body) told.2
            ∙ commit_same x.body v s digest is.2 is.3 is.4,
      )),
)
