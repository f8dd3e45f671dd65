-- What all connected masters prepared, or committed, each of them knows a round later to be prepared, or committed, by a
-- quorum.
use Rattle.std.proofs.Common.{◌≡◌, ℕ, ◌≤◌, Bool, true, cond, ◌&&◌, List, [], ◌++◌}
use Rattle.std.proofs.Common.{Option, Some, None, is_some, nat_eq, length, refl, sym, ap, subst, inl, inr}
use Rattle.std.proofs.Common.{◌⊎◌, arith}
use Rattle.std.proofs.lemmas.Bool.{and_from, cases_eq, eq-eqb, ne_eqb, not_from_false, le-leb}
use Rattle.std.proofs.lemmas.Slice.Eq.{bytes_eq-Decides}
use Rattle.std.specs.List.{filter_map}
use Rattle.std.specs.Str.{bytes_eq}
use Rattle.plain_lists.specs.Lists.{IsIn, here}
use Rattle.plain_lists.proofs.Members.{in_flat_map, in_filter_map}
use Rattle.protocol_rules.proofs.FirstMet.{first_there}
use Rattle.quorum_sets.specs.Masters.{numbers_below, voters}
use Rattle.message_types.specs.declared.signed.Signed.{Signed}
use Rattle.message_types.specs.declared.ordering.Prepare.{Prepare}
use Rattle.message_types.specs.declared.ordering.Commit.{Commit}
use Rattle.message_types.specs.declared.body.Body.{Body}
use Rattle.message_types.specs.declared.body.Body.TheVariants as body
use Rattle.protocol_rules.specs.declared.facts.OrderFact.{OrderFact}
use Rattle.protocol_rules.specs.declared.facts.OrderFact.TheVariants as fact
use Rattle.protocol_rules.specs.Words.{first_of_list}
use Rattle.protocol_rules.specs.Group.{Group}
use Rattle.protocol_rules.specs.Facts.{tells, facts_of}
use Rattle.protocol_rules.specs.Order.{prepare_by, commit_by, first_votes, is_voted}
use Rattle.agreement.specs.Laws.{known_by}
use Rattle.agreement.proofs.SaidOnce.{length-filter_map}
use Rattle.agreement.proofs.QuorumsStay.{filter_more}
use Rattle.progress.specs.Rounds.{goes_to}
use Rattle.progress.specs.Laws.{KnowsWord, PreparesArrive, CommitsArrive}
use Rattle.progress.proofs.Arriving.{words_arrive}

-- a prepare or a commit goes to every other master
prepare_sent : (g : Group) (m i : ℕ) (b : Prepare) → (m ≡ i) ⊎ (goes_to g i (body.Prepare b) m ≡ true)
prepare_sent g m i b = elim (cases_eq m i) [
  | inl same ↦ inl same
  | inr apart ↦ inr (not_from_false (nat_eq m i) (ne_eqb m i apart))
]

pub commit_sent : (g : Group) (m i : ℕ) (b : Commit) → (m ≡ i) ⊎ (goes_to g i (body.Commit b) m ≡ true)
commit_sent g m i b = elim (cases_eq m i) [
  | inl same ↦ inl same
  | inr apart ↦ inr (not_from_false (nat_eq m i) (ne_eqb m i apart))
]

pub self_bytes : (xs : List ℕ) → bytes_eq xs xs ≡ true
self_bytes xs = (bytes_eq-Decides xs xs).1 refl

-- what a prepare or a commit that is known tells
told_prepare : (g : Group) (known : List (Signed Body)) (p : Signed Body) (b : Prepare) → IsIn p known →
    p.body ≡ body.Prepare b → IsIn (fact.Prepare record { signer = p.signer; body = b; sig = p.sig }) (facts_of g known)
unfolding facts_of
told_prepare g known p b among is = in_flat_map (tells g) among (by p.signer p.body p.sig is)
  where
    by : (signer : ℕ) (word : Body) (sig : List ℕ) → word ≡ body.Prepare b →
        IsIn (fact.Prepare record { signer = signer; body = b; sig = sig })
        (tells g record { signer = signer; body = word; sig = sig })
    by signer word sig is = subst (λ (x : Body). IsIn (fact.Prepare record { signer = signer; body = b; sig = sig })
        (tells g record { signer = signer; body = x; sig = sig })) (sym is) (here [])

pub told_commit : (g : Group) (known : List (Signed Body)) (p : Signed Body) (b : Commit) → IsIn p known →
    p.body ≡ body.Commit b → IsIn (fact.Commit record { signer = p.signer; body = b; sig = p.sig }) (facts_of g known)
unfolding facts_of
told_commit g known p b among is = in_flat_map (tells g) among (by p.signer p.body p.sig is)
  where
    by : (signer : ℕ) (word : Body) (sig : List ℕ) → word ≡ body.Commit b →
        IsIn (fact.Commit record { signer = signer; body = b; sig = sig })
        (tells g record { signer = signer; body = word; sig = sig })
    by signer word sig is = subst (λ (x : Body). IsIn (fact.Commit record { signer = signer; body = b; sig = sig })
        (tells g record { signer = signer; body = x; sig = sig })) (sym is) (here [])

pub votes_for : (signer i v s : ℕ) (digest : List ℕ) → signer ≡ i →
    (nat_eq signer i && nat_eq v v && nat_eq s s && bytes_eq digest digest) ≡ true
votes_for signer i v s digest by =
    and_from (nat_eq signer i && nat_eq v v && nat_eq s s) (bytes_eq digest digest)
    (and_from (nat_eq signer i && nat_eq v v) (nat_eq s s)
    (and_from (nat_eq signer i) (nat_eq v v) (eq-eqb signer i by) (eq-eqb v v refl)) (eq-eqb s s refl))
    (self_bytes digest)

-- where each of a quorum has a vote, there is a quorum of votes
pub voted_by : {X : Type 0} (g : Group) (connected : ℕ → Bool) (vote : ℕ → OrderFact → Option X) (facts : List OrderFact) →
    g.q ≤ length (voters connected g.n)
    → ((i : ℕ) → connected i ≡ true → is_some (first_of_list (filter_map (vote i) facts)) ≡ true)
    → is_voted g vote facts ≡ true
unfolding is_voted
voted_by g connected vote facts enough each =
    let same : length (first_votes g vote facts) ≡ length
    (voters (λ m. is_some (first_of_list (filter_map (vote m) facts))) g.n) =
    length-filter_map (λ m. first_of_list (filter_map (vote m) facts)) (numbers_below g.n) in
    let more : length (voters connected g.n) ≤ length
    (voters (λ m. is_some (first_of_list (filter_map (vote m) facts))) g.n) =
    filter_more connected (λ m. is_some (first_of_list (filter_map (vote m) facts))) each (numbers_below g.n) in
    le-leb g.q (length (first_votes g vote facts)) (omega arith)

pub prepares_arrive : PreparesArrive
prepares_arrive w connected beginning round legal are fair v s digest said m is_m =
    let known : List (Signed Body) = known_by w (beginning ++ round) m in
    let word : Prepare = record { v = v; s = s; digest = digest } in
    voted_by w.group connected (prepare_by v s digest) (facts_of w.group known) are.enough (λ i is_i.
    let knows : KnowsWord known i (body.Prepare word) = words_arrive w connected beginning round legal are fair i m is_i is_m
    (body.Prepare word) (said i is_i) (prepare_sent w.group m i word) in
    let vote : Signed Prepare = record { signer = knows.part.signer; body = word; sig = knows.part.sig } in
    let first = first_there (in_filter_map (prepare_by v s digest i)
    (told_prepare w.group known knows.part word knows.among knows.word)
    (ap (λ (b : Bool). cond b (Some vote) None) (votes_for knows.part.signer i v s digest knows.by))) in
    ap is_some first.1)

pub commits_arrive : CommitsArrive
commits_arrive w connected beginning round legal are fair v s digest said m is_m =
    let known : List (Signed Body) = known_by w (beginning ++ round) m in
    let word : Commit = record { v = v; s = s; digest = digest } in
    voted_by w.group connected (commit_by v s digest) (facts_of w.group known) are.enough (λ i is_i.
    let knows : KnowsWord known i (body.Commit word) = words_arrive w connected beginning round legal are fair i m is_i is_m
    (body.Commit word) (said i is_i) (commit_sent w.group m i word) in
    let vote : Signed Commit = record { signer = knows.part.signer; body = word; sig = knows.part.sig } in
    let first = first_there (in_filter_map (commit_by v s digest i)
    (told_commit w.group known knows.part word knows.among knows.word)
    (ap (λ (b : Bool). cond b (Some vote) None) (votes_for knows.part.signer i v s digest knows.by))) in
    ap is_some first.1)
