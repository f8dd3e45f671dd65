-- An order that is told other facts in place of what is known gives the same answers.
use Rattle.std.proofs.Common.{◌≡◌, ℕ, Bool, true, false, cond, ◌&&◌, List, [], ◌∷◌, ◌++◌, Option, Some, None, length}
use Rattle.std.proofs.Common.{take, map, filter, nat_eq, nat_le, refl, sym, ◌∙◌, ap, subst, inl, inr, append-nil}
use Rattle.std.proofs.Common.{append_assoc, eqb-true}
use Rattle.std.specs.List.{list_any, find, filter_map}
use Rattle.std.specs.Option.{option_map}
use Rattle.std.specs.Str.{bytes_eq}
use Rattle.std.proofs.Math.Path.{fun_ext}
use Rattle.std.proofs.lemmas.Bool.{and_parts, and_from, eq-eqb, true≢false}
use Rattle.std.proofs.lemmas.Grind.{flat_map-append}
use Rattle.std.proofs.lemmas.List.Elements.{filter-append}
use Rattle.plain_lists.specs.Lists.{IsIn, here, there}
use Rattle.plain_lists.proofs.Members.{any_in}
use Rattle.message_types.specs.declared.signed.Signed.{Signed}
use Rattle.message_types.specs.declared.ordering.Prepare.{Prepare}
use Rattle.message_types.specs.declared.ordering.Commit.{Commit}
use Rattle.message_types.specs.declared.ordering.Certificate.{Certificate}
use Rattle.message_types.specs.declared.reconciling.GiveOrdered.{GiveOrdered}
use Rattle.message_types.specs.declared.views.Plan.{Plan}
use Rattle.message_types.specs.declared.body.Body.{Body}
use Rattle.message_types.specs.declared.body.Body.TheVariants as body
use Rattle.message_types.specs.Digests.{digest_of_rows}
use Rattle.quorum_sets.specs.Masters.{numbers_below}
use Rattle.protocol_rules.specs.declared.facts.OrderFact.{OrderFact}
use Rattle.protocol_rules.specs.declared.facts.OrderFact.TheVariants as fact
use Rattle.protocol_rules.specs.Words.{or_else, first_met, first_of_list, greatest_of}
use Rattle.protocol_rules.specs.Group.{Group}
use Rattle.protocol_rules.specs.Facts.{tells, facts_of, rows_in, rows_known}
use Rattle.protocol_rules.specs.Order.{prepare_by, commit_by, first_votes, is_voted, quorum_of, prepared, ordered}
use Rattle.protocol_rules.specs.Order.{commit_views, is_committed, certificate_of, certificate_at}
use Rattle.protocol_rules.specs.Reconcile.{committed_views}
use Rattle.global_order.specs.Giving.{last_view, whole_order, given_order}
use Rattle.global_order.proofs.Booleans.{find-append}
use Rattle.play_words.specs.declared.words.Item.{Item}
use Rattle.intruder_words.specs.declared.asked.Asked.{Asked}
use Rattle.intruder_words.specs.declared.asked.Asked.TheVariants as asked
use Rattle.intruder_words.specs.Telling.{is_item, asks, asks_prepare, asks_commit, HasSameRows, IsBlock, IsToldFor}
use Rattle.intruder_words.specs.Telling.{rows_passing, GoesBy, IsAlike}
use Rattle.intruder_words.specs.Speaking.{all_of, certificate_known, certificates_known}
use Rattle.protocol_rules.proofs.FirstMet.{or_else-assoc, met-again}
use Rattle.plain_lists.proofs.Lists.{filter_map-filter}

rows_more : (a b : List OrderFact) → rows_known (a ++ b) ≡ rows_known a ++ rows_known b
unfolding rows_known
rows_more a b = flat_map-append rows_in a b

pub same-append : (xs ys more others : List (List (List ℕ))) → HasSameRows xs ys → HasSameRows more others →
    HasSameRows (xs ++ more) (ys ++ others)
same-append xs ys more others first second = λ test.
    let p : List (List ℕ) → Bool = λ rows. test (digest_of_rows rows) in
    find-append p xs more ∙ ap (λ o. or_else o (find p more)) (first test) ∙ ap (or_else (find p ys)) (second test)
    ∙ sym (find-append p ys others)

-- a test of votes comes out the same where the votes asked for are the same
test-same : (q : Asked) (test : List OrderFact → List ℕ → Bool) → GoesBy q test → (a b : List OrderFact) →
    filter (asks q) a ≡ filter (asks q) b → (d : List ℕ) → test a d ≡ test b d
test-same q test goes a b votes d = sym (goes a d) ∙ ap (λ fs. test fs d) votes ∙ goes b d

passing-same : (q : Asked) (test : List OrderFact → List ℕ → Bool) → GoesBy q test → (a b : List OrderFact) →
    filter (asks q) a ≡ filter (asks q) b → HasSameRows (rows_known a) (rows_known b) →
    rows_passing test a ≡ rows_passing test b
passing-same q test goes a b votes rows =
    ap (λ (t : List ℕ → Bool). find (λ r. t (digest_of_rows r)) (rows_known a))
    (fun_ext (test-same q test goes a b votes)) ∙ rows (test b)

-- an answer stays where no votes asked for come in
stays : (q : Asked) (test : List OrderFact → List ℕ → Bool) → GoesBy q test → (seen xs : List OrderFact) →
    filter (asks q) xs ≡ [] → (r : List (List ℕ)) → rows_passing test seen ≡ Some r →
    rows_passing test (seen ++ xs) ≡ Some r
stays q test goes seen xs none r early =
    let votes : filter (asks q) (seen ++ xs) ≡ filter (asks q) seen = filter-append (asks q) seen xs
    ∙ ap (λ fs. filter (asks q) seen ++ fs) none ∙ append-nil (filter (asks q) seen) in
    let p : List (List ℕ) → Bool = λ rows. test seen (digest_of_rows rows) in
    ap (λ (t : List ℕ → Bool). find (λ rows. t (digest_of_rows rows)) (rows_known (seen ++ xs)))
    (fun_ext (test-same q test goes (seen ++ xs) seen votes))
    ∙ ap (find p) (rows_more seen xs) ∙ find-append p (rows_known seen) (rows_known xs)
    ∙ ap (λ o. or_else o (find p (rows_known xs))) early

first-here : {F X : Type 0} (met : List F → Option X) (seen rest : List F) (r : X) → met seen ≡ Some r →
    first_met met seen rest ≡ Some r
unfolding first_met
first-here met seen [] r early = early
first-here met seen (x ∷ rest) r early = ap (λ o. or_else o (first_met met (seen ++ x ∷ []) rest)) early

-- what was met at a beginning and stays is what is met from there on
settled : {F X : Type 0} (met : List F → Option X) (early late rest : List F) →
    ((r : X) → met early ≡ Some r → met late ≡ Some r) →
    or_else (met early) (first_met met late rest) ≡ first_met met late rest
settled {F} {X} met early late rest keeps = by (met early) refl
  where
    by : (o : Option X) → met early ≡ o → or_else o (first_met met late rest) ≡ first_met met late rest
    by None e = refl
    by (Some r) e = sym (first-here met late rest r (keeps r e))

none-first : (q : Asked) (x : OrderFact) (xs : List OrderFact) (b : Bool) → asks q x ≡ b →
    cond b (x ∷ filter (asks q) xs) (filter (asks q) xs) ≡ [] → (filter (asks q) (x ∷ []) ≡ [])
    × (filter (asks q) xs ≡ [])
none-first q x xs true is none = absurd (cc)
none-first q x xs false is none = (ap (λ (b : Bool). cond b (x ∷ []) []) is, none)

-- between facts without votes asked for no answer can come that isn't there at their end
quiet : (q : Asked) (test : List OrderFact → List ℕ → Bool) → GoesBy q test → (xs : List OrderFact) →
    filter (asks q) xs ≡ [] → (seen rest : List OrderFact)
    → first_met (rows_passing test) seen (xs ++ rest) ≡ or_else (rows_passing test seen)
    (first_met (rows_passing test) (seen ++ xs) rest)
unfolding first_met
quiet q test goes [] none seen rest =
    sym (met-again (rows_passing test) seen rest)
    ∙ ap (λ fs. or_else (rows_passing test seen) (first_met (rows_passing test) fs rest)) (sym (append-nil seen))
quiet q test goes (x ∷ xs) none seen rest =
    let parts = none-first q x xs (asks q x) refl none in
    let joined : (seen ++ x ∷ []) ++ xs ≡ seen ++ x ∷ xs = append_assoc seen (x ∷ []) xs in
    ap (or_else (rows_passing test seen)) (
    quiet q test goes xs parts.1 (seen ++ x ∷ []) rest
    ∙ settled (rows_passing test) (seen ++ x ∷ []) ((seen ++ x ∷ []) ++ xs) rest
    (stays q test goes (seen ++ x ∷ []) xs parts.1)
    ∙ ap (λ fs. first_met (rows_passing test) fs rest) joined)

alone : {F X : Type 0} (met : List F → Option X) (x : F) (xs : List F) → xs ≡ x ∷ [] → (seen rest : List F) →
    first_met met seen (xs ++ rest) ≡ or_else (met seen) (first_met met (seen ++ xs) rest)
unfolding first_met
alone {F} met x xs e seen rest =
    subst (λ (zs : List F). first_met met seen (zs ++ rest) ≡ or_else (met seen) (first_met met (seen ++ zs) rest))
    (sym e) refl

block-met : (q : Asked) (test : List OrderFact → List ℕ → Bool) → GoesBy q test → (xs : List OrderFact) →
    IsBlock q xs → (seen rest : List OrderFact)
    → first_met (rows_passing test) seen (xs ++ rest) ≡ or_else (rows_passing test seen)
    (first_met (rows_passing test) (seen ++ xs) rest)
block-met q test goes xs (inl none) seen rest = quiet q test goes xs none seen rest
block-met q test goes xs (inr one) seen rest = alone (rows_passing test) one.0 xs one.1 seen rest

-- a block at the end
block-last : (q : Asked) (test : List OrderFact → List ℕ → Bool) → GoesBy q test → (xs : List OrderFact) →
    IsBlock q xs → (facts seen : List OrderFact)
    → first_met (rows_passing test) seen (facts ++ xs) ≡ or_else (first_met (rows_passing test) seen facts)
    (rows_passing test (seen ++ (facts ++ xs)))
unfolding first_met
block-last q test goes xs block [] seen = ap (first_met (rows_passing test) seen) (sym (append-nil xs))
    ∙ block-met q test goes xs block seen []
block-last q test goes xs block (x ∷ facts) seen =
    ap (or_else (rows_passing test seen)) (block-last q test goes xs block facts (seen ++ x ∷ []))
    ∙ sym (or_else-assoc (rows_passing test seen) (first_met (rows_passing test) (seen ++ x ∷ []) facts)
    (rows_passing test ((seen ++ x ∷ []) ++ (facts ++ xs))))
    ∙ ap (λ fs. or_else (or_else (rows_passing test seen) (first_met (rows_passing test) (seen ++ x ∷ []) facts))
    (rows_passing test fs)) (append_assoc seen (x ∷ []) (facts ++ xs))

-- facts told one block after another
pub alike-more : (q : Asked) (told facts more tells : List OrderFact) → IsAlike q told facts →
    IsToldFor q more tells → IsBlock q tells → IsAlike q (told ++ more) (facts ++ tells)
alike-more q told facts more tells alike now block =
    let votes : filter (asks q) (told ++ more) ≡ filter (asks q) (facts ++ tells) =
    filter-append (asks q) told more ∙ ap (λ fs. fs ++ filter (asks q) more) alike.votes
    ∙ ap (λ fs. filter (asks q) facts ++ fs) now.votes ∙ sym (filter-append (asks q) facts tells) in
    let rows : HasSameRows (rows_known (told ++ more)) (rows_known (facts ++ tells)) = λ test.
    ap (find (λ r. test (digest_of_rows r))) (rows_more told more) ∙ same-append (rows_known told) (rows_known facts)
    (rows_known more) (rows_known tells) alike.rows now.rows test
    ∙ ap (find (λ r. test (digest_of_rows r))) (sym (rows_more facts tells)) in
    record {
      votes = votes;
      rows = rows;
      first = λ test goes.
          block-last q test goes more now.block told []
          ∙ ap (λ o. or_else o (rows_passing test (told ++ more))) (alike.first test goes)
          ∙ ap (or_else (first_met (rows_passing test) [] facts))
          (passing-same q test goes (told ++ more) (facts ++ tells) votes rows)
          ∙ sym (block-last q test goes tells block facts []);
    }

pub alike-none : (q : Asked) (g : Group) → IsAlike q [] (facts_of g [])
unfolding facts_of
alike-none q g = record { votes = refl; rows = λ test. refl; first = λ test goes. refl }

-- what one frame tells is a block

unasked_rows : {X : Type 0} (q : Asked) (f : X → List (List ℕ)) (xs : List X) →
    filter (asks q) (map (λ x. fact.Rows (f x)) xs) ≡ []
unasked_rows q f [] = refl
unasked_rows q f (x ∷ xs) = unasked_rows q f xs

tells-by : (q : Asked) (g : Group) (signer : ℕ) (b : Body) (sig : List ℕ) →
    IsBlock q (tells g record { signer = signer; body = b; sig = sig })
tells-by q g signer (body.PrePrepare b) sig = inr (_, refl)
tells-by q g signer (body.Prepare b) sig = inr (_, refl)
tells-by q g signer (body.Commit b) sig = inr (_, refl)
tells-by q g signer (body.Mark b) sig = inr (_, refl)
tells-by q g signer (body.Report b) sig = inl (unasked_rows q (λ (c : Certificate). c.rows) b.certificates)
tells-by q g signer (body.GiveOrdered b) sig = inr (_, refl)
tells-by q g signer (body.NewView b) sig = inr (_, refl)
tells-by q g signer _ sig = inl refl

pub tells-block : (q : Asked) (g : Group) (f : Signed Body) → IsBlock q (tells g f)
tells-block q g f = tells-by q g f.signer f.body f.sig

-- facts told as they are
pub told-itself : (q : Asked) (facts : List OrderFact) → IsBlock q facts → IsToldFor q facts facts
told-itself q facts block = record { votes = refl; rows = λ test. refl; block = block }

pub told-nothing : (q : Asked) (facts : List OrderFact) → filter (asks q) facts ≡ [] →
    rows_known facts ≡ [] → IsToldFor q [] facts
unfolding rows_known
told-nothing q facts votes rows =
    record { votes = sym votes; rows = λ test. ap (find (λ r. test (digest_of_rows r))) (sym rows); block = inl refl }

-- a vote that is asked for, and one that isn't
pub asked-prepare : (q : Asked) (f : Signed Prepare) → IsToldFor q (fact.Prepare f ∷ []) (fact.Prepare f ∷ [])
asked-prepare q f = told-itself q (fact.Prepare f ∷ []) (inr (fact.Prepare f, refl))

pub unasked-prepare : (q : Asked) (f : Signed Prepare) → asks_prepare q f.body.s f.body.v ≡ false →
    IsToldFor q [] (fact.Prepare f ∷ [])
unfolding rows_known
unasked-prepare q f unasked =
    told-nothing q (fact.Prepare f ∷ []) (ap (λ (b : Bool). cond b (fact.Prepare f ∷ []) []) unasked) refl

pub asked-commit : (q : Asked) (f : Signed Commit) → IsToldFor q (fact.Commit f ∷ []) (fact.Commit f ∷ [])
asked-commit q f = told-itself q (fact.Commit f ∷ []) (inr (fact.Commit f, refl))

pub unasked-commit : (q : Asked) (f : Signed Commit) → asks_commit q f.body.s ≡ false →
    IsToldFor q [] (fact.Commit f ∷ [])
unfolding rows_known
unasked-commit q f unasked =
    told-nothing q (fact.Commit f ∷ []) (ap (λ (b : Bool). cond b (fact.Commit f ∷ []) []) unasked) refl

pub told-given : (q : Asked) (rows : List (List ℕ)) → IsToldFor q (fact.Rows rows ∷ []) (fact.Rows rows ∷ [])
told-given q rows = told-itself q (fact.Rows rows ∷ []) (inr (fact.Rows rows, refl))

-- the rows of a preprepare
pub told-proposal : (q : Asked) (v s : ℕ) (rows : List (List ℕ)) →
    IsToldFor q (fact.Rows rows ∷ []) (fact.Proposal v s rows ∷ [])
unfolding rows_known
told-proposal q v s rows = record { votes = refl; rows = λ test. refl; block = inr (fact.Rows rows, refl) }

rows-themselves : (all : List (List (List ℕ))) → rows_known (map fact.Rows all) ≡ all
unfolding rows_known
rows-themselves [] = refl
rows-themselves (rows ∷ all) = ap (λ rs. rows ∷ rs) (rows-themselves all)

rows-of-plan : (v : ℕ) (plan : Plan) → rows_known (fact.Plan v plan ∷ []) ≡ plan.rows
unfolding rows_known
rows-of-plan v plan = append-nil plan.rows

-- the rows of a plan
pub told-plan : (q : Asked) (v : ℕ) (plan : Plan) (all : List (List (List ℕ))) → HasSameRows all plan.rows →
    IsToldFor q (map fact.Rows all) (fact.Plan v plan ∷ [])
told-plan q v plan all same = record {
  votes = unasked_rows q (λ r. r) all;
  rows = λ test. ap (find (λ r. test (digest_of_rows r))) (rows-themselves all) ∙ same test
      ∙ ap (find (λ r. test (digest_of_rows r))) (sym (rows-of-plan v plan));
  block = inl (unasked_rows q (λ r. r) all);
}

-- the answers

votes-few : {X : Type 0} (g : Group) (vote : ℕ → OrderFact → Option X) (p : OrderFact → Bool) →
    ((m : ℕ) (x : OrderFact) → p x ≡ false → vote m x ≡ None) → (facts : List OrderFact)
    → first_votes g vote (filter p facts) ≡ first_votes g vote facts
votes-few g vote p none facts =
    ap (λ h. filter_map h (numbers_below g.n))
    (fun_ext (λ m. ap first_of_list (filter_map-filter (vote m) p (none m) facts)))

voted-few : {X : Type 0} (g : Group) (vote : ℕ → OrderFact → Option X) (p : OrderFact → Bool) →
    ((m : ℕ) (x : OrderFact) → p x ≡ false → vote m x ≡ None) → (facts : List OrderFact)
    → is_voted g vote (filter p facts) ≡ is_voted g vote facts
unfolding is_voted
voted-few g vote p none facts = ap (λ vs. nat_le g.q (length vs)) (votes-few g vote p none facts)

quorum-same : {X : Type 0} (g : Group) (vote : ℕ → OrderFact → Option X) (p : OrderFact → Bool) →
    ((m : ℕ) (x : OrderFact) → p x ≡ false → vote m x ≡ None) → (a b : List OrderFact)
    → filter p a ≡ filter p b → quorum_of g vote a ≡ quorum_of g vote b
quorum-same g vote p none a b same =
    ap (take g.q) (sym (votes-few g vote p none a) ∙ ap (first_votes g vote) same ∙ votes-few g vote p none b)

unasked-vote : {X : Type 0} (v s w t : ℕ) (mine digests : Bool) (x : X) (items : List Item) →
    list_any (is_item s v) items ≡ true → list_any (is_item t w) items ≡ false
    → cond (((mine && nat_eq w v) && nat_eq t s) && digests) (Some x) None ≡ None
unasked-vote {X} v s w t mine digests x items among unasked = by (((mine && nat_eq w v) && nat_eq t s) && digests) refl
  where
    by : (b : Bool) → (((mine && nat_eq w v) && nat_eq t s) && digests) ≡ b → cond b (Some x) None ≡ None
    by false e = refl
    by true e =
        let first = (and_parts ((mine && nat_eq w v) && nat_eq t s) digests e).0 in
        let number : t ≡ s = eqb-true t s (and_parts (mine && nat_eq w v) (nat_eq t s) first).1 in
        let view : w ≡ v = eqb-true w v
        (and_parts mine (nat_eq w v) (and_parts (mine && nat_eq w v) (nat_eq t s) first).0).1 in
        absurd (true≢false (sym among ∙ ap (λ k. list_any (is_item k v) items) (sym number)
        ∙ ap (λ k. list_any (is_item t k) items) (sym view) ∙ unasked))

other-prepare : (v s : ℕ) (items : List Item) → list_any (is_item s v) items ≡ true →
    (digest : List ℕ) (m : ℕ) (x : OrderFact) → asks (asked.Prepares items) x ≡ false → prepare_by v s digest m x ≡ None
other-prepare v s items among digest m (fact.Prepare f) unasked =
    unasked-vote v s f.body.v f.body.s (nat_eq f.signer m) (bytes_eq f.body.digest digest) f items among unasked
other-prepare v s items among digest m _ unasked = refl

prepares-go : (g : Group) (v s : ℕ) (items : List Item) → list_any (is_item s v) items ≡ true →
    GoesBy (asked.Prepares items) (λ facts digest. is_voted g (prepare_by v s digest) facts)
prepares-go g v s items among facts digest = voted-few g (prepare_by v s digest) (asks (asked.Prepares items))
    (other-prepare v s items among digest) facts

certificate-with : ℕ → ℕ → List (List ℕ) → List (Signed Prepare) → Certificate
certificate-with s v rows prepares = record { s = s; v = v; rows = rows; prepares = prepares }

certificate-same : (g : Group) (items : List Item) (told facts : List OrderFact) →
    IsAlike (asked.Prepares items) told facts → (s v : ℕ) → list_any (is_item s v) items ≡ true
    → certificate_at g told s v ≡ certificate_at g facts s v
unfolding prepared certificate-with
certificate-same g items told facts alike s v among =
    ap (option_map (certificate_of g told s v)) (alike.first (λ fs digest. is_voted g (prepare_by v s digest) fs)
    (prepares-go g v s items among))
    ∙ ap (λ h. option_map h (prepared g facts v s)) (fun_ext (λ rows. ap (certificate-with s v rows)
    (quorum-same g (prepare_by v s (digest_of_rows rows)) (asks (asked.Prepares items))
    (other-prepare v s items among (digest_of_rows rows)) told facts alike.votes)))

pub item-there : (items : List Item) (item : Item) → IsIn item items → list_any (is_item item.s item.v) items ≡ true
item-there items item within =
    any_in (is_item item.s item.v) within
    (and_from (nat_eq item.s item.s) (nat_eq item.v item.v) (eq-eqb item.s item.s refl) (eq-eqb item.v item.v refl))

map-same : {X Y : Type 0} (f h : X → Y) (xs : List X) → ((x : X) → IsIn x xs → f x ≡ h x) → map f xs ≡ map h xs
map-same f h [] same = refl
map-same f h (x ∷ xs) same = ap (λ y. y ∷ map f xs) (same x (here xs))
    ∙ ap (λ ys. h x ∷ ys) (map-same f h xs (λ y k. same y (there x xs k)))

pub certificates-same : (g : Group) (items : List Item) (told facts : List OrderFact) →
    IsAlike (asked.Prepares items) told facts → certificates_known g told items ≡ certificates_known g facts items
certificates-same g items told facts alike =
    ap all_of (map-same (certificate_known g told) (certificate_known g facts) items
    (λ item k. certificate-same g items told facts alike item.s item.v (item-there items item k)))

-- a whole order

other-commit : (s : ℕ) (v : ℕ) (digest : List ℕ) (m : ℕ) (x : OrderFact) → asks (asked.Commits s) x ≡ false →
    commit_by v s digest m x ≡ None
other-commit s v digest m (fact.Commit f) unasked = by (nat_eq f.signer m) (nat_eq f.body.v v) (nat_eq f.body.s s)
    (bytes_eq f.body.digest digest) unasked
  where
    by : (a b c d : Bool) → c ≡ false → cond (((a && b) && c) && d) (Some f) None ≡ None
    by true true false d e = refl
    by true false c d e = refl
    by false b c d e = refl
    by true true true d e = absurd (true≢false e)
other-commit s v digest m _ unasked = refl

view-of : ℕ → List ℕ → OrderFact → Option ℕ
view-of s digest f = elim f [
  | fact.Commit c ↦ cond (nat_eq c.body.s s && bytes_eq c.body.digest digest)
      (Some c.body.v) None
  | _ ↦ None
]

unasked-view : (s : ℕ) (digest : List ℕ) (x : OrderFact) → asks (asked.Commits s) x ≡ false → view-of s digest x ≡ None
unfolding view-of
unasked-view s digest (fact.Commit f) unasked =
    ap (λ b. cond (b && bytes_eq f.body.digest digest) (Some f.body.v) None) unasked
unasked-view s digest _ unasked = refl

views-few : (s : ℕ) (digest : List ℕ) (facts : List OrderFact) → commit_views (filter (asks (asked.Commits s)) facts)
    s digest ≡ commit_views facts s digest
unfolding view-of
views-few s digest facts = filter_map-filter (view-of s digest) (asks (asked.Commits s)) (unasked-view s digest) facts

views-same : (s : ℕ) (digest : List ℕ) (a b : List OrderFact) →
    filter (asks (asked.Commits s)) a ≡ filter (asks (asked.Commits s)) b →
    commit_views a s digest ≡ commit_views b s digest
views-same s digest a b same = sym (views-few s digest a) ∙ ap (λ fs. commit_views fs s digest) same
    ∙ views-few s digest b

commits-go : (g : Group) (s : ℕ) → GoesBy (asked.Commits s) (λ facts digest. is_committed g facts s digest)
commits-go g s facts digest =
    ap (list_any (λ v. is_voted g (commit_by v s digest) (filter (asks (asked.Commits s)) facts)))
    (views-few s digest facts)
    ∙ ap (λ t. list_any t (commit_views facts s digest))
    (fun_ext (λ v. voted-few g (commit_by v s digest) (asks (asked.Commits s)) (other-commit s v digest) facts))

voted-same : (g : Group) (s v : ℕ) (digest : List ℕ) (a b : List OrderFact) →
    filter (asks (asked.Commits s)) a ≡ filter (asks (asked.Commits s)) b →
    is_voted g (commit_by v s digest) a ≡ is_voted g (commit_by v s digest) b
voted-same g s v digest a b same =
    sym (voted-few g (commit_by v s digest) (asks (asked.Commits s)) (other-commit s v digest) a)
    ∙ ap (is_voted g (commit_by v s digest)) same
    ∙ voted-few g (commit_by v s digest) (asks (asked.Commits s)) (other-commit s v digest) b

last-same : (g : Group) (s : ℕ) (digest : List ℕ) (a b : List OrderFact) →
    filter (asks (asked.Commits s)) a ≡ filter (asks (asked.Commits s)) b →
    committed_views g a s digest ≡ committed_views g b s digest
last-same g s digest a b same =
    ap (filter (λ v. is_voted g (commit_by v s digest) a)) (views-same s digest a b same)
    ∙ ap (λ t. filter t (commit_views b s digest)) (fun_ext (λ v. voted-same g s v digest a b same))

order-with : ℕ → List (List ℕ) → ℕ → List (Signed Commit) → GiveOrdered
order-with s rows v commits = record { s = s; v = v; rows = rows; commits = commits }

whole-same : (g : Group) (s : ℕ) (a b : List OrderFact) →
    filter (asks (asked.Commits s)) a ≡ filter (asks (asked.Commits s)) b → (rows : List (List ℕ)) →
    whole_order g a s rows ≡ whole_order g b s rows
unfolding order-with
whole-same g s a b same rows =
    ap (λ v. order-with s rows v (quorum_of g (commit_by v s (digest_of_rows rows)) a))
    (ap greatest_of (last-same g s (digest_of_rows rows) a b same))
    ∙ ap (order-with s rows (last_view g b s (digest_of_rows rows)))
    (quorum-same g (commit_by (last_view g b s (digest_of_rows rows)) s (digest_of_rows rows))
    (asks (asked.Commits s)) (other-commit s (last_view g b s (digest_of_rows rows)) (digest_of_rows rows))
    a b same)

pub order-same : (g : Group) (s : ℕ) (told facts : List OrderFact) → IsAlike (asked.Commits s) told facts →
    given_order g told s ≡ given_order g facts s
unfolding ordered
order-same g s told facts alike =
    ap (option_map (whole_order g told s)) (alike.first (λ fs digest. is_committed g fs s digest) (commits-go g s))
    ∙ ap (λ h. option_map h (ordered g facts s)) (fun_ext (whole-same g s told facts alike.votes))

-- the rows of a report's certificates
pub told-certificates : (q : Asked) (cs : List Certificate) →
    IsToldFor q (map (λ c. fact.Rows c.rows) cs) (map (λ c. fact.Rows c.rows) cs)
told-certificates q cs = told-itself q (map (λ c. fact.Rows c.rows) cs)
    (inl (unasked_rows q (λ (c : Certificate). c.rows) cs))
