-- What one word more certifies.
use Rattle.std.proofs.Common.{◌≡◌, ℕ, ◌<◌, Bool, true, false, cond, ◌&&◌, List, [], ◌∷◌, ◌++◌, Option, Some, None}
use Rattle.std.proofs.Common.{nat_eq, refl, sym, ◌∙◌, ap, subst}
use Rattle.std.specs.List.{list_all}
use Rattle.plain_lists.specs.Lists.{here, there}
use Rattle.plain_lists.proofs.Members.{none_some, in_filter_map_from, all_at}
use Rattle.message_types.specs.declared.signed.Signed.{Signed}
use Rattle.message_types.specs.declared.updates.Update.{Update}
use Rattle.message_types.specs.declared.preordering.PoRequest.{PoRequest}
use Rattle.message_types.specs.declared.preordering.PoAck.{PoAck}
use Rattle.message_types.specs.declared.body.Body.{Body}
use Rattle.message_types.specs.declared.body.Body.TheVariants as body
use Rattle.message_types.specs.Parts.{as_frame}
use Rattle.protocol_rules.specs.Words.{or_else}
use Rattle.protocol_rules.specs.Group.{Group}
use Rattle.protocol_rules.specs.Preorder.{certified, update_requested}
use Rattle.protocol_rules.specs.Places.{in_place}
use Rattle.protocol_rules.specs.Execution.{Request}
use Rattle.protocol_rules.specs.Master.{certified_requests}
use Rattle.preorder.specs.Composed.{is_preordering}
use Rattle.preorder.specs.Index.{CertifiesAt}
use Rattle.preorder.proofs.Certified.{certifies-request, certifies-ack}
use Rattle.preorder.proofs.Composed.{certified-passed}
use Rattle.protocol_rules.specs.Keys.{same_pair}
use Rattle.execution.specs.Ran.{Ran, IsRunOf, with_certificate}
use Rattle.agreement.proofs.RequestsAgree.{certified_from}
use Rattle.agreement.proofs.SpokenByKind.{if_some}
use Rattle.master_knowledge.specs.Whole.{is_whole}
use Rattle.master_knowledge.specs.Knows.{HasClients}
use Rattle.master_knowledge.specs.Certifying.{IsCertifiedAt}
use Rattle.master_knowledge.proofs.Whole.{client_there}
use Rattle.agreement.proofs.VouchedIsOrdered.{certified_stays}
use Rattle.protocol_rules.proofs.Keys.{same_pair-same}

-- the update of a request that is whole is of a client that is there
requested_there : (g : Group) (j k signer : ℕ) (word : Body) (sig : List ℕ) (u : Update) →
    update_requested j k record { signer = signer; body = word; sig = sig } ≡ Some u
    → is_whole g record { signer = signer; body = word; sig = sig } ≡ true → u.client < g.clients
requested_there g j k signer (body.PoRequest b) sig u e whole =
    subst (λ (z : Update). z.client < g.clients) (if_some (nat_eq signer j && nat_eq b.k k) e).1
    (client_there g b.update (all_at (in_place g)
    (there record { signer = signer; body = body.PoRequest b; sig = sig } (as_frame body.Update b.update ∷ [])
    (here [])) whole))
requested_there g j k signer _ sig u e whole = absurd (none_some e)

pub has_clients : (g : Group) (known : List (Signed Body)) → list_all (is_whole g) known ≡ true → HasClients g known
has_clients g known whole j k u e =
    let from = certified_from g known j k u e in
    let request = in_filter_map_from (update_requested j k) from.0 from.2 in
    requested_there g j k request.0.signer request.0.body request.0.sig u request.2
    (all_at (is_whole g) (from.1 request.0 request.1) whole)

-- a step that certifies at one request alone
at_one : (g : Group) (known after : List (Signed Body)) (j k : ℕ) (candidate held : Option Update) →
    CertifiesAt g known after j k candidate
    → ((i h : ℕ) (u : Update) → certified g known i h ≡ Some u → certified g after i h ≡ Some u) →
    held ≡ certified g after j k
    → IsCertifiedAt j k held (certified_requests g known) (certified_requests g after)
at_one g known after j k candidate held certifies stays is = record {
  at = λ r. by r (same_pair (j, k) (r.j, r.k)) refl;
  stays = λ r u e. stays r.j r.k u e;
}
  where
    by : (r : Request) (b : Bool) → same_pair (j, k) (r.j, r.k) ≡ b →
        certified g after r.j r.k ≡ cond b held (certified g known r.j r.k)
    by r true e = ap (λ (key : ℕ × ℕ). certified g after key.0 key.1) (sym (same_pair-same (j, k) (r.j, r.k) e))
        ∙ sym is
    by r false e = certifies r.j r.k
        ∙ ap (λ b. cond b (or_else (certified g known r.j r.k) candidate) (certified g known r.j r.k)) e

pub request_certifies : (g : Group) (known : List (Signed Body)) (x : Signed PoRequest) (held : Option Update) →
    held ≡ certified g (known ++ as_frame body.PoRequest x ∷ []) x.signer x.body.k
    → IsCertifiedAt x.signer x.body.k held (certified_requests g known)
    (certified_requests g (known ++ as_frame body.PoRequest x ∷ []))
request_certifies g known x held is = at_one g known (known ++ as_frame body.PoRequest x ∷ []) x.signer x.body.k _
    held (certifies-request g known x _ refl) (certified_stays g known (as_frame body.PoRequest x ∷ [])) is

pub ack_certifies : (g : Group) (known : List (Signed Body)) (x : Signed PoAck) (held : Option Update) →
    held ≡ certified g (known ++ as_frame body.PoAck x ∷ []) x.body.j x.body.k
    → IsCertifiedAt x.body.j x.body.k held (certified_requests g known)
    (certified_requests g (known ++ as_frame body.PoAck x ∷ []))
ack_certifies g known x held is = at_one g known (known ++ as_frame body.PoAck x ∷ []) x.body.j x.body.k _ held
    (certifies-ack g known x _ refl) (certified_stays g known (as_frame body.PoAck x ∷ [])) is

-- a word of another kind certifies nothing
pub other_certifies : (g : Group) (known : List (Signed Body)) (f : Signed Body) → is_preordering f ≡ false →
    (r : Request) → certified_requests g (known ++ f ∷ []) r ≡ certified_requests g known r
other_certifies g known f other r = certified-passed g known f other r.j r.k

-- the run with the certificate is that of all certificates now
pub run_certified : (g : Group) (m : Ran) (j k : ℕ) (u : Update) (before now : Request → Option Update)
    (runs : List (List (List ℕ))) → IsCertifiedAt j k (Some u) before now
    → IsRunOf g m (with_certificate before j k u) runs → IsRunOf g m now runs
run_certified g m j k u before now runs at run =
    record {
      group = run.group;
      numbers = run.numbers;
      reached = run.reached;
      requests = run.requests;
      certificates =
          λ r. run.certificates r ∙ by r (before r) refl;
    }
  where
    by : (r : Request) (o : Option Update) → before r ≡ o → with_certificate before j k u r ≡ now r
    by r (Some v) e = ap (λ (o : Option Update). or_else o (cond (same_pair (j, k) (r.j, r.k)) (Some u) None)) e
        ∙ sym (at.stays r v e)
    by r None e = ap (λ (o : Option Update). or_else o (cond (same_pair (j, k) (r.j, r.k)) (Some u) None)) e
        ∙ ap (cond (same_pair (j, k) (r.j, r.k)) (Some u)) (sym e) ∙ sym (at.at r)

pub run_same : (g : Group) (m : Ran) (before now : Request → Option Update) (runs : List (List (List ℕ))) →
    ((r : Request) → now r ≡ before r) → IsRunOf g m before runs → IsRunOf g m now runs
run_same g m before now runs same run = record {
  group = run.group;
  numbers = run.numbers;
  reached = run.reached;
  requests = run.requests;
  certificates = λ r. run.certificates r ∙ sym (same r);
}

-- nothing is certified here, and so nothing new
pub none_certified : (j k : ℕ) (before now : Request → Option Update) → IsCertifiedAt j k None before now →
    (r : Request) → now r ≡ before r
none_certified j k before now at r = by (before r) refl
  where
    none : (b : Bool) → cond b (let nothing : Option Update = None in nothing) None ≡ None
    none true = refl
    none false = refl

    by : (o : Option Update) → before r ≡ o → now r ≡ o
    by (Some v) e = at.stays r v e
    by None e = at.at r ∙ ap (cond (same_pair (j, k) (r.j, r.k)) None) e ∙ none (same_pair (j, k) (r.j, r.k))
